-- An ISDU request as it is laid out: heading, address, data, check octet. It tells what a frame is, not how one is read
-- or written.
use Rattle.std.specs.Prelude.{◌≡◌, ℕ, ◌<◌, ◌≤◌, Bool, true, false, List, [], ◌∷◌, ◌++◌, length, Ok, Err, Result}
use Rattle.faults.specs.declared.Fault.{Fault}
use Rattle.isdu.specs.declared.Direction.{Direction}
use Rattle.isdu.specs.declared.Direction.TheVariants.{Read, Write}
use Rattle.isdu.specs.declared.services.Addressing.{Addressing}
use Rattle.isdu.specs.declared.services.Addressing.TheVariants.{Index8, Index8Sub, Index16Sub}
use Rattle.isdu.specs.Requests.{Asked}
use Rattle.isdu.specs.CheckOctet.{exclusive_or}
use Rattle.isdu.specs.Services.{service_digit}
use Rattle.isdu.specs.Addresses.{address_octets}
use Rattle.isdu.specs.Decoding.{most_in_digit, least_in_octet, most_in_octet}
use Rattle.isdu.specs.Composing.{heading}

-- a length of 2 to 15 stands in the first octet, one of 17 to 238 in the second; none is 16
abbrev pub Lengths : Bool → ℕ → Type 0
Lengths false total = (2 ≤ total) × (total ≤ most_in_digit)
Lengths true total = (least_in_octet ≤ total) × (total ≤ most_in_octet)

-- the index and subindex that an addressing can give
abbrev pub Addresses : Addressing → ℕ → ℕ → Type 0
Addresses Index8 index subindex = (index < 256) × (subindex ≡ 0)
Addresses Index8Sub index subindex = index < 256
Addresses Index16Sub index subindex = index < 65536

-- a write carries an octet or more; a read carries none, and has no second length octet
abbrev pub Carries : Direction → Bool → List ℕ → Type 0
Carries Write second octets = 1 ≤ length octets
Carries Read second octets = (length octets ≡ 0) × (second ≡ false)

-- the octets of a frame that asks for a request
pub record Laid (frame : List ℕ) (asked : Asked) : Type 0 where
  pub addressing : Addressing
  -- whether there is a second length octet
  pub second : Bool
  -- the check octet
  pub check : ℕ
  pub whole :
      frame
      ≡ heading second (service_digit asked.direction addressing) (length frame)
      ++ (address_octets addressing asked.index asked.subindex ++ (asked.octets ++ (check ∷ [])))
  pub lengths : Lengths second (length frame)
  pub addresses : Addresses addressing asked.index asked.subindex
  pub carries : Carries asked.direction second asked.octets
  pub balanced : exclusive_or frame ≡ 0

-- what is decoded is the one request that the frame is laid out for; a frame is denied only if it is laid out for none
abbrev pub Judged : Result Asked Fault → List ℕ → Type 0
Judged (Ok asked) frame = Laid frame asked × ((other : Asked) → Laid frame other → other ≡ asked)
Judged (Err denied) frame = (asked : Asked) → Laid frame asked → ⊥
