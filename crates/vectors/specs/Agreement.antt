-- When the rules for frames and a line of the vectors say the same.
use Rattle.std.specs.Prelude.{◌≡◌, ℕ, List, Ok, Err, vec_items}
use Rattle.faults.specs.declared.Fault.{Fault}
use Rattle.faults.specs.Denials.{entry}
use Rattle.isdu.specs.Requests.{Asked}
use Rattle.isdu.specs.Decoding.{decoded}
use Rattle.isdu.specs.Composing.{frame_of}
use Rattle.vectors.specs.declared.lines.Expected.{Expected}
use Rattle.vectors.specs.declared.lines.Outcome.{Outcome}
use Rattle.vectors.specs.declared.lines.Outcome.TheVariants.{Denied, Asks}
use Rattle.vectors.specs.declared.lines.Vector.{Vector}

-- the request that a line tells of
abbrev pub wanted : Expected → Asked
wanted line = record {
  direction = line.direction;
  index = line.index;
  subindex = line.subindex;
  octets = vec_items line.«data»;
}

-- the request composes as the octets that the line gives for its shortest frame
abbrev pub Composes : Expected → Type 0
Composes line = frame_of (wanted line) ≡ vec_items line.shortest

-- the octets decode, or are denied, as the line says
abbrev pub Decodes : List ℕ → Outcome → Type 0
Decodes octets (Denied number) = (f : Fault) × (decoded octets ≡ Err f) × ((entry f.denial).number ≡ number)
Decodes octets (Asks line) = (decoded octets ≡ Ok (wanted line)) × Composes line

abbrev pub Agrees : Vector → Type 0
Agrees line = Decodes (vec_items line.octets) line.outcome
