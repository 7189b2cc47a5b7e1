-- A frame that is no request is denied with no ErrorCode, so no response tells of it.
use Rattle.std.proofs.Common.{◌≡◌, ℕ, Bool, true, false, cond, not, ◌/◌, eqb, List, [], ◌∷◌, length, Some, None, Ok}
use Rattle.std.proofs.Common.{Err, Option, Result, refl}
use Rattle.std.specs.Option.{option_eq}
use Rattle.faults.specs.declared.Fault.{Fault}
use Rattle.faults.specs.declared.Denial.TheVariants as denials
use Rattle.faults.specs.declared.Denial.TheVariants.{CheckOctet, FrameLength}
use Rattle.faults.specs.Denials.{entry, fault}
use Rattle.isdu.specs.declared.Direction.{Direction}
use Rattle.isdu.specs.declared.services.Service.{Service}
use Rattle.isdu.specs.Addresses.{address_of}
use Rattle.isdu.specs.CheckOctet.{before_check, exclusive_or}
use Rattle.isdu.specs.Decoding.{asked_with, decoded, fits_service, has_second, past_length, request_of, request_with}
use Rattle.isdu.specs.Decoding.{stated_length}
use Rattle.isdu.specs.Requests.{Asked}
use Rattle.isdu.specs.Services.{service_of}

abbrev pub Unanswered : Result Asked Fault → Type 0
Unanswered (Ok a) = Unit {0}
Unanswered (Err f) = (entry f.denial).code ≡ None

fitting : (direction : Direction) (fields : ℕ × ℕ × List ℕ) (b : Bool)
    → Unanswered (cond b (Ok (asked_with direction fields)) (Err (fault denials.Service)))
fitting direction fields true = tt
fitting direction fields false = refl

with_fields : (direction : Direction) (second : Bool) (o : Option (ℕ × ℕ × List ℕ))
    → Unanswered (request_with direction second o)
with_fields direction second None = refl
with_fields direction second (Some fields) = fitting direction fields (fits_service direction second fields.2)

with_service : (o : Option Service) (second : Bool) (body : List ℕ) → Unanswered (request_of o second body)
with_service None second body = refl
with_service (Some s) second body = with_fields s.direction second (address_of s.addressing body)

tested : (a b : Bool) (r : Result Asked Fault) → Unanswered r
    → Unanswered (cond a (Err (fault FrameLength)) (cond b (Err (fault CheckOctet)) r))
tested true b r h = refl
tested false true r h = refl
tested false false r h = h

pub unanswered : (frame : List ℕ) → Unanswered (decoded frame)
unanswered [] = refl
unanswered (x ∷ xs) =
    let body = before_check (past_length (has_second x) xs) in
    tested (not (option_eq eqb (stated_length x xs) (Some (length (x ∷ xs))))) (not (eqb (exclusive_or (x ∷ xs)) 0))
    (request_of (service_of (x / 16)) (has_second x) body) (with_service (service_of (x / 16)) (has_second x) body)
