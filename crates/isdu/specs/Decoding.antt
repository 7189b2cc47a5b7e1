-- What any octets ask for, or why they are denied.
use Rattle.std.specs.Prelude.{ℕ, ◌/◌, ◌%◌, Bool, cond, not, ◌&&◌, List, [], ◌∷◌, length, drop, Some, None, Ok, Err}
use Rattle.std.specs.Prelude.{Option, Result, ◌==◌, nat_eq, nat_le}
use Rattle.std.specs.Option.{option_eq}
use Rattle.faults.specs.declared.Fault.{Fault}
use Rattle.faults.specs.declared.Denial.TheVariants as Denial
use Rattle.faults.specs.declared.Denial.TheVariants.{FrameLength, CheckOctet}
use Rattle.faults.specs.Denials.{fault}
use Rattle.isdu.specs.declared.Direction.{Direction}
use Rattle.isdu.specs.declared.Direction.TheVariants.{Read, Write}
use Rattle.isdu.specs.declared.services.Service.{Service}
use Rattle.isdu.specs.Requests.{Asked}
use Rattle.isdu.specs.CheckOctet.{exclusive_or, before_check}
use Rattle.isdu.specs.Services.{service_of}
use Rattle.isdu.specs.Addresses.{address_of}

-- the first octet gives a length of 15 at most; a second length octet gives 17 to 238
abbrev pub most_in_digit : ℕ
most_in_digit = 15

abbrev pub least_in_octet : ℕ
least_in_octet = 17

abbrev pub most_in_octet : ℕ
most_in_octet = 238

-- the length in the second octet; any other octet is no length
abbrev pub second_length : List ℕ → Option ℕ
second_length [] = None
second_length (octet ∷ rest) = cond (nat_le least_in_octet octet && nat_le octet most_in_octet) (Some octet) None

-- the low digit of a first octet that sends on to a second length octet
abbrev pub second_follows : ℕ
second_follows = 1

-- whether the low digit of the first octet sends on to a second length octet
abbrev pub has_second : ℕ → Bool
has_second first = first % 16 == second_follows

-- the length that a frame states: its low digit, or the second octet where that digit is 1
abbrev pub stated_length : ℕ → List ℕ → Option ℕ
stated_length first rest = cond (has_second first) (second_length rest) (Some (first % 16))

-- what follows the length, of the octets after the first
abbrev pub past_length : Bool → List ℕ → List ℕ
past_length second rest = cond second (drop 1 rest) rest

-- a write has data; a read has none, and no second length octet
abbrev pub fits_service : Direction → Bool → List ℕ → Bool
fits_service Write second octets = not (length octets == 0)
fits_service Read second octets = length octets == 0 && not second

-- the request of a direction with index, subindex and data
abbrev pub asked_with : Direction → ℕ × ℕ × List ℕ → Asked
asked_with direction fields = record { direction = direction; index = fields.0; subindex = fields.1; octets = fields.2 }

-- the request of a direction with its fields, if they fit
abbrev pub request_with : Direction → Bool → Option (ℕ × ℕ × List ℕ) → Result Asked Fault
request_with direction second None = Err (fault Denial.Service)
request_with direction second (Some fields) =
    cond (fits_service direction second fields.2) (Ok (asked_with direction fields)) (Err (fault Denial.Service))

-- the request of a service whose fields are the octets between length and check octet
abbrev pub request_of : Option Service → Bool → List ℕ → Result Asked Fault
request_of None second body = Err (fault Denial.Service)
request_of (Some service) second body = request_with service.direction second (address_of service.addressing body)

-- the checks in their order: length, check octet, service and fields
abbrev pub decoded : List ℕ → Result Asked Fault
decoded [] = Err (fault FrameLength)
decoded (first ∷ rest) =
    cond (not (option_eq nat_eq (stated_length first rest) (Some (length (first ∷ rest))))) (Err (fault FrameLength))
    (cond (not (exclusive_or (first ∷ rest) == 0)) (Err (fault CheckOctet))
    (request_of (service_of (first / 16)) (has_second first) (before_check (past_length (has_second first) rest))))
