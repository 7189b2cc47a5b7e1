-- The frame of a service and its content, and the shortest frame of a request.
use Rattle.std.specs.Prelude.{ℕ, ◌+◌, ◌*◌, Bool, true, false, cond, List, [], ◌∷◌, ◌++◌, length}
use Rattle.std.specs.Prelude.{Ok, Err, Result, nat_lt}
use Rattle.faults.specs.declared.Fault.{Fault}
use Rattle.faults.specs.declared.Denial.TheVariants.{NoFrame, BufferTooShort}
use Rattle.faults.specs.Denials.{fault}
use Rattle.isdu.specs.declared.services.Addressing.{Addressing}
use Rattle.isdu.specs.Requests.{Asked}
use Rattle.isdu.specs.CheckOctet.{with_check}
use Rattle.isdu.specs.Services.{service_digit}
use Rattle.isdu.specs.Addresses.{address_octets, shortest_addressing}
use Rattle.isdu.specs.Decoding.{fits_service, most_in_digit, most_in_octet, second_follows}

-- the service in the high digit of the first octet, and the total length: in the low digit, or in a second octet
abbrev pub heading : Bool → ℕ → ℕ → List ℕ
heading false digit total = (16 * digit + total) ∷ []
heading true digit total = (16 * digit + second_follows) ∷ total ∷ []

-- the length of a frame with so many octets of content and no second length octet: a first octet and a check octet
-- beside them
abbrev pub short_length : ℕ → ℕ
short_length content = content + 2

-- a frame that would be longer than the digit can tell has a second length octet
abbrev pub takes_second : ℕ → Bool
takes_second content = nat_lt most_in_digit (short_length content)

-- the length of the shortest frame with so many octets of content
abbrev pub total_length : ℕ → ℕ
total_length content = cond (takes_second content) (short_length content + 1) (short_length content)

-- the heading of that frame
abbrev pub shortest_heading : ℕ → ℕ → List ℕ
shortest_heading digit content = heading (takes_second content) digit (total_length content)

-- how many octets of a frame of that length go into a buffer: all of them, unless no frame is so long or the room is
-- too short
abbrev pub delivered : ℕ → ℕ → Result ℕ Fault
delivered total room =
    cond (nat_lt most_in_octet total) (Err (fault NoFrame))
    (cond (nat_lt room total) (Err (fault BufferTooShort))
    (Ok total))

-- the shortest frame of a service: heading, content, check octet
abbrev pub framed : ℕ → List ℕ → List ℕ
framed digit content = with_check (shortest_heading digit (length content) ++ content)

abbrev pub addressing_of : Asked → Addressing
addressing_of asked = shortest_addressing asked.index asked.subindex

-- index, subindex and data
abbrev pub request_content : Asked → List ℕ
request_content asked = address_octets (addressing_of asked) asked.index asked.subindex ++ asked.octets

-- the shortest frame of a request
abbrev pub frame_of : Asked → List ℕ
frame_of asked = framed (service_digit asked.direction (addressing_of asked)) (request_content asked)

-- no frame holds a write without data or a read with data
abbrev pub composed : Asked → ℕ → Result ℕ Fault
composed asked room =
    cond (fits_service asked.direction false asked.octets) (delivered (length (frame_of asked)) room)
    (Err (fault NoFrame))
