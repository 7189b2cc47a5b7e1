-- What a lent buffer holds after octets were written to it.
use Rattle.std.specs.Prelude.{ℕ, Bool, cond, List, ◌++◌, length, drop, Some, None, Ok, Err, Option, Result, nat_le}

-- the buffer with the octets over its front: what lies past them stays
abbrev pub over : List ℕ → List ℕ → List ℕ
over octets buffer = octets ++ drop (length octets) buffer

-- whether the octets have room in the buffer
abbrev pub room : List ℕ → List ℕ → Bool
room octets buffer = nat_le (length octets) (length buffer)

-- how many octets go into the buffer: all of them, or none for want of room
abbrev pub fitting : List ℕ → List ℕ → Option ℕ
fitting octets buffer = cond (room octets buffer) (Some (length octets)) None

-- the buffer after that
abbrev pub placed : List ℕ → List ℕ → List ℕ
placed octets buffer = cond (room octets buffer) (over octets buffer) buffer

-- the buffer after a call that writes the octets when it is accepted and nothing when it is denied
abbrev pub left : {A E : Type 0} → Result A E → List ℕ → List ℕ → List ℕ
left (Ok n) octets buffer = over octets buffer
left (Err e) octets buffer = buffer
