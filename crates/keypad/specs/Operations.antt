-- Keypad operations: the checks of an opening and of a ticket, what each leaves, and the ticket of an opening.
use Rattle.std.specs.Prelude.{ℕ, Bool, true, false, cond, not, Ok, Err, Result, ◌==◌}
use Rattle.faults.specs.declared.Fault.{Fault}
use Rattle.faults.specs.declared.Denial.TheVariants.{AlreadyOpen, TeachRunning, OtherSerial, NotOpen}
use Rattle.faults.specs.Denials.{fault, then}
use Rattle.keypad.specs.declared.Keypad.{Keypad}
use Rattle.keypad.specs.declared.Ticket.{Ticket}
use Rattle.keypad.specs.declared.Unclosed.{Unclosed}

-- the keypad of a sensor with a serial number; no operation is open
abbrev pub closed_keypad : ℕ → Keypad
closed_keypad n = record { serial = n; is_open = false }

-- after an opening an operation is open, after a closing none is
abbrev pub opened : Keypad → Keypad
opened k = record k { is_open = true }

abbrev pub closed : Keypad → Keypad
closed k = record k { is_open = false }

-- the ticket that an opening gives: it bears the serial number, and is not spent
abbrev pub ticket_of : ℕ → Ticket
ticket_of n = record { serial = n; spent = false }

-- the serial number that a ticket bears
abbrev pub serial_of : Ticket → ℕ
serial_of t = t.serial

-- only the serial number of a ticket is compared
abbrev pub bears : ℕ → ℕ → Bool
bears ticket n = n == ticket

-- an opening. 22: an operation is open already. 23: the teach is not idle
abbrev pub opening_checked : Keypad → Bool → Result (Unit {0}) Fault
opening_checked k idle =
    cond k.is_open (Err (fault AlreadyOpen))
    (cond (not idle) (Err (fault TeachRunning))
    (Ok tt))

-- a ticket. 24: it bears another serial number. 25: no operation is open
abbrev pub ticket_checked : Keypad → ℕ → Result (Unit {0}) Fault
ticket_checked k serial =
    cond (not (bears serial k.serial)) (Err (fault OtherSerial))
    (cond (not k.is_open) (Err (fault NotOpen))
    (Ok tt))

module _ {A : Type 0} where
  -- an accepted opening gives a ticket of the serial number
  abbrev pub ticketed : ℕ → Result A Fault → Result Ticket Fault
  ticketed n (Ok a) = Ok (ticket_of n)
  ticketed n (Err f) = Err f

  -- a closing that is denied hands its ticket back
  abbrev pub returned : Ticket → Result A Fault → Result (Unit {0}) Unclosed
  returned t (Ok a) = Ok tt
  returned t (Err f) = Err (record { fault = f; ticket = t })

  -- the keypad after an opening, and after a closing: a denied one changes nothing
  abbrev pub opened_by : Keypad → Result A Fault → Keypad
  opened_by k (Ok a) = opened k
  opened_by k (Err f) = k

  abbrev pub closed_by : Keypad → Result A Fault → Keypad
  closed_by k (Ok a) = closed k
  closed_by k (Err f) = k
