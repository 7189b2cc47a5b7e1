-- The ticket of an open keypad operation.
use Rattle.std.specs.Prelude.{◌≡◌, ℕ, cond, Some, None, Ok, Option}
use Rattle.keypad.specs.declared.Keypad.{Keypad}
use Rattle.keypad.specs.declared.Ticket.{Ticket}
use Rattle.keypad.specs.Operations.{ticket_checked, ticket_of}
use Rattle.sensor.specs.declared.device.Device.{Device}
use Rattle.sensor.specs.declared.sensor.Sensor.{Sensor}

module _ {V : Type 0} where
  abbrev pub due_from : Option (Device V) → Option Ticket
  due_from None = None
  due_from (Some d) = cond d.keypad.is_open (Some (ticket_of d.keypad.serial)) None

  -- the ticket that a sensor has given and that has not come back: one with its serial number while an operation is
  -- open
  abbrev pub due : Sensor V → Option Ticket
  due s = due_from s.device

-- a keypad takes a ticket of this serial number back
abbrev pub TakesBack : Keypad → ℕ → Type 0
TakesBack k serial = ticket_checked k serial ≡ Ok tt
