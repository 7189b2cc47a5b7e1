-- The calls of a sensor, each with its octets, ticket and buffer length; what they ask for, do and answer.
use Rattle.std.specs.Prelude.{ℕ, List}
use Rattle.faults.specs.declared.Fault.{Fault}
use Rattle.faults.specs.declared.Place.{Place}
use Rattle.channels.specs.declared.reading.Reading.{Reading}
use Rattle.teach.specs.Machine.{Moved}
use Rattle.objects.specs.declared.access.Shown.{Shown}
use Rattle.objects.specs.Writes.{Setting}
use Rattle.sensor.specs.declared.device.Device.{Device}
use Rattle.sensor.specs.declared.setup.Setup.{Setup}

pub data Call : Type 0 where
  -- what a sensor is set up from, with the octets of its range
  set_up : Setup (List ℕ) → Call
  -- the octets of a reading, and the length of the buffer
  sample : Reading (List ℕ) → ℕ → Call
  -- a frame, and the length of the response buffer
  request : List ℕ → ℕ → Call
  open_keypad : Call
  -- the serial number that the ticket bears, channel, setpoint, octets
  write_keypad : ℕ → ℕ → ℕ → List ℕ → Call
  -- the serial number that the ticket bears
  close_keypad : ℕ → Call
  restart : Call

-- what a call asks for, once it has passed every check but those of commands and openings, which look at the state of
-- the teach
pub data Order (V : Type 0) : Type 0 where
  -- the device that a set-up gives
  to_start : Device V → Order V
  to_sample : Reading V → Order V
  to_show : Shown → Order V
  -- a channel
  to_select : ℕ → Order V
  -- the code of a command, and the place that its denial would tell
  to_command : Place → ℕ → Order V
  -- settings of a channel, from the bus or the keypad
  to_write : ℕ → List (Setting V) → Order V
  to_open to_close to_restart : Order V

-- what an accepted call does
pub data Act (V : Type 0) : Type 0 where
  -- puts this device in place of what the sensor held
  starts : Device V → Act V
  -- judges every channel by the reading, then takes the teach on
  samples : Reading V → Moved V → Act V
  -- shows octets, and changes nothing
  shows : List ℕ → Act V
  selects : ℕ → Act V
  -- takes the teach on
  commands : Moved V → Act V
  writes : ℕ → List (Setting V) → Act V
  opens closes restarts : Act V

-- what a call answers: the octets that it writes, a ticket with its serial number, or its fault with the octets of a
-- negative response
pub data Reply : Type 0 where
  accepted : List ℕ → Reply
  ticket : ℕ → Reply
  denied : Fault → List ℕ → Reply
