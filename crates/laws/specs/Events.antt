-- What the rules tell of a call: by what value it is judged, what it writes, and what comes of a teach.
use Rattle.std.specs.Prelude.{ℕ, Bool, true, false, ◌&&◌, ◌||◌, Some, None, Ok, Err, Option, Result, ◌==◌}
use Rattle.faults.specs.declared.Fault.{Fault}
use Rattle.kinds.specs.Meaning.{Meaning}
use Rattle.channels.specs.declared.reading.Reading.{Reading}
use Rattle.channels.specs.declared.reading.Reading.TheVariants.{Value}
use Rattle.channels.specs.declared.row.Row.{Row}
use Rattle.channels.specs.Table.{row_at}
use Rattle.teach.specs.Commands as Commands
use Rattle.teach.specs.declared.command.Command.{Command}
use Rattle.teach.specs.declared.machine.Verdict.{Verdict}
use Rattle.teach.specs.declared.machine.Verdict.TheVariants.{Open, Stores}
use Rattle.teach.specs.declared.teaching.Teach.{Teach}
use Rattle.teach.specs.Teaching.{idle, is_idle}
use Rattle.sensor.specs.declared.device.Device.{Device}
use Rattle.sensor.specs.declared.sensor.Sensor.{Sensor}
use Rattle.sensor.specs.Calls.{Act, Call, Order, to_command, starts, samples, commands, writes, restarts}
use Rattle.sensor.specs.Rules.{asked, checked}

module _ {V : Type 0} where
  -- ---- a sensor

  abbrev row_held : ℕ → Option (Device V) → Option (Row V)
  row_held k None = None
  row_held k (Some d) = row_at d.channels k

  -- the row of channel k; a blank sensor has none
  abbrev pub row_of : Sensor V → ℕ → Option (Row V)
  row_of s k = row_held k s.device

  abbrev teach_in : Option (Device V) → Teach V
  teach_in None = idle
  teach_in (Some d) = d.teach

  -- its teach; that of a blank sensor is idle
  abbrev pub teach_of : Sensor V → Teach V
  teach_of s = teach_in s.device

  abbrev selected_in : Option (Device V) → ℕ
  selected_in None = 0
  selected_in (Some d) = d.selected

  -- the selected channel; a blank sensor has none
  abbrev pub selected_of : Sensor V → ℕ
  selected_of s = selected_in s.device

  abbrev pub active_in : Option (Row V) → Bool
  active_in None = false
  active_in (Some r) = r.active

  -- channel k is active
  abbrev pub state_of : ℕ → Sensor V → Bool
  state_of k s = active_in (row_of s k)

  -- no teach runs
  abbrev pub resting : Sensor V → Bool
  resting s = is_idle (teach_of s).state

  -- ---- a call

  -- the call passes every check
  abbrev pub is_accepted : Result (Act V) Fault → Bool
  is_accepted (Ok a) = true
  is_accepted (Err f) = false

  abbrev pub value_in : Reading V → Option V
  value_in (Value v) = Some v
  value_in r = None

  abbrev pub value_by : Act V → Option V
  value_by (samples r x) = value_in r
  value_by a = None

  -- the value of an accepted sample, where it lies in the range
  abbrev pub value_of : Result (Act V) Fault → Option V
  value_of (Ok a) = value_by a
  value_of (Err f) = None

  abbrev pub verdict_by : Act V → Verdict V
  verdict_by (samples r x) = x.effect.verdict
  verdict_by (commands x) = x.effect.verdict
  verdict_by a = Open

  -- what comes of the teach in the call
  abbrev pub verdict_of : Result (Act V) Fault → Verdict V
  verdict_of (Ok a) = verdict_by a
  verdict_of (Err f) = Open

  abbrev pub is_stored : Verdict V → Bool
  is_stored (Stores sp v) = true
  is_stored v = false

  -- a teach stores a setpoint in the call
  abbrev pub stores : Result (Act V) Fault → Bool
  stores x = is_stored (verdict_of x)

  abbrev pub starts_over_by : Act V → Bool
  starts_over_by (starts e) = true
  starts_over_by restarts = true
  starts_over_by a = false

  -- the call is a warm restart, or an accepted set-up
  abbrev pub starts_over : Result (Act V) Fault → Bool
  starts_over (Ok a) = starts_over_by a
  starts_over (Err f) = false

  abbrev pub writes_by : ℕ → Act V → Bool
  writes_by k (writes j ss) = j == k
  writes_by k a = false

  -- the call is an accepted write of settings of channel k
  abbrev pub writes_to : ℕ → Result (Act V) Fault → Bool
  writes_to k (Ok a) = writes_by k a
  writes_to k (Err f) = false

  -- the call stores a setpoint of channel k: a teach is of the selected channel
  abbrev pub stores_to : ℕ → Sensor V → Result (Act V) Fault → Bool
  stores_to k s x = selected_of s == k && stores x

  -- the call touches the settings of channel k
  abbrev pub touches : ℕ → Sensor V → Result (Act V) Fault → Bool
  touches k s x = writes_to k x || stores_to k s x

  -- ---- a command

  -- the command that is asked for
  abbrev pub command_in : Result (Order V) Fault → Option Command
  command_in (Ok (to_command place code)) = Commands.command_of code
  command_in o = None

module _ {V : Type 0} (m : Meaning V) where
  -- the command of a call c that is judged to x
  abbrev pub command_by : Option (Device V) → Call → Result (Act V) Fault → Option Command
  command_by (Some d) c (Ok a) = command_in (asked m d c)
  command_by o c x = None

  -- the command that an accepted call gives; none for other calls
  abbrev pub accepted_command : Sensor V → Call → Option Command
  accepted_command s c = command_by s.device c (checked m s c)
