-- The rules of a sensor, call by call: the checks of each call in their order, what an accepted call does, and what
-- every call writes and answers.
use Rattle.std.specs.Prelude.{ℕ, Bool, true, false, cond, List, [], ◌∷◌, map, Some, None, Ok, Err, Option, Result}
use Rattle.faults.specs.declared.Fault.{Fault}
use Rattle.faults.specs.declared.Denial.TheVariants.{Blank}
use Rattle.faults.specs.Denials.{fault, then}
use Rattle.isdu.specs.Decoding.{decoded}
use Rattle.isdu.specs.Replies.{read_reply, write_reply}
use Rattle.isdu.specs.Requests.{Asked}
use Rattle.keypad.specs.Operations.{closed, opened, opening_checked}
use Rattle.kinds.specs.Meaning.{Meaning}
use Rattle.channels.specs.declared.row.Row.{Row}
use Rattle.channels.specs.Judging.{signal}
use Rattle.channels.specs.Table.{judged_table, present}
use Rattle.teach.specs.Teaching.{commanded, is_idle}
use Rattle.sensor.specs.declared.device.Device.{Device}
use Rattle.sensor.specs.declared.sensor.Sensor.{Sensor}
use Rattle.sensor.specs.Calls.{Call, set_up, sample, request, open_keypad, write_keypad, close_keypad, restart}
use Rattle.sensor.specs.Calls.{Order, to_start, to_sample, to_show, to_select, to_command, to_write, to_open, to_close}
use Rattle.sensor.specs.Calls.{to_restart}
use Rattle.sensor.specs.Calls.{Act, starts, samples, shows, selects, commands, writes, opens, closes, restarts}
use Rattle.sensor.specs.Calls.{Reply, accepted, ticket, denied}
use Rattle.sensor.specs.Devices.{with_settings_at, restarted, selecting, after_step, with_channels, with_keypad}
use Rattle.sensor.specs.Keypad.{close_asked, keypad_asked}
use Rattle.sensor.specs.Requests.{octets_shown, refused, request_asked}
use Rattle.sensor.specs.Samples.{heard, sample_data, reading_of, sample_asked}
use Rattle.sensor.specs.Setups.{set_up_checked}

module _ {V : Type 0} where
  -- ---- what a sensor shows

  abbrev open_in : Option (Device V) → Bool
  open_in None = false
  open_in (Some d) = d.keypad.is_open

  -- whether a keypad operation is open: never on a blank sensor
  abbrev pub keypad_open : Sensor V → Bool
  keypad_open s = open_in s.device

  abbrev serial_in : Option (Device V) → ℕ
  serial_in None = 0
  serial_in (Some d) = d.keypad.serial

  -- a sensor's serial number; 0 on a blank one, which has none
  abbrev pub serial : Sensor V → ℕ
  serial s = serial_in s.device

  -- a sensor that is not set up
  abbrev pub blank : Sensor V
  blank = record { device = None }

  abbrev rows_in : Option (Device V) → List (Row V)
  rows_in None = []
  rows_in (Some d) = present d.channels

  -- the channels of a sensor, channel 1 first: none on a blank sensor
  abbrev pub channels_of : Sensor V → List (Row V)
  channels_of s = rows_in s.device

  -- what a channel shows: its settings and its state, and its signal
  abbrev pub with_signal : Row V → Row V × Bool
  with_signal r = (r, signal r)

  -- ---- the response to a request

  -- to a request that is done: to a read what it shows, to a write 52 52
  abbrev pub request_granted : Act V → List ℕ
  request_granted (shows octets) = read_reply octets
  request_granted a = write_reply

  -- a fault writes nothing by itself
  abbrev pub granted_by : Result (Act V) Fault → List ℕ
  granted_by (Ok act) = request_granted act
  granted_by (Err f) = []

  -- a denied request has its negative response
  abbrev pub request_written : Result Asked Fault → Result (Act V) Fault → List ℕ
  request_written a (Ok act) = request_granted act
  request_written a (Err f) = refused a f

module _ {V : Type 0} (m : Meaning V) where
  -- ---- the checks

  -- the checks but for those of commands and of openings, which look at the state of the teach
  abbrev pub asked : Device V → Call → Result (Order V) Fault
  asked d (set_up g) = then (set_up_checked m d.keypad.is_open g) (λ e. Ok (to_start e))
  asked d (sample r room) = sample_asked m d (reading_of m r) room
  asked d (request frame room) = request_asked m d frame room
  asked d open_keypad = Ok to_open
  asked d (write_keypad serial k n octets) = keypad_asked m d serial k n octets
  asked d (close_keypad serial) = close_asked d serial
  asked d restart = Ok to_restart

  -- the checks of commands and openings, and what the call does
  abbrev pub performed : Device V → Order V → Result (Act V) Fault
  performed d (to_start e) = Ok (starts e)
  performed d (to_sample r) = Ok (samples r (heard m d r))
  performed d (to_show shown) = Ok (shows (octets_shown m d shown))
  performed d (to_select k) = Ok (selects k)
  -- 20: an unknown command. 21: it is not in the state's row, or Apply without both flags
  performed d (to_command place code) = then (commanded m d.terms place d.teach code) (λ x. Ok (commands x))
  performed d (to_write k ss) = Ok (writes k ss)
  -- 22: an operation is open already. 23: the teach is not idle
  performed d to_open = then (opening_checked d.keypad (is_idle d.teach.state)) (λ _. Ok opens)
  performed d to_close = Ok closes
  performed d to_restart = Ok restarts

  -- what an order comes to
  abbrev pub carried : Device V → Result (Order V) Fault → Result (Act V) Fault
  carried d o = then o (performed d)

  -- all checks of a call in their order: the first denial that applies, or what the call does. 5: a blank sensor takes
  -- a set-up alone
  abbrev pub checked_by : Option (Device V) → Call → Result (Act V) Fault
  checked_by (Some d) c = carried d (asked d c)
  checked_by None (set_up g) = then (set_up_checked m false g) (λ e. Ok (starts e))
  checked_by None c = Err (fault Blank)

  unfoldable pub checked : Sensor V → Call → Result (Act V) Fault
  checked s c = checked_by s.device c

  -- ---- the sensor afterwards

  abbrev pub done : Device V → Act V → Device V
  done d (starts e) = e
  done d (samples r x) = after_step (with_channels d (judged_table m r d.channels)) x
  done d (shows octets) = d
  done d (selects k) = selecting d k
  done d (commands x) = after_step d x
  done d (writes k ss) = with_channels d (with_settings_at d.channels k ss)
  done d opens = with_keypad d (opened d.keypad)
  done d closes = with_keypad d (closed d.keypad)
  done d restarts = restarted d

  -- a denied call changes nothing
  abbrev pub device_by : Device V → Result (Act V) Fault → Device V
  device_by d (Ok a) = done d a
  device_by d (Err f) = d

  -- a blank sensor takes a set-up alone
  abbrev pub next_by : Option (Device V) → Result (Act V) Fault → Option (Device V)
  next_by (Some d) x = Some (device_by d x)
  next_by None (Ok (starts e)) = Some e
  next_by None x = None

  abbrev pub next : Sensor V → Call → Sensor V
  next s c = record { device = next_by s.device (checked s c) }

  -- after a list of calls
  abbrev pub after : Sensor V → List Call → Sensor V
  after s [] = s
  after s (c ∷ cs) = after (next s c) cs

  -- ---- what a call writes

  -- an accepted sample writes process data; a denied one writes nothing
  abbrev pub sample_written : Device V → Result (Act V) Fault → List ℕ
  sample_written d (Ok (samples r x)) = sample_data m d r
  sample_written d x = []

  -- no other call writes, nor does a blank sensor
  abbrev pub written_by : Option (Device V) → Call → Result (Act V) Fault → List ℕ
  written_by (Some d) (sample r room) x = sample_written d x
  written_by (Some d) (request frame room) x = request_written (decoded frame) x
  written_by o c x = []

  -- the octets that a call writes to the front of its buffer
  abbrev pub written : Sensor V → Call → List ℕ
  written s c = written_by s.device c (checked s c)

  -- ---- what a call answers

  -- an opening gives a ticket with the sensor's serial number
  abbrev pub reply_by : ℕ → Call → List ℕ → Result (Act V) Fault → Reply
  reply_by n open_keypad octets (Ok a) = ticket n
  reply_by n c octets (Ok a) = accepted octets
  reply_by n c octets (Err f) = denied f octets

  abbrev pub reply : Sensor V → Call → Reply
  reply s c = reply_by (serial s) c (written s c) (checked s c)

-- a call's reply, and what every channel shows after it
pub record Entry (V : Type 0) : Type 0 where
  pub reply : Reply
  pub channels : List (Row V × Bool)

module _ {V : Type 0} (m : Meaning V) where
  abbrev pub entry_of : Sensor V → Call → Entry V
  entry_of s c = record { reply = reply m s c; channels = map with_signal (channels_of (next m s c)) }

  -- an entry for each call
  abbrev pub entries : Sensor V → List Call → List (Entry V)
  entries s [] = []
  entries s (c ∷ cs) = entry_of s c ∷ entries (next m s c) cs
