-- What the calls and answers of the code stand for.
use Rattle.std.specs.Prelude.{ℕ, List, length, take, Some, None, Ok, Err, Option, Result, vec_items}
use Rattle.std.specs.Borrow.{Bor}
use Rattle.std.specs.Global.{Vec}
use Rattle.faults.specs.declared.Fault.{Fault}
use Rattle.faults.specs.Denials.{entry}
use Rattle.isdu.specs.declared.Direction.TheVariants.{Write}
use Rattle.channels.specs.declared.reading.Reading.{Reading}
use Rattle.channels.specs.declared.reading.Reading.TheVariants.{Value, Below, Above, NoData}
use Rattle.sensor.specs.declared.sensor.Sensor.{Sensor}
use Rattle.sensor.specs.declared.setup.Setup.{Setup}
use Rattle.sensor.specs.Calls as rules
use Rattle.sensor.specs.Lent.{lent_reading, lent_setup}
use Rattle.sensor.specs.Requests.{negative}
use Rattle.bench_sensor.specs.declared.bench.BenchSensor.{BenchSensor}
use Rattle.bench_sensor.specs.declared.call.Call.{Call}
use Rattle.bench_sensor.specs.declared.call.Call.TheVariants.{SetUp, Sample, Request, OpenKeypad, WriteKeypad, CloseKeypad}
use Rattle.bench_sensor.specs.declared.call.Call.TheVariants.{Restart}
use Rattle.bench_sensor.specs.declared.call.Line.{Line}
use Rattle.bench_sensor.specs.declared.call.Reply.{Reply}
use Rattle.bench_sensor.specs.declared.call.Reply.TheVariants.{Accepted, Ticket, Denied}

-- a call with lent octets, into a buffer of this length
abbrev pub called : Call (Bor (List ℕ)) → ℕ → rules.Call
called (SetUp setup) room = rules.set_up (lent_setup setup)
called (Sample reading) room = rules.sample (lent_reading reading) room
called (Request frame) room = rules.request frame.now room
called OpenKeypad room = rules.open_keypad
called (WriteKeypad serial channel setpoint octets) room = rules.write_keypad serial channel setpoint octets.now
called (CloseKeypad serial) room = rules.close_keypad serial
called Restart room = rules.restart

-- the octets of a reading and of a set-up that own them
abbrev pub octets_of : Reading (Vec ℕ) → Reading (List ℕ)
octets_of (Value octets) = Value (vec_items octets)
octets_of Below = Below
octets_of Above = Above
octets_of NoData = NoData

abbrev pub setup_of : Setup (Vec ℕ) → Setup (List ℕ)
setup_of g = record {
  serial = g.serial;
  channels = g.channels;
  scale = g.scale;
  terms = g.terms;
  range = record { low = vec_items g.range.low; high = vec_items g.range.high };
}

-- a call with octets of its own
abbrev pub owned : Call (Vec ℕ) → ℕ → rules.Call
owned (SetUp setup) room = rules.set_up (setup_of setup)
owned (Sample reading) room = rules.sample (octets_of reading) room
owned (Request frame) room = rules.request (vec_items frame) room
owned OpenKeypad room = rules.open_keypad
owned (WriteKeypad serial channel setpoint octets) room = rules.write_keypad serial channel setpoint (vec_items octets)
owned (CloseKeypad serial) room = rules.close_keypad serial
owned Restart room = rules.restart

-- a line of a run
abbrev pub call_of : Line → rules.Call
call_of line = owned line.call line.room

-- a reply by the number of the octets that were written to the front of the buffer
abbrev pub numbered : rules.Reply → Reply ℕ
numbered (rules.accepted octets) = Accepted (length octets)
numbered (rules.ticket serial) = Ticket serial
numbered (rules.denied fault octets) = Denied fault (length octets)

-- the reply of a call that writes nothing
abbrev pub plainly_told : Result (Unit {0}) Fault → Reply ℕ
plainly_told (Ok u) = Accepted 0
plainly_told (Err f) = Denied f 0

-- of one that writes where it is accepted
abbrev pub counted_told : Result ℕ Fault → Reply ℕ
counted_told (Ok n) = Accepted n
counted_told (Err f) = Denied f 0

-- how many octets the negative response of an ErrorCode has, of a write as of a read
abbrev pub refusal_length : Option ℕ → ℕ
refusal_length code = length (negative Write code)

-- of a request: a denial that has an ErrorCode writes a negative response
abbrev pub responded_told : Result ℕ Fault → Reply ℕ
responded_told (Ok n) = Accepted n
responded_told (Err f) = Denied f (refusal_length (entry f.denial).code)

-- with the octets of the buffer
abbrev pub read_from : List ℕ → Reply ℕ → rules.Reply
read_from buffer (Accepted n) = rules.accepted (take n buffer)
read_from buffer (Ticket serial) = rules.ticket serial
read_from buffer (Denied fault n) = rules.denied fault (take n buffer)

-- a reply with octets of its own
abbrev pub told : Reply (Vec ℕ) → rules.Reply
told (Accepted octets) = rules.accepted (vec_items octets)
told (Ticket serial) = rules.ticket serial
told (Denied fault octets) = rules.denied fault (vec_items octets)

module _ {V : Type 0} where
  -- the sensor on a bench
  abbrev pub sensor_of : BenchSensor V → Sensor V
  sensor_of b = b.sensor
