-- A sample: its checks in their order, what it feeds the teach, and process data.
use Rattle.std.specs.Prelude.{ℕ, cond, List, Some, None, Ok, Err, Option, Result, nat_lt}
use Rattle.faults.specs.declared.Fault.{Fault}
use Rattle.faults.specs.declared.Denial.TheVariants.{NoValue, BufferTooShort}
use Rattle.faults.specs.Denials.{fault}
use Rattle.kinds.specs.Meaning.{Meaning}
use Rattle.channels.specs.declared.reading.Reading.{Reading}
use Rattle.channels.specs.declared.reading.Reading.TheVariants.{Value, Below, Above, NoData}
use Rattle.channels.specs.Readings.{process_data, process_data_length, within}
use Rattle.channels.specs.Table.{judged_table, signals_octet}
use Rattle.teach.specs.declared.machine.Change.TheVariants.{Keep}
use Rattle.teach.specs.declared.machine.Verdict.TheVariants.{Open}
use Rattle.teach.specs.Machine.{Moved, fed, moved}
use Rattle.sensor.specs.declared.device.Device.{Device}
use Rattle.sensor.specs.Calls.{Order, to_sample}

module _ {V : Type 0} (m : Meaning V) where
  abbrev pub value_of : Option V → Option (Reading V)
  value_of None = None
  value_of (Some v) = Some (Value v)

  -- the reading that octets bring: none where they are no value
  abbrev pub reading_of : Reading (List ℕ) → Option (Reading V)
  reading_of (Value octets) = value_of (m.read octets)
  reading_of Below = Some Below
  reading_of Above = Some Above
  reading_of NoData = Some NoData

  -- 17: the octets are no value. 6: the buffer is too short. A value out of the range counts as Below or Above
  abbrev pub sample_asked : Device V → Option (Reading V) → ℕ → Result (Order V) Fault
  sample_asked d None room = Err (fault NoValue)
  sample_asked d (Some r) room =
      cond (nat_lt room (process_data_length m)) (Err (fault BufferTooShort))
      (Ok (to_sample (within m d.range.low d.range.high r)))

  -- a value feeds the teach; nothing else is captured or counted
  abbrev pub heard : Device V → Reading V → Moved V
  heard d (Value v) = fed m d.terms d.teach.state v
  heard d r = moved d.teach.state Keep Open

  -- process data: the reading, the scale, the signals that the judging left
  abbrev pub sample_data : Device V → Reading V → List ℕ
  sample_data d r = process_data m r d.scale (signals_octet (judged_table m r d.channels))
