-- Keypad operations on a sensor: the checks of a write and of a closing. Those of an opening stand in Rules.
use Rattle.std.specs.Prelude.{ℕ, cond, not, List, Ok, Err, Result, ◌==◌}
use Rattle.faults.specs.declared.Fault.{Fault}
use Rattle.faults.specs.declared.Denial.TheVariants.{NoSetpoint}
use Rattle.faults.specs.Denials.{fault, no_object, then}
use Rattle.keypad.specs.Operations.{ticket_checked}
use Rattle.kinds.specs.Meaning.{Meaning}
use Rattle.channels.specs.declared.table.Table.{Table}
use Rattle.channels.specs.Table.{has_channel}
use Rattle.teach.specs.declared.command.Setpoint.{Setpoint}
use Rattle.teach.specs.declared.command.Setpoint.TheVariants.{Sp1, Sp2}
use Rattle.teach.specs.declared.teaching.Store.{Store}
use Rattle.objects.specs.declared.part.Part.TheVariants as Part
use Rattle.objects.specs.Parts.{number}
use Rattle.objects.specs.Writes.{setpoint_checked}
use Rattle.sensor.specs.declared.device.Device.{Device}
use Rattle.sensor.specs.Calls.{Order, to_write, to_close}
use Rattle.sensor.specs.Devices.{store_settings}

-- 26: no such setpoint; SP1 and SP2 have the numbers of their subindices
abbrev pub setpoint_named : ℕ → Result Setpoint Fault
setpoint_named n = cond (n == number Part.Sp1) (Ok Sp1) (cond (n == number Part.Sp2) (Ok Sp2) (Err (fault NoSetpoint)))

module _ {V : Type 0} where
  -- 26: no such channel; channels are 1 to the count
  abbrev pub setpoint_found : Table V → ℕ → ℕ → Result Setpoint Fault
  setpoint_found t k n = cond (not (has_channel t k)) (Err (fault NoSetpoint)) (setpoint_named n)

  -- a closing: 24 and 25
  abbrev pub close_asked : Device V → ℕ → Result (Order V) Fault
  close_asked d serial = then (ticket_checked d.keypad serial) (λ _. Ok to_close)

module _ {V : Type 0} (m : Meaning V) where
  -- the checks of a write: 24, 25, 26, then 17, 18 and 19 as for a setpoint of a request, but no object is concerned
  abbrev pub keypad_checked : Device V → ℕ → ℕ → ℕ → List ℕ → Result (Store V) Fault
  keypad_checked d serial k n octets =
      then (ticket_checked d.keypad serial) (λ _.
      then (setpoint_found d.channels k n) (λ sp.
      then (setpoint_checked m d.range no_object octets) (λ v.
      Ok (record { setpoint = sp; value = v }))))

  abbrev pub keypad_asked : Device V → ℕ → ℕ → ℕ → List ℕ → Result (Order V) Fault
  keypad_asked d serial k n octets =
      then (keypad_checked d serial k n octets) (λ s. Ok (to_write k (store_settings s)))
