-- The device after an opening and after a closing.
use Rattle.std.proofs.Common.{◌≡◌, Ok, Err, Result, refl}
use Rattle.faults.specs.declared.Fault.{Fault}
use Rattle.faults.specs.Denials.{then}
use Rattle.keypad.specs.Operations.{closed_by, opened_by, opening_checked}
use Rattle.kinds.specs.Meaning.{Meaning}
use Rattle.teach.specs.Teaching.{is_idle}
use Rattle.sensor.specs.declared.device.Device.{Device}
use Rattle.sensor.specs.Calls.{opens, to_close, to_open}
use Rattle.sensor.specs.Rules.{carried, device_by, performed}

module _ {V : Type 0} (m : Meaning V) where
  pub opened_device : (d : Device V) → record d
      { keypad = opened_by d.keypad (opening_checked d.keypad (is_idle d.teach.state)) }
      ≡ device_by m d (performed m d to_open)
  opened_device d = go (opening_checked d.keypad (is_idle d.teach.state))
    where
      go : (x : Result (Unit {0}) Fault) → record d { keypad = opened_by d.keypad x }
          ≡ device_by m d (then x (λ _. Ok opens))
      go (Ok tt) = refl
      go (Err f) = refl

  pub closed_device : (d : Device V) (x : Result (Unit {0}) Fault)
      → record d { keypad = closed_by d.keypad x } ≡ device_by m d (carried m d (then x (λ _. Ok to_close)))
  closed_device d (Ok tt) = refl
  closed_device d (Err f) = refl
