-- What a set-up comes to, on a blank sensor too.
use Rattle.std.proofs.Common.{◌≡◌, List, ℕ, Some, None, Ok, Err, Option, Result, refl}
use Rattle.faults.specs.declared.Fault.{Fault}
use Rattle.faults.specs.Denials.{then}
use Rattle.kinds.specs.Meaning.{Meaning}
use Rattle.sensor.specs.declared.device.Device.{Device}
use Rattle.sensor.specs.declared.sensor.Sensor.{Sensor}
use Rattle.sensor.specs.declared.setup.Setup.{Setup}
use Rattle.sensor.specs.Calls.{set_up, starts, to_start}
use Rattle.sensor.specs.Rules.{carried, checked, checked_by, keypad_open, next_by}
use Rattle.sensor.specs.Setups.{set_up_checked}

module _ {V : Type 0} (m : Meaning V) where
  carried_start : (d : Device V) (y : Result (Device V) Fault)
      → carried m d (then y (λ e. Ok (to_start e))) ≡ then y (λ e. Ok (starts e))
  carried_start d (Ok e) = refl
  carried_start d (Err f) = refl

  at_device : (o : Option (Device V)) (g : Setup (List ℕ))
      → checked_by m o (set_up g) ≡ then (set_up_checked m (keypad_open (record { device = o })) g) (λ e. Ok (starts e))
  at_device None g = refl
  at_device (Some d) g = carried_start d (set_up_checked m d.keypad.is_open g)

  -- its checks, by whether an operation is open
  pub set_up_is : (s : Sensor V) (g : Setup (List ℕ))
      → checked m s (set_up g) ≡ then (set_up_checked m (keypad_open s) g) (λ e. Ok (starts e))
  unfolding checked
  set_up_is s g = at_device s.device g

  -- a sensor that is denied stays, one that is set up has the device
  pub denied_next : (o : Option (Device V)) (f : Fault) → o ≡ next_by m o (Err f)
  denied_next None f = refl
  denied_next (Some d) f = refl

  pub started_next : (o : Option (Device V)) (e : Device V) → Some e ≡ next_by m o (Ok (starts e))
  started_next None e = refl
  started_next (Some d) e = refl
