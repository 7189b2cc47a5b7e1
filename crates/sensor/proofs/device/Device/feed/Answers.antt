use Rattle.std.proofs.Common.{◌≡◌, refl}
use Rattle.channels.specs.declared.reading.Reading.{Reading}
use Rattle.channels.specs.declared.reading.Reading.TheVariants.{Value, Below, Above, NoData}
use Rattle.kinds.specs.Meaning.{Meaning}
use Rattle.sensor.specs.declared.device.Device.{Device}
use Rattle.sensor.specs.Devices.{after_step}
use Rattle.sensor.specs.Samples.{heard}
use Rattle.sensor.proofs.device.Device.feed.Goals as goal

-- a reading that is no value leaves the device
unfed : {V : Type 0} (m : Meaning V) (d : Device V) (r : Reading V) → ((v : V) → r ≡ Value v → ⊥)
    → d ≡ after_step d (heard m d r)
unfed m d (Value v) not_value = absurd (not_value v refl)
unfed m d Below not_value = refl
unfed m d Above not_value = refl
unfed m d NoData not_value = refl

pub returns-in_default : goal.returns-in_default
returns-in_default g c = unfed g.K.Kind.meaning c.args.self.now c.args.reading c.in_default.not-Value
