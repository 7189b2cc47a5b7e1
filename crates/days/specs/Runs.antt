-- What is promised of every list of calls that a sensor takes from the first on.
use Rattle.std.specs.Prelude.{◌≡◌, ◌⊎◌, List, [], ◌∷◌, ◌++◌}
use Rattle.kinds.specs.Meaning.{Meaning}
use Rattle.sensor.specs.declared.sensor.Sensor.{Sensor}
use Rattle.sensor.specs.Calls.{Call}
use Rattle.sensor.specs.Rules.{next}

-- a law holds of the calls, whatever calls the sensor took before them since it was blank
abbrev pub AfterAny : (List Call → Type 0) → List Call → Type 0
AfterAny Law calls = (before : List Call) → Law (before ++ calls)

-- the first of the calls, none of them or some or all, lead from s to t
abbrev pub Reaches : {V : Type 0} → Meaning V → Sensor V → List Call → Sensor V → Type 0
Reaches m s [] t = t ≡ s
Reaches m s (c ∷ calls) t = (t ≡ s) ⊎ Reaches m (next m s c) calls t
