-- What a teach stores, and when: what its captured values say, and nothing else.
use Rattle.std.specs.Prelude.{◌≡◌, ℕ, cond, List, [], ◌∷◌, ◌++◌, length, ◌<ℤ◌, Some, None, Option, ◌==◌}
use Rattle.kinds.specs.Meaning.{Meaning, lesser, greater}
use Rattle.teach.specs.declared.command.Command.{Command}
use Rattle.teach.specs.declared.command.Setpoint.{Setpoint}
use Rattle.teach.specs.declared.command.Step.{Step}
use Rattle.teach.specs.declared.command.Step.TheVariants.{Apply, Single, Stop}
use Rattle.teach.specs.declared.command.Teachpoint.TheVariants.{Tp1, Tp2}
use Rattle.teach.specs.declared.machine.Verdict.TheVariants.{Open, Fails, Stores}
use Rattle.teach.specs.declared.terms.Terms.{Terms}
use Rattle.teach.specs.Teaching.{teach_state}
use Rattle.sensor.specs.declared.device.Device.{Device}
use Rattle.sensor.specs.declared.sensor.Sensor.{Sensor}
use Rattle.sensor.specs.Calls.{Call}
use Rattle.sensor.specs.Rules.{after, blank, checked, next}
use Rattle.laws.specs.Events.{accepted_command, resting, row_of, selected_of, teach_of, value_of, verdict_of}
use Rattle.laws.specs.Stores.{captured, captured_with, held_in, point, whole}

-- the evaluation that a call makes, if it makes one
pub data Evaluation : Type 0 where
  none single two_value dynamic : Evaluation

-- the step of a command, if there is one
abbrev pub step_in : Option Command → Option Step
step_in None = None
step_in (Some z) = Some z.step

-- the setpoint of a command, if there is one
abbrev pub setpoint_in : Option Command → Option Setpoint
setpoint_in None = None
setpoint_in (Some z) = Some z.setpoint

-- P holds of the setpoint that is taught; false where none is
abbrev pub OfTaught : Option Setpoint → (Setpoint → Type 0) → Type 0
OfTaught None P = ⊥
OfTaught (Some sp) P = P sp

module _ {V : Type 0} where
  -- the evaluation by a call, where vs are the values captured with what it brings: single by the value that makes them
  -- C, in a teach that a Single began; two value by an accepted Apply; dynamic by an accepted Stop
  abbrev pub evaluation_in : ℕ → Option Step → List V → Option V → Option Step → Evaluation
  evaluation_in capture (Some Single) vs (Some v) step = cond (length vs == capture) single none
  evaluation_in capture began vs value (Some Apply) = two_value
  evaluation_in capture began vs value (Some Stop) = dynamic
  evaluation_in capture began vs value step = none

module _ {V : Type 0} (m : Meaning V) where
  -- the lowest and the highest of v and vs
  abbrev pub lowest : V → List V → V
  lowest v [] = v
  lowest v (w ∷ ws) = lesser m v (lowest w ws)

  abbrev pub highest : V → List V → V
  highest v [] = v
  highest v (w ∷ ws) = greater m v (highest w ws)

  -- P holds of the lowest and the highest of some values; false where there is none
  abbrev pub OfExtremes : List V → (V → V → Type 0) → Type 0
  OfExtremes [] P = ⊥
  OfExtremes (v ∷ vs) P = P (lowest v vs) (highest v vs)

  -- the command that began the teach that runs after the call, where o began the one that runs before it: none at rest,
  -- and the accepted command of the call by which the teach leaves rest
  abbrev pub beginning : Sensor V → Call → Option Command → Option Command
  beginning s c o = cond (resting (next m s c)) None (cond (resting s) (accepted_command m s c) o)

  -- the command that began the teach that runs after the calls, where o began the one that runs before them
  abbrev pub begun_since : Sensor V → List Call → Option Command → Option Command
  begun_since s [] o = o
  begun_since s (c ∷ cs) o = begun_since (next m s c) cs (beginning s c o)

  -- the command that began the teach that runs after the calls that a sensor takes from blank on
  abbrev pub begun : List Call → Option Command
  begun cs = begun_since blank cs None

  -- the setpoint that is taught after the calls: that of the command that began the teach
  abbrev pub taught : List Call → Option Setpoint
  taught cs = setpoint_in (begun cs)

  -- a call stores v as the setpoint sp of the selected channel, unless the evaluation fails: then nothing is stored,
  -- and TeachState is 7
  pub record StoresUnless (Failing : Type 0) (s : Sensor V) (c : Call) (sp : Setpoint) (v : V) : Type 0 where
    pub stores :
        (Failing → ⊥)
        → (verdict_of (checked m s c) ≡ Stores sp v) × (held_in sp (row_of (next m s c) (selected_of s)) ≡ Some v)
    pub fails :
        Failing
        → (verdict_of (checked m s c) ≡ Fails)
        × (teach_state (teach_of (next m s c)) (teach_of (next m s c)).state ≡ 7)

  -- a single teach stores the middle of the lowest and the highest of the C values, unless the highest is above the
  -- lowest raised by S
  abbrev pub SingleSays : Terms → Sensor V → Call → Setpoint → List V → Type 0
  SingleSays t s c sp vs =
      OfExtremes vs
      (λ low high. StoresUnless (m.rank (m.raised low t.spread) <ℤ m.rank high) s c sp (m.middle low high))

  -- a two value teach stores the middle of the two teachpoints, unless the higher is below the lower raised by D
  abbrev pub PointsSay : Terms → Sensor V → Call → Setpoint → V → V → Type 0
  PointsSay t s c sp a b =
      StoresUnless (m.rank (greater m a b) <ℤ m.rank (m.raised (lesser m a b) t.distance)) s c sp (m.middle a b)

  -- each teachpoint is the middle of the lowest and the highest of the C values last captured for it
  abbrev pub TwoSay : Terms → Sensor V → Call → Setpoint → List V → List V → Type 0
  TwoSay t s c sp vs ws =
      (length vs ≡ t.capture)
      × (length ws ≡ t.capture)
      × OfExtremes vs
      (λ low high. OfExtremes ws (λ low' high'. PointsSay t s c sp (m.middle low high) (m.middle low' high')))

  -- a dynamic teach stores the middle of the lowest and the highest captured since the last accepted Start, unless the
  -- highest is below the lowest raised by D
  abbrev pub DynamicSays : Terms → Sensor V → Call → Setpoint → List V → Type 0
  DynamicSays t s c sp vs =
      OfExtremes vs
      (λ low high. StoresUnless (m.rank high <ℤ m.rank (m.raised low t.distance)) s c sp (m.middle low high))

  -- what a call c stores after the calls `before`, by the evaluation that it makes: no other call stores
  abbrev pub Says : Terms → Evaluation → List Call → Call → Type 0
  Says t none before c = verdict_of (checked m (after m blank before) c) ≡ Open
  Says t single before c =
      OfTaught (taught before) (λ sp. SingleSays t (after m blank before) c sp (captured_with m whole before c))
  Says t two_value before c =
      OfTaught (taught before)
      (λ sp. TwoSay t (after m blank before) c sp (captured m (point Tp1) before) (captured m (point Tp2) before))
  Says t dynamic before c =
      OfTaught (taught before) (λ sp. DynamicSays t (after m blank before) c sp (captured m whole before))

  -- the evaluation that a call c makes after the calls `before`
  abbrev pub evaluation_of : Terms → List Call → Call → Evaluation
  evaluation_of t before c =
      let s = after m blank before in
      evaluation_in t.capture (step_in (begun before)) (captured_with m whole before c) (value_of (checked m s c))
      (step_in (accepted_command m s c))

  -- what the call stores is what the captured values say; a blank sensor stores nothing
  abbrev pub TaughtBy : Option (Device V) → List Call → Call → Type 0
  TaughtBy None before c = verdict_of (checked m (after m blank before) c) ≡ Open
  TaughtBy (Some d) before c = Says d.terms (evaluation_of d.terms before c) before c

  -- TaughtBy holds of each of the calls that a sensor takes from blank on
  abbrev pub TaughtFromCaptured : List Call → Type 0
  TaughtFromCaptured cs =
      (before : List Call) (c : Call) (rest : List Call)
      → cs ≡ before ++ (c ∷ rest)
      → TaughtBy (after m blank before).device before c
