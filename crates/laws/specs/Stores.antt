-- What a teach stores lies from the lowest to the highest value captured in it.
use Rattle.std.specs.Prelude.{◌≡◌, Bool, true, false, cond, List, [], ◌∷◌, ◌++◌, ◌≤ℤ◌, Some, None, Option, Contains}
use Rattle.kinds.specs.Meaning.{Meaning}
use Rattle.channels.specs.declared.row.Row.{Row}
use Rattle.teach.specs.declared.command.Command.{Command}
use Rattle.teach.specs.declared.command.Setpoint.{Setpoint}
use Rattle.teach.specs.declared.command.Setpoint.TheVariants.{Sp1, Sp2}
use Rattle.teach.specs.declared.command.Step.{Step}
use Rattle.teach.specs.declared.command.Step.TheVariants.{Point, Start}
use Rattle.teach.specs.declared.command.Teachpoint.{Teachpoint}
use Rattle.teach.specs.declared.command.Teachpoint.TheVariants.{Tp1, Tp2}
use Rattle.teach.specs.declared.machine.State.{State}
use Rattle.teach.specs.declared.machine.State.TheVariants.{BusySingle, BusyTwo, DynStart, WaitDyn}
use Rattle.teach.specs.declared.machine.Verdict.TheVariants.{Stores}
use Rattle.sensor.specs.declared.sensor.Sensor.{Sensor}
use Rattle.sensor.specs.Calls.{Call}
use Rattle.sensor.specs.Rules.{after, blank, checked, next}
use Rattle.laws.specs.Events.{accepted_command, resting, row_of, selected_of, teach_of, value_of, verdict_of}

-- what a value is captured for: the setpoint itself, or one of its teachpoints
pub data Purpose : Type 0 where
  whole : Purpose
  point : Teachpoint → Purpose

abbrev pub same_teachpoint : Teachpoint → Teachpoint → Bool
same_teachpoint Tp1 Tp1 = true
same_teachpoint Tp2 Tp2 = true
same_teachpoint a b = false

abbrev pub same_purpose : Purpose → Purpose → Bool
same_purpose whole whole = true
same_purpose (point a) (point b) = same_teachpoint a b
same_purpose x y = false

-- a Start discards what was captured for the setpoint, a Point what was captured for its teachpoint
abbrev pub discards_by : Purpose → Step → Teachpoint → Bool
discards_by whole Start y = true
discards_by (point x) Point y = same_teachpoint x y
discards_by x z y = false

-- a command, if there is one, discards what was captured for x
abbrev pub discards : Purpose → Option Command → Bool
discards x None = false
discards x (Some z) = discards_by x z.step z.teachpoint

module _ {V : Type 0} where
  -- what a teach in this state captures values for
  abbrev pub capturing : State V → Option Purpose
  capturing (BusySingle sp k) = Some whole
  capturing (BusyTwo sp tp k p) = Some (point tp)
  capturing (DynStart sp) = Some whole
  capturing (WaitDyn sp s) = Some whole
  capturing s = None

  -- a value as a list, if there is one and it is captured for x; else the empty list
  abbrev pub value_for : Purpose → Option Purpose → Option V → List V
  value_for x (Some y) (Some v) = cond (same_purpose x y) (v ∷ []) []
  value_for x p v = []

  abbrev pub setpoint_of : Setpoint → Row V → V
  setpoint_of Sp1 r = r.sp1
  setpoint_of Sp2 r = r.sp2

  abbrev pub held_in : Setpoint → Option (Row V) → Option V
  held_in sp None = None
  held_in sp (Some r) = Some (setpoint_of sp r)

module _ {V : Type 0} (m : Meaning V) where
  -- what the call captures for x: the value of an accepted sample, while the teach captures for x
  abbrev pub captures : Purpose → Sensor V → Call → List V
  captures x s c = value_for x (capturing (teach_of s).state) (value_of (checked m s c))

  -- what counts for x after the call, of vs that counted before it: nothing at rest, and of vs nothing that is
  -- discarded
  abbrev pub counting : Purpose → Sensor V → Call → List V → List V
  counting x s c vs = cond (resting (next m s c)) [] (captures x s c
      ++ cond (discards x (accepted_command m s c)) [] vs)

  -- the values captured for x in the teach that runs after the calls, where vs counted before them; the latest first
  abbrev pub captured_since : Purpose → Sensor V → List Call → List V → List V
  captured_since x s [] vs = vs
  captured_since x s (c ∷ cs) vs = captured_since x (next m s c) cs (counting x s c vs)

  abbrev pub captured : Purpose → List Call → List V
  captured x cs = captured_since x blank cs []

  -- with what the call c captures after them
  abbrev pub captured_with : Purpose → List Call → Call → List V
  captured_with x before c = captures x (after m blank before) c ++ captured x before

  -- the setpoint sp stored by the call c, which the calls `before` precede, is v
  pub record StoredWithin (before : List Call) (c : Call) (sp : Setpoint) (v : V) : Type 0 where
    -- the selected channel holds it after the call
    pub held : held_in sp (row_of (next m (after m blank before) c) (selected_of (after m blank before))) ≡ Some v
    -- it lies from one captured value to another
    pub low : V
    pub high : V
    pub low_captured : (x : Purpose) × Contains (captured_with x before c) low
    pub high_captured : (x : Purpose) × Contains (captured_with x before c) high
    pub from_low : m.rank low ≤ℤ m.rank v
    pub to_high : m.rank v ≤ℤ m.rank high

  -- StoredWithin holds wherever one of the calls that a sensor takes from blank on stores a setpoint
  abbrev pub StoresWithinCaptured : List Call → Type 0
  StoresWithinCaptured cs =
      (before : List Call) (c : Call) (rest : List Call) (sp : Setpoint) (v : V)
      → cs ≡ before ++ (c ∷ rest)
      → verdict_of (checked m (after m blank before) c) ≡ Stores sp v
      → StoredWithin before c sp v
