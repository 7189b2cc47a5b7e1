-- The teach machine: the rows of its table, and what a value does in each state.
use Rattle.std.specs.Prelude.{Bool, true, false, cond, Some, None, Ok, Err, Option, Result, nat_le}
use Rattle.faults.specs.declared.Fault.{Fault}
use Rattle.faults.specs.declared.Denial.TheVariants.{NotInState}
use Rattle.faults.specs.declared.Place.{Place}
use Rattle.faults.specs.Denials.{fault_at}
use Rattle.kinds.specs.Meaning.{Meaning}
use Rattle.teach.specs.declared.capture.Captured.{Captured}
use Rattle.teach.specs.declared.capture.Span.{Span}
use Rattle.teach.specs.declared.command.Command.{Command}
use Rattle.teach.specs.declared.command.Setpoint.{Setpoint}
use Rattle.teach.specs.declared.command.Setpoint.TheVariants.{Sp1, Sp2}
use Rattle.teach.specs.declared.command.Teachpoint.{Teachpoint}
use Rattle.teach.specs.declared.command.Step.{Step}
use Rattle.teach.specs.declared.command.Step.TheVariants.{Apply, Single, Point, Start, Stop, Cancel}
use Rattle.teach.specs.declared.machine.Teachpoints.{Teachpoints}
use Rattle.teach.specs.declared.machine.State.{State}
use Rattle.teach.specs.declared.machine.State.TheVariants.{Idle, BusySingle, BusyTwo, WaitTwo, DynStart, WaitDyn}
use Rattle.teach.specs.declared.machine.Flags.{Flags}
use Rattle.teach.specs.declared.machine.Change.{Change}
use Rattle.teach.specs.declared.machine.Change.TheVariants.{Keep, Clear, Set}
use Rattle.teach.specs.declared.machine.Verdict.{Verdict}
use Rattle.teach.specs.declared.machine.Verdict.TheVariants.{Open}
use Rattle.teach.specs.declared.machine.Effect.{Effect}
use Rattle.teach.specs.declared.terms.Terms.{Terms}
use Rattle.teach.specs.Captures.{span_of, with_value, widened}
use Rattle.teach.specs.Evaluation.{evaluate_single, evaluate_two, evaluate_dynamic, teachpoint_of}
use Rattle.teach.specs.Flags.{both_set}
use Rattle.teach.specs.Teachpoints.{with_teachpoint}

abbrev pub same_setpoint : Setpoint → Setpoint → Bool
same_setpoint Sp1 Sp1 = true
same_setpoint Sp2 Sp2 = true
same_setpoint a b = false

abbrev pub no_points : {V : Type 0} → Teachpoints (Option V)
no_points = record { tp1 = None; tp2 = None }

-- where a step leads: the state, what becomes of the flags, and what comes of the teach
pub record Moved (V : Type 0) : Type 0 where
  pub state : State V
  pub effect : Effect V

module _ {V : Type 0} where
  abbrev pub moved : State V → Change → Verdict V → Moved V
  moved s c v = record { state = s; effect = record { change = c; verdict = v } }

  -- a teach of a setpoint begins: its flags are cleared
  abbrev begins : Setpoint → State V → Option (Moved V)
  begins sp s = Some (moved s (Clear sp) Open)

  -- it goes on
  abbrev goes : State V → Option (Moved V)
  goes s = Some (moved s Keep Open)

  -- it is evaluated: the flags stay
  abbrev ends : Verdict V → Option (Moved V)
  ends v = Some (moved Idle Keep v)

  -- it is cancelled: the setpoint's flags are cleared, and nothing is stored
  abbrev drops : Setpoint → Option (Moved V)
  drops sp = Some (moved Idle (Clear sp) Open)

  abbrev only : Bool → Option (Moved V) → Option (Moved V)
  only b x = cond b x None

module _ {V : Type 0} (m : Meaning V) (flags : Flags) (t : Terms) where
  -- Apply evaluates both teachpoints; it has no row where one is missing
  abbrev pub applied : Setpoint → Option V → Option V → Option (Moved V)
  applied sp (Some a) (Some b) = ends (evaluate_two m t sp a b)
  applied sp a b = None

  -- the table: a command's row in each state; none where the state has no such row
  abbrev pub row : State V → Step → Command → Option (Moved V)
  row Idle Single c = begins c.setpoint (BusySingle c.setpoint None)
  row Idle Point c = begins c.setpoint (BusyTwo c.setpoint c.teachpoint None no_points)
  row Idle Start c = begins c.setpoint (DynStart c.setpoint)
  row (WaitTwo sp p) Point c = only (same_setpoint sp c.setpoint) (goes (BusyTwo sp c.teachpoint None p))
  row (WaitTwo sp p) Apply c = only (both_set flags sp) (applied sp p.tp1 p.tp2)
  row (WaitTwo sp p) Cancel c = drops sp
  row (WaitDyn sp s) Start c = only (same_setpoint sp c.setpoint) (goes (DynStart sp))
  row (WaitDyn sp s) Stop c = only (same_setpoint sp c.setpoint) (ends (evaluate_dynamic m t sp s.lowest s.highest))
  row (WaitDyn sp s) Cancel c = drops sp
  row s other c = None

module _ {V : Type 0} where
  -- 21: the command is not in the state's row, or Apply without both flags
  abbrev pub row_checked : Place → Option (Moved V) → Result (Moved V) Fault
  row_checked place None = Err (fault_at NotInState place)
  row_checked place (Some x) = Ok x

  -- what a command that is taken does beside moving the machine
  abbrev pub effect_by : Result (Moved V) Fault → Result (Effect V) Fault
  effect_by (Ok x) = Ok x.effect
  effect_by (Err f) = Err f

  -- the machine after a command: one that is denied leaves it
  abbrev pub state_by : State V → Result (Moved V) Fault → State V
  state_by s (Ok x) = x.state
  state_by s (Err f) = s

module _ {V : Type 0} (m : Meaning V) (t : Terms) where
  -- C values have been taken
  abbrev pub full : Captured V → Bool
  full k = nat_le t.capture k.count

  -- what a capture answers: the span of its values, once it is full
  abbrev pub ended : Captured V → Option (Span V)
  ended k = cond (full k) (Some k.span) None

  abbrev pub single_fed : Setpoint → Captured V → Moved V
  single_fed sp k =
      cond (full k) (moved Idle Keep (evaluate_single m t sp k.span.lowest k.span.highest))
      (moved (BusySingle sp (Some k)) Keep Open)

  -- a teachpoint that is taken again replaces the earlier one
  abbrev pub two_fed : Setpoint → Teachpoint → Teachpoints (Option V) → Captured V → Moved V
  two_fed sp tp p k =
      cond (full k)
      (moved (WaitTwo sp (with_teachpoint p tp (Some (teachpoint_of m t k.span.lowest k.span.highest))))
      (Set sp tp) Open)
      (moved (BusyTwo sp tp (Some k) p) Keep Open)

  -- a value: captured in the Busy states, by Dyn Start and by Wait Dyn
  abbrev pub fed : State V → V → Moved V
  fed (BusySingle sp k) v = single_fed sp (with_value m k v)
  fed (BusyTwo sp tp k p) v = two_fed sp tp p (with_value m k v)
  fed (DynStart sp) v = moved (WaitDyn sp (span_of v)) Keep Open
  fed (WaitDyn sp s) v = moved (WaitDyn sp (widened m s v)) Keep Open
  fed s v = moved s Keep Open
