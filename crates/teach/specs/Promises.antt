-- What holds of every teach, whatever the kind and the terms.
use Rattle.std.specs.Prelude.{◌≡◌, ◌<◌, Bool, true, false, List, [], ◌∷◌, length, ◌≤ℤ◌, Some, None, Option}
use Rattle.kinds.specs.Meaning.{Meaning, lesser, greater}
use Rattle.teach.specs.declared.capture.Captured.{Captured}
use Rattle.teach.specs.declared.command.Command.{Command}
use Rattle.teach.specs.declared.command.Setpoint.{Setpoint}
use Rattle.teach.specs.declared.command.Teachpoint.{Teachpoint}
use Rattle.teach.specs.declared.command.Step.TheVariants.{Cancel}
use Rattle.teach.specs.declared.machine.Flags.{Flags}
use Rattle.teach.specs.declared.machine.Teachpoints.{Teachpoints}
use Rattle.teach.specs.declared.machine.State.{State}
use Rattle.teach.specs.declared.machine.State.TheVariants.{BusySingle, BusyTwo}
use Rattle.teach.specs.declared.machine.Verdict.TheVariants.{Open, Stores}
use Rattle.teach.specs.declared.terms.Terms.{Terms}
use Rattle.teach.specs.Captures.{with_value}
use Rattle.teach.specs.Evaluation.{evaluate_single, evaluate_two, evaluate_dynamic}
use Rattle.teach.specs.Machine.{Moved, fed, row}

module _ {V : Type 0} where
  -- the Busy states capture and count
  abbrev pub is_busy : State V → Bool
  is_busy (BusySingle sp k) = true
  is_busy (BusyTwo sp tp k p) = true
  is_busy s = false

module _ {V : Type 0} (m : Meaning V) (t : Terms) where
  -- the state after values, one after the other
  abbrev pub fed_all : State V → List V → State V
  fed_all s [] = s
  fed_all s (v ∷ vs) = fed_all (fed m t s v).state vs

  -- a capture that begins takes exactly C values: fewer leave it busy, and the last of them ends it
  abbrev CapturesC : State V → Type 0
  CapturesC s = (vs : List V)
      → (length vs < t.capture → is_busy (fed_all s vs) ≡ true)
      × (length vs ≡ t.capture → 0 < length vs → is_busy (fed_all s vs) ≡ false)

  abbrev pub TakesExactlyC : Type 0
  TakesExactlyC =
      ((sp : Setpoint) → CapturesC (BusySingle sp None))
      × ((sp : Setpoint) (tp : Teachpoint) (p : Teachpoints (Option V)) → CapturesC (BusyTwo sp tp None p))

  -- v lies from the lower to the higher of a and b
  abbrev pub Between : V → V → V → Type 0
  Between a b v = (m.rank (lesser m a b) ≤ℤ m.rank v) × (m.rank v ≤ℤ m.rank (greater m a b))

  -- what an evaluation stores lies between the values that it is given
  abbrev pub EvaluatesWithin : Type 0
  EvaluatesWithin = (sp s : Setpoint) (a b v : V)
      → (evaluate_single m t sp a b ≡ Stores s v → Between a b v)
      × (evaluate_two m t sp a b ≡ Stores s v → Between a b v)
      × (evaluate_dynamic m t sp a b ≡ Stores s v → Between a b v)

  -- a capture's lowest and highest hold what it takes between them, and never move towards each other
  abbrev pub CapturesWiden : Type 0
  CapturesWiden = (k : Captured V) (v : V)
      → (m.rank (with_value m (Some k) v).span.lowest ≤ℤ m.rank v)
      × (m.rank (with_value m (Some k) v).span.lowest ≤ℤ m.rank k.span.lowest)
      × (m.rank v ≤ℤ m.rank (with_value m (Some k) v).span.highest)
      × (m.rank k.span.highest ≤ℤ m.rank (with_value m (Some k) v).span.highest)

  -- Cancel never stores: there is no copy to put back
  abbrev pub CancelStoresNothing : Type 0
  CancelStoresNothing = (f : Flags) (s : State V) (c : Command) (x : Moved V)
      → row m f t s Cancel c ≡ Some x → x.effect.verdict ≡ Open
