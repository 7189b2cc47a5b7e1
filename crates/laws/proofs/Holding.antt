-- What a teach holds: the lowest, the highest and the number of the values captured for it.
use Rattle.std.proofs.Common.{◌≡◌, ℕ, suc, ◌<◌, ◌≤◌, Bool, true, false, cond, eqb, leb, List, [], ◌∷◌, ◌++◌, length}
use Rattle.std.proofs.Common.{Some, None, Option, refl, sym, ap, arith, add-one}
use Rattle.std.proofs.lemmas.Bool.Decides.{nat_tests}
use Rattle.std.proofs.lemmas.Bool.{leb-false, leb-true}
use Rattle.kinds.specs.Meaning.{Meaning, greater, lesser, under}
use Rattle.teach.specs.declared.capture.Captured.{Captured}
use Rattle.teach.specs.declared.capture.Span.{Span}
use Rattle.teach.specs.declared.command.Command.{Command}
use Rattle.teach.specs.declared.command.Setpoint.{Setpoint}
use Rattle.teach.specs.declared.command.Step.{Step}
use Rattle.teach.specs.declared.command.Step.TheVariants.{Apply, Single, Point, Start, Stop, Cancel}
use Rattle.teach.specs.declared.command.Teachpoint.{Teachpoint}
use Rattle.teach.specs.declared.command.Teachpoint.TheVariants.{Tp1, Tp2}
use Rattle.teach.specs.declared.machine.Change.TheVariants.{Keep, Set}
use Rattle.teach.specs.declared.machine.Flags.{Flags}
use Rattle.teach.specs.declared.machine.State.{State}
use Rattle.teach.specs.declared.machine.State.TheVariants.{Idle, BusySingle, BusyTwo, WaitTwo, DynStart, WaitDyn}
use Rattle.teach.specs.declared.machine.Teachpoints.{Teachpoints}
use Rattle.teach.specs.declared.machine.Verdict.TheVariants.{Open, Fails, Stores}
use Rattle.teach.specs.declared.terms.Terms.{Terms}
use Rattle.teach.specs.Captures.{with_value, widened}
use Rattle.teach.specs.Evaluation.{evaluate_dynamic, evaluate_single, evaluate_two}
use Rattle.teach.specs.Flags.{both_set}
use Rattle.teach.specs.Machine.{Moved, applied, fed, moved, no_points, row, same_setpoint}
use Rattle.teach.specs.Teaching.{is_idle}
use Rattle.teach.specs.Teachpoints.{with_teachpoint}
use Rattle.laws.specs.Stores.{Purpose, capturing, discards, discards_by, point, value_for, whole}
use Rattle.laws.specs.Taught.{Evaluation, OfExtremes, OfTaught, dynamic, evaluation_in, highest, lowest, none}
use Rattle.laws.specs.Taught.{setpoint_in, single, step_in, two_value}
use Rattle.laws.proofs.Each.{Each, each_test}

-- the command that began the teach after a call that gives z, where o began the one before it
abbrev pub renewed : Bool → Bool → Option Command → Option Command → Option Command
renewed rests rested z o = cond rests None (cond rested z o)

module _ {V : Type 0} where
  -- what counts after a call that captures us, of vs that counted before it
  abbrev pub grown : Bool → Bool → List V → List V → List V
  grown rests discarded us vs = cond rests [] (us ++ cond discarded [] vs)

  -- the setpoint that a teach in this state teaches
  abbrev pub teaches : State V → Option Setpoint
  teaches Idle = None
  teaches (BusySingle sp k) = Some sp
  teaches (BusyTwo sp tp k p) = Some sp
  teaches (WaitTwo sp p) = Some sp
  teaches (DynStart sp) = Some sp
  teaches (WaitDyn sp s) = Some sp

  -- the step that such a teach began with
  abbrev pub began_by : State V → Option Step
  began_by Idle = None
  began_by (BusySingle sp k) = Some Single
  began_by (BusyTwo sp tp k p) = Some Point
  began_by (WaitTwo sp p) = Some Point
  began_by (DynStart sp) = Some Start
  began_by (WaitDyn sp s) = Some Start

  -- o is the command that began a teach in this state
  abbrev pub Began : State V → Option Command → Type 0
  Began s o = (setpoint_in o ≡ teaches s) × (step_in o ≡ began_by s)

module _ {V : Type 0} (m : Meaning V) where
  -- the span and the number of v and vs
  abbrev span : V → List V → Span V
  span v vs = record { lowest = lowest m v vs; highest = highest m v vs }

  abbrev band : V → List V → Captured V
  band v vs = record { span = span v vs; count = length (v ∷ vs) }

  abbrev summary : List V → Option (Captured V)
  summary [] = None
  summary (v ∷ vs) = Some (band v vs)

  -- one value more
  taken_is : (vs : List V) (v : V) → with_value m (summary vs) v ≡ band v vs
  taken_is [] v = refl
  taken_is (w ∷ ws) v = λ i. record { span = span v (w ∷ ws); count = add-one (length (w ∷ ws)) i }

  of_extremes : (vs : List V) (P Q : V → V → Type 0) → OfExtremes m vs P → ((a b : V) → P a b → Q a b)
      → OfExtremes m vs Q
  of_extremes [] P Q h f = absurd h
  of_extremes (v ∷ vs) P Q h f = f (lowest m v vs) (highest m v vs) h

module _ {V : Type 0} (m : Meaning V) (t : Terms) where
  -- a capture that goes on has under C values
  abbrev Busy : Option (Captured V) → List V → Type 0
  Busy k vs = (k ≡ summary m vs) × (length vs < t.capture)

  -- a teachpoint, if it was taken, is the middle of the lowest and the highest of C values
  abbrev AtPoint : Option V → List V → Type 0
  AtPoint None vs = Unit {0}
  AtPoint (Some a) vs = (length vs ≡ t.capture) × OfExtremes m vs (λ low high. a ≡ m.middle low high)

  -- a teach in this state holds, of the values captured for each purpose, what it goes by
  abbrev pub Holding : State V → (Purpose → List V) → Type 0
  Holding Idle L = (x : Purpose) → L x ≡ []
  Holding (BusySingle sp k) L = Busy k (L whole)
  Holding (BusyTwo sp Tp1 k p) L = Busy k (L (point Tp1)) × AtPoint p.tp2 (L (point Tp2))
  Holding (BusyTwo sp Tp2 k p) L = Busy k (L (point Tp2)) × AtPoint p.tp1 (L (point Tp1))
  Holding (WaitTwo sp p) L = AtPoint p.tp1 (L (point Tp1)) × AtPoint p.tp2 (L (point Tp2))
  Holding (DynStart sp) L = L whole ≡ []
  Holding (WaitDyn sp s) L = OfExtremes m (L whole) (λ low high. s ≡ record { lowest = low; highest = high })

  -- what an evaluation tells of the setpoint y that is taught, where U a b sp v is that v is stored as sp unless a is
  -- under b; without an evaluation, O
  abbrev pub Tells : (V → V → Setpoint → V → Type 0) → Type 0 → Option Setpoint → Evaluation → List V
      → (Purpose → List V) → Type 0
  Tells U O y none vs L = O
  Tells U O y single vs L = OfTaught y (λ sp. OfExtremes m vs
      (λ low high. U (m.raised low t.spread) high sp (m.middle low high)))
  Tells U O y two_value vs L =
      OfTaught y (λ sp.
      (length (L (point Tp1)) ≡ t.capture)
      × (length (L (point Tp2)) ≡ t.capture)
      × OfExtremes m (L (point Tp1)) (λ low high. OfExtremes m (L (point Tp2))
      (λ low' high'. U (greater m (m.middle low high) (m.middle low' high'))
      (m.raised (lesser m (m.middle low high) (m.middle low' high')) t.distance) sp
      (m.middle (m.middle low high) (m.middle low' high')))))
  Tells U O y dynamic vs L = OfTaught y (λ sp. OfExtremes m (L whole)
      (λ low high. U high (m.raised low t.distance) sp (m.middle low high)))

module _ {V : Type 0} (m : Meaning V) (U : V → V → Setpoint → V → Type 0) where
  -- U holds of the evaluation that the step g makes, if it makes one
  abbrev pub Evaluates : Moved V → Type 0
  Evaluates g = (a b : V) (sp : Setpoint) (v : V) → g ≡ moved Idle Keep (cond (under m a b) Fails (Stores sp v))
      → U a b sp v

module _ {V : Type 0} (m : Meaning V) (U : V → V → Setpoint → V → Type 0) (t : Terms) (L : Purpose → List V)
    (b : Option Command) where
  -- owed of a step g, by a value or a command, from a state that holds L, in a teach that b began: the state that it
  -- leads to holds what counts then and what began its teach, and the evaluation e is made
  abbrev OwedBy : State V → Option V → Option Command → Evaluation → Moved V → Type 0
  OwedBy s value z e g =
      Holding m t g.state (λ x. grown (is_idle g.state) (discards x z) (value_for x (capturing s) value) (L x))
      × Began g.state (renewed (is_idle g.state) (is_idle s) z b)
      × Tells m t U (g.effect.verdict ≡ Open) (teaches s) e (value_for whole (capturing s) value ++ L whole) L

  abbrev pub Owed : State V → Option V → Option Command → Moved V → Type 0
  Owed s value z g = OwedBy s value z (evaluation_in t.capture (began_by s) (value_for whole (capturing s) value
      ++ L whole) value (step_in z)) g

  abbrev pub RowOwed : State V → Command → Moved V → Type 0
  RowOwed s z g = Evaluates m U g → Owed s None (Some z) g

  -- without a value or a command
  pub stays : (s : State V) → Holding m t s L → Began s b → Owed s None None (moved s Keep Open)
  stays Idle h i = (λ x. refl, (refl, refl), refl)
  stays (BusySingle sp k) h i = (h, i, refl)
  stays (BusyTwo sp Tp1 k p) h i = (h, i, refl)
  stays (BusyTwo sp Tp2 k p) h i = (h, i, refl)
  stays (WaitTwo sp p) h i = (h, i, refl)
  stays (DynStart sp) h i = (h, i, refl)
  stays (WaitDyn sp s) h i = (h, i, refl)

module _ {V : Type 0} (m : Meaning V) (U : V → V → Setpoint → V → Type 0) (t : Terms) (L : Purpose → List V)
    (b : Option Command) (some : 1 ≤ t.capture) where
  -- ---- a value

  -- a capture that goes on is full with a value more where that makes C
  fills : (n c : ℕ) → n < c → eqb (suc n) c ≡ leb c (suc n)
  fills n c h = grind (arith, nat_tests)

  abbrev single_step : Setpoint → V → Bool → Moved V
  single_step sp v f = cond f (moved Idle Keep (evaluate_single m t sp (lowest m v (L whole)) (highest m v (L whole))))
      (moved (BusySingle sp (Some (band m v (L whole)))) Keep Open)

  single_owed : (sp : Setpoint) (k : Option (Captured V)) (v : V) (f : Bool) → leb t.capture (length (v ∷ L whole)) ≡ f
      → Began (BusySingle sp k) b → Evaluates m U (single_step sp v f)
      → OwedBy m U t L b (BusySingle sp k) (Some v) None (cond f single none) (single_step sp v f)
  single_owed sp k v true e i u = (λ x. refl, (refl, refl), u _ _ sp _ refl)
  single_owed sp k v false e i u = ((refl, leb-false _ _ e), i, refl)

  abbrev two_step : Setpoint → Teachpoint → Teachpoints (Option V) → V → List V → Bool → Moved V
  two_step sp tp p v vs f = cond f (moved
      (WaitTwo sp (with_teachpoint p tp (Some (m.middle (lowest m v vs) (highest m v vs))))) (Set sp tp) Open)
      (moved (BusyTwo sp tp (Some (band m v vs)) p) Keep Open)

  two_owed : (sp : Setpoint) (tp : Teachpoint) (k : Option (Captured V)) (p : Teachpoints (Option V)) (v : V) (f : Bool)
      → leb t.capture (length (v ∷ L (point tp))) ≡ f → Holding m t (BusyTwo sp tp k p) L → Began (BusyTwo sp tp k p) b
      → OwedBy m U t L b (BusyTwo sp tp k p) (Some v) None none (two_step sp tp p v (L (point tp)) f)
  two_owed sp Tp1 k p v true e h i = (((omega (arith, leb-true), refl), h.1), i, refl)
  two_owed sp Tp2 k p v true e h i = ((h.1, (omega (arith, leb-true), refl)), i, refl)
  two_owed sp Tp1 k p v false e h i = (((refl, leb-false _ _ e), h.1), i, refl)
  two_owed sp Tp2 k p v false e h i = (((refl, leb-false _ _ e), h.1), i, refl)

  busy_two : (sp : Setpoint) (tp : Teachpoint) (k : Option (Captured V)) (p : Teachpoints (Option V))
      → Holding m t (BusyTwo sp tp k p) L → k ≡ summary m (L (point tp))
  busy_two sp Tp1 k p h = h.0.0
  busy_two sp Tp2 k p h = h.0.0

  -- one value more
  widens : (s : Span V) (v : V) (vs : List V)
      → OfExtremes m vs (λ low high. s ≡ record { lowest = low; highest = high }) → widened m s v ≡ span m v vs
  widens s v [] h = absurd h
  widens s v (w ∷ ws) h = ap (λ z. widened m z v) h

  -- each state
  pub feeds : (s : State V) (v : V) → Holding m t s L → Began s b → Evaluates m U (fed m t s v)
      → Owed m U t L b s (Some v) None (fed m t s v)
  feeds Idle v h i = λ u. (λ x. refl, (refl, refl), refl)
  feeds (BusySingle sp k) v h i = rw (h.0, taken_is, fills (length (L whole)) t.capture h.1)
      (single_owed sp k v (leb t.capture (length (v ∷ L whole))) refl i)
  feeds (BusyTwo sp tp k p) v h i = rw (busy_two sp tp k p h, taken_is)
      (λ u. two_owed sp tp k p v (leb t.capture (length (v ∷ L (point tp)))) refl h i)
  feeds (WaitTwo sp p) v h i = λ u. (h, i, refl)
  feeds (DynStart sp) v h i = λ u. (ap (span m v) (sym h), i, refl)
  feeds (WaitDyn sp s) v h i = λ u. (widens s v (L whole) h, i, refl)

  -- ---- a command

  -- a capture begins
  begins : (vs : List V) → vs ≡ [] → Busy m t None vs
  begins vs e = rw e (refl, some)

  begins_point : (sp : Setpoint) (tp : Teachpoint) (p : Teachpoints (Option V)) → Holding m t (WaitTwo sp p) L
      → Holding m t (BusyTwo sp tp None p) (λ x. cond (discards_by x Point tp) [] (L x))
  begins_point sp Tp1 p h = ((refl, some), h.1)
  begins_point sp Tp2 p h = ((refl, some), h.0)

  applies : (f : Flags) (sp : Setpoint) (p : Teachpoints (Option V)) (c : Command) (x y : Option V)
      → AtPoint m t x (L (point Tp1)) → AtPoint m t y (L (point Tp2))
      → Each (RowOwed m U t L b (WaitTwo sp p) (record c { step = Apply })) (applied m f t sp x y)
  applies f sp p c None y h i = tt
  applies f sp p c (Some x) None h i = tt
  applies f sp p c (Some x) (Some y) h i = λ u. (
    λ _. refl,
    (refl, refl),
    (
      h.0,
      i.0,
      of_extremes m (L (point Tp1)) _ _ h.1
          (λ low high d. of_extremes m (L (point Tp2)) _ _ i.1
          (λ low' high' e. u _ _ sp _ (λ j. moved Idle Keep (evaluate_two m t sp (d j) (e j))))),
    ),
  )

  stops : (sp : Setpoint) (s : Span V) (c : Command) → Holding m t (WaitDyn sp s) L
      → RowOwed m U t L b (WaitDyn sp s) (record c { step = Stop })
      (moved Idle Keep (evaluate_dynamic m t sp s.lowest s.highest))
  stops sp s c h u = (
    λ x. refl,
    (refl, refl),
    of_extremes m (L whole) _ _ h (λ low high e. u _ _ sp _
        (λ j. moved Idle Keep (evaluate_dynamic m t sp (e j).lowest (e j).highest))),
  )

  abbrev RowsOwed : Flags → State V → Step → Command → Type 0
  RowsOwed f s z c = Each (RowOwed m U t L b s (record c { step = z })) (row m f t s z c)

  -- each row of the table
  pub row_owed : (f : Flags) (s : State V) (z : Step) (c : Command) → Holding m t s L → Began s b → RowsOwed f s z c
  row_owed f Idle Single c h i = λ u. (begins (L whole) (h whole), (refl, refl), refl)
  row_owed f Idle Point c h i = λ u. (begins_point c.setpoint c.teachpoint no_points (tt, tt), (refl, refl), refl)
  row_owed f Idle Start c h i = λ u. (refl, (refl, refl), refl)
  row_owed f Idle z c h i = tt
  row_owed f (BusySingle sp k) z c h i = tt
  row_owed f (BusyTwo sp tp k p) z c h i = tt
  row_owed f (WaitTwo sp p) Point c h i =
      each_test (RowOwed m U t L b (WaitTwo sp p) (record c { step = Point })) (same_setpoint sp c.setpoint)
      (Some (moved (BusyTwo sp c.teachpoint None p) Keep Open)) (λ u. (begins_point sp c.teachpoint p h, i, refl))
  row_owed f (WaitTwo sp p) Apply c h i =
      each_test (RowOwed m U t L b (WaitTwo sp p) (record c { step = Apply })) (both_set f sp)
      (applied m f t sp p.tp1 p.tp2) (applies f sp p c p.tp1 p.tp2 h.0 h.1)
  row_owed f (WaitTwo sp p) Cancel c h i = λ u. (λ x. refl, (refl, refl), refl)
  row_owed f (WaitTwo sp p) z c h i = tt
  row_owed f (DynStart sp) z c h i = tt
  row_owed f (WaitDyn sp s) Start c h i =
      each_test (RowOwed m U t L b (WaitDyn sp s) (record c { step = Start })) (same_setpoint sp c.setpoint)
      (Some (moved (DynStart sp) Keep Open)) (λ u. (refl, i, refl))
  row_owed f (WaitDyn sp s) Stop c h i = each_test (RowOwed m U t L b (WaitDyn sp s) (record c { step = Stop }))
      (same_setpoint sp c.setpoint) (Some (moved Idle Keep (evaluate_dynamic m t sp s.lowest s.highest)))
      (stops sp s c h)
  row_owed f (WaitDyn sp s) Cancel c h i = λ u. (λ x. refl, (refl, refl), refl)
  row_owed f (WaitDyn sp s) z c h i = tt
