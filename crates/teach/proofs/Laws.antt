-- The promises of the teach.
use Rattle.std.proofs.Common.{◌≡◌, ℕ, ◌+◌, ◌<◌, Bool, true, false, cond, List, [], ◌∷◌, length, Some, None, Ok, Err}
use Rattle.std.proofs.Common.{Option, Result, refl, ap, ◌∙◌, subst, arith, le-leb}
use Rattle.std.proofs.lemmas.Bool.{cond-false, cond-true, lt-leb}
use Rattle.kinds.specs.Meaning.{Meaning, Lawful}
use Rattle.teach.specs.declared.capture.Captured.{Captured}
use Rattle.teach.specs.declared.command.Setpoint.{Setpoint}
use Rattle.teach.specs.declared.machine.State.{State}
use Rattle.teach.specs.declared.machine.State.TheVariants.{Idle, BusySingle, BusyTwo, WaitTwo}
use Rattle.teach.specs.declared.machine.Verdict.TheVariants.{Fails, Stores}
use Rattle.teach.specs.declared.terms.Terms.{Terms}
use Rattle.teach.specs.Captures.{with_value}
use Rattle.teach.specs.Evaluation.{teachpoint_of}
use Rattle.teach.specs.Machine.{Moved, fed, full}
use Rattle.teach.specs.Teachpoints.{with_teachpoint}
use Rattle.faults.specs.declared.Fault.{Fault}
use Rattle.teach.specs.declared.teaching.Teach.{Teach}
use Rattle.teach.specs.Teaching.{store_by, teach_by}
use Rattle.teach.specs.Promises.{is_busy, fed_all, TakesExactlyC, Between, EvaluatesWithin}

abbrev counted : {V : Type 0} → Option (Captured V) → ℕ
counted None = 0
counted (Some k) = k.count

-- ---- a capture that goes on as busy and ends as over, once C values are taken
module _ {V : Type 0} (m : Meaning V) (t : Terms) (busy : Option (Captured V) → State V) (over : Captured V → State V)
    (steps : (k : Option (Captured V)) (v : V)
    → (fed m t (busy k) v).state ≡ cond (full m t (with_value m k v)) (over (with_value m k v))
    (busy (Some (with_value m k v))))
    (busies : (k : Option (Captured V)) → is_busy (busy k) ≡ true) (ended : (k : Captured V) → is_busy (over k) ≡ false)
  where
    count_more : (k : Option (Captured V)) (v : V) → (with_value m k v).count ≡ counted k + 1
    count_more None v = refl
    count_more (Some k) v = refl

    goes_on : (k : Option (Captured V)) (v : V) → counted k + 1 < t.capture
        → (fed m t (busy k) v).state ≡ busy (Some (with_value m k v))
    goes_on k v h = steps k v ∙ cond-false _ _ _
        (lt-leb t.capture (with_value m k v).count (omega (arith, count_more k v)))

    is_over : (k : Option (Captured V)) (v : V) → counted k + 1 ≡ t.capture
        → (fed m t (busy k) v).state ≡ over (with_value m k v)
    is_over k v h = steps k v ∙ cond-true _ _ _
        (le-leb t.capture (with_value m k v).count (omega (arith, count_more k v)))

    fewer : (vs : List V) (k : Option (Captured V)) → counted k + length vs < t.capture
        → is_busy (fed_all m t (busy k) vs) ≡ true
    fewer [] k h = busies k
    fewer (v ∷ vs) k h =
        ap (λ s. is_busy (fed_all m t s vs)) (goes_on k v (omega arith))
        ∙ fewer vs (Some (with_value m k v)) (omega (arith, count_more k v))

    all_of_them : (vs : List V) (k : Option (Captured V)) → counted k + length vs ≡ t.capture → 0 < length vs
        → is_busy (fed_all m t (busy k) vs) ≡ false
    all_of_them [] k h p = absurd (omega arith)
    all_of_them (v ∷ []) k h p = ap is_busy (is_over k v (omega arith)) ∙ ended (with_value m k v)
    all_of_them (v ∷ w ∷ vs) k h p =
        ap (λ s. is_busy (fed_all m t s (w ∷ vs))) (goes_on k v (omega arith))
        ∙ all_of_them (w ∷ vs) (Some (with_value m k v)) (omega (arith, count_more k v)) (omega arith)

pub takes_exactly_c : {V : Type 0} (m : Meaning V) (t : Terms) → TakesExactlyC m t
takes_exactly_c m t = (
  λ sp vs. (
    λ h. fewer m t (BusySingle sp) (λ k. Idle) (single sp) (λ k. refl) (λ k. refl) vs None (omega arith),
    λ h p. all_of_them m t (BusySingle sp) (λ k. Idle) (single sp) (λ k. refl) (λ k. refl) vs None (omega arith) p,
  ),
  λ sp tp p vs. (
    λ h. fewer m t (λ k. BusyTwo sp tp k p)
        (λ k. WaitTwo sp (with_teachpoint p tp (Some (teachpoint_of m t k.span.lowest k.span.highest)))) (two sp tp p)
        (λ k. refl) (λ k. refl) vs None (omega arith),
    λ h q. all_of_them m t (λ k. BusyTwo sp tp k p)
        (λ k. WaitTwo sp (with_teachpoint p tp (Some (teachpoint_of m t k.span.lowest k.span.highest)))) (two sp tp p)
        (λ k. refl) (λ k. refl) vs None (omega arith) q,
  ),
)
  where
    state_if : {V : Type 0} (b : Bool) (x y : Moved V) → (cond b x y).state ≡ cond b x.state y.state
    state_if true x y = refl
    state_if false x y = refl

    single : (sp : Setpoint) (k : Option (Captured _)) (v : _)
        → (fed m t (BusySingle sp k) v).state
        ≡ cond (full m t (with_value m k v)) Idle (BusySingle sp (Some (with_value m k v)))
    single sp k v = state_if (full m t (with_value m k v)) _ _

    two : (sp : Setpoint) (tp : _) (p : _) (k : Option (Captured _)) (v : _)
        → (fed m t (BusyTwo sp tp k p) v).state
        ≡ cond (full m t (with_value m k v))
        (WaitTwo sp (with_teachpoint p tp
        (Some (teachpoint_of m t (with_value m k v).span.lowest (with_value m k v).span.highest))))
        (BusyTwo sp tp (Some (with_value m k v)) p)
    two sp tp p k v = state_if (full m t (with_value m k v)) _ _

-- ---- evaluations
module _ {V : Type 0} (m : Meaning V) (l : Lawful V m) (t : Terms) where
  stored_is : (b : Bool) (sp s : Setpoint) (x v : V) → cond b Fails (Stores sp x) ≡ Stores s v → x ≡ v
  stored_is true sp s x v h = cc
  stored_is false sp s x v h = cc

  middle_between : (a b v : V) → m.middle a b ≡ v → Between m t a b v
  middle_between a b v e = subst (λ x. Between m t a b x) e (l.middle_low a b, l.middle_high a b)

  pub evaluates_within : EvaluatesWithin m t
  evaluates_within sp s a b v = (
    λ h. middle_between a b v (stored_is _ sp s (m.middle a b) v h),
    λ h. middle_between a b v (stored_is _ sp s (m.middle a b) v h),
    λ h. middle_between a b v (stored_is _ sp s (m.middle a b) v h),
  )

-- ---- a command that is denied leaves the teach as it was
module _ {V : Type 0} (t : Teach V) where
  pub command_denied : (x : Result (Moved V) Fault) (f : Fault) → Err f ≡ store_by x → teach_by t x ≡ t
  command_denied (Err e) f h = refl
  command_denied (Ok x) f h = cc
