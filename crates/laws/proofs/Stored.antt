-- What a teach stores lies from the lowest to the highest value captured in it.
use Rattle.std.proofs.Common.{◌≡◌, List, [], ◌∷◌, ◌≤ℤ◌, Some, None, Option, refl, ap, arith}
use Rattle.std.specs.List.{Contains}
use Rattle.std.proofs.lemmas.Bool.{cond_both}
use Rattle.std.proofs.lemmas.Int.{ints}
use Rattle.std.proofs.lemmas.List.Elements.{Contains-append_right}
use lib.Signed.{≤ℤ_refl}
use Rattle.kinds.specs.Meaning.{Meaning, Lawful, at_most}
use Rattle.teach.specs.declared.command.Setpoint.{Setpoint}
use Rattle.teach.specs.declared.command.Teachpoint.TheVariants.{Tp1, Tp2}
use Rattle.teach.specs.declared.machine.Verdict.TheVariants.{Stores}
use Rattle.teach.specs.declared.terms.Terms.{Terms}
use Rattle.sensor.specs.declared.device.Device.{Device}
use Rattle.sensor.specs.Calls.{Call}
use Rattle.sensor.specs.Rules.{after, blank, checked}
use Rattle.laws.specs.Events.{verdict_of}
use Rattle.laws.specs.Stores.{Purpose, StoredWithin, StoresWithinCaptured, captured, captured_with, captures, point}
use Rattle.laws.specs.Stores.{whole}
use Rattle.laws.specs.Taught.{Evaluation, OfExtremes, OfTaught, Says, StoresUnless, TaughtBy, dynamic, evaluation_of}
use Rattle.laws.specs.Taught.{highest, lowest, none, single, taught, two_value}
use Rattle.laws.proofs.Taught.{taught_from_captured}

on_taught : (o : Option Setpoint) (P : Setpoint → Type 0) (R : Type 0) → OfTaught o P → ((sp : Setpoint) → P sp → R) → R
on_taught None P R h f = absurd h
on_taught (Some sp) P R h f = f sp h

module _ {V : Type 0} (m : Meaning V) where
  first_in : (v : V) (vs : List V) → Contains (v ∷ vs) v
  first_in v vs = (0, omega arith, refl)

  lowest_in : (v : V) (vs : List V) → Contains (v ∷ vs) (lowest m v vs)
  lowest_in v [] = first_in v []
  lowest_in v (w ∷ ws) = cond_both (at_most m v (lowest m w ws)) v (lowest m w ws) (Contains (v ∷ (w ∷ ws)))
      (λ e. first_in v (w ∷ ws)) (λ e. Contains-append_right (v ∷ []) (w ∷ ws) (lowest m w ws) (lowest_in w ws))

  highest_in : (v : V) (vs : List V) → Contains (v ∷ vs) (highest m v vs)
  highest_in v [] = first_in v []
  highest_in v (w ∷ ws) = cond_both (at_most m v (highest m w ws)) (highest m w ws) v (Contains (v ∷ (w ∷ ws)))
      (λ e. Contains-append_right (v ∷ []) (w ∷ ws) (highest m w ws) (highest_in w ws)) (λ e. first_in v (w ∷ ws))

  on_extremes : (vs : List V) (P : V → V → Type 0) (R : Type 0) → OfExtremes m vs P
      → ((a b : V) → Contains vs a → Contains vs b → P a b → R) → R
  on_extremes [] P R h f = absurd h
  on_extremes (v ∷ vs) P R h f = f (lowest m v vs) (highest m v vs) (lowest_in v vs) (highest_in v vs) h

module _ {V : Type 0} (m : Meaning V) (l : Lawful V m) (before : List Call) (c : Call) where
  abbrev IsCaptured : V → Type 0
  IsCaptured a = (x : Purpose) × Contains (captured_with m x before c) a

  abbrev Low : V → Type 0
  Low a = (u : V) × IsCaptured u × (m.rank u ≤ℤ m.rank a)

  abbrev High : V → Type 0
  High a = (u : V) × IsCaptured u × (m.rank a ≤ℤ m.rank u)

  -- a lies from one captured value to another
  abbrev Within : V → Type 0
  Within a = Low a × High a

  itself : (x : Purpose) (a : V) → Contains (captured_with m x before c) a → Within a
  itself x a i = ((a, (x, i), ≤ℤ_refl _), (a, (x, i), ≤ℤ_refl _))

  earlier : (x : Purpose) (a : V) → Contains (captured m x before) a → Within a
  earlier x a i = itself x a (Contains-append_right (captures m x (after m blank before) c) (captured m x before) a i)

  low_of : (a b : V) → Low a → m.rank a ≤ℤ m.rank b → Low b
  low_of a b w h = (w.0, w.1, omega (arith, ints, w.2))

  high_of : (a b : V) → High a → m.rank b ≤ℤ m.rank a → High b
  high_of a b w h = (w.0, w.1, omega (arith, ints, w.2))

  middle_within : (a b : V) → Within a → Within b → Within (m.middle a b)
  middle_within a b p q = (
    cond_both (at_most m a b) a b (λ z. m.rank z ≤ℤ m.rank (m.middle a b) → Low (m.middle a b)) (λ e. low_of a _ p.0)
        (λ e. low_of b _ q.0) (l.middle_low a b),
    cond_both (at_most m a b) b a (λ z. m.rank (m.middle a b) ≤ℤ m.rank z → High (m.middle a b)) (λ e. high_of b _ q.1)
        (λ e. high_of a _ p.1) (l.middle_high a b),
  )

  module _ (sp : Setpoint) (v : V) (stores : verdict_of (checked m (after m blank before) c) ≡ Stores sp v) where
    unless_within : (F : Type 0) (y : Setpoint) (w : V) → StoresUnless m F (after m blank before) c y w → Within w
        → StoredWithin m before c sp v
    unless_within F y w u p =
        let k = u.stores (λ f. cc ((u.fails f).0)) in
        let i : y ≡ sp = cc in
        let j : w ≡ v = cc in
        record {
          held = cc;
          low = p.0.0;
          high = p.1.0;
          low_captured = p.0.1;
          high_captured = p.1.1;
          from_low = omega (arith, ints, p.0.2, ap m.rank j);
          to_high = omega (arith, ints, p.1.2, ap m.rank j);
        }

    says_within : (t : Terms) (e : Evaluation) → Says m t e before c → StoredWithin m before c sp v
    says_within t none h = cc
    says_within t single h =
        on_taught (taught m before) _ _ h
        (λ y h. on_extremes m (captured_with m whole before c) _ _ h
        (λ a b i j u. unless_within _ y _ u (middle_within a b (itself whole a i) (itself whole b j))))
    says_within t two_value h =
        on_taught (taught m before) _ _ h
        (λ y h. on_extremes m (captured m (point Tp1) before) _ _ h.2
        (λ a b i j k. on_extremes m (captured m (point Tp2) before) _ _ k
        (λ a' b' i' j' u. unless_within _ y _ u
        (middle_within (m.middle a b) (m.middle a' b')
        (middle_within a b (earlier (point Tp1) a i) (earlier (point Tp1) b j))
        (middle_within a' b' (earlier (point Tp2) a' i') (earlier (point Tp2) b' j'))))))
    says_within t dynamic h =
        on_taught (taught m before) _ _ h
        (λ y h. on_extremes m (captured m whole before) _ _ h
        (λ a b i j u. unless_within _ y _ u (middle_within a b (earlier whole a i) (earlier whole b j))))

    stored_within : (o : Option (Device V)) → TaughtBy m o before c → StoredWithin m before c sp v
    stored_within None h = cc
    stored_within (Some d) h = says_within d.terms (evaluation_of m d.terms before c) h

pub stores_within_captured : {V : Type 0} (m : Meaning V) → Lawful V m → (cs : List Call) → StoresWithinCaptured m cs
stores_within_captured m l cs before c rest sp v e stores =
    stored_within m l before c sp v stores (after m blank before).device (taught_from_captured m cs before c rest e)
