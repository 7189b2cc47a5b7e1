-- Two turns in a row of a Single Point or Window channel come at values more than its hysteresis apart.
use Rattle.std.proofs.Common.{◌≡◌, ℕ, Bool, true, false, cond, not, ◌&&◌, ◌||◌, ◌⊎◌, List, [], ◌∷◌, ◌≤ℤ◌, ◌<ℤ◌, Some}
use Rattle.std.proofs.Common.{Ok, Result, sym, refl, ap, ◌∙◌, inl, inr, ⊎_elim, arith}
use lib.Signed.{le_z}
use Rattle.std.proofs.lemmas.Int.{ints}
use Rattle.faults.specs.declared.Fault.{Fault}
use Rattle.kinds.specs.Meaning.{Meaning, Lawful, at_most, under, lesser, greater}
use Rattle.channels.specs.declared.reading.Reading.TheVariants.{Value}
use Rattle.channels.specs.declared.row.Row.{Row}
use Rattle.channels.specs.Judging.{judged, state_after}
use Rattle.teach.specs.Machine.{Moved}
use Rattle.sensor.specs.declared.sensor.Sensor.{Sensor}
use Rattle.sensor.specs.Calls.{Act, Call, samples}
use Rattle.sensor.specs.Rules.{after, blank, checked, next}
use Rattle.laws.specs.Events.{row_of, touches}
use Rattle.laws.specs.Turns.{Apart, Still, TurnsApart}
use Rattle.laws.proofs.Settings.{sets_up, turned, went}
use Rattle.laws.proofs.Steps.{hold, row_turned, turning}

module _ {V : Type 0} (m : Meaning V) (l : Lawful V m) where
  -- w lies below v lowered by n
  below_apart : (n : ℕ) (v w : V) → m.rank w <ℤ m.rank (m.lowered v n) → Apart m n v w × Apart m n w v
  below_apart n v w lt =
      let d : m.rank (m.lowered v n) ≤ℤ m.rank v = l.lowered_down v n in
      let e : le_z (m.rank v) (m.rank w) ≡ false = grind (arith, ints) in
      let f : le_z (m.rank w) (m.rank v) ≡ true = grind (arith, ints) in
      (rw e (inr lt), rw f (inr lt))

  -- w lies above v raised by n
  above_apart : (n : ℕ) (v w : V) → m.rank (m.raised v n) <ℤ m.rank w → Apart m n v w × Apart m n w v
  above_apart n v w lt =
      let d : m.rank v ≤ℤ m.rank (m.raised v n) = l.raised_up v n in
      let e : le_z (m.rank v) (m.rank w) ≡ true = grind (arith, ints) in
      let f : le_z (m.rank w) (m.rank v) ≡ false = grind (arith, ints) in
      (rw e (inl lt), rw f (inl lt))

  -- the state that a value leaves in Single Point at p, and in Window from a to b, where it was s
  abbrev single : V → ℕ → Bool → V → Bool
  single p n s v = cond (at_most m p v) true (cond (under m v (m.lowered p n)) false s)

  abbrev window : V → V → ℕ → Bool → V → Bool
  window a b n s v = cond (at_most m a v && at_most m v b) true
      (cond (under m v (m.lowered a n) || under m (m.raised b n) v) false s)

  single_on : (p : V) (n : ℕ) (v : V) → single p n false v ≡ true → m.rank p ≤ℤ m.rank v
  single_on p n v e = grind (arith, ints)

  single_off : (p : V) (n : ℕ) (v : V) → single p n true v ≡ false → m.rank v <ℤ m.rank (m.lowered p n)
  single_off p n v e = grind (arith, ints)

  window_on : (a b : V) (n : ℕ) (v : V) → window a b n false v ≡ true → (m.rank a ≤ℤ m.rank v) × (m.rank v ≤ℤ m.rank b)
  window_on a b n v e = (grind (arith, ints), grind (arith, ints))

  window_off : (a b : V) (n : ℕ) (v : V) → window a b n true v ≡ false → (m.rank v <ℤ m.rank (m.lowered a n))
      ⊎ (m.rank (m.raised b n) <ℤ m.rank v)
  window_off a b n v e = grind (arith, ints)

  -- a value that activates and one that deactivates, under the same settings
  single_apart : (p : V) (n : ℕ) (v w : V) → single p n false v ≡ true → single p n true w ≡ false → Apart m n v w
      × Apart m n w v
  single_apart p n v w on off =
      let o = l.lowered_order p v n (single_on p n v on) in
      let f = single_off p n w off in
      below_apart n v w (omega (arith, ints))

  window_apart : (a b : V) (n : ℕ) (v w : V) → window a b n false v ≡ true → window a b n true w ≡ false → Apart m n v w
      × Apart m n w v
  window_apart a b n v w on off =
      let o = window_on a b n v on in
      let down = l.lowered_order a v n o.0 in
      let up = l.raised_order v b n o.1 in
      ⊎_elim (λ f. below_apart n v w (omega (arith, ints))) (λ f. above_apart n v w (omega (arith, ints)))
      (window_off a b n w off)

  -- two turns, whichever comes first
  either_way : (f : Bool → V → Bool) (n : ℕ)
      → ((v w : V) → f false v ≡ true → f true w ≡ false → Apart m n v w × Apart m n w v) → (s : Bool) (v w : V)
      → f s v ≡ not s → f (not s) w ≡ s → Apart m n v w
  either_way f n h true v w off on = (h w v on off).1
  either_way f n h false v w on off = (h v w on off).0

  single_after : (r : Row V) (v : V) → r.mode ≡ 1 → state_after m v r ≡ single r.sp1 r.hysteresis r.active v
  single_after r v e = rw e

  window_after : (r : Row V) (v : V) → r.mode ≡ 2
      → state_after m v r ≡ window (lesser m r.sp1 r.sp2) (greater m r.sp1 r.sp2) r.hysteresis r.active v
  window_after r v e = rw e

  not_not : (a : Bool) → not (not a) ≡ a
  not_not true = refl
  not_not false = refl

  -- what the second turn says, once the first has flipped the state
  second : (f : Bool → V → Bool) (s s' : Bool) (w : V) → s' ≡ not s → f s' w ≡ not s' → f (not s) w ≡ s
  second f s s' w e h = ap (λ a. f a w) (sym e) ∙ h ∙ ap not e ∙ not_not s

  -- a row that flips at v, and then at w
  flips_apart : (r : Row V) (v w : V) → (r.mode ≡ 1) ⊎ (r.mode ≡ 2) → state_after m v r ≡ not r.active
      → state_after m w (judged m (Value v) r) ≡ not (state_after m v r) → Apart m r.hysteresis v w
  flips_apart r v w (inl e) p q =
      let f = single r.sp1 r.hysteresis in
      either_way f r.hysteresis (single_apart r.sp1 r.hysteresis) r.active v w
      (sym (single_after r v e) ∙ p)
      (second f r.active (state_after m v r) w p (sym (single_after (judged m (Value v) r) w e) ∙ q))
  flips_apart r v w (inr e) p q =
      let f = window (lesser m r.sp1 r.sp2) (greater m r.sp1 r.sp2) r.hysteresis in
      either_way f r.hysteresis (window_apart (lesser m r.sp1 r.sp2) (greater m r.sp1 r.sp2) r.hysteresis) r.active v w
      (sym (window_after r v e) ∙ p)
      (second f r.active (state_after m v r) w p (sym (window_after (judged m (Value v) r) w e) ∙ q))

module _ {V : Type 0} (m : Meaning V) where
  -- a row stands through calls in which its channel is still
  still_row : (s : Sensor V) (k : ℕ) (r : Row V) (cs : List Call) → row_of s k ≡ Some r → Still m k s cs
      → row_of (after m s cs) k ≡ Some r
  still_row s k r [] e q = e
  still_row s k r (c ∷ cs) e q = still_row (next m s c) k r cs (hold m s k r (checked m s c) e q.0 q.1 q.2) q.3

  -- after a turn the row is the one that its value judged
  turned_row : (s : Sensor V) (k : ℕ) (r : Row V) (x : Result (Act V) Fault) (v : V) (g : Moved V)
      → x ≡ Ok (samples (Value v) g) → touches k s x ≡ false → row_of s k ≡ Some r
      → row_of (went m s x) k ≡ Some (judged m (Value v) r)
  turned_row s k r x v g i u e =
      row_turned m s k r x (ap sets_up i) u e ∙ ap (λ y. Some (turned m y r)) i

  pub turns_apart : Lawful V m → (cs : List Call) → TurnsApart m cs
  turns_apart l cs k before c v between d w rest r _ two =
      let s = after m blank before in
      let t = after m (next m s c) between in
      let one = turning m s k r (checked m s c) v two.row two.first in
      let row_first = turned_row s k r (checked m s c) v one.0 one.1 two.untouched two.row in
      let row_second = still_row (next m s c) k (judged m (Value v) r) between row_first two.still in
      let other = turning m t k (judged m (Value v) r) (checked m t d) w row_second two.second in
      flips_apart m l r v w two.mode one.2 other.2
