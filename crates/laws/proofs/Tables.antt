-- The channel table: what a change leaves in a channel's row.
use Rattle.std.proofs.Common.{◌≡◌, ℕ, zero, suc, ◌-◌, ◌<◌, ◌≤◌, Bool, true, false, cond, ◌&&◌, eqb, leb, List, [], ◌∷◌}
use Rattle.std.proofs.Common.{◌++◌, map, take, drop, set, Some, None, Option, refl, ap, arith}
use Rattle.std.specs.Option.{option_map}
use Rattle.std.proofs.lemmas.Bool.{and_parts, eqb-false, leb-true}
use Rattle.kinds.specs.Meaning.{Meaning}
use Rattle.channels.specs.declared.reading.Reading.{Reading}
use Rattle.channels.specs.declared.row.Row.{Row}
use Rattle.channels.specs.declared.table.Table.{Table}
use Rattle.channels.specs.Judging.{judged}
use Rattle.channels.specs.Table.{has_channel, judged_table, nth, inactive_row, inactive_table, row_at, rows_present}
use Rattle.channels.specs.Table.{with_row}
use Rattle.teach.specs.declared.machine.Verdict.{Verdict}
use Rattle.teach.specs.declared.machine.Verdict.TheVariants.{Open, Fails, Stores}
use Rattle.teach.specs.Teaching.{store_of}
use Rattle.objects.specs.Writes.{Setting, with_settings}
use Rattle.sensor.specs.Devices.{with_settings_at, on_row, setpoint_setting, stored}
use Rattle.laws.specs.Events.{is_stored}

module _ {A : Type 0} where
  -- a list whose front is mapped
  nth_mapped : (f : A → A) (n : ℕ) (xs : List A) (j : ℕ) → j < n
      → nth (map f (take n xs) ++ drop n xs) j ≡ option_map f (nth xs j)
  nth_mapped f zero xs j h = absurd (omega arith)
  nth_mapped f (suc n) [] j h = refl
  nth_mapped f (suc n) (x ∷ xs) zero h = refl
  nth_mapped f (suc n) (x ∷ xs) (suc j) h = nth_mapped f n xs j (omega arith)

  nth_set_same : (xs : List A) (j : ℕ) (a b : A) → nth xs j ≡ Some a → nth (set xs j b) j ≡ Some b
  nth_set_same [] j a b e = cc
  nth_set_same (x ∷ xs) zero a b e = refl
  nth_set_same (x ∷ xs) (suc j) a b e = nth_set_same xs j a b e

  nth_set_other : (xs : List A) (i j : ℕ) (a : A) → (i ≡ j → ⊥) → nth (set xs i a) j ≡ nth xs j
  nth_set_other [] i j a h = refl
  nth_set_other (x ∷ xs) zero zero a h = absurd (h refl)
  nth_set_other (x ∷ xs) zero (suc j) a h = refl
  nth_set_other (x ∷ xs) (suc i) zero a h = refl
  nth_set_other (x ∷ xs) (suc i) (suc j) a h = nth_set_other xs i j a (λ e. h (ap suc e))

module _ {V : Type 0} where
  -- a channel that is there
  pub there : (t : Table V) (k : ℕ) → has_channel t k ≡ true → (1 ≤ k) × (k ≤ rows_present t)
  there t k h =
      let p = and_parts (leb 1 k) (leb k (rows_present t)) h in
      (leb-true 1 k p.0, leb-true k (rows_present t) p.1)

  every_row : (f : Row V → Row V) (t : Table V) (k : ℕ)
      → cond (has_channel t k) (nth (map f (take (rows_present t) t.rows) ++ drop (rows_present t) t.rows) (k - 1)) None
      ≡ option_map f (row_at t k)
  every_row f t k = go (has_channel t k) refl
    where
      go : (b : Bool) → has_channel t k ≡ b
          → cond b (nth (map f (take (rows_present t) t.rows) ++ drop (rows_present t) t.rows) (k - 1)) None
          ≡ option_map f (cond b (nth t.rows (k - 1)) None)
      go true h = nth_mapped f (rows_present t) t.rows (k - 1) (omega (arith, there t k h))
      go false h = refl

  pub judged_at : (m : Meaning V) (r : Reading V) (t : Table V) (k : ℕ)
      → row_at (judged_table m r t) k ≡ option_map (judged m r) (row_at t k)
  judged_at m r t k = every_row (judged m r) t k

  pub inactive_at : (t : Table V) (k : ℕ) → row_at (inactive_table t) k ≡ option_map inactive_row (row_at t k)
  inactive_at t k = every_row inactive_row t k

  some_row : (b : Bool) (o : Option (Row V)) (r : Row V) → cond b o None ≡ Some r → (b ≡ true) × (o ≡ Some r)
  some_row true o r e = (refl, e)
  some_row false o r e = cc

  pub row_there : (t : Table V) (k : ℕ) (r : Row V) → row_at t k ≡ Some r → (has_channel t k ≡ true)
      × (nth t.rows (k - 1) ≡ Some r)
  row_there t k r e = some_row (has_channel t k) (nth t.rows (k - 1)) r e

  pub replaced_at : (t : Table V) (k : ℕ) (r s : Row V) → row_at t k ≡ Some r → row_at (with_row t k s) k ≡ Some s
  replaced_at t k r s e =
      let p = row_there t k r e in
      rw p.0 (nth_set_same t.rows (k - 1) r s p.1)

  pub replaced_other : (t : Table V) (j k : ℕ) (s : Row V) → eqb j k ≡ false → row_at (with_row t j s) k ≡ row_at t k
  replaced_other t j k s e = go (has_channel t j) (has_channel t k) refl refl
    where
      go : (a b : Bool) → has_channel t j ≡ a → has_channel t k ≡ b
          → cond b (nth (cond a (set t.rows (j - 1) s) t.rows) (k - 1)) None ≡ cond b (nth t.rows (k - 1)) None
      go a false p q = refl
      go false true p q = refl
      go true true p q =
          let n : (j ≡ k → ⊥) = eqb-false j k e in
          nth_set_other t.rows (j - 1) (k - 1) s (λ i. n (omega (arith, there t j p, there t k q)))

  -- settings given to a channel
  pub given_at : (t : Table V) (k : ℕ) (ss : List (Setting V))
      → row_at (with_settings_at t k ss) k ≡ option_map (λ r. with_settings r ss) (row_at t k)
  given_at t k ss = go (row_at t k) refl
    where
      go : (o : Option (Row V)) → row_at t k ≡ o → row_at (on_row t k ss o) k ≡ option_map (λ r. with_settings r ss) o
      go None e = e
      go (Some r) e = replaced_at t k r (with_settings r ss) e

  pub given_other : (t : Table V) (j k : ℕ) (ss : List (Setting V)) → eqb j k ≡ false
      → row_at (with_settings_at t j ss) k ≡ row_at t k
  given_other t j k ss e = go (row_at t j)
    where
      go : (o : Option (Row V)) → row_at (on_row t j ss o) k ≡ row_at t k
      go None = refl
      go (Some r) = replaced_other t j k (with_settings r ss) e

  -- what a teach of another channel stores
  pub stored_other : (t : Table V) (j k : ℕ) (v : Verdict V) → (eqb j k && is_stored v) ≡ false
      → row_at (stored t j (store_of v)) k ≡ row_at t k
  stored_other t j k Open e = refl
  stored_other t j k Fails e = refl
  stored_other t j k (Stores sp v) e = given_other t j k (setpoint_setting sp v ∷ []) (go (eqb j k) e)
    where
      go : (b : Bool) → (b && true) ≡ false → b ≡ false
      go true e = e
      go false e = refl
