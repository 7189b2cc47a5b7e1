-- A list whose first n items are changed one by one, the last of them first.
use Rattle.std.proofs.Common.{◌≡◌, ℕ, zero, suc, ◌<◌, List, [], ◌∷◌, ◌++◌, length, take, drop, map, set, get_or, refl}
use Rattle.std.proofs.Common.{ap, arith}

-- the first i items as they are, those from i to n changed, the rest as they are
abbrev pub changed_from : {X : Type 0} → (X → X) → List X → ℕ → ℕ → List X
changed_from f xs n i = take i xs ++ map f (drop i (take n xs)) ++ drop n xs

module _ {X : Type 0} (f : X → X) where
  pub one_more : (xs : List X) (n i : ℕ) (d : X) → i < n → i < length xs
      → set (changed_from f xs n (suc i)) i (f (get_or xs i d)) ≡ changed_from f xs n i
  one_more [] n i d h k = absurd (omega arith)
  one_more (x ∷ xs) zero i d h k = absurd (omega arith)
  one_more (x ∷ xs) (suc n) zero d h k = refl
  one_more (x ∷ xs) (suc n) (suc i) d h k = ap (λ l. x ∷ l) (one_more xs n i d (omega arith) (omega arith))

  pub item_at : (xs : List X) (n i : ℕ) (d : X) → i < n → i < length xs
      → get_or (changed_from f xs n (suc i)) i d ≡ get_or xs i d
  item_at [] n i d h k = absurd (omega arith)
  item_at (x ∷ xs) zero i d h k = absurd (omega arith)
  item_at (x ∷ xs) (suc n) zero d h k = refl
  item_at (x ∷ xs) (suc n) (suc i) d h k = item_at xs n i d (omega arith) (omega arith)

module _ {X : Type 0} where
  pub drop_one : (xs : List X) (n i : ℕ) (d : X) → i < n → i < length xs
      → drop i (take n xs) ≡ get_or xs i d ∷ drop (suc i) (take n xs)
  drop_one [] n i d h k = absurd (omega arith)
  drop_one (x ∷ xs) zero i d h k = absurd (omega arith)
  drop_one (x ∷ xs) (suc n) zero d h k = refl
  drop_one (x ∷ xs) (suc n) (suc i) d h k = drop_one xs n i d (omega arith) (omega arith)
