-- What the values of a kind mean, and the laws that every kind shows.
use Rattle.std.specs.Prelude.{◌≡◌, ℕ, Bool, cond, ◌⊎◌, List, length, ℤ, ◌≤ℤ◌, Some, Option, int_le, int_lt, Float}

pub record Meaning (V : Type 0) : Type 0 where
  -- how many octets a value has
  pub width : ℕ
  -- the whole number that a value means: values compare as their ranks do
  pub rank : V → ℤ
  -- the octets of a value, and the value that octets mean, if any
  pub octets : V → List ℕ
  pub read : List ℕ → Option V
  -- what a step is worth
  pub step : Float
  -- the value raised and lowered by a number of steps
  pub raised : V → ℕ → V
  pub lowered : V → ℕ → V
  -- the value midway between two
  pub middle : V → V → V
  -- the ends past which no range goes
  pub low_limit : V
  pub high_limit : V
  -- the octets that stand for a value below the range, above it, and for none
  pub below_substitute : List ℕ
  pub above_substitute : List ℕ
  pub no_data_substitute : List ℕ

module _ {V : Type 0} (m : Meaning V) where
  -- v is not above w
  abbrev pub at_most : V → V → Bool
  at_most v w = int_le (m.rank v) (m.rank w)

  -- v is below w
  abbrev pub under : V → V → Bool
  under v w = int_lt (m.rank v) (m.rank w)

  -- the lower and the higher of two values
  abbrev pub lesser : V → V → V
  lesser v w = cond (at_most v w) v w

  abbrev pub greater : V → V → V
  greater v w = cond (at_most v w) w v

pub record Lawful (V : Type 0) (m : Meaning V) : Type 0 where
  pub width_two_or_four : (m.width ≡ 2) ⊎ (m.width ≡ 4)
  -- every value and substitute has that many octets, and no other number of octets reads as a value
  pub octets_wide : (v : V) → length (m.octets v) ≡ m.width
  pub below_wide : length m.below_substitute ≡ m.width
  pub above_wide : length m.above_substitute ≡ m.width
  pub no_data_wide : length m.no_data_substitute ≡ m.width
  pub read_wide : (xs : List ℕ) (v : V) → m.read xs ≡ Some v → length xs ≡ m.width
  -- written octets read back as the value
  pub read_back : (v : V) → m.read (m.octets v) ≡ Some v
  -- equal ranks are equal values, and so have equal octets
  pub same_rank : (v w : V) → m.rank v ≡ m.rank w → v ≡ w
  -- raising never lands below the value, lowering never above; by 0 steps the value stays
  pub raised_up : (v : V) (n : ℕ) → m.rank v ≤ℤ m.rank (m.raised v n)
  pub lowered_down : (v : V) (n : ℕ) → m.rank (m.lowered v n) ≤ℤ m.rank v
  pub raised_none : (v : V) → m.raised v 0 ≡ v
  pub lowered_none : (v : V) → m.lowered v 0 ≡ v
  -- neither reverses the order of two values
  pub raised_order : (v w : V) (n : ℕ) → m.rank v ≤ℤ m.rank w → m.rank (m.raised v n) ≤ℤ m.rank (m.raised w n)
  pub lowered_order : (v w : V) (n : ℕ) → m.rank v ≤ℤ m.rank w → m.rank (m.lowered v n) ≤ℤ m.rank (m.lowered w n)
  -- a middle lies between its two values, whichever comes first
  pub middle_low : (v w : V) → m.rank (lesser m v w) ≤ℤ m.rank (m.middle v w)
  pub middle_high : (v w : V) → m.rank (m.middle v w) ≤ℤ m.rank (greater m v w)
