-- The lower of two values is at most each of them, and the higher at least.
use Rattle.std.proofs.Common.{◌≡◌, Bool, true, false, cond, ◌≤ℤ◌, refl}
use Rattle.std.specs.Int.Signed.{le_z, ≤ℤ_refl}
use Rattle.numbers.proofs.Signs.{at_most, at_least}
use Rattle.kinds.specs.Meaning.{Meaning, lesser, greater}

module _ {V : Type 0} (m : Meaning V) (v w : V) where
  pub lesser_bounds : (m.rank (lesser m v w) ≤ℤ m.rank v) × (m.rank (lesser m v w) ≤ℤ m.rank w)
  lesser_bounds = go (le_z (m.rank v) (m.rank w)) refl
    where
      go : (b : Bool) → le_z (m.rank v) (m.rank w) ≡ b → (m.rank (cond b v w) ≤ℤ m.rank v)
          × (m.rank (cond b v w) ≤ℤ m.rank w)
      go true e = (≤ℤ_refl (m.rank v), at_most (m.rank v) (m.rank w) e)
      go false e = (at_least (m.rank v) (m.rank w) e, ≤ℤ_refl (m.rank w))

  pub greater_bounds : (m.rank v ≤ℤ m.rank (greater m v w)) × (m.rank w ≤ℤ m.rank (greater m v w))
  greater_bounds = go (le_z (m.rank v) (m.rank w)) refl
    where
      go : (b : Bool) → le_z (m.rank v) (m.rank w) ≡ b → (m.rank v ≤ℤ m.rank (cond b w v))
          × (m.rank w ≤ℤ m.rank (cond b w v))
      go true e = (at_most (m.rank v) (m.rank w) e, ≤ℤ_refl (m.rank w))
      go false e = (≤ℤ_refl (m.rank v), at_least (m.rank v) (m.rank w) e)
