-- Whole numbers by a sign and a size.
use Rattle.std.proofs.Common.{◌≡◌, ℕ, suc, ◌+◌, ◌≤◌, Bool, true, false, T, ℤ, pos, negsuc, ◌+ℤ◌, neg_ℤ, nat_abs, ◌≤ℤ◌}
use Rattle.std.proofs.Common.{sym, subst, arith}
use Rattle.std.specs.Int.Signed.{le_z, le_z_yes}
use Rattle.std.proofs.lemmas.Int.{ints}
use Rattle.numbers.specs.Floats.{signed}

pub signed_size : (s : Bool) (n : ℕ) → nat_abs (signed s n) ≡ n
signed_size s n = grind (arith, ints)

pub sum_size : (y z : ℤ) → nat_abs (y +ℤ z) ≤ nat_abs y + nat_abs z
sum_size y z = grind (arith, ints)

-- f on both sides of zero
abbrev pub mirrored : (ℕ → ℕ) → ℤ → ℤ
mirrored f (pos n) = pos (f n)
mirrored f (negsuc n) = neg_ℤ (pos (f (suc n)))

pub mirrored_signed : (f : ℕ → ℕ) (s : Bool) (n : ℕ) → f 0 ≡ 0 → mirrored f (signed s n) ≡ signed s (f n)
mirrored_signed f s n e = grind (arith, ints, e)

pub mirrored_order : (f : ℕ → ℕ) → ((a b : ℕ) → a ≤ b → f a ≤ f b) → (y z : ℤ) → y ≤ℤ z → mirrored f y ≤ℤ mirrored f z
mirrored_order f m y z h = grind (arith, ints, m)

pub mirrored_back : (f : ℕ → ℕ) → ((a b : ℕ) → f a ≤ f b → a ≤ b) → (y z : ℤ) → mirrored f y ≤ℤ mirrored f z → y ≤ℤ z
mirrored_back f m (pos a) (pos b) h = let k : f a ≤ f b = omega (arith, ints) in omega (arith, ints, m a b k)
mirrored_back f m (pos a) (negsuc b) h = absurd (let k : f (suc b) ≤ f 0 = omega (arith, ints) in
    omega (arith, m (suc b) 0 k))
mirrored_back f m (negsuc a) (pos b) h = omega (arith, ints)
mirrored_back f m (negsuc a) (negsuc b) h = let k : f (suc b) ≤ f (suc a) = omega (arith, ints) in
    omega (arith, ints, m (suc b) (suc a) k)

-- ---- the order of whole numbers, by its test
pub at_most : (a b : ℤ) → le_z a b ≡ true → a ≤ℤ b
at_most a b e = le_z_yes (subst T (sym e) tt)

pub at_least : (a b : ℤ) → le_z a b ≡ false → b ≤ℤ a
at_least a b e = grind (arith, ints)

pub add_order : (a b c : ℤ) → a ≤ℤ b → (a +ℤ c) ≤ℤ (b +ℤ c)
add_order a b c h = omega (arith, ints)
