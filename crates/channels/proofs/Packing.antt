-- The octet of signals has no more bits than there are signals.
use Rattle.std.proofs.Common.{◌^◌, ◌<◌, ◌≤◌, Bool, true, false, List, [], ◌∷◌, length, arith, pow_mono}
use Rattle.std.proofs.Math.Nat.{pow-succ'}
use Rattle.channels.specs.Table.{packed}

pub packed_below : (bs : List Bool) → packed bs < 2 ^ length bs
packed_below [] = omega arith
packed_below (true ∷ bs) = omega (arith, packed_below bs, pow-succ' 2 (length bs))
packed_below (false ∷ bs) = omega (arith, packed_below bs, pow-succ' 2 (length bs))

-- seven signals leave a bit free
pub packed_small : (bs : List Bool) → length bs ≤ 7 → packed bs < 128
packed_small bs h = let p : 2 ^ length bs ≤ 2 ^ 7 = pow_mono h in omega (arith, packed_below bs, p)
