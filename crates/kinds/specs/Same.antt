-- Two values of a make are equal where their numbers are: the fact beside a number has one proof.
use Rattle.std.specs.Prelude.{◌≡◌, ◌^◌, true, T, nat_lt}
use Rattle.std.proofs.Math.Bool.{Bool-set}
use mathlib.Core.HLevel.{is_prop→PathP}
use Rattle.std.proofs.Math.Dec.{T_prop}
use Rattle.std.specs.Int.Signed.{mag}
use Rattle.numbers.specs.Floats.{proper}
use Rattle.kinds.specs.declared.float32_t.Float32T.{Float32T}
use Rattle.kinds.specs.declared.integer_t16.IntegerT16.{IntegerT16}
use Rattle.kinds.specs.declared.integer_t32.IntegerT32.{IntegerT32}

pub same_t16 : (v w : IntegerT16) → v.value ≡ w.value → v ≡ w
same_t16 v w p = λ i. record {
  value = p i;
  within =
      is_prop→PathP (λ j. T (nat_lt (mag (p j)) (2 ^ 15))) (λ j. T_prop (nat_lt (mag (p j)) (2 ^ 15)))
      v.within w.within i;
}

pub same_t32 : (v w : IntegerT32) → v.value ≡ w.value → v ≡ w
same_t32 v w p = λ i. record {
  value = p i;
  within =
      is_prop→PathP (λ j. T (nat_lt (mag (p j)) (2 ^ 31))) (λ j. T_prop (nat_lt (mag (p j)) (2 ^ 31)))
      v.within w.within i;
}

pub same_float : (v w : Float32T) → v.value ≡ w.value → v ≡ w
same_float v w p = λ i. record {
  value = p i;
  allowed =
      is_prop→PathP (λ j. proper (p j) ≡ true) (λ j. Bool-set (proper (p j)) true)
      v.allowed w.allowed i;
}
