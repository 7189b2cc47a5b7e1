-- IntegerT16: whole numbers from -32,768 to 32,767, in two octets. No range goes past ±32,000.
use Rattle.std.specs.Prelude.{◌^◌, [], ◌∷◌, ℤ, pos, neg_ℤ}
use Rattle.std.proofs.Common.{lit<, lt→ltb, ltb→lt}
use Rattle.std.specs.Int.Signed.{mag}
use Rattle.std.specs.Int.{w16}
use Rattle.octets.specs.Numbers.{two}
use Rattle.kinds.specs.Integers.{Make, Within}
use Rattle.kinds.specs.declared.integer_t16.IntegerT16.{IntegerT16}

abbrev value_of : (z : ℤ) → Within 15 z → IntegerT16
value_of z h = record { value = z; within = lt→ltb (mag z) (2 ^ 15) h }

abbrev pub integer_t16 : Make IntegerT16
integer_t16 = record {
  word = w16;
  number = λ v. v.value;
  within = λ v. ltb→lt (mag v.value) (2 ^ 15) v.within;
  value = value_of;
  coding = two;
  lowest = value_of (neg_ℤ (pos 32000)) (lit< tt);
  highest = value_of (pos 32000) (lit< tt);
  below = 0x80 ∷ 0x08 ∷ [];
  above = 0x7f ∷ 0xf8 ∷ [];
  no_data = 0x7f ∷ 0xfc ∷ [];
}
