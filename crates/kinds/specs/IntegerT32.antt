-- IntegerT32: whole numbers from -2,147,483,648 to 2,147,483,647, in four octets. No range goes past ±2,000,000,000.
use Rattle.std.specs.Prelude.{◌^◌, [], ◌∷◌, ℤ, pos, neg_ℤ}
use Rattle.std.proofs.Common.{lit<, lt→ltb, ltb→lt}
use Rattle.std.specs.Int.Signed.{mag}
use Rattle.std.specs.Int.{w32}
use Rattle.octets.specs.Numbers.{four}
use Rattle.kinds.specs.Integers.{Make, Within}
use Rattle.kinds.specs.declared.integer_t32.IntegerT32.{IntegerT32}

abbrev value_of : (z : ℤ) → Within 31 z → IntegerT32
value_of z h = record { value = z; within = lt→ltb (mag z) (2 ^ 31) h }

abbrev pub integer_t32 : Make IntegerT32
integer_t32 = record {
  word = w32;
  number = λ v. v.value;
  within = λ v. ltb→lt (mag v.value) (2 ^ 31) v.within;
  value = value_of;
  coding = four;
  lowest = value_of (neg_ℤ (pos 2000000000)) (lit< tt);
  highest = value_of (pos 2000000000) (lit< tt);
  below = 0x80 ∷ 0x00 ∷ 0x00 ∷ 0x08 ∷ [];
  above = 0x7f ∷ 0xff ∷ 0xff ∷ 0xf8 ∷ [];
  no_data = 0x7f ∷ 0xff ∷ 0xff ∷ 0xfc ∷ [];
}
