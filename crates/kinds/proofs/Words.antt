-- A number read from the bits of a word fits the word.
use Rattle.std.proofs.Common.{ℕ, ◌^◌, T, ltb, lt→ltb, to_z}
use Rattle.std.specs.Int.{Width}
use Rattle.std.specs.Int.Signed.{mag}
use mir.Val.{hbits}
use Rattle.numbers.proofs.Wholes.{read_within}

pub word_within : (w : Width) (n : ℕ) → T (ltb (mag (to_z w n)) (2 ^ hbits w))
word_within w n = lt→ltb _ _ (read_within w n)
