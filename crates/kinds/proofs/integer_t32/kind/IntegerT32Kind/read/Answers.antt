use Rattle.std.proofs.Common.{ℕ, Some, Option, ap, ◌∙◌, w32}
use Rattle.std.proofs.lemmas.Int.{to_z-of_z}
use Rattle.numbers.specs.Options.{when_some}
use Rattle.kinds.specs.Integers.{of_pattern}
use Rattle.kinds.specs.IntegerT32.{integer_t32}
use Rattle.kinds.specs.Same.{same_t32}
use Rattle.kinds.proofs.integer_t32.kind.IntegerT32Kind.read.Goals as goal

pub returns-in_err-pattern : goal.returns-in_err-pattern
returns-in_err-pattern c = c.from_residual.ensures
    ∙ ap (λ (o : Option ℕ). when_some o (of_pattern integer_t32)) c.in_err-pattern.ensures

pub returns : goal.returns
returns c =
    ap Some (same_t32 _ _ (to_z-of_z w32 c.cast_signed.result (record { sfits = c.cast_signed.type_inv })
    ∙ c.cast_signed.ensures))
    ∙ ap (λ (o : Option ℕ). when_some o (of_pattern integer_t32)) c.in_ok-pattern.ensures
