use Rattle.std.proofs.Common.{ℕ, Some, Option, ap, ◌∙◌, w16}
use Rattle.std.proofs.lemmas.Int.{to_z-of_z}
use Rattle.numbers.specs.Options.{when_some}
use Rattle.kinds.specs.Integers.{of_pattern}
use Rattle.kinds.specs.IntegerT16.{integer_t16}
use Rattle.kinds.specs.Same.{same_t16}
use Rattle.kinds.proofs.integer_t16.kind.IntegerT16Kind.read.Goals as goal

pub returns : goal.returns
returns c =
    ap Some (same_t16 _ _ (to_z-of_z w16 c.cast_signed.result (record { sfits = c.cast_signed.type_inv })
    ∙ c.cast_signed.ensures))
    ∙ ap (λ (o : Option ℕ). when_some o (of_pattern integer_t16)) c.in_ok-pattern.ensures
