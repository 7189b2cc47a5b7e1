use Rattle.std.proofs.Common.{rules, ℕ, ◌≡◌, ◌*◌, ◌%◌, ◌^◌, true, Option, Some, None, nat_lt, sym, ap, ◌∙◌, ltb-false}
use Rattle.std.proofs.Common.{ltb-true}
use Rattle.std.specs.Option.{is_some, IfSome}
use Rattle.std.proofs.lemmas.Option.{IfSome_then}
use Rattle.std.specs.Float.{binary32}
use Rattle.std.specs.Float.Ieee.{of_bits}
use Rattle.numbers.specs.Floats.{proper, plain}
use Rattle.numbers.proofs.Options.{when_passed, when_failed}
use Rattle.numbers.proofs.Patterns.{below_infinity, from_infinity}
use Rattle.kinds.specs.Float32T.{value_of, read_pattern}
use Rattle.kinds.specs.Same.{same_float}
use Rattle.kinds.specs.declared.float32_t.Float32T.{Float32T}
use Rattle.kinds.proofs.float32_t.kind.value_of.Goals as goal

read_is : (b : ℕ) (o : Option Float32T) → is_some o ≡ nat_lt (b % 2 ^ 31) (255 * 2 ^ 23)
    → IfSome o (λ v. v.value ≡ plain (of_bits binary32 b)) → o ≡ read_pattern b
read_is b None e s =
    let x = plain (of_bits binary32 b) in
    sym (when_failed (proper x) (value_of x) (from_infinity b (ltb-false (b % 2 ^ 31) (255 * 2 ^ 23) (sym e))))
read_is b (Some v) e s =
    let x = plain (of_bits binary32 b) in
    let h : proper x ≡ true = below_infinity b (ltb-true (b % 2 ^ 31) (255 * 2 ^ 23) (sym e)) in
    ap Some (same_float v (value_of x h) s) ∙ sym (when_passed (proper x) (value_of x) h)

pub returns : goal.returns
returns c =
    let some = IfSome_then c.then.result {Q = λ v. v.value ≡ plain (of_bits binary32 c.args.pattern)}
    c.then.ensures.some (λ v l. search rules) in
    read_is c.args.pattern c.then.result (c.then.ensures.variant ∙ c.is_finite.ensures) some
