-- Values that may not be there.
use Rattle.std.proofs.Common.{◌≡◌, Bool, true, false, Some, None, Option, sym, refl, ap, true≢false}
use Rattle.std.proofs.lemmas.Option.{none-some}
use Rattle.std.proofs.Math.Bool.{Bool-set}
use Rattle.numbers.specs.Options.{when_some, when_true}

-- what came of a value came of some value
pub some_of : {A B : Type 0} (o : Option A) (f : A → Option B) (v : B) → when_some o f ≡ Some v → (a : A) × (o ≡ Some a)
some_of (Some a) f v e = (a, refl)
some_of None f v e = absurd (none-some v e)

-- a test that passed, by whatever proof, and one that failed
pub when_passed : {A : Type 0} (t : Bool) (f : t ≡ true → A) (h : t ≡ true) → when_true t f ≡ Some (f h)
when_passed true f h = ap (λ (e : true ≡ true). Some (f e)) (Bool-set true true refl h)
when_passed false f h = absurd (true≢false (sym h))

pub when_failed : {A : Type 0} (t : Bool) (f : t ≡ true → A) → t ≡ false → when_true t f ≡ None
when_failed true f h = absurd (true≢false h)
when_failed false f h = refl
