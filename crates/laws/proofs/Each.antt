-- What holds of a row of the command table, if there is one.
use Rattle.std.proofs.Common.{◌≡◌, Bool, true, false, cond, Some, None, Option, subst}

module _ {A : Type 0} where
  abbrev pub Each : (A → Type 0) → Option A → Type 0
  Each Q None = Unit {0}
  Each Q (Some a) = Q a

  pub each_test : (Q : A → Type 0) (b : Bool) (o : Option A) → Each Q o → Each Q (cond b o None)
  each_test Q true o q = q
  each_test Q false o q = tt

  pub each_at : (Q : A → Type 0) (o : Option A) (a : A) → o ≡ Some a → Each Q o → Q a
  each_at Q o a e q = subst (Each Q) e q
