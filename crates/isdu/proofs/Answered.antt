-- What an answer says of the tests before it.
use Rattle.std.proofs.Common.{◌≡◌, Bool, true, false, cond, Ok, Err, Result, arith}
use Rattle.faults.specs.declared.Fault.{Fault}

pub no_answer : {A : Type 0} (e : Fault) (x : A) → ◌≡◌ {A = Result A Fault} (Err e) (Ok x) → ⊥
no_answer e x h = grind arith

-- a test that denies was passed
pub passed : {A : Type 0} (b : Bool) (e : Fault) (r : Result A Fault) (x : A) → cond b (Err e) r ≡ Ok x → (b ≡ false)
    × (r ≡ Ok x)
passed b e r x h = grind arith

-- a test that admits was met
pub met : {A : Type 0} (b : Bool) (e : Fault) (r : Result A Fault) (x : A) → cond b r (Err e) ≡ Ok x → (b ≡ true)
    × (r ≡ Ok x)
met b e r x h = grind arith

pub same_answer : {A : Type 0} (x y : A) → ◌≡◌ {A = Result A Fault} (Ok x) (Ok y) → x ≡ y
same_answer x y h = cc
