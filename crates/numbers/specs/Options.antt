-- Values that may not be there.
use Rattle.std.specs.Prelude.{◌≡◌, Bool, true, false, Some, None, Option, refl}

-- what comes of a value, where there is one
abbrev pub when_some : {A B : Type 0} → Option A → (A → Option B) → Option B
when_some (Some a) f = f a
when_some None f = None

-- a value that is there where a test passes
abbrev pub when_true : {A : Type 0} → (t : Bool) → (t ≡ true → A) → Option A
when_true true f = Some (f refl)
when_true false f = None
