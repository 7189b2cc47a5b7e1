use Rattle.std.proofs.Common.{◌+ℤ◌, refl, ap₂}
use lib.Signed.{shr_z}
use Rattle.sensor.specs.Rules.{checked}
use Rattle.worked.proofs.Floats.{denies_not_a_number}
use Rattle.worked.proofs.bench_sessions.Goals as goal

pub returns : goal.returns
unfolding checked
returns c = (
  refl,
  refl,
  refl,
  refl,
  refl,
  refl,
  refl,
  refl,
  refl,
  refl,
  λ v w p q. ap₂ (λ a b. shr_z (a +ℤ b) 2) p q,
  denies_not_a_number,
)
