-- A call asks for the same in both runs.
use Rattle.std.proofs.Common.{◌≡◌, [], sym, refl, ap, ◌∙◌}
use Rattle.kinds.specs.Meaning.{Meaning}
use Rattle.teach.specs.Teaching.{idle}
use Rattle.sensor.specs.declared.device.Device.{Device}
use Rattle.sensor.specs.Calls.{Call, restart}
use Rattle.sensor.specs.Rules.{asked}

module _ {V : Type 0} where
  -- a device without its teach and its rows
  abbrev pub bare : Device V → Device V
  bare d = record d { teach = idle; channels = record { rows = []; count = d.channels.count } }

module _ {V : Type 0} (m : Meaning V) where
  -- the checks that do not concern the teach look at no more
  asked_bare : (d : Device V) (c : Call) → asked m (bare d) c ≡ asked m d c
  asked_bare d restart = refl
  asked_bare d c = refl

  pub asked_same : (d e : Device V) (c : Call) → bare e ≡ bare d → asked m e c ≡ asked m d c
  asked_same d e c i = sym (asked_bare e c) ∙ ap (λ x. asked m x c) i ∙ asked_bare d c
