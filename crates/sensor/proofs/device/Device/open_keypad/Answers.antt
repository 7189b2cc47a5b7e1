use Rattle.std.proofs.Common.{ap, ◌∙◌}
use Rattle.keypad.specs.Operations.{opened_by, opening_checked}
use Rattle.sensor.proofs.Keypads.{opened_device}
use Rattle.sensor.proofs.device.Device.open_keypad.Goals as goal

pub returns-clause-device : goal.returns-clause-device
returns-clause-device g c =
    let d = c.args.self.now in
    ap (λ k. record d { keypad = k }) c.open.ensures.keypad
    ∙ ap (λ b. record d { keypad = opened_by d.keypad (opening_checked d.keypad b) }) c.is_idle.ensures
    ∙ opened_device g.K.Kind.meaning d
