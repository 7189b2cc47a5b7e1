use Rattle.std.proofs.Common.{ap, ◌∙◌}
use Rattle.keypad.specs.Operations.{serial_of, ticket_checked}
use Rattle.sensor.proofs.Keypads.{closed_device}
use Rattle.sensor.proofs.device.Device.close_keypad.Goals as goal

pub returns-clause-device : goal.returns-clause-device
returns-clause-device g c =
    let d = c.args.self.now in
    ap (λ k. record d { keypad = k }) c.close.ensures.keypad
    ∙ closed_device g.K.Kind.meaning d (ticket_checked d.keypad (serial_of c.args.ticket))
