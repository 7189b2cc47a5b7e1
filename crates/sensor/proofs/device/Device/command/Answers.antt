use Rattle.std.proofs.Common.{Err, ap, ◌∙◌}
use Rattle.std.proofs.lemmas.Result.{err_from_is_err_and}
use Rattle.teach.specs.Teaching.{commanded}
use Rattle.sensor.specs.Devices.{stored, with_channels}
use Rattle.sensor.proofs.Orders.{command_denied, command_taken, with_teach}
use Rattle.sensor.proofs.device.Device.command.Goals as goal

pub returns-in_err-store : goal.returns-in_err-store
returns-in_err-store g c =
    let d = c.args.self.now in
    let p = err_from_is_err_and c.from_residual.result c.from_residual.ensures.1 in
    let h = c.in_err-store.ensures in
    let e = command_denied g.K.Kind.meaning d (commanded g.K.Kind.meaning d.terms c.args.place d.teach c.args.code)
    c.in_err-store.field-0.0 h.reply in
    record { reply = p.1 ∙ ap Err p.2 ∙ e.0; device = ap (with_teach d) h.teach ∙ e.1 }

pub returns : goal.returns
returns g c =
    let d = c.args.self.now in
    let h = c.in_ok-store.ensures in
    let s = c.in_ok-store.store in
    let e = command_taken g.K.Kind.meaning d (commanded g.K.Kind.meaning d.terms c.args.place d.teach c.args.code) s
    h.reply in
    record {
      reply = e.0;
      device = c.store.ensures ∙ ap (λ t. with_channels (with_teach d t) (stored d.channels d.selected s)) h.teach
          ∙ e.1;
    }
