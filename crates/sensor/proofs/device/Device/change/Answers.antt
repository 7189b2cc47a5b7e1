use Rattle.std.proofs.Common.{Err, ap, ◌∙◌}
use Rattle.std.proofs.lemmas.Result.{err_from_is_err_and}
use Rattle.objects.specs.Lent.{lent_content}
use Rattle.objects.specs.Writes.{settings_checked}
use Rattle.sensor.specs.Devices.{with_channels}
use Rattle.sensor.proofs.Orders.{settings_denied, settings_written}
use Rattle.sensor.proofs.device.Device.change.Goals as goal

pub returns-in_err-row : goal.returns-in_err-row
returns-in_err-row g c =
    let m = g.K.Kind.meaning in
    let d = c.args.self.now in
    let p = err_from_is_err_and c.from_residual.result c.from_residual.ensures.1 in
    let ss = settings_checked m d.range c.args.place.index (lent_content c.args.content) in
    let e = settings_denied m d c.args.channel ss c.present_row-row.result.now c.in_err-row.field-0.0
    c.in_err-row.ensures in
    record { reply = p.1 ∙ ap Err p.2 ∙ e.0; device = e.1 }

pub returns : goal.returns
returns g c =
    let m = g.K.Kind.meaning in
    let d = c.args.self.now in
    let ss = settings_checked m d.range c.args.place.index (lent_content c.args.content) in
    let e = settings_written m d c.args.channel ss c.present_row-row.result.now c.in_ok-row.row
    c.present_row-row.ensures c.in_ok-row.ensures in
    record { reply = e.0; device = ap (with_channels d) c.replace.ensures ∙ e.1 }
