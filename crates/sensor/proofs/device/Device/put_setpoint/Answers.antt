use Rattle.std.proofs.Common.{◌≡◌, [], ◌∷◌, sym, ap, ◌∙◌}
use Rattle.channels.specs.Table.{with_row}
use Rattle.objects.specs.Writes.{with_setting}
use Rattle.sensor.specs.Devices.{on_row, setpoint_setting, with_channels}
use Rattle.sensor.proofs.device.Device.put_setpoint.Goals as goal
use Rattle.sensor.proofs.device.Device.put_setpoint.Goals.{in-Sp1, in-Sp2}

pub returns : goal.returns
returns g c =
    let d = c.args.self.now in
    let k = c.args.channel in
    let sp = c.args.setpoint in
    let v = c.args.value in
    let r = c.in-Some.row in
    let row_is : c.match-setpoint.row ≡ with_setting r (setpoint_setting sp v) = elim c.match-setpoint.branch [
      | in-Sp1 w ↦ w.row-is ∙ ap (λ x. with_setting r (setpoint_setting x v)) (sym w.in-Sp1.is)
      | in-Sp2 w ↦ w.row-is ∙ ap (λ x. with_setting r (setpoint_setting x v)) (sym w.in-Sp2.is)
    ] in
    ap (with_channels d) (c.replace.ensures ∙ ap (with_row d.channels k) row_is
    ∙ ap (on_row d.channels k (setpoint_setting sp v ∷ [])) c.in-Some.ensures)
