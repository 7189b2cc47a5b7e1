use Rattle.std.proofs.Common.{◌-◌, slice_index_or, Some, ap, ◌∙◌}
use Rattle.sensor.proofs.Reading.{row_some}
use Rattle.sensor.proofs.device.Device.present_row.Goals as goal

pub returns : goal.returns
returns g c =
    let rows = c.args.self.now.channels.rows in
    let r = c.index-rows-from.result in
    ap Some (c.index-rows-from.is ∙ ap (λ n. slice_index_or rows (n - 1) r) c.from.ensures)
    ∙ row_some c.args.self.now.channels c.args.channel r c.requires
