use Rattle.std.proofs.Common.{set, sym, ap, ◌∙◌, arith}
use Rattle.std.proofs.lemmas.List.Edits.{map_over_more}
use Rattle.channels.specs.Table.{inactive_row}
use Rattle.channels.proofs.table.Table.make_inactive.Goals as goal

pub loop-row-preserved : goal.loop-row-preserved
loop-row-preserved g c =
    let i = c.loop-row.row-index in
    let rows = c.loop-row.row-items in
    ap (λ r. set rows i (inactive_row r)) (sym c.row-item.is)
    ∙ map_over_more inactive_row _ rows i c.row-item.result (omega arith) c.loop-row.invariant c.row-item.is
