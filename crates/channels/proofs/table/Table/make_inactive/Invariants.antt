use Rattle.std.proofs.Common.{◌≡◌, ◌++◌, map, take, drop}
use Rattle.channels.specs.Table.{inactive_row}
use Rattle.channels.proofs.table.Table.make_inactive.Given as goal

-- the rows so far are inactive
abbrev pub invariant-loop-row : goal.invariant-loop-row
invariant-loop-row g l = l.row-items ≡ map inactive_row (take l.row-index l.initial.row-items)
    ++ drop l.row-index l.initial.row-items
