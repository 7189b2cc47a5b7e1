use Rattle.std.proofs.Common.{◌≡◌, ◌≤◌, map, take, drop}
use Rattle.channels.specs.Judging.{judged, signal}
use Rattle.channels.specs.Table.{packed}
use Rattle.channels.proofs.Backward.{changed_from}
use Rattle.channels.proofs.table.Table.judge.Given as goal

-- the rows from i on are judged, and their signals packed
abbrev pub invariant-loop-i : goal.invariant-loop-i
invariant-loop-i g l = record {
  within : l.i ≤ l.n;
  count_kept : l.self.count ≡ l.initial.self.count;
  rows_judged : l.self.rows ≡ changed_from (judged g.K.Kind.meaning l.reading) l.initial.self.rows l.n l.i;
  signals_packed : l.signals ≡ packed (map signal
      (map (judged g.K.Kind.meaning l.reading) (drop l.i (take l.n l.initial.self.rows))));
}
