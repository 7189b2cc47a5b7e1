use Rattle.std.proofs.Common.{rules, ◌+◌, ◌≤◌, length, ◌∷◌, ◌++◌, map, drop, vec_items, refl, sym, ap, ◌∙◌, append-nil}
use Rattle.std.proofs.lemmas.List.{at_drop_all, at_drop_more}
use Rattle.sensor.specs.Rules.{after, entries}
use Rattle.bench_sensor.specs.Told.{call_of, sensor_of}
use Rattle.days.specs.Entries.{entry_told}
use Rattle.days.proofs.Entering.{carried, entered, on_err, reaches_here, untold}
use Rattle.days.proofs.day.enter_all.Goals as goal

pub loop-line-init : goal.loop-line-init
loop-line-init g c = (
  ap (λ z. map entry_told z ++ entries g.K.Kind.meaning c.args.bench.now.sensor (map call_of c.args.lines.now))
      c.in_ok-log.ensures.items,
  refl,
  λ t r. r,
)

pub loop-line-preserved : goal.loop-line-preserved
loop-line-preserved g c =
    let m = g.K.Kind.meaning in
    let lines = c.args.lines.now in
    let i = c.loop-line.line-index in
    let s = sensor_of c.loop-line.bench in
    let log = vec_items c.loop-line.log in
    let item = c.line-item.result in
    let test = c.loop-line-test.true in
    let left = drop (i + 1) lines in (
      entered m s (sensor_of c.enter.new.bench) log (vec_items c.push.new.self) c.in_ok-entry.entry item left
          c.in_ok-push.ensures.items c.in_ok-entry.ensures.entry c.in_ok-entry.ensures.sensor
          ∙ ap (λ z. map entry_told log ++ entries m s (map call_of (z ∷ left))) c.line-item.is
          ∙ sym (at_drop_more (λ z. map entry_told log ++ entries m s (map call_of z)) lines i item test)
          ∙ c.loop-line.invariant.0,
      ap (λ t. after m t (map call_of left)) c.in_ok-entry.ensures.sensor
          ∙ ap (λ z. after m s (map call_of (z ∷ left))) c.line-item.is
          ∙ sym (at_drop_more (λ z. after m s (map call_of z)) lines i item test)
          ∙ c.loop-line.invariant.1,
      carried m s (sensor_of c.enter.new.bench) (sensor_of c.args.bench.now) (call_of item) (map call_of left)
          (map call_of (drop i lines)) (map call_of lines) c.in_ok-entry.ensures.sensor
          (ap (λ z. map call_of (z ∷ left)) c.line-item.is ∙ sym (at_drop_more (map call_of) lines i item test))
          c.loop-line.invariant.2,
    )

pub returns-in_err-log-clause-part : goal.returns-in_err-log-clause-part
returns-in_err-log-clause-part g c =
    on_err c.from_residual.result _
    (reaches_here g.K.Kind.meaning (sensor_of c.args.bench.now) (map call_of c.args.lines.now))

pub returns-in_err-entry-clause-part : goal.returns-in_err-entry-clause-part
returns-in_err-entry-clause-part g c =
    let m = g.K.Kind.meaning in
    let lines = c.args.lines.now in
    let i = c.loop-line.line-index in
    let s = sensor_of c.loop-line.bench in
    let u = sensor_of c.enter.new.bench in
    let item = c.line-item.result in
    let left = drop (i + 1) lines in
    let all = ap (λ z. map call_of (z ∷ left)) c.line-item.is
    ∙ sym (at_drop_more (map call_of) lines i item c.loop-line-test.true) in
    let led = untold m s (sensor_of c.args.bench.now) u (call_of item) (map call_of left) (map call_of (drop i lines))
    (map call_of lines) all c.loop-line.invariant.2 c.in_err-entry.ensures.part in
    on_err c.from_residual-in_err-entry.result _ led

pub returns-in_err-push-clause-part : goal.returns-in_err-push-clause-part
returns-in_err-push-clause-part g c =
    let m = g.K.Kind.meaning in
    let lines = c.args.lines.now in
    let i = c.loop-line.line-index in
    let s = sensor_of c.loop-line.bench in
    let u = sensor_of c.enter.new.bench in
    let item = c.line-item.result in
    let left = drop (i + 1) lines in
    let all = ap (λ z. map call_of (z ∷ left)) c.line-item.is
    ∙ sym (at_drop_more (map call_of) lines i item c.loop-line-test.true) in
    let led = carried m s u (sensor_of c.args.bench.now) (call_of item) (map call_of left) (map call_of (drop i lines))
    (map call_of lines) c.in_ok-entry.ensures.sensor all c.loop-line.invariant.2 u
    (reaches_here m u (map call_of left)) in
    on_err c.from_residual-in_err-push.result _ led

pub returns-clause-log : goal.returns-clause-log
returns-clause-log g c =
    let log = map entry_told (vec_items c.loop-line.log) in
    let done : length c.args.lines.now ≤ c.loop-line.line-index = search rules in
    sym (append-nil log)
    ∙ sym (at_drop_all (λ z. log ++ entries g.K.Kind.meaning (sensor_of c.loop-line.bench) (map call_of z))
    c.args.lines.now c.loop-line.line-index done)
    ∙ c.loop-line.invariant.0

pub returns-clause-sensor : goal.returns-clause-sensor
returns-clause-sensor g c =
    let done : length c.args.lines.now ≤ c.loop-line.line-index = search rules in
    sym (at_drop_all (λ z. after g.K.Kind.meaning (sensor_of c.loop-line.bench) (map call_of z))
    c.args.lines.now c.loop-line.line-index done)
    ∙ c.loop-line.invariant.1
