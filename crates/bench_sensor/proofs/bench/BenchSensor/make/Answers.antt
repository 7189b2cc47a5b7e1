use Rattle.std.proofs.Common.{length, sym, ap, rules}
use Rattle.sensor.specs.Calls.{close_keypad, open_keypad, request, restart, sample, set_up, write_keypad}
use Rattle.sensor.specs.Lent.{lent_reading, lent_setup}
use Rattle.bench_sensor.specs.Told.{called}
use Rattle.bench_sensor.proofs.Keeping.{stays}
use Rattle.bench_sensor.proofs.Replies.{buffer_stays, plain_told, request_told, sample_told}
use Rattle.bench_sensor.proofs.Sizes.{sensor_fits}
use Rattle.bench_sensor.proofs.bench.BenchSensor.make.Goals as goal

-- ---- a set-up

pub returns-in-SetUp-clause-reply : goal.returns-in-SetUp-clause-reply
returns-in-SetUp-clause-reply g c =
    let room = length c.args.out.now in
    plain_told g.K.Kind.meaning c.args.self.now.sensor (set_up (lent_setup c.in-SetUp.setup)) (called c.args.call room)
    c.set_up.result c.plainly.result tt
    c.plainly.ensures c.set_up.ensures.reply (ap (λ k. called k room) (sym c.in-SetUp.is))

pub returns-in-SetUp-clause-buffer : goal.returns-in-SetUp-clause-buffer
returns-in-SetUp-clause-buffer g c =
    let out = c.args.out.now in
    buffer_stays g.K.Kind.meaning c.args.self.now.sensor (set_up (lent_setup c.in-SetUp.setup))
    (called c.args.call (length out)) out tt
    (ap (λ k. called k (length out)) (sym c.in-SetUp.is))

pub invariant_of-self : goal.invariant_of-self
invariant_of-self g c = record {
  kept = stays g.K.Kind.meaning c.args.self.now.sensor c.set_up.new.self c.args.self.now.ticket
      (set_up (lent_setup c.in-SetUp.setup)) tt c.args.self.now.kept
      c.set_up.ensures.sensor;
}

-- ---- a sample

pub returns-in-Sample-clause-reply : goal.returns-in-Sample-clause-reply
returns-in-Sample-clause-reply g c =
    let room = length c.args.out.now in
    sample_told g.K.Kind.meaning c.args.self.now.sensor (lent_reading c.in-Sample.reading) room
    (called c.args.call room) c.sample.result c.counted.result
    c.counted.ensures c.sample.ensures.reply (ap (λ k. called k room) (sym c.in-Sample.is))

pub sample-requires : goal.sample-requires
sample-requires g c = search (rules, sensor_fits)

pub invariant_of-self-in-Sample : goal.invariant_of-self-in-Sample
invariant_of-self-in-Sample g c = record {
  kept = stays g.K.Kind.meaning c.args.self.now.sensor c.sample.new.self c.args.self.now.ticket
      (sample (lent_reading c.in-Sample.reading) (length c.args.out.now)) tt
      c.args.self.now.kept c.sample.ensures.sensor;
}

-- ---- a request

pub returns-in-Request-clause-reply : goal.returns-in-Request-clause-reply
returns-in-Request-clause-reply g c =
    let room = length c.args.out.now in
    request_told g.K.Kind.meaning c.args.self.now.sensor c.in-Request.frame.now room (called c.args.call room)
    c.request.result c.responded.result
    c.responded.ensures c.request.ensures.reply (ap (λ k. called k room) (sym c.in-Request.is))

pub request-requires : goal.request-requires
request-requires g c = search (rules, sensor_fits)

pub invariant_of-self-in-Request : goal.invariant_of-self-in-Request
invariant_of-self-in-Request g c = record {
  kept = stays g.K.Kind.meaning c.args.self.now.sensor c.request.new.self c.args.self.now.ticket
      (request c.in-Request.frame.now (length c.args.out.now)) tt
      c.args.self.now.kept c.request.ensures.sensor;
}

-- ---- keypad calls

pub returns-in-OpenKeypad-clause-buffer : goal.returns-in-OpenKeypad-clause-buffer
returns-in-OpenKeypad-clause-buffer g c =
    let out = c.args.out.now in
    buffer_stays g.K.Kind.meaning c.args.self.now.sensor open_keypad (called c.args.call (length out)) out tt
    (ap (λ k. called k (length out)) (sym c.in-OpenKeypad.is))

pub returns-in-WriteKeypad-clause-buffer : goal.returns-in-WriteKeypad-clause-buffer
returns-in-WriteKeypad-clause-buffer g c =
    let out = c.args.out.now in
    let w = c.in-WriteKeypad in
    buffer_stays g.K.Kind.meaning c.args.self.now.sensor (write_keypad w.serial w.channel w.setpoint w.octets.now)
    (called c.args.call (length out)) out tt
    (ap (λ k. called k (length out)) (sym w.is))

pub returns-in-CloseKeypad-clause-buffer : goal.returns-in-CloseKeypad-clause-buffer
returns-in-CloseKeypad-clause-buffer g c =
    let out = c.args.out.now in
    buffer_stays g.K.Kind.meaning c.args.self.now.sensor (close_keypad c.in-CloseKeypad.serial)
    (called c.args.call (length out)) out tt
    (ap (λ k. called k (length out)) (sym c.in-CloseKeypad.is))

-- ---- a warm restart

pub returns-in-Restart-clause-reply : goal.returns-in-Restart-clause-reply
returns-in-Restart-clause-reply g c =
    let room = length c.args.out.now in
    plain_told g.K.Kind.meaning c.args.self.now.sensor restart (called c.args.call room) c.warm_restart.result
    c.plainly-in-Restart.result tt
    c.plainly-in-Restart.ensures c.warm_restart.ensures.reply (ap (λ k. called k room) (sym c.in-Restart.is))

pub returns-in-Restart-clause-buffer : goal.returns-in-Restart-clause-buffer
returns-in-Restart-clause-buffer g c =
    let out = c.args.out.now in
    buffer_stays g.K.Kind.meaning c.args.self.now.sensor restart (called c.args.call (length out)) out tt
    (ap (λ k. called k (length out)) (sym c.in-Restart.is))

pub warm_restart-requires : goal.warm_restart-requires
warm_restart-requires g c = search (rules, sensor_fits)

pub invariant_of-self-in-Restart : goal.invariant_of-self-in-Restart
invariant_of-self-in-Restart g c = record {
  kept = stays g.K.Kind.meaning c.args.self.now.sensor c.warm_restart.new.self c.args.self.now.ticket restart tt
      c.args.self.now.kept
      c.warm_restart.ensures.sensor;
}
