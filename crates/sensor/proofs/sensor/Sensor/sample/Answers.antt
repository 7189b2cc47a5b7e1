use Rattle.std.proofs.Common.{◌≡◌, length, Some, ap, ◌∙◌, rules}
use Rattle.octets.specs.Buffers.{over}
use Rattle.sensor.specs.Answers.{counted}
use Rattle.sensor.specs.Calls.{sample}
use Rattle.sensor.specs.Lent.{lent_reading}
use Rattle.sensor.specs.Rules.{carried, checked, checked_by, device_by, next_by, sample_written, written_by}
use Rattle.sensor.specs.Samples.{reading_of, sample_asked}
use Rattle.sensor.proofs.Sizes.{device_fits}
use Rattle.sensor.proofs.sensor.Sensor.sample.Goals as goal

pub sample-requires : goal.sample-requires
sample-requires g c = search (rules, device_fits)

pub returns : goal.returns
unfolding checked
returns g c =
    let m = g.K.Kind.meaning in
    let d = c.in_ok-device.device.now in
    let out = c.args.out.now in
    let r = lent_reading c.args.reading in
    let call = sample r (length out) in
    let device-is : Some d ≡ c.args.self.now.device = search rules in
    let reading-is : Some c.in_ok-reading.reading ≡ reading_of m r = search rules in
    let e = ap (λ y. carried m d (sample_asked m d y (length out))) reading-is in
    record {
      reply =
          c.sample.ensures.reply
          ∙ ap (λ x. counted (sample_written m d x) x) e
          ∙ ap (λ o. counted (written_by m o call (checked_by m o call)) (checked_by m o call)) device-is;
      sensor =
          ap (λ y. record { device = Some y }) (c.sample.ensures.device ∙ ap (device_by m d) e)
          ∙ ap (λ o. record { device = next_by m o (checked_by m o call) }) device-is;
      buffer =
          c.sample.ensures.buffer
          ∙ ap (λ x. over (sample_written m d x) out) e
          ∙ ap (λ o. over (written_by m o call (checked_by m o call)) out) device-is;
    }
