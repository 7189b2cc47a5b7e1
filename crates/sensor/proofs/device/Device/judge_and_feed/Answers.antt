use Rattle.std.proofs.Common.{ap, ◌∙◌}
use Rattle.channels.specs.Table.{signals_octet}
use Rattle.sensor.specs.Devices.{after_step, with_channels}
use Rattle.sensor.specs.Samples.{heard}
use Rattle.sensor.proofs.device.Device.judge_and_feed.Goals as goal

pub returns : goal.returns
returns g c = record {
  signals = c.judge-signals.ensures.signals ∙ ap signals_octet c.judge-signals.ensures.table;
  device = c.feed.ensures ∙ ap (λ t. after_step (with_channels c.args.self.now t)
      (heard g.K.Kind.meaning c.args.self.now c.args.reading)) c.judge-signals.ensures.table;
}
