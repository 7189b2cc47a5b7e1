use Rattle.std.proofs.Common.{subst, rules}
use Rattle.objects.specs.Objects.{ShownHasRow}
use Rattle.sensor.proofs.device.Device.read.Goals as goal

pub present_row-requires : goal.present_row-requires
present_row-requires g c = let row = subst (ShownHasRow c.args.self.now.channels) c.in-Channel.is c.requires in
    search rules
