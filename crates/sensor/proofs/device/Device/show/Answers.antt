use Rattle.std.proofs.Common.{◌+◌, ◌≤◌, length, refl, sym, ◌∙◌, arith, subst}
use Rattle.std.specs.Option.{IsSome}
use Rattle.isdu.proofs.Callers.{read_confirmed}
use Rattle.objects.specs.Reads.{OneToEight}
use Rattle.sensor.specs.Requests.{octets_shown}
use Rattle.sensor.proofs.Behind.{behind_count, behind_put, behind_some}
use Rattle.sensor.proofs.Reading.{read_shown}
use Rattle.sensor.proofs.device.Device.show.Goals as goal

pub unwrap-n-requires : goal.unwrap-n-requires
unwrap-n-requires g c =
    let ds = octets_shown g.K.Kind.meaning c.args.self.now c.args.shown in
    let shown : OneToEight ds = read_shown g.K.Kind.meaning g.met.K.Kind.lawful c.args.self.now c.args.shown
    c.requires.row in
    subst IsSome (behind_some ds c.args.out.now (omega (arith, shown, c.requires.room)) ∙ sym c.read.ensures.answer)
    refl

pub returns : goal.returns
returns g c =
    let ds = octets_shown g.K.Kind.meaning c.args.self.now c.args.shown in
    let shown : OneToEight ds = read_shown g.K.Kind.meaning g.met.K.Kind.lawful c.args.self.now c.args.shown
    c.requires.row in
    let xs = c.args.out.now in
    let room : length ds + 1 ≤ length xs = omega (arith, shown, c.requires.room) in
    let count = behind_count ds xs room c.read.result c.unwrap-n.result c.read.ensures.answer c.unwrap-n.ensures in
    let whole = read_confirmed ds xs _ shown.0 (omega (arith, shown)) (omega (arith, shown, c.requires.room))
    (behind_put ds xs room c.read.new.out c.read.ensures.buffer) c.confirm_read.result c.unwrap-n.result
    c.confirm_read.new.out
    count c.confirm_read.ensures.answer c.confirm_read.ensures.buffer in
    record { reply = whole.0; buffer = whole.1 }
