use Rattle.std.proofs.Common.{sym, ap, ◌∙◌, subst, rules}
use Rattle.objects.specs.Lent.{lent_written}
use Rattle.objects.specs.Objects.{WrittenHasRow}
use Rattle.sensor.specs.Answers.{plain}
use Rattle.sensor.specs.Requests.{write_asked}
use Rattle.sensor.specs.Rules.{carried, device_by}
use Rattle.sensor.proofs.device.Device.write.Goals as goal

pub change-requires : goal.change-requires
change-requires g c = let row = subst (WrittenHasRow c.args.self.now.channels) c.in-Channel.is c.requires in
    search rules

pub returns-in-Command : goal.returns-in-Command
returns-in-Command g c =
    let m = g.K.Kind.meaning in
    let d = c.args.self.now in
    let e = ap (λ w. carried m d (write_asked m d c.args.place (lent_written w))) (sym c.in-Command.is) in
    record { reply = c.command.ensures.reply ∙ ap plain e; device = c.command.ensures.device ∙ ap (device_by m d) e }

pub returns-in-Select : goal.returns-in-Select
returns-in-Select g c =
    let m = g.K.Kind.meaning in
    let d = c.args.self.now in
    let e = ap (λ w. carried m d (write_asked m d c.args.place (lent_written w))) (sym c.in-Select.is) in
    record { reply = c.select.ensures.reply ∙ ap plain e; device = c.select.ensures.device ∙ ap (device_by m d) e }

pub returns-in-Channel : goal.returns-in-Channel
returns-in-Channel g c =
    let m = g.K.Kind.meaning in
    let d = c.args.self.now in
    let e = ap (λ w. carried m d (write_asked m d c.args.place (lent_written w))) (sym c.in-Channel.is) in
    record { reply = c.change.ensures.reply ∙ ap plain e; device = c.change.ensures.device ∙ ap (device_by m d) e }
