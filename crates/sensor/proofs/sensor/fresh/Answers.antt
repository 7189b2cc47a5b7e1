use Rattle.std.proofs.Common.{ap, ◌∙◌, w8, SFits, of_z, rules}
use Rattle.std.proofs.lemmas.Int.{to_z-of_z}
use Rattle.sensor.proofs.sensor.fresh.Goals as goal

pub returns : goal.returns
returns g c =
    let s = c.args.setup.now in
    let scale-fits : SFits w8 s.scale = search rules in
    λ i. record {
      terms = s.terms;
      scale = (c.cast_unsigned.ensures ∙ ap (of_z w8) (to_z-of_z w8 s.scale scale-fits)) i;
      keypad = c.closed.ensures i;
      selected = 1;
      range = c.args.range;
      teach = c.idle.ensures i;
      channels = c.fresh.ensures i;
    }
