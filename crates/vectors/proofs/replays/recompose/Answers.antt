use Rattle.std.proofs.Common.{rules, ◌≡◌, Ok, ◌∙◌}
use Rattle.isdu.specs.Views.{asks}
use Rattle.isdu.proofs.Callers.{composed_front}
use Rattle.vectors.proofs.replays.recompose.Goals as goal

pub returns : goal.returns
returns c =
    let answer : Ok c.in_ok-n.n ≡ c.compose.result = search rules in
    let front = composed_front (asks c.args.request.now) 238 c.in_ok-n.n _ c.compose.new.out
    (answer ∙ c.compose.ensures.answer) (rw (← answer) at c.compose.ensures.buffer) in
    search rules
