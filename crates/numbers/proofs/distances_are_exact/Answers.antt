use Rattle.numbers.proofs.Moves.{distances_exact}
use Rattle.numbers.proofs.distances_are_exact.Goals as goal

pub returns : goal.returns
returns c = distances_exact
