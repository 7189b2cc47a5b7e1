use Rattle.std.proofs.Common.{rules}
use Rattle.isdu.specs.Views.{asks}
use Rattle.isdu.proofs.Least.{promised}
use Rattle.isdu.proofs.composing.compose.Goals as goal

pub returns-clause-reads_back : goal.returns-clause-reads_back
returns-clause-reads_back c = (promised (asks c.args.request.now) _ c.args.out.now _ c.send_request.ensures.index
    (search rules) c.send_request.ensures.buffer).reads_back

pub returns-clause-shortest : goal.returns-clause-shortest
returns-clause-shortest c = (promised (asks c.args.request.now) _ c.args.out.now _ c.send_request.ensures.index
    (search rules) c.send_request.ensures.buffer).shortest
