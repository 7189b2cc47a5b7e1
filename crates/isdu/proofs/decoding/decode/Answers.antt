use Rattle.std.proofs.Common.{◌≡◌, sym, ap, ◌∙◌, arith}
use Rattle.isdu.specs.Decoding.{decoded}
use Rattle.isdu.specs.Views.{told}
use Rattle.isdu.proofs.Agreement.{judged}
use Rattle.isdu.proofs.Balance.{split_ends}
use Rattle.isdu.proofs.Least.{recomposes, octets_all}
use Rattle.isdu.proofs.decoding.decode.Goals as goal

pub returns-in-len2-up : goal.returns-in-len2-up
returns-in-len2-up c =
    let frame = c.args.frame.now in
    let e : told c.request_in.result ≡ decoded frame =
    c.request_in.ensures ∙ ap decoded (sym (split_ends frame c.in-len2-up.len_at_least)) in
    let octets = octets_all frame (λ i. omega (arith, c.type_inv.frame i)) in
    record { value = e; judged = judged frame _ octets e; recomposes = recomposes frame _ octets e }
