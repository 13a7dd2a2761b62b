-- The table is that of the steps.
use Rattle.hdlc_framer.proofs.Common.{◌≡◌, ℕ, ◌+◌, ◌*◌, ◌/◌, ◌%◌, ◌∙◌, arith}
use Rattle.std.proofs.lemmas.List.FromFn.{get_or-map-range_with_len}
unfoldable use Rattle.hdlc_framer.specs.OctetSteps.{octet_step}
use Rattle.hdlc_framer.proofs.octet_step.octet_step.Goals as goal

pub returns : goal.returns
unfolding octet_step
returns c =
    let place : ℕ = 256 * c.args.ones + c.args.octet in
    let high : place / 256 ≡ c.args.ones = omega arith in
    let low : place % 256 ≡ c.args.octet = omega arith in
    get_or-map-range_with_len (λ i. octet_step (i / 256) (i % 256)) 0 2048 place place 0 (omega arith) (omega arith)
    ∙ (λ i. octet_step (high i) (low i))
