use Rattle.tnc_encode.proofs.Common.{◌≡◌, length, ap, arith, ◌∙◌}
use Rattle.std.specs.Prelude.{◌*◌, ◌+◌}
use Rattle.tnc_encode.proofs.LengthLemmas.{length-transmission}
use Rattle.tnc_encode.proofs.bell202.bell202_count.Goals as goal

pub returns : goal.returns
returns c = λ level.
    let bits : c.len.result ≡ length c.in_ok-bits.bits.items = c.len.ensures ∙ c.in_ok-bits.bits.ok.0 in
    let body = ap length c.in_ok-bits.ensures in
    let eight : c.in-Some.samples ≡ c.len.result * 8 = c.in-Some.ensures.1 in
    let all : c.in-Some-checked_add.count ≡ c.in-Some.samples + c.args.silence = c.in-Some-checked_add.ensures.1 in
    let sent = length-transmission level c.args.frames.now c.args.opening c.args.closing in
    omega (arith, bits, body, eight, all, sent)
