use Rattle.tnc_encode.proofs.Common.{◌≡◌, ◌<◌, ◌^◌, [], ◌∷◌, length, sym, ap, ◌∙◌, arith, samples_at_once, take_all}
use Rattle.tnc_encode.proofs.CountingLemmas.{own_samples, own_samples-none, own_samples-more, own_samples-all}
use Rattle.tnc_encode.proofs.counting.count_samples.Goals as goal

pub loop-frame-init : goal.loop-frame-init
loop-frame-init c = record { counted = sym (own_samples-none c.args.words); bound = omega arith }

pub returns : goal.returns
returns c =
    c.loop-frame.invariant.counted
    ∙ ap (λ fs. length (own_samples c.args.words fs))
    (take_all c.loop-frame.frame-index c.args.frames.now (let past = c.loop-frame-test.false in omega arith))
    ∙ ap length (own_samples-all c.args.words c.args.frames.now c.if-words.false)

pub loop-frame-preserved : goal.loop-frame-preserved
loop-frame-preserved c =
    let told = c.in_ok-count.ensures in
    let len : c.in_ok-count.field-0 ≡ length (samples_at_once c.args.words (c.frame-item.result ∷ [])) =
    told.count ∙ ap (λ fs. length (samples_at_once c.args.words fs)) c.from_ref.ensures.value in
    let more = own_samples-more c.args.words c.args.frames.now c.loop-frame.frame-index c.frame-item.result
    c.loop-frame-test.true c.frame-item.is in
    let counted = c.loop-frame.invariant.counted in
    let bound = c.loop-frame.invariant.bound in
    let small : c.in_ok-count.field-0 < 2 ^ 64 = told.bound in
    record { counted = omega arith; bound = omega arith }
