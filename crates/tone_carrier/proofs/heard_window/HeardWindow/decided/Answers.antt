use Rattle.std.proofs.Common.{◌≡◌, to_z, of_z, w64, ap, ◌∙◌, arith}
use Rattle.std.proofs.lemmas.Int.{ints}
use Rattle.offset_slicers.specs.Decision.{sine_sum, cosine_sum, tone_of}
use Rattle.tone_carrier.specs.HeardWindows.{heard_window, part_of, power}
use Rattle.tone_carrier.proofs.NumberLemmas.{passed}
use Rattle.tone_carrier.proofs.heard_window.HeardWindow.decided.Goals as goal

pub returns-clause-heard : goal.returns-clause-heard
unfolding heard_window
returns-clause-heard c =
    let window = c.args.window.now in
    let tone : c.args.tone ≡ tone_of window = c.requires.tone in
    let sine : to_z w64 (of_z w64 c.part_of.result) ≡ part_of (sine_sum (tone_of window) window)
    = passed c.part_of.result (let bound = c.part_of.ensures.bound in omega arith)
    ∙ c.part_of.ensures.part
    ∙ ap part_of (passed c.args.sine (let size = c.requires.sine_size in omega arith) ∙ c.requires.sine)
    ∙ ap (λ t. part_of (sine_sum t window)) tone in
    let cosine : to_z w64 (of_z w64 c.part_of-2.result) ≡ part_of (cosine_sum (tone_of window) window)
    = passed c.part_of-2.result (let bound = c.part_of-2.ensures.bound in omega arith)
    ∙ c.part_of-2.ensures.part
    ∙ ap part_of (passed c.args.cosine (let size = c.requires.cosine_size in omega arith) ∙ c.requires.cosine)
    ∙ ap (λ t. part_of (cosine_sum t window)) tone in
    let loud : to_z w64 (of_z w64 c.power.result) ≡ power window
    = (let least = c.power.ensures.least in let most = c.power.ensures.most in
    passed c.power.result (omega (arith, ints))) ∙ c.power.ensures.power in
    λ i. record {
      tone = tone i;
      sine = sine i;
      cosine = cosine i;
      power = loud i;
    }
