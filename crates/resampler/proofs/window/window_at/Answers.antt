use Rattle.resampler.proofs.Common.{ℤ, List, ◌-◌, ◌<◌, length, take, drop, subst, ◌∙◌, arith}
use Rattle.std.specs.Array.{IsFirstChunk}
use Rattle.std.specs.Option.{MatchOption}
use Rattle.std.proofs.lemmas.List.{take-take}
use Rattle.resampler.proofs.window.window_at.Goals as goal

pub returns : goal.returns
returns c =
    let samples : List ℤ = c.args.samples.now in
    let count = length samples - c.args.begin in
    let rest : List ℤ = take count (drop c.args.begin samples) in
    let chunk : IsFirstChunk rest c.unwrap.result.now 31 =
    subst (λ o. MatchOption o (length rest < 31) (λ y. IsFirstChunk rest y.now 31)) c.unwrap.ensures
    c.first_chunk.ensures.cases in
    let inside = c.requires in
    chunk.same ∙ take-take 31 count (drop c.args.begin samples) (omega arith)
