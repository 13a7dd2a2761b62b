use Rattle.fx25_receiver.proofs.Common.{◌∙◌, ◌-◌, ◌<◌, ℤ, List, length, take, drop, subst, arith}
use Rattle.std.specs.Array.{IsFirstChunk}
use Rattle.std.specs.Option.{MatchOption}
use Rattle.std.proofs.lemmas.List.{take-take}
use Rattle.fx25_receiver.proofs.ahead.windows_from.Goals as goal

pub returns : goal.returns
returns c =
    let from : List ℤ = drop c.args.first c.args.stretch.now in
    let rest : List ℤ = take (71 - c.args.first) from in
    let chunk : IsFirstChunk rest c.unwrap.result.now 64 =
    subst (λ o. MatchOption o (length rest < 64) (λ y. IsFirstChunk rest y.now 64)) c.unwrap.ensures
    c.first_chunk.ensures.cases in
    chunk.same ∙ take-take 64 (71 - c.args.first) from (omega (arith, c.requires))
