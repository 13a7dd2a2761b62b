use Rattle.tone_tracking.proofs.Common.{◌≡◌, ℕ, ◌+◌, ◌-◌, ◌<◌, ◌≤◌, ℤ, pos, List, length, get_or, subst, ap, ◌∙◌, arith}
use Rattle.tone_tracking.proofs.Common.{unsigned_abs, rules, sym}
use Rattle.std.proofs.Common.{take, drop}
use Rattle.std.proofs.lemmas.List.Elements.{All-from_get_or}
use Rattle.std.specs.Option.{MatchOption}
use Rattle.std.specs.Array.{IsFirstChunk}
use Rattle.std.proofs.lemmas.List.{get_or-take, get_or-drop}
use Rattle.tone_tracking.proofs.tone_lists.eight_from.Goals as goal

-- the first eight of what stands from a place on
eight : (w r : List ℤ) (first : ℕ) → r ≡ take 8 (take (16 - first) (drop first w)) → first ≤ 8
    → (i : ℕ) → i < 8 → get_or r i (pos 0) ≡ get_or w (first + i) (pos 0)
eight w r first is most i small =
    ap (λ l. get_or l i (pos 0)) is ∙ get_or-take 8 (take (16 - first) (drop first w)) i (pos 0) small
    ∙ get_or-take (16 - first) (drop first w) i (pos 0) (omega arith) ∙ get_or-drop first w i (pos 0)

pub returns-clause-samples : goal.returns-clause-samples
returns-clause-samples c =
    let w = c.args.samples.now in
    let rest : List ℤ = take (16 - c.args.first) (drop c.args.first w) in
    let chunk : IsFirstChunk rest c.unwrap.result.now 8 =
    subst (λ o. MatchOption o (length rest < 8) (λ y. IsFirstChunk rest y.now 8)) c.unwrap.ensures
    c.first_chunk.ensures.cases in
    eight w c.unwrap.result.now c.args.first chunk.same c.requires.first

pub returns-clause-small : goal.returns-clause-small
returns-clause-small c =
    let w = c.args.samples.now in
    let eight : length c.unwrap.result.now ≡ 8 = search rules in
    let wide : length w ≡ 16 = search rules in
    All-from_get_or (λ sample. unsigned_abs sample ≤ 262144) c.unwrap.result.now (pos 0) (λ k below.
    subst (λ z. unsigned_abs z ≤ 262144) (sym (returns-clause-samples c k (omega arith)))
    (c.requires.small (c.args.first + k) (pos 0) (let first = c.requires.first in omega arith)))
