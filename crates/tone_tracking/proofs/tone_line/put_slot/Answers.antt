use Rattle.tone_tracking.proofs.Common.{◌≡◌, ◌≢◌, ◌+◌, ◌*◌, ◌/◌, ◌%◌, ◌<◌, ◌∙◌, ℕ, List, length, get_or, set, ap, sym, arith, inl, inr, cases_eq}
use Rattle.tone_tracking.proofs.Common.{get_or-set_same, get_or-set_other, length-set}
use Rattle.std.proofs.lemmas.List.{get_or_default}
use Rattle.tone_tracking.specs.declared.place_tones.PlaceTones.{PlaceTones}
use Rattle.tone_tracking.proofs.tone_line.put_slot.Goals as goal

pub loop-index-preserved : goal.loop-index-preserved
loop-index-preserved c =
    let tones : List PlaceTones = c.args.tones.now in
    let line : List PlaceTones = c.loop-index.line in
    let n : ℕ = c.loop-index.index in
    let place : ℕ = 8 * n + c.args.ahead in
    let before = c.loop-index.invariant in
    let test = c.loop-index-test.true in
    let few = c.requires.ahead in
    let fits = c.requires.tones in
    let size = before.size in
    let rest : PlaceTones = record { bits = 0 } in
    let one : PlaceTones = get_or tones n rest in
    let inside : place < length line = omega arith in
    record {
      size = omega (arith, length-set line place one);
      put = λ i d within done at. elim (cases_eq i place) [
        | inl is ↦ (let here : i / 8 ≡ n = omega arith in
            ap (λ k. get_or (set line place one) k d) is ∙ get_or-set_same line place one d inside
            ∙ get_or_default tones n rest d test ∙ ap (λ k. get_or tones k d) (sym here))
        | inr ne ↦ get_or-set_other line place i one d ne
            ∙ before.put i d (omega (arith, length-set line place one)) (omega arith) at
      ];
      kept = λ i d other.
          let ne : i ≢ place = λ is. other (omega arith) in
          get_or-set_other line place i one d ne ∙ before.kept i d other;
    }
