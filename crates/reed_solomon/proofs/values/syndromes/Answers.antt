use Rattle.reed_solomon.proofs.Common.{◌≡◌, ℕ, suc, ◌+◌, ◌-◌, List, ◌++◌, [], ◌∷◌, ap, sym, ◌∙◌, refl, arith}
use Rattle.reed_solomon.proofs.Common.{append_assoc, append-nil, values_down, value_at}
use Rattle.reed_solomon.proofs.ErrorLemmas.{values_down-suc, values_down-zero}
use Rattle.reed_solomon.proofs.values.syndromes.Goals as goal

pub loop-k-preserved : goal.loop-k-preserved
loop-k-preserved c =
    let w = c.args.word.now in
    let first = c.args.first_root in
    let items = c.loop-k.syndromes.items in
    let k = c.loop-k.k in
    let n = c.args.count - (k + 1) in
    let place : first + (c.args.count - 1 - k) ≡ first + n = omega arith in
    let more : suc n ≡ c.args.count - k = omega arith in
    let v = c.value_at.result in
    record {
      items = ap (λ xs. xs ++ values_down w first n) c.push.ensures.items
          ∙ append_assoc items (v ∷ []) (values_down w first n)
          ∙ ap (λ m. items ++ (m ∷ values_down w first n)) (c.value_at.ensures ∙ ap (λ m. value_at m w) place)
          ∙ ap (λ xs. items ++ xs) (sym (values_down-suc w first n) ∙ ap (values_down w first) more)
          ∙ c.loop-k.invariant.items;
      count = omega (arith, c.push.ensures.len, c.loop-k.invariant.count);
    }

pub returns : goal.returns
returns c =
    let w = c.args.word.now in
    let first = c.args.first_root in
    let items = c.loop-k.syndromes.items in
    sym (append-nil items)
    ∙ ap (λ xs. items ++ xs) (sym (values_down-zero w first (c.args.count - c.loop-k.k) (omega arith)))
    ∙ c.loop-k.invariant.items
