use Rattle.reed_solomon.proofs.Common.{◌≡◌, ℕ, suc, ◌+◌, ◌-◌, ◌*◌, ◌/◌, List, ◌++◌, [], ◌∷◌, length, take, drop, ap, sym, ◌∙◌}
use Rattle.reed_solomon.proofs.Common.{refl, arith, append_assoc, append-nil, dot, values_down, value_at, scaled}
use Rattle.reed_solomon.proofs.DistanceLemmas.{octets_of_all}
use Rattle.reed_solomon.proofs.ErrorLemmas.{scaled_value, values_down-suc, values_down-zero}
use Rattle.reed_solomon.proofs.ValueLemmas.{octets_from}
use Rattle.reed_solomon.proofs.places.scaled_syndromes.Goals as goal

pub loop-k-preserved : goal.loop-k-preserved
loop-k-preserved c =
    let factors = c.args.factors.now in
    let syndromes = c.args.syndromes.now in
    let items = c.loop-k.scaled.items in
    let k = c.loop-k.k in
    let count = 2 * ((length syndromes + 1 - length factors) / 2) in
    let start = length syndromes + 1 - length factors - count + k in
    let n = count - (k + 1) in
    let more : suc n ≡ count - k = omega arith in
    let cut : start + length factors - start ≡ length factors = omega arith in
    let v = c.dot.result in
    let factors_octets = octets_from factors (λ i below. (c.type_inv.factors i).fits) in
    record {
      values = λ first errors all is.
          let w = scaled factors errors in
          let value : v ≡ value_at (first + n) w =
          c.dot.ensures ∙ ap (λ m. dot factors (take m (drop start syndromes))) cut
          ∙ scaled_value first (first + n) start (length syndromes) factors syndromes errors (omega arith)
          (omega arith) factors_octets (octets_of_all errors all) is in
          ap (λ xs. xs ++ values_down w first n) c.push.ensures.items
          ∙ append_assoc items (v ∷ []) (values_down w first n)
          ∙ ap (λ m. items ++ (m ∷ values_down w first n)) value
          ∙ ap (λ xs. items ++ xs) (sym (values_down-suc w first n) ∙ ap (values_down w first) more)
          ∙ c.loop-k.invariant.values first errors all is;
      size = omega (arith, c.push.ensures.len, c.loop-k.invariant.size);
    }

pub returns-clause-values : goal.returns-clause-values
returns-clause-values c = λ first errors all is.
    let w = scaled c.args.factors.now errors in
    let count = 2 * ((length c.args.syndromes.now + 1 - length c.args.factors.now) / 2) in
    let items = c.loop-k.scaled.items in
    let k = c.loop-k.k in
    let whole : count ≡ length items = omega (arith, c.loop-k.invariant.size) in
    sym (append-nil items)
    ∙ ap (λ xs. items ++ xs) (sym (values_down-zero w first (count - k) (omega arith)))
    ∙ c.loop-k.invariant.values first errors all is
    ∙ ap (values_down w first) whole
