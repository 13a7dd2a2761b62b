use Rattle.reed_solomon.proofs.Common.{◌≡◌, ℕ, ◌+◌, ◌-◌, ◌/◌, ◌≢◌, [], length, set, get_or, take, drop, ap, subst, sym}
use Rattle.reed_solomon.proofs.Common.{◌∙◌, inl, inr, arith, cases_eq, get_or-set_same, get_or-set_other, length-take}
use Rattle.reed_solomon.proofs.Common.{length-drop, IsBasis, Meet, row}
use Rattle.std.proofs.lemmas.List.{length-set}
use Rattle.reed_solomon.proofs.DistanceLemmas.{Octets-take, Octets-drop, all_of_octets}
use Rattle.reed_solomon.proofs.ValueLemmas.{octets_from}
use Rattle.reed_solomon.proofs.kernel.kernel.Goals as goal

pub loop-k-preserved : goal.loop-k-preserved
loop-k-preserved c =
    let rows = c.loop-k.rows in
    let n = c.loop-k.k in
    let at : (k : ℕ) → k ≢ n → row (set rows n c.unit.result) k ≡ row rows k =
    λ k other. get_or-set_other rows n k c.unit.result [] other in
    let at_n : row (set rows n c.unit.result) n ≡ c.unit.result =
    get_or-set_same rows n c.unit.result [] (omega arith) in
    record {
      long = length-set rows n c.unit.result ∙ c.loop-k.invariant.long;
      here = λ k below.
          elim (cases_eq k n) [
            | inl same ↦
                ap (λ m. get_or (row (set rows n c.unit.result) m) m 0) same ∙ ap (λ xs. get_or xs n 0) at_n
                ∙ c.unit.ensures.here
            | inr other ↦ ap (λ xs. get_or xs k 0) (at k other) ∙ c.loop-k.invariant.here k (omega arith)
          ];
      elsewhere = λ k below u apart.
          elim (cases_eq k n) [
            | inl same ↦
                ap (λ m. get_or (row (set rows n c.unit.result) m) u 0) same ∙ ap (λ xs. get_or xs u 0) at_n
                ∙ c.unit.ensures.elsewhere u (λ e. apart (e ∙ sym same))
            | inr other ↦
                ap (λ xs. get_or xs u 0) (at k other) ∙ c.loop-k.invariant.elsewhere k (omega arith) u apart
          ];
    }

pub loop-i-init : goal.loop-i-init
loop-i-init c = record {
  left = omega arith;
  few = omega arith;
  basis = λ k below. (
    k,
    below,
    c.loop-k.invariant.here k (omega arith),
    λ m m_below apart.
        c.loop-k.invariant.elsewhere m (omega arith) k (λ e. apart (sym e)),
  );
  met = λ i below. absurd (omega arith);
}

pub meet-left-requires-clause-basis : goal.meet-left-requires-clause-basis
meet-left-requires-clause-basis c =
    let syndromes = c.args.syndromes.now in
    let i = c.loop-i.i in
    let n = length syndromes / 2 + 1 in
    let size : n ≡ length (take (i + length syndromes / 2 + 1 - i) (drop i syndromes)) =
    omega (arith, length-take (i + length syndromes / 2 + 1 - i) (drop i syndromes), length-drop i syndromes) in
    let P : ℕ → Type 0 = λ m. IsBasis m c.loop-i.rows c.loop-i.left in
    subst P size c.loop-i.invariant.basis

pub loop-i-preserved : goal.loop-i-preserved
loop-i-preserved c =
    let syndromes = c.args.syndromes.now in
    let i = c.loop-i.i in
    let n = length syndromes / 2 + 1 in
    let m = i + length syndromes / 2 + 1 - i in
    let same : m ≡ n = omega arith in
    let size : length (take m (drop i syndromes)) ≡ n =
    omega (arith, length-take m (drop i syndromes), length-drop i syndromes) in
    let left = c.meet-left.result in
    let rows = c.meet-left.new.rows in
    let octets = octets_from syndromes (λ k inside. (c.type_inv.syndromes k).fits) in
    let window = λ (k : ℕ). all_of_octets (take n (drop k syndromes))
    (Octets-take n (drop k syndromes) (Octets-drop k syndromes octets)) in
    let P : ℕ → Type 0 = λ w. IsBasis w rows left in
    let Q : ℕ → Type 0 = λ w. Meet rows left (take w (drop i syndromes)) in
    record {
      left = omega (arith, c.meet-left.ensures.at_least, c.loop-i.invariant.left);
      few = omega (arith, c.meet-left.ensures.at_most, c.loop-i.invariant.few);
      basis = subst P size c.meet-left.ensures.basis;
      met = λ k below.
          elim (cases_eq k i) [
            | inl here ↦
                let R : ℕ → Type 0 = λ a. Meet rows left (take n (drop a syndromes)) in
                subst R (sym here) (subst Q same c.meet-left.ensures.meets)
            | inr other ↦
                c.meet-left.ensures.stay (take n (drop k syndromes)) (window k)
                (c.loop-i.invariant.met k (omega arith))
          ];
    }
