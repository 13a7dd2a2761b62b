use Rattle.reed_solomon.proofs.Common.{◌≡◌, ℕ, ◌<◌, true, false, length, set, get_or, ap, sym, ◌∙◌, inl, inr, arith}
use Rattle.reed_solomon.proofs.Common.{cases_eq, false≢true, get_or-set_same, get_or-set_other, count_true}
use Rattle.std.proofs.lemmas.List.{length-set}
use Rattle.reed_solomon.proofs.RootLemmas.{count_true_raised, count_true_root, count_true_none, count_true-take}
use Rattle.reed_solomon.proofs.places.united.Goals.{then-others-q, else-others-q}
use Rattle.reed_solomon.proofs.places.united.Goals as goal

pub loop-q-preserved : goal.loop-q-preserved
loop-q-preserved c =
    let others = c.args.others.now in
    let now = c.loop-q.united in
    let q = c.loop-q.q in
    let inv = c.loop-q.invariant in
    let inside : q < length others = omega (arith, c.told-others) in
    let here_inside : q < length now = omega (arith, inv.size) in
    elim c.if-others-q.branch [
      | then-others-q w ↦
          let is = w.united-is in
          record {
            size = ap length is ∙ length-set now q true ∙ inv.size;
            first = λ r root.
                elim (cases_eq r q) [
                  | inl here ↦
                      ap (λ m. get_or c.if-others-q.united m false) here ∙ ap (λ xs. get_or xs q false) is
                      ∙ get_or-set_same now q true false here_inside
                  | inr apart ↦
                      ap (λ xs. get_or xs r false) is ∙ get_or-set_other now q r true false apart ∙ inv.first r root
                ];
            second = λ r below root.
                elim (cases_eq r q) [
                  | inl here ↦
                      ap (λ m. get_or c.if-others-q.united m false) here ∙ ap (λ xs. get_or xs q false) is
                      ∙ get_or-set_same now q true false here_inside
                  | inr apart ↦
                      ap (λ xs. get_or xs r false) is ∙ get_or-set_other now q r true false apart
                      ∙ inv.second r (omega arith) root
                ];
            count = omega (
              arith,
              ap count_true is,
              count_true_raised now q here_inside,
              count_true_root others q inside w.if-others-q.true,
              inv.count,
            );
          }
      | else-others-q w ↦
          let is = w.united-is in
          record {
            size = ap length is ∙ inv.size;
            first = λ r root. ap (λ xs. get_or xs r false) is ∙ inv.first r root;
            second = λ r below root.
                elim (cases_eq r q) [
                  | inl here ↦
                      absurd (false≢true (sym w.if-others-q.false ∙ ap (λ n. get_or others n false) (sym here) ∙ root))
                  | inr apart ↦ ap (λ xs. get_or xs r false) is ∙ inv.second r (omega arith) root
                ];
            count = omega (arith, ap count_true is, count_true_none others q inside w.if-others-q.false, inv.count);
          }
    ]

pub returns-clause-count : goal.returns-clause-count
returns-clause-count c = omega (arith, c.loop-q.invariant.count, count_true-take c.loop-q.q c.args.others.now)
