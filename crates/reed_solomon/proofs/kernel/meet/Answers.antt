use Rattle.reed_solomon.proofs.Common.{◌≡◌, ℕ, ◌-◌, suc, List, length, subst, sym, arith, AddsMultiple, IsBasis, row}
use Rattle.reed_solomon.proofs.KernelLemmas.{Cleared, cleared-basis, row-set}
use Rattle.reed_solomon.proofs.kernel.meet.Goals as goal

pub returns-clause-basis : goal.returns-clause-basis
returns-clause-basis c =
    let old = c.args.rows.now in
    let k = c.in-Some.pivot_index in
    let last = c.args.left - 1 in
    let found = c.in-Some.ensures.some in
    let whole : suc last ≡ c.args.left = omega (arith, found.0) in
    let cleared : Cleared old c.loop-m.rows k last c.normal-pivot.result c.args.equation.now = record {
      pivot_index = omega (arith, found.0);
      multiple = c.normal-pivot.ensures.multiple;
      rows = λ m below.
          let P : List ℕ → Type 0 = λ xs. AddsMultiple c.normal-pivot.result xs (row c.loop-m.rows m) in
          subst P (row-set old k last m (omega (arith, found.0))) (c.loop-m.invariant.adds m (omega arith));
    } in
    let basis = subst (IsBasis (length c.args.equation.now) old) (sym whole) c.requires.basis in
    cleared-basis cleared (length c.args.equation.now) basis
