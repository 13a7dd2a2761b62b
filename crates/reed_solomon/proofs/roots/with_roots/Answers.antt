use Rattle.reed_solomon.proofs.Common.{◌≡◌, ℕ, ◌+◌, ◌<◌, true, false, List, [], ◌∷◌, length, get_or, ap, subst, sym}
use Rattle.reed_solomon.proofs.Common.{◌∙◌, inl, inr, arith, cases_eq, false≢true, take_all, power, with_root}
use Rattle.reed_solomon.proofs.Common.{count_true, value_at}
use Rattle.reed_solomon.proofs.DistanceLemmas.{all_of_octets}
use Rattle.reed_solomon.proofs.GeneratorLemmas.{Octets-with_root, length-with_root}
use Rattle.reed_solomon.proofs.RootLemmas.{root_here, root_stays, root_apart, value_at_one, count_true-take}
use Rattle.reed_solomon.proofs.RootLemmas.{count_true_root, count_true_none, count_true_nil}
use Rattle.reed_solomon.proofs.ValueLemmas.{Octets}
use Rattle.reed_solomon.proofs.roots.with_roots.Goals.{then-flags-q, else-flags-q}
use Rattle.reed_solomon.proofs.roots.with_roots.Goals as goal

pub loop-q-init : goal.loop-q-init
loop-q-init c =
    let P : List ℕ → Type 0 = λ xs. Octets xs in
    let empty = c.new-rest.ensures in
    record {
      octets = subst P (sym empty) tt;
      zero = λ q below root. absurd (omega arith);
      some = λ q below no_root none.
          let one : value_at q (1 ∷ []) ≡ 0 = sym (ap (λ xs. value_at q (1 ∷ xs)) empty) ∙ none in
          absurd (omega (arith, one, value_at_one q));
      count = ap length empty ∙ sym count_true_nil;
    }

pub add_root-requires : goal.add_root-requires
add_root-requires c =
    let flags = c.args.flags.now in
    let q = c.loop-q.q in
    omega (
      arith,
      c.loop-q.invariant.count,
      count_true_root flags q (omega (arith, c.told-flags)) c.if-flags-q.true,
      count_true-take (q + 1) flags,
      c.requires.few,
    )

pub loop-q-preserved : goal.loop-q-preserved
loop-q-preserved c =
    let flags = c.args.flags.now in
    let q = c.loop-q.q in
    let before = c.loop-q.rest.items in
    let inv = c.loop-q.invariant in
    let inside : q < length flags = omega (arith, c.told-flags) in
    elim c.if-flags-q.branch [
      | then-flags-q w ↦
          let is = ap (λ v. v.items) w.rest-is ∙ w.add_root.ensures.items
          ∙ ap (λ n. with_root n before) w.power.ensures in
          let P : List ℕ → Type 0 = λ xs. Octets xs in
          let value : (j : ℕ) → value_at j (1 ∷ c.if-flags-q.rest.items)
          ≡ value_at j (1 ∷ with_root (power q) before) = λ j. ap (λ xs. value_at j (1 ∷ xs)) is in
          let size = ap length is ∙ length-with_root (power q) before in
          record {
            octets = subst P (sym is) (Octets-with_root (power q) before inv.octets);
            zero = λ r below root.
                elim (cases_eq r q) [
                  | inl here ↦
                      value r ∙ ap (λ m. value_at m (1 ∷ with_root (power q) before)) here
                      ∙ root_here q before inv.octets
                  | inr apart ↦
                      value r ∙ root_stays r q before inv.octets (inv.zero r (omega arith) root)
                ];
            some = λ r below no_root none. root_apart r q before inv.octets below (omega arith)
                (λ same. false≢true (sym no_root ∙ ap (λ n. get_or flags n false) (sym same) ∙ w.if-flags-q.true))
                (inv.some r below no_root) (sym (value r) ∙ none);
            count = omega (arith, size, count_true_root flags q inside w.if-flags-q.true, inv.count);
          }
      | else-flags-q w ↦
          let is = ap (λ v. v.items) w.rest-is in
          let P : List ℕ → Type 0 = λ xs. Octets xs in
          let value : (j : ℕ) → value_at j (1 ∷ c.if-flags-q.rest.items) ≡ value_at j (1 ∷ before) =
          λ j. ap (λ xs. value_at j (1 ∷ xs)) is in
          record {
            octets = subst P (sym is) inv.octets;
            zero = λ r below root.
                elim (cases_eq r q) [
                  | inl here ↦
                      absurd (false≢true (sym w.if-flags-q.false ∙ ap (λ n. get_or flags n false) (sym here) ∙ root))
                  | inr apart ↦ value r ∙ inv.zero r (omega arith) root
                ];
            some = λ r below no_root none. inv.some r below no_root (sym (value r) ∙ none);
            count = omega (arith, ap length is, count_true_none flags q inside w.if-flags-q.false, inv.count);
          }
    ]

pub returns-clause-count : goal.returns-clause-count
returns-clause-count c =
    c.loop-q.invariant.count
    ∙ ap count_true (take_all c.loop-q.q c.args.flags.now (omega (arith, c.told-flags)))

pub returns-clause-octets : goal.returns-clause-octets
returns-clause-octets c = all_of_octets c.loop-q.rest.items c.loop-q.invariant.octets
