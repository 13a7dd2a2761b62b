-- No octet is unknown.
use Rattle.reed_solomon.proofs.Common.{◌≡◌, ℕ, Bool, List, false, replicate, length, sym, ◌∙◌, subst, IsWithinReach}
use Rattle.reed_solomon.proofs.Common.{IsWithinReachOutside}
use Rattle.std.proofs.lemmas.Result.{IfOk-weaker, on_err_weaker}
use Rattle.reed_solomon.proofs.UnknownLemmas.{reach_of_known}
use Rattle.reed_solomon.proofs.decoder.repair.Goals as goal

pub returns-clause-repaired : goal.returns-clause-repaired
returns-clause-repaired c =
    let code = c.args.code.now in
    let word = c.args.word.now in
    let v = c.repair_with_unknown.new.word in
    let flags = c.as_slice.result.now in
    let none : flags ≡ replicate (length word) false = c.as_slice.ensures.value ∙ c.none_unknown-unknown.ensures in
    let P : List Bool → Type 0 = λ fs. IsWithinReachOutside code fs word v in
    IfOk-weaker c.repair_with_unknown.result (λ _. IsWithinReachOutside code flags word v)
    (λ _. IsWithinReach code word v) (λ _ within. (reach_of_known code (length word) word v).0 (subst P none within))
    c.repair_with_unknown.ensures.repaired

pub returns-clause-only : goal.returns-clause-only
returns-clause-only c =
    let code = c.args.code.now in
    let word = c.args.word.now in
    let new = c.repair_with_unknown.new.word in
    let flags = c.as_slice.result.now in
    let none : flags ≡ replicate (length word) false = c.as_slice.ensures.value ∙ c.none_unknown-unknown.ensures in
    IfOk-weaker c.repair_with_unknown.result
    (λ _. (v : List ℕ) → IsWithinReachOutside code flags word v → v ≡ new)
    (λ _. (v : List ℕ) → IsWithinReach code word v → v ≡ new)
    (λ _ only v within.
    let P : List Bool → Type 0 = λ fs. IsWithinReachOutside code fs word v in
    only v (subst P (sym none) ((reach_of_known code (length word) word v).1 within)))
    c.repair_with_unknown.ensures.only

pub returns-clause-refused : goal.returns-clause-refused
returns-clause-refused c =
    let code = c.args.code.now in
    let word = c.args.word.now in
    let flags = c.as_slice.result.now in
    let none : flags ≡ replicate (length word) false = c.as_slice.ensures.value ∙ c.none_unknown-unknown.ensures in
    on_err_weaker c.repair_with_unknown.result
    (λ refused v within.
    let P : List Bool → Type 0 = λ fs. IsWithinReachOutside code fs word v in
    refused v (subst P (sym none) ((reach_of_known code (length word) word v).1 within)))
    c.repair_with_unknown.ensures.refused
