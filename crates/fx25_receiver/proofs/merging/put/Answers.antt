use Rattle.fx25_receiver.proofs.Common.{◌++◌, [], ◌∷◌, List, ap, append_assoc, sym, ◌∙◌, subst, if◌then◌else◌}
use Rattle.fx25_receiver.proofs.Common.{Heard, Keeps, list_any, repeats}
use Rattle.fx25_receiver.proofs.MergingLemmas.{keeps_push, merged_kept}
use Rattle.fx25_receiver.proofs.merging.put.Goals as goal

pub returns-clause-keeps : goal.returns-clause-keeps
returns-clause-keeps c = λ count heard late keeps.
    let item = c.args.item in
    subst (λ (kept : List Heard). Keeps kept count (heard ++ item ∷ [])) (sym c.in_ok-push.ensures.items)
    (keeps_push c.args.kept.now.items count heard item late keeps)

pub returns-clause-given : goal.returns-clause-given
returns-clause-given c = λ count heard before late keeps is.
    let item = c.args.item in
    let more : List Heard = if c.is_repeated-repeated.result then [] else item ∷ [] in
    ap (λ xs. before ++ xs) c.in_ok-give.ensures
    ∙ sym (append_assoc before c.args.given.now.items more)
    ∙ ap (λ xs. xs ++ more) is
    ∙ sym (merged_kept c.args.kept.now.items count heard item c.is_repeated-repeated.result late keeps
    (c.is_repeated-repeated.ensures ∙ ap (list_any (repeats item)) c.deref.ensures.value))
