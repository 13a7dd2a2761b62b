use Rattle.tnc_loop.proofs.Common.{length, ap, ◌∙◌, string_bytes, AreCandidates, drawn, received_drawn, samples_drawn}
use Rattle.tnc_loop.proofs.Common.{strays, first_stray}
use Rattle.tnc_loop.proofs.ToldLemmas.{are_of, has_found, is_summary}
use Rattle.tnc_loop.proofs.telling.tell_drawn.Goals as goal

pub merge-requires-clause-order : goal.merge-requires-clause-order
merge-requires-clause-order g c = c.in_ok-candidates.ensures.are.order

pub returns-clause-summary : goal.returns-clause-summary
unfolding drawn received_drawn
returns-clause-summary g c =
    let are : AreCandidates (samples_drawn c.args.words) c.in_ok-candidates.candidates.items =
    are_of c.args.words c.in_ok-sent.sent c.deref.result.now c.in_ok-candidates.candidates.items
    c.in_ok-sent.ensures.sent c.deref.ensures.value
    c.in_ok-candidates.ensures.are in
    is_summary c.args.words c.deref-4.result.now c.in_ok-candidates.candidates.items c.deref-6.result.now
    (string_bytes c.in_ok-summary.field-0) c.count_strays-stray_count.result
    (c.deref-4.ensures.value ∙ c.in_ok-sent.ensures.sent.ends) are
    (c.deref-6.ensures.value ∙ c.in_ok-heard.ensures)
    (c.count_strays-stray_count.ensures ∙ ap (λ items. length (strays c.deref-4.result.now items))
    c.deref-5.ensures.value)
    c.in_ok-summary.ensures

pub returns-clause-stray : goal.returns-clause-stray
unfolding drawn received_drawn
returns-clause-stray g c =
    let are : AreCandidates (samples_drawn c.args.words) c.in_ok-candidates.candidates.items =
    are_of c.args.words c.in_ok-sent.sent c.deref.result.now c.in_ok-candidates.candidates.items
    c.in_ok-sent.ensures.sent c.deref.ensures.value
    c.in_ok-candidates.ensures.are in
    has_found c.args.words c.deref-2.result.now c.in_ok-candidates.candidates.items c.in_ok-stray.stray
    (c.deref-2.ensures.value ∙ c.in_ok-sent.ensures.sent.ends) are
    (c.in_ok-stray.ensures ∙ ap (λ items. first_stray c.deref-2.result.now items) c.deref-3.ensures.value)
