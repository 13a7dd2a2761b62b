use Rattle.tnc_record.proofs.Common.{◌≡◌, ◌++◌, ap, ◌∙◌, text_of_gaps, text_of_frames}
use Rattle.tnc_record.proofs.TextLemmas.{turn_text}
use Rattle.tnc_record.proofs.lines.text_of_turn.Goals as goal

pub returns : goal.returns
returns c =
    let gaps = c.args.heard.now.gaps.items in
    let front : c.add_gaps.new.text.items ≡ text_of_gaps gaps =
    c.in_ok-add_gaps.ensures ∙ ap (λ t. t ++ text_of_gaps c.deref.result.now) c.new-text.ensures.items
    ∙ ap text_of_gaps c.deref.ensures.value in
    c.in_ok-add_frames.ensures ∙ ap (λ t. t ++ text_of_frames c.deref-2.result.now) front
    ∙ ap (λ items. text_of_gaps gaps ++ text_of_frames items) c.deref-2.ensures.value
    ∙ turn_text gaps c.args.heard.now.items.items
