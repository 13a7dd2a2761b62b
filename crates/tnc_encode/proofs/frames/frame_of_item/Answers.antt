use Rattle.tnc_encode.proofs.Common.{IfSome, sym, subst, ap, ◌∙◌, filter_map, option_to_list, frame_of}
use Rattle.tnc_encode.proofs.FrameLemmas.{IsSendable, frame_of_one, item_sendable}
use Rattle.tnc_encode.proofs.frames.frame_of_item.Goals as goal

pub returns-in-Some-clause-frame : goal.returns-in-Some-clause-frame
returns-in-Some-clause-frame c =
    ap option_to_list c.frame_to_send.ensures ∙ frame_of_one c.in-Some.item
    ∙ ap (λ item. filter_map frame_of (option_to_list item)) (sym c.in-Some.is)

pub returns-in-Some-clause-size : goal.returns-in-Some-clause-size
returns-in-Some-clause-size c = subst (λ frame. IfSome frame IsSendable) (sym c.frame_to_send.ensures)
    (item_sendable c.in-Some.item)
