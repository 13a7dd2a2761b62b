use Rattle.tnc_encode.proofs.Common.{◌<◌, ◌++◌, length, sym, ap, ◌∙◌, arith, get_or, option_to_list, take_more}
use Rattle.tnc_encode.proofs.Common.{kiss_frames}
use Rattle.tnc_encode.proofs.FrameLemmas.{kiss_frames-push}
use Rattle.tnc_encode.proofs.frame_in.take_octet.Goals as goal

pub returns-in_ok-item-in-len1-up-clause-frame : goal.returns-in_ok-item-in-len1-up-clause-frame
returns-in_ok-item-in-len1-up-clause-frame c = λ before h.
    let octets = c.args.octets.now in
    let some = c.in-len1-up.len_at_least in
    let below : 0 < length octets = omega (arith, some) in
    ap (λ o. kiss_frames (before ++ o)) (take_more octets 0 0 below)
    ∙ kiss_frames-push before (get_or octets 0 0) (option_to_list c.in_ok-item-in-len1-up.item)
    (c.in_ok-item-in-len1-up.ensures.item before h)
    ∙ ap (λ fs. kiss_frames before ++ fs) (sym c.frame_of_item.ensures.frame)
