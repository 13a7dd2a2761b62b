use Rattle.tnc_encode.proofs.Common.{take, sym, subst, ◌∙◌, option_to_list, take_more, StandsFor}
use Rattle.tnc_encode.proofs.FrameLemmas.{kiss_frames-none, kiss_frames-more}
use Rattle.tnc_encode.proofs.frames.read_kiss_frames.Goals as goal

pub loop-octet-init : goal.loop-octet-init
loop-octet-init c = record {
  stands_for = c.new-stream.ensures.stands_for;
  frames_so_far = c.new-frames.ensures.items ∙ sym kiss_frames-none;
}

pub loop-octet-preserved : goal.loop-octet-preserved
loop-octet-preserved c = record {
  stands_for = subst (StandsFor c.push.new.self)
      (sym (take_more c.args.octets.now c.loop-octet.octet-index 0 c.loop-octet-test.true))
      (c.in_ok-item.ensures.stands_for (take c.loop-octet.octet-index c.args.octets.now)
      c.loop-octet.invariant.stands_for);
  frames_so_far = c.in_ok-take_frame.ensures
      ∙ kiss_frames-more c.args.octets.now c.loop-octet.octet-index c.loop-octet-test.true c.loop-octet.frames.items
      (option_to_list c.in_ok-item.item)
      c.loop-octet.invariant.frames_so_far (c.in_ok-item.ensures.item (take c.loop-octet.octet-index c.args.octets.now)
      c.loop-octet.invariant.stands_for);
}
