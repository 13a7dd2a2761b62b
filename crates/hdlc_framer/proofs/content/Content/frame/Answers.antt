use Rattle.hdlc_framer.proofs.Common.{◌-◌, length, take, ap, ◌∙◌, arith}
use Rattle.hdlc_framer.proofs.PackedLemmas.{frame_length, frame_octets}
use Rattle.hdlc_framer.proofs.content.Content.frame.Goals as goal

pub slice_bounds-result-count : goal.slice_bounds-result-count
slice_bounds-result-count c =
    let s = c.self.inside in
    let held = c.requires in
    omega (
      arith,
      frame_length s.octets.items s.filled s.part c.args.self.now held.0 c.self.invariant c.self.view_is
          held.1 held.2,
      ap length c.as_slice-octets.ensures.value,
    )

pub returns : goal.returns
returns c = λ octets is_frame closes.
    let s = c.self.inside in
    ap (λ xs. take (length xs - 2) xs) c.as_slice-octets.ensures.value
    ∙ frame_octets s.octets.items s.filled s.part c.args.self.now octets c.self.invariant c.self.view_is closes is_frame
