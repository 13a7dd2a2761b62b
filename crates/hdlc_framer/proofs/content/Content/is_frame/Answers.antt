use Rattle.hdlc_framer.proofs.Common.{sym, ◌∙◌, false≢true}
use Rattle.hdlc_framer.proofs.PackedLemmas.{frame_items, frame_part, frame_bits_from}
use Rattle.hdlc_framer.proofs.content.Content.is_frame.Goals.{then-self-ne-FLAG_START_BITS-via-then-self-ne-FLAG_START_BITS}
use Rattle.hdlc_framer.proofs.content.Content.is_frame.Goals.{then-self-ne-FLAG_START_BITS-via-else-self-ne-FLAG_START_BITS+then-self-ne-FLAG_START}
use Rattle.hdlc_framer.proofs.content.Content.is_frame.Goals as goal

pub returns-then-self-ne-FLAG_START_BITS : goal.returns-then-self-ne-FLAG_START_BITS
returns-then-self-ne-FLAG_START_BITS c =
    let s = c.self.inside in (
      λ e. absurd (false≢true e),
      λ h. let part = frame_part s.octets.items s.filled s.part c.args.self.now h.0 c.self.invariant c.self.view_is h.1
          h.2 in
          absurd (elim c.then-self-ne-FLAG_START_BITS.branch [
            | then-self-ne-FLAG_START_BITS-via-then-self-ne-FLAG_START_BITS w ↦ w.if-self-ne-FLAG_START_BITS.true part.0
            | then-self-ne-FLAG_START_BITS-via-else-self-ne-FLAG_START_BITS+then-self-ne-FLAG_START w ↦
                w.if-self-ne-FLAG_START.true part.1
          ]),
    )

pub returns : goal.returns
returns c =
    let s = c.self.inside in (
      λ e. let found = c.ends_with_fcs.ensures.0 e in (
        found.0,
        frame_bits_from s.octets.items s.filled s.part c.args.self.now found.0 c.self.view_is
            (sym c.as_slice.ensures.value ∙ found.1)
            c.if-self-ne-FLAG_START_BITS.false c.if-self-ne-FLAG_START.false,
        found.2,
      ),
      λ h. c.ends_with_fcs.ensures.1 (
        h.0,
        c.as_slice.ensures.value
            ∙ frame_items s.octets.items s.filled s.part c.args.self.now h.0 c.self.invariant c.self.view_is h.1 h.2,
        h.2,
      ),
    )
