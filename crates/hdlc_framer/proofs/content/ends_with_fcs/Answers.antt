use Rattle.hdlc_framer.proofs.Common.{◌<◌, length, ap, sym, ◌∙◌, arith, All, eq-eqb, eqb-true, false≢true}
use Rattle.std.proofs.lemmas.List.Elements.{All-from_get_or}
use Rattle.hdlc_framer.proofs.FrameEnds.{length-with_fcs}
use Rattle.hdlc_framer.proofs.PackedLemmas.{fcs_ends, ends_fcs}
use Rattle.hdlc_framer.proofs.content.ends_with_fcs.Goals as goal

pub returns-then-octets-lt-LEAST_OCTETS : goal.returns-then-octets-lt-LEAST_OCTETS
returns-then-octets-lt-LEAST_OCTETS c =
    (λ e. absurd (false≢true e), λ h. absurd (omega (arith, ap length h.1, length-with_fcs h.0, h.2.least)))

pub returns : goal.returns
returns c =
    let octets = c.args.octets.now in
    let frame = c.split_at.result.0.now in
    let sent = c.split_at.result.1.now in
    let fit : All (λ octet. octet < 256) octets = All-from_get_or (λ octet. octet < 256) octets 0
    (λ i h. omega (arith, c.type_inv.octets i)) in (
      λ e. let both = fcs_ends octets frame sent c.split_at.ensures.front c.split_at.ensures.back
          c.if-octets-lt-LEAST_OCTETS.false c.requires fit
          (sym c.from_le_bytes.ensures ∙ eqb-true c.from_le_bytes.result c.fcs.result e ∙ c.fcs.ensures) in
          (frame, both.0, both.1),
      λ h. eq-eqb c.from_le_bytes.result c.fcs.result
          (c.from_le_bytes.ensures ∙ ends_fcs octets frame sent h.0 c.split_at.ensures.front c.split_at.ensures.back h.1
          ∙ sym c.fcs.ensures),
    )
