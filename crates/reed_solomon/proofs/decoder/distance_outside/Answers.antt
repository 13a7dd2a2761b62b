use Rattle.reed_solomon.proofs.Common.{length, ap, sym, ◌∙◌}
use Rattle.reed_solomon.proofs.UnknownLemmas.{length-blanked}
use Rattle.reed_solomon.proofs.decoder.distance_outside.Goals as goal

pub distance-requires : goal.distance-requires
distance-requires c =
    let unknown = c.args.unknown.now in
    ap length (c.as_slice.ensures.value ∙ c.blanked-known.ensures) ∙ length-blanked unknown c.args.word.now
    ∙ c.requires.size
    ∙ sym (ap length (c.as_slice-2.ensures.value ∙ c.blanked-other_known.ensures)
    ∙ length-blanked unknown c.args.other.now)
