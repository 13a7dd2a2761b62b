use Rattle.tnc_loop.proofs.Common.{◌≤◌, ℤ, List, Err, unsigned_abs, ap, sym, subst, ◌∙◌}
use Rattle.std.proofs.Common.{All}
use Rattle.afsk_modulator.proofs.LoudnessLemmas.{within-transmission_at}
use Rattle.tnc_loop.proofs.SendingLemmas.{no_bad_length}
use Rattle.tnc_loop.proofs.rough.exact_samples.Goals as goal

pub unreachable-requires-in-Err-BadLength : goal.unreachable-requires-in-Err-BadLength
unreachable-requires-in-Err-BadLength c =
    let first = (c.transmission_at.ensures.bad_length c.in-Err-BadLength.field-0-0).0 (c.in-Err-BadLength.is
    ∙ ap Err c.in-Err-BadLength.field-0-is) in
    no_bad_length c.args.drawn.now.octets c.from_ref-frames.result.now c.in-Err-BadLength.field-0-0
    c.from_ref-frames.ensures.value c.requires.good.least c.requires.good.most first.1

pub returns-in-Ok-clause-bound : goal.returns-in-Ok-clause-bound
returns-in-Ok-clause-bound c =
    subst (λ (samples : List ℤ). All (λ sample. unsigned_abs sample ≤ c.args.level) samples) (sym c.in-Ok.ensures.sent)
    (within-transmission_at c.args.phase c.args.level c.from_ref-frames.result.now c.args.drawn.now.opening
    c.args.drawn.now.closing)
