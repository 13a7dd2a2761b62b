use Rattle.tnc_loop.proofs.DrawingLemmas.{transmission_is, following_is}
use Rattle.tnc_loop.proofs.drawing.draw.Goals as goal

pub returns-clause-drawn : goal.returns-clause-drawn
returns-clause-drawn c =
    transmission_is c.args.generator.now c.below-silence.new.generator c.below-opening.new.generator
    c.below-closing.new.generator c.below-length.new.generator c.below-length.result
    c.below-silence.ensures.following c.below-opening.ensures.following c.below-closing.ensures.following
    c.below-length.ensures.following c.below-length.ensures.value
    c.below-silence.result c.below-opening.result c.below-closing.result c.in_ok-draw_octets.field-0
    c.below-silence.ensures.value c.below-opening.ensures.value c.below-closing.ensures.value
    c.in_ok-draw_octets.ensures.octets

pub returns-clause-following : goal.returns-clause-following
returns-clause-following c =
    following_is c.args.generator.now c.below-silence.new.generator c.below-opening.new.generator
    c.below-closing.new.generator c.below-length.new.generator c.below-length.result
    c.below-silence.ensures.following c.below-opening.ensures.following c.below-closing.ensures.following
    c.below-length.ensures.following c.below-length.ensures.value
    c.draw_octets.new.generator c.in_ok-draw_octets.ensures.following
