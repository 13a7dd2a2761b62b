use Rattle.channel_access.proofs.Common.{◌∙◌, sym, arith, length, le-leb, frame_rest}
use Rattle.channel_access.proofs.FrameLemmas.{fewer_left, none_left, some_left, all_counted}
use Rattle.channel_access.proofs.frame_bits.FrameBits.end_within.Goals as goal

pub loop-preserved : goal.loop-preserved
loop-preserved c = record {
  left = omega (
    arith,
    c.loop.invariant.left,
    fewer_left c.loop.at c.in-Some.after c.args.octets.now c.in-Some.field-0-0 (sym c.next.ensures ∙ c.in-Some.is),
  );
}

pub returns : goal.returns
returns c =
    let rest = length (frame_rest c.loop.at c.args.octets.now) in
    c.is_over.ensures ∙ some_left c.loop.at c.args.octets.now
    ∙ all_counted c.loop.counter c.args.bits rest (length (frame_rest c.args.self c.args.octets.now)) (omega arith)
    c.loop.invariant.left

pub returns-in_default : goal.returns-in_default
returns-in_default c =
    let none = none_left c.loop.at c.args.octets.now (sym c.next.ensures ∙ c.in_default.is) in
    sym (le-leb (length (frame_rest c.args.self c.args.octets.now)) c.args.bits
    (omega (arith, c.loop.invariant.left, none)))
