use Rattle.fx25_receiver.proofs.Common.{[], ◌∷◌, ◌++◌, arith}
use Rattle.hdlc_framer.proofs.LateLemmas.{flag_last}
use Rattle.fx25_receiver.proofs.plain_frames.PlainFrames.push.Goals as goal

pub returns-then-now-ne-FLAG-clause-stands_for : goal.returns-then-now-ne-FLAG-clause-stands_for
returns-then-now-ne-FLAG-clause-stands_for c = λ b bit shifted s.
    c.put_off.ensures.stands_for b bit c.args.last c.args.now shifted (c.make_room.ensures.stands_for b s)

pub returns-then-now-ne-FLAG-clause-frame : goal.returns-then-now-ne-FLAG-clause-frame
returns-then-now-ne-FLAG-clause-frame c = λ b bit octets shifted s ends.
    let after = c.put_off.ensures.stands_for b bit c.args.last c.args.now shifted (c.make_room.ensures.stands_for b s) in
    absurd (c.if-now-ne-FLAG.true (flag_last (b ++ bit ∷ []) octets c.args.now (omega arith) after.last_is ends))

pub returns-clause-stands_for : goal.returns-clause-stands_for
returns-clause-stands_for c = λ b bit shifted s.
    c.catch_up.ensures.stands_for (b ++ bit ∷ [])
    (c.put_off.ensures.stands_for b bit c.args.last c.args.now shifted (c.make_room.ensures.stands_for b s))

pub returns-clause-heard : goal.returns-clause-heard
returns-clause-heard c = λ b bit shifted s e.
    c.catch_up.ensures.heard (b ++ bit ∷ [])
    (c.put_off.ensures.stands_for b bit c.args.last c.args.now shifted (c.make_room.ensures.stands_for b s)) e

pub returns-clause-frame : goal.returns-clause-frame
returns-clause-frame c = λ b bit octets shifted s ends.
    c.catch_up.ensures.frame (b ++ bit ∷ []) octets
    (c.put_off.ensures.stands_for b bit c.args.last c.args.now shifted (c.make_room.ensures.stands_for b s)) ends
