use Rattle.live_receiver.proofs.Common.{◌≡◌, All, Candidate, false, ring_len, sym, subst}
use Rattle.hdlc_framer.specs.FrameLength.{HasFrameLength}
use Rattle.std.specs.Prelude.{IfOk}
use Rattle.fx25_ring.specs.Held.{BlocksHeard}
use Rattle.ring_receiver.specs.Turns.{AreGrownBy}
use Rattle.live_receiver.specs.declared.receiver.LiveReceiver.{LiveReceiver}
use Rattle.live_receiver.specs.declared.receiver.LiveReceiver.TheVariants.{Bell202}
use Rattle.live_receiver.specs.Listening.{readers_wanted}
use Rattle.live_receiver.specs.LiveReceivers.{Hears, listening_of, records_in}
use Rattle.live_receiver.proofs.receiver.LiveReceiver.advance.Goals as goal

pub returns-in-Bell202-clause-grown : goal.returns-in-Bell202-clause-grown
returns-in-Bell202-clause-grown g c =
    subst (λ (v : LiveReceiver). AreGrownBy (readers_wanted (listening_of v)) (records_in v)
    (records_in (Bell202 c.advance.new.self))) (sym c.in-Bell202.is) c.advance.ensures.grown

pub returns-in-Fx25-clause-lengths : goal.returns-in-Fx25-clause-lengths
returns-in-Fx25-clause-lengths g c =
    subst (λ (v : LiveReceiver). IfOk c.advance-in-Fx25.result (λ heard. Hears (ring_len c.args.ring.now) v
    → All (λ (item : Candidate). HasFrameLength item.octets) heard.items.items))
    (sym c.in-Fx25.is) c.advance-in-Fx25.ensures.lengths

pub returns-in-Fx25-clause-hears : goal.returns-in-Fx25-clause-hears
returns-in-Fx25-clause-hears g c =
    subst (λ (v : LiveReceiver). IfOk c.advance-in-Fx25.result (λ heard. heard.ended ≡ false
    → Hears (ring_len c.args.ring.now) v → BlocksHeard (ring_len c.args.ring.now) c.advance-in-Fx25.new.self))
    (sym c.in-Fx25.is) c.advance-in-Fx25.ensures.hears
