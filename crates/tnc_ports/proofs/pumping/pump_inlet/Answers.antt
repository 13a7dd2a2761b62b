use Rattle.tnc_ports.proofs.Common.{◌≡◌, ◌≤◌, ap, arith, length, refl, subst, sym}
use Rattle.sound_rate.proofs.Lengths.{received_few}
use Rattle.tnc_base.specs.Streams.{SourceTold}
use Rattle.tnc_ports.specs.HeldPump.{HasStopped}
use Rattle.tnc_ports.proofs.PaceLemmas.{keeps_pace}
use Rattle.tnc_ports.proofs.PumpLemmas.{is_pumped, pumped_same}
use Rattle.tnc_ports.proofs.pumping.pump_inlet.Goals as goal

pub returns-clause-pumped : goal.returns-clause-pumped
returns-clause-pumped g c = λ octets left.
    let p = c.pump_reads-end.ensures.pumped c.args.rate octets c.new-incoming.ensures left in
    is_pumped c.args.rate octets (g.T.Inlet.told c.publish_rest.new.inlet).left
    (g.T.Inlet.published c.pump_reads-end.new.inlet)
    (g.T.Inlet.published c.publish_rest.new.inlet) c.pump_reads-end.new.incoming p.0 p.1 c.pump_reads-end.result
    (pumped_same c.args.rate octets _ _ _ _ _ _ _ p.2
    (ap (λ (t : SourceTold). t.left) c.publish_rest.ensures.source) refl)
    (subst (λ (t : SourceTold). HasStopped c.pump_reads-end.result t.left p.1) (sym c.publish_rest.ensures.source) p.3)
    (c.publish_rest.ensures.rest c.args.rate)

pub returns-clause-pace : goal.returns-clause-pace
returns-clause-pace g c = λ before told.
    let p = c.pump_reads-end.ensures.pace c.args.rate before c.new-incoming.ensures told in
    let more = c.publish_rest.ensures.steps in
    keeps_pace c.args.rate before _ _ _ _ c.pump_reads-end.new.incoming p.0 more.0 p.1 more.1 more.2
    (c.publish_rest.ensures.rest c.args.rate)

pub returns-clause-count : goal.returns-clause-count
returns-clause-count g c =
    let t = c.pump_reads-end.ensures.taken c.args.rate c.new-incoming.ensures in
    let all = ap length (c.publish_rest.ensures.rest c.args.rate t.0 t.1) in
    let few = received_few c.args.rate t.0 in
    let most = t.2 in
    omega (arith, all, few, most)
