use Rattle.tnc_ports.proofs.Common.{ap, ring_len}
use Rattle.host_ports.proofs.ResultLemmas.{on_err}
use Rattle.tnc_ports.proofs.LiveTurn.{whole_turn, cut_serving}
use Rattle.tnc_ports.proofs.turning.Turning.turn.Goals as goal

pub returns-in_err-ended-clause-cut : goal.returns-in_err-ended-clause-cut
returns-in_err-ended-clause-cut g c = λ from live stands key.
    on_err c.from_residual.result _ (c.in_err-ended.ensures.cut from live stands key _)

pub returns-in_err-serve_hosts-clause-cut : goal.returns-in_err-serve_hosts-clause-cut
returns-in_err-serve_hosts-clause-cut g c = λ from live stands key.
    on_err c.from_residual-in_err-serve_hosts.result _
    (cut_serving from c.in_ok-ended.ended c.args.self.now c.make.new.self c.serve_hosts.new.self
    (ring_len c.args.ring.now) c.make.new.receiver live _ _ _
    (g.E.Sink.told c.make.new.report) _ _ _ _
    (c.in_ok-ended.ensures.made from live stands key) c.in_err-serve_hosts.ensures.unwritten.1
    c.in_err-serve_hosts.ensures.rest.0 c.in_err-serve_hosts.ensures.rest.2
    (ap g.E.Sink.told c.in_err-serve_hosts.ensures.unwritten.0)
    c.in_err-serve_hosts.ensures.cut c.in_err-serve_hosts.ensures.rest.3)

pub returns-clause-turned : goal.returns-clause-turned
returns-clause-turned g c = λ from live stands key.
    whole_turn from c.in_ok-ended.ended c.args.self.now c.make.new.self c.serve_hosts.new.self
    (ring_len c.args.ring.now) c.make.new.receiver live _ _ _
    (g.E.Sink.told c.make.new.report) _ _ _ _
    (c.in_ok-ended.ensures.made from live stands key) c.in_ok-serve_hosts.ensures.served
    c.in_ok-serve_hosts.ensures.rest.1 c.in_ok-ended.ensures.words c.in_ok-serve_hosts.ensures.rest.0
    c.in_ok-serve_hosts.ensures.rest.2 c.in_ok-serve_hosts.ensures.rest.3
