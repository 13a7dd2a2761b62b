use Rattle.tnc_ports.proofs.Common.{ap, map, ◌∙◌, refl, ring_len, report_text, gap_line}
use Rattle.tnc_ports.proofs.LiveReads.{cut_in_reading, reads_all}
use Rattle.host_ports.proofs.ResultLemmas.{on_err}
use Rattle.tnc_ports.proofs.turning.Turning.read.Goals as goal

pub returns-in_err-heard-clause-cut : goal.returns-in_err-heard-clause-cut
returns-in_err-heard-clause-cut g c = λ live stands.
    on_err c.from_residual.result _
    (cut_in_reading c.args.self.now.words (ring_len c.args.ring.now) c.args.receiver.now c.advance.new.self live
    stands.listening stands.lanes c.in_err-heard.ensures.grown)

pub returns-in_err-lines-clause-cut : goal.returns-in_err-lines-clause-cut
returns-in_err-lines-clause-cut g c = λ live stands.
    on_err c.from_residual-in_err-lines.result _
    (cut_in_reading c.args.self.now.words (ring_len c.args.ring.now) c.args.receiver.now c.advance.new.self live
    stands.listening stands.lanes c.in_ok-heard.ensures.grown)

pub returns-in_err-text-clause-cut : goal.returns-in_err-text-clause-cut
returns-in_err-text-clause-cut g c = λ live stands.
    on_err c.from_residual-in_err-text.result _
    (cut_in_reading c.args.self.now.words (ring_len c.args.ring.now) c.args.receiver.now c.advance.new.self live
    stands.listening stands.lanes c.in_ok-heard.ensures.grown)

pub returns-clause-reads : goal.returns-clause-reads
returns-clause-reads g c = λ live stands.
    reads_all c.in_ok-heard.heard.ended c.in_ok-heard.heard.least c.in_ok-heard.heard.items.items c.args.self.now _
    (ring_len c.args.ring.now) c.args.receiver.now c.advance.new.self live c.in_ok-heard.heard.gaps.items
    c.deref-3.result.now _ _ stands c.in_ok-heard.ensures.turn c.in_ok-heard.ensures.due c.in_ok-heard.ensures.hears
    c.in_ok-heard.ensures.listens c.in_ok-heard.ensures.least c.in_ok-heard.ensures.forward
    c.in_ok-heard.ensures.listening
    (c.deref-3.ensures.value ∙ c.in_ok-text.ensures
    ∙ ap report_text (c.deref-2.ensures.value ∙ c.in_ok-lines.ensures ∙ ap (map gap_line) c.deref.ensures.value))
    c.put.ensures refl

pub returns-clause-lengths : goal.returns-clause-lengths
returns-clause-lengths g c = c.in_ok-heard.ensures.lengths c.requires.stands.1.hears
