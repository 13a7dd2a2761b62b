use Rattle.hdlc_framer.proofs.OctetLemmas.{idle_taken}
use Rattle.hdlc_framer.proofs.line.LineState.pass.Goals as goal

pub returns-clause-taken : goal.returns-clause-taken
returns-clause-taken c = λ same.
    (idle_taken c.args.self.now c.go_on.new.self c.args.step c.args.octet c.requires.idle c.requires.ones c.requires.step
    c.if-step-ge-QUIET.false c.go_on.ensures).0

pub returns-clause-quiet : goal.returns-clause-quiet
returns-clause-quiet c = λ same.
    (idle_taken c.args.self.now c.go_on.new.self c.args.step c.args.octet c.requires.idle c.requires.ones c.requires.step
    c.if-step-ge-QUIET.false c.go_on.ensures).1
