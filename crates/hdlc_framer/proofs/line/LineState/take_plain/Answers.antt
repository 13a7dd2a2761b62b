use Rattle.hdlc_framer.proofs.OctetLemmas.{plain_taken}
use Rattle.hdlc_framer.proofs.line.LineState.take_plain.Goals as goal

pub returns-clause-taken : goal.returns-clause-taken
returns-clause-taken c = λ same.
    let s = c.self.inside in
    (plain_taken c.args.self.now c.go_on.new.self s.ones c.args.step c.args.octet s.after_zero s.active s.content
    c.push_octet.new.self c.requires.active.0 c.self.view_is c.requires.active.1 c.requires.step c.if-step-ge-PLAIN.false
    (c.has_room_for_octet.ensures c.if-not-has_room_for_octet.false) c.push_octet.ensures c.go_on.ensures).0

pub returns-clause-quiet : goal.returns-clause-quiet
returns-clause-quiet c = λ same.
    let s = c.self.inside in
    (plain_taken c.args.self.now c.go_on.new.self s.ones c.args.step c.args.octet s.after_zero s.active s.content
    c.push_octet.new.self c.requires.active.0 c.self.view_is c.requires.active.1 c.requires.step c.if-step-ge-PLAIN.false
    (c.has_room_for_octet.ensures c.if-not-has_room_for_octet.false) c.push_octet.ensures c.go_on.ensures).1
