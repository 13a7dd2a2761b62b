use Rattle.tnc_call.proofs.WholeLemmas.{whole_call}
use Rattle.tnc_call.proofs.calling.call.Goals as goal

pub returns-clause-called : goal.returns-clause-called
returns-clause-called g c = λ text before is_text is.
    let told = g.N.Ports.told in
    let begun = c.in-Ok.ensures.begun text is_text in
    let dial = c.in-Ok-dial.ensures in
    let shut = c.shut.ensures in
    let talked = c.converse-end.ensures.talked _ before begun.0 is in
    whole_call c.args.words text before (g.O.Sink.told c.converse-end.new.output).written (told c.args.ports.now)
    (told c.dial.new.self) (told c.converse-end.new.ports) (told c.shut.new.self) c.in-Ok-dial.id c.converse-end.result
    begun.1 (λ was at. dial.dialed was at)
    (record { polls = dial.polls; sends = dial.sends; sent = dial.sent; listens = dial.listens; later = dial.later })
    dial.shut talked
    (record { polls = shut.polls; sends = shut.sends; sent = shut.sent; listens = shut.listens; later = shut.later })
    shut.dials shut.shut_dialed shut.others c.converse-end.ensures.only
