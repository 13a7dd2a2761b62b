use Rattle.agwpe_port.proofs.messages.next_message.Goals as goal

pub returns-in-Err-BadLength-clause-stands_for : goal.returns-in-Err-BadLength-clause-stands_for
returns-in-Err-BadLength-clause-stands_for c = λ stream h. c.push.ensures.stands_for stream h
    (λ e. absurd (cc (c.in-Err-BadLength.is, e)))

pub returns-in-Err-Failed-clause-stands_for : goal.returns-in-Err-Failed-clause-stands_for
returns-in-Err-Failed-clause-stands_for c = λ stream h. c.push.ensures.stands_for stream h
    (λ e. absurd (cc (c.in-Err-Failed.is, e)))

pub returns-in-Ok-clause-failed : goal.returns-in-Ok-clause-failed
returns-in-Ok-clause-failed c = λ stream len h bad.
    let failed = c.push.ensures.failed stream len h bad in
    absurd (cc (c.in-Ok.is, failed))
