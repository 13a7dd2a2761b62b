use Rattle.station.proofs.reading.next_item.Goals as goal

pub returns-in-Err-WebRequest-clause-stands_for : goal.returns-in-Err-WebRequest-clause-stands_for
returns-in-Err-WebRequest-clause-stands_for c = λ stream stands.
    c.in-Err-WebRequest.ensures.stands_for stream stands (λ is. absurd (cc (is, c.in-Err-WebRequest.field-0-is)))
