use Rattle.std.proofs.Common.{List, ℕ, Some, None, subst, arith}
use Rattle.tnc_show.specs.HeldShow.{HasTaken}
use Rattle.tnc_show.proofs.TakingLemmas.{takes_all, takes_bad}
use Rattle.tnc_show.proofs.shower.ShowerMaker.take.Goals as goal

pub take_lines-requires-clause-room : goal.take_lines-requires-clause-room
take_lines-requires-clause-room c =
    let held = c.requires.held in
    let count = held.2.stands.count in
    let fits = held.3 in
    omega (arith, count, fits)

pub take_lines-requires-clause-least : goal.take_lines-requires-clause-least
take_lines-requires-clause-least c = c.requires.held.2.least

pub returns-in-None-clause-takes : goal.returns-in-None-clause-takes
returns-in-None-clause-takes c = λ words before h.
    let text : List ℕ = c.take_lines.new.text.items in
    takes_all words _ before c.args.octets.now text h.modulus
    (c.in_ok-fault.ensures.least c.in-None.is)
    (subst (λ m. HasTaken m before c.args.octets.now text c.take_lines.new.lines None) h.modulus
    (subst (HasTaken c.args.self.now.modulus before c.args.octets.now text c.take_lines.new.lines) c.in-None.is
    (c.in_ok-fault.ensures.taken before h.stands)))

pub returns-in-Some-clause-takes : goal.returns-in-Some-clause-takes
returns-in-Some-clause-takes c = λ words before h.
    let text : List ℕ = c.take_lines.new.text.items in
    takes_bad words c.args.self.now before c.args.octets.now text c.take_lines.new.lines c.in-Some.fault
    (subst (λ m. HasTaken m before c.args.octets.now text c.take_lines.new.lines (Some c.in-Some.fault)) h.modulus
    (subst (HasTaken c.args.self.now.modulus before c.args.octets.now text c.take_lines.new.lines) c.in-Some.is
    (c.in_ok-fault.ensures.taken before h.stands)))
