use Rattle.tnc_call.proofs.Common.{◌-◌, ℕ, length, subst, sym, Talk, CallTrace, HasOffered}
use Rattle.tnc_call.proofs.TraceLemmas.{with_offer}
use Rattle.tnc_call.proofs.TurnLemmas.{has_offered, send_failed}
use Rattle.tnc_call.proofs.talk.Talk.turn.Goals as goal

pub returns-in-Ok-clause-turned : goal.returns-in-Ok-clause-turned
returns-in-Ok-clause-turned g c = λ plan before start trace running.
    let told = g.N.Ports.told in
    let talk : Talk = c.args.self.now in
    let arm = c.in-Ok.ensures in
    let taken : ℕ = c.offer.new.self.taken in
    let next : CallTrace = with_offer (length talk.sent.items - talk.taken) (taken - talk.taken) trace in
    let P : Talk → Type 0 = λ t. HasOffered t plan c.args.id before (g.O.Sink.told c.args.output.now).written start
    (told c.offer.new.ports) next in
    c.hear.ensures.heard plan before start next
    (subst P (sym arm.kept)
    (has_offered talk plan c.args.id before (g.O.Sink.told c.args.output.now).written start
    (told c.args.ports.now) trace running
    taken (told c.offer.new.ports) arm.taken arm.within c.requires.within
    (record {
      same = arm.polls;
      sends = λ polled was at is. arm.sends polled was at is;
      sent = λ was at. arm.sent was at;
      others = arm.others;
    })
    (record { listens = arm.listens; dials = arm.dials; shut = arm.shut; later = arm.later })))

pub returns-in-Err-clause-turned : goal.returns-in-Err-clause-turned
returns-in-Err-clause-turned g c = λ plan before start trace running.
    let told = g.N.Ports.told in
    let arm = c.in-Err.ensures in
    send_failed c.args.self.now plan c.args.id before (g.O.Sink.told c.args.output.now).written start
    (told c.args.ports.now)
    trace running (told c.offer.new.ports) arm.polls arm.refused.1 arm.refused.0
    (record { listens = arm.listens; dials = arm.dials; shut = arm.shut; later = arm.later })
    arm.rose arm.refused.2 c.requires.within
