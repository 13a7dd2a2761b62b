use Rattle.tnc_call.proofs.Common.{◌++◌, ℕ, List, [], Err, refl, ap, subst, sym, append-nil, MatchOption, HostEvent}
use Rattle.tnc_call.proofs.Common.{Poll, octets_in, octets_of, GoesOn, StopsBy}
use Rattle.tnc_call.proofs.TurnLemmas.{turn_goes, turns_on, no_memory}
use Rattle.tnc_call.proofs.talk.Talk.hear.Goals as goal

pub returns-in-Ok-clause-heard : goal.returns-in-Ok-clause-heard
returns-in-Ok-clause-heard g c = λ plan before start trace offered.
    let told = g.N.Ports.told in
    let arm = c.in-Ok.ensures in
    let id : ℕ = c.args.id in
    let poll : Poll = record { wait = 100; paused = []; events = c.in-Ok.events.items } in
    let host : List ℕ = octets_in id trace.polls in
    let output = (g.O.Sink.told c.take_all.new.output).written in
    let P : List HostEvent → Type 0 = λ es. MatchOption c.take_all.result
    (GoesOn c.take_all.new.self plan (host ++ octets_of id es) before output) (StopsBy plan id host es before output) in
    turn_goes c.args.self.now plan id before start (told c.args.ports.now) trace
    (g.O.Sink.told c.args.output.now).written offered poll (refl, refl) (told c.poll.new.self)
    (λ was at. arm.polled was at) arm.sends arm.sent
    (record { listens = arm.listens; dials = arm.dials; shut = arm.shut; later = arm.later })
    c.take_all.new.self output c.take_all.result c.take_all.ensures.kept
    (subst P c.deref.ensures.value (c.take_all.ensures.taken plan host before offered.goes_on))

pub returns-in-Err-Failed-clause-heard : goal.returns-in-Err-Failed-clause-heard
returns-in-Err-Failed-clause-heard g c = λ plan before start trace offered.
    let told = g.N.Ports.told in
    let arm = c.in-Err-Failed.ensures in
    let id : ℕ = c.args.id in
    let poll : Poll = record { wait = 100; paused = []; events = [] } in
    let host : List ℕ = octets_in id trace.polls in
    let output = (g.O.Sink.told c.args.output.now).written in
    turns_on c.args.self.now plan id before start (told c.args.ports.now) trace output offered poll (refl, refl)
    (told c.poll.new.self)
    (λ was at. arm.failed_poll was at (ap Err c.in-Err-Failed.field-0-is)) arm.sends arm.sent
    (record { listens = arm.listens; dials = arm.dials; shut = arm.shut; later = arm.later })
    c.args.self.now output refl
    (subst (λ xs. GoesOn c.args.self.now plan xs before output) (sym (append-nil host)) offered.goes_on)

pub returns-in-Err-Memory-clause-heard : goal.returns-in-Err-Memory-clause-heard
returns-in-Err-Memory-clause-heard g c = λ plan before start trace offered.
    let told = g.N.Ports.told in
    let arm = c.in-Err-Memory.ensures in
    no_memory c.args.self.now plan c.args.id before start (told c.args.ports.now) trace
    (g.O.Sink.told c.args.output.now).written offered (told c.poll.new.self)
    (arm.memory (ap Err c.in-Err-Memory.field-0-is)) arm.sends arm.sent
    (record { listens = arm.listens; dials = arm.dials; shut = arm.shut; later = arm.later })
