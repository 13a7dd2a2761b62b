use Rattle.host_ports.proofs.Common.{◌≡◌, [], sym, ap, subst, ◌∙◌, ◌++◌, All-append, PortsView, scripted_for, waiting_of}
use Rattle.host_ports.proofs.Common.{given_of, joined_in, was_shut, Poll, MayCome, IsWholePiece, has_come}
use Rattle.std.proofs.Common.{All}
use Rattle.host_ports.proofs.ScriptLemmas.{whole_scripted, whole_waiting, given_may_come, come_more, was_shut-joined}
use Rattle.host_ports.proofs.ScriptLemmas.{is_one_of, still_one_of}
use Rattle.host_ports.proofs.mem_ports.MemPorts.give.Goals as goal

pub invariant_of-self-2 : goal.invariant_of-self-2
invariant_of-self-2 c =
    let due : c.in_ok-all.all.items ≡ c.self.inside.waiting.items
    ++ scripted_for c.len.result c.self.inside.script.items =
    c.in_ok-all.ensures ∙ ap (λ before. before ++ scripted_for c.len.result c.deref-2.result.now) c.deref.ensures.value
    ∙ ap (λ script. c.self.inside.waiting.items ++ scripted_for c.len.result script) c.deref-2.ensures.value in
    let whole : All IsWholePiece c.in_ok-all.all.items =
    subst (All IsWholePiece) (sym due)
    (All-append IsWholePiece c.self.inside.waiting.items (scripted_for c.len.result c.self.inside.script.items)
    c.self.invariant.1 (whole_scripted c.len.result c.self.inside.script.items c.self.invariant.0)) in
    let came : c.in_ok-came.came.items ≡ c.self.inside.came.items ++ joined_in c.in_ok-parted.parted.given.items =
    c.in_ok-came.ensures ∙ ap (λ before. before ++ joined_in c.deref-6.result.now) c.deref-5.ensures.value
    ∙ ap (λ events. c.self.inside.came.items ++ joined_in events) c.deref-6.ensures.value in
    let events = ap (λ (poll : Poll). poll.events) c.in_ok-record.ensures ∙ c.deref-4.ensures.value in (
      c.self.invariant.0,
      subst (All IsWholePiece) (sym (c.in_ok-parted.ensures.waiting
          ∙ ap (waiting_of c.args.paused.now []) c.deref-3.ensures.value))
          (whole_waiting c.args.paused.now [] c.in_ok-all.all.items whole),
      λ id comes.
          ap (is_one_of id) (came ∙ ap (λ new. c.self.inside.came.items ++ joined_in new) (sym events))
          ∙ come_more id c.self.inside.polls.items c.in_ok-record.record c.self.inside.came.items
          (c.self.invariant.2 id) (sym (ap (has_come id) c.in_ok-push.ensures.items) ∙ comes),
      λ id dialed.
          ap (is_one_of id) came
          ∙ still_one_of id c.self.inside.came.items (joined_in c.in_ok-parted.parted.given.items)
          (c.self.invariant.3 id dialed),
    )

pub returns-clause-events : goal.returns-clause-events
returns-clause-events c =
    let due : c.in_ok-all.all.items ≡ c.self.inside.waiting.items
    ++ scripted_for c.len.result c.self.inside.script.items =
    c.in_ok-all.ensures ∙ ap (λ before. before ++ scripted_for c.len.result c.deref-2.result.now) c.deref.ensures.value
    ∙ ap (λ script. c.self.inside.waiting.items ++ scripted_for c.len.result script) c.deref-2.ensures.value in
    let whole : All IsWholePiece c.in_ok-all.all.items =
    subst (All IsWholePiece) (sym due)
    (All-append IsWholePiece c.self.inside.waiting.items (scripted_for c.len.result c.self.inside.script.items)
    c.self.invariant.1 (whole_scripted c.len.result c.self.inside.script.items c.self.invariant.0)) in
    subst (All (MayCome c.args.paused.now)) (sym (c.in_ok-parted.ensures.given
    ∙ ap (given_of c.args.paused.now []) c.deref-3.ensures.value))
    (given_may_come c.args.paused.now [] c.in_ok-all.all.items whole)

pub returns-clause-shut : goal.returns-clause-shut
returns-clause-shut c = λ id.
    let came : c.in_ok-came.came.items ≡ c.self.inside.came.items ++ joined_in c.in_ok-parted.parted.given.items =
    c.in_ok-came.ensures ∙ ap (λ before. before ++ joined_in c.deref-6.result.now) c.deref-5.ensures.value
    ∙ ap (λ events. c.self.inside.came.items ++ joined_in events) c.deref-6.ensures.value in
    ap (λ all. was_shut all id) came ∙ was_shut-joined c.self.inside.came.items c.in_ok-parted.parted.given.items id
    ∙ ap (λ (view : PortsView). was_shut view.came id) c.self.view_is
