use Rattle.host_ports.proofs.Common.{◌≡◌, sym, ap, subst, ◌∙◌, ◌++◌, All-append, scripted_for, Poll, IsWholePiece}
use Rattle.host_ports.proofs.Common.{has_come}
use Rattle.std.proofs.Common.{All}
use Rattle.host_ports.proofs.ScriptLemmas.{whole_scripted, come_in_vain}
use Rattle.host_ports.proofs.mem_ports.MemPorts.poll_in_vain.Goals as goal

pub invariant_of-self-2 : goal.invariant_of-self-2
invariant_of-self-2 c =
    let due : c.in_ok-waiting.waiting.items ≡ c.self.inside.waiting.items
    ++ scripted_for c.len.result c.self.inside.script.items =
    c.in_ok-waiting.ensures ∙ ap (λ before. before ++ scripted_for c.len.result c.deref-2.result.now)
    c.deref.ensures.value
    ∙ ap (λ script. c.self.inside.waiting.items ++ scripted_for c.len.result script) c.deref-2.ensures.value in
    let whole : All IsWholePiece c.in_ok-waiting.waiting.items =
    subst (All IsWholePiece) (sym due)
    (All-append IsWholePiece c.self.inside.waiting.items (scripted_for c.len.result c.self.inside.script.items)
    c.self.invariant.1 (whole_scripted c.len.result c.self.inside.script.items c.self.invariant.0)) in (
      c.self.invariant.0,
      whole,
      λ id comes. c.self.invariant.2 id
          (sym (ap (has_come id) c.in_ok-push.ensures.items
          ∙ come_in_vain id c.self.inside.polls.items c.in_ok-record.record
          (ap (λ (poll : Poll). poll.events) c.in_ok-record.ensures)) ∙ comes),
      c.self.invariant.3,
    )
