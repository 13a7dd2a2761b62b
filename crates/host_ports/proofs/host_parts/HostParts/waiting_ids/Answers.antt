use Rattle.host_ports.proofs.Common.{◌≡◌, ◌<◌, ◌≤◌, ◌++◌, [], ℕ, length, take, ◌+◌, get_or, sym, ap, subst, ◌∙◌}
use Rattle.host_ports.proofs.Common.{true≢false, Client, HasToWait}
use Rattle.std.proofs.Common.{◌∷◌, List}
use Rattle.host_ports.proofs.ClientLemmas.{take_end}
use Rattle.host_ports.proofs.PauseLemmas.{AreWaitingOf, one_waits, one_goes}
use Rattle.host_ports.proofs.host_parts.HostParts.waiting_ids.Goals.{then-has_to_wait+in_ok-push, else-has_to_wait}
use Rattle.host_ports.proofs.host_parts.HostParts.waiting_ids.Goals as goal

pub loop-client-preserved : goal.loop-client-preserved
loop-client-preserved c =
    let clients : List Client = c.args.self.now.clients.items in
    let at : ℕ = c.loop-client.client-index in
    let client : Client = c.client-item.result in
    let same : c.deref-client-items.result.now ≡ clients = c.deref-client-items.ensures.value in
    let one : client ≡ get_or clients at client = subst (λ ls. client ≡ get_or ls at client) same c.client-item.is in
    let within : at < length clients = subst (λ ls. at < length ls) same c.loop-client-test.true in
    elim c.if-has_to_wait.branch [
      | then-has_to_wait+in_ok-push w ↦ λ printed hosts h.
          one_waits at c.loop-client.ids.items c.if-has_to_wait.ids.items clients client hosts within
          (c.loop-client.invariant printed hosts h)
          (subst (λ (l : Client). HasToWait l.id hosts) one
          ((c.has_to_wait.ensures.waits printed hosts h).0 w.if-has_to_wait.true))
          (ap (λ v. v.items) w.ids-is ∙ w.in_ok-push.ensures.items
          ∙ ap (λ (l : Client). c.loop-client.ids.items ++ l.id ∷ []) one)
      | else-has_to_wait w ↦ λ printed hosts h.
          subst (λ ids. AreWaitingOf ids (take (at + 1) clients) hosts) (ap (λ v. v.items) (sym w.ids-is))
          (one_goes at c.loop-client.ids.items clients client hosts within (c.loop-client.invariant printed hosts h)
          (λ waits. true≢false (sym ((c.has_to_wait.ensures.waits printed hosts h).1
          (subst (λ (l : Client). HasToWait l.id hosts) (sym one) waits)) ∙ w.if-has_to_wait.false)))
    ]

pub returns : goal.returns
returns c = record {
  waiting = λ printed hosts h.
      let clients : List Client = c.args.self.now.clients.items in
      let end : length clients ≤ c.loop-client.client-index = subst (λ ls. length ls ≤ c.loop-client.client-index)
      c.deref-client-items.ensures.value c.loop-client-test.false in
      subst (λ ls. AreWaitingOf c.loop-client.ids.items ls hosts) (take_end clients c.loop-client.client-index end
      ∙ sym h.clients) (c.loop-client.invariant printed hosts h);
}
