use Rattle.link_machine.proofs.Common.{◌≡◌, ◌+◌, ◌==◌, nat_lt, sym, ◌∙◌, ap, subst, Ok, not, cond-true, Outgoing}
use Rattle.link_machine.proofs.Common.{StandsForOutgoing, acknowledgement, named}
use Rattle.selective_reject.specs.Outgoing.{after_acknowledge, acknowledged as without_acknowledged}
use Rattle.link_machine.specs.Acts.{timed_by}
use Rattle.link_machine.proofs.Showing.{holds_outgoing, holds_control}
use Rattle.link_machine.proofs.Events.{valid_number, below_top, some_acknowledged, all_acknowledged}
use Rattle.link_machine.proofs.machine.Machine.acknowledge.Goals as goal

pub returns-in-Ok-clause-holds : goal.returns-in-Ok-clause-holds
returns-in-Ok-clause-holds c = λ m h valid.
    let held = c.args.self.now in
    let o = m.outgoing in
    let n = named c.args.nr m in
    let modulus : c.modulus.result ≡ m.incoming.modulus = c.modulus.ensures.value ∙ h.stands.incoming.modulus in
    let counted : acknowledgement held.incoming.modulus c.args.nr held.outgoing ≡ Ok c.in-Ok.count =
    ap (λ k. acknowledgement k c.args.nr held.outgoing) (sym c.modulus.ensures.value) ∙ sym c.in-Ok.ensures.count in
    let number : n ≡ o.va + c.in-Ok.count = (valid_number held m c.args.nr c.in-Ok.count h counted).1 in
    let becomes : after_acknowledge c.modulus.result c.args.nr o ≡ without_acknowledged n o =
    ap (λ k. after_acknowledge k c.args.nr o) modulus ∙ cond-true _ _ _ valid in
    let P : Outgoing → Type 0 = λ x. StandsForOutgoing c.acknowledge.new.self x in
    let stands : StandsForOutgoing c.acknowledge.new.self (without_acknowledged n o) =
    subst P becomes (c.acknowledge.ensures.stands_for o h.stands.outgoing).1 in
    let some : nat_lt 0 c.in-Ok.count ≡ nat_lt o.va n = some_acknowledged o.va n c.in-Ok.count number in
    let all : not c.is_waiting-all.result ≡ (n == o.top) =
    ap not (c.is_waiting-all.ensures.stands_for (without_acknowledged n o) stands)
    ∙ all_acknowledged n o.top (below_top held m c.args.nr h valid) in
    let control : c.acknowledge-in-Ok.new.self ≡ timed_by (nat_lt o.va n) (n == o.top) held.control =
    c.acknowledge-in-Ok.ensures
    ∙ ap (λ b. timed_by b (not c.is_waiting-all.result) held.control) some
    ∙ ap (λ b. timed_by (nat_lt o.va n) b held.control) all in
    holds_control (timed_by (nat_lt o.va n) (n == o.top)) _ _ c.acknowledge-in-Ok.new.self control (
    holds_outgoing held m c.acknowledge.new.self (without_acknowledged n o) h c.acknowledge.ensures.formed stands
    )
