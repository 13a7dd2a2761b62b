use Rattle.std.proofs.Common.{◌≡◌, ◌+◌, ◌-◌, nat_lt, if◌then◌else◌, true, false, sym, ◌∙◌, subst, rules}
use Rattle.selective_reject.specs.Numbers.{ahead}
use Rattle.selective_reject.specs.Outgoing.{Outgoing, StandsForOutgoing, after_ask_again, asked_again}
use Rattle.selective_reject.proofs.OutgoingRounds.{stands_for-after_ask_again, ask_again-truly}
use Rattle.selective_reject.proofs.outgoing.OutStore.ask_again.Goals as goal

pub returns-then-place-self-clause-stands_for : goal.returns-then-place-self-clause-stands_for
returns-then-place-self-clause-stands_for c store h =
    let held = c.args.self.now in
    let becomes : held ≡ after_ask_again c.args.modulus c.args.nr held = search rules in
    let Q : Outgoing → Type 0 = λ t. StandsForOutgoing t (after_ask_again c.args.modulus c.args.nr store) in
    subst Q (sym becomes) (stands_for-after_ask_again held store c.args.modulus c.args.nr c.requires.modulus h)

pub returns-then-place-self-clause-true_number : goal.returns-then-place-self-clause-true_number
returns-then-place-self-clause-true_number c store number h low sent high is =
    let held = c.args.self.now in
    let not_sent : false ≡ nat_lt (ahead c.args.modulus held.va c.args.nr) (held.top - held.va) = search rules in
    let becomes : held ≡ after_ask_again c.args.modulus c.args.nr held = search rules in
    let Q : Outgoing → Type 0 =
    λ t. StandsForOutgoing t (if nat_lt number store.top then asked_again number store else store) in
    let truly = ask_again-truly held store c.args.modulus number c.args.nr c.requires.modulus h low sent high is in
    (not_sent ∙ truly.0, subst Q (sym becomes) truly.1)

pub returns-clause-stands_for : goal.returns-clause-stands_for
returns-clause-stands_for c store h =
    let held = c.args.self.now in
    let inside = c.self.inside in
    let new : Outgoing = record {
      va = inside.va;
      vs = inside.va + inside.sent;
      top = inside.va + inside.most_sent;
      packets = inside.packets.items;
      again = c.add.new.self;
    } in
    let becomes : new ≡ after_ask_again c.args.modulus c.args.nr held = search rules in
    let Q : Outgoing → Type 0 = λ t. StandsForOutgoing t (after_ask_again c.args.modulus c.args.nr store) in
    subst Q (sym becomes) (stands_for-after_ask_again held store c.args.modulus c.args.nr c.requires.modulus h)

pub returns-clause-true_number : goal.returns-clause-true_number
returns-clause-true_number c store number h low sent high is =
    let held = c.args.self.now in
    let inside = c.self.inside in
    let new : Outgoing = record {
      va = inside.va;
      vs = inside.va + inside.sent;
      top = inside.va + inside.most_sent;
      packets = inside.packets.items;
      again = c.add.new.self;
    } in
    let was_sent : true ≡ nat_lt (ahead c.args.modulus held.va c.args.nr) (held.top - held.va) = search rules in
    let becomes : new ≡ after_ask_again c.args.modulus c.args.nr held = search rules in
    let Q : Outgoing → Type 0 =
    λ t. StandsForOutgoing t (if nat_lt number store.top then asked_again number store else store) in
    let truly = ask_again-truly held store c.args.modulus number c.args.nr c.requires.modulus h low sent high is in
    (was_sent ∙ truly.0, subst Q (sym becomes) truly.1)
