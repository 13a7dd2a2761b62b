use Rattle.std.proofs.Common.{◌≡◌, ◌+◌, ◌-◌, ◌%◌, sym, ◌∙◌, subst, rules}
use Rattle.selective_reject.specs.Outgoing.{Outgoing, StandsForOutgoing, reduced_outgoing, acknowledged}
use Rattle.selective_reject.specs.Outgoing.{acknowledgement, after_acknowledge}
use Rattle.selective_reject.proofs.OutgoingRounds.{same_acknowledgement, stands_for-after_acknowledge}
use Rattle.selective_reject.proofs.OutgoingRounds.{acknowledge-truly}
use Rattle.selective_reject.proofs.outgoing.OutStore.acknowledge.Goals as goal

pub returns-in_err-count-clause-stands_for : goal.returns-in_err-count-clause-stands_for
returns-in_err-count-clause-stands_for c store h =
    let held = c.args.self.now in
    let is_refused : c.from_residual.result ≡ acknowledgement c.args.modulus c.args.nr held = search rules in
    let becomes : held ≡ reduced_outgoing (after_acknowledge c.args.modulus c.args.nr held) = search rules in
    let Q : Outgoing → Type 0 = λ t. StandsForOutgoing t (after_acknowledge c.args.modulus c.args.nr store) in (
      is_refused ∙ same_acknowledgement held store c.args.modulus c.args.nr c.requires.modulus h,
      subst Q (sym becomes) (stands_for-after_acknowledge held store c.args.modulus c.args.nr c.requires.modulus
          c.acknowledgement.ensures.formed h),
    )

pub returns-in_err-count-clause-true_number : goal.returns-in_err-count-clause-true_number
returns-in_err-count-clause-true_number c store number h low sent high is =
    let held = c.args.self.now in
    let is_refused : c.from_residual.result ≡ acknowledgement c.args.modulus c.args.nr held = search rules in
    let becomes : held ≡ reduced_outgoing (after_acknowledge c.args.modulus c.args.nr held) = search rules in
    let Q : Outgoing → Type 0 = λ t. StandsForOutgoing t (acknowledged number store) in
    let truly = acknowledge-truly held store c.args.modulus number c.args.nr c.requires.modulus
    c.acknowledgement.ensures.formed h low sent high is in
    (is_refused ∙ truly.0, subst Q (sym becomes) truly.1)

pub returns-clause-stands_for : goal.returns-clause-stands_for
returns-clause-stands_for c store h =
    let held = c.args.self.now in
    let count = c.in_ok-count.count in
    let va = (c.self.inside.va + count) % 128 in
    let new : Outgoing = record {
      va = va;
      vs = va + c.saturating_sub-self-inside.result;
      top = va + (c.self.inside.most_sent - count);
      packets = c.truncate_front.new.self.items;
      again = c.acknowledge.new.self;
    } in
    let becomes : new ≡ reduced_outgoing (after_acknowledge c.args.modulus c.args.nr held) = search rules in
    let Q : Outgoing → Type 0 = λ t. StandsForOutgoing t (after_acknowledge c.args.modulus c.args.nr store) in (
      c.in_ok-count.ensures.count ∙ same_acknowledgement held store c.args.modulus c.args.nr c.requires.modulus h,
      subst Q (sym becomes) (stands_for-after_acknowledge held store c.args.modulus c.args.nr c.requires.modulus
          c.acknowledgement.ensures.formed h),
    )

pub returns-clause-true_number : goal.returns-clause-true_number
returns-clause-true_number c store number h low sent high is =
    let held = c.args.self.now in
    let count = c.in_ok-count.count in
    let va = (c.self.inside.va + count) % 128 in
    let new : Outgoing = record {
      va = va;
      vs = va + c.saturating_sub-self-inside.result;
      top = va + (c.self.inside.most_sent - count);
      packets = c.truncate_front.new.self.items;
      again = c.acknowledge.new.self;
    } in
    let becomes : new ≡ reduced_outgoing (after_acknowledge c.args.modulus c.args.nr held) = search rules in
    let Q : Outgoing → Type 0 = λ t. StandsForOutgoing t (acknowledged number store) in
    let truly = acknowledge-truly held store c.args.modulus number c.args.nr c.requires.modulus
    c.acknowledgement.ensures.formed h low sent high is in
    (c.in_ok-count.ensures.count ∙ truly.0, subst Q (sym becomes) truly.1)
