use Rattle.std.proofs.Common.{◌≡◌, sym, ◌∙◌, subst, rules}
use Rattle.selective_reject.specs.Incoming.{Incoming, StandsForIncoming, took, after_accept}
use Rattle.selective_reject.specs.TrueNumbers.{after_accept_truly}
use Rattle.selective_reject.proofs.IncomingRounds.{same_took, stands_for-after_accept, accept-truly}
use Rattle.selective_reject.proofs.incoming.InStore.accept.Goals as goal

pub returns-then-keeps-clause-stands_for : goal.returns-then-keeps-clause-stands_for
returns-then-keeps-clause-stands_for c store h =
    let held = c.args.self.now in
    let new : Incoming = record {
      modulus = c.self.inside.modulus;
      window = c.self.inside.window;
      mode = c.self.inside.mode;
      vr = c.self.inside.vr;
      places = c.put.new.self;
    } in
    let is : c.taking-took.result ≡ took held c.args.ns = search rules in
    let becomes : new ≡ after_accept held c.args.ns c.args.packet = search rules in
    let P : Incoming → Type 0 = λ t. StandsForIncoming t (after_accept store c.args.ns c.args.packet) in (
      is ∙ same_took held store c.args.ns h,
      subst P (sym becomes)
          (stands_for-after_accept held store c.args.ns c.args.packet h),
    )

pub returns-then-keeps-clause-true_number : goal.returns-then-keeps-clause-true_number
returns-then-keeps-clause-true_number c store sender number h fit reach is_number =
    let held = c.args.self.now in
    let new : Incoming = record {
      modulus = c.self.inside.modulus;
      window = c.self.inside.window;
      mode = c.self.inside.mode;
      vr = c.self.inside.vr;
      places = c.put.new.self;
    } in
    let is : c.taking-took.result ≡ took held c.args.ns = search rules in
    let becomes : new ≡ after_accept held c.args.ns c.args.packet = search rules in
    let P : Incoming → Type 0 = λ t. StandsForIncoming t (after_accept_truly store number c.args.packet) in
    let truly = accept-truly held store sender number c.args.ns c.args.packet h fit reach is_number in
    (is ∙ truly.0, subst P (sym becomes) truly.1)

pub returns-else-keeps-clause-stands_for : goal.returns-else-keeps-clause-stands_for
returns-else-keeps-clause-stands_for c store h =
    let held = c.args.self.now in
    let is : c.taking-took.result ≡ took held c.args.ns = search rules in
    let becomes : held ≡ after_accept held c.args.ns c.args.packet = search rules in
    let P : Incoming → Type 0 = λ t. StandsForIncoming t (after_accept store c.args.ns c.args.packet) in (
      is ∙ same_took held store c.args.ns h,
      subst P (sym becomes)
          (stands_for-after_accept held store c.args.ns c.args.packet h),
    )

pub returns-else-keeps-clause-true_number : goal.returns-else-keeps-clause-true_number
returns-else-keeps-clause-true_number c store sender number h fit reach is_number =
    let held = c.args.self.now in
    let is : c.taking-took.result ≡ took held c.args.ns = search rules in
    let becomes : held ≡ after_accept held c.args.ns c.args.packet = search rules in
    let P : Incoming → Type 0 = λ t. StandsForIncoming t (after_accept_truly store number c.args.packet) in
    let truly = accept-truly held store sender number c.args.ns c.args.packet h fit reach is_number in
    (is ∙ truly.0, subst P (sym becomes) truly.1)
