use Rattle.std.proofs.Common.{◌≡◌, length, sym, ◌∙◌, ap, subst, rules}
use Rattle.selective_reject.specs.Incoming.{Incoming, StandsForIncoming, numbers_to_ask, after_ask}
use Rattle.selective_reject.proofs.PlaceLemmas.{length-asked}
use Rattle.selective_reject.proofs.IncomingRounds.{same_numbers, stands_for-after_ask}
use Rattle.selective_reject.proofs.incoming.InStore.ask.Goals as goal

pub invariant_of-self : goal.invariant_of-self
invariant_of-self c =
    let old = c.self.invariant in
    record {
      modulus = old.modulus;
      window = old.window;
      vr = old.vr;
      places = ap length c.ask_first.ensures.places ∙ length-asked c.self.inside.places c.before_number-count.result
          ∙ old.places;
    }

pub returns-clause-formed : goal.returns-clause-formed
returns-clause-formed c = invariant_of-self c

pub returns-clause-stands_for : goal.returns-clause-stands_for
returns-clause-stands_for c store h =
    let held = c.args.self.now in
    let new : Incoming = record {
      modulus = c.self.inside.modulus;
      window = c.self.inside.window;
      mode = c.self.inside.mode;
      vr = c.self.inside.vr;
      places = c.ask_first.new.self;
    } in
    let is : c.ask_first.result.items ≡ numbers_to_ask held c.args.ns = search rules in
    let becomes : new ≡ after_ask held c.args.ns = search rules in
    let P : Incoming → Type 0 = λ t. StandsForIncoming t (after_ask store c.args.ns) in
    (is ∙ same_numbers held store c.args.ns h, subst P (sym becomes) (stands_for-after_ask held store c.args.ns h))
