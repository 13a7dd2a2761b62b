use Rattle.std.proofs.Common.{◌≡◌, ◌∙◌, rules, None}
use Rattle.std.specs.Option.{option_copied}
use Rattle.selective_reject.specs.Outgoing.{sent_packet}
use Rattle.selective_reject.proofs.OutgoingRounds.{same_sent_packet, sent_packet-truly}
use Rattle.selective_reject.proofs.outgoing.OutStore.one.Goals as goal

pub returns-then-place-self-clause-stands_for : goal.returns-then-place-self-clause-stands_for
returns-then-place-self-clause-stands_for c store h =
    let held : None ≡ sent_packet c.args.modulus c.args.nr c.args.self.now = search rules in
    held ∙ same_sent_packet _ store c.args.modulus c.args.nr c.requires.modulus h

pub returns-clause-stands_for : goal.returns-clause-stands_for
returns-clause-stands_for c store h =
    let held : option_copied c.get.result ≡ sent_packet c.args.modulus c.args.nr c.args.self.now = search rules in
    held ∙ same_sent_packet _ store c.args.modulus c.args.nr c.requires.modulus h

pub returns-then-place-self-clause-true_number : goal.returns-then-place-self-clause-true_number
returns-then-place-self-clause-true_number c store number h low sent high is =
    let held : None ≡ sent_packet c.args.modulus c.args.nr c.args.self.now = search rules in
    held ∙ sent_packet-truly _ store c.args.modulus number c.args.nr c.requires.modulus h low sent high is

pub returns-clause-true_number : goal.returns-clause-true_number
returns-clause-true_number c store number h low sent high is =
    let held : option_copied c.get.result ≡ sent_packet c.args.modulus c.args.nr c.args.self.now = search rules in
    held ∙ sent_packet-truly _ store c.args.modulus number c.args.nr c.requires.modulus h low sent high is
