use Rattle.hdlc_framer.proofs.Common.{◌<◌, ap, sym, ◌∙◌, Line}
use Rattle.std.proofs.Common.{◌||◌, rules}
use Rattle.hdlc_framer.proofs.OctetLemmas.{some_zero, no_zero}
use Rattle.hdlc_framer.proofs.line.LineState.go_on.Goals as goal

pub returns-then-octet-ne255 : goal.returns-then-octet-ne255
returns-then-octet-ne255 c =
    let below : c.args.octet < 256 = search rules in
    let zero = some_zero c.args.octet below c.if-octet-ne255.true in
    let content = ap (λ (l : Line). l.content) c.self.view_is in
    λ i. record {
      ones = c.args.ones;
      after_zero = sym (ap (λ z. z || c.args.self.now.after_zero) zero) i;
      content = content i;
    }

pub returns-else-octet-ne255 : goal.returns-else-octet-ne255
returns-else-octet-ne255 c =
    let none = no_zero c.args.octet c.if-octet-ne255.false in
    let content = ap (λ (l : Line). l.content) c.self.view_is in
    let before = ap (λ (l : Line). l.after_zero) c.self.view_is
    ∙ sym (ap (λ z. z || c.args.self.now.after_zero) none) in
    λ i. record { ones = c.args.ones; after_zero = before i; content = content i }
