use Rattle.hdlc_framer.proofs.Common.{Some, ap, sym, ◌∙◌, Line, cond}
use Rattle.hdlc_framer.proofs.OctetLemmas.{no_content}
use Rattle.hdlc_framer.proofs.line.LineState.take_octet.Goals as goal

pub take_plain-requires-clause-active : goal.take_plain-requires-clause-active
take_plain-requires-clause-active c = (
  c.self.inside.content,
  sym (ap (λ (l : Line). l.content) c.self.view_is)
      ∙ ap (λ a. cond a (Some c.self.inside.content) no_content) c.if-self.true,
)
