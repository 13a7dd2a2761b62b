use Rattle.std.specs.Prelude.{◌≡◌, ℕ, List}
use Rattle.std.proofs.Common.{ap, ◌∙◌}
use Rattle.std.proofs.lemmas.Result.{IfOk-weaker}
use Rattle.agwpe_port.specs.declared.message.AgwMessage.{AgwMessage}
use Rattle.agwpe_port.specs.Messages.{spelling}
use Rattle.agwpe_port.proofs.WrittenLemmas.{in_parts}
use Rattle.agwpe_port.proofs.writer.spell_agw.Goals as goal

pub returns : goal.returns
returns c =
    let message : AgwMessage = record {
      port = 0;
      kind = c.args.kind;
      pid = c.args.pid;
      from = c.args.from;
      to = c.args.to;
      body = c.args.body.now;
    } in
    IfOk-weaker c.from_slice.result (λ stream. stream ≡ c.deref.result.now) (λ stream. stream ≡ spelling message)
    (λ stream is. is ∙ c.deref.ensures.value ∙ c.in_ok-octets.ensures ∙ in_parts message) c.from_slice.ensures
