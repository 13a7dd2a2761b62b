use Rattle.std.specs.Prelude.{◌≡◌, ℕ, List, [], ◌∷◌, ◌++◌, length}
use Rattle.std.proofs.Common.{ap, ◌∙◌}
use Rattle.std.proofs.lemmas.Result.{IfOk-weaker}
use Rattle.byteorder.specs.Endian.{little_bytes}
use Rattle.agwpe_port.specs.declared.message.AgwMessage.{AgwMessage}
use Rattle.agwpe_port.specs.Messages.{spelling}
use Rattle.agwpe_port.proofs.WrittenLemmas.{in_parts}
use Rattle.agwpe_port.proofs.writer.spell.Goals as goal

pub returns-clause-spelled : goal.returns-clause-spelled
returns-clause-spelled c =
    let message : AgwMessage = c.args.message.now in
    let front : List ℕ = message.port ∷ 0 ∷ 0 ∷ 0 ∷ message.kind ∷ 0 ∷ message.pid ∷ 0 ∷ [] in
    let spelled : List ℕ → List ℕ = λ body. front ++ (message.from ++ (message.to
    ++ (little_bytes 4 (length body) ++ (0 ∷ 0 ∷ 0 ∷ 0 ∷ body)))) in
    IfOk-weaker c.spell_parts.result (λ octets. octets.items ≡ spelled c.as_slice.result.now)
    (λ octets. octets.items ≡ spelling message)
    (λ octets is. is ∙ ap spelled c.as_slice.ensures.list ∙ in_parts message) c.spell_parts.ensures
