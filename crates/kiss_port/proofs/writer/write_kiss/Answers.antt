use Rattle.std.proofs.Common.{◌≡◌, ℕ, List, [], ◌∷◌, ap, ◌∙◌}
use Rattle.std.specs.Option.{option_to_list}
use Rattle.std.proofs.lemmas.Result.{IfOk-weaker}
use Rattle.kiss_port.specs.Escapes.{spelled, unescaped}
use Rattle.kiss_port.specs.Pieces.{pieces}
use Rattle.kiss_port.specs.Items.{kind_of, item_of, items_in}
use Rattle.kiss_port.proofs.HeldLemmas.{item_written}
use Rattle.kiss_port.proofs.EscapeLemmas.{spelled_back, spelled_piece}
use Rattle.kiss_port.proofs.writer.write_kiss.Goals as goal

pub returns-clause-piece : goal.returns-clause-piece
returns-clause-piece c =
    let said : List ℕ = kind_of c.args.port c.args.command ∷ c.args.octets.now in
    IfOk-weaker c.from_slice.result (λ stream. stream ≡ c.deref.result.now) (λ stream. (piece : List ℕ)
    × (pieces stream ≡ [] ∷ piece ∷ []) × (unescaped piece ≡ said))
    (λ stream is. (
      spelled said,
      ap pieces (is ∙ c.deref.ensures.value ∙ c.in_ok-stream.ensures)
          ∙ spelled_piece said,
      spelled_back said,
    )) c.from_slice.ensures

pub returns-clause-item : goal.returns-clause-item
returns-clause-item c =
    let kind : ℕ = kind_of c.args.port c.args.command in
    IfOk-weaker c.from_slice.result (λ stream. stream ≡ c.deref.result.now)
    (λ stream. items_in stream ≡ option_to_list (item_of (kind ∷ c.args.octets.now)))
    (λ stream is. ap items_in (is ∙ c.deref.ensures.value ∙ c.in_ok-stream.ensures)
    ∙ item_written kind c.args.octets.now) c.from_slice.ensures
