use Rattle.std.proofs.Common.{◌≡◌, ℕ, List, ◌∷◌, ◌++◌, ap, ◌∙◌}
use Rattle.std.proofs.lemmas.Result.{IfOk-weaker}
use Rattle.agwpe_port.specs.Messages.{Reading, messages_in, bad_length_in}
use Rattle.agwpe_port.proofs.WrittenLemmas.{written_reads}
use Rattle.agwpe_port.proofs.writer.write_agw.Goals as goal

pub returns-clause-read : goal.returns-clause-read
returns-clause-read c =
    let spell = c.in_ok-octets.ensures in
    IfOk-weaker c.from_slice.result (λ stream. stream ≡ c.deref.result.now)
    (λ stream. (more : List ℕ) → messages_in (stream ++ more) ≡ c.args.message.now ∷ messages_in more)
    (λ stream is more.
    ap (λ xs. messages_in (xs ++ more)) (is ∙ c.deref.ensures.value ∙ spell.spelled)
    ∙ ap (λ (r : Reading). r.messages) (written_reads c.args.message.now
    (record { from = spell.from; to = spell.to; body = c.requires }) more))
    c.from_slice.ensures

pub returns-clause-goes_on : goal.returns-clause-goes_on
returns-clause-goes_on c =
    let spell = c.in_ok-octets.ensures in
    IfOk-weaker c.from_slice.result (λ stream. stream ≡ c.deref.result.now) (λ stream. (more : List ℕ)
    → bad_length_in (stream ++ more) ≡ bad_length_in more)
    (λ stream is more.
    ap (λ xs. bad_length_in (xs ++ more)) (is ∙ c.deref.ensures.value ∙ spell.spelled)
    ∙ ap (λ (r : Reading). r.bad) (written_reads c.args.message.now
    (record { from = spell.from; to = spell.to; body = c.requires }) more))
    c.from_slice.ensures
