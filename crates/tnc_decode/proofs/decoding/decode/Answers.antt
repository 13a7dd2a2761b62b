use Rattle.tnc_decode.proofs.Common.{sym, subst, ap, length, Err, ◌∙◌, err_from_is_err_and, most_at_once}
use Rattle.tnc_engine.specs.Ended.{IsEnded}
use Rattle.tnc_engine.proofs.EndedLemmas.{ended_first}
use Rattle.tnc_decode.specs.Making.{decode_making}
use Rattle.tnc_decode.proofs.MakingLemmas.{decodes}
use Rattle.tnc_decode.proofs.decoding.decode.Goals as goal

pub returns-in_err-receiver-clause-ended : goal.returns-in_err-receiver-clause-ended
returns-in_err-receiver-clause-ended g c = λ octets left.
    let told = err_from_is_err_and c.from_residual.result c.from_residual.ensures.1 in
    subst (IsEnded (decode_making c.args.words) (most_at_once c.args.words) octets
    (g.I.Source.told c.args.input.now).left
    (g.O.Sink.told c.args.output.now).written (g.O.Sink.told c.args.output.now).written) (sym (told.1 ∙ ap Err told.2))
    (ended_first (decode_making c.args.words) (decodes c.args.words) (most_at_once c.args.words) octets _ _ left)

pub returns-in_err-buffer-clause-ended : goal.returns-in_err-buffer-clause-ended
returns-in_err-buffer-clause-ended g c = λ octets left.
    let told = err_from_is_err_and c.from_residual-in_err-buffer.result c.from_residual-in_err-buffer.ensures.1 in
    subst (IsEnded (decode_making c.args.words) (most_at_once c.args.words) octets
    (g.I.Source.told c.args.input.now).left
    (g.O.Sink.told c.args.output.now).written (g.O.Sink.told c.args.output.now).written) (sym (told.1 ∙ ap Err told.2))
    (ended_first (decode_making c.args.words) (decodes c.args.words) (most_at_once c.args.words) octets _ _ left)

pub returns-clause-ended : goal.returns-clause-ended
returns-clause-ended g c = λ octets left.
    subst (λ most. IsEnded (decode_making c.args.words) most octets (g.I.Source.told c.make.new.input).left
    (g.O.Sink.told c.args.output.now).written (g.O.Sink.told c.make.new.output).written c.make.result)
    (ap length c.deref_mut.ensures.value ∙ c.in_ok-buffer.ensures)
    (c.make.ensures.ended c.args.words octets (c.in_ok-receiver.ensures, record { shared = c.type_bounds.sync-R.shared }) left)

pub make-requires-clause-new : goal.make-requires-clause-new
make-requires-clause-new g c = (c.args.words, (c.in_ok-receiver.ensures, record { shared = c.type_bounds.sync-R.shared }))

pub make-requires-clause-laws : goal.make-requires-clause-laws
make-requires-clause-laws g c = decodes
