use Rattle.tnc_encode.proofs.Common.{Err, sym, subst, ap, ◌∙◌, err_from_is_err_and, EncodesWhole}
use Rattle.tnc_encode.proofs.EndedLemmas.{whole_unread}
use Rattle.tnc_encode.proofs.encoding.encode_whole.Goals as goal

pub returns-in_err-octets-clause-whole : goal.returns-in_err-octets-clause-whole
returns-in_err-octets-clause-whole g c = λ octets left.
    let told = err_from_is_err_and c.from_residual.result c.from_residual.ensures.1 in
    let was = (g.O.Sink.told c.args.output.now).written in
    let rest = (g.I.Source.told c.read_all.new.input).left in
    subst (EncodesWhole c.args.words octets rest was was) (sym (told.1 ∙ ap Err told.2))
    (whole_unread c.args.words octets rest was c.in_err-octets.field-0.0
    (λ is. c.in_err-octets.ensures.too_long octets left (ap Err is))
    (λ is. c.in_err-octets.ensures.stops octets left (ap Err is))
    (λ other is. c.in_err-octets.ensures.only other (ap Err is)))
