use Rattle.tnc_words.proofs.Common.{Option, refl, sym, subst, Text, found_of, rows_of, HasNumber, samples_a_second}
use Rattle.tnc_words.proofs.NoRate.{no_rate}
use Rattle.tnc_words.proofs.decode_words.receiving.Goals as goal

pub returns-in_err-rate-clause-none : goal.returns-in_err-rate-clause-none
returns-in_err-rate-clause-none c = λ none. no_rate (rows_of (found_of c.args.found.now)) (λ rate has.
    c.in_err-rate.ensures.none refl rate (subst (λ (text : Option Text).
    HasNumber text 9600 9600 48000 (samples_a_second rate)) (sym c.text_of.ensures) has))
