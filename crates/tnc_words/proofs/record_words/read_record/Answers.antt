use Rattle.tnc_words.proofs.Common.{◌≡◌, Err, List, map, string_bytes, subst, ap, sym, Row, rows_of, found_of}
use Rattle.tnc_words.proofs.Common.{HasRecordOptions, IsRecord, record_faults}
use Rattle.tnc_words.specs.Options.{record_rows}
use Rattle.tnc_words.proofs.Found.{passed_on, chosen, not_chosen}
use Rattle.tnc_words.proofs.record_words.read_record.Goals as goal

pub returns-in_err-found-clause-refused : goal.returns-in_err-found-clause-refused
unfolding record_faults
returns-in_err-found-clause-refused c = λ refused recorder asks.
    c.in_err-found.ensures.refused
    (ap Err (passed_on c.from_residual.result c.in_err-found.field-0.0 _ refused
    c.from_residual.ensures.1))
    asks.taken

pub returns-clause-taken : goal.returns-clause-taken
unfolding record_faults record_rows
returns-clause-taken c =
    let words = map string_bytes c.args.words.now in
    let found : rows_of (found_of c.in_ok-found.found) ≡ record_rows words = c.in_ok-found.ensures.rows in
    chosen c.record_options.result c.ok_or.result _ (IsRecord words) c.ok_or.ensures.value
    (λ recorder options. record {
      named = c.requires;
      taken = c.in_ok-found.ensures.taken;
      options = subst (λ (rows : List Row). HasRecordOptions rows recorder) found options;
    })
    c.record_options.ensures.options

pub returns-clause-refused : goal.returns-clause-refused
unfolding record_rows
returns-clause-refused c = λ refused recorder asks.
    let words = map string_bytes c.args.words.now in
    let found : rows_of (found_of c.in_ok-found.found) ≡ record_rows words = c.in_ok-found.ensures.rows in
    c.record_options.ensures.none
    (not_chosen c.record_options.result c.ok_or.result _ _ c.ok_or.ensures.value refused) recorder
    (subst (λ (rows : List Row). HasRecordOptions rows recorder) (sym found) asks.options)
