use Rattle.tnc_words.proofs.Common.{◌≡◌, Err, List, map, string_bytes, subst, ap, sym, Row, rows_of, found_of}
use Rattle.tnc_words.proofs.Common.{HasDecodeOptions, IsDecode, decode_faults}
use Rattle.tnc_words.specs.Options.{decode_rows}
use Rattle.tnc_words.proofs.Found.{passed_on, chosen, not_chosen}
use Rattle.tnc_words.proofs.decode_words.read_decode.Goals as goal

pub returns-in_err-found-clause-refused : goal.returns-in_err-found-clause-refused
unfolding decode_faults
returns-in_err-found-clause-refused c = λ refused decode asks.
    c.in_err-found.ensures.refused
    (ap Err (passed_on c.from_residual.result c.in_err-found.field-0.0 _ refused
    c.from_residual.ensures.1))
    asks.taken

pub returns-clause-taken : goal.returns-clause-taken
unfolding decode_faults decode_rows
returns-clause-taken c =
    let words = map string_bytes c.args.words.now in
    let found : rows_of (found_of c.in_ok-found.found) ≡ decode_rows words = c.in_ok-found.ensures.rows in
    chosen c.decode_options.result c.ok_or.result _ (IsDecode words) c.ok_or.ensures.value
    (λ decode options. record {
      named = c.requires;
      taken = c.in_ok-found.ensures.taken;
      options = subst (λ (rows : List Row). HasDecodeOptions rows decode) found options;
    })
    c.decode_options.ensures.options

pub returns-clause-refused : goal.returns-clause-refused
unfolding decode_rows
returns-clause-refused c = λ refused decode asks.
    let words = map string_bytes c.args.words.now in
    let found : rows_of (found_of c.in_ok-found.found) ≡ decode_rows words = c.in_ok-found.ensures.rows in
    c.decode_options.ensures.none (not_chosen c.decode_options.result c.ok_or.result _ _ c.ok_or.ensures.value refused)
    decode
    (subst (λ (rows : List Row). HasDecodeOptions rows decode) (sym found) asks.options)
