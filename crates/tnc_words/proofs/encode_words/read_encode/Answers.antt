use Rattle.tnc_words.proofs.Common.{◌≡◌, Err, List, map, string_bytes, subst, ap, sym, Row, rows_of, found_of}
use Rattle.tnc_words.proofs.Common.{HasEncodeOptions, IsEncode, encode_faults}
use Rattle.tnc_words.specs.Options.{encode_rows}
use Rattle.tnc_words.proofs.Found.{passed_on, chosen, not_chosen}
use Rattle.tnc_words.proofs.encode_words.read_encode.Goals as goal

pub returns-in_err-found-clause-refused : goal.returns-in_err-found-clause-refused
unfolding encode_faults
returns-in_err-found-clause-refused c = λ refused encode asks.
    c.in_err-found.ensures.refused
    (ap Err (passed_on c.from_residual.result c.in_err-found.field-0.0 _ refused
    c.from_residual.ensures.1))
    asks.taken

pub returns-clause-taken : goal.returns-clause-taken
unfolding encode_faults encode_rows
returns-clause-taken c =
    let words = map string_bytes c.args.words.now in
    let found : rows_of (found_of c.in_ok-found.found) ≡ encode_rows words = c.in_ok-found.ensures.rows in
    chosen c.encode_options.result c.ok_or.result _ (IsEncode words) c.ok_or.ensures.value
    (λ encode options. record {
      named = c.requires;
      taken = c.in_ok-found.ensures.taken;
      options = subst (λ (rows : List Row). HasEncodeOptions rows encode) found options;
    })
    c.encode_options.ensures.options

pub returns-clause-refused : goal.returns-clause-refused
unfolding encode_rows
returns-clause-refused c = λ refused encode asks.
    let words = map string_bytes c.args.words.now in
    let found : rows_of (found_of c.in_ok-found.found) ≡ encode_rows words = c.in_ok-found.ensures.rows in
    c.encode_options.ensures.none (not_chosen c.encode_options.result c.ok_or.result _ _ c.ok_or.ensures.value refused)
    encode
    (subst (λ (rows : List Row). HasEncodeOptions rows encode) (sym found) asks.options)
