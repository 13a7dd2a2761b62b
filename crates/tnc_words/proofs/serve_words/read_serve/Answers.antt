use Rattle.tnc_words.proofs.Common.{◌≡◌, Err, List, map, string_bytes, subst, ap, sym, Row, rows_of, found_of}
use Rattle.tnc_words.proofs.Common.{HasServeOptions, serve_faults}
use Rattle.tnc_words.specs.Options.{serve_rows}
use Rattle.tnc_words.proofs.Found.{passed_on, is_none}
use Rattle.tnc_words.proofs.serve_words.read_serve.Goals as goal

pub returns-in_err-found-clause-refused : goal.returns-in_err-found-clause-refused
unfolding serve_faults
returns-in_err-found-clause-refused c = λ refused serve asks.
    c.in_err-found.ensures.refused
    (ap Err (passed_on c.from_residual.result c.in_err-found.field-0.0 _ refused
    c.from_residual.ensures.1))
    asks.taken

pub returns-in-Some-clause-taken : goal.returns-in-Some-clause-taken
unfolding serve_faults serve_rows
returns-in-Some-clause-taken c =
    let words = map string_bytes c.args.words.now in
    let found : rows_of (found_of c.in_ok-found.found) ≡ serve_rows words = c.in_ok-found.ensures.rows in
    record {
      named = c.requires;
      taken = c.in_ok-found.ensures.taken;
      options = subst (λ (rows : List Row). HasServeOptions rows c.in-Some.serve) found c.in-Some.ensures.options;
    }

pub returns-clause-refused : goal.returns-clause-refused
unfolding serve_rows
returns-clause-refused c = λ refused serve asks.
    let words = map string_bytes c.args.words.now in
    let found : rows_of (found_of c.in_ok-found.found) ≡ serve_rows words = c.in_ok-found.ensures.rows in
    c.serve_options.ensures.none (is_none c.serve_options.result c.in-None.is) serve
    (subst (λ (rows : List Row). HasServeOptions rows serve) (sym found) asks.options)
