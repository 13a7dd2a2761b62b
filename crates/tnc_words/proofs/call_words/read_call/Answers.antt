use Rattle.tnc_words.proofs.Common.{◌≡◌, Err, List, map, string_bytes, subst, ap, sym, Row, rows_of, found_of}
use Rattle.tnc_words.proofs.Common.{HasCallOptions, call_faults}
use Rattle.tnc_words.specs.Options.{call_rows}
use Rattle.tnc_words.proofs.Found.{passed_on, is_none}
use Rattle.tnc_words.proofs.call_words.read_call.Goals as goal

pub returns-in_err-found-clause-refused : goal.returns-in_err-found-clause-refused
unfolding call_faults
returns-in_err-found-clause-refused c = λ refused call asks.
    c.in_err-found.ensures.refused
    (ap Err (passed_on c.from_residual.result c.in_err-found.field-0.0 _ refused
    c.from_residual.ensures.1))
    asks.taken

pub returns-in-Some-clause-taken : goal.returns-in-Some-clause-taken
unfolding call_faults call_rows
returns-in-Some-clause-taken c =
    let words = map string_bytes c.args.words.now in
    let found : rows_of (found_of c.in_ok-found.found) ≡ call_rows words = c.in_ok-found.ensures.rows in
    record {
      named = c.requires;
      taken = c.in_ok-found.ensures.taken;
      options = subst (λ (rows : List Row). HasCallOptions rows c.in-Some.call) found c.in-Some.ensures.options;
    }

pub returns-clause-refused : goal.returns-clause-refused
unfolding call_rows
returns-clause-refused c = λ refused call asks.
    let words = map string_bytes c.args.words.now in
    let found : rows_of (found_of c.in_ok-found.found) ≡ call_rows words = c.in_ok-found.ensures.rows in
    c.call_options.ensures.none (is_none c.call_options.result c.in-None.is) call
    (subst (λ (rows : List Row). HasCallOptions rows call) (sym found) asks.options)
