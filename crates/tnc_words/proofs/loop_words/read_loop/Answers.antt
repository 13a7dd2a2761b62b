use Rattle.tnc_words.proofs.Common.{◌≡◌, Err, List, map, string_bytes, subst, ap, sym, Row, rows_of, found_of}
use Rattle.tnc_words.proofs.Common.{HasLoopOptions, IsLoop, loop_faults}
use Rattle.tnc_words.specs.Options.{loop_rows}
use Rattle.tnc_words.proofs.Found.{passed_on, chosen, not_chosen}
use Rattle.tnc_words.proofs.loop_words.read_loop.Goals as goal

pub returns-in_err-found-clause-refused : goal.returns-in_err-found-clause-refused
unfolding loop_faults
returns-in_err-found-clause-refused c = λ refused run asks.
    c.in_err-found.ensures.refused
    (ap Err (passed_on c.from_residual.result c.in_err-found.field-0.0 _ refused
    c.from_residual.ensures.1))
    asks.taken

pub returns-clause-taken : goal.returns-clause-taken
unfolding loop_faults loop_rows
returns-clause-taken c =
    let words = map string_bytes c.args.words.now in
    let found : rows_of (found_of c.in_ok-found.found) ≡ loop_rows words = c.in_ok-found.ensures.rows in
    chosen c.loop_options.result c.ok_or.result _ (IsLoop words) c.ok_or.ensures.value
    (λ run options. record {
      named = c.requires;
      taken = c.in_ok-found.ensures.taken;
      options = subst (λ (rows : List Row). HasLoopOptions rows run) found options;
    })
    c.loop_options.ensures.options

pub returns-clause-refused : goal.returns-clause-refused
unfolding loop_rows
returns-clause-refused c = λ refused run asks.
    let words = map string_bytes c.args.words.now in
    let found : rows_of (found_of c.in_ok-found.found) ≡ loop_rows words = c.in_ok-found.ensures.rows in
    c.loop_options.ensures.none (not_chosen c.loop_options.result c.ok_or.result _ _ c.ok_or.ensures.value refused) run
    (subst (λ (rows : List Row). HasLoopOptions rows run) (sym found) asks.options)
