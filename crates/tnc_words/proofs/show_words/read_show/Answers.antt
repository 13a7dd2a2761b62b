use Rattle.tnc_words.proofs.Common.{◌≡◌, Err, List, map, string_bytes, subst, ap, sym, Row, rows_of, found_of}
use Rattle.tnc_words.proofs.Common.{HasShowOptions, IsShow, show_faults}
use Rattle.tnc_words.specs.Options.{show_rows}
use Rattle.tnc_words.proofs.Found.{passed_on, chosen, not_chosen}
use Rattle.tnc_words.proofs.show_words.read_show.Goals as goal

pub returns-in_err-found-clause-refused : goal.returns-in_err-found-clause-refused
unfolding show_faults
returns-in_err-found-clause-refused c = λ refused show asks.
    c.in_err-found.ensures.refused
    (ap Err (passed_on c.from_residual.result c.in_err-found.field-0.0 _ refused
    c.from_residual.ensures.1))
    asks.taken

pub returns-clause-taken : goal.returns-clause-taken
unfolding show_faults show_rows
returns-clause-taken c =
    let words = map string_bytes c.args.words.now in
    let found : rows_of (found_of c.in_ok-found.found) ≡ show_rows words = c.in_ok-found.ensures.rows in
    chosen c.show_options.result c.ok_or.result _ (IsShow words) c.ok_or.ensures.value
    (λ show options. record {
      named = c.requires;
      taken = c.in_ok-found.ensures.taken;
      options = subst (λ (rows : List Row). HasShowOptions rows show) found options;
    })
    c.show_options.ensures.options

pub returns-clause-refused : goal.returns-clause-refused
unfolding show_rows
returns-clause-refused c = λ refused show asks.
    let words = map string_bytes c.args.words.now in
    let found : rows_of (found_of c.in_ok-found.found) ≡ show_rows words = c.in_ok-found.ensures.rows in
    c.show_options.ensures.none (not_chosen c.show_options.result c.ok_or.result _ _ c.ok_or.ensures.value refused) show
    (subst (λ (rows : List Row). HasShowOptions rows show) (sym found) asks.options)
