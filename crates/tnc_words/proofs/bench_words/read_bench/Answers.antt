use Rattle.tnc_words.proofs.Common.{◌≡◌, Err, List, map, string_bytes, subst, ap, sym, Row, rows_of, found_of}
use Rattle.tnc_words.proofs.Common.{HasBenchOptions, IsBench, bench_faults}
use Rattle.tnc_words.specs.Options.{bench_rows}
use Rattle.tnc_words.proofs.Found.{passed_on, chosen, not_chosen}
use Rattle.tnc_words.proofs.bench_words.read_bench.Goals as goal

pub returns-in_err-found-clause-refused : goal.returns-in_err-found-clause-refused
unfolding bench_faults
returns-in_err-found-clause-refused c = λ refused bench asks.
    c.in_err-found.ensures.refused
    (ap Err (passed_on c.from_residual.result c.in_err-found.field-0.0 _ refused
    c.from_residual.ensures.1))
    asks.taken

pub returns-clause-taken : goal.returns-clause-taken
unfolding bench_faults bench_rows
returns-clause-taken c =
    let words = map string_bytes c.args.words.now in
    let found : rows_of (found_of c.in_ok-found.found) ≡ bench_rows words = c.in_ok-found.ensures.rows in
    chosen c.bench_options.result c.ok_or.result _ (IsBench words) c.ok_or.ensures.value
    (λ bench options. record {
      named = c.requires;
      taken = c.in_ok-found.ensures.taken;
      options = subst (λ (rows : List Row). HasBenchOptions rows bench) found options;
    })
    c.bench_options.ensures.options

pub returns-clause-refused : goal.returns-clause-refused
unfolding bench_rows
returns-clause-refused c = λ refused bench asks.
    let words = map string_bytes c.args.words.now in
    let found : rows_of (found_of c.in_ok-found.found) ≡ bench_rows words = c.in_ok-found.ensures.rows in
    c.bench_options.ensures.none (not_chosen c.bench_options.result c.ok_or.result _ _ c.ok_or.ensures.value refused)
    bench
    (subst (λ (rows : List Row). HasBenchOptions rows bench) (sym found) asks.options)
