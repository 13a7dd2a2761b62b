-- What is written is the report of the run, whole or a first part of it.
use Rattle.std.proofs.Common.{◌≡◌, ℕ, List, ◌∙◌, subst}
use Rattle.channel_bench.specs.BenchRun.{IsOver}
use Rattle.channel_bench.specs.KeepsOrder.{KeepsOrder}
use Rattle.channel_bench.specs.Report.{Report}
use Rattle.channel_bench.specs.declared.words.BenchWords.{BenchWords}
use Rattle.tnc_words.specs.declared.command.BenchOptions.{BenchOptions}
use Rattle.tnc_bench.specs.Reported.{IsReportOf, report_text, words_of}
use Rattle.tnc_bench.proofs.command.bench.Goals as goal

is_report :
    (options : BenchOptions) (words : BenchWords) (report : Report) (text : List ℕ) → words ≡ words_of options
    → IsOver words report → KeepsOrder words report → text ≡ report_text report → IsReportOf options text
is_report options words report text asked over order is = record {
  report = report;
  over = subst (λ w. IsOver w report) asked over;
  order = subst (λ w. KeepsOrder w report) asked order;
  is = is;
}

pub returns-in-Ok-clause-done : goal.returns-in-Ok-clause-done
returns-in-Ok-clause-done g c = λ before was. (
  c.as_bytes.result.now,
  is_report c.args.options c.bench_words.result _ c.as_bytes.result.now c.bench_words.ensures
      c.in_ok-report.ensures.over
      c.in_ok-report.ensures.order (c.as_bytes.ensures.value ∙ c.in_ok-text.ensures),
  c.in-Ok.ensures.appends before was,
)

pub returns-clause-cut : goal.returns-clause-cut
returns-clause-cut g c = λ before was failed. (
  c.as_bytes.result.now,
  is_report c.args.options c.bench_words.result _ c.as_bytes.result.now c.bench_words.ensures
      c.in_ok-report.ensures.over
      c.in_ok-report.ensures.order (c.as_bytes.ensures.value ∙ c.in_ok-text.ensures),
  c.in-Err.ensures.partly before was,
)
