-- Two runs of the bench for the same words come to the same.
use Rattle.channel_bench.proofs.Common.{◌≡◌, ◌≢◌, ℕ, zero, suc, ◌<◌, ◌≤◌, Bool, true, false, Option, Some, None, refl}
use Rattle.channel_bench.proofs.Common.{sym, ap, ◌∙◌, subst, arith, inl, inr, cases_lt, false≢true, AreTicks}
use Rattle.channel_bench.proofs.Common.{BenchState, BenchWords, Trouble, Stray, IsEndedBy, ways_of}
use Rattle.std.specs.Prelude.{Result, Ok, Err}
use Rattle.channel_bench.specs.BenchRun.{IsUnderWay, is_over, report_of}
use Rattle.channel_bench.specs.OneReport.{ComesTo, OneReport}
use Rattle.channel_bench.specs.Report.{Report}
use Rattle.channel_bench.specs.Words.{most_ticks}
use Rattle.channel_bench.specs.declared.report.BenchFault.{BenchFault}
use Rattle.channel_bench.specs.declared.report.BenchFault.TheVariants.{Stray as StrayFault, NotQuiet, Spent, Memory}
use Rattle.channel_bench.specs.declared.trouble.Trouble.TheVariants.{Unquiet}
use Rattle.channel_bench.proofs.Alike.{AreAlike, bare}
use Rattle.channel_bench.proofs.AlikeParts.{one_tick}

-- ---- ticks

ticks_alike : (w : BenchWords) (count : ℕ) (x y : BenchState) → AreTicks w count x → AreTicks w count y → AreAlike x y
ticks_alike w zero x y h g =
    record { states = ap bare (h ∙ sym g); ways = ap (λ (b : BenchState). ways_of b.common) (h ∙ sym g) }
ticks_alike w (suc count) x y h g =
    one_tick w h.0 g.0 x y (ticks_alike w count h.0 g.0 h.1 g.1) h.3 g.3

-- before its last tick a run was under way
record WasUnderWay (w : BenchWords) (count : ℕ) : Type 0 where
  bench : BenchState
  ticks : AreTicks w count bench
  under_way : IsUnderWay bench

was_under_way : (w : BenchWords) (earlier count : ℕ) (x : BenchState) → AreTicks w count x → earlier < count
    → WasUnderWay w earlier
was_under_way w earlier zero x h less = absurd (omega arith)
was_under_way w earlier (suc count) x h less = elim (cases_lt earlier count) [
  | inl before ↦ was_under_way w earlier count h.0 h.1 before
  | inr last ↦ (let same : count ≡ earlier = omega arith in record {
    bench = h.0;
    ticks = subst (λ (n : ℕ). AreTicks w n h.0) same h.1;
    under_way = h.2;
  })
]

-- ---- what a run comes to

-- by what has ended it, and whether it is over, after so many ticks
abbrev outcome : Option Trouble → Bool → ℕ → Report → Result Report BenchFault
outcome (Some (Stray octets)) over ticks report = Err (StrayFault octets)
outcome (Some (Unquiet index)) over ticks report = Err (NotQuiet index)
outcome None true ticks report = Ok report
outcome None false ticks report = Err (Spent ticks)

abbrev outcome_at : ℕ → BenchState → Result Report BenchFault
outcome_at ticks b = outcome b.common.trouble (is_over b) ticks (report_of b)

-- a run ends after so many ticks: it goes on no more, or has made the most
record Ends (w : BenchWords) (come : Result Report BenchFault) : Type 0 where
  count : ℕ
  bench : BenchState
  ticks : AreTicks w count bench
  in_time : count ≤ most_ticks w.octets
  last : IsUnderWay bench → count ≡ most_ticks w.octets
  comes : come ≡ outcome_at count bench

ended : (w : BenchWords) (trouble : Trouble) (come : Result Report BenchFault) (h : IsEndedBy w trouble)
    → come ≡ outcome (Some trouble) (is_over h.bench) h.count (report_of h.bench) → Ends w come
ended w trouble come h same = record {
  count = h.count;
  bench = h.bench;
  ticks = h.ticks;
  in_time = h.in_time;
  last = λ on. let clash : None ≡ Some trouble = sym on.no_trouble ∙ h.is in absurd (cc);
  comes = same ∙ sym (ap (λ (t : Option Trouble). outcome t (is_over h.bench) h.count (report_of h.bench)) h.is);
}

ends : (w : BenchWords) (come : Result Report BenchFault) → ComesTo w come → come ≢ Err Memory → Ends w come
ends w (Ok report) h other = record {
  count = h.count;
  bench = h.bench;
  ticks = h.ticks;
  in_time = h.in_time;
  last = λ on. absurd (false≢true (sym on.not_over ∙ h.over));
  comes = ap (λ (r : Report). Ok r) h.told
      ∙ sym (ap (λ (t : Option Trouble). outcome t (is_over h.bench) h.count (report_of h.bench)) h.no_trouble
      ∙ ap (λ (over : Bool). outcome None over h.count (report_of h.bench)) h.over);
}
ends w (Err (StrayFault octets)) h other = ended w (Stray octets) (Err (StrayFault octets)) h refl
ends w (Err (NotQuiet index)) h other = ended w (Unquiet index) (Err (NotQuiet index)) h refl
ends w (Err (Spent ticks)) h other = record {
  count = ticks;
  bench = h.bench;
  ticks = h.made;
  in_time = omega (arith, h.most);
  last = λ on. h.most;
  comes = sym (ap (λ (t : Option Trouble). outcome t (is_over h.bench) ticks (report_of h.bench))
      h.under_way.no_trouble
      ∙ ap (λ (over : Bool). outcome None over ticks (report_of h.bench)) h.under_way.not_over);
}
ends w (Err Memory) h other = absurd (other refl)

-- ---- the law

no_earlier : (w : BenchWords) (one other : Result Report BenchFault) (a : Ends w one) (b : Ends w other)
    → a.count < b.count → ⊥
no_earlier w one other a b less =
    let was = was_under_way w a.count b.count b.bench b.ticks less in
    let alike : AreAlike a.bench was.bench = ticks_alike w a.count a.bench was.bench a.ticks was.ticks in
    let most : a.count ≡ most_ticks w.octets = a.last (record {
      no_trouble = ap (λ (x : BenchState). x.common.trouble) alike.states ∙ was.under_way.no_trouble;
      not_over = ap (λ (x : BenchState). is_over x) alike.states ∙ was.under_way.not_over;
    }) in
    omega (arith, most, b.in_time, less)

one_count : (w : BenchWords) (one other : Result Report BenchFault) (a : Ends w one) (b : Ends w other)
    → a.count ≡ b.count
one_count w one other a b = elim (cases_lt a.count b.count) [
  | inl less ↦ absurd (no_earlier w one other a b less)
  | inr from ↦ elim (cases_lt b.count a.count) [
    | inl less ↦ absurd (no_earlier w other one b a less)
    | inr equal ↦ omega arith
  ]
]

pub one_report_holds : OneReport
one_report_holds w one other h g not_one not_other =
    let a = ends w one h not_one in
    let b = ends w other g not_other in
    let count : a.count ≡ b.count = one_count w one other a b in
    let alike : AreAlike a.bench b.bench = ticks_alike w b.count a.bench b.bench
    (subst (λ (n : ℕ). AreTicks w n a.bench) count a.ticks) b.ticks in
    a.comes ∙ ap (λ (n : ℕ). outcome_at n a.bench) count ∙ ap (λ (x : BenchState). outcome_at b.count x) alike.states
    ∙ sym b.comes
