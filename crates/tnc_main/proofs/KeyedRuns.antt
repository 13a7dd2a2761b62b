-- A run with a key is a keyed one, and a run without one leaves the key's line as it was.
use Rattle.tnc_base.specs.Streams.{SourceTold}
use Rattle.tnc_main.proofs.Common.{◌≡◌, inl, inr, ap, ◌∙◌}
use Rattle.std.specs.Prelude.{ℕ, false, List, Option, Some, None, option_map}
use Rattle.key_port.specs.KeyLines.{KeyLine, LineTold, is_open}
use Rattle.tnc_words.specs.declared.command.PttOptions.{PttOptions}
use Rattle.tnc_words.specs.declared.command.ServeOptions.{ServeOptions}
use Rattle.tnc_ports.specs.SampledRun.{Outside}
use Rattle.tnc_ports.proofs.KeyServed.{keyed_as, keyed_served, line_untouched, still}
use Rattle.tnc_ports.specs.RunTicks.{ticks_served}
use Rattle.tnc_main.specs.declared.status.Status.{Status}
use Rattle.tnc_main.specs.KeyedRuns.{RunsKeyed}
use Rattle.tnc_main.specs.Serving.{IsToldAs, RunsLive, StaysButReport, key_of, last_line, status_of_end, words_of}

-- the end is told in the report alone
told_line : (line : Option (List ℕ)) (own status : Status) (between after : Outside)
    → IsToldAs line own status between after → (after.line ≡ between.line) × (after.output ≡ between.output)
told_line None own status between after (is, same) =
    (ap (λ (o : Outside). o.line) same, ap (λ (o : Outside). o.output) same)
told_line (Some line) own status between after (inl (is, more)) =
    (ap (λ (o : Outside). o.line) more.others, ap (λ (o : Outside). o.output) more.others)
told_line (Some line) own status between after (inr (is, less)) =
    (ap (λ (o : Outside). o.line) less.others, ap (λ (o : Outside). o.output) less.others)

pub keyed_from : (options : ServeOptions) (ptt : PttOptions) (outer : ℕ) (was : List KeyLine) (out : List ℕ)
    (status : Status) (input left : SourceTold) (before after : Outside) → options.ptt ≡ Some ptt
    → before.line.lines ≡ Some was → is_open was ≡ false → before.output.written ≡ Some out
    → RunsLive options outer status input left before after
    → RunsKeyed options ptt outer was out status input left before after
keyed_from options ptt outer was out status input left before after is lines closed output (inl h) = (
  inl h,
  still (words_of options outer) (key_of ptt) (ap (option_map key_of) is) was out closed after
      (ap (λ (o : Outside). o.line.lines) h.untouched ∙ lines) (ap (λ (o : Outside). o.output.written) h.untouched
      ∙ output),
)
keyed_from options ptt outer was out status input left before after is lines closed output (inr h) =
    let last = told_line (last_line h.end) (status_of_end h.end) status h.between after h.told in (
      inr h,
      keyed_as (words_of options outer) (key_of ptt) was out h.between after
          (ticks_served (words_of options outer) h.end input left before h.between h.served)
          (ap (λ (line : LineTold). line.lines) last.0) last.1
          (keyed_served (words_of options outer) (key_of ptt) (ap (option_map key_of) is) was out closed h.end input left
          before h.between h.served lines output),
    )

pub unkeyed_from : (options : ServeOptions) (outer : ℕ) (status : Status) (input left : SourceTold)
    (before after : Outside) → options.ptt ≡ None → RunsLive options outer status input left before after
    → after.line ≡ before.line
unkeyed_from options outer status input left before after none (inl h) = ap (λ (o : Outside). o.line) h.untouched
unkeyed_from options outer status input left before after none (inr h) =
    (told_line (last_line h.end) (status_of_end h.end) status h.between after h.told).0
    ∙ line_untouched (words_of options outer) h.end input left before h.between (ap (option_map key_of) none) h.served
