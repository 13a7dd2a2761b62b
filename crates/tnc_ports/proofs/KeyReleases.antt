-- The key is released after the turns, and the run is told with that.
use Rattle.std.proofs.Common.{◌≡◌, ℕ, ◌+◌, ◌≤◌, ◌⊎◌, List, sym, ap, subst, inl, inr, ◌∙◌}
use Rattle.std.specs.Prelude.{Bool, false, Option, Some, None, option_map, length, take, All}
use Rattle.sample_ring.specs.declared.got.Got.{Got}
use Rattle.keying.specs.declared.machine.Words.{Words}
use Rattle.keying.specs.Keyed.{failed}
use Rattle.key_port.specs.declared.key_side.KeySide.{KeySide}
use Rattle.key_port.specs.KeyCalls.{IsReleased, StandsAt}
use Rattle.key_port.specs.KeyEvents.{KeyEvent, marks_of, lines_of}
use Rattle.key_port.specs.KeyLines.{KeyLine, LineTold}
use Rattle.key_port.specs.KeyTasks.{LineGoes}
use Rattle.tnc_ports.specs.declared.looping.LoopEnd.{LoopEnd}
use Rattle.tnc_ports.specs.declared.looping.LoopEnd.TheVariants.{Done, Memory, WriteFault}
use Rattle.tnc_ports.proofs.Common.{KeyWords, ServeWords, Live, From, KeyedSince, RunsOut, SinkTold, Turning, Asked}
use Rattle.tnc_ports.proofs.Common.{Outside, PortsTell, AllIsWritten, IsLooped, from_of, octets_sent}
use Rattle.tnc_ports.specs.SampledHeld.{KeyStands, LineStands, IsWrittenSince, ReleasesKey, IsReleasedSince}
use Rattle.tnc_ports.specs.ReportText.{report_text}
use Rattle.tnc_ports.specs.SampledRun.{PortsStay, PartIsWritten, IsWhole, IsCut, AllIsWrittenAsTold, KeyTold}
use Rattle.tnc_ports.specs.SampledRun.{WroteWhole}
use Rattle.tnc_ports.proofs.KeySteps.{had_of, has_told, had_all}

-- ---- the release

released_at : (words : Words) (a b : ℕ) (before after : List KeyEvent)
    → (failed (marks_of words before) ≡ false → a ≡ b) → IsReleased words a before after → IsReleased words b before after
released_at words a b before after same h = record {
  more = h.more;
  releases = h.releases;
  is = h.is;
  obeys = h.obeys;
  done = h.done;
  over = h.over;
  order = λ none. subst (λ n. All (StandsAt n) h.more) (same none) (h.order none);
}

pub released_by : (from : From) (key : Option KeyWords) (side side' : Option KeySide) (failed : Bool) (live : Live)
    (o r : SinkTold) (line line' : LineTold)
    → KeyStands key side live.keyed → IsWrittenSince from key failed live o r → LineStands from key live line
    → ReleasesKey key (had_of from.output o.written (octets_sent live)) o.written live.keyed side' line line'
    → IsReleasedSince from key live line'
released_by from None side None failed live o r line line' stands written has d = d ∙ has
released_by from None side (Some side') failed live o r line line' stands written has d = absurd d
released_by from (Some key) side None failed live o r line line' stands written has d = absurd d
released_by from (Some key) side (Some side') failed live o r line line' stands written has d =
    let had = had_of from.output o.written (octets_sent live) in
    let goes : LineGoes key.port had o.written live.keyed d.0.new line.lines line'.lines =
    subst (λ (p : ℕ). LineGoes p had o.written live.keyed d.0.new line.lines line'.lines) d.1 d.0.line in
    record {
      keyed = d.0.new;
      releases = released_at key.words had (octets_sent live) live.keyed d.0.new
          (had_all from key failed live o written.outputs) d.0.is;
      lines = λ start e. goes start from.line.lines
          (has_told from (Some key) failed live o (octets_sent live) start written.outputs e) (has.0 start e);
      faults = d.0.faults from.line.faults has.1;
    }

-- ---- what is told of the run, and of the line after it

module _ (start y : Outside) (line : LineTold) where
  abbrev z : Outside
  z = record y { line = line }

  tell_on : (turns : List Asked) → PortsTell turns start y → PortsTell turns start z
  tell_on turns h = record {
    polls = h.polls;
    sends = h.sends;
    sent_to = h.sent_to;
    shut = h.shut;
    not_shut = h.not_shut;
    may_come = h.may_come;
    failed = h.failed;
  }

  stay_on : PortsStay start y → PortsStay start z
  stay_on h = record { listens = h.listens; faults = h.faults }

  whole_on : (words : ServeWords) (answers : List (List Got)) (live : Live) → IsWhole words answers live start y
      → IsWhole words answers live start z
  whole_on words answers live h = record {
    run = h.run;
    answered = h.answered;
    told = tell_on live.asked h.told;
    stay = stay_on h.stay;
    sends = h.sends;
    shuts = h.shuts;
    all_shut = h.all_shut;
    gaps = h.gaps;
    samples = h.samples;
  }

  pub cut_on : (words : ServeWords) (answers : List (List Got)) (live : Live) → IsCut words answers live start y
      → IsCut words answers live start z
  cut_on words answers live h = record {
    run = h.run;
    more = h.more;
    answered = h.answered;
    turns = h.turns;
    reached = h.reached;
    asked = h.asked;
    told = tell_on h.turns h.told;
    stay = stay_on h.stay;
    sends = h.sends;
    shuts = h.shuts;
    gaps = h.gaps;
    samples = h.samples;
  }

  all_on : (live : Live) → AllIsWritten live start y → AllIsWritten live start z
  all_on live h = record {
    output = h.output;
    report = h.report;
    no_output_fault = h.no_output_fault;
    no_report_fault = h.no_report_fault;
  }

  pub as_told_on : (key : Option KeyWords) (live : Live) → AllIsWrittenAsTold key live start y
      → AllIsWrittenAsTold key live start z
  as_told_on key live h = record { written = all_on live h.written; untold = h.untold }

  part_on : (live : Live) → PartIsWritten live start y → PartIsWritten live start z
  part_on live h = record { output = h.output; report = h.report; failed = h.failed }

  either_on : (key : Option KeyWords) (live : Live)
      → AllIsWrittenAsTold key live start y ⊎ PartIsWritten live start y
      → AllIsWrittenAsTold key live start z ⊎ PartIsWritten live start z
  either_on key live (inl all) = inl (as_told_on key live all)
  either_on key live (inr part) = inr (part_on live part)

  list_in : List ℕ → Option (List ℕ) → List ℕ
  list_in other None = other
  list_in other (Some list) = list

  wrote : (key : Option KeyWords) (failed : Bool) (live : Live)
      → IsWrittenSince (from_of start) key failed live y.output y.report → WroteWhole live start z
  unfolding list_in
  wrote key failed live h = record {
    output = λ was now e n.
        let i = h.outputs (length was) (ap (option_map (λ out. length out)) e) in
        let same : i.out ≡ now = ap (list_in now) (sym i.is ∙ n) in
        subst (λ (xs : List ℕ). length was + live.whole.octets ≤ length xs) same i.whole;
    report = λ was now e n.
        let i = h.reports (length was) (ap (option_map (λ out. length out)) e) in
        let same : i.out ≡ now = ap (list_in now) (sym i.is ∙ n) in
        subst (λ (xs : List ℕ). length was + length (report_text (take live.whole.lines live.hosts.report)) ≤ length xs)
        same i.whole;
  }

  pub key_told : (key : Option KeyWords) (failed : Bool) (live : Live)
      → IsWrittenSince (from_of start) key failed live y.output y.report
      → IsReleasedSince (from_of start) key live line → KeyTold key live start z
  key_told None failed live written r = r
  key_told (Some key) failed live written r = record {
    keyed = r.keyed;
    releases = r.releases;
    lines = λ was out e f.
        r.lines (length out) (ap (option_map (λ out. length out)) f)
        ∙ ap (option_map (λ (lines : List KeyLine). lines_of key.port (length out) lines r.keyed)) e;
    faults = r.faults;
    whole = wrote (Some key) failed live written;
  }

  module _ (words : ServeWords) (turning : Turning)
      (release : (live : Live) → KeyedSince (from_of start) turning live y.output y.report y.line
      → IsReleasedSince (from_of start) turning.words.key live line) where
    told_of : (live : Live) → turning.words ≡ words
        → KeyedSince (from_of start) turning live y.output y.report y.line → KeyTold words.key live start z
    told_of live same key =
        subst (λ (w : ServeWords). KeyTold w.key live start z) same
        (key_told turning.words.key turning.failed live key.written (release live key))

    pub looped : (end : LoopEnd) (answers : List (List Got)) → RunsOut words end answers turning start y
        → IsLooped words end answers start z
    looped Done answers (live, whole, all, out) =
        (live, whole_on words answers live whole, as_told_on words.key live all, told_of live out.words_kept out.key)
    looped WriteFault answers (live, whole, part, out) =
        (live, whole_on words answers live whole, part_on live part, told_of live out.words_kept out.key)
    looped Memory answers (live, cut, either, out) =
        (live, cut_on words answers live cut, either_on words.key live either, told_of live out.words_kept out.key)
