-- All turns of a live station, from the first to the last.
use Rattle.tnc_ports.proofs.Common.{Bool, true, false, Some, ◌≡◌, ℕ, ◌≤◌, [], ◌++◌, refl, sym, ap, subst, inl, inr, ◌∙◌}
use Rattle.tnc_ports.proofs.Common.{arith, Reader, LiveReceiver, answers_in, WrotePart, Memory, ServeWords, Turning, PortsTold}
use Rattle.tnc_ports.proofs.Common.{output_octets, report_text, Live, new_live, IsTurn, StandsForLive, Turns, IsCutOff}
use Rattle.tnc_ports.proofs.Common.{Runs, Outside, IsRun, IsCutRun, IsCutTurn, IsCutInServing, PortsTell}
use Rattle.tnc_ports.proofs.Common.{AllIsWritten, SinkTold, WritesMore}
use Rattle.std.proofs.Common.{suc, ◌⊎◌, ◌∷◌}
use Rattle.slicer_bank.specs.RingLanes.{answers_of}
use Rattle.tnc_ports.specs.declared.looping.LoopEnd.TheVariants.{Done, WriteFault}
use Rattle.tnc_ports.specs.HeldMeter.{answers_with}
use Rattle.tnc_ports.specs.Sampled.{answers_of_all}
use Rattle.tnc_ports.proofs.Common.{From, KeyWords, KeyedSince, RunsOut, from_of}
use Rattle.std.specs.Prelude.{Option, None, List, length, option_map}
use Rattle.key_port.specs.KeyEvents.{lines_of}
use Rattle.key_port.specs.KeyLines.{KeyLine, LineTold}
use Rattle.tnc_ports.specs.SampledHeld.{KeyStands, LineStands, IsOutputSince, IsReportSince, IsRunOut, IsWrittenSince}
use Rattle.tnc_ports.specs.SampledRun.{PortsStay, PartIsWritten, IsWhole, AllIsWrittenAsTold, key_failed}
use Rattle.tnc_ports.proofs.LiveSteps.{turns_more}
use Rattle.tnc_ports.proofs.LiveAccounts.{are_sent, are_shut, accounted_cut}
use Rattle.tnc_ports.proofs.LiveServed.{served_run, served_cut, all_told}
use Rattle.tnc_ports.proofs.LiveTold.{tells_nothing, tells_more, tells_still}
use Rattle.tnc_ports.proofs.LiveWrites.{no_write, writes_more}

stay_stay : (x y z : Outside) → PortsStay x y → z.ports.listens ≡ y.ports.listens → y.ports.faults ≤ z.ports.faults → PortsStay x z
stay_stay x y z h same le = record { listens = same ∙ h.listens; faults = let f = h.faults in omega (arith, f, le) }

-- ---- the key before the first turn

number_in : ℕ → Option ℕ → ℕ
number_in other None = other
number_in other (Some n) = n

lines_same : (port start : ℕ) (was : Option (List KeyLine))
    → was ≡ option_map (λ lines. lines_of port start lines []) was
lines_same port start None = refl
lines_same port start (Some lines) = refl

first_output : (start : ℕ) (key : Option KeyWords) (failed : Bool) (words : ServeWords) (o : Option (List ℕ))
    (output : SinkTold) → output.written ≡ o → option_map (λ out. length out) o ≡ Some start
    → IsOutputSince start key failed (new_live words) output
unfolding number_in
first_output start key failed words None output is e = absurd (cc e)
first_output start key failed words (Some out) output is e =
    let same : length out ≡ start = ap (number_in start) e in
    record {
      out = out;
      is = is;
      longer = omega (arith, same);
      kept = λ none. omega (arith, same);
      all = λ key is none. omega (arith, same);
      whole = omega (arith, same);
    }

first_report : (start : ℕ) (failed : Bool) (words : ServeWords) (o : Option (List ℕ)) (report : SinkTold)
    → report.written ≡ o → option_map (λ out. length out) o ≡ Some start
    → IsReportSince start failed (new_live words) report
unfolding number_in
first_report start failed words None report is e = absurd (cc e)
first_report start failed words (Some out) report is e =
    let same : length out ≡ start = ap (number_in start) e in
    record { out = out; is = is; kept = λ none. omega (arith, same); whole = omega (arith, same) }

pub first_line : (start : Outside) (key : Option KeyWords) (words : ServeWords)
    → LineStands (from_of start) key (new_live words) start.line
first_line start None words = refl
first_line start (Some key) words = (λ from e. lines_same key.port from start.line.lines, refl)

pub first_untold : (key : Option KeyWords) (words : ServeWords) → key_failed key (new_live words) ≡ false
first_untold None words = refl
first_untold (Some key) words = refl

pub first_written : (words : ServeWords) (key : Option KeyWords) (failed : Bool) (start : Outside)
    → IsWrittenSince (from_of start) key failed (new_live words) start.output start.report
first_written words key failed start = record {
  outputs = λ from e. first_output from key failed words start.output.written start.output refl e;
  reports = λ from e. first_report from failed words start.report.written start.report refl e;
  lines = omega arith;
}

pub first_keyed : (words : ServeWords) (turning : Turning) (start : Outside)
    → KeyStands turning.words.key turning.key []
    → KeyedSince (from_of start) turning (new_live words) start.output start.report start.line
first_keyed words turning start stands = record {
  stands = stands;
  untold = λ none. first_untold turning.words.key words;
  written = first_written words turning.words.key turning.failed start;
  line_stands = first_line start turning.words.key words;
}

-- before the first turn
pub runs_first : (words : ServeWords) (turning : Turning) (len : ℕ) (receiver : LiveReceiver) (start : Outside)
    → StandsForLive turning len receiver (new_live words) → turning.words ≡ words → turning.failed ≡ false
    → KeyStands turning.words.key turning.key [] → Runs words turning len receiver start start
runs_first words turning len receiver start stands same none key = record {
  count = 0;
  live = new_live words;
  turns = refl;
  stands = stands;
  words_kept = same;
  key = first_keyed words turning start key;
  writes = subst (λ f. WritesMore false f (new_live words) (new_live words) start.output start.output
      start.report start.report) (sym none)
      (no_write false (new_live words) start.output start.report);
  told = tells_nothing start;
  stay = record { listens = refl; faults = omega arith };
}

-- one turn more
pub runs_more : (words : ServeWords) (a b : Turning) (len : ℕ) (old receiver : LiveReceiver) (start x y : Outside)
    → (h : Runs words a len old start x)
    → Turns (from_of start) false a b len receiver h.live x.output y.output x.report y.report
    x.ports y.ports y.line
    → b.words ≡ a.words → y.ports.listens ≡ x.ports.listens → x.ports.faults ≤ y.ports.faults → Runs words b len receiver start y
runs_more words a b len old receiver start x y h t same listens later = record {
  count = suc h.count;
  live = t.next;
  turns = turns_more words h.count (new_live words) h.live t.next h.turns
      (subst (λ w. IsTurn w false h.live t.next) h.words_kept t.turn);
  stands = t.goes_on refl;
  words_kept = same ∙ h.words_kept;
  key = t.key;
  writes = writes_more false a.failed b.failed (new_live words) h.live t.next start.output x.output
      y.output start.report x.report y.report h.writes t.writes;
  told = subst (λ xs. PortsTell xs start y) (sym t.asks)
      (tells_more h.live.asked t.asked start x y h.stay.faults later h.told t.tells);
  stay = stay_stay start x y h.stay listens later;
}

-- ---- what is written

all_written : (words : ServeWords) (live : Live) (start now : Outside)
    → WritesMore false false (new_live words) live start.output now.output start.report now.report
    → AllIsWritten live start now
all_written words live start now h = record {
  output = λ was e. h.puts.0.written was e ∙ ap (λ s. Some (was ++ output_octets s)) (sym h.sent);
  report = λ was e. h.puts.1.written was e ∙ ap (λ l. Some (was ++ report_text l)) (sym h.more);
  no_output_fault = h.puts.0.faultless;
  no_report_fault = h.puts.1.faultless;
}

part_written : (words : ServeWords) (live : Live) (start now : Outside)
    → WritesMore false true (new_live words) live start.output now.output start.report now.report
    → PartIsWritten live start now
part_written words live start now h = record {
  output = λ was e. subst (λ s. WrotePart was (output_octets s) now.output.written) (sym h.sent)
      (h.puts.0.written was e);
  report = λ was e. subst (λ l. WrotePart was (report_text l) now.report.written) (sym h.more) (h.puts.1.written was e);
  failed = h.puts.2;
}

abbrev pub WrittenBy : Bool → Live → Outside → Outside → Type 0
WrittenBy false live start now = AllIsWritten live start now
WrittenBy true live start now = PartIsWritten live start now

written : (failed : Bool) (words : ServeWords) (live : Live) (start now : Outside)
    → WritesMore false failed (new_live words) live start.output now.output start.report now.report
    → WrittenBy failed live start now
written false words live start now h = all_written words live start now h
written true words live start now h = part_written words live start now h

-- ---- the end

-- what all readers were answered
answered_by : (len : ℕ) (receiver : LiveReceiver) (reader : Reader) (live : Live)
    → answers_in len receiver ≡ live.lanes → answers_of len reader ≡ live.sound
    → answers_of_all live ≡ answers_with len receiver reader
answered_by len receiver reader live lanes sound =
    ap (λ ls. ls ++ live.sound ∷ []) (sym lanes) ∙ ap (λ x. answers_in len receiver ++ x ∷ []) (sym sound)

whole : (words : ServeWords) (a b : Turning) (len : ℕ) (old receiver : LiveReceiver) (start x y : Outside)
    → (h : Runs words a len old start x)
    → (t : Turns (from_of start) true a b len receiver h.live x.output y.output x.report y.report
    x.ports y.ports y.line)
    → y.ports.listens ≡ x.ports.listens → x.ports.faults ≤ y.ports.faults
    → IsWhole words (answers_with len receiver b.meter.reader) t.next start y
    × WritesMore false b.failed (new_live words) t.next start.output y.output start.report
    y.report
whole words a b len old receiver start x y h t listens later =
    let run : IsRun words t.next = record {
      count = h.count;
      last = h.live;
      turns = h.turns;
      over = subst (λ w. IsTurn w true h.live t.next) h.words_kept t.turn;
      ended = t.over refl;
    } in
    let served = served_run words t.next run in (
      record {
        run = run;
        answered = answered_by len receiver b.meter.reader t.next t.lanes t.sound;
        told = subst (λ xs. PortsTell xs start y) (sym t.asks)
            (tells_more h.live.asked t.asked start x y h.stay.faults later h.told t.tells);
        stay = stay_stay start x y h.stay listens later;
        sends = are_sent t.next.asked t.next.hosts served.accounted;
        shuts = are_shut t.next.asked t.next.hosts served.accounted;
        all_shut = all_told words t.next run;
        gaps = served.gaps;
        samples = served.samples;
      },
      writes_more false a.failed b.failed (new_live words) h.live t.next start.output x.output y.output
          start.report x.report y.report h.writes t.writes,
    )

run_out : (words : ServeWords) (b : Turning) (live : Live) (start y : Outside) → b.words ≡ words
    → KeyedSince (from_of start) b live y.output y.report y.line → IsRunOut words live b start y
run_out words b live start y same key = record { words_kept = same; key = key }

as_told : (words : ServeWords) (b : Turning) (live : Live) (start y : Outside) → b.words ≡ words → b.failed ≡ false
    → KeyedSince (from_of start) b live y.output y.report y.line
    → AllIsWritten live start y → AllIsWrittenAsTold words.key live start y
as_told words b live start y same none key all = record {
  written = all;
  untold = ap (λ (w : ServeWords). key_failed w.key live) (sym same) ∙ key.untold none;
}

pub loop_done : (words : ServeWords) (a b : Turning) (len : ℕ) (old receiver : LiveReceiver) (start x y : Outside)
    → (h : Runs words a len old start x)
    → Turns (from_of start) true a b len receiver h.live x.output y.output x.report y.report
    x.ports y.ports y.line
    → b.words ≡ a.words → y.ports.listens ≡ x.ports.listens → x.ports.faults ≤ y.ports.faults → b.failed ≡ false
    → RunsOut words Done (answers_with len receiver b.meter.reader) b start y
loop_done words a b len old receiver start x y h t same listens later none =
    let w = whole words a b len old receiver start x y h t listens later in
    let kept = same ∙ h.words_kept in (
      t.next,
      w.0,
      as_told words b t.next start y kept none t.key (all_written words t.next start y
          (subst (λ f. WritesMore false f (new_live words) t.next start.output y.output start.report
          y.report) none w.1)),
      run_out words b t.next start y kept t.key,
    )

pub loop_fault : (words : ServeWords) (a b : Turning) (len : ℕ) (old receiver : LiveReceiver) (start x y : Outside)
    → (h : Runs words a len old start x)
    → Turns (from_of start) true a b len receiver h.live x.output y.output x.report y.report
    x.ports y.ports y.line
    → b.words ≡ a.words → y.ports.listens ≡ x.ports.listens → x.ports.faults ≤ y.ports.faults → b.failed ≡ true
    → RunsOut words WriteFault (answers_with len receiver b.meter.reader) b start y
loop_fault words a b len old receiver start x y h t same listens later some =
    let w = whole words a b len old receiver start x y h t listens later in (
      t.next,
      w.0,
      part_written words t.next start y
          (subst (λ f. WritesMore false f (new_live words) t.next start.output y.output start.report
          y.report) some w.1),
      run_out words b t.next start y (same ∙ h.words_kept) t.key,
    )

either : (words : ServeWords) (b : Turning) (live : Live) (start now : Outside) (failed : Bool) → b.failed ≡ failed
    → b.words ≡ words → KeyedSince (from_of start) b live now.output now.report now.line
    → WrittenBy failed live start now
    → AllIsWrittenAsTold words.key live start now ⊎ PartIsWritten live start now
either words b live start now false e same key h = inl (as_told words b live start now same e key h)
either words b live start now true e same key h = inr h

pub loop_memory : (words : ServeWords) (a b : Turning) (len : ℕ) (old receiver : LiveReceiver) (start x y : Outside)
    → (h : Runs words a len old start x)
    → IsCutOff (from_of start) a b len receiver h.live x.output y.output x.report y.report
    x.ports y.ports y.line
    → b.words ≡ a.words → y.ports.listens ≡ x.ports.listens → x.ports.faults ≤ y.ports.faults
    → RunsOut words Memory (answers_with len receiver b.meter.reader) b start y
loop_memory words a b len old receiver start x y h t same listens later =
    let all = writes_more false a.failed b.failed (new_live words) h.live t.next start.output x.output
    y.output start.report x.report y.report h.writes t.writes in
    let run : IsCutRun words t.next = record {
      count = h.count;
      last = h.live;
      turns = h.turns;
      cut = subst (λ w. IsCutTurn w h.live t.next) h.words_kept t.cut;
    } in
    let served = served_cut words t.next run in (
      t.next,
      elim t.tells [
        | inl none ↦ record {
          run = run;
          more = t.measured.0;
          answered = answered_by len receiver b.meter.reader (record t.next { sound = t.next.sound ++ t.measured.0 })
              t.lanes t.measured.1;
          turns = t.next.asked;
          reached = t.next.hosts;
          asked = inl (refl, refl);
          told = subst (λ xs. PortsTell xs start y) (sym t.asks)
              (tells_still h.live.asked start x y h.stay.faults h.told none);
          stay = stay_stay start x y h.stay listens later;
          sends = are_sent t.next.asked t.next.hosts served.accounted;
          shuts = are_shut t.next.asked t.next.hosts served.accounted;
          gaps = served.gaps;
          samples = served.samples;
        }
        | inr some ↦
            let asked = some.0 in
            let reached = some.1 in
            let cut : IsCutInServing words h.live t.next asked reached =
            subst (λ w. IsCutInServing w h.live t.next asked reached) h.words_kept some.2 in
            let all = accounted_cut t.next.asked asked t.next.hosts reached cut.part served.accounted in
            record {
              run = run;
              more = t.measured.0;
              answered = answered_by len receiver b.meter.reader
                  (record t.next { sound = t.next.sound ++ t.measured.0 }) t.lanes t.measured.1;
              turns = t.next.asked ++ asked ∷ [];
              reached = reached;
              asked = inr (asked, cut, refl);
              told = subst (λ xs. PortsTell (xs ++ asked ∷ []) start y) (sym t.asks)
                  (tells_more h.live.asked asked start x y h.stay.faults later h.told some.3);
              stay = stay_stay start x y h.stay listens later;
              sends = are_sent (t.next.asked ++ asked ∷ []) reached all;
              shuts = are_shut (t.next.asked ++ asked ∷ []) reached all;
              gaps = served.gaps;
              samples = served.samples;
            }
      ],
      either words b t.next start y b.failed refl (same ∙ h.words_kept) t.key (written b.failed words t.next start y all),
      run_out words b t.next start y (same ∙ h.words_kept) t.key,
    )

-- ---- whether a turn was the last

pub turned_over : (from : From) (ended : Bool) (a b : Turning) (len : ℕ) (receiver : LiveReceiver) (live : Live)
    (o o' r r' : SinkTold) (t t' : PortsTold) (line : LineTold) → ended ≡ true
    → Turns from ended a b len receiver live o o' r r' t t' line
    → Turns from true a b len receiver live o o' r r' t t' line
turned_over from ended a b len receiver live o o' r r' t t' line e h =
    subst (λ x. Turns from x a b len receiver live o o' r r' t t' line) e h

pub turned_on : (from : From) (ended : Bool) (a b : Turning) (len : ℕ) (receiver : LiveReceiver) (live : Live)
    (o o' r r' : SinkTold) (t t' : PortsTold) (line : LineTold) → ended ≡ false
    → Turns from ended a b len receiver live o o' r r' t t' line
    → Turns from false a b len receiver live o o' r r' t t' line
turned_on from ended a b len receiver live o o' r r' t t' line e h =
    subst (λ x. Turns from x a b len receiver live o o' r r' t t' line) e h
