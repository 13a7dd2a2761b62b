-- What a key does in its turn and in a tick, by what the code keeps of it and by what is written meanwhile.
use Rattle.std.proofs.Common.{◌≡◌, ℕ, ◌+◌, ◌-◌, ◌*◌, ◌≤◌, List, [], ◌∷◌, ◌++◌, refl, sym, ap, subst, ◌∙◌, arith}
use Rattle.std.proofs.Common.{length-append, zero, suc}
use Rattle.std.specs.Prelude.{Bool, true, false, ℤ, Option, Some, None, option_map, All, length, map, take}
use Rattle.std.proofs.lemmas.Bool.{true≢false}
use Rattle.keying.specs.declared.machine.Words.{Words}
use Rattle.keying.specs.declared.line.End.{End}
use Rattle.keying.specs.declared.report.Report.{Report}
use Rattle.keying.specs.Calls.{Call}
use Rattle.keying.specs.Calls.Call.{Turn}
use Rattle.keying.specs.Keyed.{failed}
use Rattle.key_port.specs.declared.key_side.KeySide.{KeySide}
use Rattle.key_port.specs.KeyCalls.{MakesCall, StandsAt}
use Rattle.key_port.specs.KeyEvents.{KeyEvent, marks_of, lines_of}
use Rattle.key_port.specs.KeyEvents.KeyEvent.{Called}
use Rattle.key_port.specs.KeyFaults.{has_failed}
use Rattle.key_port.specs.KeySides.{port_of, HasDone, DoesCall}
use Rattle.key_port.specs.KeyLines.{LineTold}
use Rattle.key_port.specs.KeyTasks.{LineGoes, HasOctets, CountsIf}
use Rattle.tnc_ports.proofs.Common.{KeyWords, Hosts, Live, From, KeyedSince, Keeps, StandsFor, SinkTold, Puts, Turning}
use Rattle.tnc_ports.proofs.Common.{ReportLine, ServeWords}
use Rattle.tnc_ports.proofs.Common.{TurnsTheKey, TurnsKeyIf, key_line, octets_sent, report_text, with_lines}
use Rattle.tnc_ports.specs.SampledHeld.{KeyStands, LineStands, IsOutputSince, IsReportSince, IsWrittenSince}
use Rattle.tnc_ports.specs.SampledRun.{key_failed}
use Rattle.tnc_ports.proofs.KeyFailures.{before_events, call_untold, turned_same}
use Rattle.tnc_ports.specs.KeyTurns.{Whole}
use Rattle.tnc_ports.specs.SampledWrites.{ReportsMore}
use Rattle.tnc_ports.proofs.LiveSteps.{relined}
use Rattle.tnc_ports.proofs.LiveWrites.{no_report, report_text-append}

-- ---- how many octets the run has written of its output

-- What the output has more than it told at first; if it told nothing, what it has if no write failed.
unfoldable pub had_of : Option ℕ → Option (List ℕ) → ℕ → ℕ
had_of None written sent = sent
had_of (Some start) None sent = sent
had_of (Some start) (Some out) sent = length out - start

abbrev pub Outputs : From → Option KeyWords → Bool → Live → SinkTold → Type 0
Outputs from key failed live output = (start : ℕ) → from.output ≡ Some start → IsOutputSince start key failed live output

pub has_told : (from : From) (key : Option KeyWords) (failed : Bool) (live : Live) (output : SinkTold) (sent start : ℕ)
    → Outputs from key failed live output → from.output ≡ Some start
    → HasOctets output.written (start + had_of from.output output.written sent)
unfolding had_of
has_told from key failed live output sent start told e =
    let i = told start e in
    let same : had_of from.output output.written sent ≡ length i.out - start =
    ap (λ (o : Option ℕ). had_of o output.written sent) e ∙ ap (λ (w : Option (List ℕ)). had_of (Some start) w sent) i.is
    in
    record { out = i.out; is = i.is; size = let l = i.longer in omega (arith, same, l) }

-- as long as no write failed, that is all
pub had_all : (from : From) (key : KeyWords) (failed : Bool) (live : Live) (output : SinkTold)
    → Outputs from (Some key) failed live output
    → key_failed (Some key) live ≡ false → had_of from.output output.written (octets_sent live) ≡ octets_sent live
unfolding had_of
had_all from key failed live output told none = go from.output refl
  where
    go : (o : Option ℕ) → from.output ≡ o → had_of o output.written (octets_sent live) ≡ octets_sent live
    go None e = refl
    go (Some start) e =
        let i = told start e in
        let all = i.all key refl none in
        let same : had_of (Some start) output.written (octets_sent live) ≡ length i.out - start =
        ap (λ (w : Option (List ℕ)). had_of (Some start) w (octets_sent live)) i.is in
        omega (arith, all, same)

-- only what the key did tells whether it was told of a failure
pub failed_same : (key : Option KeyWords) (live next : Live) → next.keyed ≡ live.keyed
    → key_failed key next ≡ key_failed key live
failed_same None live next same = refl
failed_same (Some key) live next same = ap (λ (events : List KeyEvent). failed (marks_of key.words events)) same

key_in : KeyWords → Option KeyWords → KeyWords
key_in other None = other
key_in other (Some key) = key

-- words that are those of a key
pub untold_as : (key words : KeyWords) (keyed new : List KeyEvent) → Some key ≡ Some words
    → (failed (marks_of key.words new) ≡ false → failed (marks_of key.words keyed) ≡ false)
    → failed (marks_of words.words new) ≡ false → failed (marks_of words.words keyed) ≡ false
unfolding key_in
untold_as key words keyed new same untold none =
    let is : key ≡ words = ap (key_in key) same in
    subst (λ (k : KeyWords). failed (marks_of k.words keyed) ≡ false) is
    (untold (subst (λ (k : KeyWords). failed (marks_of k.words new) ≡ false) (sym is) none))

pub untold_to : (key words : KeyWords) (new : List KeyEvent) → Some key ≡ Some words → {fault : Bool}
    → (failed (marks_of key.words new) ≡ false → fault ≡ false) → failed (marks_of words.words new) ≡ false
    → fault ≡ false
unfolding key_in
untold_to key words new same untold none =
    untold (subst (λ (k : KeyWords). failed (marks_of k.words new) ≡ false) (sym (ap (key_in key) same)) none)

-- ---- a call

-- a command may be said to stand elsewhere if that is the same place unless a write failed
pub at_octets : (words : Words) (a b : ℕ) (call : Call) (before after : List KeyEvent) (reported : List Report)
    → (failed (marks_of words before) ≡ false → a ≡ b) → MakesCall words a call before after reported
    → MakesCall words b call before after reported
at_octets words a b call before after reported same h = record {
  more = h.more;
  follow = h.follow;
  is = h.is;
  obeys = h.obeys;
  done = h.done;
  order = λ none. subst (λ n. All (StandsAt n) h.more) (same none) (h.order none);
  told = h.told;
}

-- whoever was not told of a failure after a call, was not told of one before it
pub untold_before : (words : Words) (octets : ℕ) (call : Call) (before after : List KeyEvent) (reported : List Report)
    → MakesCall words octets call before after reported → failed (marks_of words after) ≡ false
    → failed (marks_of words before) ≡ false
untold_before words octets call before after reported h none =
    before_events words (Called call ∷ []) before
    (before_events words h.more (Called call ∷ before)
    (subst (λ (events : List KeyEvent). failed (marks_of words events) ≡ false) h.is none))

-- the line after these events
abbrev pub LineHas : From → KeyWords → List KeyEvent → LineTold → Type 0
LineHas from key events line =
    ((start : ℕ) → from.output ≡ Some start
    → line.lines ≡ option_map (λ lines. lines_of key.port start lines events) from.line.lines)
    × CountsIf (has_failed events) from.line.faults line.faults

pub line_called : (from : From) (key : KeyWords) (had : ℕ) (output : SinkTold) (call : Call) (keyed : List KeyEvent)
    (reported : List Report) (side : KeySide) (line line' : LineTold)
    → ((start : ℕ) → from.output ≡ Some start → HasOctets output.written (start + had))
    → (d : DoesCall key.words had output.written call keyed reported side line line') → port_of side ≡ key.port
    → LineHas from key keyed line → LineHas from key d.new line'
line_called from key had output call keyed reported side line line' told d port has = (
  λ start e.
      let goes : LineGoes key.port had output.written keyed d.new line.lines line'.lines =
      subst (λ (p : ℕ). LineGoes p had output.written keyed d.new line.lines line'.lines) port d.line in
      goes start from.line.lines (told start e) (has.0 start e),
  d.faults from.line.faults has.1,
)

-- ---- what is written

-- a write never takes back what was there; if it did not fail, all of it is there
pub record Grows (octets : ℕ) (failed : Bool) (out : List ℕ) (after : SinkTold) : Type 0 where
  pub now : List ℕ
  pub is : after.written ≡ Some now
  pub longer : length out ≤ length now
  pub all : failed ≡ false → length now ≡ length out + octets

pub put_grows : (f f' : Bool) (octets out : List ℕ) (x y : SinkTold) → Puts f f' octets x y → x.written ≡ Some out
    → Grows (length octets) f' out y
put_grows true f' octets out x y h e = record {
  now = out;
  is = ap (λ (s : SinkTold). s.written) h.1 ∙ e;
  longer = omega arith;
  all = λ none. absurd (true≢false (sym h.0 ∙ none));
}
put_grows false false octets out x y h e = record {
  now = out ++ octets;
  is = h.written out e;
  longer = let l = length-append out octets in omega (arith, l);
  all = λ none. length-append out octets;
}
put_grows false true octets out x y h e =
    let w = h.0.written out e in
    record {
      now = out ++ w.0;
      is = w.3;
      longer = let l = length-append out w.0 in omega (arith, l);
      all = λ none. absurd (true≢false none);
    }

take_within : (count : ℕ) (xs ys : List ReportLine) → count ≤ length xs → take count (xs ++ ys) ≡ take count xs
take_within zero xs ys h = refl
take_within (suc count) [] ys h = absurd (omega arith)
take_within (suc count) (x ∷ xs) ys h = ap (λ rest. x ∷ rest) (take_within count xs ys (omega (arith, h)))

-- the first lines of a report stay its first ones
pub taken_longer : (start count : ℕ) (report lines : List ReportLine) (out now : List ℕ) → count ≤ length report
    → start + length (report_text (take count report)) ≤ length out → length out ≤ length now
    → start + length (report_text (take count (report ++ lines))) ≤ length now
taken_longer start count report lines out now within whole longer =
    subst (λ (xs : List ReportLine). start + length (report_text xs) ≤ length now)
    (sym (take_within count report lines within)) (omega (arith, whole, longer))

pub text_longer : (report lines : List ReportLine)
    → length (report_text (report ++ lines)) ≡ length (report_text report) + length (report_text lines)
text_longer report lines =
    ap (λ (t : List ℕ). length t) (report_text-append report lines)
    ∙ length-append (report_text report) (report_text lines)

-- a write after one that failed is one that failed
pub put_failed : (f f' : Bool) (octets : List ℕ) (x y : SinkTold) → Puts f f' octets x y → f' ≡ false → f ≡ false
put_failed false f' octets x y h none = refl
put_failed true f' octets x y h none = absurd (true≢false (sym h.0 ∙ none))

-- more lines of the report
pub report_since : (start : ℕ) (f f' : Bool) (live next : Live) (lines : List ReportLine) (r r' : SinkTold)
    → live.whole.lines ≤ length live.hosts.report → next.whole ≡ live.whole
    → next.hosts.report ≡ live.hosts.report ++ lines → Puts f f' (report_text lines) r r'
    → IsReportSince start f live r → IsReportSince start f' next r'
report_since start f f' live next lines r r' within whole more put i =
    let g = put_grows f f' (report_text lines) i.out r r' put i.is in
    record {
      out = g.now;
      is = g.is;
      kept = λ none.
          let all = g.all none in
          let kept = i.kept (put_failed f f' (report_text lines) r r' put none) in
          let text = ap (λ (xs : List ReportLine). length (report_text xs)) more ∙ text_longer live.hosts.report lines in
          omega (arith, all, kept, text);
      whole = subst (λ (w : Whole). start + length (report_text (take w.lines next.hosts.report)) ≤ length g.now)
          (sym whole)
          (subst (λ (xs : List ReportLine). start + length (report_text (take live.whole.lines xs)) ≤ length g.now)
          (sym more)
          (taken_longer start live.whole.lines live.hosts.report lines i.out g.now within i.whole g.longer));
    }

-- a part of a turn that writes to the report alone, and in which the key does nothing
pub written_since : (from : From) (key : Option KeyWords) (f f' : Bool) (live next : Live) (o r r' : SinkTold)
    → next.sent ≡ live.sent → next.whole ≡ live.whole → next.keyed ≡ live.keyed
    → ReportsMore f f' live.hosts next.hosts r r' → IsWrittenSince from key f live o r
    → IsWrittenSince from key f' next o r'
written_since from key f f' live next o r r' sent whole keyed writes h = record {
  outputs = λ start told.
      let i = h.outputs start told in
      let same : octets_sent next ≡ octets_sent live = ap (λ (xs : List ℤ). 2 * length xs) sent in
      record {
        out = i.out;
        is = i.is;
        longer = i.longer;
        kept = λ none. i.kept (put_failed f f' (report_text writes.lines) r r' writes.puts none)
            ∙ ap (λ n. start + n) (sym same);
        all = λ words is none. i.all words is (sym (failed_same (Some words) live next keyed) ∙ none)
            ∙ ap (λ n. start + n) (sym same);
        whole = subst (λ (w : Whole). start + w.octets ≤ length i.out) (sym whole) i.whole;
      };
  reports = λ start told. report_since start f f' live next writes.lines r r' h.lines whole writes.more writes.puts
      (h.reports start told);
  lines =
      let l = ap (λ (xs : List ReportLine). length xs) writes.more ∙ length-append live.hosts.report writes.lines in
      let w = h.lines in
      subst (λ (x : Whole). x.lines ≤ length next.hosts.report) (sym whole) (omega (arith, l, w));
}

-- ---- the key's turn

abbrev pub IsTurning : KeySide → KeySide → Option (List ℕ) → ℕ → List Report → LineTold → LineTold → Type 0
IsTurning side side' written now reported line line' =
    (words : Words) (octets : ℕ) (keyed : List KeyEvent) → HasDone words keyed side
    → (came : List ℕ) × (end : Option End)
    × DoesCall words octets written (Turn now came end) keyed reported side' line line'

module _ (from : From) (before after : Turning) (live : Live) (o r r' : SinkTold) (line line' : LineTold)
    (side side' : KeySide) (now : ℕ) (reported : List Report) where
  turned_by : (key : Option KeyWords) → before.words.key ≡ key → before.key ≡ Some side → after.key ≡ Some side'
      → after.words ≡ before.words → after.hosts ≡ before.hosts → Keeps before.hosts live.hosts
      → KeyStands key (Some side) live.keyed → (before.failed ≡ false → key_failed key live ≡ false)
      → IsWrittenSince from key before.failed live o r → LineStands from key live line
      → IsTurning side side' o.written now reported line line' → port_of side' ≡ port_of side
      → Puts before.failed after.failed (report_text (map key_line reported)) r r'
      → TurnsTheKey from before after live o r r' line'
  turned_by None e was is words hosts keeps stands so_far written has turn port put = absurd stands
  turned_by (Some key) e was is words hosts keeps stands so_far written has turn port put =
      let had = had_of from.output o.written (octets_sent live) in
      let call = turn key.words had live.keyed stands.0 in
      let d = call.2 in
      let same_port : port_of side' ≡ key.port = port ∙ stands.1 in
      let lines = map key_line reported in
      let reached : Hosts = with_lines lines live.hosts in
      let next : Live = record live { keyed = d.new; hosts = reached } in
      let key_now : after.words.key ≡ Some key = ap (λ (w : ServeWords). w.key) words ∙ e in
      let untold : failed (marks_of key.words d.new) ≡ false → failed (marks_of key.words live.keyed) ≡ false =
      untold_before key.words had (Turn now call.0 call.1) live.keyed d.new reported d.is in
      record {
        next = next;
        turn = record {
          keyed = d.new;
          hosts = reached;
          turn = subst (λ (k : Option KeyWords). TurnsKeyIf k (octets_sent live) live.keyed d.new live.hosts reached)
              (sym e) (record {
                now = now;
                came = call.0;
                end = call.1;
                call = record {
                  reported = reported;
                  makes = at_octets key.words had (octets_sent live) (Turn now call.0 call.1) live.keyed d.new reported
                      (had_all from key before.failed live o written.outputs) d.is;
                  hosts = refl;
                };
              });
          is = refl;
        };
        keeps = subst (λ h. StandsFor h reached.report reached) (sym hosts)
            (relined before.hosts live.hosts (live.hosts.report ++ lines) keeps);
        key = record {
          stands = subst (λ (k : Option KeyWords). KeyStands k after.key d.new) (sym key_now)
              (subst (λ (s : Option KeySide). KeyStands (Some key) s d.new) (sym is) (d.done, same_port));
          untold = λ none. ap (λ (k : Option KeyWords). key_failed k next) key_now
              ∙ call_untold key.words had (Turn now call.0 call.1) live.keyed d.new reported
              (turned_same key.words now call.0 call.1 (marks_of key.words live.keyed)) d.is
              (so_far (put_failed before.failed after.failed (report_text lines) r r' put none));
          written = subst (λ (k : Option KeyWords). IsWrittenSince from k after.failed next o r') (sym key_now) (record {
            outputs = λ start told.
                let i = written.outputs start told in
                record {
                  out = i.out;
                  is = i.is;
                  longer = i.longer;
                  kept = λ none. i.kept (put_failed before.failed after.failed (report_text lines) r r' put none);
                  all = λ words same none. i.all words same
                      (untold_as key words live.keyed d.new same untold none);
                  whole = i.whole;
                };
            reports = λ start told. report_since start before.failed after.failed live next lines r r' written.lines refl
                refl put (written.reports start told);
            lines = let l = length-append live.hosts.report lines in let w = written.lines in omega (arith, l, w);
          });
          line_stands = subst (λ (k : Option KeyWords). LineStands from k next line') (sym key_now)
              (line_called from key had o (Turn now call.0 call.1) live.keyed reported side' line line'
              (λ start told. has_told from (Some key) before.failed live o (octets_sent live) start written.outputs told) d same_port
              has);
        };
        writes = record { lines = lines; more = refl; puts = put };
      }

  -- the key that the words ask for is there
  pub turned_some : before.key ≡ Some side → after.key ≡ Some side' → after.words ≡ before.words
      → after.hosts ≡ before.hosts → Keeps before.hosts live.hosts → KeyedSince from before live o r line
      → IsTurning side side' o.written now reported line line' → port_of side' ≡ port_of side
      → Puts before.failed after.failed (report_text (map key_line reported)) r r'
      → TurnsTheKey from before after live o r r' line'
  turned_some was is words hosts keeps key turn port put =
      turned_by before.words.key refl was is words hosts keeps
      (subst (λ (k : Option KeySide). KeyStands before.words.key k live.keyed) was key.stands) key.untold key.written
      key.line_stands turn port put

-- there is no key
pub turned_none : (from : From) (before : Turning) (live : Live) (o r : SinkTold) (line : LineTold)
    → before.key ≡ None → Keeps before.hosts live.hosts → KeyedSince from before live o r line
    → TurnsTheKey from before before live o r r line
turned_none from before live o r line none keeps key = record {
  next = live;
  turn = record {
    keyed = live.keyed;
    hosts = live.hosts;
    turn = no_turn before.words.key before.key none key.stands;
    is = refl;
  };
  keeps = keeps;
  key = key;
  writes = no_report before.failed live.hosts r;
}
  where
    no_turn : (words : Option KeyWords) (side : Option KeySide) → side ≡ None → KeyStands words side live.keyed
        → TurnsKeyIf words (octets_sent live) live.keyed live.keyed live.hosts live.hosts
    no_turn None side e stands = (refl, refl)
    no_turn (Some words) None e stands = absurd stands
    no_turn (Some words) (Some side) e stands = absurd (cc e)
