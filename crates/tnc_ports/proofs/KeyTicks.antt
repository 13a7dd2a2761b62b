-- What a key does in a tick: it is told of the samples before they are written, and of a write that failed after them.
use Rattle.std.proofs.Common.{◌≡◌, ℕ, ◌+◌, ◌*◌, ◌≤◌, List, [], ◌∷◌, ◌++◌, refl, sym, ap, subst, ◌∙◌, arith}
use Rattle.std.proofs.Common.{length-append}
use Rattle.std.specs.Prelude.{Bool, true, false, ℤ, Option, Some, None, length, map, take}
use Rattle.channel_access.specs.Sound.{has_sound}
use Rattle.keying.specs.declared.machine.Words.{Words}
use Rattle.keying.specs.declared.report.Report.{Report}
use Rattle.keying.specs.Calls.Call.{Tick, AfterWrite}
use Rattle.keying.specs.Keyed.{failed}
use Rattle.key_port.specs.declared.key_side.KeySide.{KeySide}
use Rattle.key_port.specs.KeyCalls.{MakesCall}
use Rattle.key_port.specs.KeyEvents.{KeyEvent, marks_of}
use Rattle.key_port.specs.KeyEvents.KeyEvent.{Called}
use Rattle.key_port.specs.KeySides.{port_of, DoesCall}
use Rattle.key_port.specs.KeyLines.{LineTold}
use Rattle.tnc_ports.proofs.Common.{KeyWords, Hosts, Live, From, SinkTold, Puts, ReportLine}
use Rattle.tnc_ports.proofs.Common.{TicksKeyIf, Whole, key_line, octets_sent, output_octets, report_text, with_lines}
use Rattle.tnc_ports.specs.KeyTurns.{told_whole}
use Rattle.tnc_ports.specs.SampledHeld.{KeyStands, LineStands, IsOutputSince, IsReportSince, IsWrittenSince, DoesForKey}
use Rattle.tnc_ports.specs.SampledRun.{key_failed}
use Rattle.std.proofs.lemmas.Bool.{true≢false}
use Rattle.std.specs.Prelude.{◌-◌}
use Rattle.tnc_ports.proofs.Common.{append-nil}
use Rattle.keying.specs.Calls.{Call}
use Rattle.key_port.specs.KeyTasks.{HasOctets}
use Rattle.tnc_ports.proofs.KeyFailures.{before_events, told_failure, call_untold, ticked_same, written_same}
use Rattle.tnc_ports.proofs.KeySteps.{had_of, has_told, had_all, at_octets, untold_before, line_called, put_grows}
use Rattle.tnc_ports.proofs.KeySteps.{put_failed, taken_longer, text_longer, untold_as, untold_to}
use Rattle.std.proofs.lemmas.List.{take_all}
use Rattle.tnc_ports.proofs.Common.{append_assoc}

-- ---- the octets of samples

pub out_length : (samples : List ℤ) → length (output_octets samples) ≡ 2 * length samples
out_length [] = refl
out_length (x ∷ samples) = let rest = out_length samples in omega (arith, rest)

-- ---- what was told after the samples

-- whoever was told of no failure by now was not told of one at the end of the tick
fault_untold : (words : Words) (octets : ℕ) (fault : Bool) (before after : List KeyEvent) (reported : List Report)
    → MakesCall words octets (AfterWrite fault) before after reported → failed (marks_of words after) ≡ false
    → fault ≡ false
fault_untold words octets fault before after reported h none =
    told_failure words fault (marks_of words before)
    (before_events words h.more (Called (AfterWrite fault) ∷ before)
    (subst (λ (events : List KeyEvent). failed (marks_of words events) ≡ false) h.is none))

-- ---- what is written in a tick

sent_more : (live next : Live) (outs : List ℤ) → next.sent ≡ live.sent ++ outs
    → octets_sent next ≡ octets_sent live + 2 * length outs
sent_more live next outs same =
    let l = ap (λ (xs : List ℤ). length xs) same ∙ length-append live.sent outs in omega (arith, l)

-- The key was told of this fault, or nobody was told anything, which is as if it had been told of one.
module _ (key : Option KeyWords) (fault : Bool) (live next : Live) (outs : List ℤ) (lines : ℕ)
    (sent : next.sent ≡ live.sent ++ outs)
    (whole : next.whole ≡ told_whole fault (octets_sent live + 2 * length outs) lines live.whole) where
  told_so : fault ≡ true → next.whole ≡ live.whole
  told_so e = whole ∙ ap (λ (b : Bool). told_whole b (octets_sent live + 2 * length outs) lines live.whole) e

  told_all : fault ≡ false
      → next.whole ≡ record { octets = octets_sent live + 2 * length outs; lines = lines }
  told_all e = whole ∙ ap (λ (b : Bool). told_whole b (octets_sent live + 2 * length outs) lines live.whole) e

  output_whole : (start : ℕ) (b f1 : Bool) (out now : List ℕ) → fault ≡ b → (fault ≡ false → f1 ≡ false)
      → length out ≤ length now → start + live.whole.octets ≤ length out
      → (f1 ≡ false → length now ≡ start + octets_sent next) → start + next.whole.octets ≤ length now
  output_whole start true f1 out now e told longer was kept =
      subst (λ (x : Whole). start + x.octets ≤ length now) (sym (told_so e)) (omega (arith, was, longer))
  output_whole start false f1 out now e told longer was kept =
      let all = kept (told e) in
      let more = sent_more live next outs sent in
      subst (λ (x : Whole). start + x.octets ≤ length now) (sym (told_all e)) (omega (arith, all, more))

  pub output_since : (start : ℕ) (f f1 f4 : Bool) (o o' : SinkTold) → Puts f f1 (output_octets outs) o o'
      → (f4 ≡ false → f1 ≡ false) → (fault ≡ false → f1 ≡ false)
      → ((words : KeyWords) → key ≡ Some words → key_failed (Some words) next ≡ false
      → (fault ≡ false) × (key_failed (Some words) live ≡ false))
      → IsOutputSince start key f live o → IsOutputSince start key f4 next o'
  output_since start f f1 f4 o o' put later told untold i =
      let g = put_grows f f1 (output_octets outs) i.out o o' put i.is in
      let size = out_length outs in
      let more = sent_more live next outs sent in
      let kept : f1 ≡ false → length g.now ≡ start + octets_sent next = λ none.
      (let was = i.kept (put_failed f f1 (output_octets outs) o o' put none) in
      let all = g.all none in
      omega (arith, was, all, size, more)) in
      record {
        out = g.now;
        is = g.is;
        longer = let a = i.longer in let b = g.longer in omega (arith, a, b);
        kept = λ none. kept (later none);
        all = λ words is none. kept (told (untold words is none).0);
        whole = output_whole start fault f1 i.out g.now refl told g.longer i.whole kept;
      }

  -- the lines up to where the key was told, and those after it
  module _ (first last : List ReportLine) (count : lines ≡ length (live.hosts.report ++ first))
      (more : next.hosts.report ≡ (live.hosts.report ++ first) ++ last) where
    report_whole : (start : ℕ) (b f3 : Bool) (out mid now : List ℕ) → fault ≡ b → (fault ≡ false → f3 ≡ false)
        → live.whole.lines ≤ length live.hosts.report
        → length out ≤ length mid → length mid ≤ length now
        → start + length (report_text (take live.whole.lines live.hosts.report)) ≤ length out
        → (f3 ≡ false → length mid ≡ start + length (report_text (live.hosts.report ++ first)))
        → start + length (report_text (take next.whole.lines next.hosts.report)) ≤ length now
    report_whole start true f3 out mid now e told within longer later was kept =
        subst (λ (x : Whole). start + length (report_text (take x.lines next.hosts.report)) ≤ length now)
        (sym (told_so e))
        (subst (λ (xs : List ReportLine). start + length (report_text (take live.whole.lines xs)) ≤ length now)
        (sym (more ∙ append_assoc live.hosts.report first last))
        (taken_longer start live.whole.lines live.hosts.report (first ++ last) out now within was
        (omega (arith, longer, later))))
    report_whole start false f3 out mid now e told within longer later was kept =
        let all = kept (told e) in
        subst (λ (x : Whole). start + length (report_text (take x.lines next.hosts.report)) ≤ length now)
        (sym (told_all e))
        (subst (λ (n : ℕ). start + length (report_text (take n next.hosts.report)) ≤ length now) (sym count)
        (subst (λ (xs : List ReportLine). start + length (report_text (take (length (live.hosts.report ++ first)) xs))
        ≤ length now) (sym more)
        (taken_longer start (length (live.hosts.report ++ first)) (live.hosts.report ++ first) last mid now (omega arith)
        (subst (λ (xs : List ReportLine). start + length (report_text xs) ≤ length mid)
        (sym (take_all (length (live.hosts.report ++ first)) (live.hosts.report ++ first) (omega arith)))
        (omega (arith, all))) later)))

    pub tick_report_since : (start : ℕ) (f f1 f3 f4 : Bool) (r r2 r3 : SinkTold) → (f1 ≡ false → f ≡ false)
        → Puts f1 f3 (report_text first) r r2 → Puts f3 f4 (report_text last) r2 r3 → (fault ≡ false → f3 ≡ false)
        → live.whole.lines ≤ length live.hosts.report
        → IsReportSince start f live r → IsReportSince start f4 next r3
    tick_report_since start f f1 f3 f4 r r2 r3 before put1 put2 told within i =
        let g = put_grows f1 f3 (report_text first) i.out r r2 put1 i.is in
        let h = put_grows f3 f4 (report_text last) g.now r2 r3 put2 g.is in
        let text = text_longer live.hosts.report first in
        let rest = text_longer (live.hosts.report ++ first) last in
        let kept : f3 ≡ false → length g.now ≡ start + length (report_text (live.hosts.report ++ first)) = λ none.
        (let was = i.kept (before (put_failed f1 f3 (report_text first) r r2 put1 none)) in
        let all = g.all none in
        omega (arith, was, all, text)) in
        record {
          out = h.now;
          is = h.is;
          kept = λ none.
              let was = kept (put_failed f3 f4 (report_text last) r2 r3 put2 none) in
              let all = h.all none in
              let same = ap (λ (xs : List ReportLine). length (report_text xs)) more in
              omega (arith, was, all, rest, same);
          whole = report_whole start fault f3 i.out g.now h.now refl told within g.longer h.longer i.whole kept;
        }

    pub lines_within : (b : Bool) → fault ≡ b → live.whole.lines ≤ length live.hosts.report
        → next.whole.lines ≤ length next.hosts.report
    lines_within true e within =
        let l = ap (λ (xs : List ReportLine). length xs) more ∙ length-append (live.hosts.report ++ first) last in
        let k = length-append live.hosts.report first in
        subst (λ (x : Whole). x.lines ≤ length next.hosts.report) (sym (told_so e)) (omega (arith, l, k, within))
    lines_within false e within =
        let l = ap (λ (xs : List ReportLine). length xs) more ∙ length-append (live.hosts.report ++ first) last in
        subst (λ (x : Whole). x.lines ≤ length next.hosts.report) (sym (told_all e)) (omega (arith, l, count))

-- ---- the calls of a tick

-- what a key's two calls in a tick come to: the first reports these lines, and then a write has failed or not
pub record KeyTicked (from : From) (key : Option KeyWords) (side : Option KeySide) (live : Live)
    (samples outs : List ℤ) (fault : Bool) (reps1 reps2 : List Report) (made : Hosts) (line : LineTold) : Type 0 where
  pub keyed : List KeyEvent
  pub whole : Whole
  pub does : TicksKeyIf key (octets_sent live) samples outs live.keyed keyed live.whole whole made
      (with_lines (map key_line reps2) (with_lines (map key_line reps1) made))
  pub stands : KeyStands key side keyed
  pub has : LineStands from key (record live { keyed = keyed }) line
  -- what the key was told; without a key it is as if it had been told of a write that failed
  pub told : Bool
  pub so : told ≡ false → fault ≡ false
  pub is_whole : whole ≡ told_whole told (octets_sent live + 2 * length outs)
      (length (made.report ++ map key_line reps1)) live.whole
  pub untold : (words : KeyWords) → key ≡ Some words → failed (marks_of words.words keyed) ≡ false
      → (told ≡ false) × (failed (marks_of words.words live.keyed) ≡ false)
  pub so_far : fault ≡ false → (key_failed key live ≡ false)
      → key_failed key (record live { keyed = keyed }) ≡ false

abbrev pub Asks : Option KeySide → Option KeySide → Option (List ℕ) → Call → List Report → LineTold → LineTold
    → Option KeyWords → Type 0
Asks side side' written call reported line line' key =
    (words : KeyWords) (octets : ℕ) (keyed : List KeyEvent) → key ≡ Some words → KeyStands key side keyed
    → DoesForKey words octets written call keyed reported side' line line'

abbrev pub Rests : Option KeySide → Option KeySide → List Report → LineTold → LineTold → Type 0
Rests side side' reported line line' = side ≡ None → (side' ≡ None) × (line' ≡ line) × (reported ≡ [])

module _ (from : From) (live : Live) (samples outs : List ℤ) (f f1 fault : Bool) (reps1 reps2 : List Report)
    (o o' r : SinkTold) (line line1 line2 : LineTold) (made : Hosts) (size : length samples ≡ 96)
    (out : Puts f f1 (output_octets outs) o o') (later : fault ≡ false → f1 ≡ false) where
  -- the output after the samples, for the second call: if no write failed by then it has them all
  had_after : (key : KeyWords) → IsWrittenSince from (Some key) f live o r → fault ≡ false
      → had_of from.output o'.written (octets_sent live + 2 * length outs) ≡ octets_sent live + 2 * length outs
  unfolding had_of
  had_after key written none = go from.output refl
    where
      go : (n : Option ℕ) → from.output ≡ n
          → had_of n o'.written (octets_sent live + 2 * length outs) ≡ octets_sent live + 2 * length outs
      go None e = refl
      go (Some start) e =
          let i = written.outputs start e in
          let g = put_grows f f1 (output_octets outs) i.out o o' out i.is in
          let kept = i.kept (put_failed f f1 (output_octets outs) o o' out (later none)) in
          let all = g.all (later none) in
          let long = out_length outs in
          let same : had_of (Some start) o'.written (octets_sent live + 2 * length outs) ≡ length g.now - start =
          ap (λ (w : Option (List ℕ)). had_of (Some start) w (octets_sent live + 2 * length outs)) g.is in
          omega (arith, kept, all, long, same)

  told_after : (key : KeyWords) → IsWrittenSince from (Some key) f live o r → (start : ℕ) → from.output ≡ Some start
      → HasOctets o'.written (start + had_of from.output o'.written (octets_sent live + 2 * length outs))
  unfolding had_of
  told_after key written start e =
      let i = written.outputs start e in
      let g = put_grows f f1 (output_octets outs) i.out o o' out i.is in
      let same : had_of from.output o'.written (octets_sent live + 2 * length outs) ≡ length g.now - start =
      ap (λ (n : Option ℕ). had_of n o'.written (octets_sent live + 2 * length outs)) e
      ∙ ap (λ (w : Option (List ℕ)). had_of (Some start) w (octets_sent live + 2 * length outs)) g.is in
      record {
        out = g.now;
        is = g.is;
        size = let l = i.longer in let k = g.longer in omega (arith, same, l, k);
      }

  ticked_with : (key : KeyWords) (side side1 side2 : KeySide) → KeyStands (Some key) (Some side) live.keyed
      → IsWrittenSince from (Some key) f live o r → LineStands from (Some key) live line
      → (one : DoesCall key.words (had_of from.output o.written (octets_sent live)) o.written (Tick (has_sound samples))
      live.keyed reps1 side1 line line1) → port_of side1 ≡ key.port
      → (two : DoesCall key.words (had_of from.output o'.written (octets_sent live + 2 * length outs)) o'.written
      (AfterWrite fault) one.new reps2 side2 line1 line2) → port_of side2 ≡ key.port
      → KeyTicked from (Some key) (Some side2) live samples outs fault reps1 reps2 made line2
  ticked_with key side side1 side2 stands written has one port1 two port2 =
      let had = had_of from.output o.written (octets_sent live) in
      let had' = had_of from.output o'.written (octets_sent live + 2 * length outs) in
      let fault_told : failed (marks_of key.words two.new) ≡ false → fault ≡ false =
      fault_untold key.words had' fault one.new two.new reps2 two.is in
      let before : failed (marks_of key.words two.new) ≡ false → failed (marks_of key.words live.keyed) ≡ false =
      (λ none. untold_before key.words had (Tick (has_sound samples)) live.keyed one.new reps1 one.is
      (untold_before key.words had' (AfterWrite fault) one.new two.new reps2 two.is none)) in
      record {
        keyed = two.new;
        whole = told_whole fault (octets_sent live + 2 * length outs) (length (made.report ++ map key_line reps1))
            live.whole;
        does = record {
          between = one.new;
          reached = with_lines (map key_line reps1) made;
          tick = record {
            reported = reps1;
            makes = at_octets key.words had (octets_sent live) (Tick (has_sound samples)) live.keyed one.new reps1
                (had_all from key f live o written.outputs) one.is;
            hosts = refl;
          };
          fault = fault;
          had = had';
          all = had_after key written;
          write = record { reported = reps2; makes = two.is; hosts = refl };
          tells = refl;
        };
        stands = (two.done, port2);
        has = line_called from key had' o' (AfterWrite fault) one.new reps2 side2 line1 line2 (told_after key written) two
            port2
            (line_called from key had o (Tick (has_sound samples)) live.keyed reps1 side1 line line1
            (λ start e. has_told from (Some key) f live o (octets_sent live) start written.outputs e) one port1 has);
        told = fault;
        so = λ none. none;
        is_whole = refl;
        untold = λ words same none.
            (untold_to key words two.new same fault_told none, untold_as key words live.keyed two.new same before none);
        so_far = λ none so.
            call_untold key.words had' (AfterWrite fault) one.new two.new reps2
            (written_same key.words fault (marks_of key.words one.new) none) two.is
            (call_untold key.words had (Tick (has_sound samples)) live.keyed one.new reps1
            (ticked_same key.words (has_sound samples) (marks_of key.words live.keyed)) one.is so);
      }

  ticked_alone : (side side1 side2 : Option KeySide) → side ≡ None → Rests side side1 reps1 line line1
      → Rests side1 side2 reps2 line1 line2 → LineStands from None live line
      → KeyTicked from None side2 live samples outs fault reps1 reps2 made line2
  ticked_alone side side1 side2 none one two has =
      let a = one none in
      let b = two a.0 in
      record {
        keyed = live.keyed;
        whole = live.whole;
        does = (refl, refl, no_lines b.2 a.2);
        stands = subst (λ (s : Option KeySide). KeyStands None s live.keyed) (sym b.0) tt;
        has = b.1 ∙ a.1 ∙ has;
        told = true;
        so = λ e. absurd (true≢false e);
        is_whole = refl;
        untold = λ words e. absurd (cc e);
        so_far = λ fault so. refl;
      }
    where
      no_lines : reps2 ≡ [] → reps1 ≡ []
          → with_lines (map key_line reps2) (with_lines (map key_line reps1) made) ≡ made
      no_lines e1 e2 =
          ap (λ (rs : List Report). with_lines (map key_line rs) (with_lines (map key_line reps1) made)) e1
          ∙ ap (λ (rs : List Report). with_lines [] (with_lines (map key_line rs) made)) e2
          ∙ ap (λ (report : List ReportLine). record made { report = report })
          (append-nil (made.report ++ []) ∙ append-nil made.report)

  pub ticked : (key : Option KeyWords) (side side1 side2 : Option KeySide) → KeyStands key side live.keyed
      → IsWrittenSince from key f live o r → LineStands from key live line
      → Asks side side1 o.written (Tick (has_sound samples)) reps1 line line1 key → Rests side side1 reps1 line line1
      → Asks side1 side2 o'.written (AfterWrite fault) reps2 line1 line2 key → Rests side1 side2 reps2 line1 line2
      → KeyTicked from key side2 live samples outs fault reps1 reps2 made line2
  ticked None None side1 side2 stands written has one rest1 two rest2 =
      ticked_alone None side1 side2 refl rest1 rest2 has
  ticked None (Some side) side1 side2 stands written has one rest1 two rest2 = absurd stands
  ticked (Some key) None side1 side2 stands written has one rest1 two rest2 = absurd stands
  ticked (Some key) (Some side) side1 side2 stands written has one rest1 two rest2 =
      by_sides side1 side2 (one key (had_of from.output o.written (octets_sent live)) live.keyed refl stands) two
    where
      by_sides : (a b : Option KeySide)
          → DoesForKey key (had_of from.output o.written (octets_sent live)) o.written (Tick (has_sound samples))
          live.keyed reps1 a line line1 → Asks a b o'.written (AfterWrite fault) reps2 line1 line2 (Some key)
          → KeyTicked from (Some key) b live samples outs fault reps1 reps2 made line2
      by_sides None b d two = absurd d
      by_sides (Some a) b d two =
          by_last b (two key (had_of from.output o'.written (octets_sent live + 2 * length outs)) d.0.new refl
          (d.0.done, d.1))
        where
          by_last : (c : Option KeySide)
              → DoesForKey key (had_of from.output o'.written (octets_sent live + 2 * length outs)) o'.written
              (AfterWrite fault) d.0.new reps2 c line1 line2
              → KeyTicked from (Some key) c live samples outs fault reps1 reps2 made line2
          by_last None e = absurd e
          by_last (Some c) e = ticked_with key side a c stands written has d.0 d.1 e.0 e.1
