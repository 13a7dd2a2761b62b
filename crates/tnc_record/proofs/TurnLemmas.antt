-- One turn of a recording, and all turns so far.
use Rattle.tnc_record.proofs.Common.{Bool, true, false, Result, Ok, Err, ◌&&◌, ◌≡◌, ℕ, suc, ◌<◌, ◌≤◌, List, [], ◌++◌}
use Rattle.tnc_record.proofs.Common.{map, take, length, refl, inl, inr, ◌∙◌, sym, ap, subst, arith, false≢true}
use Rattle.tnc_record.proofs.Common.{append-nil, map-append, Candidate, Got, Entry, reads_of, answer, LaneGap, lane_of}
use Rattle.tnc_record.proofs.Common.{readers_wanted, HeldRecorder, StandsFor, answers_of, has_ended, SinkTold, Puts}
use Rattle.tnc_record.proofs.Common.{puts_puts, Listening, RecordWords, IsAnswered, Turns, IsCutOff, Runs, report_text}
use Rattle.tnc_record.proofs.Common.{turn_lines, Recording, new_recording, HearsUnlessOver, AreTurns}
use Rattle.std.specs.Prelude.{OnErr}
use Rattle.std.proofs.Common.{zero, get_or, Some}
use Rattle.std.proofs.lemmas.List.{take_all, get_or-take}
use Rattle.ring_receiver.specs.HeardByAll.{AreDueBy}
use Rattle.ring_receiver.specs.HeldReceiver.{records_in, answers_in, Hears as HearsSoFar}
use Rattle.ring_receiver.specs.Turns.{IsTurnOf, AreGrownBy}
use Rattle.ring_recorder.specs.Turns.{IsTurn as IsRecorderTurn}
use Rattle.live_receiver.specs.declared.receiver.LiveReceiver.TheVariants.{Bell202}
use Rattle.tnc_ports.proofs.LiveReads.{lane_answers, nothing_read}
use Rattle.tnc_record.specs.HeldListening.{StandsForRecording, ReportsMore, HearsMore, StopsHearing}
use Rattle.tnc_record.specs.RecordTurns.{HasEnded, IsTurn}
use Rattle.tnc_record.proofs.TextLemmas.{report_append}

pub on_err : {T E P : Type 0} (r : Result T E) → P → OnErr r P
on_err (Ok v) p = tt
on_err (Err e) p = p

-- ---- what is reported

puts_none : (failed : Bool) (s : SinkTold) → Puts failed failed [] s s
puts_none true s = (refl, refl)
puts_none false s = record { written = λ was e. e ∙ ap Some (sym (append-nil was)); faultless = refl }

no_report : (failed : Bool) (recording after : Recording) (s : SinkTold) → after.lines ≡ recording.lines
    → ReportsMore failed failed recording after s s
no_report failed recording after s same = record {
  lines = [];
  more = same ∙ sym (append-nil recording.lines);
  puts = puts_none failed s;
}

-- ---- the receiver

-- so many readers are nine at most
nine : (sensitive : Bool) → readers_wanted sensitive ≤ 9
nine false = omega arith
nine true = omega arith

pub at_most_nine : (sensitive : Bool) (lanes : List (List Got)) → length lanes ≡ readers_wanted sensitive
    → take 9 lanes ≡ lanes
at_most_nine sensitive lanes many = take_all 9 lanes (let most = nine sensitive in omega arith)

-- a turn of the receiver, and the frames that are due
abbrev HeardAs : Bool → Bool → List LaneGap → List Candidate → List (List Got) → List (List Got) → Type 0
HeardAs sensitive ended gaps items old now =
    IsTurnOf (readers_wanted sensitive) old now gaps ended × AreDueBy sensitive ended old now items

pub hears_on : (words : RecordWords) (before after : Listening) (len : ℕ) (recording : Recording) (ended : Bool)
    (gaps : List LaneGap) (items : List Candidate) (text : List ℕ) (s s' : SinkTold)
    → StandsForRecording words len before recording → before.over ≡ false
    → IsTurnOf (readers_wanted before.receiver.sensitive) (answers_in len before.receiver)
    (answers_in len after.receiver) gaps ended
    → (HearsSoFar len before.receiver → AreDueBy before.receiver.sensitive ended (answers_in len before.receiver)
    (answers_in len after.receiver) items)
    → (ended ≡ false → HearsSoFar len before.receiver → HearsSoFar len after.receiver)
    → after.receiver.sensitive ≡ before.receiver.sensitive
    → after.recorder ≡ before.recorder → after.over ≡ ended
    → text ≡ report_text (turn_lines gaps items) → Puts before.failed after.failed text s s'
    → HearsMore words before after len recording s s'
hears_on words before after len recording ended gaps items text s s' stands off turn due hears sensitive same over is
    puts =
    let now = answers_in len after.receiver in
    let so_far = stands.hears off in
    let heard_by : HeardAs words.sensitive ended gaps items (answers_in len before.receiver) now =
    subst (λ b. HeardAs b ended gaps items (answers_in len before.receiver) now) stands.sensitive
    (turn, due so_far) in
    let heard : HeardAs words.sensitive ended gaps items recording.lanes now =
    subst (λ l. HeardAs words.sensitive ended gaps items l now) stands.all_lanes heard_by in
    let lines = turn_lines gaps items in
    let next : Recording = record recording { lanes = now; over = ended; lines = recording.lines ++ lines } in
    record {
      next = next;
      hears = subst (λ o. HearsUnlessOver o words.sensitive recording next) (sym (sym stands.over ∙ off)) (record {
        lanes = now;
        gaps = gaps;
        items = items;
        ended = ended;
        turn = heard.0;
        due = heard.1;
        is = refl;
      });
      stands = record {
        answered = record {
          lanes = at_most_nine words.sensitive now heard.0.longer.count_now;
          recorded = ap (λ r. answers_of len r.reader) same ∙ stands.answered.recorded;
          stands = subst (StandsFor len) (sym same) stands.answered.stands;
        };
        all_lanes = refl;
        over = over;
        hears = λ e. hears (sym over ∙ e) so_far;
        sensitive = sensitive ∙ stands.sensitive;
        keep = ap (λ r. r.keep) same ∙ stands.keep;
      };
      writes = record {
        lines = lines;
        more = refl;
        puts = subst (λ t. Puts before.failed after.failed t s s') is puts;
      };
    }

-- the receiver's readers read on, and nothing was reported
pub stops_hearing : (words : RecordWords) (before after : Listening) (len : ℕ) (recording : Recording) (s : SinkTold)
    → StandsForRecording words len before recording
    → AreGrownBy (readers_wanted before.receiver.sensitive) (records_in before.receiver) (records_in after.receiver)
    → after.recorder ≡ before.recorder → after.failed ≡ before.failed
    → StopsHearing words before after len recording s s
stops_hearing words before after len recording s stands grown same unfailed =
    let all = answers_in len after.receiver in
    let now = take 9 all in
    record {
      next = record recording { lanes = now };
      cut = record {
        lanes = now;
        more = λ lane lt.
            let g = grown lane nothing_read
            (subst (λ b. lane < readers_wanted b) (sym stands.sensitive) lt) in (
              map (answer len) g.0,
              get_or-take 9 all lane [] (let most = nine words.sensitive in omega arith)
                  ∙ lane_answers len (Bell202 after.receiver) lane ∙ ap (map (answer len)) g.1
                  ∙ map-append (answer len) (get_or (records_in before.receiver) lane nothing_read).reads g.0
                  ∙ ap (λ xs. xs ++ map (answer len) g.0) (sym (lane_answers len (Bell202 before.receiver) lane)
                  ∙ ap (λ xs. lane_of xs lane) stands.all_lanes),
            );
        is = refl;
      };
      answered = record {
        lanes = refl;
        recorded = ap (λ r. answers_of len r.reader) same ∙ stands.answered.recorded;
        stands = subst (StandsFor len) (sym same) stands.answered.stands;
      };
      unwritten = (refl, unfailed);
    }

-- ---- the recorder

-- so the recorder read on
pub record ReadOn (len : ℕ) (before after : HeldRecorder) : Type 0 where
  pub reads : List Entry
  pub are : reads_of after.reader ≡ reads_of before.reader ++ reads
  pub keep : after.keep ≡ before.keep
  pub stands : StandsFor len before → StandsFor len after

answered_more : (len : ℕ) (before after : HeldRecorder) (recorded : List Got) (h : ReadOn len before after)
    → answers_of len before.reader ≡ recorded
    → answers_of len after.reader ≡ recorded ++ map (answer len) h.reads
answered_more len before after recorded h is =
    ap (map (answer len)) h.are ∙ map-append (answer len) (reads_of before.reader) h.reads
    ∙ ap (λ a. a ++ map (answer len) h.reads) is

is_answered_more : (len : ℕ) (mid after : Listening) (next : Recording) (h : ReadOn len mid.recorder after.recorder)
    → IsAnswered len mid next → after.receiver ≡ mid.receiver
    → IsAnswered len after (record next { recorded = next.recorded ++ map (answer len) h.reads })
is_answered_more len mid after next h answered same = record {
  lanes = ap (λ r. take 9 (answers_in len r)) same ∙ answered.lanes;
  recorded = answered_more len mid.recorder after.recorder next.recorded h answered.recorded;
  stands = h.stands answered.stands;
}

both_true : (a b : Bool) → (a && b) ≡ true → (a ≡ true) × (b ≡ true)
both_true true b e = (refl, e)
both_true false b e = absurd (false≢true e)

not_both : (a b : Bool) → (a && b) ≡ false → a ≡ true → b ≡ true → ⊥
not_both true b e x y = false≢true (sym e ∙ y)
not_both false b e x y = false≢true x

-- a whole turn: the receiver's part and then the recorder's
pub turned : (words : RecordWords) (ended : Bool) (before mid after : Listening) (len : ℕ) (recording : Recording)
    (s s' : SinkTold) → HearsMore words before mid len recording s s'
    → (h : ReadOn len mid.recorder after.recorder) → IsRecorderTurn (map (answer len) h.reads)
    → after.receiver ≡ mid.receiver → after.over ≡ mid.over → after.failed ≡ mid.failed
    → ended ≡ (after.over && after.recorder.ended)
    → Turns words ended before after len recording s s'
turned words ended before mid after len recording s s' heard h turn same over failed is =
    let reads : List Got = map (answer len) h.reads in
    let next : Recording = record heard.next { recorded = heard.next.recorded ++ reads } in
    let answered : IsAnswered len after next =
    is_answered_more len mid after heard.next h heard.stands.answered same in
    let is_over : after.over ≡ next.over = over ∙ heard.stands.over in
    let met : after.recorder.ended ≡ has_ended next.recorded =
    answered.stands.ended_is ∙ ap has_ended answered.recorded in
    record {
      next = next;
      turn = record {
        heard = heard.next;
        hears = heard.hears;
        records = record { reads = reads; turn = turn; is = refl };
      };
      stands = record {
        answered = answered;
        all_lanes = ap (answers_in len) same ∙ heard.stands.all_lanes;
        over = is_over;
        hears = λ e. subst (HearsSoFar len) (sym same) (heard.stands.hears (sym over ∙ e));
        sensitive = ap (λ r. r.sensitive) same ∙ heard.stands.sensitive;
        keep = h.keep ∙ heard.stands.keep;
      };
      writes = record {
        lines = heard.writes.lines;
        more = heard.writes.more;
        puts = subst (λ f. Puts before.failed f (report_text heard.writes.lines) s s') (sym failed) heard.writes.puts;
      };
      over = λ e.
          let both = both_true after.over after.recorder.ended (sym is ∙ e) in
          (sym is_over ∙ both.0, sym met ∙ both.1);
      goes_on = λ e all.
          not_both after.over after.recorder.ended (sym is ∙ e) (is_over ∙ all.0) (met ∙ all.1);
    }

-- the recorder's part is cut short
pub cut_in_recording : (words : RecordWords) (before mid after : Listening) (len : ℕ) (recording : Recording)
    (s s' : SinkTold) → HearsMore words before mid len recording s s' → ReadOn len mid.recorder after.recorder
    → after.receiver ≡ mid.receiver → after.failed ≡ mid.failed
    → IsCutOff words before after len recording s s'
cut_in_recording words before mid after len recording s s' heard h same failed =
    let reads : List Got = map (answer len) h.reads in
    record {
      next = record heard.next { recorded = heard.next.recorded ++ reads };
      cut = inr (record { heard = heard.next; hears = heard.hears; reads = reads; is = refl });
      answered = is_answered_more len mid after heard.next h heard.stands.answered same;
      writes = record {
        lines = heard.writes.lines;
        more = heard.writes.more;
        puts = subst (λ f. Puts before.failed f (report_text heard.writes.lines) s s') (sym failed) heard.writes.puts;
      };
    }

-- and so is the receiver's
pub cut_in_hearing : (words : RecordWords) (before after : Listening) (len : ℕ) (recording : Recording)
    (s s' : SinkTold)
    → StopsHearing words before after len recording s s' → IsCutOff words before after len recording s s'
cut_in_hearing words before after len recording s s' stops = record {
  next = stops.next;
  cut = inl stops.cut;
  answered = stops.answered;
  writes = subst (λ x. ReportsMore before.failed after.failed recording stops.next s x) (sym stops.unwritten.0)
      (subst (λ f. ReportsMore before.failed f recording stops.next s s) (sym stops.unwritten.1)
      (no_report before.failed recording stops.next s (ap (λ r. r.lines) stops.cut.is)));
}

-- ---- all turns

pub turns_more : (sensitive : Bool) (count : ℕ) (first last next : Recording) → AreTurns sensitive count first last
    → ¬ HasEnded last → IsTurn sensitive last next → AreTurns sensitive (suc count) first next
turns_more sensitive zero first last next same on turn =
    (next, subst (λ r. ¬ HasEnded r) same on, subst (λ r. IsTurn sensitive r next) same turn, refl)
turns_more sensitive (suc count) first last next turns on turn =
    (turns.0, turns.1, turns.2, turns_more sensitive count turns.0 last next turns.3 on turn)

-- all that was reported, and what a turn reports
pub reported_more : (failed failed' : Bool) (before after : Recording) (start s s' : SinkTold)
    → Puts false failed (report_text before.lines) start s → ReportsMore failed failed' before after s s'
    → Puts false failed' (report_text after.lines) start s'
reported_more failed failed' before after start s s' so_far more =
    subst (λ t. Puts false failed' t start s')
    (sym (ap report_text more.more ∙ report_append before.lines more.lines))
    (puts_puts false failed failed' (report_text before.lines) (report_text more.lines) start s s' so_far more.puts)

-- a turn more, after which the run goes on
pub runs_more : (words : RecordWords) (ended : Bool) (before after : Listening) (len : ℕ) (start s s' : SinkTold)
    (h : Runs words before len start s) → Turns words ended before after len h.recording s s' → ended ≡ false
    → Runs words after len start s'
runs_more words ended before after len start s s' h t on = record {
  count = suc h.count;
  recording = t.next;
  turns = turns_more words.sensitive h.count
      (new_recording words.sensitive) h.recording t.next h.turns h.goes_on t.turn;
  goes_on = t.goes_on on;
  stands = t.stands;
  writes = reported_more before.failed after.failed h.recording t.next start s s' h.writes t.writes;
}
