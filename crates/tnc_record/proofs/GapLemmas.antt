-- The gap lines of the report are the gaps that the receiver's readers were told of.
use Rattle.tnc_record.proofs.Common.{Bool, true, false, sym, ◌∙◌, ap, subst, inl, inr, flat_map-append, append-nil}
use Rattle.tnc_record.proofs.Common.{Candidate, Got, LaneGap, lane_of, readers_wanted, GapLine, FrameLine, turn_lines}
use Rattle.tnc_record.proofs.Common.{Recording, new_recording, HearsUnlessOver, AreTurns, IsRun}
use Rattle.std.specs.Prelude.{◌≡◌, ℕ, zero, suc, ◌<◌, ◌⊎◌, List, [], ◌∷◌, ◌++◌, map, refl}
use Rattle.std.proofs.lemmas.List.{get_or-replicate}
use Rattle.slicer_bank.specs.RingTurns.{gaps_of}
use Rattle.tnc_ports.specs.ReportedGaps.{gaps_in as gaps_in_report}
use Rattle.tnc_ports.specs.Sampled.{gap_line}
use Rattle.tnc_ports.proofs.LiveGaps.{gaps_of-append, lane_gaps_first}
use Rattle.tnc_record.specs.RecordTurns.{Hears, IsCutRun, IsCutInHearing, IsCutInRecording}
use Rattle.tnc_record.specs.ToldGaps.{gap_by, gaps_in, AreAllGaps, AreFirstGaps}

-- ---- a turn

-- as a live station's report tells them
as_told : (lane : ℕ) (gaps : List LaneGap) → gaps_in lane (map GapLine gaps) ≡ gaps_in_report lane (map gap_line gaps)
as_told lane [] = refl
as_told lane (gap ∷ gaps) = ap (λ l. gap_by lane (GapLine gap) ++ l) (as_told lane gaps)

frames_tell_none : (lane : ℕ) (items : List Candidate) → gaps_in lane (map FrameLine items) ≡ []
frames_tell_none lane [] = refl
frames_tell_none lane (item ∷ items) = frames_tell_none lane items

turn_gaps : (lane : ℕ) (gaps : List LaneGap) (items : List Candidate)
    → gaps_in lane (turn_lines gaps items) ≡ gaps_in_report lane (map gap_line gaps)
turn_gaps lane gaps items =
    flat_map-append (gap_by lane) (map GapLine gaps) (map FrameLine items)
    ∙ ap (λ l. gaps_in lane (map GapLine gaps) ++ l) (frames_tell_none lane items)
    ∙ append-nil (gaps_in lane (map GapLine gaps)) ∙ as_told lane gaps

heard_gaps : (sensitive : Bool) (before after : Recording) → Hears sensitive before after → AreAllGaps sensitive before
    → AreAllGaps sensitive after
heard_gaps sensitive before after r h = subst (AreAllGaps sensitive) (sym r.is) (λ lane lt.
    flat_map-append (gap_by lane) before.lines (turn_lines r.gaps r.items)
    ∙ ap (λ gaps. gaps ++ gaps_in lane (turn_lines r.gaps r.items)) (h lane lt)
    ∙ ap (λ gaps. gaps_of lane (lane_of before.lanes lane) ++ gaps)
    (turn_gaps lane r.gaps r.items ∙ ap (λ gaps. gaps_in_report lane (map gap_line gaps)) r.turn.told
    ∙ lane_gaps_first lane r.turn.reads (subst (λ n. lane < n) (sym r.turn.longer.count_reads) lt))
    ∙ sym (ap (gaps_of lane) (r.turn.longer.each lane lt)
    ∙ gaps_of-append lane (lane_of before.lanes lane) (lane_of r.turn.reads lane)))

heard_unless_over : (over sensitive : Bool) (before after : Recording) → HearsUnlessOver over sensitive before after
    → AreAllGaps sensitive before → AreAllGaps sensitive after
heard_unless_over true sensitive before after same h = subst (AreAllGaps sensitive) (sym same) h
heard_unless_over false sensitive before after r h = heard_gaps sensitive before after r h

recorded_gaps : (sensitive : Bool) (before after : Recording) (reads : List Got)
    → after ≡ record before { recorded = before.recorded ++ reads } → AreAllGaps sensitive before
    → AreAllGaps sensitive after
recorded_gaps sensitive before after reads is h = subst (AreAllGaps sensitive) (sym is) h

-- ---- all turns

turns_gaps : (sensitive : Bool) (count : ℕ) (before after : Recording) → AreTurns sensitive count before after
    → AreAllGaps sensitive before → AreAllGaps sensitive after
turns_gaps sensitive zero before after same h = subst (AreAllGaps sensitive) (sym same) h
turns_gaps sensitive (suc count) before after (between, on, turn, rest) h =
    turns_gaps sensitive count between after rest
    (recorded_gaps sensitive turn.heard between turn.records.reads turn.records.is
    (heard_unless_over before.over sensitive before turn.heard turn.hears h))

no_gaps : (sensitive : Bool) → AreAllGaps sensitive (new_recording sensitive)
no_gaps sensitive = λ lane lt. sym (ap (gaps_of lane) (get_or-replicate (readers_wanted sensitive) lane [] [] lt))

pub run_gaps : (sensitive : Bool) (recording : Recording) → IsRun sensitive recording → AreAllGaps sensitive recording
run_gaps sensitive recording run =
    turns_gaps sensitive run.count (new_recording sensitive) recording run.turns (no_gaps sensitive)

all_are_first : (sensitive : Bool) (recording : Recording) → AreAllGaps sensitive recording
    → AreFirstGaps sensitive recording
all_are_first sensitive recording h =
    λ lane lt. ([], sym (h lane lt) ∙ sym (append-nil (gaps_in lane recording.lines)))

cut_gaps : (sensitive : Bool) (last recording : Recording) → AreAllGaps sensitive last
    → IsCutInHearing sensitive last recording ⊎ IsCutInRecording sensitive last recording
    → AreFirstGaps sensitive recording
cut_gaps sensitive last recording h (inl cut) = subst (AreFirstGaps sensitive) (sym cut.is) (λ lane lt.
    let more = cut.more lane lt in (
      gaps_of lane more.0,
      ap (gaps_of lane) more.1 ∙ gaps_of-append lane (lane_of last.lanes lane) more.0
          ∙ ap (λ gaps. gaps ++ gaps_of lane more.0) (sym (h lane lt)),
    ))
cut_gaps sensitive last recording h (inr cut) =
    all_are_first sensitive recording (recorded_gaps sensitive cut.heard recording cut.reads cut.is
    (heard_unless_over last.over sensitive last cut.heard cut.hears h))

pub cut_run_gaps : (sensitive : Bool) (recording : Recording) → IsCutRun sensitive recording
    → AreFirstGaps sensitive recording
cut_run_gaps sensitive recording run =
    cut_gaps sensitive run.last recording
    (turns_gaps sensitive run.count (new_recording sensitive) run.last run.turns (no_gaps sensitive)) run.cut
