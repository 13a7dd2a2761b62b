-- The end of the loop: what is written past the last turn, or where memory was wanted.
use Rattle.tnc_record.proofs.Common.{Bool, true, false, Some, ◌≡◌, ℕ, suc, List, [], ◌++◌, refl, sym, ap, subst, inl}
use Rattle.tnc_record.proofs.Common.{inr, ◌∙◌, append-nil, HeldRecorder, StandsFor, answers_of, losses, SinkTold, Puts}
use Rattle.tnc_record.proofs.Common.{puts_puts, LoopEnd, Listening, RecordWords, IsAnswered, Turns, IsCutOff, Runs}
use Rattle.tnc_record.proofs.Common.{report_text, text_of_losses, Recording, new_recording, IsRun}
use Rattle.tnc_base.specs.Faults.{HasRisen}
use Rattle.tnc_base.specs.Streams.{WrotePart}
use Rattle.ring_recorder.specs.Recording.{sound}
use Rattle.ring_recorder.specs.Wave.{wave_of}
use Rattle.tnc_ports.specs.SampledWrites.{PutsAll, PutsPart}
use Rattle.tnc_ports.specs.declared.looping.LoopEnd.TheVariants.{Memory}
use Rattle.tnc_record.specs.RecordLoop.{AllIsWritten, PartIsWritten, TurnsAreWritten, IsLooped}
use Rattle.tnc_record.specs.RecordTurns.{lines_of}
use Rattle.tnc_record.proofs.TextLemmas.{report_append, losses_text}
use Rattle.tnc_record.proofs.TurnLemmas.{turns_more, reported_more}

-- ---- past the last turn

-- the lines of the turns and then those of the losses
pub all_reported : (len : ℕ) (held : HeldRecorder) (recording : Recording) (failed failed' : Bool) (text : List ℕ)
    (start r r' : SinkTold) → StandsFor len held → answers_of len held.reader ≡ recording.recorded
    → Puts false failed (report_text recording.lines) start r → text ≡ text_of_losses held.losses
    → Puts failed failed' text r r' → Puts false failed' (report_text (lines_of recording)) start r'
all_reported len held recording failed failed' text start r r' stands answered so_far is puts =
    let lost = losses recording.recorded in
    let whole : report_text recording.lines ++ text ≡ report_text (lines_of recording) =
    ap (λ t. report_text recording.lines ++ t)
    (is ∙ ap text_of_losses (stands.losses_are ∙ ap losses answered) ∙ losses_text lost)
    ∙ sym (report_append recording.lines _) in
    subst (λ t. Puts false failed' t start r') whole
    (puts_puts false failed failed' (report_text recording.lines) text start r r' so_far puts)

-- the sound of the recorder is that of the recording
pub same_wave : (len keep : ℕ) (held : HeldRecorder) (recording : Recording) → StandsFor len held → held.keep ≡ keep
    → answers_of len held.reader ≡ recording.recorded → wave_of held.sound ≡ wave_of (sound keep recording.recorded)
same_wave len keep held recording stands kept answered =
    ap wave_of (stands.sound_is ∙ ap (λ k. sound k (answers_of len held.reader)) kept ∙ ap (sound keep) answered)

no_part : (octets : List ℕ) (s : SinkTold) → PutsPart octets s s
no_part octets s = record { written = λ was e. ([], octets, refl, e ∙ ap Some (sym (append-nil was))) }

part_of_all : (octets : List ℕ) (x y : SinkTold) → PutsAll octets x y → PutsPart octets x y
part_of_all octets x y h = record { written = λ was e. (octets, [], sym (append-nil octets), h.written was e) }

-- the report failed
pub report_failed : (keep : ℕ) (recording : Recording) (failed : Bool) (o r r' : SinkTold) → failed ≡ true
    → Puts false failed (report_text (lines_of recording)) r r' → PartIsWritten keep recording o o r r'
report_failed keep recording failed o r r' e puts =
    let p = subst (λ f. Puts false f (report_text (lines_of recording)) r r') e puts in
    record { wave = no_part (wave_of (sound keep recording.recorded)) o; lines = p.0; failed = inr p.1 }

-- all is written
pub all_written : (keep : ℕ) (recording : Recording) (failed : Bool) (wave : List ℕ) (o o' r r' : SinkTold)
    → failed ≡ false → Puts false failed (report_text (lines_of recording)) r r'
    → wave ≡ wave_of (sound keep recording.recorded)
    → ((was : List ℕ) → o.written ≡ Some was → o'.written ≡ Some (was ++ wave)) → o'.faults ≡ o.faults
    → AllIsWritten keep recording o o' r r'
all_written keep recording failed wave o o' r r' e puts is written faultless = record {
  wave = subst (λ w. PutsAll w o o') is (record { written = written; faultless = faultless });
  lines = subst (λ f. Puts false f (report_text (lines_of recording)) r r') e puts;
}

-- the output failed
pub output_failed : (keep : ℕ) (recording : Recording) (failed : Bool) (wave : List ℕ) (o o' r r' : SinkTold)
    → failed ≡ false → Puts false failed (report_text (lines_of recording)) r r'
    → wave ≡ wave_of (sound keep recording.recorded)
    → ((was : List ℕ) → o.written ≡ Some was → WrotePart was wave o'.written) → HasRisen o.faults o'.faults
    → PartIsWritten keep recording o o' r r'
output_failed keep recording failed wave o o' r r' e puts is written risen = record {
  wave = subst (λ w. PutsPart w o o') is (record { written = written });
  lines = part_of_all (report_text (lines_of recording)) r r'
      (subst (λ f. Puts false f (report_text (lines_of recording)) r r') e puts);
  failed = inl risen;
}

-- ---- where memory was wanted

turns_written : (recording : Recording) (failed : Bool) (o o' r r' : SinkTold) → o' ≡ o
    → Puts false failed (report_text recording.lines) r r' → TurnsAreWritten recording o o' r r'
turns_written recording true o o' r r' same puts = record { no_wave = same; lines = inr puts }
turns_written recording false o o' r r' same puts = record { no_wave = same; lines = inl puts }

-- a turn was cut short
pub loop_cut : (words : RecordWords) (before after : Listening) (len : ℕ) (o o' start s s' : SinkTold) → o' ≡ o
    → (h : Runs words before len start s) → IsCutOff words before after len h.recording s s'
    → (recording : Recording) × IsAnswered len after recording × IsLooped words Memory recording o o' start s'
loop_cut words before after len o o' start s s' same h cut = (
  cut.next,
  cut.answered,
  (
    inr (record { count = h.count; last = h.recording; turns = h.turns; cut = cut.cut }),
    turns_written cut.next after.failed o o' start s' same
        (reported_more before.failed after.failed h.recording cut.next start s s' h.writes cut.writes),
  ),
)

-- the last turn was made
pub record RanOver (words : RecordWords) (after : Listening) (len : ℕ) (start s : SinkTold) : Type 0 where
  pub recording : Recording
  pub run : IsRun words.sensitive recording
  pub answered : IsAnswered len after recording
  pub keep : after.recorder.keep ≡ words.keep
  pub writes : Puts false after.failed (report_text recording.lines) start s

pub ran_over : (words : RecordWords) (ended : Bool) (before after : Listening) (len : ℕ) (start s s' : SinkTold)
    (h : Runs words before len start s) → Turns words ended before after len h.recording s s' → ended ≡ true
    → RanOver words after len start s'
ran_over words ended before after len start s s' h t over = record {
  recording = t.next;
  run = record {
    count = suc h.count;
    turns = turns_more words.sensitive h.count (new_recording words.sensitive) h.recording t.next h.turns h.goes_on
        t.turn;
    ended = t.over over;
  };
  answered = t.stands.answered;
  keep = t.stands.keep;
  writes = reported_more before.failed after.failed h.recording t.next start s s' h.writes t.writes;
}

-- the turns left the output as it was
pub from_output : (words : RecordWords) (end : LoopEnd) (recording : Recording) (o o' x r r' : SinkTold) → o ≡ o'
    → IsLooped words end recording o x r r' → IsLooped words end recording o' x r r'
from_output words end recording o o' x r r' same h = subst (λ s. IsLooped words end recording s x r r') same h
