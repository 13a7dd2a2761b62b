-- What the key was told of writes that failed: it stays told, and nothing else tells it.
use Rattle.std.proofs.Common.{◌≡◌, ℕ, List, [], ◌∷◌, ◌++◌, refl, ap, ◌∙◌}
use Rattle.std.specs.Prelude.{Bool, true, false, if◌then◌else◌, ◌==◌, ◌&&◌, not, length, Option, Some, None}
use Rattle.std.proofs.lemmas.Bool.{true≢false}
use Rattle.keying.specs.declared.machine.Words.{Words}
use Rattle.keying.specs.Calls.{Call, called, heard, by_rule}
use Rattle.keying.specs.Calls.Call.{Turn, AfterTry, Tick, AfterWrite, CommandFailed, Release}
use Rattle.keying.specs.Key.{Key, free, key_of}
use Rattle.keying.specs.Keyed.{failed}
use Rattle.keying.specs.Marks.{Mark}
use Rattle.keying.specs.Marks.Mark.{Turned, Tried, Opened, Keyed, Released, Heard, Accepted, Readied, Lost, Ticked, Cut}
use Rattle.keying.specs.Marks.Mark.{WriteFault, Ends}
use Rattle.keying.specs.declared.answer.Answer.{Answer}
use Rattle.keying.specs.declared.answer.Answer.TheVariants.{Accepts, Refuses, Unclear}
use Rattle.keying.specs.declared.line.End.{End}
use Rattle.keying.specs.declared.line.End.TheVariants.{Closed, Fault}
use Rattle.keying.specs.declared.line.Phase.{Phase}
use Rattle.keying.specs.declared.line.Phase.TheVariants.{Down, Opening, Up}
use Rattle.keying.specs.declared.line.Try.{Try}
use Rattle.keying.specs.declared.line.Try.TheVariants.{Refused as NoLine, NotYet, Written}
use Rattle.keying.specs.declared.report.OffWhy.TheVariants.{Limit, Sound}
use Rattle.keying.specs.declared.report.Why.TheVariants.{Refused, Answer as NoAnswer, Silent}
use Rattle.keying.specs.Answers.{answer_of}
use Rattle.keying.specs.Calls.{read, listened}
use Rattle.keying.specs.Keyed.{ticks, wanted}
use Rattle.keying.specs.Rules.{octet_marks, octet_marks_in, line_marks, answer_marks, accept_marks, end_marks}
use Rattle.keying.specs.Rules.{end_marks_in, silence_marks, try_marks, try_marks_in, stall_marks, tick_marks}
use Rattle.keying.specs.Rules.{closing_marks, is_at_limit, written_marks}

before_marks : (marks past : List Mark) → failed (marks ++ past) ≡ false → failed past ≡ false
before_marks [] past h = h
before_marks (Turned now ∷ marks) past h = before_marks marks past h
before_marks (Tried ∷ marks) past h = before_marks marks past h
before_marks (Opened ∷ marks) past h = before_marks marks past h
before_marks (Keyed ∷ marks) past h = before_marks marks past h
before_marks (Released ∷ marks) past h = before_marks marks past h
before_marks (Heard octet ∷ marks) past h = before_marks marks past h
before_marks (Accepted ∷ marks) past h = before_marks marks past h
before_marks (Readied ∷ marks) past h = before_marks marks past h
before_marks (Lost why ∷ marks) past h = before_marks marks past h
before_marks (Ticked sounds ∷ marks) past h = before_marks marks past h
before_marks (Cut why ∷ marks) past h = before_marks marks past h
before_marks (WriteFault ∷ marks) past h = absurd (true≢false h)
before_marks (Ends ∷ marks) past h = before_marks marks past h

before_octets : (words : Words) (octets : List ℕ) (past : List Mark) → failed (heard words octets past) ≡ false
    → failed past ≡ false
before_octets words [] past h = h
before_octets words (octet ∷ octets) past h =
    before_marks (octet_marks octet (key_of words past)) past
    (before_octets words octets (by_rule words (octet_marks octet) past) h)

before_rule : (words : Words) (rule : Key → List Mark) (past : List Mark) → failed (by_rule words rule past) ≡ false
    → failed past ≡ false
before_rule words rule past h = before_marks (rule (key_of words past)) past h

before_read : (words : Words) (now : ℕ) (octets : List ℕ) (end : Option End) (past : List Mark)
    → failed (read words now octets end past) ≡ false → failed past ≡ false
before_read words now octets end past h =
    before_octets words octets (Turned now ∷ past)
    (before_rule words (end_marks end) (heard words octets (Turned now ∷ past)) h)

pub before_call : (words : Words) (call : Call) (past : List Mark) → failed (called words call past) ≡ false
    → failed past ≡ false
before_call words (Turn now octets end) past h =
    before_read words now octets end past
    (before_rule words silence_marks (read words now octets end past)
    (before_rule words stall_marks (listened words now octets end past) h))
before_call words (AfterTry how) past h = before_rule words (try_marks how) past h
before_call words (Tick sounds) past h =
    before_rule words (tick_marks sounds (wanted words.tail (sounds ∷ ticks past))) past h
before_call words (AfterWrite fault) past h = before_rule words (written_marks fault) past h
before_call words CommandFailed past h = before_rule words (end_marks (Some Fault)) past h
before_call words (Release now octets end) past h =
    before_read words now octets end past
    (before_rule words closing_marks (read words now octets end past) h)

by_on : (on : Bool) (past : List Mark)
    → failed ((if on then WriteFault ∷ Released ∷ [] else WriteFault ∷ []) ++ past) ≡ false → ⊥
by_on true past h = true≢false h
by_on false past h = true≢false h

-- after it was told of a write that failed, it says so
pub told_failure : (words : Words) (fault : Bool) (past : List Mark)
    → failed (called words (AfterWrite fault) past) ≡ false → fault ≡ false
told_failure words false past h = refl
told_failure words true past h = absurd (by_on (key_of words past).on past h)

-- ---- nothing but a write that failed is told as one

same_with : (marks past : List Mark) → failed marks ≡ false → failed (marks ++ past) ≡ failed past
same_with [] past h = refl
same_with (Turned now ∷ marks) past h = same_with marks past h
same_with (Tried ∷ marks) past h = same_with marks past h
same_with (Opened ∷ marks) past h = same_with marks past h
same_with (Keyed ∷ marks) past h = same_with marks past h
same_with (Released ∷ marks) past h = same_with marks past h
same_with (Heard octet ∷ marks) past h = same_with marks past h
same_with (Accepted ∷ marks) past h = same_with marks past h
same_with (Readied ∷ marks) past h = same_with marks past h
same_with (Lost why ∷ marks) past h = same_with marks past h
same_with (Ticked sounds ∷ marks) past h = same_with marks past h
same_with (Cut why ∷ marks) past h = same_with marks past h
same_with (WriteFault ∷ marks) past h = absurd (true≢false h)
same_with (Ends ∷ marks) past h = same_with marks past h

either : (b : Bool) (x y : List Mark) → failed x ≡ false → failed y ≡ false → failed (if b then x else y) ≡ false
either true x y a b = a
either false x y a b = b

no_answer_fault : (answer : Answer) (key : Key) → failed (answer_marks answer key) ≡ false
no_answer_fault Unclear key = either _ (Lost NoAnswer ∷ []) (Lost NoAnswer ∷ []) refl refl
no_answer_fault (Refuses number) key = either _ (Lost NoAnswer ∷ []) (Lost (Refused number) ∷ []) refl refl
no_answer_fault Accepts key = either _ (Lost NoAnswer ∷ []) (accept_marks key) refl
    (either _ (Accepted ∷ Readied ∷ []) (Accepted ∷ []) refl refl)

no_line_fault : (octet : ℕ) (key : Key) → failed (line_marks octet key) ≡ false
no_line_fault octet key =
    either (octet == 10) (answer_marks (answer_of key.part) key ++ Heard octet ∷ [])
    (if length key.part == 63 then Lost NoAnswer ∷ [] else Heard octet ∷ [])
    (same_with (answer_marks (answer_of key.part) key) (Heard octet ∷ []) (no_answer_fault (answer_of key.part) key))
    (either (length key.part == 63) (Lost NoAnswer ∷ []) (Heard octet ∷ []) refl refl)

no_octet_fault : (phase : Phase) (octet : ℕ) (key : Key) → failed (octet_marks_in phase octet key) ≡ false
no_octet_fault Down octet key = refl
no_octet_fault Opening octet key = refl
no_octet_fault Up octet key = no_line_fault octet key

no_end_fault : (phase : Phase) (end : Option End) (key : Key) → key.phase ≡ phase → failed (end_marks end key) ≡ false
no_end_fault phase None key e = refl
no_end_fault phase (Some end) key e =
    ap (λ (p : Phase). failed (end_marks_in p end)) e ∙ by_phase phase end
  where
    by_phase : (p : Phase) (end : End) → failed (end_marks_in p end) ≡ false
    by_phase Down end = refl
    by_phase Opening end = refl
    by_phase Up Closed = refl
    by_phase Up Fault = refl

no_try_fault : (phase : Phase) (how : Try) (key : Key) → key.phase ≡ phase → failed (try_marks how key) ≡ false
no_try_fault phase how key e = ap (λ (p : Phase). failed (try_marks_in p how)) e ∙ by_phase phase how
  where
    by_phase : (p : Phase) (how : Try) → failed (try_marks_in p how) ≡ false
    by_phase Down NoLine = refl
    by_phase Down NotYet = refl
    by_phase Down Written = refl
    by_phase Opening NoLine = refl
    by_phase Opening NotYet = refl
    by_phase Opening Written = refl
    by_phase Up how = refl

octets_same : (words : Words) (octets : List ℕ) (past : List Mark) → failed (heard words octets past) ≡ failed past
octets_same words [] past = refl
octets_same words (octet ∷ octets) past =
    octets_same words octets (by_rule words (octet_marks octet) past)
    ∙ same_with (octet_marks octet (key_of words past)) past
    (no_octet_fault (key_of words past).phase octet (key_of words past))

read_same : (words : Words) (now : ℕ) (octets : List ℕ) (end : Option End) (past : List Mark)
    → failed (read words now octets end past) ≡ failed past
read_same words now octets end past =
    let came = heard words octets (Turned now ∷ past) in
    same_with (end_marks end (key_of words came)) came
    (no_end_fault (key_of words came).phase end (key_of words came) refl)
    ∙ octets_same words octets (Turned now ∷ past)

rule_same : (words : Words) (rule : Key → List Mark) (past : List Mark) → failed (rule (key_of words past)) ≡ false
    → failed (by_rule words rule past) ≡ failed past
rule_same words rule past h = same_with (rule (key_of words past)) past h

-- the calls of a turn and of a tick's beginning
pub turned_same : (words : Words) (now : ℕ) (octets : List ℕ) (end : Option End) (past : List Mark)
    → failed (called words (Turn now octets end) past) ≡ failed past
turned_same words now octets end past =
    rule_same words stall_marks (listened words now octets end past)
    (either _ (Cut Sound ∷ Released ∷ []) [] refl refl)
    ∙ rule_same words silence_marks (read words now octets end past) (either _ (Lost Silent ∷ []) [] refl refl)
    ∙ read_same words now octets end past

pub ticked_same : (words : Words) (sounds : Bool) (past : List Mark)
    → failed (called words (Tick sounds) past) ≡ failed past
ticked_same words sounds past =
    let key = key_of words past in
    let wants = wanted words.tail (sounds ∷ ticks past) in
    rule_same words (tick_marks sounds wants) past
    (either (free key && sounds) (Keyed ∷ [])
    (if is_at_limit key then Cut Limit ∷ Released ∷ [] else if key.on && not wants then Released ∷ [] else []) refl
    (either (is_at_limit key) (Cut Limit ∷ Released ∷ []) (if key.on && not wants then Released ∷ [] else []) refl
    (either (key.on && not wants) (Released ∷ []) [] refl refl)))

pub written_same : (words : Words) (fault : Bool) (past : List Mark) → fault ≡ false
    → failed (called words (AfterWrite fault) past) ≡ failed past
written_same words false past none = refl
written_same words true past none = absurd (true≢false none)

pub tried_same : (words : Words) (how : Try) (past : List Mark)
    → failed (called words (AfterTry how) past) ≡ failed past
tried_same words how past = rule_same words (try_marks how) past (no_try_fault (key_of words past).phase how
    (key_of words past) refl)

pub command_failed_same : (words : Words) (past : List Mark) → failed (called words CommandFailed past) ≡ failed past
command_failed_same words past = rule_same words (end_marks (Some Fault)) past
    (no_end_fault (key_of words past).phase (Some Fault) (key_of words past) refl)
