-- What the rules of reading add to a history: a connection stays as it is, with its commands, or it is lost.
use Rattle.std.proofs.Common.{◌≡◌, ℕ, List, [], ◌∷◌, ◌++◌, length, refl, ◌∙◌, inl, inr, ◌⊎◌}
use Rattle.std.proofs.lemmas.Bool.{cond_both}
use Rattle.std.specs.Prelude.{not, ◌==◌, ◌&&◌, Option, Some, None}
use Rattle.keying.specs.declared.answer.Answer.{Answer}
use Rattle.keying.specs.declared.answer.Answer.TheVariants.{Accepts, Refuses, Unclear}
use Rattle.keying.specs.declared.line.End.{End}
use Rattle.keying.specs.declared.line.End.TheVariants.{Closed, Fault}
use Rattle.keying.specs.declared.line.Phase.{Phase}
use Rattle.keying.specs.declared.line.Phase.TheVariants.{Down, Opening, Up}
use Rattle.keying.specs.declared.machine.Words.{Words}
use Rattle.keying.specs.Answers.{answer_of}
use Rattle.keying.specs.Calls.{by_rule, heard, read, listened}
use Rattle.keying.specs.Key.{Key, key_of}
use Rattle.keying.specs.Keyed.{on}
use Rattle.keying.specs.Laws.{commands, newest_keys}
use Rattle.keying.specs.Line.{phase}
use Rattle.keying.specs.Marks.{Mark}
use Rattle.keying.specs.Marks.Mark.{Tried, Opened, Keyed, Released, Turned, Heard, Accepted, Readied, Lost}
use Rattle.keying.specs.Marks.Mark.{Ticked, Cut, WriteFault, Ends}
use Rattle.keying.specs.Rules.{settles, accept_marks, due_marks, answer_marks, line_marks, octet_marks_in, octet_marks}
use Rattle.keying.specs.Rules.{end_marks_in, end_marks, silence_marks, is_overdue}

-- the key is on exactly if the newest command keys
pub newest_on : (past : List Mark) → newest_keys (commands past) ≡ on past
newest_on [] = refl
newest_on (Turned now ∷ past) = newest_on past
newest_on (Tried ∷ past) = refl
newest_on (Opened ∷ past) = refl
newest_on (Keyed ∷ past) = refl
newest_on (Released ∷ past) = refl
newest_on (Heard octet ∷ past) = newest_on past
newest_on (Accepted ∷ past) = newest_on past
newest_on (Readied ∷ past) = newest_on past
newest_on (Lost why ∷ past) = refl
newest_on (Ticked sounds ∷ past) = newest_on past
newest_on (Cut why ∷ past) = newest_on past
newest_on (WriteFault ∷ past) = newest_on past
newest_on (Ends ∷ past) = newest_on past

-- a mark that begins no connection and is no command
abbrev pub IsQuiet : Mark → Type 0
IsQuiet Tried = ⊥
IsQuiet Opened = ⊥
IsQuiet Keyed = ⊥
IsQuiet Released = ⊥
IsQuiet _ = Unit {0}

abbrev pub AllQuiet : List Mark → Type 0
AllQuiet [] = Unit {0}
AllQuiet (mark ∷ marks) = IsQuiet mark × AllQuiet marks

-- the connection is lost, or it stands as it stood, with the same commands
abbrev pub Level : List Mark → List Mark → Type 0
Level past new = ((phase new ≡ Down) × (commands new ≡ []))
    ⊎ ((phase new ≡ phase past) × (commands new ≡ commands past))

level_mark : (mark : Mark) (past : List Mark) → IsQuiet mark → Level past (mark ∷ past)
level_mark (Turned now) past is = inr (refl, refl)
level_mark Tried past is = absurd is
level_mark Opened past is = absurd is
level_mark Keyed past is = absurd is
level_mark Released past is = absurd is
level_mark (Heard octet) past is = inr (refl, refl)
level_mark Accepted past is = inr (refl, refl)
level_mark Readied past is = inr (refl, refl)
level_mark (Lost why) past is = inl (refl, refl)
level_mark (Ticked sounds) past is = inr (refl, refl)
level_mark (Cut why) past is = inr (refl, refl)
level_mark WriteFault past is = inr (refl, refl)
level_mark Ends past is = inr (refl, refl)

pub level_along : (first second third : List Mark) → Level first second → Level second third → Level first third
level_along first second third a b =
    elim b [
      | inl gone ↦ inl gone
      | inr same ↦ elim a [
        | inl gone ↦ inl (same.0 ∙ gone.0, same.1 ∙ gone.1)
        | inr before ↦ inr (same.0 ∙ before.0, same.1 ∙ before.1)
      ]
    ]

level_all : (marks past : List Mark) → AllQuiet marks → Level past (marks ++ past)
level_all [] past is = inr (refl, refl)
level_all (mark ∷ marks) past is =
    level_along past (marks ++ past) (mark ∷ marks ++ past) (level_all marks past is.1)
    (level_mark mark (marks ++ past) is.0)

quiet_append : (first second : List Mark) → AllQuiet first → AllQuiet second → AllQuiet (first ++ second)
quiet_append [] second a b = b
quiet_append (mark ∷ first) second a b = (a.0, quiet_append first second a.1 b)

-- ---- the rules of reading

quiet_accept : (key : Key) → AllQuiet (accept_marks key)
quiet_accept key =
    cond_both (settles key && not key.ready) _ _ AllQuiet (λ _. (tt, (tt, tt))) (λ _. (tt, tt))

quiet_due : (answer : Answer) (key : Key) → AllQuiet (due_marks answer key)
quiet_due Unclear key = (tt, tt)
quiet_due (Refuses number) key = (tt, tt)
quiet_due Accepts key = quiet_accept key

quiet_answer : (answer : Answer) (key : Key) → AllQuiet (answer_marks answer key)
quiet_answer answer key =
    cond_both (length key.waiting == 0) _ _ AllQuiet (λ _. (tt, tt)) (λ _. quiet_due answer key)

quiet_line : (octet : ℕ) (key : Key) → AllQuiet (line_marks octet key)
quiet_line octet key =
    cond_both (octet == 10) _ _ AllQuiet
    (λ _. quiet_append (answer_marks (answer_of key.part) key) (Heard octet ∷ [])
    (quiet_answer (answer_of key.part) key) (tt, tt))
    (λ _. cond_both (length key.part == 63) _ _ AllQuiet (λ _. (tt, tt)) (λ _. (tt, tt)))

quiet_octet : (p : Phase) (octet : ℕ) (key : Key) → AllQuiet (octet_marks_in p octet key)
quiet_octet Down octet key = tt
quiet_octet Opening octet key = (tt, tt)
quiet_octet Up octet key = quiet_line octet key

quiet_end_in : (p : Phase) (end : End) → AllQuiet (end_marks_in p end)
quiet_end_in Down end = tt
quiet_end_in Opening end = (tt, tt)
quiet_end_in Up Closed = (tt, tt)
quiet_end_in Up Fault = (tt, tt)

quiet_end : (end : Option End) (key : Key) → AllQuiet (end_marks end key)
quiet_end None key = tt
quiet_end (Some end) key = quiet_end_in key.phase end

quiet_silence : (key : Key) → AllQuiet (silence_marks key)
quiet_silence key = cond_both (is_overdue key.time key.waiting) _ _ AllQuiet (λ _. (tt, tt)) (λ _. tt)

level_heard : (words : Words) (octets : List ℕ) (past : List Mark) → Level past (heard words octets past)
level_heard words [] past = inr (refl, refl)
level_heard words (octet ∷ octets) past =
    let key = key_of words past in
    let come = by_rule words (octet_marks octet) past in
    level_along past come (heard words octets come)
    (level_all (octet_marks octet key) past (quiet_octet (phase past) octet key)) (level_heard words octets come)

pub level_read : (words : Words) (now : ℕ) (octets : List ℕ) (end : Option End) (past : List Mark)
    → Level past (read words now octets end past)
level_read words now octets end past =
    let come = heard words octets (Turned now ∷ past) in
    level_along past come (by_rule words (end_marks end) come) (level_heard words octets (Turned now ∷ past))
    (level_all (end_marks end (key_of words come)) come (quiet_end end (key_of words come)))

pub level_listened : (words : Words) (now : ℕ) (octets : List ℕ) (end : Option End) (past : List Mark)
    → Level past (listened words now octets end past)
level_listened words now octets end past =
    let come = read words now octets end past in
    level_along past come (by_rule words silence_marks come) (level_read words now octets end past)
    (level_all (silence_marks (key_of words come)) come (quiet_silence (key_of words come)))
