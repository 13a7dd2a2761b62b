-- Each rule adds only marks that may stand there.
use Rattle.keying.proofs.Common.{◌≡◌, ℕ, ◌<◌, ◌≤◌, ◌&&◌, not, eqb, Bool, true, false, List, [], ◌∷◌, ◌++◌, length}
use Rattle.keying.proofs.Common.{Option, None, Some, refl, ap, sym, ◌∙◌, arith, inl, inr, and_parts, cond_both, Accepts}
use Rattle.keying.proofs.Common.{Refuses, Unclear, End, Fault, Phase, Down, Opening, Up, Try, Written, Words, answer_of}
use Rattle.keying.proofs.Common.{Mark, Turned, Heard, Ticked, phase, waiting, ready, on, lit, ticks, wanted, Key}
use Rattle.keying.proofs.Common.{key_of, free, newest_keys, octet_marks, end_marks_in, end_marks, silence_marks}
use Rattle.keying.proofs.Common.{try_marks_in, is_stalled, stall_marks, is_at_limit, tick_marks, closing_marks, by_rule}
use Rattle.keying.proofs.Common.{heard, read, listened, turned, tried, ticked, written, ended, Call, called, history}
use Rattle.keying.proofs.Common.{Turn, AfterTry, Tick, AfterWrite, CommandFailed}
use Rattle.std.proofs.lemmas.Bool.{eqb-false, eq-eqb}
use Rattle.keying.specs.declared.answer.Answer.{Answer}
use Rattle.keying.specs.declared.line.End.TheVariants.{Closed}
use Rattle.keying.specs.declared.line.Try.TheVariants.{Refused as NoLine, NotYet}
use Rattle.keying.specs.Line.{part}
use Rattle.keying.specs.Rules.{settles, accept_marks, due_marks, answer_marks, line_marks, octet_marks_in, is_overdue}
use Rattle.keying.specs.Rules.{try_marks, written_marks}
use Rattle.keying.specs.Calls.{command_failed}
use Rattle.keying.specs.Calls.Call.{Release}
use Rattle.keying.proofs.Sound.{Sound, AllAllowed, sound_marks, sound_mark, sound_nothing, AllCalm, all_calm, AllHeard}
use Rattle.keying.proofs.Sound.{all_heard, heard-append, OnOrGone, on_or_gone, Same, same_along, all_same}

-- ---- octets

some_from : (xs : List ℕ) → eqb (length xs) 0 ≡ false → 1 ≤ length xs
some_from [] is = absurd (cc)
some_from (x ∷ xs) is = omega arith

-- an answer to the first release makes the line ready
ready_else : (got off one : Bool) → ((off && one) && not got) ≡ false → off ≡ true → one ≡ true → got ≡ true
ready_else true off one other first second = refl
ready_else false true true other first second = absurd (cc)
ready_else false true false other first second = absurd (cc)
ready_else false false one other first second = absurd (cc)

got_ready : (past : List Mark) → Sound past → phase past ≡ Up
    → ((not (on past) && eqb (length (waiting past)) 1) && not (ready past)) ≡ false → ready past ≡ true
got_ready past s up other =
    elim (s.readies up) [
      | inl got ↦ got
      | inr waits ↦
          let off : on past ≡ false = sym s.newest ∙ ap newest_keys waits.0 in
          ready_else (ready past) (not (on past)) (eqb (length (waiting past)) 1) other (ap not off)
          (eq-eqb (length (waiting past)) 1 waits.1)
    ]

accept_heard : (words : Words) (past : List Mark) (octet : ℕ) → Sound past → phase past ≡ Up
    → 1 ≤ length (waiting past) → AllHeard words (accept_marks (key_of words past)) (Heard octet ∷ past)
accept_heard words past octet s up some =
    cond_both (settles (key_of words past) && not (key_of words past).ready) _ _
    (λ marks. AllHeard words marks (Heard octet ∷ past)) (λ _. ((up, some, refl), (tt, tt)))
    (λ other. ((up, some, got_ready past s up other), tt))

due_heard : (words : Words) (answer : Answer) (past : List Mark) (octet : ℕ) → Sound past → phase past ≡ Up
    → 1 ≤ length (waiting past) → AllHeard words (due_marks answer (key_of words past)) (Heard octet ∷ past)
due_heard words Unclear past octet s up some = (tt, tt)
due_heard words (Refuses number) past octet s up some = (tt, tt)
due_heard words Accepts past octet s up some = accept_heard words past octet s up some

answer_heard : (words : Words) (answer : Answer) (past : List Mark) (octet : ℕ) → Sound past → phase past ≡ Up
    → AllHeard words (answer_marks answer (key_of words past)) (Heard octet ∷ past)
answer_heard words answer past octet s up =
    cond_both (eqb (length (waiting past)) 0) _ _ (λ marks. AllHeard words marks (Heard octet ∷ past))
    (λ _. (tt, tt)) (λ some. due_heard words answer past octet s up (some_from (waiting past) some))

line_heard : (words : Words) (octet : ℕ) (past : List Mark) → Sound past → phase past ≡ Up
    → AllHeard words (line_marks octet (key_of words past)) past
line_heard words octet past s up =
    cond_both (eqb octet 10) _ _ (λ marks. AllHeard words marks past)
    (λ _. heard-append words (answer_marks (answer_of (part past)) (key_of words past)) (Heard octet ∷ []) past
    (answer_heard words (answer_of (part past)) past octet s up) (tt, tt))
    (λ _. cond_both (eqb (length (part past)) 63) _ _ (λ marks. AllHeard words marks past) (λ _. (tt, tt))
    (λ _. (tt, tt)))

octet_heard_in : (words : Words) (p : Phase) (octet : ℕ) (past : List Mark) → Sound past → phase past ≡ p
    → AllHeard words (octet_marks_in p octet (key_of words past)) past
octet_heard_in words Down octet past s is = tt
octet_heard_in words Opening octet past s is = (tt, tt)
octet_heard_in words Up octet past s is = line_heard words octet past s is

octet_heard : (words : Words) (octet : ℕ) (past : List Mark) → Sound past
    → AllHeard words (octet_marks octet (key_of words past)) past
octet_heard words octet past s = octet_heard_in words (phase past) octet past s refl

-- ---- losses, tries and ends

end_heard_in : (words : Words) (p : Phase) (end : End) (past : List Mark) → AllHeard words (end_marks_in p end) past
end_heard_in words Down end past = tt
end_heard_in words Opening end past = (tt, tt)
end_heard_in words Up Closed past = (tt, tt)
end_heard_in words Up Fault past = (tt, tt)

end_heard : (words : Words) (end : Option End) (past : List Mark)
    → AllHeard words (end_marks end (key_of words past)) past
end_heard words None past = tt
end_heard words (Some end) past = end_heard_in words (phase past) end past

silence_heard : (words : Words) (past : List Mark) → AllHeard words (silence_marks (key_of words past)) past
silence_heard words past =
    cond_both (is_overdue (key_of words past).time (waiting past)) _ _ (λ marks. AllHeard words marks past)
    (λ _. (tt, tt)) (λ _. tt)

try_calm_in : (words : Words) (p : Phase) (how : Try) (past : List Mark) → phase past ≡ p
    → AllCalm words (try_marks_in p how) past
try_calm_in words Down NoLine past is = (tt, (is, tt))
try_calm_in words Down NotYet past is = (is, tt)
try_calm_in words Down Written past is = (refl, (is, tt))
try_calm_in words Opening NoLine past is = (tt, tt)
try_calm_in words Opening NotYet past is = tt
try_calm_in words Opening Written past is = (is, tt)
try_calm_in words Up how past is = tt

try_calm : (words : Words) (how : Try) (past : List Mark) → AllCalm words (try_marks how (key_of words past)) past
try_calm words how past = try_calm_in words (phase past) how past refl

stall_calm : (words : Words) (past : List Mark) → AllCalm words (stall_marks (key_of words past)) past
stall_calm words past =
    cond_both (is_stalled (key_of words past)) _ _ (λ marks. AllCalm words marks past)
    (λ stalled. (tt, ((and_parts _ _ stalled).0, tt))) (λ _. tt)

written_calm : (words : Words) (fault : Bool) (past : List Mark)
    → AllCalm words (written_marks fault (key_of words past)) past
written_calm words false past = tt
written_calm words true past =
    cond_both (on past) _ _ (λ marks. AllCalm words marks past) (λ keyed. (tt, (keyed, tt))) (λ _. (tt, tt))

closing_calm : (words : Words) (past : List Mark) → AllCalm words (closing_marks (key_of words past)) past
closing_calm words past =
    cond_both (on past) _ _ (λ marks. AllCalm words marks past) (λ keyed. (tt, (keyed, tt))) (λ _. (tt, tt))

-- ---- a tick

below_limit : (n : ℕ) → eqb n 9000 ≡ false → n ≤ 9000 → n < 9000
below_limit n other most = let differs = eqb-false n 9000 other in omega arith

-- the key may stay on for one more tick
abbrev TickFits : List Mark → Type 0
TickFits past = on past ≡ true → lit past < 9000

under_limit : (b : Bool) (n : ℕ) → (b && eqb n 9000) ≡ false → n ≤ 9000 → b ≡ true → n < 9000
under_limit true n other most is = below_limit n other most
under_limit false n other most is = absurd (cc)

tick_fits : (words : Words) (sounds needed : Bool) (past : List Mark) → Sound past
    → TickFits (tick_marks sounds needed (key_of words past) ++ past)
tick_fits words sounds needed past s =
    let key = key_of words past in
    cond_both (free key && sounds) _ _ (λ marks. TickFits (marks ++ past)) (λ _. λ _. omega arith)
    (λ _. cond_both (is_at_limit key) _ _ (λ marks. TickFits (marks ++ past)) (λ _. λ keyed. absurd (cc))
    (λ under. cond_both (on past && not needed) _ _ (λ marks. TickFits (marks ++ past)) (λ _. λ keyed. absurd (cc))
    (λ _. under_limit (on past) (lit past) under s.lit)))

tick_allowed : (words : Words) (sounds needed : Bool) (past : List Mark)
    → AllAllowed words (tick_marks sounds needed (key_of words past)) past
tick_allowed words sounds needed past =
    let key = key_of words past in
    cond_both (free key && sounds) _ _ (λ marks. AllAllowed words marks past)
    (λ begins. ((and_parts _ _ begins).0, tt))
    (λ _. cond_both (is_at_limit key) _ _ (λ marks. AllAllowed words marks past)
    (λ limit. (tt, ((and_parts _ _ limit).0, tt)))
    (λ _. cond_both (on past && not needed) _ _ (λ marks. AllAllowed words marks past)
    (λ over. ((and_parts _ _ over).0, tt)) (λ _. tt)))

-- ---- calls

-- a rule, or rules one after another, that neither key nor make a tick
pub record Calmly (past new : List Mark) : Type 0 where
  pub sound : Sound new
  pub same : Same past new

calm_rule : (words : Words) (rule : Key → List Mark) (past : List Mark) → Sound past
    → AllCalm words (rule (key_of words past)) past → Calmly past (by_rule words rule past)
calm_rule words rule past s calm =
    let marks = rule (key_of words past) in
    record {
      sound = sound_marks words marks past (all_calm words marks past calm) s;
      same = all_same words marks past calm;
    }

calm_along : (first second third : List Mark) → Calmly first second → Calmly second third → Calmly first third
calm_along first second third a b = record { sound = b.sound; same = same_along first second third a.same b.same }

-- what was read on the line
pub record Reads (past new : List Mark) : Type 0 where
  pub calm : Calmly past new
  pub lasts : OnOrGone past → OnOrGone new

reads_rule : (words : Words) (rule : Key → List Mark) (past : List Mark) → Sound past
    → AllHeard words (rule (key_of words past)) past → Reads past (by_rule words rule past)
reads_rule words rule past s hears =
    let marks = rule (key_of words past) in
    record {
      calm = calm_rule words rule past s (all_heard words marks past hears);
      lasts = on_or_gone words marks past hears s;
    }

reads_along : (first second third : List Mark) → Reads first second → Reads second third → Reads first third
reads_along first second third a b = record {
  calm = calm_along first second third a.calm b.calm;
  lasts = λ is. b.lasts (a.lasts is);
}

reads_octets : (words : Words) (octets : List ℕ) (past : List Mark) → Sound past
    → Reads past (heard words octets past)
reads_octets words [] past s = record {
  calm = record { sound = s; same = record { on = λ is. is; ticks = refl; lit = refl } };
  lasts = λ is. is;
}
reads_octets words (octet ∷ octets) past s =
    let come = by_rule words (octet_marks octet) past in
    let first : Reads past come = reads_rule words (octet_marks octet) past s (octet_heard words octet past s) in
    reads_along past come _ first (reads_octets words octets come first.calm.sound)

pub reads_read : (words : Words) (now : ℕ) (octets : List ℕ) (end : Option End) (past : List Mark) → Sound past
    → Reads past (read words now octets end past)
reads_read words now octets end past s =
    let began = Turned now ∷ past in
    let first : Reads past began = reads_rule words (λ _. Turned now ∷ []) past s (tt, tt) in
    let come = heard words octets began in
    let second : Reads began come = reads_octets words octets began first.calm.sound in
    reads_along past began _ first (reads_along began come _ second
    (reads_rule words (end_marks end) come second.calm.sound (end_heard words end come)))

pub reads_listened : (words : Words) (now : ℕ) (octets : List ℕ) (end : Option End) (past : List Mark) → Sound past
    → Reads past (listened words now octets end past)
reads_listened words now octets end past s =
    let come = read words now octets end past in
    let first : Reads past come = reads_read words now octets end past s in
    reads_along past come _ first (reads_rule words silence_marks come first.calm.sound (silence_heard words come))

pub calm_turned : (words : Words) (now : ℕ) (octets : List ℕ) (end : Option End) (past : List Mark) → Sound past
    → Calmly past (turned words now octets end past)
calm_turned words now octets end past s =
    let come = listened words now octets end past in
    let first : Calmly past come = (reads_listened words now octets end past s).calm in
    calm_along past come _ first (calm_rule words stall_marks come first.sound (stall_calm words come))

pub calm_tried : (words : Words) (how : Try) (past : List Mark) → Sound past → Calmly past (tried words how past)
calm_tried words how past s = calm_rule words (try_marks how) past s (try_calm words how past)

pub calm_written : (words : Words) (fault : Bool) (past : List Mark) → Sound past
    → Calmly past (written words fault past)
calm_written words fault past s = calm_rule words (written_marks fault) past s (written_calm words fault past)

pub calm_failed : (words : Words) (past : List Mark) → Sound past → Calmly past (command_failed words past)
calm_failed words past s = (reads_rule words (end_marks (Some Fault)) past s (end_heard words (Some Fault) past)).calm

pub calm_ended : (words : Words) (now : ℕ) (octets : List ℕ) (end : Option End) (past : List Mark) → Sound past
    → Calmly past (ended words now octets end past)
calm_ended words now octets end past s =
    let come = read words now octets end past in
    let first : Calmly past come = (reads_read words now octets end past s).calm in
    calm_along past come _ first (calm_rule words closing_marks come first.sound (closing_calm words come))

pub sound_ticked : (words : Words) (sounds : Bool) (past : List Mark) → Sound past → Sound (ticked words sounds past)
sound_ticked words sounds past s =
    let needed = wanted words.tail (sounds ∷ ticks past) in
    let marks = tick_marks sounds needed (key_of words past) in
    sound_mark words (Ticked sounds) (marks ++ past) (tick_fits words sounds needed past s)
    (sound_marks words marks past (tick_allowed words sounds needed past) s)

sound_called : (words : Words) (call : Call) (past : List Mark) → Sound past → Sound (called words call past)
sound_called words (Turn now octets end) past s = (calm_turned words now octets end past s).sound
sound_called words (AfterTry how) past s = (calm_tried words how past s).sound
sound_called words (Tick sounds) past s = sound_ticked words sounds past s
sound_called words (AfterWrite fault) past s = (calm_written words fault past s).sound
sound_called words CommandFailed past s = (calm_failed words past s).sound
sound_called words (Release now octets end) past s = (calm_ended words now octets end past s).sound

pub sound_history : (words : Words) (calls : List Call) → Sound (history words calls)
sound_history words [] = sound_nothing
sound_history words (call ∷ before) = sound_called words call (history words before) (sound_history words before)
