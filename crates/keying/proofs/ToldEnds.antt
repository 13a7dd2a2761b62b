-- The key is turned off only as the answers tell.
use Rattle.keying.proofs.Common.{◌≡◌, ℕ, ◌≤◌, ◌&&◌, not, eqb, if◌then◌else◌, Bool, true, false, List, [], ◌∷◌, ◌++◌}
use Rattle.keying.proofs.Common.{length, Option, None, Some, refl, ap, sym, subst, ◌∙◌, arith, inl, inr, ◌⊎◌, cond-true}
use Rattle.keying.proofs.Common.{cond_both, Release, End, Phase, Down, Opening, Up, Words, Why, Act, Mark, Fault}
use Rattle.keying.proofs.Common.{Released, Keyed, Cut, phase, waiting, ready, last_loss, on, owed, ticks, wanted}
use Rattle.keying.proofs.Common.{key_of, free, is_stalled, stall_marks, octet_marks, end_marks_in, is_at_limit, by_rule}
use Rattle.keying.proofs.Common.{heard, read, listened, turned, ticked, written, ended, ending_in, keying_command}
use Rattle.keying.proofs.Common.{tick_told, commands, accepted, newest_keys}
use Rattle.std.specs.Option.{IsSome}
use Rattle.std.proofs.lemmas.Bool.{ne_eqb}
use Rattle.keying.specs.declared.ending.Ending.{Ending}
use Rattle.keying.specs.declared.ending.Ending.TheVariants.{Over}
use Rattle.keying.specs.declared.turning.Next.TheVariants.{ToRelease}
use Rattle.keying.specs.declared.report.Why.TheVariants.{Failed}
use Rattle.keying.specs.declared.report.Report.TheVariants.{Off}
use Rattle.keying.specs.declared.report.OffWhy.TheVariants.{Limit}
use Rattle.keying.specs.Line.{time}
use Rattle.keying.specs.Keyed.{ending, retried}
use Rattle.keying.specs.Key.{is_down}
use Rattle.keying.specs.Told.{next_in, told_loss, loss_since, turn_told, ending_told, is_in_time, written_told}
use Rattle.keying.specs.Told.{fault_told}
use Rattle.keying.proofs.Sound.{Sound, on_up, ready_on, Gone, OnOrGone}
use Rattle.keying.proofs.RulesAreSound.{reads_read, reads_listened, calm_ended}

pub up_if_on : (past : List Mark) → Sound past → on past ≡ true → phase past ≡ Up
up_if_on past s keyed =
    on_up (phase past) (commands past) (length (waiting past)) (accepted past) (s.newest ∙ keyed) s.stands

-- a line that was up and is gone: its loss is told
gone_told : (words : Words) (past new : List Mark) → phase past ≡ Up → Gone new
    → IsSome (loss_since (phase past) (last_loss past) (key_of words new))
gone_told words past new up gone =
    let P : Phase → Type 0 = λ p. IsSome (loss_since p (last_loss past) (key_of words new)) in
    let Q : Phase → Type 0 = λ p. IsSome (if not (is_down Up) && is_down p
    then told_loss (ready new) (last_loss new) (last_loss past) else None) in
    let R : Bool → Type 0 = λ b. IsSome (told_loss b (last_loss new) (last_loss past)) in
    let S : Option Why → Type 0 = λ w. IsSome (told_loss true w (last_loss past)) in
    subst P (sym up) (subst Q (sym gone.down) (subst R (sym gone.got) (subst S (sym gone.loss) refl)))

-- a turn in which the key is turned off
pub turn_tells : (words : Words) (past : List Mark) (now : ℕ) (octets : List ℕ) (end : Option End) → Sound past
    → on past ≡ true → on (turned words now octets end past) ≡ false
    → IsSome (turn_told words now octets end past).lost ⊎ ((turn_told words now octets end past).next ≡ ToRelease)
turn_tells words past now octets end s keyed off =
    let come = listened words now octets end past in
    let reads = reads_listened words now octets end past s in
    let lasts : OnOrGone come = reads.lasts (inl keyed) in
    elim lasts [
      | inl still ↦ inr (stalled words come reads.calm.sound still off)
      | inr gone ↦ inl (gone_told words past come (up_if_on past s keyed) gone)
    ]
  where
    stalled : (words : Words) (come : List Mark) → Sound come → on come ≡ true
        → on (stall_marks (key_of words come) ++ come) ≡ false → next_in (phase come) (key_of words come) ≡ ToRelease
    stalled words come sound still =
        let key = key_of words come in
        let up = up_if_on come sound still in
        let P : List Mark → Type 0 = λ marks. on (marks ++ come) ≡ false → next_in (phase come) key ≡ ToRelease in
        cond_both (is_stalled key) _ _ P
        (λ is. λ _. ap (λ p. next_in p key) up ∙ cond-true (is_stalled key) _ _ is)
        (λ _. λ other. absurd (cc (still, other)))

-- ---- the end of the run

pub closed_off : (words : Words) (past : List Mark) (now : ℕ) (octets : List ℕ) (end : Option End) → Sound past
    → newest_keys (commands (ended words now octets end past)) ≡ false
closed_off words past now octets end s =
    let come = read words now octets end past in
    let P : List Mark → Type 0 = λ marks. on (marks ++ come) ≡ false in
    (calm_ended words now octets end past s).sound.newest
    ∙ cond_both (on come) _ _ P (λ _. refl) (λ off. off)

-- nothing is owed, or one more connection was begun, or time is over
abbrev pub IsDone : List Mark → Type 0
IsDone past = (owed past ≡ false) ⊎ ((retried past ≡ true) ⊎ (is_in_time (ending past) (time past) ≡ false))

done_down : (due again timely : Bool) → (due && (not again && timely)) ≡ false
    → (due ≡ false) ⊎ ((again ≡ true) ⊎ (timely ≡ false))
done_down false again timely is = inl refl
done_down true true timely is = inr (inl refl)
done_down true false true is = absurd (cc)
done_down true false false is = inr (inr refl)

done_opening : (due again timely : Bool) → (due && timely) ≡ false
    → (due ≡ false) ⊎ ((again ≡ true) ⊎ (timely ≡ false))
done_opening false again timely is = inl refl
done_opening true again true is = absurd (cc)
done_opening true again false is = inr (inr refl)

done_up : (due keyed again timely : Bool) (waits : List ℕ) → (due ≡ true → (keyed ≡ true) ⊎ (1 ≤ length waits))
    → keyed ≡ false → (not (eqb (length waits) 0) && timely) ≡ false
    → (due ≡ false) ⊎ ((again ≡ true) ⊎ (timely ≡ false))
done_up false keyed again timely waits owes off is = inl refl
done_up true keyed again false waits owes off is = inr (inr refl)
done_up true keyed again true [] owes off is =
    absurd (elim (owes refl) [ inl on_is ↦ cc (on_is, off) | inr some ↦ omega arith ])
done_up true keyed again true (first ∷ others) owes off is =
    let some : eqb (length (first ∷ others)) 0 ≡ false = ne_eqb (length (first ∷ others)) 0 (λ none. omega arith) in
    absurd (cc (some, is))

over_in : (words : Words) (past : List Mark) → Sound past → (p : Phase) → phase past ≡ p
    → ending_in p (key_of words past) ≡ Over → IsDone past
over_in words past s Down is =
    let key = key_of words past in
    let timely = is_in_time (ending past) (time past) in
    let P : Ending → Type 0 = λ e. e ≡ Over → IsDone past in
    cond_both (owed past && (not (retried past) && timely)) _ _ P (λ _. λ over. absurd (cc))
    (λ none. λ _. done_down (owed past) (retried past) timely none)
over_in words past s Opening is =
    let timely = is_in_time (ending past) (time past) in
    let P : Ending → Type 0 = λ e. e ≡ Over → IsDone past in
    cond_both (owed past && timely) _ _ P (λ _. λ over. absurd (cc))
    (λ none. λ _. done_opening (owed past) (retried past) timely none)
over_in words past s Up is =
    let timely = is_in_time (ending past) (time past) in
    let P : Ending → Type 0 = λ e. e ≡ Over → IsDone past in
    cond_both (on past) _ _ P (λ _. λ over. absurd (cc))
    (λ off. cond_both (not (eqb (length (waiting past)) 0) && timely) _ _ P (λ _. λ over. absurd (cc))
    (λ none. λ _. done_up (owed past) (on past) (retried past) timely (waiting past) (s.owes is) off none))

pub over_done : (words : Words) (past : List Mark) (now : ℕ) (octets : List ℕ) (end : Option End) → Sound past
    → ending_told words now octets end past ≡ Over → IsDone (read words now octets end past)
over_done words past now octets end s =
    let come = read words now octets end past in
    over_in words come (reads_read words now octets end past s).calm.sound (phase come) refl

-- ---- commands and writes that fail

-- octets in two pieces
pub heard_pieces : (words : Words) (first second : List ℕ) (past : List Mark)
    → heard words (first ++ second) past ≡ heard words second (heard words first past)
heard_pieces words [] second past = refl
heard_pieces words (octet ∷ first) second past =
    heard_pieces words first second (by_rule words (octet_marks octet) past)

-- a command that is not written whole is a loss that is told, while the key is on
pub fault_tells : (words : Words) (past : List Mark) → Sound past → on past ≡ true
    → fault_told words past ≡ Some Failed
fault_tells words past s keyed =
    let up = up_if_on past s keyed in
    let failing : Phase → List Mark = λ p. end_marks_in p Fault ++ past in
    let P : Phase → Type 0 = λ p. loss_since p (last_loss past) (key_of words (failing p)) ≡ Some Failed in
    let Q : Bool → Type 0 = λ b. told_loss b (Some Failed) (last_loss past) ≡ Some Failed in
    subst P (sym up) (subst Q (sym (ready_on past keyed s)) refl)

abbrev acts : Bool → Bool → Bool → Words → Act
acts begins limit over words = if begins then record { command = Some (keying_command words); report = None }
    else if limit then record { command = Some Release; report = Some (Off Limit) }
    else if over then record { command = Some Release; report = None }
    else record { command = None; report = None }

tick_release : (begins limit over : Bool) (words : Words) (past : List Mark) → on past ≡ true
    → on ((if begins then Keyed ∷ [] else if limit then Cut Limit ∷ Released ∷ []
    else if over then Released ∷ [] else []) ++ past) ≡ false
    → (acts begins limit over words).command ≡ Some Release
tick_release true limit over words past keyed off = absurd (cc)
tick_release false true over words past keyed off = refl
tick_release false false true words past keyed off = refl
tick_release false false false words past keyed off = absurd (cc (keyed, off))

-- a tick turns the key off only by a release
pub tick_tells : (words : Words) (past : List Mark) (sounds : Bool) → on past ≡ true
    → on (ticked words sounds past) ≡ false → (tick_told words sounds past).command ≡ Some Release
tick_tells words past sounds keyed off =
    let needed = wanted words.tail (sounds ∷ ticks past) in
    tick_release (free (key_of words past) && sounds) (is_at_limit (key_of words past)) (on past && not needed)
    words past keyed off

-- so does a failed write
pub written_tells : (words : Words) (past : List Mark) (fault : Bool) → on past ≡ true
    → on (written words fault past) ≡ false → written_told fault (key_of words past) ≡ Some Release
written_tells words past false keyed off = absurd (cc (keyed, off))
written_tells words past true keyed off = cond-true (on past) _ _ keyed
