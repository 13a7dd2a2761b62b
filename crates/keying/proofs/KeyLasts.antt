-- The key lasts until the answer of a call tells its end.
use Rattle.keying.proofs.Common.{◌≡◌, true, false, List, [], ◌∷◌, ◌++◌, sym, subst, inl, inr, Phase, Try, Words, Mark}
use Rattle.keying.proofs.Common.{on, is_free, try_marks_in, called, history, tried, Call, Turn, AfterTry, Tick}
use Rattle.keying.proofs.Common.{AfterWrite, CommandFailed}
use Rattle.std.proofs.lemmas.Bool.{cases_Bool}
use Rattle.keying.specs.Calls.Call.{Release}
use Rattle.keying.specs.Laws.{TellsEnd, NoneTellsEnd}
use Rattle.keying.proofs.Sound.{Sound}
use Rattle.keying.proofs.RulesAreSound.{sound_history}
use Rattle.keying.proofs.Tails.{begins_keyed}
use Rattle.keying.proofs.ToldEnds.{up_if_on, turn_tells, tick_tells, written_tells, fault_tells}

-- a line that is up is not tried
try_keeps : (words : Words) (how : Try) (past : List Mark) → Sound past → on past ≡ true
    → on (tried words how past) ≡ true
try_keeps words how past s keyed =
    let P : Phase → Type 0 = λ p. on (try_marks_in p how ++ past) ≡ true in
    subst P (sym (up_if_on past s keyed)) keyed

pub call_tells : (words : Words) (call : Call) (past : List Mark) → Sound past → on past ≡ true
    → on (called words call past) ≡ false → TellsEnd words call past
call_tells words (Turn now octets end) past s keyed off = turn_tells words past now octets end s keyed off
call_tells words (AfterTry how) past s keyed off =
    let still : on (tried words how past) ≡ true = try_keeps words how past s keyed in absurd (cc (still, off))
call_tells words (Tick sounds) past s keyed off = tick_tells words past sounds keyed off
call_tells words (AfterWrite fault) past s keyed off = written_tells words past fault keyed off
call_tells words CommandFailed past s keyed off = fault_tells words past s keyed
call_tells words (Release now octets end) past s keyed off = tt

pub stays_keyed : (words : Words) (calls later : List Call) → is_free words (history words calls) ≡ true
    → NoneTellsEnd words later (Tick true ∷ calls) → on (history words (later ++ Tick true ∷ calls)) ≡ true
stays_keyed words calls [] free quiet = begins_keyed words (history words calls) free
stays_keyed words calls (call ∷ later) free quiet =
    let all = later ++ Tick true ∷ calls in
    let past = history words all in
    elim (cases_Bool (on (called words call past))) [
      | inl still ↦ still
      | inr off ↦ absurd (quiet.0 (call_tells words call past (sound_history words all)
          (stays_keyed words calls later free quiet.1) off))
    ]
