-- The key and the ticks: it is on for exactly the tail after the last tick with sound.
use Rattle.keying.proofs.Common.{◌≡◌, ℕ, zero, suc, ◌+◌, ◌-◌, ◌<◌, ◌≤◌, ◌&&◌, not, eqb, if◌then◌else◌, Bool, true}
use Rattle.keying.proofs.Common.{false, List, [], ◌∷◌, ◌++◌, length, take, None, Some, refl, ap, sym, subst, ◌∙◌, arith}
use Rattle.keying.proofs.Common.{inl, inr, and_parts, cond-true, cond_both, cases_lt, eqb-true, not-true, Release}
use Rattle.keying.proofs.Common.{KeyData, Up, Words, Act, Mark, phase, waiting, on, lit, ticks, wanted, key_of, free}
use Rattle.keying.proofs.Common.{is_free, is_at_limit, tick_marks, ticked, Call, called, history, Turn, AfterTry, Tick}
use Rattle.keying.proofs.Common.{AfterWrite, CommandFailed, keying_command, tick_told, commands, accepted, newest_keys}
use Rattle.std.proofs.lemmas.Bool.{and_from}
use Rattle.keying.specs.declared.command.Command.TheVariants.{Key as KeyOn}
use Rattle.keying.specs.Calls.Call.{Release as AtEnd}
use Rattle.keying.specs.Laws.{EndsTail}
use Rattle.keying.proofs.Lingering.{sounded}
use Rattle.keying.proofs.Sound.{Sound, Same, free_parts, stands_at}
use Rattle.keying.proofs.RulesAreSound.{calm_turned, calm_tried, calm_written, calm_failed, calm_ended, sound_history}

-- ---- lists of ticks

-- more ticks have no less sound
any_more : (n m : ℕ) (ticks : List Bool) → n ≤ m → sounded (take n ticks) ≡ true → sounded (take m ticks) ≡ true
any_more zero m ticks most some = absurd (cc)
any_more (suc n) zero ticks most some = absurd (omega arith)
any_more (suc n) (suc m) [] most some = absurd (cc)
any_more (suc n) (suc m) (true ∷ ticks) most some = refl
any_more (suc n) (suc m) (false ∷ ticks) most some = any_more n m ticks (omega arith) some

-- none of the last `tail` ticks had sound, but one of one more
pub ends_tail : (tail : ℕ) (ticks : List Bool) → sounded (take tail ticks) ≡ false
    → sounded (take (suc tail) ticks) ≡ true → EndsTail tail ticks
ends_tail zero [] quiet some = absurd (cc)
ends_tail zero (true ∷ ticks) quiet some = (ticks, refl)
ends_tail zero (false ∷ ticks) quiet some = absurd (cc)
ends_tail (suc tail) [] quiet some = absurd (cc)
ends_tail (suc tail) (true ∷ ticks) quiet some = absurd (cc)
ends_tail (suc tail) (false ∷ ticks) quiet some =
    let rest = ends_tail tail ticks quiet some in (rest.0, ap (λ xs. false ∷ xs) rest.1)

-- ---- a tick

tick_ticks : (words : Words) (sounds needed : Bool) (past : List Mark)
    → ticks (tick_marks sounds needed (key_of words past) ++ past) ≡ ticks past
tick_ticks words sounds needed past =
    let key = key_of words past in
    cond_both (free key && sounds) _ _ (λ marks. ticks (marks ++ past) ≡ ticks past) (λ _. refl)
    (λ _. cond_both (is_at_limit key) _ _ (λ marks. ticks (marks ++ past) ≡ ticks past) (λ _. refl)
    (λ _. cond_both (on past && not needed) _ _ (λ marks. ticks (marks ++ past) ≡ ticks past) (λ _. refl) (λ _. refl)))

needed_from : (keyed needed : Bool) → (keyed && not needed) ≡ false → keyed ≡ true → needed ≡ true
needed_from true true other is = refl
needed_from true false other is = absurd (cc)
needed_from false needed other is = absurd (cc)

-- the key is on only while it is wanted
tick_wanted : (words : Words) (sounds needed : Bool) (past : List Mark) → (sounds ≡ true → needed ≡ true)
    → on (tick_marks sounds needed (key_of words past) ++ past) ≡ true → needed ≡ true
tick_wanted words sounds needed past sounding =
    let key = key_of words past in
    let P : List Mark → Type 0 = λ marks. on (marks ++ past) ≡ true → needed ≡ true in
    cond_both (free key && sounds) _ _ P (λ begins. λ _. sounding (and_parts _ _ begins).1)
    (λ _. cond_both (is_at_limit key) _ _ P (λ _. λ keyed. absurd (cc))
    (λ _. cond_both (on past && not needed) _ _ P (λ _. λ keyed. absurd (cc)) (needed_from (on past) needed)))

sound_is_wanted : (tail : ℕ) (sounds : Bool) (older : List Bool) → sounds ≡ true → wanted tail (sounds ∷ older) ≡ true
sound_is_wanted tail true older is = refl
sound_is_wanted tail false older is = absurd (cc)

-- ---- between calls the key is wanted if it is on

abbrev pub Lingers : Words → List Mark → Type 0
Lingers words past = on past ≡ true → wanted words.tail (ticks past) ≡ true

lingers_same : (words : Words) (past new : List Mark) → Same past new → Lingers words past → Lingers words new
lingers_same words past new same lingers =
    λ keyed. ap (wanted words.tail) same.ticks ∙ lingers (same.on keyed)

lingers_ticked : (words : Words) (sounds : Bool) (past : List Mark) → Lingers words (ticked words sounds past)
lingers_ticked words sounds past =
    let needed = wanted words.tail (sounds ∷ ticks past) in
    λ keyed. ap (λ older. wanted words.tail (sounds ∷ older)) (tick_ticks words sounds needed past)
    ∙ tick_wanted words sounds needed past (sound_is_wanted words.tail sounds (ticks past)) keyed

lingers_called : (words : Words) (call : Call) (past : List Mark) → Sound past → Lingers words past
    → Lingers words (called words call past)
lingers_called words (Turn now octets end) past s lingers =
    lingers_same words past _ (calm_turned words now octets end past s).same lingers
lingers_called words (AfterTry how) past s lingers =
    lingers_same words past _ (calm_tried words how past s).same lingers
lingers_called words (Tick sounds) past s lingers = lingers_ticked words sounds past
lingers_called words (AfterWrite fault) past s lingers =
    lingers_same words past _ (calm_written words fault past s).same lingers
lingers_called words CommandFailed past s lingers = lingers_same words past _ (calm_failed words past s).same lingers
lingers_called words (AtEnd now octets end) past s lingers =
    lingers_same words past _ (calm_ended words now octets end past s).same lingers

pub lingers_history : (words : Words) (calls : List Call) → Lingers words (history words calls)
lingers_history words [] = λ keyed. absurd (cc)
lingers_history words (call ∷ before) =
    lingers_called words call (history words before) (sound_history words before) (lingers_history words before)

-- ---- laws

-- sound at most in the first ticks of the key keeps it on for at most the tail more
pub short_sound : (words : Words) (past : List Mark) (most : ℕ) → Lingers words past → on past ≡ true
    → sounded (take (lit past - most) (ticks past)) ≡ false → lit past ≤ most + words.tail
short_sound words past most lingers keyed quiet =
    elim (cases_lt (most + words.tail) (lit past)) [
      | inl long ↦
          let some = any_more (suc words.tail) (lit past - most) (ticks past) (omega arith) (lingers keyed) in
          absurd (cc (quiet, some))
      | inr short ↦ short
    ]

keys_not : (b : Bool) → (if b then KeyData else KeyOn) ≡ Release → ⊥
keys_not true is = cc
keys_not false is = cc

quiet_tick : (tail : ℕ) (sounds : Bool) (older : List Bool) → wanted tail (sounds ∷ older) ≡ false
    → (sounds ≡ false) × (sounded (take tail older) ≡ false)
quiet_tick tail true older quiet = absurd (cc)
quiet_tick tail false older quiet = (refl, quiet)

-- a release before a tick that nothing else asks for
abbrev pub plain_release : Act
plain_release = record { command = Some Release; report = None }

pub exact_tail : (words : Words) (past : List Mark) (sounds : Bool) → Lingers words past
    → tick_told words sounds past ≡ plain_release → (sounds ≡ false) × EndsTail words.tail (ticks past)
exact_tail words past sounds lingers =
    let key = key_of words past in
    let needed = wanted words.tail (sounds ∷ ticks past) in
    let P : Act → Type 0 = λ act. act ≡ plain_release → (sounds ≡ false) × EndsTail words.tail (ticks past) in
    cond_both (free key && sounds) _ _ P
    (λ _. λ is. absurd (keys_not words.data (let some = ap (λ act. act.command) is in cc)))
    (λ _. cond_both (is_at_limit key) _ _ P (λ _. λ is. absurd (let some = ap (λ act. act.report) is in cc))
    (λ _. cond_both (on past && not needed) _ _ P
    (λ over. λ is.
    let parts = and_parts _ _ over in
    let quiet = quiet_tick words.tail sounds (ticks past) (not-true needed parts.1) in
    (quiet.0, ends_tail words.tail (ticks past) quiet.1 (lingers parts.0)))
    (λ _. λ is. absurd (let some = ap (λ act. act.command) is in cc))))

-- a tick leaves the key on exactly if it is wanted
pub stays_on : (words : Words) (past : List Mark) (sounds : Bool) → on past ≡ true → lit past < 9000
    → on (ticked words sounds past) ≡ wanted words.tail (sounds ∷ ticks past)
stays_on words past sounds keyed below =
    let key = key_of words past in
    let needed = wanted words.tail (sounds ∷ ticks past) in
    let P : List Mark → Type 0 = λ marks. on (marks ++ past) ≡ needed in
    cond_both (free key && sounds) _ _ P
    (λ begins. absurd (let off = (free_parts words past (and_parts _ _ begins).0).off in cc))
    (λ _. cond_both (is_at_limit key) _ _ P
    (λ limit.
    let parts = and_parts (on past) (eqb (lit past) 9000) limit in
    let full : lit past ≡ 9000 = eqb-true (lit past) 9000 parts.1 in
    absurd (omega arith))
    (λ _. cond_both (on past && not needed) _ _ P (λ over. sym (not-true needed (and_parts _ _ over).1))
    (λ other. keyed ∙ sym (needed_from (on past) needed other keyed))))

-- a transmission that begins while the radio is free is under the key
pub begins_keyed : (words : Words) (past : List Mark) → is_free words past ≡ true
    → on (ticked words true past) ≡ true
begins_keyed words past is =
    let key = key_of words past in
    let P : List Mark → Type 0 = λ marks. on (marks ++ past) ≡ true in
    subst P (sym (cond-true (free key && true) _ _ (and_from (free key) true is refl))) refl

-- a keying command is for a tick with sound, and only a free radio gets one
pub keys_free : (words : Words) (past : List Mark) (sounds : Bool)
    → (tick_told words sounds past).command ≡ Some (keying_command words)
    → (is_free words past ≡ true) × (sounds ≡ true)
keys_free words past sounds =
    let key = key_of words past in
    let needed = wanted words.tail (sounds ∷ ticks past) in
    let P : Act → Type 0 = λ act. act.command ≡ Some (keying_command words)
    → (is_free words past ≡ true) × (sounds ≡ true) in
    cond_both (free key && sounds) _ _ P (λ begins. λ _. and_parts _ _ begins)
    (λ _. cond_both (is_at_limit key) _ _ P (λ _. λ is. absurd (keys_not words.data (cc)))
    (λ _. cond_both (on past && not needed) _ _ P (λ _. λ is. absurd (keys_not words.data (cc)))
    (λ _. λ is. absurd (cc))))

-- a free radio has accepted each command, the newest of which releases
pub free_accepted : (words : Words) (past : List Mark) → Sound past → is_free words past ≡ true
    → (accepted past ≡ length (commands past)) × (1 ≤ length (commands past))
    × (newest_keys (commands past) ≡ false)
free_accepted words past s is =
    let f = free_parts words past is in
    let none : length (waiting past) ≡ 0 = f.answered in
    let up = stands_at (phase past) Up (commands past) (length (waiting past)) (accepted past) f.up s.stands in
    let sum : accepted past + length (waiting past) ≡ length (commands past) = up.0 in
    (omega arith, up.1, s.newest ∙ f.off)

-- short sound meets no limit
pub no_limit : (words : Words) (past : List Mark) (first : ℕ) (sounds : Bool) → Lingers words past
    → sounded (take (lit past - first) (ticks past)) ≡ false → first + words.tail < 9000
    → (tick_told words sounds past).report ≡ None
no_limit words past first sounds lingers quiet short =
    let key = key_of words past in
    let needed = wanted words.tail (sounds ∷ ticks past) in
    let P : Act → Type 0 = λ act. act.report ≡ None in
    cond_both (free key && sounds) _ _ P (λ _. refl)
    (λ _. cond_both (is_at_limit key) _ _ P
    (λ limit.
    let parts = and_parts (on past) (eqb (lit past) 9000) limit in
    let most : lit past ≤ first + words.tail = short_sound words past first lingers parts.0 quiet in
    let full : lit past ≡ 9000 = eqb-true (lit past) 9000 parts.1 in
    absurd (omega arith))
    (λ _. cond_both (on past && not needed) _ _ P (λ _. refl) (λ _. refl)))
