-- What holds in every history that the rules make: the commands alternate, each waits for its answer or was accepted,
-- and the key is never on for too long.
use Rattle.keying.proofs.Common.{◌≡◌, ℕ, zero, suc, ◌⊎◌, inl, inr, Some, ◌+◌, ◌-◌, ◌<◌, ◌≤◌, ◌&&◌, not, eqb}
use Rattle.keying.proofs.Common.{if◌then◌else◌, Bool, true, false, List, [], ◌∷◌, ◌++◌, length, drop, refl, ap, sym}
use Rattle.keying.proofs.Common.{subst, ◌∙◌, arith, and_parts, eqb-true, not-true, Phase, Down, Opening, Up, Words}
use Rattle.keying.proofs.Common.{Mark, Turned, Tried, Opened, Keyed, Released, Heard, Accepted, Readied, Lost, Ticked}
use Rattle.keying.proofs.Common.{Cut, WriteFault, Ends, Why, phase, waiting, ready, last_loss, on, lit, owed, ticks}
use Rattle.keying.proofs.Common.{is_free, commands, accepted, newest_keys}
use Rattle.std.proofs.Common.{length-append, length-drop, append_assoc}
use Rattle.keying.specs.Key.{is_up}
use Rattle.keying.specs.Laws.{Alternate}

-- how commands, those without an answer, and those accepted stand to one another
abbrev pub Stands : Phase → List Bool → ℕ → ℕ → Type 0
Stands Down commands waiting accepted = (commands ≡ []) × (waiting ≡ 0) × (accepted ≡ 0)
Stands Opening commands waiting accepted = (commands ≡ []) × (waiting ≡ 1) × (accepted ≡ 0)
Stands Up commands waiting accepted = (accepted + waiting ≡ length commands) × (1 ≤ length commands)

-- a line is ready, or waits for the answer to its first release
abbrev pub IsReadying : List Mark → Type 0
IsReadying past = (ready past ≡ true) ⊎ ((commands past ≡ false ∷ []) × (length (waiting past) ≡ 1))

pub record Sound (past : List Mark) : Type 0 where
  pub newest : newest_keys (commands past) ≡ on past
  pub alternate : Alternate (commands past)
  pub lit : lit past ≤ 9000
  pub stands : Stands (phase past) (commands past) (length (waiting past)) (accepted past)
  pub few : on past ≡ true → length (waiting past) ≤ 1
  pub two : length (waiting past) ≤ 2
  pub owes : phase past ≡ Up → owed past ≡ true → (on past ≡ true) ⊎ (1 ≤ length (waiting past))
  pub readies : phase past ≡ Up → IsReadying past

-- where a mark may stand
abbrev pub Allowed : Words → Mark → List Mark → Type 0
Allowed words Tried past = phase past ≡ Down
Allowed words Opened past = phase past ≡ Opening
Allowed words Keyed past = is_free words past ≡ true
Allowed words Released past = on past ≡ true
Allowed words Accepted past = (phase past ≡ Up) × (1 ≤ length (waiting past)) × (ready past ≡ true)
Allowed words (Ticked sounds) past = on past ≡ true → lit past < 9000
Allowed words _ past = Unit {0}

-- ---- a free radio

pub record Free (words : Words) (past : List Mark) : Type 0 where
  pub up : phase past ≡ Up
  pub off : on past ≡ false
  pub answered : length (waiting past) ≡ 0

up_is : (p : Phase) → is_up p ≡ true → p ≡ Up
up_is Down is = absurd (cc)
up_is Opening is = absurd (cc)
up_is Up is = refl

pub free_parts : (words : Words) (past : List Mark) → is_free words past ≡ true → Free words past
free_parts words past is =
    let first = and_parts _ _ is in
    let second = and_parts _ _ first.1 in
    let third = and_parts _ _ second.1 in
    record {
      up = up_is (phase past) first.0;
      off = not-true (on past) second.0;
      answered = eqb-true (length (waiting past)) 0 third.0;
    }

-- ---- commands

push_alternate : (keys : Bool) (before : List Bool) → 1 ≤ length before → newest_keys before ≡ not keys
    → Alternate before → Alternate (keys ∷ before)
push_alternate keys [] some newest alternate = absurd (omega arith)
push_alternate true (false ∷ others) some newest alternate = (refl, alternate)
push_alternate true (true ∷ others) some newest alternate = absurd (cc)
push_alternate false (true ∷ others) some newest alternate = (refl, alternate)
push_alternate false (false ∷ others) some newest alternate = absurd (cc)

pub stands_at : (p q : Phase) (c : List Bool) (w a : ℕ) → p ≡ q → Stands p c w a → Stands q c w a
stands_at p q c w a is stands = let P : Phase → Type 0 = λ r. Stands r c w a in subst P is stands

-- the key is on only on a line that is up
pub on_up : (p : Phase) (c : List Bool) (w a : ℕ) → newest_keys c ≡ true → Stands p c w a → p ≡ Up
on_up Down c w a newest stands = absurd (cc (ap newest_keys stands.0))
on_up Opening c w a newest stands = absurd (cc (ap newest_keys stands.0))
on_up Up c w a newest stands = refl

lit_more : (b : Bool) (n : ℕ) → n ≤ 9000 → (b ≡ true → n < 9000) → (if b then n + 1 else n) ≤ 9000
lit_more true n most below = let strictly : n < 9000 = below refl in omega arith
lit_more false n most below = most

-- ---- a mark

made : (past : List Mark) → newest_keys (commands past) ≡ on past → Alternate (commands past) → lit past ≤ 9000
    → Stands (phase past) (commands past) (length (waiting past)) (accepted past)
    → (on past ≡ true → length (waiting past) ≤ 1) → length (waiting past) ≤ 2
    → (phase past ≡ Up → owed past ≡ true → (on past ≡ true) ⊎ (1 ≤ length (waiting past)))
    → (phase past ≡ Up → IsReadying past) → Sound past
made past newest alternate lit_most stands few two owes readies = record {
  newest = newest;
  alternate = alternate;
  lit = lit_most;
  stands = stands;
  few = few;
  two = two;
  owes = owes;
  readies = readies;
}

-- the key is on only after the line got ready
pub ready_on : (past : List Mark) → on past ≡ true → Sound past → ready past ≡ true
ready_on past is s =
    let up = on_up (phase past) (commands past) (length (waiting past)) (accepted past) (s.newest ∙ is) s.stands in
    elim (s.readies up) [
      | inl got ↦ got
      | inr waits ↦ absurd (let keys : newest_keys (commands past) ≡ false = ap newest_keys waits.0 in
          let on_is = s.newest in cc)
    ]

pub ready_free : (words : Words) (past : List Mark) → Free words past → Sound past → ready past ≡ true
ready_free words past f s =
    elim (s.readies f.up) [
      | inl got ↦ got
      | inr waits ↦ absurd (let none : length (waiting past) ≡ 0 = f.answered in
          let one : length (waiting past) ≡ 1 = waits.1 in omega arith)
    ]

sound_keyed : (words : Words) (past : List Mark) → is_free words past ≡ true → Sound past → Sound (Keyed ∷ past)
sound_keyed words past allowed s =
    let f = free_parts words past allowed in
    let up = stands_at (phase past) Up (commands past) (length (waiting past)) (accepted past) f.up s.stands in
    let none : length (waiting past) ≡ 0 = f.answered in
    let more : length (waiting (Keyed ∷ past)) ≡ length (waiting past) + 1 = length-append (waiting past) _ in
    record {
      newest = refl;
      alternate = push_alternate true (commands past) up.1 (s.newest ∙ f.off) s.alternate;
      lit = omega arith;
      stands = stands_at Up (phase past) (true ∷ commands past) _ (accepted past) (sym f.up)
          (let sum : accepted past + length (waiting past) ≡ length (commands past) = up.0 in omega arith, omega arith);
      few = λ _. omega arith;
      two = omega arith;
      owes = λ at due. inl refl;
      readies = λ at. inl (ready_free words past f s);
    }

sound_released : (past : List Mark) → on past ≡ true → Sound past → Sound (Released ∷ past)
sound_released past is s =
    let at_up = on_up (phase past) (commands past) (length (waiting past)) (accepted past) (s.newest ∙ is) s.stands in
    let up = stands_at (phase past) Up (commands past) (length (waiting past)) (accepted past) at_up s.stands in
    let one : length (waiting past) ≤ 1 = s.few is in
    let more : length (waiting (Released ∷ past)) ≡ length (waiting past) + 1 = length-append (waiting past) _ in
    record {
      newest = refl;
      alternate = push_alternate false (commands past) up.1 (s.newest ∙ is) s.alternate;
      lit = s.lit;
      stands = stands_at Up (phase past) (false ∷ commands past) _ (accepted past) (sym at_up)
          (let sum : accepted past + length (waiting past) ≡ length (commands past) = up.0 in omega arith, omega arith);
      few = λ keys. absurd (cc);
      two = omega arith;
      owes = λ at due. inr (omega arith);
      readies = λ at. inl (ready_on past is s);
    }

sound_opened : (past : List Mark) → phase past ≡ Opening → Sound past → Sound (Opened ∷ past)
sound_opened past is s =
    let opening = stands_at (phase past) Opening (commands past) (length (waiting past)) (accepted past) is s.stands in
    let one : length (waiting past) ≡ 1 = opening.1 in
    let none : accepted past ≡ 0 = opening.2 in
    record {
      newest = refl;
      alternate = refl;
      lit = s.lit;
      stands = (omega arith, omega arith);
      few = λ keys. absurd (cc);
      two = s.two;
      owes = λ at due. inr (omega arith);
      readies = λ at. inr (refl, one);
    }

still_owed : (b : Bool) (n : ℕ) (due : Bool) → (if not b && eqb n 0 then false else due) ≡ true → (b ≡ true) ⊎ (1 ≤ n)
still_owed true n due is = inl refl
still_owed false zero due is = absurd (cc)
still_owed false (suc n) due is = inr (omega arith)

sound_accepted : (past : List Mark) → phase past ≡ Up → 1 ≤ length (waiting past) → ready past ≡ true → Sound past
    → Sound (Accepted ∷ past)
sound_accepted past is some got s =
    let up = stands_at (phase past) Up (commands past) (length (waiting past)) (accepted past) is s.stands in
    let less : length (drop 1 (waiting past)) ≡ length (waiting past) - 1 = length-drop 1 (waiting past) in
    let two : length (waiting past) ≤ 2 = s.two in
    record {
      newest = s.newest;
      alternate = s.alternate;
      lit = s.lit;
      stands = stands_at Up (phase past) (commands past) _ _ (sym is)
          (let sum : accepted past + length (waiting past) ≡ length (commands past) = up.0 in omega arith, up.1);
      few = λ keys. omega arith;
      two = omega arith;
      owes = λ at due. still_owed (on past) (length (drop 1 (waiting past))) (owed past) due;
      readies = λ at. inl got;
    }

pub sound_mark : (words : Words) (mark : Mark) (past : List Mark) → Allowed words mark past → Sound past
    → Sound (mark ∷ past)
sound_mark words (Turned now) past allowed s =
    made (Turned now ∷ past) s.newest s.alternate s.lit s.stands s.few s.two s.owes s.readies
sound_mark words Tried past allowed s = record {
  newest = refl;
  alternate = tt;
  lit = s.lit;
  stands = (refl, refl, refl);
  few = λ keys. omega arith;
  two = omega arith;
  owes = λ at due. absurd (cc);
  readies = λ at. absurd (cc);
}
sound_mark words Opened past allowed s = sound_opened past allowed s
sound_mark words Keyed past allowed s = sound_keyed words past allowed s
sound_mark words Released past allowed s = sound_released past allowed s
sound_mark words (Heard octet) past allowed s =
    made (Heard octet ∷ past) s.newest s.alternate s.lit s.stands s.few s.two s.owes s.readies
sound_mark words Accepted past allowed s = sound_accepted past allowed.0 allowed.1 allowed.2 s
sound_mark words Readied past allowed s =
    made (Readied ∷ past) s.newest s.alternate s.lit s.stands s.few s.two s.owes (λ at. inl refl)
sound_mark words (Lost why) past allowed s = record {
  newest = refl;
  alternate = tt;
  lit = s.lit;
  stands = (refl, refl, refl);
  few = λ keys. omega arith;
  two = omega arith;
  owes = λ at due. absurd (cc);
  readies = λ at. absurd (cc);
}
sound_mark words (Ticked sounds) past allowed s = record {
  newest = s.newest;
  alternate = s.alternate;
  lit = lit_more (on past) (lit past) s.lit allowed;
  stands = s.stands;
  few = s.few;
  two = s.two;
  owes = s.owes;
  readies = s.readies;
}
sound_mark words (Cut why) past allowed s =
    made (Cut why ∷ past) s.newest s.alternate s.lit s.stands s.few s.two s.owes s.readies
sound_mark words WriteFault past allowed s =
    made (WriteFault ∷ past) s.newest s.alternate s.lit s.stands s.few s.two s.owes s.readies
sound_mark words Ends past allowed s =
    made (Ends ∷ past) s.newest s.alternate s.lit s.stands s.few s.two s.owes s.readies

pub sound_nothing : Sound []
sound_nothing = record {
  newest = refl;
  alternate = tt;
  lit = omega arith;
  stands = (refl, refl, refl);
  few = λ keys. omega arith;
  two = omega arith;
  owes = λ at due. absurd (cc);
  readies = λ at. absurd (cc);
}

-- marks, the newest first
abbrev pub AllAllowed : Words → List Mark → List Mark → Type 0
AllAllowed words [] past = Unit {0}
AllAllowed words (mark ∷ marks) past = Allowed words mark (marks ++ past) × AllAllowed words marks past

pub sound_marks : (words : Words) (marks past : List Mark) → AllAllowed words marks past → Sound past
    → Sound (marks ++ past)
sound_marks words [] past allowed s = s
sound_marks words (mark ∷ marks) past allowed s =
    sound_mark words mark (marks ++ past) allowed.0 (sound_marks words marks past allowed.1 s)

-- ---- marks that neither key nor make a tick

abbrev pub Calm : Words → Mark → List Mark → Type 0
Calm words Keyed past = ⊥
Calm words (Ticked sounds) past = ⊥
Calm words mark past = Allowed words mark past

abbrev pub AllCalm : Words → List Mark → List Mark → Type 0
AllCalm words [] past = Unit {0}
AllCalm words (mark ∷ marks) past = Calm words mark (marks ++ past) × AllCalm words marks past

calm_allowed : (words : Words) (mark : Mark) (past : List Mark) → Calm words mark past → Allowed words mark past
calm_allowed words (Turned now) past calm = calm
calm_allowed words Tried past calm = calm
calm_allowed words Opened past calm = calm
calm_allowed words Keyed past calm = absurd calm
calm_allowed words Released past calm = calm
calm_allowed words (Heard octet) past calm = calm
calm_allowed words Accepted past calm = calm
calm_allowed words Readied past calm = calm
calm_allowed words (Lost why) past calm = calm
calm_allowed words (Ticked sounds) past calm = absurd calm
calm_allowed words (Cut why) past calm = calm
calm_allowed words WriteFault past calm = calm
calm_allowed words Ends past calm = calm

pub all_calm : (words : Words) (marks past : List Mark) → AllCalm words marks past → AllAllowed words marks past
all_calm words [] past calm = calm
all_calm words (mark ∷ marks) past calm =
    (calm_allowed words mark (marks ++ past) calm.0, all_calm words marks past calm.1)

-- The key stays off, and no tick is made.
pub record Same (before new : List Mark) : Type 0 where
  pub on : on new ≡ true → on before ≡ true
  pub ticks : ticks new ≡ ticks before
  pub lit : lit new ≡ lit before

calm_same : (words : Words) (mark : Mark) (past : List Mark) → Calm words mark past → Same past (mark ∷ past)
calm_same words (Turned now) past calm = record { on = λ is. is; ticks = refl; lit = refl }
calm_same words Tried past calm = record { on = λ is. absurd (cc); ticks = refl; lit = refl }
calm_same words Opened past calm = record { on = λ is. absurd (cc); ticks = refl; lit = refl }
calm_same words Keyed past calm = absurd calm
calm_same words Released past calm = record { on = λ is. absurd (cc); ticks = refl; lit = refl }
calm_same words (Heard octet) past calm = record { on = λ is. is; ticks = refl; lit = refl }
calm_same words Accepted past calm = record { on = λ is. is; ticks = refl; lit = refl }
calm_same words Readied past calm = record { on = λ is. is; ticks = refl; lit = refl }
calm_same words (Lost why) past calm = record { on = λ is. absurd (cc); ticks = refl; lit = refl }
calm_same words (Ticked sounds) past calm = absurd calm
calm_same words (Cut why) past calm = record { on = λ is. is; ticks = refl; lit = refl }
calm_same words WriteFault past calm = record { on = λ is. is; ticks = refl; lit = refl }
calm_same words Ends past calm = record { on = λ is. is; ticks = refl; lit = refl }

pub same_along : (first second third : List Mark) → Same first second → Same second third → Same first third
same_along first second third a b = record {
  on = λ is. a.on (b.on is);
  ticks = b.ticks ∙ a.ticks;
  lit = b.lit ∙ a.lit;
}

pub all_same : (words : Words) (marks past : List Mark) → AllCalm words marks past → Same past (marks ++ past)
all_same words [] past calm = record { on = λ is. is; ticks = refl; lit = refl }
all_same words (mark ∷ marks) past calm =
    same_along past (marks ++ past) (mark ∷ (marks ++ past)) (all_same words marks past calm.1)
    (calm_same words mark (marks ++ past) calm.0)

-- ---- marks of what is read on the line

abbrev pub Hears : Words → Mark → List Mark → Type 0
Hears words (Turned now) past = Unit {0}
Hears words (Heard octet) past = Unit {0}
Hears words Accepted past = Allowed words Accepted past
Hears words Readied past = Unit {0}
Hears words (Lost why) past = Unit {0}
Hears words _ past = ⊥

abbrev pub AllHeard : Words → List Mark → List Mark → Type 0
AllHeard words [] past = Unit {0}
AllHeard words (mark ∷ marks) past = Hears words mark (marks ++ past) × AllHeard words marks past

heard_calm : (words : Words) (mark : Mark) (past : List Mark) → Hears words mark past → Calm words mark past
heard_calm words (Turned now) past hears = hears
heard_calm words Tried past hears = absurd hears
heard_calm words Opened past hears = absurd hears
heard_calm words Keyed past hears = hears
heard_calm words Released past hears = absurd hears
heard_calm words (Heard octet) past hears = hears
heard_calm words Accepted past hears = hears
heard_calm words Readied past hears = hears
heard_calm words (Lost why) past hears = hears
heard_calm words (Ticked sounds) past hears = hears
heard_calm words (Cut why) past hears = absurd hears
heard_calm words WriteFault past hears = absurd hears
heard_calm words Ends past hears = absurd hears

pub all_heard : (words : Words) (marks past : List Mark) → AllHeard words marks past → AllCalm words marks past
all_heard words [] past hears = hears
all_heard words (mark ∷ marks) past hears =
    (heard_calm words mark (marks ++ past) hears.0, all_heard words marks past hears.1)

pub heard-append : (words : Words) (marks others past : List Mark) → AllHeard words marks (others ++ past)
    → AllHeard words others past → AllHeard words (marks ++ others) past
heard-append words [] others past first second = second
heard-append words (mark ∷ marks) others past first second =
    let P : List Mark → Type 0 = λ before. Hears words mark before in
    (subst P (sym (append_assoc marks others past)) first.0, heard-append words marks others past first.1 second)

-- the line was lost after it had got ready
pub record Gone (past : List Mark) : Type 0 where
  pub down : phase past ≡ Down
  pub got : ready past ≡ true
  pub why : Why
  pub loss : last_loss past ≡ Some why

-- the key is on, or the line was lost
abbrev pub OnOrGone : List Mark → Type 0
OnOrGone past = (on past ≡ true) ⊎ Gone past

gone_more : (words : Words) (mark : Mark) (past : List Mark) → Hears words mark past → Gone past → Gone (mark ∷ past)
gone_more words (Turned now) past hears g = record { down = g.down; got = g.got; why = g.why; loss = g.loss }
gone_more words Tried past hears g = absurd hears
gone_more words Opened past hears g = absurd hears
gone_more words Keyed past hears g = absurd hears
gone_more words Released past hears g = absurd hears
gone_more words (Heard octet) past hears g = record { down = g.down; got = g.got; why = g.why; loss = g.loss }
gone_more words Accepted past hears g = record { down = g.down; got = g.got; why = g.why; loss = g.loss }
gone_more words Readied past hears g = record { down = g.down; got = refl; why = g.why; loss = g.loss }
gone_more words (Lost why) past hears g = record { down = refl; got = g.got; why = why; loss = refl }
gone_more words (Ticked sounds) past hears g = absurd hears
gone_more words (Cut why) past hears g = absurd hears
gone_more words WriteFault past hears g = absurd hears
gone_more words Ends past hears g = absurd hears

on_more : (words : Words) (mark : Mark) (past : List Mark) → Hears words mark past → Sound past → on past ≡ true
    → OnOrGone (mark ∷ past)
on_more words (Turned now) past hears s keyed = inl keyed
on_more words Tried past hears s keyed = absurd hears
on_more words Opened past hears s keyed = absurd hears
on_more words Keyed past hears s keyed = absurd hears
on_more words Released past hears s keyed = absurd hears
on_more words (Heard octet) past hears s keyed = inl keyed
on_more words Accepted past hears s keyed = inl keyed
on_more words Readied past hears s keyed = inl keyed
on_more words (Lost why) past hears s keyed = inr (record {
  down = refl;
  got = ready_on past keyed s;
  why = why;
  loss = refl;
})
on_more words (Ticked sounds) past hears s keyed = absurd hears
on_more words (Cut why) past hears s keyed = absurd hears
on_more words WriteFault past hears s keyed = absurd hears
on_more words Ends past hears s keyed = absurd hears

pub on_or_gone : (words : Words) (marks past : List Mark) → AllHeard words marks past → Sound past → OnOrGone past
    → OnOrGone (marks ++ past)
on_or_gone words [] past hears s is = is
on_or_gone words (mark ∷ marks) past hears s is =
    let before : OnOrGone (marks ++ past) = on_or_gone words marks past hears.1 s is in
    let sound : Sound (marks ++ past) =
    sound_marks words marks past (all_calm words marks past (all_heard words marks past hears.1)) s in
    elim before [
      | inl keyed ↦ on_more words mark (marks ++ past) hears.0 sound keyed
      | inr gone ↦ inr (gone_more words mark (marks ++ past) hears.0 gone)
    ]
