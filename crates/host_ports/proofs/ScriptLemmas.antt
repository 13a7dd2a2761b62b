-- Events of a script, one more at a time.
use Rattle.host_ports.proofs.Common.{◌≢◌, zero, suc, ◌==◌, ◌||◌, Bool, true, false, List, ◌∷◌, All, if◌then◌else◌}
use Rattle.host_ports.proofs.Common.{list_any, sym, ◌∙◌, ap, subst, arith, inl, inr, get_or, set, append_assoc, eqb-true}
use Rattle.host_ports.proofs.Common.{eq-eqb, ne_eqb, or_left, or_right, cases_Bool, cond-true, cond-false, false≢true}
use Rattle.host_ports.proofs.Common.{true≢false, take_more, append-nil, map-append, length-map, length-take-le}
use Rattle.host_ports.proofs.Common.{All-append, list_any-append, HostEvent, Joined, Bytes, Left, Poll, is_octets_of}
use Rattle.host_ports.proofs.Common.{is_joining_of, MayCome, IsWholePiece, has_come, has_dialed, scripted_for}
use Rattle.host_ports.proofs.Common.{has_to_wait, waiting_of, given_of, joined_in, joined_of, due_of, was_shut, shut_one}
use Rattle.host_ports.proofs.Common.{with_shut}
use Rattle.std.specs.Prelude.{◌≡◌, ℕ, ◌+◌, ◌<◌, [], ◌++◌, length, take, drop, refl}
use Rattle.std.proofs.Common.{add-one}
use Rattle.std.proofs.Math.Seq.{drop-cons, set-append_seam, get_or-append_seam}
use Rattle.std.proofs.lemmas.List.Folds.{list_any_at}
use Rattle.host_ports.specs.declared.records.Came.{Came}
use Rattle.host_ports.specs.declared.records.Dial.{Dial}
use Rattle.host_ports.specs.Sockets.{id_of}
use Rattle.host_ports.specs.Scripts.{is_paused}

-- ---- lists that are gone through once

joined_in-append : (xs ys : List HostEvent) → joined_in (xs ++ ys) ≡ joined_in xs ++ joined_in ys
joined_in-append [] ys = refl
joined_in-append (x ∷ xs) ys = ap (λ more. joined_of x ++ more) (joined_in-append xs ys)
    ∙ sym (append_assoc (joined_of x) (joined_in xs) (joined_in ys))

pub joined_in_more : (events : List HostEvent) (i : ℕ) (d : HostEvent) → i < length events
    → joined_in (take (i + 1) events) ≡ joined_in (take i events) ++ joined_of (get_or events i d)
joined_in_more events i d within =
    ap joined_in (take_more events i d within) ∙ joined_in-append (take i events) (get_or events i d ∷ [])
    ∙ ap (λ more. joined_in (take i events) ++ more) (append-nil (joined_of (get_or events i d)))

scripted_for-append : (number : ℕ) (xs ys : List (ℕ × HostEvent))
    → scripted_for number (xs ++ ys) ≡ scripted_for number xs ++ scripted_for number ys
scripted_for-append number [] ys = refl
scripted_for-append number (x ∷ xs) ys =
    ap (λ more. due_of number x ++ more) (scripted_for-append number xs ys)
    ∙ sym (append_assoc (due_of number x) (scripted_for number xs) (scripted_for number ys))

pub scripted_for_more : (number : ℕ) (script : List (ℕ × HostEvent)) (i : ℕ) (d : ℕ × HostEvent) → i < length script
    → scripted_for number (take (i + 1) script) ≡ scripted_for number (take i script)
    ++ due_of number (get_or script i d)
scripted_for_more number script i d within =
    ap (scripted_for number) (take_more script i d within)
    ∙ scripted_for-append number (take i script) (get_or script i d ∷ [])
    ∙ ap (λ more. scripted_for number (take i script) ++ more) (append-nil (due_of number (get_or script i d)))

-- ---- what is given and what waits

abbrev pub given_one : List ℕ → List HostEvent → HostEvent → List HostEvent
given_one paused before event = if has_to_wait paused (before ++ event ∷ []) event then [] else event ∷ []

abbrev pub waiting_one : List ℕ → List HostEvent → HostEvent → List HostEvent
waiting_one paused before event = if has_to_wait paused (before ++ event ∷ []) event then event ∷ [] else []

given_of-snoc : (paused : List ℕ) (before xs : List HostEvent) (x : HostEvent)
    → given_of paused before (xs ++ x ∷ []) ≡ given_of paused before xs ++ given_one paused (before ++ xs) x
given_of-snoc paused before [] x = append-nil (given_one paused before x)
    ∙ ap (λ b. given_one paused b x) (sym (append-nil before))
given_of-snoc paused before (y ∷ xs) x =
    ap (λ more. given_one paused before y ++ more) (given_of-snoc paused (before ++ y ∷ []) xs x
    ∙ ap (λ b. given_of paused (before ++ y ∷ []) xs ++ given_one paused b x) (append_assoc before (y ∷ []) xs))
    ∙ sym (append_assoc (given_one paused before y) (given_of paused (before ++ y ∷ []) xs)
    (given_one paused (before ++ y ∷ xs) x))

waiting_of-snoc : (paused : List ℕ) (before xs : List HostEvent) (x : HostEvent)
    → waiting_of paused before (xs ++ x ∷ []) ≡ waiting_of paused before xs ++ waiting_one paused (before ++ xs) x
waiting_of-snoc paused before [] x = append-nil (waiting_one paused before x)
    ∙ ap (λ b. waiting_one paused b x) (sym (append-nil before))
waiting_of-snoc paused before (y ∷ xs) x =
    ap (λ more. waiting_one paused before y ++ more) (waiting_of-snoc paused (before ++ y ∷ []) xs x
    ∙ ap (λ b. waiting_of paused (before ++ y ∷ []) xs ++ waiting_one paused b x) (append_assoc before (y ∷ []) xs))
    ∙ sym (append_assoc (waiting_one paused before y) (waiting_of paused (before ++ y ∷ []) xs)
    (waiting_one paused (before ++ y ∷ xs) x))

abbrev pub waits_at : List ℕ → List HostEvent → ℕ → HostEvent → Bool
waits_at paused events i event = has_to_wait paused (take (i + 1) events) event

pub given_more : (paused : List ℕ) (events : List HostEvent) (i : ℕ) (d : HostEvent) → i < length events
    → given_of paused [] (take (i + 1) events) ≡ given_of paused [] (take i events)
    ++ (if waits_at paused events i (get_or events i d) then [] else get_or events i d ∷ [])
given_more paused events i d within =
    let one : HostEvent = get_or events i d in
    ap (given_of paused []) (take_more events i d within) ∙ given_of-snoc paused [] (take i events) one
    ∙ ap (λ upto. given_of paused [] (take i events) ++ (if has_to_wait paused upto one then [] else one ∷ []))
    (sym (take_more events i d within))

pub waiting_more : (paused : List ℕ) (events : List HostEvent) (i : ℕ) (d : HostEvent) → i < length events
    → waiting_of paused [] (take (i + 1) events) ≡ waiting_of paused [] (take i events)
    ++ (if waits_at paused events i (get_or events i d) then get_or events i d ∷ [] else [])
waiting_more paused events i d within =
    let one : HostEvent = get_or events i d in
    ap (waiting_of paused []) (take_more events i d within) ∙ waiting_of-snoc paused [] (take i events) one
    ∙ ap (λ upto. waiting_of paused [] (take i events) ++ (if has_to_wait paused upto one then one ∷ [] else []))
    (sym (take_more events i d within))

-- ---- what is told

or_nothing : (b : Bool) → (b || false) ≡ b
or_nothing true = refl
or_nothing false = refl

both_false : (b c : Bool) → c ≡ false → ((if b then false else false) || c) ≡ false
both_false true c is = is
both_false false c is = is

joins_open : (b : Bool) (other : ℕ) (events : List HostEvent) (id : ℕ) → was_shut (joined_in events) id ≡ false
    → was_shut ((if b then (record { id = other; shut = false }) ∷ [] else []) ++ joined_in events) id ≡ false
joins_open false other events id unshut = unshut
joins_open true other events id unshut = both_false (other == id) (was_shut (joined_in events) id) unshut

none_shut : (events : List HostEvent) (id : ℕ) → was_shut (joined_in events) id ≡ false
none_shut [] id = refl
none_shut (Joined other kind ∷ events) id = joins_open (other == other) other events id (none_shut events id)
none_shut (Bytes other octets ∷ events) id = none_shut events id
none_shut (Left other ∷ events) id = none_shut events id

pub was_shut-joined : (came : List Came) (events : List HostEvent) (id : ℕ)
    → was_shut (came ++ joined_in events) id ≡ was_shut came id
was_shut-joined came events id =
    list_any-append (λ one. if one.id == id then one.shut else false) came (joined_in events)
    ∙ ap (λ b. was_shut came id || b) (none_shut events id) ∙ or_nothing (was_shut came id)

abbrev pub shows_shut : ℕ → Came → Bool
shows_shut id one = if one.id == id then one.shut else false

pub with_shut-itself : (id : ℕ) (came : List Came) → list_any (λ one. one.id == id) came ≡ true
    → was_shut (with_shut id came) id ≡ true
with_shut-itself id [] found = absurd (false≢true found)
with_shut-itself id (one ∷ came) found = elim (cases_Bool (one.id == id)) [
  | inl holds ↦ or_left (shows_shut id (shut_one id one)) (was_shut (with_shut id came) id)
      (ap (shows_shut id) (cond-true (one.id == id) (record one { shut = true }) one holds)
      ∙ cond-true (one.id == id) true false holds)
  | inr fails ↦ or_right (shows_shut id (shut_one id one)) (was_shut (with_shut id came) id)
      (with_shut-itself id came (sym (ap (λ b. b || list_any (λ other. other.id == id) came) fails) ∙ found))
]

shut_other : (id other : ℕ) (one : Came) → other ≢ id → shows_shut other (shut_one id one) ≡ shows_shut other one
shut_other id other one differs = elim (cases_Bool (one.id == id)) [
  | inl holds ↦
      let not_other : (one.id == other) ≡ false = ne_eqb one.id other
      (λ same. differs (sym same ∙ eqb-true one.id id holds)) in
      ap (shows_shut other) (cond-true (one.id == id) (record one { shut = true }) one holds)
      ∙ cond-false (one.id == other) true false not_other ∙ sym (cond-false (one.id == other) one.shut false not_other)
  | inr fails ↦ ap (shows_shut other) (cond-false (one.id == id) (record one { shut = true }) one fails)
]

pub with_shut-others : (id : ℕ) (came : List Came) (other : ℕ) → other ≢ id
    → was_shut (with_shut id came) other ≡ was_shut came other
with_shut-others id [] other differs = refl
with_shut-others id (one ∷ came) other differs =
    ap (λ b. b || was_shut (with_shut id came) other) (shut_other id other one differs)
    ∙ ap (λ b. shows_shut other one || b) (with_shut-others id came other differs)

shut_id : (id : ℕ) (one : Came) → (shut_one id one).id ≡ one.id
shut_id id one = elim (cases_Bool (one.id == id)) [
  | inl holds ↦ ap (λ (o : Came). o.id) (cond-true (one.id == id) (record one { shut = true }) one holds)
  | inr fails ↦ ap (λ (o : Came). o.id) (cond-false (one.id == id) (record one { shut = true }) one fails)
]

-- nobody comes or goes
pub with_shut-ids : (id other : ℕ) (came : List Came) → list_any (λ one. one.id == other) (with_shut id came)
    ≡ list_any (λ one. one.id == other) came
with_shut-ids id other [] = refl
with_shut-ids id other (one ∷ came) =
    ap (λ n. (n == other) || list_any (λ one. one.id == other) (with_shut id came)) (shut_id id one)
    ∙ ap (λ b. (one.id == other) || b) (with_shut-ids id other came)

-- ---- what is given may come

octets_id : (event : HostEvent) (id : ℕ) → is_octets_of id event ≡ true → id_of event ≡ id
octets_id (Joined other kind) id octets = absurd (false≢true octets)
octets_id (Bytes other text) id octets = eqb-true other id octets
octets_id (Left other) id octets = absurd (false≢true octets)

may_come_one : (paused : List ℕ) (before : List HostEvent) (event : HostEvent) → IsWholePiece event
    → has_to_wait paused (before ++ event ∷ []) event ≡ false → MayCome paused event
may_come_one paused before event piece goes = record {
  piece = piece;
  not_paused = λ k d within octets.
      let id : ℕ = get_or paused k d in
      let same : id_of event ≡ id = octets_id event id octets in
      let is_one : is_paused paused (id_of event) ≡ true =
      list_any_at (λ other. other == id_of event) paused k d within (eq-eqb id (id_of event) (sym same)) in
      let last : list_any (is_octets_of (id_of event)) (before ++ event ∷ []) ≡ true =
      list_any-append (is_octets_of (id_of event)) before (event ∷ [])
      ∙ or_right (list_any (is_octets_of (id_of event)) before) (list_any (is_octets_of (id_of event)) (event ∷ []))
      (or_left (is_octets_of (id_of event) event) false (subst (λ n. is_octets_of n event ≡ true) (sym same) octets)) in
      true≢false (sym (cond-true (is_paused paused (id_of event))
      (list_any (is_octets_of (id_of event)) (before ++ event ∷ [])) false is_one ∙ last) ∙ goes);
}

only : {X : Type 0} (P : X → Type 0) (x : X) → P x → All P (x ∷ [])
only P x p zero d within = p
only P x p (suc k) d within = absurd (omega (arith, within))

pub given_may_come : (paused : List ℕ) (before events : List HostEvent) → All IsWholePiece events
    → All (MayCome paused) (given_of paused before events)
given_may_come paused before [] pieces = λ k d within. absurd (omega (arith, within))
given_may_come paused before (event ∷ events) pieces =
    All-append (MayCome paused) (given_one paused before event) (given_of paused (before ++ event ∷ []) events)
    (elim (cases_Bool (has_to_wait paused (before ++ event ∷ []) event)) [
      | inl waits ↦ subst (All (MayCome paused))
          (sym (cond-true (has_to_wait paused (before ++ event ∷ []) event) [] (event ∷ []) waits))
          (λ k d within. absurd (omega (arith, within)))
      | inr goes ↦ subst (All (MayCome paused))
          (sym (cond-false (has_to_wait paused (before ++ event ∷ []) event) [] (event ∷ []) goes))
          (only (MayCome paused) event (may_come_one paused before event (pieces 0 event (omega arith)) goes))
    ])
    (given_may_come paused (before ++ event ∷ []) events (λ k d within. pieces (suc k) d (omega (arith, within))))

-- one more of them is shut
pub shut_more : (id i : ℕ) (came now next : List Came) (d : Came) → i < length came
    → now ≡ with_shut id (take i came) ++ drop i came → next ≡ set now i (shut_one id (get_or now i d))
    → next ≡ with_shut id (take (i + 1) came) ++ drop (i + 1) came
shut_more id i came now next d within is_now is_next =
    let one : Came = get_or came i d in
    let long : length (with_shut id (take i came)) ≡ i = length-map (take i came) (shut_one id)
    ∙ length-take-le i came (omega (arith, within)) in
    let here : now ≡ with_shut id (take i came) ++ one ∷ drop (i + 1) came = is_now
    ∙ ap (λ rest. with_shut id (take i came) ++ rest) (drop-cons came i d within
    ∙ ap (λ n. one ∷ drop n came) (sym (add-one i))) in
    let same : get_or now i d ≡ one = ap (λ xs. get_or xs i d) here
    ∙ subst (λ n. get_or (with_shut id (take i came) ++ one ∷ drop (i + 1) came) n d ≡ one) long
    (get_or-append_seam (with_shut id (take i came)) one (drop (i + 1) came) d) in
    is_next ∙ ap (λ x. set now i (shut_one id x)) same ∙ ap (λ xs. set xs i (shut_one id one)) here
    ∙ subst (λ n. set (with_shut id (take i came) ++ one ∷ drop (i + 1) came) n (shut_one id one)
    ≡ with_shut id (take i came) ++ shut_one id one ∷ drop (i + 1) came) long
    (set-append_seam (with_shut id (take i came)) one (drop (i + 1) came) (shut_one id one))
    ∙ sym (append_assoc (with_shut id (take i came)) (shut_one id one ∷ []) (drop (i + 1) came))
    ∙ ap (λ xs. xs ++ drop (i + 1) came) (sym (map-append (shut_one id) (take i came) (one ∷ []))
    ∙ ap (with_shut id) (sym (take_more came i d within)))

-- ---- what came, and what waits

whole_due : (number : ℕ) (entry : ℕ × HostEvent) (b : Bool) → IsWholePiece entry.1
    → All IsWholePiece (if b then entry.1 ∷ [] else [])
whole_due number entry true whole = only IsWholePiece entry.1 whole
whole_due number entry false whole = λ k d within. absurd (omega (arith, within))

pub whole_scripted : (number : ℕ) (script : List (ℕ × HostEvent)) → All (λ entry. IsWholePiece entry.1) script
    → All IsWholePiece (scripted_for number script)
whole_scripted number [] whole = λ k d within. absurd (omega (arith, within))
whole_scripted number (entry ∷ script) whole =
    All-append IsWholePiece (due_of number entry) (scripted_for number script)
    (whole_due number entry (entry.0 == number) (whole 0 entry (omega arith)))
    (whole_scripted number script (λ k d within. whole (suc k) d (omega (arith, within))))

whole_one : (b : Bool) (event : HostEvent) → IsWholePiece event → All IsWholePiece (if b then event ∷ [] else [])
whole_one true event whole = only IsWholePiece event whole
whole_one false event whole = λ k d within. absurd (omega (arith, within))

pub whole_waiting : (paused : List ℕ) (before events : List HostEvent) → All IsWholePiece events
    → All IsWholePiece (waiting_of paused before events)
whole_waiting paused before [] whole = λ k d within. absurd (omega (arith, within))
whole_waiting paused before (event ∷ events) whole =
    All-append IsWholePiece (waiting_one paused before event) (waiting_of paused (before ++ event ∷ []) events)
    (whole_one (has_to_wait paused (before ++ event ∷ []) event) event (whole 0 event (omega arith)))
    (whole_waiting paused (before ++ event ∷ []) events (λ k d within. whole (suc k) d (omega (arith, within))))

-- who joins has come
pub joins_come : (id : ℕ) (events : List HostEvent) → list_any (is_joining_of id) events
    ≡ list_any (λ one. one.id == id) (joined_in events)
joins_come id [] = refl
joins_come id (Joined other kind ∷ events) =
    ap (λ b. (other == id) || b) (joins_come id events)
    ∙ sym (ap (λ b. list_any (λ (one : Came). one.id == id)
    ((if b then (record { id = other; shut = false }) ∷ [] else []) ++ joined_in events)) (eq-eqb other other refl))
joins_come id (Bytes other octets ∷ events) = joins_come id events
joins_come id (Left other ∷ events) = joins_come id events

pub has_come_more : (id : ℕ) (polls : List Poll) (poll : Poll)
    → has_come id (polls ++ poll ∷ []) ≡ (has_come id polls || list_any (is_joining_of id) poll.events)
has_come_more id polls poll =
    list_any-append (λ (one : Poll). list_any (is_joining_of id) one.events) polls (poll ∷ [])
    ∙ ap (λ b. has_come id polls || b) (or_nothing (list_any (is_joining_of id) poll.events))

-- the connection is among these
abbrev pub is_one_of : ℕ → List Came → Bool
is_one_of id came = list_any (λ one. one.id == id) came

either_comes : (a b c d : Bool) → (a ≡ true → c ≡ true) → b ≡ d → (a || b) ≡ true → (c || d) ≡ true
either_comes true b c d f same h = or_left c d (f refl)
either_comes false b c d f same h = or_right c d (sym same ∙ h)

-- everybody so far is among those that came
pub come_more : (id : ℕ) (polls : List Poll) (poll : Poll) (came : List Came)
    → (has_come id polls ≡ true → is_one_of id came ≡ true) → has_come id (polls ++ poll ∷ []) ≡ true
    → is_one_of id (came ++ joined_in poll.events) ≡ true
come_more id polls poll came before comes =
    list_any-append (λ (one : Came). one.id == id) came (joined_in poll.events)
    ∙ either_comes (has_come id polls) (list_any (is_joining_of id) poll.events) (is_one_of id came)
    (is_one_of id (joined_in poll.events)) before (joins_come id poll.events)
    (sym (has_come_more id polls poll) ∙ comes)

pub come_in_vain : (id : ℕ) (polls : List Poll) (poll : Poll) → poll.events ≡ []
    → has_come id (polls ++ poll ∷ []) ≡ has_come id polls
come_in_vain id polls poll none =
    has_come_more id polls poll ∙ ap (λ events. has_come id polls || list_any (is_joining_of id) events) none
    ∙ or_nothing (has_come id polls)

pub still_one_of : (id : ℕ) (came more : List Came) → is_one_of id came ≡ true → is_one_of id (came ++ more) ≡ true
still_one_of id came more is_one =
    list_any-append (λ (one : Came). one.id == id) came more ∙ or_left (is_one_of id came) (is_one_of id more) is_one

-- and everybody who was dialed
pub dialed_more : (id : ℕ) (dials : List Dial) (dial : Dial) (came : List Came)
    → (has_dialed id dials ≡ true → is_one_of id came ≡ true) → has_dialed id (dials ++ dial ∷ []) ≡ true
    → is_one_of id (came ++ (record { id = dial.id; shut = false }) ∷ []) ≡ true
dialed_more id dials dial came before dialed =
    list_any-append (λ (one : Came). one.id == id) came ((record { id = dial.id; shut = false }) ∷ [])
    ∙ either_comes (has_dialed id dials) ((dial.id == id) || false) (is_one_of id came) ((dial.id == id) || false)
    before refl (sym (list_any-append (λ (one : Dial). one.id == id) dials (dial ∷ [])) ∙ dialed)

-- one that is dialed is not shut
pub was_shut-dialed : (came : List Came) (other id : ℕ)
    → was_shut (came ++ (record { id = other; shut = false }) ∷ []) id ≡ was_shut came id
was_shut-dialed came other id =
    list_any-append (λ one. if one.id == id then one.shut else false) came ((record { id = other; shut = false }) ∷ [])
    ∙ ap (λ b. was_shut came id || (b || false)) (never (other == id)) ∙ or_nothing (was_shut came id)
  where
    never : (b : Bool) → (if b then false else false) ≡ false
    never true = refl
    never false = refl
