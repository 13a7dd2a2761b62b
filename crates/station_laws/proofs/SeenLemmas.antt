-- The set-ups of a link's ends are those that are seen at its stations.
use Rattle.station_laws.proofs.Common.{◌≡◌, ℕ, Bool, true, false, List, [], ◌∷◌, ◌++◌, length, map, cond, Option, Some}
use Rattle.station_laws.proofs.Common.{None, is_some, refl, sym, ap, ◌∙◌, subst, map-append, recursion_from_All, Path}
use Rattle.station_laws.proofs.Common.{Frame, Packet, Told, Opened, Given, Ended, LinkState, Idle, Calling, Up}
use Rattle.station_laws.proofs.Common.{Releasing, Machine, End, A, B, made_in, run_changes, Tagged, RecordedEnd}
use Rattle.station_laws.proofs.Common.{Happening, following, Connects, Sends, Disconnects, Seizes, Ticks, Hears, World}
use Rattle.station_laws.proofs.Common.{seen_from}
use Rattle.station_laws.proofs.Common.{other, near_turn, turn_of, hearing_as, hearing_first, read_in, Step, at_end}
use Rattle.station_laws.proofs.Common.{Calls, Pairs, Counts, link_at_end, count_at, with_more, event_at_end, makes}
use Rattle.station_laws.proofs.Common.{heard_at, changes_by, all_changes_by, changes_from, FollowsAll, FollowsThrough}
use Rattle.station_laws.proofs.Common.{first_world, LinkStep, steps_of, link_steps_at}
use Rattle.std.proofs.Common.{fold}
use Rattle.std.specs.List.{AllByRecursion as Each}
use Rattle.link_machine.specs.Event.{Event as LinkEvent}
use Rattle.link_machine.specs.Event.Event.{Connect as LinkConnect, Send as LinkSend, Disconnect as LinkDisconnect}
use Rattle.link_machine.specs.Event.Event.{Hear as LinkHear, Seize as LinkSeize, Tick as LinkTick}
use Rattle.link_machine.specs.Step.{refusal_of, step as link_turn}
use Rattle.link_machine.specs.Turn.{Turn as LinkTurn}
use Rattle.link_world.specs.Flight.{is_numbered}
use Rattle.link_world.specs.Recorded.{accepts, taking, hearing, noting, opening, told_of, waiting_in, end_turn}
use Rattle.link_world.specs.SetUps.{SetUp, giving, getting, acting, change_last, last_changed}
use Rattle.station_laws.specs.SetUpsSeen.{Seen, last_seen_changed, change_last_seen, with_given, with_got, seen_giving}
use Rattle.station_laws.specs.SetUpsSeen.{seen_told, seen_by, seen_by_all, IsGivenWhileUp, as_seen, SetUpsLaw}
use Rattle.station_laws.proofs.Along.{makes_near, near_by, by_seen, makes_seen, run_changes-append}
use Rattle.station_laws.proofs.JointLaw.{following_law_holds}

-- ---- lists of set-ups

abbrev all_seen : List SetUp → List Seen
all_seen set_ups = map as_seen set_ups

last_seen :
    (f : SetUp → SetUp) (g : Seen → Seen) → ((q : SetUp) → as_seen (f q) ≡ g (as_seen q))
    → (q : SetUp) (rest : List SetUp)
    → all_seen (last_changed f q rest) ≡ last_seen_changed g (as_seen q) (all_seen rest)
last_seen f g same q [] = ap (λ s. s ∷ []) (same q)
last_seen f g same q (next ∷ rest) = ap (λ xs. as_seen q ∷ xs) (last_seen f g same next rest)

changed_seen :
    (f : SetUp → SetUp) (g : Seen → Seen) → ((q : SetUp) → as_seen (f q) ≡ g (as_seen q)) → (set_ups : List SetUp)
    → all_seen (change_last f set_ups) ≡ change_last_seen g (all_seen set_ups)
changed_seen f g same [] = refl
changed_seen f g same (q ∷ rest) = last_seen f g same q rest

-- a change that is not seen
last_unseen :
    (f : SetUp → SetUp) → ((q : SetUp) → as_seen (f q) ≡ as_seen q) → (q : SetUp) (rest : List SetUp)
    → all_seen (last_changed f q rest) ≡ all_seen (q ∷ rest)
last_unseen f same q [] = ap (λ s. s ∷ []) (same q)
last_unseen f same q (next ∷ rest) = ap (λ xs. as_seen q ∷ xs) (last_unseen f same next rest)

unchanged_seen :
    (f : SetUp → SetUp) → ((q : SetUp) → as_seen (f q) ≡ as_seen q) → (set_ups : List SetUp)
    → all_seen (change_last f set_ups) ≡ all_seen set_ups
unchanged_seen f same [] = refl
unchanged_seen f same (q ∷ rest) = last_unseen f same q rest

-- what is told, if a set-up that opens has nothing given yet
told_seen :
    (next : SetUp) → next.given ≡ [] → next.got ≡ [] → (told : List Told) (set_ups : List SetUp)
    → all_seen (fold (told_of next) set_ups told) ≡ fold seen_told (all_seen set_ups) told
told_seen next given got [] set_ups = refl
told_seen next given got (item ∷ told) set_ups =
    told_seen next given got told (told_of next set_ups item) ∙ ap (λ xs. fold seen_told xs told) (one item)
  where
    fresh : as_seen next ≡ (let s : Seen = record { given = []; got = [] } in s)
    fresh =
        ap (λ g. let s : Seen = record { given = g; got = next.got } in s) given
        ∙ ap (λ g. let s : Seen = record { given = []; got = g } in s) got

    one : (t : Told) → all_seen (told_of next set_ups t) ≡ seen_told (all_seen set_ups) t
    one (Opened ours) =
        map-append as_seen set_ups (next ∷ []) ∙ ap (λ s. all_seen set_ups ++ s ∷ []) fresh
    one (Given packet) = changed_seen (getting packet) (with_got packet) (λ q. refl) set_ups
    one (Ended why) = refl

-- ---- an event of an end

-- nothing waits for a call, and the set-ups are seen
record SeenEnd (r : RecordedEnd) (seen : List Seen) : Type 0 where
  waits : r.waiting ≡ []
  seen_are : all_seen r.set_ups ≡ seen

none_waits : (state : LinkState) (waiting : List Packet) → waiting ≡ [] → waiting_in state waiting ≡ []
none_waits Idle waiting is = refl
none_waits Calling waiting is = is
none_waits Up waiting is = refl
none_waits Releasing waiting is = refl

after_seen :
    (h : Happening) (r noted : RecordedEnd) (turn : LinkTurn) (seen : List Seen) → noting h r ≡ noted
    → SeenEnd noted seen
    → SeenEnd (following h r turn) (fold seen_told seen turn.told)
after_seen h r noted turn seen is s =
    subst (λ (n : RecordedEnd). SeenEnd (record {
      machine = turn.now;
      set_ups = fold (told_of (opening h n turn)) n.set_ups turn.told;
      waiting = waiting_in turn.now.control.state n.waiting;
    }) (fold seen_told seen turn.told)) (sym is) (record {
      waits = none_waits turn.now.control.state noted.waiting s.waits;
      seen_are = told_seen (opening h noted turn) s.waits refl turn.told noted.set_ups
          ∙ ap (λ xs. fold seen_told xs turn.told) s.seen_are;
    })

-- a packet that is taken
send_noted :
    (packet : Packet) (r : RecordedEnd) (seen : List Seen) → r.machine.control.state ≡ Up
    → refusal_of r.machine (LinkSend packet) ≡ None → SeenEnd r seen
    → SeenEnd (noting (Sends packet) r) (change_last_seen (with_given packet) seen)
send_noted packet r seen up taken s =
    let is : noting (Sends packet) r ≡ record r { set_ups = change_last (giving packet) r.set_ups } =
    ap (λ o. cond (is_some o) r (taking r.machine.control.state packet r)) taken ∙ ap (λ st. taking st packet r) up in
    subst (λ (n : RecordedEnd). SeenEnd n (change_last_seen (with_given packet) seen)) (sym is) (record {
      waits = s.waits;
      seen_are = changed_seen (giving packet) (with_given packet) (λ q. refl) r.set_ups
          ∙ ap (change_last_seen (with_given packet)) s.seen_are;
    })

-- a frame that is heard
heard_noted : (f : Tagged) (r : RecordedEnd) (seen : List Seen) → SeenEnd r seen → SeenEnd (noting (Hears f) r) seen
heard_noted f r seen s = go r.machine.control.state
  where
    up : (b : Bool) → SeenEnd (cond b (record r {
      set_ups = change_last (acting f.set_up (accepts r.machine f.frame.kind)) r.set_ups;
    }) r) seen
    up false = s
    up true = record {
      waits = s.waits;
      seen_are = unchanged_seen (acting f.set_up (accepts r.machine f.frame.kind)) (λ q. refl) r.set_ups ∙ s.seen_are;
    }

    go : (state : LinkState) → SeenEnd (hearing state f r) seen
    go Idle = s
    go Calling = s
    go Up = up (is_numbered f.frame.kind)
    go Releasing = s

by_told : (now : RecordedEnd) (seen : List Seen) (a b : List Told) → a ≡ b → SeenEnd now (fold seen_told seen a)
    → SeenEnd now (fold seen_told seen b)
by_told now seen a b is s = subst (λ t. SeenEnd now (fold seen_told seen t)) is s

-- the front one of those in flight, if there is one and it is read
heard_seen :
    (towards : List Tagged) (r : RecordedEnd) (seen : List Seen) (told : List Told) → SeenEnd r seen
    → (turn_of (hearing_first r.machine.incoming.modulus towards) r).told ≡ told
    → SeenEnd (turn_of (hearing_first r.machine.incoming.modulus towards) r).now (fold seen_told seen told)
heard_seen [] r seen told s is = by_told r seen [] told is s
heard_seen (f ∷ rest) r seen told s is = go (read_in r.machine.incoming.modulus f) is
  where
    go : (o : Option Frame) → (turn_of (hearing_as f o) r).told ≡ told
        → SeenEnd (turn_of (hearing_as f o) r).now (fold seen_told seen told)
    go None e = by_told r seen [] told e s
    go (Some g) e =
        let h : Happening = Hears (record f { frame = g }) in
        by_told (end_turn h r).now seen (end_turn h r).told told e
        (after_seen h r (noting h r) (link_turn r.machine (LinkHear g)) seen refl
        (heard_noted (record f { frame = g }) r seen s))

event_seen :
    (e : End) (event : LinkEvent) (v : World) (machine : Machine) (seen : List Seen) → v.a.end.machine ≡ machine
    → (near_turn (event_at_end e event) v).told ≡ (link_turn machine event).told → IsGivenWhileUp event machine
    → SeenEnd v.a.end seen
    → SeenEnd (near_turn (event_at_end e event) v).now
    (fold seen_told (seen_giving event seen) (link_turn machine event).told)
event_seen e LinkConnect v machine seen is told given s =
    by_told (near_turn (event_at_end e LinkConnect) v).now seen (link_turn v.a.end.machine LinkConnect).told
    (link_turn machine LinkConnect).told told
    (after_seen Connects v.a.end v.a.end (link_turn v.a.end.machine LinkConnect) seen refl s)
event_seen e (LinkSend packet) v machine seen is told given s =
    let up = ap (λ (m : Machine). m.control.state) is ∙ given.0 in
    let taken = ap (λ m. refusal_of m (LinkSend packet)) is ∙ given.1 in
    by_told (near_turn (event_at_end e (LinkSend packet)) v).now (change_last_seen (with_given packet) seen)
    (link_turn v.a.end.machine (LinkSend packet)).told (link_turn machine (LinkSend packet)).told told
    (after_seen (Sends packet) v.a.end (noting (Sends packet) v.a.end) (link_turn v.a.end.machine (LinkSend packet))
    (change_last_seen (with_given packet) seen) refl (send_noted packet v.a.end seen up taken s))
event_seen e LinkDisconnect v machine seen is told given s =
    by_told (near_turn (event_at_end e LinkDisconnect) v).now seen (link_turn v.a.end.machine LinkDisconnect).told
    (link_turn machine LinkDisconnect).told told
    (after_seen Disconnects v.a.end v.a.end (link_turn v.a.end.machine LinkDisconnect) seen refl s)
event_seen e (LinkHear frame) v machine seen is told given s =
    heard_seen v.a.towards v.a.end seen (link_turn machine (LinkHear frame)).told s told
event_seen e (LinkTick waiting) v machine seen is told given s =
    by_told (near_turn (event_at_end e (LinkTick waiting)) v).now seen
    (link_turn v.a.end.machine (LinkTick waiting)).told
    (link_turn machine (LinkTick waiting)).told told
    (after_seen (Ticks waiting) v.a.end v.a.end (link_turn v.a.end.machine (LinkTick waiting)) seen refl s)
event_seen e (LinkSeize last full) v machine seen is told given s =
    by_told (near_turn (event_at_end e (LinkSeize last full)) v).now seen
    (link_turn v.a.end.machine (LinkSeize last full)).told
    (link_turn machine (LinkSeize last full)).told told
    (after_seen (Seizes last full) v.a.end v.a.end (link_turn v.a.end.machine (LinkSeize last full)) seen refl s)

-- ---- the events of a step

made_seen_end : (anew : Option Path) (v : World) (seen : List Seen) → SeenEnd v.a.end seen
    → SeenEnd (makes_near anew v).a.end seen
made_seen_end None v seen s = s
made_seen_end (Some path) v seen s = go v.a.end.machine.control.state
  where
    go : (state : LinkState) → SeenEnd (made_in state path v.a.end) seen
    go Idle = record { waits = s.waits; seen_are = s.seen_are }
    go Calling = s
    go Up = s
    go Releasing = s

made_far_end : (anew : Option Path) (v : World) → (makes_near anew v).b.end ≡ v.b.end
made_far_end None v = refl
made_far_end (Some path) v = refl

-- both ends
record SeenBoth (w : World) (a b : List Seen) : Type 0 where
  at_a : SeenEnd w.a.end a
  at_b : SeenEnd w.b.end b

-- seen from the end that makes the step
record SeenNear (v : World) (own far : List Seen) : Type 0 where
  at_own : SeenEnd v.a.end own
  at_far : SeenEnd v.b.end far

steps_seen :
    (e : End) (pairs : Pairs) (n : ℕ) (steps : List LinkStep) (w : World) (own far : List Seen)
    → FollowsAll e pairs n steps w
    → Each (λ (step : LinkStep). IsGivenWhileUp step.event step.link.machine) steps → SeenNear (seen_from e w) own far
    → SeenNear (seen_from e (run_changes w (all_changes_by e pairs n steps))) (seen_by_all steps own) far
steps_seen e pairs n [] w own far follows given s = s
steps_seen e pairs n (step ∷ steps) w own far follows given s =
    let v = seen_from e w in
    let x = makes_near step.anew v in
    let changes = changes_by e pairs n step in
    let next = run_changes w changes in
    let made : seen_from e (run_changes w (makes e step.anew)) ≡ x = makes_seen e step.anew w in
    let machine : x.a.end.machine ≡ step.link.machine =
    ap (λ (z : World). z.a.end.machine) (sym made) ∙ follows.0.machine in
    let told : (near_turn (event_at_end e step.event) x).told ≡ (link_turn step.link.machine step.event).told =
    ap (λ z. (near_turn (event_at_end e step.event) z).told) (sym made) ∙ follows.0.told in
    let seen : seen_from e next ≡ near_by e (heard_at (other e) pairs) n step v = by_seen e pairs n step step.anew w in
    let here : SeenNear (near_by e (heard_at (other e) pairs) n step v) (seen_by step own) far = record {
      at_own = event_seen e step.event x step.link.machine own machine told given.0
          (made_seen_end step.anew v own s.at_own);
      at_far = subst (λ (r : RecordedEnd). SeenEnd r far) (sym (made_far_end step.anew v)) s.at_far;
    } in
    subst (λ z. SeenNear (seen_from e z) (seen_by_all steps (seen_by step own)) far)
    (sym (run_changes-append changes (all_changes_by e pairs n steps) w))
    (steps_seen e pairs n steps next (seen_by step own) far follows.1 given.1
    (subst (λ z. SeenNear z (seen_by step own) far) (sym seen) here))

-- ---- all steps

pub seen_append : (first second : List LinkStep) (seen : List Seen)
    → seen_by_all (first ++ second) seen ≡ seen_by_all second (seen_by_all first seen)
seen_append [] second seen = refl
seen_append (step ∷ first) second seen = seen_append first second (seen_by step seen)

each_left : (P : LinkStep → Type 0) (xs ys : List LinkStep) → Each P (xs ++ ys) → Each P xs
each_left P [] ys h = tt
each_left P (x ∷ xs) ys h = (h.0, each_left P xs ys h.1)

each_rest : (P : LinkStep → Type 0) (xs ys : List LinkStep) → Each P (xs ++ ys) → Each P ys
each_rest P [] ys h = h
each_rest P (x ∷ xs) ys h = each_rest P xs ys h.1

abbrev GivenUp : LinkStep → Type 0
GivenUp step = IsGivenWhileUp step.event step.link.machine

record GivenBoth (calls : Calls) (steps : List Step) : Type 0 where
  at_a : Each GivenUp (link_steps_at calls A steps)
  at_b : Each GivenUp (link_steps_at calls B steps)

one_seen :
    (calls : Calls) (pairs : Pairs) (n : ℕ) (e : End) (made : List LinkStep) (rest_a rest_b : List LinkStep) (w : World)
    (a b : List Seen) → FollowsAll e pairs n made w → Each GivenUp (at_end A e made ++ rest_a)
    → Each GivenUp (at_end B e made ++ rest_b) → SeenBoth w a b
    → SeenBoth (run_changes w (all_changes_by e pairs n made)) (seen_by_all (at_end A e made) a)
    (seen_by_all (at_end B e made) b)
one_seen calls pairs n A made rest_a rest_b w a b follows given_a given_b s =
    let done : SeenNear (run_changes w (all_changes_by A pairs n made)) (seen_by_all made a) b =
    steps_seen A pairs n made w a b follows (each_left GivenUp made rest_a given_a)
    (record { at_own = s.at_a; at_far = s.at_b }) in
    record { at_a = done.at_own; at_b = done.at_far }
one_seen calls pairs n B made rest_a rest_b w a b follows given_a given_b s =
    let done : SeenNear (seen_from B (run_changes w (all_changes_by B pairs n made))) (seen_by_all made b) a =
    steps_seen B pairs n made w b a follows (each_left GivenUp made rest_b given_b)
    (record { at_own = s.at_b; at_far = s.at_a }) in
    record { at_a = done.at_far; at_b = done.at_own }

run_seen :
    (calls : Calls) (pairs : Pairs) (counts : Counts) (steps : List Step) (w : World) (a b : List Seen)
    → FollowsThrough calls pairs counts steps w → GivenBoth calls steps → SeenBoth w a b
    → SeenBoth (run_changes w (changes_from calls pairs counts steps)) (seen_by_all (link_steps_at calls A steps) a)
    (seen_by_all (link_steps_at calls B steps) b)
run_seen calls pairs counts [] w a b follows given s = s
run_seen calls pairs counts (step ∷ steps) w a b follows given s =
    let e = step.station in
    let made = steps_of (link_at_end calls e) step in
    let n = count_at e counts in
    let changes = all_changes_by e pairs n made in
    let more = with_more e (length step.after.out.queued) counts in
    let rest_a = link_steps_at calls A steps in
    let rest_b = link_steps_at calls B steps in
    let now_a = seen_by_all (at_end A e made) a in
    let now_b = seen_by_all (at_end B e made) b in
    let one = one_seen calls pairs n e made rest_a rest_b w a b follows.0 given.at_a given.at_b s in
    let all : SeenBoth (run_changes (run_changes w changes) (changes_from calls pairs more steps))
    (seen_by_all rest_a now_a)
    (seen_by_all rest_b now_b) =
    run_seen calls pairs more steps (run_changes w changes) now_a now_b follows.1
    (record {
      at_a = each_rest GivenUp (at_end A e made) rest_a given.at_a;
      at_b = each_rest GivenUp (at_end B e made) rest_b given.at_b;
    }) one in
    subst (λ xs. SeenBoth (run_changes w (changes_from calls pairs counts (step ∷ steps))) xs
    (seen_by_all (link_steps_at calls B (step ∷ steps)) b)) (sym (seen_append (at_end A e made) rest_a a))
    (subst (λ xs. SeenBoth (run_changes w (changes_from calls pairs counts (step ∷ steps))) (seen_by_all rest_a now_a)
    xs)
    (sym (seen_append (at_end B e made) rest_b b))
    (subst (λ z. SeenBoth z (seen_by_all rest_a now_a) (seen_by_all rest_b now_b))
    (sym (run_changes-append changes (changes_from calls pairs more steps) w)) all))

pub set_ups_law_holds : SetUpsLaw
set_ups_law_holds a b seed_a seed_b steps calls pairs run heard_a heard_b given =
    let follows = following_law_holds a b seed_a seed_b steps calls pairs run heard_a heard_b in
    let done = run_seen calls pairs (record { a = 0; b = 0 }) steps (first_world calls a.params b.params) [] []
    follows.through
    (record {
      at_a = recursion_from_All GivenUp (link_steps_at calls A steps) (given A);
      at_b = recursion_from_All GivenUp (link_steps_at calls B steps) (given B);
    }) (record { at_a = record { waits = refl; seen_are = refl }; at_b = record { waits = refl; seen_are = refl } }) in
    record { at_a = done.at_a.seen_are; at_b = done.at_b.seen_are }
