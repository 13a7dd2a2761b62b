-- What the set-ups of a link's ends got is what the link told at its stations.
use Rattle.station_laws.proofs.Common.{◌≡◌, ℕ, Bool, true, false, List, [], ◌∷◌, ◌++◌, length, map, cond, Option, Some}
use Rattle.station_laws.proofs.Common.{None, is_some, refl, sym, ap, ◌∙◌, map-append, Path, Packet, Told, Opened, Given}
use Rattle.station_laws.proofs.Common.{Ended, LinkState, Idle, Calling, Up, Releasing, End, A, B, Change, changed}
use Rattle.station_laws.proofs.Common.{made_in, run_changes, Keeps, Tagged, RecordedEnd, Happening, Connects, Sends}
use Rattle.station_laws.proofs.Common.{Disconnects, Seizes, Ticks, Hears, World, seen_from, other, near_turn, turn_of}
use Rattle.station_laws.proofs.Common.{happening, Step, at_end, Calls, Pairs, Counts, link_at_end, count_at, with_more}
use Rattle.station_laws.proofs.Common.{event_at_end, makes, heard_at, changes_by, all_changes_by, changes_from}
use Rattle.station_laws.proofs.Common.{marks_from, FollowsAll, FollowsThrough, first_world, LinkStep, steps_of}
use Rattle.station_laws.proofs.Common.{link_steps_at, ◌+◌}
use Rattle.std.specs.Prelude.{fold}
use Rattle.std.specs.List.{flat_map}
use Rattle.std.proofs.lemmas.List.Concat.{flat_map-append}
use Rattle.std.proofs.lemmas.List.Sums.{fold-append}
use Rattle.link_machine.specs.Event.{Event as LinkEvent}
use Rattle.link_machine.specs.Event.Event.{Connect as LinkConnect, Send as LinkSend, Disconnect as LinkDisconnect}
use Rattle.link_machine.specs.Event.Event.{Hear as LinkHear, Seize as LinkSeize, Tick as LinkTick}
use Rattle.link_machine.specs.Step.{refusal_of}
use Rattle.link_world.specs.declared.event.Event.{Event}
use Rattle.link_world.specs.Flight.{is_numbered}
use Rattle.link_world.specs.Recorded.{accepts, taking, hearing, noting, told_of, end_turn}
use Rattle.link_world.specs.SetUps.{SetUp, giving, getting, acting, change_last, last_changed}
use Rattle.station_laws.specs.RunsTell.{told_in}
use Rattle.station_laws.specs.StationsLaw.{FollowingLaw}
use Rattle.call_laws.specs.SetUpsTold.{last_given, given_last, got_told, told_at, SetUpsAreTold}

abbrev pub gots : List SetUp → List (List Packet)
gots set_ups = map (λ (q : SetUp). q.got) set_ups

-- ---- lists of set-ups

last_unmoved :
    (f : SetUp → SetUp) → ((q : SetUp) → (f q).got ≡ q.got) → (q : SetUp) (rest : List SetUp)
    → gots (last_changed f q rest) ≡ gots (q ∷ rest)
last_unmoved f same q [] = ap (λ g. g ∷ []) (same q)
last_unmoved f same q (next ∷ rest) = ap (λ gs. q.got ∷ gs) (last_unmoved f same next rest)

-- a change that gives no packet
unmoved : (f : SetUp → SetUp) → ((q : SetUp) → (f q).got ≡ q.got) → (set_ups : List SetUp)
    → gots (change_last f set_ups) ≡ gots set_ups
unmoved f same [] = refl
unmoved f same (q ∷ rest) = last_unmoved f same q rest

last_got : (packet : Packet) (q : SetUp) (rest : List SetUp)
    → gots (last_changed (getting packet) q rest) ≡ last_given packet q.got (gots rest)
last_got packet q [] = refl
last_got packet q (next ∷ rest) = ap (λ gs. q.got ∷ gs) (last_got packet next rest)

got_more : (packet : Packet) (set_ups : List SetUp)
    → gots (change_last (getting packet) set_ups) ≡ given_last packet (gots set_ups)
got_more packet [] = refl
got_more packet (q ∷ rest) = last_got packet q rest

told_gots : (next : SetUp) → next.got ≡ [] → (told : List Told) (set_ups : List SetUp)
    → gots (fold (told_of next) set_ups told) ≡ fold got_told (gots set_ups) told
told_gots next none [] set_ups = refl
told_gots next none (item ∷ told) set_ups =
    told_gots next none told (told_of next set_ups item) ∙ ap (λ gs. fold got_told gs told) (one item)
  where
    one : (t : Told) → gots (told_of next set_ups t) ≡ got_told (gots set_ups) t
    one (Opened ours) =
        map-append (λ (q : SetUp). q.got) set_ups (next ∷ []) ∙ ap (λ g. gots set_ups ++ g ∷ []) none
    one (Given packet) = got_more packet set_ups
    one (Ended why) = refl

-- ---- what is noted before an event's turn gives no packet

taking_gots : (state : LinkState) (packet : Packet) (r : RecordedEnd)
    → gots (taking state packet r).set_ups ≡ gots r.set_ups
taking_gots Idle packet r = refl
taking_gots Calling packet r = refl
taking_gots Up packet r = unmoved (giving packet) (λ q. refl) r.set_ups
taking_gots Releasing packet r = refl

hearing_gots : (state : LinkState) (f : Tagged) (r : RecordedEnd)
    → gots (hearing state f r).set_ups ≡ gots r.set_ups
hearing_gots Idle f r = refl
hearing_gots Calling f r = refl
hearing_gots Releasing f r = refl
hearing_gots Up f r = go (is_numbered f.frame.kind)
  where
    go : (b : Bool) → gots (cond b (record r {
      set_ups = change_last (acting f.set_up (accepts r.machine f.frame.kind)) r.set_ups;
    }) r).set_ups ≡ gots r.set_ups
    go false = refl
    go true = unmoved (acting f.set_up (accepts r.machine f.frame.kind)) (λ q. refl) r.set_ups

noted_gots : (h : Happening) (r : RecordedEnd) → gots (noting h r).set_ups ≡ gots r.set_ups
noted_gots Connects r = refl
noted_gots (Sends packet) r = go (is_some (refusal_of r.machine (LinkSend packet)))
  where
    go : (b : Bool) → gots (cond b r (taking r.machine.control.state packet r)).set_ups ≡ gots r.set_ups
    go true = refl
    go false = taking_gots r.machine.control.state packet r
noted_gots Disconnects r = refl
noted_gots (Ticks waiting) r = refl
noted_gots (Seizes last full) r = refl
noted_gots (Hears f) r = hearing_gots r.machine.control.state f r

end_gots : (h : Happening) (r : RecordedEnd)
    → gots (end_turn h r).now.set_ups ≡ fold got_told (gots r.set_ups) (end_turn h r).told
end_gots h r =
    let turn = end_turn h r in
    told_gots _ refl turn.told (noting h r).set_ups ∙ ap (λ gs. fold got_told gs turn.told) (noted_gots h r)

turn_gots : (o : Option Happening) (r : RecordedEnd)
    → gots (turn_of o r).now.set_ups ≡ fold got_told (gots r.set_ups) (turn_of o r).told
turn_gots None r = refl
turn_gots (Some h) r = end_gots h r

near_gots : (event : Event) (w : World)
    → gots (near_turn event w).now.set_ups ≡ fold got_told (gots w.a.end.set_ups) (near_turn event w).told
near_gots event w = turn_gots (happening event w.a.end.machine.incoming.modulus w.a.towards) w.a.end

-- ---- an event of a world

-- what the set-ups of an end got
abbrev pub gots_at : End → World → List (List Packet)
gots_at e w = gots (seen_from e w).a.end.set_ups

kept_gots :
    (e : End) (event : LinkEvent) (ms : List Bool) (w : World)
    → gots_at e (changed w (Keeps (event_at_end e event) ms))
    ≡ fold got_told (gots_at e w) (near_turn (event_at_end e event) (seen_from e w)).told
kept_gots A LinkConnect ms w = near_gots (event_at_end A LinkConnect) w
kept_gots A (LinkSend packet) ms w = near_gots (event_at_end A (LinkSend packet)) w
kept_gots A LinkDisconnect ms w = near_gots (event_at_end A LinkDisconnect) w
kept_gots A (LinkHear frame) ms w = near_gots (event_at_end A (LinkHear frame)) w
kept_gots A (LinkTick waiting) ms w = near_gots (event_at_end A (LinkTick waiting)) w
kept_gots A (LinkSeize last full) ms w = near_gots (event_at_end A (LinkSeize last full)) w
kept_gots B LinkConnect ms w = near_gots (event_at_end B LinkConnect) (seen_from B w)
kept_gots B (LinkSend packet) ms w = near_gots (event_at_end B (LinkSend packet)) (seen_from B w)
kept_gots B LinkDisconnect ms w = near_gots (event_at_end B LinkDisconnect) (seen_from B w)
kept_gots B (LinkHear frame) ms w = near_gots (event_at_end B (LinkHear frame)) (seen_from B w)
kept_gots B (LinkTick waiting) ms w = near_gots (event_at_end B (LinkTick waiting)) (seen_from B w)
kept_gots B (LinkSeize last full) ms w = near_gots (event_at_end B (LinkSeize last full)) (seen_from B w)

kept_far :
    (e : End) (event : LinkEvent) (ms : List Bool) (w : World)
    → gots_at (other e) (changed w (Keeps (event_at_end e event) ms)) ≡ gots_at (other e) w
kept_far A LinkConnect ms w = refl
kept_far A (LinkSend packet) ms w = refl
kept_far A LinkDisconnect ms w = refl
kept_far A (LinkHear frame) ms w = refl
kept_far A (LinkTick waiting) ms w = refl
kept_far A (LinkSeize last full) ms w = refl
kept_far B LinkConnect ms w = refl
kept_far B (LinkSend packet) ms w = refl
kept_far B LinkDisconnect ms w = refl
kept_far B (LinkHear frame) ms w = refl
kept_far B (LinkTick waiting) ms w = refl
kept_far B (LinkSeize last full) ms w = refl

made_state : (state : LinkState) (path : Path) (r : RecordedEnd) → (made_in state path r).set_ups ≡ r.set_ups
made_state Idle path r = refl
made_state Calling path r = refl
made_state Up path r = refl
made_state Releasing path r = refl

made_gots : (e x : End) (anew : Option Path) (w : World) → gots_at x (run_changes w (makes e anew)) ≡ gots_at x w
made_gots e x None w = refl
made_gots A A (Some path) w = ap gots (made_state w.a.end.machine.control.state path w.a.end)
made_gots A B (Some path) w = refl
made_gots B A (Some path) w = refl
made_gots B B (Some path) w = ap gots (made_state w.b.end.machine.control.state path w.b.end)

changes_append : (first second : List Change) (w : World)
    → run_changes w (first ++ second) ≡ run_changes (run_changes w first) second
changes_append [] second w = refl
changes_append (change ∷ first) second w = changes_append first second (changed w change)

-- ---- the events of a step

own_gots :
    (e : End) (pairs : Pairs) (n : ℕ) (steps : List LinkStep) (w : World) → FollowsAll e pairs n steps w
    → gots_at e (run_changes w (all_changes_by e pairs n steps)) ≡ fold got_told (gots_at e w) (flat_map told_in steps)
own_gots e pairs n [] w follows = refl
own_gots e pairs n (step ∷ steps) w follows =
    let ms = marks_from (heard_at (other e) pairs) (n + step.first) step.joined in
    let made = run_changes w (makes e step.anew) in
    let next = run_changes w (changes_by e pairs n step) in
    let here : next ≡ changed made (Keeps (event_at_end e step.event) ms) =
    changes_append (makes e step.anew) (Keeps (event_at_end e step.event) ms ∷ []) w in
    let one : gots_at e next ≡ fold got_told (gots_at e w) (told_in step) =
    ap (gots_at e) here ∙ kept_gots e step.event ms made
    ∙ ap (λ gs. fold got_told gs (near_turn (event_at_end e step.event) (seen_from e made)).told)
    (made_gots e e step.anew w)
    ∙ ap (fold got_told (gots_at e w)) follows.0.told in
    ap (gots_at e) (changes_append (changes_by e pairs n step) (all_changes_by e pairs n steps) w)
    ∙ own_gots e pairs n steps next follows.1
    ∙ ap (λ gs. fold got_told gs (flat_map told_in steps)) one
    ∙ sym (fold-append got_told (gots_at e w) (told_in step) (flat_map told_in steps))

far_gots :
    (e : End) (pairs : Pairs) (n : ℕ) (steps : List LinkStep) (w : World)
    → gots_at (other e) (run_changes w (all_changes_by e pairs n steps)) ≡ gots_at (other e) w
far_gots e pairs n [] w = refl
far_gots e pairs n (step ∷ steps) w =
    let ms = marks_from (heard_at (other e) pairs) (n + step.first) step.joined in
    let made = run_changes w (makes e step.anew) in
    let next = run_changes w (changes_by e pairs n step) in
    ap (gots_at (other e)) (changes_append (changes_by e pairs n step) (all_changes_by e pairs n steps) w)
    ∙ far_gots e pairs n steps next
    ∙ ap (gots_at (other e)) (changes_append (makes e step.anew) (Keeps (event_at_end e step.event) ms ∷ []) w)
    ∙ kept_far e step.event ms made ∙ made_gots e (other e) step.anew w

step_gots :
    (x e : End) (pairs : Pairs) (n : ℕ) (steps : List LinkStep) (w : World) → FollowsAll e pairs n steps w
    → gots_at x (run_changes w (all_changes_by e pairs n steps))
    ≡ fold got_told (gots_at x w) (flat_map told_in (at_end x e steps))
step_gots A A pairs n steps w follows = own_gots A pairs n steps w follows
step_gots B B pairs n steps w follows = own_gots B pairs n steps w follows
step_gots B A pairs n steps w follows = far_gots A pairs n steps w
step_gots A B pairs n steps w follows = far_gots B pairs n steps w

-- ---- all steps

pub run_gots :
    (calls : Calls) (pairs : Pairs) (x : End) (counts : Counts) (steps : List Step) (w : World)
    → FollowsThrough calls pairs counts steps w
    → gots_at x (run_changes w (changes_from calls pairs counts steps))
    ≡ fold got_told (gots_at x w) (told_at calls x steps)
run_gots calls pairs x counts [] w follows = refl
run_gots calls pairs x counts (step ∷ steps) w follows =
    let e = step.station in
    let made = steps_of (link_at_end calls e) step in
    let n = count_at e counts in
    let changes = all_changes_by e pairs n made in
    let more = with_more e (length step.after.out.queued) counts in
    let own = at_end x e made in
    let rest = link_steps_at calls x steps in
    ap (gots_at x) (changes_append changes (changes_from calls pairs more steps) w)
    ∙ run_gots calls pairs x more steps (run_changes w changes) follows.1
    ∙ ap (λ gs. fold got_told gs (flat_map told_in rest)) (step_gots x e pairs n made w follows.0)
    ∙ sym (fold-append got_told (gots_at x w) (flat_map told_in own) (flat_map told_in rest))
    ∙ ap (fold got_told (gots_at x w)) (sym (flat_map-append told_in own rest))

-- over a joint run of two new stations
pub set_ups_are_told_by : FollowingLaw → SetUpsAreTold
set_ups_are_told_by law a b seed_a seed_b steps calls pairs run heard_a heard_b end =
    let follows = law a b seed_a seed_b steps calls pairs run heard_a heard_b in
    run_gots calls pairs end (record { a = 0; b = 0 }) steps (first_world calls a.params b.params) follows.through
    ∙ start end
  where
    start : (e : End) → fold got_told (gots_at e (first_world calls a.params b.params)) (told_at calls e steps)
        ≡ fold got_told [] (told_at calls e steps)
    start A = refl
    start B = refl
