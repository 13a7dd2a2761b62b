-- What the ends of a link were given is what hosts gave it over D messages.
use Rattle.station_laws.proofs.Common.{◌≡◌, ℕ, ◌+◌, Bool, true, false, List, [], ◌∷◌, ◌++◌, length, map, cond, Option, Some}
use Rattle.station_laws.proofs.Common.{None, is_some, refl, sym, ap, ◌∙◌, subst, append-nil, append_assoc, map-append}
use Rattle.station_laws.proofs.Common.{All-from_recursion, recursion_from_All}
use Rattle.station_laws.proofs.Common.{Path, Frame, Packet, Told, Opened, Given, Ended, LinkState, Idle, Calling, Up}
use Rattle.station_laws.proofs.Common.{Releasing, Machine, End, A, B, made_in, run_changes, Tagged, RecordedEnd}
use Rattle.station_laws.proofs.Common.{Happening, following, Connects, Disconnects, Hears, Seizes, Sends, Ticks, World}
use Rattle.station_laws.proofs.Common.{seen_from, near_turn, turn_of, hearing_as, hearing_first, read_in, Step}
use Rattle.station_laws.proofs.Common.{at_end, Calls, Pairs, Counts, link_at_end, count_at, with_more, event_at_end, makes}
use Rattle.station_laws.proofs.Common.{changes_by, all_changes_by, changes_from, FollowsAll, FollowsThrough}
use Rattle.station_laws.proofs.Common.{first_world, LinkStep, steps_of}
use Rattle.std.proofs.Common.{fold}
use Rattle.std.specs.List.{AllByRecursion as Each}
use Rattle.std.proofs.lemmas.List.Concat.{flat_map-append}
use Rattle.link_machine.specs.Event.{Event as LinkEvent}
use Rattle.link_machine.specs.Event.Event.{Connect as LinkConnect, Send as LinkSend, Disconnect as LinkDisconnect}
use Rattle.link_machine.specs.Event.Event.{Hear as LinkHear, Seize as LinkSeize, Tick as LinkTick}
use Rattle.link_machine.specs.Step.{refusal_of, step as link_turn}
use Rattle.link_machine.specs.Turn.{Turn as LinkTurn}
use Rattle.link_world.specs.Flight.{is_numbered}
use Rattle.link_world.specs.Recorded.{accepts, taking, hearing, noting, opening, told_of, waiting_in, end_turn}
use Rattle.link_world.specs.SetUps.{SetUp, giving, getting, acting, change_last, last_changed}
use Rattle.station_laws.specs.StationsLaw.{FollowingLaw}
use Rattle.station_laws.proofs.Along.{makes_near, by_seen, makes_seen, run_changes-append}
use Rattle.call_laws.specs.PrintsTold.{octets_of}
use Rattle.live_laws.specs.BodiesGiven.{BodiesAreGiven}
use Rattle.live_laws.specs.HostActs.{HostAct, acts_at, acts_of}
use Rattle.live_laws.specs.HostActs.HostAct.{Gives, Does}
use Rattle.live_laws.specs.HostData.{last_more, more_for_last}
use Rattle.live_laws.specs.HostGives.{Gave, IsBodyTaken, after_act, after_event, gave_after, gives_more, is_refused, octets_sent}
use Rattle.live_laws.specs.HostGives.{none_gave, opens_with, taken_by, taken_in, waits_in}
use Rattle.live_laws.proofs.ActsLemmas.{IsGoodAct, IsNoSend, all_are, all_events, events_of, step_are}
use Rattle.live_laws.proofs.BodyTaken.{IsSend, IsSendIn, send_stands}

-- ---- lists of set-ups

abbrev given_of : SetUp → List ℕ
given_of q = octets_of q.given

abbrev all_given : List SetUp → List (List ℕ)
all_given set_ups = map given_of set_ups

octets_more : (packets : List Packet) (packet : Packet)
    → octets_of (packets ++ packet ∷ []) ≡ octets_of packets ++ packet.octets
octets_more packets packet =
    flat_map-append (λ (p : Packet). p.octets) packets (packet ∷ [])
    ∙ ap (λ xs. octets_of packets ++ xs) (append-nil packet.octets)

last_given : (packet : Packet) (q : SetUp) (rest : List SetUp)
    → all_given (last_changed (giving packet) q rest) ≡ last_more packet.octets (given_of q) (all_given rest)
last_given packet q [] = ap (λ xs. xs ∷ []) (octets_more q.given packet)
last_given packet q (next ∷ rest) = ap (λ gs. given_of q ∷ gs) (last_given packet next rest)

changed_given : (packet : Packet) (set_ups : List SetUp)
    → all_given (change_last (giving packet) set_ups) ≡ more_for_last packet.octets (all_given set_ups)
changed_given packet [] = refl
changed_given packet (q ∷ rest) = last_given packet q rest

-- a change of nothing that was given
last_same :
    (f : SetUp → SetUp) → ((q : SetUp) → given_of (f q) ≡ given_of q) → (q : SetUp) (rest : List SetUp)
    → all_given (last_changed f q rest) ≡ all_given (q ∷ rest)
last_same f same q [] = ap (λ xs. xs ∷ []) (same q)
last_same f same q (next ∷ rest) = ap (λ gs. given_of q ∷ gs) (last_same f same next rest)

unchanged_given : (f : SetUp → SetUp) → ((q : SetUp) → given_of (f q) ≡ given_of q) → (set_ups : List SetUp)
    → all_given (change_last f set_ups) ≡ all_given set_ups
unchanged_given f same [] = refl
unchanged_given f same (q ∷ rest) = last_same f same q rest

told_given :
    (next : SetUp) (waiting : List ℕ) → given_of next ≡ waiting → (told : List Told) (set_ups : List SetUp)
    → all_given (fold (told_of next) set_ups told) ≡ fold (opens_with waiting) (all_given set_ups) told
told_given next waiting is [] set_ups = refl
told_given next waiting is (item ∷ told) set_ups =
    told_given next waiting is told (told_of next set_ups item)
    ∙ ap (λ gs. fold (opens_with waiting) gs told) (one item)
  where
    one : (t : Told) → all_given (told_of next set_ups t) ≡ opens_with waiting (all_given set_ups) t
    one (Opened ours) =
        map-append given_of set_ups (next ∷ []) ∙ ap (λ xs. all_given set_ups ++ xs ∷ []) is
    one (Given packet) = unchanged_given (getting packet) (λ q. refl) set_ups
    one (Ended why) = refl

-- ---- octets more

more_nothing : (gots : List (List ℕ)) → more_for_last [] gots ≡ gots
more_nothing [] = refl
more_nothing (got ∷ rest) = go got rest
  where
    go : (first : List ℕ) (others : List (List ℕ)) → last_more [] first others ≡ first ∷ others
    go first [] = ap (λ xs. xs ∷ []) (append-nil first)
    go first (next ∷ others) = ap (λ gs. first ∷ gs) (go next others)

more_both : (a b : List ℕ) (gots : List (List ℕ))
    → more_for_last (a ++ b) gots ≡ more_for_last b (more_for_last a gots)
more_both a b [] = refl
more_both a b (got ∷ rest) = go got rest
  where
    on : (got next : List ℕ) (others : List (List ℕ))
        → got ∷ more_for_last b (last_more a next others) ≡ last_more b got (last_more a next others)
    on got next [] = refl
    on got next (z ∷ others) = refl

    go : (got : List ℕ) (others : List (List ℕ))
        → last_more (a ++ b) got others ≡ more_for_last b (last_more a got others)
    go got [] = ap (λ xs. xs ∷ []) (sym (append_assoc got a b))
    go got (next ∷ others) = ap (λ gs. got ∷ gs) (go next others) ∙ on got next others

gives_nothing : (state : LinkState) (gave : Gave) → gives_more state [] gave ≡ gave
gives_nothing Idle gave = refl
gives_nothing Calling gave = ap (λ xs. record gave { waiting = xs }) (append-nil gave.waiting)
gives_nothing Up gave = ap (λ gs. record gave { set_ups = gs }) (more_nothing gave.set_ups)
gives_nothing Releasing gave = refl

gives_both : (state : LinkState) (a b : List ℕ) (gave : Gave)
    → gives_more state (a ++ b) gave ≡ gives_more state b (gives_more state a gave)
gives_both Idle a b gave = refl
gives_both Calling a b gave = ap (λ xs. record gave { waiting = xs }) (sym (append_assoc gave.waiting a b))
gives_both Up a b gave = ap (λ gs. record gave { set_ups = gs }) (more_both a b gave.set_ups)
gives_both Releasing a b gave = refl

-- ---- an event of an end

record EndGave (r : RecordedEnd) (gave : Gave) : Type 0 where
  waits : octets_of r.waiting ≡ waits_in r.machine.control.state gave.waiting
  gives : all_given r.set_ups ≡ gave.set_ups

waits_again : (state : LinkState) (waiting : List ℕ) → waits_in state (waits_in state waiting) ≡ waits_in state waiting
waits_again Idle waiting = refl
waits_again Calling waiting = refl
waits_again Up waiting = refl
waits_again Releasing waiting = refl

still_waits : (state : LinkState) (packets : List Packet) (waiting : List ℕ) → octets_of packets ≡ waiting
    → octets_of (waiting_in state packets) ≡ waits_in state waiting
still_waits Idle packets waiting is = refl
still_waits Calling packets waiting is = is
still_waits Up packets waiting is = refl
still_waits Releasing packets waiting is = refl

abbrev told_more : List ℕ → Gave → List Told → Gave
told_more waiting gave told = record { set_ups = fold (opens_with waiting) gave.set_ups told; waiting = waiting }

after_gave :
    (h : Happening) (r noted : RecordedEnd) (turn : LinkTurn) (gave : Gave) (waiting : List ℕ) → noting h r ≡ noted
    → octets_of noted.waiting ≡ waiting → all_given noted.set_ups ≡ gave.set_ups
    → EndGave (following h r turn) (told_more waiting gave turn.told)
after_gave h r noted turn gave waiting is waits gives =
    subst (λ (n : RecordedEnd). EndGave (record {
      machine = turn.now;
      set_ups = fold (told_of (opening h n turn)) n.set_ups turn.told;
      waiting = waiting_in turn.now.control.state n.waiting;
    }) (told_more waiting gave turn.told)) (sym is) (record {
      waits = still_waits turn.now.control.state noted.waiting waiting waits;
      gives = told_given (opening h noted turn) waiting waits turn.told noted.set_ups
          ∙ ap (λ gs. fold (opens_with waiting) gs turn.told) gives;
    })

by_told : (now : RecordedEnd) (waiting : List ℕ) (gave : Gave) (a b : List Told) → a ≡ b
    → EndGave now (told_more waiting gave a) → EndGave now (told_more waiting gave b)
by_told now waiting gave a b is s = subst (λ t. EndGave now (told_more waiting gave t)) is s

-- a frame that is heard
noted_same : (f : Tagged) (r : RecordedEnd)
    → let n = noting (Hears f) r in (n.waiting ≡ r.waiting) × (all_given n.set_ups ≡ all_given r.set_ups)
noted_same f r = go r.machine.control.state
  where
    up : (b : Bool)
        → let n = cond b (record r {
          set_ups = change_last (acting f.set_up (accepts r.machine f.frame.kind)) r.set_ups;
        }) r in
        (n.waiting ≡ r.waiting) × (all_given n.set_ups ≡ all_given r.set_ups)
    up false = (refl, refl)
    up true = (refl, unchanged_given (acting f.set_up (accepts r.machine f.frame.kind)) (λ q. refl) r.set_ups)

    go : (state : LinkState)
        → let n = hearing state f r in (n.waiting ≡ r.waiting) × (all_given n.set_ups ≡ all_given r.set_ups)
    go Idle = (refl, refl)
    go Calling = (refl, refl)
    go Up = up (is_numbered f.frame.kind)
    go Releasing = (refl, refl)

-- the front one of those in flight, if there is one and it is read
heard_gave :
    (towards : List Tagged) (r : RecordedEnd) (gave : Gave) (told : List Told) → EndGave r gave
    → (turn_of (hearing_first r.machine.incoming.modulus towards) r).told ≡ told
    → EndGave (turn_of (hearing_first r.machine.incoming.modulus towards) r).now
    (told_more (waits_in r.machine.control.state gave.waiting) gave told)
heard_gave towards r gave told s is = by_front towards is
  where
    waiting : List ℕ
    waiting = waits_in r.machine.control.state gave.waiting

    passes : (t : List Told) → [] ≡ t → EndGave r (told_more waiting gave t)
    passes t e =
        by_told r waiting gave [] t e (record {
          waits = s.waits ∙ sym (waits_again r.machine.control.state gave.waiting);
          gives = s.gives;
        })

    by_reading : (f : Tagged) (o : Option Frame) → (turn_of (hearing_as f o) r).told ≡ told
        → EndGave (turn_of (hearing_as f o) r).now (told_more waiting gave told)
    by_reading f None e = passes told e
    by_reading f (Some g) e =
        let h : Happening = Hears (record f { frame = g }) in
        let same = noted_same (record f { frame = g }) r in
        by_told (end_turn h r).now waiting gave (end_turn h r).told told e
        (after_gave h r (noting h r) (link_turn r.machine (LinkHear g)) gave waiting refl
        (ap octets_of same.0 ∙ s.waits) (same.1 ∙ s.gives))

    by_front : (flying : List Tagged) → (turn_of (hearing_first r.machine.incoming.modulus flying) r).told ≡ told
        → EndGave (turn_of (hearing_first r.machine.incoming.modulus flying) r).now (told_more waiting gave told)
    by_front [] e = passes told e
    by_front (f ∷ rest) e = by_reading f (read_in r.machine.incoming.modulus f) e

-- any that is no packet
event_gave :
    (e : End) (event : LinkEvent) (v : World) (gave : Gave) (told : List Told)
    → (near_turn (event_at_end e event) v).told ≡ told → IsNoSend event → EndGave v.a.end gave
    → EndGave (near_turn (event_at_end e event) v).now
    (told_more (waits_in v.a.end.machine.control.state gave.waiting) gave told)
event_gave e LinkConnect v gave told is none s =
    by_told (near_turn (event_at_end e LinkConnect) v).now (waits_in v.a.end.machine.control.state gave.waiting) gave
    (link_turn v.a.end.machine LinkConnect).told told is
    (after_gave Connects v.a.end v.a.end (link_turn v.a.end.machine LinkConnect) gave
    (waits_in v.a.end.machine.control.state gave.waiting) refl s.waits s.gives)
event_gave e (LinkSend packet) v gave told is none s = absurd none
event_gave e LinkDisconnect v gave told is none s =
    by_told (near_turn (event_at_end e LinkDisconnect) v).now (waits_in v.a.end.machine.control.state gave.waiting) gave
    (link_turn v.a.end.machine LinkDisconnect).told told is
    (after_gave Disconnects v.a.end v.a.end (link_turn v.a.end.machine LinkDisconnect) gave
    (waits_in v.a.end.machine.control.state gave.waiting) refl s.waits s.gives)
event_gave e (LinkHear frame) v gave told is none s = heard_gave v.a.towards v.a.end gave told s is
event_gave e (LinkTick still) v gave told is none s =
    by_told (near_turn (event_at_end e (LinkTick still)) v).now (waits_in v.a.end.machine.control.state gave.waiting)
    gave (link_turn v.a.end.machine (LinkTick still)).told told is
    (after_gave (Ticks still) v.a.end v.a.end (link_turn v.a.end.machine (LinkTick still)) gave
    (waits_in v.a.end.machine.control.state gave.waiting) refl s.waits s.gives)
event_gave e (LinkSeize last full) v gave told is none s =
    by_told (near_turn (event_at_end e (LinkSeize last full)) v).now
    (waits_in v.a.end.machine.control.state gave.waiting) gave
    (link_turn v.a.end.machine (LinkSeize last full)).told told is
    (after_gave (Seizes last full) v.a.end v.a.end (link_turn v.a.end.machine (LinkSeize last full)) gave
    (waits_in v.a.end.machine.control.state gave.waiting) refl s.waits s.gives)

-- ---- a packet

-- what is noted of one that is refused or taken
noted_sends :
    (state : LinkState) (refused : Bool) (packet : Packet) (r : RecordedEnd) (gave : Gave)
    → octets_of r.waiting ≡ waits_in state gave.waiting → all_given r.set_ups ≡ gave.set_ups
    → let n = cond refused r (taking state packet r) in
    let more = gives_more state (cond refused [] packet.octets) gave in
    (octets_of (waiting_in state n.waiting) ≡ waits_in state more.waiting) × (all_given n.set_ups ≡ more.set_ups)
noted_sends Idle true packet r gave waits gives = (refl, gives)
noted_sends Idle false packet r gave waits gives = (refl, gives)
noted_sends Calling true packet r gave waits gives = (waits ∙ sym (append-nil gave.waiting), gives)
noted_sends Calling false packet r gave waits gives =
    (octets_more r.waiting packet ∙ ap (λ xs. xs ++ packet.octets) waits, gives)
noted_sends Up true packet r gave waits gives = (refl, gives ∙ sym (more_nothing gave.set_ups))
noted_sends Up false packet r gave waits gives =
    (refl, changed_given packet r.set_ups ∙ ap (more_for_last packet.octets) gives)
noted_sends Releasing true packet r gave waits gives = (refl, gives)
noted_sends Releasing false packet r gave waits gives = (refl, gives)

send_gave :
    (packet : Packet) (r : RecordedEnd) (gave : Gave) → EndGave r gave
    → EndGave (end_turn (Sends packet) r).now
    (gives_more r.machine.control.state (cond (is_some (refusal_of r.machine (LinkSend packet))) [] packet.octets) gave)
send_gave packet r gave s =
    let turn = link_turn r.machine (LinkSend packet) in
    let refused = is_some (refusal_of r.machine (LinkSend packet)) in
    let state = r.machine.control.state in
    let noted = cond refused r (taking state packet r) in
    let more = gives_more state (cond refused [] packet.octets) gave in
    let stands = send_stands r.machine packet in
    let h = noted_sends state refused packet r gave s.waits s.gives in
    record {
      waits = subst (λ st. octets_of (waiting_in st noted.waiting) ≡ waits_in st more.waiting) (sym stands.state) h.0;
      gives = ap (λ told. all_given (fold (told_of (opening (Sends packet) noted turn)) noted.set_ups told)) stands.told
          ∙ h.1;
    }

sent_gave :
    (e : End) (event : LinkEvent) (state : LinkState) (step : LinkStep) (v : World) (gave : Gave)
    → step.event ≡ event → IsSendIn state step → v.a.end.machine ≡ step.link.machine → EndGave v.a.end gave
    → EndGave (near_turn (event_at_end e event) v).now (gives_more state (taken_by step) gave)
sent_gave e LinkConnect state step v gave is sends machine s = absurd (subst IsSend is sends.sends)
sent_gave e (LinkSend packet) state step v gave is sends machine s =
    let same : v.a.end.machine.control.state ≡ state =
    ap (λ (m : Machine). m.control.state) machine ∙ sends.finds in
    let taken : cond (is_some (refusal_of v.a.end.machine (LinkSend packet))) [] packet.octets ≡ taken_by step =
    ap (λ m. cond (is_some (refusal_of m (LinkSend packet))) [] packet.octets) machine
    ∙ ap (λ event. cond (is_some (refusal_of step.link.machine event)) [] (octets_sent event)) (sym is) in
    subst (λ st. EndGave (near_turn (event_at_end e (LinkSend packet)) v).now (gives_more st (taken_by step) gave)) same
    (subst (λ xs. EndGave (near_turn (event_at_end e (LinkSend packet)) v).now
    (gives_more v.a.end.machine.control.state xs gave)) taken (send_gave packet v.a.end gave s))
sent_gave e LinkDisconnect state step v gave is sends machine s = absurd (subst IsSend is sends.sends)
sent_gave e (LinkHear frame) state step v gave is sends machine s = absurd (subst IsSend is sends.sends)
sent_gave e (LinkTick still) state step v gave is sends machine s = absurd (subst IsSend is sends.sends)
sent_gave e (LinkSeize last full) state step v gave is sends machine s = absurd (subst IsSend is sends.sends)

-- ---- the events of a step

made_gave : (anew : Option Path) (v : World) (gave : Gave) → EndGave v.a.end gave
    → EndGave (makes_near anew v).a.end gave
made_gave None v gave s = s
made_gave (Some path) v gave s = go v.a.end.machine.control.state refl
  where
    go : (state : LinkState) → v.a.end.machine.control.state ≡ state → EndGave (made_in state path v.a.end) gave
    go Idle is = record {
      waits = s.waits ∙ ap (λ st. waits_in st gave.waiting) is;
      gives = s.gives;
    }
    go Calling is = s
    go Up is = s
    go Releasing is = s

made_far : (anew : Option Path) (v : World) → (makes_near anew v).b.end ≡ v.b.end
made_far None v = refl
made_far (Some path) v = refl

-- seen from the end that makes the step
record NearGave (v : World) (own far : Gave) : Type 0 where
  at_own : EndGave v.a.end own
  at_far : EndGave v.b.end far

-- what an event makes of its end, if it finds it with the link's machine and tells what the link tells
abbrev Makes : End → LinkStep → Gave → Gave → Type 0
Makes e step own more =
    (x : World) → x.a.end.machine ≡ step.link.machine
    → (near_turn (event_at_end e step.event) x).told ≡ (link_turn step.link.machine step.event).told
    → EndGave x.a.end own → EndGave (near_turn (event_at_end e step.event) x).now more

one_gave :
    (e : End) (pairs : Pairs) (n : ℕ) (step : LinkStep) (w : World) (own more far : Gave)
    → FollowsAll e pairs n (step ∷ []) w → Makes e step own more → NearGave (seen_from e w) own far
    → NearGave (seen_from e (run_changes w (changes_by e pairs n step))) more far
one_gave e pairs n step w own more far follows makes_more s =
    let v = seen_from e w in
    let x = makes_near step.anew v in
    let made : seen_from e (run_changes w (makes e step.anew)) ≡ x = makes_seen e step.anew w in
    let machine : x.a.end.machine ≡ step.link.machine =
    ap (λ (z : World). z.a.end.machine) (sym made) ∙ follows.0.machine in
    let told : (near_turn (event_at_end e step.event) x).told ≡ (link_turn step.link.machine step.event).told =
    ap (λ z. (near_turn (event_at_end e step.event) z).told) (sym made) ∙ follows.0.told in
    subst (λ z. NearGave z more far) (sym (by_seen e pairs n step step.anew w)) (record {
      at_own = makes_more x machine told (made_gave step.anew v own s.at_own);
      at_far = subst (λ (r : RecordedEnd). EndGave r far) (sym (made_far step.anew v)) s.at_far;
    })

sends_gave :
    (e : End) (pairs : Pairs) (n : ℕ) (state : LinkState) (sends : List LinkStep) (w : World) (own far : Gave)
    → FollowsAll e pairs n sends w → Each (IsSendIn state) sends → NearGave (seen_from e w) own far
    → NearGave (seen_from e (run_changes w (all_changes_by e pairs n sends)))
    (gives_more state (taken_in sends) own) far
sends_gave e pairs n state [] w own far follows each s =
    subst (λ gave. NearGave (seen_from e w) gave far) (sym (gives_nothing state own)) s
sends_gave e pairs n state (send ∷ sends) w own far follows each s =
    let changes = changes_by e pairs n send in
    let next = run_changes w changes in
    let first = gives_more state (taken_by send) own in
    let one = one_gave e pairs n send w own first far (follows.0, tt)
    (λ x machine told gave. sent_gave e send.event state send x own refl each.0 machine gave) s in
    subst (λ gave. NearGave (seen_from e (run_changes w (changes ++ all_changes_by e pairs n sends))) gave far)
    (sym (gives_both state (taken_by send) (taken_in sends) own))
    (subst (λ z. NearGave (seen_from e z) (gives_more state (taken_in sends) first) far)
    (sym (run_changes-append changes (all_changes_by e pairs n sends) w))
    (sends_gave e pairs n state sends next first far follows.1 each.1 one))

-- events before and after
follows_parts :
    (e : End) (pairs : Pairs) (n : ℕ) (first second : List LinkStep) (w : World)
    → FollowsAll e pairs n (first ++ second) w
    → FollowsAll e pairs n first w × FollowsAll e pairs n second (run_changes w (all_changes_by e pairs n first))
follows_parts e pairs n [] second w h = (tt, h)
follows_parts e pairs n (step ∷ first) second w h =
    let changes = changes_by e pairs n step in
    let rest = follows_parts e pairs n first second (run_changes w changes) h.1 in (
      (h.0, rest.0),
      subst (FollowsAll e pairs n second) (sym (run_changes-append changes (all_changes_by e pairs n first) w)) rest.1,
    )

changes_both :
    (e : End) (pairs : Pairs) (n : ℕ) (first second : List LinkStep) (w : World)
    → run_changes w (all_changes_by e pairs n (first ++ second))
    ≡ run_changes (run_changes w (all_changes_by e pairs n first)) (all_changes_by e pairs n second)
changes_both e pairs n [] second w = refl
changes_both e pairs n (step ∷ first) second w =
    let changes = changes_by e pairs n step in
    run_changes-append changes (all_changes_by e pairs n (first ++ second)) w
    ∙ changes_both e pairs n first second (run_changes w changes)
    ∙ ap (λ z. run_changes z (all_changes_by e pairs n second))
    (sym (run_changes-append changes (all_changes_by e pairs n first) w))

act_gave :
    (e : End) (pairs : Pairs) (n : ℕ) (act : HostAct) (w : World) (own far : Gave)
    → FollowsAll e pairs n (events_of act) w → IsGoodAct act → NearGave (seen_from e w) own far
    → NearGave (seen_from e (run_changes w (all_changes_by e pairs n (events_of act)))) (after_act act own) far
act_gave e pairs n (Gives body link sends) w own far follows good s =
    sends_gave e pairs n link.machine.control.state sends w own far follows good.each s
act_gave e pairs n (Does step) w own far follows good s =
    let changes = changes_by e pairs n step in
    subst (λ xs. NearGave (seen_from e (run_changes w xs)) (after_event step own) far) (sym (append-nil changes))
    (one_gave e pairs n step w own (after_event step own) far (follows.0, tt)
    (λ x machine told gave. subst (λ (m : Machine). EndGave (near_turn (event_at_end e step.event) x).now
    (told_more (waits_in m.control.state own.waiting) own (link_turn step.link.machine step.event).told)) machine
    (event_gave e step.event x own (link_turn step.link.machine step.event).told told good gave)) s)

acts_gave :
    (e : End) (pairs : Pairs) (n : ℕ) (acts : List HostAct) (w : World) (own far : Gave)
    → FollowsAll e pairs n (all_events acts) w → Each IsGoodAct acts → NearGave (seen_from e w) own far
    → NearGave (seen_from e (run_changes w (all_changes_by e pairs n (all_events acts)))) (gave_after acts own) far
acts_gave e pairs n [] w own far follows good s = s
acts_gave e pairs n (act ∷ acts) w own far follows good s =
    let parts = follows_parts e pairs n (events_of act) (all_events acts) w follows in
    let between = run_changes w (all_changes_by e pairs n (events_of act)) in
    subst (λ z. NearGave (seen_from e z) (gave_after acts (after_act act own)) far)
    (sym (changes_both e pairs n (events_of act) (all_events acts) w))
    (acts_gave e pairs n acts between (after_act act own) far parts.1 good.1
    (act_gave e pairs n act w own far parts.0 good.0 s))

-- ---- all steps

gave_append : (first second : List HostAct) (gave : Gave)
    → gave_after (first ++ second) gave ≡ gave_after second (gave_after first gave)
gave_append [] second gave = refl
gave_append (act ∷ first) second gave = gave_append first second (after_act act gave)

-- both ends
record BothGave (w : World) (a b : Gave) : Type 0 where
  at_a : EndGave w.a.end a
  at_b : EndGave w.b.end b

one_both :
    (calls : Calls) (pairs : Pairs) (n : ℕ) (e : End) (acts : List HostAct) (made : List LinkStep) (w : World)
    (a b : Gave) → all_events acts ≡ made → Each IsGoodAct acts → FollowsAll e pairs n made w → BothGave w a b
    → BothGave (run_changes w (all_changes_by e pairs n made)) (gave_after (at_end A e acts) a)
    (gave_after (at_end B e acts) b)
one_both calls pairs n A acts made w a b is good follows s =
    let done : NearGave (run_changes w (all_changes_by A pairs n (all_events acts))) (gave_after acts a) b =
    acts_gave A pairs n acts w a b (subst (λ xs. FollowsAll A pairs n xs w) (sym is) follows) good
    (record { at_own = s.at_a; at_far = s.at_b }) in
    subst (λ xs. BothGave (run_changes w (all_changes_by A pairs n xs)) (gave_after acts a) b) is
    (record { at_a = done.at_own; at_b = done.at_far })
one_both calls pairs n B acts made w a b is good follows s =
    let done : NearGave (seen_from B (run_changes w (all_changes_by B pairs n (all_events acts)))) (gave_after acts b) a =
    acts_gave B pairs n acts w b a (subst (λ xs. FollowsAll B pairs n xs w) (sym is) follows) good
    (record { at_own = s.at_b; at_far = s.at_a }) in
    subst (λ xs. BothGave (run_changes w (all_changes_by B pairs n xs)) a (gave_after acts b)) is
    (record { at_a = done.at_far; at_b = done.at_own })

run_gave :
    (calls : Calls) (pairs : Pairs) (counts : Counts) (steps : List Step) (w : World) (a b : Gave)
    → FollowsThrough calls pairs counts steps w → BothGave w a b
    → BothGave (run_changes w (changes_from calls pairs counts steps)) (gave_after (acts_at calls A steps) a)
    (gave_after (acts_at calls B steps) b)
run_gave calls pairs counts [] w a b follows s = s
run_gave calls pairs counts (step ∷ steps) w a b follows s =
    let e = step.station in
    let made = steps_of (link_at_end calls e) step in
    let acts = acts_of (link_at_end calls e) step in
    let are = step_are calls e step in
    let changes = all_changes_by e pairs (count_at e counts) made in
    let more = with_more e (length step.after.out.queued) counts in
    let rest_a = acts_at calls A steps in
    let rest_b = acts_at calls B steps in
    let now_a = gave_after (at_end A e acts) a in
    let now_b = gave_after (at_end B e acts) b in
    let one = one_both calls pairs (count_at e counts) e acts made w a b are.events are.good follows.0 s in
    let all : BothGave (run_changes (run_changes w changes) (changes_from calls pairs more steps))
    (gave_after rest_a now_a) (gave_after rest_b now_b) =
    run_gave calls pairs more steps (run_changes w changes) now_a now_b follows.1 one in
    subst (λ g. BothGave (run_changes w (changes_from calls pairs counts (step ∷ steps))) g
    (gave_after (acts_at calls B (step ∷ steps)) b)) (sym (gave_append (at_end A e acts) rest_a a))
    (subst (λ g. BothGave (run_changes w (changes_from calls pairs counts (step ∷ steps))) (gave_after rest_a now_a) g)
    (sym (gave_append (at_end B e acts) rest_b b))
    (subst (λ z. BothGave z (gave_after rest_a now_a) (gave_after rest_b now_b))
    (sym (run_changes-append changes (changes_from calls pairs more steps) w)) all))

bodies_taken : (acts : List HostAct) → Each IsGoodAct acts → Each IsBodyTaken acts
bodies_taken [] good = tt
bodies_taken (Gives body link sends ∷ acts) good = (
  (good.0.part, λ taken. good.0.whole (recursion_from_All (λ (send : LinkStep). is_refused send ≡ false) sends taken)),
  bodies_taken acts good.1,
)
bodies_taken (Does step ∷ acts) good = (tt, bodies_taken acts good.1)

pub bodies_given_by : FollowingLaw → BodiesAreGiven
bodies_given_by law a b seed_a seed_b steps calls pairs run heard_a heard_b end =
    record {
      octets = at end;
      bodies = All-from_recursion IsBodyTaken (acts_at calls end steps)
          (bodies_taken (acts_at calls end steps) (all_are calls end steps).good);
    }
  where
    done : BothGave (run_changes (first_world calls a.params b.params)
        (changes_from calls pairs (record { a = 0; b = 0 }) steps)) (gave_after (acts_at calls A steps) none_gave)
        (gave_after (acts_at calls B steps) none_gave)
    done =
        run_gave calls pairs (record { a = 0; b = 0 }) steps (first_world calls a.params b.params) none_gave none_gave
        (law a b seed_a seed_b steps calls pairs run heard_a heard_b).through
        (record { at_a = record { waits = refl; gives = refl }; at_b = record { waits = refl; gives = refl } })

    at : (e : End)
        → all_given (seen_from e (run_changes (first_world calls a.params b.params)
        (changes_from calls pairs (record { a = 0; b = 0 }) steps))).a.end.set_ups
        ≡ (gave_after (acts_at calls e steps) none_gave).set_ups
    at A = done.at_a.gives
    at B = done.at_b.gives
