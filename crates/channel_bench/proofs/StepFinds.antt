-- A step of a station of the bench keeps one key for all frames that wait at A, and few wait while its link calls modulo
-- 128. Each SABM, SABME and DISC of A's link that is not up finds room, by what is known before the step.
use Rattle.channel_bench.proofs.Common.{◌≡◌, ℕ, Bool, false, List, [], ◌∷◌, ◌++◌, Option, None, refl, sym, ap, ◌∙◌}
use Rattle.channel_bench.proofs.Common.{subst, All, All-from_recursion, Machine, End, A, B, begin, BenchWords, IsNoted}
use Rattle.channel_bench.proofs.Common.{the_calls, Near, config_of, params_of, IsStep, AreMatched, LinkFrame, Moment}
use Rattle.channel_bench.proofs.Common.{after_moments, nothing_sent, sent_by, steps_in, Steps, IsTurn, Step, Stations}
use Rattle.channel_bench.proofs.Common.{state_of, with_state, Calls, first_world, link_at_end, LinkStep, steps_of}
use Rattle.channel_bench.proofs.Common.{turn_steps, pairs_in, seed_at, RunChain, run_chained, AsksInSetUp, IsChain}
use Rattle.channel_bench.proofs.Common.{StandsAsked, asked_after, asked_following, chain_asked, chain_parts, last_machine}
use Rattle.channel_bench.proofs.Common.{is_disconnect, matched_in_order_holds, AsksFindRoom, AsksFindRoomAt, AsksInRoom}
use Rattle.channel_bench.proofs.Common.{matched_for_each, not_both}
use Rattle.channel_bench.proofs.Common.{after_moment, BothWays}
use Rattle.std.specs.List.{AllByRecursion as Each}
use Rattle.link_machine.specs.Event.{Event as LinkEvent}
use Rattle.link_machine.specs.Event.Event.{Connect as LinkConnect, Send as LinkSend, Disconnect as LinkDisconnect}
use Rattle.link_machine.specs.Event.Event.{Hear as LinkHear, Seize as LinkSeize, Tick as LinkTick}
use Rattle.link_machine.specs.Step.{step as link_turn}
use Rattle.link_world.proofs.law.Each.{each_of_all}
use Rattle.station_laws.proofs.Chains.{HearsWell, asked_step, made_like}
use Rattle.channel_bench.proofs.CoreRun.{Occurs, Usual, input_of, told_station}
use Rattle.channel_bench.proofs.CoreRun.Usual.{connects, disconnects, gives, hears, joins_kiss, joins_program}
use Rattle.channel_bench.proofs.CoreRun.Usual.{registers, sets_full, ticks}
use Rattle.channel_bench.proofs.FindingRoom.{CalmIn, HearsCalm, TakesCall, usual_finds}
use Rattle.channel_bench.proofs.HearsLittle.{asked_wishes}
use Rattle.channel_bench.proofs.HostsStay.{HasHosts}
use Rattle.channel_bench.proofs.KeyedSteps.{Finds}
use Rattle.channel_bench.proofs.LinkNow.{Known, first_machine, links_of, well}
use Rattle.channel_bench.proofs.NextSees.{noted_step, own_events}
use Rattle.channel_bench.proofs.NotedRun.{noted_kept, steps_more}
use Rattle.channel_bench.proofs.OneKey.{Keyed}
use Rattle.channel_bench.proofs.OwnLinks.{IsOwnFrame, OwnsAll, chosen, heard_says, IsBy}
use Rattle.channel_bench.proofs.OwnMessages.{IsHeardFrom}
use Rattle.channel_bench.proofs.ProgramsAsk.{AskLittle, asks_kept}
use Rattle.channel_bench.proofs.StepSees.{heard_from, matched_last, queue_of, unshown_of}
use Rattle.station_laws.proofs.Causes.{cause_of}
use Rattle.station_laws.proofs.Causes.Cause.{hearing}

-- ---- fewer moments

pub matched_front : (moments : List Moment) (moment : Moment) (ways : BothWays)
    → AreMatched (moments ++ moment ∷ []) ways
    → AreMatched moments ways
matched_front [] moment ways h = tt
matched_front (first ∷ moments) moment ways h = (h.0, matched_front moments moment (after_moment first ways) h.1)

-- ---- what is known

-- what is known of A's station and its link, and of what B's link queued
pub record KnownAtA (w : BenchWords) (moments : List Moment) (s : Stations) : Type 0 where
  pub noted : IsNoted w moments s
  pub little : AskLittle moments s
  pub owns : OwnsAll A s.a
  pub asks : Each AsksInSetUp (links_of A moments)
  pub queued : Each (λ (f : LinkFrame). IsOwnFrame B f.octets) (queue_of B moments)

-- one key at A's station, and room for each SABM, SABME and DISC of A's link that is not up
abbrev pub Finding : List Moment → Stations → Type 0
Finding moments s = AreMatched moments nothing_sent → Keyed s.a × AsksFindRoom the_calls (steps_in moments)

-- what is known follows from that
abbrev pub Knows : BenchWords → List Moment → Stations → Type 0
Knows w moments s =
    AreMatched moments nothing_sent → AsksFindRoom the_calls (steps_in moments) → KnownAtA w moments s

-- ---- the events of a step

-- the events of A's link one after another
run_chain_of : (w : BenchWords) (moments : List Moment) (s : Stations) → IsNoted w moments s
    → AreMatched moments nothing_sent
    → RunChain the_calls (pairs_in moments) (record { a = 0; b = 0 })
    (first_world the_calls (params_of w) (params_of w)) (steps_in moments)
run_chain_of w moments s noted matched =
    let config = config_of w in
    let order = matched_in_order_holds moments the_calls (matched_for_each the_calls moments nothing_sent matched) in
    run_chained config config (seed_at w A) (seed_at w B) (steps_in moments) the_calls (pairs_in moments) noted.run
    order.0 order.1

hears_asks : (event : LinkEvent) → cause_of event ≡ hearing → is_disconnect event ≡ false
hears_asks LinkConnect h = refl
hears_asks (LinkSend packet) h = refl
hears_asks LinkDisconnect h = absurd (cc)
hears_asks (LinkHear frame) h = refl
hears_asks (LinkTick waiting) h = refl
hears_asks (LinkSeize last full) h = refl

-- Events by which frames are heard find no wish to disconnect while the link is idle or calls.
calm_events :
    (asked : Bool) (m : Machine) (steps : List LinkStep) → IsChain m steps
    → Each (IsBy hearing) steps → StandsAsked asked m.control.state m.control.quit → Each HearsCalm steps
calm_events asked m [] chain by stands = tt
calm_events asked m (step ∷ steps) chain by stands =
    let there : StandsAsked asked step.link.machine.control.state step.link.machine.control.quit =
    subst (λ (x : Machine). StandsAsked asked x.control.state x.control.quit) chain.0
    (made_like (StandsAsked asked) refl step.anew m stands) in
    let turn = link_turn step.link.machine step.event in
    let next = asked_step step.link.machine step.event asked
    (λ is. absurd (not_both (is_disconnect step.event) is (hears_asks step.event by.0))) there in (
      record {
        wishes = asked_wishes asked step.link.machine.control.state step.link.machine.control.quit there;
      },
      calm_events (asked_after asked (is_disconnect step.event) turn.told) turn.now steps chain.1 by.1 next,
    )

each_following : (P : LinkStep → Type 0) (first second : List LinkStep) → Each P (first ++ second) → Each P second
each_following P [] second h = h
each_following P (x ∷ first) second h = each_following P first second h.1

-- those of a step by which a frame is heard
heard_calm :
    (w : BenchWords) (moments later : List Moment) (t : Stations) (made : List LinkStep) → IsNoted w later t
    → AreMatched later nothing_sent → links_of A later ≡ links_of A moments ++ made
    → Each AsksInSetUp (links_of A moments) → Each (IsBy hearing) made → Each HearsCalm made
heard_calm w moments later t made noted matched links asks by =
    let events = links_of A moments in
    let run = run_chain_of w later t noted matched in
    let chain = chain_parts (first_machine w A) events made (subst (IsChain (first_machine w A)) links run.chain_a) in
    let stands = chain_asked false (first_machine w A) events chain.0 asks refl in
    calm_events (asked_following false events) (last_machine (first_machine w A) events) made chain.1 by stands

-- and those that it hears neither call nor reset the link
heard_well :
    (w : BenchWords) (moments later : List Moment) (t : Stations) (made : List LinkStep) → Known w later t
    → links_of A later ≡ links_of A moments ++ made → Each HearsWell made
heard_well w moments later t made known links =
    each_following HearsWell (links_of A moments) made (subst (Each HearsWell) links (well w later t known))

-- ---- a step of A's station

room_more :
    (calls : Calls) (steps : List Step) (step : Step) → AsksFindRoom calls steps
    → All (AsksFindRoomAt step.station) (steps_of (link_at_end calls step.station) step)
    → AsksFindRoom calls (steps ++ step ∷ [])
room_more calls [] step h one = (one, tt)
room_more calls (first ∷ steps) step h one = (h.0, room_more calls steps step h.1 one)

finds_at_a :
    (w : BenchWords) (usual : Usual) (matched : Option ℕ) (before after : Near) (s : Stations) → Occurs A usual
    → TakesCall usual before.side.station → (h : IsStep A (input_of A usual) matched before after)
    → after.common.trouble ≡ None → before.side.station ≡ s.a → KnownAtA w before.common.moments s
    → AsksFindRoom the_calls (steps_in before.common.moments) → Keyed before.side.station
    → AreMatched (before.common.moments ++ Steps (noted_step A usual matched before after h) matched ∷ []) nothing_sent
    → Finds h.turn (steps_of (chosen A) (noted_step A usual matched before after h))
finds_at_a w usual matched before after s occurs takes h calm at known room keyed all_matched =
    let station = before.side.station in
    let moments = before.common.moments in
    let step = noted_step A usual matched before after h in
    let next = moments ++ Steps step matched ∷ [] in
    let hosts : HasHosts station = subst HasHosts (sym at) known.little.a in
    let owns : OwnsAll A station = subst (OwnsAll A) (sym at) known.owns in
    let from = heard_from A usual matched (sent_by B (after_moments moments nothing_sent))
    (matched_last moments (Steps step matched) nothing_sent all_matched) known.queued in
    let moments_are : after.common.moments ≡ next = ap (λ (n : Near). n.common.moments) h.is in
    let later = with_state A after.side.station s in
    let noted : IsNoted w next later =
    subst (λ ms. IsNoted w ms later) moments_are
    ((noted_kept w).steps A usual matched before after s occurs h calm at known.noted) in
    let little : AskLittle next later =
    subst (λ ms. AskLittle ms later) moments_are
    ((asks_kept w).steps A usual matched before after s occurs h calm at known.little) in
    let more : Each AsksInRoom (steps_of (chosen A) step) → AsksFindRoom the_calls (steps_in next) = λ finds.
    subst (AsksFindRoom the_calls) (sym (steps_more moments step matched))
    (room_more the_calls (steps_in moments) step room
    (All-from_recursion (AsksFindRoomAt A) (steps_of (chosen A) step) finds)) in
    let events = own_events A moments step matched refl in
    usual_finds usual station h.turn (record {
      occurs = occurs;
      hosts = hosts;
      owns = owns;
      unshown = unshown_of station.connections hosts.connections;
      from = from;
      takes = takes;
      keyed = keyed;
    }) h.makes (calm_in usual h.makes hosts owns from (λ by. (
      heard_calm w moments next later (steps_of (chosen A) step) noted all_matched events known.asks by,
      λ finds. heard_well w moments next later (steps_of (chosen A) step)
          (record { noted = noted; little = little; matched = all_matched; room = more finds }) events,
    )))
  where
    calm_in :
        (u : Usual) (turn : IsTurn (input_of A u) (begin before.side.station) h.turn) → HasHosts before.side.station
        → OwnsAll A before.side.station → IsHeardFrom A u
        → (Each (IsBy hearing) (turn_steps (chosen A) (input_of A u) (begin before.side.station) h.turn turn)
        → Each HearsCalm (turn_steps (chosen A) (input_of A u) (begin before.side.station) h.turn turn)
        × (Each AsksInRoom (turn_steps (chosen A) (input_of A u) (begin before.side.station) h.turn turn)
        → Each HearsWell (turn_steps (chosen A) (input_of A u) (begin before.side.station) h.turn turn)))
        → CalmIn u (turn_steps (chosen A) (input_of A u) (begin before.side.station) h.turn turn)
    calm_in joins_kiss turn hosts owns from calms = tt
    calm_in sets_full turn hosts owns from calms = tt
    calm_in joins_program turn hosts owns from calms = tt
    calm_in registers turn hosts owns from calms = tt
    calm_in connects turn hosts owns from calms = tt
    calm_in (gives piece) turn hosts owns from calms = tt
    calm_in disconnects turn hosts owns from calms = tt
    calm_in (hears octets) turn hosts owns from calms =
        calms (heard_says hearing A octets (begin before.side.station) h.turn refl hosts.digi owns
        (unshown_of before.side.station.connections hosts.connections) from turn).causes
    calm_in (ticks busy) turn hosts owns from calms = tt

-- ---- a step of either

pub finding_step :
    (w : BenchWords) (e : End) (usual : Usual) (matched : Option ℕ) (before after : Near) (s : Stations)
    → Occurs e usual → TakesCall usual before.side.station → IsStep e (input_of e usual) matched before after
    → after.common.trouble ≡ None → before.side.station ≡ state_of e s → Knows w before.common.moments s
    → Finding before.common.moments s → Finding after.common.moments (with_state e after.side.station s)
finding_step w A usual matched before after s occurs takes h calm at knows finding = λ all.
    let moments = before.common.moments in
    let step = noted_step A usual matched before after h in
    let next = moments ++ Steps step matched ∷ [] in
    let moments_are : after.common.moments ≡ next = ap (λ (n : Near). n.common.moments) h.is in
    let matches : AreMatched next nothing_sent = subst (λ ms. AreMatched ms nothing_sent) moments_are all in
    let old = matched_front moments (Steps step matched) nothing_sent matches in
    let found = finding old in
    let station_is : after.side.station ≡ h.turn.now =
    ap (λ (n : Near). n.side.station) h.is ∙ told_station h.turn.out.pieces _ in
    let done = finds_at_a w usual matched before after s occurs takes h calm at (knows old found.1) found.1
    (subst Keyed (sym at) found.0) matches in (
      subst Keyed (sym station_is) done.0,
      subst (λ ms. AsksFindRoom the_calls (steps_in ms)) (sym moments_are)
          (subst (AsksFindRoom the_calls) (sym (steps_more moments step matched))
          (room_more the_calls (steps_in moments) step found.1
          (All-from_recursion (AsksFindRoomAt A) (steps_of (chosen A) step) done.1))),
    )
finding_step w B usual matched before after s occurs takes h calm at knows finding = λ all.
    let moments = before.common.moments in
    let step = noted_step B usual matched before after h in
    let next = moments ++ Steps step matched ∷ [] in
    let moments_are : after.common.moments ≡ next = ap (λ (n : Near). n.common.moments) h.is in
    let matches : AreMatched next nothing_sent = subst (λ ms. AreMatched ms nothing_sent) moments_are all in
    let found = finding (matched_front moments (Steps step matched) nothing_sent matches) in (
      found.0,
      subst (λ ms. AsksFindRoom the_calls (steps_in ms)) (sym moments_are)
          (subst (AsksFindRoom the_calls) (sym (steps_more moments step matched))
          (room_more the_calls (steps_in moments) step found.1
          (All-from_recursion (AsksFindRoomAt B) (steps_of (chosen B) step)
          (each_of_all (AsksFindRoomAt B) (λ x. tt) (steps_of (chosen B) step))))),
    )
