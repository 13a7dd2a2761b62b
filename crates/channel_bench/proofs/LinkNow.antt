-- What the laws say of the link of the two calls at each moment of a run of the bench.
use Rattle.channel_bench.proofs.Common.{◌≡◌, false, List, [], ◌∷◌, refl, sym, subst, arith, All-from_recursion}
use Rattle.channel_bench.proofs.Common.{recursion_from_All, Machine, End, A, B, changes_law_holds, BenchWords, IsNoted}
use Rattle.channel_bench.proofs.Common.{first_stations, the_calls, config_of, params_of, BAsksNothing, AreMatched}
use Rattle.channel_bench.proofs.Common.{Moment, nothing_sent, steps_in, Step, Stations, all_stepped, state_of}
use Rattle.channel_bench.proofs.Common.{first_world, link_at_end, world_of, LinkStep, steps_of, RunsIn, pairs_in}
use Rattle.channel_bench.proofs.Common.{AllToldInOne, runs_following, IsGivenWhileUp, link_steps_at, set_ups_seen}
use Rattle.channel_bench.proofs.Common.{IsMachineOf, first_chosen, seed_at, RunChain, run_chained, AsksInSetUp, IsChain}
use Rattle.channel_bench.proofs.Common.{StandsAsked, StandsCalled, asked_following, called_following, chain_asked}
use Rattle.channel_bench.proofs.Common.{last_machine, matched_law_holds, matched_in_order_holds, AsksFindRoom}
use Rattle.channel_bench.proofs.Common.{AsksFindRoomAt, matched_for_each, quiet_for_each, set_ups_law_holds}
use Rattle.std.specs.List.{AllByRecursion as Each}
use Rattle.link_world.specs.Windows.{WindowsFit}
use Rattle.station_laws.specs.MatchedLaw.{IsEventOfCaller, OnlyACalls}
use Rattle.station_laws.specs.StationsLaw.{LinkKeepsOrder}
use Rattle.station_laws.proofs.CallerLaws.{events_by}
use Rattle.station_laws.proofs.ChainRun.{BIsPassive, EndAsks}
use Rattle.station_laws.proofs.Chains.{HearsWell, chain_called, chain_tells}
use Rattle.station_laws.proofs.LinkTells.{none_idle}
use Rattle.channel_bench.proofs.OwnLinks.{chosen}
use Rattle.channel_bench.proofs.ProgramsAsk.{AskLittle}
use Rattle.channel_bench.proofs.Shorts.{GivenShort, GotShort, ShortStep, got_short, steps_given}

-- what is known of a run at a moment
pub record Known (w : BenchWords) (moments : List Moment) (s : Stations) : Type 0 where
  pub noted : IsNoted w moments s
  pub little : AskLittle moments s
  pub matched : AreMatched moments nothing_sent
  pub room : AsksFindRoom the_calls (steps_in moments)

-- the windows of both stations fit
pub windows : (w : BenchWords) → WindowsFit (params_of w) (params_of w)
windows w = record {
  of_a = ((omega arith, omega arith), (omega arith, omega arith));
  of_b = ((omega arith, omega arith), (omega arith, omega arith));
  narrow = λ modes. (omega arith, omega arith);
  wide = λ modes. (omega arith, omega arith);
}

-- the events of the link that a caller may have
pub only_a_calls : (steps : List Step) → BAsksNothing steps → AsksFindRoom the_calls steps → OnlyACalls the_calls steps
only_a_calls [] asks room = tt
only_a_calls (step ∷ steps) asks room =
    let e = step.station in
    let made = steps_of (link_at_end the_calls e) step in (
      All-from_recursion (IsEventOfCaller e) made
          (events_by e the_calls step refl asks.0
          (recursion_from_All (AsksFindRoomAt e) made room.0)),
      only_a_calls steps asks.1 room.1,
    )

passive_events : (e : End) (steps : List LinkStep) → Each (IsEventOfCaller e) steps → Each (EndAsks e) steps
passive_events A [] h = tt
passive_events B [] h = tt
passive_events A (step ∷ steps) h = (tt, passive_events A steps h.1)
passive_events B (step ∷ steps) h = (h.0, passive_events B steps h.1)

passive : (steps : List Step) → OnlyACalls the_calls steps → BIsPassive the_calls steps
passive [] h = tt
passive (step ∷ steps) h =
    let made = steps_of (link_at_end the_calls step.station) step in (
      passive_events step.station made (recursion_from_All (IsEventOfCaller step.station) made h.0),
      passive steps h.1,
    )

-- ---- the laws

pub law_kept :
    (w : BenchWords) (moments : List Moment) (s : Stations) → Known w moments s
    → LinkKeepsOrder the_calls (pairs_in moments) (config_of w) (config_of w) (steps_in moments)
    (all_stepped (steps_in moments) (first_stations w))
law_kept w moments s known =
    let config = config_of w in
    matched_law_holds changes_law_holds config config (seed_at w A) (seed_at w B) moments the_calls known.noted.run
    (matched_for_each the_calls moments nothing_sent known.matched)
    (quiet_for_each the_calls moments nothing_sent known.noted.quiet) (windows w)
    (only_a_calls (steps_in moments) known.little.asks known.room)

-- the events of the link at an end
abbrev pub links_of : End → List Moment → List LinkStep
links_of e moments = link_steps_at the_calls e (steps_in moments)

-- the machine before the first
abbrev pub first_machine : BenchWords → End → Machine
first_machine w A = (first_world the_calls (params_of w) (params_of w)).a.end.machine
first_machine w B = (first_world the_calls (params_of w) (params_of w)).b.end.machine

chained : (w : BenchWords) (moments : List Moment) (s : Stations) → Known w moments s
    → RunChain the_calls (pairs_in moments) (record { a = 0; b = 0 })
    (first_world the_calls (params_of w) (params_of w))
    (steps_in moments)
chained w moments s known =
    let config = config_of w in
    let order = matched_in_order_holds moments the_calls
    (matched_for_each the_calls moments nothing_sent known.matched) in
    run_chained config config (seed_at w A) (seed_at w B) (steps_in moments) the_calls (pairs_in moments)
    known.noted.run order.0 order.1

pub link_chain : (w : BenchWords) (moments : List Moment) (s : Stations) → Known w moments s → (e : End)
    → IsChain (first_machine w e) (links_of e moments)
link_chain w moments s known A = (chained w moments s known).chain_a
link_chain w moments s known B = (chained w moments s known).chain_b

-- each event tells of data only while a set-up runs
pub link_told : (w : BenchWords) (moments : List Moment) (s : Stations) → Known w moments s → (e : End)
    → AllToldInOne false (links_of e moments)
link_told w moments s known A =
    (chain_tells false (first_machine w A) (links_of A moments) (link_chain w moments s known A) none_idle).told
link_told w moments s known B =
    (chain_tells false (first_machine w B) (links_of B moments) (link_chain w moments s known B) none_idle).told

-- how the link stands
pub record LinkNow (w : BenchWords) (moments : List Moment) (s : Stations) (e : End) : Type 0 where
  pub chain : IsChain (first_machine w e) (links_of e moments)
  pub runs : RunsIn (runs_following false (links_of e moments))
      (last_machine (first_machine w e) (links_of e moments)).control.state
  pub stands :
      let last = last_machine (first_machine w e) (links_of e moments) in
      StandsAsked (asked_following false (links_of e moments)) last.control.state last.control.quit
  -- at A, which alone calls
  pub called :
      e ≡ A
      → StandsCalled (called_following false (links_of e moments))
      (last_machine (first_machine w e) (links_of e moments)).control.state
  pub machine :
      IsMachineOf (first_chosen (chosen e) (state_of e s).links.places)
      (last_machine (first_machine w e) (links_of e moments))

machine_at :
    (w : BenchWords) (moments : List Moment) (s : Stations) (known : Known w moments s) (e : End)
    → IsMachineOf (first_chosen (chosen e) (state_of e s).links.places)
    (last_machine (first_machine w e) (links_of e moments))
machine_at w moments s known A =
    let after = (law_kept w moments s known).ends.after.at_a in
    let chain = chained w moments s known in
    subst (λ (x : Stations). IsMachineOf (first_chosen (chosen A) x.a.links.places)
    (last_machine (first_machine w A) (links_of A moments))) known.noted.now
    (subst (IsMachineOf (first_chosen (chosen A) (all_stepped (steps_in moments) (first_stations w)).a.links.places))
    (sym chain.last_a) after)
machine_at w moments s known B =
    let after = (law_kept w moments s known).ends.after.at_b in
    let chain = chained w moments s known in
    subst (λ (x : Stations). IsMachineOf (first_chosen (chosen B) x.b.links.places)
    (last_machine (first_machine w B) (links_of B moments))) known.noted.now
    (subst (IsMachineOf (first_chosen (chosen B) (all_stepped (steps_in moments) (first_stations w)).b.links.places))
    (sym chain.last_b) after)

pub well : (w : BenchWords) (moments : List Moment) (s : Stations) → Known w moments s → Each HearsWell
    (links_of A moments)
well w moments s known =
    (chained w moments s known).well (law_kept w moments s known).numbers
    (passive (steps_in moments) (only_a_calls (steps_in moments) known.little.asks known.room))
    (record { state = tt; quit = refl }) refl

pub link_now :
    (w : BenchWords) (moments : List Moment) (s : Stations) → Known w moments s → (e : End)
    → Each AsksInSetUp (links_of e moments) → LinkNow w moments s e
link_now w moments s known A asks =
    let chain = link_chain w moments s known A in
    record {
      chain = chain;
      runs = (chain_tells false (first_machine w A) (links_of A moments) chain none_idle).now;
      stands = chain_asked false (first_machine w A) (links_of A moments) chain asks refl;
      called = λ is. (chain_called false (first_machine w A) (links_of A moments) chain (well w moments s known)
          tt).now;
      machine = machine_at w moments s known A;
    }
link_now w moments s known B asks =
    let chain = link_chain w moments s known B in
    record {
      chain = chain;
      runs = (chain_tells false (first_machine w B) (links_of B moments) chain none_idle).now;
      stands = chain_asked false (first_machine w B) (links_of B moments) chain asks refl;
      called = λ is. absurd (cc);
      machine = machine_at w moments s known B;
    }

-- ---- what is got is short

abbrev pub GivenUp : LinkStep → Type 0
GivenUp step = IsGivenWhileUp step.event step.link.machine

seen_short : (w : BenchWords) (moments : List Moment) (e : End) → Each ShortStep (links_of e moments)
    → Each GivenShort (set_ups_seen the_calls e (steps_in moments))
seen_short w moments e short = steps_given (links_of e moments) [] short tt

pub law_short :
    (w : BenchWords) (moments : List Moment) (s : Stations) → Known w moments s
    → ((x : End) → Each GivenUp (links_of x moments)) → ((x : End) → Each ShortStep (links_of x moments)) → (e : End)
    → Each GotShort (set_ups_seen the_calls e (steps_in moments))
law_short w moments s known given short e =
    let config = config_of w in
    let steps = steps_in moments in
    let pairs = pairs_in moments in
    let order = matched_in_order_holds moments the_calls
    (matched_for_each the_calls moments nothing_sent known.matched) in
    let kept = law_kept w moments s known in
    let seen = set_ups_law_holds config config (seed_at w A) (seed_at w B) steps the_calls pairs known.noted.run order.0
    order.1 (λ x. All-from_recursion GivenUp (links_of x moments) (given x)) in
    let world = world_of the_calls pairs config.params config.params steps in
    let given_a = subst (Each GivenShort) (sym seen.at_a) (seen_short w moments A (short A)) in
    let given_b = subst (Each GivenShort) (sym seen.at_b) (seen_short w moments B (short B)) in
    go e (subst (Each GotShort) seen.at_a (got_short world.a.end world.b.end kept.got_a given_b))
    (subst (Each GotShort) seen.at_b (got_short world.b.end world.a.end kept.got_b given_a))
  where
    go : (x : End) → Each GotShort (set_ups_seen the_calls A (steps_in moments))
        → Each GotShort (set_ups_seen the_calls B (steps_in moments))
        → Each GotShort (set_ups_seen the_calls x (steps_in moments))
    go A at_a at_b = at_a
    go B at_a at_b = at_b
