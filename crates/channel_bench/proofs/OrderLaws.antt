-- The law on a bench, from the law on two stations of which one alone calls: what the ends of the link got in order,
-- the host programs got in order.
use Rattle.channel_bench.proofs.Common.{◌≡◌, List, [], ◌∷◌, map, refl, sym, ap, ◌∙◌, subst, All-from_recursion, A, B}
use Rattle.channel_bench.proofs.Common.{RecordedEnd, changes_law_holds, SetUp, BenchWords, set_up_of, steps_of_run}
use Rattle.channel_bench.proofs.Common.{the_calls, config_of, ProgramState, set_ups_of, GotInOrder}
use Rattle.channel_bench.proofs.Common.{AreMatched, nothing_sent, IsOver, world_of, pairs_in, Seen, as_seen}
use Rattle.channel_bench.proofs.Common.{set_ups_seen, seed_at, matched_law_holds, matched_in_order_holds, AsksFindRoom}
use Rattle.channel_bench.proofs.Common.{matched_for_each, quiet_for_each, set_ups_law_holds}
use Rattle.link_world.specs.Origin.{GotInOrder as PacketsInOrder}
use Rattle.link_world.specs.SetUps.{SetUp as LinkSetUp}
use Rattle.channel_bench.specs.BenchLaw.{BenchLaw, IsFollowed, ProgramsFollow}
use Rattle.channel_bench.specs.KeepsOrder.{SidesKeepOrder, octets_origins}
use Rattle.channel_bench.specs.Report.{Report}
use Rattle.channel_bench.proofs.LinkNow.{GivenUp, links_of, only_a_calls, windows}
use Rattle.channel_bench.proofs.GotOctets.{octets_in_order, seen_as}
use Rattle.channel_bench.proofs.RunSees.{run_sees}
use Rattle.channel_bench.proofs.StepSees.{both_ends}
use Rattle.channel_bench.proofs.TimedRun.{run_in_time}

-- the set-ups of an end, as its host program saw them
both_maps : (set_ups : List LinkSetUp) → map set_up_of (map as_seen set_ups) ≡ map seen_as set_ups
both_maps [] = refl
both_maps (q ∷ set_ups) = ap (λ qs. seen_as q ∷ qs) (both_maps set_ups)

saw :
    (program : ProgramState) (set_ups : List LinkSetUp) (seen : List Seen) → set_ups_of program ≡ map set_up_of seen
    → map as_seen set_ups ≡ seen → map seen_as set_ups ≡ set_ups_of program
saw program set_ups seen told same = sym (told ∙ ap (map set_up_of) (sym same) ∙ both_maps set_ups)

order_of :
    (near far : RecordedEnd) (ours theirs : List SetUp) → PacketsInOrder near far → map seen_as near.set_ups ≡ ours
    → map seen_as far.set_ups ≡ theirs → GotInOrder (octets_origins near.set_ups) theirs ours
order_of near far ours theirs order same_ours same_theirs =
    let from = octets_origins near.set_ups in
    subst (λ qs. GotInOrder from qs ours) same_theirs
    (subst (GotInOrder from (map seen_as far.set_ups)) same_ours (octets_in_order near far order))

-- the host programs saw the set-ups of the link
followed :
    (w : BenchWords) (report : Report) (over : IsOver w report) → AreMatched over.bench.common.moments nothing_sent
    → AsksFindRoom the_calls (steps_of_run over.bench) → IsFollowed over.bench
followed w report over matched room =
    let bench = over.bench in
    let moments = bench.common.moments in
    let sees = run_sees w over.count bench over.ticks over.no_trouble in
    let a = sees.sees_a (record { matched = matched; room = room }) in
    let b = sees.sees_b (record { matched = matched; room = room }) in
    record {
      given = λ e. All-from_recursion GivenUp (links_of e moments) (both_ends GivenUp A moments a.given b.given e);
      seen_a = a.sees.set_ups;
      seen_b = b.sees.set_ups;
    }

-- each SABM, SABME and DISC of A's link that is not up finds room
asks_find_room : (w : BenchWords) (report : Report) (over : IsOver w report)
    → AreMatched over.bench.common.moments nothing_sent → AsksFindRoom the_calls (steps_of_run over.bench)
asks_find_room w report over matched = ((run_sees w over.count over.bench over.ticks over.no_trouble).finds matched).1

pub programs_follow_holds : ProgramsFollow
programs_follow_holds w report over =
    let matched = (run_in_time w over.count over.bench over.ticks over.no_trouble).both.matched in
    followed w report over matched (asks_find_room w report over matched)

pub bench_law_holds : BenchLaw
bench_law_holds w report over =
    let bench = over.bench in
    let moments = bench.common.moments in
    let steps = steps_of_run bench in
    let config = config_of w in
    let pairs = pairs_in moments in
    let holds = run_sees w over.count bench over.ticks over.no_trouble in
    let matched = (run_in_time w over.count bench over.ticks over.no_trouble).both.matched in
    let room = asks_find_room w report over matched in
    let for_link = matched_for_each the_calls moments nothing_sent matched in
    let order = matched_in_order_holds moments the_calls for_link in
    let h = followed w report over matched room in
    let kept =
    matched_law_holds changes_law_holds config config (seed_at w A)
    (seed_at w B) moments the_calls holds.noted.run for_link
    (quiet_for_each the_calls moments nothing_sent holds.noted.quiet) (windows w)
    (only_a_calls steps holds.little.asks room) in
    let seen = set_ups_law_holds config config (seed_at w A)
    (seed_at w B) steps the_calls pairs holds.noted.run order.0 order.1 h.given in
    let world = world_of the_calls pairs config.params config.params steps in
    let at_a = saw bench.a.program world.a.end.set_ups (set_ups_seen the_calls A steps) h.seen_a seen.at_a in
    let at_b = saw bench.b.program world.b.end.set_ups (set_ups_seen the_calls B steps) h.seen_b seen.at_b in
    subst (SidesKeepOrder w bench) (sym over.told) (record {
      at_a = order_of world.a.end world.b.end (set_ups_of bench.a.program)
          (set_ups_of bench.b.program) kept.got_a at_a at_b;
      at_b = order_of world.b.end world.a.end (set_ups_of bench.b.program)
          (set_ups_of bench.a.program) kept.got_b at_b at_a;
    })
