-- A link tells of data only while a set-up runs: over a whole run of two stations.
use Rattle.station_laws.proofs.Common.{◌≡◌, false, List, Option, Some, None, ap, ◌∙◌, subst, Machine, End, A, B, Link}
use Rattle.station_laws.proofs.Common.{all_stepped, new_stations, state_of, first_world, RunsIn, runs_following}
use Rattle.station_laws.proofs.Common.{link_steps_at, IsMachineOf}
use Rattle.station_laws.specs.RunsTell.{RunsTellInOne, ToldInOneAt, state_of_link}
use Rattle.station_laws.proofs.ChainRun.{run_chained}
use Rattle.station_laws.proofs.Chains.{chain_tells}
use Rattle.station_laws.proofs.JointLaw.{following_law_holds}
use Rattle.station_laws.proofs.LinkTells.{none_idle}

-- the state of the station's link
pub state_is : (place : Option Link) (m : Machine) → IsMachineOf place m → m.control.state ≡ state_of_link place
state_is None m is = is
state_is (Some link) m is = ap (λ (x : Machine). x.control.state) is

pub runs_tell_holds : RunsTellInOne
runs_tell_holds a b seed_a seed_b steps calls pairs run heard_a heard_b end =
    let follows = following_law_holds a b seed_a seed_b steps calls pairs run heard_a heard_b in
    let chain = run_chained a b seed_a seed_b steps calls pairs run heard_a heard_b in
    let first = first_world calls a.params b.params in
    let tells_a = chain_tells false first.a.end.machine (link_steps_at calls A steps) chain.chain_a none_idle in
    let tells_b = chain_tells false first.b.end.machine (link_steps_at calls B steps) chain.chain_b none_idle in
    let now_a = ap (λ (m : Machine). m.control.state) chain.last_a ∙ state_is _ _ follows.after.at_a in
    let now_b = ap (λ (m : Machine). m.control.state) chain.last_b ∙ state_is _ _ follows.after.at_b in
    go end (record {
      told = tells_a.told;
      now = subst (RunsIn (runs_following false (link_steps_at calls A steps))) now_a tells_a.now;
    }) (record {
      told = tells_b.told;
      now = subst (RunsIn (runs_following false (link_steps_at calls B steps))) now_b tells_b.now;
    })
  where
    places : End → List (Option Link)
    places e = (state_of e (all_stepped steps (new_stations a seed_a b seed_b))).links.places

    go : (e : End) → ToldInOneAt calls A steps (places A) → ToldInOneAt calls B steps (places B)
        → ToldInOneAt calls e steps (places e)
    go A at_a at_b = at_a
    go B at_a at_b = at_b
