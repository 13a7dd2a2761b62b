use Rattle.channel_bench.proofs.Common.{◌∷◌, [], subst, Joined, Bytes, Kiss, AtEnd, IsTold, sets_full_duplex, Tells}
use Rattle.channel_bench.proofs.Common.{Unless, full_duplex_octets}
use Rattle.channel_bench.proofs.PartLemmas.{parts_cons, parts_one}
use Rattle.channel_bench.proofs.RunLemmas.{run_remembers}
use Rattle.station.proofs.MemoryLemmas.{if_took}
use Rattle.channel_bench.proofs.run.Run.set_full_duplex.Goals as goal

pub join-requires : goal.join-requires
join-requires c = c.requires

pub say-requires-clause-stands : goal.say-requires-clause-stands
say-requires-clause-stands c =
    let one = c.in_ok-join.ensures.joined c.requires.0 c.requires.1 c.requires.2 in
    (c.requires.0, one.0, run_remembers c.join.new.self c.took.new.self c.requires.0 one.0 one.2)

pub returns-clause-set : goal.returns-clause-set
unfolding sets_full_duplex
returns-clause-set c = λ w bench h.
    let end = c.args.end in
    let one = c.in_ok-join.ensures.joined w bench h in
    let two = c.in_ok-say.ensures.said w one.0
    (run_remembers c.join.new.self c.took.new.self w one.0 one.2) in
    let said = subst (λ o. Unless (AtEnd end (IsTold end (Bytes 2 o))) one.0 two.0)
    (if_took _ c.full_duplex.result c.in_ok-octets.octets c.in_ok-octets.ensures.value c.full_duplex.ensures.spelled) two.1 in (
      two.0,
      parts_cons w (Tells end (Joined 2 Kiss)) (Tells end (Bytes 2 full_duplex_octets) ∷ []) bench one.0 two.0 one.1
          (parts_one w (Tells end (Bytes 2 full_duplex_octets)) one.0 two.0 said),
      two.2,
    )

pub say-requires-clause-most : goal.say-requires-clause-most
say-requires-clause-most c = if_took _ c.full_duplex.result c.in_ok-octets.octets c.in_ok-octets.ensures.value c.full_duplex.ensures.most
