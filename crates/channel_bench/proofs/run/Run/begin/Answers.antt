use Rattle.channel_bench.proofs.Common.{◌∷◌, [], ◌++◌, subst, A, B, Bytes, AtEnd, IsTold, beginning, joins, sets_duplex}
use Rattle.channel_bench.proofs.Common.{Tells, Unless, connect_octets}
use Rattle.channel_bench.proofs.PartLemmas.{parts_append, parts_one}
use Rattle.channel_bench.proofs.RunLemmas.{run_remembers}
use Rattle.station.proofs.MemoryLemmas.{if_took}
use Rattle.channel_bench.proofs.run.Run.begin.Goals as goal

pub set_duplex-requires : goal.set_duplex-requires
set_duplex-requires c = c.requires

pub join_program-requires : goal.join_program-requires
join_program-requires c =
    let one = c.in_ok-set_duplex.ensures.set c.requires.0 c.requires.1 c.requires.2 in
    (c.requires.0, one.0, one.2)

pub join_program-requires-2 : goal.join_program-requires-2
join_program-requires-2 c =
    let one = c.in_ok-set_duplex.ensures.set c.requires.0 c.requires.1 c.requires.2 in
    let two = c.in_ok-join_program.ensures.joined c.requires.0 one.0 one.2 in
    (c.requires.0, two.0, two.2)

pub say-requires-clause-stands : goal.say-requires-clause-stands
say-requires-clause-stands c =
    let one = c.in_ok-set_duplex.ensures.set c.requires.0 c.requires.1 c.requires.2 in
    let two = c.in_ok-join_program.ensures.joined c.requires.0 one.0 one.2 in
    let three = c.in_ok-join_program-2.ensures.joined c.requires.0 two.0 two.2 in
    (c.requires.0, three.0, run_remembers c.join_program-2.new.self c.took.new.self c.requires.0 three.0 three.2)

pub returns-clause-begun : goal.returns-clause-begun
unfolding beginning
returns-clause-begun c = λ w bench h.
    let one = c.in_ok-set_duplex.ensures.set w bench h in
    let two = c.in_ok-join_program.ensures.joined w one.0 one.2 in
    let three = c.in_ok-join_program-2.ensures.joined w two.0 two.2 in
    let four = c.in_ok-say.ensures.said w three.0
    (run_remembers c.join_program-2.new.self c.took.new.self w three.0 three.2) in
    let said = subst (λ o. Unless (AtEnd A (IsTold A (Bytes 1 o))) three.0 four.0)
    (if_took _ c.connect.result c.in_ok-call.call c.in_ok-call.ensures.value c.connect.ensures.spelled) four.1 in
    let call = Tells A (Bytes 1 (connect_octets A)) in (
      four.0,
      parts_append w (sets_duplex w) (joins A ++ (joins B ++ call ∷ [])) bench one.0 four.0 one.1
          (parts_append w (joins A) (joins B ++ call ∷ []) one.0 two.0 four.0 two.1
          (parts_append w (joins B) (call ∷ []) two.0 three.0 four.0 three.1
          (parts_one w call three.0 four.0 said))),
      four.2,
    )

pub say-requires-clause-most : goal.say-requires-clause-most
say-requires-clause-most c = if_took _ c.connect.result c.in_ok-call.call c.in_ok-call.ensures.value c.connect.ensures.most
