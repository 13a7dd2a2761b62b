-- The hosts come before the stations, and A before B.
use Rattle.channel_bench.proofs.Common.{A, B, [], ◌∷◌, AsksOrCalls, Gives, Ticks}
use Rattle.channel_bench.proofs.PartLemmas.{parts_cons, parts_one}
use Rattle.channel_bench.proofs.run.Run.act.Goals as goal

pub give-requires : goal.give-requires
give-requires c = c.requires

pub ask_or_call-requires : goal.ask_or_call-requires
ask_or_call-requires c =
    let a = c.in_ok-give.ensures.given c.requires.0 c.requires.1 c.requires.2 in
    (c.requires.0, a.0, a.2)

pub give-requires-2 : goal.give-requires-2
give-requires-2 c =
    let a = c.in_ok-give.ensures.given c.requires.0 c.requires.1 c.requires.2 in
    let b = c.in_ok-ask_or_call.ensures.asked c.requires.0 a.0 a.2 in
    (c.requires.0, b.0, b.2)

pub returns-clause-made : goal.returns-clause-made
returns-clause-made c = λ w bench h.
    let a = c.in_ok-give.ensures.given w bench h in
    let b = c.in_ok-ask_or_call.ensures.asked w a.0 a.2 in
    let d = c.in_ok-give-2.ensures.given w b.0 b.2 in
    let e = c.in_ok-tick_station.ensures.ticked w d.0 d.2 in
    let f = c.in_ok-tick_station-2.ensures.ticked w e.0 e.2 in (
      f.0,
      parts_cons w (Gives A) (AsksOrCalls ∷ Gives B ∷ Ticks A ∷ Ticks B ∷ []) bench a.0 f.0 a.1
          (parts_cons w AsksOrCalls (Gives B ∷ Ticks A ∷ Ticks B ∷ []) a.0 b.0 f.0 b.1
          (parts_cons w (Gives B) (Ticks A ∷ Ticks B ∷ []) b.0 d.0 f.0 d.1
          (parts_cons w (Ticks A) (Ticks B ∷ []) d.0 e.0 f.0 e.1
          (parts_one w (Ticks B) e.0 f.0 f.1)))),
      f.2,
    )
