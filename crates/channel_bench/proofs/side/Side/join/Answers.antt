-- The connection joins if none of its id is there.
use Rattle.channel_bench.proofs.Common.{Joined}
use Rattle.channel_bench.proofs.SideLemmas.{told_no, told_yes}
use Rattle.channel_bench.proofs.side.Side.join.Goals as goal

pub enter-requires : goal.enter-requires
enter-requires c =
    let h = c.requires in
    c.is_new.ensures.admitted c.if-not-is_new.false h.0 h.1.side c.args.kind h.2.side_is

pub returns-then-not-is_new-clause-told : goal.returns-then-not-is_new-clause-told
returns-then-not-is_new-clause-told c = λ end n h none. (
  n,
  told_no end (Joined c.args.id c.args.kind) n c.is_new.result
      (c.is_new.ensures.may end n.side c.args.kind h.side_is) c.if-not-is_new.true,
  h,
)

pub returns-clause-told : goal.returns-clause-told
returns-clause-told c = λ end n h none.
    let made = c.in_ok-enter.ensures.step end n h none in (
      made.0,
      told_yes end (Joined c.args.id c.args.kind) n made.0 c.is_new.result
          (c.is_new.ensures.may end n.side c.args.kind h.side_is) c.if-not-is_new.false made.1,
      made.2,
    )
