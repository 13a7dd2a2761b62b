use Rattle.channel_bench.proofs.Common.{Bytes}
use Rattle.channel_bench.proofs.SideLemmas.{told_no, told_yes}
use Rattle.channel_bench.proofs.side.Side.say.Goals as goal

pub bring-requires : goal.bring-requires
bring-requires c =
    let h = c.requires.stands in
    c.accepts.ensures.admitted c.args.octets c.if-not-accepts.false c.requires.most h.0 h.1.side h.2.side_is

pub returns-then-not-accepts-clause-told : goal.returns-then-not-accepts-clause-told
returns-then-not-accepts-clause-told c = λ end n h none. (
  n,
  told_no end (Bytes c.args.id c.args.octets) n c.accepts.result
      (c.accepts.ensures.accepts end n.side c.args.octets h.side_is) c.if-not-accepts.true,
  h,
)

pub returns-clause-told : goal.returns-clause-told
returns-clause-told c = λ end n h none.
    let made = c.in_ok-bring.ensures.step end n h none in (
      made.0,
      told_yes end (Bytes c.args.id c.args.octets) n made.0 c.accepts.result
          (c.accepts.ensures.accepts end n.side c.args.octets h.side_is) c.if-not-accepts.false made.1,
      made.2,
    )
