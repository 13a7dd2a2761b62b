-- A piece of another connection is dropped, and the host program reads its own.
use Rattle.channel_bench.proofs.Common.{◌≡◌, ◌++◌, refl, sym, subst, ap, ◌∙◌, messages_in, StandsForSide, told_all}
use Rattle.agwpe_port.specs.Held.{StandsFor}
use Rattle.channel_bench.proofs.PieceLemmas.{told_messages, told_other}
use Rattle.station.proofs.MemoryLemmas.{if_took, on_took}
use Rattle.channel_bench.proofs.side.Side.take.Goals as goal

pub returns-then-piece-ne-PROGRAM-clause-told : goal.returns-then-piece-ne-PROGRAM-clause-told
returns-then-piece-ne-PROGRAM-clause-told c = λ end side h.
    subst (StandsForSide end c.args.self.now) (sym (told_other c.args.piece.now side c.if-piece-ne-PROGRAM.true)) h

pub returns-clause-told : goal.returns-clause-told
returns-clause-told c = λ end side h.
    let read = c.in_ok-messages.messages.items in
    told_messages end c.args.self.now _ side c.args.piece.now read h
    (record {
      end = refl;
      station = refl;
      there = refl;
      ear = refl;
      towards = refl;
      matched = refl;
      air = refl;
      silenced = refl;
    })
    c.if-piece-ne-PROGRAM.false (subst (λ o. StandsFor c.read_messages.new.reader (side.stream ++ o))
    c.as_slice.ensures.list (on_took _ c.read_messages.result c.in_ok-messages.messages c.in_ok-messages.ensures.value
    (c.read_messages.ensures.stands_for side.stream h.reader)))
    (subst (λ o. messages_in (side.stream ++ o) ≡ messages_in side.stream ++ read) c.as_slice.ensures.list
    (if_took _ c.read_messages.result c.in_ok-messages.messages c.in_ok-messages.ensures.value
    (c.read_messages.ensures.messages side.stream h.reader)))
    (c.in_ok-hear_all.ensures.heard ∙ ap (λ ms. told_all ms c.args.self.now.program) c.deref.ensures.value)
