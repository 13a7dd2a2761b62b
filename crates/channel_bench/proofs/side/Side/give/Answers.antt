-- The next piece is given if the station takes it, and there is one.
use Rattle.channel_bench.proofs.Common.{◌≡◌, List, [], ℕ, Some, None, refl, ap, ◌∙◌, subst, Bytes, IsStep, with_giving}
use Rattle.channel_bench.proofs.Common.{data_octets, FromHost, if_took}
use Rattle.channel_bench.proofs.GiveLemmas.{given_no, given_none, given_yes, piece_is, stands_giving}
use Rattle.channel_bench.proofs.side.Side.give.Goals as goal

pub bring-requires : goal.bring-requires
bring-requires c =
    let h = c.requires in
    c.accepts.ensures.admitted c.in_ok-octets.octets c.if-not-accepts.false
    (if_took _ c.data.result c.in_ok-octets.octets c.in_ok-octets.ensures.value c.data.ensures.most) h.0 h.1.side h.2.side_is

pub returns-then-not-accepts-clause-given : goal.returns-then-not-accepts-clause-given
returns-then-not-accepts-clause-given c = λ end w is n h none. (
  n,
  given_no w end n n c.accepts.result
      (c.accepts.ensures.accepts end n.side [] h.side_is) c.if-not-accepts.true,
  h,
)

pub returns-in_default-clause-given : goal.returns-in_default-clause-given
returns-in_default-clause-given c = λ end w is n h none. (
  n,
  given_none w end n n c.accepts.result (c.accepts.ensures.accepts end n.side [] h.side_is) c.if-not-accepts.false
      (piece_is w end n c.args.self.now.program c.args.text.now None is h.side_is.program c.in_default.ensures.piece),
  h,
)

pub returns-clause-given : goal.returns-clause-given
returns-clause-given c = λ end w is n h none.
    let piece : List ℕ = c.in-Some.piece.now in
    let given = stands_giving end c.args.self.now _ c.args.shared.now n piece h
    (record {
      end = refl;
      station = refl;
      there = refl;
      reader = refl;
      ear = refl;
      towards = refl;
      matched = refl;
      air = refl;
      silenced = refl;
    })
    c.in_ok-give.ensures.gives in
    let made = c.in_ok-bring.ensures.step end (with_giving piece n) given none in
    let spelled : c.in_ok-octets.octets ≡ data_octets end piece = if_took _ c.data.result
    c.in_ok-octets.octets c.in_ok-octets.ensures.value c.data.ensures.spelled
    ∙ ap (λ e. data_octets e piece) h.side_is.end_is in (
      made.0,
      given_yes w end n made.0 c.accepts.result
          (c.accepts.ensures.accepts end n.side [] h.side_is) piece c.if-not-accepts.false
          (piece_is w end n c.args.self.now.program c.args.text.now
          (Some piece) is h.side_is.program c.in-Some.ensures.piece)
          (subst (λ o. IsStep end (FromHost (Bytes 1 o)) None (with_giving piece n) made.0) spelled made.1),
      made.2,
    )
