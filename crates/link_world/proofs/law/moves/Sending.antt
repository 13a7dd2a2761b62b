-- x sends a frame.
use Rattle.link_world.proofs.Common.{◌≡◌, ℕ, ◌+◌, ◌≤◌, List, [], ◌∷◌, ◌++◌, Option, None, IfSome, length, arith, ap}
use Rattle.link_world.proofs.Common.{refl, le_refl}
use Rattle.link_world.proofs.law.reduced.Core.{between, End, SetUp, Tagged, Kind, Numbered, set_ups, era, count, got_in}
use Rattle.link_world.proofs.law.reduced.CoreMoves.{asks, answers, ask_of, answer_of, of_end}
use Rattle.link_world.proofs.law.invariant.Mates.{of_mate, numbered, of_mate_none}
use Rattle.link_world.proofs.law.Each.{each_pushed}
use Rattle.link_world.proofs.law.invariant.TagChain.{tags_pushed}
use Rattle.link_world.proofs.law.numbers.AckChain.{AckHolds, ack_next, acks_pushed}
use Rattle.link_world.proofs.law.numbers.InfoChain.{InfosFit, InfoHolds, InfoBelow, held, infos_pushed_other}
use Rattle.link_world.proofs.law.numbers.InfoChain.{info_below_silent}
use Rattle.link_world.proofs.law.invariant.Views.{View, ua_by, view, view_by}
use Rattle.link_world.proofs.law.invariant.Options.{if_both, if_all}
use Rattle.link_world.proofs.law.invariant.Exchanges.{asks_pushed, answers_pushed, ua_pushed}
use Rattle.link_world.proofs.law.invariant.Moduli.{moduli_sent}
use Rattle.link_world.proofs.law.invariant.Invariant.{OfSetUp, IsCurrentCall, Carries, HasModulus, CallsIn, Tags}
use Rattle.link_world.proofs.law.invariant.Invariant.{Numbers, Packets, BothHear, Invariant}

pub tags_sent :
    {low : ℕ} {fs : List Tagged} (f : Tagged) {era count : ℕ} → f.tag ≡ era → OfSetUp count f.tag f.kind
    → IsCurrentCall count f.tag f.kind → Tags low fs era count → Tags low (fs ++ f ∷ []) era count
tags_sent {low} {fs} f is of_set_up call h = record {
  rise = tags_pushed low fs f is h.rise;
  of_set_up = each_pushed _ fs f h.of_set_up of_set_up;
  call_is_current = each_pushed _ fs f h.call_is_current call;
}

pub packets_sent :
    {v : Option View} {fs : List Tagged} (f : Tagged) {ended xs ys : List SetUp} → Carries ys f.tag f.kind
    → Packets v fs ended xs ys → Packets v (fs ++ f ∷ []) ended xs ys
packets_sent {fs} f carries h = record {
  carries = each_pushed _ fs f h.carries carries;
  stored = h.stored;
  prefixes = h.prefixes;
  origins = h.origins;
  own = h.own;
  earlier = h.earlier;
}

-- what is asked of the numbers of one frame more, by what its hearer sees
pub record NumbersOfOne (v u : Option View) (fs : List Tagged) (f : Tagged) (ys : List SetUp)
    (windows : ℕ → ℕ) : Type 0 where
  pub acks : IfSome v (λ a. AckHolds a.top (length (got_in ys a.mate)) (of_mate a.mate f)
      × (ack_next (length (got_in ys a.mate)) (of_mate a.mate f) ≤ length (got_in ys a.mate)))
  pub infos : IfSome v (λ a. InfosFit a.mate (held a.vr a.stored) fs a.vr (windows a.modulus)
      → InfosFit a.mate (held a.vr a.stored) (fs ++ f ∷ []) a.vr (windows a.modulus))
  pub sent : IfSome v (λ a. IfSome u (λ b. InfoBelow b.top (of_mate a.mate f)))

pub numbers_sent :
    {v u : Option View} {fs : List Tagged} {f : Tagged} {xs : List SetUp} {own : ℕ} {ys : List SetUp}
    {windows : ℕ → ℕ} → NumbersOfOne v u fs f ys windows → Numbers v u fs xs own ys windows
    → Numbers v u (fs ++ f ∷ []) xs own ys windows
numbers_sent {v} {u} {fs} {f} {ys} one h = record {
  counts = h.counts;
  acks = if_both v _ _ _
      (λ a o c. acks_pushed a.mate a.va (length (got_in ys a.mate)) a.top fs f o.0 o.1 c) one.acks h.acks;
  infos = if_both v _ _ _ (λ a o c. o c) one.infos h.infos;
  sent = if_both v _ _ _ (λ a o c. if_both u _ _ _ (λ b i s. record {
    stored = s.stored;
    under_way = each_pushed _ fs f s.under_way i;
  }) o c) one.sent h.sent;
}

-- what is asked of a frame that x sends, beside its numbers
pub record MaySend (x y : End) (to_x to_y : List Tagged) (k : Kind) : Type 0 where
  pub of_set_up : OfSetUp (count x) (era x) k
  pub current : IsCurrentCall (count x) (era x) k
  pub asks_fit : asks to_y + ask_of k + answers to_x ≤ 1
  pub answers_fit : asks to_x + (answers to_y + answer_of k) ≤ 1
  pub carries : Carries (set_ups x) (era x) k
  pub modulus : HasModulus (set_ups x) (era x) k
  pub call_in : CallsIn x.standing x.modulus k

-- x sends a frame, and what each end sees stays
pub both_sent :
    {v u : Option View} {x y : End} {to_x to_y : List Tagged} {k : Kind} → MaySend x y to_x to_y k
    → NumbersOfOne u v to_y (of_end x k) (set_ups x) x.windows
    → BothHear v u x y to_x to_y → BothHear v u x y to_x (to_y ++ of_end x k ∷ [])
both_sent {x} {to_y} {k} may numbers h =
    let one = may.asks_fit in
    let other = may.answers_fit in
    let f = of_end x k in
    let more = asks_pushed to_y f in
    let longer = answers_pushed to_y f in
    record {
      x_hears = record {
        tags = h.x_hears.tags;
        one_exchange = omega arith;
        mates = h.x_hears.mates;
        keeps = h.x_hears.keeps;
        numbers = h.x_hears.numbers;
        packets = h.x_hears.packets;
        moduli = h.x_hears.moduli;
      };
      y_hears = record {
        tags = tags_sent f refl may.of_set_up may.current h.y_hears.tags;
        one_exchange = omega arith;
        mates = h.y_hears.mates;
        keeps = h.y_hears.keeps;
        numbers = numbers_sent numbers h.y_hears.numbers;
        packets = packets_sent f may.carries h.y_hears.packets;
        moduli = moduli_sent f may.modulus may.call_in h.y_hears.moduli;
      };
    }

-- what an end sees does not change by a frame that is no UA
pub view_sent :
    (y : End) (fs : List Tagged) (f : Tagged) → ua_by f.kind f.tag None ≡ None → view y (fs ++ f ∷ []) ≡ view y fs
view_sent y fs f h = ap (λ t. view_by y.modulus y.standing t) (ua_pushed fs f h)

ack_of_none : (top got : ℕ) {o : Option Numbered} → o ≡ None → AckHolds top got o × (ack_next got o ≤ got)
ack_of_none top got is = rw is (tt, le_refl got)

info_of_none : (vr k n : ℕ) {o : Option Numbered} → o ≡ None → InfoHolds vr k n o
info_of_none vr k n is = rw is tt

-- a frame without numbers
pub numbers_of_other :
    {v u : Option View} {fs : List Tagged} {f : Tagged} {ys : List SetUp} {windows : ℕ → ℕ}
    → numbered f.kind ≡ None → NumbersOfOne v u fs f ys windows
numbers_of_other {v} {u} {fs} {f} {ys} {windows} h = record {
  acks = if_all v _ (λ a. ack_of_none a.top (length (got_in ys a.mate)) (of_mate_none a.mate f h));
  infos = if_all v _ (λ a c. infos_pushed_other a.mate (held a.vr a.stored) a.vr (windows a.modulus) fs f
      (λ n. info_of_none a.vr (windows a.modulus) n (of_mate_none a.mate f h)) c);
  sent = if_all v _ (λ a. if_all u _ (λ b. info_below_silent b.top (of_mate_none a.mate f h)));
}

-- a frame without numbers that is no UA
pub sent_other_keeps :
    {x y : End} {to_x to_y : List Tagged} (k : Kind) → numbered k ≡ None → ua_by k (era x) None ≡ None
    → MaySend x y to_x to_y k → Invariant (between x y to_x to_y)
    → Invariant (between x y to_x (to_y ++ of_end x k ∷ []))
sent_other_keeps {x} {y} {to_y} k none no_ua may h =
    rw (view_sent y to_y (of_end x k) no_ua) (both_sent may (numbers_of_other none) h)
