-- A frame under way to x is lost.
use Rattle.link_world.proofs.Common.{ℕ, List, ◌∷◌, ◌++◌, Option, length, arith}
use Rattle.link_world.proofs.law.reduced.Core.{between, End, SetUp, Tagged, got_in}
use Rattle.link_world.proofs.law.Each.{each_removed}
use Rattle.link_world.proofs.law.invariant.Chains.{chain_removed}
use Rattle.link_world.proofs.law.invariant.TagChain.{tags_rising}
use Rattle.link_world.proofs.law.numbers.AckChain.{acks_rising}
use Rattle.link_world.proofs.law.numbers.InfoChain.{infos_rising, held}
use Rattle.link_world.proofs.law.invariant.Views.{View, ua_tag}
use Rattle.link_world.proofs.law.invariant.Options.{if_weaker}
use Rattle.link_world.proofs.law.invariant.Exchanges.{asks_removed, answers_removed, ua_removed, view_fades}
use Rattle.link_world.proofs.law.moves.NoView.{both_fading}
use Rattle.link_world.proofs.law.invariant.Moduli.{moduli_lost}
use Rattle.link_world.proofs.law.invariant.Invariant.{Tags, Numbers, Packets, WasSent, BothHear, Invariant}

pub tags_lost :
    {low : ℕ} (before : List Tagged) (f : Tagged) (after : List Tagged) {era count : ℕ}
    → Tags low (before ++ f ∷ after) era count → Tags low (before ++ after) era count
tags_lost {low} before f after {era} h = record {
  rise = chain_removed (tags_rising era) low before f after h.rise;
  of_set_up = each_removed _ before f after h.of_set_up;
  call_is_current = each_removed _ before f after h.call_is_current;
}

pub sent_lost :
    {a : View} (before : List Tagged) (f : Tagged) (after : List Tagged) {top : ℕ}
    → WasSent a (before ++ f ∷ after) top → WasSent a (before ++ after) top
sent_lost before f after h = record {
  stored = h.stored;
  under_way = each_removed _ before f after h.under_way;
}

pub numbers_lost :
    {v u : Option View} (before : List Tagged) (f : Tagged) (after : List Tagged) {xs : List SetUp} {own : ℕ}
    {ys : List SetUp} {windows : ℕ → ℕ}
    → Numbers v u (before ++ f ∷ after) xs own ys windows → Numbers v u (before ++ after) xs own ys windows
numbers_lost {v} {u} before f after {ys} {windows} h = record {
  counts = h.counts;
  acks = if_weaker v _ _
      (λ a c. chain_removed (acks_rising a.mate (length (got_in ys a.mate)) a.top) a.va before f after c) h.acks;
  infos = if_weaker v _ _
      (λ a c. chain_removed (infos_rising a.mate a.vr (windows a.modulus)) (held a.vr a.stored) before f after c)
      h.infos;
  sent = if_weaker v _ _ (λ a c. if_weaker u _ _ (λ b s. sent_lost before f after s) c) h.sent;
}

pub packets_lost :
    {v : Option View} (before : List Tagged) (f : Tagged) (after : List Tagged) {ended xs ys : List SetUp}
    → Packets v (before ++ f ∷ after) ended xs ys → Packets v (before ++ after) ended xs ys
packets_lost before f after h = record {
  carries = each_removed _ before f after h.carries;
  stored = h.stored;
  prefixes = h.prefixes;
  origins = h.origins;
  own = h.own;
  earlier = h.earlier;
}

-- with what each end saw before
pub both_lost :
    {v u : Option View} {x y : End} (before : List Tagged) (f : Tagged) (after : List Tagged) {to_y : List Tagged}
    → BothHear v u x y (before ++ f ∷ after) to_y → BothHear v u x y (before ++ after) to_y
both_lost before f after h =
    let one = h.x_hears.one_exchange in
    let other = h.y_hears.one_exchange in
    let less = asks_removed before f after in
    let fewer = answers_removed before f after in
    record {
      x_hears = record {
        tags = tags_lost before f after h.x_hears.tags;
        one_exchange = omega arith;
        mates = h.x_hears.mates;
        keeps = h.x_hears.keeps;
        numbers = numbers_lost before f after h.x_hears.numbers;
        packets = packets_lost before f after h.x_hears.packets;
        moduli = moduli_lost before f after h.x_hears.moduli;
      };
      y_hears = record {
        tags = h.y_hears.tags;
        one_exchange = omega arith;
        mates = h.y_hears.mates;
        keeps = h.y_hears.keeps;
        numbers = h.y_hears.numbers;
        packets = h.y_hears.packets;
        moduli = h.y_hears.moduli;
      };
    }

-- a lost frame: a UA takes the view away, and nothing else of what is seen changes
pub lose_keeps :
    {x y : End} (before : List Tagged) (f : Tagged) (after : List Tagged) {to_y : List Tagged}
    → Invariant (between x y (before ++ f ∷ after) to_y) → Invariant (between x y (before ++ after) to_y)
lose_keeps {x} before f after h =
    let other = h.y_hears.one_exchange in
    let fades = view_fades x.modulus x.standing (ua_tag (before ++ after)) (ua_tag (before ++ f ∷ after))
    (ua_removed before f after (omega arith)) in
    both_fading fades (both_lost before f after h)
