-- An end that sees nothing of its partner: there is nothing to show of what it sees.
use Rattle.link_world.proofs.Common.{ℕ, List, Option, None}
use Rattle.link_world.proofs.law.reduced.Core.{End, SetUp, Tagged}
use Rattle.link_world.proofs.law.invariant.Views.{View}
use Rattle.link_world.proofs.law.invariant.Options.{if_all}
use Rattle.link_world.proofs.law.invariant.Exchanges.{Fades, by_fading}
use Rattle.link_world.proofs.law.invariant.Moduli.{moduli_blind, moduli_unseen}
use Rattle.link_world.proofs.law.invariant.Invariant.{MatesAgree, Numbers, Packets, Hears, BothHear}

pub mates_blind : {u : Option View} {era count : ℕ} → MatesAgree None u era count
mates_blind = record { last = tt; each_other = tt }

pub mates_unseen : {v u : Option View} {era count : ℕ} → MatesAgree v u era count → MatesAgree v None era count
mates_unseen {v} h = record { last = h.last; each_other = if_all v _ (λ a. tt) }

pub numbers_blind :
    {u : Option View} {fs : List Tagged} {xs : List SetUp} {own : ℕ} {ys : List SetUp} {windows : ℕ → ℕ}
    → Numbers None u fs xs own ys windows
numbers_blind = record { counts = tt; acks = tt; infos = tt; sent = tt }

pub numbers_unseen :
    {v u : Option View} {fs : List Tagged} {xs : List SetUp} {own : ℕ} {ys : List SetUp} {windows : ℕ → ℕ}
    → Numbers v u fs xs own ys windows → Numbers v None fs xs own ys windows
numbers_unseen {v} h = record {
  counts = h.counts;
  acks = h.acks;
  infos = h.infos;
  sent = if_all v _ (λ a. tt);
}

pub packets_blind :
    {v : Option View} {fs : List Tagged} {ended xs ys : List SetUp} → Packets v fs ended xs ys
    → Packets None fs ended xs ys
packets_blind h = record {
  carries = h.carries;
  stored = tt;
  prefixes = h.prefixes;
  origins = h.origins;
  own = tt;
  earlier = tt;
}

-- x sees nothing now
pub hears_blind :
    {v u : Option View} {x y : End} {to_x to_y : List Tagged} → Hears v u x y to_x to_y → Hears None u x y to_x to_y
hears_blind h = record {
  tags = h.tags;
  one_exchange = h.one_exchange;
  mates = mates_blind;
  keeps = h.keeps;
  numbers = numbers_blind;
  packets = packets_blind h.packets;
  moduli = moduli_blind h.moduli;
}

-- y sees nothing now
pub hears_unseen :
    {v u : Option View} {x y : End} {to_x to_y : List Tagged} → Hears v u x y to_x to_y → Hears v None x y to_x to_y
hears_unseen h = record {
  tags = h.tags;
  one_exchange = h.one_exchange;
  mates = mates_unseen h.mates;
  keeps = h.keeps;
  numbers = numbers_unseen h.numbers;
  packets = h.packets;
  moduli = moduli_unseen h.moduli;
}

pub both_blind :
    {v u : Option View} {x y : End} {to_x to_y : List Tagged} → BothHear v u x y to_x to_y
    → BothHear None u x y to_x to_y
both_blind h = record {
  x_hears = hears_blind h.x_hears;
  y_hears = hears_unseen h.y_hears;
}

-- what x sees fades
pub both_fading :
    {new v u : Option View} {x y : End} {to_x to_y : List Tagged} → Fades new v
    → BothHear v u x y to_x to_y → BothHear new u x y to_x to_y
both_fading {new} {v} {u} {x} {y} {to_x} {to_y} fades h =
    by_fading (λ t. BothHear t u x y to_x to_y) new v fades (both_blind h) h
