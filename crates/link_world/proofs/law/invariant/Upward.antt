-- x is up, and its own numbers change: V(A), V(S), one past the highest number sent, and the packets it
-- keeps.
use Rattle.link_world.proofs.Common.{◌≡◌, ℕ, ◌+◌, ◌-◌, ◌<◌, ◌≤◌, max, List, ◌∷◌, Option, Some, length, drop, arith, ap}
use Rattle.link_world.proofs.Common.{refl, ◌∙◌, subst, le_trans, le_refl, drop-drop, Packet}
use Rattle.link_world.proofs.law.reduced.Core.{between, End, Running, Tagged, Numbered, set_ups, count, got_in}
use Rattle.link_world.proofs.law.reduced.Core.{modulus_in}
use Rattle.link_world.proofs.law.reduced.Core.Numbered.{Info, Super, Srej}
use Rattle.link_world.proofs.law.reduced.Core.Standing.{Up}
use Rattle.link_world.proofs.law.reduced.CoreMoves.{now, sending_from, numbered_to, acknowledged_to, Acknowledges}
use Rattle.link_world.proofs.law.invariant.Mates.{of_mate, of_mate_same}
use Rattle.link_world.proofs.law.Each.{each_weaker, each_last}
use Rattle.link_world.proofs.law.numbers.AckChain.{AcksRise, AckHolds, ack_next, acks_higher, acks_rising, acks_start}
use Rattle.link_world.proofs.law.numbers.AckChain.{acks_advanced}
use Rattle.link_world.proofs.law.numbers.InfoChain.{info_below_higher}
use Rattle.link_world.proofs.law.invariant.Views.{View, view, view_up}
use Rattle.link_world.proofs.law.invariant.Options.{if_weaker}
use Rattle.link_world.proofs.law.reduced.CoreLaw.{OriginAlike}
use Rattle.link_world.proofs.law.invariant.Moduli.{moduli_up}
use Rattle.link_world.proofs.law.invariant.Invariant.{Keeps, WasSent, Invariant}

-- a higher top
pub sent_higher : {a : View} {fs : List Tagged} {top higher : ℕ} → top ≤ higher → WasSent a fs top → WasSent a fs higher
sent_higher {a} {fs} {top} {higher} le h = record {
  stored = each_weaker _ _ (λ s below. le_trans below le) a.stored h.stored;
  under_way = each_weaker _ _ (λ g below. info_below_higher top higher (of_mate a.mate g) le below) fs h.under_way;
}

-- its own numbers change: what it keeps must fit, and so must the acknowledgements under way to it
pub own_numbers_keep :
    (x : End) {y : End} {r : Running} (va vs top : ℕ) (kept : List Packet) {to_x to_y : List Tagged}
    → Keeps (sending_from va vs top kept r) x.window → r.top ≤ top
    → AcksRise r.set_up.mate va to_x (length (got_in (set_ups y) r.set_up.mate)) top
    → Invariant (between (now (Up r) x) y to_x to_y)
    → Invariant (between (now (Up (sending_from va vs top kept r)) x) y to_x to_y)
own_numbers_keep x {y} {r} va vs top kept {to_x} {to_y} keeps le acks h = record {
  x_hears = record {
    tags = h.x_hears.tags;
    one_exchange = h.x_hears.one_exchange;
    mates = record { last = h.x_hears.mates.last; each_other = h.x_hears.mates.each_other };
    keeps = keeps;
    numbers = record {
      counts = h.x_hears.numbers.counts;
      acks = acks;
      infos = h.x_hears.numbers.infos;
      sent = if_weaker (view y to_y) (λ b. WasSent (view_up x.modulus r) to_x b.top)
          (λ b. WasSent (view_up x.modulus (sending_from va vs top kept r)) to_x b.top)
          (λ b s. record { stored = s.stored; under_way = s.under_way }) h.x_hears.numbers.sent;
    };
    packets = record {
      carries = h.x_hears.packets.carries;
      stored = h.x_hears.packets.stored;
      prefixes = h.x_hears.packets.prefixes;
      origins = h.x_hears.packets.origins;
      own = h.x_hears.packets.own;
      earlier = h.x_hears.packets.earlier;
    };
    moduli = moduli_up x refl refl
        (each_last (OriginAlike (set_ups y)) x.ended r.set_up h.x_hears.moduli.origins) h.x_hears.moduli;
  };
  y_hears = record {
    tags = h.y_hears.tags;
    one_exchange = h.y_hears.one_exchange;
    mates = record { last = h.y_hears.mates.last; each_other = h.y_hears.mates.each_other };
    keeps = h.y_hears.keeps;
    numbers = record {
      counts = h.y_hears.numbers.counts;
      acks = h.y_hears.numbers.acks;
      infos = h.y_hears.numbers.infos;
      sent = if_weaker (view y to_y) (λ b. WasSent b to_y r.top) (λ b. WasSent b to_y top)
          (λ b s. sent_higher le s) h.y_hears.numbers.sent;
    };
    packets = h.y_hears.packets;
    moduli = record {
      window = h.y_hears.moduli.window;
      own = h.y_hears.moduli.own;
      frames = h.y_hears.moduli.frames;
      calls = h.y_hears.moduli.calls;
      same = h.y_hears.moduli.same;
      mate = h.y_hears.moduli.mate;
      origins = h.y_hears.moduli.origins;
    };
  };
}

-- what x acknowledges to itself, what its partner got, and the top are in order
pub acked_got_top :
    (x : End) {y : End} {r : Running} {to_x to_y : List Tagged} → Invariant (between (now (Up r) x) y to_x to_y)
    → (r.va ≤ length (got_in (set_ups y) r.set_up.mate)) × (length (got_in (set_ups y) r.set_up.mate) ≤ r.top)
acked_got_top x {y} {r} {to_x} h =
    acks_start r.set_up.mate r.va (length (got_in (set_ups y) r.set_up.mate)) r.top to_x h.x_hears.numbers.acks

-- V(S) is set anywhere from V(A) on
pub set_vs_keeps :
    (x : End) {y : End} {r : Running} (vs : ℕ) {to_x to_y : List Tagged} → r.va ≤ vs
    → Invariant (between (now (Up r) x) y to_x to_y)
    → Invariant (between (now (Up (sending_from r.va vs r.top r.kept r)) x) y to_x to_y)
set_vs_keeps x {r} vs order h =
    let k : Keeps r x.window = h.x_hears.keeps in
    own_numbers_keep x r.va vs r.top r.kept
    (record { order = order; window = k.window; given = k.given; kept = k.kept }) (le_refl r.top)
    h.x_hears.numbers.acks h

-- a number within the window and among the packets given will be sent
pub raise_top_keeps :
    (x : End) {y : End} {r : Running} (top : ℕ) {to_x to_y : List Tagged} → r.top ≤ top → top ≤ r.va + x.window
    → top ≤ length r.set_up.given → Invariant (between (now (Up r) x) y to_x to_y)
    → Invariant (between (now (Up (sending_from r.va r.vs top r.kept r)) x) y to_x to_y)
raise_top_keeps x {y} {r} top {to_x} le window given h =
    let k : Keeps r x.window = h.x_hears.keeps in
    let got = length (got_in (set_ups y) r.set_up.mate) in
    let order = acked_got_top x h in
    own_numbers_keep x r.va r.vs top r.kept
    (record { order = k.order; window = window; given = given; kept = k.kept }) le
    (acks_higher r.set_up.mate r.va got got r.top top to_x (le_refl got) (le_trans order.1 le) le
    h.x_hears.numbers.acks) h

-- An I or S frame under way to an end that is up is of its mate.
pub front_of_mate :
    (x : End) {y : End} {r : Running} {tag m : ℕ} {n : Numbered} {rest to_y : List Tagged}
    → Invariant (between (now (Up r) x) y (numbered_to tag m n ∷ rest) to_y) → tag ≡ r.set_up.mate
front_of_mate x {y} {r} {tag} h =
    let above : r.set_up.mate ≤ tag = h.x_hears.tags.rise.0 in
    let opened : tag < count y = h.x_hears.tags.of_set_up.0 in
    let last : count y ≤ r.set_up.mate + 1 = h.x_hears.mates.last in
    omega arith

-- and it is written in the modulus of the end
pub front_modulus :
    (x : End) {y : End} {r : Running} {tag m : ℕ} {n : Numbered} {rest to_y : List Tagged}
    → Invariant (between (now (Up r) x) y (numbered_to tag m n ∷ rest) to_y) → m ≡ x.modulus
front_modulus x {y} {r} {tag} h =
    let is : tag ≡ r.set_up.mate = front_of_mate x h in
    let opened : tag < count y = h.x_hears.tags.of_set_up.0 in
    h.x_hears.moduli.frames.0 ∙ ap (modulus_in (set_ups y)) is
    ∙ h.x_hears.moduli.mate (subst (λ k. k < count y) is opened)

acknowledging :
    (mate top nr n : ℕ) (f : Numbered) {o : Option Numbered} → Acknowledges f nr → o ≡ Some f
    → ((m : ℕ) → m ≤ nr → AckHolds top m o) × ((m : ℕ) → ack_next m o ≡ nr)
acknowledging mate top nr n (Info ns a packet) is same = rw same ((λ m le. omega arith), (λ m. is))
acknowledging mate top nr n (Super a) is same = rw same ((λ m le. omega arith), (λ m. is))
acknowledging mate top nr n (Srej a) is same = absurd is

-- The front frame acknowledges: V(A) is its N(R), and the packets below are no longer kept. The frame stays in front.
pub ack_front_keeps :
    (x : End) {y : End} {r : Running} {tag m : ℕ} (nr : ℕ) {n : Numbered} {rest to_y : List Tagged} → Acknowledges n nr
    → Invariant (between (now (Up r) x) y (numbered_to tag m n ∷ rest) to_y)
    → Invariant (between (now (Up (acknowledged_to nr r)) x) y (numbered_to tag m n ∷ rest) to_y)
ack_front_keeps x {y} {r} {tag} {m} nr {n} {rest} is h =
    let f : Tagged = numbered_to tag m n in
    let k : Keeps r x.window = h.x_hears.keeps in
    let mate = r.set_up.mate in
    let got = length (got_in (set_ups y) mate) in
    let of : of_mate mate f ≡ Some n = of_mate_same f (front_of_mate x h) in
    let says = acknowledging mate r.top nr nr n is of in
    let acks = acks_advanced mate r.va got r.top f rest says.0 (says.1 r.va) (says.1 nr) h.x_hears.numbers.acks in
    let here = h.x_hears.numbers.acks in
    let step : r.va ≤ ack_next r.va (of_mate mate f) = (acks_rising mate got r.top).rises r.va f here.0 in
    let named = says.1 r.va in
    let low : r.va ≤ nr = omega arith in
    own_numbers_keep x nr (max r.vs nr) r.top (drop (nr - r.va) r.kept) (record {
      order = omega arith;
      window = let w = k.window in omega arith;
      given = k.given;
      kept = ap (λ t. drop (nr - r.va) t) k.kept ∙ drop-drop (nr - r.va) r.va r.set_up.given
          ∙ ap (λ t. drop t r.set_up.given) (omega arith);
    }) (le_refl r.top) acks h
