-- x sends a UA: if y is calling, it sees x from then on.
use Rattle.link_world.proofs.Common.{◌≡◌, ℕ, ◌<◌, List, [], ◌∷◌, ◌++◌, Option, Some, IfSome, length, arith, ap, refl}
use Rattle.link_world.proofs.Common.{sym, subst, le_refl, Packet}
use Rattle.std.specs.List.{AllByRecursion as Each}
use Rattle.link_world.proofs.law.reduced.Core.{between, End, Standing, SetUp, Tagged, set_ups, era, count, got_in}
use Rattle.link_world.proofs.law.reduced.Core.{modulus_in}
use Rattle.link_world.proofs.law.reduced.Core.Kind.{Ua}
use Rattle.link_world.proofs.law.reduced.Core.Standing.{Idle, Calling, Up, Releasing}
use Rattle.link_world.proofs.law.reduced.CoreMoves.{now, of_end, asks, answers}
use Rattle.link_world.proofs.law.invariant.Mates.{IsSilent, of_mate_none}
use Rattle.link_world.proofs.law.Each.{each_pushed}
use Rattle.link_world.proofs.law.invariant.SetUps.{at_none}
use Rattle.link_world.proofs.law.numbers.AckChain.{acks_silent}
use Rattle.link_world.proofs.law.numbers.InfoChain.{infos_silent}
use Rattle.link_world.proofs.law.invariant.Views.{View, view, view_by, view_fresh}
use Rattle.link_world.proofs.law.invariant.Options.{if_weaker}
use Rattle.link_world.proofs.law.invariant.Exchanges.{ua_pushed_ua}
use Rattle.link_world.proofs.law.moves.Sending.{both_sent, numbers_of_other}
use Rattle.link_world.proofs.law.moves.Silences.{sent_of_silent, count_le_era}
use Rattle.link_world.proofs.law.invariant.Invariant.{CallsBy, WasSent, OriginUnder, Hears, BothHear, Invariant}

-- What is to be known for y to see x's set-up, the one that is open or would open next: nothing of it is under way yet.
pub record IsNewToMate (v : Option View) (x y : End) (to_x to_y : List Tagged) : Type 0 where
  pub silent : Each (IsSilent (era x)) to_y
  pub got : got_in (set_ups x) (era x) ≡ []
  pub mate : IfSome v (λ a. a.mate ≡ era y)
  pub sent : IfSome v (λ a. WasSent a to_x 0 × Each (IsSilent (era x)) to_y)
  pub earlier : Each (OriginUnder (era x)) y.ended
  -- if y is calling, what it will see is in its modulus
  pub modulus : IfSome v (λ a. CallsBy y.standing y.modulus a.modulus)
  pub own : era x < count x → CallsBy y.standing y.modulus (modulus_in (set_ups x) (era x))

-- x hears a partner that sees it with nothing sent yet
seen_anew :
    {v u : Option View} {x y : End} {to_x to_y : List Tagged} (tag : ℕ) → IfSome v (λ a. a.mate ≡ era y)
    → IfSome v (λ a. WasSent a to_x 0) → IfSome v (λ a. a.modulus ≡ y.modulus)
    → Hears v u x y to_x to_y → Hears v (Some (view_fresh y.modulus tag)) x y to_x to_y
seen_anew tag mate sent modulus h = record {
  tags = h.tags;
  one_exchange = h.one_exchange;
  mates = record { last = h.mates.last; each_other = mate };
  keeps = h.keeps;
  numbers = record { counts = h.numbers.counts; acks = h.numbers.acks; infos = h.numbers.infos; sent = sent };
  packets = h.packets;
  moduli = record {
    window = h.moduli.window;
    own = h.moduli.own;
    frames = h.moduli.frames;
    calls = h.moduli.calls;
    same = modulus;
    mate = h.moduli.mate;
    origins = h.moduli.origins;
  };
}

-- an end that is calling sees the set-up that a UA under way to it names
sees_anew :
    {v u : Option View} {x : End} (y : End) {waiting : List Packet} {to_x to_y : List Tagged}
    → IsNewToMate v x (now (Calling waiting) y) to_x to_y → Hears u v (now (Calling waiting) y) x to_y to_x
    → Hears (Some (view_fresh y.modulus (era x))) v (now (Calling waiting) y) x to_y to_x
sees_anew {v} {x} y {to_y} new h =
    let xs = set_ups x in
    let got : length (got_in xs (era x)) ≡ 0 = ap length new.got in
    record {
      tags = h.tags;
      one_exchange = h.one_exchange;
      mates = record {
        last = count_le_era x;
        each_other = if_weaker v _ _ (λ a is. refl) new.mate;
      };
      keeps = tt;
      numbers = record {
        counts = ap (λ (q : SetUp). length q.got) (sym (at_none y.ended (era y) (le_refl (era y))));
        acks = acks_silent (era x) 0 (length (got_in xs (era x))) 0 to_y new.silent (omega arith) (omega arith);
        infos = infos_silent (era x) 0 0 (x.windows y.modulus) to_y new.silent;
        sent = if_weaker v _ _ (λ a c. sent_of_silent y.modulus (era x) c.1) new.sent;
      };
      packets = record {
        carries = h.packets.carries;
        stored = tt;
        prefixes = h.packets.prefixes;
        origins = h.packets.origins;
        own = subst (λ (q : SetUp). IfSome q.origin (λ o. o ≡ era x)) (sym (at_none y.ended (era y) (le_refl (era y))))
            tt;
        earlier = new.earlier;
      };
      moduli = record {
        window = h.moduli.window;
        own = tt;
        frames = h.moduli.frames;
        calls = h.moduli.calls;
        same = if_weaker v _ _ (λ a is. sym is) new.modulus;
        mate = new.own;
        origins = h.moduli.origins;
      };
    }

-- the UA itself says nothing of numbers
new_after_ua :
    {v : Option View} {x y : End} {to_x to_y : List Tagged} → IsNewToMate v x y to_x to_y
    → IsNewToMate v x y to_x (to_y ++ of_end x Ua ∷ [])
new_after_ua {v} {x} {to_y} new =
    let silent = each_pushed _ to_y (of_end x Ua) new.silent (of_mate_none (era x) (of_end x Ua) refl) in
    record {
      silent = silent;
      got = new.got;
      mate = new.mate;
      sent = if_weaker v _ _ (λ a c. (c.0, silent)) new.sent;
      earlier = new.earlier;
      modulus = new.modulus;
      own = new.own;
    }

-- with what each end saw before
ua_pushed_both :
    {v u : Option View} {x y : End} {to_x to_y : List Tagged} → answers to_y ≡ 0 → asks to_x ≡ 0
    → BothHear v u x y to_x to_y → BothHear v u x y to_x (to_y ++ of_end x Ua ∷ [])
ua_pushed_both none quiet h =
    let other = h.y_hears.one_exchange in
    both_sent (record {
      of_set_up = tt;
      current = tt;
      asks_fit = omega arith;
      answers_fit = omega arith;
      carries = tt;
      modulus = tt;
      call_in = tt;
    }) (numbers_of_other refl) h

sent_ua_by :
    (s : Standing) {v : Option View} {x : End} (y : End) {to_x to_y : List Tagged} → answers to_y ≡ 0 → asks to_x ≡ 0
    → IsNewToMate v x (now s y) to_x to_y → BothHear v (view (now s y) to_y) x (now s y) to_x to_y
    → BothHear v (view (now s y) (to_y ++ of_end x Ua ∷ [])) x (now s y) to_x (to_y ++ of_end x Ua ∷ [])
sent_ua_by Idle y none quiet new h = ua_pushed_both none quiet h
sent_ua_by (Calling waiting) {v} {x} y {to_x} {to_y} none quiet new h =
    let z = now (Calling waiting) y in
    let to_z = to_y ++ of_end x Ua ∷ [] in
    let pushed = ua_pushed_both none quiet h in
    let following = new_after_ua new in
    subst (λ t. BothHear v t x z to_x to_z)
    (ap (view_by y.modulus (Calling waiting)) (sym (ua_pushed_ua to_y (era x) none))) (record {
      x_hears = seen_anew (era x) new.mate (if_weaker v _ _ (λ a c. c.0) new.sent) new.modulus pushed.x_hears;
      y_hears = sees_anew y following pushed.y_hears;
    })
sent_ua_by (Up r) y none quiet new h = ua_pushed_both none quiet h
sent_ua_by Releasing y none quiet new h = ua_pushed_both none quiet h

-- x sends a UA, while no other answer is under way to y, and y asks nothing more
pub sent_ua_keeps :
    {x y : End} {to_x to_y : List Tagged} → answers to_y ≡ 0 → asks to_x ≡ 0 → IsNewToMate (view x to_x) x y to_x to_y
    → Invariant (between x y to_x to_y) → Invariant (between x y to_x (to_y ++ of_end x Ua ∷ []))
sent_ua_keeps {y} none quiet new h = sent_ua_by y.standing y none quiet new h
