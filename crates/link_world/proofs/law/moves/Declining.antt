-- x declines a SABM or DISC, or answers a DISC.
use Rattle.link_world.proofs.Common.{◌≡◌, ℕ, ◌≤◌, true, List, [], ◌∷◌, ◌++◌, Option, None, IfSome, length, arith, ap}
use Rattle.link_world.proofs.Common.{refl, sym, subst}
use Rattle.std.specs.List.{AllByRecursion as Each}
use Rattle.link_world.proofs.law.reduced.Core.{between, End, Standing, SetUp, Tagged, Kind, set_ups, era, count}
use Rattle.link_world.proofs.law.reduced.Core.Kind.{Disc, Ua, Dm}
use Rattle.link_world.proofs.law.reduced.Core.Standing.{Idle, Releasing}
use Rattle.link_world.proofs.law.reduced.CoreMoves.{now, of_end, ask_of, setup_to}
use Rattle.link_world.proofs.law.invariant.SetUps.{at_none}
use Rattle.link_world.proofs.law.invariant.Views.{View, view_by, ua_tag}
use Rattle.link_world.proofs.law.moves.Losing.{lose_keeps}
use Rattle.link_world.proofs.law.moves.Sending.{sent_other_keeps}
use Rattle.link_world.proofs.law.moves.Silences.{silent_of_unopened, origins_opened, ended_of_all}
use Rattle.link_world.proofs.law.moves.Answering.{sent_ua_keeps}
use Rattle.link_world.proofs.law.invariant.Invariant.{OriginUnder, BothHear, Invariant}

-- a SABM or DISC is answered by DM
pub decline_by_dm_keeps :
    {x y : End} {tag : ℕ} {k : Kind} {rest to_y : List Tagged} → ask_of k ≡ 1
    → Invariant (between x y (setup_to tag k ∷ rest) to_y)
    → Invariant (between x y rest (to_y ++ of_end x (Dm true) ∷ []))
decline_by_dm_keeps {tag} {k} {rest} asks_one h =
    let following = lose_keeps [] (setup_to tag k) rest h in
    let one = h.x_hears.one_exchange in
    let other = following.y_hears.one_exchange in
    sent_other_keeps (Dm true) refl refl (record {
      of_set_up = tt;
      current = tt;
      asks_fit = omega arith;
      answers_fit = omega arith;
      carries = tt;
      modulus = tt;
      call_in = tt;
    }) following

-- what y has got so far comes from set-ups that x has opened
pub earlier_of :
    {v u : Option View} {x y : End} {to_x to_y : List Tagged} → BothHear v u x y to_x to_y
    → Each (OriginUnder (count x)) y.ended
earlier_of {x} {y} h =
    ended_of_all (OriginUnder (count x)) y (origins_opened (set_ups x) (set_ups y) h.y_hears.packets.prefixes)

-- an end that is not up, and sees nothing, answers a DISC by UA
decline_by_ua :
    {s : Standing} (x : End) {y : End} {tag : ℕ} {rest to_y : List Tagged} → set_ups (now s x) ≡ x.ended
    → ((o : Option ℕ) → view_by x.modulus s o ≡ None) → Invariant (between (now s x) y (setup_to tag Disc ∷ rest) to_y)
    → Invariant (between (now s x) y rest (to_y ++ of_end x Ua ∷ []))
decline_by_ua {s} x {y} {tag} {rest} {to_y} down blind h =
    let z = now s x in
    let following = lose_keeps [] (setup_to tag Disc) rest h in
    let one = h.x_hears.one_exchange in
    let same : count z ≡ length x.ended = ap length down in
    let le : count z ≤ length x.ended = omega arith in
    sent_ua_keeps (omega arith) (omega arith) (record {
      silent = silent_of_unopened (count z) (era z) to_y le following.y_hears.tags.of_set_up;
      got = ap (λ (q : SetUp). q.got) (at_none (set_ups z) (era z) le);
      mate = subst (λ v. IfSome v (λ a. a.mate ≡ era y)) (sym (blind (ua_tag rest))) tt;
      sent = rw (blind (ua_tag rest)) tt;
      earlier = subst (λ n. Each (OriginUnder n) y.ended) same (earlier_of following);
      modulus = rw (blind (ua_tag rest)) tt;
      own = λ within. absurd (omega arith);
    }) following

pub decline_idle_keeps :
    (x : End) {y : End} {tag : ℕ} {rest to_y : List Tagged}
    → Invariant (between (now Idle x) y (setup_to tag Disc ∷ rest) to_y)
    → Invariant (between (now Idle x) y rest (to_y ++ of_end x Ua ∷ []))
decline_idle_keeps x h = decline_by_ua x refl (λ o. refl) h

pub decline_releasing_keeps :
    (x : End) {y : End} {tag : ℕ} {rest to_y : List Tagged}
    → Invariant (between (now Releasing x) y (setup_to tag Disc ∷ rest) to_y)
    → Invariant (between (now Releasing x) y rest (to_y ++ of_end x Ua ∷ []))
decline_releasing_keeps x h = decline_by_ua x refl (λ o. refl) h
