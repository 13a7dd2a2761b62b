-- Each move keeps what holds, and so does each run of moves.
use Rattle.link_world.proofs.Common.{◌≡◌, ℕ, ◌+◌, false, List, [], ◌∷◌, ◌++◌, None, refl, arith, Packet}
use Rattle.link_world.proofs.law.reduced.Core.{End, Tagged, between}
use Rattle.link_world.proofs.law.reduced.Core.Kind.{Sabm, Disc, Dm}
use Rattle.link_world.proofs.law.reduced.Core.Standing.{Calling}
use Rattle.link_world.proofs.law.reduced.CoreMoves.{asks, answers, now, of_end, new_end, new_core}
use Rattle.link_world.proofs.law.moves.Sending.{sent_other_keeps}
use Rattle.link_world.proofs.law.invariant.Invariant.{Hears, Invariant}

-- asks of one end and answers to it make one exchange at most, so if there is none, one may begin
pub call_keeps :
    (x : End) {y : End} {waiting : List Packet} {to_x to_y : List Tagged} → asks to_y + answers to_x ≡ 0
    → Invariant (between (now (Calling waiting) x) y to_x to_y)
    → Invariant (between (now (Calling waiting) x) y to_x (to_y ++ of_end x (Sabm x.modulus) ∷ []))
call_keeps x quiet h =
    let one = h.x_hears.one_exchange in
    sent_other_keeps (Sabm x.modulus) refl refl (record {
      of_set_up = tt;
      current = refl;
      asks_fit = omega arith;
      answers_fit = omega arith;
      carries = tt;
      modulus = tt;
      call_in = refl;
    }) h

pub release_keeps :
    {x y : End} {to_x to_y : List Tagged} → asks to_y + answers to_x ≡ 0
    → Invariant (between x y to_x to_y) → Invariant (between x y to_x (to_y ++ of_end x Disc ∷ []))
release_keeps quiet h =
    let one = h.x_hears.one_exchange in
    sent_other_keeps Disc refl refl (record {
      of_set_up = tt;
      current = tt;
      asks_fit = omega arith;
      answers_fit = omega arith;
      carries = tt;
      modulus = tt;
      call_in = tt;
    }) h

pub send_dm_keeps :
    {x y : End} {to_x to_y : List Tagged} → Invariant (between x y to_x to_y)
    → Invariant (between x y to_x (to_y ++ of_end x (Dm false) ∷ []))
send_dm_keeps h =
    let one = h.x_hears.one_exchange in
    let other = h.y_hears.one_exchange in
    sent_other_keeps (Dm false) refl refl (record {
      of_set_up = tt;
      current = tt;
      asks_fit = omega arith;
      answers_fit = omega arith;
      carries = tt;
      modulus = tt;
      call_in = tt;
    }) h

-- an end that is new hears one that is new
hears_new :
    (modulus : ℕ) (windows other : ℕ → ℕ) → Hears None None (new_end modulus windows) (new_end modulus other) [] []
hears_new modulus windows other = record {
  tags = record { rise = omega arith; of_set_up = tt; call_is_current = tt };
  one_exchange = omega arith;
  mates = record { last = tt; each_other = tt };
  keeps = tt;
  numbers = record { counts = tt; acks = tt; infos = tt; sent = tt };
  packets = record { carries = tt; stored = tt; prefixes = tt; origins = tt; own = tt; earlier = tt };
  moduli = record { window = refl; own = tt; frames = tt; calls = tt; same = tt; mate = tt; origins = tt };
}

-- it holds of two new ends
pub new_holds : (modulus : ℕ) (windows other : ℕ → ℕ) → Invariant (new_core modulus windows other)
new_holds modulus windows other =
    record { x_hears = hears_new modulus windows other; y_hears = hears_new modulus other windows }
