-- x is no longer up, or begins to call; and more is given to it.
use Rattle.link_world.proofs.Common.{◌≡◌, ℕ, ◌+◌, ◌≤◌, List, [], ◌∷◌, ◌++◌, Option, Some, None, IfSome, length, arith}
use Rattle.link_world.proofs.Common.{ap, refl, sym, ◌∙◌, subst, le_refl, length-append, Packet}
use Rattle.std.specs.List.{AllByRecursion as Each}
use Rattle.std.proofs.lemmas.List.{drop-append-le}
use Rattle.link_world.proofs.law.reduced.Core.{between, End, Running, Standing, SetUp, Tagged, with_running, set_ups}
use Rattle.link_world.proofs.law.reduced.Core.{era}
use Rattle.link_world.proofs.law.reduced.Core.Standing.{Idle, Calling, Up, Releasing}
use Rattle.link_world.proofs.law.reduced.CoreMoves.{now, after_all, in_modulus, given_more, asks, answers}
use Rattle.link_world.proofs.law.Each.{each_before, each_last, each_pushed}
use Rattle.link_world.proofs.law.invariant.Prefixes.{prefix_push}
use Rattle.link_world.proofs.law.invariant.SetUps.{at_last, got_same, length_last}
use Rattle.link_world.proofs.law.invariant.Chains.{chain_from}
use Rattle.link_world.proofs.law.invariant.TagChain.{TagsRise, tags_rising, tags_higher}
use Rattle.link_world.proofs.law.numbers.AckChain.{AcksRise}
use Rattle.link_world.proofs.law.invariant.Views.{View, view, view_by, ua_tag}
use Rattle.link_world.proofs.law.invariant.Options.{if_weaker, if_all}
use Rattle.link_world.proofs.law.invariant.Exchanges.{no_ua}
use Rattle.link_world.proofs.law.moves.NoView.{mates_blind, numbers_blind}
use Rattle.link_world.proofs.law.invariant.Growing.{last_changes, origins_before, origins_last, origins_pushed}
use Rattle.link_world.proofs.law.invariant.Upward.{acked_got_top}
use Rattle.link_world.proofs.law.moves.UpSending.{UpInvariant}
use Rattle.link_world.proofs.law.moves.Receiving.{own_origin}
use Rattle.link_world.proofs.law.invariant.Moduli.{moduli_up, no_calls_yet, no_caller}
use Rattle.link_world.proofs.law.reduced.CoreLaw.{GotOf, OriginsRise, OriginAlike}
use Rattle.link_world.proofs.law.invariant.Invariant.{low_by, OwnModulus, CallsIn, KeepsBy, Keeps, Packets, Hears}
use Rattle.link_world.proofs.law.invariant.Invariant.{BothHear, Invariant}

-- an end that sees nothing and has the same set-ups
pub record IsDown (x z : End) : Type 0 where
  pub set_ups : set_ups z ≡ set_ups x
  pub windows : z.windows ≡ x.windows
  pub era : era x ≤ era z
  pub low : low_by z.standing ≡ 0
  pub keeps : KeepsBy z.standing z.window
  pub window : z.window ≡ z.windows z.modulus
  pub own : OwnModulus z.standing z.modulus

hears_down :
    {v u : Option View} {x z y : End} {to_x to_y : List Tagged} → IsDown x z → Hears v u x y to_x to_y
    → Hears None u z y to_x to_y
hears_down {x} {y} {to_x} d h = record {
  tags = record {
    rise = subst (λ low. TagsRise low to_x (era y)) (sym d.low)
        (chain_from (tags_rising (era y)) 0 (low_by x.standing) to_x (omega arith) h.tags.rise);
    of_set_up = h.tags.of_set_up;
    call_is_current = h.tags.call_is_current;
  };
  one_exchange = h.one_exchange;
  mates = mates_blind;
  keeps = d.keeps;
  numbers = numbers_blind;
  packets = record {
    carries = h.packets.carries;
    stored = tt;
    prefixes = subst (λ xs. Each (GotOf (set_ups y)) xs) (sym d.set_ups) h.packets.prefixes;
    origins = subst (λ xs. OriginsRise xs) (sym d.set_ups) h.packets.origins;
    own = tt;
    earlier = tt;
  };
  moduli = record {
    window = d.window;
    own = d.own;
    frames = h.moduli.frames;
    calls = h.moduli.calls;
    same = tt;
    mate = tt;
    origins = subst (λ xs. Each (OriginAlike (set_ups y)) xs) (sym d.set_ups) h.moduli.origins;
  };
}

heard_down :
    {v u : Option View} {x z y : End} {to_x to_y : List Tagged} → IsDown x z
    → Each (λ f. CallsIn z.standing z.modulus f.kind) to_y → Hears u v y x to_y to_x → Hears u None y z to_y to_x
heard_down {u} {x} {z} {y} {to_y} d calls h = record {
  tags = record {
    rise = tags_higher (low_by y.standing) (era x) (era z) to_y d.era h.tags.rise;
    of_set_up = rw d.set_ups h.tags.of_set_up;
    call_is_current = rw d.set_ups h.tags.call_is_current;
  };
  one_exchange = h.one_exchange;
  mates = record {
    last = subst (λ xs. IfSome u (λ b. length xs ≤ b.mate + 1)) (sym d.set_ups) h.mates.last;
    each_other = if_all u _ (λ b. tt);
  };
  keeps = h.keeps;
  numbers = record {
    counts = h.numbers.counts;
    acks = rw d.set_ups h.numbers.acks;
    infos = rw d.windows h.numbers.infos;
    sent = if_all u _ (λ b. tt);
  };
  packets = subst (λ xs. Packets u to_y y.ended (set_ups y) xs) (sym d.set_ups) h.packets;
  moduli = record {
    window = h.moduli.window;
    own = h.moduli.own;
    frames = rw d.set_ups h.moduli.frames;
    calls = calls;
    same = if_all u _ (λ b. tt);
    mate = rw d.set_ups h.moduli.mate;
    origins = subst (λ xs. Each (OriginAlike xs) (set_ups y)) (sym d.set_ups) h.moduli.origins;
  };
}

-- x becomes an end that sees nothing
pub down_keeps :
    {x z y : End} {to_x to_y : List Tagged} → IsDown x z
    → Each (λ f. CallsIn z.standing z.modulus f.kind) to_y → view z to_x ≡ None → Invariant (between x y to_x to_y)
    → Invariant (between z y to_x to_y)
down_keeps {z} {y} {to_x} {to_y} d calls blind h =
    subst (λ v. BothHear v (view y to_y) z y to_x to_y) (sym blind) (record {
      x_hears = hears_down d h.x_hears;
      y_hears = heard_down d calls h.y_hears;
    })

era_of_all : (s : Standing) (ended : List SetUp) → length ended ≤ length (with_running s ended)
era_of_all Idle ended = le_refl (length ended)
era_of_all (Calling waiting) ended = le_refl (length ended)
era_of_all (Up r) ended = omega (arith, length_last ended r.set_up)
era_of_all Releasing ended = le_refl (length ended)

-- no set-up runs, and the end is idle, in another modulus
pub leave_to_idle_keeps :
    {x y : End} (modulus : ℕ) {to_x to_y : List Tagged} → Invariant (between x y to_x to_y)
    → Invariant (between (in_modulus modulus (after_all Idle x)) y to_x to_y)
leave_to_idle_keeps {x} modulus {to_y} h = down_keeps (record {
  set_ups = refl;
  windows = refl;
  era = era_of_all x.standing x.ended;
  low = refl;
  keeps = tt;
  window = refl;
  own = tt;
}) (no_caller Idle modulus to_y (λ m. tt)) refl h

-- no set-up runs, and the end releases the link
pub leave_to_releasing_keeps :
    {x y : End} {to_x to_y : List Tagged} → Invariant (between x y to_x to_y)
    → Invariant (between (after_all Releasing x) y to_x to_y)
leave_to_releasing_keeps {x} {to_y} h = down_keeps (record {
  set_ups = refl;
  windows = refl;
  era = era_of_all x.standing x.ended;
  low = refl;
  keeps = tt;
  window = h.x_hears.moduli.window;
  own = tt;
}) (no_caller Releasing x.modulus to_y (λ m. tt)) refl h

-- no set-up runs, and the end calls in a modulus, while it asks nothing and no answer is under way to it
pub begin_keeps :
    {x y : End} (modulus : ℕ) (waiting : List Packet) {to_x to_y : List Tagged} → asks to_y ≡ 0 → answers to_x ≡ 0
    → Invariant (between x y to_x to_y)
    → Invariant (between (in_modulus modulus (after_all (Calling waiting) x)) y to_x to_y)
begin_keeps {x} modulus waiting {to_x} {to_y} quiet none h = down_keeps (record {
  set_ups = refl;
  windows = refl;
  era = era_of_all x.standing x.ended;
  low = refl;
  keeps = tt;
  window = refl;
  own = tt;
}) (no_calls_yet (Calling waiting) modulus to_y quiet) (ap (view_by modulus (Calling waiting)) (no_ua to_x none)) h

same_calling :
    (modulus : ℕ) (o : Option ℕ) (waiting more : List Packet)
    → view_by modulus (Calling waiting) o ≡ view_by modulus (Calling more) o
same_calling modulus None waiting more = refl
same_calling modulus (Some tag) waiting more = refl

-- more is given while calling
pub give_calling_keeps :
    (x : End) {y : End} {waiting more : List Packet} {to_x to_y : List Tagged}
    → Invariant (between (now (Calling waiting) x) y to_x to_y) → Invariant (between (now (Calling more) x) y to_x to_y)
give_calling_keeps x {y} {waiting} {more} {to_x} {to_y} h =
    let v = view (now (Calling waiting) x) to_x in
    let u = view y to_y in
    let other : BothHear v u (now (Calling more) x) y to_x to_y = record {
      x_hears = record {
        tags = h.x_hears.tags;
        one_exchange = h.x_hears.one_exchange;
        mates = h.x_hears.mates;
        keeps = tt;
        numbers = h.x_hears.numbers;
        packets = h.x_hears.packets;
        moduli = record {
          window = h.x_hears.moduli.window;
          own = tt;
          frames = h.x_hears.moduli.frames;
          calls = h.x_hears.moduli.calls;
          same = h.x_hears.moduli.same;
          mate = h.x_hears.moduli.mate;
          origins = h.x_hears.moduli.origins;
        };
      };
      y_hears = record {
        tags = h.y_hears.tags;
        one_exchange = h.y_hears.one_exchange;
        mates = h.y_hears.mates;
        keeps = h.y_hears.keeps;
        numbers = h.y_hears.numbers;
        packets = h.y_hears.packets;
        moduli = record {
          window = h.y_hears.moduli.window;
          own = h.y_hears.moduli.own;
          frames = h.y_hears.moduli.frames;
          calls = h.y_hears.moduli.calls;
          same = h.y_hears.moduli.same;
          mate = h.y_hears.moduli.mate;
          origins = h.y_hears.moduli.origins;
        };
      };
    } in
    rw (← same_calling x.modulus (ua_tag to_x) waiting more) other

-- more is given while up
pub give_up_keeps :
    (x : End) {y : End} {r : Running} (packet : Packet) {to_x to_y : List Tagged}
    → UpInvariant x y r to_x to_y → UpInvariant x y (given_more packet r) to_x to_y
give_up_keeps x {y} {r} packet {to_y} h =
    let s = given_more packet r in
    let ys = set_ups y in
    let u = view y to_y in
    let xs = set_ups (now (Up r) x) in
    let zs = set_ups (now (Up s) x) in
    let k : Keeps r x.window = h.x_hears.keeps in
    let order = acked_got_top x h in
    let same = got_same x.ended r.set_up s.set_up refl in
    let given = k.given in
    let longer = length-append r.set_up.given (packet ∷ []) in
    record {
      x_hears = record {
        tags = h.x_hears.tags;
        one_exchange = h.x_hears.one_exchange;
        mates = h.x_hears.mates;
        keeps = record {
          order = k.order;
          window = k.window;
          given = omega arith;
          kept = ap (λ t. t ++ packet ∷ []) k.kept
              ∙ sym (drop-append-le r.va r.set_up.given (packet ∷ []) (omega arith));
        };
        numbers = record {
          counts = h.x_hears.numbers.counts ∙ ap length (sym (same (era x)));
          acks = h.x_hears.numbers.acks;
          infos = h.x_hears.numbers.infos;
          sent = if_weaker u _ _ (λ b w. w) h.x_hears.numbers.sent;
        };
        packets = record {
          carries = h.x_hears.packets.carries;
          stored = h.x_hears.packets.stored;
          prefixes = each_pushed _ x.ended s.set_up (each_before _ x.ended r.set_up h.x_hears.packets.prefixes)
              (each_last _ x.ended r.set_up h.x_hears.packets.prefixes);
          origins = origins_pushed x.ended s.set_up (origins_last x.ended r.set_up h.x_hears.packets.origins)
              (origins_before x.ended r.set_up h.x_hears.packets.origins);
          own = rw (at_last x.ended s.set_up) (own_origin x h);
          earlier = h.x_hears.packets.earlier;
        };
        moduli = moduli_up x refl refl (each_last _ x.ended r.set_up h.x_hears.moduli.origins) h.x_hears.moduli;
      };
      y_hears = last_changes x (prefix_push packet) (le_refl r.top) refl (if_weaker u _ _
          (λ b c. subst (λ g. AcksRise b.mate b.va to_y (length g) b.top) (sym (same b.mate)) c) h.y_hears.numbers.acks)
          h.y_hears;
    }
