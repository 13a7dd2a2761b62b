-- x is up and takes packets: the next in sequence, one that came before its turn, or one that it stores.
use Rattle.link_world.proofs.Common.{◌≡◌, ℕ, ◌+◌, ◌<◌, ◌≤◌, max, List, [], ◌∷◌, ◌++◌, Option, Some, None, IfSome}
use Rattle.link_world.proofs.Common.{IsSome, length, slice_get, arith, ap, refl, sym, ◌∙◌, subst, le_trans, le_refl}
use Rattle.link_world.proofs.Common.{false≢true, Packet}
use Rattle.std.specs.List.{AllByRecursion as Each}
use Rattle.std.proofs.lemmas.List.{length_push}
use Rattle.link_world.proofs.law.reduced.Core.{End, Running, SetUp, Stored, Tagged, Numbered, IsPrefixOf, set_ups, era}
use Rattle.link_world.proofs.law.reduced.Core.{count, given_in, got_in, modulus_in}
use Rattle.link_world.proofs.law.reduced.Core.Numbered.{Info}
use Rattle.link_world.proofs.law.reduced.Core.Standing.{Up}
use Rattle.link_world.proofs.law.reduced.CoreMoves.{now, numbered_to, got_more, first_origin, storing}
use Rattle.link_world.proofs.law.invariant.Mates.{of_mate, of_mate_same}
use Rattle.link_world.proofs.law.Each.{each_at, each_removed, each_before, each_inserted, each_last, each_pushed}
use Rattle.link_world.proofs.law.invariant.Prefixes.{prefix_same}
use Rattle.link_world.proofs.law.invariant.SetUps.{at_last, got_same}
use Rattle.link_world.proofs.law.numbers.AckChain.{AcksRise, acks_higher}
use Rattle.link_world.proofs.law.numbers.InfoChain.{InfosFit, InfoBelow, held, info_next, infos_higher}
use Rattle.link_world.proofs.law.invariant.Views.{view}
use Rattle.link_world.proofs.law.invariant.Options.{if_weaker, if_both}
use Rattle.link_world.proofs.law.moves.Losing.{lose_keeps}
use Rattle.link_world.proofs.law.invariant.Growing.{last_changes, got_grows, got_stays, given_opened, origins_before}
use Rattle.link_world.proofs.law.invariant.Growing.{origins_pushed}
use Rattle.link_world.proofs.law.invariant.Upward.{front_of_mate}
use Rattle.link_world.proofs.law.moves.UpSending.{UpInvariant, got_as_mate, seen_of_own}
use Rattle.link_world.proofs.law.invariant.Moduli.{moduli_up}
use Rattle.link_world.proofs.law.reduced.CoreLaw.{GotOf}
use Rattle.link_world.proofs.law.invariant.Invariant.{Keeps}

-- what is to be known of a packet that is got, and of what stays stored
pub record IsNext (x y : End) (r : Running) (packet : Packet) (stored : List Stored)
    (to_x to_y : List Tagged) : Type 0 where
  pub given : slice_get (given_in (set_ups y) r.set_up.mate) r.vr ≡ Some packet
  pub sent : IfSome (view y to_y) (λ b. (r.vr < b.top) × Each (λ (s : Stored). s.number < b.top) stored)
  pub infos : InfosFit r.set_up.mate (held (r.vr + 1) stored) to_x (r.vr + 1) (y.windows x.modulus)
  pub carried : Each (λ (s : Stored). slice_get (given_in (set_ups y) r.set_up.mate) s.number ≡ Some s.packet) stored

-- how many packets x got is V(R)
pub own_got :
    (x : End) {y : End} {r : Running} {to_x to_y : List Tagged} → UpInvariant x y r to_x to_y
    → r.vr ≡ length r.set_up.got
own_got x {r} h = h.x_hears.numbers.counts ∙ ap (λ (q : SetUp). length q.got) (at_last x.ended r.set_up)

-- y acknowledges no less than before, and may have more acknowledged
acks_of_got :
    (x : End) {y : End} {r : Running} (s : Running) {to_x to_y : List Tagged} → UpInvariant x y r to_x to_y
    → length s.set_up.got ≡ r.vr + 1 → IfSome (view y to_y) (λ b. r.vr < b.top)
    → IfSome (view y to_y) (λ b. AcksRise b.mate b.va to_y (length (got_in (set_ups (now (Up s) x)) b.mate)) b.top)
acks_of_got x {y} {r} s {to_y} h more sent =
    let xs = set_ups (now (Up r) x) in
    let zs = set_ups (now (Up s) x) in
    if_both (view y to_y) (λ b. (b.mate ≡ era x) × (r.vr < b.top))
    (λ b. AcksRise b.mate b.va to_y (length (got_in xs b.mate)) b.top)
    (λ b. AcksRise b.mate b.va to_y (length (got_in zs b.mate)) b.top)
    (λ b c acks.
    let before : r.vr ≡ length (got_in xs b.mate) = got_as_mate x h c.0 in
    let following : length (got_in zs b.mate) ≡ r.vr + 1 =
    ap (λ t. length (got_in zs t)) c.0 ∙ ap (λ (q : SetUp). length q.got) (at_last x.ended s.set_up) ∙ more in
    let high = c.1 in
    acks_higher b.mate b.va (length (got_in xs b.mate)) (length (got_in zs b.mate)) b.top b.top to_y (omega arith)
    (omega arith) (le_refl b.top) acks)
    (if_both (view y to_y) (λ b. b.mate ≡ era x) (λ b. r.vr < b.top) (λ b. (b.mate ≡ era x) × (r.vr < b.top))
    (λ b is lt. (is, lt)) (seen_of_own x h) sent) h.y_hears.numbers.acks

-- the mate of x has the modulus of x, if it was opened
own_modulus :
    (x : End) {y : End} {r : Running} {to_x to_y : List Tagged} → r.set_up.mate < count y → UpInvariant x y r to_x to_y
    → modulus_in (set_ups y) r.set_up.mate ≡ r.set_up.modulus
own_modulus x opened h = h.x_hears.moduli.mate opened ∙ sym h.x_hears.moduli.own

-- the packet with number V(R) is got
pub got_keeps :
    {x y : End} {r : Running} {packet : Packet} {stored : List Stored} {to_x to_y : List Tagged}
    → IsNext x y r packet stored to_x to_y
    → UpInvariant x y r to_x to_y → UpInvariant x y (got_more packet (Some r.set_up.mate) stored r) to_x to_y
got_keeps {x} {y} {r} {packet} {stored} {to_y} next h =
    let s = got_more packet (Some r.set_up.mate) stored r in
    let ys = set_ups y in
    let mate = r.set_up.mate in
    let k : Keeps r x.window = h.x_hears.keeps in
    let counted : r.vr ≡ length r.set_up.got = own_got x h in
    let more : length s.set_up.got ≡ r.vr + 1 = length_push r.set_up.got packet ∙ omega arith in
    let last = at_last x.ended s.set_up in
    let here : GotOf ys r.set_up = each_last _ x.ended r.set_up h.x_hears.packets.prefixes in
    let own : IfSome r.set_up.origin (λ a. a ≡ mate) =
    subst (λ (q : SetUp). IfSome q.origin (λ a. a ≡ mate)) (at_last x.ended r.set_up) h.x_hears.packets.own in
    let there : slice_get (given_in ys mate) (length r.set_up.got) ≡ Some packet =
    ap (λ t. slice_get (given_in ys mate) t) (sym counted) ∙ next.given in
    let prefix : IsPrefixOf s.set_up.got (given_in ys mate) =
    got_grows ys mate r.set_up.got r.set_up.origin packet here own there in
    record {
      x_hears = record {
        tags = h.x_hears.tags;
        one_exchange = h.x_hears.one_exchange;
        mates = record { last = h.x_hears.mates.last; each_other = h.x_hears.mates.each_other };
        keeps = record { order = k.order; window = k.window; given = k.given; kept = k.kept };
        numbers = record {
          counts = sym more ∙ ap (λ (q : SetUp). length q.got) (sym last);
          acks = h.x_hears.numbers.acks;
          infos = next.infos;
          sent = if_both (view y to_y) _ _ _
              (λ b n w. record { stored = n.1; under_way = w.under_way }) next.sent h.x_hears.numbers.sent;
        };
        packets = record {
          carries = h.x_hears.packets.carries;
          stored = next.carried;
          prefixes = each_pushed _ x.ended s.set_up (each_before _ x.ended r.set_up h.x_hears.packets.prefixes)
              (given_opened ys mate r.vr packet next.given, prefix);
          origins = origins_pushed x.ended s.set_up h.x_hears.packets.earlier
              (origins_before x.ended r.set_up h.x_hears.packets.origins);
          own = subst (λ (q : SetUp). IfSome q.origin (λ a. a ≡ mate)) (sym last) refl;
          earlier = h.x_hears.packets.earlier;
        };
        moduli = moduli_up x refl refl (own_modulus x (given_opened ys mate r.vr packet next.given) h) h.x_hears.moduli;
      };
      y_hears = last_changes x (prefix_same) (le_refl r.top) refl (acks_of_got x s h more (if_weaker (view y to_y) _
          _ (λ b n. n.0) next.sent)) h.y_hears;
    }

held_next : (vr : ℕ) (stored : List Stored) → held (vr + 1) stored ≤ max (held vr stored) (vr + 1)
held_next vr [] = omega arith
held_next vr (s ∷ stored) = let rest = held_next vr stored in omega arith

info_next_of :
    (n ns nr : ℕ) (packet : Packet) {o : Option Numbered} → o ≡ Some (Info ns nr packet)
    → max n (ns + 1) ≤ info_next n o
info_next_of n ns nr packet is = rw is (omega arith)

info_below_of :
    (top ns nr : ℕ) (packet : Packet) {o : Option Numbered} → o ≡ Some (Info ns nr packet) → InfoBelow top o → ns < top
info_below_of top ns nr packet is h = subst (λ p. InfoBelow top p) is h

-- the origin is the mate, whether it is set now or was before
origin_is : {mate tag : ℕ} (o : Option ℕ) → tag ≡ mate → IfSome o (λ a. a ≡ mate) → first_origin o tag ≡ Some mate
origin_is None is same = ap (λ t. Some t) is
origin_is (Some a) is same = ap (λ t. Some t) same

-- the mate of x, if it has accepted an I frame
pub own_origin :
    (x : End) {y : End} {r : Running} {to_x to_y : List Tagged} → UpInvariant x y r to_x to_y
    → IfSome r.set_up.origin (λ a. a ≡ r.set_up.mate)
own_origin x {r} h =
    subst (λ (q : SetUp). IfSome q.origin (λ a. a ≡ r.set_up.mate)) (at_last x.ended r.set_up) h.x_hears.packets.own

-- The front frame has the packet with number V(R), which is got.
pub accept_front_keeps :
    (x : End) {y : End} {r : Running} {tag m nr : ℕ} {packet : Packet} {rest to_y : List Tagged}
    → UpInvariant x y r (numbered_to tag m (Info r.vr nr packet) ∷ rest) to_y
    → UpInvariant x y (got_more packet (first_origin r.set_up.origin tag) r.stored r) rest to_y
accept_front_keeps x {y} {r} {tag} {m} {nr} {packet} {rest} {to_y} h =
    let n : Numbered = Info r.vr nr packet in
    let f = numbered_to tag m n in
    let mate = r.set_up.mate in
    let ys = set_ups y in
    let is : tag ≡ mate = front_of_mate x h in
    let of : of_mate mate f ≡ Some n = of_mate_same f is in
    let following : UpInvariant x y r rest to_y = lose_keeps [] f rest h in
    let next : IsNext x y r packet r.stored rest to_y = record {
      given = ap (λ t. slice_get (given_in ys t) r.vr) (sym is) ∙ h.x_hears.packets.carries.0;
      sent = if_weaker (view y to_y) _ _
          (λ b w. (info_below_of b.top r.vr nr packet of w.under_way.0, w.stored)) h.x_hears.numbers.sent;
      infos = infos_higher mate (info_next (held r.vr r.stored) (of_mate mate f)) (held (r.vr + 1) r.stored) r.vr
          (r.vr + 1) (y.windows x.modulus) rest
          (le_trans (held_next r.vr r.stored) (info_next_of (held r.vr r.stored) r.vr nr packet of))
          (omega arith) h.x_hears.numbers.infos.1;
      carried = h.x_hears.packets.stored;
    } in
    rw (origin_is r.set_up.origin is (own_origin x following)) (got_keeps next following)

held_without :
    {vr : ℕ} (before : List Stored) (s : Stored) (after : List Stored) → s.number ≡ vr
    → held (vr + 1) (before ++ after) ≤ held vr (before ++ s ∷ after)
held_without {vr} [] s after is = let rest = held_next vr after in omega arith
held_without (t ∷ before) s after is = let rest = held_without before s after is in omega arith

some_origin : (mate : ℕ) (o : Option ℕ) → IsSome o → IfSome o (λ a. a ≡ mate) → o ≡ Some mate
some_origin mate None some same = absurd (false≢true some)
some_origin mate (Some a) some same = ap (λ t. Some t) same

-- the packet with number V(R) was stored, and is got
pub take_stored_keeps :
    (x : End) {y : End} {r : Running} (before : List Stored) (s : Stored) (after : List Stored)
    {to_x to_y : List Tagged} → r.stored ≡ before ++ s ∷ after → s.number ≡ r.vr → IsSome r.set_up.origin
    → UpInvariant x y r to_x to_y → UpInvariant x y (got_more s.packet r.set_up.origin (before ++ after) r) to_x to_y
take_stored_keeps x {y} {r} before s after {to_x} {to_y} is number some h =
    let mate = r.set_up.mate in
    let ys = set_ups y in
    let kept = subst (λ ss. Each (λ (t : Stored). slice_get (given_in ys mate) t.number ≡ Some t.packet) ss) is
    h.x_hears.packets.stored in
    let lower = le_trans (held_without before s after number)
    (le_of (held r.vr (before ++ s ∷ after)) (held r.vr r.stored) (ap (λ ss. held r.vr ss) (sym is))) in
    let next : IsNext x y r s.packet (before ++ after) to_x to_y = record {
      given = ap (λ t. slice_get (given_in ys mate) t) (sym number)
          ∙ each_at _ before s after kept;
      sent = if_weaker (view y to_y) _ _ (λ b w.
          let below = subst (λ ss. Each (λ (t : Stored). t.number < b.top) ss) is w.stored in
          let here : s.number < b.top = each_at _ before s after below in
          (omega arith, each_removed _ before s after below)) h.x_hears.numbers.sent;
      infos = infos_higher mate (held r.vr r.stored) (held (r.vr + 1) (before ++ after)) r.vr (r.vr + 1)
          (y.windows x.modulus) to_x lower (omega arith) h.x_hears.numbers.infos;
      carried = each_removed _ before s after kept;
    } in
    subst (λ o. UpInvariant x y (got_more s.packet o (before ++ after) r) to_x to_y)
    (sym (some_origin mate r.set_up.origin some (own_origin x h))) (got_keeps next h)
  where
    le_of : (a b : ℕ) → a ≡ b → a ≤ b
    le_of a b e = omega arith

-- what y acknowledges and has acknowledged stays, if x got nothing more
acks_of_same :
    (x : End) {y : End} {r : Running} (s : Running) {to_x to_y : List Tagged} → UpInvariant x y r to_x to_y
    → s.set_up.got ≡ r.set_up.got
    → IfSome (view y to_y) (λ b. AcksRise b.mate b.va to_y (length (got_in (set_ups (now (Up s) x)) b.mate)) b.top)
acks_of_same x {y} {r} s {to_y} h same = if_weaker (view y to_y) _
    _ (λ b c. subst (λ g. AcksRise b.mate b.va to_y (length g) b.top)
    (sym (got_same x.ended r.set_up s.set_up same b.mate)) c) h.y_hears.numbers.acks

-- other packets are stored; the origin is the mate
stored_keeps :
    (x : End) {y : End} {r : Running} (stored : List Stored) {to_x to_y : List Tagged} → r.set_up.mate < count y
    → IfSome (view y to_y) (λ b. Each (λ (s : Stored). s.number < b.top) stored)
    → InfosFit r.set_up.mate (held r.vr stored) to_x r.vr (y.windows x.modulus)
    → Each (λ (s : Stored). slice_get (given_in (set_ups y) r.set_up.mate) s.number ≡ Some s.packet) stored
    → UpInvariant x y r to_x to_y → UpInvariant x y (storing stored (Some r.set_up.mate) r) to_x to_y
stored_keeps x {y} {r} stored {to_y} opened sent infos carried h =
    let s = storing stored (Some r.set_up.mate) r in
    let ys = set_ups y in
    let mate = r.set_up.mate in
    let k : Keeps r x.window = h.x_hears.keeps in
    let last = at_last x.ended s.set_up in
    let before = each_before _ x.ended r.set_up h.x_hears.packets.prefixes in
    let here : GotOf ys r.set_up = each_last _ x.ended r.set_up h.x_hears.packets.prefixes in
    let own = own_origin x h in
    record {
      x_hears = record {
        tags = h.x_hears.tags;
        one_exchange = h.x_hears.one_exchange;
        mates = record { last = h.x_hears.mates.last; each_other = h.x_hears.mates.each_other };
        keeps = record { order = k.order; window = k.window; given = k.given; kept = k.kept };
        numbers = record {
          counts = own_got x h ∙ ap (λ (q : SetUp). length q.got) (sym last);
          acks = h.x_hears.numbers.acks;
          infos = infos;
          sent = if_both (view y to_y) _ _ _
              (λ b n w. record { stored = n; under_way = w.under_way }) sent h.x_hears.numbers.sent;
        };
        packets = record {
          carries = h.x_hears.packets.carries;
          stored = carried;
          prefixes = each_pushed _ x.ended s.set_up before (opened, got_stays ys mate r.set_up.origin here own);
          origins = origins_pushed x.ended s.set_up h.x_hears.packets.earlier
              (origins_before x.ended r.set_up h.x_hears.packets.origins);
          own = subst (λ (q : SetUp). IfSome q.origin (λ a. a ≡ mate)) (sym last) refl;
          earlier = h.x_hears.packets.earlier;
        };
        moduli = moduli_up x refl refl (own_modulus x opened h) h.x_hears.moduli;
      };
      y_hears = last_changes x (prefix_same) (le_refl r.top) refl (acks_of_same x s h refl) h.y_hears;
    }

held_with :
    (vr : ℕ) (before : List Stored) (s : Stored) (after : List Stored)
    → held vr (before ++ s ∷ after) ≤ max (held vr (before ++ after)) (s.number + 1)
held_with vr [] s after = omega arith
held_with vr (t ∷ before) s after = let rest = held_with vr before s after in omega arith

-- The front frame has a packet that comes before its turn, which is stored.
pub store_front_keeps :
    (x : End) {y : End} {r : Running} {tag m ns nr : ℕ} {packet : Packet} (before after : List Stored)
    {rest to_y : List Tagged}
    → r.stored ≡ before ++ after → UpInvariant x y r (numbered_to tag m (Info ns nr packet) ∷ rest) to_y
    → UpInvariant x y
    (storing (before ++ record { number = ns; packet = packet } ∷ after) (first_origin r.set_up.origin tag) r) rest to_y
store_front_keeps x {y} {r} {tag} {m} {ns} {nr} {packet} before after {rest} {to_y} is_stored h =
    let n : Numbered = Info ns nr packet in
    let f = numbered_to tag m n in
    let mate = r.set_up.mate in
    let ys = set_ups y in
    let s : Stored = record { number = ns; packet = packet } in
    let stored : List Stored = before ++ s ∷ after in
    let is : tag ≡ mate = front_of_mate x h in
    let of : of_mate mate f ≡ Some n = of_mate_same f is in
    let reach = held r.vr r.stored in
    let same = ap (held r.vr) is_stored in
    let with_it = held_with r.vr before s after in
    let reached = info_next_of reach ns nr packet of in
    let there = ap (λ t. slice_get (given_in ys t) ns) (sym is) ∙ h.x_hears.packets.carries.0 in
    let following : UpInvariant x y r rest to_y = lose_keeps [] f rest h in
    rw (origin_is r.set_up.origin is (own_origin x following))
    (stored_keeps x stored (given_opened ys mate ns packet there)
    (if_weaker (view y to_y) _ _ (λ b w. each_inserted _ before s after
    (info_below_of b.top ns nr packet of w.under_way.0) (rw (← is_stored) w.stored)) h.x_hears.numbers.sent)
    (infos_higher mate (info_next reach (of_mate mate f)) (held r.vr stored) r.vr r.vr (y.windows x.modulus) rest
    (omega arith) (le_refl r.vr) h.x_hears.numbers.infos.1) (each_inserted _ before s after there
    (rw (← is_stored) h.x_hears.packets.stored)) following)
