-- x hears a SABM, a DISC or a UA.
use Rattle.link_world.proofs.Common.{◌≡◌, ℕ, ◌+◌, ◌≤◌, List, [], ◌∷◌, ◌++◌, Option, Some, None, IfSome, length, arith}
use Rattle.link_world.proofs.Common.{ap, refl, sym, ◌∙◌, subst, le_refl, Packet}
use Rattle.std.specs.List.{AllByRecursion as Each}
use Rattle.link_world.proofs.law.reduced.Core.{between, End, Running, SetUp, Tagged, set_ups, era, count, got_in}
use Rattle.link_world.proofs.law.reduced.Core.{modulus_in}
use Rattle.link_world.proofs.law.reduced.Core.Kind.{Sabm, Ua}
use Rattle.link_world.proofs.law.reduced.Core.Standing.{Calling, Up}
use Rattle.link_world.proofs.law.reduced.CoreMoves.{now, called, opened, of_end, sabms, setup_to}
use Rattle.link_world.proofs.law.invariant.Mates.{IsSilent}
use Rattle.link_world.proofs.law.Each.{each_both, each_of_all, each_pushed}
use Rattle.link_world.proofs.law.invariant.SetUps.{at_last, at_none, grow_new, got_new, length_last}
use Rattle.link_world.proofs.law.invariant.Chains.{chain_start}
use Rattle.link_world.proofs.law.invariant.TagChain.{TagsRise, tags_rising, tags_above, tags_below, tags_higher}
use Rattle.link_world.proofs.law.numbers.AckChain.{AcksRise, acks_silent}
use Rattle.link_world.proofs.law.numbers.InfoChain.{infos_silent}
use Rattle.link_world.proofs.law.invariant.Views.{View, view, view_fresh, ua_tag}
use Rattle.link_world.proofs.law.invariant.Options.{if_weaker, if_both, if_all}
use Rattle.link_world.proofs.law.invariant.Exchanges.{no_ua, sabms_are_asks}
use Rattle.link_world.proofs.law.moves.NoView.{mates_blind, numbers_blind, packets_blind}
use Rattle.link_world.proofs.law.moves.Losing.{lose_keeps, both_lost}
use Rattle.link_world.proofs.law.invariant.Growing.{packets_grown, origins_pushed}
use Rattle.link_world.proofs.law.moves.Silences.{silent_of_unopened, sent_of_silent, origins_opened, ua_tag_of_each}
use Rattle.link_world.proofs.law.moves.Silences.{no_calls, of_more_set_ups, no_calls_of_up, era_le_count, blind_of_down}
use Rattle.link_world.proofs.law.moves.Silences.{if_calling}
use Rattle.link_world.proofs.law.invariant.Moduli.{frames_grown, origins_grown, no_caller}
use Rattle.link_world.proofs.law.moves.Answering.{sent_ua_keeps}
use Rattle.link_world.proofs.law.reduced.CoreLaw.{OriginBelow}
use Rattle.link_world.proofs.law.invariant.Invariant.{CallsBy, OriginUnder, WasSent, Hears, BothHear, Invariant}
use Rattle.link_world.proofs.law.moves.Declining.{earlier_of}

-- after a SABM every tag is that of the set-up that its sender would open next
following_call :
    {tag : ℕ} (rest : List Tagged) (era : ℕ) {count : ℕ} → tag ≡ count → era ≤ count → TagsRise tag rest era
    → (tag ≡ era) × Each (λ f. f.tag ≡ era) rest
following_call {tag} rest era is le rise =
    let start : tag ≤ era = chain_start (tags_rising era) tag rest rise in
    let same : tag ≡ era = omega arith in (
      same,
      each_both _ _ _ (λ f low high. omega arith) rest (tags_above tag era rest rise) (tags_below tag era rest rise),
    )

-- an end that is calling agrees to a call
pub agree_keeps :
    (x : End) {y : End} {waiting : List Packet} {tag : ℕ} {rest to_y : List Tagged}
    → Invariant (between (now (Calling waiting) x) y (setup_to tag (Sabm x.modulus) ∷ rest) to_y)
    → Invariant (between (now (Calling waiting) x) y rest (to_y ++ of_end x Ua ∷ []))
agree_keeps x {y} {waiting} {tag} {rest} {to_y} h =
    let z = now (Calling waiting) x in
    let following = lose_keeps [] (setup_to tag (Sabm x.modulus)) rest h in
    let one = h.x_hears.one_exchange in
    let current : tag ≡ count y = h.x_hears.tags.call_is_current.0 in
    let le = era_le_count y in
    let tags = following_call rest (era y) current le h.x_hears.tags.rise.1 in
    let same : tag ≡ era y = tags.0 in
    let silent : Each (IsSilent (era z)) to_y =
    silent_of_unopened (count z) (era z) to_y (le_refl (count z)) following.y_hears.tags.of_set_up in
    sent_ua_keeps (omega arith) (omega arith) (record {
      silent = silent;
      got = ap (λ (q : SetUp). q.got) (at_none x.ended (era z) (le_refl (era z)));
      mate = if_calling (λ a. a.mate ≡ era y) x.modulus waiting (ua_tag rest)
          (ua_tag_of_each (λ t. t ≡ era y) rest tags.1);
      sent = if_calling (λ a. WasSent a rest 0 × Each (IsSilent (era z)) to_y) x.modulus waiting (ua_tag rest)
          (if_weaker (ua_tag rest) _ _ (λ t is. (
            sent_of_silent x.modulus t (silent_of_unopened (count y) t rest (omega arith)
                following.x_hears.tags.of_set_up),
            silent,
          )) (ua_tag_of_each (λ t. t ≡ era y) rest tags.1));
      earlier = earlier_of following;
      modulus = if_calling (λ a. CallsBy y.standing y.modulus a.modulus) x.modulus waiting (ua_tag rest)
          (if_all (ua_tag rest) _ (λ t. h.x_hears.moduli.calls.0));
      own = λ within. absurd (omega arith);
    }) following

-- a set-up without an origin is below and above all
no_origin_above : (qs : List SetUp) (c : SetUp) → c.origin ≡ None → Each (λ q. OriginBelow q c) qs
no_origin_above qs c none = each_of_all _
    (λ q. rw none (if_all q.origin _ (λ a. tt))) qs

-- y hears an end that has just opened a set-up, and sees nothing
hears_opened :
    {v u : Option View} {x y : End} (mate modulus : ℕ) {to_x to_y : List Tagged} → sabms to_y ≡ 0
    → Hears u v y x to_y to_x → Hears None (Some (view_fresh modulus mate)) y (called mate modulus x) to_y to_x
hears_opened {x} {y} mate modulus {to_y} none h =
    let s = opened mate modulus [] in
    let xs = set_ups x in
    let z = called mate modulus x in
    let longer : count z ≡ length xs + 1 = length_last xs s.set_up in
    let le : count x ≤ count z = omega arith in
    record {
      tags = record {
        rise = tags_higher _ (era x) (era z) to_y (era_le_count x) h.tags.rise;
        of_set_up = of_more_set_ups (count x) (count z) to_y le h.tags.of_set_up;
        call_is_current = no_calls (count x) (count z) to_y none h.tags.call_is_current;
      };
      one_exchange = h.one_exchange;
      mates = mates_blind;
      keeps = h.keeps;
      numbers = numbers_blind;
      packets = packets_grown (grow_new s.set_up) (packets_blind h.packets);
      moduli = record {
        window = h.moduli.window;
        own = h.moduli.own;
        frames = frames_grown (grow_new s.set_up) to_y h.tags.of_set_up h.moduli.frames;
        calls = no_caller (Up s) modulus to_y (λ m. tt);
        same = tt;
        mate = tt;
        origins = origins_grown (grow_new s.set_up) (set_ups y)
            (origins_opened xs (set_ups y) h.packets.prefixes) h.moduli.origins;
      };
    }

-- an end that has just opened a set-up hears; its mate is the set-up that the partner would open next
opened_hears :
    {v u : Option View} {x y : End} {mate : ℕ} (modulus : ℕ) {to_x to_y : List Tagged} → TagsRise mate to_x (era y)
    → count y ≡ mate → Hears v u x y to_x to_y
    → Hears (Some (view_fresh modulus mate)) None (called mate modulus x) y to_x to_y
opened_hears {x} {y} {mate} modulus {to_x} rise is h =
    let s = opened mate modulus [] in
    let xs = set_ups x in
    let ys = set_ups y in
    let z = called mate modulus x in
    let le : count y ≤ mate = omega arith in
    let silent : Each (IsSilent mate) to_x = silent_of_unopened (count y) mate to_x le h.tags.of_set_up in
    let nothing : length (got_in ys mate) ≡ 0 = ap (λ (q : SetUp). length q.got) (at_none ys mate le) in
    let last = at_last xs s.set_up in
    record {
      tags = record { rise = rise; of_set_up = h.tags.of_set_up; call_is_current = h.tags.call_is_current };
      one_exchange = h.one_exchange;
      mates = record { last = omega arith; each_other = tt };
      keeps = record { order = le_refl 0; window = omega arith; given = le_refl 0; kept = refl };
      numbers = record {
        counts = ap (λ (q : SetUp). length q.got) (sym last);
        acks = acks_silent mate 0 (length (got_in ys mate)) 0 to_x silent (omega arith) (omega arith);
        infos = infos_silent mate 0 0 (y.windows modulus) to_x silent;
        sent = tt;
      };
      packets = record {
        carries = h.packets.carries;
        stored = tt;
        prefixes = each_pushed _ xs s.set_up h.packets.prefixes refl;
        origins = origins_pushed xs s.set_up (no_origin_above xs s.set_up refl) h.packets.origins;
        own = subst (λ (q : SetUp). IfSome q.origin (λ o. o ≡ mate)) (sym last) tt;
        earlier = subst (λ n. Each (OriginUnder n) xs) is (origins_opened ys xs h.packets.prefixes);
      };
      moduli = record {
        window = refl;
        own = refl;
        frames = h.moduli.frames;
        calls = h.moduli.calls;
        same = tt;
        mate = λ within. absurd (omega arith);
        origins = each_pushed _ xs s.set_up h.moduli.origins tt;
      };
    }

-- x hears a SABM, while no SABM of its own is under way: it opens a set-up, and answers by UA
pub open_called_keeps :
    {x y : End} {tag modulus : ℕ} {rest to_y : List Tagged} → sabms to_y ≡ 0
    → Invariant (between x y (setup_to tag (Sabm modulus) ∷ rest) to_y)
    → Invariant (between (called tag modulus x) y rest (to_y ++ of_end (called tag modulus x) Ua ∷ []))
open_called_keeps {x} {y} {tag} {modulus} {rest} {to_y} no_call h =
    let s = opened tag modulus [] in
    let z = called tag modulus x in
    let xs = set_ups x in
    let one = h.x_hears.one_exchange in
    let current : tag ≡ count y = h.x_hears.tags.call_is_current.0 in
    let tags = following_call rest (era y) current (era_le_count y) h.x_hears.tags.rise.1 in
    let same : tag ≡ era y = tags.0 in
    let following = lose_keeps [] (setup_to tag (Sabm modulus)) rest h in
    let blind : view y to_y ≡ None = blind_of_down y.modulus y.standing y.ended
    (omega arith) (no_ua to_y (omega arith)) in
    let silent : Each (IsSilent (era z)) to_y =
    silent_of_unopened (count x) (era z) to_y (le_refl (count x)) following.y_hears.tags.of_set_up in
    let call = h.x_hears.moduli.calls.0 in
    let last = ap (λ (q : SetUp). q.modulus) (at_last xs s.set_up) in
    let open_now : BothHear (Some (view_fresh modulus tag)) None z y rest to_y = record {
      x_hears = opened_hears modulus h.x_hears.tags.rise.1 (sym current) following.x_hears;
      y_hears = hears_opened tag modulus no_call following.y_hears;
    } in
    sent_ua_keeps (omega arith) (omega arith) (record {
      silent = silent;
      got = ap (λ (q : SetUp). q.got) (at_last xs s.set_up);
      mate = same;
      sent = (
        sent_of_silent modulus tag (silent_of_unopened (count y) tag rest (omega arith)
            following.x_hears.tags.of_set_up),
        silent,
      );
      earlier = earlier_of following;
      modulus = call;
      own = λ within. subst (CallsBy y.standing y.modulus) (sym last) call;
    }) (rw blind open_now)

-- an end that is up, and hears a SABM, has none of its own under way
pub no_call_of_up :
    (x : End) {y : End} {r : Running} {to_x to_y : List Tagged}
    → Invariant (between (now (Up r) x) y to_x to_y) → sabms to_y ≡ 0
no_call_of_up x {r} {to_y} h = no_calls_of_up (count (now (Up r) x)) (era x) to_y h.y_hears.tags.call_is_current
    (tags_below _ (era x) to_y h.y_hears.tags.rise) (omega (arith, length_last x.ended r.set_up))

-- y hears an end whose call was answered
hears_answered :
    {u : Option View} (x : End) {y : End} {waiting : List Packet} (mate : ℕ) {to_x to_y : List Tagged} → sabms to_y ≡ 0
    → Hears u (Some (view_fresh x.modulus mate)) y (now (Calling waiting) x) to_y to_x
    → Hears u (Some (view_fresh x.modulus mate)) y (now (Up (opened mate x.modulus waiting)) x) to_y to_x
hears_answered {u} x {y} {waiting} mate {to_y} none h =
    let s = opened mate x.modulus waiting in
    let xs = x.ended in
    let zs = x.ended ++ s.set_up ∷ [] in
    let longer : length zs ≡ length xs + 1 = length_last xs s.set_up in
    let le : length xs ≤ length zs = omega arith in
    record {
      tags = record {
        rise = h.tags.rise;
        of_set_up = of_more_set_ups (length xs) (length zs) to_y le h.tags.of_set_up;
        call_is_current = no_calls (length xs) (length zs) to_y none h.tags.call_is_current;
      };
      one_exchange = h.one_exchange;
      mates = record {
        last = if_weaker u _ _ (λ b is. omega arith) h.mates.each_other;
        each_other = h.mates.each_other;
      };
      keeps = h.keeps;
      numbers = record {
        counts = h.numbers.counts;
        acks = if_weaker u _ _
            (λ b c. subst (λ g. AcksRise b.mate b.va to_y (length g) b.top) (sym (got_new xs s.set_up refl b.mate)) c)
            h.numbers.acks;
        infos = h.numbers.infos;
        sent = h.numbers.sent;
      };
      packets = packets_grown (grow_new s.set_up) h.packets;
      moduli = record {
        window = h.moduli.window;
        own = h.moduli.own;
        frames = frames_grown (grow_new s.set_up) to_y h.tags.of_set_up h.moduli.frames;
        calls = no_caller (Up s) x.modulus to_y (λ m. tt);
        same = h.moduli.same;
        mate = if_both u _ _ _
            (λ b is same within. ap (modulus_in zs) is ∙ ap (λ (q : SetUp). q.modulus) (at_last xs s.set_up) ∙ sym same)
            h.mates.each_other h.moduli.same;
        origins = origins_grown (grow_new s.set_up) (set_ups y)
            (origins_opened xs (set_ups y) h.packets.prefixes) h.moduli.origins;
      };
    }

-- x hears the UA to its call: the set-up opens, with what was given while calling
pub open_answered_keeps :
    (x : End) {y : End} {waiting : List Packet} {tag : ℕ} {rest to_y : List Tagged}
    → Invariant (between (now (Calling waiting) x) y (setup_to tag Ua ∷ rest) to_y)
    → Invariant (between (now (Up (opened tag x.modulus waiting)) x) y rest to_y)
open_answered_keeps x {y} {waiting} {tag} {rest} {to_y} h =
    let s = opened tag x.modulus waiting in
    let z = now (Up s) x in
    let u = view y to_y in
    let ys = set_ups y in
    let other = h.y_hears.one_exchange in
    let following = both_lost [] (setup_to tag Ua) rest h in
    let asked = sabms_are_asks to_y in
    let last = at_last x.ended s.set_up in
    record {
      x_hears = record {
        tags = record {
          rise = h.x_hears.tags.rise.1;
          of_set_up = following.x_hears.tags.of_set_up;
          call_is_current = following.x_hears.tags.call_is_current;
        };
        one_exchange = following.x_hears.one_exchange;
        mates = following.x_hears.mates;
        keeps = record { order = le_refl 0; window = omega arith; given = omega arith; kept = refl };
        numbers = record {
          counts = ap (λ (q : SetUp). length q.got) (sym last);
          acks = following.x_hears.numbers.acks;
          infos = following.x_hears.numbers.infos;
          sent = following.x_hears.numbers.sent;
        };
        packets = record {
          carries = following.x_hears.packets.carries;
          stored = following.x_hears.packets.stored;
          prefixes = each_pushed _ x.ended s.set_up following.x_hears.packets.prefixes refl;
          origins = origins_pushed x.ended s.set_up (no_origin_above x.ended s.set_up refl)
              following.x_hears.packets.origins;
          own = subst (λ (q : SetUp). IfSome q.origin (λ o. o ≡ tag)) (sym last) tt;
          earlier = following.x_hears.packets.earlier;
        };
        moduli = record {
          window = following.x_hears.moduli.window;
          own = refl;
          frames = following.x_hears.moduli.frames;
          calls = following.x_hears.moduli.calls;
          same = following.x_hears.moduli.same;
          mate = following.x_hears.moduli.mate;
          origins = each_pushed _ x.ended s.set_up following.x_hears.moduli.origins tt;
        };
      };
      y_hears = hears_answered x tag (omega arith) following.y_hears;
    }
