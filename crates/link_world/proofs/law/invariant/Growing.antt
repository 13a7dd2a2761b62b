-- What an end knows of its partner's set-ups stays, when more is given there or another one opens.
use Rattle.link_world.proofs.Common.{◌≡◌, ℕ, ◌<◌, ◌≤◌, List, [], ◌∷◌, ◌++◌, Option, Some, None, IfSome, length}
use Rattle.link_world.proofs.Common.{slice_get, arith, ap, sym, ◌∙◌, subst, le_trans, inl, inr, cases_lt, none-some}
use Rattle.link_world.proofs.Common.{Packet}
use Rattle.std.specs.List.{AllByRecursion as Each}
use Rattle.link_world.proofs.law.reduced.Core.{End, Running, SetUp, Tagged, Kind, IsPrefixOf, set_ups, era, given_in}
use Rattle.link_world.proofs.law.reduced.Core.{got_in}
use Rattle.link_world.proofs.law.reduced.Core.Numbered.{Info, Super, Srej}
use Rattle.link_world.proofs.law.reduced.Core.Kind.{Sabm, Disc, Ua, Dm, IsNumbered}
use Rattle.link_world.proofs.law.reduced.Core.Standing.{Up}
use Rattle.link_world.proofs.law.reduced.CoreMoves.{now}
use Rattle.link_world.proofs.law.Each.{each_weaker, each_before, each_last, each_pushed}
use Rattle.link_world.proofs.law.invariant.Prefixes.{prefix_get, prefix_through, prefix_more, prefix_none}
use Rattle.link_world.proofs.law.invariant.SetUps.{SetUpsGrow, grow_last, length_last, at_none}
use Rattle.link_world.proofs.law.numbers.AckChain.{AcksRise}
use Rattle.link_world.proofs.law.invariant.Views.{View, view_up}
use Rattle.link_world.proofs.law.invariant.Options.{if_weaker}
use Rattle.link_world.proofs.law.invariant.Upward.{sent_higher}
use Rattle.link_world.proofs.law.reduced.CoreLaw.{GotBy, OriginBelow, OriginsRise}
use Rattle.link_world.proofs.law.moves.Silences.{origins_opened}
use Rattle.link_world.proofs.law.invariant.Moduli.{frames_grown, origins_grown}
use Rattle.link_world.proofs.law.invariant.Invariant.{low_by, Tags, MatesAgree, Carries, Packets, Hears}

carries_grown : {ys zs : List SetUp} → SetUpsGrow ys zs → (tag : ℕ) (k : Kind) → Carries ys tag k → Carries zs tag k
carries_grown g tag (Sabm modulus) h = tt
carries_grown g tag Disc h = tt
carries_grown g tag Ua h = tt
carries_grown g tag (Dm answers) h = tt
carries_grown g tag (IsNumbered modulus (Info ns nr packet)) h = prefix_get ns packet (g.given tag) h
carries_grown g tag (IsNumbered modulus (Super nr)) h = tt
carries_grown g tag (IsNumbered modulus (Srej nr)) h = tt

got_grown :
    {ys zs : List SetUp} → SetUpsGrow ys zs → (got : List Packet) (o : Option ℕ) → GotBy ys got o → GotBy zs got o
got_grown g got None h = h
got_grown g got (Some o) h = (le_trans h.0 g.count, prefix_through h.1 (g.given o))

pub packets_grown :
    {v : Option View} {fs : List Tagged} {ended xs ys zs : List SetUp} → SetUpsGrow ys zs → Packets v fs ended xs ys
    → Packets v fs ended xs zs
packets_grown {v} {fs} {xs} g h = record {
  carries = each_weaker _ _ (λ f c. carries_grown g f.tag f.kind c) fs h.carries;
  stored = if_weaker v _ _ (λ a e. each_weaker _ _
      (λ s c. prefix_get s.number s.packet (g.given a.mate) c) a.stored e) h.stored;
  prefixes = each_weaker _ _ (λ q c. got_grown g q.got q.origin c) xs h.prefixes;
  origins = h.origins;
  own = h.own;
  earlier = h.earlier;
}

-- the set-up that x has open changes
pub same_count : (ended : List SetUp) (c d : SetUp) → length (ended ++ c ∷ []) ≡ length (ended ++ d ∷ [])
same_count ended c d = length_last ended c ∙ sym (length_last ended d)

pub mates_seen :
    {v : Option View} {a b : View} {era count other : ℕ} → count ≡ other → MatesAgree v (Some a) era count
    → MatesAgree v (Some b) era other
mates_seen {v} is h = record {
  last = if_weaker v _ _ (λ c le. omega arith) h.last;
  each_other = h.each_other;
}

-- y hears of it
pub last_changes :
    {u : Option View} (x : End) {y : End} {r s : Running} {to_x to_y : List Tagged}
    → IsPrefixOf r.set_up.given s.set_up.given → r.top ≤ s.top → s.set_up.modulus ≡ r.set_up.modulus
    → IfSome u (λ b. AcksRise b.mate b.va to_y (length (got_in (set_ups (now (Up s) x)) b.mate)) b.top)
    → Hears u (Some (view_up x.modulus r)) y (now (Up r) x) to_y to_x
    → Hears u (Some (view_up x.modulus s)) y (now (Up s) x) to_y to_x
last_changes {u} x {y} {r} {s} {to_y} given top modulus acks h =
    let same = same_count x.ended r.set_up s.set_up in
    let xs = set_ups (now (Up r) x) in
    let zs = set_ups (now (Up s) x) in
    let grown : SetUpsGrow xs zs = grow_last x.ended r.set_up s.set_up given modulus in
    record {
      tags = subst (λ c. Tags (low_by y.standing) to_y (era x) c) same h.tags;
      one_exchange = h.one_exchange;
      mates = mates_seen same h.mates;
      keeps = h.keeps;
      numbers = record {
        counts = h.numbers.counts;
        acks = acks;
        infos = h.numbers.infos;
        sent = if_weaker u _ _ (λ b w. sent_higher top w) h.numbers.sent;
      };
      packets = packets_grown grown h.packets;
      moduli = record {
        window = h.moduli.window;
        own = h.moduli.own;
        frames = frames_grown grown to_y h.tags.of_set_up h.moduli.frames;
        calls = h.moduli.calls;
        same = h.moduli.same;
        mate = if_weaker u _ _ (λ b is within. let before : b.mate < length xs = omega arith in
            grown.modulus b.mate before ∙ is before) h.moduli.mate;
        origins = origins_grown grown (set_ups y) (origins_opened xs (set_ups y) h.packets.prefixes) h.moduli.origins;
      };
    }

-- a packet was given only in a set-up that was opened
pub given_opened : (ys : List SetUp) (n k : ℕ) (p : Packet) → slice_get (given_in ys n) k ≡ Some p → n < length ys
given_opened ys n k p h = elim (cases_lt n (length ys)) [
  | inl opened ↦ opened
  | inr not ↦ absurd (none-some p (ap (λ (q : SetUp). slice_get q.given k) (sym (at_none ys n not)) ∙ h))
]

-- what was got is a prefix of what the mate gave, whether an origin is set or not
pub got_stays :
    (ys : List SetUp) (mate : ℕ) {got : List Packet} (o : Option ℕ) → GotBy ys got o → IfSome o (λ a. a ≡ mate)
    → IsPrefixOf got (given_in ys mate)
got_stays ys mate None none same = subst (λ g. IsPrefixOf g (given_in ys mate)) (sym none) (prefix_none)
got_stays ys mate {got} (Some a) some same = subst (λ m. IsPrefixOf got (given_in ys m)) same some.1

-- the packet that follows what was got is got
pub got_grows :
    (ys : List SetUp) (mate : ℕ) (got : List Packet) (o : Option ℕ) (p : Packet) → GotBy ys got o
    → IfSome o (λ a. a ≡ mate) → slice_get (given_in ys mate) (length got) ≡ Some p
    → IsPrefixOf (got ++ p ∷ []) (given_in ys mate)
got_grows ys mate got o p h same there = prefix_more p (got_stays ys mate o h same) there

-- the origins of the set-ups before the last
pub origins_before : (ended : List SetUp) (c : SetUp) → OriginsRise (ended ++ c ∷ []) → OriginsRise ended
origins_before [] c h = tt
origins_before (q ∷ ended) c h = (each_before _ ended c h.0, origins_before ended c h.1)

-- one set-up more, whose origin is above the others
pub origins_pushed :
    (ended : List SetUp) (c : SetUp) → Each (λ q. OriginBelow q c) ended → OriginsRise ended
    → OriginsRise (ended ++ c ∷ [])
origins_pushed [] c above h = (tt, tt)
origins_pushed (q ∷ ended) c above h = (each_pushed _ ended c h.0 above.0, origins_pushed ended c above.1 h.1)

-- the origins before the last are below it
pub origins_last : (ended : List SetUp) (c : SetUp) → OriginsRise (ended ++ c ∷ []) → Each (λ q. OriginBelow q c) ended
origins_last [] c h = tt
origins_last (q ∷ ended) c h = (each_last _ ended c h.0, origins_last ended c h.1)
