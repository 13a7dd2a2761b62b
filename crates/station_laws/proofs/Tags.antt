-- The frames that the links of a station have queued: each is a frame of the link between two calls, with its tags, or
-- of another.
use Rattle.station_laws.proofs.Common.{◌≡◌, ℕ, suc, Bool, true, List, [], ◌∷◌, ◌++◌, length, map, Option, Some, None}
use Rattle.station_laws.proofs.Common.{refl, sym, ap, ◌∙◌, subst, arith, inl, inr, ⊤, and_parts, Callsign}
use Rattle.station_laws.proofs.Common.{BeginsWithPath, Path, BeginsWithPath-same, SentFrame, modulus_named, Sent}
use Rattle.station_laws.proofs.Common.{XidSent}
use Rattle.station_laws.proofs.Common.{SentIn, sent_kind, sent_frame, InfoSent, SuperSent, SetupSent, Tagged, is_answer}
use Rattle.station_laws.proofs.Common.{RecordedEnd, tagged, frame_octets, path_octets, LinkFrame}
use Rattle.std.specs.List.{AllByRecursion as Each}
use Rattle.ax25_frames.specs.FrameOctets.{IsKind}
use Rattle.link_machine.specs.Sent.{sent_role, frame_of}
use Rattle.link_world.specs.Held.{IsModulus}
use Rattle.link_machine.proofs.Writable.{CanSend, HasShort}
use Rattle.station_laws.proofs.Addresses.{IsGoodPath, frame_spelled}
use Rattle.station_laws.proofs.Flights.{AreNone}
use Rattle.station_laws.proofs.Framed.{one_framed, framed}
use Rattle.station_laws.proofs.LinkKinds.{IsLinkKind, sent_link_kind}
use Rattle.station_laws.proofs.Queues.{octets_of}

-- a frame of the link from one call to another
pub record IsTagged (local remote : Callsign) (f : Tagged) (queued : LinkFrame) : Type 0 where
  pub spelled : queued.octets ≡ frame_octets (modulus_named f.modulus) f.frame
  pub path : IsGoodPath f.frame.path
  pub source : f.frame.path.source ≡ local
  pub dest : f.frame.path.dest ≡ remote
  pub kind : IsKind (modulus_named f.modulus) f.frame.kind
  -- only UA and DM answer, in a step that hears SABM, SABME or DISC
  pub cause : f.answers ≡ true → queued.on_ask ≡ true
  pub answer : f.answers ≡ true → is_answer f.frame.kind ≡ true
  pub of_link : IsLinkKind f.frame.kind

-- a frame between other calls
abbrev pub IsOther : Callsign → Callsign → List ℕ → Type 0
IsOther local remote octets =
    (path : Path) (len : ℕ) → BeginsWithPath octets path len → path.source ≡ local → path.dest ≡ remote → ⊥

abbrev pub IsTag : Callsign → Callsign → Option Tagged → LinkFrame → Type 0
IsTag local remote None queued = IsOther local remote queued.octets
IsTag local remote (Some f) queued = IsTagged local remote f queued

abbrev pub AreTags : Callsign → Callsign → List (Option Tagged) → List LinkFrame → Type 0
AreTags local remote [] [] = ⊤
AreTags local remote [] (queued ∷ rest) = ⊥
AreTags local remote (tag ∷ tags) [] = ⊥
AreTags local remote (tag ∷ tags) (queued ∷ rest) = IsTag local remote tag queued × AreTags local remote tags rest

pub tags_length : (l r : Callsign) (tags : List (Option Tagged)) (queue : List LinkFrame) → AreTags l r tags queue
    → length tags ≡ length queue
tags_length l r [] [] h = refl
tags_length l r [] (queued ∷ rest) h = absurd h
tags_length l r (tag ∷ tags) [] h = absurd h
tags_length l r (tag ∷ tags) (queued ∷ rest) h = let e = tags_length l r tags rest h.1 in omega arith

pub tags_append :
    (l r : Callsign) (tags more : List (Option Tagged)) (queue others : List LinkFrame) → AreTags l r tags queue
    → AreTags l r more others → AreTags l r (tags ++ more) (queue ++ others)
tags_append l r [] more [] others h k = k
tags_append l r [] more (queued ∷ rest) others h k = absurd h
tags_append l r (tag ∷ tags) more [] others h k = absurd h
tags_append l r (tag ∷ tags) more (queued ∷ rest) others h k = (h.0, tags_append l r tags more rest others h.1 k)

-- a good frame is a kind of its modulus
narrow_kind : (sent : Sent) → HasShort sent → IsKind (modulus_named 8) (sent_kind 8 sent)
narrow_kind (InfoSent number nr poll packet) short = record { numbered = (omega arith, omega arith); fits = short }
narrow_kind (SuperSent which command nr flag) short = record { numbered = omega arith; fits = tt }
narrow_kind (SetupSent which flag) short = record { numbered = tt; fits = tt }
narrow_kind (XidSent command flag own) short = record { numbered = tt; fits = tt }

wide_kind : (sent : Sent) → HasShort sent → IsKind (modulus_named 128) (sent_kind 128 sent)
wide_kind (InfoSent number nr poll packet) short = record { numbered = (omega arith, omega arith); fits = short }
wide_kind (SuperSent which command nr flag) short = record { numbered = omega arith; fits = tt }
wide_kind (SetupSent which flag) short = record { numbered = tt; fits = tt }
wide_kind (XidSent command flag own) short = record { numbered = tt; fits = tt }

kind_by : (modulus : ℕ) (sent : Sent) → IsModulus modulus → HasShort sent
    → IsKind (modulus_named modulus) (sent_kind modulus sent)
kind_by modulus sent (inl is) short = subst (λ m. IsKind (modulus_named m) (sent_kind m sent)) (sym is)
    (narrow_kind sent short)
kind_by modulus sent (inr is) short = subst (λ m. IsKind (modulus_named m) (sent_kind m sent)) (sym is)
    (wide_kind sent short)

-- another role leaves a path good
good_in_role : (path : Path) (sent : Sent) → IsGoodPath path → IsGoodPath (record path { role = sent_role sent })
good_in_role path sent good = record { few = good.few; dest = good.dest; source = good.source; hops = good.hops }

-- what the link sent: the first of it joined the queue
pub record OwnTags (l r : Callsign) (on : Bool) (sent : List Tagged) (first : List SentFrame) : Type 0 where
  pub joined : List Tagged
  pub lost : List Tagged
  pub split : sent ≡ joined ++ lost
  pub count : length joined ≡ length first
  pub tags : AreTags l r (map Some joined) (framed on (map octets_of first))

own_more :
    (l r : Callsign) (on : Bool) (f : Tagged) (sent : List Tagged) (x : SentFrame) (first : List SentFrame)
    → IsTagged l r f (one_framed on (octets_of x)) → OwnTags l r on sent first → OwnTags l r on (f ∷ sent) (x ∷ first)
own_more l r on f sent x first tag more = record {
  joined = f ∷ more.joined;
  lost = more.lost;
  split = ap (λ fs. f ∷ fs) more.split;
  count = ap suc more.count;
  tags = (tag, more.tags);
}

pub own_tags :
    (l r : Callsign) (on on_ask : Bool) (now : RecordedEnd) (sent : List SentIn) (first rest : List SentFrame)
    → (on_ask ≡ true → on ≡ true) → IsGoodPath now.machine.path → now.machine.path.source ≡ l
    → now.machine.path.dest ≡ r → Each CanSend sent
    → map (sent_frame now.machine.path) sent ≡ first ++ rest → OwnTags l r on (map (tagged on_ask now) sent) first
own_tags l r on on_ask now sent [] rest caused good source dest all is =
    record { joined = []; lost = map (tagged on_ask now) sent; split = refl; count = refl; tags = tt }
own_tags l r on on_ask now [] (x ∷ first) rest caused good source dest all is = absurd (cc)
own_tags l r on on_ask now (s ∷ sent) (x ∷ first) rest caused good source dest all is =
    let head : sent_frame now.machine.path s ≡ x = cc in
    let tail : map (sent_frame now.machine.path) sent ≡ first ++ rest = cc in
    own_more l r on (tagged on_ask now s) (map (tagged on_ask now) sent) x first (record {
      spelled = ap octets_of (sym head);
      path = good_in_role now.machine.path s.frame good;
      source = source;
      dest = dest;
      kind = kind_by s.modulus s.frame all.0.0 all.0.1;
      cause = λ answers. caused (and_parts on_ask (is_answer (tagged on_ask now s).frame.kind) answers).0;
      answer = λ answers. (and_parts on_ask (is_answer (tagged on_ask now s).frame.kind) answers).1;
      of_link = sent_link_kind s.modulus s.frame;
    }) (own_tags l r on on_ask now sent first rest caused good source dest all.1 tail)

-- no tags
abbrev pub no_tags : List SentFrame → List (Option Tagged)
no_tags [] = []
no_tags (x ∷ first) = None ∷ no_tags first

pub no_tags_none : (first : List SentFrame) → AreNone (no_tags first)
no_tags_none [] = tt
no_tags_none (x ∷ first) = (refl, no_tags_none first)

other_frame :
    (l r : Callsign) (path : Path) (s : SentIn) → IsGoodPath path → (path.source ≡ l → path.dest ≡ r → ⊥)
    → IsOther l r (octets_of (sent_frame path s))
other_frame l r path s good other = λ found len begins source dest.
    let frame = frame_of s.modulus path s.frame in
    let spelled = frame_spelled (modulus_named s.modulus) frame (good_in_role path s.frame good) in
    let same : found ≡ frame.path = (BeginsWithPath-same (frame_octets (modulus_named s.modulus) frame)
    found frame.path len
    (length (path_octets frame.path)) begins spelled.begins).0 in
    other (ap (λ (p : Path). p.source) (sym same) ∙ source) (ap (λ (p : Path). p.dest) (sym same) ∙ dest)

-- what another link sent
pub other_tags :
    (l r : Callsign) (on : Bool) (path : Path) (sent : List SentIn) (first rest : List SentFrame) → IsGoodPath path
    → (path.source ≡ l → path.dest ≡ r → ⊥) → map (sent_frame path) sent ≡ first ++ rest
    → AreTags l r (no_tags first) (framed on (map octets_of first))
other_tags l r on path sent [] rest good other is = tt
other_tags l r on path [] (x ∷ first) rest good other is = absurd (cc)
other_tags l r on path (s ∷ sent) (x ∷ first) rest good other is =
    let head : sent_frame path s ≡ x = cc in
    let tail : map (sent_frame path) sent ≡ first ++ rest = cc in (
      subst (λ (f : SentFrame). IsOther l r (octets_of f)) head (other_frame l r path s good other),
      other_tags l r on path sent first rest good other tail,
    )
