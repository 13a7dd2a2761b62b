-- A joint run, step by step: the two ends of the link between two calls follow it.
use Rattle.station_laws.proofs.Common.{◌≡◌, ◌≢◌, ℕ, zero, suc, ◌+◌, ◌<◌, ◌≤◌, Bool, true, false, List, [], ◌∷◌, ◌++◌}
use Rattle.station_laws.proofs.Common.{length, take, Option, Some, None, get_or, refl, sym, ap, ◌∙◌, subst, arith, inl}
use Rattle.station_laws.proofs.Common.{inr, ◌⊎◌, All, All-contains_itself, is_from_to, slice_get, cases_eq, append-nil, append_assoc, length-append, length-map}
use Rattle.station_laws.proofs.Common.{All-from_recursion, recursion_from_All, slice_get_within, Callsign, Params}
use Rattle.station_laws.proofs.Common.{Machine, End, Tagged, RecordedEnd, World, other, each_weaker, each_append}
use Rattle.station_laws.proofs.Common.{StationState, asked_links, ticking, is_between, Turn, Input, IsTurn, Step}
use Rattle.station_laws.proofs.Common.{queued_at, FromHost, OffAir, OfClock, AreAlikeButForH, Pair, IsOffAir}
use Rattle.station_laws.proofs.Common.{HearsLinkFrame, IsHeardPair, HasPair, LinkFrame, is_ask}
use Rattle.station_laws.proofs.Common.{LinkStep, turn_steps}
use Rattle.std.specs.Prelude.{is_some}
use Rattle.std.specs.List.{AllByRecursion as Each}
use Rattle.std.specs.Prelude.{Contains}
use Rattle.std.proofs.lemmas.List.Elements.{All-contains, Contains-append_right}
use Rattle.std.proofs.lemmas.Option.{get_or_from_slice_get}
use Rattle.link_world.proofs.law.Each.{each_pushed}
use Rattle.station.specs.Turn.{begin}
use Rattle.station_laws.specs.JointRun.{HasOctets}
use Rattle.station_laws.proofs.Acts.{Setting, Holds, still_holds}
use Rattle.station_laws.proofs.Along.{near_all, AllFollowNear, Kept}
use Rattle.station_laws.proofs.Flights.{RiseFrom, before_flight, tag_at, flight, rise_lower}
use Rattle.station_laws.proofs.Framed.{one_framed, framed, octets_in, octets_at, frames_at}
use Rattle.station_laws.proofs.Hearing.{Pop, heard_outcome}
use Rattle.station_laws.proofs.Hearing.Pop.{Own, Another}
use Rattle.station_laws.proofs.Hearing.Outcome.{Passed, Event}
use Rattle.station_laws.proofs.Messages.{host_goes, still_goes, ticks_go}
use Rattle.station_laws.proofs.Standing.{IsTable}
use Rattle.station_laws.proofs.Tags.{IsTag, AreTags}

-- ---- between two steps

-- a station and its end
pub record SideHolds (local remote : Callsign) (params : Params) (state : StationState) (machine : Machine)
    : Type 0 where
  pub parameters : state.parameters ≡ params
  pub table : IsTable params (is_between local remote) state.links machine
  pub end_params : machine.params ≡ params

-- what is in flight from one end, before a step, when its station has queued this
pub record Sent (local remote : Callsign) (queue : List LinkFrame) (pairs : List Pair) (n : ℕ) (towards : List Tagged)
    : Type 0 where
  pub done : List Pair
  pub rest : List Pair
  pub split : pairs ≡ done ++ rest
  pub rises : RiseFrom n 0 rest
  pub below : Each (λ (p : Pair). p.sent < length queue) done
  pub before : Each (λ (p : Pair). p.heard < n) done
  pub tags : List (Option Tagged)
  pub tagged : AreTags local remote tags queue
  pub ahead : towards ≡ flight tags rest

-- both ends, seen from one of them
pub record Between (l r : Callsign) (pa pb : Params) (n : ℕ) (sa sb : StationState) (qa qb : List LinkFrame)
    (out_pairs back_pairs : List Pair) (w : World) : Type 0 where
  pub near : SideHolds l r pa sa w.a.end.machine
  pub far : SideHolds r l pb sb w.b.end.machine
  pub out : Sent l r qa out_pairs n w.b.towards
  pub back : Sent r l qb back_pairs n w.a.towards

-- ---- a step that hears nothing for a link

pub sent_later :
    (l r : Callsign) (queue : List LinkFrame) (pairs : List Pair) (n : ℕ) (towards : List Tagged)
    (s : Sent l r queue pairs n towards) → RiseFrom (n + 1) 0 s.rest → Sent l r queue pairs (n + 1) towards
sent_later l r queue pairs n towards s rises = record {
  done = s.done;
  rest = s.rest;
  split = s.split;
  rises = rises;
  below = s.below;
  before = each_weaker (λ (p : Pair). p.heard < n) (λ (p : Pair). p.heard < n + 1) (λ p less. omega arith)
      s.done s.before;
  tags = s.tags;
  tagged = s.tagged;
  ahead = s.ahead;
}

rise_next :
    (n : ℕ) (ps : List Pair) → Each (λ (p : Pair). p.heard ≢ n) ps → RiseFrom n 0 ps → RiseFrom (n + 1) 0 ps
rise_next n [] other rises = tt
rise_next n (p ∷ ps) other rises =
    let low = rises.0 in
    let ne : p.heard ≢ n = other.0 in
    (above n p.heard low ne, rises.1, rises.2)
  where
    above : (k m : ℕ) → k ≤ m → m ≢ k → k + 1 ≤ m
    above k m h ne = elim (cases_eq m k) [ inl e ↦ absurd (ne e) | inr less ↦ omega arith ]

pub each_right : (P : Pair → Type 0) (xs ys : List Pair) → Each P (xs ++ ys) → Each P ys
each_right P [] ys h = h
each_right P (x ∷ xs) ys h = each_right P xs ys h.1

-- a pair that is heard in a step is heard by that one
same_step : (full : List Step) (n : ℕ) (step found : Step) → slice_get full n ≡ Some step
    → slice_get full n ≡ Some found → found ≡ step
same_step full n step found is there = let e : Some found ≡ Some step = sym there ∙ is in cc

hears_at_number :
    (hearer : End) (full : List Step) (n : ℕ) (step : Step) (p : Pair) → slice_get full n ≡ Some step
    → (h : IsHeardPair hearer full p) → p.heard ≡ n → HearsLinkFrame hearer step h.octets
hears_at_number hearer full n step p is h at =
    subst (λ (s : Step). HearsLinkFrame hearer s h.octets)
    (same_step full n step h.step is (ap (slice_get full) (sym at) ∙ h.there)) h.hears

pub none_rises :
    (hearer : End) (full : List Step) (pairs : List Pair) (l r : Callsign) (queue : List LinkFrame) (n : ℕ)
    (towards : List Tagged) (step : Step) → All (IsHeardPair hearer full) pairs → slice_get full n ≡ Some step
    → ((octets : List ℕ) → HearsLinkFrame hearer step octets → ⊥) → (s : Sent l r queue pairs n towards)
    → RiseFrom (n + 1) 0 s.rest
none_rises hearer full pairs l r queue n towards step each is never s =
    let all : Each (IsHeardPair hearer full) pairs = recursion_from_All (IsHeardPair hearer full) pairs each in
    let rest : Each (IsHeardPair hearer full) s.rest =
    each_right (IsHeardPair hearer full) s.done s.rest (subst (λ ps. Each (IsHeardPair hearer full) ps) s.split all) in
    rise_next n s.rest
    (each_weaker (IsHeardPair hearer full) (λ (p : Pair). p.heard ≢ n)
    (λ p h at. never h.octets (hears_at_number hearer full n step p is h at)) s.rest rest) s.rises

pub none_heard :
    (hearer : End) (full : List Step) (pairs : List Pair) (l r : Callsign) (queue : List LinkFrame) (n : ℕ)
    (towards : List Tagged) (step : Step) → All (IsHeardPair hearer full) pairs → slice_get full n ≡ Some step
    → ((octets : List ℕ) → HearsLinkFrame hearer step octets → ⊥) → Sent l r queue pairs n towards
    → Sent l r queue pairs (n + 1) towards
none_heard hearer full pairs l r queue n towards step each is never s =
    sent_later l r queue pairs n towards s
    (none_rises hearer full pairs l r queue n towards step each is never s)

-- ---- a step that does

pub record Popped (s : Setting) (octets : List ℕ) (queue : List LinkFrame) (pairs : List Pair) (n : ℕ)
    (towards : List Tagged) : Type 0 where
  pub stays : List Tagged
  pub pop : Pop s octets towards stays
  pub sent : Sent s.remote s.local queue pairs (n + 1) stays

-- a frame past the end
abbrev pub nothing : LinkFrame
nothing = one_framed false []

pub tag_of :
    (l r : Callsign) (tags : List (Option Tagged)) (queue : List LinkFrame) (k : ℕ) → AreTags l r tags queue
    → k < length queue
    → IsTag l r (tag_at tags k) (get_or queue k nothing)
tag_of l r [] [] k h within = absurd (omega arith)
tag_of l r [] (queued ∷ rest) k h within = absurd h
tag_of l r (tag ∷ tags) [] k h within = absurd h
tag_of l r (tag ∷ tags) (queued ∷ rest) zero h within = h.0
tag_of l r (tag ∷ tags) (queued ∷ rest) (suc k) h within = tag_of l r tags rest k h.1 (omega arith)

octets_get : (queue : List LinkFrame) (k : ℕ) → (get_or queue k nothing).octets ≡ get_or (octets_in queue) k []
octets_get [] k = refl
octets_get (f ∷ queue) zero = refl
octets_get (f ∷ queue) (suc k) = octets_get queue k

same_octets : (input : Input) (a b : List ℕ) → IsOffAir input a → IsOffAir input b → a ≡ b
same_octets (FromHost event) a b h k = absurd h
same_octets (OffAir heard) a b h k = sym h ∙ k
same_octets (OfClock busy) a b h k = absurd h

by_tag :
    (s : Setting) (octets : List ℕ) (queued : LinkFrame) (o : Option Tagged) (stays : List Tagged)
    → AreAlikeButForH octets queued.octets → IsTag s.remote s.local o queued → (is_ask octets ≡ true → s.on_ask ≡ true)
    → Pop s octets (before_flight o stays) stays
by_tag s octets queued None stays alike tag caused = Another stays queued.octets alike tag
by_tag s octets queued (Some f) stays alike tag caused = Own f stays queued alike tag caused

all_rise : (n m : ℕ) (ps : List Pair) (sent : ℕ) → n < m → RiseFrom m sent ps → Each (λ (p : Pair). p.heard ≢ n) ps
all_rise n m [] sent less rises = tt
all_rise n m (p ∷ ps) sent less rises =
    let low = rises.0 in
    ((λ e. absurd (omega arith)), all_rise n (p.heard + 1) ps (p.sent + 1) (omega arith) rises.2)

pub popped_by :
    (s : Setting) (hearer : End) (full : List Step) (pairs : List Pair) (queue : List LinkFrame) (n : ℕ)
    (towards : List Tagged) (step : Step) (octets : List ℕ) (done rest : List Pair) (tags : List (Option Tagged))
    → All (IsHeardPair hearer full) pairs → slice_get full n ≡ Some step → HearsLinkFrame hearer step octets
    → (is_ask octets ≡ true → s.on_ask ≡ true)
    → frames_at (other hearer) (take n full) ≡ queue → pairs ≡ done ++ rest → RiseFrom n 0 rest
    → Each (λ (p : Pair). p.sent < length queue) done → Each (λ (p : Pair). p.heard < n) done
    → AreTags s.remote s.local tags queue → towards ≡ flight tags rest → (found : HasPair pairs n)
    → Popped s octets queue pairs n towards
popped_by s hearer full pairs queue n towards step octets done []
    tags each is hears caused queue_is split rises below before tagged
    ahead found =
    let others : Each (λ (p : Pair). p.heard ≢ n) done =
    each_weaker (λ (p : Pair). p.heard < n) (λ (p : Pair). p.heard ≢ n) (λ p less e. absurd (omega arith))
    done before in
    absurd (All-contains (λ (p : Pair). p.heard ≢ n) pairs found.pair
    (All-from_recursion (λ (p : Pair). p.heard ≢ n) pairs
    (subst (λ ps. Each (λ (p : Pair). p.heard ≢ n) ps) (sym (split ∙ append-nil done)) others)) found.contains found.is)
popped_by s hearer full pairs queue n towards step octets done (p ∷ ps)
    tags each is hears caused queue_is split rises below before
    tagged ahead found = elim (cases_eq p.heard n) [
      | inr ne ↦
          let low = rises.0 in
          let others : Each (λ (q : Pair). q.heard ≢ n) done =
          each_weaker (λ (q : Pair). q.heard < n) (λ (q : Pair). q.heard ≢ n) (λ q less e. absurd (omega arith))
          done before in
          let more : n < p.heard = omega arith in
          let later : Each (λ (q : Pair). q.heard ≢ n) (p ∷ ps) =
          (ne, all_rise n (p.heard + 1) ps (p.sent + 1) (omega arith) rises.2) in
          absurd (All-contains (λ (q : Pair). q.heard ≢ n) pairs found.pair
          (All-from_recursion (λ (q : Pair). q.heard ≢ n) pairs
          (subst (λ qs. Each (λ (q : Pair). q.heard ≢ n) qs) (sym split)
          (each_append (λ (q : Pair). q.heard ≢ n) done (p ∷ ps) others later))) found.contains found.is)
      | inl at ↦
          let all : Each (IsHeardPair hearer full) pairs = recursion_from_All (IsHeardPair hearer full) pairs each in
          let here : IsHeardPair hearer full p =
          (each_right (IsHeardPair hearer full) done (p ∷ ps)
          (subst (λ qs. Each (IsHeardPair hearer full) qs) split all)).0 in
          let same : here.octets ≡ octets =
          same_octets step.input here.octets octets (hears_at_number hearer full n step p is here at).input hears.input
          in
          let octets_are : octets_in queue ≡ queued_at (other hearer) (take n full) =
          ap octets_in (sym queue_is) ∙ octets_at (other hearer) (take n full) in
          let queued : slice_get (octets_in queue) p.sent ≡ Some here.queued =
          ap (λ q. slice_get q p.sent) (octets_are ∙ ap (λ k. queued_at (other hearer) (take k full)) (sym at))
          ∙ here.before in
          let within : p.sent < length queue =
          let less = slice_get_within (octets_in queue) p.sent here.queued queued in
          let size : length (octets_in queue) ≡ length queue = length-map queue (λ (f : LinkFrame). f.octets) in
          omega arith in
          let frame : LinkFrame = get_or queue p.sent nothing in
          let same_queued : here.queued ≡ frame.octets =
          sym (get_or_from_slice_get (octets_in queue) p.sent here.queued [] queued) ∙ sym (octets_get queue p.sent) in
          let tag : IsTag s.remote s.local (tag_at tags p.sent) frame =
          tag_of s.remote s.local tags queue p.sent tagged within in
          record {
            stays = flight tags ps;
            pop = subst (λ ts. Pop s octets ts (flight tags ps)) (sym ahead)
                (by_tag s octets frame (tag_at tags p.sent) (flight tags ps)
                (subst (λ o. AreAlikeButForH octets o) same_queued
                (subst (λ o. AreAlikeButForH o here.queued) same here.alike))
                tag caused);
            sent = record {
              done = done ++ p ∷ [];
              rest = ps;
              split = split ∙ sym (append_assoc done (p ∷ []) ps);
              rises = rise_lower (p.heard + 1) (n + 1) (p.sent + 1) 0 ps (omega arith) (omega arith) rises.2;
              below = each_pushed (λ (q : Pair). q.sent < length queue) done p below within;
              before = each_pushed (λ (q : Pair). q.heard < n + 1) done p
                  (each_weaker (λ (q : Pair). q.heard < n) (λ (q : Pair). q.heard < n + 1) (λ q less. omega arith)
                  done before)
                  (omega arith);
              tags = tags;
              tagged = tagged;
              ahead = refl;
            };
          }
    ]

-- a frame of another link: a pair may be of it or not
pub perhaps_popped :
    (s : Setting) (hearer : End) (full : List Step) (pairs : List Pair) (queue : List LinkFrame) (n : ℕ)
    (towards : List Tagged) (step : Step) (octets : List ℕ) → All (IsHeardPair hearer full) pairs
    → slice_get full n ≡ Some step → HearsLinkFrame hearer step octets → (is_ask octets ≡ true → s.on_ask ≡ true)
    → frames_at (other hearer) (take n full) ≡ queue → Sent s.remote s.local queue pairs n towards
    → Sent s.remote s.local queue pairs (n + 1) towards ⊎ Popped s octets queue pairs n towards
perhaps_popped s hearer full pairs queue n towards step octets each is hears caused queue_is sent =
    by_rest sent.rest refl
  where
    by_rest : (rest : List Pair) → sent.rest ≡ rest
        → Sent s.remote s.local queue pairs (n + 1) towards ⊎ Popped s octets queue pairs n towards
    by_rest [] none =
        inl (sent_later s.remote s.local queue pairs n towards sent (subst (RiseFrom (n + 1) 0) (sym none) tt))
    by_rest (p ∷ ps) some =
        let rises : RiseFrom n 0 (p ∷ ps) = subst (RiseFrom n 0) some sent.rises in
        elim (cases_eq p.heard n) [
          | inr ne ↦
              let low = rises.0 in
              inl (sent_later s.remote s.local queue pairs n towards sent
              (subst (RiseFrom (n + 1) 0) (sym some) (next_from low ne, rises.1, rises.2)))
          | inl at ↦
              let split : pairs ≡ sent.done ++ p ∷ ps = sent.split ∙ ap (λ ps. sent.done ++ ps) some in
              let there : Contains pairs p =
              subst (λ qs. Contains qs p) (sym split)
              (Contains-append_right sent.done (p ∷ ps) p (All-contains_itself (p ∷ ps) 0 p (omega arith))) in
              inr (popped_by s hearer full pairs queue n towards step octets sent.done sent.rest sent.tags each is hears
              caused queue_is sent.split sent.rises sent.below sent.before sent.tagged sent.ahead
              (record { pair = p; contains = there; is = at }))
        ]
      where
        next_from : n ≤ p.heard → p.heard ≢ n → n + 1 ≤ p.heard
        next_from low ne = elim (cases_eq p.heard n) [ inl e ↦ absurd (ne e) | inr other ↦ omega arith ]

-- ---- a step of one station, as its end sees it

-- what a step comes to
pub record Stepped (e : End) (on : Bool) (l r : Callsign) (pa pb : Params) (n : ℕ) (sb : StationState)
    (qa qb : List LinkFrame)
    (out_pairs back_pairs : List Pair) (w : World) (after : Turn) (steps : List LinkStep) : Type 0 where
  pub between : Between l r pa pb (n + 1) after.now sb (qa ++ framed on after.out.queued) qb out_pairs back_pairs
      (near_all e out_pairs (length qa) steps w)
  -- what stays in flight back to it
  pub stays : List Tagged
  pub left : (near_all e out_pairs (length qa) steps w).a.towards ≡ stays
  pub follows : AllFollowNear e stays out_pairs (length qa) steps w

module _ (on : Bool) (l r : Callsign) (pa pb : Params) (n : ℕ) (sa sb : StationState) (qa qb : List LinkFrame)
    (out_pairs back_pairs : List Pair) (w : World) (h : Between l r pa pb n sa sb qa qb out_pairs back_pairs w) where
  abbrev pub setting_of : Setting
  setting_of = record {
    local = l;
    remote = r;
    params = pa;
    earlier = qa;
    on_ask = on;
    done = h.out.done;
    rest = h.out.rest;
    heard = n;
    rises = h.out.rises;
    below = h.out.below;
    far = w.b.end;
  }

  begins : Holds setting_of w.a.towards (begin sa) w
  begins = record {
    parameters = h.near.parameters;
    table = h.near.table;
    end_params = h.near.end_params;
    tags = h.out.tags;
    tagged_as = subst (AreTags l r h.out.tags) (sym (append-nil qa)) h.out.tagged;
    ahead = h.out.ahead;
    far_is = refl;
    back_is = refl;
  }

  ends :
      RiseFrom (n + 1) 0 h.out.rest → (stays : List Tagged) → Sent r l qb back_pairs (n + 1) stays → (after : Turn)
      → (next : World) → Holds setting_of stays after next
      → Between l r pa pb (n + 1) after.now sb (qa ++ framed on after.out.queued) qb out_pairs back_pairs next
  ends rises stays back after next H = record {
    near = record { parameters = H.parameters; table = H.table; end_params = H.end_params };
    far = record {
      parameters = h.far.parameters;
      table = subst (λ (m : Machine). IsTable pb (is_between r l) sb.links m)
          (sym (ap (λ (x : RecordedEnd). x.machine) H.far_is)) h.far.table;
      end_params = ap (λ (x : RecordedEnd). x.machine.params) H.far_is ∙ h.far.end_params;
    };
    out = record {
      done = h.out.done;
      rest = h.out.rest;
      split = h.out.split;
      rises = rises;
      below = each_weaker (λ (p : Pair). p.sent < length qa) (λ (p : Pair). p.sent
          < length (qa ++ framed on after.out.queued))
          (λ p less. let size = length-append qa (framed on after.out.queued) in omega arith) h.out.done h.out.below;
      before = each_weaker (λ (p : Pair). p.heard < n) (λ (p : Pair). p.heard < n + 1) (λ p less. omega arith)
          h.out.done h.out.before;
      tags = H.tags;
      tagged = H.tagged_as;
      ahead = H.ahead;
    };
    back = subst (Sent r l qb back_pairs (n + 1)) (sym H.back_is) back;
  }

  finishes :
      (e : End) → RiseFrom (n + 1) 0 h.out.rest → (stays : List Tagged) → Sent r l qb back_pairs (n + 1) stays
      → (after : Turn) → (steps : List LinkStep) → Kept setting_of e stays after steps w
      → Stepped e on l r pa pb n sb qa qb out_pairs back_pairs w after steps
  finishes e rises stays back after steps k = record {
    between = subst (λ ps. Between l r pa pb (n + 1) after.now sb (qa ++ framed on after.out.queued)
        qb out_pairs back_pairs
        (near_all e ps (length qa) steps w)) (sym h.out.split)
        (ends rises stays back after (near_all e (h.out.done ++ h.out.rest) (length qa) steps w) k.0);
    stays = stays;
    left = subst (λ ps. (near_all e ps (length qa) steps w).a.towards ≡ stays) (sym h.out.split) k.0.back_is;
    follows = subst (λ ps. AllFollowNear e stays ps (length qa) steps w) (sym h.out.split) k.1;
  }

  -- whatever the step takes
  pub takes :
      (e : End) → RiseFrom (n + 1) 0 h.out.rest → (input : Input) → (after : Turn)
      → (turn : IsTurn input (begin sa) after) → HasOctets input
      → (((octets : List ℕ) → IsOffAir input octets → turn_steps is_some input (begin sa) after turn ≢ [] → ⊥)
      → Sent r l qb back_pairs (n + 1) w.a.towards)
      → ((octets : List ℕ) → IsOffAir input octets → turn_steps is_some input (begin sa) after turn ≢ []
      → is_from_to r l octets ≡ true → Popped setting_of octets qb back_pairs n w.a.towards)
      → ((octets : List ℕ) → IsOffAir input octets → turn_steps is_some input (begin sa) after turn ≢ []
      → Sent r l qb back_pairs (n + 1) w.a.towards ⊎ Popped setting_of octets qb back_pairs n w.a.towards)
      → Stepped e on l r pa pb n sb qa qb out_pairs back_pairs w after
      (turn_steps (is_between l r) input (begin sa) after turn)
  takes e rises (FromHost event) after turn octets calm popped perhaps =
      finishes e rises w.a.towards (calm (λ o off some. off)) after
      (turn_steps (is_between l r) (FromHost event) (begin sa) after turn)
      (host_goes setting_of e w.a.towards event (begin sa) after turn w begins)
  takes e rises (OfClock busy) after turn octets calm popped perhaps =
      let s = setting_of in
      let ticked = ticks_go s e w.a.towards busy (begin sa) w begins in
      let steps = turn_steps (is_between l r) (OfClock busy) (begin sa) after turn in
      finishes e rises w.a.towards (calm (λ o off some. off)) after steps
      (subst (λ t. Kept s e w.a.towards t steps w) (sym turn.effect) (
        still_holds s w.a.towards (asked_links busy (begin sa)) (ticking busy turn.monitored (begin sa))
            (near_all e (s.done ++ s.rest) (length s.earlier) steps w)
            ticked.0 refl refl refl,
        ticked.1,
      ))
  takes e rises (OffAir octets) after turn low calm popped perhaps =
      let s = setting_of in
      let H : Holds s w.a.towards (begin sa) w = begins in
      let own = turn_steps (is_between l r) (OffAir octets) (begin sa) after turn in
      elim (heard_outcome s e octets (begin sa) after low H.parameters H.table.size turn) [
        | Passed calmly none none_any ↦
            finishes e rises w.a.towards (calm (λ o off some. some none_any)) after own
            (subst (λ steps. Kept s e w.a.towards after steps w) (sym none)
            (still_goes s e w.a.towards (begin sa) after calmly w H))
        | Event goes some past ↦ elim past [
          | inl own_frame ↦
              let p = popped octets refl some own_frame in
              finishes e rises p.stays p.sent after own (goes w w.a.towards p.stays p.pop H)
          | inr goes_past ↦ elim (perhaps octets refl some) [
            | inl sent ↦ finishes e rises w.a.towards sent after own (goes_past w w.a.towards H)
            | inr p ↦ finishes e rises p.stays p.sent after own (goes w w.a.towards p.stays p.pop H)
          ]
        ]
      ]
