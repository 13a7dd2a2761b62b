-- What is kept of the frames in flight, and moments one after another.
use Rattle.channel_bench.proofs.Common.{◌≡◌, ℕ, ◌+◌, Bool, true, false, ◌||◌, List, [], ◌∷◌, ◌++◌, map, drop, cond}
use Rattle.channel_bench.proofs.Common.{Option, Some, None, refl, sym, ap, ◌∙◌, list_any, End, HeldFrame}
use Rattle.channel_bench.proofs.Common.{count_of, first_unquiet, OneWay, BothWays, Moment, is_quiet_at, queueing_at}
use Rattle.channel_bench.proofs.Common.{queueing_all, after_moment, after_moments}
use Rattle.channel_bench.proofs.Common.{LinkFrame, is_frame_of, option_map, slice_get, slice_get-map}
use Rattle.std.specs.Prelude.{is_some}
use Rattle.std.specs.Str.{bytes_eq}
use Rattle.std.proofs.lemmas.List.{drop-map}
use Rattle.channel_bench.specs.declared.flight.OneWay.{OneWay as HeldOneWay}
use Rattle.channel_bench.specs.HeldBench.{held_frame, StandsForWay}
use Rattle.station_laws.specs.InFlight.{in_flight}

list_any-map : {X Y : Type 0} (p : Y → Bool) (f : X → Y) (xs : List X)
    → list_any p (map f xs) ≡ list_any (λ x. p (f x)) xs
list_any-map p f [] = refl
list_any-map p f (x ∷ xs) = ap (λ b. p (f x) || b) (list_any-map p f xs)

-- a test of the flags in flight is that of the frames
pub in_flight_any : (p : HeldFrame → Bool) (held : HeldOneWay) (way : OneWay) → StandsForWay held way
    → list_any p (drop held.front held.queued.items) ≡ list_any (λ f. p (held_frame f)) (in_flight way)
in_flight_any p held way h =
    ap (λ n. list_any p (drop n held.queued.items)) h.front
    ∙ ap (λ xs. list_any p (drop way.front xs)) h.queued
    ∙ ap (list_any p) (drop-map held_frame way.front way.queued)
    ∙ list_any-map p held_frame (drop way.front way.queued)

-- ---- the frame of a number

-- it has octets exactly if what is kept of it has them
pub has_frame : (octets : List ℕ) (held : HeldOneWay) (way : OneWay) (number : ℕ) (frame : HeldFrame)
    → StandsForWay held way → slice_get held.queued.items number ≡ Some frame
    → is_frame_of octets (slice_get way.queued number) ≡ bytes_eq frame.octets octets
has_frame octets held way number frame h is = go (slice_get way.queued number) refl
  where
    found : option_map held_frame (slice_get way.queued number) ≡ Some frame
    found = sym (slice_get-map held_frame way.queued number) ∙ ap (λ xs. slice_get xs number) (sym h.queued) ∙ is

    go : (o : Option LinkFrame) → slice_get way.queued number ≡ o
        → is_frame_of octets (slice_get way.queued number) ≡ bytes_eq frame.octets octets
    go None at =
        let e : None ≡ Some frame = sym (ap (option_map held_frame) at) ∙ found in
        absurd (cc)
    go (Some f) at =
        let e : Some (held_frame f) ≡ Some frame = sym (ap (option_map held_frame) at) ∙ found in
        let same : held_frame f ≡ frame = cc in
        ap (is_frame_of octets) at ∙ ap (λ (x : HeldFrame). bytes_eq x.octets octets) same

pub has_no_frame : (octets : List ℕ) (held : HeldOneWay) (way : OneWay) (number : ℕ) → StandsForWay held way
    → slice_get held.queued.items number ≡ None → is_frame_of octets (slice_get way.queued number) ≡ false
has_no_frame octets held way number h is = go (slice_get way.queued number) refl
  where
    found : option_map held_frame (slice_get way.queued number) ≡ None
    found = sym (slice_get-map held_frame way.queued number) ∙ ap (λ xs. slice_get xs number) (sym h.queued) ∙ is

    go : (o : Option LinkFrame) → slice_get way.queued number ≡ o
        → is_frame_of octets (slice_get way.queued number) ≡ false
    go None at = ap (is_frame_of octets) at
    go (Some f) at =
        let e : Some (held_frame f) ≡ None = sym (ap (option_map held_frame) at) ∙ found in
        absurd (cc)

-- ---- moments

pub moments_more : (moments : List Moment) (moment : Moment) (ways : BothWays)
    → after_moments (moments ++ moment ∷ []) ways ≡ after_moment moment (after_moments moments ways)
moments_more [] moment ways = refl
moments_more (first ∷ moments) moment ways = moments_more moments moment (after_moment first ways)

pub moments_two : (moments : List Moment) (one two : Moment) (ways : BothWays)
    → after_moments (moments ++ one ∷ two ∷ []) ways ≡ after_moment two (after_moment one (after_moments moments ways))
moments_two [] one two ways = refl
moments_two (first ∷ moments) one two ways = moments_two moments one two (after_moment first ways)

-- ---- the frames of a step

pub queueing_more : (sender : End) (on_ask : Bool) (frames : List (List ℕ)) (octets : List ℕ) (ways : BothWays)
    → queueing_all sender on_ask (frames ++ octets ∷ []) ways ≡ queueing_at sender on_ask octets
    (queueing_all sender on_ask frames ways)
queueing_more sender on_ask [] octets ways = refl
queueing_more sender on_ask (first ∷ frames) octets ways = queueing_more sender on_ask frames octets
    (queueing_at sender on_ask first ways)

-- a frame more, after one that found no quiet channel
stays_by : (b : Bool) (short long other : Option ℕ) (number : ℕ) → (short ≡ Some number → long ≡ Some number)
    → cond b short other ≡ Some number → cond b long other ≡ Some number
stays_by true short long other number again h = again h
stays_by false short long other number again h = h

first_stays : (sender : End) (on_ask : Bool) (frames : List (List ℕ)) (octets : List ℕ) (ways : BothWays)
    (number : ℕ)
    → first_unquiet sender on_ask frames ways ≡ Some number
    → first_unquiet sender on_ask (frames ++ octets ∷ []) ways ≡ Some number
first_stays sender on_ask [] octets ways number is = absurd (cc)
first_stays sender on_ask (first ∷ frames) octets ways number is =
    let then_ways : BothWays = queueing_at sender on_ask first ways in
    stays_by (is_quiet_at sender first ways) (first_unquiet sender on_ask frames then_ways)
    (first_unquiet sender on_ask (frames ++ octets ∷ []) then_ways) (Some (count_of ways + 1)) number
    (first_stays sender on_ask frames octets then_ways number) is

-- and after none
next_by : (b : Bool) (short long other : Option ℕ) (number : ℕ) → (short ≡ None → long ≡ other)
    → cond b short (Some number) ≡ None → cond b long (Some number) ≡ other
next_by true short long other number again h = again h
next_by false short long other number again h = absurd (cc)

first_next : (sender : End) (on_ask : Bool) (frames : List (List ℕ)) (octets : List ℕ) (ways : BothWays)
    → first_unquiet sender on_ask frames ways ≡ None
    → first_unquiet sender on_ask (frames ++ octets ∷ []) ways
    ≡ cond (is_quiet_at sender octets (queueing_all sender on_ask frames ways)) None
    (Some (count_of (queueing_all sender on_ask frames ways) + 1))
first_next sender on_ask [] octets ways is = refl
first_next sender on_ask (first ∷ frames) octets ways is =
    let then_ways : BothWays = queueing_at sender on_ask first ways in
    let all : BothWays = queueing_all sender on_ask frames then_ways in
    next_by (is_quiet_at sender first ways) (first_unquiet sender on_ask frames then_ways)
    (first_unquiet sender on_ask (frames ++ octets ∷ []) then_ways)
    (cond (is_quiet_at sender octets all) None (Some (count_of all + 1)))
    (count_of ways + 1) (first_next sender on_ask frames octets then_ways) is

-- the first that finds no quiet channel, with a frame more
pub first_more : (sender : End) (on_ask : Bool) (frames : List (List ℕ)) (octets : List ℕ) (ways : BothWays)
    (first next : Option ℕ)
    → first ≡ first_unquiet sender on_ask frames ways
    → next ≡ cond (is_some first || is_quiet_at sender octets (queueing_all sender on_ask frames ways)) first
    (Some (count_of (queueing_all sender on_ask frames ways) + 1))
    → next ≡ first_unquiet sender on_ask (frames ++ octets ∷ []) ways
first_more sender on_ask frames octets ways None next h is = is
    ∙ sym (first_next sender on_ask frames octets ways (sym h))
first_more sender on_ask frames octets ways (Some number) next h is =
    is ∙ sym (first_stays sender on_ask frames octets ways number (sym h))
