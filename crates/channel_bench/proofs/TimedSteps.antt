-- What comes to pass at a station of a bench keeps both directions in order and in time.
use Rattle.channel_bench.proofs.Common.{◌≡◌, ℕ, ◌+◌, ◌*◌, ◌≤◌, Bool, true, false, List, [], ◌∷◌, length, Option, Some}
use Rattle.channel_bench.proofs.Common.{None, refl, sym, ap, ◌∙◌, subst, MatchBool, Sent, Candidate, End, A, B, other}
use Rattle.channel_bench.proofs.Common.{HostEvent, StationState, air_of, BenchWords, stations_of, AtEnd, BenchState}
use Rattle.channel_bench.proofs.Common.{Near, SideState, near, with_near, AreHeardAt, GoesOn, IsHeardAs, IsHeardAt}
use Rattle.channel_bench.proofs.Common.{IsStep, is_coming, is_frame_of, match_of, number_of, or_coming, with_matched}
use Rattle.channel_bench.proofs.Common.{with_stray, IsGivenPiece, with_giving}
use Rattle.channel_bench.proofs.Common.{most_octets, IsMatched, sent_by, steps_in, Stations, state_of, with_state}
use Rattle.channel_bench.proofs.Common.{FromHost, OffAir, OfClock}
use Rattle.channel_bench.proofs.Common.{◌&&◌, ◌⊎◌, inl, inr, nat_le, slice_get, arith, and_parts, leb-true}
use Rattle.std.specs.List.{AllByRecursion as Each}
use Rattle.std.proofs.lemmas.Option.{slice_get_within}
use Rattle.station_laws.specs.InFlight.{IsInFlight}
use Rattle.channel_bench.proofs.ChannelOrder.{Fits}
use Rattle.channel_bench.proofs.CoreRun.{IsToldUsual, Occurs, Usual, heard_calm, input_of, state_there, state_twice}
use Rattle.channel_bench.proofs.CoreRun.Usual.{gives, hears, ticks}
use Rattle.channel_bench.proofs.InTime.{Both, clock_step, coming_there, heard_step, host_step, in_flight_there}
use Rattle.channel_bench.proofs.InTime.{step_facts, ways_after}
use Rattle.channel_bench.proofs.RunOfParts.{IsCalm}
use Rattle.channel_bench.proofs.SentInOrder.{InOrder, SentInTurn, clock_sends, fits_at, order_kept, sent_in_step}
use Rattle.channel_bench.proofs.TowardsLemmas.{match_is}

-- a number is that of a match, or of the frame that is on its way
number_cases : (coming : Bool) (last number : ℕ) (found : Option ℕ) → or_coming coming last found ≡ Some number
    → (found ≡ Some number) ⊎ ((coming ≡ true) × (number ≡ last))
number_cases coming last number (Some k) is = inl is
number_cases true last number None is = inr (refl, (let same : number ≡ last = cc in same))
number_cases false last number None is = absurd (cc)

-- ---- at one station

pub record NearHolds (end : End) (own far_pending : Option Sent) (ticks size : ℕ) (n : Near) (far : SideState)
    (s : Stations) : Type 0 where
  pub both : Both end own far_pending ticks n.common.moments n.side far
  pub turn : SentInTurn n.common.moments s
  pub at : n.side.station ≡ state_of end s
  pub size_is : length n.side.samples ≡ size

-- it holds after something came to pass there
abbrev pub HoldsThen : End → Option Sent → Option Sent → ℕ → ℕ → Near → SideState → Stations → Type 0
HoldsThen end own far_pending count size n far s = NearHolds end own far_pending count size n far
    (with_state end n.side.station s)

module _ (w : BenchWords) (end : End) (ticks_made size : ℕ) (far : SideState) (far_pending : Option Sent) where
  pub near_host :
      (own : Option Sent) (usual : Usual) (n next : Near) (s : Stations) → Occurs end usual
      → sent_in_step (input_of end usual) n.side.station ≡ []
      → IsMatched (input_of end usual) None (sent_by (other end) (ways_after n.common.moments))
      → IsStep end (input_of end usual) None n next → next.common.trouble ≡ None
      → NearHolds end own far_pending ticks_made size n far s
      → HoldsThen end own far_pending ticks_made size next far s
  near_host own usual n next s occurs none is_matched h calm holds = record {
    both = host_step end (input_of end usual) own far_pending ticks_made n next far h none is_matched holds.both;
    turn = (order_kept w).steps end usual None n next s occurs h calm holds.at holds.turn;
    at = state_there end next.side.station s;
    size_is = ap length (step_facts end (input_of end usual) None n next h).samples ∙ holds.size_is;
  }

  near_same : (own : Option Sent) (n next : Near) (s : Stations) → next ≡ n
      → NearHolds end own far_pending ticks_made size n far s → HoldsThen end own far_pending ticks_made size next far s
  near_same own n next s same holds =
      subst (λ (x : Near). HoldsThen end own far_pending ticks_made size x far s) (sym same) (record {
        both = holds.both;
        turn = subst (SentInTurn n.common.moments) (sym (state_is end n.side.station s holds.at)) holds.turn;
        at = state_there end n.side.station s;
        size_is = holds.size_is;
      })
    where
      state_is : (e : End) (state : StationState) (st : Stations) → state ≡ state_of e st → with_state e state st ≡ st
      state_is A state st is = ap (λ x. with_state A x st) is
      state_is B state st is = ap (λ x. with_state B x st) is

  pub near_told :
      (own : Option Sent) (may : Bool) (event : HostEvent) (n next : Near) (s : Stations) → IsToldUsual end event
      → MatchBool may (IsStep end (FromHost event) None n next) (next ≡ n) → next.common.trouble ≡ None
      → NearHolds end own far_pending ticks_made size n far s → HoldsThen end own far_pending ticks_made size next far s
  near_told own true event n next s u h calm holds =
      near_host own u.usual n next s u.occurs (ap (λ input. sent_in_step input n.side.station) (sym u.is))
      (subst (λ input. IsMatched input None (sent_by (other end) (ways_after n.common.moments))) u.is refl)
      (subst (λ input. IsStep end input None n next) u.is h) calm holds
  near_told own false event n next s u h calm holds = near_same own n next s h holds

  pub near_given :
      (own : Option Sent) (accepts : Bool) (piece : Option (List ℕ)) (n next : Near) (s : Stations)
      → ((octets : List ℕ) → piece ≡ Some octets → length octets ≤ most_octets)
      → MatchBool accepts (IsGivenPiece end piece n next) (next ≡ n) → next.common.trouble ≡ None
      → NearHolds end own far_pending ticks_made size n far s → HoldsThen end own far_pending ticks_made size next far s
  near_given own true None n next s short h calm holds = near_same own n next s h holds
  near_given own true (Some piece) n next s short h calm holds =
      near_host own (gives piece) (with_giving piece n) next s (short piece refl) refl refl h calm
      (record {
        both = record {
          here = holds.both.here;
          there = holds.both.there;
          matched =
              holds.both.matched;
        };
        turn = holds.turn;
        at = holds.at;
        size_is = holds.size_is;
      })
  near_given own false piece n next s short h calm holds = near_same own n next s h holds

  pub near_clock :
      (busy : Bool) (n next : Near) (s : Stations) → IsStep end (OfClock busy) None n next → next.common.trouble ≡ None
      → NearHolds end None far_pending ticks_made size n far s
      → HoldsThen end (air_of busy n.side.station).sent far_pending ticks_made size next far s
      × (length (air_of busy n.side.station).samples ≡ 96)
  near_clock busy n next s h calm holds =
      let fits = subst (λ (x : StationState). Fits x.channel.air x.channel.waiting) (sym holds.at)
      (fits_at end (steps_in n.common.moments) s holds.turn.a holds.turn.b) in
      let sends = clock_sends busy n.side.station fits in (
        record {
          both = clock_step end busy far_pending ticks_made n next far h sends.soon holds.both;
          turn = (order_kept w).steps end (ticks busy) None n next s tt h calm holds.at holds.turn;
          at = state_there end next.side.station s;
          size_is = ap length (step_facts end (OfClock busy) None n next h).samples ∙ holds.size_is;
        },
        sends.long,
      )

  -- the frames that are heard
  order_there : (e : End) (n : Near) (s : Stations) → SentInTurn n.common.moments s
      → InOrder (other e) (steps_in n.common.moments) (state_of (other e) s)
  order_there A n s turn = turn.b
  order_there B n s turn = turn.a

  -- the frame of the number is in flight, and is one of those that were sent, or the one that is on its way
  is_taken :
      (own : Option Sent) (item : Candidate) (number : ℕ) (n : Near) (s : Stations)
      → 96 * ticks_made ≤ item.end + 7 → NearHolds end own far_pending ticks_made size n far s
      → (match_of item n.side ≡ Some number) ⊎ ((is_coming end item n ≡ true) × (number ≡ length n.side.towards))
      → (number ≤ length n.side.towards)
      × IsInFlight item.octets number (sent_by (other end) (ways_after n.common.moments))
  is_taken own item number n s late holds (inl found) =
      let m = match_is n.side.blocks item n.side.matched n.side.towards number found in
      let within = slice_get_within n.side.towards number m.sent m.is_there in (
        omega (arith, within),
        in_flight_there (other end) n.common.moments (state_of (other end) s) far_pending ticks_made n.side.towards
            n.side.matched (length n.side.samples) number item (order_there end n s holds.turn) holds.both.here late m,
      )
  is_taken own item number n s late holds (inr coming) =
      let way = sent_by (other end) (ways_after n.common.moments) in
      let few = nat_le n.side.matched (length n.side.towards) in
      let there = is_frame_of item.octets (slice_get way.queued (length n.side.towards)) in
      let tests = and_parts few there (and_parts n.side.blocks (few && there) coming.0).1 in
      let flies = coming_there far_pending _ way ticks_made n.side.towards n.side.matched (length n.side.samples)
      item.octets holds.both.here (leb-true n.side.matched (length n.side.towards) tests.0) tests.1 in (
        omega (arith, coming.1),
        subst (λ k. IsInFlight item.octets k way) (sym coming.1) flies,
      )

  near_item :
      (own : Option Sent) (item : Candidate) (o : Option ℕ) (n next : Near) (s : Stations) → number_of end item n ≡ o
      → 96 * ticks_made ≤ item.end + 7 → IsHeardAs end o item.octets n next → next.common.trouble ≡ None
      → NearHolds end own far_pending ticks_made size n far s → HoldsThen end own far_pending ticks_made size next far s
  near_item own item None n next s is late h calm holds =
      let stray : next.common.trouble ≡ (with_stray item.octets n).common.trouble = ap
      (λ (x : Near). x.common.trouble) h in
      absurd (cc)
  near_item own item (Some number) n next s is late h calm holds = record {
    both =
        let taken = is_taken own item number n s late holds
        (number_cases (is_coming end item n) (length n.side.towards) number (match_of item n.side) is) in
        heard_step end own far_pending ticks_made number item n next far h taken.0 taken.1 holds.both;
    turn = (order_kept w).steps end (hears item.octets) (Some number)
        (with_matched number n) next s tt h calm holds.at holds.turn;
    at = state_there end next.side.station s;
    size_is = ap length (step_facts end (OffAir item.octets) (Some number) (with_matched number n) next h).samples
        ∙ holds.size_is;
  }

  pub near_heard :
      (own : Option Sent) (items : List Candidate) (n next : Near) (s : Stations)
      → Each (λ (item : Candidate). 96 * ticks_made ≤ item.end + 7) items → AreHeardAt end items n next
      → next.common.trouble ≡ None
      → NearHolds end own far_pending ticks_made size n far s → HoldsThen end own far_pending ticks_made size next far s
  near_heard own [] n next s late h calm holds = near_same own n next s h holds
  near_heard own (item ∷ items) n next s late h calm holds =
      let on : (between : Near) × IsHeardAt end item n between × AreHeardAt end items between next =
      subst (λ t. GoesOn t ((between : Near) × IsHeardAt end item n between × AreHeardAt end items between next)
      (next ≡ n))
      (heard_calm end (item ∷ items) n next h calm) h in
      let one = near_item own item (number_of end item n) n on.0 s refl late.0 on.1
      (heard_calm end items on.0 next on.2 calm) holds in
      subst (NearHolds end own far_pending ticks_made size next far)
      (state_twice end on.0.side.station next.side.station s)
      (near_heard own items on.0 next (with_state end on.0.side.station s) late.1 on.2 calm one)

-- ---- the bench

-- The two stations, of which each may have sent a frame in this tick that the other has not been told of, and the
-- samples, to which this tick may have added its own.
pub record AtBench (sounded : ℕ) (pending_a pending_b : Option Sent) (bench : BenchState) : Type 0 where
  pub both : Both A pending_a pending_b bench.ticks bench.common.moments bench.a bench.b
  pub turn : SentInTurn bench.common.moments (stations_of bench)
  pub size_a : length bench.a.samples ≡ 96 * bench.ticks + sounded
  pub size_b : length bench.b.samples ≡ 96 * bench.ticks + sounded

module _ (sounded : ℕ) (pending_a pending_b : Option Sent) (before : BenchState)
    (holds : AtBench sounded pending_a pending_b before) where
  pub near_a : NearHolds A pending_a pending_b before.ticks (96 * before.ticks + sounded) (near A before) before.b
      (stations_of before)
  near_a = record { both = holds.both; turn = holds.turn; at = refl; size_is = holds.size_a }

  pub near_b : NearHolds B pending_b pending_a before.ticks (96 * before.ticks + sounded) (near B before) before.a
      (stations_of before)
  near_b = record {
    both = record { here = holds.both.there; there = holds.both.here; matched = holds.both.matched };
    turn = holds.turn;
    at = refl;
    size_is = holds.size_b;
  }

  pub from_a :
      (own : Option Sent) (next : Near) (after : BenchState) → after ≡ with_near A next before
      → HoldsThen A own pending_b before.ticks (96 * before.ticks + sounded) next before.b (stations_of before)
      → AtBench sounded own pending_b after
  from_a own next after is h =
      subst (AtBench sounded own pending_b) (sym is)
      (record { both = h.both; turn = h.turn; size_a = h.size_is; size_b = holds.size_b })

  pub from_b :
      (own : Option Sent) (next : Near) (after : BenchState) → after ≡ with_near B next before
      → HoldsThen B own pending_a before.ticks (96 * before.ticks + sounded) next before.a (stations_of before)
      → AtBench sounded pending_a own after
  from_b own next after is h =
      subst (AtBench sounded pending_a own) (sym is) (record {
        both = record { here = h.both.there; there = h.both.here; matched = h.both.matched };
        turn = h.turn;
        size_a = holds.size_a;
        size_b = h.size_is;
      })

-- what a part keeps at a station
pub part_at :
    (end : End) (sounded : ℕ) (pending_a pending_b : Option Sent) (part : Near → Near → Type 0)
    (before after : BenchState)
    → ((own far_pending : Option Sent) (size : ℕ) (n next : Near) (far : SideState) (s : Stations) → part n next
    → (n.side.samples ≡ (near end before).side.samples) → next.common.trouble ≡ None
    → NearHolds end own far_pending before.ticks size n far s
    → HoldsThen end own far_pending before.ticks size next far s)
    → AtEnd end part before after → IsCalm after → AtBench sounded pending_a pending_b before
    → AtBench sounded pending_a pending_b after
part_at A sounded pending_a pending_b part before after keep h calm holds =
    from_a sounded pending_a pending_b before holds pending_a h.next after h.is
    (keep pending_a pending_b (96 * before.ticks + sounded) (near A before) h.next before.b
    (stations_of before) h.step refl
    (sym (ap (λ (b : BenchState). b.common.trouble) h.is) ∙ calm) (near_a sounded pending_a pending_b before holds))
part_at B sounded pending_a pending_b part before after keep h calm holds =
    from_b sounded pending_a pending_b before holds pending_b h.next after h.is
    (keep pending_b pending_a (96 * before.ticks + sounded) (near B before) h.next before.a
    (stations_of before) h.step refl
    (sym (ap (λ (b : BenchState). b.common.trouble) h.is) ∙ calm) (near_b sounded pending_a pending_b before holds))
