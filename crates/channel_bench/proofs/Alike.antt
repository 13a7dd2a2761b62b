-- Two runs of the bench for the same words differ at most in the evidence that they note with their steps. States that
-- differ in nothing else are alike; what a step, the channel and the ear of a station make of alike states is alike.
use Rattle.channel_bench.proofs.Common.{◌≡◌, ◌↔◌, ℕ, Bool, true, false, IsTrue, MatchBool, List, [], ◌∷◌, Option}
use Rattle.channel_bench.proofs.Common.{Some, None, refl, sym, ap, ◌∙◌, subst, End, A, B, AtEnd, BenchState, Common}
use Rattle.channel_bench.proofs.Common.{Near, near, ways_of, with_near, AreHeardAt, GoesOn, IsHeardAs}
use Rattle.channel_bench.proofs.Common.{IsHeardAt, IsStep, first_unquiet, is_frame_of, match_of, number_of, or_coming}
use Rattle.channel_bench.proofs.Common.{there_after, told_pieces, trouble_of}
use Rattle.channel_bench.proofs.Common.{with_matched, with_stray, BothWays, Input, IsTurn, Steps, hearing_at, hears_ask}
use Rattle.channel_bench.proofs.Common.{nothing_sent, queueing_all, Candidate, StationState, Turn, begin, Trouble}
use Rattle.channel_bench.proofs.Common.{OffAir, SideState, ◌&&◌, length, nat_le, other, sent_by, slice_get}
use Rattle.station_laws.proofs.OneTurn.{one_turn_holds}
use Rattle.channel_bench.proofs.FlightLemmas.{moments_more}

-- ---- states without the steps that led to them

abbrev pub bare_common : Common → Common
bare_common common = record common { moments = [] }

abbrev pub bare_near : Near → Near
bare_near n = record n { common = bare_common n.common }

abbrev pub bare : BenchState → BenchState
bare bench = record bench { common = bare_common bench.common }

-- of the steps only what is in flight matters
pub record AreAlike (x y : BenchState) : Type 0 where
  pub states : bare x ≡ bare y
  pub ways : ways_of x.common ≡ ways_of y.common

pub record AreNearAlike (n m : Near) : Type 0 where
  pub states : bare_near n ≡ bare_near m
  pub ways : ways_of n.common ≡ ways_of m.common

pub alike_as : (x y u v : BenchState) → u ≡ x → v ≡ y → AreAlike x y → AreAlike u v
alike_as x y u v p q h = record {
  states = ap bare p ∙ h.states ∙ sym (ap bare q);
  ways = ap (λ (b : BenchState). ways_of b.common) p ∙ h.ways ∙ sym (ap (λ (b : BenchState). ways_of b.common) q);
}

pub near_as : (n m p q : Near) → p ≡ n → q ≡ m → AreNearAlike n m → AreNearAlike p q
near_as n m p q a b h = record {
  states = ap bare_near a ∙ h.states ∙ sym (ap bare_near b);
  ways = ap (λ (x : Near). ways_of x.common) a ∙ h.ways ∙ sym (ap (λ (x : Near). ways_of x.common) b);
}

-- a change that looks at no step
pub near_changed : (change : Near → Near) → ((n : Near) → bare_near (change n) ≡ change (bare_near n))
    → ((n : Near) → ways_of (change n).common ≡ ways_of n.common) → (n m : Near) → AreNearAlike n m
    → AreNearAlike (change n) (change m)
near_changed change same kept n m h = record {
  states = same n ∙ ap change h.states ∙ sym (same m);
  ways = kept n ∙ h.ways ∙ sym (kept m);
}

-- ---- one station of the two

near_alike : (end : End) (x y : BenchState) → AreAlike x y → AreNearAlike (near end x) (near end y)
near_alike A x y h = record { states = ap (λ (b : BenchState). near A b) h.states; ways = h.ways }
near_alike B x y h = record { states = ap (λ (b : BenchState). near B b) h.states; ways = h.ways }

with_near_alike : (end : End) (n m : Near) (x y : BenchState) → AreNearAlike n m → AreAlike x y
    → AreAlike (with_near end n x) (with_near end m y)
with_near_alike A n m x y h k = record {
  states = ap (λ (p : Near). with_near A p (bare x)) h.states
      ∙ ap (λ (b : BenchState). with_near A (bare_near m) b) k.states;
  ways = h.ways;
}
with_near_alike B n m x y h k = record {
  states = ap (λ (p : Near). with_near B p (bare x)) h.states
      ∙ ap (λ (b : BenchState). with_near B (bare_near m) b) k.states;
  ways = h.ways;
}

-- what comes to pass at one station has one outcome
abbrev pub HasOneOutcome : (Near → Near → Type 0) → Type 0
HasOneOutcome part = (n m p q : Near) → AreNearAlike n m → part n p → part m q → AreNearAlike p q

pub one_at_end : (end : End) (part : Near → Near → Type 0) (x y u v : BenchState) → HasOneOutcome part → AreAlike x y
    → AtEnd end part x u → AtEnd end part y v → AreAlike u v
one_at_end end part x y u v one h k l =
    alike_as (with_near end k.next x) (with_near end l.next y) u v k.is l.is
    (with_near_alike end k.next l.next x y
    (one (near end x) (near end y) k.next l.next (near_alike end x y h) k.step l.step) h)

-- ---- tests

-- a test has one answer
pub one_test : (P : Type 0) (a b : Bool) → (IsTrue a ↔ P) → (IsTrue b ↔ P) → a ≡ b
one_test P true true h g = refl
one_test P true false h g = sym (g.1 (h.0 refl))
one_test P false true h g = h.1 (g.0 refl)
one_test P false false h g = refl

-- what both do where the test has one answer
pub by_test : (T : Type 0) (a b : Bool) (Yes No Yes' No' : Type 0) → a ≡ b → (Yes → Yes' → T) → (No → No' → T)
    → MatchBool a Yes No → MatchBool b Yes' No' → T
by_test T true true Yes No Yes' No' same pass fail h g = pass h g
by_test T true false Yes No Yes' No' same pass fail h g = absurd (cc)
by_test T false true Yes No Yes' No' same pass fail h g = absurd (cc)
by_test T false false Yes No Yes' No' same pass fail h g = fail h g

-- and where something has ended both runs or neither
pub by_trouble : (T : Type 0) (a b : Option Trouble) (On Over On' Over' : Type 0) → a ≡ b → (On → On' → T)
    → (Over → Over' → T) → GoesOn a On Over → GoesOn b On' Over' → T
by_trouble T None None On Over On' Over' same on over h g = on h g
by_trouble T None (Some t) On Over On' Over' same on over h g = absurd (cc)
by_trouble T (Some t) None On Over On' Over' same on over h g = absurd (cc)
by_trouble T (Some t) (Some u) On Over On' Over' same on over h g = over h g

-- ---- a step

-- what a turn makes of a station and of what is in flight
abbrev turned : End → Input → Option ℕ → Turn → BothWays → Near → Near
turned end input matched turn ways n = record {
  side = told_pieces turn.out.pieces
      (record n.side { station = turn.now; there = there_after input turn.out.closed n.side.there });
  common = record n.common {
    trouble = trouble_of
        (first_unquiet end (hears_ask input) turn.out.queued (hearing_at end matched ways));
  };
}

abbrev turned_ways : End → Input → Option ℕ → Turn → BothWays → BothWays
turned_ways end input matched turn ways =
    queueing_all end (hears_ask input) turn.out.queued (hearing_at end matched ways)

record Turned (end : End) (input : Input) (matched : Option ℕ) (turn : Turn) (before after : Near) : Type 0 where
  state : bare_near after ≡ turned end input matched turn (ways_of before.common) (bare_near before)
  ways : ways_of after.common ≡ turned_ways end input matched turn (ways_of before.common)

step_turned : (end : End) (input : Input) (matched : Option ℕ) (n p : Near) (h : IsStep end input matched n p)
    → Turned end input matched h.turn n p
step_turned end input matched n p h = record {
  state = ap bare_near h.is;
  ways = ap (λ (x : Near). ways_of x.common) h.is
      ∙ moments_more n.common.moments
      (Steps
      (record {
        station = end;
        input = input;
        before = n.side.station;
        after = h.turn;
        turn = h.makes;
        octets = h.octets;
      })
      matched) nothing_sent;
}

pub one_step : (end : End) (input : Input) (matched : Option ℕ) → HasOneOutcome (IsStep end input matched)
one_step end input matched n m p q alike h g =
    let station : n.side.station ≡ m.side.station = ap (λ (x : Near). x.side.station) alike.states in
    let turn : h.turn ≡ g.turn = one_turn_holds input (begin m.side.station) h.turn g.turn
    (subst (λ (s : StationState). IsTurn input (begin s) h.turn) station h.makes) g.makes in
    let k = step_turned end input matched n p h in
    let l = step_turned end input matched m q g in
    record {
      states = k.state
          ∙ ap (λ (x : Near). turned end input matched h.turn (ways_of n.common) x) alike.states
          ∙ ap (λ (ways : BothWays). turned end input matched h.turn ways (bare_near m)) alike.ways
          ∙ ap (λ (t : Turn). turned end input matched t (ways_of m.common) (bare_near m)) turn ∙ sym l.state;
      ways = k.ways
          ∙ ap (λ (ways : BothWays). turned_ways end input matched h.turn ways) alike.ways
          ∙ ap (λ (t : Turn). turned_ways end input matched t (ways_of m.common)) turn ∙ sym l.ways;
    }

-- ---- frames that are heard

one_heard_as : (end : End) (matched : Option ℕ) (octets : List ℕ) → HasOneOutcome (IsHeardAs end matched octets)
one_heard_as end None octets n m p q alike h g =
    near_as (with_stray octets n) (with_stray octets m) p q h g
    (near_changed (with_stray octets) (λ x. refl) (λ x. refl) n m alike)
one_heard_as end (Some number) octets n m p q alike h g =
    one_step end (OffAir octets) (Some number) (with_matched number n) (with_matched number m) p q
    (near_changed (with_matched number) (λ x. refl) (λ x. refl) n m alike) h g

-- the number of the frame that a heard one is, by the side and by what both stations have queued
abbrev numbered : End → Candidate → SideState → BothWays → Option ℕ
numbered end item side ways =
    or_coming (side.blocks && (nat_le side.matched (length side.towards)
    && is_frame_of item.octets (slice_get (sent_by (other end) ways).queued (length side.towards))))
    (length side.towards) (match_of item side)

one_heard_at : (end : End) (item : Candidate) → HasOneOutcome (IsHeardAt end item)
one_heard_at end item n m p q alike h g =
    let same : number_of end item n ≡ number_of end item m =
    ap (λ (x : Near). numbered end item x.side (ways_of n.common)) alike.states
    ∙ ap (λ (ways : BothWays). numbered end item m.side ways) alike.ways in
    one_heard_as end (number_of end item m) item.octets n m p q alike
    (subst (λ (matched : Option ℕ). IsHeardAs end matched item.octets n p) same h) g

pub one_hearing : (end : End) (items : List Candidate) → HasOneOutcome (AreHeardAt end items)
one_hearing end [] n m p q alike h g = near_as n m p q h g alike
one_hearing end (item ∷ items) n m p q alike h g =
    by_trouble (AreNearAlike p q) n.common.trouble m.common.trouble (Heard n p) (p ≡ n) (Heard m q) (q ≡ m)
    (ap (λ (x : Near). x.common.trouble) alike.states)
    (λ k l. one_hearing end items k.0 l.0 p q (one_heard_at end item n m k.0 l.0 alike k.1 l.1) k.2 l.2)
    (λ k l. near_as n m p q k l alike) h g
  where
    Heard : Near → Near → Type 0
    Heard before after =
        (between : Near) × IsHeardAt end item before between × AreHeardAt end items between after
