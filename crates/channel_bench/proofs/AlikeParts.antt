-- Each part of a tick of the bench makes alike states of alike states.
use Rattle.channel_bench.proofs.Common.{◌≡◌, ℕ, ◌+◌, ◌-◌, Bool, true, false, IsTrue, ◌↔◌, MatchBool, cond, List, [], ◌∷◌, length}
use Rattle.channel_bench.proofs.Common.{Option, Some, None, refl, sym, ap, ◌∙◌, subst, ℤ, End, A, B, AtEnd, BenchState}
use Rattle.channel_bench.proofs.Common.{BenchWords, Near, SideState, near, ways_of, with_near, AreHeardAt, IsStep}
use Rattle.channel_bench.proofs.Common.{IsTicking, IsTold, MayCome, IsTick, AcceptsProgram, ArePartsMade, AreReady, HearsStation}
use Rattle.channel_bench.proofs.Common.{IsAsked, IsAskedOrCalled, IsCalled, IsGiven, IsGivenPiece, IsListening, IsPart}
use Rattle.channel_bench.proofs.Common.{Part, Says, is_complete, parts_of, with_asking, with_calling, with_giving}
use Rattle.channel_bench.proofs.Common.{AsksOrCalls, Closes, Gives, Listens, Sounds, Tells, Ticks, connect_octets}
use Rattle.channel_bench.proofs.Common.{data_octets, disconnect_octets, next_piece, program_id, carried, is_lost}
use Rattle.channel_bench.proofs.Common.{passed_below, sounding, ticked, with_loss, with_losses, with_transmission}
use Rattle.channel_bench.proofs.Common.{text_at, Candidate, BothWays, Passes, after_moment, nothing_sent}
use Rattle.channel_bench.proofs.Common.{FromHost, OfClock, air_of, HostEvent, mark_of}
use Rattle.channel_bench.specs.Sounding.{tick_samples}
use Rattle.channel_access.specs.declared.air_tick.AirTick.{AirTick}
use Rattle.frame_merge.specs.Merged.{between, merged}
use Rattle.channel_bench.proofs.BlockEarLemmas.{one_ready_in_blocks}
use Rattle.slicer_bank.proofs.OneList.{one_list}
use Rattle.station.specs.declared.host_event.HostEvent.TheVariants.{Bytes}
use Rattle.channel_bench.proofs.Alike.{AreAlike, AreNearAlike, HasOneOutcome, alike_as, bare, bare_near, by_test}
use Rattle.channel_bench.proofs.Alike.{by_trouble, near_as, near_changed, one_at_end, one_hearing, one_step, one_test}
use Rattle.channel_bench.proofs.FlightLemmas.{moments_two}

side_same : (n m : Near) → AreNearAlike n m → n.side ≡ m.side
side_same n m h = ap (λ (x : Near). x.side) h.states

-- ---- hosts

one_told : (end : End) (event : HostEvent) → HasOneOutcome (IsTold end event)
one_told end event n m p q alike h g =
    by_test (AreNearAlike p q) h.may g.may (IsStep end (FromHost event) None n p) (p ≡ n)
    (IsStep end (FromHost event) None m q) (q ≡ m)
    (one_test (MayCome event m.side) h.may g.may
    (subst (λ (side : SideState). IsTrue h.may ↔ MayCome event side) (side_same n m alike) h.exactly) g.exactly)
    (λ k l. one_step end (FromHost event) None n m p q alike k l)
    (λ k l. near_as n m p q k l alike) h.told g.told

one_given_piece : (end : End) (piece : Option (List ℕ)) → HasOneOutcome (IsGivenPiece end piece)
one_given_piece end None n m p q alike h g = near_as n m p q h g alike
one_given_piece end (Some piece) n m p q alike h g =
    one_step end (FromHost (Bytes program_id (data_octets end piece))) None (with_giving piece n) (with_giving piece m)
    p q (near_changed (with_giving piece) (λ x. refl) (λ x. refl) n m alike) h g

one_given : (w : BenchWords) (end : End) → HasOneOutcome (IsGiven w end)
one_given w end n m p q alike h g =
    by_test (AreNearAlike p q) h.accepts g.accepts (IsGivenPiece end (piece_of n.side) n p) (p ≡ n)
    (IsGivenPiece end (piece_of m.side) m q) (q ≡ m)
    (one_test (AcceptsProgram m.side) h.accepts g.accepts
    (subst (λ (side : SideState). IsTrue h.accepts ↔ AcceptsProgram side) same h.exactly) g.exactly)
    (λ k l. one_given_piece end (piece_of m.side) n m p q alike
    (subst (λ (piece : Option (List ℕ)). IsGivenPiece end piece n p) (ap piece_of same) k) l)
    (λ k l. near_as n m p q k l alike) h.given g.given
  where
    same : n.side ≡ m.side
    same = side_same n m alike

    piece_of : SideState → Option (List ℕ)
    piece_of side = next_piece (text_at w end) side.program.running

-- A says something once its program knows it
one_saying : (octets : List ℕ) (change : BenchState → BenchState) (x y u v : BenchState)
    → ((b : BenchState) → bare (change b) ≡ change (bare b))
    → ((b : BenchState) → ways_of (change b).common ≡ ways_of b.common) → AreAlike x y
    → AtEnd A (Says A octets) (change x) u → AtEnd A (Says A octets) (change y) v → AreAlike u v
one_saying octets change x y u v same kept alike h g =
    one_at_end A (Says A octets) (change x) (change y) u v (one_step A (FromHost (Bytes program_id octets)) None)
    (record {
      states = same x ∙ ap change alike.states ∙ sym (same y);
      ways = kept x ∙ alike.ways ∙ sym (kept y);
    }) h g

one_asked_or_called : (w : BenchWords) (x y u v : BenchState) → AreAlike x y → IsAskedOrCalled w x u
    → IsAskedOrCalled w y v → AreAlike u v
one_asked_or_called w x y u v alike h g =
    by_test (AreAlike u v) h.accepts g.accepts (Sends x u) (u ≡ x) (Sends y v) (v ≡ y)
    (one_test (AcceptsProgram y.a) h.accepts g.accepts
    (subst (λ (side : SideState). IsTrue h.accepts ↔ AcceptsProgram side)
    (ap (λ (b : BenchState). b.a) alike.states) h.exactly) g.exactly)
    (λ k l. by_test (AreAlike u v) (is_complete w x) (is_complete w y) (IsAsked x u) (Calls x u) (IsAsked y v)
    (Calls y v) (ap (λ (b : BenchState). is_complete w b) alike.states)
    (λ i j. one_saying (disconnect_octets A) with_asking x y u v (λ b. refl) (λ b. refl) alike i j)
    (λ i j. by_test (AreAlike u v) x.a.program.calls y.a.program.calls (IsCalled x u) (u ≡ x) (IsCalled y v) (v ≡ y)
    (ap (λ (b : BenchState). b.a.program.calls) alike.states)
    (λ c d. one_saying (connect_octets A) with_calling x y u v (λ b. refl) (λ b. refl) alike c d)
    (λ c d. alike_as x y u v c d alike) i j) k l) (λ k l. alike_as x y u v k l alike) h.sent g.sent
  where
    Calls : BenchState → BenchState → Type 0
    Calls before after = MatchBool before.a.program.calls (IsCalled before after) (after ≡ before)

    Sends : BenchState → BenchState → Type 0
    Sends before after = MatchBool (is_complete w before) (IsAsked before after) (Calls before after)

-- ---- stations

-- what the station sends in a tick
abbrev with_air : AirTick → Near → Near
with_air air n = record n { side = record n.side { air = air } }

one_ticking : (end : End) → HasOneOutcome (IsTicking end)
one_ticking end n m p q alike h g =
    let same = side_same n m alike in
    let busy : h.busy ≡ g.busy = one_test (HearsStation m.side.blocks m.side.samples) h.busy g.busy
    (subst (λ (side : SideState). IsTrue h.busy ↔ HearsStation side.blocks side.samples) same h.carrier) g.carrier in
    let air : air_of h.busy n.side.station ≡ air_of g.busy m.side.station =
    ap (λ (b : Bool). air_of b n.side.station) busy ∙ ap (λ (side : SideState). air_of g.busy side.station) same in
    let next : AreNearAlike h.next g.next = one_step end (OfClock g.busy) None n m h.next g.next alike
    (subst (λ (b : Bool). IsStep end (OfClock b) None n h.next) busy h.step) g.step in
    near_as (with_air (air_of g.busy m.side.station) h.next) (with_air (air_of g.busy m.side.station) g.next) p q
    (h.is ∙ ap (λ (a : AirTick). with_air a h.next) air) g.is
    (near_changed (with_air (air_of g.busy m.side.station)) (λ x. refl) (λ x. refl) h.next g.next next)

-- the frames that are ready are one list
one_ready : (blocks : Bool) (samples : List ℤ) (items others : List Candidate) → AreReady blocks samples items
    → AreReady blocks samples others → items ≡ others
one_ready true samples items others h g = one_ready_in_blocks samples items others h g
one_ready false samples items others h g =
    h.is
    ∙ ap (λ (found : List Candidate). between (length samples - (tick_samples + 7)) (mark_of samples) (merged found))
    (one_list samples h.candidates g.candidates h.are g.are) ∙ sym g.is

one_listening : (end : End) → HasOneOutcome (IsListening end)
one_listening end n m p q alike h g =
    let items : h.items ≡ g.items = one_ready m.side.blocks m.side.samples h.items g.items
    (subst (λ (side : SideState). AreReady side.blocks side.samples h.items) (side_same n m alike) h.ready) g.ready in
    one_hearing end g.items n m p q alike
    (subst (λ (all : List Candidate). AreHeardAt end all n p) items h.heard) g.heard

-- ---- the channel

loss_bare : (loss : ℕ) (n : Near) → bare_near (with_loss loss n) ≡ with_loss loss (bare_near n)
unfolding with_loss
loss_bare loss n = go n.side.air.began
  where
    lossy : Near → Near
    lossy x = with_transmission (is_lost loss x.common.draws) x

    go : (began : Bool) → bare_near (cond began (lossy n) n) ≡ cond began (lossy (bare_near n)) (bare_near n)
    go true = refl
    go false = refl

loss_ways : (loss : ℕ) (n : Near) → ways_of (with_loss loss n).common ≡ ways_of n.common
unfolding with_loss
loss_ways loss n = go n.side.air.began
  where
    go : (began : Bool)
        → ways_of (cond began (with_transmission (is_lost loss n.common.draws) n) n).common ≡ ways_of n.common
    go true = refl
    go false = refl

-- the transmissions of one station
abbrev at_a : ℕ → BenchState → BenchState
at_a loss bench = with_near A (with_loss loss (near A bench)) bench

abbrev at_b : ℕ → BenchState → BenchState
at_b loss bench = with_near B (with_loss loss (near B bench)) bench

one_sounding : (w : BenchWords) (x y : BenchState) → AreAlike x y → AreAlike (sounding w x) (sounding w y)
unfolding sounding with_losses carried
one_sounding w x y h = record {
  states = ap (carried w) (lossy_bare x) ∙ ap (λ (b : BenchState). carried w (at_b w.loss (at_a w.loss b))) h.states
      ∙ sym (ap (carried w) (lossy_bare y));
  ways = lossy_ways x ∙ h.ways ∙ sym (lossy_ways y);
}
  where
    lossy_bare : (b : BenchState) → bare (at_b w.loss (at_a w.loss b)) ≡ at_b w.loss (at_a w.loss (bare b))
    lossy_bare b =
        let first = at_a w.loss b in
        ap (λ (n : Near). with_near B n (bare first)) (loss_bare w.loss (near B first))
        ∙ ap (at_b w.loss) (ap (λ (n : Near). with_near A n (bare b)) (loss_bare w.loss (near A b)))

    lossy_ways : (b : BenchState) → ways_of (at_b w.loss (at_a w.loss b)).common ≡ ways_of b.common
    lossy_ways b = loss_ways w.loss (near B (at_a w.loss b)) ∙ loss_ways w.loss (near A b)

-- the end of a tick
one_closing : (x y : BenchState) → AreAlike x y → AreAlike (ticked x) (ticked y)
unfolding ticked
one_closing x y h = record {
  states = ap (λ (b : BenchState). record b { ticks = b.ticks + 1 }) h.states;
  ways = moments_two x.common.moments (Passes A (passed_below x.b)) (Passes B (passed_below x.a)) nothing_sent
      ∙ ap (λ (ways : BothWays). passed x ways) h.ways
      ∙ ap (λ (b : BenchState). passed b (ways_of y.common)) h.states
      ∙ sym (moments_two y.common.moments (Passes A (passed_below y.b)) (Passes B (passed_below y.a)) nothing_sent);
}
  where
    passed : BenchState → BothWays → BothWays
    passed b ways = after_moment (Passes B (passed_below b.a)) (after_moment (Passes A (passed_below b.b)) ways)

-- ---- each part, and a tick

one_part : (w : BenchWords) (part : Part) (x y u v : BenchState) → AreAlike x y → IsPart w part x u → IsPart w part y v
    → AreAlike u v
one_part w (Tells end event) x y u v alike h g =
    one_at_end end (IsTold end event) x y u v (one_told end event) alike h g
one_part w (Gives end) x y u v alike h g = one_at_end end (IsGiven w end) x y u v (one_given w end) alike h g
one_part w AsksOrCalls x y u v alike h g = one_asked_or_called w x y u v alike h g
one_part w (Ticks end) x y u v alike h g = one_at_end end (IsTicking end) x y u v (one_ticking end) alike h g
one_part w Sounds x y u v alike h g = alike_as (sounding w x) (sounding w y) u v h g (one_sounding w x y alike)
one_part w (Listens end) x y u v alike h g = one_at_end end (IsListening end) x y u v (one_listening end) alike h g
one_part w Closes x y u v alike h g = alike_as (ticked x) (ticked y) u v h g (one_closing x y alike)

one_by_parts : (w : BenchWords) (parts : List Part) (x y u v : BenchState) → AreAlike x y → ArePartsMade w parts x u
    → ArePartsMade w parts y v → AreAlike u v
one_by_parts w [] x y u v alike h g = alike_as x y u v h g alike
one_by_parts w (part ∷ parts) x y u v alike h g =
    by_trouble (AreAlike u v) x.common.trouble y.common.trouble (Made x u) (u ≡ x) (Made y v) (v ≡ y)
    (ap (λ (b : BenchState). b.common.trouble) alike.states)
    (λ k l. one_by_parts w parts k.0 l.0 u v (one_part w part x y k.0 l.0 alike k.1 l.1) k.2 l.2)
    (λ k l. alike_as x y u v k l alike) h g
  where
    Made : BenchState → BenchState → Type 0
    Made before after =
        (next : BenchState) × IsPart w part before next × ArePartsMade w parts next after

pub one_tick : (w : BenchWords) (x y u v : BenchState) → AreAlike x y → IsTick w x u → IsTick w y v → AreAlike u v
unfolding IsTick
one_tick w x y u v alike h g =
    one_by_parts w (parts_of w y.ticks) x y u v alike
    (subst (λ (tick : ℕ). ArePartsMade w (parts_of w tick) x u) (ap (λ (b : BenchState). b.ticks) alike.states) h) g
