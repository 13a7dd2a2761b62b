-- In a run of the bench each heard frame was in flight: part by part, tick by tick.
use Rattle.channel_bench.proofs.Common.{◌≡◌, ℕ, zero, suc, ◌+◌, ◌-◌, ◌*◌, ◌≤◌, max, ◌==◌, ◌&&◌, nat_lt, nat_le, Bool}
use Rattle.channel_bench.proofs.Common.{true, false, ℤ, List, [], ◌∷◌, ◌++◌, length, map, cond, Option, None, refl, sym}
use Rattle.channel_bench.proofs.Common.{ap, ◌∙◌, subst, arith, length-append, MatchBool, leb-true, append_assoc}
use Rattle.channel_bench.proofs.Common.{length-map, Sent, Candidate, merged, End, A, B, each_append, each_weaker}
use Rattle.channel_bench.proofs.Common.{HostEvent, StationState, air_of, SentAt, BenchWords, stations_of, AreTicks}
use Rattle.channel_bench.proofs.Common.{AtEnd, BenchState, Near, SideState, near, new_bench, with_near, IsTicking}
use Rattle.channel_bench.proofs.Common.{IsTold, ArePartsMade, IsAsked, IsAskedOrCalled, IsCalled, IsGiven}
use Rattle.channel_bench.proofs.Common.{IsListening, IsPart, IsTick, Part, beginning, each_tick, is_complete, joins}
use Rattle.channel_bench.proofs.Common.{sets_duplex, sets_full_duplex, with_asking, with_calling, Tells, Gives}
use Rattle.channel_bench.proofs.Common.{AsksOrCalls, Ticks, Sounds, Listens, Closes, next_piece, AreMatched, BothWays}
use Rattle.channel_bench.proofs.Common.{IsMatchedIn, LinkFrame, Moment, after_moment, nothing_sent, sent_by, steps_in}
use Rattle.channel_bench.proofs.Common.{Passes, passed_below, sent_in, sounding, ticked, text_at, AreReady}
use Rattle.channel_bench.proofs.Common.{◌<◌, ◌⊎◌, inl, inr, cases_lt}
use Rattle.std.specs.List.{AllByRecursion as Each, filter}
use Rattle.channel_bench.proofs.ChannelOrder.{octets_of}
use Rattle.channel_bench.proofs.CoreRun.{IsToldUsual, piece_short, told_as}
use Rattle.channel_bench.proofs.CoreRun.Usual.{joins_kiss, sets_full, joins_program, registers, connects, disconnects}
use Rattle.channel_bench.proofs.InTime.{WayHolds, matched_more, queued_is, way_closed, way_same, way_sounded}
use Rattle.channel_bench.proofs.InTime.{ways_after}
use Rattle.channel_bench.proofs.NotedRun.{steps_passed}
use Rattle.channel_bench.proofs.RunOfParts.{IsCalm, parted}
use Rattle.channel_bench.proofs.SentInOrder.{InOrder, SentInTurn, order_kept, sent_at}
use Rattle.channel_bench.proofs.Sounded.{sounded}
use Rattle.channel_bench.proofs.TimedSteps.{AtBench, from_a, from_b, near_a, near_b, near_clock, near_given, near_heard}
use Rattle.channel_bench.proofs.TimedSteps.{near_host, near_told, part_at, HoldsThen}
use Rattle.channel_bench.proofs.TowardsLemmas.{counted_within, each_passes, none_counted, octets_at}
use Rattle.channel_bench.proofs.BlockEarLemmas.{ready_late}
use Rattle.channel_bench.proofs.FlightLemmas.{moments_more}
use Rattle.channel_bench.proofs.FrontLemmas.{front_of, fronts_within}

-- nothing is pending, and the samples of this tick are not there yet
abbrev pub AtRest : BenchState → Type 0
AtRest bench = AtBench 0 None None bench

-- ---- hosts

tells_kept :
    (w : BenchWords) (end : End) (event : HostEvent) (before after : BenchState) → IsToldUsual end event
    → AtEnd end (IsTold end event) before after
    → IsCalm after → AtRest before → AtRest after
tells_kept w end event before after usual h calm holds =
    part_at end 0 None None (IsTold end event) before after
    (λ own far_pending size n next far s part samples c at.
    near_told w end before.ticks size far far_pending own part.may event n next s usual part.told c at) h calm holds

gives_kept : (w : BenchWords) (end : End) (before after : BenchState) → AtEnd end (IsGiven w end) before after
    → IsCalm after → AtRest before → AtRest after
gives_kept w end before after h calm holds =
    part_at end 0 None None (IsGiven w end) before after
    (λ own far_pending size n next far s part samples c at.
    near_given w end before.ticks size far far_pending own part.accepts
    (next_piece (text_at w end) n.side.program.running) n next s
    (λ octets is. piece_short (text_at w end) n.side.program.running octets is) part.given c at) h calm holds

asking_rest : (before : BenchState) → AtRest before → AtRest (with_asking before)
asking_rest before h = record {
  both = record { here = h.both.here; there = h.both.there; matched = h.both.matched };
  turn = h.turn;
  size_a = h.size_a;
  size_b = h.size_b;
}

calling_rest : (before : BenchState) → AtRest before → AtRest (with_calling before)
calling_rest before h = record {
  both = record { here = h.both.here; there = h.both.there; matched = h.both.matched };
  turn = h.turn;
  size_a = h.size_a;
  size_b = h.size_b;
}

asked_kept :
    (w : BenchWords) (complete : Bool) (before after : BenchState)
    → MatchBool complete (IsAsked before after) (MatchBool before.a.program.calls (IsCalled before after)
    (after ≡ before)) → IsCalm after
    → AtRest before → AtRest after
asked_kept w true before after h calm holds =
    part_at A 0 None None _ (with_asking before) after
    (λ own far_pending size n next far s part samples c at. near_host w A before.ticks size far far_pending
    own disconnects n next s tt refl refl part c at)
    h calm (asking_rest before holds)
asked_kept w false before after h calm holds = go before.a.program.calls h
  where
    go : (b : Bool) → MatchBool b (IsCalled before after) (after ≡ before) → AtRest after
    go true is =
        part_at A 0 None None _ (with_calling before) after
        (λ own far_pending size n next far s part samples c at. near_host w A before.ticks size far far_pending
        own connects n next s tt refl refl part c at)
        is calm (calling_rest before holds)
    go false is = subst AtRest (sym is) holds

asks_kept_here : (w : BenchWords) (before after : BenchState) → IsAskedOrCalled w before after → IsCalm after
    → AtRest before → AtRest after
asks_kept_here w before after h calm holds = go h.accepts h.sent
  where
    go : (b : Bool) → MatchBool b (MatchBool (is_complete w before) (IsAsked before after)
        (MatchBool before.a.program.calls (IsCalled before after) (after ≡ before))) (after ≡ before)
        → AtRest after
    go true is = asked_kept w (is_complete w before) before after is calm holds
    go false is = subst AtRest (sym is) holds

-- ---- the stations tick

record Ticked (pending_b : Option Sent) (after : BenchState) : Type 0 where
  holds : AtBench 0 after.a.air.sent pending_b after
  long : length after.a.air.samples ≡ 96

a_ticks : (w : BenchWords) (before after : BenchState) → AtEnd A (IsTicking A) before after → IsCalm after
    → AtRest before → Ticked None after
a_ticks w before after h calm holds =
    let part = h.step in
    let c : part.next.common.trouble ≡ None = sym (ap (λ (n : Near). n.common.trouble) part.is)
    ∙ sym (ap (λ (b : BenchState). b.common.trouble) h.is) ∙ calm in
    let ticked_near = near_clock w A before.ticks (96 * before.ticks + 0) before.b None part.busy
    (near A before) part.next (stations_of before) part.step c
    (near_a 0 None None before holds) in
    let next : Near = record part.next { side = record part.next.side { air = air_of part.busy before.a.station } } in
    let then : HoldsThen A next.side.air.sent None before.ticks (96 * before.ticks + 0) next before.b
    (stations_of before) = record {
      both = record {
        here = ticked_near.0.both.here;
        there = ticked_near.0.both.there;
        matched =
            ticked_near.0.both.matched;
      };
      turn = ticked_near.0.turn;
      at = ticked_near.0.at;
      size_is = ticked_near.0.size_is;
    } in
    let is : after ≡ with_near A next before = h.is ∙ ap (λ (n : Near). with_near A n before) part.is in
    subst (Ticked None) (sym is) (record {
      holds = from_a 0 None None before holds next.side.air.sent next (with_near A next before) refl then;
      long = ticked_near.1;
    })

record BothTicked (after : BenchState) : Type 0 where
  holds : AtBench 0 after.a.air.sent after.b.air.sent after
  long_a : length after.a.air.samples ≡ 96
  long_b : length after.b.air.samples ≡ 96

b_ticks : (w : BenchWords) (before after : BenchState) → AtEnd B (IsTicking B) before after → IsCalm after
    → Ticked None before → BothTicked after
b_ticks w before after h calm ticked_a =
    let part = h.step in
    let pending = before.a.air.sent in
    let c : part.next.common.trouble ≡ None = sym (ap (λ (n : Near). n.common.trouble) part.is)
    ∙ sym (ap (λ (b : BenchState). b.common.trouble) h.is) ∙ calm in
    let ticked_near = near_clock w B before.ticks (96 * before.ticks + 0) before.a pending part.busy
    (near B before) part.next (stations_of before) part.step c
    (near_b 0 pending None before ticked_a.holds) in
    let next : Near = record part.next { side = record part.next.side { air = air_of part.busy before.b.station } } in
    let then : HoldsThen B next.side.air.sent pending before.ticks (96 * before.ticks + 0) next before.a
    (stations_of before) = record {
      both = record {
        here = ticked_near.0.both.here;
        there = ticked_near.0.both.there;
        matched =
            ticked_near.0.both.matched;
      };
      turn = ticked_near.0.turn;
      at = ticked_near.0.at;
      size_is = ticked_near.0.size_is;
    } in
    let is : after ≡ with_near B next before = h.is ∙ ap (λ (n : Near). with_near B n before) part.is in
    subst BothTicked (sym is) (record {
      holds = from_b 0 pending None before ticked_a.holds next.side.air.sent next (with_near B next before) refl then;
      long_a = ticked_a.long;
      long_b = ticked_near.1;
    })

-- ---- what both send reaches them

sounds_kept : (w : BenchWords) (before : BenchState) → BothTicked before → AtBench 96 None None (sounding w before)
sounds_kept w before h =
    let s = sounded w before in
    let sizes = s.long h.long_a h.long_b in
    let rest = h.holds in
    let more_a : length (before.a.samples ++ s.to_a) ≡ length before.a.samples + 96 =
    length-append before.a.samples s.to_a ∙ ap (λ n. length before.a.samples + n) sizes.0 in
    let more_b : length (before.b.samples ++ s.to_b) ≡ length before.b.samples + 96 =
    length-append before.b.samples s.to_b ∙ ap (λ n. length before.b.samples + n) sizes.1 in
    let now_a : length before.a.samples ≡ 96 * before.ticks = let is = rest.size_a in omega (arith, is) in
    let now_b : length before.b.samples ≡ 96 * before.ticks = let is = rest.size_b in omega (arith, is) in
    subst (AtBench 96 None None) (sym s.is) (record {
      both = record {
        here = way_sounded before.b.air.sent _ _ before.ticks before.a.towards before.a.matched
            (length before.a.samples)
            (sent_in before.ticks before.b.air.sent)
            (length (before.a.samples ++ s.to_a)) now_a more_a refl rest.both.here;
        there = way_sounded before.a.air.sent _ _ before.ticks before.b.towards before.b.matched
            (length before.b.samples)
            (sent_in before.ticks before.a.air.sent)
            (length (before.b.samples ++ s.to_b)) now_b more_b refl rest.both.there;
        matched = rest.both.matched;
      };
      turn = rest.turn;
      size_a = omega (arith, more_a, now_a);
      size_b = omega (arith, more_b, now_b);
    })

-- ---- what is heard

late_items :
    (blocks : Bool) (samples : List ℤ) (ticks : ℕ) (items : List Candidate) → length samples ≡ 96 * ticks + 96
    → AreReady blocks samples items → Each (λ (item : Candidate). 96 * ticks ≤ item.end + 7) items
late_items true samples ticks items size ready = ready_late samples ticks items size ready
late_items false samples ticks items size ready =
    let from = length samples - (96 + 7) in
    let to = length samples - 7 in
    let test : Candidate → Bool = λ item. nat_le from item.end && nat_lt item.end to in
    subst (Each (λ (item : Candidate). 96 * ticks ≤ item.end + 7)) (sym ready.is)
    (each_weaker (λ item. test item ≡ true) (λ (item : Candidate). 96 * ticks ≤ item.end + 7)
    (λ item passes. let above = leb-true from item.end
    (first (nat_le from item.end) (nat_lt item.end to) passes) in omega (arith, above, size))
    (filter test (merged ready.candidates)) (each_passes test (merged ready.candidates)))
  where
    first : (a b : Bool) → (a && b) ≡ true → a ≡ true
    first true b is = refl
    first false b is = absurd (cc)

size_at : (end : End) (bench : BenchState) → AtBench 96 None None bench
    → length (near end bench).side.samples ≡ 96 * bench.ticks + 96
size_at A bench h = h.size_a
size_at B bench h = h.size_b

listens_kept :
    (w : BenchWords) (end : End) (before after : BenchState) → AtEnd end (IsListening end) before after → IsCalm after
    → AtBench 96 None None before → AtBench 96 None None after
listens_kept w end before after h calm holds =
    part_at end 96 None None (IsListening end) before after
    (λ own far_pending size n next far s part samples c at.
    near_heard w end before.ticks size far far_pending own part.items n next s
    (late_items n.side.blocks n.side.samples before.ticks part.items
    (ap length samples ∙ size_at end before holds) part.ready) part.heard c at) h calm holds

-- ---- the tick ends

ticks_more : (n : ℕ) → 96 * n + 96 ≡ 96 * (n + 1) + 0
ticks_more n = omega arith

closes_kept : (w : BenchWords) (before : BenchState) → AtBench 96 None None before → AtRest (ticked before)
unfolding ticked
closes_kept w before holds =
    let s = stations_of before in
    let moments = before.common.moments in
    let below_b = passed_below before.b in
    let below_a = passed_below before.a in
    let pass_a = Passes A below_b in
    let pass_b = Passes B below_a in
    let ways = ways_after moments in
    let both = holds.both in
    let fronts = fronts_within moments both.matched in
    let split : (moments ++ pass_a ∷ []) ++ pass_b ∷ [] ≡ moments ++ pass_a ∷ pass_b ∷ [] = append_assoc moments
    (pass_a ∷ []) (pass_b ∷ []) in
    let steps_are : steps_in (moments ++ pass_a ∷ pass_b ∷ []) ≡ steps_in moments =
    ap steps_in (sym split) ∙ steps_passed (moments ++ pass_a ∷ []) B below_a ∙ steps_passed moments A below_b in
    let ways_are : ways_after (moments ++ pass_a ∷ pass_b ∷ []) ≡ after_moment pass_b (after_moment pass_a ways) =
    ap ways_after (sym split) ∙ moments_more (moments ++ pass_a ∷ []) pass_b nothing_sent
    ∙ ap (after_moment pass_b) (moments_more moments pass_a nothing_sent) in
    let within_a : IsMatchedIn pass_a ways =
    queued_below A moments s.a before.b.towards below_b holds.turn.a both.there
    (front_of A ways fronts) (below_within ways.from_a.front before.b both.there) in
    let within_b : IsMatchedIn pass_b (after_moment pass_a ways) =
    queued_below B moments s.b before.a.towards below_a holds.turn.b both.here
    (front_of B ways fronts) (below_within ways.from_b.front before.a both.here) in
    let turn = (order_kept w).passes B below_a (moments ++ pass_a ∷ []) s
    ((order_kept w).passes A below_b moments s holds.turn) in
    record {
      both = record {
        here = way_same None (before.ticks + 1) _ _ _ _ _ _ _ _ _ _ (ap (sent_at B) steps_are)
            (ap (λ (v : BothWays). v.from_b.front) ways_are) refl refl refl
            (way_closed (sent_at B (steps_in moments)) ways.from_b.front
            (max ways.from_b.front below_a) before.ticks before.a.towards before.a.matched
            (length before.a.samples) (holds.size_a ∙ ticks_more before.ticks
            ∙ zero_more (96 * (before.ticks + 1))) refl both.here);
        there = way_same None (before.ticks + 1) _ _ _ _ _ _ _ _ _ _ (ap (sent_at A) steps_are)
            (ap (λ (v : BothWays). v.from_a.front) ways_are) refl refl refl
            (way_closed (sent_at A (steps_in moments)) ways.from_a.front
            (max ways.from_a.front below_b) before.ticks before.b.towards before.b.matched
            (length before.b.samples) (holds.size_b ∙ ticks_more before.ticks
            ∙ zero_more (96 * (before.ticks + 1))) refl both.there);
        matched = subst (λ ms. AreMatched ms nothing_sent) split
            (matched_more (moments ++ pass_a ∷ []) pass_b nothing_sent
            (matched_more moments pass_a nothing_sent both.matched within_a)
            (subst (IsMatchedIn pass_b) (sym (moments_more moments pass_a nothing_sent)) within_b));
      };
      turn = subst (λ ms. SentInTurn ms s) split turn;
      size_a = holds.size_a ∙ ticks_more before.ticks;
      size_b = holds.size_b ∙ ticks_more before.ticks;
    }
  where
    zero_more : (n : ℕ) → n + 0 ≡ n
    zero_more n = omega arith

    -- what has passed a side was matched there, or is among those that were sent
    below_within :
        {pending : Option Sent} {sent : List (List ℕ)} {count : ℕ} (front : ℕ) (side : SideState)
        → WayHolds pending sent front count side.towards side.matched (length side.samples)
        → (passed_below side ≤ length side.towards) ⊎ (passed_below side ≤ front)
    below_within front side h = go (cases_lt (length side.towards) side.matched)
      where
        mark : ℕ
        mark = length side.samples - 7

        go : (length side.towards < side.matched) ⊎ (side.matched ≤ length side.towards)
            → (passed_below side ≤ length side.towards) ⊎ (passed_below side ≤ front)
        go (inl more) =
            let few = none_counted mark side.matched side.towards more in
            let past = h.past_matched in inr (omega (arith, few, past))
        go (inr few) = inl (counted_within mark side.matched side.towards few)

    queued_below :
        {front count matched samples : ℕ} (sender : End) (moments : List Moment) (state : StationState)
        (towards : List SentAt) (below : ℕ)
        → InOrder sender (steps_in moments) state
        → WayHolds None (sent_at sender (steps_in moments)) front count towards matched samples
        → front ≤ length (sent_by sender (ways_after moments)).queued
        → (below ≤ length towards) ⊎ (below ≤ front) → below ≤ length (sent_by sender (ways_after moments)).queued
    queued_below sender moments state towards below order way all (inr past) = omega (arith, past, all)
    queued_below sender moments state towards below order way all (inl within) =
        let waiting = map octets_of state.channel.waiting in
        let size = sym (length-map (sent_by sender (ways_after moments)).queued (λ (f : LinkFrame). f.octets))
        ∙ ap length (queued_is sender moments ∙ order.order ∙ ap (λ xs. xs ++ waiting) way.sent_is) in
        let first = length-append (map octets_at towards ++ []) waiting in
        let second = length-append (map octets_at towards) (let none : List (List ℕ) = [] in none) in
        let third = length-map towards octets_at in
        omega (arith, size, first, second, third, within)

-- ---- a tick

-- the parts of each tick
abbrev Tail : BenchWords → BenchState → BenchState → Type 0
Tail w = ArePartsMade w
    (Gives A ∷ AsksOrCalls ∷ Gives B ∷ Ticks A ∷ Ticks B ∷ Sounds ∷ Listens A ∷ Listens B ∷ Closes ∷ [])

after_tells : (w : BenchWords) (before after : BenchState) → Tail w before after → IsCalm after → AtRest before
    → AtRest after
after_tells w before after made calm holds =
    let p1 = parted w (Gives A)
    (AsksOrCalls ∷ Gives B ∷ Ticks A ∷ Ticks B ∷ Sounds ∷ Listens A ∷ Listens B ∷ Closes ∷ []) before after made calm in
    let h1 = gives_kept w A before p1.between p1.first p1.calm holds in
    let p2 = parted w AsksOrCalls
    (Gives B ∷ Ticks A ∷ Ticks B ∷ Sounds ∷ Listens A ∷ Listens B ∷ Closes ∷ []) p1.between after p1.rest calm in
    let h2 = asks_kept_here w p1.between p2.between p2.first p2.calm h1 in
    let p3 = parted w (Gives B)
    (Ticks A ∷ Ticks B ∷ Sounds ∷ Listens A ∷ Listens B ∷ Closes ∷ []) p2.between after p2.rest calm in
    let h3 = gives_kept w B p2.between p3.between p3.first p3.calm h2 in
    let p4 = parted w (Ticks A)
    (Ticks B ∷ Sounds ∷ Listens A ∷ Listens B ∷ Closes ∷ []) p3.between after p3.rest calm in
    let h4 = a_ticks w p3.between p4.between p4.first p4.calm h3 in
    let p5 = parted w (Ticks B) (Sounds ∷ Listens A ∷ Listens B ∷ Closes ∷ []) p4.between after p4.rest calm in
    let h5 = b_ticks w p4.between p5.between p5.first p5.calm h4 in
    let p6 = parted w Sounds (Listens A ∷ Listens B ∷ Closes ∷ []) p5.between after p5.rest calm in
    let h6 = subst (AtBench 96 None None) (sym p6.first) (sounds_kept w p5.between h5) in
    let p7 = parted w (Listens A) (Listens B ∷ Closes ∷ []) p6.between after p6.rest calm in
    let h7 = listens_kept w A p6.between p7.between p7.first p7.calm h6 in
    let p8 = parted w (Listens B) (Closes ∷ []) p7.between after p7.rest calm in
    let h8 = listens_kept w B p7.between p8.between p8.first p8.calm h7 in
    let p9 = parted w Closes [] p8.between after p8.rest calm in
    subst AtRest (sym p9.rest) (subst AtRest (sym p9.first) (closes_kept w p8.between h8))

-- ---- the beginning

abbrev IsTelling : Part → Type 0
IsTelling (Tells end event) = IsToldUsual end event
IsTelling (Gives end) = ⊥
IsTelling AsksOrCalls = ⊥
IsTelling (Ticks end) = ⊥
IsTelling Sounds = ⊥
IsTelling (Listens end) = ⊥
IsTelling Closes = ⊥

one_told : (w : BenchWords) (part : Part) (before after : BenchState) → IsTelling part → IsPart w part before after
    → IsCalm after → AtRest before → AtRest after
one_told w (Tells end event) before after usual h calm holds = tells_kept w end event before after usual h calm holds
one_told w (Gives end) before after usual h calm holds = absurd usual
one_told w AsksOrCalls before after usual h calm holds = absurd usual
one_told w (Ticks end) before after usual h calm holds = absurd usual
one_told w Sounds before after usual h calm holds = absurd usual
one_told w (Listens end) before after usual h calm holds = absurd usual
one_told w Closes before after usual h calm holds = absurd usual

-- parts that tell, and then others
all_told :
    (w : BenchWords) (parts rest : List Part) → Each IsTelling parts
    → ((b : BenchState) (a : BenchState) → ArePartsMade w rest b a → IsCalm a → AtRest b → AtRest a)
    → (before after : BenchState) → ArePartsMade w (parts ++ rest) before after → IsCalm after → AtRest before
    → AtRest after
all_told w [] rest telling go before after made calm holds = go before after made calm holds
all_told w (part ∷ parts) rest telling go before after made calm holds =
    let p = parted w part (parts ++ rest) before after made calm in
    all_told w parts rest telling.1 go p.between after p.rest calm
    (one_told w part before p.between telling.0 p.first p.calm holds)

duplex_telling : (end : End) → Each IsTelling (sets_full_duplex end)
unfolding sets_full_duplex
duplex_telling end = (told_as end joins_kiss _ refl tt, (told_as end sets_full _ refl tt, tt))

joins_telling : (end : End) → Each IsTelling (joins end)
unfolding joins
joins_telling end = (told_as end joins_program _ refl tt, (told_as end registers _ refl tt, tt))

beginning_telling : (w : BenchWords) → Each IsTelling (beginning w)
unfolding beginning sets_duplex
beginning_telling w =
    each_append IsTelling _ _ (duplex w.full)
    (each_append IsTelling (joins A) _ (joins_telling A)
    (each_append IsTelling (joins B) _ (joins_telling B) (told_as A connects _ refl tt, tt)))
  where
    duplex : (b : Bool) → Each IsTelling (cond b (sets_full_duplex A ++ sets_full_duplex B) [])
    duplex true = each_append IsTelling (sets_full_duplex A) (sets_full_duplex B) (duplex_telling A) (duplex_telling B)
    duplex false = tt

tick_kept : (w : BenchWords) (before after : BenchState) → IsTick w before after → IsCalm after → AtRest before
    → AtRest after
unfolding IsTick each_tick
tick_kept w before after made calm holds = go (before.ticks == 0) made
  where
    tail : List Part
    tail = Gives A ∷ AsksOrCalls ∷ Gives B ∷ Ticks A ∷ Ticks B ∷ Sounds ∷ Listens A ∷ Listens B ∷ Closes ∷ []

    go : (b : Bool) → ArePartsMade w (cond b (beginning w ++ tail) tail) before after → AtRest after
    go true m = all_told w (beginning w) tail (beginning_telling w) (after_tells w) before after m calm holds
    go false m = after_tells w before after m calm holds

-- ---- a run

new_way : WayHolds None [] 0 0 [] 0 0
new_way = record {
  sent_is = refl;
  soon = λ s same. absurd (cc);
  rising = omega arith;
  matched_within = omega arith;
  front_within = inl (omega arith);
  past_matched = omega arith;
  passed = λ k below. absurd (omega arith);
}

new_rest : (w : BenchWords) → AtRest (new_bench w)
new_rest w = record {
  both = record { here = new_way; there = new_way; matched = tt };
  turn = (order_kept w).new;
  size_a = refl;
  size_b = refl;
}

pub run_in_time : (w : BenchWords) (count : ℕ) (bench : BenchState) → AreTicks w count bench → IsCalm bench
    → AtRest bench
run_in_time w zero bench made calm = subst AtRest (sym made) (new_rest w)
run_in_time w (suc count) bench made calm =
    tick_kept w made.0 bench made.3 calm (run_in_time w count made.0 made.1 made.2.no_trouble)
