-- In a run of the bench each host program sees the set-ups of its link, and gives only while the link is up, and all
-- frames that wait at A keep one key, so that each SABM, SABME and DISC of A's link finds room that the laws ask for:
-- part by part.
use Rattle.channel_bench.proofs.Common.{◌≡◌, ℕ, zero, suc, ◌==◌, ◌&&◌, not, Bool, true, false, List, [], ◌∷◌, ◌++◌}
use Rattle.channel_bench.proofs.Common.{length, replicate, Option, Some, None, is_some, refl, sym, ap, ◌∙◌, subst}
use Rattle.channel_bench.proofs.Common.{MatchBool, option_to_list, and_parts, eqb-true, append_assoc, Candidate, End, A}
use Rattle.channel_bench.proofs.Common.{B, other, most_links, StationState, SetUp, BenchWords, IsNoted, stations_of}
use Rattle.channel_bench.proofs.Common.{the_calls, AtEnd, BenchState, Near, SideState, near, new_bench, side_at}
use Rattle.channel_bench.proofs.Common.{with_near, AreHeardAt, GoesOn, IsHeardAs, IsHeardAt, IsStep, IsTicking}
use Rattle.channel_bench.proofs.Common.{number_of, with_matched, with_stray, AcceptsProgram, IsAsked, IsAskedOrCalled}
use Rattle.channel_bench.proofs.Common.{IsCalled, IsGiven, IsGivenPiece, IsListening, is_complete, with_asking}
use Rattle.channel_bench.proofs.Common.{with_calling, with_giving, ProgramState, next_piece, AreMatched, BothWays}
use Rattle.channel_bench.proofs.Common.{LinkFrame, Moment, after_moments, nothing_sent, sent_by, steps_in, Passes}
use Rattle.channel_bench.proofs.Common.{Steps, Step, Stations, with_state, LinkStep, link_steps_at, passed_below}
use Rattle.channel_bench.proofs.Common.{sounding, ticked, text_at, AsksFindRoom, queued_passed}
use Rattle.std.specs.List.{AllByRecursion as Each}
use Rattle.channel_bench.specs.BenchState.{new_side}
use Rattle.channel_bench.specs.HostProgram.{has_all, has_all_in}
use Rattle.channel_bench.proofs.CoreRun.{Occurs, Usual, heard_calm, input_of, piece_short, state_twice, state_there}
use Rattle.channel_bench.proofs.CoreRun.Usual.{connects, disconnects, gives, hears, ticks}
use Rattle.channel_bench.proofs.GivesSees.{gives_sees}
use Rattle.channel_bench.proofs.LinkNow.{Known, links_of}
use Rattle.channel_bench.proofs.NextSees.{BothSee, noted_step, step_sees}
use Rattle.channel_bench.proofs.NotedRun.{noted_kept, steps_more, steps_passed}
use Rattle.channel_bench.proofs.HostStreams.{IsWhole, new_stream}
use Rattle.channel_bench.proofs.OwnLinks.{IsOwnPlace, OwnsAll}
use Rattle.channel_bench.proofs.ProgramSees.{GaveAll, GaveAllIn}
use Rattle.channel_bench.proofs.ProgramsAsk.{AskLittle, asks_kept}
use Rattle.channel_bench.proofs.RunOfParts.{IsCalm}
use Rattle.channel_bench.proofs.SideSees.{SideSees}
use Rattle.channel_bench.proofs.Sounded.{heard_as, sounded}
use Rattle.channel_bench.proofs.StepSees.{IsReady, SeesAt, queue_of}
use Rattle.channel_bench.proofs.ThereStays.{HasProgram, is_there}
use Rattle.channel_bench.proofs.FlightLemmas.{moments_more}
use Rattle.channel_bench.proofs.StepFinds.{Finding, Knows, finding_step, matched_front}
use Rattle.channel_bench.proofs.FindsNear.{new_finds, passed}
use Rattle.channel_bench.proofs.FindingRoom.{TakesCall}

-- ---- what holds of a bench

-- what the laws ask of a run
pub record Premises (moments : List Moment) : Type 0 where
  pub matched : AreMatched moments nothing_sent
  pub room : AsksFindRoom the_calls (steps_in moments)

pub record Holds (w : BenchWords) (bench : BenchState) : Type 0 where
  pub noted : IsNoted w bench.common.moments (stations_of bench)
  pub little : AskLittle bench.common.moments (stations_of bench)
  pub sees_a : Premises bench.common.moments → SeesAt w A bench.a bench.common.moments
  pub sees_b : Premises bench.common.moments → SeesAt w B bench.b bench.common.moments
  pub finds : Finding bench.common.moments (stations_of bench)

-- ---- fewer moments

room_before : (steps : List Step) (step : Step) → AsksFindRoom the_calls (steps ++ step ∷ [])
    → AsksFindRoom the_calls steps
room_before [] step h = tt
room_before (first ∷ steps) step h = (h.0, room_before steps step h.1)

pub front : (moments : List Moment) (step : Step) (found : Option ℕ) → Premises (moments ++ Steps step found ∷ [])
    → Premises moments
front moments step found h = record {
  matched = matched_front moments (Steps step found) nothing_sent h.matched;
  room = room_before (steps_in moments) step (subst (AsksFindRoom the_calls) (steps_more moments step found) h.room);
}

front_passed : (moments : List Moment) (sender : End) (below : ℕ) → Premises (moments ++ Passes sender below ∷ [])
    → Premises moments
front_passed moments sender below h = record {
  matched = matched_front moments (Passes sender below) nothing_sent h.matched;
  room = subst (AsksFindRoom the_calls) (steps_passed moments sender below) h.room;
}

-- ---- what a side shows stays

-- all that matters is the same
resees :
    (w : BenchWords) (e : End) (side next : SideState) (events : List LinkStep) (queue : List LinkFrame)
    → next.station ≡ side.station → next.there ≡ side.there → next.stream ≡ side.stream
    → next.program.ended ≡ side.program.ended → next.program.running ≡ side.program.running
    → (next.program.calls ≡ true → side.program.calls ≡ true) → SideSees w e side events queue
    → SideSees w e next events queue
resees w e side next events queue station there stream ended running calls h = record {
  owns = subst (OwnsAll e) (sym station) h.owns;
  there = λ is. subst HasProgram (sym station) (h.there (sym (ap is_there there) ∙ is));
  whole = subst IsWhole (sym stream) h.whole;
  sees = record {
    set_ups = ap (λ xs. xs ++ option_to_list next.program.running) ended
        ∙ ap (λ o. side.program.ended ++ option_to_list o) running ∙ h.sees.set_ups;
    runs_is = ap is_some running ∙ h.sees.runs_is;
  };
  asked = λ is. subst (GaveAllIn w.octets) (sym running) (h.asked is);
  calls = λ is. h.calls (calls is);
  given = h.given;
  asks = h.asks;
  short = h.short;
  queued = h.queued;
}

-- ---- a step at one of the stations

-- a bench that has come to stand so near one of its stations
abbrev pub HoldsNear : BenchWords → BenchState → End → Near → Type 0
HoldsNear w bench e n = Holds w (with_near e n bench)

pub both_of :
    (w : BenchWords) (bench : BenchState) (e : End) (n : Near) → HoldsNear w bench e n → Premises n.common.moments
    → BothSee w e n.side (side_at (other e) bench) n.common.moments
both_of w bench A n h p = record { own = h.sees_a p; far_sees = h.sees_b p }
both_of w bench B n h p = record { own = h.sees_b p; far_sees = h.sees_a p }

noted_of : (w : BenchWords) (bench : BenchState) (e : End) (n : Near) → HoldsNear w bench e n
    → IsNoted w n.common.moments (with_state e n.side.station (stations_of bench))
noted_of w bench A n h = h.noted
noted_of w bench B n h = h.noted

pub little_of : (w : BenchWords) (bench : BenchState) (e : End) (n : Near) → HoldsNear w bench e n
    → AskLittle n.common.moments (with_state e n.side.station (stations_of bench))
little_of w bench A n h = h.little
little_of w bench B n h = h.little

finds_of : (w : BenchWords) (bench : BenchState) (e : End) (n : Near) → HoldsNear w bench e n
    → Finding n.common.moments (with_state e n.side.station (stations_of bench))
finds_of w bench A n h = h.finds
finds_of w bench B n h = h.finds

-- what is known of A's link by what the host programs have seen
knows_of : (w : BenchWords) (bench : BenchState) (e : End) (n : Near) → HoldsNear w bench e n
    → Knows w n.common.moments (with_state e n.side.station (stations_of bench))
knows_of w bench A n h matched room =
    let p : Premises n.common.moments = record { matched = matched; room = room } in
    let a = h.sees_a p in
    record { noted = h.noted; little = h.little; owns = a.owns; asks = a.asks; queued = (h.sees_b p).queued }
knows_of w bench B n h matched room =
    let p : Premises n.common.moments = record { matched = matched; room = room } in
    let a = h.sees_a p in
    record { noted = h.noted; little = h.little; owns = a.owns; asks = a.asks; queued = (h.sees_b p).queued }

holds_of :
    (w : BenchWords) (bench : BenchState) (e : End) (n : Near)
    → IsNoted w n.common.moments (with_state e n.side.station (stations_of bench))
    → AskLittle n.common.moments (with_state e n.side.station (stations_of bench))
    → Finding n.common.moments (with_state e n.side.station (stations_of bench))
    → (Premises n.common.moments → BothSee w e n.side (side_at (other e) bench) n.common.moments)
    → HoldsNear w bench e n
holds_of w bench A n noted little finds both = record {
  noted = noted;
  little = little;
  finds = finds;
  sees_a = λ p. (both p).own;
  sees_b = λ p. (both p).far_sees;
}
holds_of w bench B n noted little finds both = record {
  noted = noted;
  little = little;
  finds = finds;
  sees_a = λ p. (both p).far_sees;
  sees_b = λ p. (both p).own;
}

-- what a step needs of the bench before it
record KnownNear (w : BenchWords) (bench : BenchState) (e : End) (n : Near) : Type 0 where
  noted : IsNoted w n.common.moments (with_state e n.side.station (stations_of bench))
  little : AskLittle n.common.moments (with_state e n.side.station (stations_of bench))
  finds : Finding n.common.moments (with_state e n.side.station (stations_of bench))
  knows : Knows w n.common.moments (with_state e n.side.station (stations_of bench))

known_of : (w : BenchWords) (bench : BenchState) (e : End) (n : Near) → HoldsNear w bench e n → KnownNear w bench e n
known_of w bench e n h = record {
  noted = noted_of w bench e n h;
  little = little_of w bench e n h;
  finds = finds_of w bench e n h;
  knows = knows_of w bench e n h;
}

-- a step, from what it keeps
stepped_holds :
    (w : BenchWords) (bench : BenchState) (e : End) (usual : Usual) (matched : Option ℕ) (before after : Near)
    → Occurs e usual → TakesCall usual before.side.station → (h : IsStep e (input_of e usual) matched before after)
    → after.common.trouble ≡ None
    → KnownNear w bench e before
    → (Known w before.common.moments (with_state e before.side.station (stations_of bench))
    → Known w (before.common.moments ++ Steps (noted_step e usual matched before after h) matched ∷ [])
    (with_state e after.side.station (with_state e before.side.station (stations_of bench)))
    → Premises before.common.moments
    → BothSee w e after.side (side_at (other e) bench)
    (before.common.moments ++ Steps (noted_step e usual matched before after h) matched ∷ []))
    → HoldsNear w bench e after
stepped_holds w bench e usual matched before after occurs takes h calm known keeps =
    let s = with_state e before.side.station (stations_of bench) in
    let later = with_state e after.side.station s in
    let moments = before.common.moments in
    let step = noted_step e usual matched before after h in
    let next = moments ++ Steps step matched ∷ [] in
    let is : after.common.moments ≡ next = ap (λ (n : Near). n.common.moments) h.is in
    let at = state_there e before.side.station (stations_of bench) in
    let noted_next = (noted_kept w).steps e usual matched before after s occurs h calm at known.noted in
    let little_next = (asks_kept w).steps e usual matched before after s occurs h calm at known.little in
    let finds_next = finding_step w e usual matched before after s occurs takes h calm at known.knows known.finds in
    let same = state_twice e before.side.station after.side.station (stations_of bench) in
    holds_of w bench e after (subst (IsNoted w after.common.moments) same noted_next)
    (subst (AskLittle after.common.moments) same little_next) (subst (Finding after.common.moments) same finds_next)
    (λ p.
    let q : Premises next = subst Premises is p in
    let old = front moments step matched q in
    subst (BothSee w e after.side (side_at (other e) bench)) (sym is)
    (keeps (record { noted = known.noted; little = known.little; matched = old.matched; room = old.room }) (record {
      noted = subst (λ ms. IsNoted w ms later) is noted_next;
      little = subst (λ ms. AskLittle ms later) is little_next;
      matched = q.matched;
      room = q.room;
    }) old))

-- a step that gives nothing
pub near_holds :
    (w : BenchWords) (bench : BenchState) (e : End) (usual : Usual) (matched : Option ℕ) (before after : Near)
    → Occurs e usual → TakesCall usual before.side.station → IsStep e (input_of e usual) matched before after
    → after.common.trouble ≡ None → HoldsNear w bench e before
    → (Premises before.common.moments → IsReady w usual before.side.program (links_of e before.common.moments))
    → HoldsNear w bench e after
near_holds w bench e usual matched before after occurs takes h calm holds ready =
    stepped_holds w bench e usual matched before after occurs takes h calm (known_of w bench e before holds)
    (λ known later old.
    step_sees w e usual matched before after (side_at (other e) bench)
    (with_state e before.side.station (stations_of bench))
    occurs h (state_there e before.side.station (stations_of bench)) known later (both_of w bench e before holds old)
    (ready old))

-- the next piece is given
given_holds :
    (w : BenchWords) (bench : BenchState) (e : End) (piece : List ℕ) (n next : Near)
    → next_piece (text_at w e) n.side.program.running ≡ Some piece → AcceptsProgram n.side
    → IsStep e (input_of e (gives piece)) None (with_giving piece n) next → next.common.trouble ≡ None
    → HoldsNear w bench e n → HoldsNear w bench e next
given_holds w bench e piece n next is accepts h calm holds =
    let s = with_state e n.side.station (stations_of bench) in
    let k = known_of w bench e n holds in
    stepped_holds w bench e (gives piece) None (with_giving piece n) next
    (piece_short (text_at w e) n.side.program.running piece is) tt h calm
    (record { noted = k.noted; little = k.little; finds = k.finds; knows = k.knows })
    (λ known later old. gives_sees w e piece n next (side_at (other e) bench) s is accepts h
    (state_there e n.side.station (stations_of bench)) known later (both_of w bench e n holds old))

-- ---- what changes no more than a side

-- a side that shows the same
resided :
    (w : BenchWords) (bench : BenchState) (e : End) (n next : Near) → next.common.moments ≡ n.common.moments
    → next.side.station ≡ n.side.station → next.side.there ≡ n.side.there → next.side.stream ≡ n.side.stream
    → next.side.program ≡ n.side.program → HoldsNear w bench e n → HoldsNear w bench e next
resided w bench e n next moments station there stream program holds =
    let s : StationState → Stations = λ x. with_state e x (stations_of bench) in
    holds_of w bench e next
    (subst (λ ms. IsNoted w ms (s next.side.station)) (sym moments)
    (subst (λ x. IsNoted w n.common.moments (s x)) (sym station) (noted_of w bench e n holds)))
    (subst (λ ms. AskLittle ms (s next.side.station)) (sym moments)
    (subst (λ x. AskLittle n.common.moments (s x)) (sym station) (little_of w bench e n holds)))
    (subst (λ ms. Finding ms (s next.side.station)) (sym moments)
    (subst (λ x. Finding n.common.moments (s x)) (sym station) (finds_of w bench e n holds)))
    (λ p.
    let old = both_of w bench e n holds (subst Premises moments p) in
    let far = side_at (other e) bench in
    subst (BothSee w e next.side far) (sym moments) (record {
      own = resees w e n.side next.side (links_of e n.common.moments) (queue_of e n.common.moments) station there stream
          (ap (λ (x : ProgramState). x.ended) program) (ap (λ (x : ProgramState). x.running) program)
          (λ is. sym (ap (λ (x : ProgramState). x.calls) program) ∙ is) old.own;
      far_sees = old.far_sees;
    }))

-- near what is there already
pub near_there : (w : BenchWords) (e : End) (bench : BenchState) → Holds w bench → HoldsNear w bench e (near e bench)
near_there w A bench h = record {
  noted = h.noted;
  little = h.little;
  sees_a = h.sees_a;
  sees_b = h.sees_b;
  finds = h.finds;
}
near_there w B bench h = record {
  noted = h.noted;
  little = h.little;
  sees_a = h.sees_a;
  sees_b = h.sees_b;
  finds = h.finds;
}

-- something comes to pass at one of the stations
pub at_end_holds :
    (w : BenchWords) (e : End) (part : Near → Near → Type 0) (before after : BenchState)
    → ((next : Near) → part (near e before) next → next.common.trouble ≡ None → HoldsNear w before e (near e before)
    → HoldsNear w before e next)
    → AtEnd e part before after → IsCalm after → Holds w before → Holds w after
at_end_holds w A part before after keeps h calm holds =
    subst (Holds w) (sym h.is)
    (keeps h.next h.step (sym (ap (λ (b : BenchState). b.common.trouble) h.is) ∙ calm) (near_there w A before holds))
at_end_holds w B part before after keeps h calm holds =
    subst (Holds w) (sym h.is)
    (keeps h.next h.step (sym (ap (λ (b : BenchState). b.common.trouble) h.is) ∙ calm) (near_there w B before holds))

-- ---- frames that are heard

pub item_holds :
    (w : BenchWords) (bench : BenchState) (e : End) (matched : Option ℕ) (octets : List ℕ) (n next : Near)
    → IsHeardAs e matched octets n next → next.common.trouble ≡ None → HoldsNear w bench e n → HoldsNear w bench e next
item_holds w bench e None octets n next h calm holds =
    let stray : next.common.trouble ≡ (with_stray octets n).common.trouble = ap (λ (x : Near). x.common.trouble) h in
    absurd (cc)
item_holds w bench e (Some number) octets n next h calm holds =
    near_holds w bench e (hears octets) (Some number) (with_matched number n) next tt tt h calm
    (resided w bench e n (with_matched number n) refl refl refl refl refl holds) (λ p. tt)

heard_holds :
    (w : BenchWords) (bench : BenchState) (e : End) (items : List Candidate) (n next : Near) → AreHeardAt e items n next
    → next.common.trouble ≡ None → HoldsNear w bench e n → HoldsNear w bench e next
heard_holds w bench e [] n next h calm holds = subst (HoldsNear w bench e) (sym h) holds
heard_holds w bench e (item ∷ items) n next h calm holds =
    let on : (between : Near) × IsHeardAt e item n between × AreHeardAt e items between next =
    subst (λ t. GoesOn t ((between : Near) × IsHeardAt e item n between × AreHeardAt e items between next) (next ≡ n))
    (heard_calm e (item ∷ items) n next h calm) h in
    heard_holds w bench e items on.0 next on.2 calm
    (item_holds w bench e (number_of e item n) item.octets n on.0 on.1 (heard_calm e items on.0 next on.2 calm) holds)

-- ---- the other parts of a tick

ticking_holds :
    (w : BenchWords) (bench : BenchState) (e : End) (n next : Near) → IsTicking e n next → next.common.trouble ≡ None
    → HoldsNear w bench e n → HoldsNear w bench e next
ticking_holds w bench e n next part calm holds =
    let c : part.next.common.trouble ≡ None = sym (ap (λ (x : Near). x.common.trouble) part.is) ∙ calm in
    let made = near_holds w bench e (ticks part.busy) None n part.next tt tt part.step c holds (λ p. tt) in
    resided w bench e part.next next (ap (λ (x : Near). x.common.moments) part.is)
    (ap (λ (x : Near). x.side.station) part.is) (ap (λ (x : Near). x.side.there) part.is)
    (ap (λ (x : Near). x.side.stream) part.is) (ap (λ (x : Near). x.side.program) part.is) made

giving_holds :
    (w : BenchWords) (bench : BenchState) (e : End) (n next : Near) → IsGiven w e n next → next.common.trouble ≡ None
    → HoldsNear w bench e n → HoldsNear w bench e next
giving_holds w bench e n next part calm holds =
    go part.accepts refl part.given
  where
    piece_holds : (piece : Option (List ℕ)) → next_piece (text_at w e) n.side.program.running ≡ piece
        → AcceptsProgram n.side → IsGivenPiece e piece n next → HoldsNear w bench e next
    piece_holds None is accepts h = subst (HoldsNear w bench e) (sym h) holds
    piece_holds (Some piece) is accepts h = given_holds w bench e piece n next is accepts h calm holds

    go : (b : Bool) → part.accepts ≡ b
        → MatchBool b (IsGivenPiece e (next_piece (text_at w e) n.side.program.running) n next) (next ≡ n)
        → HoldsNear w bench e next
    go true is h = piece_holds (next_piece (text_at w e) n.side.program.running) refl (part.exactly.0 is) h
    go false is h = subst (HoldsNear w bench e) (sym h) holds

-- both programs change, and show the same
pub reprogrammed :
    (w : BenchWords) (bench next : BenchState) → next.common.moments ≡ bench.common.moments
    → next.a.station ≡ bench.a.station → next.b.station ≡ bench.b.station → next.a.there ≡ bench.a.there
    → next.b.there ≡ bench.b.there → next.a.stream ≡ bench.a.stream → next.b.stream ≡ bench.b.stream
    → next.a.program.ended ≡ bench.a.program.ended → next.a.program.running ≡ bench.a.program.running
    → (next.a.program.calls ≡ true → bench.a.program.calls ≡ true)
    → next.b.program.ended ≡ bench.b.program.ended → next.b.program.running ≡ bench.b.program.running
    → (next.b.program.calls ≡ true → bench.b.program.calls ≡ true) → Holds w bench → Holds w next
reprogrammed w bench next moments a b there_a there_b stream_a stream_b ended_a running_a calls_a ended_b running_b
    calls_b h =
    let stations : stations_of next ≡ stations_of bench =
    ap (λ x. let s : Stations = record { a = x; b = next.b.station } in s) a
    ∙ ap (λ x. let s : Stations = record { a = bench.a.station; b = x } in s) b in
    record {
      noted = subst (λ ms. IsNoted w ms (stations_of next)) (sym moments)
          (subst (IsNoted w bench.common.moments) (sym stations) h.noted);
      little = subst (λ ms. AskLittle ms (stations_of next)) (sym moments)
          (subst (AskLittle bench.common.moments) (sym stations) h.little);
      finds = subst (λ ms. Finding ms (stations_of next)) (sym moments)
          (subst (Finding bench.common.moments) (sym stations) h.finds);
      sees_a = λ p. subst (SeesAt w A next.a) (sym moments)
          (resees w A bench.a next.a (links_of A bench.common.moments) (queue_of A bench.common.moments)
          a there_a stream_a
          ended_a running_a calls_a (h.sees_a (subst Premises moments p)));
      sees_b = λ p. subst (SeesAt w B next.b) (sym moments)
          (resees w B bench.b next.b (links_of B bench.common.moments) (queue_of B bench.common.moments)
          b there_b stream_b
          ended_b running_b calls_b (h.sees_b (subst Premises moments p)));
    }

-- all is given and got
complete_ready : (w : BenchWords) (bench : BenchState) → is_complete w bench ≡ true
    → GaveAll w.octets bench.a.program × (is_some bench.a.program.running ≡ true)
complete_ready w bench is =
    let both = and_parts (not bench.a.program.asked) (has_all w.octets bench.a.program
    && has_all w.octets bench.b.program) is in
    go bench.a.program.running (and_parts (has_all w.octets bench.a.program) (has_all w.octets bench.b.program)
    both.1).0
  where
    go : (o : Option SetUp) → has_all_in w.octets o ≡ true → GaveAllIn w.octets o × (is_some o ≡ true)
    go None h = absurd (cc)
    go (Some q) h = (
      eqb-true (length q.given) w.octets (and_parts (length q.given == w.octets) (length q.got == w.octets) h).0,
      refl,
    )

asked_holds :
    (w : BenchWords) (complete calls : Bool) (before after : BenchState) → is_complete w before ≡ complete
    → before.a.program.calls ≡ calls → TakesCall connects before.a.station
    → MatchBool complete (IsAsked before after) (MatchBool calls (IsCalled before after) (after ≡ before))
    → IsCalm after
    → Holds w before → Holds w after
asked_holds w true calls before after is calls_is takes h calm holds =
    let bench = with_asking before in
    let ready = complete_ready w before is in
    at_end_holds w A (IsStep A (input_of A disconnects) None) bench after
    (λ next step c kept. near_holds w bench A disconnects None (near A bench) next tt tt step c kept (λ p. ready)) h
    calm (reprogrammed w before bench refl refl refl refl refl refl refl refl refl (λ x. x) refl refl (λ x. x) holds)
asked_holds w false true before after is calls_is takes h calm holds =
    let bench = with_calling before in
    at_end_holds w A (IsStep A (input_of A connects) None) bench after
    (λ next step c kept. near_holds w bench A connects None (near A bench) next tt takes step c kept
    (λ p. (refl, (holds.sees_a p).calls calls_is))) h calm
    (reprogrammed w before bench refl refl refl refl refl refl refl refl refl (λ x. absurd (cc)) refl refl (λ x. x)
    holds)
asked_holds w false false before after is calls_is takes h calm holds = subst (Holds w) (sym h) holds

pub asks_or_calls_holds : (w : BenchWords) (before after : BenchState) → IsAskedOrCalled w before after → IsCalm after
    → Holds w before → Holds w after
asks_or_calls_holds w before after part calm holds = go part.accepts refl part.sent
  where
    go : (b : Bool) → part.accepts ≡ b → MatchBool b (MatchBool (is_complete w before) (IsAsked before after)
        (MatchBool before.a.program.calls (IsCalled before after) (after ≡ before))) (after ≡ before) → Holds w after
    go true is h = asked_holds w (is_complete w before) before.a.program.calls before after refl refl
        (part.exactly.0 is).2 h calm holds
    go false is h = subst (Holds w) (sym h) holds

-- what both send reaches them
pub sounds_hold : (w : BenchWords) (before : BenchState) → Holds w before → Holds w (sounding w before)
sounds_hold w before holds =
    let s = sounded w before in
    let next = heard_as s.silenced_a s.silenced_b s.to_a s.to_b s.draws s.transmissions s.lost before in
    subst (Holds w) (sym s.is)
    (reprogrammed w before next refl refl refl refl refl refl refl refl refl (λ x. x) refl refl (λ x. x) holds)

-- ---- the end of a tick

-- frames have passed a station
passed_sees : (w : BenchWords) (e : End) (side : SideState) (moments : List Moment) (sender : End) (below : ℕ)
    → SeesAt w e side moments → SeesAt w e side (moments ++ Passes sender below ∷ [])
passed_sees w e side moments sender below h =
    let links : links_of e (moments ++ Passes sender below ∷ []) ≡ links_of e moments =
    ap (link_steps_at the_calls e) (steps_passed moments sender below) in
    let queue : queue_of e (moments ++ Passes sender below ∷ []) ≡ queue_of e moments =
    ap (λ (ways : BothWays). (sent_by e ways).queued) (moments_more moments (Passes sender below) nothing_sent)
    ∙ queued_passed e sender below (after_moments moments nothing_sent) in
    subst (λ xs. SideSees w e side xs (queue_of e (moments ++ Passes sender below ∷ []))) (sym links)
    (subst (SideSees w e side (links_of e moments)) (sym queue) h)

abbrev with_moments : List Moment → BenchState → BenchState
with_moments moments bench = record bench { common = record bench.common { moments = moments } }

passed_holds : (w : BenchWords) (bench : BenchState) (sender : End) (below : ℕ) → Holds w bench
    → Holds w (with_moments (bench.common.moments ++ Passes sender below ∷ []) bench)
passed_holds w bench sender below h =
    let moments = bench.common.moments in
    record {
      noted = (noted_kept w).passes sender below moments (stations_of bench) h.noted;
      little = (asks_kept w).passes sender below moments (stations_of bench) h.little;
      finds = passed sender below moments (stations_of bench) h.finds;
      sees_a = λ p. passed_sees w A bench.a moments sender below (h.sees_a (front_passed moments sender below p));
      sees_b = λ p. passed_sees w B bench.b moments sender below (h.sees_b (front_passed moments sender below p));
    }

pub closes_hold : (w : BenchWords) (before : BenchState) → Holds w before → Holds w (ticked before)
unfolding ticked
closes_hold w before holds =
    let moments = before.common.moments in
    let one = with_moments (moments ++ Passes A (passed_below before.b) ∷ []) before in
    let two = with_moments (one.common.moments ++ Passes B (passed_below before.a) ∷ []) one in
    let same : moments ++ Passes A (passed_below before.b) ∷ Passes B (passed_below before.a) ∷ []
    ≡ (moments ++ Passes A (passed_below before.b) ∷ []) ++ Passes B (passed_below before.a) ∷ [] =
    sym (append_assoc moments (Passes A (passed_below before.b) ∷ []) (Passes B (passed_below before.a) ∷ [])) in
    reprogrammed w two (ticked before) same refl refl refl refl refl refl refl refl (λ x. x) refl refl (λ x. x)
    (passed_holds w one B (passed_below before.a) (passed_holds w before A (passed_below before.b) holds))

-- ---- parts at one of the stations

pub gives_hold : (w : BenchWords) (e : End) (before after : BenchState) → AtEnd e (IsGiven w e) before after
    → IsCalm after → Holds w before → Holds w after
gives_hold w e before after h calm holds =
    at_end_holds w e (IsGiven w e) before after
    (λ next part c kept. giving_holds w before e (near e before) next part c kept) h calm holds

pub ticks_hold : (w : BenchWords) (e : End) (before after : BenchState) → AtEnd e (IsTicking e) before after
    → IsCalm after → Holds w before → Holds w after
ticks_hold w e before after h calm holds =
    at_end_holds w e (IsTicking e) before after
    (λ next part c kept. ticking_holds w before e (near e before) next part c kept) h calm holds

pub listens_hold : (w : BenchWords) (e : End) (before after : BenchState) → AtEnd e (IsListening e) before after
    → IsCalm after → Holds w before → Holds w after
listens_hold w e before after h calm holds =
    at_end_holds w e (IsListening e) before after
    (λ next part c kept. heard_holds w before e part.items (near e before) next part.heard c kept) h calm holds

-- ---- before the first tick

none_places : (e : End) (n : ℕ) → Each (IsOwnPlace e) (replicate n None)
none_places e zero = tt
none_places e (suc n) = (tt, none_places e n)

new_sees : (w : BenchWords) (e : End) → SeesAt w e (new_side w e) []
new_sees w A = record {
  owns = record { links = none_places A most_links; registered = tt };
  there = λ is. absurd (cc);
  whole = new_stream;
  sees = record { set_ups = refl; runs_is = refl };
  asked = λ is. absurd (cc);
  calls = λ is. absurd (cc);
  given = tt;
  asks = tt;
  short = tt;
  queued = tt;
}
new_sees w B = record {
  owns = record { links = none_places B most_links; registered = tt };
  there = λ is. absurd (cc);
  whole = new_stream;
  sees = record { set_ups = refl; runs_is = refl };
  asked = λ is. absurd (cc);
  calls = λ is. absurd (cc);
  given = tt;
  asks = tt;
  short = tt;
  queued = tt;
}

pub new_holds : (w : BenchWords) → Holds w (new_bench w)
new_holds w = record {
  noted = (noted_kept w).new;
  little = (asks_kept w).new;
  finds = new_finds w;
  sees_a = λ p. new_sees w A;
  sees_b = λ p. new_sees w B;
}
