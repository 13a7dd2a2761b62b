-- What is kept by each step of a station that occurs in a bench, and when frames have passed, holds of the moments and
-- the stations of each run that nothing has ended.
use Rattle.channel_bench.proofs.Common.{◌≡◌, ℕ, ◌≤◌, ◌==◌, Bool, true, false, List, [], ◌∷◌, ◌++◌, length, take, drop}
use Rattle.channel_bench.proofs.Common.{cond, nat_lt, Option, Some, None, refl, sym, ap, ◌∙◌, subst, arith, MatchBool}
use Rattle.channel_bench.proofs.Common.{append_assoc, length-take, Candidate, End, A, B, each_append, HostEvent, Joined}
use Rattle.channel_bench.proofs.Common.{Bytes, Kiss, Agw, Piece, StationState, Trouble, BenchWords, first_stations}
use Rattle.channel_bench.proofs.Common.{stations_of, BenchState, SideState, Near, AtEnd, near, IsStep, IsTold}
use Rattle.channel_bench.proofs.Common.{IsTicking, IsHeardAs, IsHeardAt, AreHeardAt, GoesOn, number_of, program_id}
use Rattle.channel_bench.proofs.Common.{told_piece, told_pieces, told_octets, with_matched, with_stray, Part, IsGiven}
use Rattle.channel_bench.proofs.Common.{IsGivenPiece, IsAsked, IsCalled, IsListening, beginning, each_tick, is_complete}
use Rattle.channel_bench.proofs.Common.{joins, kiss_id, sets_duplex, sets_full_duplex, with_asking, with_calling}
use Rattle.channel_bench.proofs.Common.{with_giving, Tells, Gives, AsksOrCalls, Ticks, Sounds, Listens, Closes}
use Rattle.channel_bench.proofs.Common.{connect_octets, data_octets, disconnect_octets, full_duplex_octets, most_octets}
use Rattle.channel_bench.proofs.Common.{next_piece, register_octets, SetUp, Moment, Passes, Input, Stations, state_of}
use Rattle.channel_bench.proofs.Common.{with_state, FromHost, OffAir, OfClock, passed_below, sounding, ticked, text_at}
use Rattle.std.specs.List.{AllByRecursion as Each}
use Rattle.channel_bench.proofs.RunOfParts.{IsCalm, KeptBy, KeptInTicks}
use Rattle.channel_bench.proofs.Sounded.{sounded}

-- ---- the steps that occur

pub data Usual : Type 0 where
  joins_kiss : Usual
  sets_full : Usual
  joins_program : Usual
  registers : Usual
  connects : Usual
  gives : (piece : List ℕ) → Usual
  disconnects : Usual
  hears : (octets : List ℕ) → Usual
  ticks : (busy : Bool) → Usual

abbrev pub input_of : End → Usual → Input
input_of end joins_kiss = FromHost (Joined kiss_id Kiss)
input_of end sets_full = FromHost (Bytes kiss_id full_duplex_octets)
input_of end joins_program = FromHost (Joined program_id Agw)
input_of end registers = FromHost (Bytes program_id (register_octets end))
input_of end connects = FromHost (Bytes program_id (connect_octets end))
input_of end (gives piece) = FromHost (Bytes program_id (data_octets end piece))
input_of end disconnects = FromHost (Bytes program_id (disconnect_octets end))
input_of end (hears octets) = OffAir octets
input_of end (ticks busy) = OfClock busy

-- the host program of A alone connects and disconnects
abbrev pub IsCaller : End → Type 0
IsCaller A = Unit {0}
IsCaller B = ⊥

abbrev pub Occurs : End → Usual → Type 0
Occurs end joins_kiss = Unit {0}
Occurs end sets_full = Unit {0}
Occurs end joins_program = Unit {0}
Occurs end registers = Unit {0}
Occurs end connects = IsCaller end
Occurs end (gives piece) = length piece ≤ most_octets
Occurs end disconnects = IsCaller end
Occurs end (hears octets) = Unit {0}
Occurs end (ticks busy) = Unit {0}

-- the events of connections that parts of a tick tell
pub record IsToldUsual (end : End) (event : HostEvent) : Type 0 where
  pub usual : Usual
  pub is : FromHost event ≡ input_of end usual
  pub occurs : Occurs end usual

abbrev pub IsUsualPart : Part → Type 0
IsUsualPart (Tells end event) = IsToldUsual end event
IsUsualPart (Gives end) = Unit {0}
IsUsualPart AsksOrCalls = Unit {0}
IsUsualPart (Ticks end) = Unit {0}
IsUsualPart Sounds = Unit {0}
IsUsualPart (Listens end) = Unit {0}
IsUsualPart Closes = Unit {0}

pub told_as : (end : End) (usual : Usual) (event : HostEvent) → FromHost event ≡ input_of end usual
    → Occurs end usual → IsToldUsual end event
told_as end usual event is occurs = record { usual = usual; is = is; occurs = occurs }

duplex_usual : (end : End) → Each IsUsualPart (sets_full_duplex end)
unfolding sets_full_duplex
duplex_usual end = (told_as end joins_kiss _ refl tt, (told_as end sets_full _ refl tt, tt))

joins_usual : (end : End) → Each IsUsualPart (joins end)
unfolding joins
joins_usual end = (told_as end joins_program _ refl tt, (told_as end registers _ refl tt, tt))

pub beginning_usual : (w : BenchWords) → Each IsUsualPart (beginning w)
unfolding beginning sets_duplex
beginning_usual w =
    each_append IsUsualPart _ _ (duplex w.full)
    (each_append IsUsualPart (joins A) _ (joins_usual A)
    (each_append IsUsualPart (joins B) _ (joins_usual B) (told_as A connects _ refl tt, tt)))
  where
    duplex : (b : Bool) → Each IsUsualPart (cond b (sets_full_duplex A ++ sets_full_duplex B) [])
    duplex true = each_append IsUsualPart (sets_full_duplex A) (sets_full_duplex B) (duplex_usual A) (duplex_usual B)
    duplex false = tt

pub tick_usual : Each IsUsualPart each_tick
unfolding each_tick
tick_usual = (tt, (tt, (tt, (tt, (tt, (tt, (tt, (tt, (tt, tt)))))))))

-- a piece has few octets
pub piece_short : (text : List ℕ) (running : Option SetUp) (piece : List ℕ) → next_piece text running ≡ Some piece
    → length piece ≤ most_octets
piece_short text None piece is = absurd (cc)
piece_short text (Some q) piece is = go (nat_lt (length q.given) (length text)) is
  where
    go : (b : Bool) → cond b (Some (take most_octets (drop (length q.given) text))) None ≡ Some piece
        → length piece ≤ most_octets
    go true same =
        let e : take most_octets (drop (length q.given) text) ≡ piece = cc in
        let size = length-take most_octets (drop (length q.given) text) in
        subst (λ xs. length xs ≤ most_octets) e (omega arith)
    go false same = absurd (cc)

-- ---- what the program is told leaves the station alone

pub told_station : (pieces : List Piece) (side : SideState) → (told_pieces pieces side).station ≡ side.station
told_station [] side = refl
told_station (piece ∷ pieces) side = told_station pieces (told_piece piece side) ∙ go (piece.id == program_id)
  where
    go : (b : Bool) → (cond b (told_octets piece.octets side) side).station ≡ side.station
    go true = refl
    go false = refl

-- ---- the trouble of a run that has ended stays

heard_ended : (end : End) (items : List Candidate) (trouble : Trouble) (n next : Near)
    → n.common.trouble ≡ Some trouble → AreHeardAt end items n next → next ≡ n
heard_ended end [] trouble n next is h = h
heard_ended end (item ∷ items) trouble n next is h =
    subst (λ t. GoesOn t ((between : Near) × IsHeardAt end item n between × AreHeardAt end items between next)
    (next ≡ n)) is h

pub heard_calm : (end : End) (items : List Candidate) (n next : Near) → AreHeardAt end items n next
    → next.common.trouble ≡ None → n.common.trouble ≡ None
heard_calm end items n next h calm = go n.common.trouble refl
  where
    go : (t : Option Trouble) → n.common.trouble ≡ t → t ≡ None
    go None is = refl
    go (Some trouble) is = sym is ∙ ap (λ (x : Near). x.common.trouble)
        (sym (heard_ended end items trouble n next is h)) ∙ calm

-- ---- states

pub state_twice : (end : End) (first second : StationState) (s : Stations)
    → with_state end second (with_state end first s) ≡ with_state end second s
state_twice A first second s = refl
state_twice B first second s = refl

pub state_there : (end : End) (state : StationState) (s : Stations) → state ≡ state_of end (with_state end state s)
state_there A state s = refl
state_there B state s = refl

-- ---- what is kept

pub record KeptByCore (w : BenchWords) (Q : List Moment → Stations → Type 0) : Type 0 where
  pub new : Q [] (first_stations w)
  pub steps : (end : End) (usual : Usual) (matched : Option ℕ) (before after : Near) (s : Stations) → Occurs end usual
      → IsStep end (input_of end usual) matched before after → after.common.trouble ≡ None
      → before.side.station ≡ state_of end s
      → Q before.common.moments s → Q after.common.moments (with_state end after.side.station s)
  pub passes : (sender : End) (below : ℕ) (moments : List Moment) (s : Stations) → Q moments s
      → Q (moments ++ Passes sender below ∷ []) s

module _ (w : BenchWords) (Q : List Moment → Stations → Type 0) (k : KeptByCore w Q) where
  abbrev HoldsAt : BenchState → Type 0
  HoldsAt bench = Q bench.common.moments (stations_of bench)

  -- it holds after something came to pass at one of the stations, if it is at that station
  abbrev HoldsNear : End → Near → Stations → Type 0
  HoldsNear end n s = Q n.common.moments (with_state end n.side.station s)

  at_end_holds :
      (end : End) (part : Near → Near → Type 0) (before after : BenchState)
      → ((n next : Near) (s : Stations) → part n next → next.common.trouble ≡ None → n.side.station ≡ state_of end s
      → Q n.common.moments s → HoldsNear end next s)
      → AtEnd end part before after → IsCalm after → HoldsAt before → HoldsAt after
  at_end_holds A part before after keep h calm holds =
      subst HoldsAt (sym h.is)
      (keep (near A before) h.next (stations_of before) h.step
      (sym (ap (λ (b : BenchState). b.common.trouble) h.is) ∙ calm) refl holds)
  at_end_holds B part before after keep h calm holds =
      subst HoldsAt (sym h.is)
      (keep (near B before) h.next (stations_of before) h.step
      (sym (ap (λ (b : BenchState). b.common.trouble) h.is) ∙ calm) refl holds)

  same_holds :
      (end : End) (n next : Near) (s : Stations) → next ≡ n → n.side.station ≡ state_of end s
      → Q n.common.moments s → HoldsNear end next s
  same_holds A n next s same at holds =
      subst (λ (x : Near). HoldsNear A x s) (sym same)
      (subst (λ state. Q n.common.moments (with_state A state s)) (sym at) holds)
  same_holds B n next s same at holds =
      subst (λ (x : Near). HoldsNear B x s) (sym same)
      (subst (λ state. Q n.common.moments (with_state B state s)) (sym at) holds)

  told_holds :
      (end : End) (may : Bool) (event : HostEvent) (n next : Near) (s : Stations) → IsToldUsual end event
      → MatchBool may (IsStep end (FromHost event) None n next) (next ≡ n) → next.common.trouble ≡ None
      → n.side.station ≡ state_of end s
      → Q n.common.moments s → HoldsNear end next s
  told_holds end true event n next s u h calm at holds =
      k.steps end u.usual None n next s u.occurs (subst (λ input. IsStep end input None n next) u.is h) calm at holds
  told_holds end false event n next s u h calm at holds = same_holds end n next s h at holds

  given_holds :
      (end : End) (accepts : Bool) (piece : Option (List ℕ)) (n next : Near) (s : Stations)
      → ((octets : List ℕ) → piece ≡ Some octets → length octets ≤ most_octets)
      → MatchBool accepts (IsGivenPiece end piece n next) (next ≡ n) → next.common.trouble ≡ None
      → n.side.station ≡ state_of end s
      → Q n.common.moments s → HoldsNear end next s
  given_holds end true None n next s short h calm at holds = same_holds end n next s h at holds
  given_holds end true (Some piece) n next s short h calm at holds =
      k.steps end (gives piece) None (with_giving piece n) next s (short piece refl) h calm at holds
  given_holds end false piece n next s short h calm at holds = same_holds end n next s h at holds

  item_holds :
      (end : End) (matched : Option ℕ) (octets : List ℕ) (n next : Near) (s : Stations)
      → IsHeardAs end matched octets n next → next.common.trouble ≡ None → n.side.station ≡ state_of end s
      → Q n.common.moments s → HoldsNear end next s
  item_holds end None octets n next s h calm at holds =
      let stray : next.common.trouble ≡ (with_stray octets n).common.trouble = ap (λ (x : Near). x.common.trouble) h in
      absurd (cc)
  item_holds end (Some number) octets n next s h calm at holds =
      k.steps end (hears octets) (Some number) (with_matched number n) next s tt h calm at holds

  heard_holds :
      (end : End) (items : List Candidate) (n next : Near) (s : Stations) → AreHeardAt end items n next
      → next.common.trouble ≡ None → n.side.station ≡ state_of end s → Q n.common.moments s → HoldsNear end next s
  heard_holds end [] n next s h calm at holds = same_holds end n next s h at holds
  heard_holds end (item ∷ items) n next s h calm at holds =
      let on : (between : Near) × IsHeardAt end item n between × AreHeardAt end items between next =
      subst (λ t. GoesOn t ((between : Near) × IsHeardAt end item n between × AreHeardAt end items between next)
      (next ≡ n))
      (heard_calm end (item ∷ items) n next h calm) h in
      let one = item_holds end (number_of end item n) item.octets n on.0 s on.1
      (heard_calm end items on.0 next on.2 calm) at holds in
      subst (Q next.common.moments) (state_twice end on.0.side.station next.side.station s)
      (heard_holds end items on.0 next (with_state end on.0.side.station s) on.2 calm
      (state_there end on.0.side.station s) one)

  asked_holds :
      (complete : Bool) (before after : BenchState)
      → MatchBool complete (IsAsked before after) (MatchBool before.a.program.calls (IsCalled before after)
      (after ≡ before)) → IsCalm after
      → HoldsAt before → HoldsAt after
  asked_holds true before after h calm holds =
      at_end_holds A _ (with_asking before) after
      (λ n next s part c at kept. k.steps A disconnects None n next s tt part c at kept) h calm holds
  asked_holds false before after h calm holds = go before.a.program.calls h
    where
      go : (b : Bool) → MatchBool b (IsCalled before after) (after ≡ before) → HoldsAt after
      go true is =
          at_end_holds A _ (with_calling before) after
          (λ n next s part c at kept. k.steps A connects None n next s tt part c at kept) is calm holds
      go false is = subst HoldsAt (sym is) holds

  -- a tick of the channel changes no station
  sounds_hold : (before : BenchState) → HoldsAt before → HoldsAt (sounding w before)
  sounds_hold before holds = let s = sounded w before in subst HoldsAt (sym s.is) holds

  closes_hold : (before : BenchState) → HoldsAt before → HoldsAt (ticked before)
  unfolding ticked
  closes_hold before holds =
      let s = stations_of before in
      let moments = before.common.moments in
      let a = Passes A (passed_below before.b) in
      let b = Passes B (passed_below before.a) in
      subst (λ ms. Q ms s) (append_assoc moments (a ∷ []) (b ∷ []))
      (k.passes B (passed_below before.a) (moments ++ a ∷ []) s (k.passes A (passed_below before.b) moments s holds))

  part_holds : (part : Part) → IsUsualPart part → KeptBy w HoldsAt part
  part_holds (Tells end event) usual before after h calm holds =
      at_end_holds end (IsTold end event) before after
      (λ n next s part c at kept. told_holds end part.may event n next s usual part.told c at kept) h calm holds
  part_holds (Gives end) usual before after h calm holds =
      at_end_holds end (IsGiven w end) before after
      (λ n next s part c at kept.
      given_holds end part.accepts (next_piece (text_at w end) n.side.program.running) n next s
      (λ octets is. piece_short (text_at w end) n.side.program.running octets is) part.given c at kept) h calm holds
  part_holds AsksOrCalls usual before after h calm holds = go h.accepts h.sent
    where
      go : (b : Bool) → MatchBool b (MatchBool (is_complete w before) (IsAsked before after)
          (MatchBool before.a.program.calls (IsCalled before after) (after ≡ before))) (after ≡ before)
          → HoldsAt after
      go true is = asked_holds (is_complete w before) before after is calm holds
      go false is = subst HoldsAt (sym is) holds
  part_holds (Ticks end) usual before after h calm holds =
      at_end_holds end (IsTicking end) before after
      (λ n next s part c at kept.
      let tick = k.steps end (ticks part.busy) None n part.next s tt part.step
      (sym (ap (λ (x : Near). x.common.trouble) part.is) ∙ c) at kept in
      subst (λ (x : Near). HoldsNear end x s) (sym part.is) tick) h calm holds
  part_holds Sounds usual before after h calm holds = subst HoldsAt (sym h) (sounds_hold before holds)
  part_holds (Listens end) usual before after h calm holds =
      at_end_holds end (IsListening end) before after
      (λ n next s part c at kept. heard_holds end part.items n next s part.heard c at kept) h calm holds
  part_holds Closes usual before after h calm holds = subst HoldsAt (sym h) (closes_hold before holds)

  parts_hold : (parts : List Part) → Each IsUsualPart parts → Each (KeptBy w HoldsAt) parts
  parts_hold [] usual = tt
  parts_hold (part ∷ parts) usual = (part_holds part usual.0, parts_hold parts usual.1)

  pub core_kept : KeptInTicks w HoldsAt
  core_kept = record {
    new = k.new;
    begins = parts_hold (beginning w) (beginning_usual w);
    ticks = parts_hold each_tick tick_usual;
  }
