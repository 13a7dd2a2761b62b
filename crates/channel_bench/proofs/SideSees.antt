-- At each side of a bench the host program has seen the set-ups of its link: what holds of a side, and how a step keeps
-- it.
use Rattle.channel_bench.proofs.Common.{◌≡◌, ℕ, ◌==◌, ◌||◌, Bool, true, false, List, [], ◌∷◌, ◌++◌, map, cond, Option}
use Rattle.channel_bench.proofs.Common.{Some, None, is_some, refl, sym, ap, ◌∙◌, subst, inl, inr, option_to_list}
use Rattle.channel_bench.proofs.Common.{or_cases, append-nil, AgwMessage, IsWritten, End, each_append, connect_kind}
use Rattle.channel_bench.proofs.Common.{data_kind, disconnect_kind, register_kind, Turn, begin, SetUp, BenchWords}
use Rattle.channel_bench.proofs.Common.{set_up_of, SideState, told_pieces, ProgramState, getting, opening, set_ups_of}
use Rattle.channel_bench.proofs.Common.{told_all, LinkFrame, LinkStep, runs_following, told_in, IsGivenWhileUp, Seen}
use Rattle.channel_bench.proofs.Common.{seen_by_all, AsksInSetUp, asked_after, asked_following, called_after}
use Rattle.channel_bench.proofs.Common.{called_following, framed, is_connect, is_disconnect, not_both}
use Rattle.std.specs.List.{AllByRecursion as Each}
use Rattle.link_machine.specs.Event.{Event as LinkEvent}
use Rattle.link_machine.specs.Event.Event.{Connect as LinkConnect, Send as LinkSend, Disconnect as LinkDisconnect}
use Rattle.link_machine.specs.Event.Event.{Hear as LinkHear, Seize as LinkSeize, Tick as LinkTick}
use Rattle.channel_bench.specs.HostProgram.{closing, told as told_message}
use Rattle.channel_bench.proofs.HostStreams.{IsWhole}
use Rattle.channel_bench.proofs.LinkNow.{GivenUp}
use Rattle.channel_bench.proofs.OwnLinks.{IsOwnFrame, OwnsAll, Says, messages_of, own_pieces}
use Rattle.channel_bench.proofs.OwnMessages.{Replied}
use Rattle.channel_bench.proofs.ProgramSees.{GaveAll, GivesNothing, Sees, items_asked, items_called, items_of}
use Rattle.channel_bench.proofs.ProgramSees.{pieces_told, told_items}
use Rattle.channel_bench.proofs.Shorts.{GivesShort, IsSome, ShortStep}
use Rattle.channel_bench.proofs.ThereStays.{HasProgram, is_there}
use Rattle.station_laws.proofs.Causes.{Cause, cause_of}
use Rattle.station_laws.proofs.Causes.Cause.{connecting, sending, disconnecting}

-- What holds of a side after these events of its link, of which these frames were queued.
pub record SideSees (w : BenchWords) (e : End) (side : SideState) (events : List LinkStep) (queue : List LinkFrame)
    : Type 0 where
  pub owns : OwnsAll e side.station
  pub there : is_there side.there ≡ true → HasProgram side.station
  pub whole : IsWhole side.stream
  pub sees : Sees side.program (seen_by_all events []) (runs_following false events)
  -- a disconnect is asked for once all is given
  pub asked : asked_following false events ≡ true → GaveAll w.octets side.program
  -- it is to send C again only after its link ended
  pub calls : side.program.calls ≡ true → called_following false events ≡ false
  pub given : Each GivenUp events
  pub asks : Each AsksInSetUp events
  pub short : Each ShortStep events
  pub queued : Each (λ (f : LinkFrame). IsOwnFrame e f.octets) queue

-- ---- lists

own_framed : (e : End) (on : Bool) (queued : List (List ℕ)) → Each (IsOwnFrame e) queued
    → Each (λ (f : LinkFrame). IsOwnFrame e f.octets) (framed on queued)
own_framed e on [] h = tt
own_framed e on (octets ∷ queued) h = (h.0, own_framed e on queued h.1)

-- a set-up that runs was seen
pub some_seen : (p : ProgramState) (seen : List Seen) (runs : Bool) → Sees p seen runs → runs ≡ true → IsSome seen
some_seen p seen runs h run = go p.running refl
  where
    some : (ended : List SetUp) (q : SetUp) (xs : List Seen) → ended ++ q ∷ [] ≡ map set_up_of xs → IsSome xs
    some [] q [] is = cc
    some (x ∷ ended) q [] is = cc
    some ended q (s ∷ xs) is = tt

    go : (o : Option SetUp) → p.running ≡ o → IsSome seen
    go None is = let clash : false ≡ true = ap is_some (sym is) ∙ h.runs_is ∙ run in absurd (cc)
    go (Some q) is = some p.ended q seen (ap (λ o. p.ended ++ option_to_list o) (sym is) ∙ h.set_ups)

-- ---- what events are not

pub by_gives : (c : Cause) → (c ≡ sending → ⊥) → (event : LinkEvent) → cause_of event ≡ c → GivesNothing event
by_gives c other LinkConnect is = tt
by_gives c other (LinkSend packet) is = absurd (other (sym is))
by_gives c other LinkDisconnect is = tt
by_gives c other (LinkHear frame) is = tt
by_gives c other (LinkTick waiting) is = tt
by_gives c other (LinkSeize last full) is = tt

pub by_disconnect : (c : Cause) → (c ≡ disconnecting → ⊥) → (event : LinkEvent) → cause_of event ≡ c
    → is_disconnect event ≡ false
by_disconnect c other LinkConnect is = refl
by_disconnect c other (LinkSend packet) is = refl
by_disconnect c other LinkDisconnect is = absurd (other (sym is))
by_disconnect c other (LinkHear frame) is = refl
by_disconnect c other (LinkTick waiting) is = refl
by_disconnect c other (LinkSeize last full) is = refl

pub by_connect : (c : Cause) → (c ≡ connecting → ⊥) → (event : LinkEvent) → cause_of event ≡ c
    → is_connect event ≡ false
by_connect c other LinkConnect is = absurd (other (sym is))
by_connect c other (LinkSend packet) is = refl
by_connect c other LinkDisconnect is = refl
by_connect c other (LinkHear frame) is = refl
by_connect c other (LinkTick waiting) is = refl
by_connect c other (LinkSeize last full) is = refl

pub none_given_up : (step : LinkStep) → GivesNothing step.event → GivenUp step
none_given_up step h = go step.event h
  where
    go : (event : LinkEvent) → GivesNothing event → IsGivenWhileUp event step.link.machine
    go LinkConnect h = tt
    go (LinkSend packet) h = absurd h
    go LinkDisconnect h = tt
    go (LinkHear frame) h = tt
    go (LinkTick waiting) h = tt
    go (LinkSeize last full) h = tt

pub none_short : (step : LinkStep) → GivesNothing step.event → ShortStep step
none_short step h = go step.event h
  where
    go : (event : LinkEvent) → GivesNothing event → GivesShort event
    go LinkConnect h = tt
    go (LinkSend packet) h = absurd h
    go LinkDisconnect h = tt
    go (LinkHear frame) h = tt
    go (LinkTick waiting) h = tt
    go (LinkSeize last full) h = tt

pub never_asks : (step : LinkStep) → is_disconnect step.event ≡ false → AsksInSetUp step
never_asks step none = λ is. absurd (not_both (is_disconnect step.event) is none)

-- ---- wishes and calls, event by event

pub asked_kept :
    (count : ℕ) (e : End) (steps : List LinkStep) (asked : Bool) (p : ProgramState)
    → Each (λ (s : LinkStep). is_disconnect s.event ≡ false) steps → (asked ≡ true → GaveAll count p)
    → asked_following asked steps ≡ true → GaveAll count (told_all (messages_of e steps) p)
asked_kept count e [] asked p none gave is = gave is
asked_kept count e (step ∷ steps) asked p none gave is =
    let told = told_in step in
    let more = asked_after asked (is_disconnect step.event) told in
    let before : (asked || is_disconnect step.event) ≡ true → GaveAll count p =
    λ some. gave (elim (or_cases asked (is_disconnect step.event) some) [
      | inl was ↦ was
      | inr never ↦ absurd (not_both (is_disconnect step.event) never none.0)
    ]) in
    subst (GaveAll count) (sym (items_of e steps step p))
    (asked_kept count e steps more (told_items p told) none.1
    (items_asked count asked (is_disconnect step.event) told p before) is)

pub asked_one :
    (count : ℕ) (e : End) (step : LinkStep) (asked : Bool) (p : ProgramState) → GaveAll count p
    → asked_following asked (step ∷ []) ≡ true → GaveAll count (told_all (messages_of e (step ∷ [])) p)
asked_one count e step asked p gave is =
    subst (GaveAll count) (sym (items_of e [] step p))
    (items_asked count asked (is_disconnect step.event) (told_in step) p (λ some. gave) is)

pub called_kept :
    (e : End) (steps : List LinkStep) (called : Bool) (p : ProgramState)
    → Each (λ (s : LinkStep). is_connect s.event ≡ false) steps → (p.calls ≡ true → called ≡ false)
    → (told_all (messages_of e steps) p).calls ≡ true → called_following called steps ≡ false
called_kept e [] called p none before is = before is
called_kept e (step ∷ steps) called p none before is =
    let told = told_in step in
    let more = called_after called (is_connect step.event) told in
    let now : p.calls ≡ true → (called || is_connect step.event) ≡ false =
    λ calls. ap (λ b. b || is_connect step.event) (before calls) ∙ none.0 in
    called_kept e steps more (told_items p told) none.1 (items_called called (is_connect step.event) told p now)
    (sym (ap (λ (x : ProgramState). x.calls) (items_of e steps step p)) ∙ is)

pub called_one :
    (e : End) (step : LinkStep) (called : Bool) (p : ProgramState) → p.calls ≡ false
    → (told_all (messages_of e (step ∷ [])) p).calls ≡ true → called_following called (step ∷ []) ≡ false
called_one e step called p none is =
    items_called called (is_connect step.event) (told_in step) p (λ calls. absurd (not_both p.calls calls none))
    (sym (ap (λ (x : ProgramState). x.calls) (items_of e [] step p)) ∙ is)

-- ---- a step of a side

-- the side after a step whose program was in a state
abbrev pub side_after : SideState → ProgramState → List ℕ → Turn → SideState
side_after side p there turn =
    told_pieces turn.out.pieces (record side { program = p; station = turn.now; there = there })

-- events of the link
pub linked :
    (w : BenchWords) (e : End) (c : Cause) (side : SideState) (p : ProgramState) (events made : List LinkStep)
    (queue : List LinkFrame) (there : List ℕ) (turn : Turn) (on : Bool) → SideSees w e side events queue
    → Says c e (begin side.station) made turn → Each IsWritten (messages_of e made)
    → Sees (told_all (messages_of e made) p) (seen_by_all (events ++ made) []) (runs_following false (events ++ made))
    → (asked_following false (events ++ made) ≡ true → GaveAll w.octets (told_all (messages_of e made) p))
    → ((told_all (messages_of e made) p).calls ≡ true → called_following false (events ++ made) ≡ false)
    → Each GivenUp made → Each AsksInSetUp made → Each ShortStep made → (is_there there ≡ true → HasProgram turn.now)
    → SideSees w e (side_after side p there turn) (events ++ made) (queue ++ framed on turn.out.queued)
linked w e c side p events made queue there turn on own says written sees asked calls given asks short has =
    let mid : SideState = record side { program = p; station = turn.now; there = there } in
    let told = pieces_told turn.out.pieces (messages_of e made) mid says.pieces written own.whole in
    record {
      owns = subst (OwnsAll e) (sym told.station) says.owns;
      there = λ is. subst HasProgram (sym told.station) (has (sym (ap is_there told.there) ∙ is));
      whole = told.whole;
      sees = subst (λ x. Sees x (seen_by_all (events ++ made) []) (runs_following false (events ++ made)))
          (sym told.program) sees;
      asked = λ is. subst (GaveAll w.octets) (sym told.program) (asked is);
      calls = λ is. calls (sym (ap (λ (x : ProgramState). x.calls) told.program) ∙ is);
      given = each_append GivenUp events made own.given given;
      asks = each_append AsksInSetUp events made own.asks asks;
      short = each_append ShortStep events made own.short short;
      queued = each_append (λ (f : LinkFrame). IsOwnFrame e f.octets) queue (framed on turn.out.queued) own.queued
          (own_framed e on turn.out.queued (subst (Each (IsOwnFrame e)) (sym says.queued) says.own));
    }

-- no event, and what the program is then
nothing_made :
    (w : BenchWords) (e : End) (side after : SideState) (events : List LinkStep) (queue : List LinkFrame) (on : Bool)
    (queued : List (List ℕ)) → SideSees w e side events queue → queued ≡ [] → OwnsAll e after.station
    → (is_there after.there ≡ true → HasProgram after.station) → IsWhole after.stream
    → Sees after.program (seen_by_all events []) (runs_following false events)
    → (asked_following false events ≡ true → GaveAll w.octets after.program)
    → (after.program.calls ≡ true → called_following false events ≡ false)
    → SideSees w e after (events ++ []) (queue ++ framed on queued)
nothing_made w e side after events queue on queued own none owns there whole sees asked calls =
    subst (SideSees w e after (events ++ [])) (sym (ap (λ xs. queue ++ framed on xs) none ∙ append-nil queue))
    (subst (λ xs. SideSees w e after xs queue) (sym (append-nil events)) (record {
      owns = owns;
      there = there;
      whole = whole;
      sees = sees;
      asked = asked;
      calls = calls;
      given = own.given;
      asks = own.asks;
      short = own.short;
      queued = own.queued;
    }))

-- a message of another kind is nothing to the program
pub told_other : (m : AgwMessage) (p : ProgramState) → m.kind ≡ register_kind → told_message m p ≡ p
told_other m p is =
    ap (λ k. cond (k == connect_kind) (opening p)
    (cond (k == data_kind) (getting m.body p) (cond (k == disconnect_kind) (closing p) p))) is

told_end : (m : AgwMessage) (p : ProgramState) → m.kind ≡ disconnect_kind → told_message m p ≡ closing p
told_end m p is =
    ap (λ k. cond (k == connect_kind) (opening p)
    (cond (k == data_kind) (getting m.body p) (cond (k == disconnect_kind) (closing p) p))) is

-- a reply to X
pub replied_sees :
    (w : BenchWords) (e : End) (side : SideState) (events : List LinkStep) (queue : List LinkFrame) (there : List ℕ)
    (turn : Turn) (on : Bool) → SideSees w e side events queue → Replied register_kind e (begin side.station) turn
    → (is_there there ≡ true → HasProgram turn.now)
    → SideSees w e (side_after side side.program there turn) (events ++ []) (queue ++ framed on turn.out.queued)
replied_sees w e side events queue there turn on own h has =
    let mid : SideState = record side { station = turn.now; there = there } in
    let told = pieces_told turn.out.pieces (h.reply ∷ []) mid h.pieces (h.written, tt) own.whole in
    let program : (side_after side side.program there turn).program ≡ side.program =
    told.program ∙ told_other h.reply side.program h.kind_is in
    nothing_made w e side (side_after side side.program there turn) events queue on turn.out.queued own h.queued
    (subst (OwnsAll e) (sym told.station) h.owns)
    (λ is. subst HasProgram (sym told.station) (has (sym (ap is_there told.there) ∙ is))) told.whole
    (subst (λ x. Sees x (seen_by_all events []) (runs_following false events)) (sym program) own.sees)
    (λ is. subst (GaveAll w.octets) (sym program) (own.asked is))
    (λ is. own.calls (sym (ap (λ (x : ProgramState). x.calls) program) ∙ is))

-- C is refused while no set-up runs
pub refused_sees :
    (w : BenchWords) (e : End) (side : SideState) (events : List LinkStep) (queue : List LinkFrame) (there : List ℕ)
    (turn : Turn) (on : Bool) → SideSees w e side events queue → Replied disconnect_kind e (begin side.station) turn
    → (is_there there ≡ true → HasProgram turn.now) → runs_following false events ≡ false
    → called_following false events ≡ false
    → SideSees w e (side_after side side.program there turn) (events ++ []) (queue ++ framed on turn.out.queued)
refused_sees w e side events queue there turn on own h has rests uncalled =
    let mid : SideState = record side { station = turn.now; there = there } in
    let told = pieces_told turn.out.pieces (h.reply ∷ []) mid h.pieces (h.written, tt) own.whole in
    let p = side.program in
    let program : (side_after side side.program there turn).program ≡ closing p =
    told.program ∙ told_end h.reply p h.kind_is in
    let sees : Sees (closing p) (seen_by_all events []) (runs_following false events) =
    record { set_ups = append-nil (set_ups_of p) ∙ own.sees.set_ups; runs_is = sym rests } in
    nothing_made w e side (side_after side side.program there turn) events queue on turn.out.queued own h.queued
    (subst (OwnsAll e) (sym told.station) h.owns)
    (λ is. subst HasProgram (sym told.station) (has (sym (ap is_there told.there) ∙ is))) told.whole
    (subst (λ x. Sees x (seen_by_all events []) (runs_following false events)) (sym program) sees)
    (λ is. subst (GaveAll w.octets) (sym program) tt) (λ is. uncalled)

-- a connection joins
pub joined_sees :
    (w : BenchWords) (e : End) (side : SideState) (events : List LinkStep) (queue : List LinkFrame) (there : List ℕ)
    (turn : Turn) (on : Bool) → SideSees w e side events queue → OwnsAll e turn.now → own_pieces turn.out.pieces ≡ []
    → turn.out.queued ≡ [] → (is_there there ≡ true → HasProgram turn.now)
    → SideSees w e (side_after side side.program there turn) (events ++ []) (queue ++ framed on turn.out.queued)
joined_sees w e side events queue there turn on own owns pieces queued has =
    let mid : SideState = record side { station = turn.now; there = there } in
    let told = pieces_told turn.out.pieces [] mid pieces tt own.whole in
    let program = told.program in
    nothing_made w e side (side_after side side.program there turn) events queue on turn.out.queued own queued
    (subst (OwnsAll e) (sym told.station) owns)
    (λ is. subst HasProgram (sym told.station) (has (sym (ap is_there told.there) ∙ is))) told.whole
    (subst (λ x. Sees x (seen_by_all events []) (runs_following false events)) (sym program) own.sees)
    (λ is. subst (GaveAll w.octets) (sym program) (own.asked is))
    (λ is. own.calls (sym (ap (λ (x : ProgramState). x.calls) program) ∙ is))
