-- In a run of the bench each host program sees the set-ups of its link: the first call, and then tick by tick.
use Rattle.channel_bench.proofs.Common.{◌≡◌, ℕ, zero, suc, ◌+◌, ◌≤◌, Bool, true, false, List, [], ◌∷◌, ◌++◌, map, cond}
use Rattle.channel_bench.proofs.Common.{None, refl, sym, ap, ◌∙◌, subst, arith, ⊤, MatchBool, ne_eqb, append-nil, End}
use Rattle.channel_bench.proofs.Common.{A, B, HostEvent, Bytes, Turn, begin, BenchWords, AreTicks, BenchState, Near}
use Rattle.channel_bench.proofs.Common.{SideState, near, new_bench, with_near, IsStep, IsTold, program_id, there_after}
use Rattle.channel_bench.proofs.Common.{ArePartsMade, IsPart, IsTick, Part, beginning, each_tick, joins, parts_of}
use Rattle.channel_bench.proofs.Common.{sets_duplex, sets_full_duplex, Closes, Tells, ProgramState, connect_octets}
use Rattle.channel_bench.proofs.Common.{Steps, IsTurn, FromHost, LinkStep, steps_of, turn_steps, ticked, called_following}
use Rattle.std.specs.List.{AllByRecursion as Each}
use Rattle.link_machine.specs.Event.{Event as LinkEvent}
use Rattle.link_machine.specs.Event.Event.{Connect as LinkConnect, Send as LinkSend, Disconnect as LinkDisconnect}
use Rattle.link_machine.specs.Event.Event.{Hear as LinkHear, Seize as LinkSeize, Tick as LinkTick}
use Rattle.channel_bench.proofs.BenchSees.{Holds, HoldsNear, Premises, asks_or_calls_holds, at_end_holds, both_of}
use Rattle.channel_bench.proofs.BenchSees.{closes_hold, front, gives_hold, listens_hold, near_holds, near_there}
use Rattle.channel_bench.proofs.BenchSees.{new_holds, sounds_hold, ticks_hold}
use Rattle.channel_bench.proofs.CoreRun.{Occurs, Usual, input_of}
use Rattle.channel_bench.proofs.CoreRun.Usual.{connects, disconnects, gives, hears, joins_kiss, joins_program}
use Rattle.channel_bench.proofs.CoreRun.Usual.{registers, sets_full, ticks}
use Rattle.channel_bench.proofs.HostStreams.{IsWhole}
use Rattle.channel_bench.proofs.HostsStay.{HasHosts}
use Rattle.channel_bench.proofs.LinkNow.{links_of}
use Rattle.channel_bench.proofs.NextSees.{noted_step, own_events}
use Rattle.channel_bench.proofs.OwnLinks.{IsBy, OwnsAll, chosen, messages_of, piece_to}
use Rattle.channel_bench.proofs.OwnMessages.{Comes, usual_comes}
use Rattle.channel_bench.proofs.OwnMessages.Comes.{by_link, joined, refused, replied}
use Rattle.channel_bench.proofs.ProgramSees.{pieces_told}
use Rattle.channel_bench.proofs.RunOfParts.{IsCalm, parted}
use Rattle.channel_bench.proofs.SideSees.{side_after, told_other}
use Rattle.channel_bench.proofs.StepSees.{IsReady, links_more, unshown_of}
use Rattle.station_laws.proofs.Causes.{cause_of}
use Rattle.station_laws.proofs.Causes.Cause.{nothing}
use Rattle.channel_bench.proofs.FindsNear.{takes_told}

-- ---- before the first call

-- A has not called, and is not to call again
abbrev pub Early : BenchWords → BenchState → Type 0
Early w bench =
    Premises bench.common.moments
    → (bench.a.program.calls ≡ false) × (called_following false (links_of A bench.common.moments) ≡ false)

abbrev EarlyNear : BenchWords → BenchState → End → Near → Type 0
EarlyNear w bench e n = Early w (with_near e n bench)

-- what comes from a connection before that
abbrev IsFront : Usual → Type 0
IsFront joins_kiss = ⊤
IsFront sets_full = ⊤
IsFront joins_program = ⊤
IsFront registers = ⊤
IsFront connects = ⊥
IsFront (gives piece) = ⊥
IsFront disconnects = ⊥
IsFront (hears octets) = ⊥
IsFront (ticks busy) = ⊥

none_by : (made : List LinkStep) → Each (IsBy nothing) made → made ≡ []
none_by [] h = refl
none_by (step ∷ made) h = absurd (never step.event h.0)
  where
    never : (event : LinkEvent) → cause_of event ≡ nothing → ⊥
    never LinkConnect is = cc
    never (LinkSend packet) is = cc
    never LinkDisconnect is = cc
    never (LinkHear frame) is = cc
    never (LinkTick waiting) is = cc
    never (LinkSeize last full) is = cc

-- then the link has no event, and the program is as it was
quiet_comes :
    (e : End) (side : SideState) (there : List ℕ) (made : List LinkStep) (turn : Turn) → IsWhole side.stream
    → Comes nothing ⊥ e (begin side.station) made turn
    → (made ≡ []) × ((side_after side side.program there turn).program ≡ side.program)
quiet_comes e side there made turn whole (by_link says) =
    let none = none_by made says.causes in
    let mid : SideState = record side { station = turn.now; there = there } in (
      none,
      (pieces_told turn.out.pieces [] mid (says.pieces ∙ ap (λ xs. map piece_to (messages_of e xs)) none)
          tt whole).program,
    )
quiet_comes e side there made turn whole (replied reply none) =
    let mid : SideState = record side { station = turn.now; there = there } in (
      none,
      (pieces_told turn.out.pieces (reply.reply ∷ []) mid reply.pieces (reply.written, tt) whole).program
          ∙ told_other reply.reply side.program reply.kind_is,
    )
quiet_comes e side there made turn whole (refused may reply none) = absurd may
quiet_comes e side there made turn whole (joined owns pieces queued none) =
    let mid : SideState = record side { station = turn.now; there = there } in
    (none, (pieces_told turn.out.pieces [] mid pieces tt whole).program)

hosts_near : (w : BenchWords) (bench : BenchState) (e : End) (n : Near) → HoldsNear w bench e n
    → HasHosts n.side.station
hosts_near w bench A n h = h.little.a
hosts_near w bench B n h = h.little.b

-- for each of them
front_comes :
    (e : End) (usual : Usual) (side : SideState) (after : Turn) → IsFront usual → Occurs e usual → HasHosts side.station
    → OwnsAll e side.station → (turn : IsTurn (input_of e usual) (begin side.station) after)
    → Comes nothing ⊥ e (begin side.station) (turn_steps (chosen e) (input_of e usual) (begin side.station) after turn)
    after
front_comes e joins_kiss side after f occurs hosts owns turn =
    usual_comes e joins_kiss side.station after occurs hosts owns
    (unshown_of side.station.connections hosts.connections) tt turn
front_comes e sets_full side after f occurs hosts owns turn =
    usual_comes e sets_full side.station after occurs hosts owns (unshown_of side.station.connections hosts.connections)
    tt turn
front_comes e joins_program side after f occurs hosts owns turn =
    usual_comes e joins_program side.station after occurs hosts owns
    (unshown_of side.station.connections hosts.connections) tt turn
front_comes e registers side after f occurs hosts owns turn =
    usual_comes e registers side.station after occurs hosts owns (unshown_of side.station.connections hosts.connections)
    tt turn
front_comes e connects side after f occurs hosts owns turn = absurd f
front_comes e (gives piece) side after f occurs hosts owns turn = absurd f
front_comes e disconnects side after f occurs hosts owns turn = absurd f
front_comes e (hears octets) side after f occurs hosts owns turn = absurd f
front_comes e (ticks busy) side after f occurs hosts owns turn = absurd f

front_ready : (w : BenchWords) (usual : Usual) (p : ProgramState) (events : List LinkStep) → IsFront usual
    → IsReady w usual p events
front_ready w joins_kiss p events f = tt
front_ready w sets_full p events f = tt
front_ready w joins_program p events f = tt
front_ready w registers p events f = tt
front_ready w connects p events f = absurd f
front_ready w (gives piece) p events f = absurd f
front_ready w disconnects p events f = absurd f
front_ready w (hears octets) p events f = absurd f
front_ready w (ticks busy) p events f = absurd f

quiet_step :
    (w : BenchWords) (bench : BenchState) (e : End) (usual : Usual) (before after : Near) → IsFront usual
    → Occurs e usual
    → (h : IsStep e (input_of e usual) None before after) → HoldsNear w bench e before → Premises before.common.moments
    → (steps_of (chosen e) (noted_step e usual None before after h) ≡ []) × (after.side.program ≡ before.side.program)
quiet_step w bench e usual before after f occurs h holds p =
    let own = (both_of w bench e before holds p).own in
    let there = there_after (input_of e usual) h.turn.out.closed before.side.there in
    let q = quiet_comes e before.side there (steps_of (chosen e) (noted_step e usual None before after h))
    h.turn own.whole
    (front_comes e usual before.side h.turn f occurs (hosts_near w bench e before holds) own.owns h.makes) in
    (q.0, ap (λ (n : Near). n.side.program) h.is ∙ q.1)

early_step :
    (w : BenchWords) (bench : BenchState) (e : End) (usual : Usual) (before after : Near) → IsFront usual
    → Occurs e usual
    → IsStep e (input_of e usual) None before after → HoldsNear w bench e before → EarlyNear w bench e before
    → EarlyNear w bench e after
early_step w bench A usual before after f occurs h holds early = λ p.
    let moments = before.common.moments in
    let step = noted_step A usual None before after h in
    let next = moments ++ Steps step None ∷ [] in
    let is : after.common.moments ≡ next = ap (λ (n : Near). n.common.moments) h.is in
    let old = front moments step None (subst Premises is p) in
    let quiet = quiet_step w bench A usual before after f occurs h holds old in
    let links : links_of A after.common.moments ≡ links_of A moments =
    ap (links_of A) is ∙ own_events A moments step None refl ∙ ap (λ xs. links_of A moments ++ xs) quiet.0
    ∙ append-nil (links_of A moments) in (
      ap (λ (x : ProgramState). x.calls) quiet.1 ∙ (early old).0,
      ap (called_following false) links ∙ (early old).1,
    )
early_step w bench B usual before after f occurs h holds early = λ p.
    let moments = before.common.moments in
    let step = noted_step B usual None before after h in
    let next = moments ++ Steps step None ∷ [] in
    let is : after.common.moments ≡ next = ap (λ (n : Near). n.common.moments) h.is in
    let old = front moments step None (subst Premises is p) in
    let links : links_of A after.common.moments ≡ links_of A moments =
    ap (links_of A) is ∙ links_more A moments step None ∙ append-nil (links_of A moments) in
    ((early old).0, ap (called_following false) links ∙ (early old).1)

-- ---- the phases of a run

pub data Phase : Type 0 where
  -- before the first call
  begins : Phase
  -- after it
  goes : Phase
  -- a tick is made
  made : Phase

abbrev pub Stands : BenchWords → Phase → BenchState → Type 0
Stands w begins bench = Holds w bench × Early w bench
Stands w goes bench = Holds w bench
Stands w made bench = Holds w bench × (1 ≤ bench.ticks)

abbrev pub Leads : BenchWords → Phase → Part → Phase → Type 0
Leads w f part g =
    (before after : BenchState) → IsPart w part before after → IsCalm after → Stands w f before → Stands w g after

abbrev pub AllLead : BenchWords → Phase → List Part → Phase → Type 0
AllLead w f [] g = f ≡ g
AllLead w f (part ∷ parts) g = (h : Phase) × Leads w f part h × AllLead w h parts g

lead_append : (w : BenchWords) (f g h : Phase) (first second : List Part) → AllLead w f first g → AllLead w g second h
    → AllLead w f (first ++ second) h
lead_append w f g h [] second one two = subst (λ x. AllLead w x second h) (sym one) two
lead_append w f g h (part ∷ first) second one two = (one.0, one.1, lead_append w one.0 g h first second one.2 two)

parts_lead :
    (w : BenchWords) (f g : Phase) (parts : List Part) → AllLead w f parts g → (before after : BenchState)
    → ArePartsMade w parts before after → IsCalm after → Stands w f before → Stands w g after
parts_lead w f g [] lead before after h calm stands =
    subst (Stands w g) (sym h) (subst (λ x. Stands w x before) lead stands)
parts_lead w f g (part ∷ parts) lead before after h calm stands =
    let p = parted w part parts before after h calm in
    parts_lead w lead.0 g parts lead.2 p.between after p.rest calm (lead.1 before p.between p.first p.calm stands)

-- ---- what connections tell at first

early_there : (w : BenchWords) (e : End) (bench : BenchState) → Early w bench → EarlyNear w bench e (near e bench)
early_there w A bench h = h
early_there w B bench h = h

near_again : (w : BenchWords) (e : End) (n : Near) (before after : BenchState) → after ≡ with_near e n before
    → HoldsNear w before e n → EarlyNear w before e n → Stands w begins after
near_again w e n before after is holds early =
    subst (Stands w begins) (sym is) (holds, early)

tells_lead :
    (w : BenchWords) (e : End) (usual : Usual) (event : HostEvent) → FromHost event ≡ input_of e usual → IsFront usual
    → Occurs e usual → Leads w begins (Tells e event) begins
tells_lead w e usual event is f occurs before after part calm stands =
    let next = part.next in
    let c : next.common.trouble ≡ None =
    calm_near e before next ∙ sym (ap (λ (b : BenchState). b.common.trouble) part.is) ∙ calm in
    go part.step.may refl part.step.told c
  where
    n : Near
    n = near e before

    holds : HoldsNear w before e n
    holds = near_there w e before stands.0

    early : EarlyNear w before e n
    early = early_there w e before stands.1

    calm_near : (x : End) (b : BenchState) (k : Near) → k.common.trouble ≡ (with_near x k b).common.trouble
    calm_near A b k = refl
    calm_near B b k = refl

    go : (b : Bool) → part.step.may ≡ b → MatchBool b (IsStep e (FromHost event) None n part.next) (part.next ≡ n)
        → part.next.common.trouble ≡ None → Stands w begins after
    go true may h c =
        let k = subst (λ input. IsStep e input None n part.next) is h in
        near_again w e part.next before after part.is
        (near_holds w before e usual None n part.next occurs
        (takes_told usual e event n.side is (part.step.exactly.0 may)) k c holds
        (λ p. front_ready w usual n.side.program (links_of e n.common.moments) f))
        (early_step w before e usual n part.next f occurs k holds early)
    go false may h c =
        near_again w e part.next before after part.is (subst (HoldsNear w before e) (sym h) holds)
        (subst (EarlyNear w before e) (sym h) early)

-- A calls
call_leads : (w : BenchWords) → Leads w begins (Tells A (Bytes program_id (connect_octets A))) goes
call_leads w before after part calm stands =
    at_end_holds w A (IsTold A (Bytes program_id (connect_octets A))) before after
    (λ next told c kept. go next told told.may refl told.told c kept) part calm stands.0
  where
    event : HostEvent
    event = Bytes program_id (connect_octets A)

    go : (next : Near) (told : IsTold A event (near A before) next) (b : Bool) → told.may ≡ b
        → MatchBool b (IsStep A (input_of A connects) None (near A before) next) (next ≡ near A before)
        → next.common.trouble ≡ None → HoldsNear w before A (near A before) → HoldsNear w before A next
    go next told true may h c kept =
        near_holds w before A connects None (near A before) next tt
        (takes_told connects A event (near A before).side refl (told.exactly.0 may)) h c kept (λ p. stands.1 p)
    go next told false may h c kept = subst (HoldsNear w before A) (sym h) kept

duplex_leads : (w : BenchWords) (e : End) → AllLead w begins (sets_full_duplex e) begins
unfolding sets_full_duplex
duplex_leads w e = (
  begins,
  tells_lead w e joins_kiss _ refl tt tt,
  (begins, tells_lead w e sets_full _ refl tt tt, refl),
)

joins_lead : (w : BenchWords) (e : End) → AllLead w begins (joins e) begins
unfolding joins
joins_lead w e = (
  begins,
  tells_lead w e joins_program _ refl tt tt,
  (begins, tells_lead w e registers _ refl tt tt, refl),
)

beginning_leads : (w : BenchWords) → AllLead w begins (beginning w) goes
unfolding beginning sets_duplex
beginning_leads w =
    lead_append w begins begins goes _ _ (duplex w.full)
    (lead_append w begins begins goes (joins A) _ (joins_lead w A)
    (lead_append w begins begins goes (joins B) _ (joins_lead w B) (goes, call_leads w, refl)))
  where
    duplex : (b : Bool) → AllLead w begins (cond b (sets_full_duplex A ++ sets_full_duplex B) []) begins
    duplex true = lead_append w begins begins begins (sets_full_duplex A) (sets_full_duplex B) (duplex_leads w A)
        (duplex_leads w B)
    duplex false = refl

-- ---- a tick

closes_lead : (w : BenchWords) → Leads w goes Closes made
unfolding ticked
closes_lead w before after part calm holds =
    (subst (Holds w) (sym part) (closes_hold w before holds), subst (λ (b : BenchState). 1 ≤ b.ticks) (sym part) more)
  where
    more : 1 ≤ before.ticks + 1
    more = omega arith

tick_leads : (w : BenchWords) → AllLead w goes each_tick made
unfolding each_tick
tick_leads w = (
  goes,
  (λ before after part calm holds. gives_hold w A before after part calm holds),
  (
    goes,
    (λ before after part calm holds. asks_or_calls_holds w before after part calm holds),
    (
      goes,
      (λ before after part calm holds. gives_hold w B before after part calm holds),
      (
        goes,
        (λ before after part calm holds. ticks_hold w A before after part calm holds),
        (
          goes,
          (λ before after part calm holds. ticks_hold w B before after part calm holds),
          (
            goes,
            (λ before after part calm holds. subst (Holds w) (sym part) (sounds_hold w before holds)),
            (
              goes,
              (λ before after part calm holds. listens_hold w A before after part calm holds),
              (
                goes,
                (λ before after part calm holds. listens_hold w B before after part calm holds),
                (made, closes_lead w, refl),
              ),
            ),
          ),
        ),
      ),
    ),
  ),
)

-- ---- a run

-- at first, and after each tick
abbrev pub After : BenchWords → ℕ → BenchState → Type 0
After w zero bench = bench ≡ new_bench w
After w (suc count) bench = Stands w made bench

pub new_stands : (w : BenchWords) → Stands w begins (new_bench w)
new_stands w = (new_holds w, λ p. (refl, refl))

pub first_parts : (w : BenchWords) (tick : ℕ) → tick ≡ 0 → AllLead w begins (parts_of w tick) made
first_parts w tick is =
    subst (λ n. AllLead w begins (parts_of w n) made) (sym is)
    (lead_append w begins goes made (beginning w) each_tick (beginning_leads w) (tick_leads w))

pub later_parts : (w : BenchWords) (tick : ℕ) → 1 ≤ tick → AllLead w goes (parts_of w tick) made
later_parts w tick h =
    subst (λ b. AllLead w goes (cond b (beginning w ++ each_tick) each_tick) made)
    (sym (ne_eqb tick 0 (λ is. omega arith))) (tick_leads w)

tick_stands :
    (w : BenchWords) (count : ℕ) (before bench : BenchState) → ArePartsMade w (parts_of w before.ticks) before bench
    → IsCalm bench → After w count before → Stands w made bench
tick_stands w zero before bench made_parts calm is =
    parts_lead w begins made (parts_of w before.ticks)
    (first_parts w before.ticks (ap (λ (b : BenchState). b.ticks) is))
    before bench made_parts calm (subst (Stands w begins) (sym is) (new_stands w))
tick_stands w (suc count) before bench made_parts calm stands =
    parts_lead w goes made (parts_of w before.ticks) (later_parts w before.ticks stands.1) before bench made_parts calm
    stands.0

pub following_ticks : (w : BenchWords) (count : ℕ) (bench : BenchState) → AreTicks w count bench → IsCalm bench
    → After w count bench
unfolding IsTick
following_ticks w zero bench h calm = h
following_ticks w (suc count) bench h calm =
    tick_stands w count h.0 bench h.3 calm (following_ticks w count h.0 h.1 h.2.no_trouble)

pub run_sees : (w : BenchWords) (count : ℕ) (bench : BenchState) → AreTicks w count bench → IsCalm bench → Holds w bench
run_sees w zero bench h calm = subst (Holds w) (sym h) (new_holds w)
run_sees w (suc count) bench h calm = (following_ticks w (suc count) bench h calm).0
