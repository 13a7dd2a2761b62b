-- A step of a station of the bench keeps what its host program has seen of its link.
use Rattle.channel_bench.proofs.Common.{◌≡◌, ℕ, Bool, true, false, List, [], ◌∷◌, ◌++◌, Option, is_some, refl, sym, ap}
use Rattle.channel_bench.proofs.Common.{◌∙◌, subst, Machine, End, A, B, other, each_append, StationState, Turn, begin}
use Rattle.channel_bench.proofs.Common.{BenchWords, Near, SideState, IsStep, there_after, ProgramState, told_all}
use Rattle.channel_bench.proofs.Common.{Moment, after_moments, hears_ask, nothing_sent, sent_by, Steps, IsTurn, Step}
use Rattle.channel_bench.proofs.Common.{Stations, at_end, state_of, with_state, LinkStep, steps_of, turn_steps, RunsIn}
use Rattle.channel_bench.proofs.Common.{runs_following, seen_by_all, IsChain, asked_following, after_append, called_following}
use Rattle.channel_bench.proofs.Common.{chain_parts, last_machine, framed, is_connect, is_disconnect}
use Rattle.std.specs.List.{AllByRecursion as Each}
use Rattle.channel_bench.proofs.CoreRun.{Occurs, Usual, input_of}
use Rattle.channel_bench.proofs.CoreRun.Usual.{connects, disconnects, gives, hears, joins_kiss, joins_program}
use Rattle.channel_bench.proofs.CoreRun.Usual.{registers, sets_full, ticks}
use Rattle.channel_bench.proofs.HostsStay.{HasHosts}
use Rattle.channel_bench.proofs.LinkNow.{GivenUp, Known, LinkNow, first_machine, link_chain, link_now, links_of}
use Rattle.channel_bench.proofs.OwnLinks.{IsBy, chosen, messages_of}
use Rattle.channel_bench.proofs.OwnMessages.{Comes, IsRefusable, cause_in, usual_comes}
use Rattle.channel_bench.proofs.OwnMessages.Comes.{by_link, joined, refused, replied}
use Rattle.channel_bench.proofs.ProgramSees.{GaveAll, GivesNothing, Sees, steps_see}
use Rattle.channel_bench.proofs.ProgramsAsk.{hosts_at}
use Rattle.channel_bench.proofs.Shorts.{ShortStep, steps_written}
use Rattle.channel_bench.proofs.SideSees.{SideSees, by_connect, by_disconnect, by_gives, joined_sees, linked}
use Rattle.channel_bench.proofs.SideSees.{none_given_up, none_short, refused_sees, replied_sees, side_after}
use Rattle.channel_bench.proofs.StepSees.{IsReady, SeesAt, Wishes, connect_wishes, connects_one, disconnect_wishes}
use Rattle.channel_bench.proofs.StepSees.{disconnects_one, far_sees, heard_from, links_more, matched_last, not_sending}
use Rattle.channel_bench.proofs.StepSees.{plain_wishes, queue_more, queue_of, runs_set_up, step_laws, uncalled_rests}
use Rattle.channel_bench.proofs.StepSees.{unshown_of}
use Rattle.channel_bench.proofs.ThereStays.{HasProgram, is_there, there_grows}
use Rattle.station_laws.proofs.Causes.{Cause}
use Rattle.station_laws.proofs.Causes.Cause.{nothing, connecting, sending, disconnecting, hearing, ticking}
use Rattle.link_world.proofs.law.Each.{each_weaker}
use Rattle.station_laws.proofs.SeenLemmas.{seen_append}

-- the step as it is noted
abbrev pub noted_step : (e : End) (usual : Usual) (matched : Option ℕ) (before after : Near)
    → IsStep e (input_of e usual) matched before after → Step
noted_step e usual matched before after h = record {
  station = e;
  input = input_of e usual;
  before = before.side.station;
  after = h.turn;
  turn = h.makes;
  octets = h.octets;
}

-- what both sides have seen after it
pub record BothSee (w : BenchWords) (e : End) (side far : SideState) (moments : List Moment) : Type 0 where
  pub own : SeesAt w e side moments
  pub far_sees : SeesAt w (other e) far moments

pub own_events : (e : End) (moments : List Moment) (step : Step) (found : Option ℕ) → step.station ≡ e
    → links_of e (moments ++ Steps step found ∷ []) ≡ links_of e moments ++ steps_of (chosen step.station) step
own_events e moments step found is =
    let made = steps_of (chosen step.station) step in
    links_more e moments step found ∙ ap (λ (x : End). links_of e moments ++ at_end x step.station made) (sym is)
    ∙ ap (λ xs. links_of e moments ++ xs) (same step.station made)
  where
    same : (x : End) (xs : List LinkStep) → at_end x x xs ≡ xs
    same A xs = refl
    same B xs = refl

pub own_queue : (e : End) (moments : List Moment) (step : Step) (found : Option ℕ) → step.station ≡ e
    → queue_of e (moments ++ Steps step found ∷ [])
    ≡ queue_of e moments ++ framed (hears_ask step.input) step.after.out.queued
own_queue e moments step found is =
    let frames = framed (hears_ask step.input) step.after.out.queued in
    queue_more e moments step found ∙ ap (λ (x : End). queue_of e moments ++ at_end x step.station frames) (sym is)
    ∙ ap (λ xs. queue_of e moments ++ xs) (same step.station frames)
  where
    same : {T : Type 0} (x : End) (xs : List T) → at_end x x xs ≡ xs
    same A xs = refl
    same B xs = refl

-- ---- the events by which a step is not told to give

no_disconnects : (c : Cause) → (c ≡ disconnecting → ⊥) → (made : List LinkStep) → Each (IsBy c) made
    → Each (λ (x : LinkStep). is_disconnect x.event ≡ false) made
no_disconnects c other made by =
    each_weaker (IsBy c) (λ (x : LinkStep). is_disconnect x.event ≡ false) (λ x is. by_disconnect c other x.event is)
    made by

no_connects : (c : Cause) → (c ≡ connecting → ⊥) → (made : List LinkStep) → Each (IsBy c) made
    → Each (λ (x : LinkStep). is_connect x.event ≡ false) made
no_connects c other made by =
    each_weaker (IsBy c) (λ (x : LinkStep). is_connect x.event ≡ false) (λ x is. by_connect c other x.event is) made by

-- what is asked for and called in it
wishes_of :
    (w : BenchWords) (e : End) (usual : Usual) (s : StationState) (after : Turn) (p : ProgramState)
    (events : List LinkStep) (last : Machine) → HasHosts s → (turn : IsTurn (input_of e usual) (begin s) after)
    → let made = turn_steps (chosen e) (input_of e usual) (begin s) after turn in
    IsReady w usual p events → Each (IsBy (cause_in usual)) made
    → (asked_following false events ≡ true → GaveAll w.octets p) → (p.calls ≡ true → called_following false events ≡ false)
    → RunsIn (runs_following false events) last.control.state → is_some p.running ≡ runs_following false events
    → IsChain last made → Wishes w e p events made
wishes_of w e joins_kiss s after p events last hosts turn ready by asked calls runs is chain =
    let made = turn_steps (chosen e) (input_of e joins_kiss) (begin s) after turn in
    plain_wishes w e p events made (no_disconnects nothing (λ x. cc) made by) (no_connects nothing (λ x. cc) made by)
    asked calls
wishes_of w e sets_full s after p events last hosts turn ready by asked calls runs is chain =
    let made = turn_steps (chosen e) (input_of e sets_full) (begin s) after turn in
    plain_wishes w e p events made (no_disconnects nothing (λ x. cc) made by) (no_connects nothing (λ x. cc) made by)
    asked calls
wishes_of w e joins_program s after p events last hosts turn ready by asked calls runs is chain =
    let made = turn_steps (chosen e) (input_of e joins_program) (begin s) after turn in
    plain_wishes w e p events made (no_disconnects nothing (λ x. cc) made by) (no_connects nothing (λ x. cc) made by)
    asked calls
wishes_of w e registers s after p events last hosts turn ready by asked calls runs is chain =
    let made = turn_steps (chosen e) (input_of e registers) (begin s) after turn in
    plain_wishes w e p events made (no_disconnects nothing (λ x. cc) made by) (no_connects nothing (λ x. cc) made by)
    asked calls
wishes_of w e connects s after p events last hosts turn ready by asked calls runs is chain =
    let made = turn_steps (chosen e) (input_of e connects) (begin s) after turn in
    connect_wishes w e p events made (no_disconnects connecting (λ x. cc) made by) (connects_one e s after hosts turn)
    asked
    ready.0
wishes_of w e (gives piece) s after p events last hosts turn ready by asked calls runs is chain = absurd ready
wishes_of w e disconnects s after p events last hosts turn ready by asked calls runs is chain =
    let made = turn_steps (chosen e) (input_of e disconnects) (begin s) after turn in
    disconnect_wishes w e p events made last (no_connects disconnecting (λ x. cc) made by)
    (disconnects_one e s after hosts turn) ready.0 calls
    (runs_set_up (runs_following false events) last.control.state runs (sym is ∙ ready.1)) chain
wishes_of w e (hears octets) s after p events last hosts turn ready by asked calls runs is chain =
    let made = turn_steps (chosen e) (input_of e (hears octets)) (begin s) after turn in
    plain_wishes w e p events made (no_disconnects hearing (λ x. cc) made by) (no_connects hearing (λ x. cc) made by)
    asked calls
wishes_of w e (ticks busy) s after p events last hosts turn ready by asked calls runs is chain =
    let made = turn_steps (chosen e) (input_of e (ticks busy)) (begin s) after turn in
    plain_wishes w e p events made (no_disconnects ticking (λ x. cc) made by) (no_connects ticking (λ x. cc) made by)
    asked calls

-- C is refused while no set-up runs, and the link was not called
refusal_rests :
    (w : BenchWords) (e : End) (usual : Usual) (moments : List Moment) (s : Stations) (p : ProgramState)
    → Occurs e usual
    → IsRefusable usual → IsReady w usual p (links_of e moments) → LinkNow w moments s e
    → (runs_following false (links_of e moments) ≡ false) × (called_following false (links_of e moments) ≡ false)
refusal_rests w e joins_kiss moments s p occurs may ready now = absurd may
refusal_rests w e sets_full moments s p occurs may ready now = absurd may
refusal_rests w e joins_program moments s p occurs may ready now = absurd may
refusal_rests w e registers moments s p occurs may ready now = absurd may
refusal_rests w A connects moments s p occurs may ready now =
    let events = links_of A moments in
    let last = last_machine (first_machine w A) events in (
      uncalled_rests (called_following false events) (runs_following false events) last.control.state (now.called refl)
          now.runs
          ready.1,
      ready.1,
    )
refusal_rests w B connects moments s p occurs may ready now = absurd occurs
refusal_rests w e (gives piece) moments s p occurs may ready now = absurd may
refusal_rests w e disconnects moments s p occurs may ready now = absurd may
refusal_rests w e (hears octets) moments s p occurs may ready now = absurd may
refusal_rests w e (ticks busy) moments s p occurs may ready now = absurd may

-- ---- a step that gives nothing

-- the side after what comes
came :
    (w : BenchWords) (e : End) (usual : Usual) (moments next : List Moment) (s t : Stations) (side far : SideState)
    (there : List ℕ) (turn : Turn) (on : Bool) (made : List LinkStep) → SeesAt w e side moments → Known w next t
    → links_of e next ≡ links_of e moments ++ made → SeesAt w (other e) far next → LinkNow w moments s e
    → (is_there there ≡ true → HasProgram turn.now)
    → (IsRefusable usual → IsReady w usual side.program (links_of e moments) → LinkNow w moments s e
    → (runs_following false (links_of e moments) ≡ false) × (called_following false (links_of e moments) ≡ false))
    → (Each (IsBy (cause_in usual)) made → IsChain (last_machine (first_machine w e) (links_of e moments)) made
    → Wishes w e side.program (links_of e moments) made)
    → (cause_in usual ≡ sending → ⊥) → IsReady w usual side.program (links_of e moments)
    → Comes (cause_in usual) (IsRefusable usual) e (begin side.station) made turn
    → SideSees w e (side_after side side.program there turn) (links_of e moments ++ made)
    (queue_of e moments ++ framed on turn.out.queued)
came w e usual moments next s t side far there turn on made own later links far_next now has rests wishes not_gives
    ready (by_link says) =
    let p = side.program in
    let events = links_of e moments in
    let c = cause_in usual in
    let none : Each (λ (x : LinkStep). GivesNothing x.event) made =
    each_weaker (IsBy c) (λ (x : LinkStep). GivesNothing x.event) (λ x is. by_gives c not_gives x.event is)
    made says.causes in
    let given = each_weaker (λ (x : LinkStep). GivesNothing x.event) GivenUp none_given_up made none in
    let short = each_weaker (λ (x : LinkStep). GivesNothing x.event) ShortStep none_short made none in
    let laws = step_laws w e moments next t side far p made later links far_next
    (each_append GivenUp events made own.given given) (each_append ShortStep events made own.short short) own.sees in
    let chain = (chain_parts (first_machine w e) events made
    (subst (IsChain (first_machine w e)) links (link_chain w next t later e))).1 in
    let wish = wishes says.causes chain in
    let seen = seen_by_all events [] in
    let sees : Sees (told_all (messages_of e made) p) (seen_by_all (events ++ made) [])
    (runs_following false (events ++ made)) =
    subst (λ xs. Sees (told_all (messages_of e made) p) xs (runs_following false (events ++ made)))
    (sym (seen_append events made []))
    (subst (Sees (told_all (messages_of e made) p) (seen_by_all made seen)) (sym (after_append false events made))
    (steps_see e made p seen (runs_following false events) none laws.told own.sees)) in
    linked w e c side p events made (queue_of e moments) there turn on own says (steps_written e made laws.short) sees
    wish.asked wish.calls given wish.asks short has
came w e usual moments next s t side far there turn on made own later links far_next now has rests wishes not_gives
    ready (replied reply none) =
    subst (λ xs. SideSees w e (side_after side side.program there turn) (links_of e moments ++ xs)
    (queue_of e moments ++ framed on turn.out.queued)) (sym none)
    (replied_sees w e side (links_of e moments) (queue_of e moments) there turn on own reply has)
came w e usual moments next s t side far there turn on made own later links far_next now has rests wishes not_gives
    ready (refused may reply none) =
    let calm = rests may ready now in
    subst (λ xs. SideSees w e (side_after side side.program there turn) (links_of e moments ++ xs)
    (queue_of e moments ++ framed on turn.out.queued)) (sym none)
    (refused_sees w e side (links_of e moments) (queue_of e moments) there turn on own reply has calm.0 calm.1)
came w e usual moments next s t side far there turn on made own later links far_next now has rests wishes not_gives
    ready (joined owns pieces queued none) =
    subst (λ xs. SideSees w e (side_after side side.program there turn) (links_of e moments ++ xs)
    (queue_of e moments ++ framed on turn.out.queued)) (sym none)
    (joined_sees w e side (links_of e moments) (queue_of e moments) there turn on own owns pieces queued has)

pub step_sees :
    (w : BenchWords) (e : End) (usual : Usual) (matched : Option ℕ) (before after : Near) (far : SideState)
    (s : Stations)
    → Occurs e usual → (h : IsStep e (input_of e usual) matched before after) → before.side.station ≡ state_of e s
    → Known w before.common.moments s
    → Known w (before.common.moments ++ Steps (noted_step e usual matched before after h) matched ∷ [])
    (with_state e after.side.station s)
    → BothSee w e before.side far before.common.moments
    → IsReady w usual before.side.program (links_of e before.common.moments)
    → BothSee w e after.side far (before.common.moments ++ Steps (noted_step e usual matched before after h) matched
    ∷ [])
step_sees w e usual matched before after far s occurs h at known later both ready =
    let side = before.side in
    let p = side.program in
    let moments = before.common.moments in
    let step = noted_step e usual matched before after h in
    let next = moments ++ Steps step matched ∷ [] in
    let events = links_of e moments in
    let own = both.own in
    let made = steps_of (chosen e) step in
    let there = there_after (input_of e usual) h.turn.out.closed side.there in
    let hosts : HasHosts side.station = subst HasHosts (sym at) (hosts_at e s known.little.a known.little.b) in
    let from = heard_from e usual matched (sent_by (other e) (after_moments moments nothing_sent))
    (matched_last moments (Steps step matched) nothing_sent later.matched) both.far_sees.queued in
    let comes = usual_comes e usual side.station h.turn occurs hosts own.owns
    (unshown_of side.station.connections hosts.connections)
    from h.makes in
    let far_next = far_sees w e far moments step matched refl both.far_sees in
    let links : links_of e next ≡ events ++ made = own_events e moments step matched refl in
    let now : LinkNow w moments s e = link_now w moments s known e own.asks in
    let has = there_grows e usual side.station h.turn side.there occurs hosts h.makes own.there in
    let done : SideSees w e (side_after side p there h.turn) (events ++ made)
    (queue_of e moments ++ framed (hears_ask step.input) h.turn.out.queued) =
    came w e usual moments next s (with_state e after.side.station s) side far there h.turn (hears_ask step.input)
    made own
    later links far_next now has (refusal_rests w e usual moments s p occurs)
    (λ by chain. wishes_of w e usual side.station h.turn p events (last_machine (first_machine w e) events)
    hosts h.makes
    ready by own.asked own.calls now.runs own.sees.runs_is chain)
    (not_sending w usual p events ready) ready comes in
    record {
      own = subst (λ (x : SideState). SeesAt w e x next) (sym (ap (λ (n : Near). n.side) h.is))
          (subst (λ xs. SideSees w e (side_after side p there h.turn) xs (queue_of e next)) (sym links)
          (subst (SideSees w e (side_after side p there h.turn) (events ++ made))
          (sym (own_queue e moments step matched refl)) done));
      far_sees = far_next;
    }
