-- Beside each frame that waits stands who wants to be told of it, and whose it is, act by act and over whole runs.
use Rattle.station_laws.proofs.Common.{◌≡◌, ℕ, ◌+◌, ◌-◌, ◌*◌, Bool, true, false, List, [], ◌∷◌, length}
use Rattle.station_laws.proofs.Common.{drop, cond, Option, Some, None, is_none, is_some, refl, sym, ap, ◌∙◌, subst}
use Rattle.station_laws.proofs.Common.{arith, length-append, Callsign, way_back, Command, Frame, SentFrame, Told}
use Rattle.station_laws.proofs.Common.{Event, step, done_of, End, A, B, settled_link, with_links, telling_one}
use Rattle.station_laws.proofs.Common.{telling_to, queueing_frame, queueing_frames, event_at, event_of, Link, link_at}
use Rattle.station_laws.proofs.Common.{making, no_layer_3, path_along, called_pid, repeated, shown_to_hosts, Turn}
use Rattle.station_laws.proofs.Common.{changing, queueing_for, entering_for, dropping, may_enter, Asker, asked_links}
use Rattle.station_laws.proofs.Common.{ticking, StationState, Input, IsTurn, FromHost, OffAir, OfClock, Step, Stations}
use Rattle.station_laws.proofs.Common.{IsJointRun, all_stepped, new_stations, state_of, with_state, LinkStep, Choice}
use Rattle.station_laws.proofs.Common.{heard_steps}
use Rattle.std.specs.Prelude.{slice_index_or}
use Rattle.channel_access.specs.Channel.{Channel, after_rules, air_sent, air_waiting, decision, with_decision}
use Rattle.channel_access.specs.Modem.{bits_of_ticks, samples_of_bits}
use Rattle.channel_access.specs.OnAir.{OnAir, bits_then, decided, flag_end, names_next}
use Rattle.channel_access.specs.Waiting.{WaitingFrame}
use Rattle.channel_access.specs.declared.air_tick.Sent.{Sent}
use Rattle.link_machine.specs.Event.Event.{Connect as LinkConnect, Hear as LinkHear}
use Rattle.station.specs.Askers.{askers_after}
use Rattle.station.specs.Asking.{some_wants}
use Rattle.station.specs.Owners.{owners_after}
use Rattle.station.specs.Turn.{begin}
use Rattle.station_laws.specs.FramesTold.{StandBeside, AskersStandBeside}
use Rattle.station_laws.proofs.Causes.{NotHeard}
use Rattle.station_laws.proofs.HeardAs.{Heard, heard_as, only_shows}
use Rattle.station_laws.proofs.HeardAs.Heard.{passes, repeats, hears, hears_new}
use Rattle.station_laws.proofs.StationActs.{KeptByAll, any_kept, ticks_kept}

abbrev Beside : Turn → List LinkStep → Turn → Type 0
Beside turn steps after = StandBeside turn.now → StandBeside after.now

-- a frame that joins the queue
queued_beside : (owner : Option ℕ) (asker : Option Asker) (link : Option ℕ) (octets : List ℕ) (turn : Turn)
    → Beside turn [] (queueing_for owner asker link octets turn)
queued_beside owner asker link octets turn h = go (may_enter owner turn.now)
  where
    go : (b : Bool) → StandBeside (cond b (entering_for owner asker link octets turn) (dropping turn)).now
    go true =
        let more = sym (length-append turn.now.channel.waiting ((record { link = link; octets = octets }) ∷ [])) in (
          length-append turn.now.askers (asker ∷ []) ∙ ap (λ n. n + 1) h.0 ∙ more,
          length-append turn.now.owners (owner ∷ []) ∙ ap (λ n. n + 1) h.1 ∙ more,
        )
    go false = h

frames_beside : (key : ℕ) (frames : List SentFrame) (turn : Turn)
    → StandBeside turn.now → StandBeside (queueing_frames key frames turn).now
frames_beside key [] turn h = h
frames_beside key (f ∷ frames) turn h =
    frames_beside key frames (queueing_frame key f turn) (queued_beside None None (Some key) _ turn h)

told_beside :
    (owner : Option ℕ) (local remote : Callsign) (told : List Told) (turn : Turn)
    → StandBeside turn.now → StandBeside (telling_to owner local remote told turn).now
told_beside None local remote [] turn h = h
told_beside None local remote (item ∷ told) turn h = told_beside None local remote told turn h
told_beside (Some id) local remote [] turn h = h
told_beside (Some id) local remote (item ∷ told) turn h =
    told_beside (Some id) local remote told (telling_one (Some id) local remote item turn) h

event_beside : (key : ℕ) (event : Event) (turn : Turn) → StandBeside turn.now
    → StandBeside (event_at key event turn).now
event_beside key event turn h = by_place (link_at key turn.now.links)
  where
    by_place : (place : Option Link) → StandBeside (event_of key event place turn).now
    by_place None = h
    by_place (Some link) =
        let stepped = step link.machine event in
        let placed = changing (with_links (settled_link key link stepped.now)) turn in
        let done = done_of stepped in
        told_beside link.owner link.local link.remote done.told (queueing_frames key done.frames placed)
        (frames_beside key done.frames placed h)

beside_kept : KeptByAll is_some NotHeard Beside
beside_kept = record {
  kept = record {
    by_events = record {
      same = λ t h. h;
      on = λ t u v first second one two h. two (one h);
      events = λ key event t may. event_beside key event t;
      asked = λ key t h. h;
    };
    called = λ host key message route t may is room new.
        event_beside key LinkConnect (making key host (called_pid message) route.local route.remote (path_along route) t);
    replies = λ id message t other h. h;
    registers = λ call host t h. h;
  };
  changes = λ now t same h. (
    same.askers ∙ h.0 ∙ ap length (sym same.waiting),
    ap length same.owners ∙ h.1 ∙ ap length (sym same.waiting),
  );
  closes = λ host t h. h;
  queues = λ id asker octets t. queued_beside (Some id) asker None octets t;
  disowns = λ key link t at h. h;
}

-- ---- a tick of the channel

-- it takes the front frame that waits and what stands beside it, or none
named_beside :
    {T : Type 0} (after : Option Sent → List T → List T) → ((items : List T) → after None items ≡ items)
    → ((named : Sent) (items : List T) → after (Some named) items ≡ drop 1 items)
    → (items : List T) (waiting : List WaitingFrame) (air : Option OnAir) → length items ≡ length waiting
    → length (after (air_sent waiting air) items) ≡ length (air_waiting waiting air)
named_beside after stays drops items waiting None h = ap length (stays items) ∙ h
named_beside {T} after stays drops items waiting (Some t) h =
    let next = decided (bits_then t) waiting t in
    let named : Sent = record {
      octets = slice_index_or next.frames next.named [];
      after = samples_of_bits next.modem (flag_end (next.named + 1) next - bits_of_ticks next.modem next.ticks);
    } in
    go (names_next (bits_then t) next) named
  where
    dropped : (first : List T) (second : List WaitingFrame) → length first ≡ length second
        → length (drop 1 first) ≡ length (drop 1 second)
    dropped [] [] is = refl
    dropped [] (frame ∷ second) is = absurd (omega (arith, is))
    dropped (item ∷ first) [] is = absurd (omega (arith, is))
    dropped (item ∷ first) (frame ∷ second) is = omega (arith, is)

    go : (b : Bool) (named : Sent)
        → length (after (cond b (Some named) None) items) ≡ length (cond b (drop 1 waiting) waiting)
    go true named = ap length (drops named items) ∙ dropped items waiting h
    go false named = ap length (stays items) ∙ h

rules_wait : (busy wants : Bool) (channel : Channel) → (after_rules busy wants channel).waiting ≡ channel.waiting
rules_wait busy wants channel = go (is_none channel.air)
  where
    go : (b : Bool) → (cond b (with_decision (decision busy wants channel) channel) channel).waiting ≡ channel.waiting
    go true = refl
    go false = refl

tick_beside : (busy : Bool) (frame : Option Frame) (turn : Turn) → StandBeside turn.now
    → StandBeside (ticking busy frame turn).now
tick_beside busy frame turn h =
    let s : StationState = (asked_links busy turn).now in
    let channel = after_rules busy (some_wants s.links) s.channel in
    let asked = ticks_kept is_some NotHeard Beside beside_kept.kept.by_events tt busy turn h in
    let same = ap length (sym (rules_wait busy (some_wants s.links) s.channel)) in (
      named_beside askers_after (λ items. refl) (λ named items. refl) s.askers channel.waiting channel.air
          (asked.0 ∙ same),
      named_beside owners_after (λ items. refl) (λ named items. refl) s.owners channel.waiting channel.air
          (asked.1 ∙ same),
    )

-- ---- each step

heard_beside :
    (octets : List ℕ) (turn : Turn) (steps : Choice → List LinkStep) (after : Turn) → Heard octets turn steps after
    → StandBeside turn.now → StandBeside after.now
heard_beside octets turn steps after passes h = h
heard_beside octets turn steps after (repeats call k is) h = queued_beside None None None (repeated octets k) turn h
heard_beside octets turn steps after (hears key len path frame begins found is) h =
    event_beside key (LinkHear frame) turn h
heard_beside octets turn steps after (hears_new key host frame is vacant known new) h =
    event_beside key (LinkHear frame)
    (making key host no_layer_3 frame.path.dest frame.path.source (way_back frame.path Command) turn) h

turn_beside :
    (input : Input) (before after : Turn) → IsTurn input before after → StandBeside before.now → StandBeside after.now
turn_beside (FromHost event) before after turn h =
    any_kept is_some Beside beside_kept event before after turn h
turn_beside (OffAir octets) before after turn h =
    let shown = shown_to_hosts turn.path octets turn.monitored before in
    subst (λ (t : Turn). StandBeside t.now) (sym turn.told)
    (heard_beside octets shown (λ chosen. heard_steps chosen octets before after turn) turn.between
    (heard_as octets before after turn)
    (subst StandBeside (sym (only_shows turn.path octets turn.monitored before).now) h))
turn_beside (OfClock busy) before after turn h =
    subst (λ (t : Turn). StandBeside t.now) (sym turn.effect) (tick_beside busy turn.monitored before h)

pub step_beside : (step : Step) → StandBeside step.before → StandBeside step.after.now
step_beside step h = turn_beside step.input (begin step.before) step.after step.turn h

-- ---- runs

run_beside :
    (s : Stations) (steps : List Step) → IsJointRun s steps → StandBeside s.a → StandBeside s.b → (end : End)
    → StandBeside (state_of end (all_stepped steps s))
run_beside s [] run a b A = a
run_beside s [] run a b B = b
run_beside s (step ∷ steps) run a b end =
    go step.station run.0 run.1 (λ next rest a b. run_beside next steps rest a b end)
  where
    go : (e : End) → step.before ≡ state_of e s → IsJointRun (with_state e step.after.now s) steps
        → ((next : Stations) → IsJointRun next steps → StandBeside next.a → StandBeside next.b
        → StandBeside (state_of end (all_stepped steps next)))
        → StandBeside (state_of end (all_stepped steps (with_state e step.after.now s)))
    go A is rest more =
        more (with_state A step.after.now s) rest (step_beside step (subst StandBeside (sym is) a)) b
    go B is rest more =
        more (with_state B step.after.now s) rest a (step_beside step (subst StandBeside (sym is) b))

pub askers_stand_beside : AskersStandBeside
askers_stand_beside a b seed_a seed_b steps run end =
    run_beside (new_stations a seed_a b seed_b) steps run (refl, refl)
    (refl, refl) end
