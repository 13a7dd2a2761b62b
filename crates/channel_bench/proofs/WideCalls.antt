-- A link that calls modulo 128: by an event that neither connects nor makes it call anew it comes to call so only if it
-- did before, and then it sends nothing, or one frame in a tick that T1 counts.
use Rattle.channel_bench.proofs.Common.{◌≡◌, ◌⊎◌, true, false, [], length, refl, sym, ◌∙◌, inl, inr}
use Rattle.channel_bench.proofs.Common.{Idle, Calling, Up, Releasing, Hear, Machine, SentIn, step, Row, Settles}
use Rattle.channel_bench.proofs.Common.{Stepped}
use Rattle.channel_bench.proofs.Common.{step_is, as_timed, agrees, calls_again, connects, declines, ends_by_disc}
use Rattle.channel_bench.proofs.Common.{ends_by_dm, ends_call, gives_up, is_answered, is_called, is_called_again}
use Rattle.channel_bench.proofs.Common.{narrows, falls_narrow, releases_again, resets, rests, takes, works}
use Rattle.channel_bench.proofs.Common.{tells_own, withdraws, wishes, abandons}
use Rattle.channel_bench.proofs.Common.{goes_on, is_down, releases, is_refused, makes}
use Rattle.std.specs.Prelude.{List}
use Rattle.link_machine.specs.Event.{Event}
use Rattle.link_machine.specs.Event.Event.{Connect, Send, Disconnect, Seize, Tick}
use Rattle.link_machine.specs.Machine.{is_wide}
use Rattle.link_machine.specs.Turn.{Turn}
use Rattle.link_steps.proofs.Rows.{Hears, IsAsking, IsConnect, IsDeclined, IsT1Tick}
use Rattle.link_steps.proofs.Traffic.{traffic_mode}
use Rattle.station_laws.proofs.LinkDid.{HearsAsk, HearsWrong, ask_is, wrong_is}

pub record IsWideCall (m : Machine) : Type 0 where
  pub state : m.control.state ≡ Calling
  pub wide : is_wide m ≡ true

-- the link called so before
pub record WasWide (m : Machine) (event : Event) (sent : List SentIn) : Type 0 where
  pub before : IsWideCall m
  pub sends : (sent ≡ []) ⊎ ((length sent ≡ 1) × IsT1Tick event)

-- the event neither connects nor makes the link call anew, and a call hears nothing that asks
pub record IsPlain (m : Machine) (event : Event) : Type 0 where
  pub unconnected : IsConnect event → ⊥
  pub unasked : m.control.state ≡ Calling → HearsAsk event → ⊥
  pub right : m.control.state ≡ Up → HearsWrong m event → ⊥

declined_asks : (m : Machine) (event : Event) → m.control.state ≡ Calling → Hears (IsDeclined m) event
    → Hears IsAsking event
declined_asks m Connect calling h = h
declined_asks m (Send packet) calling h = h
declined_asks m Disconnect calling h = h
declined_asks m (Hear frame) calling h = h calling
declined_asks m (Tick still) calling h = h
declined_asks m (Seize last full) calling h = h

row_wide :
    (m : Machine) (event : Event) (t : Turn) → IsPlain m event → Row m event t → IsWideCall t.now
    → WasWide m event t.sent
row_wide m event t plain (rests (as_timed c mode)) h =
    record { before = record { state = sym mode.0 ∙ h.state; wide = h.wide }; sends = inl refl }
row_wide m event t plain (works up run) h =
    let clash : Up ≡ Calling = sym up ∙ sym (traffic_mode run).0 ∙ h.state in absurd (cc)
row_wide m event t plain (declines flag down heard) h =
    absurd (plain.unasked h.state (ask_is event (declined_asks m event h.state heard)))
row_wide m event t plain (agrees flag down heard) h = absurd (plain.unasked h.state (ask_is event heard))
row_wide m event t plain (tells_own flag idle heard) h =
    let clash : Idle ≡ Calling = sym idle ∙ h.state in absurd (cc)
row_wide m event t plain (calls_again (as_timed c mode) calling tick) h =
    record { before = record { state = calling; wide = h.wide }; sends = inr (refl, tick) }
row_wide m event t plain (releases_again (as_timed c mode) releasing tick) h =
    let clash : Releasing ≡ Calling = sym releasing ∙ sym mode.0 ∙ h.state in absurd (cc)
row_wide m event t plain (ends_call why (as_timed c mode) down) h =
    let clash : Idle ≡ Calling = h.state in absurd (cc)
row_wide m event t plain (ends_by_dm up) h = let clash : Idle ≡ Calling = h.state in absurd (cc)
row_wide m event t plain (ends_by_disc flag up heard) h = let clash : Idle ≡ Calling = h.state in absurd (cc)
row_wide m event t plain (gives_up up run told tick) h = let clash : Idle ≡ Calling = h.state in absurd (cc)
row_wide m event t plain (is_called modulus flag idle known heard) h =
    let clash : Up ≡ Calling = h.state in absurd (cc)
row_wide m event t plain (is_called_again modulus flag up known heard) h =
    let clash : Up ≡ Calling = h.state in absurd (cc)
row_wide m event t plain (is_answered calling heard) h = let clash : Up ≡ Calling = h.state in absurd (cc)
row_wide m event t plain (narrows calling wide heard) h = let clash : false ≡ true = h.wide in absurd (cc)
row_wide m event t plain (falls_narrow (as_timed c mode) calling wide tick) h =
    let clash : false ≡ true = h.wide in absurd (cc)
row_wide m event t plain (resets up wrong) h = absurd (plain.right up (wrong_is m event up wrong))
row_wide m event t plain (connects idle connecting) h = absurd (plain.unconnected connecting)
row_wide m event t plain (takes packet sending short) h =
    record { before = record { state = h.state; wide = h.wide }; sends = inl refl }
row_wide m event t plain (withdraws calling wishing) h = let clash : Idle ≡ Calling = h.state in absurd (cc)
row_wide m event t plain (wishes wishing) h =
    record { before = record { state = h.state; wide = h.wide }; sends = inl refl }
row_wide m event t plain (abandons up wish wishing) h =
    let clash : Releasing ≡ Calling = h.state in absurd (cc)

settles_wide :
    (m : Machine) (event : Event) (t u : Turn) → Settles t u → (IsWideCall t.now → WasWide m event t.sent)
    → IsWideCall u.now → WasWide m event u.sent
settles_wide m event t u (is_down down) was h = was h
settles_wide m event t u (goes_on up) was h = let clash : Up ≡ Calling = sym up ∙ h.state in absurd (cc)
settles_wide m event t u (releases up quitting) was h =
    let clash : Releasing ≡ Calling = h.state in absurd (cc)

pub step_wide : (m : Machine) (event : Event) → IsPlain m event → IsWideCall (step m event).now
    → WasWide m event (step m event).sent
step_wide m event plain = go (step m event) (step_is m event)
  where
    go : (u : Turn) → Stepped m event u → IsWideCall u.now → WasWide m event u.sent
    go u is_refused h = record { before = h; sends = inl refl }
    go u (makes {t = t} row settles) h = settles_wide m event t u settles (row_wide m event t plain row) h
