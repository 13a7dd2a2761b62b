-- A link that no host of its own connects or disconnects sends no SABM, SABME or DISC, if it hears no invalid N(R) and
-- no FRMR: it is idle or up, and stays so.
use Rattle.station_laws.proofs.Common.{◌≡◌, true, false, [], ◌∷◌, refl, sym, ap, ◌∙◌, subst, ⊤, list_any, false≢true}
use Rattle.station_laws.proofs.Common.{Dm, Control, LinkState, Idle, Calling, Up, Releasing, Machine, sent_in}
use Rattle.station_laws.proofs.Common.{SetupSent, step, begin, names_valid, IsConnect, IsDisconnect, Row, Settles}
use Rattle.station_laws.proofs.Common.{Stepped, rests_traffic, step_is, agrees, calls_again, connects}
use Rattle.station_laws.proofs.Common.{declines, ends_by_disc, ends_by_dm, ends_call, gives_up, is_answered, is_called}
use Rattle.station_laws.proofs.Common.{is_called_again, narrows, falls_narrow, releases_again, resets, rests, takes}
use Rattle.station_laws.proofs.Common.{tells_own, withdraws, wishes, abandons, works}
use Rattle.station_laws.proofs.Common.{goes_on, is_down, releases, is_refused, Traffic, IsOfNoHost}
use Rattle.link_machine.specs.Event.{Event as LinkEvent}
use Rattle.link_machine.specs.Event.Event.{Connect as LinkConnect, Send as LinkSend, Disconnect as LinkDisconnect}
use Rattle.link_machine.specs.Event.Event.{Hear as LinkHear, Seize as LinkSeize, Tick as LinkTick}
use Rattle.link_machine.specs.Turn.{Turn}
use Rattle.link_steps.proofs.Rows.{Hears, IsWrong}
use Rattle.link_steps.proofs.Rows.Stepped.{makes}
use Rattle.station_laws.proofs.Acts.{asks_when_sent}
use Rattle.station_laws.proofs.LinkDid.{wrong_kind}
use Rattle.station_laws.proofs.LinkKinds.{IsLinkKind}
use Rattle.station_laws.proofs.Sends.{none_ask}
use Rattle.station_laws.proofs.StillActs.{Still, any_append, traffic_still}

-- ---- what stays

abbrev pub IsCalmState : LinkState → Type 0
IsCalmState Idle = ⊤
IsCalmState Calling = ⊥
IsCalmState Up = ⊤
IsCalmState Releasing = ⊥

pub record IsCalm (c : Control) : Type 0 where
  pub state : IsCalmState c.state
  pub quit : c.quit ≡ false

pub record CalmTurn (turn : Turn) : Type 0 where
  pub control : IsCalm turn.now.control
  pub asked : list_any asks_when_sent turn.sent ≡ false

-- acts that send I and S frames alone
still_calm : (t u : Turn) → Still t u → CalmTurn t → CalmTurn u
still_calm t u s h = record {
  control = record { state = subst IsCalmState (sym s.state) h.control.state; quit = s.quit ∙ h.control.quit };
  asked = ap (list_any asks_when_sent) s.sent
      ∙ any_append asks_when_sent t.sent s.more h.asked (none_ask s.more s.numbered);
}

-- what is heard is a frame of a link, and its numbers are valid if the link is up
abbrev pub HearsValid : LinkEvent → Machine → Type 0
HearsValid LinkConnect m = ⊤
HearsValid (LinkSend packet) m = ⊤
HearsValid LinkDisconnect m = ⊤
HearsValid (LinkHear frame) m = IsLinkKind frame.kind × (m.control.state ≡ Up → names_valid m frame.kind ≡ true)
HearsValid (LinkTick waiting) m = ⊤
HearsValid (LinkSeize last full) m = ⊤

begins_calm : (m : Machine) → IsCalm m.control → CalmTurn (begin m)
begins_calm m calm = record { control = calm; asked = refl }

-- ---- what cannot be

no_connect : (event : LinkEvent) → IsOfNoHost event → IsConnect event → ⊥
no_connect LinkConnect host h = host
no_connect (LinkSend packet) host h = h
no_connect LinkDisconnect host h = h
no_connect (LinkHear frame) host h = h
no_connect (LinkTick waiting) host h = h
no_connect (LinkSeize last full) host h = h

no_disconnect : (event : LinkEvent) → IsOfNoHost event → IsDisconnect event → ⊥
no_disconnect LinkConnect host h = h
no_disconnect (LinkSend packet) host h = h
no_disconnect LinkDisconnect host h = host
no_disconnect (LinkHear frame) host h = h
no_disconnect (LinkTick waiting) host h = h
no_disconnect (LinkSeize last full) host h = h

no_wrong : (m : Machine) (event : LinkEvent) → HearsValid event m → m.control.state ≡ Up → Hears (IsWrong m) event → ⊥
no_wrong m LinkConnect valid up h = h
no_wrong m (LinkSend packet) valid up h = h
no_wrong m LinkDisconnect valid up h = h
no_wrong m (LinkHear frame) valid up h = wrong_kind m frame.kind up h valid
no_wrong m (LinkTick waiting) valid up h = h
no_wrong m (LinkSeize last full) valid up h = h

-- ---- each row

after_traffic : (m : Machine) (t : Turn) → IsCalm m.control → Traffic (begin m) t → CalmTurn t
after_traffic m t calm run = still_calm (begin m) t (traffic_still run) (begins_calm m calm)

row_calm :
    (m : Machine) (event : LinkEvent) (t : Turn) → IsOfNoHost event → HearsValid event m → IsCalm m.control
    → Row m event t
    → CalmTurn t
row_calm m event t host valid calm (rests run) = after_traffic m t calm (rests_traffic run)
row_calm m event t host valid calm (works up run) = after_traffic m t calm run
row_calm m event t host valid calm (declines flag down heard) = record { control = calm; asked = refl }
row_calm m event t host valid calm (agrees flag down heard) = record { control = calm; asked = refl }
row_calm m event t host valid calm (tells_own flag idle heard) = record { control = calm; asked = refl }
row_calm m event t host valid calm (calls_again run calling tick) = absurd (subst IsCalmState calling calm.state)
row_calm m event t host valid calm (releases_again run releasing tick) =
    absurd (subst IsCalmState releasing calm.state)
row_calm m event t host valid calm (ends_call {t = u} why run down) = record {
  control = record { state = tt; quit = refl };
  asked = (after_traffic m u calm (rests_traffic run)).asked;
}
row_calm m event t host valid calm (ends_by_dm up) =
    record { control = record { state = tt; quit = refl }; asked = refl }
row_calm m event t host valid calm (ends_by_disc flag up heard) =
    record { control = record { state = tt; quit = refl }; asked = refl }
row_calm m event t host valid calm (gives_up {t = u} up run told tick) = record {
  control = record { state = tt; quit = refl };
  asked = any_append asks_when_sent u.sent (sent_in u.now.incoming.modulus (SetupSent Dm false) ∷ [])
      (after_traffic m u calm run).asked refl;
}
row_calm m event t host valid calm (is_called modulus flag idle known heard) =
    record { control = record { state = tt; quit = refl }; asked = refl }
row_calm m event t host valid calm (is_called_again modulus flag up known heard) =
    record { control = record { state = tt; quit = refl }; asked = refl }
row_calm m event t host valid calm (is_answered calling heard) = absurd (subst IsCalmState calling calm.state)
row_calm m event t host valid calm (falls_narrow run calling wide tick) =
    absurd (subst IsCalmState calling calm.state)
row_calm m event t host valid calm (narrows calling wide heard) = absurd (subst IsCalmState calling calm.state)
row_calm m event t host valid calm (resets up wrong) = absurd (no_wrong m event valid up wrong)
row_calm m event t host valid calm (connects idle connecting) = absurd (no_connect event host connecting)
row_calm m event t host valid calm (takes packet sending short) = record { control = calm; asked = refl }
row_calm m event t host valid calm (withdraws calling wishing) = absurd (no_disconnect event host wishing)
row_calm m event t host valid calm (wishes wishing) = absurd (no_disconnect event host wishing)
row_calm m event t host valid calm (abandons up wish wishing) = absurd (no_disconnect event host wishing)

pub settles_calm : (t u : Turn) → Settles t u → CalmTurn t → CalmTurn u
settles_calm t u (is_down down) h = h
settles_calm t u (goes_on up) h = h
settles_calm t u (releases up quitting) h = absurd (false≢true (sym h.control.quit ∙ quitting))

stepped_calm :
    (m : Machine) (event : LinkEvent) (u : Turn) → IsOfNoHost event → HearsValid event m → IsCalm m.control
    → Stepped m event u
    → CalmTurn u
stepped_calm m event u host valid calm is_refused = begins_calm m calm
stepped_calm m event u host valid calm (makes {t = t} row settles) =
    settles_calm t u settles (row_calm m event t host valid calm row)

pub record StaysCalm (m : Machine) (event : LinkEvent) : Type 0 where
  pub calm : IsCalm (step m event).now.control
  pub none : list_any asks_when_sent (step m event).sent ≡ false

pub calm_step :
    (m : Machine) (event : LinkEvent) → IsOfNoHost event → HearsValid event m → IsCalm m.control → StaysCalm m event
calm_step m event host valid calm =
    let t = stepped_calm m event (step m event) host valid calm (step_is m event) in
    record { calm = t.control; none = t.asked }
