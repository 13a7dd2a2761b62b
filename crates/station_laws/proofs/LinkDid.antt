-- What an event of a link does to its set-up and to a wish to disconnect, row by row.
use Rattle.station_laws.proofs.Common.{◌≡◌, Bool, true, false, List, [], ◌∷◌, ◌++◌, refl, ap, ⊤, append_assoc}
use Rattle.station_laws.proofs.Common.{Kind, Info, Super, Setup, Ui, Other, Told, Opened, Ended, Why, Failed, Peer}
use Rattle.station_laws.proofs.Common.{Reset, Idle, Calling, Up, Releasing, Event, Connect, Send, Disconnect, Hear}
use Rattle.station_laws.proofs.Common.{Seize, Tick, Machine, step, begin, asks, names_valid, IsAsking, IsConnect}
use Rattle.station_laws.proofs.Common.{IsDisconnect}
use Rattle.station_laws.proofs.Common.{Row, Settles, Stepped, step_is, as_timed, agrees, calls_again}
use Rattle.station_laws.proofs.Common.{connects, declines, ends_by_disc, ends_by_dm, ends_call, gives_up, is_answered}
use Rattle.station_laws.proofs.Common.{is_called_again, narrows, falls_narrow, releases_again, rests, takes, works}
use Rattle.station_laws.proofs.Common.{goes_on, is_down}
use Rattle.station_laws.proofs.Common.{is_refused}
use Rattle.link_machine.specs.Machine.{is_valid}
use Rattle.link_machine.specs.Turn.{Turn}
use Rattle.link_machine.specs.declared.acts.Why.TheVariants.{Asked}
use Rattle.link_steps.proofs.Rows.{Hears, IsWrong as IsWrongKind}
use Rattle.ax25_frames.specs.declared.frame.W.TheVariants.{Frmr, Xid, Test}
use Rattle.link_steps.proofs.Rows.Row.{tells_own}
use Rattle.link_steps.proofs.Rows.Row.{abandons as gives_all, is_called as opens_called, resets as calls_anew}
use Rattle.link_steps.proofs.Rows.Row.{wishes as quits, withdraws}
use Rattle.link_steps.proofs.Rows.Settles.{releases as is_released}
use Rattle.link_steps.proofs.Rows.Stepped.{makes}
use Rattle.station_laws.proofs.LinkKinds.{IsLinkKind}
use Rattle.station_laws.proofs.LinkTells.{Gives, gives_none, traffic_gives}
use Rattle.station_laws.proofs.Tables.{not_both}

-- What acts do, by what they were: a connect, a disconnect, a frame that asks, or one that makes the link call anew.
pub data Did (connects disconnects called wrong : Type 0) (t u : Turn) : Type 0 where
  -- data at most is told of, and the link stands as before
  gives : Gives t u → Did connects disconnects called wrong t u
  -- a wish to disconnect
  wishes : disconnects → u.told ≡ t.told → u.now.control.state ≡ t.now.control.state
      → Did connects disconnects called wrong t u
  -- a disconnect that was asked for before: the link is released
  abandons :
      disconnects → u.told ≡ t.told → t.now.control.state ≡ Up → u.now.control.state ≡ Releasing
      → Did connects disconnects called wrong t u
  -- the link calls
  calls :
      connects → u.told ≡ t.told → t.now.control.state ≡ Idle → u.now.control.state ≡ Calling
      → u.now.control.quit ≡ t.now.control.quit → Did connects disconnects called wrong t u
  -- it ends
  ends :
      (why : Why) → u.told ≡ t.told ++ Ended why ∷ [] → u.now.control.state ≡ Idle → u.now.control.quit ≡ false
      → Did connects disconnects called wrong t u
  -- its call is answered
  opens :
      t.now.control.state ≡ Calling → u.told ≡ t.told ++ Opened true ∷ [] → u.now.control.state ≡ Up
      → u.now.control.quit ≡ t.now.control.quit → Did connects disconnects called wrong t u
  -- the other side opens it
  is_called :
      called → (more : List Told) → u.told ≡ t.told ++ more → u.now.control.state ≡ Up → u.now.control.quit ≡ false
      → Did connects disconnects called wrong t u
  -- it is reset
  resets :
      wrong → (more : List Told) → u.told ≡ t.told ++ more → u.now.control.state ≡ Calling → u.now.control.quit ≡ false
      → Did connects disconnects called wrong t u

-- a frame that makes a link that is up call anew
abbrev pub IsWrong : Machine → Kind → Type 0
IsWrong m kind = IsLinkKind kind × (m.control.state ≡ Up → names_valid m kind ≡ true) → ⊥

-- ---- each event

abbrev pub is_connect : Event → Bool
is_connect Connect = true
is_connect (Send packet) = false
is_connect Disconnect = false
is_connect (Hear frame) = false
is_connect (Tick waiting) = false
is_connect (Seize last full) = false

abbrev pub is_disconnect : Event → Bool
is_disconnect Connect = false
is_disconnect (Send packet) = false
is_disconnect Disconnect = true
is_disconnect (Hear frame) = false
is_disconnect (Tick waiting) = false
is_disconnect (Seize last full) = false

-- a SABM, SABME or DISC is heard
abbrev pub HearsAsk : Event → Type 0
HearsAsk Connect = ⊥
HearsAsk (Send packet) = ⊥
HearsAsk Disconnect = ⊥
HearsAsk (Hear frame) = asks frame.kind ≡ true
HearsAsk (Tick waiting) = ⊥
HearsAsk (Seize last full) = ⊥

-- what is heard is a frame of a link
abbrev pub IsOfLink : Event → Type 0
IsOfLink Connect = ⊤
IsOfLink (Send packet) = ⊤
IsOfLink Disconnect = ⊤
IsOfLink (Hear frame) = IsLinkKind frame.kind
IsOfLink (Tick waiting) = ⊤
IsOfLink (Seize last full) = ⊤

-- a frame that makes the link call anew
abbrev pub HearsWrong : Machine → Event → Type 0
HearsWrong m Connect = ⊥
HearsWrong m (Send packet) = ⊥
HearsWrong m Disconnect = ⊥
HearsWrong m (Hear frame) = IsWrong m frame.kind
HearsWrong m (Tick waiting) = ⊥
HearsWrong m (Seize last full) = ⊥

abbrev pub DidIn : Machine → Event → Turn → Turn → Type 0
DidIn m event t u = Did (is_connect event ≡ true) (is_disconnect event ≡ true) (HearsAsk event) (HearsWrong m event) t u

connect_is : (event : Event) → IsConnect event → is_connect event ≡ true
connect_is Connect h = refl
connect_is (Send packet) h = absurd h
connect_is Disconnect h = absurd h
connect_is (Hear frame) h = absurd h
connect_is (Tick waiting) h = absurd h
connect_is (Seize last full) h = absurd h

disconnect_is : (event : Event) → IsDisconnect event → is_disconnect event ≡ true
disconnect_is Connect h = absurd h
disconnect_is (Send packet) h = absurd h
disconnect_is Disconnect h = refl
disconnect_is (Hear frame) h = absurd h
disconnect_is (Tick waiting) h = absurd h
disconnect_is (Seize last full) h = absurd h

pub asks_is : (kind : Kind) → IsAsking kind → asks kind ≡ true
asks_is (Info ns nr flag pid octets) h = absurd h
asks_is (Super which nr flag) h = absurd h
asks_is (Setup which flag) h = h
asks_is (Ui flag pid octets) h = absurd h
asks_is (Other which flag octets) h = absurd h

pub ask_is : (event : Event) → Hears IsAsking event → HearsAsk event
ask_is Connect h = absurd h
ask_is (Send packet) h = absurd h
ask_is Disconnect h = absurd h
ask_is (Hear frame) h = asks_is frame.kind h
ask_is (Tick waiting) h = absurd h
ask_is (Seize last full) h = absurd h

pub wrong_kind : (m : Machine) (kind : Kind) → m.control.state ≡ Up → IsWrongKind m kind → IsWrong m kind
wrong_kind m (Info ns nr flag pid octets) up bad = λ right. not_both (is_valid nr m) (right.1 up) bad
wrong_kind m (Super which nr flag) up bad = λ right. not_both (is_valid nr m) (right.1 up) bad
wrong_kind m (Setup which flag) up bad = absurd bad
wrong_kind m (Ui flag pid octets) up bad = absurd bad
wrong_kind m (Other Frmr flag octets) up bad = λ right. right.0
wrong_kind m (Other Xid flag octets) up bad = absurd bad
wrong_kind m (Other Test flag octets) up bad = absurd bad

pub wrong_is : (m : Machine) (event : Event) → m.control.state ≡ Up → Hears (IsWrongKind m) event → HearsWrong m event
wrong_is m Connect up h = absurd h
wrong_is m (Send packet) up h = absurd h
wrong_is m Disconnect up h = absurd h
wrong_is m (Hear frame) up h = wrong_kind m frame.kind up h
wrong_is m (Tick waiting) up h = absurd h
wrong_is m (Seize last full) up h = absurd h

row_did : (m : Machine) (event : Event) (t : Turn) → Row m event t → DidIn m event (begin m) t
row_did m event t (rests (as_timed c mode)) = gives (gives_none (begin m) _ refl mode.0 mode.1)
row_did m event t (works up run) = gives (traffic_gives run)
row_did m event t (declines flag down heard) = gives (gives_none (begin m) _ refl refl refl)
row_did m event t (agrees flag down heard) = gives (gives_none (begin m) _ refl refl refl)
row_did m event t (tells_own flag idle heard) = gives (gives_none (begin m) _ refl refl refl)
row_did m event t (calls_again (as_timed c mode) calling tick) =
    gives (gives_none (begin m) _ refl mode.0 mode.1)
row_did m event t (releases_again (as_timed c mode) releasing tick) =
    gives (gives_none (begin m) _ refl mode.0 mode.1)
row_did m event t (ends_call why (as_timed c mode) down) = ends why refl refl refl
row_did m event t (ends_by_dm up) = ends Peer refl refl refl
row_did m event t (ends_by_disc flag up heard) = ends Peer refl refl refl
row_did m event t (gives_up up run told tick) =
    ends Failed (ap (λ xs. xs ++ Ended Failed ∷ []) told) refl refl
row_did m event t (opens_called modulus flag idle known heard) =
    is_called (ask_is event heard) (Opened false ∷ []) refl refl refl
row_did m event t (is_called_again modulus flag up known heard) =
    is_called (ask_is event heard) (Ended Reset ∷ Opened false ∷ [])
    (append_assoc [] (Ended Reset ∷ []) (Opened false ∷ [])) refl refl
row_did m event t (is_answered calling heard) = opens calling refl refl refl
row_did m event t (falls_narrow (as_timed c mode) calling wide tick) = gives (gives_none (begin m) _ refl mode.0 mode.1)
row_did m event t (narrows calling wide heard) = gives (gives_none (begin m) _ refl refl refl)
row_did m event t (calls_anew up wrong) = resets (wrong_is m event up wrong) (Ended Reset ∷ []) refl refl refl
row_did m event t (connects idle connecting) = calls (connect_is event connecting) refl idle refl refl
row_did m event t (takes packet sending short) = gives (gives_none (begin m) _ refl refl refl)
row_did m event t (withdraws calling wishing) = ends Asked refl refl refl
row_did m event t (quits wishing) = wishes (disconnect_is event wishing) refl refl
row_did m event t (gives_all up wish wishing) = abandons (disconnect_is event wishing) refl up refl

-- ---- how an event ends

-- the link stands as before, or it is released
pub data Closes (t u : Turn) : Type 0 where
  stays :
      u.told ≡ t.told → u.now.control.state ≡ t.now.control.state → u.now.control.quit ≡ t.now.control.quit → Closes t u
  releases :
      u.told ≡ t.told → t.now.control.state ≡ Up → t.now.control.quit ≡ true → u.now.control.state ≡ Releasing
      → Closes t u

settles_closes : (t u : Turn) → Settles t u → Closes t u
settles_closes t u (is_down down) = stays refl refl refl
settles_closes t u (goes_on up) = stays refl refl refl
settles_closes t u (is_released up quitting) = releases refl up quitting refl

-- an event is refused, or its row is followed by how it ends
pub data Steps (m : Machine) (event : Event) (u : Turn) : Type 0 where
  refused : u ≡ begin m → Steps m event u
  made : (t : Turn) → DidIn m event (begin m) t → Closes t u → Steps m event u

stepped_did : (m : Machine) (event : Event) (u : Turn) → Stepped m event u → Steps m event u
stepped_did m event u is_refused = refused refl
stepped_did m event u (makes {t = t} row settles) = made t (row_did m event t row) (settles_closes t u settles)

pub step_steps : (m : Machine) (event : Event) → Steps m event (step m event)
step_steps m event = stepped_did m event (step m event) (step_is m event)
