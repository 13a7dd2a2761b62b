-- What holds between the turns before and after each single act of a station holds between those before and after a
-- whole step of the bench: a message of a host program, a frame that is heard, or the ticks of links.
use Rattle.channel_bench.proofs.Common.{◌≡◌, ℕ, Bool, true, false, List, [], ◌∷◌, length, map, cond, nat_lt, Option}
use Rattle.channel_bench.proofs.Common.{Some, None, refl, sym, ◌∙◌, subst, Callsign, way_back, Path, Command, spelling}
use Rattle.channel_bench.proofs.Common.{SentFrame, Told, done_of, PortKind, Kiss, Agw, Piece, register_kind}
use Rattle.channel_bench.proofs.Common.{connect_kind, data_kind, disconnect_kind, IsAnswered, called_route, own_key}
use Rattle.channel_bench.proofs.Common.{with_registration, call_in, IsHeard, destination_field, kiss_data}
use Rattle.channel_bench.proofs.Common.{shown_to_hosts, showing, showing_to, source_field, with_shown, message_of_told}
use Rattle.channel_bench.proofs.Common.{event_at, event_of, queueing_frame, queueing_frames, settled_link, telling_one}
use Rattle.channel_bench.proofs.Common.{with_links, Link, Links, link_at, idle_link, making, no_layer_3, path_along}
use Rattle.channel_bench.proofs.Common.{asked_links, with_asked, Act, Turn, capacity, changing, dropping, entering}
use Rattle.channel_bench.proofs.Common.{in_order}
use Rattle.channel_bench.proofs.Common.{queueing, request, Choice, LinkStep, heard_steps, StationState, ap, is_some}
use Rattle.channel_bench.proofs.Common.{called_pid, link_event, program_id, register_reply, registering, replying}
use Rattle.station.specs.Passing.{passing}
use Rattle.station.specs.Registrations.{may_register, registrar}
use Rattle.link_machine.specs.Event.{Event as LinkEvent}
use Rattle.link_machine.specs.Event.Event.{Connect as LinkConnect, Hear as LinkHear}
use Rattle.link_machine.specs.Step.{step as link_turn}
use Rattle.station.specs.FrameSpelling.{frame_octets}
use Rattle.station.specs.Heard.{noting}
use Rattle.station.specs.HostMessages.{raw_message}
use Rattle.station.specs.Links.{with_new_link}
use Rattle.station.specs.Turn.{with_piece}
use Rattle.station_laws.proofs.Causes.{NotHeard}
use Rattle.station_laws.proofs.HeardAs.{Heard, heard_as, only_shows}
use Rattle.station_laws.proofs.HeardAs.Heard.{passes, repeats, hears, hears_new}
use Rattle.station_laws.proofs.StationActs.{KeptByCalls, KeptByEvents, ticks_kept as ticks_all, call_kept}
use Rattle.station_laws.proofs.StationActs.{data_kept as data_all, disconnect_kept as disconnect_all}

-- what is kept by whatever happens to the links, is told, and joins the transmit queue or finds it full
pub record KeptByActs (R : Turn → Turn → Type 0) : Type 0 where
  pub same : (t : Turn) → R t t
  pub on : (t u v : Turn) → R t u → R u v → R t v
  pub tells : (t : Turn) (pieces : List Piece) → R t (record t { out = record t.out { pieces = pieces } })
  pub links : (change : Links → Links) (t : Turn) → R t (changing (with_links change) t)
  pub enters : (key : ℕ) (octets : List ℕ) (t : Turn) → R t (entering (Some key) octets t)
  pub drops : (t : Turn) → R t (dropping t)
  -- a link is asked for a frame
  pub asks : (key : ℕ) (t : Turn) → R t (changing (with_asked key) t)

module _ (R : Turn → Turn → Type 0) (k : KeptByActs R) where
  acts_kept : {A : Type 0} (act : A → Act) → ((item : A) (t : Turn) → R t (act item t)) → (items : List A) (t : Turn)
      → R t (in_order (map act items) t)
  acts_kept act each [] t = k.same t
  acts_kept act each (item ∷ items) t =
      k.on t (act item t) (in_order (map act items) (act item t)) (each item t) (acts_kept act each items (act item t))

  queued_kept : (key : ℕ) (octets : List ℕ) (t : Turn) → R t (queueing (Some key) octets t)
  queued_kept key octets t = go (nat_lt (length t.now.channel.waiting) capacity)
    where
      go : (b : Bool) → R t (cond b (entering (Some key) octets t) (dropping t))
      go true = k.enters key octets t
      go false = k.drops t

  told_kept : (owner : Option ℕ) (local remote : Callsign) (told : Told) (t : Turn)
      → R t (telling_one owner local remote told t)
  told_kept None local remote told t = k.same t
  told_kept (Some id) local remote told t = k.tells t
      (with_piece id (spelling (message_of_told local remote told)) t.out).pieces

  pub link_kept : (key : ℕ) (event : LinkEvent) (link : Link) (t : Turn) → R t (link_event key event link t)
  link_kept key event link t =
      let stepped = link_turn link.machine event in
      let done = done_of stepped in
      let placed = changing (with_links (settled_link key link stepped.now)) t in
      let queued = queueing_frames key done.frames placed in
      k.on t placed (link_event key event link t) (k.links (settled_link key link stepped.now) t)
      (k.on placed queued (link_event key event link t)
      (acts_kept (queueing_frame key) (λ (sent : SentFrame) u. queued_kept key
      (frame_octets sent.modulus sent.frame) u) done.frames placed)
      (acts_kept (telling_one link.owner link.local link.remote)
      (told_kept link.owner link.local link.remote) done.told queued))

  event_kept : (key : ℕ) (event : LinkEvent) (t : Turn) → R t (event_at key event t)
  event_kept key event t = go (link_at key t.now.links)
    where
      go : (place : Option Link) → R t (event_of key event place t)
      go None = k.same t
      go (Some link) = link_kept key event link t

-- what is also kept by a registration, and by what the channel is told of a heard frame
pub record KeptByTurns (R : Turn → Turn → Type 0) : Type 0 where
  pub acts : KeptByActs R
  -- by the host program
  pub registers : (call : Callsign) (t : Turn) → R t (changing (with_registration call program_id) t)
  pub told : (path : Option Path) (ours : Bool) (t : Turn) → R t (noting path ours t)

module _ (R : Turn → Turn → Type 0) (k : KeptByTurns R) where
  -- a link that is made, and its first event
  made_kept :
      (key id pid : ℕ) (local remote : Callsign) (path : Path) (event : LinkEvent) (t : Turn)
      → R t (event_at key event (making key id pid local remote path t))
  made_kept key id pid local remote path event t =
      let made = making key id pid local remote path t in
      k.acts.on t made (event_at key event made)
      (k.acts.links (with_new_link key (idle_link id pid local remote path t.now.parameters)) t)
      (event_kept R k.acts key event made)

  by_events : KeptByEvents is_some NotHeard (λ t steps u. R t u)
  by_events = record {
    same = k.acts.same;
    on = λ t u v first second. k.acts.on t u v;
    events = λ key event t may. event_kept R k.acts key event t;
    asked = k.acts.asks;
  }

  requests : KeptByCalls is_some NotHeard (λ t steps u. R t u)
  requests = record {
    by_events = by_events;
    called = λ id key message route t may is room new.
        made_kept key id (called_pid message) route.local route.remote (path_along route) LinkConnect t;
    replies = λ id message t other. k.acts.tells t (with_piece id (spelling message) t.out).pieces;
  }

  -- ---- a tick

  pub ticks_kept : (busy : Bool) (t : Turn) → R t (asked_links busy t)
  ticks_kept busy t = ticks_all is_some NotHeard (λ u steps v. R u v) by_events tt busy t

  -- ---- a message

  registering_kept : (from : List ℕ) (call : Option Callsign) (t : Turn) → R t (registering program_id from call t)
  registering_kept from call t = by_call call
    where
      replied : (done : Bool) (u : Turn) → R u (replying program_id (register_reply from done) u)
      replied done u = k.acts.tells u (with_piece program_id (spelling (register_reply from done)) u.out).pieces

      by_test : (b : Bool) (c : Callsign)
          → R t (cond b (replying program_id (register_reply from true) (changing (with_registration c program_id) t))
          (replying program_id (register_reply from false) t))
      by_test true c =
          let registered = changing (with_registration c program_id) t in
          k.acts.on t registered (replying program_id (register_reply from true) registered) (k.registers c t)
          (replied true registered)
      by_test false c = replied false t

      by_call : (o : Option Callsign) → R t (registering program_id from o t)
      by_call None = replied false t
      by_call (Some c) = by_test (may_register program_id (registrar c t.now.registrations)) c

  -- X of the host program, to which no call passes
  pub register_kept :
      (from to body : List ℕ) (before after : Turn) → passing program_id (call_in from) before ≡ before
      → IsAnswered program_id (request register_kind from to body) before after
      → R before after
  register_kept from to body before after none h =
      subst (R before) (sym (h ∙ ap (registering program_id from (call_in from)) none))
      (registering_kept from (call_in from) before)

  pub connect_kept :
      (id : ℕ) (from to body : List ℕ) (before after : Turn)
      → IsAnswered id (request connect_kind from to body) before after
      → R before after
  connect_kept id from to body before after h =
      let message = request connect_kind from to body in
      call_kept is_some NotHeard (λ t steps u. R t u) requests id message (called_route message) before after tt refl h

  pub data_kept :
      (id : ℕ) (from to body : List ℕ) (before after : Turn)
      → IsAnswered id (request data_kind from to body) before after
      → R before after
  data_kept id from to body before after h =
      let message = request data_kind from to body in
      subst (R before) (sym h)
      (data_all is_some NotHeard (λ t steps u. R t u) by_events tt message
      (own_key id message before.now.links) before)

  pub disconnect_kept :
      (id : ℕ) (from to body : List ℕ) (before after : Turn)
      → IsAnswered id (request disconnect_kind from to body) before after
      → R before after
  disconnect_kept id from to body before after h =
      subst (R before) (sym h)
      (disconnect_all is_some NotHeard (λ t steps u. R t u) by_events tt
      (own_key id (request disconnect_kind from to body) before.now.links) before)

  -- ---- a frame that is heard

  shown_kept_by :
      (kind : PortKind) (id : ℕ) (raw : Bool) (from to octets : List ℕ) (t : Turn)
      → R t (record t { out = with_shown kind id raw from to octets t.out })
  shown_kept_by Kiss id raw from to octets t = k.acts.tells t (with_piece id (kiss_data octets) t.out).pieces
  shown_kept_by Agw id true from to octets t = k.acts.tells t
      (with_piece id (spelling (raw_message from to octets)) t.out).pieces
  shown_kept_by Agw id false from to octets t = k.acts.same t

  shown_kept : (from to octets : List ℕ) (t : Turn) → R t (showing from to octets t)
  shown_kept from to octets t =
      acts_kept R k.acts (showing_to from to octets) (λ c u. shown_kept_by c.kind c.id c.raw from to octets u)
      t.now.connections t

  -- a station that repeats for nobody
  heard_by : (octets : List ℕ) (t : Turn) (steps : Choice → List LinkStep) (u : Turn) → t.now.digi ≡ None
      → Heard octets t steps u → R t u
  heard_by octets t steps u none passes = k.acts.same t
  heard_by octets t steps u none (repeats call n is) = absurd (cc)
  heard_by octets t steps u none (hears key len path frame begins found is) = event_kept R k.acts key (LinkHear frame) t
  heard_by octets t steps u none (hears_new key id frame is vacant known new) =
      made_kept key id no_layer_3 frame.path.dest frame.path.source (way_back frame.path Command) (LinkHear frame) t

  pub heard_kept :
      (octets : List ℕ) (before after : Turn) → before.now.digi ≡ None → IsHeard octets before after → R before after
  heard_kept octets before after none h =
      let raw = showing (source_field h.path) (destination_field h.path) octets before in
      let shown = shown_to_hosts h.path octets h.monitored before in
      let shows = only_shows h.path octets h.monitored before in
      subst (R before) (sym h.told)
      (k.acts.on before h.between (noting h.path h.ours h.between)
      (k.acts.on before shown h.between
      (k.acts.on before raw shown (shown_kept (source_field h.path) (destination_field h.path) octets before)
      (k.acts.tells raw shown.out.pieces))
      (heard_by octets shown (λ chosen. heard_steps chosen octets before after h) h.between
      (ap (λ (s : StationState). s.digi) shows.now ∙ none) (heard_as octets before after h)))
      (k.told h.path h.ours h.between))
