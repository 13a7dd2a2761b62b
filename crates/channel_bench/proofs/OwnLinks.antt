-- At a station of a bench each link is between the two calls, and the host program owns it: what the acts of a step
-- make of that, what the program is sent, and which frames join the queue.
use Rattle.channel_bench.proofs.Common.{◌≡◌, ℕ, ◌==◌, Bool, true, false, List, [], ◌∷◌, ◌++◌, length, map, cond, Option}
use Rattle.channel_bench.proofs.Common.{Some, None, refl, sym, ap, ◌∙◌, subst, ⊤, filter, option_map, eqb-true}
use Rattle.channel_bench.proofs.Common.{flat_map-append, append-nil, append_assoc, map-append, filter-append, Callsign}
use Rattle.channel_bench.proofs.Common.{way_back, Path, Command, Frame, spelling, AgwMessage, SentFrame, Told, Machine}
use Rattle.channel_bench.proofs.Common.{SentIn, sent_frame, End, A, B, other, PortKind, Kiss, Agw, Piece, Connection}
use Rattle.channel_bench.proofs.Common.{IsHeard, destination_field, kiss_data, showing, showing_to, shown_to_hosts}
use Rattle.channel_bench.proofs.Common.{source_field, with_shown, message_of_told, event_at, event_of, is_idle}
use Rattle.channel_bench.proofs.Common.{link_event, settled_link, Link, Links, link_at, with_link, without_link}
use Rattle.channel_bench.proofs.Common.{monitor_pieces, idle_link, making, no_layer_3, registrar, StationState}
use Rattle.channel_bench.proofs.Common.{asked_links, changing, with_asked, Turn, in_order, the_calls, program_id}
use Rattle.channel_bench.proofs.Common.{call_at}
use Rattle.channel_bench.proofs.Common.{link_at_end}
use Rattle.channel_bench.proofs.Common.{Choice, LinkStep, heard_steps, link_step, steps_at, steps_for, tick_steps}
use Rattle.channel_bench.proofs.Common.{told_in, link_stepped, octets_of, calls_chosen, each_get, each_append, giving}
use Rattle.channel_bench.proofs.Common.{data_steps, disconnect_steps}
use Rattle.std.specs.Prelude.{find, flat_map}
use Rattle.std.specs.List.{AllByRecursion as Each}
use Rattle.std.proofs.lemmas.Bool.{false_from_ne_true}
use Rattle.ax25_address.specs.FramePath.{BeginsWithPath}
use Rattle.ax25_address.specs.SameCall.{is_same_call}
use Rattle.ax25_frames.specs.declared.frame.Modulus.{Modulus}
use Rattle.link_machine.specs.Event.{Event as LinkEvent}
use Rattle.link_machine.specs.Event.Event.{Hear as LinkHear}
use Rattle.link_machine.specs.Machine.{modulus_named}
use Rattle.link_machine.specs.Sent.{frame_of}
use Rattle.link_machine.specs.Step.{step as link_turn}
use Rattle.station.specs.Heard.{noting}
use Rattle.station.specs.declared.registration.Registration.{Registration}
use Rattle.station.specs.FrameSpelling.{path_octets}
use Rattle.station.specs.Monitoring.{piece_for, to_monitors}
use Rattle.station_laws.specs.Owners.{pieces_to}
use Rattle.station_laws.proofs.Addresses.{IsGoodPath, frame_spelled}
use Rattle.station_laws.proofs.OwnerLemmas.{owners_are_told}
use Rattle.station_laws.proofs.PathStays.{step_stays}
use Rattle.station_laws.proofs.Tables.{each_set}
use Rattle.station_laws.proofs.ValidCalls.{heard_good}
use Rattle.station.specs.AgwRequests.{disconnecting as disconnecting_act}
use Rattle.station_laws.proofs.Causes.{Cause, cause_of}
use Rattle.station_laws.proofs.Causes.Cause.{sending, disconnecting, hearing, ticking}
use Rattle.station_laws.proofs.HeardAs.{Heard, heard_as, only_shows}
use Rattle.station_laws.proofs.HeardAs.Heard.{passes, repeats, hears, hears_new}
use Rattle.station_laws.proofs.StationActs.{KeptByEvents, ticks_kept, data_kept, disconnect_kept}
use Rattle.channel_bench.proofs.TurnWalks.{KeptByActs, link_kept}

-- ---- what a station has

pub record IsOwn (e : End) (link : Link) : Type 0 where
  pub local : link.local ≡ call_at e
  pub remote : link.remote ≡ call_at (other e)
  pub owner : link.owner ≡ Some program_id
  pub path : IsGoodPath link.machine.path
  pub source : link.machine.path.source ≡ call_at e
  pub dest : link.machine.path.dest ≡ call_at (other e)

abbrev pub IsOwnPlace : End → Option Link → Type 0
IsOwnPlace e None = ⊤
IsOwnPlace e (Some link) = IsOwn e link

-- the host program alone registers, and the call of its station alone
pub record IsOwnRegistration (e : End) (r : Registration) : Type 0 where
  pub call : r.call ≡ call_at e
  pub id : r.id ≡ program_id

pub record OwnsAll (e : End) (s : StationState) : Type 0 where
  pub links : Each (IsOwnPlace e) s.links.places
  pub registered : Each (IsOwnRegistration e) s.registrations

-- a frame from the call of an end to that of the other
pub record IsOwnFrame (e : End) (octets : List ℕ) : Type 0 where
  pub found : Path
  pub len : ℕ
  pub begins : BeginsWithPath octets found len
  pub source : found.source ≡ call_at e
  pub dest : found.dest ≡ call_at (other e)

-- the link that is meant
abbrev pub chosen : End → Choice
chosen e = link_at_end the_calls e

pub own_chosen : (e : End) (link : Link) → IsOwn e link → chosen e (Some link) ≡ true
own_chosen A link own = calls_chosen (call_at A) (call_at B) link own.local own.remote
own_chosen B link own = calls_chosen (call_at B) (call_at A) link own.local own.remote

-- ---- what the host program is sent

abbrev pub own_pieces : List Piece → List Piece
own_pieces pieces = filter (λ (p : Piece). p.id == program_id) pieces

abbrev pub piece_to : AgwMessage → Piece
piece_to message = record { id = program_id; octets = spelling message }

-- what the link tells it
abbrev pub message_at : End → Told → AgwMessage
message_at e told = message_of_told (call_at e) (call_at (other e)) told

abbrev pub messages_by : End → LinkStep → List AgwMessage
messages_by e step = map (message_at e) (told_in step)

abbrev pub messages_of : End → List LinkStep → List AgwMessage
messages_of e steps = flat_map (messages_by e) steps

own_append : (first second : List Piece) → own_pieces (first ++ second) ≡ own_pieces first ++ own_pieces second
own_append first second = filter-append (λ (p : Piece). p.id == program_id) first second

all_own : (messages : List AgwMessage) → own_pieces (map piece_to messages) ≡ map piece_to messages
all_own [] = refl
all_own (message ∷ messages) = ap (λ ps. piece_to message ∷ ps) (all_own messages)

told_pieces : (e : End) (told : List Told)
    → pieces_to (Some program_id) (call_at e) (call_at (other e)) told ≡ map piece_to (map (message_at e) told)
told_pieces e [] = refl
told_pieces e (item ∷ told) = ap (λ ps. piece_to (message_at e item) ∷ ps) (told_pieces e told)

-- ---- what an event comes from

abbrev pub IsBy : Cause → LinkStep → Type 0
IsBy c step = cause_of step.event ≡ c

-- ---- what is shown

-- a connection that is shown no frames, and is that of the host program only if it speaks AGWPE
pub record IsUnshown (c : Connection) : Type 0 where
  pub kiss : c.kind ≡ Kiss → c.id ≡ program_id → ⊥
  pub raw : c.raw ≡ false
  pub monitors : c.monitors ≡ false

none_monitor : (octets : List ℕ) (connections : List Connection) → Each IsUnshown connections
    → to_monitors octets connections ≡ []
none_monitor octets [] unshown = refl
none_monitor octets (c ∷ connections) unshown =
    ap (λ b. map (piece_for octets) (cond b (c ∷ filter (λ (x : Connection). x.monitors) connections)
    (filter (λ (x : Connection). x.monitors) connections))) unshown.0.monitors
    ∙ none_monitor octets connections unshown.1

pub none_monitored : (sent : Bool) (ticks : ℕ) (frame : Option Frame) (connections : List Connection)
    → Each IsUnshown connections → monitor_pieces sent ticks frame connections ≡ []
none_monitored sent ticks None connections unshown = refl
none_monitored sent ticks (Some frame) connections unshown = none_monitor _ connections unshown

-- a frame from the other station
abbrev pub IsFromPartner : End → List ℕ → Type 0
IsFromPartner e octets =
    (found : Path) (len : ℕ) → BeginsWithPath octets found len
    → (found.dest ≡ call_at e) × (found.source ≡ call_at (other e))

-- ---- what an event leaves alone

record Rest (t u : Turn) : Type 0 where
  registrations : u.now.registrations ≡ t.now.registrations
  closed : u.out.closed ≡ t.out.closed

rest_kept : KeptByActs Rest
rest_kept = record {
  same = λ t. record { registrations = refl; closed = refl };
  on = λ t u v h k. record {
    registrations = k.registrations ∙ h.registrations;
    closed = k.closed ∙ h.closed;
  };
  tells = λ t pieces. record { registrations = refl; closed = refl };
  links = λ change t. record { registrations = refl; closed = refl };
  enters = λ key octets t. record { registrations = refl; closed = refl };
  drops = λ t. record { registrations = refl; closed = refl };
  asks = λ key t. record { registrations = refl; closed = refl };
}

module _ (c : Cause) where
  -- ---- acts one after another

  -- What acts make of a turn: the host program is sent what the events of the link tell, and the frames of the link
  -- join.
  pub record Says (e : End) (t : Turn) (steps : List LinkStep) (u : Turn) : Type 0 where
    pub owns : OwnsAll e u.now
    pub closed : u.out.closed ≡ t.out.closed
    pub pieces : own_pieces u.out.pieces ≡ own_pieces t.out.pieces ++ map piece_to (messages_of e steps)
    pub more : List (List ℕ)
    pub queued : u.out.queued ≡ t.out.queued ++ more
    pub own : Each (IsOwnFrame e) more
    pub causes : Each (IsBy c) steps

  pub calm_says :
      (e : End) (t u : Turn) → OwnsAll e u.now → u.out.closed ≡ t.out.closed
      → own_pieces u.out.pieces ≡ own_pieces t.out.pieces → u.out.queued ≡ t.out.queued → Says e t [] u
  calm_says e t u owns closed pieces queued = record {
    owns = owns;
    closed = closed;
    pieces = pieces ∙ sym (append-nil (own_pieces t.out.pieces));
    more = [];
    queued = queued ∙ sym (append-nil t.out.queued);
    own = tt;
    causes = tt;
  }

  pub same_says : (e : End) (t : Turn) → OwnsAll e t.now → Says e t [] t
  same_says e t owns = calm_says e t t owns refl refl refl

  pub says_on :
      (e : End) (t u v : Turn) (first second : List LinkStep) → Says e t first u → Says e u second v
      → Says e t (first ++ second) v
  says_on e t u v first second h k =
      let both : map piece_to (messages_of e (first ++ second))
      ≡ map piece_to (messages_of e first) ++ map piece_to (messages_of e second) =
      ap (map piece_to) (flat_map-append (messages_by e) first second)
      ∙ map-append piece_to (messages_of e first) (messages_of e second) in
      record {
        owns = k.owns;
        closed = k.closed ∙ h.closed;
        pieces = k.pieces ∙ ap (λ ps. ps ++ map piece_to (messages_of e second)) h.pieces
            ∙ append_assoc (own_pieces t.out.pieces) (map piece_to (messages_of e first))
            (map piece_to (messages_of e second))
            ∙ ap (λ ps. own_pieces t.out.pieces ++ ps) (sym both);
        more = h.more ++ k.more;
        queued = k.queued ∙ ap (λ xs. xs ++ k.more) h.queued ∙ append_assoc t.out.queued h.more k.more;
        own = each_append (IsOwnFrame e) h.more k.more h.own k.own;
        causes = each_append (IsBy c) first second h.causes k.causes;
      }

  -- ---- an event of a link

  -- the frames that it sends
  own_frame :
      (e : End) (path : Path) (s : SentIn) → IsGoodPath path → path.source ≡ call_at e → path.dest ≡ call_at (other e)
      → IsOwnFrame e (octets_of (sent_frame path s))
  own_frame e path s good source dest =
      let frame = frame_of s.modulus path s.frame in
      let in_role : IsGoodPath frame.path =
      record { few = good.few; dest = good.dest; source = good.source; hops = good.hops } in
      record {
        found = frame.path;
        len = length (path_octets frame.path);
        begins = (frame_spelled (modulus_name s) frame in_role).begins;
        source = source;
        dest = dest;
      }
    where
      modulus_name : SentIn → Modulus
      modulus_name x = modulus_named x.modulus

  own_frames :
      (e : End) (path : Path) (sent : List SentIn) (first rest : List SentFrame) → IsGoodPath path
      → path.source ≡ call_at e → path.dest ≡ call_at (other e) → map (sent_frame path) sent ≡ first ++ rest
      → Each (IsOwnFrame e) (map octets_of first)
  own_frames e path sent [] rest good source dest is = tt
  own_frames e path [] (x ∷ first) rest good source dest is = absurd (cc)
  own_frames e path (s ∷ sent) (x ∷ first) rest good source dest is =
      let head : sent_frame path s ≡ x = cc in
      let tail : map (sent_frame path) sent ≡ first ++ rest = cc in (
        subst (λ (f : SentFrame). IsOwnFrame e (octets_of f)) head (own_frame e path s good source dest),
        own_frames e path sent first rest good source dest tail,
      )

  -- a link stays its own
  own_stepped : (e : End) (link : Link) (event : LinkEvent) → IsOwn e link
      → IsOwn e (record link { machine = (link_turn link.machine event).now })
  own_stepped e link event own =
      let stays = step_stays link.machine event in
      record {
        local = own.local;
        remote = own.remote;
        owner = own.owner;
        path = subst IsGoodPath (sym stays.path) own.path;
        source = ap (λ (p : Path). p.source) stays.path ∙ own.source;
        dest = ap (λ (p : Path). p.dest) stays.path ∙ own.dest;
      }

  own_settled :
      (e : End) (key : ℕ) (link : Link) (now : Machine) (links : Links) → Each (IsOwnPlace e) links.places
      → IsOwn e (record link { machine = now }) → Each (IsOwnPlace e) (settled_link key link now links).places
  own_settled e key link now links all own = go (is_idle now.control.state)
    where
      go : (b : Bool) → Each (IsOwnPlace e) (cond b (without_link key links)
          (with_link key (record link { machine = now }) links)).places
      go true = each_set (IsOwnPlace e) links.places key None all tt
      go false = each_set (IsOwnPlace e) links.places key (Some (record link { machine = now })) all own

  pub event_says :
      (e : End) (anew : Option Path) (key : ℕ) (event : LinkEvent) (t : Turn) → cause_of event ≡ c → OwnsAll e t.now
      → Says e t (steps_at (chosen e) anew key event t) (event_at key event t)
  event_says e anew key event t by owns = go (link_at key t.now.links) refl
    where
      go : (place : Option Link) → link_at key t.now.links ≡ place
          → Says e t (steps_for (chosen e) anew key event t place) (event_of key event place t)
      go None at = same_says e t owns
      go (Some link) at =
          let own : IsOwn e link =
          subst (IsOwnPlace e) at (each_get (IsOwnPlace e) t.now.links.places key tt owns.links) in
          let stepped = link_turn link.machine event in
          let stays = step_stays link.machine event in
          let made = link_stepped key event link t in
          let rest = link_kept Rest rest_kept key event link t in
          let sent : (event_of key event (Some link) t).out.pieces
          ≡ t.out.pieces ++ pieces_to link.owner link.local link.remote stepped.told =
          sym (ap (λ place. (event_of key event place t).out.pieces) at) ∙ owners_are_told key event link t at in
          let told : pieces_to link.owner link.local link.remote stepped.told
          ≡ map piece_to (map (message_at e) stepped.told) =
          ap (λ o. pieces_to o link.local link.remote stepped.told) own.owner
          ∙ ap (λ c. pieces_to (Some program_id) c link.remote stepped.told) own.local
          ∙ ap (λ c. pieces_to (Some program_id) (call_at e) c stepped.told) own.remote
          ∙ told_pieces e stepped.told in
          subst (λ b. Says e t (cond b (link_step anew key event t link ∷ []) []) (link_event key event link t))
          (sym (own_chosen e link own)) (record {
            owns = record {
              links = subst (λ (l : Links). Each (IsOwnPlace e) l.places) (sym made.links)
                  (own_settled e key link stepped.now t.now.links owns.links (own_stepped e link event own));
              registered = subst (Each (IsOwnRegistration e)) (sym rest.registrations) owns.registered;
            };
            closed = rest.closed;
            pieces = ap own_pieces (sent ∙ ap (λ ps. t.out.pieces ++ ps) told)
                ∙ own_append t.out.pieces (map piece_to (map (message_at e) stepped.told))
                ∙ ap (λ ps. own_pieces t.out.pieces ++ ps) (all_own (map (message_at e) stepped.told)
                ∙ ap (map piece_to) (sym (append-nil (map (message_at e) stepped.told))));
            more = map octets_of made.first;
            queued = made.queued;
            own = own_frames e stepped.now.path stepped.sent made.first made.rest
                (subst IsGoodPath (sym stays.path) own.path)
                (ap (λ (p : Path). p.source) stays.path ∙ own.source)
                (ap (λ (p : Path). p.dest) stays.path ∙ own.dest) made.split;
            causes = (by, tt);
          })

  -- ---- ticks, data and disconnects

  says_kept : (e : End) → KeptByEvents (chosen e) (λ x. x ≡ c) (λ t steps u. OwnsAll e t.now → Says e t steps u)
  says_kept e = record {
    same = same_says e;
    on = λ t u v first second one two owns.
        let h = one owns in
        says_on e t u v first second h (two h.owns);
    events = λ key event t by owns. event_says e None key event t by owns;
    asked = λ key t owns.
        calm_says e t (changing (with_asked key) t) (record { links = owns.links; registered = owns.registered })
        refl refl refl;
  }

  pub ticks_say : (e : End) (busy : Bool) (t : Turn) → ticking ≡ c → OwnsAll e t.now
      → Says e t (tick_steps (chosen e) busy t) (asked_links busy t)
  ticks_say e busy t by owns =
      ticks_kept (chosen e) (λ x. x ≡ c) (λ u steps v. OwnsAll e u.now → Says e u steps v) (says_kept e) by busy t owns

  pub data_says : (e : End) (m : AgwMessage) (key : Option ℕ) (t : Turn) → sending ≡ c → OwnsAll e t.now
      → Says e t (data_steps (chosen e) m key t) (giving m key t)
  data_says e m key t by owns =
      data_kept (chosen e) (λ x. x ≡ c) (λ u steps v. OwnsAll e u.now → Says e u steps v) (says_kept e) by m key t owns

  pub disconnect_says : (e : End) (key : Option ℕ) (t : Turn) → disconnecting ≡ c → OwnsAll e t.now
      → Says e t (disconnect_steps (chosen e) key t) (disconnecting_act key t)
  disconnect_says e key t by owns =
      disconnect_kept (chosen e) (λ x. x ≡ c) (λ u steps v. OwnsAll e u.now → Says e u steps v) (says_kept e) by key t
      owns

  -- ---- a link that is made

  pub made_owns :
      (e : End) (key id pid : ℕ) (local remote : Callsign) (path : Path) (t : Turn) → OwnsAll e t.now
      → IsOwn e (idle_link id pid local remote path t.now.parameters)
      → OwnsAll e (making key id pid local remote path t).now
  made_owns e key id pid local remote path t owns own = record {
    links = each_set (IsOwnPlace e) t.now.links.places key (Some (idle_link id pid local remote path t.now.parameters))
        owns.links own;
    registered = owns.registered;
  }

  pub made_says :
      (e : End) (key id pid : ℕ) (local remote : Callsign) (path : Path) (event : LinkEvent) (t : Turn)
      → cause_of event ≡ c → OwnsAll e t.now
      → IsOwn e (idle_link id pid local remote path t.now.parameters)
      → let made = making key id pid local remote path t in
      Says e t (steps_at (chosen e) (Some path) key event made) (event_at key event made)
  made_says e key id pid local remote path event t by owns own =
      let made = making key id pid local remote path t in
      let h = event_says e (Some path) key event made by (made_owns e key id pid local remote path t owns own) in
      record {
        owns = h.owns;
        closed = h.closed;
        pieces = h.pieces;
        more = h.more;
        queued = h.queued;
        own = h.own;
        causes = h.causes;
      }

  -- ---- a frame that is heard

  shown_by :
      (kind : PortKind) (id : ℕ) (raw : Bool) (from to octets : List ℕ) (t : Turn) → (kind ≡ Kiss → id ≡ program_id → ⊥)
      → raw ≡ false → own_pieces (with_shown kind id raw from to octets t.out).pieces ≡ own_pieces t.out.pieces
  shown_by Kiss id raw from to octets t kiss none =
      let p : Piece = record { id = id; octets = kiss_data octets } in
      let not_own : (id == program_id) ≡ false =
      false_from_ne_true (id == program_id) (λ is. kiss refl (eqb-true id program_id is)) in
      own_append t.out.pieces (p ∷ [])
      ∙ ap (λ b. own_pieces t.out.pieces ++ cond b (p ∷ []) []) not_own ∙ append-nil (own_pieces t.out.pieces)
  shown_by Agw id true from to octets t kiss none = absurd (cc)
  shown_by Agw id false from to octets t kiss none = refl

  shown_to :
      (from to octets : List ℕ) (connections : List Connection) (t : Turn) → Each IsUnshown connections
      → own_pieces (in_order (map (showing_to from to octets) connections) t).out.pieces ≡ own_pieces t.out.pieces
  shown_to from to octets [] t unshown = refl
  shown_to from to octets (c ∷ connections) t unshown =
      shown_to from to octets connections (showing_to from to octets c t) unshown.1
      ∙ shown_by c.kind c.id c.raw from to octets t unshown.0.kiss unshown.0.raw

  pub shown_says :
      (e : End) (path : Option Path) (octets : List ℕ) (frame : Option Frame) (t : Turn) → OwnsAll e t.now
      → Each IsUnshown t.now.connections → Says e t [] (shown_to_hosts path octets frame t)
  shown_says e path octets frame t owns unshown =
      let from = source_field path in
      let to = destination_field path in
      let shown = showing from to octets t in
      let calm = only_shows path octets frame t in
      let pieces = monitor_pieces false t.now.ticks frame shown.now.connections in
      let none : pieces ≡ [] =
      none_monitored false t.now.ticks frame shown.now.connections
      (subst (λ (s : StationState). Each IsUnshown s.connections) (sym calm.now) unshown) in
      calm_says e t (shown_to_hosts path octets frame t)
      (subst (OwnsAll e) (sym calm.now) owns) calm.closed
      (own_append shown.out.pieces pieces ∙ ap (λ ps. own_pieces shown.out.pieces ++ own_pieces ps) none
      ∙ append-nil (own_pieces shown.out.pieces) ∙ shown_to from to octets t.now.connections t unshown) calm.queued

  own_registrar : (e : End) (call : Callsign) (registrations : List Registration) (id : ℕ)
      → Each (IsOwnRegistration e) registrations → registrar call registrations ≡ Some id → id ≡ program_id
  own_registrar e call [] id own is = absurd (cc)
  own_registrar e call (r ∷ registrations) id own is =
      go (is_same_call r.call call) is (own_registrar e call registrations id own.1)
    where
      go : (b : Bool)
          → option_map (λ (x : Registration). x.id) (cond b (Some r)
          (find (λ (x : Registration). is_same_call x.call call) registrations)) ≡ Some id
          → (registrar call registrations ≡ Some id → id ≡ program_id) → id ≡ program_id
      go true same rest = let here : r.id ≡ id = cc in sym here ∙ own.0.id
      go false same rest = rest same

  by_heard :
      (e : End) (octets : List ℕ) (t : Turn) (steps : Choice → List LinkStep) (u : Turn) → hearing ≡ c
      → t.now.digi ≡ None → OwnsAll e t.now → IsFromPartner e octets → Heard octets t steps u
      → Says e t (steps (chosen e)) u
  by_heard e octets t steps u by none owns from passes = same_says e t owns
  by_heard e octets t steps u by none owns from (repeats call k is) = absurd (cc)
  by_heard e octets t steps u by none owns from (hears key len path frame begins found is) =
      event_says e None key (LinkHear frame) t by owns
  by_heard e octets t steps u by none owns from (hears_new key id frame is vacant known new) =
      let calls = from frame.path is.len is.path in
      made_says e key id no_layer_3 frame.path.dest frame.path.source (way_back frame.path Command) (LinkHear frame) t
      by owns (record {
        local = calls.0;
        remote = calls.1;
        owner = ap (λ n. Some n)
            (own_registrar e frame.path.dest t.now.registrations id owns.registered known);
        path = heard_good octets frame.path is.len Command is.path;
        source = calls.0;
        dest = calls.1;
      })

  told_says :
      (e : End) (t u : Turn) (steps : List LinkStep) (path : Option Path) (ours : Bool) → Says e t steps u
      → Says e t steps (noting path ours u)
  told_says e t u steps path ours h = record {
    owns = record { links = h.owns.links; registered = h.owns.registered };
    closed = h.closed;
    pieces = h.pieces;
    more = h.more;
    queued = h.queued;
    own = h.own;
    causes = h.causes;
  }

  pub heard_says :
      (e : End) (octets : List ℕ) (t u : Turn) → hearing ≡ c → t.now.digi ≡ None → OwnsAll e t.now
      → Each IsUnshown t.now.connections
      → IsFromPartner e octets → (h : IsHeard octets t u) → Says e t (heard_steps (chosen e) octets t u h) u
  heard_says e octets t u by none owns unshown from h =
      let shown = shown_to_hosts h.path octets h.monitored t in
      let first = shown_says e h.path octets h.monitored t owns unshown in
      let steps = heard_steps (chosen e) octets t u h in
      subst (Says e t steps) (sym h.told)
      (told_says e t h.between steps h.path h.ours
      (says_on e t shown h.between [] steps first
      (by_heard e octets shown (λ any. heard_steps any octets t u h) h.between by
      (ap (λ (s : StationState). s.digi) (only_shows h.path octets h.monitored t).now ∙ none) first.owns from
      (heard_as octets t u h))))
