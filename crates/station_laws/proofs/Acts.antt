-- What holds of a station and of the end of its link between two calls, act by act: the end's machine is the link's,
-- and what is in flight from it is what was queued, as the pairs that are still to be heard name it.
use Rattle.station_laws.proofs.Common.{◌≡◌, ℕ, ◌+◌, ◌-◌, ◌<◌, ◌≤◌, Bool, true, false, List, [], ◌∷◌, ◌++◌, length, map}
use Rattle.station_laws.proofs.Common.{drop, Option, Some, refl, sym, ap, ◌∙◌, subst, arith, ⊤, append_assoc}
use Rattle.station_laws.proofs.Common.{length-append, length-map, Callsign, Frame, Params, Machine, SentIn, sent_kind}
use Rattle.station_laws.proofs.Common.{step, End, kept, near_kept, Tagged, asks, RecordedEnd, Happening, following, seen}
use Rattle.station_laws.proofs.Common.{tagged, Connects, Sends, Disconnects, Seizes, Ticks, Hears, World, near_turn}
use Rattle.station_laws.proofs.Common.{staying}
use Rattle.station_laws.proofs.Common.{read_in, hearing_as, hearing_first, turn_of, step_keeps, event_of, event_at}
use Rattle.station_laws.proofs.Common.{link_event, Link, Links, is_between, link_at, Turn, Pair, marks_from}
use Rattle.station_laws.proofs.Common.{event_at_end, IsMachineOf, LinkFrame}
use Rattle.std.specs.List.{AllByRecursion as Each}
use Rattle.link_machine.specs.Event.{Event as LinkEvent}
use Rattle.link_machine.specs.Event.Event.{Connect as LinkConnect, Send as LinkSend, Disconnect as LinkDisconnect}
use Rattle.link_machine.specs.Event.Event.{Hear as LinkHear, Seize as LinkSeize, Tick as LinkTick}
use Rattle.link_machine.specs.Turn.{Turn as LinkTurn}
use Rattle.link_world.specs.Recorded.{end_turn_of, hears_ask}
use Rattle.station_laws.proofs.Causes.{cause_of, NotHeard}
use Rattle.station_laws.proofs.Framed.{framed, framed-append, length-framed}
use Rattle.station_laws.proofs.Flights.{RiseFrom, flight, flight_own, flight_others, kept_first, marks, marks_from_rest}
use Rattle.station_laws.proofs.LinkKinds.{IsLinkKind}
use Rattle.station_laws.proofs.Queues.{HasStepped, link_stepped, octets_of}
use Rattle.station_laws.proofs.Standing.{IsGoodLink, IsTable, between_calls, chosen_calls, calls_chosen, good_stepped}
use Rattle.station_laws.proofs.Standing.{good_at, own_table, other_table}
use Rattle.station_laws.proofs.Tables.{chosen_at, not_both}
use Rattle.station_laws.proofs.Tags.{AreTags, tags_length, tags_append, OwnTags, own_tags, other_tags, no_tags}
use Rattle.station_laws.proofs.Tags.{no_tags_none}

-- what stays as it is while a station makes a step
pub record Setting : Type 0 where
  pub local : Callsign
  pub remote : Callsign
  pub params : Params
  -- what its links queued before
  pub earlier : List LinkFrame
  -- whether the step hears SABM, SABME or DISC
  pub on_ask : Bool
  -- the pairs of it that were heard before, and those that are still to be heard
  pub done : List Pair
  pub rest : List Pair
  pub heard : ℕ
  pub rises : RiseFrom heard 0 rest
  pub below : Each (λ (p : Pair). p.sent < length earlier) done
  -- the other end
  pub far : RecordedEnd

-- what holds, if these frames are in flight back to the station
pub record Holds (s : Setting) (back : List Tagged) (turn : Turn) (w : World) : Type 0 where
  pub parameters : turn.now.parameters ≡ s.params
  pub table : IsTable s.params (is_between s.local s.remote) turn.now.links w.a.end.machine
  pub end_params : w.a.end.machine.params ≡ s.params
  pub tags : List (Option Tagged)
  pub tagged_as : AreTags s.local s.remote tags (s.earlier ++ framed s.on_ask turn.out.queued)
  pub ahead : w.b.towards ≡ flight tags s.rest
  pub far_is : w.b.end ≡ s.far
  pub back_is : w.a.towards ≡ back

-- the marks of an event
abbrev pub marks_of : Setting → Turn → Turn → List Bool
marks_of s turn after =
    marks_from (s.done ++ s.rest) (length s.earlier + length turn.out.queued)
    (length after.out.queued - length turn.out.queued)

-- what an end makes of a turn of its link
abbrev pub turned : Happening → LinkTurn → List Tagged → List Bool → World → World
turned h t stays ms w =
    let turn = end_turn_of h w.a.end t in
    record {
      a = record { end = turn.now; towards = stays };
      b = record w.b { towards = w.b.towards ++ kept ms turn.sent };
    }

-- ---- an event of the link

-- the frames that are in flight after it
own_flight :
    (s : Setting) (tags : List (Option Tagged)) (joined lost towards : List Tagged) (first count : ℕ)
    → towards ≡ flight tags s.rest → length s.earlier ≤ first → first ≡ length tags → count ≡ length joined
    → towards ++ kept (marks_from (s.done ++ s.rest) first count) (joined ++ lost)
    ≡ flight (tags ++ map Some joined) s.rest
own_flight s tags joined lost towards first count is low at size =
    let same : marks_from (s.done ++ s.rest) first count ≡ marks s.rest (length tags) (length joined) =
    marks_from_rest s.done s.rest (length s.earlier) first count s.below low
    ∙ ap (λ n. marks s.rest n count) at ∙ ap (marks s.rest (length tags)) size in
    ap (λ ms. towards ++ kept ms (joined ++ lost)) same
    ∙ ap (λ fs. towards ++ fs) (kept_first s.rest (length tags) joined lost)
    ∙ ap (λ fs. fs ++ kept (marks s.rest (length tags) (length joined)) joined) is
    ∙ sym (flight_own tags joined s.heard 0 s.rest s.rises)

-- the queue with the frames of an event
queue_longer :
    (s : Setting) (queued more after : List (List ℕ)) → after ≡ queued ++ more
    → (s.earlier ++ framed s.on_ask queued) ++ framed s.on_ask more ≡ s.earlier ++ framed s.on_ask after
queue_longer s queued more after is =
    append_assoc s.earlier (framed s.on_ask queued) (framed s.on_ask more)
    ∙ ap (λ q. s.earlier ++ q) (sym (framed-append s.on_ask queued more) ∙ ap (framed s.on_ask) (sym is))

more_queued : (before : List (List ℕ)) (more : List (List ℕ)) (count : ℕ) → length more ≡ count
    → length (before ++ more) - length before ≡ count
more_queued before more count is = let n = length-append before more in omega arith

own_by :
    (s : Setting) (back stays : List Tagged) (turn : Turn) (w : World) (key : ℕ) (link : Link) (event : LinkEvent)
    (h : Happening) → (hears_ask h ≡ true → s.on_ask ≡ true) → Holds s back turn w
    → link_at key turn.now.links ≡ Some link → is_between s.local s.remote (Some link) ≡ true
    → Holds s stays (link_event key event link turn) (turned h (step link.machine event) stays
    (marks_of s turn (link_event key event link turn)) w)
own_by s back stays turn w key link event h caused H at is =
    let m = step link.machine event in
    let after = link_event key event link turn in
    let stepped : HasStepped key event link turn after = link_stepped key event link turn in
    let chosen = is_between s.local s.remote in
    let good : IsGoodLink s.params link = good_at s.params chosen turn.now.links w.a.end.machine key link H.table at in
    let next : IsGoodLink s.params (record link { machine = m.now }) = good_stepped s.params link event good in
    let calls = chosen_calls s.local s.remote link is in
    let now : RecordedEnd = following h w.a.end m in
    let own : OwnTags s.local s.remote s.on_ask (map (tagged (hears_ask h) now) m.sent) stepped.first =
    own_tags s.local s.remote s.on_ask (hears_ask h) now m.sent stepped.first stepped.rest caused next.path (next.source
    ∙ calls.local_is)
    (next.dest ∙ calls.remote_is) (step_keeps link.machine event good.counts).good stepped.split in
    let count : length after.out.queued - length turn.out.queued ≡ length own.joined =
    ap (λ (q : List (List ℕ)). length q - length turn.out.queued) stepped.queued
    ∙ more_queued turn.out.queued (map octets_of stepped.first) (length own.joined)
    (length-map stepped.first octets_of ∙ sym own.count) in
    let size : length s.earlier + length turn.out.queued ≡ length H.tags =
    sym (tags_length s.local s.remote H.tags (s.earlier ++ framed s.on_ask turn.out.queued) H.tagged_as
    ∙ length-append s.earlier (framed s.on_ask turn.out.queued)
    ∙ ap (λ n. length s.earlier + n) (length-framed s.on_ask turn.out.queued)) in
    record {
      parameters = stepped.parameters ∙ H.parameters;
      table = subst (λ (links : Links). IsTable s.params chosen links m.now) (sym stepped.links)
          (own_table s.params chosen turn.now.links w.a.end.machine key link m.now (between_calls s.local s.remote)
          H.table
          at is next);
      end_params = next.params_are;
      tags = H.tags ++ map Some own.joined;
      tagged_as = subst (AreTags s.local s.remote (H.tags ++ map Some own.joined))
          (queue_longer s turn.out.queued (map octets_of stepped.first) after.out.queued stepped.queued)
          (tags_append s.local s.remote H.tags (map Some own.joined) (s.earlier ++ framed s.on_ask turn.out.queued)
          (framed s.on_ask (map octets_of stepped.first)) H.tagged_as own.tags);
      ahead = ap (λ fs. w.b.towards ++ kept (marks_of s turn after) fs) own.split
          ∙ own_flight s H.tags own.joined own.lost w.b.towards (length s.earlier + length turn.out.queued)
          (length after.out.queued - length turn.out.queued) H.ahead (omega arith) size count;
      far_is = H.far_is;
      back_is = refl;
    }

-- the machine of the end is that of the link
pub own_machine :
    (s : Setting) (back : List Tagged) (turn : Turn) (w : World) (key : ℕ) (link : Link) → Holds s back turn w
    → link_at key turn.now.links ≡ Some link → is_between s.local s.remote (Some link) ≡ true
    → w.a.end.machine ≡ link.machine
own_machine s back turn w key link H at is =
    let chosen = is_between s.local s.remote in
    subst (λ place. IsMachineOf place w.a.end.machine)
    (chosen_at chosen turn.now.links.places key H.table.one refl (ap chosen at ∙ is) ∙ at) H.table.machine_is

-- if the end makes the same turn
pub own_turned :
    (s : Setting) (back stays : List Tagged) (turn : Turn) (w : World) (key : ℕ) (link : Link) (event : LinkEvent)
    (h : Happening) → (hears_ask h ≡ true → s.on_ask ≡ true) → Holds s back turn w
    → link_at key turn.now.links ≡ Some link → is_between s.local s.remote (Some link) ≡ true
    → step w.a.end.machine (seen h) ≡ step link.machine event
    → Holds s stays (event_at key event turn) (turned h (step w.a.end.machine (seen h)) stays
    (marks_of s turn (event_at key event turn)) w)
own_turned s back stays turn w key link event h caused H at is same =
    let chosen : link_event key event link turn ≡ event_at key event turn =
    sym (ap (λ place. event_of key event place turn) at) in
    subst (λ (after : Turn). Holds s stays after (turned h (step w.a.end.machine (seen h)) stays (marks_of s turn after)
    w))
    chosen
    (subst (λ t. Holds s stays (link_event key event link turn)
    (turned h t stays (marks_of s turn (link_event key event link turn)) w))
    (sym same) (own_by s back stays turn w key link event h caused H at is))

-- what is not heard
abbrev pub IsAsked : LinkEvent → Type 0
IsAsked event = NotHeard (cause_of event)

with_back : (s : Setting) (back towards : List Tagged) (turn : Turn) (w : World) → towards ≡ back
    → Holds s towards turn w → Holds s back turn w
with_back s back towards turn w is H = subst (λ ts. Holds s ts turn w) is H

pub own_asked :
    (s : Setting) (e : End) (back : List Tagged) (turn : Turn) (w : World) (key : ℕ) (link : Link) (event : LinkEvent)
    → IsAsked event → Holds s back turn w → link_at key turn.now.links ≡ Some link
    → is_between s.local s.remote (Some link) ≡ true
    → Holds s back (event_at key event turn)
    (near_kept (event_at_end e event) (marks_of s turn (event_at key event turn)) w)
own_asked s e back turn w key link LinkConnect asked H at is =
    with_back s back w.a.towards (event_at key LinkConnect turn) _ H.back_is
    (own_turned s back w.a.towards turn w key link LinkConnect Connects (λ never. absurd (cc)) H at is
    (ap (λ m. step m LinkConnect) (own_machine s back turn w key link H at is)))
own_asked s e back turn w key link (LinkSend packet) asked H at is =
    with_back s back w.a.towards (event_at key (LinkSend packet) turn) _ H.back_is
    (own_turned s back w.a.towards turn w key link (LinkSend packet) (Sends packet) (λ never. absurd (cc)) H at is
    (ap (λ m. step m (LinkSend packet)) (own_machine s back turn w key link H at is)))
own_asked s e back turn w key link LinkDisconnect asked H at is =
    with_back s back w.a.towards (event_at key LinkDisconnect turn) _ H.back_is
    (own_turned s back w.a.towards turn w key link LinkDisconnect Disconnects (λ never. absurd (cc)) H at is
    (ap (λ m. step m LinkDisconnect) (own_machine s back turn w key link H at is)))
own_asked s e back turn w key link (LinkHear frame) asked H at is = absurd asked
own_asked s e back turn w key link (LinkTick waiting) asked H at is =
    with_back s back w.a.towards (event_at key (LinkTick waiting) turn) _ H.back_is
    (own_turned s back w.a.towards turn w key link (LinkTick waiting) (Ticks waiting) (λ never. absurd (cc)) H at is
    (ap (λ m. step m (LinkTick waiting)) (own_machine s back turn w key link H at is)))
own_asked s e back turn w key link (LinkSeize last full) asked H at is =
    with_back s back w.a.towards (event_at key (LinkSeize last full) turn) _ H.back_is
    (own_turned s back w.a.towards turn w key link (LinkSeize last full) (Seizes last full) (λ never. absurd (cc)) H at
    is (ap (λ m. step m (LinkSeize last full)) (own_machine s back turn w key link H at is)))

-- the frame in front is heard, as it is read
pub own_heard :
    (s : Setting) (e : End) (f : Tagged) (g : Frame) (rest : List Tagged) (turn : Turn) (w : World) (key : ℕ)
    (link : Link)
    (frame : Frame) → (asks g.kind ≡ true → s.on_ask ≡ true) → Holds s (f ∷ rest) turn w
    → link_at key turn.now.links ≡ Some link → is_between s.local s.remote (Some link) ≡ true
    → read_in w.a.end.machine.incoming.modulus f ≡ Some g
    → step w.a.end.machine (LinkHear g) ≡ step link.machine (LinkHear frame)
    → Holds s rest (event_at key (LinkHear frame) turn)
    (near_kept (event_at_end e (LinkHear frame)) (marks_of s turn (event_at key (LinkHear frame) turn)) w)
own_heard s e f g rest turn w key link frame caused H at is read same =
    let after = event_at key (LinkHear frame) turn in
    let ms = marks_of s turn after in
    subst (λ ts. Holds s rest after (let t = turn_of (hearing_first w.a.end.machine.incoming.modulus ts) w.a.end in
    record {
      a = record { end = t.now; towards = drop 1 ts };
      b = record w.b { towards = w.b.towards ++ kept ms t.sent };
    })) (sym H.back_is)
    (subst (λ o. Holds s rest after (let t = turn_of (hearing_as f o) w.a.end in record {
      a = record { end = t.now; towards = rest };
      b = record w.b { towards = w.b.towards ++ kept ms t.sent };
    })) (sym read)
    (own_turned s (f ∷ rest) rest turn w key link (LinkHear frame) (Hears (record f { frame = g }))
    caused H at is same))

-- what it is told then
pub heard_told :
    (e : End) (f : Tagged) (g : Frame) (rest : List Tagged) (w : World) (machine : Machine) (frame : Frame)
    → w.a.towards ≡ f ∷ rest → read_in w.a.end.machine.incoming.modulus f ≡ Some g
    → step w.a.end.machine (LinkHear g) ≡ step machine (LinkHear frame)
    → (near_turn (event_at_end e (LinkHear frame)) w).told ≡ (step machine (LinkHear frame)).told
heard_told e f g rest w machine frame front read same =
    ap (λ ts. (turn_of (hearing_first w.a.end.machine.incoming.modulus ts) w.a.end).told) front
    ∙ ap (λ o. (turn_of (hearing_as f o) w.a.end).told) read
    ∙ ap (λ (t : LinkTurn). t.told) same

pub asked_told :
    (e : End) (w : World) (machine : Machine) (event : LinkEvent) → IsAsked event → w.a.end.machine ≡ machine
    → (near_turn (event_at_end e event) w).told ≡ (step machine event).told
asked_told e w machine LinkConnect asked is = ap (λ m. (step m LinkConnect).told) is
asked_told e w machine (LinkSend packet) asked is = ap (λ m. (step m (LinkSend packet)).told) is
asked_told e w machine LinkDisconnect asked is = ap (λ m. (step m LinkDisconnect).told) is
asked_told e w machine (LinkHear frame) asked is = absurd asked
asked_told e w machine (LinkTick waiting) asked is = ap (λ m. (step m (LinkTick waiting)).told) is
asked_told e w machine (LinkSeize last full) asked is = ap (λ m. (step m (LinkSeize last full)).told) is

-- what stays in flight to it
pub asked_stays :
    (e : End) (event : LinkEvent) (towards back : List Tagged) → IsAsked event → towards ≡ back
    → staying (event_at_end e event) towards ≡ back
asked_stays e LinkConnect towards back asked is = is
asked_stays e (LinkSend packet) towards back asked is = is
asked_stays e LinkDisconnect towards back asked is = is
asked_stays e (LinkHear frame) towards back asked is = absurd asked
asked_stays e (LinkTick waiting) towards back asked is = is
asked_stays e (LinkSeize last full) towards back asked is = is

-- which of the frames that it sends are SABM, SABME or DISC
abbrev pub is_asking : Tagged → Bool
is_asking f = asks f.frame.kind

abbrev pub asks_when_sent : SentIn → Bool
asks_when_sent s = asks (sent_kind s.modulus s.frame)

tagged_asking : (on_ask : Bool) (now : RecordedEnd) (sent : List SentIn)
    → map is_asking (map (tagged on_ask now) sent) ≡ map asks_when_sent sent
tagged_asking on_ask now [] = refl
tagged_asking on_ask now (s ∷ sent) = ap (λ bs. asks_when_sent s ∷ bs) (tagged_asking on_ask now sent)

turn_asking : (h : Happening) (r : RecordedEnd) (t : LinkTurn)
    → map is_asking (end_turn_of h r t).sent ≡ map asks_when_sent t.sent
turn_asking h r t = tagged_asking (hears_ask h) (following h r t) t.sent

pub asked_asking :
    (e : End) (w : World) (machine : Machine) (event : LinkEvent) → IsAsked event → w.a.end.machine ≡ machine
    → map is_asking (near_turn (event_at_end e event) w).sent ≡ map asks_when_sent (step machine event).sent
asked_asking e w machine LinkConnect asked is =
    turn_asking Connects w.a.end (step w.a.end.machine LinkConnect)
    ∙ ap (λ m. map asks_when_sent (step m LinkConnect).sent) is
asked_asking e w machine (LinkSend packet) asked is =
    turn_asking (Sends packet) w.a.end (step w.a.end.machine (LinkSend packet))
    ∙ ap (λ m. map asks_when_sent (step m (LinkSend packet)).sent) is
asked_asking e w machine LinkDisconnect asked is =
    turn_asking Disconnects w.a.end (step w.a.end.machine LinkDisconnect)
    ∙ ap (λ m. map asks_when_sent (step m LinkDisconnect).sent) is
asked_asking e w machine (LinkHear frame) asked is = absurd asked
asked_asking e w machine (LinkTick waiting) asked is =
    turn_asking (Ticks waiting) w.a.end (step w.a.end.machine (LinkTick waiting))
    ∙ ap (λ m. map asks_when_sent (step m (LinkTick waiting)).sent) is
asked_asking e w machine (LinkSeize last full) asked is =
    turn_asking (Seizes last full) w.a.end (step w.a.end.machine (LinkSeize last full))
    ∙ ap (λ m. map asks_when_sent (step m (LinkSeize last full)).sent) is

-- what is heard is the frame in front, as it is read
pub record FrontRead (frame : Frame) (w : World) : Type 0 where
  pub front : Tagged
  pub rest : List Tagged
  pub as_read : Frame
  pub towards : w.a.towards ≡ front ∷ rest
  pub reading : read_in w.a.end.machine.incoming.modulus front ≡ Some as_read
  pub kind : as_read.kind ≡ frame.kind
  pub of_link : IsLinkKind frame.kind

abbrev pub ReadsFront : LinkEvent → World → Type 0
ReadsFront LinkConnect w = ⊤
ReadsFront (LinkSend packet) w = ⊤
ReadsFront LinkDisconnect w = ⊤
ReadsFront (LinkHear frame) w = FrontRead frame w
ReadsFront (LinkTick waiting) w = ⊤
ReadsFront (LinkSeize last full) w = ⊤

pub asked_reads : (event : LinkEvent) (w : World) → IsAsked event → ReadsFront event w
asked_reads LinkConnect w asked = tt
asked_reads (LinkSend packet) w asked = tt
asked_reads LinkDisconnect w asked = tt
asked_reads (LinkHear frame) w asked = absurd asked
asked_reads (LinkTick waiting) w asked = tt
asked_reads (LinkSeize last full) w asked = tt

-- the machine after it
pub asked_next :
    (e : End) (w : World) (machine : Machine) (event : LinkEvent) → IsAsked event → w.a.end.machine ≡ machine
    → (near_turn (event_at_end e event) w).now.machine ≡ (step machine event).now
asked_next e w machine LinkConnect asked is = ap (λ m. (step m LinkConnect).now) is
asked_next e w machine (LinkSend packet) asked is = ap (λ m. (step m (LinkSend packet)).now) is
asked_next e w machine LinkDisconnect asked is = ap (λ m. (step m LinkDisconnect).now) is
asked_next e w machine (LinkHear frame) asked is = absurd asked
asked_next e w machine (LinkTick waiting) asked is = ap (λ m. (step m (LinkTick waiting)).now) is
asked_next e w machine (LinkSeize last full) asked is = ap (λ m. (step m (LinkSeize last full)).now) is

pub heard_next :
    (e : End) (f : Tagged) (g : Frame) (rest : List Tagged) (w : World) (machine : Machine) (frame : Frame)
    → w.a.towards ≡ f ∷ rest → read_in w.a.end.machine.incoming.modulus f ≡ Some g
    → step w.a.end.machine (LinkHear g) ≡ step machine (LinkHear frame)
    → (near_turn (event_at_end e (LinkHear frame)) w).now.machine ≡ (step machine (LinkHear frame)).now
heard_next e f g rest w machine frame front read same =
    ap (λ ts. (turn_of (hearing_first w.a.end.machine.incoming.modulus ts) w.a.end).now.machine) front
    ∙ ap (λ o. (turn_of (hearing_as f o) w.a.end).now.machine) read
    ∙ ap (λ (t : LinkTurn). t.now) same

pub heard_asking :
    (e : End) (f : Tagged) (g : Frame) (rest : List Tagged) (w : World) (machine : Machine) (frame : Frame)
    → w.a.towards ≡ f ∷ rest → read_in w.a.end.machine.incoming.modulus f ≡ Some g
    → step w.a.end.machine (LinkHear g) ≡ step machine (LinkHear frame)
    → map is_asking (near_turn (event_at_end e (LinkHear frame)) w).sent
    ≡ map asks_when_sent (step machine (LinkHear frame)).sent
heard_asking e f g rest w machine frame front read same =
    ap (λ ts. map is_asking (turn_of (hearing_first w.a.end.machine.incoming.modulus ts) w.a.end).sent) front
    ∙ ap (λ o. map is_asking (turn_of (hearing_as f o) w.a.end).sent) read
    ∙ turn_asking (Hears (record f { frame = g })) w.a.end (step w.a.end.machine (LinkHear g))
    ∙ ap (λ (t : LinkTurn). map asks_when_sent t.sent) same

-- ---- an event of another link

other_by :
    (s : Setting) (back : List Tagged) (turn : Turn) (w : World) (key : ℕ) (link : Link) (event : LinkEvent)
    → Holds s back turn w → link_at key turn.now.links ≡ Some link → is_between s.local s.remote (Some link) ≡ false
    → Holds s back (link_event key event link turn) w
other_by s back turn w key link event H at is =
    let m = step link.machine event in
    let after = link_event key event link turn in
    let stepped : HasStepped key event link turn after = link_stepped key event link turn in
    let chosen = is_between s.local s.remote in
    let good : IsGoodLink s.params link = good_at s.params chosen turn.now.links w.a.end.machine key link H.table at in
    let next : IsGoodLink s.params (record link { machine = m.now }) = good_stepped s.params link event good in
    let others : AreTags s.local s.remote (no_tags stepped.first) (framed s.on_ask (map octets_of stepped.first)) =
    other_tags s.local s.remote s.on_ask m.now.path m.sent stepped.first stepped.rest next.path
    (λ source dest. not_both (chosen (Some link))
    (calls_chosen s.local s.remote link (sym next.source ∙ source) (sym next.dest ∙ dest)) is) stepped.split in
    record {
      parameters = stepped.parameters ∙ H.parameters;
      table = subst (λ (links : Links). IsTable s.params chosen links w.a.end.machine) (sym stepped.links)
          (other_table s.params chosen turn.now.links w.a.end.machine key link m.now (between_calls s.local s.remote)
          H.table
          at is next);
      end_params = H.end_params;
      tags = H.tags ++ no_tags stepped.first;
      tagged_as = subst (AreTags s.local s.remote (H.tags ++ no_tags stepped.first))
          (queue_longer s turn.out.queued (map octets_of stepped.first) after.out.queued stepped.queued)
          (tags_append s.local s.remote H.tags (no_tags stepped.first) (s.earlier ++ framed s.on_ask turn.out.queued)
          (framed s.on_ask (map octets_of stepped.first)) H.tagged_as others);
      ahead = H.ahead ∙ sym (flight_others H.tags (no_tags stepped.first) s.rest (no_tags_none stepped.first));
      far_is = H.far_is;
      back_is = H.back_is;
    }

pub other_event :
    (s : Setting) (back : List Tagged) (turn : Turn) (w : World) (key : ℕ) (link : Link) (event : LinkEvent)
    → Holds s back turn w → link_at key turn.now.links ≡ Some link → is_between s.local s.remote (Some link) ≡ false
    → Holds s back (event_at key event turn) w
other_event s back turn w key link event H at is =
    subst (λ after. Holds s back after w) (sym (ap (λ place. event_of key event place turn) at))
    (other_by s back turn w key link event H at is)

-- ---- what changes no link and queues no frame of one

pub still_holds :
    (s : Setting) (back : List Tagged) (turn after : Turn) (w : World) → Holds s back turn w
    → after.now.links ≡ turn.now.links → after.now.parameters ≡ turn.now.parameters
    → after.out.queued ≡ turn.out.queued → Holds s back after w
still_holds s back turn after w H links parameters queued = record {
  parameters = parameters ∙ H.parameters;
  table = subst (λ (l : Links). IsTable s.params (is_between s.local s.remote) l w.a.end.machine) (sym links) H.table;
  end_params = H.end_params;
  tags = H.tags;
  tagged_as = subst (λ q. AreTags s.local s.remote H.tags (s.earlier ++ framed s.on_ask q)) (sym queued) H.tagged_as;
  ahead = H.ahead;
  far_is = H.far_is;
  back_is = H.back_is;
}
