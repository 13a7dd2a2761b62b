-- A piece that a host program gives while its link is up is one packet, and the link takes it.
use Rattle.channel_bench.proofs.Common.{◌≡◌, ℕ, ◌<◌, ◌≤◌, ◌||◌, nat_le, nat_lt, true, false, List, [], ◌∷◌}
use Rattle.channel_bench.proofs.Common.{length, map, cond, get_or, Option, Some, None, is_some, is_none, refl, sym, ap}
use Rattle.channel_bench.proofs.Common.{◌∙◌, subst, arith, position, range_with_len, append-nil, take_all}
use Rattle.channel_bench.proofs.Common.{recursion_from_All, Packet, Up, Machine, refusal_of, End, A, B, other, spelling}
use Rattle.channel_bench.proofs.Common.{data_kind, data_pid, giving_packet, own_key, packet_length, packets_of}
use Rattle.channel_bench.proofs.Common.{connection_of, taking}
use Rattle.channel_bench.proofs.Common.{Link, Links, key_between, link_at, is_number, Route, StationState, most_held}
use Rattle.channel_bench.proofs.Common.{Turn, begin, program_id, call_at, most_octets, request_between, IsTurn, Choice}
use Rattle.channel_bench.proofs.Common.{LinkStep, data_steps, link_step, sends_at, steps_along, steps_for, turn_steps}
use Rattle.channel_bench.proofs.Common.{first_chosen, each_get, not_both, none_by_position}
use Rattle.std.specs.Int.{div_ceil}
use Rattle.std.specs.Prelude.{IfSome}
use Rattle.std.proofs.lemmas.Bool.Decides.{nat_tests}
use Rattle.link_machine.specs.declared.control.Control.{Control}
use Rattle.link_machine.specs.declared.fault.LinkFault.{LinkFault}
use Rattle.link_machine.specs.declared.fault.LinkFault.TheVariants.{WrongState, Full, TooLong}
use Rattle.link_machine.specs.Event.Event.{Send as LinkSend}
use Rattle.link_machine.specs.Requests.{is_closed, takes_none}
use Rattle.station.specs.AgwRequests.{if_own, is_owner, key_of_route, packet_at}
use Rattle.station.specs.Routes.{route_in}
use Rattle.station.specs.State.{Accepts, HoldsFew}
use Rattle.channel_bench.proofs.CoreRun.{input_of}
use Rattle.channel_bench.proofs.CoreRun.Usual.{gives}
use Rattle.channel_bench.proofs.HostsStay.{HasHosts}
use Rattle.channel_bench.proofs.OwnLinks.{IsOwn, IsOwnPlace, OwnsAll, chosen}
use Rattle.channel_bench.proofs.OwnMessages.{called, said_go}
use Rattle.channel_bench.proofs.ProgramsAsk.{between_written}
use Rattle.station_laws.proofs.Tables.{none_chosen}
use Rattle.station_laws.proofs.ValidCalls.{at_position}

-- ---- one packet

one_packet : (pid : ℕ) (octets : List ℕ) → 0 < length octets → length octets ≤ most_octets
    → packets_of 256 pid octets ≡ (let p : Packet = record { pid = pid; octets = octets } in p) ∷ []
one_packet pid octets some few =
    let count : div_ceil (length octets) 256 ≡ 1 = omega arith in
    ap (λ n. map (packet_at 256 pid octets) (range_with_len 0 n)) count
    ∙ ap (λ xs. (let p : Packet = record { pid = pid; octets = xs } in p) ∷ []) (take_all 256 octets few)

-- ---- the key of the link

-- the link is at a key
record IsAt (e : End) (links : Links) : Type 0 where
  key : ℕ
  found : key_between (call_at e) (call_at (other e)) links ≡ Some key
  link : Link
  at : link_at key links ≡ Some link
  is_chosen : chosen e (Some link) ≡ true

look : (c : Choice) (places : List (Option Link)) → c None ≡ false → is_some (first_chosen c places) ≡ true
    → (key : ℕ) × (position c places ≡ Some key) × (c (get_or places key None) ≡ true)
look c places empty some = go (position c places) refl
  where
    go : (o : Option ℕ) → position c places ≡ o
        → (key : ℕ) × (position c places ≡ Some key) × (c (get_or places key None) ≡ true)
    go None is =
        let none = none_chosen c places (none_by_position c places (ap is_none is)) in
        absurd (not_both (is_some (first_chosen c places)) some (ap is_some none))
    go (Some key) is = (key, is, at_position c places key is)

at_key : (e : End) (links : Links) (key : ℕ) → key_between (call_at e) (call_at (other e)) links ≡ Some key
    → chosen e None ≡ false → chosen e (link_at key links) ≡ true → IsAt e links
at_key e links key found empty is = go (link_at key links) refl
  where
    go : (place : Option Link) → link_at key links ≡ place → IsAt e links
    go None at = absurd (not_both (chosen e None) (sym (ap (chosen e) at) ∙ is) empty)
    go (Some link) at = record {
      key = key;
      found = found;
      link = link;
      at = at;
      is_chosen = sym (ap (chosen e) at) ∙ is;
    }

is_at : (e : End) (links : Links) → is_some (first_chosen (chosen e) links.places) ≡ true → IsAt e links
is_at A links some =
    let h = look (chosen A) links.places refl some in at_key A links h.0 h.1 refl h.2
is_at B links some =
    let h = look (chosen B) links.places refl some in at_key B links h.0 h.1 refl h.2

route_known : (e : End) (kind : ℕ) (body : List ℕ)
    → route_in (request_between kind e body).from (request_between kind e body).to (Some [])
    ≡ Some (let r : Route = record { local = call_at e; remote = call_at (other e); repeaters = [] } in r)
route_known e kind body = called e

own_key_is :
    (e : End) (piece : List ℕ) (links : Links) (h : IsAt e links) → IsOwn e h.link
    → own_key program_id (request_between data_kind e piece) links ≡ Some h.key
own_key_is e piece links h own =
    let owned : is_owner program_id (link_at h.key links) ≡ true =
    ap (is_owner program_id) h.at ∙ ap (is_number program_id) own.owner in
    ap (λ r. if_own program_id links (key_of_route r links)) (route_known e data_kind piece)
    ∙ ap (if_own program_id links) h.found ∙ ap (λ b. cond b (Some h.key) None) owned

-- ---- the event

pub record GivesOne (e : End) (piece : List ℕ) (s : StationState) (steps : List LinkStep) : Type 0 where
  pub step : LinkStep
  pub packet : Packet
  pub is : steps ≡ step ∷ []
  pub event : step.event ≡ LinkSend packet
  pub anew : step.anew ≡ None
  pub octets : packet.octets ≡ piece
  pub few : length step.link.machine.outgoing.packets ≤ most_held

abbrev Place : ℕ → Option Link → Type 0
Place id place = IfSome place (HoldsFew id)

data_gives :
    (e : End) (piece : List ℕ) (s : StationState) (took : Turn) → took.now.links ≡ s.links → took.now.paclen ≡ 256
    → OwnsAll e s
    → Accepts program_id s → is_some (first_chosen (chosen e) s.links.places) ≡ true → 0 < length piece
    → length piece ≤ most_octets
    → let m = request_between data_kind e piece in
    GivesOne e piece s (data_steps (chosen e) m (own_key program_id m took.now.links) took)
data_gives e piece s took same longest owns accepts there some few =
    let m = request_between data_kind e piece in
    let h = is_at e s.links there in
    let own : IsOwn e h.link = subst (IsOwnPlace e) h.at (each_get (IsOwnPlace e) s.links.places h.key tt owns.links) in
    let key : own_key program_id m took.now.links ≡ Some h.key =
    ap (own_key program_id m) same ∙ own_key_is e piece s.links h own in
    let pid = data_pid m.pid (link_at h.key took.now.links) in
    let packet : Packet = record { pid = pid; octets = piece } in
    let step = link_step None h.key (LinkSend packet) took h.link in
    let at : link_at h.key took.now.links ≡ Some h.link = ap (link_at h.key) same ∙ h.at in
    let holds : HoldsFew program_id h.link =
    subst (Place program_id) h.at
    (each_get (Place program_id) s.links.places h.key tt
    (recursion_from_All (Place program_id) s.links.places accepts.links)) in
    record {
      step = step;
      packet = packet;
      is = ap (λ k. data_steps (chosen e) m k took) key
          ∙ ap (λ ps. steps_along (giving_packet h.key) (sends_at (chosen e) h.key) ps took)
          (ap (λ n. packets_of (packet_length n) pid piece) longest ∙ one_packet pid piece some few)
          ∙ append-nil (sends_at (chosen e) h.key packet took)
          ∙ ap (steps_for (chosen e) None h.key (LinkSend packet) took) at
          ∙ ap (λ b. cond b (step ∷ []) []) h.is_chosen;
      event = refl;
      anew = refl;
      octets = refl;
      few = holds own.owner;
    }

pub gives_one :
    (e : End) (piece : List ℕ) (s : StationState) (after : Turn) → HasHosts s → OwnsAll e s → Accepts program_id s
    → is_some (connection_of program_id s.connections) ≡ true → is_some (first_chosen (chosen e) s.links.places) ≡ true
    → 0 < length piece → length piece ≤ most_octets → (turn : IsTurn (input_of e (gives piece)) (begin s) after)
    → GivesOne e piece s (turn_steps (chosen e) (input_of e (gives piece)) (begin s) after turn)
gives_one e piece s after hosts owns accepts program there some few turn =
    let m = request_between data_kind e piece in
    said_go e m (begin s) (λ steps u. GivesOne e piece s steps) (between_written data_kind e piece few) hosts
    (λ missing. absurd (not_both (is_some (connection_of program_id s.connections)) program (ap is_some missing)))
    (λ u h. data_gives e piece s (taking program_id (spelling m) (begin s)) refl hosts.paclen owns accepts there some few)
    after turn

-- ---- it is taken

pub taken :
    (m : Machine) (packet : Packet) → m.control.state ≡ Up → m.control.quit ≡ false
    → length m.outgoing.packets ≤ most_held → length packet.octets ≤ most_octets → refusal_of m (LinkSend packet) ≡ None
taken m packet up quit few short =
    let open_link : is_closed m.control ≡ false =
    ap (λ state. takes_none state || m.control.quit) up ∙ quit in
    let room : nat_le 1024 (length m.outgoing.packets) ≡ false = go_le (length m.outgoing.packets) few in
    let fits : nat_lt 256 (length packet.octets) ≡ false = go_lt (length packet.octets) short in
    ap (λ b. cond b (Some (wrong m.control)) (rest m packet)) open_link
    ∙ ap (λ b. cond b (Some Full) (cond (nat_lt 256 (length packet.octets)) (Some (TooLong (length packet.octets)))
    None)) room
    ∙ ap (λ b. cond b (Some (TooLong (length packet.octets))) None) fits
  where
    wrong : Control → LinkFault
    wrong c = WrongState c.state c.quit

    rest : Machine → Packet → Option LinkFault
    rest x p = cond (nat_le 1024 (length x.outgoing.packets)) (Some Full)
        (cond (nat_lt 256 (length p.octets)) (Some (TooLong (length p.octets))) None)

    go_le : (n : ℕ) → n ≤ most_held → nat_le 1024 n ≡ false
    go_le n h = grind (arith, nat_tests)

    go_lt : (n : ℕ) → n ≤ most_octets → nat_lt 256 n ≡ false
    go_lt n h = grind (arith, nat_tests)
