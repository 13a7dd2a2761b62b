-- The packets of a D message, one event of the link after another: the link takes a first part of the body.
use Rattle.station_laws.proofs.Common.{◌≡◌, ℕ, zero, suc, ◌+◌, ◌*◌, ◌<◌, ◌≤◌, ◌||◌, ◌&&◌, ◌==◌, Bool, true, false, nat_le}
use Rattle.station_laws.proofs.Common.{nat_lt, List, [], ◌∷◌, ◌++◌, length, map, take, drop, get_or, set, cond, Option, Some}
use Rattle.station_laws.proofs.Common.{None, is_some, refl, sym, ap, ◌∙◌, subst, arith, ⊤, append-nil, append_assoc, range_with_len}
use Rattle.station_laws.proofs.Common.{or_parts, false≢true, Packet, Event, Send, Machine, begin}
use Rattle.station_laws.proofs.Common.{release, Connect, Disconnect, Hear, Tick, Seize, AgwMessage, data_pid, data_steps}
use Rattle.station_laws.proofs.Common.{step, LinkState, Idle, Calling, Up, Releasing, Link, Links, link_at, with_link}
use Rattle.station_laws.proofs.Common.{settled_link, event_of, giving_packet, packet_length, packets_of}
use Rattle.station_laws.proofs.Common.{Turn, Choice, LinkStep, link_step, steps_for, sends_at, steps_along}
use Rattle.std.proofs.Math.Nat.{mul_comm, suc-mul}
use Rattle.std.specs.Int.{div_ceil}
use Rattle.std.specs.List.{AllByRecursion as Each}
use Rattle.std.proofs.lemmas.Bool.{le-ltb}
use Rattle.std.proofs.lemmas.Grind.{div_ceil_times}
use Rattle.std.proofs.lemmas.List.{drop-take, length-take, take-append-drop, take-take, take_all}
use Rattle.std.proofs.lemmas.List.Concat.{flat_map-append}
use Rattle.std.proofs.lemmas.List.FromFn.{map-range_with_len_more}
use Rattle.link_machine.specs.Machine.{most_octets, most_packets}
use Rattle.link_machine.specs.Requests.{is_closed, joined, takes_none}
use Rattle.link_machine.specs.Step.{refusal_of, row, settle_in, settled}
use Rattle.link_machine.specs.Turn.{Turn as LinkTurn, changing as changing_machine}
use Rattle.link_machine.specs.declared.fault.LinkFault.{LinkFault}
use Rattle.link_machine.specs.declared.fault.LinkFault.TheVariants.{WrongState, Full, TooLong}
use Rattle.station.specs.AgwRequests.{packet_at}
use Rattle.station.specs.LinkEvents.{is_idle}
use Rattle.station.specs.Links.{without_link}
use Rattle.station_laws.proofs.Queues.{link_stepped}
use Rattle.station_laws.proofs.Standing.{LooksAtCalls}
use Rattle.call_laws.specs.FirstPart.{IsFirstPart}
use Rattle.call_laws.specs.PrintsTold.{octets_of}
use Rattle.live_laws.specs.HostGives.{is_refused, taken_by, taken_in}

-- ---- the packets of a body

-- the octets from one place to another, and up to it
take_both : (a b : ℕ) (xs : List ℕ) → take a xs ++ take b (drop a xs) ≡ take (a + b) xs
take_both a b xs =
    let first : take a (take (a + b) xs) ≡ take a xs = take-take a (a + b) xs (omega arith) in
    ap (λ ys. ys ++ take b (drop a xs)) (sym first) ∙ ap (λ ys. take a (take (a + b) xs) ++ ys) (sym (drop-take a b xs))
    ∙ take-append-drop a (take (a + b) xs)

first_packets : (len pid : ℕ) (octets : List ℕ) (n : ℕ)
    → octets_of (map (packet_at len pid octets) (range_with_len 0 n)) ≡ take (n * len) octets
first_packets len pid octets zero = let none : 0 ≡ 0 * len = omega arith in ap (λ k. take k octets) none
first_packets len pid octets (suc n) =
    let more : map (packet_at len pid octets) (range_with_len 0 (n + 1))
    ≡ map (packet_at len pid octets) (range_with_len 0 n) ++ packet_at len pid octets n ∷ [] =
    map-range_with_len_more (packet_at len pid octets) 0 n n (omega arith) in
    let places : len * n ≡ n * len = mul_comm len n in
    let on : n * len + len ≡ suc n * len = sym (suc-mul n len) in
    let next : suc n ≡ n + 1 = omega arith in
    ap (λ k. octets_of (map (packet_at len pid octets) (range_with_len 0 k))) next ∙ ap octets_of more
    ∙ flat_map-append (λ (p : Packet). p.octets) (map (packet_at len pid octets) (range_with_len 0 n))
    (packet_at len pid octets n ∷ [])
    ∙ ap (λ xs. xs ++ (take len (drop (len * n) octets) ++ [])) (first_packets len pid octets n)
    ∙ ap (λ xs. take (n * len) octets ++ xs) (append-nil (take len (drop (len * n) octets)))
    ∙ ap (λ k. take (n * len) octets ++ take len (drop k octets)) places
    ∙ take_both (n * len) len octets ∙ ap (λ k. take k octets) on

pub all_packets : (len pid : ℕ) (octets : List ℕ) → 0 < len → octets_of (packets_of len pid octets) ≡ octets
all_packets len pid octets some =
    let count = div_ceil (length octets) len in
    let enough : length octets ≤ count * len = (div_ceil_times (length octets) len some).0 in
    first_packets len pid octets count ∙ take_all (count * len) octets enough

abbrev pub IsShort : Packet → Type 0
IsShort packet = length packet.octets ≤ most_octets

each_short : (len pid : ℕ) (octets : List ℕ) (ks : List ℕ) → len ≤ most_octets
    → Each IsShort (map (packet_at len pid octets) ks)
each_short len pid octets [] few = tt
each_short len pid octets (k ∷ ks) few =
    let short : length (take len (drop (len * k) octets)) ≤ most_octets =
    omega (arith, length-take len (drop (len * k) octets)) in
    (short, each_short len pid octets ks few)

pub packets_short : (len pid : ℕ) (octets : List ℕ) → len ≤ most_octets → Each IsShort (packets_of len pid octets)
packets_short len pid octets few = each_short len pid octets (range_with_len 0 (div_ceil (length octets) len)) few

-- ---- a packet that is offered

-- no packet is taken
abbrev shut : Machine → Bool
shut m = is_closed m.control || nat_le most_packets (length m.outgoing.packets)

refused_as : (m : Machine) (packet : Packet) → IsShort packet → is_some (refusal_of m (Send packet)) ≡ shut m
refused_as m packet short =
    go (is_closed m.control) (nat_le most_packets (length m.outgoing.packets))
    (nat_lt most_octets (length packet.octets)) (le-ltb most_octets (length packet.octets) short)
  where
    go : (a b c : Bool) → c ≡ false
        → is_some (cond a (Some (WrongState m.control.state m.control.quit))
        (cond b (Some Full) (cond c (Some (TooLong (length packet.octets))) None)))
        ≡ (a || b)
    go true b c is = refl
    go false true c is = refl
    go false false true is = absurd (false≢true (sym is))
    go false false false is = refl

-- a packet tells nothing, and leaves the state of the link
pub record Stands (m : Machine) (t : LinkTurn) : Type 0 where
  pub told : t.told ≡ []
  pub state : t.now.control.state ≡ m.control.state

taken_settles : (m : Machine) (packet : Packet) → is_closed m.control ≡ false
    → Stands m (settled (changing_machine (joined packet) (begin m)))
taken_settles m packet open_still = go m.control.state
  where
    t : LinkTurn
    t = changing_machine (joined packet) (begin m)

    closes : (b : Bool) → b ≡ false → Stands m (cond (b && length t.now.outgoing.packets == 0) (release t) t)
    closes true is = absurd (false≢true (sym is))
    closes false is = record { told = refl; state = refl }

    go : (state : LinkState) → Stands m (settle_in state t)
    go Idle = record { told = refl; state = refl }
    go Calling = record { told = refl; state = refl }
    go Up = closes m.control.quit (or_parts (takes_none m.control.state) m.control.quit open_still).1
    go Releasing = record { told = refl; state = refl }

pub send_stands : (m : Machine) (packet : Packet) → Stands m (step m (Send packet))
unfolding step
send_stands m packet = go (is_closed m.control) refl
  where
    other : Option LinkFault
    other =
        cond (nat_le most_packets (length m.outgoing.packets)) (Some Full)
        (cond (nat_lt most_octets (length packet.octets)) (Some (TooLong (length packet.octets))) None)

    by : (b : Bool) → is_closed m.control ≡ false
        → Stands m (cond b (begin m) (settled (row (Send packet) (begin m))))
    by true open_still = record { told = refl; state = refl }
    by false open_still = taken_settles m packet open_still

    go : (b : Bool) → is_closed m.control ≡ b
        → Stands m (cond (is_some (cond b (Some (WrongState m.control.state m.control.quit)) other)) (begin m)
        (settled (row (Send packet) (begin m))))
    go true is = record { told = refl; state = refl }
    go false is = by (is_some other) is

refused_turn : (m : Machine) (packet : Packet) → is_some (refusal_of m (Send packet)) ≡ true
    → step m (Send packet) ≡ begin m
unfolding step
refused_turn m packet is = ap (λ b. cond b (begin m) (settled (row (Send packet) (begin m)))) is

-- a link that takes a packet is not idle
not_idle : (m : Machine) → shut m ≡ false → is_idle m.control.state ≡ false
not_idle m open_still =
    go m.control.state
    (or_parts (takes_none m.control.state) m.control.quit
    (or_parts (is_closed m.control) (nat_le most_packets (length m.outgoing.packets)) open_still).0).0
  where
    go : (state : LinkState) → takes_none state ≡ false → is_idle state ≡ false
    go Idle is = absurd (false≢true (sym is))
    go Calling is = refl
    go Up is = refl
    go Releasing is = refl

-- ---- the link at its key

abbrev pub IsSend : Event → Type 0
IsSend Connect = ⊥
IsSend (Send packet) = ⊤
IsSend Disconnect = ⊥
IsSend (Hear frame) = ⊥
IsSend (Tick still) = ⊥
IsSend (Seize last full) = ⊥

-- the event is a packet, and finds the link in a state
pub record IsSendIn (state : LinkState) (send : LinkStep) : Type 0 where
  pub sends : IsSend send.event
  pub finds : send.link.machine.control.state ≡ state

-- the events of packets that are offered to a link
record Offers (state : LinkState) (packets : List Packet) (sends : List LinkStep) : Type 0 where
  each : Each (IsSendIn state) sends
  part : IsFirstPart (taken_in sends) (octets_of packets)
  whole : Each (λ (send : LinkStep). is_refused send ≡ false) sends → taken_in sends ≡ octets_of packets

-- what stands at a key that had a link
set_at : (places : List (Option Link)) (key : ℕ) (link : Link) (x : Option Link) → get_or places key None ≡ Some link
    → get_or (set places key x) key None ≡ x
set_at [] key link x at = absurd (cc)
set_at (place ∷ places) zero link x at = refl
set_at (place ∷ places) (suc key) link x at = set_at places key link x at

module _ (chosen : Choice) (looks : LooksAtCalls chosen) (key : ℕ) where
  abbrev sends_of : List Packet → Turn → List LinkStep
  sends_of packets turn = steps_along (giving_packet key) (sends_at chosen key) packets turn

  abbrev one : Packet → Turn → Link → LinkStep
  one packet turn link = link_step None key (Send packet) turn link

  -- the event of one packet
  here : (packet : Packet) (turn : Turn) (link : Link) → link_at key turn.now.links ≡ Some link
      → chosen (Some link) ≡ true → sends_at chosen key packet turn ≡ one packet turn link ∷ []
  here packet turn link at is =
      ap (steps_for chosen None key (Send packet) turn) at ∙ ap (λ b. cond b (one packet turn link ∷ []) []) is

  -- the links after it
  abbrev after : Packet → Link → Links → Links
  after packet link links = settled_link key link (step link.machine (Send packet)).now links

  links_after : (packet : Packet) (turn : Turn) (link : Link) → link_at key turn.now.links ≡ Some link
      → (giving_packet key packet turn).now.links ≡ after packet link turn.now.links
  links_after packet turn link at =
      ap (λ (place : Option Link). (event_of key (Send packet) place turn).now.links) at
      ∙ (link_stepped key (Send packet) link turn).links

  -- the link that goes on
  abbrev next : Packet → Link → Link
  next packet link = record link { machine = (step link.machine (Send packet)).now }

  goes_on : (packet : Packet) (turn : Turn) (link : Link) → link_at key turn.now.links ≡ Some link
      → shut link.machine ≡ false
      → link_at key (giving_packet key packet turn).now.links ≡ Some (next packet link)
  goes_on packet turn link at open_still =
      ap (link_at key) (links_after packet turn link at)
      ∙ ap (λ b. link_at key (cond b (without_link key turn.now.links) (with_link key (next packet link) turn.now.links)))
      (ap is_idle (send_stands link.machine packet).state ∙ not_idle link.machine open_still)
      ∙ set_at turn.now.links.places key link (Some (next packet link)) at

  -- a place whose link takes no packet
  abbrev IsShutPlace : LinkState → Option Link → Type 0
  IsShutPlace state None = ⊤
  IsShutPlace state (Some link) = (shut link.machine ≡ true) × (link.machine.control.state ≡ state)

  stays_shut : (state : LinkState) (packet : Packet) (turn : Turn) (link : Link)
      → link_at key turn.now.links ≡ Some link → IsShort packet → IsShutPlace state (Some link)
      → IsShutPlace state (link_at key (giving_packet key packet turn).now.links)
  stays_shut state packet turn link at short is =
      subst (IsShutPlace state) (sym (ap (link_at key) (links_after packet turn link at))) (go (is_idle now.control.state))
    where
      now : Machine
      now = (step link.machine (Send packet)).now

      same : now ≡ link.machine
      same = ap (λ (t : LinkTurn). t.now)
          (refused_turn link.machine packet (refused_as link.machine packet short ∙ is.0))

      go : (b : Bool) → IsShutPlace state (link_at key (cond b (without_link key turn.now.links)
          (with_link key (record link { machine = now }) turn.now.links)))
      go true = subst (IsShutPlace state) (sym (set_at turn.now.links.places key link None at)) tt
      go false =
          subst (IsShutPlace state) (sym (set_at turn.now.links.places key link (Some (record link { machine = now })) at))
          (ap shut same ∙ is.0, ap (λ (m : Machine). m.control.state) same ∙ is.1)

  -- none of these is taken
  abbrev TakesNone : LinkState → List LinkStep → Type 0
  TakesNone state sends = Each (IsSendIn state) sends × (taken_in sends ≡ [])

  refused_all : (state : LinkState) (packets : List Packet) (turn : Turn) (place : Option Link)
      → link_at key turn.now.links ≡ place → IsShutPlace state place → Each IsShort packets
      → TakesNone state (sends_of packets turn)
  refused_all state [] turn place at is short = (tt, refl)
  refused_all state (packet ∷ packets) turn None at is short =
      let same : giving_packet key packet turn ≡ turn = ap (λ place. event_of key (Send packet) place turn) at in
      let none : sends_at chosen key packet turn ≡ [] = ap (steps_for chosen None key (Send packet) turn) at in
      subst (λ xs. TakesNone state (xs ++ sends_of packets (giving_packet key packet turn))) (sym none)
      (subst (λ t. TakesNone state (sends_of packets t)) (sym same) (refused_all state packets turn None at is short.1))
  refused_all state (packet ∷ packets) turn (Some link) at is short =
      let after_it = giving_packet key packet turn in
      let more : TakesNone state (sends_of packets after_it) =
      refused_all state packets after_it (link_at key after_it.now.links) refl
      (stays_shut state packet turn link at short.0 is) short.1 in
      subst (λ xs. TakesNone state (xs ++ sends_of packets after_it))
      (sym (ap (steps_for chosen None key (Send packet) turn) at))
      (go (sends_of packets after_it) more (chosen (Some link)))
    where
      none : taken_by (one packet turn link) ≡ []
      none = ap (λ b. cond b [] packet.octets) (refused_as link.machine packet short.0 ∙ is.0)

      go : (rest : List LinkStep) → TakesNone state rest → (b : Bool)
          → TakesNone state (cond b (one packet turn link ∷ []) [] ++ rest)
      go rest more true = (
        (record { sends = tt; finds = is.1 }, more.0),
        ap (λ xs. xs ++ taken_in rest) none ∙ more.1,
      )
      go rest more false = more

  offered : (packets : List Packet) (turn : Turn) (link : Link) → link_at key turn.now.links ≡ Some link
      → chosen (Some link) ≡ true → Each IsShort packets
      → Offers link.machine.control.state packets (sends_of packets turn)
  offered [] turn link at is short = record { each = tt; part = ([], refl); whole = λ taken. refl }
  offered (packet ∷ packets) turn link at is short =
      let after_it = giving_packet key packet turn in
      subst (λ xs. Offers link.machine.control.state (packet ∷ packets) (xs ++ sends_of packets after_it))
      (sym (here packet turn link at is))
      (go (sends_of packets after_it)
      (λ shuts. refused_all link.machine.control.state packets after_it (link_at key after_it.now.links) refl
      (stays_shut link.machine.control.state packet turn link at short.0 (shuts, refl)) short.1)
      (λ takes. offered packets after_it (next packet link) (goes_on packet turn link at takes)
      (looks.calls link (next packet link) refl refl ∙ is) short.1) (shut link.machine) refl)
    where
      state : LinkState
      state = link.machine.control.state

      sent : LinkStep
      sent = one packet turn link

      refused : is_refused sent ≡ shut link.machine
      refused = refused_as link.machine packet short.0

      go : (rest : List LinkStep) → (shut link.machine ≡ true → TakesNone state rest)
          → (shut link.machine ≡ false → Offers (next packet link).machine.control.state packets rest) → (b : Bool)
          → shut link.machine ≡ b → Offers state (packet ∷ packets) (sent ∷ rest)
      go rest none_more more true shuts =
          let none = none_more shuts in
          let taken : taken_in (sent ∷ rest) ≡ [] =
          ap (λ b. cond b [] packet.octets ++ taken_in rest) (refused ∙ shuts) ∙ none.1 in
          record {
            each = (record { sends = tt; finds = refl }, none.0);
            part = (octets_of (packet ∷ packets), ap (λ xs. xs ++ octets_of (packet ∷ packets)) (sym taken));
            whole = λ all. absurd (false≢true (sym all.0 ∙ refused ∙ shuts));
          }
      go rest none_more more false takes =
          let on = more takes in
          let taken : taken_in (sent ∷ rest) ≡ packet.octets ++ taken_in rest =
          ap (λ b. cond b [] packet.octets ++ taken_in rest) (refused ∙ takes) in
          record {
            each = (
              record { sends = tt; finds = refl },
              subst (λ s. Each (IsSendIn s) rest) (send_stands link.machine packet).state on.each,
            );
            part = (
              on.part.0,
              ap (λ xs. packet.octets ++ xs) on.part.1
                  ∙ sym (append_assoc packet.octets (taken_in rest) on.part.0)
                  ∙ ap (λ xs. xs ++ on.part.0) (sym taken),
            );
            whole = λ all. taken ∙ ap (λ xs. packet.octets ++ xs) (on.whole all.1);
          }

  -- ---- a link that is not meant

  stays_other : (packet : Packet) (turn : Turn) (link : Link) → link_at key turn.now.links ≡ Some link
      → chosen (Some link) ≡ false → chosen (link_at key (giving_packet key packet turn).now.links) ≡ false
  stays_other packet turn link at is =
      ap (λ links. chosen (link_at key links)) (links_after packet turn link at)
      ∙ go (is_idle (step link.machine (Send packet)).now.control.state)
    where
      go : (b : Bool) → chosen (link_at key (cond b (without_link key turn.now.links)
          (with_link key (next packet link) turn.now.links)))
          ≡ false
      go true = ap chosen (set_at turn.now.links.places key link None at) ∙ looks.empty
      go false =
          ap chosen (set_at turn.now.links.places key link (Some (next packet link)) at)
          ∙ looks.calls link (next packet link) refl refl ∙ is

  pub not_meant : (packets : List Packet) (turn : Turn) (place : Option Link) → link_at key turn.now.links ≡ place
      → chosen place ≡ false → steps_along (giving_packet key) (sends_at chosen key) packets turn ≡ []
  not_meant [] turn place at is = refl
  not_meant (packet ∷ packets) turn None at is =
      let same : giving_packet key packet turn ≡ turn = ap (λ place. event_of key (Send packet) place turn) at in
      ap (λ xs. xs ++ sends_of packets (giving_packet key packet turn))
      (ap (steps_for chosen None key (Send packet) turn) at)
      ∙ ap (sends_of packets) same ∙ not_meant packets turn None at is
  not_meant (packet ∷ packets) turn (Some link) at is =
      let after_it = giving_packet key packet turn in
      ap (λ xs. xs ++ sends_of packets after_it)
      (ap (steps_for chosen None key (Send packet) turn) at ∙ ap (λ b. cond b (one packet turn link ∷ []) []) is)
      ∙ not_meant packets after_it (link_at key after_it.now.links) refl (stays_other packet turn link at is)

-- ---- a D message

-- what the link takes of it
pub record TakesBody (state : LinkState) (body : List ℕ) (sends : List LinkStep) : Type 0 where
  pub each : Each (IsSendIn state) sends
  pub part : IsFirstPart (taken_in sends) body
  pub whole : Each (λ (send : LinkStep). is_refused send ≡ false) sends → taken_in sends ≡ body

pub body_taken :
    (chosen : Choice) (looks : LooksAtCalls chosen) (message : AgwMessage) (key : ℕ) (turn : Turn) (link : Link)
    → link_at key turn.now.links ≡ Some link → chosen (Some link) ≡ true
    → TakesBody link.machine.control.state message.body (data_steps chosen message (Some key) turn)
body_taken chosen looks message key turn link at is =
    let len = packet_length turn.now.paclen in
    let pid = data_pid message.pid (link_at key turn.now.links) in
    let some : 0 < len = omega arith in
    let few : len ≤ most_octets = omega arith in
    let all : octets_of (packets_of len pid message.body) ≡ message.body = all_packets len pid message.body some in
    let h = offered chosen looks key (packets_of len pid message.body) turn link at is (packets_short len pid message.body few) in
    record {
      each = h.each;
      part = (h.part.0, sym all ∙ h.part.1);
      whole = λ taken. h.whole taken ∙ all;
    }
