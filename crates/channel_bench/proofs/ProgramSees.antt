-- A host program of the bench sees the set-ups of its link: it is told what the link tells, message by message.
use Rattle.channel_bench.proofs.Common.{◌≡◌, ℕ, ◌==◌, ◌||◌, Bool, true, false, List, [], ◌∷◌, ◌++◌, length, map, fold}
use Rattle.channel_bench.proofs.Common.{cond, Option, Some, None, is_some, refl, sym, ap, ◌∙◌, subst, ⊤, option_map}
use Rattle.channel_bench.proofs.Common.{option_to_list, flat_map-append, append-nil, map-append, spelling, AgwMessage}
use Rattle.channel_bench.proofs.Common.{IsWritten, Packet, Told, Opened, Given, Ended, End, Piece, SetUp, octets_in}
use Rattle.channel_bench.proofs.Common.{set_up_of, SideState, program_id, told_octets, told_piece, told_pieces}
use Rattle.channel_bench.proofs.Common.{ProgramState, getting, opening, set_ups_of, told_all, LinkStep, AreToldInOne}
use Rattle.channel_bench.proofs.Common.{runs_after, AllToldInOne, runs_following, told_in, Seen, change_last_seen, seen_by}
use Rattle.channel_bench.proofs.Common.{seen_by_all, seen_giving, seen_told, with_given, with_got, asked_after}
use Rattle.channel_bench.proofs.Common.{called_after}
use Rattle.std.specs.List.{AllByRecursion as Each}
use Rattle.link_machine.specs.Event.{Event as LinkEvent}
use Rattle.link_machine.specs.Event.Event.{Connect as LinkConnect, Send as LinkSend, Disconnect as LinkDisconnect}
use Rattle.link_machine.specs.Event.Event.{Hear as LinkHear, Seize as LinkSeize, Tick as LinkTick}
use Rattle.channel_bench.specs.HostProgram.{closing, giving, told as told_message, with_got as with_got_octets}
use Rattle.channel_bench.specs.HostProgram.{with_given as with_given_octets}
use Rattle.station_laws.proofs.Chains.{ended_in, opened_in}
use Rattle.channel_bench.proofs.HostStreams.{IsWhole, one_new, whole_more}
use Rattle.channel_bench.proofs.OwnLinks.{message_at, messages_by, messages_of, own_pieces, piece_to}

-- ---- what it is sent

-- other pieces are not for it
only_own : (pieces : List Piece) (side : SideState) → told_pieces pieces side ≡ told_pieces (own_pieces pieces) side
only_own [] side = refl
only_own (piece ∷ pieces) side = go (piece.id == program_id) refl (λ x. only_own pieces x)
  where
    go : (b : Bool) → (piece.id == program_id) ≡ b
        → ((x : SideState) → told_pieces pieces x ≡ told_pieces (own_pieces pieces) x)
        → told_pieces pieces (told_piece piece side)
        ≡ told_pieces (cond b (piece ∷ own_pieces pieces) (own_pieces pieces)) side
    go true is again = again (told_piece piece side)
    go false is again = ap (λ b. told_pieces pieces (cond b (told_octets piece.octets side) side)) is ∙ again side

-- what messages make of its side
pub record IsToldAll (messages : List AgwMessage) (before after : SideState) : Type 0 where
  pub whole : IsWhole after.stream
  pub program : after.program ≡ told_all messages before.program
  pub station : after.station ≡ before.station
  pub there : after.there ≡ before.there

pub messages_told :
    (messages : List AgwMessage) (side : SideState) → Each IsWritten messages → IsWhole side.stream
    → IsToldAll messages side (told_pieces (map piece_to messages) side)
messages_told [] side written whole = record { whole = whole; program = refl; station = refl; there = refl }
messages_told (message ∷ messages) side written whole =
    let next = told_octets (spelling message) side in
    let rest = messages_told messages next written.1 (whole_more side.stream message written.0 whole) in
    let one : next.program ≡ told_message message side.program =
    ap (λ ms. told_all ms side.program) (one_new side.stream message written.0 whole) in
    record {
      whole = rest.whole;
      program = rest.program ∙ ap (told_all messages) one;
      station = rest.station;
      there = rest.there;
    }

pub pieces_told :
    (pieces : List Piece) (messages : List AgwMessage) (side : SideState) → own_pieces pieces ≡ map piece_to messages
    → Each IsWritten messages → IsWhole side.stream → IsToldAll messages side (told_pieces pieces side)
pieces_told pieces messages side is written whole =
    subst (IsToldAll messages side) (sym (only_own pieces side ∙ ap (λ ps. told_pieces ps side) is))
    (messages_told messages side written whole)

pub told_all_append :
    (first second : List AgwMessage) (p : ProgramState) → told_all (first ++ second) p
    ≡ told_all second (told_all first p)
told_all_append [] second p = refl
told_all_append (message ∷ first) second p = told_all_append first second (told_message message p)

-- ---- what the link tells

abbrev told_item : ProgramState → Told → ProgramState
told_item p (Opened ours) = opening p
told_item p (Given packet) = getting packet.octets p
told_item p (Ended why) = closing p

abbrev pub told_items : ProgramState → List Told → ProgramState
told_items p [] = p
told_items p (item ∷ told) = told_items (told_item p item) told

items_are : (e : End) (told : List Told) (p : ProgramState) → told_all (map (message_at e) told) p ≡ told_items p told
items_are e [] p = refl
items_are e (item ∷ told) p = ap (told_all (map (message_at e) told)) (one item) ∙ items_are e told (told_item p item)
  where
    one : (x : Told) → told_message (message_at e x) p ≡ told_item p x
    one (Opened ours) = refl
    one (Given packet) = refl
    one (Ended why) = refl

-- it saw these set-ups, and one of them runs
pub record Sees (p : ProgramState) (seen : List Seen) (runs : Bool) : Type 0 where
  pub set_ups : set_ups_of p ≡ map set_up_of seen
  pub runs_is : is_some p.running ≡ runs

-- the last set-up changes
last_changes :
    (f : Seen → Seen) (g : SetUp → SetUp) → ((s : Seen) → set_up_of (f s) ≡ g (set_up_of s)) → (ended : List SetUp)
    (q : SetUp) (seen : List Seen) → ended ++ q ∷ [] ≡ map set_up_of seen
    → ended ++ g q ∷ [] ≡ map set_up_of (change_last_seen f seen)
last_changes f g same [] q [] is = absurd (cc)
last_changes f g same [] q (s ∷ []) is =
    let here : q ≡ set_up_of s = cc in ap (λ x. x ∷ []) (ap g here ∙ sym (same s))
last_changes f g same [] q (s ∷ t ∷ seen) is = absurd (cc)
last_changes f g same (x ∷ ended) q [] is = absurd (cc)
last_changes f g same (x ∷ ended) q (s ∷ []) is = absurd (none ended (let tail : ended ++ q ∷ [] ≡ [] = cc in tail))
  where
    none : (xs : List SetUp) → xs ++ q ∷ [] ≡ [] → ⊥
    none [] e = cc
    none (y ∷ ys) e = cc
last_changes f g same (x ∷ ended) q (s ∷ t ∷ seen) is =
    let head : x ≡ set_up_of s = cc in
    let tail : ended ++ q ∷ [] ≡ map set_up_of (t ∷ seen) = cc in
    ap (λ y. y ∷ (ended ++ g q ∷ [])) head
    ∙ ap (λ ys. set_up_of s ∷ ys) (last_changes f g same ended q (t ∷ seen) tail)

octets_more : (packets : List Packet) (packet : Packet) → octets_in (packets ++ packet ∷ [])
    ≡ octets_in packets ++ packet.octets
octets_more packets packet =
    flat_map-append (λ (x : Packet). x.octets) packets (packet ∷ [])
    ∙ ap (λ xs. octets_in packets ++ xs) (append-nil packet.octets)

with_got_is : (packet : Packet) (s : Seen) → set_up_of (with_got packet s) ≡ with_got_octets packet.octets (set_up_of s)
with_got_is packet s =
    ap (λ xs. let q : SetUp = record { given = octets_in s.given; got = xs } in q) (octets_more s.got packet)

with_given_is : (packet : Packet) (s : Seen) → set_up_of (with_given packet s)
    ≡ with_given_octets packet.octets (set_up_of s)
with_given_is packet s =
    ap (λ xs. let q : SetUp = record { given = xs; got = octets_in s.got } in q) (octets_more s.given packet)

-- the set-up that runs changes
running_changes :
    (f : Seen → Seen) (g : SetUp → SetUp) → ((s : Seen) → set_up_of (f s) ≡ g (set_up_of s)) → (p : ProgramState)
    (seen : List Seen) → Sees p seen true
    → Sees (record p { running = option_map g p.running }) (change_last_seen f seen) true
running_changes f g same p seen h = go p.running refl
  where
    go : (o : Option SetUp) → p.running ≡ o
        → Sees (record p { running = option_map g p.running }) (change_last_seen f seen) true
    go None is = let clash : false ≡ true = ap is_some (sym is) ∙ h.runs_is in absurd (cc)
    go (Some q) is = record {
      set_ups = ap (λ o. p.ended ++ option_to_list (option_map g o)) is
          ∙ last_changes f g same p.ended q seen (ap (λ o. p.ended ++ option_to_list o) (sym is) ∙ h.set_ups);
      runs_is = ap (λ o. is_some (option_map g o)) is;
    }

item_sees :
    (p : ProgramState) (seen : List Seen) (runs : Bool) (item : Told) → AreToldInOne runs (item ∷ []) → Sees p seen runs
    → Sees (told_item p item) (seen_told seen item) (runs_after runs (item ∷ []))
item_sees p seen runs (Opened ours) in_one h = record {
  set_ups = ap (λ xs. xs ++ (let q : SetUp = record { given = []; got = [] } in q) ∷ []) h.set_ups
      ∙ sym (map-append set_up_of seen ((let s : Seen = record { given = []; got = [] } in s) ∷ []));
  runs_is = refl;
}
item_sees p seen runs (Given packet) in_one h =
    subst (Sees (getting packet.octets p) (change_last_seen (with_got packet) seen)) (sym in_one.0)
    (running_changes (with_got packet) (with_got_octets packet.octets) (with_got_is packet) p seen
    (subst (Sees p seen) in_one.0 h))
item_sees p seen runs (Ended why) in_one h =
    record { set_ups = append-nil (set_ups_of p) ∙ h.set_ups; runs_is = refl }

one_in : (runs : Bool) (item : Told) (told : List Told) → AreToldInOne runs (item ∷ told)
    → AreToldInOne runs (item ∷ []) × AreToldInOne (runs_after runs (item ∷ [])) told
one_in runs (Opened ours) told h = (tt, h)
one_in runs (Given packet) told h = ((h.0, tt), h.1)
one_in runs (Ended why) told h = (tt, h)

runs_on : (runs : Bool) (item : Told) (told : List Told)
    → runs_after runs (item ∷ told) ≡ runs_after (runs_after runs (item ∷ [])) told
runs_on runs (Opened ours) told = refl
runs_on runs (Given packet) told = refl
runs_on runs (Ended why) told = refl

pub told_sees :
    (told : List Told) (p : ProgramState) (seen : List Seen) (runs : Bool) → AreToldInOne runs told → Sees p seen runs
    → Sees (told_items p told) (fold seen_told seen told) (runs_after runs told)
told_sees [] p seen runs in_one h = h
told_sees (item ∷ told) p seen runs in_one h =
    let parts = one_in runs item told in_one in
    subst (Sees (told_items (told_item p item) told) (fold seen_told (seen_told seen item) told))
    (sym (runs_on runs item told))
    (told_sees told (told_item p item) (seen_told seen item) (runs_after runs (item ∷ [])) parts.1
    (item_sees p seen runs item parts.0 h))

-- ---- the events of a step

-- an event by which nothing is given
abbrev pub GivesNothing : LinkEvent → Type 0
GivesNothing LinkConnect = ⊤
GivesNothing (LinkSend packet) = ⊥
GivesNothing LinkDisconnect = ⊤
GivesNothing (LinkHear frame) = ⊤
GivesNothing (LinkTick waiting) = ⊤
GivesNothing (LinkSeize last full) = ⊤

gives_nothing : (event : LinkEvent) (seen : List Seen) → GivesNothing event → seen_giving event seen ≡ seen
gives_nothing LinkConnect seen h = refl
gives_nothing (LinkSend packet) seen h = absurd h
gives_nothing LinkDisconnect seen h = refl
gives_nothing (LinkHear frame) seen h = refl
gives_nothing (LinkTick waiting) seen h = refl
gives_nothing (LinkSeize last full) seen h = refl

pub steps_see :
    (e : End) (steps : List LinkStep) (p : ProgramState) (seen : List Seen) (runs : Bool)
    → Each (λ (step : LinkStep). GivesNothing step.event) steps → AllToldInOne runs steps → Sees p seen runs
    → Sees (told_all (messages_of e steps) p) (seen_by_all steps seen) (runs_following runs steps)
steps_see e [] p seen runs none in_one h = h
steps_see e (step ∷ steps) p seen runs none in_one h =
    let told = told_in step in
    let next = told_items p told in
    let same : fold seen_told (seen_giving step.event seen) told ≡ fold seen_told seen told =
    ap (λ xs. fold seen_told xs told) (gives_nothing step.event seen none.0) in
    let one : Sees next (seen_by step seen) (runs_after runs told) =
    subst (λ xs. Sees next xs (runs_after runs told)) (sym same) (told_sees told p seen runs in_one.0 h) in
    let program : told_all (messages_of e (step ∷ steps)) p ≡ told_all (messages_of e steps) next =
    told_all_append (messages_by e step) (messages_of e steps) p
    ∙ ap (told_all (messages_of e steps)) (items_are e told p) in
    subst (λ x. Sees x (seen_by_all steps (seen_by step seen)) (runs_following (runs_after runs told) steps)) (sym program)
    (steps_see e steps next (seen_by step seen) (runs_after runs told) none.1 in_one.1 one)

-- the event by which a packet is given
pub send_sees :
    (e : End) (step : LinkStep) (packet : Packet) (piece : List ℕ) (p : ProgramState) (seen : List Seen)
    → step.event ≡ LinkSend packet → packet.octets ≡ piece → AreToldInOne true (told_in step) → Sees p seen true
    → Sees (told_all (messages_of e (step ∷ [])) (giving piece p)) (seen_by_all (step ∷ []) seen)
    (runs_following true (step ∷ []))
send_sees e step packet piece p seen event is in_one h =
    let told = told_in step in
    let given : Sees (giving packet.octets p) (change_last_seen (with_given packet) seen) true =
    running_changes (with_given packet) (with_given_octets packet.octets) (with_given_is packet) p seen h in
    let before : Sees (giving piece p) (seen_giving step.event seen) true =
    subst (λ xs. Sees (giving xs p) (seen_giving step.event seen) true) is
    (subst (λ ev. Sees (giving packet.octets p) (seen_giving ev seen) true) (sym event) given) in
    let program : told_all (messages_of e (step ∷ [])) (giving piece p) ≡ told_items (giving piece p) told =
    ap (λ ms. told_all ms (giving piece p)) (append-nil (messages_by e step)) ∙ items_are e told (giving piece p) in
    subst (λ x. Sees x (seen_by_all (step ∷ []) seen) (runs_after true told)) (sym program)
    (told_sees told (giving piece p) (seen_giving step.event seen) true in_one before)

-- ---- what it has given when A sends d

abbrev pub GaveAllIn : ℕ → Option SetUp → Type 0
GaveAllIn count None = ⊤
GaveAllIn count (Some q) = length q.given ≡ count

-- in the set-up that runs, if one does, all is given
abbrev pub GaveAll : ℕ → ProgramState → Type 0
GaveAll count p = GaveAllIn count p.running

-- data that is told of gives nothing
items_gave :
    (count : ℕ) (told : List Told) (p : ProgramState) → opened_in told ≡ false → ended_in told ≡ false → GaveAll count p
    → GaveAll count (told_items p told)
items_gave count [] p opened ended h = h
items_gave count (Opened ours ∷ told) p opened ended h = absurd (cc)
items_gave count (Given packet ∷ told) p opened ended h =
    items_gave count told (getting packet.octets p) opened ended (go p.running h)
  where
    go : (o : Option SetUp) → GaveAllIn count o → GaveAllIn count (option_map (with_got_octets packet.octets) o)
    go None g = tt
    go (Some q) g = g
items_gave count (Ended why ∷ told) p opened ended h = absurd (cc)

-- so what was asked for in a set-up was asked for when all was given
pub items_asked :
    (count : ℕ) (asked disconnects : Bool) (told : List Told) (p : ProgramState)
    → ((asked || disconnects) ≡ true → GaveAll count p) → asked_after asked disconnects told ≡ true
    → GaveAll count (told_items p told)
items_asked count asked disconnects told p gave = go (opened_in told) refl (ended_in told) refl
  where
    go : (b : Bool) → opened_in told ≡ b → (d : Bool) → ended_in told ≡ d
        → cond (b || d) false (asked || disconnects) ≡ true → GaveAll count (told_items p told)
    go true opened d ended is = absurd (cc)
    go false opened true ended is = absurd (cc)
    go false opened false ended is = items_gave count told p opened ended (gave is)

-- ---- when it is to send C again

items_call : (told : List Told) (p : ProgramState) → ended_in told ≡ false → (told_items p told).calls ≡ p.calls
items_call [] p ended = refl
items_call (Opened ours ∷ told) p ended = items_call told (opening p) ended
items_call (Given packet ∷ told) p ended = items_call told (getting packet.octets p) ended
items_call (Ended why ∷ told) p ended = absurd (cc)

-- only after its link ended
pub items_called :
    (called connects : Bool) (told : List Told) (p : ProgramState) → (p.calls ≡ true → (called || connects) ≡ false)
    → (told_items p told).calls ≡ true → called_after called connects told ≡ false
items_called called connects told p before calls = go (ended_in told) refl
  where
    go : (b : Bool) → ended_in told ≡ b → cond b false (called || connects) ≡ false
    go true ended = refl
    go false ended = before (sym (items_call told p ended) ∙ calls)

pub items_of : (e : End) (steps : List LinkStep) (step : LinkStep) (p : ProgramState)
    → told_all (messages_of e (step ∷ steps)) p ≡ told_all (messages_of e steps) (told_items p (told_in step))
items_of e steps step p =
    told_all_append (messages_by e step) (messages_of e steps) p
    ∙ ap (told_all (messages_of e steps)) (items_are e (told_in step) p)
