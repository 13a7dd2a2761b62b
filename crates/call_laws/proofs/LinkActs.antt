-- What an act of a station sends to a connection, and whose the link of a call is then.
use Rattle.station_laws.proofs.Common.{◌≡◌, ◌≢◌, ℕ, Bool, true, false, List, [], ◌∷◌, ◌++◌, map, cond, Option, Some}
use Rattle.station_laws.proofs.Common.{None, refl, sym, ap, ◌∙◌, subst, append-nil, append_assoc, map-append}
use Rattle.station_laws.proofs.Common.{each_append, range_with_len, Path, AgwMessage, Machine, Idle, giving_packet}
use Rattle.station_laws.proofs.Common.{packet_length, packets_of, data_pid, giving, disconnecting, giving_up, giving_up_all}
use Rattle.station_laws.proofs.Common.{giving_up_link, leaving, without_host, without_owner, event_of, event_at}
use Rattle.station_laws.proofs.Common.{with_links, Link, IsNewKey, is_between, link_at, most_links, with_link}
use Rattle.station_laws.proofs.Common.{with_new_link, is_number, asked_key, asked_links, asking, asking_at, seizing}
use Rattle.station_laws.proofs.Common.{ticking_at, ticking_links, t1_stands, with_asked, Turn, Act}
use Rattle.station_laws.proofs.Common.{in_order}
use Rattle.station_laws.proofs.Common.{changing, step, settled_link, Choice, first_chosen, LinkStep, link_step}
use Rattle.station_laws.proofs.Common.{steps_for, steps_at, steps_along, asked_at, asking_steps, ticks_at, tick_steps}
use Rattle.station_laws.proofs.Common.{given_up, gives_up_at}
use Rattle.station_laws.proofs.Common.{leaving_steps, sends_at, data_steps, disconnect_steps}
use Rattle.std.specs.List.{AllByRecursion as Each}
use Rattle.agwpe_client.specs.CallRun.{CallPlan}
use Rattle.link_machine.specs.Event.{Event as LinkEvent}
use Rattle.link_machine.specs.Event.Event.{Send as LinkSend, Disconnect as LinkDisconnect, Tick as LinkTick}
use Rattle.station.specs.declared.host_out.Piece.{Piece}
use Rattle.station_laws.specs.Owners.{pieces_to}
use Rattle.station_laws.proofs.Chains.{last_machine, last_append}
use Rattle.station_laws.proofs.OwnerLemmas.{owners_are_told}
use Rattle.station_laws.proofs.Queues.{link_stepped}
use Rattle.station_laws.proofs.Standing.{between_calls, chosen_calls}
use Rattle.call_laws.specs.Client.{pieces_for, IsBetweenCalls}
use Rattle.call_laws.proofs.Collect.{FitsItem}
use Rattle.call_laws.proofs.Items.{Item, messages_of, tells_of, messages_append, tells_append, items_in, all_items}
use Rattle.call_laws.proofs.Items.{items_append, owned_by, Continues, IsOwnedChain, last_owned, owned_append}
use Rattle.call_laws.proofs.Items.Item.{Tells}
use Rattle.call_laws.proofs.OwnTables.{HasValidCalls, OwnTable, valid_at, own_at, own_event, other_event, owner_gone}
use Rattle.call_laws.proofs.OwnTables.{IsOwnPlace, made_own, made_other, made_at}
use Rattle.call_laws.proofs.Sayings.{HasTen, SaysOnly, pieces_with, pieces_both, says_nothing, link_pieces, link_says}
use Rattle.call_laws.proofs.Sayings.{tells_ten, tells_fit, tells_same}

-- the link of the call
abbrev pub meant : CallPlan → Choice
meant plan = is_between plan.own plan.remote

-- Acts send the connection messages, of which those of the link of the call are told by its events, in order. Each
-- event finds the machine and the owner that the event before it left.
pub record Goes (id : ℕ) (plan : CallPlan) (own : Bool) (m : Machine) (turn : Turn) (steps : List LinkStep)
    (after : Turn) : Type 0 where
  pub items : List Item
  pub pieces :
      pieces_for id after.out.pieces
      ≡ pieces_for id turn.out.pieces ++ pieces_with id (messages_of plan.own plan.remote items)
  pub tells : tells_of items ≡ all_items id steps
  pub fits : Each (FitsItem plan) items
  pub ten : Each HasTen (messages_of plan.own plan.remote items)
  pub chain : IsOwnedChain id own m steps
  pub table : OwnTable id (meant plan) (last_owned id own steps) (last_machine m steps) after.now.links

abbrev pub Does : ℕ → CallPlan → Turn → List LinkStep → Turn → Type 0
Does id plan turn steps after =
    (own : Bool) (m : Machine) → OwnTable id (meant plan) own m turn.now.links → Goes id plan own m turn steps after

-- ---- acts one after another

pub chain_append :
    (id : ℕ) (own : Bool) (m : Machine) (first second : List LinkStep) → IsOwnedChain id own m first
    → IsOwnedChain id (last_owned id own first) (last_machine m first) second
    → IsOwnedChain id own m (first ++ second)
chain_append id own m [] second h k = k
chain_append id own m (one ∷ first) second h k =
    (h.0, chain_append id (owned_by id one) (step one.link.machine one.event).now first second h.1 k)

pub does_on :
    (id : ℕ) (plan : CallPlan) (turn between after : Turn) (first second : List LinkStep)
    → Does id plan turn first between → Does id plan between second after → Does id plan turn (first ++ second) after
does_on id plan turn between after first second one two own m table =
    let h = one own m table in
    let k = two (last_owned id own first) (last_machine m first) h.table in
    let a = messages_of plan.own plan.remote h.items in
    let b = messages_of plan.own plan.remote k.items in
    let all = messages_append plan.own plan.remote h.items k.items in
    record {
      items = h.items ++ k.items;
      pieces = k.pieces ∙ ap (λ ps. ps ++ pieces_with id b) h.pieces
          ∙ append_assoc (pieces_for id turn.out.pieces) (pieces_with id a) (pieces_with id b)
          ∙ ap (λ ps. pieces_for id turn.out.pieces ++ ps)
          (sym (map-append _ a b) ∙ ap (pieces_with id) (sym all));
      tells = tells_append h.items k.items ∙ ap (λ xs. xs ++ tells_of k.items) h.tells
          ∙ ap (λ xs. all_items id first ++ xs) k.tells ∙ sym (items_append id first second);
      fits = each_append (FitsItem plan) h.items k.items h.fits k.fits;
      ten = subst (Each HasTen) (sym all) (each_append HasTen a b h.ten k.ten);
      chain = chain_append id own m first second h.chain k.chain;
      table = subst (λ o. OwnTable id (meant plan) o (last_machine m (first ++ second)) after.now.links)
          (sym (owned_append id own first second))
          (subst (λ x. OwnTable id (meant plan) (last_owned id (last_owned id own first) second) x after.now.links)
          (sym (last_append m first second)) k.table);
    }

-- what is sent is told by no link of the call, and links stay as they are
pub says_does :
    (id : ℕ) (plan : CallPlan) (turn after : Turn) (more : List Piece)
    → after.out.pieces ≡ turn.out.pieces ++ more → SaysOnly id plan more → after.now.links ≡ turn.now.links
    → Does id plan turn [] after
says_does id plan turn after more is says links own m table = record {
  items = says.items;
  pieces = ap (pieces_for id) is ∙ pieces_both id turn.out.pieces more
      ∙ ap (λ ps. pieces_for id turn.out.pieces ++ ps) says.pieces_are;
  tells = says.tells;
  fits = says.fits;
  ten = says.ten;
  chain = tt;
  table = subst (OwnTable id (meant plan) own m) (sym links) table;
}

pub silent_does :
    (id : ℕ) (plan : CallPlan) (turn after : Turn) → after.out.pieces ≡ turn.out.pieces
    → after.now.links ≡ turn.now.links → Does id plan turn [] after
silent_does id plan turn after is links =
    says_does id plan turn after [] (is ∙ sym (append-nil turn.out.pieces)) (says_nothing id plan) links

pub same_does : (id : ℕ) (plan : CallPlan) (turn : Turn) → Does id plan turn [] turn
same_does id plan turn = silent_does id plan turn turn refl refl

pub does_along :
    {A : Type 0} (id : ℕ) (plan : CallPlan) (act : A → Act) (found : A → Turn → List LinkStep)
    → ((item : A) (turn : Turn) → Does id plan turn (found item turn) (act item turn)) → (items : List A) (turn : Turn)
    → Does id plan turn (steps_along act found items turn) (in_order (map act items) turn)
does_along id plan act found each [] turn = same_does id plan turn
does_along id plan act found each (item ∷ items) turn =
    does_on id plan turn (act item turn) (in_order (map act items) (act item turn)) (found item turn)
    (steps_along act found items (act item turn)) (each item turn)
    (does_along id plan act found each items (act item turn))

-- ---- an event of a link

links_after : (key : ℕ) (event : LinkEvent) (turn : Turn) (link : Link) → link_at key turn.now.links ≡ Some link
    → (event_at key event turn).now.links ≡ settled_link key link (step link.machine event).now turn.now.links
links_after key event turn link at =
    ap (λ place. (event_of key event place turn).now.links) at ∙ (link_stepped key event link turn).links

pieces_after : (id key : ℕ) (event : LinkEvent) (turn : Turn) (link : Link) → link_at key turn.now.links ≡ Some link
    → pieces_for id (event_at key event turn).out.pieces
    ≡ pieces_for id turn.out.pieces
    ++ pieces_for id (pieces_to link.owner link.local link.remote (step link.machine event).told)
pieces_after id key event turn link at =
    ap (pieces_for id) (owners_are_told key event link turn at)
    ∙ pieces_both id turn.out.pieces (pieces_to link.owner link.local link.remote (step link.machine event).told)

-- of the link of the call, whose table may have been made for it
own_goes :
    (id : ℕ) (plan : CallPlan) (anew : Option Path) (key : ℕ) (event : LinkEvent) (turn : Turn) (link : Link)
    (own mine : Bool) (m now : Machine) → OwnTable id (meant plan) mine now turn.now.links
    → link_at key turn.now.links ≡ Some link → meant plan (Some link) ≡ true
    → Continues anew id own m (link_step anew key event turn link)
    → Goes id plan own m turn (link_step anew key event turn link ∷ []) (event_at key event turn)
own_goes id plan anew key event turn link own mine m now table at is continues =
    let one = link_step anew key event turn link in
    let told = (step link.machine event).told in
    let owned = is_number id link.owner in
    let calls = chosen_calls plan.own plan.remote link is in
    let valid = valid_at id (meant plan) mine now turn.now.links key link table at in
    let same : messages_of link.local link.remote (map (Tells owned) told)
    ≡ messages_of plan.own plan.remote (map (Tells owned) told) =
    ap (λ l. messages_of l link.remote (map (Tells owned) told)) calls.local_is
    ∙ ap (λ r. messages_of plan.own r (map (Tells owned) told)) calls.remote_is in
    record {
      items = map (Tells owned) told;
      pieces = pieces_after id key event turn link at
          ∙ ap (λ ps. pieces_for id turn.out.pieces ++ ps)
          (link_pieces id link.owner link.local link.remote told ∙ ap (pieces_with id) same);
      tells = tells_same owned told ∙ sym (append-nil (items_in id one));
      fits = tells_fit plan owned told;
      ten = subst (Each HasTen) same
          (tells_ten owned link.local link.remote told valid.local_valid valid.remote_valid);
      chain = (continues, tt);
      table = subst (OwnTable id (meant plan) owned (step link.machine event).now)
          (sym (links_after key event turn link at))
          (own_event id (meant plan) mine now turn.now.links key link (step link.machine event).now
          (between_calls plan.own plan.remote) table at is);
    }

-- of another link
other_goes :
    (id : ℕ) (plan : CallPlan) (key : ℕ) (event : LinkEvent) (turn : Turn) (link : Link) → IsBetweenCalls plan
    → (own : Bool) (m : Machine) → OwnTable id (meant plan) own m turn.now.links
    → link_at key turn.now.links ≡ Some link → meant plan (Some link) ≡ false
    → Goes id plan own m turn [] (event_at key event turn)
other_goes id plan key event turn link calls own m table at is =
    let told = (step link.machine event).told in
    let valid = valid_at id (meant plan) own m turn.now.links key link table at in
    let says = link_says id plan link told calls.own calls.remote valid is in
    record {
      items = says.items;
      pieces = pieces_after id key event turn link at
          ∙ ap (λ ps. pieces_for id turn.out.pieces ++ ps) says.pieces_are;
      tells = says.tells;
      fits = says.fits;
      ten = says.ten;
      chain = tt;
      table = subst (OwnTable id (meant plan) own m) (sym (links_after key event turn link at))
          (other_event id (meant plan) own m turn.now.links key link (step link.machine event).now
          (between_calls plan.own plan.remote) table at is);
    }

pub event_does :
    (id : ℕ) (plan : CallPlan) → IsBetweenCalls plan → (key : ℕ) (event : LinkEvent) (turn : Turn)
    → Does id plan turn (steps_at (meant plan) None key event turn) (event_at key event turn)
event_does id plan calls key event turn own m table = by_place (link_at key turn.now.links) refl
  where
    by_choice : (link : Link) → link_at key turn.now.links ≡ Some link → (b : Bool) → meant plan (Some link) ≡ b
        → Goes id plan own m turn (cond b (link_step None key event turn link ∷ []) []) (event_at key event turn)
    by_choice link at true is =
        own_goes id plan None key event turn link own own m m table at is
        (own_at id (meant plan) own m turn.now.links key link (between_calls plan.own plan.remote) table at is)
    by_choice link at false is = other_goes id plan key event turn link calls own m table at is

    by_place : (place : Option Link) → link_at key turn.now.links ≡ place
        → Goes id plan own m turn (steps_for (meant plan) None key event turn place) (event_at key event turn)
    by_place None at =
        subst (Goes id plan own m turn []) (sym (ap (λ place. event_of key event place turn) at))
        (same_does id plan turn own m table)
    by_place (Some link) at = by_choice link at (meant plan (Some link)) refl

-- a link that is made, and its first event
pub record MayMake (plan : CallPlan) (turn : Turn) (key : ℕ) (link : Link) : Type 0 where
  pub new : IsNewKey key turn.now.links
  pub valid : HasValidCalls link
  pub idle : link.machine.control.state ≡ Idle
  pub none : meant plan (Some link) ≡ true → first_chosen (meant plan) turn.now.links.places ≡ None

pub made_does :
    (id : ℕ) (plan : CallPlan) → IsBetweenCalls plan → (before : Turn) (key : ℕ) (link : Link) (path : Path)
    (made : Turn) (event : LinkEvent) → MayMake plan before key link
    → made ≡ changing (with_links (with_new_link key link)) before
    → Does id plan before (steps_at (meant plan) (Some path) key event made) (event_at key event made)
made_does id plan calls before key link path made event may made_is own m table =
    subst (λ place. Goes id plan own m before (steps_for (meant plan) (Some path) key event made place)
    (event_at key event made)) (sym at) (go (meant plan (Some link)) refl)
  where
    at : link_at key made.now.links ≡ Some link
    at = ap (λ (t : Turn). link_at key t.now.links) made_is
        ∙ made_at id (meant plan) own m before.now.links key link table may.new

    out : made.out.pieces ≡ before.out.pieces
    out = ap (λ (t : Turn). t.out.pieces) made_is

    links : made.now.links ≡ with_new_link key link before.now.links
    links = ap (λ (t : Turn). t.now.links) made_is

    from_made : (steps : List LinkStep) → Goes id plan own m made steps (event_at key event made)
        → Goes id plan own m before steps (event_at key event made)
    from_made steps h = record {
      items = h.items;
      pieces = h.pieces ∙ ap (λ ps. pieces_for id ps ++ pieces_with id (messages_of plan.own plan.remote h.items)) out;
      tells = h.tells;
      fits = h.fits;
      ten = h.ten;
      chain = h.chain;
      table = h.table;
    }

    go : (b : Bool) → meant plan (Some link) ≡ b
        → Goes id plan own m before (cond b (link_step (Some path) key event made link ∷ []) [])
        (event_at key event made)
    go true is =
        let there : OwnTable id (meant plan) (is_number id link.owner) link.machine made.now.links =
        subst (OwnTable id (meant plan) (is_number id link.owner) link.machine) (sym links)
        (made_own id (meant plan) own m before.now.links key link (between_calls plan.own plan.remote) table may.new
        (may.none is) is may.valid) in
        let was_idle : m.control.state ≡ Idle = subst (IsOwnPlace id own m) (may.none is) table.place in
        from_made (link_step (Some path) key event made link ∷ [])
        (own_goes id plan (Some path) key event made link own (is_number id link.owner) m link.machine there at is
        (was_idle, may.idle))
    go false is =
        from_made []
        (other_goes id plan key event made link calls own m
        (subst (OwnTable id (meant plan) own m) (sym links)
        (made_other id (meant plan) own m before.now.links key link (between_calls plan.own plan.remote) table may.new
        is may.valid)) at is)

-- ---- a tick

links_tick : (id : ℕ) (plan : CallPlan) → IsBetweenCalls plan → (busy : Bool) (turn : Turn)
    → Does id plan turn (steps_along (ticking_at busy) (ticks_at (meant plan) busy) (range_with_len 0 most_links) turn)
    (ticking_links busy turn)
unfolding ticking_links
links_tick id plan calls busy turn =
    does_along id plan (ticking_at busy) (ticks_at (meant plan) busy)
    (λ key t. event_does id plan calls key (LinkTick (t1_stands busy key t.now.channel)) t)
    (range_with_len 0 most_links) turn

-- one is perhaps asked for a frame
asking_does : (id : ℕ) (plan : CallPlan) → IsBetweenCalls plan → (turn : Turn)
    → Does id plan turn (asking_steps (meant plan) turn) (asking turn)
asking_does id plan calls turn = go (asked_key turn.now)
  where
    event : LinkEvent
    event = seizing turn.now

    go : (key : Option ℕ) → Does id plan turn (asked_at (meant plan) key event turn) (asking_at key event turn)
    go None = same_does id plan turn
    go (Some key) =
        let told = changing (with_asked key) turn in
        does_on id plan turn told (event_at key event told) [] (steps_at (meant plan) None key event told)
        (silent_does id plan turn told refl refl) (event_does id plan calls key event told)

pub ticks_do : (id : ℕ) (plan : CallPlan) → IsBetweenCalls plan → (busy : Bool) (turn : Turn)
    → Does id plan turn (tick_steps (meant plan) busy turn) (asked_links busy turn)
ticks_do id plan calls busy turn =
    let ticked = ticking_links busy turn in
    does_on id plan turn ticked (asked_links busy turn)
    (steps_along (ticking_at busy) (ticks_at (meant plan) busy) (range_with_len 0 most_links) turn)
    (asking_steps (meant plan) ticked) (links_tick id plan calls busy turn) (asking_does id plan calls ticked)

-- ---- another host program leaves

gives_up_does : (id : ℕ) (plan : CallPlan) → IsBetweenCalls plan → (host : ℕ) → host ≢ id → (key : ℕ) (turn : Turn)
    → Does id plan turn (gives_up_at (meant plan) host key turn) (giving_up host key turn)
gives_up_does id plan calls host other key turn own m table = by_place (link_at key turn.now.links) refl
  where
    by_owner : (link : Link) → link_at key turn.now.links ≡ Some link → (b : Bool) → is_number host link.owner ≡ b
        → let given = changing (with_links (with_link key (without_owner link))) turn in
        Goes id plan own m turn (cond b (steps_at (meant plan) None key LinkDisconnect given) [])
        (cond b (event_at key LinkDisconnect given) turn)
    by_owner link at true is =
        let given = changing (with_links (with_link key (without_owner link))) turn in
        let h = event_does id plan calls key LinkDisconnect given own m
        (owner_gone id host (meant plan) own m turn.now.links key link (between_calls plan.own plan.remote) table at
        other is) in
        record {
          items = h.items;
          pieces = h.pieces;
          tells = h.tells;
          fits = h.fits;
          ten = h.ten;
          chain = h.chain;
          table = h.table;
        }
    by_owner link at false is = same_does id plan turn own m table

    by_place : (place : Option Link) → link_at key turn.now.links ≡ place
        → Goes id plan own m turn (given_up (meant plan) host key place turn) (giving_up_link host key place turn)
    by_place None at = same_does id plan turn own m table
    by_place (Some link) at = by_owner link at (is_number host link.owner) refl

pub leaving_does : (id : ℕ) (plan : CallPlan) → IsBetweenCalls plan → (host : ℕ) → host ≢ id → (turn : Turn)
    → Does id plan turn (leaving_steps (meant plan) host turn) (leaving host turn)
unfolding giving_up_all
leaving_does id plan calls host other turn =
    does_on id plan turn (changing (without_host host) turn) (leaving host turn) []
    (leaving_steps (meant plan) host turn)
    (silent_does id plan turn (changing (without_host host) turn) refl refl)
    (does_along id plan (giving_up host) (gives_up_at (meant plan) host) (gives_up_does id plan calls host other)
    (range_with_len 0 most_links) (changing (without_host host) turn))

-- ---- data and disconnects

pub data_does : (id : ℕ) (plan : CallPlan) → IsBetweenCalls plan → (message : AgwMessage) (key : Option ℕ) (turn : Turn)
    → Does id plan turn (data_steps (meant plan) message key turn) (giving message key turn)
data_does id plan calls message None turn = same_does id plan turn
data_does id plan calls message (Some key) turn =
    does_along id plan (giving_packet key) (sends_at (meant plan) key)
    (λ packet t. event_does id plan calls key (LinkSend packet) t)
    (packets_of (packet_length turn.now.paclen) (data_pid message.pid (link_at key turn.now.links)) message.body) turn

pub disconnect_does : (id : ℕ) (plan : CallPlan) → IsBetweenCalls plan → (key : Option ℕ) (turn : Turn)
    → Does id plan turn (disconnect_steps (meant plan) key turn) (disconnecting key turn)
disconnect_does id plan calls None turn = same_does id plan turn
disconnect_does id plan calls (Some key) turn = event_does id plan calls key LinkDisconnect turn
