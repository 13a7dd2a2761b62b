-- What a connection is sent that no link of the call tells.
use Rattle.station_laws.proofs.Common.{◌≡◌, ℕ, zero, suc, ◌≤◌, ◌==◌, ◌&&◌, nat_lt, Bool, true, false, List}
use Rattle.station_laws.proofs.Common.{[], ◌∷◌, ◌++◌, length, map, take, drop, cond, Option, Some, None, refl, sym, ap}
use Rattle.station_laws.proofs.Common.{◌∙◌, subst, arith, and_parts, and_right, eqb-true}
use Rattle.station_laws.proofs.Common.{map-append, each_append, ltb-false, Callsign, AgwMessage, Told, Opened}
use Rattle.station_laws.proofs.Common.{Given, Ended, Link, is_between, is_number}
use Rattle.std.specs.List.{AllByRecursion as Each}
use Rattle.std.specs.Str.{bytes_eq}
use Rattle.std.proofs.lemmas.Bool.{false_from_ne_true, eq-eqb}
use Rattle.std.proofs.lemmas.List.{length-take-le, length-drop}
use Rattle.std.proofs.lemmas.List.Elements.{filter-append}
use Rattle.std.proofs.lemmas.Slice.Eq.{bytes_eq-Decides}
use Rattle.ax25_address.specs.Callsign.{IsCall}
use Rattle.agwpe_port.specs.CallField.{call_field}
use Rattle.agwpe_port.specs.Messages.{spelling, messages_in, reading, reading_upto, told_length, message_of}
use Rattle.agwpe_port.specs.Messages.{Reading, and_then, most_body, header_size}
use Rattle.agwpe_client.specs.CallMessages.{connect_kind, data_kind}
use Rattle.agwpe_client.specs.CallRun.{CallPlan}
use Rattle.agwpe_client.specs.CallSteps.{is_of_call}
use Rattle.station.specs.HostMessages.{message_of_told}
use Rattle.station.specs.declared.host_out.Piece.{Piece}
use Rattle.station_laws.proofs.Standing.{calls_chosen}
use Rattle.station_laws.proofs.Tables.{not_both}
use Rattle.station_laws.specs.Owners.{piece_of, pieces_to}
use Rattle.call_laws.specs.Client.{pieces_for}
use Rattle.call_laws.proofs.CallFields.{field_ten, field_tells}
use Rattle.call_laws.proofs.Collect.{IsNoneOf, FitsItem}
use Rattle.call_laws.proofs.Items.{Item, messages_of, tells_of, messages_append, tells_append}
use Rattle.call_laws.proofs.Items.Item.{Tells, Says}
use Rattle.call_laws.proofs.OwnTables.{HasValidCalls}

abbrev pub piece_with : ℕ → AgwMessage → Piece
piece_with id message = record { id = id; octets = spelling message }

abbrev pub pieces_with : ℕ → List AgwMessage → List Piece
pieces_with id messages = map (piece_with id) messages

-- its call fields have ten octets
pub record HasTen (message : AgwMessage) : Type 0 where
  pub from : length message.from ≡ 10
  pub to : length message.to ≡ 10

pub pieces_both : (id : ℕ) (first second : List Piece)
    → pieces_for id (first ++ second) ≡ pieces_for id first ++ pieces_for id second
pieces_both id first second = filter-append (λ (p : Piece). p.id == id) first second

-- ---- messages that are read

header_ten : (stream body : List ℕ) → 36 ≤ length stream → HasTen (message_of (take 36 stream) body)
header_ten stream body whole =
    let header = take 36 stream in
    let all : length header ≡ 36 = length-take-le 36 stream whole in
    record {
      from = length-take-le 10 (drop 8 header) (omega (arith, all, length-drop 8 header));
      to = length-take-le 10 (drop 18 header) (omega (arith, all, length-drop 18 header));
    }

-- one message more, if the next ones are read so
more_ten : (stream : List ℕ) (next : Reading) → Each HasTen next.messages
    → let header = take 36 stream in
    Each HasTen (cond (nat_lt (length stream) header_size) (let r : Reading = record { messages = []; bad = None } in r)
    (cond (nat_lt most_body (told_length header)) (record { messages = []; bad = Some (told_length header) })
    (cond (nat_lt (length (drop 36 stream)) (told_length header)) (record { messages = []; bad = None })
    (and_then (message_of header (take (told_length header) (drop 36 stream))) next)))).messages
more_ten stream next h =
    go (nat_lt (length stream) header_size) refl (nat_lt most_body (told_length (take 36 stream)))
    (nat_lt (length (drop 36 stream)) (told_length (take 36 stream)))
  where
    go : (b : Bool) → nat_lt (length stream) header_size ≡ b → (d e : Bool)
        → Each HasTen (cond b (let r : Reading = record { messages = []; bad = None } in r)
        (cond d (record { messages = []; bad = Some (told_length (take 36 stream)) })
        (cond e (record { messages = []; bad = None })
        (and_then (message_of (take 36 stream) (take (told_length (take 36 stream)) (drop 36 stream))) next)))).messages
    go true is d e = tt
    go false is true e = tt
    go false is false true = tt
    go false is false false = (
      header_ten stream (take (told_length (take 36 stream)) (drop 36 stream))
          (ltb-false (length stream) header_size is),
      h,
    )

upto_ten : (most : ℕ) (stream : List ℕ) → Each HasTen (reading_upto most stream).messages
upto_ten zero stream = tt
upto_ten (suc most) stream =
    let rest = drop (told_length (take 36 stream)) (drop 36 stream) in
    more_ten stream (reading_upto most rest) (upto_ten most rest)

read_ten : (stream : List ℕ) → Each HasTen (messages_in stream)
unfolding reading
read_ten stream = upto_ten (length stream) stream

each_drop : (n : ℕ) (messages : List AgwMessage) → Each HasTen messages → Each HasTen (drop n messages)
each_drop zero messages h = h
each_drop (suc n) [] h = tt
each_drop (suc n) (message ∷ messages) h = each_drop n messages h.1

pub new_ten : (n : ℕ) (stream : List ℕ) → Each HasTen (drop n (messages_in stream))
new_ten n stream = each_drop n (messages_in stream) (read_ten stream)

-- ---- messages of no link of the call

pub record SaysOnly (id : ℕ) (plan : CallPlan) (pieces : List Piece) : Type 0 where
  pub items : List Item
  pub pieces_are : pieces_for id pieces ≡ pieces_with id (messages_of plan.own plan.remote items)
  pub tells : tells_of items ≡ []
  pub fits : Each (FitsItem plan) items
  pub ten : Each HasTen (messages_of plan.own plan.remote items)

pub says_nothing : (id : ℕ) (plan : CallPlan) → SaysOnly id plan []
says_nothing id plan = record { items = []; pieces_are = refl; tells = refl; fits = tt; ten = tt }

pub says_both : (id : ℕ) (plan : CallPlan) (first second : List Piece) → SaysOnly id plan first
    → SaysOnly id plan second → SaysOnly id plan (first ++ second)
says_both id plan first second h k =
    let one = messages_of plan.own plan.remote h.items in
    let two = messages_of plan.own plan.remote k.items in
    let all = messages_append plan.own plan.remote h.items k.items in
    record {
      items = h.items ++ k.items;
      pieces_are = pieces_both id first second ∙ ap (λ ps. ps ++ pieces_for id second) h.pieces_are
          ∙ ap (λ ps. pieces_with id one ++ ps) k.pieces_are ∙ sym (map-append (piece_with id) one two)
          ∙ ap (pieces_with id) (sym all);
      tells = tells_append h.items k.items ∙ ap (λ xs. xs ++ tells_of k.items) h.tells ∙ k.tells;
      fits = each_append (FitsItem plan) h.items k.items h.fits k.fits;
      ten = subst (Each HasTen) (sym all) (each_append HasTen one two h.ten k.ten);
    }

-- a piece for another connection
pub says_other : (id : ℕ) (plan : CallPlan) (p : Piece) → (p.id == id) ≡ false → SaysOnly id plan (p ∷ [])
says_other id plan p other = record {
  items = [];
  pieces_are = ap (λ b. cond b (p ∷ []) []) other;
  tells = refl;
  fits = tt;
  ten = tt;
}

pub says_one : (id host : ℕ) (plan : CallPlan) (message : AgwMessage) → HasTen message → IsNoneOf plan message
    → SaysOnly id plan (piece_with host message ∷ [])
says_one id host plan message ten none = go (host == id) refl
  where
    go : (b : Bool) → (host == id) ≡ b → SaysOnly id plan (piece_with host message ∷ [])
    go false is = says_other id plan (piece_with host message) is
    go true is = record {
      items = Says message ∷ [];
      pieces_are = ap (λ b. cond b (piece_with host message ∷ []) []) is
          ∙ ap (λ n. piece_with n message ∷ []) (eqb-true host id is);
      tells = refl;
      fits = (none, tt);
      ten = (ten, tt);
    }

-- a message of another kind
pub none_by_kind : (plan : CallPlan) (message : AgwMessage) → (message.kind == connect_kind) ≡ false
    → (message.kind == data_kind) ≡ false → IsNoneOf plan message
none_by_kind plan message no_connect no_data = record {
  connects = and_right (is_of_call (call_field plan.own) (call_field plan.remote) message)
      (message.kind == connect_kind) no_connect;
  data' = and_right (is_of_call (call_field plan.own) (call_field plan.remote) message) (message.kind == data_kind)
      no_data;
}

-- ---- what links tell their owners

-- those of the link of the call
tell_own : (id : ℕ) (local remote : Callsign) (told : List Told) (n : ℕ) → n ≡ id
    → pieces_for id (map (piece_of n local remote) told)
    ≡ pieces_with id (messages_of local remote (map (Tells true) told))
tell_own id local remote [] n is = refl
tell_own id local remote (t ∷ told) n is =
    ap (λ b. cond b (piece_of n local remote t ∷ pieces_for id (map (piece_of n local remote) told))
    (pieces_for id (map (piece_of n local remote) told))) (eq-eqb n id is)
    ∙ ap (λ k. piece_of k local remote t ∷ pieces_for id (map (piece_of n local remote) told)) is
    ∙ ap (λ ps. piece_of id local remote t ∷ ps) (tell_own id local remote told n is)

tell_none : (id : ℕ) (local remote : Callsign) (told : List Told) (n : ℕ) → (n == id) ≡ false
    → pieces_for id (map (piece_of n local remote) told) ≡ []
tell_none id local remote [] n is = refl
tell_none id local remote (t ∷ told) n is =
    ap (λ b. cond b (piece_of n local remote t ∷ pieces_for id (map (piece_of n local remote) told))
    (pieces_for id (map (piece_of n local remote) told))) is ∙ tell_none id local remote told n is

unheard : (local remote : Callsign) (told : List Told) → messages_of local remote (map (Tells false) told) ≡ []
unheard local remote [] = refl
unheard local remote (t ∷ told) = unheard local remote told

pub link_pieces : (id : ℕ) (owner : Option ℕ) (local remote : Callsign) (told : List Told)
    → pieces_for id (pieces_to owner local remote told)
    ≡ pieces_with id (messages_of local remote (map (Tells (is_number id owner)) told))
link_pieces id None local remote told = ap (pieces_with id) (sym (unheard local remote told))
link_pieces id (Some n) local remote told = go (n == id) refl
  where
    go : (b : Bool) → (n == id) ≡ b
        → pieces_for id (map (piece_of n local remote) told)
        ≡ pieces_with id (messages_of local remote (map (Tells (n == id)) told))
    go true is =
        tell_own id local remote told n (eqb-true n id is)
        ∙ ap (λ b. pieces_with id (messages_of local remote (map (Tells b) told))) (sym is)
    go false is =
        tell_none id local remote told n is
        ∙ ap (pieces_with id) (sym (unheard local remote told))
        ∙ ap (λ b. pieces_with id (messages_of local remote (map (Tells b) told))) (sym is)

told_ten : (local remote : Callsign) (told : Told) → IsCall local → IsCall remote
    → HasTen (message_of_told local remote told)
told_ten local remote (Opened ours) l r = record { from = field_ten remote r; to = field_ten local l }
told_ten local remote (Given packet) l r = record { from = field_ten remote r; to = field_ten local l }
told_ten local remote (Ended why) l r = record { from = field_ten remote r; to = field_ten local l }

pub tells_ten : (own : Bool) (local remote : Callsign) (told : List Told) → IsCall local → IsCall remote
    → Each HasTen (messages_of local remote (map (Tells own) told))
tells_ten own local remote [] l r = tt
tells_ten true local remote (t ∷ told) l r = (told_ten local remote t l r, tells_ten true local remote told l r)
tells_ten false local remote (t ∷ told) l r = tells_ten false local remote told l r

pub tells_fit : (plan : CallPlan) (own : Bool) (told : List Told) → Each (FitsItem plan) (map (Tells own) told)
tells_fit plan own [] = tt
tells_fit plan own (t ∷ told) = (tt, tells_fit plan own told)

pub tells_same : (own : Bool) (told : List Told) → tells_of (map (Tells own) told) ≡ map (Tells own) told
tells_same own [] = refl
tells_same own (t ∷ told) = ap (λ xs. Tells own t ∷ xs) (tells_same own told)

-- those of another link
other_call : (plan : CallPlan) (link : Link) → IsCall plan.own → IsCall plan.remote → HasValidCalls link
    → is_between plan.own plan.remote (Some link) ≡ false
    → (bytes_eq (call_field link.remote) (call_field plan.remote)
    && bytes_eq (call_field link.local) (call_field plan.own)) ≡ false
other_call plan link own remote valid other =
    false_from_ne_true _ (λ both.
    let tests = and_parts (bytes_eq (call_field link.remote) (call_field plan.remote))
    (bytes_eq (call_field link.local) (call_field plan.own)) both in
    let r : link.remote ≡ plan.remote = field_tells link.remote plan.remote valid.remote_valid remote
    ((bytes_eq-Decides (call_field link.remote) (call_field plan.remote)).0 tests.0) in
    let l : link.local ≡ plan.own = field_tells link.local plan.own valid.local_valid own
    ((bytes_eq-Decides (call_field link.local) (call_field plan.own)).0 tests.1) in
    not_both (is_between plan.own plan.remote (Some link)) (calls_chosen plan.own plan.remote link l r) other)

other_told : (plan : CallPlan) (link : Link) (told : Told)
    → (bytes_eq (call_field link.remote) (call_field plan.remote)
    && bytes_eq (call_field link.local) (call_field plan.own)) ≡ false
    → IsNoneOf plan (message_of_told link.local link.remote told)
other_told plan link (Opened ours) other =
    record { connects = ap (λ b. b && true) other; data' = ap (λ b. b && false) other }
other_told plan link (Given packet) other =
    record { connects = ap (λ b. b && false) other; data' = ap (λ b. b && true) other }
other_told plan link (Ended why) other =
    record { connects = ap (λ b. b && false) other; data' = ap (λ b. b && false) other }

pub link_says :
    (id : ℕ) (plan : CallPlan) (link : Link) (told : List Told) → IsCall plan.own → IsCall plan.remote
    → HasValidCalls link → is_between plan.own plan.remote (Some link) ≡ false
    → SaysOnly id plan (pieces_to link.owner link.local link.remote told)
link_says id plan link told own remote valid other = by_owner link.owner
  where
    each : (n : ℕ) (ts : List Told) → SaysOnly id plan (map (piece_of n link.local link.remote) ts)
    each n [] = says_nothing id plan
    each n (t ∷ ts) =
        says_both id plan (piece_of n link.local link.remote t ∷ []) (map (piece_of n link.local link.remote) ts)
        (says_one id n plan (message_of_told link.local link.remote t)
        (told_ten link.local link.remote t valid.local_valid valid.remote_valid)
        (other_told plan link t (other_call plan link own remote valid other)))
        (each n ts)

    by_owner : (owner : Option ℕ) → SaysOnly id plan (pieces_to owner link.local link.remote told)
    by_owner None = says_nothing id plan
    by_owner (Some n) = each n told
