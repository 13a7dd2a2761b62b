-- The data of a call that follow a C with no d between are of one set-up of the link.
use Rattle.station_laws.proofs.Common.{◌≡◌, ℕ, Bool, true, false, ◌==◌, ◌&&◌, List, [], ◌∷◌, ◌++◌, length, cond}
use Rattle.station_laws.proofs.Common.{Some, refl, sym, ap, ◌∙◌, subst, slice_get, ⊤, append-nil, append_assoc}
use Rattle.station_laws.proofs.Common.{AgwMessage, Packet, Told, Opened, Given, Ended, Why}
use Rattle.std.specs.Prelude.{fold}
use Rattle.std.specs.List.{flat_map, AllByRecursion as Each}
use Rattle.std.specs.Str.{bytes_eq}
use Rattle.std.proofs.lemmas.List.Concat.{flat_map-append}
use Rattle.std.proofs.lemmas.Slice.Eq.{bytes_eq-Decides}
use Rattle.agwpe_port.specs.CallField.{call_field}
use Rattle.agwpe_client.specs.CallMessages.{connect_kind, data_kind, disconnect_kind}
use Rattle.agwpe_client.specs.CallRun.{CallPlan}
use Rattle.agwpe_client.specs.DoneCall.{is_of, data_of}
use Rattle.station.specs.HostMessages.{message_of_told}
use Rattle.call_laws.specs.FirstPart.{IsFirstPart}
use Rattle.call_laws.specs.PrintsTold.{octets_of, PrintsTold}
use Rattle.call_laws.specs.SetUpsTold.{last_given, given_last, got_told}
use Rattle.call_laws.proofs.Items.{Item, messages_of, told_of_items, IsTale}
use Rattle.call_laws.proofs.Items.Item.{Tells, Says}

-- ---- the packets of set-ups

-- the last one, after others
last_at : (packet : Packet) (first : List Packet) (others : List (List Packet)) (got : List Packet)
    → last_given packet first (others ++ got ∷ []) ≡ first ∷ given_last packet (others ++ got ∷ [])
last_at packet first [] got = refl
last_at packet first (next ∷ others) got = refl

given_at : (packet : Packet) (others : List (List Packet)) (got : List Packet)
    → given_last packet (others ++ got ∷ []) ≡ others ++ (got ++ packet ∷ []) ∷ []
given_at packet [] got = refl
given_at packet (first ∷ others) got =
    last_at packet first others got ∙ ap (λ gs. first ∷ gs) (given_at packet others got)

-- a set-up, and what it got at least
record HasGot (gots : List (List Packet)) (number : ℕ) (first : List Packet) : Type 0 where
  got : List Packet
  is_there : slice_get gots number ≡ Some got
  part : IsFirstPart first got

at_seam : (others : List (List Packet)) (got : List Packet) (more : List (List Packet))
    → slice_get (others ++ got ∷ more) (length others) ≡ Some got
at_seam [] got more = refl
at_seam (first ∷ others) got more = at_seam others got more

-- a packet for the last of several
last_in : (packet : Packet) (got next : List Packet) (more xs : List (List Packet))
    → given_last packet (xs ++ got ∷ next ∷ more) ≡ xs ++ got ∷ last_given packet next more
last_in packet got next more [] = refl
last_in packet got next more (x ∷ []) = refl
last_in packet got next more (x ∷ y ∷ xs) = ap (λ gs. x ∷ gs) (last_in packet got next more (y ∷ xs))

-- what was got stays, and more may come
grows :
    (told : List Told) (others : List (List Packet)) (got : List Packet) (more : List (List Packet))
    → HasGot (fold got_told (others ++ got ∷ more) told) (length others) got
grows [] others got more =
    record { got = got; is_there = at_seam others got more; part = ([], sym (append-nil got)) }
grows (Opened ours ∷ told) others got more =
    subst (λ gs. HasGot (fold got_told gs told) (length others) got)
    (sym (append_assoc others (got ∷ more) ([] ∷ []))) (grows told others got (more ++ [] ∷ []))
grows (Given packet ∷ told) others got [] =
    let later = grows told others (got ++ packet ∷ []) [] in
    subst (λ gs. HasGot (fold got_told gs told) (length others) got) (sym (given_at packet others got)) (record {
      got = later.got;
      is_there = later.is_there;
      part = (packet ∷ later.part.0, later.part.1 ∙ append_assoc got (packet ∷ []) later.part.0);
    })
grows (Given packet ∷ told) others got (next ∷ more) =
    subst (λ gs. HasGot (fold got_told gs told) (length others) got) (sym (last_in packet got next more others))
    (grows told others got (last_given packet next more))
grows (Ended why ∷ told) others got more = grows told others got more

-- ---- the messages of the link

-- a message that is told by no link of the call is no C and no D of it
pub record IsNoneOf (plan : CallPlan) (message : AgwMessage) : Type 0 where
  pub connects : is_of connect_kind plan message ≡ false
  pub data' : is_of data_kind plan message ≡ false

abbrev pub FitsItem : CallPlan → Item → Type 0
FitsItem plan (Tells owned told) = ⊤
FitsItem plan (Says message) = IsNoneOf plan message

module _ (plan : CallPlan) where
  abbrev said : List Item → List AgwMessage
  said items = messages_of plan.own plan.remote items

  same_field : (field : List ℕ) → bytes_eq field field ≡ true
  same_field field = (bytes_eq-Decides field field).1 refl

  -- a message of the link is of the call
  of_call : (kind : ℕ) (told : Told)
      → (m : AgwMessage) → m ≡ message_of_told plan.own plan.remote told → m.from ≡ call_field plan.remote
      → m.to ≡ call_field plan.own → is_of kind plan m ≡ (m.kind == kind)
  of_call kind told m is from to =
      ap (λ xs. (bytes_eq xs (call_field plan.remote) && bytes_eq m.to (call_field plan.own)) && (m.kind == kind)) from
      ∙ ap (λ b. (b && bytes_eq m.to (call_field plan.own)) && (m.kind == kind)) (same_field (call_field plan.remote))
      ∙ ap (λ xs. bytes_eq xs (call_field plan.own) && (m.kind == kind)) to
      ∙ ap (λ b. b && (m.kind == kind)) (same_field (call_field plan.own))

  ended_ends : (why : Why) → is_of disconnect_kind plan (message_of_told plan.own plan.remote (Ended why)) ≡ true
  ended_ends why = of_call disconnect_kind (Ended why) _ refl refl refl

  given_data : (packet : Packet) → data_of plan (message_of_told plan.own plan.remote (Given packet)) ≡ packet.octets
  given_data packet = ap (λ b. cond b packet.octets []) (of_call data_kind (Given packet) _ refl refl refl)

  given_connects : (packet : Packet)
      → is_of connect_kind plan (message_of_told plan.own plan.remote (Given packet)) ≡ false
  given_connects packet = of_call connect_kind (Given packet) _ refl refl refl

  ended_connects : (why : Why) → is_of connect_kind plan (message_of_told plan.own plan.remote (Ended why)) ≡ false
  ended_connects why = of_call connect_kind (Ended why) _ refl refl refl

  no_data : (message : AgwMessage) → IsNoneOf plan message → data_of plan message ≡ []
  no_data message none = ap (λ b. cond b message.body []) none.data'

  abbrev NoEnd : AgwMessage → Type 0
  NoEnd message = is_of disconnect_kind plan message ≡ false

  octets_grow : (first got : List Packet) → IsFirstPart first got → IsFirstPart (octets_of first) (octets_of got)
  octets_grow first got part =
      (octets_of part.0, ap octets_of part.1 ∙ flat_map-append _ first part.0)

  cons_head : (x y : AgwMessage) (xs ys : List AgwMessage) → x ∷ xs ≡ y ∷ ys → (x ≡ y) × (xs ≡ ys)
  cons_head x y xs ys same = (cc, cc)

  -- in the set-up that runs
  collects :
      (items : List Item) (others : List (List Packet)) (got : List Packet) (middle rest : List AgwMessage)
      → Each (FitsItem plan) items → IsTale true true items → said items ≡ middle ++ rest → Each NoEnd middle
      → PrintsTold (fold got_told (others ++ got ∷ []) (told_of_items items))
      (octets_of got ++ flat_map (data_of plan) middle)
  collects items others got [] rest fits tale is none =
      let later = grows (told_of_items items) others got [] in
      record {
        number = length others;
        got = later.got;
        is_there = later.is_there;
        part = subst (λ xs. IsFirstPart xs (octets_of later.got)) (sym (append-nil (octets_of got)))
            (octets_grow got later.got later.part);
      }
  collects [] others got (message ∷ middle) rest fits tale is none = absurd (cc)
  collects (Says m ∷ items) others got (message ∷ middle) rest fits tale is none =
      let same = cons_head m message (said items) (middle ++ rest) is in
      let data_none : data_of plan message ≡ [] = ap (data_of plan) (sym same.0) ∙ no_data m fits.0 in
      subst (λ xs. PrintsTold (fold got_told (others ++ got ∷ []) (told_of_items items)) (octets_of got ++ xs))
      (ap (λ xs. xs ++ flat_map (data_of plan) middle) (sym data_none))
      (collects items others got middle rest fits.1 tale same.1 none.1)
  collects (Tells owned (Opened ours) ∷ items) others got (message ∷ middle) rest fits tale is none =
      absurd (let e : true ≡ false = tale.0 in cc)
  collects (Tells false (Given packet) ∷ items) others got (message ∷ middle) rest fits tale is none =
      absurd (let e : false ≡ true = tale.1 in cc)
  collects (Tells true (Given packet) ∷ items) others got (message ∷ middle) rest fits tale is none =
      let same = cons_head (message_of_told plan.own plan.remote (Given packet)) message (said items) (middle ++ rest)
      is in
      let data_is : data_of plan message ≡ packet.octets = ap (data_of plan) (sym same.0) ∙ given_data packet in
      let more = collects items others (got ++ packet ∷ []) middle rest fits.1 tale.2 same.1 none.1 in
      let before : octets_of (got ++ packet ∷ []) ≡ octets_of got ++ packet.octets =
      flat_map-append _ got (packet ∷ [])
      ∙ ap (λ xs. octets_of got ++ xs) (append-nil packet.octets) in
      let all : octets_of (got ++ packet ∷ []) ++ flat_map (data_of plan) middle
      ≡ octets_of got ++ (data_of plan message ++ flat_map (data_of plan) middle) =
      ap (λ xs. xs ++ flat_map (data_of plan) middle) before
      ∙ append_assoc (octets_of got) packet.octets (flat_map (data_of plan) middle)
      ∙ ap (λ xs. octets_of got ++ (xs ++ flat_map (data_of plan) middle)) (sym data_is) in
      subst (λ gs. PrintsTold (fold got_told gs (told_of_items items))
      (octets_of got ++ (data_of plan message ++ flat_map (data_of plan) middle))) (sym (given_at packet others got))
      (subst (PrintsTold (fold got_told (others ++ (got ++ packet ∷ []) ∷ []) (told_of_items items))) all more)
  collects (Tells false (Ended why) ∷ items) others got (message ∷ middle) rest fits tale is none =
      absurd (let e : false ≡ true = tale.0 refl in cc)
  collects (Tells true (Ended why) ∷ items) others got (message ∷ middle) rest fits tale is none =
      let same = cons_head (message_of_told plan.own plan.remote (Ended why)) message (said items) (middle ++ rest)
      is in
      absurd (let e : true ≡ false = sym (ended_ends why) ∙ ap (is_of disconnect_kind plan) same.0 ∙ none.0 in cc)

  -- from the C that is meant on
  pub finds :
      (items : List Item) (runs own : Bool) (gots : List (List Packet)) (front : List AgwMessage)
      (connected : AgwMessage) (middle rest : List AgwMessage)
      → Each (FitsItem plan) items → IsTale runs own items → said items ≡ front ++ connected ∷ (middle ++ rest)
      → is_of connect_kind plan connected ≡ true → Each NoEnd middle
      → PrintsTold (fold got_told gots (told_of_items items)) (flat_map (data_of plan) middle)
  finds [] runs own gots [] connected middle rest fits tale is c none = absurd (cc)
  finds [] runs own gots (first ∷ front) connected middle rest fits tale is c none = absurd (cc)
  finds (Says m ∷ items) runs own gots [] connected middle rest fits tale is c none =
      let same = cons_head m connected (said items) (middle ++ rest) is in
      absurd (let e : false ≡ true = sym fits.0.connects ∙ ap (is_of connect_kind plan) same.0 ∙ c in cc)
  finds (Says m ∷ items) runs own gots (first ∷ front) connected middle rest fits tale is c none =
      let same = cons_head m first (said items) (front ++ connected ∷ (middle ++ rest)) is in
      finds items runs own gots front connected middle rest fits.1 tale same.1 c none
  finds (Tells false (Opened ours) ∷ items) runs own gots front connected middle rest fits tale is c none =
      finds items true false (gots ++ [] ∷ []) front connected middle rest fits.1 tale.1 is c none
  finds (Tells false (Given packet) ∷ items) runs own gots front connected middle rest fits tale is c none =
      finds items runs own (given_last packet gots) front connected middle rest fits.1 tale.2 is c none
  finds (Tells false (Ended why) ∷ items) runs own gots front connected middle rest fits tale is c none =
      finds items false own gots front connected middle rest fits.1 tale.1 is c none
  finds (Tells true (Opened ours) ∷ items) runs own gots [] connected middle rest fits tale is c none =
      let same = cons_head (message_of_told plan.own plan.remote (Opened ours)) connected (said items) (middle ++ rest)
      is in
      collects items gots [] middle rest fits.1 tale.1 same.1 none
  finds (Tells true (Given packet) ∷ items) runs own gots [] connected middle rest fits tale is c none =
      let same = cons_head (message_of_told plan.own plan.remote (Given packet)) connected (said items) (middle ++ rest)
      is in
      absurd (let e : false ≡ true = sym (given_connects packet) ∙ ap (is_of connect_kind plan) same.0 ∙ c in cc)
  finds (Tells true (Ended why) ∷ items) runs own gots [] connected middle rest fits tale is c none =
      let same = cons_head (message_of_told plan.own plan.remote (Ended why)) connected (said items) (middle ++ rest)
      is in
      absurd (let e : false ≡ true = sym (ended_connects why) ∙ ap (is_of connect_kind plan) same.0 ∙ c in cc)
  finds (Tells true (Opened ours) ∷ items) runs own gots (first ∷ front) connected middle rest fits tale is c none =
      let same = cons_head (message_of_told plan.own plan.remote (Opened ours)) first (said items)
      (front ++ connected ∷ (middle ++ rest)) is in
      finds items true true (gots ++ [] ∷ []) front connected middle rest fits.1 tale.1 same.1 c none
  finds (Tells true (Given packet) ∷ items) runs own gots (first ∷ front) connected middle rest fits tale is c none =
      let same = cons_head (message_of_told plan.own plan.remote (Given packet)) first (said items)
      (front ++ connected ∷ (middle ++ rest)) is in
      finds items runs own (given_last packet gots) front connected middle rest fits.1 tale.2 same.1 c none
  finds (Tells true (Ended why) ∷ items) runs own gots (first ∷ front) connected middle rest fits tale is c none =
      let same = cons_head (message_of_told plan.own plan.remote (Ended why)) first (said items)
      (front ++ connected ∷ (middle ++ rest)) is in
      finds items false own gots front connected middle rest fits.1 tale.1 same.1 c none
