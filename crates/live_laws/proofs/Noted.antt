-- The set-ups of a link, each with whether its C was taken: what is taken of D messages is what those got.
use Rattle.station_laws.proofs.Common.{◌≡◌, ℕ, Bool, true, false, ◌==◌, ◌&&◌, List, [], ◌∷◌, ◌++◌, cond, map, refl, sym}
use Rattle.station_laws.proofs.Common.{ap, ◌∙◌, subst, inl, inr, ◌⊎◌, ⊤, append-nil, append_assoc, map-append}
use Rattle.station_laws.proofs.Common.{false≢true, AgwMessage, Packet, Opened, Given, Ended, Why}
use Rattle.std.specs.Prelude.{fold}
use Rattle.std.specs.List.{AllByRecursion as Each}
use Rattle.std.specs.Str.{bytes_eq}
use Rattle.std.proofs.lemmas.List.Concat.{flat_map-append}
use Rattle.std.proofs.lemmas.Slice.Eq.{bytes_eq-Decides}
use Rattle.agwpe_port.specs.CallField.{call_field}
use Rattle.agwpe_client.specs.CallRun.{CallPlan}
use Rattle.station.specs.AgwKinds.{connect_kind, data_kind}
use Rattle.station.specs.HostMessages.{message_of_told}
use Rattle.call_laws.specs.FirstPart.{IsFirstPart}
use Rattle.call_laws.specs.PrintsTold.{octets_of}
use Rattle.call_laws.specs.SetUpsTold.{given_last, got_told, last_given}
use Rattle.call_laws.proofs.Collect.{FitsItem, IsNoneOf}
use Rattle.call_laws.proofs.Items.{IsTale, Item, messages_of, told_of_items}
use Rattle.call_laws.proofs.Items.Item.{Says, Tells}
use Rattle.live_laws.specs.HostData.{after_message, is_to_owner, more_for_last}

-- a set-up: whether the connection was told of it, and the packets that the link told of in it
pub record Noted : Type 0 where
  pub told : Bool
  pub got : List Packet

abbrev pub gots_of : List Noted → List (List Packet)
gots_of noted = map (λ (q : Noted). q.got) noted

-- the octets of those that the connection was told of
abbrev pub octets_with : Bool → List Packet → List (List ℕ) → List (List ℕ)
octets_with true got rest = octets_of got ∷ rest
octets_with false got rest = rest

abbrev pub octets_told : List Noted → List (List ℕ)
octets_told [] = []
octets_told (q ∷ noted) = octets_with q.told q.got (octets_told noted)

-- a packet more for the last one
abbrev last_grown : Packet → Noted → List Noted → List Noted
last_grown packet q [] = (record q { got = q.got ++ packet ∷ [] }) ∷ []
last_grown packet q (next ∷ rest) = q ∷ last_grown packet next rest

abbrev grown : Packet → List Noted → List Noted
grown packet [] = []
grown packet (q ∷ rest) = last_grown packet q rest

-- what the link tells more, to the connection or not
abbrev pub note : List Noted → Item → List Noted
note noted (Tells owned (Opened ours)) = noted ++ (record { told = owned; got = [] }) ∷ []
note noted (Tells owned (Given packet)) = grown packet noted
note noted (Tells owned (Ended why)) = noted
note noted (Says message) = noted

-- before the connection joined nothing is told to it
abbrev pub unheard : Item → Item
unheard (Tells owned told) = Tells false told
unheard (Says message) = Says message

-- ---- what the link told is got

last_grown_gots : (packet : Packet) (q : Noted) (rest : List Noted)
    → gots_of (last_grown packet q rest) ≡ last_given packet q.got (gots_of rest)
last_grown_gots packet q [] = refl
last_grown_gots packet q (next ∷ rest) = ap (λ gs. q.got ∷ gs) (last_grown_gots packet next rest)

grown_gots : (packet : Packet) (noted : List Noted) → gots_of (grown packet noted) ≡ given_last packet (gots_of noted)
grown_gots packet [] = refl
grown_gots packet (q ∷ rest) = last_grown_gots packet q rest

pub noted_gots : (items : List Item) (noted : List Noted)
    → gots_of (fold note noted items) ≡ fold got_told (gots_of noted) (told_of_items items)
noted_gots [] noted = refl
noted_gots (Tells owned (Opened ours) ∷ items) noted =
    noted_gots items (noted ++ (record { told = owned; got = [] }) ∷ [])
    ∙ ap (λ gs. fold got_told gs (told_of_items items))
    (map-append (λ (q : Noted). q.got) noted ((record { told = owned; got = [] }) ∷ []))
noted_gots (Tells owned (Given packet) ∷ items) noted =
    noted_gots items (grown packet noted)
    ∙ ap (λ gs. fold got_told gs (told_of_items items)) (grown_gots packet noted)
noted_gots (Tells owned (Ended why) ∷ items) noted = noted_gots items noted
noted_gots (Says message ∷ items) noted = noted_gots items noted

pub unheard_told : (items : List Item) → told_of_items (map unheard items) ≡ told_of_items items
unheard_told [] = refl
unheard_told (Tells owned told ∷ items) = ap (λ xs. told ∷ xs) (unheard_told items)
unheard_told (Says message ∷ items) = unheard_told items

-- ---- the last set-up

told_append : (first second : List Noted) → octets_told (first ++ second) ≡ octets_told first ++ octets_told second
told_append [] second = refl
told_append (q ∷ first) second = go q.told (told_append first second)
  where
    go : (b : Bool) → octets_told (first ++ second) ≡ octets_told first ++ octets_told second
        → octets_with b q.got (octets_told (first ++ second))
        ≡ octets_with b q.got (octets_told first) ++ octets_told second
    go true rest = ap (λ gs. octets_of q.got ∷ gs) rest
    go false rest = rest

grown_end : (packet : Packet) (others : List Noted) (q next : Noted) → next ≡ record q { got = q.got ++ packet ∷ [] }
    → grown packet (others ++ q ∷ []) ≡ others ++ next ∷ []
grown_end packet [] q next is = ap (λ (n : Noted). n ∷ []) (sym is)
grown_end packet (first ∷ []) q next is = ap (λ ns. first ∷ ns) (grown_end packet [] q next is)
grown_end packet (first ∷ second ∷ others) q next is =
    ap (λ ns. first ∷ ns) (grown_end packet (second ∷ others) q next is)

more_end : (more : List ℕ) (others : List (List ℕ)) (got : List ℕ)
    → more_for_last more (others ++ got ∷ []) ≡ others ++ (got ++ more) ∷ []
more_end more [] got = refl
more_end more (first ∷ []) got = ap (λ gs. first ∷ gs) (more_end more [] got)
more_end more (first ∷ second ∷ others) got = ap (λ gs. first ∷ gs) (more_end more (second ∷ others) got)

-- The last set-up is the one that runs. It is told to the connection if the connection owns the link; else that was so
-- before the connection joined, and the connection was told of none.
abbrev pub IsMark : Bool → Bool → List Noted → Type 0
IsMark own told others = (told ≡ own) ⊎ ((told ≡ false) × (octets_told others ≡ []))

pub record Runs (own : Bool) (noted : List Noted) : Type 0 where
  pub others : List Noted
  pub last : Noted
  pub is : noted ≡ others ++ last ∷ []
  pub mark : IsMark own last.told others

abbrev pub Fits : Bool → Bool → List Noted → Type 0
Fits runs own noted = runs ≡ true → Runs own noted

-- ---- the messages of a link

module _ (plan : CallPlan) where
  abbrev said : List Item → List AgwMessage
  said items = messages_of plan.own plan.remote items

  abbrev heard : List (List ℕ) → List AgwMessage → List (List ℕ)
  heard gots messages = fold (after_message plan.own plan.remote) gots messages

  same_field : (field : List ℕ) → bytes_eq field field ≡ true
  same_field field = (bytes_eq-Decides field field).1 refl

  -- a message that the link tells is from the one call to the other
  of_link : (kind : ℕ) (m : AgwMessage) → m.from ≡ call_field plan.remote → m.to ≡ call_field plan.own
      → is_to_owner kind plan.own plan.remote m ≡ (m.kind == kind)
  of_link kind m from to =
      ap (λ xs. (bytes_eq xs (call_field plan.remote) && bytes_eq m.to (call_field plan.own)) && (m.kind == kind)) from
      ∙ ap (λ b. (b && bytes_eq m.to (call_field plan.own)) && (m.kind == kind)) (same_field (call_field plan.remote))
      ∙ ap (λ xs. bytes_eq xs (call_field plan.own) && (m.kind == kind)) to
      ∙ ap (λ b. b && (m.kind == kind)) (same_field (call_field plan.own))

  abbrev chooses : List (List ℕ) → AgwMessage → Bool → Bool → List (List ℕ)
  chooses gots m connects gives = cond connects (gots ++ [] ∷ []) (cond gives (more_for_last m.body gots) gots)

  opened_heard : (gots : List (List ℕ)) (ours : Bool)
      → after_message plan.own plan.remote gots (message_of_told plan.own plan.remote (Opened ours)) ≡ gots ++ [] ∷ []
  opened_heard gots ours =
      let m = message_of_told plan.own plan.remote (Opened ours) in
      ap (λ b. chooses gots m b (is_to_owner data_kind plan.own plan.remote m)) (of_link connect_kind m refl refl)

  given_heard : (gots : List (List ℕ)) (packet : Packet)
      → after_message plan.own plan.remote gots (message_of_told plan.own plan.remote (Given packet))
      ≡ more_for_last packet.octets gots
  given_heard gots packet =
      let m = message_of_told plan.own plan.remote (Given packet) in
      ap (λ b. chooses gots m b (is_to_owner data_kind plan.own plan.remote m)) (of_link connect_kind m refl refl)
      ∙ ap (chooses gots m false) (of_link data_kind m refl refl)

  ended_heard : (gots : List (List ℕ)) (why : Why)
      → after_message plan.own plan.remote gots (message_of_told plan.own plan.remote (Ended why)) ≡ gots
  ended_heard gots why =
      let m = message_of_told plan.own plan.remote (Ended why) in
      ap (λ b. chooses gots m b (is_to_owner data_kind plan.own plan.remote m)) (of_link connect_kind m refl refl)
      ∙ ap (chooses gots m false) (of_link data_kind m refl refl)

  other_heard : (gots : List (List ℕ)) (m : AgwMessage) → IsNoneOf plan m → after_message plan.own plan.remote gots m ≡ gots
  other_heard gots m none =
      ap (λ b. chooses gots m b (is_to_owner data_kind plan.own plan.remote m)) none.connects
      ∙ ap (chooses gots m false) none.data'

  -- ---- all that the connection is told

  opens : (owned : Bool) (noted : List Noted)
      → Runs owned (noted ++ (record { told = owned; got = [] }) ∷ [])
  opens owned noted = record { others = noted; last = record { told = owned; got = [] }; is = refl; mark = inl refl }

  -- a packet more in the set-up that runs
  abbrev with_packet : Packet → Noted → Noted
  with_packet packet q = record q { got = q.got ++ packet ∷ [] }

  runs_on : (own : Bool) (packet : Packet) (noted : List Noted) → Runs own noted → Runs own (grown packet noted)
  runs_on own packet noted r = record {
    others = r.others;
    last = with_packet packet r.last;
    is = ap (grown packet) r.is ∙ grown_end packet r.others r.last (with_packet packet r.last) refl;
    mark = r.mark;
  }

  octets_more : (got : List Packet) (packet : Packet)
      → octets_of (got ++ packet ∷ []) ≡ octets_of got ++ packet.octets
  octets_more got packet =
      flat_map-append (λ (p : Packet). p.octets) got (packet ∷ [])
      ∙ ap (λ xs. octets_of got ++ xs) (append-nil packet.octets)

  -- it is told to the connection
  told_grows : (packet : Packet) (noted : List Noted) → Runs true noted
      → octets_told (grown packet noted) ≡ more_for_last packet.octets (octets_told noted)
  unfolding runs_on
  told_grows packet noted r =
      ap octets_told ((runs_on true packet noted r).is) ∙ told_append r.others (with_packet packet r.last ∷ [])
      ∙ by_mark r.mark
      ∙ ap (more_for_last packet.octets) (sym (ap octets_told r.is ∙ told_append r.others (r.last ∷ [])))
    where
      by_told : (b : Bool) → b ≡ true
          → octets_told r.others ++ octets_with b (r.last.got ++ packet ∷ []) []
          ≡ more_for_last packet.octets (octets_told r.others ++ octets_with b r.last.got [])
      by_told false is = absurd (false≢true is)
      by_told true is =
          ap (λ xs. octets_told r.others ++ xs ∷ []) (octets_more r.last.got packet)
          ∙ sym (more_end packet.octets (octets_told r.others) (octets_of r.last.got))

      by_none : (b : Bool) → b ≡ false → octets_told r.others ≡ []
          → octets_told r.others ++ octets_with b (r.last.got ++ packet ∷ []) []
          ≡ more_for_last packet.octets (octets_told r.others ++ octets_with b r.last.got [])
      by_none true is none = absurd (let e : true ≡ false = is in cc)
      by_none false is none =
          ap (λ gs. gs ++ []) none ∙ sym (ap (λ gs. more_for_last packet.octets (gs ++ [])) none)

      by_mark : IsMark true r.last.told r.others
          → octets_told r.others ++ octets_told (with_packet packet r.last ∷ [])
          ≡ more_for_last packet.octets (octets_told r.others ++ octets_told (r.last ∷ []))
      by_mark (inl told) = by_told r.last.told told
      by_mark (inr none) = by_none r.last.told none.0 none.1

  -- it is not
  other_grows : (packet : Packet) (noted : List Noted) → Runs false noted
      → octets_told (grown packet noted) ≡ octets_told noted
  unfolding runs_on
  other_grows packet noted r =
      ap octets_told ((runs_on false packet noted r).is) ∙ told_append r.others (with_packet packet r.last ∷ [])
      ∙ ap (λ gs. octets_told r.others ++ gs) (by_told r.last.told (untold r.mark))
      ∙ sym (ap octets_told r.is ∙ told_append r.others (r.last ∷ []))
    where
      untold : IsMark false r.last.told r.others → r.last.told ≡ false
      untold (inl told) = told
      untold (inr none) = none.0

      by_told : (b : Bool) → b ≡ false → octets_with b (r.last.got ++ packet ∷ []) [] ≡ octets_with b r.last.got []
      by_told true is = absurd (let e : true ≡ false = is in cc)
      by_told false is = refl

  pub gathers :
      (items : List Item) (runs own : Bool) (noted : List Noted) → Fits runs own noted → IsTale runs own items
      → Each (FitsItem plan) items → heard (octets_told noted) (said items) ≡ octets_told (fold note noted items)
  gathers [] runs own noted fits tale each = refl
  gathers (Says m ∷ items) runs own noted fits tale each =
      ap (λ gs. heard gs (said items)) (other_heard (octets_told noted) m each.0)
      ∙ gathers items runs own noted fits tale each.1
  gathers (Tells true (Opened ours) ∷ items) runs own noted fits tale each =
      let next = noted ++ (record { told = true; got = [] }) ∷ [] in
      ap (λ gs. heard gs (said items)) (opened_heard (octets_told noted) ours
      ∙ sym (told_append noted ((record { told = true; got = [] }) ∷ [])))
      ∙ gathers items true true next (λ is. opens true noted) tale.1 each.1
  gathers (Tells false (Opened ours) ∷ items) runs own noted fits tale each =
      let next = noted ++ (record { told = false; got = [] }) ∷ [] in
      ap (λ gs. heard gs (said items))
      (sym (told_append noted ((record { told = false; got = [] }) ∷ []) ∙ append-nil (octets_told noted)))
      ∙ gathers items true false next (λ is. opens false noted) tale.1 each.1
  gathers (Tells true (Given packet) ∷ items) runs own noted fits tale each =
      let r : Runs true noted = subst (λ b. Runs b noted) (sym tale.1) (fits tale.0) in
      ap (λ gs. heard gs (said items)) (given_heard (octets_told noted) packet ∙ sym (told_grows packet noted r))
      ∙ gathers items runs own (grown packet noted) (λ is. runs_on own packet noted (fits is)) tale.2 each.1
  gathers (Tells false (Given packet) ∷ items) runs own noted fits tale each =
      let r : Runs false noted = subst (λ b. Runs b noted) (sym tale.1) (fits tale.0) in
      ap (λ gs. heard gs (said items)) (sym (other_grows packet noted r))
      ∙ gathers items runs own (grown packet noted) (λ is. runs_on own packet noted (fits is)) tale.2 each.1
  gathers (Tells true (Ended why) ∷ items) runs own noted fits tale each =
      ap (λ gs. heard gs (said items)) (ended_heard (octets_told noted) why)
      ∙ gathers items false own noted (λ is. absurd (false≢true is)) tale.1 each.1
  gathers (Tells false (Ended why) ∷ items) runs own noted fits tale each =
      gathers items false own noted (λ is. absurd (false≢true is)) tale.1 each.1

  -- ---- before it joined

  -- the connection was told of no set-up, and the last one is there if one runs
  pub record Silent (runs : Bool) (noted : List Noted) : Type 0 where
    pub none : octets_told noted ≡ []
    pub ends : runs ≡ true → Runs false noted

  left_none : (xs ys : List (List ℕ)) → xs ++ ys ≡ [] → xs ≡ []
  left_none [] ys is = refl
  left_none (x ∷ xs) ys is = absurd (cc)

  silent_runs : (own : Bool) (noted : List Noted) → octets_told noted ≡ [] → Runs false noted → Runs own noted
  silent_runs own noted none r = record {
    others = r.others;
    last = r.last;
    is = r.is;
    mark = inr (
      untold r.mark,
      left_none (octets_told r.others) (octets_told (r.last ∷ []))
          (sym (ap octets_told r.is ∙ told_append r.others (r.last ∷ [])) ∙ none),
    );
  }
    where
      untold : IsMark false r.last.told r.others → r.last.told ≡ false
      untold (inl told) = told
      untold (inr h) = h.0

  pub gathers_since :
      (earlier items : List Item) (runs own : Bool) (noted : List Noted) → Silent runs noted
      → IsTale runs own (earlier ++ items) → Each (FitsItem plan) items
      → heard [] (said items) ≡ octets_told (fold note (fold note noted (map unheard earlier)) items)
  gathers_since [] items runs own noted silent tale each =
      ap (λ gs. heard gs (said items)) (sym silent.none)
      ∙ gathers items runs own noted (λ is. silent_runs own noted silent.none (silent.ends is)) tale each
  gathers_since (Says m ∷ earlier) items runs own noted silent tale each =
      gathers_since earlier items runs own noted silent tale each
  gathers_since (Tells owned (Opened ours) ∷ earlier) items runs own noted silent tale each =
      gathers_since earlier items true owned (noted ++ (record { told = false; got = [] }) ∷ [])
      (record {
        none = told_append noted ((record { told = false; got = [] }) ∷ []) ∙ append-nil (octets_told noted)
            ∙ silent.none;
        ends = λ is. opens false noted;
      }) tale.1 each
  gathers_since (Tells owned (Given packet) ∷ earlier) items runs own noted silent tale each =
      let r = silent.ends tale.0 in
      gathers_since earlier items runs own (grown packet noted)
      (record {
        none = other_grows packet noted r ∙ silent.none;
        ends = λ is. runs_on false packet noted (silent.ends is);
      }) tale.2 each
  gathers_since (Tells owned (Ended why) ∷ earlier) items runs own noted silent tale each =
      gathers_since earlier items false own noted
      (record { none = silent.none; ends = λ is. absurd (false≢true is) }) tale.1 each

  -- from the first set-up on
  pub gathers_all : (earlier items : List Item) → IsTale false false (earlier ++ items) → Each (FitsItem plan) items
      → heard [] (said items) ≡ octets_told (fold note (fold note [] (map unheard earlier)) items)
  gathers_all earlier items tale each =
      gathers_since earlier items false false [] (record { none = refl; ends = λ is. absurd (false≢true is) }) tale each

  -- ---- a first part of what it is told

  -- items whose messages are these
  pub record Front (items : List Item) (messages : List AgwMessage) : Type 0 where
    pub first : List Item
    pub rest : List Item
    pub parts : items ≡ first ++ rest
    pub messages_are : said first ≡ messages

  cons_head : (x y : AgwMessage) (xs ys : List AgwMessage) → x ∷ xs ≡ y ∷ ys → (x ≡ y) × (xs ≡ ys)
  cons_head x y xs ys same = (cc, cc)

  pub front : (items : List Item) (messages rest : List AgwMessage) → said items ≡ messages ++ rest → Front items messages
  front items [] rest is = record { first = []; rest = items; parts = refl; messages_are = refl }
  front [] (m ∷ messages) rest is = absurd (cc)
  front (Says message ∷ items) (m ∷ messages) rest is =
      let same = cons_head message m (said items) (messages ++ rest) is in
      let h = front items messages rest same.1 in
      record {
        first = Says message ∷ h.first;
        rest = h.rest;
        parts = ap (λ xs. Says message ∷ xs) h.parts;
        messages_are = ap (λ ms. message ∷ ms) h.messages_are ∙ ap (λ x. x ∷ messages) same.0;
      }
  front (Tells false told ∷ items) (m ∷ messages) rest is =
      let h = front items (m ∷ messages) rest is in
      record {
        first = Tells false told ∷ h.first;
        rest = h.rest;
        parts = ap (λ xs. Tells false told ∷ xs) h.parts;
        messages_are = h.messages_are;
      }
  front (Tells true told ∷ items) (m ∷ messages) rest is =
      let message = message_of_told plan.own plan.remote told in
      let same = cons_head message m (said items) (messages ++ rest) is in
      let h = front items messages rest same.1 in
      record {
        first = Tells true told ∷ h.first;
        rest = h.rest;
        parts = ap (λ xs. Tells true told ∷ xs) h.parts;
        messages_are = ap (λ ms. message ∷ ms) h.messages_are ∙ ap (λ x. x ∷ messages) same.0;
      }

pub tale_first : (runs own : Bool) (first second : List Item) → IsTale runs own (first ++ second)
    → IsTale runs own first
tale_first runs own [] second h = tt
tale_first runs own (Says message ∷ first) second h = tale_first runs own first second h
tale_first runs own (Tells owned (Opened ours) ∷ first) second h = (h.0, tale_first true owned first second h.1)
tale_first runs own (Tells owned (Given packet) ∷ first) second h = (h.0, h.1, tale_first runs own first second h.2)
tale_first runs own (Tells owned (Ended why) ∷ first) second h = (h.0, tale_first false own first second h.1)

pub fits_first : (plan : CallPlan) (first second : List Item) → Each (FitsItem plan) (first ++ second)
    → Each (FitsItem plan) first
fits_first plan [] second h = tt
fits_first plan (item ∷ first) second h = (h.0, fits_first plan first second h.1)

-- ---- more is told later

-- each set-up got no less
abbrev pub HasGrown : List Noted → List Noted → Type 0
HasGrown [] later = ⊤
HasGrown (q ∷ noted) [] = ⊥
HasGrown (q ∷ noted) (r ∷ later) = IsFirstPart q.got r.got × HasGrown noted later

grown_same : (noted : List Noted) → HasGrown noted noted
grown_same [] = tt
grown_same (q ∷ noted) = (([], sym (append-nil q.got)), grown_same noted)

packets_on : (a b c : List Packet) → IsFirstPart a b → IsFirstPart b c → IsFirstPart a c
packets_on a b c h k = (h.0 ++ k.0, k.1 ∙ ap (λ xs. xs ++ k.0) h.1 ∙ append_assoc a h.0 k.0)

grown_on : (a b c : List Noted) → HasGrown a b → HasGrown b c → HasGrown a c
grown_on [] b c h k = tt
grown_on (q ∷ a) [] c h k = absurd h
grown_on (q ∷ a) (r ∷ b) [] h k = absurd k
grown_on (q ∷ a) (r ∷ b) (s ∷ c) h k = (packets_on q.got r.got s.got h.0 k.0, grown_on a b c h.1 k.1)

grown_more : (noted more : List Noted) → HasGrown noted (noted ++ more)
grown_more [] more = tt
grown_more (q ∷ noted) more = (([], sym (append-nil q.got)), grown_more noted more)

last_has_grown : (packet : Packet) (q : Noted) (rest : List Noted) → HasGrown (q ∷ rest) (last_grown packet q rest)
last_has_grown packet q [] = ((packet ∷ [], refl), tt)
last_has_grown packet q (next ∷ rest) = (([], sym (append-nil q.got)), last_has_grown packet next rest)

grown_packet : (packet : Packet) (noted : List Noted) → HasGrown noted (grown packet noted)
grown_packet packet [] = tt
grown_packet packet (q ∷ rest) = last_has_grown packet q rest

grown_item : (item : Item) (noted : List Noted) → HasGrown noted (note noted item)
grown_item (Tells owned (Opened ours)) noted = grown_more noted ((record { told = owned; got = [] }) ∷ [])
grown_item (Tells owned (Given packet)) noted = grown_packet packet noted
grown_item (Tells owned (Ended why)) noted = grown_same noted
grown_item (Says message) noted = grown_same noted

pub grown_items : (items : List Item) (noted : List Noted) → HasGrown noted (fold note noted items)
grown_items [] noted = grown_same noted
grown_items (item ∷ items) noted =
    grown_on noted (note noted item) (fold note (note noted item) items) (grown_item item noted)
    (grown_items items (note noted item))
