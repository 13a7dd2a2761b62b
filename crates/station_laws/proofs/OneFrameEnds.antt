-- In a piece of 17 octets no more than one frame ends.
use Rattle.station_laws.proofs.Common.{◌≡◌, ℕ, ◌+◌, ◌<◌, ◌≤◌, ◌==◌, ◌&&◌, Bool, true, false, nat_le, nat_lt}
use Rattle.station_laws.proofs.Common.{List, [], ◌∷◌, ◌++◌, length, take, drop, cond, Option, Some, None, refl, sym, ap}
use Rattle.station_laws.proofs.Common.{◌∙◌, subst, arith, ⊤, append_assoc, length-append, KissItem, has_frame_length}
use Rattle.std.specs.Prelude.{zero, suc, ◌/◌, ◌%◌, count_by}
use Rattle.std.specs.List.{flat_map, AllByRecursion as Each}
use Rattle.std.specs.Option.{option_to_list}
use Rattle.std.proofs.Math.ListN.{drop_of_length-le}
use Rattle.std.proofs.Math.Seq.{drop-append_seam}
use Rattle.std.proofs.Common.{inl, inr}
use Rattle.std.proofs.lemmas.Bool.{cases_lt, lt-leb}
use Rattle.std.proofs.lemmas.Grind.{flat_map-append}
use Rattle.std.proofs.lemmas.List.{length-drop, length-take-le, take-append-drop}
use Rattle.std.proofs.lemmas.List.Concat.{flat_map-cons}
use Rattle.std.proofs.lemmas.List.Sums.{sum_by-append, sum_by-cons}
use Rattle.agwpe_port.proofs.ReadingLemmas.{reading_bad, reading_open, reading_short, reading_whole}
use Rattle.agwpe_port.specs.Messages.{Reading, messages_in, told_length}
use Rattle.kiss_port.proofs.WebLemmas.{kiss_items, no_web_before, web_items}
use Rattle.kiss_port.specs.Escapes.{fend, fesc, tfend, tfesc, meant, unescaped}
use Rattle.kiss_port.specs.Items.{ack_command, ack_frame, by_command, item_by_type, item_of, items_in, most_octets, setting}
use Rattle.kiss_port.specs.Pieces.{onto_first, pieces}
use Rattle.kiss_port.specs.WebRequests.{host_items, is_web_request}
use Rattle.kiss_port.specs.declared.item.KissItem.TheVariants.{Frame, AckFrame, Set, Hardware, Return, TooLong, Other}
use Rattle.station.specs.Host.{new_items}
use Rattle.station_laws.specs.OneFrameEnds.{OneFrameEnds, is_raw}

-- ---- a short piece is no frame

few_meant : (octet : ℕ) → length (meant octet) ≤ 1
few_meant octet = go (octet == tfend) (octet == tfesc)
  where
    go : (a b : Bool) → length (cond a (fend ∷ []) (cond b (fesc ∷ []) [])) ≤ 1
    go true b = omega arith
    go false true = omega arith
    go false false = omega arith

unescaped_fewer : (octets : List ℕ) → length (unescaped octets) ≤ length octets
unescaped_fewer [] = omega arith
unescaped_fewer (octet ∷ []) = go (octet == fesc)
  where
    go : (b : Bool) → length (cond b [] (octet ∷ [])) ≤ 1
    go true = omega arith
    go false = omega arith
unescaped_fewer (octet ∷ next ∷ octets) =
    go (octet == fesc) (unescaped_fewer octets) (unescaped_fewer (next ∷ octets))
  where
    go : (b : Bool) → length (unescaped octets) ≤ length octets
        → length (unescaped (next ∷ octets)) ≤ length (next ∷ octets)
        → length (cond b (meant next ++ unescaped octets) (octet ∷ unescaped (next ∷ octets)))
        ≤ length (octet ∷ next ∷ octets)
    go true c d =
        let a = length-append (meant next) (unescaped octets) in
        let b = few_meant next in
        omega arith
    go false c d = omega arith

short_is_none : (octets : List ℕ) → length octets < 15 → has_frame_length octets ≡ false
short_is_none octets short =
    ap (λ b. b && nat_le (length octets) 1024) (lt-leb 15 (length octets) short)

short_type : (kind : ℕ) (octets : List ℕ) → length octets < 15 → is_raw (item_by_type kind octets) ≡ false
short_type kind octets short = by_length (nat_lt (most_octets kind) (length octets)) (kind == 255)
  where
    set : (a : Bool) (value : ℕ) → is_raw (cond a (Set (kind / 16) (kind % 16) value) (Other (kind / 16) (kind % 16))) ≡ false
    set true value = refl
    set false value = refl

    settled : (os : List ℕ) → is_raw (setting (kind / 16) (kind % 16) os) ≡ false
    settled [] = refl
    settled (value ∷ os) = set (nat_le 1 (kind % 16) && nat_le (kind % 16) 5) value

    acked : (os : List ℕ) → length os < 15 → is_raw (ack_frame (kind / 16) os) ≡ false
    acked [] few = refl
    acked (first ∷ []) few = refl
    acked (first ∷ second ∷ os) few = short_is_none os (omega arith)

    by_kind : (a b c : Bool) → is_raw (cond a (Frame (kind / 16) octets) (cond b (Hardware (kind / 16) octets)
        (cond c (ack_frame (kind / 16) octets) (setting (kind / 16) (kind % 16) octets)))) ≡ false
    by_kind true b c = short_is_none octets short
    by_kind false true c = refl
    by_kind false false true = acked octets short
    by_kind false false false = settled octets

    by_length : (a b : Bool) → is_raw (cond a (TooLong (kind / 16)) (cond b Return
        (by_command (kind / 16) (kind % 16) octets))) ≡ false
    by_length true b = refl
    by_length false true = refl
    by_length false false = by_kind (kind % 16 == 0) (kind % 16 == 6) (kind % 16 == ack_command)

abbrev said : List ℕ → List KissItem
said piece = option_to_list (item_of (unescaped piece))

abbrev pub raw_in : List KissItem → ℕ
raw_in items = count_by is_raw items

one_raw : (item : Option KissItem) → raw_in (option_to_list item) ≤ 1
one_raw None = omega arith
one_raw (Some item) =
    let is = sum_by-cons (λ (one : KissItem). cond (is_raw one) 1 0) item [] in
    let few = most (is_raw item) in
    omega arith
  where
    most : (b : Bool) → cond b 1 0 ≤ 1
    most true = omega arith
    most false = omega arith

short_says_none : (piece : List ℕ) → length piece ≤ 15 → raw_in (said piece) ≡ 0
short_says_none piece short = go (unescaped piece) (unescaped_fewer piece)
  where
    go : (octets : List ℕ) → length octets ≤ length piece → raw_in (option_to_list (item_of octets)) ≡ 0
    go [] fewer = refl
    go (kind ∷ octets) fewer =
        let is = sum_by-cons (λ (one : KissItem). cond (is_raw one) 1 0) (item_by_type kind octets) [] in
        let none : ◌≡◌ {A = ℕ} (cond (is_raw (item_by_type kind octets)) 1 0) 0 =
        ap (λ (b : Bool). cond b 1 0) (short_type kind octets (omega arith)) in
        omega (arith, is, none)

-- ---- the pieces that end

-- past the first one they are short
abbrev AreShortPast : ℕ → List (List ℕ) → Type 0
AreShortPast count [] = ⊤
AreShortPast count (piece ∷ others) = Each (λ other. length other + 2 ≤ count) others

longer : (m n : ℕ) → m ≤ n → (others : List (List ℕ)) → Each (λ other. length other + 2 ≤ m) others
    → Each (λ other. length other + 2 ≤ n) others
longer m n le [] each = tt
longer m n le (other ∷ others) each = (let a = each.0 in omega arith, longer m n le others each.1)

-- each is shorter than the stream
all_short : (stream : List ℕ) → Each (λ piece. length piece + 1 ≤ length stream) (pieces stream)
all_short [] = tt
all_short (octet ∷ stream) = go (octet == fend) (all_short stream)
  where
    weaker : (some : List (List ℕ)) → Each (λ piece. length piece + 1 ≤ length stream) some
        → Each (λ piece. length piece + 1 ≤ length (octet ∷ stream)) some
    weaker [] each = tt
    weaker (piece ∷ some) each = (let a = each.0 in omega arith, weaker some each.1)

    onto : (some : List (List ℕ)) → Each (λ piece. length piece + 1 ≤ length stream) some
        → Each (λ piece. length piece + 1 ≤ length (octet ∷ stream)) (onto_first octet some)
    onto [] each = tt
    onto (piece ∷ some) each = (let a = each.0 in omega arith, weaker some each.1)

    go : (b : Bool) → Each (λ piece. length piece + 1 ≤ length stream) (pieces stream)
        → Each (λ piece. length piece + 1 ≤ length (octet ∷ stream))
        (cond b ([] ∷ pieces stream) (onto_first octet (pieces stream)))
    go true each = (omega arith, weaker (pieces stream) each)
    go false each = onto (pieces stream) each

later_short : (stream : List ℕ) → AreShortPast (length stream) (pieces stream)
later_short [] = tt
later_short (octet ∷ stream) = go (octet == fend) (later_short stream)
  where
    ended : (some : List (List ℕ)) → Each (λ piece. length piece + 1 ≤ length stream) some
        → Each (λ piece. length piece + 2 ≤ length (octet ∷ stream)) some
    ended [] each = tt
    ended (piece ∷ some) each = (let a = each.0 in omega arith, ended some each.1)

    onto : (some : List (List ℕ)) → AreShortPast (length stream) some
        → AreShortPast (length (octet ∷ stream)) (onto_first octet some)
    onto [] each = tt
    onto (piece ∷ others) each = longer (length stream) (length (octet ∷ stream)) (omega arith) others each

    go : (b : Bool) → AreShortPast (length stream) (pieces stream) → AreShortPast (length (octet ∷ stream))
        (cond b ([] ∷ pieces stream) (onto_first octet (pieces stream)))
    go true short = ended (pieces stream) (all_short stream)
    go false short = onto (pieces stream) short

-- the same but for the first ones
abbrev AreSamePast : List (List ℕ) → List (List ℕ) → Type 0
AreSamePast [] [] = ⊤
AreSamePast [] (y ∷ ys) = ⊥
AreSamePast (x ∷ xs) [] = ⊥
AreSamePast (x ∷ xs) (y ∷ ys) = xs ≡ ys

-- what ends in octets past a stream
record Cut (stream octets : List ℕ) : Type 0 where
  more : List (List ℕ)
  parts : pieces (stream ++ octets) ≡ pieces stream ++ more
  same : AreSamePast more (pieces octets)

same_self : (some : List (List ℕ)) → AreSamePast some some
same_self [] = tt
same_self (x ∷ xs) = refl

onto_both : (octet : ℕ) (some more ending : List (List ℕ)) → AreSamePast more ending
    → (later : List (List ℕ)) × (onto_first octet (some ++ more) ≡ onto_first octet some ++ later)
    × AreSamePast later ending
onto_both octet (piece ∷ some) more ending same = (more, refl, same)
onto_both octet [] [] [] same = ([], refl, tt)
onto_both octet [] [] (y ∷ ys) same = absurd same
onto_both octet [] (x ∷ xs) [] same = absurd same
onto_both octet [] (x ∷ xs) (y ∷ ys) same = ((octet ∷ x) ∷ xs, refl, same)

cut : (stream octets : List ℕ) → Cut stream octets
cut [] octets = record { more = pieces octets; parts = refl; same = same_self (pieces octets) }
cut (octet ∷ stream) octets =
    let found = go (octet == fend) (cut stream octets) in
    record { more = found.0; parts = found.1; same = found.2 }
  where
    go : (b : Bool) → Cut stream octets → (more : List (List ℕ))
        × (cond b ([] ∷ pieces (stream ++ octets)) (onto_first octet (pieces (stream ++ octets)))
        ≡ cond b ([] ∷ pieces stream) (onto_first octet (pieces stream)) ++ more)
        × AreSamePast more (pieces octets)
    go true rest = (rest.more, ap (λ some. [] ∷ some) rest.parts, rest.same)
    go false rest =
        let both = onto_both octet (pieces stream) rest.more (pieces octets) rest.same in
        (both.0, ap (onto_first octet) rest.parts ∙ both.1, both.2)

-- ---- KISS

none_later : (others : List (List ℕ)) → Each (λ other. length other + 2 ≤ 17) others
    → raw_in (flat_map said others) ≡ 0
none_later [] each = refl
none_later (other ∷ others) each =
    let parts = ap raw_in (flat_map-cons said other others)
    ∙ sum_by-append (λ item. cond (is_raw item) 1 0) (said other) (flat_map said others) in
    let here = short_says_none other (let a = each.0 in omega arith) in
    let rest = none_later others each.1 in
    omega arith

one_ends : (more ending : List (List ℕ)) → AreSamePast more ending
    → (count : ℕ) → count ≤ 17 → AreShortPast count ending → raw_in (flat_map said more) ≤ 1
one_ends [] ending same count few short = omega arith
one_ends (x ∷ xs) [] same count few short = absurd same
one_ends (x ∷ xs) (y ∷ ys) same count few short =
    let parts = ap raw_in (flat_map-cons said x xs)
    ∙ sum_by-append (λ item. cond (is_raw item) 1 0) (said x) (flat_map said xs) in
    let first = one_raw (item_of (unescaped x)) in
    let others = none_later xs (subst (Each (λ other. length other + 2 ≤ 17)) (sym same) (longer count 17 few ys short)) in
    omega arith

items_more : (stream octets : List ℕ) → items_in (stream ++ octets)
    ≡ items_in stream ++ flat_map said (cut stream octets).more
unfolding items_in
items_more stream octets =
    ap (flat_map said) (cut stream octets).parts ∙ flat_map-append said (pieces stream) (cut stream octets).more

pub kiss_ends_one : (stream octets : List ℕ) → length octets ≤ 17 → raw_in (new_items stream octets) ≤ 1
kiss_ends_one stream octets few = go (is_web_request (stream ++ octets)) refl
  where
    found : List KissItem
    found = flat_map said (cut stream octets).more

    one : raw_in found ≤ 1
    one = one_ends (cut stream octets).more (pieces octets) (cut stream octets).same (length octets) few
        (later_short octets)

    go : (b : Bool) → is_web_request (stream ++ octets) ≡ b → raw_in (new_items stream octets) ≤ 1
    go true web =
        let none : new_items stream octets ≡ [] =
        ap (drop (length (host_items stream))) (web_items (stream ++ octets) web)
        ∙ drop_of_length-le [] (omega arith) in
        subst (λ items. raw_in items ≤ 1) (sym none) (omega arith)
    go false kiss =
        let is : new_items stream octets ≡ found =
        ap (λ items. drop (length items) (host_items (stream ++ octets)))
        (kiss_items stream (no_web_before stream octets kiss))
        ∙ ap (drop (length (items_in stream))) (kiss_items (stream ++ octets) kiss ∙ items_more stream octets)
        ∙ drop-append_seam (items_in stream) found in
        subst (λ items. raw_in items ≤ 1) (sym is) one

-- ---- AGWPE

-- fewer octets than a header are no message
none_short : (stream : List ℕ) → length stream < 36 → length (messages_in stream) ≡ 0
none_short stream short = ap (λ (r : Reading). length r.messages) (reading_short stream short)

-- the messages of a header, a body and what stands after it
count_whole : (header body more : List ℕ) → length header ≡ 36 → told_length header ≤ 4096
    → length body ≡ told_length header
    → length (messages_in (header ++ (body ++ more))) ≡ length (messages_in more) + 1
count_whole header body more size fits whole =
    let is = ap (λ (r : Reading). length r.messages) (reading_whole header body more size fits whole) in
    omega (arith, is)

count_open : (header body : List ℕ) → length header ≡ 36 → told_length header ≤ 4096
    → length body < told_length header → length (messages_in (header ++ body)) ≡ 0
count_open header body size fits short =
    ap (λ (r : Reading). length r.messages) (reading_open header body size fits short)

count_bad : (header following : List ℕ) → length header ≡ 36 → 4096 < told_length header
    → length (messages_in (header ++ following)) ≡ 0
count_bad header following size long = ap (λ (r : Reading). length r.messages) (reading_bad header following size long)

-- a header, what stands after it, and octets more
record Following (header following octets : List ℕ) : Type 0 where
  one : length (messages_in (header ++ (following ++ octets))) ≤ length (messages_in (header ++ following)) + 1

after_one :
    (header following octets : List ℕ) → length header ≡ 36 → length octets ≤ 17
    → ((more : List ℕ) → length more ≤ length following
    → length (messages_in (more ++ octets)) ≤ length (messages_in more) + 1)
    → Following header following octets
after_one header following octets size few rest = elim (cases_lt 4096 told) [
  | inl long ↦ record { one = let a = count_bad header (following ++ octets) size long in omega arith }
  | inr fits ↦ elim (cases_lt (length following) told) [
    | inl lacks ↦ elim (cases_lt (length (following ++ octets)) told) [
      | inl short ↦ record { one = let a = count_open header (following ++ octets) size fits short in omega arith }
      | inr whole ↦ record {
        one =
            let body = take told (following ++ octets) in
            let more = drop told (following ++ octets) in
            let a = count_whole header body more size fits (length-take-le told (following ++ octets) whole) in
            let b = none_short more
            (omega (arith, length-drop told (following ++ octets), length-append following octets)) in
            let c : length (messages_in (header ++ (body ++ more)))
            ≡ length (messages_in (header ++ (following ++ octets))) =
            ap (λ xs. length (messages_in (header ++ xs))) (take-append-drop told (following ++ octets)) in
            omega arith;
      }
    ]
    | inr whole ↦ record {
      one =
          let body = take told following in
          let more = drop told following in
          let size_of = length-take-le told following whole in
          let a = count_whole header body more size fits size_of in
          let b = count_whole header body (more ++ octets) size fits size_of in
          let c : length (messages_in (header ++ (body ++ more))) ≡ length (messages_in (header ++ following)) =
          ap (λ xs. length (messages_in (header ++ xs))) (take-append-drop told following) in
          let d : length (messages_in (header ++ (body ++ (more ++ octets))))
          ≡ length (messages_in (header ++ (following ++ octets))) =
          ap (λ xs. length (messages_in (header ++ xs)))
          (sym (append_assoc body more octets) ∙ ap (λ xs. xs ++ octets) (take-append-drop told following)) in
          let e = rest more (omega (arith, length-drop told following)) in
          omega arith;
    }
  ]
]
  where
    told : ℕ
    told = told_length header

-- a stream that is shorter than two headers
short_one : (stream : List ℕ) → length stream < 72 → length (messages_in stream) ≤ 1
short_one stream short = elim (cases_lt (length stream) 36) [
  | inl none ↦ let a = none_short stream none in omega arith
  | inr some ↦ subst (λ xs. length (messages_in xs) ≤ 1) (take-append-drop 36 stream) (by_told some)
]
  where
    header : List ℕ
    header = take 36 stream

    following : List ℕ
    following = drop 36 stream

    told : ℕ
    told = told_length header

    by_told : 36 ≤ length stream → length (messages_in (header ++ following)) ≤ 1
    by_told some =
        let size : length header ≡ 36 = length-take-le 36 stream some in
        elim (cases_lt 4096 told) [
          | inl long ↦ let a = count_bad header following size long in omega arith
          | inr fits ↦ elim (cases_lt (length following) told) [
            | inl lacks ↦ let a = count_open header following size fits lacks in omega arith
            | inr whole ↦
                let a = count_whole header (take told following) (drop told following) size fits
                (length-take-le told following whole) in
                let b = none_short (drop told following)
                (omega (arith, length-drop told following, length-drop 36 stream)) in
                let c : length (messages_in (header ++ (take told following ++ drop told following)))
                ≡ length (messages_in (header ++ following)) =
                ap (λ xs. length (messages_in (header ++ xs))) (take-append-drop told following) in
                omega arith
          ]
        ]

agw_more : (most : ℕ) (stream octets : List ℕ) → length stream ≤ most → length octets ≤ 17
    → length (messages_in (stream ++ octets)) ≤ length (messages_in stream) + 1
agw_more zero stream octets fits few =
    let a = short_one (stream ++ octets) (omega (arith, length-append stream octets)) in omega arith
agw_more (suc most) stream octets fits few = elim (cases_lt (length stream) 36) [
  | inl short ↦ let a = short_one (stream ++ octets) (omega (arith, length-append stream octets)) in omega arith
  | inr long ↦
      let header = take 36 stream in
      let following = drop 36 stream in
      let h = after_one header following octets (length-take-le 36 stream long) few
      (λ more le. agw_more most more octets (omega (arith, length-drop 36 stream)) few) in
      let parts : header ++ following ≡ stream = take-append-drop 36 stream in
      let one = h.one in
      let a : length (messages_in (header ++ following)) ≡ length (messages_in stream) =
      ap (λ xs. length (messages_in xs)) parts in
      let b : length (messages_in (header ++ (following ++ octets))) ≡ length (messages_in (stream ++ octets)) =
      ap (λ xs. length (messages_in xs)) (sym (append_assoc header following octets) ∙ ap (λ xs. xs ++ octets) parts) in
      omega arith
]

pub one_frame_ends : OneFrameEnds
one_frame_ends stream octets few = record {
  kiss = kiss_ends_one stream octets few;
  agw =
      let a = agw_more (length stream) stream octets (omega arith) few in
      let b = length-drop (length (messages_in stream)) (messages_in (stream ++ octets)) in
      omega arith;
}
