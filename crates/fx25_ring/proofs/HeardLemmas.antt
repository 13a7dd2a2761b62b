-- What is heard of a stretch, by the eight lanes or by all: there is one list of it, within the samples, and of frames.
use Rattle.fx25_ring.proofs.Common.{◌≡◌, ℕ, ◌<◌, ◌≤◌, Bool, true, false, ℤ, List, [], ◌∷◌, ◌++◌, length, map, refl, ap, sym, subst}
use Rattle.fx25_ring.proofs.Common.{◌∙◌, inl, inr, get_or, append-nil, All, All-head, All-map, All-tail, Got, Candidate}
use Rattle.fx25_ring.proofs.Common.{HeardItem, HeldEight, HeldAll, HasFrameLength, Stretch, placed, AreHeardInOne, AreMergedBy}
use Rattle.fx25_ring.proofs.Common.{AreDueInBlocks, AreHeardInBlocks, AreSettledInOne, settled_of, Tells, AreDueBy}
use Rattle.fx25_ring.proofs.Common.{AreSettledIn, Option, None, Some, is_some}
use Rattle.fx25_ring.proofs.Common.{last_stretch, stretches, ended_stretches}
use Rattle.std.specs.Prelude.{filter, if◌then◌else◌, nat_lt}
use Rattle.std.proofs.lemmas.Bool.{le-ltb, lt-ltb}
use Rattle.std.proofs.lemmas.List.{append_cancel_left}
use Rattle.std.proofs.lemmas.List.Elements.{All-filter, All-weaker, filter-append}
use Rattle.hdlc_framer.specs.Frames.{IsFrame}
use Rattle.fx25_receiver.specs.Heard.{IsHeard as IsHeardByEight}
use Rattle.fx25_receiver.proofs.MergedLists.{All-merged, merged_within as within_eight, none_merged as none_of_eight}
use Rattle.fx25_receiver.proofs.MergedLists.{one_merged as one_of_eight, some_merged as some_of_eight}
use Rattle.sensitive_blocks.specs.Heard.{IsHeard as IsHeardByAll, settled}
use Rattle.sensitive_blocks.proofs.MergedLists.{given_begins, merged_within as within_all, none_merged as none_of_all}
use Rattle.sensitive_blocks.proofs.MergedLists.{one_merged as one_of_all, some_merged as some_of_all}
pub use Rattle.stretch_reader.proofs.HeardLemmas.{all_right}
use Rattle.stretch_reader.proofs.HeardLemmas.{due_each, heard_all, one_heard, some_heard}

-- ---- of samples

pub none_merged : (sensitive : Bool) → AreMergedBy sensitive [] []
none_merged false = none_of_eight
none_merged true = none_of_all

some_merged : (sensitive : Bool) (x : List ℤ) → (own : List HeardItem) × AreMergedBy sensitive x own
some_merged false x = some_of_eight x
some_merged true x = some_of_all x

one_merged : (sensitive : Bool) (x : List ℤ) (items others : List HeardItem) → AreMergedBy sensitive x items
    → AreMergedBy sensitive x others → items ≡ others
one_merged false x items others h k = one_of_eight x items others h k
one_merged true x items others h k = one_of_all x items others h k

pub merged_within : (sensitive : Bool) (x : List ℤ) (items : List HeardItem) → AreMergedBy sensitive x items
    → All (λ item. item.end ≤ length x) items
merged_within false x items h = within_eight x items h
merged_within true x items h = within_all x items h

eight_frame : (x : List ℤ) (item : HeardItem) → IsHeardByEight x item → IsFrame item.octets
eight_frame x item h = elim h.ends.ends [
  | inl plain ↦ plain.2.2
  | inr block ↦ block.1.reads.carries.opens.is_frame
]

all_frame : (x : List ℤ) (item : HeardItem) → IsHeardByAll x item → IsFrame item.octets
all_frame x item h = elim h.ends [
  | inl plain ↦ plain.frame.2
  | inr block ↦ block.block.reads.carries.opens.is_frame
]

merged_frames : (sensitive : Bool) (x : List ℤ) (items : List HeardItem) → AreMergedBy sensitive x items
    → All (λ item. IsFrame item.octets) items
merged_frames false x items h =
    let P : HeardItem → Type 0 = λ item. IsFrame item.octets in
    subst (All P) (sym h.is)
    (All-merged P [] h.heard (All-weaker (IsHeardByEight x) P (eight_frame x) h.heard h.are.each))
merged_frames true x items h =
    let P : HeardItem → Type 0 = λ item. IsFrame item.octets in
    subst (All P) (sym h.is)
    (All-merged P [] h.heard (All-weaker (IsHeardByAll x) P (all_frame x) h.heard h.are.each))

-- ---- of what is settled

-- what passes a test is the front of a list
filter-all : {X : Type 0} (p : X → Bool) (xs : List X) → All (λ x. p x ≡ true) xs → filter p xs ≡ xs
filter-all p [] h = refl
filter-all p (x ∷ xs) h =
    ap (λ b. if b then x ∷ filter p xs else filter p xs) (All-head (λ y. p y ≡ true) x xs h)
    ∙ ap (λ l. x ∷ l) (filter-all p xs (All-tail (λ y. p y ≡ true) x xs h))

filter-none : {X : Type 0} (p : X → Bool) (xs : List X) → All (λ x. p x ≡ false) xs → filter p xs ≡ []
filter-none p [] h = refl
filter-none p (x ∷ xs) h =
    ap (λ b. if b then x ∷ filter p xs else filter p xs) (All-head (λ y. p y ≡ false) x xs h)
    ∙ filter-none p xs (All-tail (λ y. p y ≡ false) x xs h)

front_kept : (end : ℕ) (own more : List HeardItem) → All (λ item. item.end < end) own → All (λ item. end ≤ item.end) more
    → filter (λ item. nat_lt item.end end) (own ++ more) ≡ own
front_kept end own more early late =
    let p : HeardItem → Bool = λ item. nat_lt item.end end in
    filter-append p own more
    ∙ ap (λ l. l ++ filter p more) (filter-all p own (λ k d l. below (get_or own k d) (early k d l)))
    ∙ ap (λ l. own ++ l) (filter-none p more (λ k d l. above (get_or more k d) (late k d l)))
    ∙ append-nil own
  where
    below : (item : HeardItem) → item.end < end → nat_lt item.end end ≡ true
    below item h = lt-ltb item.end end h

    above : (item : HeardItem) → end ≤ item.end → nat_lt item.end end ≡ false
    above item h = le-ltb item.end end h

-- what lanes gave is what is settled of what they hear
pub tells_settled : (eight : HeldEight) (all : Option HeldAll) (x : List ℤ) (own : List HeardItem) → Tells eight all x own
    → (whole : List HeardItem) × AreMergedBy (is_some all) x whole × (own ≡ settled_of (is_some all) x whole)
tells_settled eight None x own h = (
  own,
  record { heard = h.taken.has_heard.heard; are = h.taken.has_heard.are; is = h.taken.has_heard.given_is },
  refl,
)
tells_settled eight (Some all) x own h =
    let whole = some_of_all x in
    let begins = given_begins all x own whole.0 h whole.1 in (
      whole.0,
      whole.1,
      sym (ap (filter (λ item. nat_lt item.end (settled (length x)))) begins.is
          ∙ front_kept (settled (length x)) own begins.more begins.early begins.late),
    )

settled_all : (P : HeardItem → Type 0) (sensitive : Bool) (x : List ℤ) (items : List HeardItem) → All P items
    → All P (settled_of sensitive x items)
settled_all P false x items h = h
settled_all P true x items h = All-filter (λ item. nat_lt item.end (settled (length x))) P items h

pub tells_within : (eight : HeldEight) (all : Option HeldAll) (x : List ℤ) (own : List HeardItem) → Tells eight all x own
    → All (λ item. item.end ≤ length x) own
tells_within eight all x own h =
    let whole = tells_settled eight all x own h in
    subst (All (λ item. item.end ≤ length x)) (sym whole.2)
    (settled_all (λ item. item.end ≤ length x) (is_some all) x whole.0 (merged_within (is_some all) x whole.0 whole.1))

-- ---- of a stretch

one_in_one : (sensitive : Bool) (s : Stretch) (items others : List Candidate) → AreHeardInOne sensitive s items
    → AreHeardInOne sensitive s others → items ≡ others
one_in_one sensitive s items others h k =
    h.2 ∙ ap (map (placed s.begin)) (one_merged sensitive s.samples h.0 k.0 h.1 k.1) ∙ sym k.2

one_settled : (sensitive : Bool) (s : Stretch) (items others : List Candidate) → AreSettledInOne sensitive s items
    → AreSettledInOne sensitive s others → items ≡ others
one_settled sensitive s items others h k =
    h.2 ∙ ap (λ l. map (placed s.begin) (settled_of sensitive s.samples l)) (one_merged sensitive s.samples h.0 k.0 h.1 k.1)
    ∙ sym k.2

-- ---- of answers

pub some_in_answers : (sensitive : Bool) (answers : List Got)
    → (items : List Candidate) × AreHeardInBlocks sensitive answers items
some_in_answers sensitive answers =
    some_heard (AreHeardInOne sensitive)
    (λ (s : Stretch). let own = some_merged sensitive s.samples in (map (placed s.begin) own.0, (own.0, own.1, refl)))
    (stretches answers)

pub one_in_answers : (sensitive : Bool) (answers : List Got) (items others : List Candidate)
    → AreHeardInBlocks sensitive answers items → AreHeardInBlocks sensitive answers others → items ≡ others
one_in_answers sensitive answers =
    one_heard (AreHeardInOne sensitive) (one_in_one sensitive) (stretches answers)

one_by_answers : (sensitive : Bool) (answers : List Got) (items others : List Candidate)
    → AreSettledIn (AreHeardInOne sensitive) (AreSettledInOne sensitive) answers items
    → AreSettledIn (AreHeardInOne sensitive) (AreSettledInOne sensitive) answers others → items ≡ others
one_by_answers sensitive answers items others h k =
    h.are
    ∙ ap (λ l. l ++ h.own)
    (one_heard (AreHeardInOne sensitive) (one_in_one sensitive) (ended_stretches answers) h.earlier k.earlier h.ended k.ended)
    ∙ ap (λ l. k.earlier ++ l) (one_settled sensitive (last_stretch answers) h.own k.own h.settled k.settled) ∙ sym k.are

one_by_now : (sensitive ended : Bool) (answers : List Got) (items others : List Candidate)
    → AreDueBy (AreHeardInOne sensitive) (AreSettledInOne sensitive) ended answers items
    → AreDueBy (AreHeardInOne sensitive) (AreSettledInOne sensitive) ended answers others → items ≡ others
one_by_now sensitive false answers items others h k = one_by_answers sensitive answers items others h k
one_by_now sensitive true answers items others h k = one_in_answers sensitive answers items others h k

pub one_due : (sensitive ended : Bool) (before now : List Got) (items others : List Candidate)
    → AreDueInBlocks sensitive ended before now items → AreDueInBlocks sensitive ended before now others
    → items ≡ others
one_due sensitive ended before now items others h k =
    let same = one_by_answers sensitive before h.given k.given h.were k.were in
    append_cancel_left k.given items others
    (ap (λ l. l ++ items) (sym same)
    ∙ one_by_now sensitive ended now (h.given ++ items) (k.given ++ others) h.are k.are)

-- what the eight lanes hear is due at once
at_once : (answers : List Got) (items : List Candidate)
    → AreSettledIn (AreHeardInOne false) (AreSettledInOne false) answers items → AreHeardInBlocks false answers items
at_once answers items h =
    subst (AreHeardInBlocks false answers) (sym h.are)
    (heard_all (AreHeardInOne false) answers h.earlier h.own h.ended h.settled)

pub due_at_once : (before now : List Got) (items all : List Candidate) → AreDueInBlocks false false before now items
    → AreHeardInBlocks false before all → AreHeardInBlocks false now (all ++ items)
due_at_once before now items all h k =
    let same = one_in_answers false before h.given all (at_once before h.given h.were) k in
    subst (λ l. AreHeardInBlocks false now (l ++ items)) same (at_once now (h.given ++ items) h.are)

-- ---- what is due is a frame

module _ (P : Candidate → Type 0) (frames : (item : Candidate) → IsFrame item.octets → P item) (sensitive : Bool) where
  own_each : (s : Stretch) (own : List HeardItem) → All (λ item. IsFrame item.octets) own
      → All P (map (placed s.begin) own)
  own_each s own h =
      All-map P (placed s.begin) own (λ k d l. frames (placed s.begin (get_or own k d)) (h k d l))

  heard_frames : (s : Stretch) (items : List Candidate) → AreHeardInOne sensitive s items → All P items
  heard_frames s items h =
      subst (All P) (sym h.2) (own_each s h.0 (merged_frames sensitive s.samples h.0 h.1))

  settled_frames : (s : Stretch) (items : List Candidate) → AreSettledInOne sensitive s items → All P items
  settled_frames s items h =
      subst (All P) (sym h.2)
      (own_each s (settled_of sensitive s.samples h.0)
      (settled_all (λ item. IsFrame item.octets) sensitive s.samples h.0 (merged_frames sensitive s.samples h.0 h.1)))

  pub due_frames : (ended : Bool) (before now : List Got) (items : List Candidate)
      → AreDueInBlocks sensitive ended before now items → All P items
  due_frames ended before now items h =
      due_each (AreHeardInOne sensitive) (AreSettledInOne sensitive) P heard_frames settled_frames ended before now items h

pub due_lengths : (sensitive ended : Bool) (before now : List Got) (items : List Candidate)
    → AreDueInBlocks sensitive ended before now items → All (λ item. HasFrameLength item.octets) items
due_lengths = due_frames (λ item. HasFrameLength item.octets)
    (λ item frame. record { least = frame.least; most = frame.most })
