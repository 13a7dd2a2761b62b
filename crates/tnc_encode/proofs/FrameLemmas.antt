-- Frames of an input have the length of a frame.
use Rattle.tnc_encode.proofs.Common.{◌≡◌, ℕ, ◌+◌, ◌<◌, ◌≤◌, ◌==◌, Bool, true, false, List, [], ◌∷◌, ◌++◌, length, take}
use Rattle.tnc_encode.proofs.Common.{get_or, ap, ◌∙◌, All, IfSome, Option, Some, None, inl, inr, refl, sym, arith}
use Rattle.tnc_encode.proofs.Common.{if◌then◌else◌, filter_map, option_to_list, take_more, filter_map-append, KissItem}
use Rattle.tnc_encode.proofs.Common.{items_in, FrameForm, Hex, Kiss, frame_of, frames_of_input, kiss_frames}
use Rattle.std.proofs.Common.{nat_le, ◌&&◌}
use Rattle.std.specs.List.{cons_option}
use Rattle.std.proofs.lemmas.Bool.{and_parts, leb-true}
use Rattle.std.proofs.lemmas.List.Elements.{All-cons, All-nil}
use Rattle.kiss_port.specs.declared.item.KissItem.TheVariants.{Frame, AckFrame, Set, Hardware, Return, TooLong}
use Rattle.kiss_port.specs.declared.item.KissItem.TheVariants.{Other}
use Rattle.hdlc_framer.specs.FrameLength.{IsBadLength}
use Rattle.tnc_forms.proofs.HexFrameLemmas.{frames_in_lines-good}

abbrev pub IsSendable : List ℕ → Type 0
IsSendable octets = ¬ IsBadLength octets

sendable : (octets : List ℕ) → 15 ≤ length octets → length octets ≤ 1024 → IsSendable octets
sendable octets enough most = λ bad. elim bad [ inl few ↦ absurd (omega arith) | inr more ↦ absurd (omega arith) ]

-- the frame of an item has the length of one
pub item_sendable : (item : KissItem) → IfSome (frame_of item) IsSendable
item_sendable (Frame port octets) = go ((port == 0) && (nat_le 15 (length octets) && nat_le (length octets) 1024)) refl
  where
    go : (test : Bool) → (port == 0) && (nat_le 15 (length octets) && nat_le (length octets) 1024) ≡ test
        → IfSome (if test then Some octets else None) IsSendable
    go true is =
        let outer = and_parts (port == 0) (nat_le 15 (length octets) && nat_le (length octets) 1024) is in
        let sizes = and_parts (nat_le 15 (length octets)) (nat_le (length octets) 1024) outer.1 in
        sendable octets (leb-true _ _ sizes.0) (leb-true _ _ sizes.1)
    go false is = tt
item_sendable (AckFrame port mark octets) = tt
item_sendable (Set port command value) = tt
item_sendable (Hardware port octets) = tt
item_sendable Return = tt
item_sendable (TooLong port) = tt
item_sendable (Other port command) = tt

with_option : (frame : Option (List ℕ)) (frames : List (List ℕ)) → IfSome frame IsSendable → All IsSendable frames
    → All IsSendable (cons_option frame frames)
with_option None frames h each = each
with_option (Some octets) frames h each = All-cons IsSendable octets frames h each

items_sendable : (items : List KissItem) → All IsSendable (filter_map frame_of items)
items_sendable [] = All-nil IsSendable
items_sendable (item ∷ items) = with_option (frame_of item) (filter_map frame_of items) (item_sendable item)
    (items_sendable items)

-- each frame of an input can be sent
pub frames_of_input-sendable : (form : FrameForm) (octets : List ℕ) → All IsSendable (frames_of_input form octets)
unfolding kiss_frames
frames_of_input-sendable Hex octets = λ k d below. let good = frames_in_lines-good 15 octets k d below in
    sendable _ good.0.enough good.0.most
frames_of_input-sendable Kiss octets = items_sendable (items_in octets)

module _ (octets : List ℕ) (index : ℕ) (below : index < length octets) (frames : List (List ℕ)) where
  -- one octet more, which ended these items
  pub kiss_frames-more : (items : List KissItem) → frames ≡ kiss_frames (take index octets)
      → items_in (take index octets ++ get_or octets index 0 ∷ []) ≡ items_in (take index octets) ++ items
      → frames ++ filter_map frame_of items ≡ kiss_frames (take (index + 1) octets)
  unfolding kiss_frames
  kiss_frames-more items is more =
      ap (λ fs. fs ++ filter_map frame_of items) is
      ∙ sym (filter_map-append frame_of (items_in (take index octets)) items)
      ∙ ap (filter_map frame_of) (sym more ∙ ap items_in (sym (take_more octets index 0 below)))

pub kiss_frames-none : kiss_frames [] ≡ []
unfolding kiss_frames items_in
kiss_frames-none = refl

-- the frame of one item
pub frame_of_one : (item : KissItem) → option_to_list (frame_of item) ≡ filter_map frame_of (item ∷ [])
frame_of_one item = go (frame_of item)
  where
    go : (frame : Option (List ℕ)) → option_to_list frame ≡ cons_option frame []
    go None = refl
    go (Some octets) = refl

-- one octet more, which ended these items
pub kiss_frames-push : (before : List ℕ) (octet : ℕ) (items : List KissItem)
    → items_in (before ++ octet ∷ []) ≡ items_in before ++ items
    → kiss_frames (before ++ octet ∷ []) ≡ kiss_frames before ++ filter_map frame_of items
unfolding kiss_frames
kiss_frames-push before octet items more = ap (filter_map frame_of) more
    ∙ filter_map-append frame_of (items_in before) items
