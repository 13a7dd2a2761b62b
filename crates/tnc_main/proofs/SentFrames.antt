-- The frames of an input are frames as they are sent, and encode's transmissions have exactly these, in order.
use Rattle.tnc_main.proofs.Common.{◌≡◌, ℕ, ◌<◌, ◌≤◌, nat_lt, Bool, true, false, List, [], ◌∷◌, ◌++◌, length, map, All}
use Rattle.tnc_main.proofs.Common.{Option, Some, None, get_or, refl, subst, ap, ◌∙◌, arith, if◌then◌else◌}
use Rattle.tnc_main.proofs.Common.{flat_map-cons, All-append, All-map, All-nil, All-same, Transmission, IsTransmission}
use Rattle.tnc_main.proofs.Common.{EncodeWords, frames_of_input, transmissions}
use Rattle.std.proofs.Common.{◌/◌, ◌%◌, ◌==◌, nat_le, ◌&&◌, IfSome}
use Rattle.std.specs.Prelude.{⊤}
use Rattle.std.specs.Option.{option_to_list}
use Rattle.std.specs.List.{cons_option, filter_map, flat_map}
use Rattle.std.proofs.lemmas.Bool.{and_parts, leb-true}
use Rattle.std.proofs.lemmas.List.{append-nil, get_or_default}
use Rattle.std.proofs.lemmas.List.Elements.{All-cons, All-head, All-tail}
use Rattle.hdlc_framer.specs.Frames.{IsFrame}
use Rattle.kiss_port.specs.declared.item.KissItem.{KissItem}
use Rattle.kiss_port.specs.declared.item.KissItem.TheVariants.{Frame, AckFrame, Set, Hardware, Return, TooLong}
use Rattle.kiss_port.specs.declared.item.KissItem.TheVariants.{Other}
use Rattle.kiss_port.specs.Escapes.{fend, fesc, tfend, tfesc, meant, unescaped}
use Rattle.kiss_port.specs.Pieces.{onto_first, pieces}
use Rattle.kiss_port.specs.Items.{ack_command, ack_frame, by_command, item_by_type, item_of, items_in, most_octets}
use Rattle.kiss_port.specs.Items.{setting}
use Rattle.clean_signal.specs.GoodTransmission.{frames_of as all_frames}
use Rattle.tnc_forms.proofs.HexFrameLemmas.{frames_in_lines-good}
use Rattle.tnc_words.specs.declared.command.FrameForm.{FrameForm}
use Rattle.tnc_words.specs.declared.command.FrameForm.TheVariants.{Hex, Kiss}
use Rattle.tnc_encode.specs.Frames.{frame_of, kiss_frames}
use Rattle.tnc_encode.specs.Encoded.{joined, sent_at_once}

abbrev pub AreOctets : List ℕ → Type 0
AreOctets octets = All (λ octet. octet < 256) octets

no_octets : AreOctets []
no_octets = All-nil (λ octet. octet < 256)

with_octet : (octet : ℕ) (octets : List ℕ) → octet < 256 → AreOctets octets → AreOctets (octet ∷ octets)
with_octet octet octets small each = All-cons (λ o. o < 256) octet octets small each

first : (octet : ℕ) (octets : List ℕ) → AreOctets (octet ∷ octets) → octet < 256
first octet octets each = All-head (λ o. o < 256) octet octets each

later : (octet : ℕ) (octets : List ℕ) → AreOctets (octet ∷ octets) → AreOctets octets
later octet octets each = All-tail (λ o. o < 256) octet octets each

-- ---- what a KISS stream says

onto_first_fits : (octet : ℕ) (cut : List (List ℕ)) → octet < 256 → All AreOctets cut
    → All AreOctets (onto_first octet cut)
onto_first_fits octet [] small each = All-nil AreOctets
onto_first_fits octet (piece ∷ others) small each =
    All-cons AreOctets (octet ∷ piece) others (with_octet octet piece small (All-head AreOctets piece others each))
    (All-tail AreOctets piece others each)

pieces_fit : (stream : List ℕ) → AreOctets stream → All AreOctets (pieces stream)
pieces_fit [] each = All-nil AreOctets
pieces_fit (octet ∷ stream) each = by_end (octet == fend) (first octet stream each)
    (pieces_fit stream (later octet stream each))
  where
    by_end : (b : Bool) → octet < 256 → All AreOctets (pieces stream)
        → All AreOctets (if b then [] ∷ pieces stream else onto_first octet (pieces stream))
    by_end true small rest = All-cons AreOctets [] (pieces stream) no_octets rest
    by_end false small rest = onto_first_fits octet (pieces stream) small rest

meant_fits : (octet : ℕ) → AreOctets (meant octet)
meant_fits octet = by_tests (octet == tfend) (octet == tfesc)
  where
    by_tests : (b c : Bool) → AreOctets (if b then fend ∷ [] else if c then fesc ∷ [] else [])
    by_tests true c = with_octet fend [] (omega arith) no_octets
    by_tests false true = with_octet fesc [] (omega arith) no_octets
    by_tests false false = no_octets

unescaped_fits : (piece : List ℕ) → AreOctets piece → AreOctets (unescaped piece)
unescaped_fits [] each = no_octets
unescaped_fits (octet ∷ []) each = by_escape (octet == fesc)
  where
    by_escape : (b : Bool) → AreOctets (if b then [] else octet ∷ [])
    by_escape true = no_octets
    by_escape false = each
unescaped_fits (octet ∷ next ∷ piece) each =
    let following : AreOctets (next ∷ piece) = later octet (next ∷ piece) each in
    by_escape (octet == fesc) (first octet (next ∷ piece) each) (unescaped_fits piece (later next piece following))
    (unescaped_fits (next ∷ piece) following)
  where
    by_escape : (b : Bool) → octet < 256 → AreOctets (unescaped piece) → AreOctets (unescaped (next ∷ piece))
        → AreOctets (if b then meant next ++ unescaped piece else octet ∷ unescaped (next ∷ piece))
    by_escape true small short long = All-append (λ o. o < 256) (meant next) (unescaped piece) (meant_fits next) short
    by_escape false small short long = with_octet octet (unescaped (next ∷ piece)) small long

-- the data of an item is octets
abbrev HasOctets : KissItem → Type 0
HasOctets (Frame port octets) = AreOctets octets
HasOctets other = ⊤

either : (b : Bool) (x y : KissItem) → HasOctets x → HasOctets y → HasOctets (if b then x else y)
either true x y h k = h
either false x y h k = k

setting_fits : (port command : ℕ) (octets : List ℕ) → HasOctets (setting port command octets)
setting_fits port command [] = tt
setting_fits port command (value ∷ octets) = either (nat_le 1 command && nat_le command 5) (Set port command value)
    (Other port command) tt tt

ack_fits : (port : ℕ) (octets : List ℕ) → HasOctets (ack_frame port octets)
ack_fits port [] = tt
ack_fits port (first ∷ []) = tt
ack_fits port (first ∷ second ∷ octets) = tt

by_command_fits : (port command : ℕ) (octets : List ℕ) → AreOctets octets → HasOctets (by_command port command octets)
by_command_fits port command octets each =
    let other = either (command == ack_command) (ack_frame port octets) (setting port command octets)
    (ack_fits port octets) (setting_fits port command octets) in
    either (command == 0) (Frame port octets) (if command == 6 then Hardware port octets
    else if command == ack_command then ack_frame port octets else setting port command octets) each
    (either (command == 6) (Hardware port octets) (if command == ack_command then ack_frame port octets
    else setting port command octets) tt other)

by_type_fits : (kind : ℕ) (octets : List ℕ) → AreOctets octets → HasOctets (item_by_type kind octets)
by_type_fits kind octets each =
    either (nat_lt (most_octets kind) (length octets)) (TooLong (kind / 16)) (if kind == 0xff then Return
    else by_command (kind / 16) (kind % 16) octets) tt
    (either (kind == 0xff) Return (by_command (kind / 16) (kind % 16) octets) tt
    (by_command_fits (kind / 16) (kind % 16) octets each))

item_fits : (octets : List ℕ) → AreOctets octets → All HasOctets (option_to_list (item_of octets))
item_fits [] each = All-nil HasOctets
item_fits (kind ∷ octets) each = All-cons HasOctets (item_by_type kind octets) []
    (by_type_fits kind octets (later kind octets each)) (All-nil HasOctets)

abbrev items_of : List ℕ → List KissItem
items_of piece = option_to_list (item_of (unescaped piece))

items_fit : (cut : List (List ℕ)) → All AreOctets cut → All HasOctets (flat_map items_of cut)
items_fit [] each = All-nil HasOctets
items_fit (piece ∷ others) each =
    All-same HasOctets (flat_map items_of (piece ∷ others)) (items_of piece ++ flat_map items_of others)
    (flat_map-cons items_of piece others)
    (All-append HasOctets (items_of piece) (flat_map items_of others)
    (item_fits (unescaped piece) (unescaped_fits piece (All-head AreOctets piece others each)))
    (items_fit others (All-tail AreOctets piece others each)))

frame_fits : (item : KissItem) → HasOctets item → IfSome (frame_of item) IsFrame
frame_fits (Frame port octets) each =
    by_test ((port == 0) && (nat_le 15 (length octets) && nat_le (length octets) 1024)) refl
  where
    by_test : (test : Bool) → (port == 0) && (nat_le 15 (length octets) && nat_le (length octets) 1024) ≡ test
        → IfSome (if test then Some octets else None) IsFrame
    by_test true is =
        let outer = and_parts (port == 0) (nat_le 15 (length octets) && nat_le (length octets) 1024) is in
        let sizes = and_parts (nat_le 15 (length octets)) (nat_le (length octets) 1024) outer.1 in
        record { octets_fit = each; least = leb-true _ _ sizes.0; most = leb-true _ _ sizes.1 }
    by_test false is = tt
frame_fits (AckFrame port mark octets) each = tt
frame_fits (Set port command value) each = tt
frame_fits (Hardware port octets) each = tt
frame_fits Return each = tt
frame_fits (TooLong port) each = tt
frame_fits (Other port command) each = tt

with_option : (frame : Option (List ℕ)) (frames : List (List ℕ)) → IfSome frame IsFrame → All IsFrame frames
    → All IsFrame (cons_option frame frames)
with_option None frames h each = each
with_option (Some octets) frames h each = All-cons IsFrame octets frames h each

frames_fit : (items : List KissItem) → All HasOctets items → All IsFrame (filter_map frame_of items)
frames_fit [] each = All-nil IsFrame
frames_fit (item ∷ items) each =
    with_option (frame_of item) (filter_map frame_of items) (frame_fits item (All-head HasOctets item items each))
    (frames_fit items (All-tail HasOctets item items each))

-- ---- the frames of an input

-- each frame of an input can be sent
pub frames_of_input-fit : (form : FrameForm) (octets : List ℕ) → AreOctets octets
    → All IsFrame (frames_of_input form octets)
unfolding kiss_frames items_in
frames_of_input-fit Hex octets each = λ k d below.
    let good = frames_in_lines-good 15 octets k d below in
    let frame : List ℕ = get_or (frames_of_input Hex octets) k d in
    record {
      octets_fit = λ i e small. subst (λ o. o < 256) (get_or_default frame i 0 e small) (good.1 i);
      least = good.0.enough;
      most = good.0.most;
    }
frames_of_input-fit Kiss octets each = frames_fit (items_in octets) (items_fit (pieces octets) (pieces_fit octets each))

-- ---- transmissions

module _ (words : EncodeWords) where
  abbrev alone : List ℕ → Transmission
  alone frame = sent_at_once words (frame ∷ [])

  own_frames : (frames : List (List ℕ)) → all_frames (map alone frames) ≡ frames
  own_frames [] = refl
  own_frames (frame ∷ frames) = flat_map-cons (λ t. t.frames) (alone frame) (map alone frames)
      ∙ ap (λ fs. frame ∷ fs) (own_frames frames)

  joined_frames : (frames : List (List ℕ)) → all_frames (joined words frames) ≡ frames
  joined_frames [] = refl
  joined_frames (frame ∷ frames) = flat_map-cons (λ t. t.frames) (sent_at_once words (frame ∷ frames)) []
      ∙ append-nil (frame ∷ frames)

  -- the frames of all transmissions, in order
  pub frames_sent : (frames : List (List ℕ)) → all_frames (transmissions words frames) ≡ frames
  frames_sent frames = by_join words.join
    where
      by_join : (b : Bool) → all_frames (if b then joined words frames else map alone frames) ≡ frames
      by_join true = joined_frames frames
      by_join false = own_frames frames

  module _ (opening : 2 ≤ words.opening) (closing : 1 ≤ words.closing) where
    at_once_good : (frames : List (List ℕ)) → All IsFrame frames → IsTransmission (sent_at_once words frames)
    at_once_good frames each = record { frames = each; opening = opening; closing = closing }

    joined_good : (frames : List (List ℕ)) → All IsFrame frames → All IsTransmission (joined words frames)
    joined_good [] each = All-nil IsTransmission
    joined_good (frame ∷ frames) each =
        All-cons IsTransmission (sent_at_once words (frame ∷ frames)) [] (at_once_good (frame ∷ frames) each)
        (All-nil IsTransmission)

    -- a receiver can be held to each of them
    pub transmissions_good : (frames : List (List ℕ)) → All IsFrame frames
        → All IsTransmission (transmissions words frames)
    transmissions_good frames each = by_join words.join
      where
        by_join : (b : Bool) → All IsTransmission (if b then joined words frames else map alone frames)
        by_join true = joined_good frames each
        by_join false = All-map IsTransmission alone frames
            (λ k d below. at_once_good (get_or frames k d ∷ [])
            (All-cons IsFrame (get_or frames k d) [] (each k d below) (All-nil IsFrame)))
