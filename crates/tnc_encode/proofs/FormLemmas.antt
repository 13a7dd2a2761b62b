-- What is known of frames in either form stays so.
use Rattle.tnc_encode.proofs.Common.{◌≡◌, ℕ, ◌==◌, Bool, true, false, List, [], ◌∷◌, ◌++◌, Some, None, refl, ap}
use Rattle.tnc_encode.proofs.Common.{◌∙◌, if◌then◌else◌, filter_map, option_to_list, filter_map-append, KissItem}
use Rattle.tnc_encode.proofs.Common.{items_in, InputFault, FrameForm, Hex, Kiss, frame_of, kiss_frames, form_of}
use Rattle.std.specs.List.{flat_map}
use Rattle.std.proofs.lemmas.Grind.{flat_map-append}
use Rattle.kiss_port.specs.Escapes.{fend, unescaped}
use Rattle.kiss_port.specs.Items.{item_of}
use Rattle.kiss_port.specs.Pieces.{onto_first, pieces}
use Rattle.tnc_forms.proofs.LinesForm.{lines_are_form}
use Rattle.tnc_forms.specs.Form.{IsForm}
use Rattle.tnc_encode.proofs.FrameLemmas.{kiss_frames-none}

-- ---- KISS

onto_first_of : (octet : ℕ) (cut more : List (List ℕ)) → (next : List (List ℕ))
    × (onto_first octet (cut ++ more) ≡ onto_first octet cut ++ next)
onto_first_of octet [] more = (onto_first octet more, refl)
onto_first_of octet (piece ∷ others) more = (more, refl)

-- the pieces of octets are the first
first_pieces : (octets more : List ℕ) → (next : List (List ℕ)) × (pieces (octets ++ more) ≡ pieces octets ++ next)
first_pieces [] more = (pieces more, refl)
first_pieces (octet ∷ octets) more = by_end (octet == fend) (first_pieces octets more)
  where
    by_end : (b : Bool) → (next : List (List ℕ)) × (pieces (octets ++ more) ≡ pieces octets ++ next)
        → (next : List (List ℕ)) × ((if b then [] ∷ pieces (octets ++ more)
        else onto_first octet (pieces (octets ++ more)))
        ≡ (if b then [] ∷ pieces octets else onto_first octet (pieces octets)) ++ next)
    by_end true (next, is) = (next, ap (λ cut. [] ∷ cut) is)
    by_end false (next, is) =
        let first = onto_first_of octet (pieces octets) next in
        (first.0, ap (onto_first octet) is ∙ first.1)

abbrev flat_of : List (List ℕ) → List KissItem
flat_of cut = flat_map (λ piece. option_to_list (item_of (unescaped piece))) cut

-- and so are their frames
pub first_frames : (octets more : List ℕ) → (frames : List (List ℕ))
    × (kiss_frames (octets ++ more) ≡ kiss_frames octets ++ frames)
unfolding kiss_frames items_in
first_frames octets more =
    let next = first_pieces octets more in (
      filter_map frame_of (flat_of next.0),
      ap (λ cut. filter_map frame_of (flat_of cut)) next.1
          ∙ ap (filter_map frame_of) (flat_map-append (λ piece. option_to_list (item_of (unescaped piece)))
          (pieces octets) next.0)
          ∙ filter_map-append frame_of (flat_of (pieces octets)) (flat_of next.0),
    )

none_is_some : (fault : InputFault) → None ≡ Some fault → ⊥
none_is_some fault e = cc e

pub forms_stay : (form : FrameForm) → IsForm (form_of form)
forms_stay Hex =
    let lines = lines_are_form 15 in
    record {
      none = lines.none;
      good = lines.good;
      whole = lines.whole;
      bad = lines.bad;
      not_long = lines.not_long;
      not_long_whole = lines.not_long_whole;
    }
forms_stay Kiss = record {
  none = kiss_frames-none;
  good = refl;
  whole = λ octets more none. first_frames octets more;
  bad = λ octets more fault is. absurd (none_is_some fault is);
  not_long = λ octets fault is long. none_is_some fault is;
  not_long_whole = λ octets fault is long. none_is_some fault is;
}
