-- Printed frames, one more at a time.
use Rattle.tnc_decode.proofs.Common.{◌≡◌, ℕ, ◌+◌, ◌<◌, ◌≤◌, List, [], ◌∷◌, ◌++◌, length, get_or, drop, sym, ◌∙◌, ap}
use Rattle.tnc_decode.proofs.Common.{drop_all, Candidate, FrameForm, candidate_frames, print, printed}
use Rattle.std.specs.List.{flat_map}
use Rattle.std.proofs.lemmas.List.{drop_more}

-- past the last item nothing is left to print
pub print_end : (form : FrameForm) (items : List Candidate) (i : ℕ) → length items ≤ i
    → print form (candidate_frames (drop i items)) ≡ []
unfolding print
print_end form items i past = ap (λ t. flat_map (printed form) (candidate_frames t)) (drop_all i items past)

-- what is left to print begins with the next frame
pub print_next : (form : FrameForm) (items : List Candidate) (i : ℕ) (item : Candidate) → i < length items
    → item ≡ get_or items i item
    → print form (candidate_frames (drop i items)) ≡ printed form item.octets
    ++ print form (candidate_frames (drop (i + 1) items))
unfolding print
print_next form items i item below is =
    ap (λ t. flat_map (printed form) (candidate_frames t)) (drop_more items i item below
    ∙ ap (λ f. f ∷ drop (i + 1) items) (sym is))
