-- Merging: up to eight slicers hear one transmission, at ends that lie within 15 samples of one another.
use Rattle.std.specs.Prelude.{ℕ, ◌+◌, List, [], ◌∷◌, ◌++◌, map, Bool, nat_le, nat_lt, ◌&&◌, not, if◌then◌else◌, filter}
use Rattle.std.specs.List.{list_any}
use Rattle.std.specs.Str.{bytes_eq}
use Rattle.frame_merge.specs.declared.candidate.Candidate.{Candidate}

-- `earlier` has the octets of `item`, and an end at most 15 samples lower
abbrev pub repeats : Candidate → Candidate → Bool
repeats item earlier = bytes_eq earlier.octets item.octets && nat_le item.end (earlier.end + 15)

-- of `items`, which come after `earlier`, those that repeat none before them, whether or not that one was itself left
-- out
abbrev pub merged_after : List Candidate → List Candidate → List Candidate
merged_after earlier [] = []
merged_after earlier (item ∷ items) =
    if list_any (repeats item) earlier
    then merged_after (earlier ++ item ∷ []) items
    else item ∷ merged_after (earlier ++ item ∷ []) items

-- the candidates that remain of a list in order
abbrev pub merged : List Candidate → List Candidate
merged items = merged_after [] items

-- the frames of candidates
abbrev pub candidate_frames : List Candidate → List (List ℕ)
candidate_frames items = map (λ item. item.octets) items

-- the part of a list that ends below a position
abbrev pub below : ℕ → List Candidate → List Candidate
below position items = filter (λ item. nat_lt item.end position) items

-- the part that does not end below a position
abbrev pub not_below : ℕ → List Candidate → List Candidate
not_below position items = filter (λ item. nat_le position item.end) items

-- the part that ends from one position to below another
abbrev pub between : ℕ → ℕ → List Candidate → List Candidate
between from to items = filter (λ item. nat_le from item.end && nat_lt item.end to) items

-- `item` ends from one position to below another, and repeats none of `earlier`
abbrev pub is_ready_after : ℕ → ℕ → List Candidate → Candidate → Bool
is_ready_after from to earlier item = (nat_le from item.end && nat_lt item.end to)
    && not (list_any (repeats item) earlier)
