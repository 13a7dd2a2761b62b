-- What all lanes hear plainly and in blocks, merged, as candidates: samples have one list of it, and what is settled of it stays.
use Rattle.tnc_decode.proofs.Common.{◌≡◌, ℕ, ◌<◌, ◌≤◌, ℤ, List, [], ◌++◌, length, refl, ap, sym, subst}
use Rattle.tnc_decode.proofs.Common.{◌∙◌, append-nil, IsNonDecreasingBy, Candidate, below, settled, ◌∷◌}
use Rattle.std.specs.Prelude.{map}
use Rattle.std.specs.List.{All}
use Rattle.std.proofs.Common.{cond}
use Rattle.std.proofs.lemmas.Bool.{lt-ltb}
use Rattle.std.proofs.lemmas.List.{map-append}
use Rattle.std.proofs.lemmas.List.Elements.{All-head, All-map, All-tail, filter-append}
use Rattle.frame_merge.proofs.Merging.{below_none}
use Rattle.fx25_receiver.specs.declared.heard.Heard.{Heard}
use Rattle.fx25_receiver.specs.WithoutBlocks.{candidate_of}
use Rattle.sensitive_blocks.proofs.MergedLists.{Begins, merged_rises, none_merged, one_merged, settled_stays, some_merged}
use Rattle.tnc_decode.specs.Modem.{AreMergedByAll}
use Rattle.tnc_decode.proofs.BlockItems.{map_rises}

pub none_by_all : AreMergedByAll [] []
none_by_all = record { heard = []; are = none_merged; is = refl }

pub one_by_all : (x : List ℤ) (items others : List Candidate) → AreMergedByAll x items → AreMergedByAll x others
    → items ≡ others
one_by_all x items others a b =
    a.is ∙ ap (map candidate_of) (one_merged x a.heard b.heard a.are b.are) ∙ sym b.is

pub some_by_all : (x : List ℤ) → (items : List Candidate) × AreMergedByAll x items
some_by_all x = let found = some_merged x in
    (map candidate_of found.0, record { heard = found.0; are = found.1; is = refl })

pub all_rise : (x : List ℤ) (items : List Candidate) → AreMergedByAll x items → IsNonDecreasingBy (λ item. item.end) items
all_rise x items h =
    subst (IsNonDecreasingBy (λ item. item.end)) (sym h.is) (map_rises h.heard (merged_rises x h.heard h.are))

-- all of what ends below a position
below_all : (position : ℕ) (xs : List Candidate) → All (λ y. y.end < position) xs → below position xs ≡ xs
below_all position [] h = refl
below_all position (x ∷ xs) h =
    ap (λ t. cond t (x ∷ below position xs) (below position xs))
    (lt-ltb x.end position (All-head (λ y. y.end < position) x xs h))
    ∙ ap (λ t. x ∷ t) (below_all position xs (All-tail (λ y. y.end < position) x xs h))

-- what a list begins with is what of it ends below a position
pub below_begins : (end : ℕ) (front items : List Heard) → Begins end front items
    → below end (map candidate_of items) ≡ map candidate_of front
below_begins end front items h =
    ap (λ t. below end (map candidate_of t)) h.is
    ∙ ap (below end) (map-append candidate_of front h.more)
    ∙ filter-append _ (map candidate_of front) (map candidate_of h.more)
    ∙ ap (λ t. t ++ below end (map candidate_of h.more))
    (below_all end (map candidate_of front) (All-map (λ y. y.end < end) candidate_of front h.early))
    ∙ ap (λ t. map candidate_of front ++ t)
    (below_none end (map candidate_of h.more) (All-map (λ y. end ≤ y.end) candidate_of h.more h.late))
    ∙ append-nil (map candidate_of front)

pub still_by_all : (to : ℕ) (x y : List ℤ) (items whole : List Candidate) → to ≤ settled (length x)
    → AreMergedByAll x items → AreMergedByAll (x ++ y) whole → below to items ≡ below to whole
still_by_all to x y items whole within a b =
    let stays = settled_stays x y to a.heard b.heard within a.are b.are in
    ap (below to) a.is ∙ below_begins to stays.0 a.heard stays.1
    ∙ sym (ap (below to) b.is ∙ below_begins to stays.0 b.heard stays.2)
