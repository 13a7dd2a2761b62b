-- What is merged of plain frames and blocks, as candidates: samples have one list of it, and more samples only add to it.
use Rattle.tnc_decode.proofs.Common.{◌≡◌, ℕ, ◌+◌, ◌<◌, ◌≤◌, ℤ, List, [], ◌++◌, length, get_or, refl, ap, sym, subst}
use Rattle.tnc_decode.proofs.Common.{◌∙◌, arith, append-nil, IsNonDecreasingBy, Candidate, below}
use Rattle.std.specs.Prelude.{map}
use Rattle.std.specs.List.{All}
use Rattle.std.proofs.lemmas.List.{map-append, get_or-map, length-map}
use Rattle.std.proofs.lemmas.List.Elements.{All-map, All-weaker, filter-append}
use Rattle.frame_merge.proofs.Merging.{below_none}
use Rattle.fx25_receiver.specs.declared.heard.Heard.{Heard}
use Rattle.fx25_receiver.proofs.MergedLists.{merged_more, merged_rises, none_merged, one_merged, some_merged}
use Rattle.fx25_receiver.specs.WithoutBlocks.{candidate_of}
use Rattle.tnc_decode.specs.Modem.{AreMergedWithBlocks}

-- ---- one list

pub none_with_blocks : AreMergedWithBlocks [] []
none_with_blocks = record { heard = []; are = none_merged; is = refl }

pub one_with_blocks : (x : List ℤ) (items others : List Candidate) → AreMergedWithBlocks x items
    → AreMergedWithBlocks x others → items ≡ others
one_with_blocks x items others a b =
    a.is ∙ ap (map candidate_of) (one_merged x a.heard b.heard a.are b.are) ∙ sym b.is

pub some_with_blocks : (x : List ℤ) → (items : List Candidate) × AreMergedWithBlocks x items
some_with_blocks x = let found = some_merged x in
    (map candidate_of found.0, record { heard = found.0; are = found.1; is = refl })

some_item : Candidate → Heard
some_item item = record { end = item.end; lane = item.offset; tag = 0; octets = item.octets; at = item.end }

pub map_rises : (heard : List Heard) → IsNonDecreasingBy (λ item. item.end) heard
    → IsNonDecreasingBy (λ item. item.end) (map candidate_of heard)
map_rises heard rises i j d below within =
    let size = length-map heard candidate_of in
    let here = rises i j (some_item d) below (omega arith) in
    let first : (get_or (map candidate_of heard) i d).end ≡ (get_or heard i (some_item d)).end =
    ap (λ item. item.end) (get_or-map candidate_of heard i (some_item d) d (omega arith)) in
    let second : (get_or (map candidate_of heard) j d).end ≡ (get_or heard j (some_item d)).end =
    ap (λ item. item.end) (get_or-map candidate_of heard j (some_item d) d (omega arith)) in
    omega arith

pub blocks_rise : (x : List ℤ) (items : List Candidate) → AreMergedWithBlocks x items
    → IsNonDecreasingBy (λ item. item.end) items
blocks_rise x items h =
    subst (IsNonDecreasingBy (λ item. item.end)) (sym h.is) (map_rises h.heard (merged_rises x h.heard h.are))

-- ---- more samples

-- nothing of what ends later is below a position
none_below : (to : ℕ) (heard : List Heard) → All (λ item. to ≤ item.end) heard → below to (map candidate_of heard) ≡ []
none_below to heard late =
    below_none to (map candidate_of heard) (All-map (λ y. to ≤ y.end) candidate_of heard late)

pub still_with_blocks : (to : ℕ) (x y : List ℤ) (items whole : List Candidate) → to ≤ length x + 1
    → AreMergedWithBlocks x items → AreMergedWithBlocks (x ++ y) whole → below to items ≡ below to whole
still_with_blocks to x y items whole within a b =
    let added = merged_more x y a.heard b.heard a.are b.are in
    let late : All (λ item. to ≤ item.end) added.0 =
    All-weaker (λ item. length x < item.end) (λ item. to ≤ item.end) (λ item after. omega arith) added.0 added.2 in
    let parts : whole ≡ map candidate_of a.heard ++ map candidate_of added.0 =
    b.is ∙ ap (map candidate_of) added.1 ∙ map-append candidate_of a.heard added.0 in
    ap (below to) a.is
    ∙ sym (ap (below to) parts ∙ filter-append _ (map candidate_of a.heard) (map candidate_of added.0)
    ∙ ap (λ t. below to (map candidate_of a.heard) ++ t) (none_below to added.0 late)
    ∙ append-nil (below to (map candidate_of a.heard)))
