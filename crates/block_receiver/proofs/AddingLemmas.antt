-- What is put after candidates in order.
use Rattle.std.proofs.Common.{◌≡◌, ◌<◌, List, [], ◌++◌, ap, sym, ◌∙◌}
use Rattle.std.specs.Prelude.{fold}
use Rattle.std.specs.List.{AllPairs}
use Rattle.std.proofs.lemmas.List.Sums.{fold-append}
use Rattle.frame_merge.specs.declared.candidate.Candidate.{Candidate}
use Rattle.frame_merge.specs.Order.{in_order, place, standing}
use Rattle.block_receiver.proofs.PuttingLemmas.{in_order-strictly}

-- put among others, candidates stand where they would among these in order
pub put_among : (puts found : List Candidate)
    → in_order (puts ++ found) ≡ fold (λ ordered item. place item ordered) (in_order puts) found
put_among puts found = fold-append (λ ordered item. place item ordered) [] puts found

-- and after them, if all strictly rise
pub put_after : (puts found : List Candidate)
    → AllPairs (λ item later. standing item < standing later) (in_order puts)
    → AllPairs (λ item later. standing item < standing later) (in_order puts ++ found)
    → in_order (puts ++ found) ≡ in_order puts ++ found
put_after puts found first all =
    put_among puts found
    ∙ ap (λ done. fold (λ ordered item. place item ordered) done found) (sym (in_order-strictly (in_order puts) first))
    ∙ sym (put_among (in_order puts) found)
    ∙ in_order-strictly (in_order puts ++ found) all
