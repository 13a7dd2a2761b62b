-- The candidates of samples are in order.
pub use Rattle.block_receiver.proofs.PuttingLemmas.{HasPut, has_put_more, has_put_all, rising_strictly, in_order-strictly}
use Rattle.slicer_bank.proofs.Common.{ℤ, List, arith, Candidate, IsInOrder, AreCandidates}

pub is_in_order : (x : List ℤ) (items : List Candidate) → AreCandidates x items → IsInOrder items
is_in_order x items h = record {
  rising = rising_strictly items h.order;
  offsets = λ k d l. let e = h.each k d l in let small = e.0.offset in omega arith;
}
