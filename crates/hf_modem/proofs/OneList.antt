-- Samples have one list of candidates: two that strictly rise and have the same elements are the same.
use Rattle.hf_modem.proofs.Common.{◌≡◌, ℤ, List, get_or, Candidate, AreCandidates}
use Rattle.slicer_bank.proofs.OneList.{same_list}

pub one_list : (x : List ℤ) (items others : List Candidate) → AreCandidates x items → AreCandidates x others
    → items ≡ others
one_list x items others a b =
    same_list items others a.order b.order
    (λ k d l. let e = a.each k d l in b.whole (get_or items k d) e.0 e.1)
    (λ k d l. let e = b.each k d l in a.whole (get_or others k d) e.0 e.1)
