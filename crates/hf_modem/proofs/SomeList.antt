-- Samples have a list of candidates: it is found sample by sample.
use Rattle.hf_modem.proofs.Common.{ℕ, ◌+◌, ◌-◌, ◌/◌, ◌%◌, ◌<◌, ◌≤◌, ℤ, List, [], ◌∷◌, ◌++◌, Some, None, length, inl}
use Rattle.hf_modem.proofs.Common.{inr, refl, subst, sym, arith, append_assoc, cases_lt, append-nil, length_push}
use Rattle.hf_modem.proofs.Common.{Candidate, bits, EndsWindow, AreCandidates, AreCandidatesAfter, candidate_at}
use Rattle.slicer_bank.proofs.FrameDecided.{frame_or_none}
use Rattle.hf_modem.proofs.CandidateLemmas.{candidates_none, candidates_join}
use Rattle.hf_modem.proofs.HeardLemmas.{lane_hears, nothing_heard}

-- a window of one offset ends with the last of 32 samples or more
pub window_ends : (x : List ℤ) (sample : ℤ) → 32 ≤ length x + 1 → EndsWindow ((length x + 1) % 32) (x ++ sample ∷ [])
window_ends x sample enough = ((length x + 1) / 32 - 1, let more = length_push x sample in omega arith)

-- what is heard with one sample more
heard_with : (x : List ℤ) (sample : ℤ) → (heard : List Candidate)
    × AreCandidatesAfter (length x) (x ++ sample ∷ []) heard
heard_with x sample = elim (cases_lt (length x + 1) 32) [
  | inl few ↦ ([], nothing_heard x sample few)
  | inr enough ↦
      let all : List ℤ = x ++ sample ∷ [] in
      let offset : ℕ = (length x + 1) % 32 in
      let small : offset < 32 = omega arith in
      let window : EndsWindow offset all = window_ends x sample enough in
      elim (frame_or_none (bits offset all)) [
        | inl frame ↦ (
          candidate_at (length all) offset frame.0 ∷ [],
          lane_hears offset x sample small window (length all) (Some (candidate_at (length all) offset frame.0)) refl
              (frame.0, refl, frame.1),
        )
        | inr none ↦ ([], lane_hears offset x sample small window (length all) None refl none)
      ]
]

-- with more samples there is a list if there was one
more_candidates : (x y : List ℤ) (items : List Candidate) → AreCandidates x items
    → (all : List Candidate) × AreCandidates (x ++ y) all
more_candidates x [] items are = (items, subst (λ xs. AreCandidates xs items) (sym (append-nil x)) are)
more_candidates x (sample ∷ y) items are =
    let heard = heard_with x sample in
    let joined = candidates_join 0 x (sample ∷ []) items heard.0 (omega arith) are heard.1 in
    let rest = more_candidates (x ++ sample ∷ []) y (items ++ heard.0) joined in
    (rest.0, subst (λ xs. AreCandidates xs rest.0) (append_assoc x (sample ∷ []) y) rest.1)

pub some_list : (x : List ℤ) → (items : List Candidate) × AreCandidates x items
some_list x = more_candidates [] x [] (candidates_none [])
