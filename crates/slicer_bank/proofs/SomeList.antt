-- Samples have a list of candidates: it is found sample by sample.
use Rattle.slicer_bank.proofs.Common.{ℕ, ◌+◌, ◌-◌, ◌/◌, ◌%◌, ◌<◌, ◌≤◌, ℤ, List, [], ◌∷◌, ◌++◌, length, inl, inr, refl}
use Rattle.slicer_bank.proofs.Common.{subst, sym, arith, append_assoc, cases_lt, append-nil, length_push, bits}
use Rattle.slicer_bank.proofs.Common.{EndsWindow, Candidate, AreCandidates, candidate_at}
use Rattle.hdlc_framer.proofs.FrameEnds.{one_frame}
use Rattle.slicer_bank.proofs.CandidateLemmas.{candidates_none, candidates_join}
use Rattle.slicer_bank.proofs.HeardLemmas.{HearsMore, adds_nothing, adds_one, lane_hears, nothing_heard}
use Rattle.slicer_bank.proofs.FrameDecided.{frame_or_none}

-- a window of one offset ends with the last of eight samples or more
window_ends : (x : List ℤ) (sample : ℤ) → 8 ≤ length x + 1 → EndsWindow ((length x + 1) % 8) (x ++ sample ∷ [])
window_ends x sample enough = ((length x + 1) / 8 - 1, let more = length_push x sample in omega arith)

-- what is heard with one sample more
heard_with : (x : List ℤ) (sample : ℤ) → (after : List Candidate) × HearsMore x (sample ∷ []) [] after
heard_with x sample = elim (cases_lt (length x + 1) 8) [
  | inl few ↦ ([], nothing_heard x sample [] few)
  | inr enough ↦
      let offset : ℕ = (length x + 1) % 8 in
      let small : offset < 8 = omega arith in
      let window : EndsWindow offset (x ++ sample ∷ []) = window_ends x sample enough in
      elim (frame_or_none (bits offset (x ++ sample ∷ []))) [
        | inl frame ↦ (
          candidate_at (length x + 1) offset frame.0 ∷ [],
          lane_hears offset x sample small window (length x + 1) [] (candidate_at (length x + 1) offset frame.0 ∷ [])
              refl
              (adds_one offset (length x + 1) (bits offset (x ++ sample ∷ [])) []
              (candidate_at (length x + 1) offset frame.0 ∷ []) frame.0 refl frame.1
              (λ o ends. (one_frame (bits offset (x ++ sample ∷ [])) frame.0 o frame.1 ends).0)),
        )
        | inr none ↦ (
          [],
          lane_hears offset x sample small window (length x + 1) [] [] refl
              (adds_nothing offset (length x + 1) (bits offset (x ++ sample ∷ [])) [] none),
        )
      ]
]

-- with more samples there is a list if there was one
more_candidates : (x y : List ℤ) (items : List Candidate) → AreCandidates x items
    → (all : List Candidate) × AreCandidates (x ++ y) all
more_candidates x [] items are = (items, subst (λ xs. AreCandidates xs items) (sym (append-nil x)) are)
more_candidates x (sample ∷ y) items are =
    let heard = heard_with x sample in
    let joined = candidates_join 0 x (sample ∷ []) items heard.1.heard (omega arith) are heard.1.are in
    let rest = more_candidates (x ++ sample ∷ []) y (items ++ heard.1.heard) joined in
    (rest.0, subst (λ xs. AreCandidates xs rest.0) (append_assoc x (sample ∷ []) y) rest.1)

pub some_list : (x : List ℤ) → (items : List Candidate) × AreCandidates x items
some_list x = more_candidates [] x [] (candidates_none [])
