-- Eight lanes made of eight readers, one after another.
use Rattle.slicer_bank.proofs.Common.{◌≡◌, ℕ, ◌+◌, ◌<◌, List, [], ◌∷◌, ◌++◌, refl, ap, sym, ◌∙◌, arith, subst, length}
use Rattle.slicer_bank.proofs.Common.{get_or, map, take, drop, replicate, inl, inr, All, cases_lt, take_more, drop-drop}
use Rattle.slicer_bank.proofs.Common.{length_push, map-append, get_or_append_left, All-push, All-nil, All-head}
use Rattle.slicer_bank.proofs.Common.{All-tail, get_or-append_seam, Reader, position_of, answer, RingLane, IsTaken}
use Rattle.slicer_bank.proofs.Common.{LaneListens, readers_of, answers_of}
use Rattle.std.proofs.lemmas.List.{get_or-drop}
use Rattle.sample_ring.specs.Ends.{IsNew}
use Rattle.slicer_bank.specs.declared.detection.Detection.{Detection}

-- so many readers have a lane, and the others are left
pub record HaveLanes (all left : List Reader) (lanes : List RingLane) (detection : Detection) (n : ℕ)
    : Type 0 where
  pub rest : left ≡ drop n all
  pub readers : readers_of lanes ≡ take n all
  pub count : length lanes ≡ n
  pub listen : (k : ℕ) (d : RingLane) → k < n → (len : ℕ) → LaneListens len detection k (get_or lanes k d)
  pub taken : All IsTaken lanes

pub have_none : (all : List Reader) (detection : Detection) → HaveLanes all all [] detection 0
have_none all detection = record {
  rest = refl;
  readers = refl;
  count = refl;
  listen = λ k d l. absurd (omega arith);
  taken = All-nil IsTaken;
}

pub have_more : (all left left' : List Reader) (lanes lanes' : List RingLane) (detection : Detection) (n : ℕ)
    (reader : Reader) (lane : RingLane) → HaveLanes all left lanes detection n → n < length all
    → reader ≡ get_or left 0 reader → left' ≡ drop 1 left → lane.reader ≡ reader
    → ((len : ℕ) → LaneListens len detection n lane) → IsTaken lane → lanes' ≡ lanes ++ lane ∷ []
    → HaveLanes all left' lanes' detection (n + 1)
have_more all left left' lanes lanes' detection n reader lane h l is rest same listens taken pushed =
    let count = h.count in
    let first : reader ≡ get_or all n reader = is ∙ ap (λ r. get_or r 0 reader) h.rest ∙ get_or-drop n all 0 reader
    ∙ ap (λ i. get_or all i reader) (let e : n + 0 ≡ n = omega arith in e) in
    record {
      rest = rest ∙ ap (drop 1) h.rest ∙ drop-drop 1 n all;
      readers = ap readers_of pushed ∙ map-append (λ x. x.reader) lanes (lane ∷ [])
          ∙ ap (λ r. r ++ lane.reader ∷ []) h.readers ∙ ap (λ r. take n all ++ r ∷ []) (same ∙ first)
          ∙ sym (take_more all n reader l);
      count = ap length pushed ∙ length_push lanes lane ∙ ap (λ c. c + 1) count;
      listen = λ k d m len. subst (λ xs. LaneListens len detection k (get_or xs k d)) (sym pushed) (elim (cases_lt k n) [
        | inl lt ↦ subst (LaneListens len detection k) (sym (get_or_append_left lanes (lane ∷ []) d k (omega arith)))
            (h.listen k d lt len)
        | inr ge ↦
            let e : k ≡ n = omega arith in
            let at : get_or (lanes ++ lane ∷ []) k d ≡ lane = ap (λ i. get_or (lanes ++ lane ∷ []) i d) (e ∙ sym count)
            ∙ get_or-append_seam lanes lane [] d in
            subst (LaneListens len detection k) (sym at) (subst (λ i. LaneListens len detection i lane) (sym e) (listens len))
      ]);
      taken = subst (All IsTaken) (sym pushed) (All-push IsTaken lanes lane h.taken taken);
    }

-- readers that have read nothing were answered nothing
pub nothing_answered : (len : ℕ) (readers : List Reader) → All IsNew readers
    → map (answers_of len) readers ≡ replicate (length readers) []
nothing_answered len [] h = refl
nothing_answered len (r ∷ readers) h =
    ap (λ a. a ∷ map (answers_of len) readers) (ap (map (answer len)) (All-head IsNew r readers h).nothing_read)
    ∙ ap (λ l. [] ∷ l) (nothing_answered len readers (All-tail IsNew r readers h))

pub at_the_start : (readers : List Reader) → All IsNew readers → map position_of readers ≡ replicate (length readers) 0
at_the_start [] h = refl
at_the_start (r ∷ readers) h =
    ap (λ p. p ∷ map position_of readers) (All-head IsNew r readers h).at_start
    ∙ ap (λ l. 0 ∷ l) (at_the_start readers (All-tail IsNew r readers h))
