-- The readers of a bank go back to the Vec that they came in.
use Rattle.slicer_bank.proofs.Common.{◌≡◌, ℕ, suc, ◌+◌, ◌≤◌, List, [], ◌∷◌, ◌++◌, length, ap, ◌∙◌, sym, append_assoc}
use Rattle.slicer_bank.proofs.Common.{arith, append-nil, nil_from_length, Reader, RingLane, readers_of}

-- so many readers went back into the room, and there is room for those of the lanes that are left
pub record HasGivenBack (all left : List RingLane) (count : ℕ) (items : List Reader) (len capacity : ℕ) : Type 0 where
  pub parts : items ++ readers_of left ≡ readers_of all
  pub counted : length left ≡ count
  pub room : len + count ≤ capacity

pub given_back_more : (all left rest : List RingLane) (count less : ℕ) (items items' : List Reader)
    (len more capacity capacity' : ℕ) (lane : RingLane) → HasGivenBack all left count items len capacity
    → left ≡ lane ∷ rest → less + 1 ≡ count → items' ≡ items ++ lane.reader ∷ [] → more ≡ len + 1 → capacity' ≡ capacity
    → HasGivenBack all rest less items' more capacity'
given_back_more all left rest count less items items' len more capacity capacity' lane h is fewer put longer same =
    let room = h.room in
    let many = h.counted in
    let was : length left ≡ suc (length rest) = ap length is in
    record {
      parts = ap (λ l. l ++ readers_of rest) put ∙ append_assoc items (lane.reader ∷ []) (readers_of rest)
          ∙ ap (λ l. items ++ readers_of l) (sym is) ∙ h.parts;
      counted = omega arith;
      room = omega arith;
    }

pub all_given_back : (all left : List RingLane) (count : ℕ) (items : List Reader) (len capacity : ℕ)
    → HasGivenBack all left count items len capacity → count ≡ 0 → items ≡ readers_of all
all_given_back all left count items len capacity h none =
    let empty : left ≡ [] = nil_from_length left (h.counted ∙ none) in
    sym (append-nil items) ∙ ap (λ l. items ++ readers_of l) (sym empty) ∙ h.parts
