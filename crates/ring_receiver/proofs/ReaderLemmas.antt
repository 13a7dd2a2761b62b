-- The readers of a receiver go back to the Vec that they came in.
use Rattle.ring_receiver.proofs.Common.{◌≡◌, ℕ, suc, ◌+◌, ◌<◌, List, [], ◌∷◌, ◌++◌, length, ap, ◌∙◌, sym, append_assoc}
use Rattle.ring_receiver.proofs.Common.{arith, append-nil, nil_from_length, Reader}

-- So many readers went back into the room, and there is room for those that are left and for one more.
pub record HaveGoneBack (all left : List Reader) (count : ℕ) (items : List Reader) (len capacity : ℕ) : Type 0 where
  pub parts : items ++ left ≡ all
  pub counted : length left ≡ count
  pub room : len + count < capacity

pub gone_back_more : (all left rest : List Reader) (count less : ℕ) (items items' : List Reader)
    (len more capacity capacity' : ℕ) (reader : Reader) → HaveGoneBack all left count items len capacity
    → left ≡ reader ∷ rest → less + 1 ≡ count → items' ≡ items ++ reader ∷ [] → more ≡ len + 1
    → capacity' ≡ capacity → HaveGoneBack all rest less items' more capacity'
gone_back_more all left rest count less items items' len more capacity capacity' reader h is fewer put longer same =
    let room = h.room in
    let many = h.counted in
    let was : length left ≡ suc (length rest) = ap length is in
    record {
      parts = ap (λ l. l ++ rest) put ∙ append_assoc items (reader ∷ []) rest ∙ ap (λ l. items ++ l) (sym is)
          ∙ h.parts;
      counted = omega arith;
      room = omega arith;
    }

pub all_gone_back : (all left : List Reader) (count : ℕ) (items : List Reader) (len capacity : ℕ)
    → HaveGoneBack all left count items len capacity → count ≡ 0 → items ≡ all
all_gone_back all left count items len capacity h none =
    let empty : left ≡ [] = nil_from_length left (h.counted ∙ none) in
    sym (append-nil items) ∙ ap (λ l. items ++ l) (sym empty) ∙ h.parts
