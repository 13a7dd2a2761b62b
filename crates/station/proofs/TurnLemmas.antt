-- Acts one after another.
use Rattle.station.proofs.Common.{◌≡◌, ℕ, ◌+◌, ◌<◌, List, [], ◌∷◌, ◌++◌, length, map, take, refl, ◌∙◌, ap, arith}
use Rattle.station.proofs.Common.{get_or, range_with_len, take_more, map-append, map-range_with_len_more, Turn}
use Rattle.station.proofs.Common.{in_order}
use Rattle.station.specs.Turn.{Act}

-- the acts of two lists one after another
pub in_order-append : (first second : List Act) (turn : Turn)
    → in_order (first ++ second) turn ≡ in_order second (in_order first turn)
in_order-append [] second turn = refl
in_order-append (act ∷ first) second turn = in_order-append first second (act turn)

-- one act more
pub in_order-more : {A : Type 0} (act : A → Act) (items : List A) (k : ℕ) (d : A) (turn : Turn) → k < length items
    → in_order (map act (take (k + 1) items)) turn ≡ act (get_or items k d) (in_order (map act (take k items)) turn)
in_order-more act items k d turn within =
    ap (λ xs. in_order (map act xs) turn) (take_more items k d within)
    ∙ ap (λ acts. in_order acts turn) (map-append act (take k items) (get_or items k d ∷ []))
    ∙ in_order-append (map act (take k items)) (act (get_or items k d) ∷ []) turn

-- one number more
pub in_order-next : (act : ℕ → Act) (k : ℕ) (turn : Turn) → in_order (map act (range_with_len 0 (k + 1))) turn
    ≡ act k (in_order (map act (range_with_len 0 k)) turn)
in_order-next act k turn =
    ap (λ acts. in_order acts turn) (map-range_with_len_more act 0 k k (omega arith))
    ∙ in_order-append (map act (range_with_len 0 k)) (act k ∷ []) turn
