-- The decision of a window by how loud it is as each tone.
use Rattle.tone_tracking.proofs.Common.{◌≡◌, ℤ, pos, List, [], ◌∷◌, ap, sym, ◌∙◌, ◌≤ℤ◌, arith, int_le, if◌then◌else◌}
use Rattle.tone_tracking.proofs.Common.{int_max, ints, Tone, Mark, Space, Phasor, Correlations, none, plus, turn}
use Rattle.tone_tracking.proofs.Common.{turn_back, size, ahead, largest, decided}
use Rattle.std.proofs.lemmas.Int.{clamps}
use Rattle.tone_tracking.proofs.PhasorLemmas.{plus-none, plus-assoc, size-turn, size_least}

-- the louder tone of two is the one that is decided
pub decided_by : (past : Phasor) (now : Correlations) (next : List Correlations) (mark space : ℤ) (tone : Tone)
    → mark ≡ largest (plus past now.mark) (ahead Mark next) → space ≡ largest (plus past now.space) (ahead Space next)
    → tone ≡ (if int_le space mark then Mark else Space) → tone ≡ decided past now next
unfolding decided
decided_by past now next mark space tone loud_mark loud_space is =
    is ∙ (λ i. if int_le (loud_space i) (loud_mark i) then Mark else Space)

-- ---- the largest of numbers from 0 up

max_none : (x : ℤ) → pos 0 ≤ℤ x → int_max (pos 0) x ≡ x
max_none x least = omega (arith, ints, clamps)

max_two : (most x y : ℤ) → pos 0 ≤ℤ x → int_max (int_max most x) y ≡ int_max most (int_max (int_max (pos 0) x) y)
max_two most x y least = omega (arith, ints, clamps)

-- ---- what windows ahead can add

-- no window
pub largest-none : (from : Phasor) → largest from (none ∷ []) ≡ size from
largest-none from = ap (λ p. int_max (pos 0) (size p)) (plus-none from) ∙ max_none _ (size_least from)

-- one window
pub largest-one : (from : Phasor) (next : Correlations)
    → largest from (ahead Mark (next ∷ [])) ≡ int_max (size (plus from next.mark)) (size (plus from next.space))
largest-one from next =
    let mark = ap (λ p. size (plus from p)) (plus-none next.mark) in
    let space = ap (λ p. size (plus from p)) (plus-none next.space) in
    (λ i. int_max (int_max (pos 0) (mark i)) (space i))
    ∙ ap (λ z. int_max z (size (plus from next.space))) (max_none _ (size_least (plus from next.mark)))

-- a sum in phase with two windows, the first of them of one tone
through_mark : (from first second : Phasor)
    → size (plus from (plus first second)) ≡ size (plus (plus from first) second)
through_mark from first second = ap size (sym (plus-assoc from first second))

through_space : (from first second : Phasor)
    → size (plus from (plus first (turn Space second))) ≡ size (plus (turn_back Space (plus from first)) second)
through_space from first second =
    ap size (sym (plus-assoc from first (turn Space second))) ∙ size-turn (plus from first) second

-- two windows, by the second one
pub largest-two : (from : Phasor) (next later : Correlations) → largest from (ahead Mark (next ∷ later ∷ []))
    ≡ int_max (largest (plus from next.mark) (ahead Mark (later ∷ [])))
    (largest (turn_back Space (plus from next.space)) (ahead Mark (later ∷ [])))
largest-two from next later =
    let mark = plus later.mark none in
    let space = plus later.space none in
    let back = turn_back Space (plus from next.space) in
    (λ i. int_max (int_max (int_max (int_max (pos 0) (through_mark from next.mark mark i))
    (through_mark from next.mark space i)) (through_space from next.space mark i))
    (through_space from next.space space i))
    ∙ max_two _ (size (plus back mark)) (size (plus back space)) (size_least (plus back mark))

-- with the past turned in the place of what is added
pub turned-one : (from : Phasor) (next : Correlations)
    → largest from (ahead Space (next ∷ [])) ≡ largest (turn_back Space from) (ahead Mark (next ∷ []))
turned-one from next =
    let mark = size-turn from (plus next.mark none) in
    let space = size-turn from (plus next.space none) in
    λ i. int_max (int_max (pos 0) (mark i)) (space i)

pub turned-two : (from : Phasor) (next later : Correlations) → largest from (ahead Space (next ∷ later ∷ []))
    ≡ largest (turn_back Space from) (ahead Mark (next ∷ later ∷ []))
turned-two from next later =
    let one = size-turn from (plus next.mark (plus later.mark none)) in
    let two = size-turn from (plus next.mark (plus later.space none)) in
    let three = size-turn from (plus next.space (turn Space (plus later.mark none))) in
    let four = size-turn from (plus next.space (turn Space (plus later.space none))) in
    λ i. int_max (int_max (int_max (int_max (pos 0) (one i)) (two i)) (three i)) (four i)
