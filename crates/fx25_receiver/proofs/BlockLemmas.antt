-- Stretch after stretch of a piece, window after window, and a block as two pieces.
use Rattle.fx25_receiver.proofs.Common.{◌≡◌, ℕ, ◌+◌, ◌-◌, ◌<◌, ◌≤◌, ℤ, List, ◌++◌, length, take, drop, ap, sym}
use Rattle.fx25_receiver.proofs.Common.{◌∙◌, subst, arith, append-nil, append_assoc, take_all, refl, Heard, HasTaken}
use Rattle.std.proofs.Common.{length-drop}
use Rattle.std.proofs.Math.Seq.{take-add}
use Rattle.std.proofs.lemmas.List.{drop-drop, drop-take, drop_at, length-take-le, take-append-drop, take-take, take_at}
use Rattle.slicer_bank.proofs.SevenLemmas.{last_seven-append, length-last_seven, seven_after_first}
use Rattle.fx25_receiver.proofs.Common.{HeldLane, Keeps, last_seven}
use Rattle.fx25_receiver.proofs.Common.{Bool}
use Rattle.fx25_receiver.proofs.AheadLemmas.{all_caught_up}
use Rattle.fx25_receiver.specs.Ahead.{IsAhead}
use Rattle.fx25_receiver.specs.Held.{AreAfter, Held}

-- Stretches of a piece were taken, each 64 samples further than the one before it. What is left of the piece begins with
-- the seven samples before the next one.
pub record HasSlid (initial now : Held) (piece rest : List ℤ) (earlier given : List Heard) : Type 0 where
  pub count : ℕ
  pub within : count + 7 ≤ length piece
  pub rest_is : rest ≡ drop count piece
  pub taken : (x : List ℤ) (before : List Heard) → last_seven x ≡ take 7 piece
      → HasTaken initial x (before ++ earlier) → HasTaken now (x ++ take count (drop 7 piece)) (before ++ given)
  pub position : now.position ≡ initial.position + count
  pub recent : now.recent ≡ initial.recent
  pub spent : now.spent ≡ initial.spent

pub slid_none : (initial : Held) (piece : List ℤ) (given : List Heard) → 7 ≤ length piece
    → HasSlid initial initial piece piece given given
slid_none initial piece given seven = record {
  count = 0;
  within = omega arith;
  rest_is = refl;
  taken = λ x before last h. subst (λ y. HasTaken initial y (before ++ given)) (sym (append-nil x)) h;
  position = omega arith;
  recent = refl;
  spent = refl;
}

-- the last seven samples after so many of a piece past its first seven
seven_on : (x piece : List ℤ) (count : ℕ) → count + 7 ≤ length piece → last_seven x ≡ take 7 piece
    → last_seven (x ++ take count (drop 7 piece)) ≡ take 7 (drop count piece)
seven_on x piece count within last =
    let more : List ℤ = take count (drop 7 piece) in
    let size : length more ≡ count = length-take-le count (drop 7 piece) (omega (arith, length-drop 7 piece)) in
    let sum : 7 + count ≡ count + 7 = omega arith in
    last_seven-append x more ∙ ap (λ n. drop n (last_seven x ++ more)) size
    ∙ ap (λ seven. drop count (seven ++ more)) last ∙ ap (drop count) (sym (take-add 7 count piece))
    ∙ ap (λ n. drop count (take n piece)) sum ∙ drop-take count 7 piece

-- the first seven of what is taken next
seven_of : (piece stretch : List ℤ) (count n : ℕ) → stretch ≡ take (7 + n) (drop count piece)
    → take 7 stretch ≡ take 7 (drop count piece)
seven_of piece stretch count n is = ap (take 7) is ∙ take-take 7 (7 + n) (drop count piece) (omega arith)

-- so many samples further
one_further : (x piece stretch : List ℤ) (count n : ℕ) → stretch ≡ take (7 + n) (drop count piece)
    → (x ++ take count (drop 7 piece)) ++ drop 7 stretch ≡ x ++ take (count + n) (drop 7 piece)
one_further x piece stretch count n is =
    let sum : count + 7 ≡ 7 + count = omega arith in
    let last : drop 7 stretch ≡ take n (drop count (drop 7 piece)) = ap (drop 7) is
    ∙ drop-take 7 n (drop count piece) ∙ ap (take n) (drop-drop 7 count piece)
    ∙ ap (λ m. take n (drop m piece)) sum ∙ ap (take n) (sym (drop-drop count 7 piece)) in
    append_assoc x (take count (drop 7 piece)) (drop 7 stretch)
    ∙ ap (λ xs. x ++ (take count (drop 7 piece) ++ xs)) last
    ∙ ap (λ xs. x ++ xs) (sym (take-add count n (drop 7 piece)))

pub slid_more : (initial was now : Held) (piece rest stretch left : List ℤ) (earlier given more : List Heard)
    → HasSlid initial was piece rest earlier given → 71 ≤ length rest → stretch ≡ take 71 rest → left ≡ drop 64 rest
    → ((x : List ℤ) (before : List Heard) → last_seven x ≡ take 7 stretch → HasTaken was x (before ++ given)
    → HasTaken now (x ++ drop 7 stretch) (before ++ more))
    → now.position ≡ was.position + 64 → now.recent ≡ was.recent → now.spent ≡ was.spent
    → HasSlid initial now piece left earlier more
slid_more initial was now piece rest stretch left earlier given more h enough stretch_is left_is stride position recent
    spent =
    let count = h.count in
    let so_far = h.position in
    let size : length rest ≡ length piece - count = ap length h.rest_is ∙ length-drop count piece in
    let there : stretch ≡ take 71 (drop count piece) = stretch_is ∙ ap (take 71) h.rest_is in
    record {
      count = count + 64;
      within = omega arith;
      rest_is = left_is ∙ ap (drop 64) h.rest_is ∙ drop-drop 64 count piece;
      taken = λ x before first taken.
          let y : List ℤ = x ++ take count (drop 7 piece) in
          subst (λ z. HasTaken now z (before ++ more)) (one_further x piece stretch count 64 there)
          (stride y before (seven_on x piece count h.within first ∙ sym (seven_of piece stretch count 64 there))
          (h.taken x before first taken));
      position = omega arith;
      recent = recent ∙ h.recent;
      spent = spent ∙ h.spent;
    }

-- what is left of the piece is taken, too
pub slid_all : (initial was now : Held) (piece rest : List ℤ) (earlier given more : List Heard)
    → HasSlid initial was piece rest earlier given
    → ((y : List ℤ) (others : List Heard) → last_seven y ≡ take 7 rest → HasTaken was y (others ++ given)
    → HasTaken now (y ++ drop 7 rest) (others ++ more))
    → (x : List ℤ) (before : List Heard) → last_seven x ≡ take 7 piece → HasTaken initial x (before ++ earlier)
    → HasTaken now (x ++ drop 7 piece) (before ++ more)
slid_all initial was now piece rest earlier given more h last x before first taken =
    let count = h.count in
    let front : List ℤ = take count (drop 7 piece) in
    let sum : count + 7 ≡ 7 + count = omega arith in
    let back : drop 7 rest ≡ drop count (drop 7 piece) = ap (drop 7) h.rest_is ∙ drop-drop 7 count piece
    ∙ ap (λ n. drop n piece) sum ∙ sym (drop-drop count 7 piece) in
    let whole : (x ++ front) ++ drop 7 rest ≡ x ++ drop 7 piece = append_assoc x front (drop 7 rest)
    ∙ ap (λ ys. x ++ (front ++ ys)) back ∙ ap (λ ys. x ++ ys) (take-append-drop count (drop 7 piece)) in
    subst (λ z. HasTaken now z (before ++ more)) whole
    (last (x ++ front) before (seven_on x piece count h.within first ∙ ap (take 7) (sym h.rest_is))
    (h.taken x before first taken))

pub slid_position : (initial was now : Held) (piece rest : List ℤ) (earlier given : List Heard)
    → HasSlid initial was piece rest earlier given → now.position + 7 ≡ was.position + length rest
    → now.position + 7 ≡ initial.position + length piece
slid_position initial was now piece rest earlier given h last =
    let within = h.within in
    let position = h.position in
    let size : length rest ≡ length piece - h.count = ap length h.rest_is ∙ length-drop h.count piece in
    omega arith

-- ---- the samples of a piece one by one, while some lanes are ahead

pub record HasFollowed (initial now : Held) (waiting : List Bool) (piece rest : List ℤ) (earlier given : List Heard)
    : Type 0 where
  pub count : ℕ
  pub within : count + 7 ≤ length piece
  pub rest_is : rest ≡ drop count piece
  pub taken : (x : List ℤ) (before : List Heard) → last_seven x ≡ take 7 piece
      → IsAhead initial waiting x (x ++ drop 7 piece) (before ++ earlier)
      → IsAhead now waiting (x ++ take count (drop 7 piece)) (x ++ drop 7 piece) (before ++ given)
  pub position : now.position ≡ initial.position + count
  pub recent : now.recent ≡ initial.recent
  pub spent : now.spent ≡ initial.spent

pub followed_none : (initial : Held) (waiting : List Bool) (piece : List ℤ) (given : List Heard) → 7 ≤ length piece
    → HasFollowed initial initial waiting piece piece given given
followed_none initial waiting piece given seven = record {
  count = 0;
  within = omega arith;
  rest_is = refl;
  taken = λ x before last h.
      subst (λ y. IsAhead initial waiting y (x ++ drop 7 piece) (before ++ given)) (sym (append-nil x)) h;
  position = omega arith;
  recent = refl;
  spent = refl;
}

pub followed_more : (initial was now : Held) (waiting : List Bool) (piece rest window left : List ℤ)
    (earlier given more : List Heard) → HasFollowed initial was waiting piece rest earlier given → 8 ≤ length rest
    → window ≡ take 8 rest → left ≡ drop 1 rest
    → ((x after : List ℤ) (before : List Heard) → last_seven x ≡ take 7 window
    → IsAhead was waiting x ((x ++ drop 7 window) ++ after) (before ++ given)
    → IsAhead now waiting (x ++ drop 7 window) ((x ++ drop 7 window) ++ after) (before ++ more))
    → now.position ≡ was.position + 1 → now.recent ≡ was.recent → now.spent ≡ was.spent
    → HasFollowed initial now waiting piece left earlier more
followed_more initial was now waiting piece rest window left earlier given more h enough window_is left_is step position
    recent spent =
    let count = h.count in
    let so_far = h.position in
    let size : length rest ≡ length piece - count = ap length h.rest_is ∙ length-drop count piece in
    let there : window ≡ take 8 (drop count piece) = window_is ∙ ap (take 8) h.rest_is in
    record {
      count = count + 1;
      within = omega arith;
      rest_is = left_is ∙ ap (drop 1) h.rest_is ∙ drop-drop 1 count piece;
      taken = λ x before first taken.
          let y : List ℤ = x ++ take count (drop 7 piece) in
          let after : List ℤ = drop (count + 1) (drop 7 piece) in
          let next = one_further x piece window count 1 there in
          let whole : x ++ drop 7 piece ≡ (y ++ drop 7 window) ++ after =
          sym (ap (λ z. z ++ after) next ∙ append_assoc x (take (count + 1) (drop 7 piece)) after
          ∙ ap (λ ys. x ++ ys) (take-append-drop (count + 1) (drop 7 piece))) in
          subst (λ z. IsAhead now waiting z (x ++ drop 7 piece) (before ++ more)) next
          (subst (λ z. IsAhead now waiting (y ++ drop 7 window) z (before ++ more)) (sym whole)
          (step y after before (seven_on x piece count h.within first ∙ sym (seven_of piece window count 1 there))
          (subst (λ z. IsAhead was waiting y z (before ++ given)) whole (h.taken x before first taken))));
      position = omega arith;
      recent = recent ∙ h.recent;
      spent = spent ∙ h.spent;
    }

pub followed_all : (initial now : Held) (waiting : List Bool) (piece rest : List ℤ) (earlier given : List Heard)
    → HasFollowed initial now waiting piece rest earlier given → length rest < 8 → (x : List ℤ) (before : List Heard)
    → last_seven x ≡ take 7 piece → IsAhead initial waiting x (x ++ drop 7 piece) (before ++ earlier)
    → HasTaken now (x ++ drop 7 piece) (before ++ given)
followed_all initial now waiting piece rest earlier given h few x before first ahead =
    let within = h.within in
    let size : length rest ≡ length piece - h.count = ap length h.rest_is ∙ length-drop h.count piece in
    let all : take h.count (drop 7 piece) ≡ drop 7 piece =
    take_all h.count (drop 7 piece) (omega (arith, length-drop 7 piece)) in
    all_caught_up now.lanes now.position now.kept waiting (x ++ drop 7 piece) (before ++ given)
    (subst (λ ys. IsAhead now waiting (x ++ ys) (x ++ drop 7 piece) (before ++ given)) all (h.taken x before first ahead))

pub followed_position : (initial now : Held) (waiting : List Bool) (piece rest : List ℤ) (earlier given : List Heard)
    → HasFollowed initial now waiting piece rest earlier given → length rest < 8
    → now.position + 7 ≡ initial.position + length piece
followed_position initial now waiting piece rest earlier given h few =
    let within = h.within in
    let position = h.position in
    let size : length rest ≡ length piece - h.count = ap length h.rest_is ∙ length-drop h.count piece in
    omega arith

-- ---- a block: first a piece of the last seven samples and its first seven, and then the block itself

pub first_piece : (initial now : Held) (x recent first piece : List ℤ) (before earlier given : List Heard)
    → recent ≡ last_seven x → piece ≡ recent ++ first
    → ((y : List ℤ) (others : List Heard) → last_seven y ≡ take 7 piece → HasTaken initial y (others ++ earlier)
    → HasTaken now (y ++ drop 7 piece) (others ++ given))
    → HasTaken initial x (before ++ earlier) → HasTaken now (x ++ first) (before ++ given)
first_piece initial now x recent first piece before earlier given last is slid taken =
    let size : length recent ≡ 7 = ap length last ∙ length-last_seven x in
    let front : last_seven x ≡ take 7 piece = sym last ∙ sym (ap (take 7) is ∙ take_at recent first 7 size) in
    let back : drop 7 piece ≡ first = ap (drop 7) is ∙ drop_at recent first 7 size in
    subst (λ ys. HasTaken now (x ++ ys) (before ++ given)) back (slid x before front taken)

pub second_piece : (was now : Held) (x block : List ℤ) (before given more : List Heard) → 7 ≤ length block
    → ((y : List ℤ) (others : List Heard) → last_seven y ≡ take 7 block → HasTaken was y (others ++ given)
    → HasTaken now (y ++ drop 7 block) (others ++ more))
    → HasTaken was (x ++ take 7 block) (before ++ given) → HasTaken now (x ++ block) (before ++ more)
second_piece was now x block before given more long slid taken =
    let whole : (x ++ take 7 block) ++ drop 7 block ≡ x ++ block = append_assoc x (take 7 block) (drop 7 block)
    ∙ ap (λ ys. x ++ ys) (take-append-drop 7 block) in
    subst (λ z. HasTaken now z (before ++ more)) whole
    (slid (x ++ take 7 block) before (sym (seven_after_first x block long)) taken)

-- what is past was forgotten
pub fewer_kept : (lanes : List HeldLane) (position : ℕ) (kept fewer : List Heard) (x : List ℤ)
    (given : List Heard) → AreAfter lanes position kept x given
    → ((heard : List Heard) (was : ℕ) → was ≤ position → Keeps kept was heard → Keeps fewer position heard)
    → AreAfter lanes position fewer x given
fewer_kept lanes position kept fewer x given after forget =
    let count = after.count in
    let h = after.has_heard in
    record {
      count = after.count;
      lanes_stand = after.lanes_stand;
      has_heard = record {
        heard = h.heard;
        are = h.are;
        keeps = subst (λ n. Keeps fewer n h.heard) count (forget h.heard (length x) (omega arith) h.keeps);
        given_is = h.given_is;
      };
    }
