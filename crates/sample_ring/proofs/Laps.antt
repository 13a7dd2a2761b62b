-- What a reader finds in the cell of its position, and what `answer` then computes to.
use Rattle.sample_ring.proofs.Common.{◌≡◌, ◌≢◌, ℕ, ◌+◌, ◌-◌, ◌%◌, ◌<◌, ◌≤◌, List, length, Some, Bool, false, sym, ap}
use Rattle.sample_ring.proofs.Common.{◌∙◌, subst, inl, inr, arith, lt_of_not-le, if◌then◌else◌, ℤ, slice_get}
use Rattle.sample_ring.proofs.Common.{add-mod_right, dite, dec_le, Got, Item, Gap, Empty, End, Entry, lap_of, sample_of}
use Rattle.sample_ring.proofs.Common.{TellsCell, answer}
use Rattle.std.proofs.Common.{eq-eqb, ne_eqb}
use Rattle.std.specs.Prelude.{nat_lt, ◌==◌}
use Rattle.std.proofs.Math.Nat.{mod-le, add-mod}
use Rattle.std.proofs.lemmas.Bool.{lt-ltb, le-ltb}
use Rattle.atomic_table.proofs.Lists.{one_turn}

-- what the word of a position's cell says to a reader that stands there
pub record Finds (n : ℕ) (published : List ℤ) (at word : ℕ) : Type 0 where
  pub empty : lap_of word ≤ at → length published ≤ at
  pub own : lap_of word ≡ at + 1 → slice_get published at ≡ Some (sample_of word)
  pub far : at + 1 < lap_of word → at + n < lap_of word
  pub turn : at + 1 < lap_of word → (lap_of word - n) % n ≡ (at + 1) % n
  pub within : at + 1 < lap_of word → lap_of word ≤ length published

-- the oldest position of a full ring stands one after the newest, a turn earlier
oldest : (n at p : ℕ) → n ≤ p → p % n ≡ at % n → (p + 1 - n) % n ≡ (at + 1) % n
oldest n at p le same =
    let r : ℕ = p + 1 - n in
    let back : r + n ≡ p + 1 = omega arith in
    sym (add-mod_right r n) ∙ ap (λ k. k % n) back ∙ add-mod p 1 n ∙ ap (λ k. (k + 1 % n) % n) same
    ∙ sym (add-mod at 1 n)

pub finds : (n : ℕ) (published : List ℤ) (at word : ℕ) → 0 < n → at ≤ length published
    → TellsCell n published (at % n) word → Finds n published at word
finds n published at word some within (inl (is_zero, none_yet)) =
    let lap : lap_of word ≡ 0 = ap lap_of is_zero in
    let low : at % n ≤ at = mod-le at n in
    record {
      empty = λ _. omega arith;
      own = λ e. absurd (omega arith);
      far = λ lt. absurd (omega arith);
      turn = λ lt. absurd (omega arith);
      within = λ lt. absurd (omega arith);
    }
finds n published at word some within (inr (p, same, inside, newest, lap, sample)) =
    let far_of : at < p → at + n ≤ p = λ lt. dite (dec_le (at + n) p) (λ le. le)
    (λ gt. let near : p < at + n = lt_of_not-le gt in let one : at ≡ p =
    one_turn at p n (omega arith) near (sym same) in absurd (omega arith)) in
    record {
      empty = λ le. dite (dec_le (p + n) at) (λ past. omega arith)
          (λ gt. let near : at < p + n = lt_of_not-le gt in let one : p ≡ at =
          one_turn p at n (omega arith) near same in absurd (omega arith));
      own = λ e. let one : p ≡ at = omega arith in subst (λ (k : ℕ). slice_get published k ≡ Some (sample_of word))
          one sample;
      far = λ lt. let wide : at + n ≤ p = far_of (omega arith) in omega arith;
      turn = λ lt. let wide : at + n ≤ p = far_of (omega arith) in ap (λ k. (k - n) % n) lap
          ∙ oldest n at p (omega arith) same;
      within = λ lt. omega arith;
    }

-- `answer` by its three tests
abbrev tested : Bool → Bool → Bool → ℕ → Entry → Got
tested own later last n e = if own then Item e.at (sample_of e.cell) else if later then Gap e.at (lap_of e.cell - n)
    else if last then End e.at else Empty e.at

pub answer_item : (n : ℕ) (e : Entry) → lap_of e.cell ≡ e.at + 1 → answer n e ≡ Item e.at (sample_of e.cell)
answer_item n e h = ap (λ own. tested own (nat_lt (e.at + 1) (lap_of e.cell)) (e.last == e.at + 1) n e)
    (eq-eqb (lap_of e.cell) (e.at + 1) h)

pub answer_gap : (n : ℕ) (e : Entry) → e.at + 1 < lap_of e.cell → answer n e ≡ Gap e.at (lap_of e.cell - n)
answer_gap n e h =
    ap (λ own. tested own (nat_lt (e.at + 1) (lap_of e.cell)) (e.last == e.at + 1) n e)
    (ne_eqb (lap_of e.cell) (e.at + 1) (λ same. omega arith))
    ∙ ap (λ later. tested false later (e.last == e.at + 1) n e) (lt-ltb (e.at + 1) (lap_of e.cell) h)

nothing_there : (n : ℕ) (e : Entry) → lap_of e.cell ≤ e.at → answer n e ≡ tested false false (e.last == e.at + 1) n e
nothing_there n e h =
    ap (λ own. tested own (nat_lt (e.at + 1) (lap_of e.cell)) (e.last == e.at + 1) n e)
    (ne_eqb (lap_of e.cell) (e.at + 1) (λ same. omega arith))
    ∙ ap (λ later. tested false later (e.last == e.at + 1) n e) (le-ltb (e.at + 1) (lap_of e.cell) (omega arith))

pub answer_end : (n : ℕ) (e : Entry) → lap_of e.cell ≤ e.at → e.last ≡ e.at + 1 → answer n e ≡ End e.at
answer_end n e h last = nothing_there n e h ∙ ap (λ over. tested false false over n e) (eq-eqb e.last (e.at + 1) last)

pub answer_empty : (n : ℕ) (e : Entry) → lap_of e.cell ≤ e.at → e.last ≢ e.at + 1 → answer n e ≡ Empty e.at
answer_empty n e h last = nothing_there n e h ∙ ap (λ over. tested false false over n e) (ne_eqb e.last (e.at + 1) last)
