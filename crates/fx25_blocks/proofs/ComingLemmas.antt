-- How long a block keeps coming in, after one bit more.
use Rattle.fx25_blocks.proofs.Common.{◌≡◌, ℕ, zero, suc, ◌+◌, ◌-◌, ◌*◌, ◌<◌, ◌≤◌, ◌↔◌, min, Bool, List, [], ◌∷◌, ◌++◌}
use Rattle.fx25_blocks.proofs.Common.{length, take, drop, refl, ap, subst, ◌∙◌, sym, inl, inr, arith, append_assoc}
use Rattle.fx25_blocks.proofs.Common.{append-nil, length-append, length-drop, length_push, take_all, cases_lt, drop_at}
use Rattle.fx25_blocks.proofs.Common.{take-append-le, length-take-le, IsTag, bits_of_64, block_length, differing, tag_bits}
use Rattle.std.proofs.Common.{max, ◌⊎◌, ⊎_elim}
use Rattle.std.proofs.Math.Seq.{take-append-add}
use Rattle.std.proofs.lemmas.List.{take-append-drop}
use Rattle.fx25_blocks.specs.Began.{BeginsToCome}
use Rattle.fx25_blocks.specs.Coming.{IsComingFor, IsSureTag}
use Rattle.fx25_blocks.specs.Held.{ComesFor, after_zeros}
use Rattle.fx25_blocks.proofs.ReaderLemmas.{last_64}

-- nothing is coming in before the first bit
pub comes_none : ComesFor 0 []
comes_none more = (
  λ below. absurd (omega arith),
  λ h. let none : List Bool = [] in
      let size : 0 ≡ length h.before + (length h.heard + length h.rest) = ap length h.bits_are
      ∙ length-append h.before (h.heard ++ h.rest)
      ∙ ap (λ n. length h.before + n) (length-append h.heard h.rest) in
      absurd (omega (arith, h.sure.size)),
)

-- what was coming in before the last bit
coming_less : (b : List Bool) (bit : Bool) (more : ℕ) (h : IsComingFor more (b ++ bit ∷ [])) → 0 < length h.rest
    → IsComingFor (more + 1) b
coming_less b bit more h some =
    let n : ℕ = length h.rest - 1 in
    let size : length b + 1 ≡ length h.before + (length h.heard + length h.rest) = sym (length_push b bit)
    ∙ ap length h.bits_are ∙ length-append h.before (h.heard ++ h.rest)
    ∙ ap (λ m. length h.before + m) (length-append h.heard h.rest) in
    let at : length b ≡ length h.before + (length h.heard + n) = omega arith in
    let within = h.within in
    let small : length (take n h.rest) ≡ n = length-take-le n h.rest (omega arith) in
    record {
      tag = h.tag;
      before = h.before;
      heard = h.heard;
      rest = take n h.rest;
      is_tag = h.is_tag;
      bits_are = sym (take_all (length b) b (omega arith)) ∙ sym (take-append-le (length b) b (bit ∷ []) (omega arith))
          ∙ ap (take (length b)) h.bits_are
          ∙ ap (λ k. take k (h.before ++ (h.heard ++ h.rest))) at
          ∙ take-append-add h.before (h.heard ++ h.rest) (length h.heard + n)
          ∙ ap (λ l. h.before ++ l) (take-append-add h.heard h.rest n);
      sure = h.sure;
      within = omega arith;
    }

coming_more : (b : List Bool) (bit : Bool) (more : ℕ) → IsComingFor (more + 1) b → IsComingFor more (b ++ bit ∷ [])
coming_more b bit more h =
    let size = length_push h.rest bit in
    let within = h.within in
    record {
      tag = h.tag;
      before = h.before;
      heard = h.heard;
      rest = h.rest ++ bit ∷ [];
      is_tag = h.is_tag;
      bits_are = ap (λ l. l ++ bit ∷ []) h.bits_are ∙ append_assoc h.before (h.heard ++ h.rest) (bit ∷ [])
          ∙ ap (λ l. h.before ++ l) (append_assoc h.heard h.rest (bit ∷ []));
      sure = h.sure;
      within = omega arith;
    }

module _ (b : List Bool) (register taken : ℕ) (held : bits_of_64 register ≡ drop (length b) (after_zeros b))
    (count : taken ≡ min 2104 (length b)) where
  -- a tag that ends with the last bit, and its block
  coming_new : (more : ℕ) → BeginsToCome register taken more → IsComingFor more b
  coming_new more h =
      let n : ℕ = length b - 64 in
      let whole = h.whole in
      let within = h.within in
      let heard : bits_of_64 register ≡ drop n b = held ∙ last_64 b (omega arith) in
      record {
        tag = h.tag;
        before = take n b;
        heard = drop n b;
        rest = [];
        is_tag = h.is_tag;
        bits_are = sym (take-append-drop n b) ∙ ap (λ l. take n b ++ l) (sym (append-nil (drop n b)));
        sure = record {
          size = omega (arith, length-drop n b);
          near = subst (λ l. differing l (tag_bits h.tag) ≤ 8) heard h.sure;
        };
        within = omega arith;
      }

  coming_begins : (more : ℕ) (h : IsComingFor more b) → length h.rest ≡ 0 → BeginsToCome register taken more
  coming_begins more h none =
      let size : length b ≡ length h.before + (length h.heard + length h.rest) = ap length h.bits_are
      ∙ length-append h.before (h.heard ++ h.rest)
      ∙ ap (λ n. length h.before + n) (length-append h.heard h.rest) in
      let n : ℕ = length b - 64 in
      let sure = h.sure.size in
      let within = h.within in
      let last : drop n b ≡ h.heard ++ h.rest = ap (drop n) h.bits_are
      ∙ drop_at h.before (h.heard ++ h.rest) n (omega arith) in
      let empty : h.rest ≡ [] = no_more h.rest none in
      let heard : bits_of_64 register ≡ h.heard = held ∙ last_64 b (omega arith) ∙ last
      ∙ ap (λ l. h.heard ++ l) empty ∙ append-nil h.heard in
      record {
        tag = h.tag;
        is_tag = h.is_tag;
        whole = omega arith;
        sure = subst (λ l. differing l (tag_bits h.tag) ≤ 8) (sym heard) h.sure.near;
        within = omega arith;
      }
    where
      no_more : (l : List Bool) → length l ≡ 0 → l ≡ []
      no_more [] e = refl
      no_more (x ∷ l) e = absurd (omega arith)

pub comes_push : (b : List Bool) (bit : Bool) (register taken was begun : ℕ)
    → bits_of_64 register ≡ drop (length (b ++ bit ∷ [])) (after_zeros (b ++ bit ∷ []))
    → taken ≡ min 2104 (length (b ++ bit ∷ []))
    → ((more : ℕ) → (more < begun) ↔ BeginsToCome register taken more)
    → ComesFor was b → ComesFor (max begun (was - 1)) (b ++ bit ∷ [])
comes_push b bit register taken was begun held count begins comes more = (
  λ below. elim (cases_lt more begun) [
    | inl new ↦ coming_new (b ++ bit ∷ []) register taken held count more ((begins more).0 new)
    | inr old ↦ coming_more b bit more ((comes (more + 1)).0 (omega arith))
  ],
  λ h. elim (cases_lt 0 (length h.rest)) [
    | inl some ↦ let earlier = (comes (more + 1)).1 (coming_less b bit more h some) in omega arith
    | inr none ↦ let new = (begins more).1 (coming_begins (b ++ bit ∷ []) register taken held count more h (omega arith)) in
        omega arith
  ],
)
