-- The nine banks as they are made, and fed one after another.
use Rattle.hf_sensitive.proofs.Common.{◌≡◌, ◌≢◌, ℕ, ◌+◌, ◌*◌, ◌<◌, ◌≤◌, ℤ, List, [], ◌++◌, ◌∷◌, length, get_or, set, refl}
use Rattle.hf_sensitive.proofs.Common.{ap, sym, subst, ◌∙◌, arith, inl, inr, cases_eq, cases_lt, length_push, length-set, All}
use Rattle.hf_sensitive.proofs.Common.{Candidate, HeldBank, StandsFor, AllStandFor, AreAt, first_lane, places_in}
use Rattle.hf_sensitive.proofs.Common.{AddsAmong, AreAddedAmong, CanBePutFrom, least_end, EndsAtPlace}
use Rattle.std.proofs.Common.{get_or-set_same, get_or-set_other, get_or-append-add}
use Rattle.std.proofs.lemmas.List.{get_or_append_left}
use Rattle.hf_sensitive.proofs.FoundLemmas.{adds_by_no_lane, adds_lanes}

-- so many banks that have taken nothing
pub record AreFresh (banks : List HeldBank) (n : ℕ) : Type 0 where
  pub count : length banks ≡ n
  pub each : (k : ℕ) (d : HeldBank) → k < n
      → ((get_or banks k d).tones.bank ≡ k) × ((get_or banks k d).tones.count ≡ 0) × StandsFor (get_or banks k d) []

pub fresh_none : AreFresh [] 0
fresh_none = record { count = refl; each = λ k d l. absurd (omega arith) }

pub fresh_more : (banks now : List HeldBank) (n : ℕ) (bank : HeldBank) → AreFresh banks n → now ≡ banks ++ bank ∷ []
    → bank.tones.bank ≡ n → bank.tones.count ≡ 0 → StandsFor bank [] → AreFresh now (n + 1)
fresh_more banks now n bank h is number count stands = record {
  count = ap length is ∙ length_push banks bank ∙ ap (λ m. m + 1) h.count;
  each = λ k d l. elim (cases_lt k n) [
    | inl lt ↦ (let size = h.count in
        let here : get_or now k d ≡ get_or banks k d
        = ap (λ bs. get_or bs k d) is ∙ get_or_append_left banks (bank ∷ []) d k (omega arith) in
        subst (λ b. (b.tones.bank ≡ k) × (b.tones.count ≡ 0) × StandsFor b []) (sym here) (h.each k d lt))
    | inr ge ↦ (let size = h.count in
        let at : k ≡ length banks + 0 = omega arith in
        let here : get_or now k d ≡ bank
        = ap (λ bs. get_or bs k d) is ∙ ap (λ j. get_or (banks ++ bank ∷ []) j d) at
        ∙ get_or-append-add banks (bank ∷ []) 0 d in
        let k_is : n ≡ k = omega arith in
        subst (λ b. (b.tones.bank ≡ k) × (b.tones.count ≡ 0) × StandsFor b []) (sym here)
        (number ∙ k_is, count, stands))
  ];
}

pub fresh_at : (banks : List HeldBank) (n : ℕ) → n ≡ 9 → AreFresh banks n → AreAt 0 banks
fresh_at banks n all h = record {
  count = h.count ∙ all;
  each = λ k d l. let e = h.each k d (omega arith) in (e.0, e.1);
}

pub fresh_stand : (banks : List HeldBank) (n : ℕ) → n ≡ 9 → AreFresh banks n → AllStandFor banks []
fresh_stand banks n all h k d l = (h.each k d (omega arith)).2

-- ---- one bank after another

-- the banks below one were fed a block after so many samples
pub record HaveFed (position n : ℕ) (old now : List HeldBank) (block : List ℤ) (found : List Candidate) : Type 0 where
  pub size : length now ≡ 9
  pub fed : (k : ℕ) (d : HeldBank) → k < n → ((get_or now k d).tones.bank ≡ k)
      × ((get_or now k d).tones.count ≡ position + length block)
  pub rest : (k : ℕ) (d : HeldBank) → n ≤ k → get_or now k d ≡ get_or old k d
  pub stand : (x : List ℤ) → AllStandFor old x → (k : ℕ) (d : HeldBank) → k < n → StandsFor (get_or now k d) (x ++ block)
  pub heard : (x : List ℤ) → AllStandFor old x
      → AddsAmong (places_in (length x)) (places_in (length (x ++ block))) 32 (first_lane n) (x ++ block) [] found
  pub bounds : All (CanBePutFrom (least_end position)) found

pub fed_none : (position : ℕ) (old : List HeldBank) (block : List ℤ) (found : List Candidate) → length old ≡ 9
    → found ≡ [] → All (CanBePutFrom (least_end position)) found → HaveFed position 0 old old block found
fed_none position old block found size none bounds = record {
  size = size;
  fed = λ k d l. absurd (omega arith);
  rest = λ k d l. refl;
  stand = λ x h k d l. absurd (omega arith);
  heard = λ x h. subst (AddsAmong (places_in (length x)) (places_in (length (x ++ block))) 32 (first_lane 0) (x ++ block) [])
      (sym none) (adds_by_no_lane (places_in (length x)) (places_in (length (x ++ block))) 32 (x ++ block) []);
  bounds = bounds;
}

module _ (position n : ℕ) (old now : List HeldBank) (block : List ℤ) (found after : List Candidate) (was bank : HeldBank)
    (h : HaveFed position n old now block found) (at : AreAt position old) (l : n < 9) (there : was ≡ get_or now n was)
    (number : bank.tones.bank ≡ was.tones.bank) (count : bank.tones.count ≡ was.tones.count + length block)
    (stands : (x : List ℤ) → StandsFor was x → StandsFor bank (x ++ block))
    (adds : (x : List ℤ) → StandsFor was x
    → AddsAmong (places_in (length x)) (places_in (length (x ++ block))) (first_lane was.tones.bank)
    (first_lane was.tones.bank + 3) (x ++ block) found after)
    (bounds : All (CanBePutFrom (least_end position)) found → All (CanBePutFrom (least_end position)) after) where
  -- the bank as it stood at first
  here : was ≡ get_or old n was
  here = there ∙ h.rest n was (omega arith)

  number_is : was.tones.bank ≡ n
  number_is = ap (λ b. b.tones.bank) here ∙ (at.each n was l).0

  count_is : was.tones.count ≡ position
  count_is = ap (λ b. b.tones.count) here ∙ (at.each n was l).1

  stood : (x : List ℤ) → AllStandFor old x → StandsFor was x
  stood x all = subst (λ b. StandsFor b x) (sym here) (all n was l)

  set_same : (d : HeldBank) → get_or (set now n bank) n d ≡ bank
  set_same d = let s = h.size in get_or-set_same now n bank d (omega arith)

  pub fed_more : HaveFed position (n + 1) old (set now n bank) block after
  fed_more = record {
    size = length-set now n bank ∙ h.size;
    fed = λ k d small. elim (cases_eq k n) [
      | inl e ↦ subst (λ j. ((get_or (set now n bank) j d).tones.bank ≡ j)
          × ((get_or (set now n bank) j d).tones.count ≡ position + length block)) (sym e) (
            ap (λ b. b.tones.bank) (set_same d) ∙ number ∙ number_is,
            ap (λ b. b.tones.count) (set_same d) ∙ count ∙ ap (λ m. m + length block) count_is,
          )
      | inr ne ↦ subst (λ b. (b.tones.bank ≡ k) × (b.tones.count ≡ position + length block))
          (sym (get_or-set_other now n k bank d ne)) (h.fed k d (omega arith))
    ];
    rest = λ k d large.
        let other : k ≢ n = omega arith in
        get_or-set_other now n k bank d other ∙ h.rest k d (omega arith);
    stand = λ x all k d small. elim (cases_eq k n) [
      | inl e ↦ subst (λ j. StandsFor (get_or (set now n bank) j d) (x ++ block)) (sym e)
          (subst (λ b. StandsFor b (x ++ block)) (sym (set_same d)) (stands x (stood x all)))
      | inr ne ↦ subst (λ b. StandsFor b (x ++ block)) (sym (get_or-set_other now n k bank d ne))
          (h.stand x all k d (omega arith))
    ];
    heard = λ x all.
        let next : first_lane (n + 1) ≡ first_lane n + 3 = omega arith in
        let more = subst (λ b. AddsAmong (places_in (length x)) (places_in (length (x ++ block))) (first_lane b)
        (first_lane b + 3) (x ++ block) found after) number_is (adds x (stood x all)) in
        subst (λ high. AddsAmong (places_in (length x)) (places_in (length (x ++ block))) 32 high (x ++ block) [] after)
        (sym next)
        (adds_lanes (places_in (length x)) (places_in (length (x ++ block))) 32 (first_lane n) (first_lane n + 3)
        (x ++ block) [] found after (omega arith) (omega arith) (h.heard x all) more);
    bounds = bounds h.bounds;
  }

-- the next bank has counted as many samples as all had at first
pub counts : (position n : ℕ) (old now : List HeldBank) (block : List ℤ) (found : List Candidate) (was : HeldBank)
    → HaveFed position n old now block found → AreAt position old → n < 9 → was ≡ get_or now n was
    → was.tones.count ≡ position
counts position n old now block found was h at l there =
    ap (λ b. b.tones.count) (there ∙ h.rest n was (omega arith)) ∙ (at.each n was l).1

-- all banks were fed
module _ (position n : ℕ) (old now : List HeldBank) (block : List ℤ) (found : List Candidate) (all : n ≡ 9)
    (h : HaveFed position n old now block found) where
  pub all_at : AreAt (position + length block) now
  all_at = record { count = h.size; each = λ k d l. h.fed k d (omega arith) }

  pub all_stand : (x : List ℤ) → AllStandFor old x → AllStandFor now (x ++ block)
  all_stand x stand k d l = h.stand x stand k d (omega arith)

  pub all_found : (x : List ℤ) → AllStandFor old x
      → AreAddedAmong (places_in (length x)) (places_in (length (x ++ block))) 32 59 (x ++ block) found
  all_found x stand =
      let adds = h.heard x stand in
      let last : first_lane n ≡ 59 = omega arith in
      subst (λ high. AreAddedAmong (places_in (length x)) (places_in (length (x ++ block))) 32 high (x ++ block) found) last
      (subst (AreAddedAmong (places_in (length x)) (places_in (length (x ++ block))) 32 (first_lane n) (x ++ block))
      (sym adds.found) adds.are)
