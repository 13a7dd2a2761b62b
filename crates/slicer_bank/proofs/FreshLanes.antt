-- Lanes as they are made.
use Rattle.slicer_bank.proofs.Common.{◌≡◌, ℕ, ◌+◌, ◌<◌, List, [], ◌∷◌, ◌++◌, length, get_or, ap, sym, ◌∙◌, arith, subst}
use Rattle.slicer_bank.proofs.Common.{refl, inl, inr, cases_lt, get_or_append_left, length_push, Tone, tones_at}
use Rattle.slicer_bank.proofs.Common.{length-tones_at, All, All-nil, All-cons, All-append, HeldLane, AsksFor}
use Rattle.slicer_bank.proofs.Common.{LaneStandsFor, LanesStandFor}
use Rattle.std.proofs.lemmas.List.{get_or_push}

-- so many lanes that have taken nothing, and listen for so many flags in a row
pub record AreFresh (flags n : ℕ) (lanes : List HeldLane) : Type 0 where
  pub count : length lanes ≡ n
  pub each : (k : ℕ) (d : HeldLane) → k < n → LaneStandsFor (get_or lanes k d) []
  pub asks : All (AsksFor flags) lanes

pub fresh_more : (flags n : ℕ) (lanes : List HeldLane) (lane : HeldLane) → AreFresh flags n lanes
    → LaneStandsFor lane [] → AsksFor flags lane → AreFresh flags (n + 1) (lanes ++ lane ∷ [])
fresh_more flags n lanes lane h stands asks = record {
  asks = All-append (AsksFor flags) lanes (lane ∷ []) h.asks
      (All-cons (AsksFor flags) lane [] asks (All-nil (AsksFor flags)));
  count = length_push lanes lane ∙ ap (λ t. t + 1) h.count;
  each = λ k d l. elim (cases_lt k n) [
    | inl lt ↦ subst (λ t. LaneStandsFor t [])
        (sym (get_or_append_left lanes (lane ∷ []) d k (let e = h.count in omega arith))) (h.each k d lt)
    | inr ge ↦ (let last : k ≡ n = omega arith in subst (λ t. LaneStandsFor t [])
        (sym (get_or_push lanes lane d k (h.count ∙ sym last))) stands)
  ];
}

-- no samples give no tones
tones_of_none : (offset : ℕ) → tones_at offset [] ≡ []
tones_of_none offset = empty (tones_at offset []) (length-tones_at offset [] ∙ omega arith)
  where
    empty : (tones : List Tone) → length tones ≡ 0 → tones ≡ []
    empty [] h = refl
    empty (t ∷ tones) h = absurd (omega arith)

pub stand_fresh : (flags n : ℕ) (lanes : List HeldLane) → n ≡ 8 → AreFresh flags n lanes → LanesStandFor lanes []
stand_fresh flags n lanes all h k d l = subst (LaneStandsFor (get_or lanes k d)) (sym (tones_of_none k))
    (h.each k d (omega arith))
