-- What the lanes of short wave hear of a reader that meets no gap are the candidates of its samples.
use Rattle.live_receiver.proofs.Common.{◌≡◌, zero, suc, ◌+◌, ◌*◌, ◌/◌, ◌%◌, ◌<◌, ◌↔◌, inl, inr, Bool, true, false}
use Rattle.live_receiver.proofs.Common.{ℤ, List, [], ◌∷◌, length, refl, ap, sym, subst, ◌∙◌, arith, Contains, Got}
use Rattle.live_receiver.proofs.Common.{Candidate, Stretch, stretches, IsCandidate, IsAdded, end_sample, IsHeardIn}
use Rattle.live_receiver.proofs.Common.{IsHeardByOne, IsAddedInOne, IsHeardInOne, AreHeard, moved, moved_added}
use Rattle.hf_modem.specs.Candidates.{AreCandidates}
use Rattle.hf_modem.proofs.CandidateLemmas.{end_sample-is}
use Rattle.hf_sensitive.specs.Candidates.{IsHeard, AreHeard as AreHeardBySensitive}

-- a candidate counted from the first sample
unmoved : (x : List ℤ) (item : Candidate) → IsCandidate x item → moved 0 item ≡ item
unmoved x item c =
    let at = end_sample-is x item c.index c.ends in
    let small = c.offset in
    let end : (0 + end_sample item) / 4 ≡ item.end = omega arith in
    let lane : (0 + end_sample item) % 32 ≡ item.offset = omega arith in
    ap (λ v. record item { end = v; offset = (0 + end_sample item) % 32 }) end
    ∙ ap (λ v. record item { offset = v }) lane

unmoved_added : (item : Candidate) → moved_added 0 item ≡ item
unmoved_added item =
    let end : (0 + 4 * item.end) / 4 ≡ item.end = omega arith in
    ap (λ v. record item { end = v }) end

past_zero : (x : List ℤ) (item : Candidate) → IsCandidate x item → 0 < end_sample item
past_zero x item c = let at = end_sample-is x item c.index c.ends in omega arith

only_one : (s t : Stretch) → Contains (s ∷ []) t → s ≡ t
only_one s t (zero, l, e) = e
only_one s t (suc k, l, e) = absurd (omega arith)

abbrev the_stretch : List ℤ → Stretch
the_stretch x = record { begin = 0; samples = x }

-- what a decoder hears
abbrev IsDecoded : Bool → List ℤ → Candidate → Type 0
IsDecoded false x item = IsCandidate x item
IsDecoded true x item = IsHeard x item

one_decoded : (x : List ℤ) (item : Candidate) → IsHeardByOne (the_stretch x) item → IsCandidate x item
one_decoded x item h = subst (IsCandidate x) (sym (h.item_is ∙ unmoved x h.heard h.candidate)) h.candidate

decoded_one : (x : List ℤ) (item : Candidate) → IsCandidate x item → IsHeardByOne (the_stretch x) item
decoded_one x item c = record { heard = item; candidate = c; item_is = sym (unmoved x item c) }

added_decoded : (x : List ℤ) (item : Candidate) → IsAddedInOne (the_stretch x) item → IsAdded x item
added_decoded x item h = subst (IsAdded x) (sym (h.item_is ∙ unmoved_added h.heard)) h.added

decoded_added : (x : List ℤ) (item : Candidate) → IsAdded x item → IsAddedInOne (the_stretch x) item
decoded_added x item c = record { heard = item; added = c; item_is = sym (unmoved_added item) }

decoded : (sensitive : Bool) (x : List ℤ) (item : Candidate) → IsHeardInOne sensitive (the_stretch x) item
    → IsDecoded sensitive x item
decoded false x item h = one_decoded x item h
decoded true x item (inl h) = inl (one_decoded x item h)
decoded true x item (inr h) = inr (added_decoded x item h)

heard_one : (sensitive : Bool) (x : List ℤ) (item : Candidate) → IsDecoded sensitive x item
    → IsHeardInOne sensitive (the_stretch x) item
heard_one false x item c = decoded_one x item c
heard_one true x item (inl c) = inl (decoded_one x item c)
heard_one true x item (inr c) = inr (decoded_added x item c)

module _ (sensitive : Bool) (answers : List Got) (x : List ℤ) (one : stretches answers ≡ the_stretch x ∷ []) where
  decoded_of : (item : Candidate) → IsHeardIn sensitive answers item → IsDecoded sensitive x item
  decoded_of item h =
      let same : the_stretch x ≡ h.stretch
      = only_one (the_stretch x) h.stretch (subst (λ l. Contains l h.stretch) one h.is) in
      decoded sensitive x item (subst (λ (s : Stretch). IsHeardInOne sensitive s item) (sym same) h.heard)

  heard_of : (item : Candidate) → IsDecoded sensitive x item → IsHeardIn sensitive answers item
  heard_of item c = record {
    stretch = the_stretch x;
    is = subst (λ l. Contains l (the_stretch x)) (sym one)
        (0, (let l : 0 < length (the_stretch x ∷ []) = omega arith in l), refl);
    heard = heard_one sensitive x item c;
  }

pub as_decoded : (answers : List Got) (x : List ℤ) (items : List Candidate)
    → stretches answers ≡ the_stretch x ∷ [] → AreHeard false answers items ↔ AreCandidates x items
as_decoded answers x items one = (
  λ are. record {
    each = λ k d l.
        let c = decoded_of false answers x one _ (are.each k d l) in
        (c, past_zero x _ c);
    whole = λ item c l. are.whole item (heard_of false answers x one item c);
    order = are.order;
  },
  λ are. record {
    each = λ k d l. heard_of false answers x one _ (are.each k d l).0;
    whole = λ item h.
        let c = decoded_of false answers x one item h in
        are.whole item c (past_zero x item c);
    order = are.order;
  },
)

pub all_as_decoded : (answers : List Got) (x : List ℤ) (items : List Candidate)
    → stretches answers ≡ the_stretch x ∷ [] → AreHeard true answers items ↔ AreHeardBySensitive x items
all_as_decoded answers x items one = (
  λ are. record {
    each = λ k d l. decoded_of true answers x one _ (are.each k d l);
    whole = λ item c. are.whole item (heard_of true answers x one item c);
    order = are.order;
  },
  λ are. record {
    each = λ k d l. heard_of true answers x one _ (are.each k d l);
    whole = λ item h. are.whole item (decoded_of true answers x one item h);
    order = are.order;
  },
)
