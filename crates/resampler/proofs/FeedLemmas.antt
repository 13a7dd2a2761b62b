-- A block through a filter, sample by sample or part by part.
use Rattle.resampler.proofs.Common.{◌≡◌, ◌≤◌, ◌+◌, ℕ, ℤ, List, [], ◌∷◌, ◌++◌, length, take, ap, sym, subst, ◌∙◌, append_assoc}
use Rattle.resampler.proofs.Common.{append-nil}
use Rattle.std.proofs.lemmas.List.{length-take-le, take-append-le}
use Rattle.std.proofs.Math.Seq.{take-append-add}
use borrow.Rule.Slice.PartMut.{post_of, put_mid}

-- before a block
pub fed_none : {H : Type 0} (Stands : H → List ℤ → Type 0) (given : List ℤ → List ℤ) (held : H) (x : List ℤ)
    → Stands held x
    → Stands held (x ++ []) × (given (x ++ []) ≡ given x ++ [])
fed_none Stands given held x h = (
  subst (Stands held) (sym (append-nil x)) h,
  ap given (append-nil x) ∙ sym (append-nil (given x)),
)

-- with a sample more of it
pub fed_more : {H : Type 0} (Stands : H → List ℤ → Type 0) (given : List ℤ → List ℤ) (held new : H)
    (x before after : List ℤ) (sample : ℤ) (out all more : List ℤ)
    → after ≡ before ++ sample ∷ [] → all ≡ out ++ more
    → ((y : List ℤ) → Stands held y → Stands new (y ++ sample ∷ []))
    → ((y : List ℤ) → Stands held y → given (y ++ sample ∷ []) ≡ given y ++ more)
    → Stands held (x ++ before) × (given (x ++ before) ≡ given x ++ out)
    → Stands new (x ++ after) × (given (x ++ after) ≡ given x ++ all)
fed_more Stands given held new x before after sample out all more is puts stands gives h =
    let whole : (x ++ before) ++ sample ∷ [] ≡ x ++ after = append_assoc x before (sample ∷ [])
    ∙ ap (λ t. x ++ t) (sym is) in (
      subst (Stands new) whole (stands (x ++ before) h.0),
      sym (ap given whole) ∙ gives (x ++ before) h.0 ∙ ap (λ t. t ++ more) h.1 ∙ append_assoc (given x) out more
          ∙ ap (λ t. given x ++ t) (sym puts),
    )

-- with a part more of it
pub fed_part : {H : Type 0} (Stands : H → List ℤ → Type 0) (given : List ℤ → List ℤ) (held new : H)
    (x before part out all more : List ℤ)
    → all ≡ out ++ more
    → ((y : List ℤ) → Stands held y → Stands new (y ++ part) × (given (y ++ part) ≡ given y ++ more))
    → Stands held (x ++ before) × (given (x ++ before) ≡ given x ++ out)
    → Stands new (x ++ (before ++ part)) × (given (x ++ (before ++ part)) ≡ given x ++ all)
fed_part Stands given held new x before part out all more puts fed h =
    let whole : (x ++ before) ++ part ≡ x ++ (before ++ part) = append_assoc x before part in
    let next = fed (x ++ before) h.0 in (
      subst (Stands new) whole next.0,
      sym (ap given whole) ∙ next.1 ∙ ap (λ t. t ++ more) h.1 ∙ append_assoc (given x) out more
          ∙ ap (λ t. given x ++ t) (sym puts),
    )

-- what was put after so many others
pub put_after : (out new : List ℤ) (count more k : ℕ) → count ≤ length out → more ≤ length new
    → take (count + more) (put_mid count k out new) ≡ take count out ++ take more new
put_after out new count more k inside few =
    let front : List ℤ = take count out in
    let rest : List ℤ = post_of count k out in
    let size : length front ≡ count = length-take-le count out inside in
    ap (λ n. take (n + more) (front ++ (new ++ rest))) (sym size)
    ∙ take-append-add front (new ++ rest) more
    ∙ ap (λ l. front ++ l) (take-append-le more new rest few)
