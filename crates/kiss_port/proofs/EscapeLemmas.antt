-- What escapes stand for.
use Rattle.std.proofs.Common.{◌≡◌, ◌≢◌, ℕ, List, [], ◌∷◌, ◌++◌, refl, ap, subst, ◌∙◌, sym, inl, inr, arith}
use Rattle.std.proofs.lemmas.Bool.{cond-false, ne_eqb, cases_eq}
use Rattle.kiss_port.specs.Escapes.{fend, fesc, tfend, tfesc, unescaped, escape_of, spelled}
use Rattle.kiss_port.specs.Pieces.{pieces}
use Rattle.kiss_port.proofs.PieceLemmas.{IsInside, inside-append, pieces_end}

-- an octet that is no FESC stands for itself
pub unescaped_plain : (octet : ℕ) (more : List ℕ) → octet ≢ fesc → unescaped (octet ∷ more) ≡ octet ∷ unescaped more
unescaped_plain octet [] plain = cond-false _ _ _ (ne_eqb octet fesc plain)
unescaped_plain octet (next ∷ more) plain = cond-false _ _ _ (ne_eqb octet fesc plain)

-- the three ways to write an octet
by_octet : (P : ℕ → List ℕ → Type 0) (octet : ℕ) → P fend (fesc ∷ tfend ∷ []) → P fesc (fesc ∷ tfesc ∷ [])
    → (octet ≢ fend → octet ≢ fesc → P octet (octet ∷ [])) → P octet (escape_of octet)
by_octet P octet at_fend at_fesc plain =
    elim (cases_eq octet fend) [
      | inl is ↦ let Q : ℕ → Type 0 = λ n. P n (escape_of n) in subst Q (sym is) at_fend
      | inr no_fend ↦
          elim (cases_eq octet fesc) [
            | inl is ↦ let Q : ℕ → Type 0 = λ n. P n (escape_of n) in subst Q (sym is) at_fesc
            | inr no_fesc ↦
                subst (P octet) (sym (cond-false _ _ _ (ne_eqb octet fend no_fend)
                ∙ cond-false _ _ _ (ne_eqb octet fesc no_fesc))) (plain no_fend no_fesc)
          ]
    ]

escape_back : (octet : ℕ) (more : List ℕ) → unescaped (escape_of octet ++ more) ≡ octet ∷ unescaped more
escape_back octet more =
    by_octet (λ n written. unescaped (written ++ more) ≡ n ∷ unescaped more) octet refl refl
    (λ no_fend no_fesc. unescaped_plain octet more no_fesc)

escape_inside : (octet : ℕ) → IsInside (escape_of octet)
escape_inside octet =
    by_octet (λ n written. IsInside written) octet (omega arith, (omega arith, tt)) (omega arith, (omega arith, tt))
    (λ no_fend no_fesc. (no_fend, tt))

-- What is written stands for the octets.
pub spelled_back : (octets : List ℕ) → unescaped (spelled octets) ≡ octets
spelled_back [] = refl
spelled_back (octet ∷ octets) = escape_back octet (spelled octets) ∙ ap (λ xs. octet ∷ xs) (spelled_back octets)

spelled_inside : (octets : List ℕ) → IsInside (spelled octets)
spelled_inside [] = tt
spelled_inside (octet ∷ octets) = inside-append (escape_of octet) (spelled octets) (escape_inside octet)
    (spelled_inside octets)

-- It is one piece, after an empty one.
pub spelled_piece : (octets : List ℕ) → pieces (fend ∷ (spelled octets ++ fend ∷ [])) ≡ [] ∷ spelled octets ∷ []
spelled_piece octets = ap (λ others. [] ∷ others) (pieces_end (spelled octets) [] (spelled_inside octets))
