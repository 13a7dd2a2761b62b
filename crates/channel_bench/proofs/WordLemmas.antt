-- Octets and noise, one word after another.
use Rattle.channel_bench.proofs.Common.{◌≡◌, ℕ, suc, ◌+◌, ◌-◌, ◌%◌, ◌<◌, ◌≤◌, ℤ, pos, List, [], ◌∷◌, ◌++◌, length, map}
use Rattle.channel_bench.proofs.Common.{drop, get_or, refl, ap, sym, ◌∙◌, arith, drop_more, drop_all, Lcg, words}
use Rattle.channel_bench.proofs.Common.{after_word, with_words}
use Rattle.std.proofs.Common.{◌+ℤ◌, append_assoc, append-nil}
use Rattle.rand_pcg.specs.Pcg.{pcg32}
use Rattle.channel_access.specs.Words.{next_word}
use Rattle.channel_bench.specs.Sounding.{noise_of, after_words}

abbrev pub octet_of : ℕ → ℕ
octet_of word = word % 256

-- these octets were drawn of so many, and what is left to draw completes them
pub record HasDrawn (initial now : Lcg) (count place : ℕ) (octets : List ℕ) : Type 0 where
  pub parts : octets ++ map octet_of (words (count - place) now) ≡ map octet_of (words count initial)

pub has_drawn_none : (initial : Lcg) (count : ℕ) (octets : List ℕ) → octets ≡ []
    → HasDrawn initial initial count 0 octets
has_drawn_none initial count octets none =
    let all : count - 0 ≡ count = omega arith in
    record {
      parts = ap (λ os. os ++ map octet_of (words (count - 0) initial)) none
          ∙ ap (λ n. map octet_of (words n initial)) all;
    }

pub has_drawn_more : (initial was now : Lcg) (count place word : ℕ) (octets more : List ℕ)
    → HasDrawn initial was count place octets → place < count → (word, now) ≡ pcg32 was
    → more ≡ octets ++ octet_of word ∷ []
    → HasDrawn initial now count (place + 1) more
has_drawn_more initial was now count place word octets more h below drawn what =
    let left : ℕ = count - (place + 1) in
    let fewer : count - place ≡ suc left = omega arith in
    record {
      parts = ap (λ os. os ++ map octet_of (words left now)) what
          ∙ append_assoc octets (octet_of word ∷ []) (map octet_of (words left now))
          ∙ ap (λ (p : ℕ × Lcg). octets ++ (octet_of p.0 ∷ map octet_of (words left p.1))) drawn
          ∙ ap (λ n. octets ++ map octet_of (words n was)) (sym fewer)
          ∙ h.parts;
    }

pub has_drawn_all : (initial now : Lcg) (count place : ℕ) (octets : List ℕ) → HasDrawn initial now count place octets
    → place ≡ count → octets ≡ map octet_of (words count initial)
has_drawn_all initial now count place octets h end =
    let none : count - place ≡ 0 = omega arith in
    sym (append-nil octets) ∙ ap (λ n. octets ++ map octet_of (words n now)) (sym none) ∙ h.parts

-- ---- noise

-- these samples have noise already, and what is left completes them
pub record HasNoise (noise : ℕ) (exact : List ℤ) (initial now : Lcg) (place : ℕ) (noisy : List ℤ) : Type 0 where
  pub parts : noisy ++ with_words noise (drop place exact) now ≡ with_words noise exact initial
  pub draws : after_words (drop place exact) now ≡ after_words exact initial

pub noise_none : (noise : ℕ) (exact : List ℤ) (initial : Lcg) (noisy : List ℤ) → noisy ≡ []
    → HasNoise noise exact initial initial 0 noisy
noise_none noise exact initial noisy none = record {
  parts = ap (λ xs. xs ++ with_words noise exact initial) none;
  draws = refl;
}

pub noise_more : (noise : ℕ) (exact : List ℤ) (initial was now : Lcg) (place : ℕ) (sample added : ℤ)
    (noisy more : List ℤ)
    → HasNoise noise exact initial was place noisy → place < length exact → sample ≡ get_or exact place (pos 0)
    → added ≡ noise_of noise (next_word was) → now ≡ after_word was → more ≡ noisy ++ (sample +ℤ added) ∷ []
    → HasNoise noise exact initial now (place + 1) more
noise_more noise exact initial was now place sample added noisy more h below is drawn next what =
    let rest : List ℤ = drop (place + 1) exact in
    record {
      parts = ap (λ xs. xs ++ with_words noise rest now) what
          ∙ append_assoc noisy ((sample +ℤ added) ∷ []) (with_words noise rest now)
          ∙ (λ i. noisy ++ ((is i +ℤ drawn i) ∷ with_words noise rest (next i)))
          ∙ ap (λ xs. noisy ++ with_words noise xs was) (sym (drop_more exact place (pos 0) below))
          ∙ h.parts;
      draws = ap (after_words rest) next ∙ ap (λ xs. after_words xs was) (sym (drop_more exact place (pos 0) below))
          ∙ h.draws;
    }

pub noise_all : (noise : ℕ) (exact : List ℤ) (initial now : Lcg) (place : ℕ) (noisy : List ℤ)
    → HasNoise noise exact initial now place noisy → length exact ≤ place
    → (noisy ≡ with_words noise exact initial) × (now ≡ after_words exact initial)
noise_all noise exact initial now place noisy h past = (
  sym (append-nil noisy) ∙ ap (λ xs. noisy ++ with_words noise xs now) (sym (drop_all place exact past)) ∙ h.parts,
  ap (λ xs. after_words xs now) (sym (drop_all place exact past)) ∙ h.draws,
)

pub length-with_words : (noise : ℕ) (samples : List ℤ) (draws : Lcg)
    → length (with_words noise samples draws) ≡ length samples
length-with_words noise [] draws = refl
length-with_words noise (sample ∷ samples) draws = ap suc (length-with_words noise samples (after_word draws))
