-- What a slicer keeps, as it is made and with one sample more.
use Rattle.hf_modem.proofs.Common.{◌≡◌, ◌∙◌, ℕ, ◌+◌, ◌*◌, ℤ, List, [], ◌∷◌, ◌++◌, Bool, length, refl, ap, sym, arith}
use Rattle.hf_modem.proofs.Common.{length_push, Tone, Mark, bits_of, last_tone, tone_of, tones_at, bits}
use Rattle.hf_modem.proofs.Common.{SlicerStandsFor, last_window}
use Rattle.nrzi_bits.proofs.LineLemmas.{last_tone-push}
use Rattle.hf_modem.proofs.WindowLemmas.{length-tones_at}
use Rattle.hf_modem.proofs.LastWindow.{tones_at-none, tones_at-last, bits-push_none, bits-push_one}

-- no samples give no tones
pub tones_of_none : (offset : ℕ) → tones_at offset [] ≡ []
tones_of_none offset = empty (tones_at offset []) (length-tones_at offset [] ∙ omega arith)
  where
    empty : (tones : List Tone) → length tones ≡ 0 → tones ≡ []
    empty [] h = refl
    empty (t ∷ tones) h = absurd (omega arith)

pub stands_empty : (offset : ℕ) (recent : List ℤ) (before : Tone) → recent ≡ last_window [] → before ≡ Mark
    → SlicerStandsFor (record { offset = offset; position = 0; recent = recent; before = before }) []
stands_empty offset recent before silent at_mark = record {
  count = refl;
  recent = silent;
  before = at_mark ∙ ap last_tone (sym (tones_of_none offset));
}

-- one sample more
module _ (offset position : ℕ) (recent now : List ℤ) (before : Tone) (x : List ℤ) (sample : ℤ)
    (push : (y : List ℤ) → recent ≡ last_window y → now ≡ last_window (y ++ sample ∷ []))
    (h : SlicerStandsFor (record { offset = offset; position = position; recent = recent; before = before }) x) where
  further : position + 1 ≡ length (x ++ sample ∷ [])
  further = let count = h.count in let more = length_push x sample in omega arith

  -- the place where a window ends, by the count of samples
  counted : ((k : ℕ) × (position + 1 ≡ offset + 32 * (k + 1))) → (k : ℕ) × (length x + 1 ≡ offset + 32 * (k + 1))
  counted ends = let count = h.count in let size = ends.1 in (ends.0, omega arith)

  counted_back : ((k : ℕ) × (length x + 1 ≡ offset + 32 * (k + 1))) → (k : ℕ) × (position + 1 ≡ offset + 32 * (k + 1))
  counted_back ends = let count = h.count in let size = ends.1 in (ends.0, omega arith)

  module _ (none : ((k : ℕ) × (position + 1 ≡ offset + 32 * (k + 1))) → ⊥) where
    same_tones : tones_at offset (x ++ sample ∷ []) ≡ tones_at offset x
    same_tones = tones_at-none offset x sample (λ ends. none (counted_back ends))

    pub stands_within : SlicerStandsFor (record {
      offset = offset;
      position = position + 1;
      recent = now;
      before = before;
    }) (x ++ sample ∷ [])
    stands_within = record {
      count = further;
      recent = push x h.recent;
      before = h.before ∙ ap last_tone (sym same_tones);
    }

    pub no_bit : bits offset (x ++ sample ∷ []) ≡ bits offset x ++ []
    no_bit = bits-push_none offset x sample same_tones

  module _ (ends : (k : ℕ) × (position + 1 ≡ offset + 32 * (k + 1))) (tone : Tone) (is : tone ≡ tone_of now) where
    one_tone : tones_at offset (x ++ sample ∷ []) ≡ tones_at offset x ++ tone ∷ []
    one_tone =
        tones_at-last offset (counted ends).0 x sample (counted ends).1
        ∙ ap (λ w. tones_at offset x ++ tone_of w ∷ []) (sym (push x h.recent))
        ∙ ap (λ t. tones_at offset x ++ t ∷ []) (sym is)

    pub stands_last : SlicerStandsFor (record { offset = offset; position = position + 1; recent = now; before = tone })
        (x ++ sample ∷ [])
    stands_last = record {
      count = further;
      recent = push x h.recent;
      before = sym (last_tone-push (tones_at offset x) tone) ∙ ap last_tone (sym one_tone);
    }

    pub one_bit : (bit : Bool) → bits_of (tones_at offset x ++ tone ∷ []) ≡ bits_of (tones_at offset x) ++ bit ∷ []
        → bits offset (x ++ sample ∷ []) ≡ bits offset x ++ bit ∷ []
    one_bit bit more = bits-push_one offset x sample tone bit one_tone more
