-- How many samples frames take, one frame more at a time.
use Rattle.tnc_encode.proofs.Common.{◌≡◌, ℕ, true≢false, ◌+◌, ◌<◌, ℤ, List, [], ◌∷◌, ◌++◌, true, false, cond, length}
use Rattle.tnc_encode.proofs.Common.{map, take, get_or, sym, ap, ◌∙◌, arith, map-append, take_more, EncodeWords}
use Rattle.tnc_encode.proofs.Common.{Transmission, signal_by, sent_at_once, joined, samples_at_once, signal_of}
use Rattle.std.proofs.Common.{zero, suc, eqb, length-append}
use Rattle.tnc_encode.proofs.ModemLemmas.{signal_by-none, signal_by-one, signal_by-append}

pub some_of : (n : ℕ) → eqb n 0 ≡ false → 0 < n
some_of zero none = absurd (true≢false none)
some_of (suc n) none = omega arith

module _ (words : EncodeWords) where
  -- each frame its own transmission
  abbrev alone : List ℕ → Transmission
  alone frame = sent_at_once words (frame ∷ [])

  unfoldable pub own_samples : List (List ℕ) → List ℤ
  own_samples frames = signal_by words.modem words.level (map alone frames)

  pub own_samples-none : length (own_samples []) ≡ 0
  unfolding own_samples
  own_samples-none = ap length (signal_by-none words.modem words.level)

  pub own_samples-all : (frames : List (List ℕ)) → words.join ≡ false → own_samples frames ≡ signal_of words frames
  unfolding own_samples
  own_samples-all frames apart = ap (λ b. signal_by words.modem words.level
      (cond b (joined words frames) (map alone frames))) (sym apart)

  -- one frame more
  pub own_samples-more : (frames : List (List ℕ)) (index : ℕ) (frame : List ℕ) → index < length frames
      → frame ≡ get_or frames index frame
      → length (own_samples (take (index + 1) frames)) ≡ length (own_samples (take index frames)) + length
      (samples_at_once words (frame ∷ []))
  unfolding own_samples
  own_samples-more frames index frame below is =
      let before : List Transmission = map alone (take index frames) in
      ap (λ fs. length (signal_by words.modem words.level (map alone fs))) (take_more frames index frame below
      ∙ ap (λ f. take index frames ++ f ∷ []) (sym is))
      ∙ ap (λ ts. length (signal_by words.modem words.level ts)) (map-append alone (take index frames) (frame ∷ []))
      ∙ ap length (signal_by-append words.modem words.level before (alone frame ∷ []))
      ∙ length-append (signal_by words.modem words.level before) (signal_by words.modem words.level (alone frame ∷ []))
      ∙ ap (λ s. length (signal_by words.modem words.level before) + length s)
      (signal_by-one words.modem words.level (alone frame))

  -- all frames in one transmission
  pub joined_samples : (frames : List (List ℕ)) → words.join ≡ true → 0 < length frames
      → samples_at_once words frames ≡ signal_of words frames
  joined_samples [] join some = absurd (omega arith)
  joined_samples (first ∷ frames) join some =
      sym (signal_by-one words.modem words.level (sent_at_once words (first ∷ frames)))
      ∙ ap (λ b. signal_by words.modem words.level (cond b (joined words (first ∷ frames))
      (map alone (first ∷ frames)))) (sym join)

  pub none_joined_samples : (frames : List (List ℕ)) → words.join ≡ true → length frames ≡ 0
      → signal_of words frames ≡ []
  none_joined_samples [] join none = ap (λ b. signal_by words.modem words.level
      (cond b (joined words []) (map alone []))) join ∙ signal_by-none words.modem words.level
  none_joined_samples (first ∷ frames) join none = absurd (omega arith)
