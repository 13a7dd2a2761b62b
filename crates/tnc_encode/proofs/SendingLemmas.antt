-- Signals as octets, one piece after another.
use Rattle.tnc_encode.proofs.Common.{◌≡◌, ℕ, ◌+◌, ◌<◌, List, [], ◌∷◌, ◌++◌, true, false, cond, length, map, take, drop}
use Rattle.tnc_encode.proofs.Common.{get_or, Option, Some, append_assoc, sym, ap, ◌∙◌, arith, map-append, take_more}
use Rattle.tnc_encode.proofs.Common.{take-append-drop, WrotePart, EncodeWords, Transmission, signal_by, sent_at_once}
use Rattle.tnc_encode.proofs.Common.{joined, samples_at_once, signal_of, pcm}
use Rattle.tnc_forms.proofs.PcmLemmas.{pcm-append}
use Rattle.tnc_encode.proofs.ModemLemmas.{signal_by-none, signal_by-one, signal_by-append}

module _ (words : EncodeWords) where
  -- the octets of transmissions
  unfoldable pub octets_of : List Transmission → List ℕ
  octets_of transmissions = pcm (signal_by words.modem words.level transmissions)

  octets_of-append : (ts us : List Transmission) → octets_of (ts ++ us) ≡ octets_of ts ++ octets_of us
  unfolding octets_of
  octets_of-append ts us =
      ap pcm (signal_by-append words.modem words.level ts us)
      ∙ pcm-append (signal_by words.modem words.level ts) (signal_by words.modem words.level us)

  octets_of-one : (frames : List (List ℕ)) → octets_of (sent_at_once words frames ∷ [])
      ≡ pcm (samples_at_once words frames)
  unfolding octets_of
  octets_of-one frames = ap pcm (signal_by-one words.modem words.level (sent_at_once words frames))

  -- no transmission
  nothing_sent : octets_of [] ≡ []
  unfolding octets_of pcm
  nothing_sent = ap pcm (signal_by-none words.modem words.level)

  -- all frames in one transmission
  pub joined_sent : (frames : List (List ℕ)) → words.join ≡ true → 0 < length frames
      → pcm (samples_at_once words frames) ≡ pcm (signal_of words frames)
  unfolding octets_of
  joined_sent [] join some = absurd (omega arith)
  joined_sent (first ∷ frames) join some =
      sym (octets_of-one (first ∷ frames))
      ∙ ap (λ b. octets_of (cond b (joined words (first ∷ frames))
      (map (λ frame. sent_at_once words (frame ∷ [])) (first ∷ frames)))) (sym join)

  pub none_joined : (frames : List (List ℕ)) → words.join ≡ true → length frames ≡ 0 → pcm (signal_of words frames) ≡ []
  unfolding octets_of
  none_joined [] join none =
      ap (λ b. octets_of (cond b (joined words []) (map (λ frame. sent_at_once words (frame ∷ [])) []))) join
      ∙ nothing_sent
  none_joined (first ∷ frames) join none = absurd (omega arith)

  -- each frame its own transmission
  abbrev own : List ℕ → Transmission
  own frame = sent_at_once words (frame ∷ [])

  unfoldable pub own_octets : List (List ℕ) → List ℕ
  own_octets frames = octets_of (map own frames)

  pub own_octets-all : (frames : List (List ℕ)) → words.join ≡ false → own_octets frames ≡ pcm (signal_of words frames)
  unfolding own_octets octets_of
  own_octets-all frames apart = ap (λ b. octets_of (cond b (joined words frames) (map own frames))) (sym apart)

  pub own_octets-none : own_octets [] ≡ []
  unfolding own_octets octets_of
  own_octets-none = nothing_sent

  pub own_octets-append : (fs gs : List (List ℕ)) → own_octets (fs ++ gs) ≡ own_octets fs ++ own_octets gs
  unfolding own_octets
  own_octets-append fs gs = ap octets_of (map-append own fs gs) ∙ octets_of-append (map own fs) (map own gs)

  pub own_octets-one : (frame : List ℕ) → own_octets (frame ∷ []) ≡ pcm (samples_at_once words (frame ∷ []))
  unfolding own_octets
  own_octets-one frame = octets_of-one (frame ∷ [])

  module _ (frames : List (List ℕ)) (index : ℕ) (frame : List ℕ) (below : index < length frames)
      (is : frame ≡ get_or frames index frame) where
    -- one frame more
    pub own_octets-more : own_octets (take (index + 1) frames)
        ≡ own_octets (take index frames) ++ pcm (samples_at_once words (frame ∷ []))
    own_octets-more =
        ap own_octets (take_more frames index frame below)
        ∙ own_octets-append (take index frames) (get_or frames index frame ∷ [])
        ∙ ap (λ f. own_octets (take index frames) ++ own_octets (f ∷ [])) (sym is)
        ∙ ap (λ xs. own_octets (take index frames) ++ xs) (own_octets-one frame)

    -- a first part of that frame's octets after those of the frames before it is a first part of all
    pub cut_within : (before : List ℕ) (now : Option (List ℕ))
        → WrotePart (before ++ own_octets (take index frames)) (pcm (samples_at_once words (frame ∷ []))) now
        → WrotePart before (own_octets frames) now
    cut_within before now (part, rest, parts, written) =
        let done : List ℕ = own_octets (take index frames) in
        let left : List ℕ = own_octets (drop (index + 1) frames) in
        let whole : own_octets frames ≡ (done ++ pcm (samples_at_once words (frame ∷ []))) ++ left =
        ap own_octets (sym (take-append-drop (index + 1) frames))
        ∙ own_octets-append (take (index + 1) frames) (drop (index + 1) frames)
        ∙ ap (λ xs. xs ++ left) own_octets-more in (
          done ++ part,
          rest ++ left,
          whole ∙ ap (λ xs. (done ++ xs) ++ left) parts ∙ regrouped done part rest left,
          written ∙ ap Some (append_assoc before done part),
        )
      where
        regrouped : (a b c d : List ℕ) → (a ++ (b ++ c)) ++ d ≡ (a ++ b) ++ (c ++ d)
        regrouped a b c d = simp append_assoc
