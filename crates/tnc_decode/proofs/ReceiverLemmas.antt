-- A receiver with octets more, and at the end of the input.
use Rattle.tnc_decode.proofs.Common.{◌≡◌, ℕ, ◌≤◌, ℤ, List, [], ◌++◌, length, false, ap, sym, subst, ◌∙◌, inl, inr}
use Rattle.tnc_decode.proofs.Common.{Option, Candidate, candidate_frames, DecodeWords, Decoders, Modem, InputFault}
use Rattle.tnc_decode.proofs.Common.{Receiver, rates_of, samples_read, form_fault, HasDecoded, HasHeard, HasTaken}
use Rattle.tnc_decode.proofs.Common.{position_of, modem_of, settled_count, AreGivenBetween, AreGivenRest, print}
use Rattle.tnc_decode.proofs.Common.{sample_count}
use Rattle.tnc_engine.specs.Making.{Adds, Finishes}
use Rattle.tnc_decode.specs.Held.{finished_of}
use Rattle.tnc_decode.specs.Making.{decode_making}
use Rattle.tnc_decode.proofs.AudioLemmas.{modem_stays}
use Rattle.tnc_decode.proofs.SettledLemmas.{no_sample, settled_more, decoded_at_end}

pub heard_none : (receiver : Receiver) (words : DecodeWords) → receiver.frames ≡ words.frames
    → receiver.receiving ≡ words.receiving → HasTaken words receiver.audio []
    → HasDecoded (modem_of words []) receiver.decoder [] → position_of receiver.decoder ≤ 0
    → finished_of receiver.decoder ≡ false → HasHeard receiver words []
heard_none receiver words same receiving audio decoder position unfinished = record {
  frames = same;
  receiving = receiving;
  audio = audio;
  decoder = subst (HasDecoded (modem_of words []) receiver.decoder)
      (sym (no_sample (rates_of words.receiving) words.audio)) decoder;
  position = position;
  unfinished = unfinished;
}

-- the decoder of the modem that hears more octets has taken the samples before them
pub tuned : (words : DecodeWords) (before octets : List ℕ) (modem : Modem) (old new : Decoders)
    → modem ≡ modem_of words (before ++ octets)
    → ((x : List ℤ) → HasDecoded modem old x → HasDecoded modem new x)
    → ((other : Modem) → HasDecoded other old [] → HasDecoded modem new [])
    → HasDecoded (modem_of words before) old (samples_read words before)
    → HasDecoded (modem_of words (before ++ octets)) new (samples_read words before)
tuned words before octets modem old new is still fresh h =
    subst (λ m. HasDecoded m new (samples_read words before)) is (elim (modem_stays words before octets) [
      | inl same ↦ still (samples_read words before) (subst (λ m. HasDecoded m old (samples_read words before))
          (sym same ∙ sym is) h)
      | inr none ↦ subst (λ (x : List ℤ). HasDecoded modem new x) (sym none)
          (fresh (modem_of words before) (subst (λ (x : List ℤ). HasDecoded (modem_of words before) old x) none h))
    ])

module _ (old new : Receiver) (words : DecodeWords) (before octets : List ℕ) (found block : List ℤ)
    (items : List Candidate)
    (h : HasHeard old words before)
    (took : HasTaken words new.audio (before ++ octets)
    × (samples_read words (before ++ octets) ≡ samples_read words before ++ found))
    (is : block ≡ found)
    (gave : HasDecoded (modem_of words (before ++ octets)) new.decoder (samples_read words before ++ block)
    × AreGivenBetween (modem_of words (before ++ octets))
    (settled_count (modem_of words (before ++ octets)) (samples_read words before))
    (settled_count (modem_of words (before ++ octets)) (samples_read words before ++ block))
    (samples_read words before ++ block) items) where
  longer : samples_read words (before ++ octets) ≡ samples_read words before ++ block
  longer = took.1 ∙ ap (λ t. samples_read words before ++ t) (sym is)

  -- what is settled now
  pub settles : Adds (decode_making words) before octets (print old.frames (candidate_frames items))
  settles text settled = settled_more words before octets text (print old.frames (candidate_frames items))
      block items longer settled gave.1 (ap (λ form. print form (candidate_frames items)) h.frames)

  pub heard_more : new.frames ≡ old.frames → new.receiving ≡ old.receiving
      → position_of new.decoder ≤ length (before ++ octets) → finished_of new.decoder ≡ false
      → HasHeard new words (before ++ octets)
  heard_more same receiving position unfinished = record {
    frames = same ∙ h.frames;
    receiving = receiving ∙ h.receiving;
    audio = took.0;
    decoder = subst (HasDecoded (modem_of words (before ++ octets)) new.decoder) (sym longer) gave.0;
    position = position;
    unfinished = unfinished;
  }

-- the end of the input
pub heard_all : (receiver : Receiver) (words : DecodeWords) (octets : List ℕ) (items shown : List Candidate)
    (text : List ℕ) (fault : Option InputFault) → HasHeard receiver words octets
    → AreGivenRest (modem_of words octets) (sample_count words octets) (samples_read words octets) items
    → shown ≡ items → text ≡ print receiver.frames (candidate_frames shown) → form_fault words octets ≡ fault
    → Finishes (decode_making words) octets text fault
heard_all receiver words octets items shown text fault h rest is printed told = record {
  known = told;
  closes = λ first settled. decoded_at_end words octets first text items settled rest
      (printed ∙ ap (λ form. print form (candidate_frames shown)) h.frames
      ∙ ap (λ t. print words.frames (candidate_frames t)) is);
}
