-- What encode settles of frames that are sent as they come stays so.
use Rattle.tnc_encode.proofs.Common.{◌≡◌, ℕ, ◌≤◌, List, [], ◌∷◌, ◌++◌, length, take, append_assoc, Option, Some, None}
use Rattle.tnc_encode.proofs.Common.{refl, sym, subst, ap, ◌∙◌, arith, option_to_list, append-nil, InputFault, pcm}
use Rattle.tnc_encode.proofs.Common.{EncodeWords, FrameForm, Hex, Kiss, encoded, samples_at_once, signal_of, form_fault}
use Rattle.tnc_encode.proofs.Common.{form_fault_so_far, frames_of_input, frames_so_far, HasSent, HasTaken, IsReader}
use Rattle.tnc_encode.proofs.Common.{form_of, position}
use Rattle.tnc_engine.specs.Making.{Adds, Finishes, IsMaking, Takes}
use Rattle.tnc_engine.specs.declared.maker.Taken.TheVariants.{Front, Bad}
use Rattle.tnc_forms.specs.HeldLine.{HeldLine, StandsFor}
use Rattle.tnc_forms.specs.LinesSoFar.{fault_so_far, frames_so_far as lines_so_far}
use Rattle.tnc_forms.proofs.HeldLineLemmas.{fault_held}
use Rattle.tnc_forms.proofs.LinesForm.{first_frames}
use Rattle.tnc_encode.specs.declared.frame_in.FrameIn.{FrameIn}
use Rattle.tnc_encode.specs.declared.frame_in.FrameIn.TheVariants.{Lines, Items}
use Rattle.tnc_encode.specs.declared.sender.Sender.{Sender}
use Rattle.tnc_encode.specs.Encoded.{encoded_so_far}
use Rattle.tnc_encode.specs.Making.{encode_making, sent_apart}
use Rattle.tnc_encode.proofs.FormLemmas.{forms_stay}
use Rattle.tnc_encode.proofs.SendingLemmas.{own_octets, own_octets-all, own_octets-append, own_octets-none}
use Rattle.tnc_encode.proofs.SendingLemmas.{own_octets-one}

-- nothing is wrong with what a reader has taken
taken_good : (form : FrameForm) (reader : FrameIn) (octets : List ℕ) → HasTaken form reader octets → IsReader reader
    → form_fault_so_far form octets ≡ None
taken_good Hex (Lines lines) octets h least = subst (λ n. fault_so_far n octets ≡ None) least
    (fault_held lines octets h)
taken_good Hex (Items items) octets h least = absurd h
taken_good Kiss (Lines lines) octets h least = absurd h
taken_good Kiss (Items items) octets h least = refl

-- lines that have a bad one
pub bad_lines : (form : FrameForm) (lines : HeldLine) (before octets : List ℕ) (fault : InputFault)
    → IsReader (Lines lines) → HasTaken form (Lines lines) before
    → (StandsFor lines before → (fault_so_far lines.least (before ++ octets) ≡ Some fault)
    × (lines_so_far lines.least (before ++ octets) ≡ lines_so_far lines.least before))
    → (form_fault_so_far form (before ++ octets) ≡ Some fault)
    × (frames_so_far form (before ++ octets) ≡ frames_so_far form before)
bad_lines Hex lines before octets fault least h bad =
    subst (λ n. (fault_so_far n (before ++ octets) ≡ Some fault)
    × (lines_so_far n (before ++ octets) ≡ lines_so_far n before)) least (bad h)
bad_lines Kiss lines before octets fault least h bad = absurd h

-- a reader counts no more octets than have come
pub few_taken : (form : FrameForm) (reader : FrameIn) (octets : List ℕ) → HasTaken form reader octets
    → position reader ≤ length octets
few_taken Hex (Lines lines) octets h = let count = h.count in omega (arith, count)
few_taken Hex (Items items) octets h = absurd h
few_taken Kiss (Lines lines) octets h = absurd h
few_taken Kiss (Items items) octets h = omega arith

module _ (words : EncodeWords) where
  -- the octets of frames, each a transmission
  abbrev pub sent : List (List ℕ) → List ℕ
  sent frames = pcm (signal_of (sent_apart words) frames)

  pub sent_none : [] ≡ sent []
  sent_none = sym (own_octets-none (sent_apart words)) ∙ own_octets-all (sent_apart words) [] refl

  sent_both : (frames others : List (List ℕ)) → sent (frames ++ others) ≡ sent frames ++ sent others
  sent_both frames others =
      let own : (fs : List (List ℕ)) → own_octets (sent_apart words) fs ≡ sent fs =
      λ fs. own_octets-all (sent_apart words) fs refl in
      sym (own (frames ++ others)) ∙ own_octets-append (sent_apart words) frames others
      ∙ (λ i. own frames i ++ own others i)

  pub sent_one : (frame : List ℕ) → pcm (samples_at_once words (frame ∷ [])) ≡ sent (frame ∷ [])
  sent_one frame = sym (own_octets-one (sent_apart words) frame) ∙ own_octets-all (sent_apart words) (frame ∷ []) refl

  -- what is made, in these words
  settled_is : (octets : List ℕ) → encoded_so_far (sent_apart words) octets ≡ sent (frames_so_far words.frames octets)
  unfolding encoded_so_far
  settled_is octets = refl

  made_is : (octets : List ℕ) → encoded (sent_apart words) octets ≡ sent (frames_of_input words.frames octets)
  unfolding encoded
  made_is octets = refl

  pub encodes_apart : IsMaking (encode_making (sent_apart words))
  encodes_apart =
      let laws = forms_stay words.frames in
      record {
        none = sent_none ∙ ap sent (sym laws.none) ∙ sym (settled_is []);
        good = laws.good;
        first = λ octets more text part rest good settled parts.
            let frames = first_frames (form_of words.frames) laws octets more in (
              rest ++ sent frames.0,
              made_is (octets ++ more) ∙ ap sent frames.1 ∙ sent_both (frames_so_far words.frames octets) frames.0
                  ∙ ap (λ t. t ++ sent frames.0) (sym (settled ∙ settled_is octets) ∙ parts)
                  ∙ append_assoc part rest (sent frames.0),
            );
        last = λ octets text part rest made parts. (rest, sym made ∙ parts);
        bad = λ octets more fault is. let known = laws.bad octets more fault is in (known.0, known.1);
        still = λ octets more text fault is settled.
            let known = laws.bad octets more fault is in (
              settled ∙ settled_is octets ∙ ap sent (sym known.2) ∙ sym (settled_is (octets ++ more)),
              settled ∙ settled_is octets ∙ ap sent (sym known.3) ∙ sym (made_is (octets ++ more)),
            );
        not_long = laws.not_long;
        not_long_whole = laws.not_long_whole;
      }

  -- ---- a piece

  -- frames more are sent
  adds_frames : (before octets text : List ℕ) (frames : List (List ℕ))
      → frames_so_far words.frames (before ++ octets) ≡ frames_so_far words.frames before ++ frames
      → text ≡ sent frames → Adds (encode_making (sent_apart words)) before octets text
  adds_frames before octets text frames known is first settled =
      ap (λ t. t ++ text) (settled ∙ settled_is before)
      ∙ ap (λ t. sent (frames_so_far words.frames before) ++ t) is
      ∙ sym (sent_both (frames_so_far words.frames before) frames) ∙ ap sent (sym known)
      ∙ sym (settled_is (before ++ octets))

  pub takes_front : (now : Sender) (before octets text : List ℕ) (count : ℕ) (frame : Option (List ℕ))
      → HasSent now words (before ++ take count octets)
      → frames_so_far words.frames (before ++ take count octets)
      ≡ frames_so_far words.frames before ++ option_to_list frame
      → text ≡ sent (option_to_list frame)
      → Takes (encode_making (sent_apart words)) (HasSent now words) before octets text (Front count)
  takes_front now before octets text count frame h known is = (
    h,
    taken_good words.frames now.frames (before ++ take count octets) h.taken h.reader,
    adds_frames before (take count octets) text (option_to_list frame) known is,
  )

  pub takes_bad : (now : Sender) (before octets text : List ℕ) (fault : InputFault)
      → (form_fault_so_far words.frames (before ++ octets) ≡ Some fault)
      × (frames_so_far words.frames (before ++ octets) ≡ frames_so_far words.frames before)
      → text ≡ [] → Takes (encode_making (sent_apart words)) (HasSent now words) before octets text (Bad fault)
  takes_bad now before octets text fault (bad, known) empty = (
    bad,
    adds_frames before octets text [] (known ∙ sym (append-nil (frames_so_far words.frames before)))
        (empty ∙ sent_none),
  )

  -- ---- the end of the input

  pub finishes : (octets text : List ℕ) (fault : Option InputFault) (frames : List (List ℕ))
      → form_fault words.frames octets ≡ fault
      → frames_of_input words.frames octets ≡ frames_so_far words.frames octets ++ frames → text ≡ sent frames
      → Finishes (encode_making (sent_apart words)) octets text fault
  finishes octets text fault frames told known is = record {
    known = told;
    closes = λ first settled. ap (λ t. t ++ text) (settled ∙ settled_is octets)
        ∙ ap (λ t. sent (frames_so_far words.frames octets) ++ t) is
        ∙ sym (sent_both (frames_so_far words.frames octets) frames) ∙ ap sent (sym known) ∙ sym (made_is octets);
  }

  pub finishes_bad : (octets text : List ℕ) (fault : InputFault)
      → (form_fault words.frames octets ≡ Some fault)
      × (frames_of_input words.frames octets ≡ frames_so_far words.frames octets)
      → text ≡ [] → Finishes (encode_making (sent_apart words)) octets text (Some fault)
  finishes_bad octets text fault (bad, known) empty =
      finishes octets text (Some fault) [] bad (known ∙ sym (append-nil (frames_so_far words.frames octets)))
      (empty ∙ sent_none)
