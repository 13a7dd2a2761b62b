-- What is encoded by words that keep the frames until the input has ended, and by words that do not.
use Rattle.tnc_encode.proofs.Common.{◌≡◌, ℕ, ◌+◌, ◌<◌, Bool, true, false, true≢false, List, [], length, drop}
use Rattle.tnc_encode.proofs.Common.{Option, Some, Result, Err, refl, sym, subst, ap, ◌∙◌, arith, if◌then◌else◌}
use Rattle.tnc_encode.proofs.Common.{Fault, Input, InputFault, TooLong, pcm, input_limit, wrote_nothing, AudioForm, Raw}
use Rattle.tnc_encode.proofs.Common.{Wav, EncodeWords, encoded, encoded_before, fault_of_whole, first_of, length_fault, samples_sent}
use Rattle.tnc_encode.proofs.Common.{signal_of, written_as, written_before, form_fault, frames_so_far, EncodesWhole}
use Rattle.std.proofs.Common.{lt-ltb}
use Rattle.tnc_engine.specs.Making.{IsMaking, fault_in}
use Rattle.tnc_forms.proofs.Ends.{same_fault}
use Rattle.tnc_encode.specs.Encoded.{encode_fault, encoded_so_far, fault_of_pieces, keeps_frames}
use Rattle.tnc_encode.specs.Making.{encode_making, sent_apart}
use Rattle.tnc_encode.proofs.MakingLemmas.{encodes_apart}

pub raw_apart : (form : AudioForm) (join : Bool) → keeps_frames form join ≡ false → (form ≡ Raw) × (join ≡ false)
raw_apart Raw join e = (refl, e)
raw_apart Wav join e = absurd (true≢false e)

-- frames that are kept
module _ (words : EncodeWords) (kept : keeps_frames words.audio words.join ≡ true) (octets : List ℕ) where
  pub fault_kept : encode_fault words octets ≡ fault_of_whole words octets
  unfolding encode_fault
  fault_kept = ap (λ b. if b then fault_of_whole words octets else fault_of_pieces words octets) kept

  pub so_far_kept : encoded_so_far words octets ≡ []
  unfolding encoded_so_far
  so_far_kept = ap (λ b. if b then [] else pcm (signal_of words (frames_so_far words.frames octets))) kept

-- an input that is read whole is refused for its length alone
pub whole_too_long : (words : EncodeWords) (octets : List ℕ) → input_limit < length octets
    → fault_of_whole words octets ≡ Some TooLong
unfolding fault_of_whole
whole_too_long words octets over =
    ap (λ b. if b then Some TooLong else first_of (form_fault words.frames octets)
    (length_fault words.audio (length (samples_sent words octets)))) (lt-ltb input_limit (length octets) over)

-- and nothing is written if it cannot be read whole
pub whole_unread : (words : EncodeWords) (octets : List ℕ) (left was : Option (List ℕ)) (fault : Fault)
    → (fault ≡ Input TooLong → input_limit < length octets)
    → (fault ≡ Input TooLong → left ≡ Some (drop (input_limit + 1) octets))
    → ((other : InputFault) → fault ≡ Input other → other ≡ TooLong)
    → EncodesWhole words octets left was was (Err fault)
whole_unread words octets left was fault long stops only =
    let told : (other : InputFault) → ◌≡◌ {A = Result (Unit {0}) Fault} (Err fault) (Err (Input other))
    → (other ≡ TooLong) × (fault ≡ Input TooLong) = λ other is.
    let same = only other (same_fault fault (Input other) is) in
    (same, same_fault fault (Input other) is ∙ ap Input same) in
    record {
      end = tt;
      good = tt;
      writes = record {
        all = λ before is. tt;
        part = λ before is. wrote_nothing before (encoded words octets) was is;
      };
      bad = λ other is. whole_too_long words octets (long (told other is).1) ∙ ap Some (sym (told other is).0);
      before_bad = λ before other is short e. let over = long (told other e).1 in absurd (omega arith);
      stops = λ is. stops (same_fault fault (Input TooLong) is);
    }

-- frames that are sent as they come
module _ (words : EncodeWords) (sent : keeps_frames words.audio words.join ≡ false) where
  pub are_apart : sent_apart words ≡ words
  are_apart i = record {
    frames = words.frames;
    audio = sym (raw_apart words.audio words.join sent).0 i;
    join = sym (raw_apart words.audio words.join sent).1 i;
    opening = words.opening;
    closing = words.closing;
    silence = words.silence;
    level = words.level;
    modem = words.modem;
  }

  pub fault_sent : (octets : List ℕ) → encode_fault words octets ≡ fault_in (encode_making words) octets
  unfolding encode_fault
  fault_sent octets = ap (λ b. if b then fault_of_whole words octets else fault_of_pieces words octets) sent

  -- at a bad line no less is written
  pub before_sent : (octets : List ℕ) → encoded words octets ≡ encoded_before words octets
  unfolding encoded encoded_before
  before_sent octets = subst (λ form. written_as form (samples_sent words octets)
      ≡ written_before form (samples_sent words octets)) (sym (raw_apart words.audio words.join sent).0) refl

  pub encodes_sent : IsMaking (encode_making words)
  encodes_sent = subst (λ w. IsMaking (encode_making w)) are_apart (encodes_apart words)
