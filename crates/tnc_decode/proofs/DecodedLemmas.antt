-- An input has one text.
use Rattle.tnc_decode.proofs.Common.{◌≡◌, ℕ, List, refl, ap, sym, ◌∙◌, remaining, candidate_frames, DecodeWords}
use Rattle.tnc_decode.proofs.Common.{samples_read, modem_of, IsDecoded, print}
use Rattle.tnc_decode.proofs.ModemLemmas.{one_heard, some_heard}

-- an input has a text
pub some_text : (words : DecodeWords) (octets : List ℕ) → (text : List ℕ) × IsDecoded words octets text
some_text words octets =
    let found = some_heard (modem_of words octets) (samples_read words octets) in
    (print words.frames (candidate_frames (remaining (modem_of words octets) found.0)), record { candidates = found.0; are = found.1; is = refl })

-- and no two
pub one_text : (words : DecodeWords) (octets text other : List ℕ) → IsDecoded words octets text
    → IsDecoded words octets other → text ≡ other
one_text words octets text other h k =
    h.is ∙ ap (λ t. print words.frames (candidate_frames (remaining (modem_of words octets) t)))
    (one_heard (modem_of words octets) (samples_read words octets) h.candidates k.candidates h.are k.are) ∙ sym k.is
