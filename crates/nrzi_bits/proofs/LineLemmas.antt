-- Lists of bits and tones that are put together, cut and turned back.
use Rattle.std.proofs.Common.{◌≡◌, ℕ, zero, suc, List, [], ◌∷◌, ◌++◌, Bool, true, false, length, take, refl, sym, ap}
use Rattle.std.proofs.Common.{◌∙◌}
use Rattle.tone_table.specs.declared.tone.Tone.{Tone}
use Rattle.tone_table.specs.declared.tone.Tone.TheVariants.{Mark, Space}
use Rattle.nrzi_bits.specs.Line.{sent_tone, line_from, line, same_tone, bits_from, bits_of, last_from, last_tone}

pub last_from-append : (before : Tone) (ts us : List Tone)
    → last_from before (ts ++ us) ≡ last_from (last_from before ts) us
last_from-append before [] us = refl
last_from-append before (t ∷ ts) us = last_from-append t ts us

-- the bits of two lists of tones, one after the other
pub bits_from-append : (before : Tone) (ts us : List Tone)
    → bits_from before (ts ++ us) ≡ bits_from before ts ++ bits_from (last_from before ts) us
bits_from-append before [] us = refl
bits_from-append before (t ∷ ts) us = ap (λ bits. same_tone before t ∷ bits) (bits_from-append t ts us)

-- the tones of two lists of bits, one after the other
pub line_from-append : (before : Tone) (bs cs : List Bool)
    → line_from before (bs ++ cs) ≡ line_from before bs ++ line_from (last_from before (line_from before bs)) cs
line_from-append before [] cs = refl
line_from-append before (b ∷ bs) cs =
    ap (λ tones. sent_tone before b ∷ tones) (line_from-append (sent_tone before b) bs cs)

-- a tone and the tone of the next bit agree exactly when that bit is 1
pub same_tone-sent_tone : (before : Tone) (bit : Bool) → same_tone before (sent_tone before bit) ≡ bit
same_tone-sent_tone Mark true = refl
same_tone-sent_tone Mark false = refl
same_tone-sent_tone Space true = refl
same_tone-sent_tone Space false = refl

pub sent_tone-same_tone : (before tone : Tone) → sent_tone before (same_tone before tone) ≡ tone
sent_tone-same_tone Mark Mark = refl
sent_tone-same_tone Mark Space = refl
sent_tone-same_tone Space Mark = refl
sent_tone-same_tone Space Space = refl

pub bits_from-line_from : (before : Tone) (bits : List Bool) → bits_from before (line_from before bits) ≡ bits
bits_from-line_from before [] = refl
bits_from-line_from before (b ∷ bits) =
    ap (λ c. c ∷ bits_from (sent_tone before b) (line_from (sent_tone before b) bits)) (same_tone-sent_tone before b)
    ∙ ap (λ cs. b ∷ cs) (bits_from-line_from (sent_tone before b) bits)

pub line_from-bits_from : (before : Tone) (tones : List Tone) → line_from before (bits_from before tones) ≡ tones
line_from-bits_from before [] = refl
line_from-bits_from before (t ∷ tones) =
    ap (λ u. u ∷ line_from u (bits_from t tones)) (sent_tone-same_tone before t)
    ∙ ap (λ us. t ∷ us) (line_from-bits_from t tones)

pub length-bits_from : (before : Tone) (tones : List Tone) → length (bits_from before tones) ≡ length tones
length-bits_from before [] = refl
length-bits_from before (t ∷ tones) = ap suc (length-bits_from t tones)

pub length-line_from : (before : Tone) (bits : List Bool) → length (line_from before bits) ≡ length bits
length-line_from before [] = refl
length-line_from before (b ∷ bits) = ap suc (length-line_from (sent_tone before b) bits)

-- the bits of the first tones are the first of the bits
pub bits_from-take : (n : ℕ) (before : Tone) (tones : List Tone)
    → bits_from before (take n tones) ≡ take n (bits_from before tones)
bits_from-take zero before tones = refl
bits_from-take (suc n) before [] = refl
bits_from-take (suc n) before (t ∷ tones) = ap (λ bits. same_tone before t ∷ bits) (bits_from-take n t tones)

-- the bits of one tone more
pub bits_of-push : (before : Tone) (tones : List Tone) (tone : Tone) (bit : Bool) → before ≡ last_tone tones
    → bit ≡ same_tone before tone → bits_of (tones ++ tone ∷ []) ≡ bits_of tones ++ bit ∷ []
bits_of-push before tones tone bit at is =
    bits_from-append Mark tones (tone ∷ [])
    ∙ ap (λ b. bits_of tones ++ b ∷ []) (ap (λ t. same_tone t tone) (sym at) ∙ sym is)

-- the line of one bit more
pub line-push : (before : Tone) (bits : List Bool) (bit : Bool) (tone : Tone) → before ≡ last_tone (line bits)
    → tone ≡ sent_tone before bit → line (bits ++ bit ∷ []) ≡ line bits ++ tone ∷ []
line-push before bits bit tone at is =
    line_from-append Mark bits (bit ∷ [])
    ∙ ap (λ t. line bits ++ t ∷ []) (ap (λ t. sent_tone t bit) (sym at) ∙ sym is)

-- a line with one tone more stands at that tone
pub last_tone-push : (tones : List Tone) (tone : Tone) → last_tone (tones ++ tone ∷ []) ≡ tone
last_tone-push tones tone = last_from-append Mark tones (tone ∷ [])
