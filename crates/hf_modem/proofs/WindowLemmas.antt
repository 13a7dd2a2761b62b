-- The tones and bits of samples that are put together and cut.
use Rattle.hf_modem.proofs.Common.{◌≡◌, ℕ, ◌+◌, ◌*◌, ℤ, List, ◌++◌, length, take, ap, ◌∙◌, arith, Mark, bits_of}
use Rattle.hf_modem.proofs.Common.{last_tone, tone_of, windows_in, window_at, tones_at, bits}
use Rattle.nrzi_bits.specs.Line.{bits_from}
use Rattle.nrzi_bits.proofs.LineLemmas.{bits_from-append, bits_from-take, length-bits_from}
use Rattle.offset_slicers.proofs.TonesOfWindows.{length-tones_of, tones_of-append, tones_of-aligned}

pub length-tones_at : (offset : ℕ) (x : List ℤ) → length (tones_at offset x) ≡ windows_in offset (length x)
unfolding tones_at window_at
length-tones_at = length-tones_of 32 tone_of

-- the tones of the first samples are the first of the tones
pub tones_at-append : (offset : ℕ) (x y : List ℤ)
    → tones_at offset x ≡ take (windows_in offset (length x)) (tones_at offset (x ++ y))
unfolding tones_at window_at
tones_at-append = tones_of-append 32 (omega arith) tone_of

-- the tones after whole windows are those of what follows
pub tones_at-aligned : (offset q : ℕ) (x y : List ℤ) → length x ≡ offset + 32 * q
    → tones_at offset (x ++ y) ≡ tones_at offset x ++ tones_at 0 y
unfolding tones_at window_at
tones_at-aligned = tones_of-aligned 32 (omega arith) tone_of

pub length-bits : (offset : ℕ) (x : List ℤ) → length (bits offset x) ≡ windows_in offset (length x)
unfolding bits
length-bits offset x = length-bits_from Mark (tones_at offset x) ∙ length-tones_at offset x

-- the bits of the first samples are the first of the bits
pub bits-append : (offset : ℕ) (x y : List ℤ) → bits offset x
    ≡ take (windows_in offset (length x)) (bits offset (x ++ y))
unfolding bits
bits-append offset x y =
    ap bits_of (tones_at-append offset x y) ∙ bits_from-take (windows_in offset (length x)) Mark
    (tones_at offset (x ++ y))

-- the bits after whole windows: those of the tones of what follows, after the last tone before
pub bits-aligned : (offset q : ℕ) (x y : List ℤ) → length x ≡ offset + 32 * q
    → bits offset (x ++ y) ≡ bits offset x ++ bits_from (last_tone (tones_at offset x)) (tones_at 0 y)
unfolding bits
bits-aligned offset q x y whole =
    ap bits_of (tones_at-aligned offset q x y whole) ∙ bits_from-append Mark (tones_at offset x) (tones_at 0 y)
