-- Eight tones at once: their bits as an octet, and what a lane adds with them.
use Rattle.slicer_bank.proofs.Common.{◌≡◌, ℕ, suc, ◌+◌, ◌*◌, ◌/◌, ◌%◌, ◌<◌, Bool, true, false, List, [], ◌∷◌, ◌++◌}
use Rattle.slicer_bank.proofs.Common.{length, take, get_or, ap, sym, ◌∙◌, refl, subst, arith, append_assoc, append-nil, Tone, bits_of}
use Rattle.slicer_bank.proofs.Common.{EndsFrame, Candidate, Adds}
use Rattle.std.proofs.Common.{cond, eqb}
use Rattle.std.proofs.lemmas.Bool.{eq-eqb, ne_eqb}
use Rattle.tone_table.specs.declared.tone.Tone.TheVariants.{Mark}
use Rattle.nrzi_bits.specs.Line.{bits_from, last_from, last_tone}
use Rattle.nrzi_bits.proofs.LineLemmas.{bits_from-append, bits_from-take}
use Rattle.hdlc_framer.specs.BitOrder.{low_bits, number_of}
unfoldable use Rattle.hdlc_framer.specs.BitOrder.{octet_bits}
use Rattle.slicer_bank.specs.Heard.{AddsAll}
use Rattle.slicer_bank.proofs.HeardLemmas.{adds_nothing}

-- ---- an octet of bits

low_bits-number_of : (bits : List Bool) → low_bits (length bits) (number_of bits) ≡ bits
low_bits-number_of [] = refl
low_bits-number_of (false ∷ bits) =
    let n : ℕ = number_of bits in
    let even : eqb (2 * n % 2) 1 ≡ false = ne_eqb (2 * n % 2) 1 (λ e. omega arith) in
    let half : 2 * n / 2 ≡ n = omega arith in
    (λ i. even i ∷ low_bits (length bits) (half i)) ∙ ap (λ xs. false ∷ xs) (low_bits-number_of bits)
low_bits-number_of (true ∷ bits) =
    let n : ℕ = number_of bits in
    let odd : eqb ((2 * n + 1) % 2) 1 ≡ true = eq-eqb ((2 * n + 1) % 2) 1 (omega arith) in
    let half : (2 * n + 1) / 2 ≡ n = omega arith in
    (λ i. odd i ∷ low_bits (length bits) (half i)) ∙ ap (λ xs. true ∷ xs) (low_bits-number_of bits)

-- a bit and the bits above it
pub bit_above : (bit : Bool) (above : ℕ) (bits : List Bool) → above ≡ number_of bits
    → 2 * above + cond bit 1 0 ≡ number_of (bit ∷ bits)
bit_above true above bits is = ap (λ n. 2 * n + 1) is
bit_above false above bits is = omega (arith, is)

pub octet_is : (octet : ℕ) (bits : List Bool) → length bits ≡ 8 → octet ≡ number_of bits → octet_bits octet ≡ bits
unfolding octet_bits
octet_is octet bits eight is =
    ap (low_bits 8) is ∙ ap (λ n. low_bits n (number_of bits)) (sym eight) ∙ low_bits-number_of bits

pub length-bits_from : (before : Tone) (tones : List Tone) → length (bits_from before tones) ≡ length tones
length-bits_from before [] = refl
length-bits_from before (tone ∷ tones) = ap suc (length-bits_from tone tones)

pub eight_tones : (ts : List Tone) (d : Tone) → length ts ≡ 8
    → ts ≡ get_or ts 0 d ∷ get_or ts 1 d ∷ get_or ts 2 d ∷ get_or ts 3 d ∷ get_or ts 4 d ∷ get_or ts 5 d ∷ get_or ts 6 d
    ∷ get_or ts 7 d ∷ []
eight_tones (a ∷ b ∷ c ∷ e ∷ f ∷ g ∷ h ∷ i ∷ []) d eight = refl
eight_tones [] d eight = absurd (omega arith)
eight_tones (a ∷ []) d eight = absurd (omega arith)
eight_tones (a ∷ b ∷ []) d eight = absurd (omega arith)
eight_tones (a ∷ b ∷ c ∷ []) d eight = absurd (omega arith)
eight_tones (a ∷ b ∷ c ∷ e ∷ []) d eight = absurd (omega arith)
eight_tones (a ∷ b ∷ c ∷ e ∷ f ∷ []) d eight = absurd (omega arith)
eight_tones (a ∷ b ∷ c ∷ e ∷ f ∷ g ∷ []) d eight = absurd (omega arith)
eight_tones (a ∷ b ∷ c ∷ e ∷ f ∷ g ∷ h ∷ []) d eight = absurd (omega arith)
eight_tones (a ∷ b ∷ c ∷ e ∷ f ∷ g ∷ h ∷ i ∷ j ∷ ts) d eight = absurd (omega arith)

-- the last of eight tones
pub last_of_eight : (before : Tone) (ts : List Tone) (d : Tone) → length ts ≡ 8 → last_from before ts ≡ get_or ts 7 d
last_of_eight before ts d eight = ap (last_from before) (eight_tones ts d eight)

-- ---- what a lane has taken

-- the bits of more tones
pub bits_more : (tones more : List Tone) → bits_of (tones ++ more) ≡ bits_of tones ++ bits_from (last_tone tones) more
bits_more tones more = bits_from-append Mark tones more

-- the bits of the first of more tones
pub bits_begun : (tones more : List Tone) (k : ℕ)
    → bits_of (tones ++ take k more) ≡ bits_of tones ++ take k (bits_from (last_tone tones) more)
bits_begun tones more k =
    bits_more tones (take k more) ∙ ap (λ b. bits_of tones ++ b) (bits_from-take k (last_tone tones) more)

-- ---- what a lane adds

-- a lane at which no frame ends with any of the tones adds nothing
pub adds_none : (more : List Tone) (offset end : ℕ) (tones : List Tone) (found : List Candidate)
    → ((k : ℕ) (octets : List ℕ) → k < length more → ¬ EndsFrame (bits_of (tones ++ take (suc k) more)) octets)
    → AddsAll offset end tones more found found
adds_none [] offset end tones found never = refl
adds_none (tone ∷ more) offset end tones found never = (
  found,
  adds_nothing offset end (bits_of (tones ++ tone ∷ [])) found (λ o ends. never 0 o (omega arith) ends),
  adds_none more offset (end + 8) (tones ++ tone ∷ []) found
      (λ k o below ends. never (suc k) o (omega arith)
      (subst (λ t. EndsFrame (bits_of t) o) (append_assoc tones (tone ∷ []) (take (suc k) more)) ends)),
)

-- what is added with some tones, and then with the next
pub adds_more : (some : List Tone) (tone : Tone) (offset end at : ℕ) (tones : List Tone)
    (before middle after : List Candidate) → at ≡ end + 8 * length some
    → AddsAll offset end tones some before middle
    → Adds offset at (bits_of ((tones ++ some) ++ tone ∷ [])) middle after
    → AddsAll offset end tones (some ++ tone ∷ []) before after
adds_more [] tone offset end at tones before middle after place same adds =
    let here : at ≡ end = omega arith in (
      after,
      subst (λ m. Adds offset end (bits_of (tones ++ tone ∷ [])) m after) (sym same)
          (subst (λ e. Adds offset e (bits_of (tones ++ tone ∷ [])) middle after) here
          (subst (λ t. Adds offset at (bits_of (t ++ tone ∷ [])) middle after) (append-nil tones) adds)),
      refl,
    )
adds_more (one ∷ some) tone offset end at tones before middle after place first adds = (
  first.0,
  first.1,
  adds_more some tone offset (end + 8) at (tones ++ one ∷ []) first.0 middle after (omega arith) first.2
      (subst (λ t. Adds offset at (bits_of (t ++ tone ∷ [])) middle after) (sym (append_assoc tones (one ∷ []) some)) adds),
)
