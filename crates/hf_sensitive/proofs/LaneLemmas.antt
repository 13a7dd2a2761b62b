-- What a lane reads, with one place more.
use Rattle.hf_sensitive.proofs.Common.{◌≡◌, ℕ, zero, suc, ◌+◌, Bool, true, false, if◌then◌else◌, ℤ, List, [], ◌∷◌, ◌++◌, map, ap, sym, ◌∙◌, arith}
use Rattle.hf_sensitive.proofs.Common.{not, ◌&&◌, refl, append-nil, Tone, changes, tone_before, heard, bank_of}
use Rattle.hf_sensitive.proofs.Common.{is_in_time, delay_of, is_read_at, tone_back, tone_read, lane_tones}
use Rattle.std.specs.Prelude.{filter}
use Rattle.std.specs.List.{range_with_len}
use Rattle.std.proofs.lemmas.List.{map-append}
use Rattle.std.proofs.lemmas.List.Elements.{filter-append}

range-more : (a n : ℕ) → range_with_len a (suc n) ≡ range_with_len a n ++ (a + n) ∷ []
range-more a zero = ap (λ k. k ∷ []) (let e : a ≡ a + 0 = omega arith in e)
range-more a (suc n) =
    ap (λ ks. a ∷ ks) (range-more (a + 1) n)
    ∙ ap (λ k. a ∷ (range_with_len (a + 1) n ++ k ∷ [])) (let e : a + 1 + n ≡ a + suc n = omega arith in e)

-- the places that pass a test, with one more
places-more : (p : ℕ → Bool) (n : ℕ) → filter p (range_with_len 0 (n + 1)) ≡ filter p (range_with_len 0 n) ++ filter p
    (n ∷ [])
places-more p n =
    let more : n + 1 ≡ suc n = omega arith in
    let at : 0 + n ≡ n = omega arith in
    ap (λ k. filter p (range_with_len 0 k)) more
    ∙ ap (filter p) (range-more 0 n ∙ ap (λ k. range_with_len 0 n ++ k ∷ []) at)
    ∙ filter-append p (range_with_len 0 n) (n ∷ [])

one_passes : (p : ℕ → Bool) (n : ℕ) (b : Bool) → p n ≡ b → filter p (n ∷ []) ≡ (if b then n ∷ [] else [])
one_passes p n b is = ap (λ t. if t then n ∷ [] else []) is

-- if the lane reads
pub lane_tones-read : (x : List ℤ) (lane place : ℕ) → is_read_at x lane place ≡ true
    → lane_tones x lane (place + 1) ≡ lane_tones x lane place ++ tone_read x lane place ∷ []
unfolding lane_tones
lane_tones-read x lane place reads =
    ap (map (tone_read x lane))
    (places-more (is_read_at x lane) place ∙ ap (λ t. filter (is_read_at x lane) (range_with_len 0 place) ++ t)
    (one_passes (is_read_at x lane) place true reads))
    ∙ map-append (tone_read x lane) (filter (is_read_at x lane) (range_with_len 0 place)) (place ∷ [])

-- if it does not
pub lane_tones-not : (x : List ℤ) (lane place : ℕ) → is_read_at x lane place ≡ false
    → lane_tones x lane (place + 1) ≡ lane_tones x lane place
unfolding lane_tones
lane_tones-not x lane place reads =
    ap (map (tone_read x lane))
    (places-more (is_read_at x lane) place ∙ ap (λ t. filter (is_read_at x lane) (range_with_len 0 place) ++ t)
    (one_passes (is_read_at x lane) place false reads)
    ∙ append-nil (filter (is_read_at x lane) (range_with_len 0 place)))

-- of no places no lane reads a tone
pub tones_of_none : (x : List ℤ) (lane : ℕ) → lane_tones x lane 0 ≡ []
unfolding lane_tones
tones_of_none x lane = refl

-- a tone of a bank, as it was asked for, is one that the lane goes by
pub tone_is_back : (x : List ℤ) (lane bank place count back delay : ℕ) (tone : Tone)
    → tone ≡ tone_before (heard bank x) count delay
    → bank_of lane ≡ bank → count ≡ place + 1 → delay ≡ delay_of lane + back → tone ≡ tone_back x lane place back
tone_is_back x lane bank place count back delay tone is same_bank same_count same_delay =
    is ∙ (λ i. tone_before (heard (sym same_bank i) x) (same_count i) (same_delay i))

-- whether a bit is the last of a flag in time, as the three tones that were asked for tell it
pub in_time_told : (x : List ℤ) (lane bank place count delay : ℕ) (tone one two : Tone)
    → tone ≡ tone_before (heard bank x) count delay
    → one ≡ tone_before (heard bank x) count (delay + 8) → two ≡ tone_before (heard bank x) count (delay + 16)
    → bank_of lane ≡ bank → count ≡ place + 1 → delay ≡ delay_of lane
    → (changes one tone && not (changes two one)) ≡ is_in_time x lane place
in_time_told x lane bank place count delay tone one two tone_is one_is two_is same_bank same_count same_delay =
    let a = tone_is_back x lane bank place count 0 delay tone tone_is same_bank same_count (same_delay ∙ omega arith) in
    let b = tone_is_back x lane bank place count 8 (delay + 8) one one_is same_bank same_count
    (ap (λ d. d + 8) same_delay) in
    let c = tone_is_back x lane bank place count 16 (delay + 16) two two_is same_bank same_count
    (ap (λ d. d + 16) same_delay) in
    λ i. changes (b i) (a i) && not (changes (c i) (b i))
