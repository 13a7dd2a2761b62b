-- Lanes 8 to 15: each reads at every eighth place, so the flag that ends a frame of one of them is in time.
use Rattle.sensitive_receiver.proofs.Common.{◌≡◌, ◌≢◌, ℕ, zero, suc, ◌+◌, ◌-◌, ◌%◌, ◌<◌, ◌≤◌, Bool, true, false, ℤ, List, [], ◌∷◌, ◌++◌}
use Rattle.sensitive_receiver.proofs.Common.{length, get_or, ap, sym, refl, ◌∙◌, arith, inl, inr, if◌then◌else◌, not, ◌&&◌, ◌==◌}
use Rattle.sensitive_receiver.proofs.Common.{nat_lt, append_assoc, length-append, cases_lt, lt-ltb, eqb-true, true≢false}
use Rattle.sensitive_receiver.proofs.Common.{Tone, Far, EndsFrame, bits_of, changes, is_in_time, is_read_at, lane_bits, lane_tones, readings_at}
use Rattle.sensitive_receiver.proofs.Common.{delay_of, list_of, tone_before, tone_back, tone_read, tones}
use Rattle.std.proofs.lemmas.Bool.{eq-eqb, ne_eqb}
use Rattle.std.proofs.lemmas.List.{get_or-append-add}
use Rattle.tone_table.specs.declared.tone.Tone.TheVariants.{Mark, Space}
use Rattle.nrzi_bits.specs.Line.{bits_from, last_from, same_tone}
use Rattle.nrzi_bits.proofs.LineLemmas.{bits_from-append, length-bits_from}
use Rattle.hdlc_framer.specs.Frames.{frame_bits}
use Rattle.hdlc_framer.specs.Stuffing.{flag}
use Rattle.sensitive_receiver.proofs.LaneLemmas.{lane_tones-not, lane_tones-read}
use Rattle.sensitive_receiver.proofs.VisitedLanes.{tones_of_none}

-- what a choice is if its test holds
chosen : {A : Type 0} (b : Bool) (u v : A) → b ≡ true → (if b then u else v) ≡ u
chosen b u v is = ap (λ t. if t then u else v) is

-- ---- where they read

module _ (x : List ℤ) (lane : ℕ) (least : 8 ≤ lane) (small : lane < 16) where
  pub fixed_reads : (place : ℕ) → is_read_at x lane place ≡ (place % 8 == lane - 8)
  unfolding readings_at
  fixed_reads place = chosen (nat_lt lane 16) (place % 8 == lane - 8) _ (lt-ltb lane 16 small)

  pub fixed_turn : (place : ℕ) → is_read_at x lane place ≡ true → place % 8 ≡ lane - 8
  fixed_turn place reads = eqb-true (place % 8) (lane - 8) (sym (fixed_reads place) ∙ reads)

  pub turn_reads : (place : ℕ) → place % 8 ≡ lane - 8 → is_read_at x lane place ≡ true
  turn_reads place turn = fixed_reads place ∙ eq-eqb (place % 8) (lane - 8) turn

  pub other_not : (place : ℕ) → place % 8 ≢ lane - 8 → is_read_at x lane place ≡ false
  other_not place other = fixed_reads place ∙ ne_eqb (place % 8) (lane - 8) other

  -- at other places they take nothing
  pub fixed_rest : (place n : ℕ) → ((j : ℕ) → j < n → (place + j) % 8 ≢ lane - 8)
      → lane_tones x lane (place + n) ≡ lane_tones x lane place
  fixed_rest place zero other = ap (lane_tones x lane) (let e : place + 0 ≡ place = omega arith in e)
  fixed_rest place (suc n) other =
      ap (lane_tones x lane) (let e : place + suc n ≡ place + n + 1 = omega arith in e)
      ∙ lane_tones-not x lane (place + n) (other_not (place + n) (other n (omega arith)))
      ∙ fixed_rest place n (λ j below. other j (omega arith))

  -- the tone that they read is that of the far list at the place
  pub fixed_tone : (place : ℕ) → tone_read x lane place ≡ tones Far x place
  fixed_tone place =
      let list : list_of lane ≡ Far = chosen (nat_lt lane 16) Far _ (lt-ltb lane 16 small) in
      let none : delay_of lane ≡ 0 = chosen (nat_lt lane 16) 0 _ (lt-ltb lane 16 small) in
      (λ i. tone_before (tones (list i) x) (place + 1) (none i + 0))
      ∙ chosen (nat_lt 0 (place + 1)) (tones Far x (place + 1 - 1 - 0)) _ (lt-ltb 0 (place + 1) (omega arith))
      ∙ ap (tones Far x) (let e : place + 1 - 1 - 0 ≡ place = omega arith in e)

  -- and of some places before
  fixed_back : (place back : ℕ) → back ≤ place → tone_back x lane place back ≡ tones Far x (place - back)
  fixed_back place back le =
      let list : list_of lane ≡ Far = chosen (nat_lt lane 16) Far _ (lt-ltb lane 16 small) in
      let none : delay_of lane ≡ 0 = chosen (nat_lt lane 16) 0 _ (lt-ltb lane 16 small) in
      (λ i. tone_before (tones (list i) x) (place + 1) (none i + back))
      ∙ ap (tone_before (tones Far x) (place + 1)) (let e : 0 + back ≡ back = omega arith in e)
      ∙ chosen (nat_lt back (place + 1)) (tones Far x (place + 1 - 1 - back)) _ (lt-ltb back (place + 1) (omega arith))
      ∙ ap (tones Far x) (let e : place + 1 - 1 - back ≡ place - back = omega arith in e)

  -- from one of their places to the next they take one tone
  pub fixed_next : (place : ℕ) → place % 8 ≡ lane - 8
      → lane_tones x lane (place + 8) ≡ lane_tones x lane place ++ tones Far x place ∷ []
  fixed_next place turn =
      ap (lane_tones x lane) (let e : place + 8 ≡ place + 1 + 7 = omega arith in e)
      ∙ fixed_rest (place + 1) 7 (λ j below same. omega arith)
      ∙ lane_tones-read x lane place (turn_reads place turn)
      ∙ ap (λ t. lane_tones x lane place ++ t ∷ []) (fixed_tone place)

-- ---- the flag

-- three tones of which the first two agree and the third differs
in_time_of : (a b c : Tone) → same_tone a b ≡ true → same_tone b c ≡ false
    → (changes b c && not (changes a b)) ≡ true
in_time_of Mark Mark Mark same other = absurd (true≢false other)
in_time_of Mark Mark Space same other = refl
in_time_of Mark Space Mark same other = absurd (true≢false (sym same))
in_time_of Mark Space Space same other = absurd (true≢false (sym same))
in_time_of Space Mark Mark same other = absurd (true≢false (sym same))
in_time_of Space Mark Space same other = absurd (true≢false (sym same))
in_time_of Space Space Mark same other = refl
in_time_of Space Space Space same other = absurd (true≢false other)

-- bits that end with a flag
module _ (before rest : List Tone) (w : List Bool) (a b c : Tone) (tones_are : rest ≡ before ++ a ∷ b ∷ c ∷ [])
    (ends : bits_of rest ≡ w ++ flag) where
  abbrev three : List Bool
  three = bits_from (last_from Mark before) (a ∷ b ∷ c ∷ [])

  bits_are : bits_of before ++ three ≡ w ++ flag
  bits_are = sym (bits_from-append Mark before (a ∷ b ∷ c ∷ [])) ∙ ap bits_of (sym tones_are) ∙ ends

  longer : length (bits_of before) ≡ length w + 5
  longer =
      let left = length-append (bits_of before) three in
      let right = length-append w flag in
      let same = ap length bits_are in
      omega arith

  bit_at : (n : ℕ) → get_or three n false ≡ get_or flag (5 + n) false
  bit_at n = sym (get_or-append-add (bits_of before) three n false)
      ∙ ap (λ bits. get_or bits (length (bits_of before) + n) false) bits_are
      ∙ ap (λ k. get_or (w ++ flag) k false) (let e : length (bits_of before) + n ≡ length w + (5 + n) = omega (arith, longer) in e)
      ∙ get_or-append-add w flag (5 + n) false

  last_in_time : (changes b c && not (changes a b)) ≡ true
  last_in_time = in_time_of a b c (bit_at 1) (bit_at 2)

module _ (x : List ℤ) (lane place : ℕ) (least : 8 ≤ lane) (small : lane < 16)
    (reads : is_read_at x lane place ≡ true) (octets : List ℕ)
    (ends : EndsFrame (lane_bits x lane (place + 1)) octets) where
  turn : place % 8 ≡ lane - 8
  turn = fixed_turn x lane least small place reads

  -- the bits up to the flag
  abbrev front : List Bool
  front = ends.0 ++ (flag ++ frame_bits octets)

  ends_flag : lane_bits x lane (place + 1) ≡ front ++ flag
  ends_flag = ends.1 ∙ ap (λ t. ends.0 ++ t) (sym (append_assoc flag (frame_bits octets) flag))
      ∙ sym (append_assoc ends.0 (flag ++ frame_bits octets) flag)

  now : lane_tones x lane (place + 1) ≡ lane_tones x lane place ++ tones Far x place ∷ []
  now = lane_tones-read x lane place reads ∙ ap (λ t. lane_tones x lane place ++ t ∷ []) (fixed_tone x lane least small place)

  -- more tones than two have come
  long : 8 ≤ length (lane_tones x lane (place + 1))
  long =
      let size = length-bits_from Mark (lane_tones x lane (place + 1)) in
      let same = ap length ends_flag in
      let both = length-append front flag in
      omega arith

  few : place < 16 → length (lane_tones x lane (place + 1)) ≤ 2
  few early = elim (cases_lt place 8) [
    | inl lt ↦
        let none : lane_tones x lane place ≡ [] = ap (lane_tones x lane) (let e : place ≡ 0 + place = omega arith in e)
        ∙ fixed_rest x lane least small 0 place (λ j below same. let t = turn in omega arith) ∙ tones_of_none x lane in
        let one = ap length (now ∙ ap (λ t. t ++ tones Far x place ∷ []) none) in
        omega arith
    | inr ge ↦
        let first : ℕ = place - 8 in
        let at : first + 8 ≡ place = omega arith in
        let none : lane_tones x lane first ≡ [] = ap (lane_tones x lane) (let e : first ≡ 0 + first = omega arith in e)
        ∙ fixed_rest x lane least small 0 first (λ j below same. let t = turn in omega arith) ∙ tones_of_none x lane in
        let next = ap (lane_tones x lane) (sym at) ∙ fixed_next x lane least small first (let t = turn in omega arith) in
        let two = ap length (now ∙ ap (λ t. t ++ tones Far x place ∷ []) (next ∙ ap (λ t. t ++ tones Far x first ∷ []) none)) in
        omega arith
  ]

  pub flag_in_time : is_in_time x lane place ≡ true
  flag_in_time = elim (cases_lt place 16) [
    | inl early ↦ (let size = few early in let most = long in absurd (omega arith))
    | inr late ↦
        let a : ℕ = place - 16 in
        let b : ℕ = place - 8 in
        let a_at : a + 8 ≡ b = omega arith in
        let b_at : b + 8 ≡ place = omega arith in
        let T : List Tone = lane_tones x lane a in
        let one : lane_tones x lane b ≡ T ++ tones Far x a ∷ []
        = ap (lane_tones x lane) (sym a_at) ∙ fixed_next x lane least small a (let t = turn in omega arith) in
        let two : lane_tones x lane place ≡ lane_tones x lane b ++ tones Far x b ∷ []
        = ap (lane_tones x lane) (sym b_at) ∙ fixed_next x lane least small b (let t = turn in omega arith) in
        let all : lane_tones x lane (place + 1) ≡ T ++ tones Far x a ∷ tones Far x b ∷ tones Far x place ∷ []
        = now ∙ ap (λ t. t ++ tones Far x place ∷ []) (two ∙ ap (λ t. t ++ tones Far x b ∷ []) one
        ∙ append_assoc T (tones Far x a ∷ []) (tones Far x b ∷ []))
        ∙ append_assoc T (tones Far x a ∷ tones Far x b ∷ []) (tones Far x place ∷ []) in
        let here : tone_back x lane place 0 ≡ tones Far x place = fixed_back x lane least small place 0 (omega arith)
        ∙ ap (tones Far x) (let e : place - 0 ≡ place = omega arith in e) in
        let once = fixed_back x lane least small place 8 (omega arith) in
        let twice = fixed_back x lane least small place 16 (omega arith) in
        (λ i. changes (once i) (here i) && not (changes (twice i) (once i)))
        ∙ last_in_time T (lane_tones x lane (place + 1)) front (tones Far x a) (tones Far x b) (tones Far x place) all ends_flag
  ]
