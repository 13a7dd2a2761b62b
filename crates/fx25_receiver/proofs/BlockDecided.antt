-- What a block asks can be decided: all of it can be searched for.
use Rattle.fx25_receiver.proofs.Common.{◌≡◌, ℕ, zero, suc, ◌+◌, ◌-◌, ◌*◌, ◌<◌, ◌≤◌, ◌⊎◌, Bool, true, false, List, [], ◌∷◌, ◌++◌}
use Rattle.fx25_receiver.proofs.Common.{length, take, drop, refl, ap, sym, ◌∙◌, subst, arith, inl, inr, cases_eq, cases_lt}
use Rattle.fx25_receiver.proofs.Common.{All, All-cons, All-head, All-nil, All-tail}
use Rattle.fx25_receiver.proofs.Common.{check_count, length-append, EndsFrame}
use Rattle.std.proofs.lemmas.List.{length-take, take-append-drop, take_at}
use Rattle.std.proofs.Common.{append_assoc}
use Rattle.hdlc_framer.specs.Body.{flags}
use Rattle.hdlc_framer.specs.Frames.{frame_bits}
use Rattle.hdlc_framer.specs.Stuffing.{flag}
use Rattle.hdlc_framer.proofs.FrameEnds.{one_frame}
use Rattle.reed_solomon.specs.Codeword.{whole_of}
use Rattle.reed_solomon.specs.declared.code.Zeros.TheVariants.{Between}
use Rattle.reed_solomon.specs.Values.{value_at}
use Rattle.fx25_blocks.specs.BlockEnds.{OpensWithFrame}
use Rattle.fx25_blocks.specs.Blocks.{IsBlockCodeword}
use Rattle.slicer_bank.proofs.FrameDecided.{frame_or_none}

-- ---- searches

-- it is so, or it is not
abbrev pub Decided : Type 0 → Type 0
Decided P = P ⊎ (P → ⊥)

pub both : {P Q : Type 0} → Decided P → Decided Q → Decided (P × Q)
both (inl p) (inl q) = inl (p, q)
both (inl p) (inr q) = inr (λ h. q h.1)
both (inr p) q = inr (λ h. p h.0)

-- the same in other words
pub told : {P Q : Type 0} → (P → Q) → (Q → P) → Decided P → Decided Q
told to from (inl p) = inl (to p)
told to from (inr p) = inr (λ q. p (from q))

some_below : (n : ℕ) (P : ℕ → Type 0) → ((k : ℕ) → Decided (P k)) → Decided ((k : ℕ) × (k < n) × P k)
some_below zero P each = inr (λ h. let below = h.1 in omega arith)
some_below (suc n) P each = elim (each n) [
  | inl here ↦ inl (n, omega arith, here)
  | inr none ↦ elim (some_below n P each) [
    | inl found ↦ let below = found.1 in inl (found.0, omega arith, found.2)
    | inr never ↦ inr (λ h. elim (cases_eq h.0 n) [
      | inl last ↦ none (subst P last h.2)
      | inr other ↦ let below = h.1 in never (h.0, omega arith, h.2)
    ])
  ]
]

all_below : (n : ℕ) (P : ℕ → Type 0) → ((k : ℕ) → Decided (P k)) → Decided ((k : ℕ) → k < n → P k)
all_below zero P each = inl (λ k below. absurd (omega arith))
all_below (suc n) P each = elim (each n) [
  | inr against ↦ inr (λ h. against (h n (omega arith)))
  | inl here ↦ elim (all_below n P each) [
    | inr against ↦ inr (λ h. against (λ k below. h k (omega arith)))
    | inl rest ↦ inl (λ k below. elim (cases_eq k n) [
      | inl last ↦ subst P (sym last) here
      | inr other ↦ rest k (omega arith)
    ])
  ]
]

-- so many octets with a property
abbrev pub SomeOctets : ℕ → (List ℕ → Type 0) → Type 0
SomeOctets n P = (octets : List ℕ) × (length octets ≡ n) × All (λ octet. octet < 256) octets × P octets

pub some_octets : (n : ℕ) (P : List ℕ → Type 0) → ((octets : List ℕ) → Decided (P octets)) → Decided (SomeOctets n P)
some_octets zero P each = elim (each []) [
  | inl here ↦ inl ([], refl, All-nil (λ octet. octet < 256), here)
  | inr none ↦ inr (λ h. none (subst P (no_octets h.0 h.1) h.3))
]
  where
    no_octets : (octets : List ℕ) → length octets ≡ 0 → octets ≡ []
    no_octets [] none = refl
    no_octets (octet ∷ octets) none = absurd (omega arith)
some_octets (suc n) P each =
    told to from (some_below 256 (λ octet. SomeOctets n (λ rest. P (octet ∷ rest)))
    (λ octet. some_octets n (λ rest. P (octet ∷ rest)) (λ rest. each (octet ∷ rest))))
  where
    to : ((octet : ℕ) × (octet < 256) × SomeOctets n (λ rest. P (octet ∷ rest))) → SomeOctets (suc n) P
    to h = let size = h.2.1 in (
      h.0 ∷ h.2.0,
      omega arith,
      All-cons (λ octet. octet < 256) h.0 h.2.0 h.1 h.2.2,
      h.2.3,
    )

    from : SomeOctets (suc n) P → (octet : ℕ) × (octet < 256) × SomeOctets n (λ rest. P (octet ∷ rest))
    from ([], size, fit, p) = absurd (omega arith)
    from (octet ∷ octets, size, fit, p) = (
      octet,
      All-head (λ o. o < 256) octet octets fit,
      (octets, omega arith, All-tail (λ o. o < 256) octet octets fit, p),
    )

-- ---- what a block asks

pub same_bits : (a b : List Bool) → Decided (a ≡ b)
same_bits [] [] = inl refl
same_bits [] (y ∷ b) = inr (λ e. cc e)
same_bits (x ∷ a) [] = inr (λ e. cc e)
same_bits (true ∷ a) (false ∷ b) = inr (λ e. cc e)
same_bits (false ∷ a) (true ∷ b) = inr (λ e. cc e)
same_bits (true ∷ a) (true ∷ b) = told (λ e. ap (λ t. true ∷ t) e) (λ e. let same : a ≡ b = cc e in same) (same_bits a b)
same_bits (false ∷ a) (false ∷ b) =
    told (λ e. ap (λ t. false ∷ t) e) (λ e. let same : a ≡ b = cc e in same) (same_bits a b)

pub at_most : (n m : ℕ) → Decided (n ≤ m)
at_most n m = elim (cases_lt m n) [
  | inl more ↦ inr (λ h. omega arith)
  | inr most ↦ inl most
]

-- bits open with a frame
module _ (bits : List Bool) where
  abbrev pub Opens : Type 0
  Opens = (frame : List ℕ) × (over : ℕ) × OpensWithFrame bits frame over

  -- after so many flags, and with the flag after the frame over after so many bits
  abbrev OpensAt : ℕ → ℕ → Type 0
  OpensAt over count = (frame : List ℕ) × EndsFrame (take over bits) frame
      × (take over bits ≡ flags count ++ (flag ++ (frame_bits frame ++ flag)))

  opens_at : (over count : ℕ) → Decided (OpensAt over count)
  opens_at over count = elim (frame_or_none (take over bits)) [
    | inr none ↦ inr (λ h. none h.0 h.1)
    | inl found ↦ elim (same_bits (take over bits) (flags count ++ (flag ++ (frame_bits found.0 ++ flag)))) [
      | inl same ↦ inl (found.0, found.1, same)
      | inr differ ↦ inr (λ h. differ (h.2 ∙ ap (λ f. flags count ++ (flag ++ (frame_bits f ++ flag)))
          (one_frame (take over bits) h.0 found.0 h.1 found.1).0))
    ]
  ]

  length-flags : (count : ℕ) → length (flags count) ≡ 8 * count
  length-flags zero = refl
  length-flags (suc count) = omega (arith, length-append flag (flags count), length-flags count)

  pub opens : Decided Opens
  opens =
      told to from (some_below (length bits + 1) (λ over. (count : ℕ) × (count < length bits + 1) × OpensAt over count)
      (λ over. some_below (length bits + 1) (OpensAt over) (opens_at over)))
    where
      to : ((over : ℕ) × (over < length bits + 1) × ((count : ℕ) × (count < length bits + 1) × OpensAt over count))
          → Opens
      to (over, within, (count, few, (frame, ends, is))) =
          let inner = frame_bits frame ++ flag in
          let size = ap length is in
          let taken = length-take over bits in
          let outer = length-append (flags count) (flag ++ inner) in
          let middle = length-append flag inner in
          let last = length-append (frame_bits frame) flag in
          let before = length-flags count in (
            frame,
            over,
            record {
              flags_before = count;
              rest = drop over bits;
              bits_are = sym (take-append-drop over bits) ∙ ap (λ xs. xs ++ drop over bits) is
                  ∙ append_assoc (flags count) (flag ++ inner) (drop over bits)
                  ∙ ap (λ xs. flags count ++ xs) (append_assoc flag inner (drop over bits)
                  ∙ ap (λ xs. flag ++ xs) (append_assoc (frame_bits frame) flag (drop over bits)));
              is_frame = ends.2;
              over_is = omega arith;
            },
          )

      from : Opens → (over : ℕ) × (over < length bits + 1)
          × ((count : ℕ) × (count < length bits + 1) × OpensAt over count)
      from (frame, over, o) =
          let count = o.flags_before in
          let inner = frame_bits frame ++ flag in
          let line = flags count ++ (flag ++ inner) in
          let whole : bits ≡ line ++ o.rest =
          o.bits_are ∙ ap (λ xs. flags count ++ (flag ++ xs)) (sym (append_assoc (frame_bits frame) flag o.rest))
          ∙ ap (λ xs. flags count ++ xs) (sym (append_assoc flag inner o.rest))
          ∙ sym (append_assoc (flags count) (flag ++ inner) o.rest) in
          let over_is = o.over_is in
          let outer = length-append (flags count) (flag ++ inner) in
          let middle = length-append flag inner in
          let last = length-append (frame_bits frame) flag in
          let before = length-flags count in
          let size : length line ≡ over = omega arith in
          let all = ap length whole ∙ length-append line o.rest in
          let front : take over bits ≡ line = ap (take over) whole ∙ take_at line o.rest over size in (
            over,
            omega arith,
            (count, omega arith, (frame, (flags count, front, o.is_frame), front)),
          )

-- a word is a codeword of a tag
pub codeword : (tag : ℕ) (word : List ℕ) → Decided (IsBlockCodeword tag word)
codeword tag word =
    told (λ h j least most. h j most least) (λ h j most least. h j least most)
    (all_below (1 + check_count tag) (λ j. 1 ≤ j → value_at j whole ≡ 0) at)
  where
    n : ℕ
    n = length word - check_count tag

    whole : List ℕ
    whole = whole_of Between (check_count tag) (take n word) (drop n word)

    at : (j : ℕ) → Decided (1 ≤ j → value_at j whole ≡ 0)
    at j = elim (cases_eq (value_at j whole) 0) [
      | inl none ↦ inl (λ least. none)
      | inr some ↦ elim (cases_lt 0 j) [
        | inl least ↦ inr (λ h. some (h least))
        | inr below ↦ inl (λ least. absurd (omega arith))
      ]
    ]
