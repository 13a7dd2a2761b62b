-- Whether a frame ends with the last of some bits can be decided.
use Rattle.slicer_bank.proofs.Common.{◌≡◌, ℕ, ◌-◌, ◌<◌, Bool, true, false, Option, Some, None, List, [], ◌∷◌, ◌++◌}
use Rattle.slicer_bank.proofs.Common.{length, take, inl, inr, refl, ap, subst, sym, ◌∙◌, arith, length-append, All}
use Rattle.slicer_bank.proofs.Common.{cases_eq, cases_lt, All-nil, All-cons, All-head, All-tail, Frame, flag, EndsFrame}
use Rattle.slicer_bank.proofs.Common.{frame_bits, frame_told}
use Rattle.std.proofs.Common.{true≢false}
use Rattle.std.specs.Prelude.{◌⊎◌}
use Rattle.hdlc_framer.specs.BitOrder.{sent_bits}
use Rattle.hdlc_framer.specs.Frames.{IsFrame, with_fcs}
use Rattle.hdlc_framer.specs.Held.{Line, flag_start, line_after}
use Rattle.hdlc_framer.specs.LineEvents.{ClosesFrame, EndsOnZero}
use Rattle.hdlc_framer.proofs.BitLemmas.{whole_octets, whole_octets-sent_bits}
use Rattle.hdlc_framer.proofs.FrameEnds.{event_told, with_fcs_fits, without_fcs}

-- it is so, or it is not
abbrev Decided : Type 0 → Type 0
Decided P = P ⊎ (P → ⊥)

same_bits : (a b : List Bool) → Decided (a ≡ b)
same_bits [] [] = inl refl
same_bits [] (y ∷ b) = inr (λ e. cc e)
same_bits (x ∷ a) [] = inr (λ e. cc e)
same_bits (true ∷ a) (false ∷ b) = inr (λ e. cc e)
same_bits (false ∷ a) (true ∷ b) = inr (λ e. cc e)
same_bits (true ∷ a) (true ∷ b) = elim (same_bits a b) [
  | inl same ↦ inl (ap (λ t. true ∷ t) same)
  | inr differ ↦ inr (λ e. differ (let same : a ≡ b = cc e in same))
]
same_bits (false ∷ a) (false ∷ b) = elim (same_bits a b) [
  | inl same ↦ inl (ap (λ t. false ∷ t) same)
  | inr differ ↦ inr (λ e. differ (let same : a ≡ b = cc e in same))
]

all_fit : (octets : List ℕ) → Decided (All (λ octet. octet < 256) octets)
all_fit [] = inl (All-nil (λ octet. octet < 256))
all_fit (octet ∷ octets) = elim (cases_lt octet 256) [
  | inl low ↦ elim (all_fit octets) [
    | inl rest ↦ inl (All-cons (λ x. x < 256) octet octets low rest)
    | inr against ↦ inr (λ all. against (All-tail (λ x. x < 256) octet octets all))
  ]
  | inr high ↦ inr (λ all. let low = All-head (λ x. x < 256) octet octets all in omega arith)
]

is_frame : (octets : List ℕ) → Decided (IsFrame octets)
is_frame octets = elim (all_fit octets) [
  | inr against ↦ inr (λ frame. against frame.octets_fit)
  | inl fit ↦ elim (cases_lt (length octets) 15) [
    | inl short ↦ inr (λ frame. let least = frame.least in omega arith)
    | inr enough ↦ elim (cases_lt 1024 (length octets)) [
      | inl long ↦ inr (λ frame. let most = frame.most in omega arith)
      | inr most ↦ inl (record { octets_fit = fit; least = enough; most = most })
    ]
  ]
]

-- the octets of a frame, by the content that it closes
octets_in : List Bool → List ℕ
octets_in content = take (length (whole_octets content) - 2) (whole_octets content)

octets_closed : (content : List Bool) (octets : List ℕ) → IsFrame octets
    → content ≡ sent_bits (with_fcs octets) ++ flag_start → octets_in content ≡ octets
unfolding octets_in
octets_closed content octets frame is =
    let whole : whole_octets content ≡ with_fcs octets =
    ap whole_octets is ∙ whole_octets-sent_bits (with_fcs octets) flag_start (with_fcs_fits octets frame.octets_fit)
    (omega arith) in
    ap (λ xs. take (length xs - 2) xs) whole ∙ without_fcs octets

closes : (line : Line) → ((octets : List ℕ) × ClosesFrame line octets)
    ⊎ ((octets : List ℕ) → ClosesFrame line octets → ⊥)
closes line = go line.content refl
  where
    go : (held : Option (List Bool)) → line.content ≡ held
        → ((octets : List ℕ) × ClosesFrame line octets) ⊎ ((octets : List ℕ) → ClosesFrame line octets → ⊥)
    go None is = inr (λ octets h. let none : Some (sent_bits (with_fcs octets) ++ flag_start) ≡ None = sym h.content
        ∙ is in cc none)
    go (Some content) is = elim (is_frame (octets_in content)) [
      | inr against ↦ inr (λ octets h.
          let same : Some content ≡ Some (sent_bits (with_fcs octets) ++ flag_start) = sym is ∙ h.content in
          against (subst (λ o. IsFrame o) (sym (octets_closed content octets h.frame cc)) h.frame))
      | inl frame ↦ elim (same_bits content (sent_bits (with_fcs (octets_in content)) ++ flag_start)) [
        | inl same ↦ inl (octets_in content, record { content = is ∙ ap Some same; frame = frame })
        | inr differ ↦ inr (λ octets h.
            let same : Some content ≡ Some (sent_bits (with_fcs octets) ++ flag_start) = sym is ∙ h.content in
            let contents : content ≡ sent_bits (with_fcs octets) ++ flag_start = cc same in
            differ (contents ∙ ap (λ o. sent_bits (with_fcs o) ++ flag_start)
            (sym (octets_closed content octets h.frame contents))))
      ]
    ]

ends_on_zero : (line : Line) → Decided (EndsOnZero line)
ends_on_zero line = elim (cases_eq line.ones 6) [
  | inr against ↦ inr (λ ends. against ends.six)
  | inl six ↦ go line.after_zero refl six
]
  where
    go : (after : Bool) → line.after_zero ≡ after → line.ones ≡ 6 → Decided (EndsOnZero line)
    go true is six = inl (record { six = six; after_zero = is })
    go false is six = inr (λ ends. true≢false (sym ends.after_zero ∙ is))

-- one bit more ends a frame, or none
frame_at_bit : (bits : List Bool) (bit : Bool)
    → ((octets : List ℕ) × EndsFrame (bits ++ bit ∷ []) octets)
    ⊎ ((octets : List ℕ) → EndsFrame (bits ++ bit ∷ []) octets → ⊥)
frame_at_bit bits true = inr (λ octets ends. true≢false (frame_told bits true octets ends).0)
frame_at_bit bits false = elim (ends_on_zero (line_after bits)) [
  | inr against ↦ inr (λ octets ends. against (frame_told bits false octets ends).1)
  | inl ends ↦ elim (closes (line_after bits)) [
    | inl held ↦ inl (event_told bits false Frame (ends, held))
    | inr none ↦ inr (λ octets frame. none octets (frame_told bits false octets frame).2)
  ]
]

-- bits are none, or some with a last one
pushed : (bit : Bool) (bits : List Bool) → (front : List Bool) × (last : Bool) × (bit ∷ bits ≡ front ++ last ∷ [])
pushed bit [] = ([], bit, refl)
pushed bit (next ∷ bits) = let h = pushed next bits in (bit ∷ h.0, h.1, ap (λ t. bit ∷ t) h.2)

-- A frame ends with the last bit, or none does.
pub frame_or_none : (bits : List Bool) → ((octets : List ℕ) × EndsFrame bits octets)
    ⊎ ((octets : List ℕ) → EndsFrame bits octets → ⊥)
frame_or_none [] = inr (λ octets ends.
    let none : 0 ≡ length (ends.0 ++ (flag ++ (frame_bits octets ++ flag))) = ap length ends.1 in
    let outer = length-append ends.0 (flag ++ (frame_bits octets ++ flag)) in
    let inner = length-append flag (frame_bits octets ++ flag) in
    omega arith)
frame_or_none (bit ∷ bits) =
    let h = pushed bit bits in
    subst (λ b. ((octets : List ℕ) × EndsFrame b octets) ⊎ ((octets : List ℕ) → EndsFrame b octets → ⊥)) (sym h.2)
    (frame_at_bit h.0 h.1)
