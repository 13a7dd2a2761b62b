-- The bits that wait for a deframer.
use Rattle.hdlc_framer.proofs.Common.{◌≡◌, ℕ, ◌+◌, ◌<◌, ◌≤◌, Bool, false, true, List, [], ◌∷◌, ◌++◌, length, drop, ap}
use Rattle.hdlc_framer.proofs.Common.{refl, sym, subst, ◌∙◌, arith, append_assoc, append-nil, length-append, length_push}
use Rattle.hdlc_framer.proofs.Common.{replicate, EndsFrame}
use Rattle.std.proofs.Common.{◌-◌, ◌/◌}
use Rattle.std.proofs.lemmas.List.{drop-append-le, drop-drop, drop_all, drop_at, length-drop}
use Rattle.hdlc_framer.proofs.BitLemmas.{length-low_bits, length-octet_bits, low_bits-with_zero}
use Rattle.hdlc_framer.proofs.BitLemmas.{low_bits-push_one, number_of-octet_bits}
use Rattle.hdlc_framer.specs.BitOrder.{low_bits, number_of}
unfoldable use Rattle.hdlc_framer.specs.BitOrder.{octet_bits}
use Rattle.hdlc_framer.specs.Frames.{frame_bits}
use Rattle.hdlc_framer.specs.Held.{Held as HeldDeframer, StandsFor as DeframerStandsFor}
use Rattle.hdlc_framer.specs.Stuffing.{flag}
use Rattle.hdlc_framer.specs.Late.{StandsFor, last_eight}

-- ---- the last eight bits

pub later_one : (last : ℕ) → last < 256 → octet_bits (last / 2 + 128) ≡ drop 1 (octet_bits last) ++ true ∷ []
unfolding octet_bits
later_one last below = low_bits-push_one 7 (last / 2) (omega arith)

pub later_zero : (last : ℕ) → last < 256 → octet_bits (last / 2) ≡ drop 1 (octet_bits last) ++ false ∷ []
unfolding octet_bits
later_zero last below = low_bits-with_zero 7 (last / 2) (omega arith)

last_more : (b : List Bool) (bit : Bool) → last_eight (b ++ bit ∷ []) ≡ drop 1 (last_eight b) ++ bit ∷ []
last_more b bit =
    let zeros : List Bool = replicate 8 false in
    let all : List Bool = zeros ++ b in
    let size : length all ≡ 8 + length b = length-append zeros b in
    let more : length (b ++ bit ∷ []) ≡ length b + 1 = length_push b bit in
    ap (λ n. drop n (zeros ++ (b ++ bit ∷ []))) more
    ∙ ap (drop (length b + 1)) (sym (append_assoc zeros b (bit ∷ [])))
    ∙ drop-append-le (length b + 1) all (bit ∷ []) (omega arith)
    ∙ ap (λ xs. xs ++ bit ∷ []) (sym (drop-drop 1 (length b) all))

pub late_none : (deframer : HeldDeframer) → DeframerStandsFor deframer [] → StandsFor deframer 0 0 []
unfolding octet_bits
late_none deframer stands = record { taken = []; bits_are = refl; deframer_stands = stands; last_is = refl }

-- one bit more waits
pub late_more : (deframer : HeldDeframer) (last now waiting : ℕ) (b : List Bool) (bit : Bool) → waiting < 8
    → octet_bits now ≡ drop 1 (octet_bits last) ++ bit ∷ []
    → StandsFor deframer last waiting b → StandsFor deframer now (waiting + 1) (b ++ bit ∷ [])
late_more deframer last now waiting b bit few is s =
    let front : ℕ = 8 - (waiting + 1) in
    let size = length-octet_bits last in
    let wait : drop front (octet_bits now) ≡ drop (8 - waiting) (octet_bits last) ++ bit ∷ [] = ap (drop front) is
    ∙ drop-append-le front (drop 1 (octet_bits last)) (bit ∷ []) (omega (arith, length-drop 1 (octet_bits last)))
    ∙ ap (λ xs. xs ++ bit ∷ []) (drop-drop front 1 (octet_bits last))
    ∙ ap (λ n. drop n (octet_bits last) ++ bit ∷ []) (front_is waiting few) in
    record {
      taken = s.taken;
      bits_are = ap (λ xs. xs ++ bit ∷ []) s.bits_are ∙ append_assoc s.taken (drop (8 - waiting) (octet_bits last)) (bit ∷ [])
          ∙ ap (λ xs. s.taken ++ xs) (sym wait);
      deframer_stands = s.deframer_stands;
      last_is = is ∙ ap (λ xs. drop 1 xs ++ bit ∷ []) s.last_is ∙ sym (last_more b bit);
    }
  where
    front_is : (waiting : ℕ) → waiting < 8 → 1 + (8 - (waiting + 1)) ≡ 8 - waiting
    front_is waiting few = omega arith

-- none waits
pub late_all : (deframer : HeldDeframer) (last : ℕ) (b : List Bool) → DeframerStandsFor deframer b
    → octet_bits last ≡ last_eight b → StandsFor deframer last 0 b
late_all deframer last b stands is = record {
  taken = b;
  bits_are = sym (append-nil b) ∙ ap (λ xs. b ++ xs) (sym (drop_all 8 (octet_bits last) (omega (arith, length-octet_bits last))));
  deframer_stands = stands;
  last_is = is;
}

-- eight bits that waited are taken
pub late_eight : (deframer now : HeldDeframer) (last waiting : ℕ) (b : List Bool) → waiting ≡ 8
    → ((bits : List Bool) → DeframerStandsFor deframer bits → DeframerStandsFor now (bits ++ octet_bits last))
    → StandsFor deframer last waiting b → StandsFor now last 0 b
late_eight deframer now last waiting b eight takes s =
    let all : b ≡ s.taken ++ octet_bits last = s.bits_are
    ∙ ap (λ n. s.taken ++ drop (8 - n) (octet_bits last)) eight in
    late_all now last b (subst (DeframerStandsFor now) (sym all) (takes s.taken s.deframer_stands)) s.last_is

pub all_bits : (octet : ℕ) → drop 0 (low_bits 8 octet) ≡ octet_bits octet
unfolding octet_bits
all_bits octet = refl

-- ---- frames

-- the last eight bits of those with which a frame ends
pub flag_last : (b : List Bool) (octets : List ℕ) (last : ℕ) → last < 256 → octet_bits last ≡ last_eight b
    → EndsFrame b octets → last ≡ 126
flag_last b octets last below is ends =
    let zeros : List Bool = replicate 8 false in
    let body : List Bool = flag ++ (frame_bits octets ++ flag) in
    let front : List Bool = ends.0 ++ (flag ++ frame_bits octets) in
    let whole : b ≡ front ++ flag = ends.1
    ∙ ap (λ t. ends.0 ++ t) (sym (append_assoc flag (frame_bits octets) flag))
    ∙ sym (append_assoc ends.0 (flag ++ frame_bits octets) flag) in
    let size : length b ≡ length front + 8 = ap length whole ∙ length-append front flag in
    let eight : last_eight b ≡ flag = ap (λ xs. drop (length b) (zeros ++ xs)) whole
    ∙ ap (drop (length b)) (sym (append_assoc zeros front flag))
    ∙ drop_at (zeros ++ front) flag (length b) (omega (arith, length-append zeros front)) in
    sym (number_of-octet_bits last below) ∙ ap number_of (is ∙ eight)

-- the bits of a flag but the last, and that
flag_bits : (first last : ℕ) → first ≤ 7 → last ≡ 126
    → drop first (low_bits 7 last) ++ false ∷ [] ≡ drop first (octet_bits last)
unfolding octet_bits
flag_bits first last within is =
    sym (drop-append-le first (low_bits 7 last) (false ∷ []) (omega (arith, length-low_bits 7 last)))
    ∙ ap (drop first) (seven last is)
  where
    seven : (last : ℕ) → last ≡ 126 → low_bits 7 last ++ false ∷ [] ≡ low_bits 8 last
    seven last is = ap (λ n. low_bits 7 n ++ false ∷ []) is ∙ ap (low_bits 8) (sym is)

-- what waits but for the last 0 of a flag
pub all_but_last : (deframer : HeldDeframer) (last waiting first : ℕ) (b : List Bool) → 1 ≤ waiting → waiting ≤ 8
    → first ≡ 8 - waiting → last ≡ 126 → (s : StandsFor deframer last waiting b)
    → b ≡ (s.taken ++ drop first (low_bits 7 last)) ++ false ∷ []
all_but_last deframer last waiting first b some most is flag_is s =
    s.bits_are ∙ ap (λ n. s.taken ++ drop n (octet_bits last)) (sym is)
    ∙ ap (λ xs. s.taken ++ xs) (sym (flag_bits first last (omega arith) flag_is))
    ∙ sym (append_assoc s.taken (drop first (low_bits 7 last)) (false ∷ []))
