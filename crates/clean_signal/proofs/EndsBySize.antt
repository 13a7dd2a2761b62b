-- The true ends of transmissions, whatever the samples of a bit: how far apart, and with which frames.
use Rattle.clean_signal.proofs.Common.{◌≡◌, ℕ, ◌+◌, ◌*◌, ◌≤◌, List, [], ◌∷◌, ◌++◌, length, map, refl, ap, sym, ◌∙◌}
use Rattle.clean_signal.proofs.Common.{arith, length-append, AllByRecursion, mul-add, flat_map-cons, recursion_from_All}
use Rattle.clean_signal.proofs.Common.{IsFrame, frame_bits, flag, Transmission, TrueEnd, IsTransmission, body_of}
use Rattle.clean_signal.proofs.Common.{frames_of}
use Rattle.std.proofs.Math.Nat.{mul-le-mul_left}
use Rattle.std.proofs.lemmas.List.{map-append}
use Rattle.clean_signal.proofs.FrameBits.{closed, length-body, length-frame_bits}

-- how many samples a transmission takes: its silence, and so many a bit
abbrev pub count_by : ℕ → Transmission → ℕ
count_by size t = t.silence + size * length (body_of t)

-- the end of a frame whose first window begins at a sample
abbrev pub end_by : ℕ → ℕ → List ℕ → ℕ
end_by size begin octets = begin + size * length (frame_bits octets ++ flag)

-- the ends of frames with one flag between neighbours
abbrev pub ends_by : ℕ → ℕ → List (List ℕ) → List TrueEnd
ends_by size begin [] = []
ends_by size begin (octets ∷ frames) = record { end = end_by size begin octets; octets = octets }
    ∷ ends_by size (end_by size begin octets) frames

-- the ends of transmissions, each after its silence and its opening flags
abbrev pub true_ends_by : ℕ → ℕ → List Transmission → List TrueEnd
true_ends_by size begin [] = []
true_ends_by size begin (t ∷ transmissions) =
    ends_by size (begin + t.silence + (8 * size) * t.opening) t.frames
    ++ true_ends_by size (begin + count_by size t) transmissions

-- each end is at least the samples of 144 bits, a frame's least and a flag, after a place or the one before
abbrev pub Spaced : ℕ → ℕ → List TrueEnd → Type 0
Spaced size place [] = Unit {0}
Spaced size place (e ∷ ends) = (place + 144 * size ≤ e.end) × Spaced size e.end ends

module _ (size : ℕ) where
  spaced_frames : (frames : List (List ℕ)) (begin place : ℕ) (rest : List TrueEnd) → place ≤ begin
      → AllByRecursion IsFrame frames
      → ((n : ℕ) → n ≤ begin + size * length (closed frames) → Spaced size n rest)
      → Spaced size place (ends_by size begin frames ++ rest)
  spaced_frames [] begin place rest le fits follow = follow place (omega arith)
  spaced_frames (octets ∷ frames) begin place rest le fits follow =
      let here : ℕ = length (frame_bits octets ++ flag) in
      let one = length-append (frame_bits octets) flag in
      let more = length-append (frame_bits octets) (flag ++ closed frames) in
      let all : length (closed (octets ∷ frames)) ≡ here + length (closed frames) = omega arith in
      let long : 144 ≤ here = omega (arith, length-frame_bits octets fits.0) in
      let far = mul-le-mul_left size long in
      let parts : size * length (closed (octets ∷ frames)) ≡ size * here + size * length (closed frames) =
      ap (λ n. size * n) all ∙ mul-add size here (length (closed frames)) in (
        omega (arith, far),
        spaced_frames frames (end_by size begin octets) (end_by size begin octets) rest (omega arith) fits.1
            (λ n l. follow n (omega (arith, parts))),
      )

  pub spaced_by : (transmissions : List Transmission) (begin place : ℕ) → place ≤ begin
      → AllByRecursion IsTransmission transmissions → Spaced size place (true_ends_by size begin transmissions)
  spaced_by [] begin place le fits = tt
  spaced_by (t ∷ transmissions) begin place le fits =
      let good : IsTransmission t = fits.0 in
      let body = mul-le-mul_left size (length-body t.frames t.opening t.closing good.closing) in
      let parts = mul-add size (8 * t.opening) (length (closed t.frames)) in
      let opening : size * (8 * t.opening) ≡ (8 * size) * t.opening = grind arith in
      spaced_frames t.frames (begin + t.silence + (8 * size) * t.opening) place
      (true_ends_by size (begin + count_by size t) transmissions) (omega arith)
      (recursion_from_All IsFrame t.frames good.frames)
      (λ n l. spaced_by transmissions (begin + count_by size t) n (omega (arith, body, parts, opening)) fits.1)

  octets-ends_by : (frames : List (List ℕ)) (begin : ℕ) → map (λ e. e.octets) (ends_by size begin frames) ≡ frames
  octets-ends_by [] begin = refl
  octets-ends_by (octets ∷ frames) begin =
      ap (λ os. octets ∷ os) (octets-ends_by frames (end_by size begin octets))

  pub octets-true_ends_by : (transmissions : List Transmission) (begin : ℕ)
      → map (λ e. e.octets) (true_ends_by size begin transmissions) ≡ frames_of transmissions
  octets-true_ends_by [] begin = refl
  octets-true_ends_by (t ∷ transmissions) begin =
      let first : ℕ = begin + t.silence + (8 * size) * t.opening in
      let next : ℕ = begin + count_by size t in
      map-append (λ e. e.octets) (ends_by size first t.frames) (true_ends_by size next transmissions)
      ∙ ap (λ os. os ++ map (λ e. e.octets) (true_ends_by size next transmissions)) (octets-ends_by t.frames first)
      ∙ ap (λ os. t.frames ++ os) (octets-true_ends_by transmissions next)
      ∙ sym (flat_map-cons (λ t. t.frames) t transmissions)
