-- Samples near a signal of FX.25: each of its units comes in them, so they give its frames.
use Rattle.fx25_signal.proofs.Common.{◌≡◌, ℕ, zero, suc, ◌+◌, ◌*◌, ◌/◌, ◌%◌, ◌<◌, ◌≤◌, Bool, false, ℤ, List, []}
use Rattle.fx25_signal.proofs.Common.{◌∷◌, ◌++◌, length, map, take, drop, get_or, refl, ap, sym, ◌∙◌, subst, arith, append_assoc}
use Rattle.fx25_signal.proofs.Common.{length-append, All, AllByRecursion, recursion_from_All, AreApart, Comes, SentUnit}
use Rattle.fx25_signal.proofs.Common.{bits_at, bits_in_unit, unit_end, MergesTo, NoneStray}
use Rattle.std.specs.List.{flat_map}
use Rattle.std.proofs.lemmas.List.{drop_at, take_at}
use Rattle.std.proofs.lemmas.List.Concat.{flat_map-cons}
use Rattle.std.proofs.lemmas.List.{map-append}
use Rattle.tone_table.specs.declared.tone.Tone.{Tone}
use Rattle.tone_table.specs.declared.tone.Tone.TheVariants.{Mark}
use Rattle.tone_table.specs.Wave.{wave_from}
use Rattle.nrzi_bits.specs.Line.{bits_from, last_from, last_tone, line, same_tone, sent_tone}
use Rattle.nrzi_bits.proofs.LineLemmas.{bits_from-append, bits_from-line_from, length-line_from}
use Rattle.hdlc_framer.specs.Body.{flags}
use Rattle.hdlc_framer.specs.Frames.{IsFrame}
use Rattle.offset_slicers.specs.Near.{IsNear}
use Rattle.offset_slicers.specs.Windows.{bits, tones_at}
use Rattle.offset_slicers.proofs.NearWaves.{tones_at-near}
use Rattle.offset_slicers.proofs.WindowLemmas.{bits-aligned, length-bits, tones_at-aligned}
use Rattle.clean_signal.proofs.FrameBits.{flag_tail, length-flags}
use Rattle.clean_signal.proofs.WaveLemmas.{length-wave_from}
use Rattle.fx25_sender.specs.Transmission.{fx25_body}
use Rattle.fx25_sender.specs.Units.{unit}
use Rattle.fx25_signal.specs.Damage.{AreLost, ComesRight, DifferInStretches, Stretch}
use Rattle.fx25_signal.proofs.LostStretches.{all_from, still_come}
use Rattle.fx25_signal.specs.NearSignal.{IsNearAll, IsReceived, ReceivedBlocks, body_of, frames_of, sent_units}
use Rattle.fx25_signal.specs.NearSignal.{sent_units_from, tag_of, unit_of, units_from}
use Rattle.fx25_signal.proofs.UnitBits.{IsSent, length-sent, right_comes, unit_sent}
use Rattle.fx25_signal.proofs.UnitLaw.{unit_law}

-- the bits of the units of some frames
abbrev units_bits : ℕ → List (List ℕ) → List Bool
units_bits checks frames = flat_map (unit checks) frames

length-unit : (checks begin : ℕ) (octets : List ℕ)
    → length (unit checks octets) ≡ bits_in_unit (tag_of checks octets) octets
length-unit checks begin octets =
    length-sent (tag_of checks octets) octets (unit checks octets) (unit_sent checks octets)

-- ---- units that stand in the bits of a lane come

module _ (checks : ℕ) (x : List ℤ) (lane : ℕ) (small : lane < 8) where
  one_comes : (octets : List ℕ) (front rest : List Bool) (begin : ℕ) → IsFrame octets
      → bits lane x ≡ front ++ (unit checks octets ++ rest) → begin ≡ lane + 8 * length front
      → ComesRight x (unit_of checks begin octets)
  one_comes octets front rest begin fits is at =
      let u : SentUnit = unit_of checks begin octets in
      let place : begin / 8 ≡ length front = omega arith in
      let there : begin % 8 ≡ lane = omega arith in
      let n : ℕ = bits_in_unit (tag_of checks octets) octets in
      let size : length (unit checks octets) ≡ n = length-unit checks begin octets in
      let came : bits_at x u ≡ unit checks octets =
      ap (λ k. take n (drop k (bits (begin % 8) x))) place
      ∙ ap (λ l. take n (drop (length front) (bits l x))) there
      ∙ ap (λ b. take n (drop (length front) b)) is
      ∙ ap (take n) (drop_at front (unit checks octets ++ rest) (length front) refl)
      ∙ take_at (unit checks octets) rest n size in
      record {
        is_frame = fits;
        comes = subst (λ b. IsSent (tag_of checks octets) octets b) (sym came) (unit_sent checks octets);
      }

  all_come : (frames : List (List ℕ)) (front rest : List Bool) (begin : ℕ) → AllByRecursion IsFrame frames
      → bits lane x ≡ front ++ (units_bits checks frames ++ rest) → begin ≡ lane + 8 * length front
      → AllByRecursion (ComesRight x) (units_from checks begin frames)
  all_come [] front rest begin fits is at = tt
  all_come (octets ∷ frames) front rest begin fits is at =
      let here : List Bool = unit checks octets in
      let more : List Bool = units_bits checks frames ++ rest in
      let split : bits lane x ≡ front ++ (here ++ more) =
      is ∙ ap (λ b. front ++ (b ++ rest)) (flat_map-cons (unit checks) octets frames)
      ∙ ap (λ b. front ++ b) (append_assoc here (units_bits checks frames) rest) in
      let size = length-unit checks begin octets in
      let next : unit_end (unit_of checks begin octets) ≡ lane + 8 * length (front ++ here) =
      omega (arith, length-append front here) in (
        one_comes octets front more begin fits.0 split at,
        all_come frames (front ++ here) rest (unit_end (unit_of checks begin octets)) fits.1
            (split ∙ sym (append_assoc front here more)) next,
      )

-- ---- where units stand

units_apart : (checks : ℕ) (frames : List (List ℕ)) (begin place : ℕ) (rest : List SentUnit) → place ≤ begin
    → ((n : ℕ) → n ≤ begin + 8 * length (units_bits checks frames) → AreApart n rest)
    → AreApart place (units_from checks begin frames ++ rest)
units_apart checks [] begin place rest le follow = follow place (omega arith)
units_apart checks (octets ∷ frames) begin place rest le follow =
    let size = length-unit checks begin octets in
    let all : length (units_bits checks (octets ∷ frames)) ≡ length (unit checks octets)
    + length (units_bits checks frames) = ap length (flat_map-cons (unit checks) octets frames)
    ∙ length-append (unit checks octets) (units_bits checks frames) in
    let end : ℕ = unit_end (unit_of checks begin octets) in (
      le,
      units_apart checks frames end end rest (omega arith) (λ n most. follow n (omega arith)),
    )

-- flags and units are as many bits as both
length-body : (r : ReceivedBlocks)
    → 8 * r.transmission.opening + length (units_bits r.checks r.transmission.frames) ≤ length (body_of r)
unfolding fx25_body
length-body r =
    let t = r.transmission in
    let units : List Bool = units_bits r.checks t.frames in
    omega (
      arith,
      length-append (flags t.opening) (units ++ flags t.closing),
      length-append units (flags t.closing),
      length-flags t.opening,
    )

sent_apart : (received : List ReceivedBlocks) (begin place : ℕ) → place ≤ begin
    → AreApart place (sent_units_from begin received)
sent_apart [] begin place le = tt
sent_apart (r ∷ received) begin place le =
    let body = length-body r in
    let first : ℕ = begin + r.transmission.silence + 64 * r.transmission.opening in
    let next : ℕ = begin + r.transmission.silence + 8 * length (body_of r) in
    units_apart r.checks r.transmission.frames first place (sent_units_from next received) (omega arith)
    (λ n most. sent_apart received next n (omega arith))

octets-units : (checks : ℕ) (frames : List (List ℕ)) (begin : ℕ)
    → map (λ unit. unit.octets) (units_from checks begin frames) ≡ frames
octets-units checks [] begin = refl
octets-units checks (octets ∷ frames) begin =
    ap (λ os. octets ∷ os) (octets-units checks frames (unit_end (unit_of checks begin octets)))

octets-sent : (received : List ReceivedBlocks) (begin : ℕ)
    → map (λ unit. unit.octets) (sent_units_from begin received) ≡ frames_of received
octets-sent [] begin = refl
octets-sent (r ∷ received) begin =
    let first : ℕ = begin + r.transmission.silence + 64 * r.transmission.opening in
    let next : ℕ = begin + r.transmission.silence + 8 * length (body_of r) in
    map-append (λ unit. unit.octets) (units_from r.checks first r.transmission.frames) (sent_units_from next received)
    ∙ ap (λ os. os ++ map (λ unit. unit.octets) (sent_units_from next received))
    (octets-units r.checks r.transmission.frames first)
    ∙ ap (λ os. r.transmission.frames ++ os) (octets-sent received next)
    ∙ sym (flat_map-cons (λ r. r.transmission.frames) r received)

-- ---- the bits of a transmission

-- the windows of samples near a wave are decided as its tones
decided_of : (r : ReceivedBlocks) (part : List ℤ) → IsReceived r
    → IsNear r.level (wave_from r.phase (line (body_of r))) part → tones_at 0 part ≡ line (body_of r)
decided_of r part good near =
    let tones : List Tone = line (body_of r) in
    let at = good.phase in
    let sixth : r.phase ≡ 8 * (r.phase / 8) = omega (arith, at.sixth) in
    let below : r.phase / 8 < 6 = omega (arith, at.below) in
    tones_at-near r.level tones (r.phase / 8) part good.least below
    (subst (λ p. IsNear r.level (wave_from p tones) part) sixth near)

-- the bits that are heard of a line that some flags open, whatever the tone before it: the first bit may be lost
opening_bits : (last : Tone) (opening : ℕ) (others : List Bool) → 1 ≤ opening
    → (heard : List Bool) × (bits_from last (line (flags opening ++ others)) ≡ heard ++ others)
    × (length heard ≡ 8 * opening)
opening_bits last zero others some = absurd (omega arith)
opening_bits last (suc opening) others some =
    let c : Bool = same_tone last (sent_tone Mark false) in
    let tail : List Bool = flag_tail ++ flags opening in
    let all : bits_from last (line (flags (suc opening) ++ others)) ≡ c ∷ (tail ++ others) =
    ap (λ b. c ∷ b) (bits_from-line_from (sent_tone Mark false) (tail ++ others)) in (
      c ∷ tail,
      all,
      omega (arith, length-append flag_tail (flags opening), length-flags opening),
    )

-- flags open a transmission
body_opens : (r : ReceivedBlocks) (last : Tone)
    → bits_from last (line (body_of r))
    ≡ bits_from last (line (flags r.transmission.opening
    ++ (units_bits r.checks r.transmission.frames ++ flags r.transmission.closing)))
unfolding fx25_body
body_opens r last = refl

shape : (a b c d e : List Bool) → a ++ ((b ++ (c ++ d)) ++ e) ≡ (a ++ b) ++ (c ++ (d ++ e))
shape a b c d e = simp append_assoc

-- the bits of the lane whose windows are those of a transmission: some, the rest of the opening flags, and the units
lane_bits : (r : ReceivedBlocks) (before part rest : List ℤ) → IsReceived r
    → IsNear r.level (wave_from r.phase (line (body_of r))) part
    → (front : List Bool) × (post : List Bool)
    × (bits (length before % 8) (before ++ (part ++ rest))
    ≡ front ++ (units_bits r.checks r.transmission.frames ++ post))
    × (length before + 64 * r.transmission.opening ≡ length before % 8 + 8 * length front)
lane_bits r before part rest good near =
    let t = r.transmission in
    let body : List Bool = body_of r in
    let units : List Bool = units_bits r.checks t.frames in
    let offset : ℕ = length before % 8 in
    let q : ℕ = length before / 8 in
    let whole : length before ≡ offset + 8 * q = omega arith in
    let samples : length part ≡ 8 * length body =
    near.size ∙ length-wave_from r.phase (line body) ∙ ap (λ n. 8 * n) (length-line_from Mark body) in
    let long : length part ≡ 0 + 8 * length body = omega arith in
    let last : Tone = last_tone (tones_at offset before) in
    let more : List Bool = bits_from (last_from last (line body)) (tones_at 0 rest) in
    let heard : bits offset (before ++ (part ++ rest)) ≡ bits offset before ++ (bits_from last (line body) ++ more) =
    bits-aligned offset q before (part ++ rest) whole
    ∙ ap (λ ts. bits offset before ++ bits_from last ts) (tones_at-aligned 0 (length body) part rest long
    ∙ ap (λ ts. ts ++ tones_at 0 rest) (decided_of r part good near))
    ∙ ap (λ b. bits offset before ++ b) (bits_from-append last (line body) (tones_at 0 rest)) in
    let opened = opening_bits last t.opening (units ++ flags t.closing) good.opening in
    let front : List Bool = bits offset before ++ opened.0 in
    let size = opened.2 in
    let count = length-bits offset before in (
      front,
      flags t.closing ++ more,
      heard ∙ ap (λ b. bits offset before ++ (b ++ more)) (body_opens r last ∙ opened.1)
          ∙ shape (bits offset before) opened.0 units (flags t.closing) more,
      omega (arith, length-append (bits offset before) opened.0),
    )

all_append : {X : Type 0} (P : X → Type 0) (xs ys : List X) → AllByRecursion P xs → AllByRecursion P ys
    → AllByRecursion P (xs ++ ys)
all_append P [] ys h k = k
all_append P (x ∷ xs) ys h k = (h.0, all_append P xs ys h.1 k)

sent_come : (received : List ReceivedBlocks) (p x : List ℤ) (begin : ℕ) → AllByRecursion IsReceived received
    → IsNearAll received x → begin ≡ length p → AllByRecursion (ComesRight (p ++ x)) (sent_units_from begin received)
sent_come [] p x begin good near at = tt
sent_come (r ∷ received) p x begin good (gap, part, rest, parts, silence, here, others) at =
    let before : List ℤ = p ++ gap in
    let size = length-append p gap in
    let first : ℕ = begin + r.transmission.silence + 64 * r.transmission.opening in
    let next : ℕ = begin + r.transmission.silence + 8 * length (body_of r) in
    let long : length part ≡ 8 * length (body_of r) =
    here.size ∙ length-wave_from r.phase (line (body_of r)) ∙ ap (λ n. 8 * n) (length-line_from Mark (body_of r)) in
    let after : next ≡ length (before ++ part) = omega (arith, length-append before part) in
    let whole : before ++ (part ++ rest) ≡ p ++ x =
    append_assoc p gap (part ++ rest) ∙ ap (λ y. p ++ y) (sym parts) in
    let there : (before ++ part) ++ rest ≡ p ++ x = append_assoc before part rest ∙ whole in
    let found = lane_bits r before part rest good.0 here in
    let placed = found.3 in
    all_append (ComesRight (p ++ x)) (units_from r.checks first r.transmission.frames) (sent_units_from next received)
    (subst (λ y. AllByRecursion (ComesRight y) (units_from r.checks first r.transmission.frames)) whole
    (all_come r.checks (before ++ (part ++ rest)) (length before % 8) (omega arith) r.transmission.frames found.0
    found.1 first (recursion_from_All IsFrame r.transmission.frames good.0.frames) found.2 (omega arith)))
    (subst (λ y. AllByRecursion (ComesRight y) (sent_units_from next received)) there
    (sent_come received (before ++ part) rest next good.1 others after))

-- ---- the laws

-- each unit of samples near a signal comes right
near_come : (received : List ReceivedBlocks) (x : List ℤ) → All IsReceived received → IsNearAll received x
    → AllByRecursion (ComesRight x) (sent_units received)
near_come received x good near = sent_come received [] x 0 (recursion_from_All IsReceived received good) near refl

pub near_law : (received : List ReceivedBlocks) (x : List ℤ) → All IsReceived received → IsNearAll received x
    → NoneStray (sent_units received) x → MergesTo (frames_of received) x
near_law received x good near none =
    let right = all_from (ComesRight x) (sent_units received) (near_come received x good near) in
    subst (λ frames. MergesTo frames x) (octets-sent received 0)
    (unit_law (sent_units received) x (sent_apart received 0 0 (omega arith))
    (λ k d l. right_comes x (get_or (sent_units received) k d) (right k d l)) none)

-- and comes still if each block lost a stretch
pub lost_law : (received : List ReceivedBlocks) (stretches : List Stretch) (x sent : List ℤ) → All IsReceived received
    → IsNearAll received sent → AreLost (sent_units received) stretches → DifferInStretches stretches x sent
    → NoneStray (sent_units received) x → MergesTo (frames_of received) x
lost_law received stretches x sent good near lost differ none =
    let units : List SentUnit = sent_units received in
    let apart = sent_apart received 0 0 (omega arith) in
    subst (λ frames. MergesTo frames x) (octets-sent received 0)
    (unit_law units x apart
    (all_from (Comes x) units (still_come units stretches x sent apart (near_come received sent good near) lost differ))
    none)
