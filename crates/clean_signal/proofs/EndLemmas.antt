-- The true ends of transmissions: how far apart, with which frames, and those of one transmission more.
use Rattle.clean_signal.proofs.Common.{◌≡◌, ℕ, ◌+◌, ◌-◌, ◌*◌, ◌≤◌, List, [], ◌∷◌, ◌++◌, length, map, ap, sym, ◌∙◌}
use Rattle.clean_signal.proofs.Common.{arith, length-append, append_assoc, append-nil, AllByRecursion, flat_map-cons}
use Rattle.clean_signal.proofs.Common.{flat_map-append, flags, body, frame_bits, flag, Transmission, samples_of, signal}
use Rattle.clean_signal.proofs.Common.{IsTransmission, sample_count, frames_of, true_ends_from, true_ends}
use Rattle.clean_signal.specs.TrueEnds.{end_of, ends_of}
use Rattle.clean_signal.proofs.WaveLemmas.{length-samples_of}
use Rattle.clean_signal.proofs.EndsBySize.{Spaced, spaced_by, octets-true_ends_by}
use Rattle.clean_signal.proofs.FrameBits.{length-flags}

-- ---- how far apart, and with which frames

pub spaced : (transmissions : List Transmission) (begin place : ℕ) → place ≤ begin
    → AllByRecursion IsTransmission transmissions
    → Spaced 8 place (true_ends_from begin transmissions)
spaced = spaced_by 8

pub octets-true_ends_from : (transmissions : List Transmission) (begin : ℕ)
    → map (λ e. e.octets) (true_ends_from begin transmissions) ≡ frames_of transmissions
octets-true_ends_from = octets-true_ends_by 8

-- ---- one transmission more

true_ends_from-push : (transmissions : List Transmission) (t : Transmission) (begin : ℕ)
    → true_ends_from begin (transmissions ++ t ∷ []) ≡ true_ends_from begin transmissions
    ++ ends_of (begin + length (signal transmissions)) t
unfolding signal
true_ends_from-push [] t begin = append-nil (ends_of begin t) ∙ ap (λ n. ends_of n t) (omega arith)
true_ends_from-push (first ∷ transmissions) t begin =
    let size : length (signal (first ∷ transmissions)) ≡ sample_count first + length (signal transmissions)
    = ap length (flat_map-cons samples_of first transmissions) ∙ length-append (samples_of first) (signal transmissions)
    ∙ ap (λ n. n + length (signal transmissions)) (length-samples_of first) in
    let at : (begin + sample_count first) + length (signal transmissions)
    ≡ begin + length (signal (first ∷ transmissions)) = omega arith in
    ap (λ ends. ends_of begin first ++ ends) (true_ends_from-push transmissions t (begin + sample_count first))
    ∙ ap (λ n. ends_of begin first ++ (true_ends_from (begin + sample_count first) transmissions ++ ends_of n t)) at
    ∙ sym (append_assoc (ends_of begin first) (true_ends_from (begin + sample_count first) transmissions)
    (ends_of (begin + length (signal (first ∷ transmissions))) t))

-- the true ends of one transmission more: those before, and its own from where the signal ended
pub true_ends-push : (transmissions : List Transmission) (t : Transmission)
    → true_ends (transmissions ++ t ∷ []) ≡ true_ends transmissions ++ ends_of (length (signal transmissions)) t
true_ends-push transmissions t = true_ends_from-push transmissions t 0
    ∙ ap (λ n. true_ends transmissions ++ ends_of n t) (omega arith)

-- the frames of one transmission more
pub frames_of-push : (transmissions : List Transmission) (t : Transmission)
    → frames_of (transmissions ++ t ∷ []) ≡ frames_of transmissions ++ t.frames
frames_of-push transmissions t = flat_map-append (λ t. t.frames) transmissions (t ∷ [])
    ∙ ap (λ fs. frames_of transmissions ++ fs) (append-nil t.frames)

-- The frame of a transmission that has no other ends where its samples do, but for the closing flags after the first.
pub single_end : (silence opening closing begin : ℕ) (octets : List ℕ) → 1 ≤ closing
    → end_of (begin + silence + 64 * opening) octets + 64 * (closing - 1)
    ≡ begin + sample_count (record { silence = silence; frames = octets ∷ []; opening = opening; closing = closing })
unfolding body
single_end silence opening closing begin octets some =
    omega (
      arith,
      length-append (flags opening) (frame_bits octets ++ flags closing),
      length-append (frame_bits octets) (flags closing),
      length-append (frame_bits octets) flag,
      length-flags opening,
      length-flags closing,
    )
