-- A wave, one bit more at a time.
use Rattle.tnc_encode.proofs.Common.{◌≡◌, ◌+◌, ℕ, ℤ, take, Bool, List, [], ◌∷◌, ◌++◌, get_or, refl, sym, ap, ◌∙◌, arith}
use Rattle.std.specs.Prelude.{◌%◌, ◌*◌, ◌/◌, ◌<◌}
use Rattle.std.proofs.lemmas.List.FromFn.{get_or-map-range_with_len}
use Rattle.tone_table.specs.declared.tone.Tone.{Tone}
use Rattle.tone_table.specs.declared.tone.Tone.TheVariants.{Mark, Space}
use Rattle.tone_table.specs.Tones.{next_phase}
use Rattle.nrzi_bits.specs.Line.{line}
use Rattle.afsk_modulator.specs.Level.{at_level}
use Rattle.afsk_modulator.specs.Modulation.{IsBitPhase, Modulation, following, tone_window, wave_of}
use Rattle.tnc_encode.specs.Windows.{window_at, windows_of}
use Rattle.afsk_modulator.proofs.WaveLemmas.{following-push, wave_of-push}

-- a wave at a phase and a level
abbrev pub at : ℕ → ℕ → Modulation
at phase level = record { phase = phase; level = level }

-- a bit begins where the one before it ends
pub bit_phase-next : (phase : ℕ) (tone : Tone) → IsBitPhase phase → next_phase phase tone % 8 ≡ 0
bit_phase-next phase Mark is = omega (arith, is.sixth)
bit_phase-next phase Space is = omega (arith, is.sixth)

-- the wave of so many bits, and where it goes on
pub record WaveSoFar (level now : ℕ) (bits : List Bool) (found : List ℤ) : Type 0 where
  pub samples : found ≡ wave_of (at 0 level) (line bits)
  pub phase : at now level ≡ following (at 0 level) (line bits)

pub no_bits : (level : ℕ) → WaveSoFar level 0 [] []
unfolding at_level
no_bits level = record { samples = refl; phase = refl }

pub bit_more : (level now : ℕ) (bits : List Bool) (bit : Bool) (tone : Tone) (found : List ℤ)
    → WaveSoFar level now bits found → line (bits ++ bit ∷ []) ≡ line bits ++ tone ∷ []
    → WaveSoFar level (next_phase now tone) (bits ++ bit ∷ []) (found ++ tone_window (at now level) tone)
bit_more level now bits bit tone found h is = record {
  samples = ap (λ xs. xs ++ tone_window (at now level) tone) h.samples
      ∙ sym (wave_of-push (at 0 level) (line bits) tone (at now level) h.phase)
      ∙ ap (wave_of (at 0 level)) (sym is);
  phase = following-push (at 0 level) (line bits) tone (at now level) h.phase ∙ ap (following (at 0 level)) (sym is);
}

-- the same as the code has it
pub bit_taken : (level now after index : ℕ) (bits : List Bool) (bit : Bool) (tone : Tone) (found longer : List ℤ)
    → WaveSoFar level now (take index bits) found → take (index + 1) bits ≡ take index bits ++ bit ∷ []
    → line (take index bits ++ bit ∷ []) ≡ line (take index bits) ++ tone ∷ []
    → longer ≡ found ++ tone_window (at now level) tone → after ≡ next_phase now tone
    → WaveSoFar level after (take (index + 1) bits) longer
bit_taken level now after index bits bit tone found longer h taken is appended next =
    let more = bit_more level now (take index bits) bit tone found h is in
    record {
      samples = appended ∙ more.samples ∙ ap (λ xs. wave_of (at 0 level) (line xs)) (sym taken);
      phase = ap (λ p. at p level) next ∙ more.phase ∙ ap (λ xs. following (at 0 level) (line xs)) (sym taken);
    }

-- the window at a place of the six
pub window_is : (level phase : ℕ) (tone : Tone) → IsBitPhase phase
    → get_or (windows_of level tone) (phase / 8) [] ≡ tone_window (at phase level) tone
unfolding windows_of
window_is level phase tone is =
    let sixth : ℕ = phase / 8 in
    let few : sixth < 6 = omega (arith, is.below) in
    let same : 8 * sixth ≡ phase = omega (arith, is.sixth) in
    get_or-map-range_with_len (window_at level tone) 0 6 sixth sixth [] few (omega arith)
    ∙ ap (λ p. tone_window (at p level) tone) same
