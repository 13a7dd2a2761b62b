use Rattle.tnc_encode.proofs.Common.{◌≡◌, ◌++◌, ◌+◌, ◌∷◌, ◌∙◌, ℕ, ℤ, Bool, List, [], ap, arith, false, get_or, refl, subst, sym}
use Rattle.tnc_encode.proofs.Common.{take, take_more}
use Rattle.std.specs.Prelude.{◌%◌}
use Rattle.nrzi_bits.specs.Line.{line, last_tone}
use Rattle.afsk_modulator.specs.Modulation.{tone_window}
use Rattle.tnc_encode.proofs.WindowLemmas.{WaveSoFar, at, bit_phase-next, bit_taken, no_bits}
use Rattle.tnc_encode.proofs.bell202.modulated.Goals as goal

pub loop-bit-init : goal.loop-bit-init
loop-bit-init c = record {
  wave = subst (WaveSoFar c.args.level 0 []) (sym c.new-samples.ensures.items) (no_bits c.args.level);
  tone = c.new-line.ensures.stands_for;
  begins = record { below = omega arith; sixth = refl };
}

pub loop-bit-preserved : goal.loop-bit-preserved
loop-bit-preserved c =
    let level : ℕ = c.args.level in
    let bits : List Bool = c.args.bits.now in
    let index : ℕ = c.loop-bit.bit-index in
    let phase : ℕ = c.loop-bit.phase in
    let found : List ℤ = c.loop-bit.samples.items in
    let tone = c.step-tone.result in
    let so_far = c.loop-bit.invariant in
    let bit : Bool = get_or bits index false in
    let taken : take (index + 1) bits ≡ take index bits ++ bit ∷ [] =
    take_more bits index false c.loop-bit-test.true in
    let window = c.of.ensures level c.at_level-windows.ensures in
    let longer : c.extend_from_slice.new.self.items ≡ found ++ tone_window (at phase level) tone =
    c.in_ok-extend_from_slice.ensures.items ∙ ap (λ xs. found ++ xs) (c.as_slice.ensures ∙ window) in
    record {
      wave = bit_taken level phase c.advance-phase.result index bits bit tone found c.extend_from_slice.new.self.items
          so_far.wave taken (c.step-tone.ensures.line (take index bits) so_far.tone) longer c.advance-phase.ensures.phase;
      tone = c.step-tone.ensures.stands_for (take index bits) so_far.tone
          ∙ ap (λ xs. last_tone (line xs)) (sym taken);
      begins = record {
        below = c.advance-phase.ensures.bound;
        sixth = subst (λ p. p % 8 ≡ 0) (sym c.advance-phase.ensures.phase) (bit_phase-next phase tone so_far.begins);
      };
    }
