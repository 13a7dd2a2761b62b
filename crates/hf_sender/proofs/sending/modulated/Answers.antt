use Rattle.hf_sender.proofs.Common.{◌≡◌, ◌+◌, ◌++◌, [], ◌∷◌, List, false, take, ap, sym, ◌∙◌, rules, arith, take_more}
use Rattle.hf_sender.proofs.Common.{Tone, line, last_tone, at_level, wave, hf_start, hf_after}
use Rattle.hf_sender.proofs.WaveLemmas.{wave-push, hf_after-push}
use Rattle.hf_sender.proofs.sending.modulated.Goals as goal

pub loop-bit-init : goal.loop-bit-init
unfolding at_level
loop-bit-init c = search rules

pub loop-bit-preserved : goal.loop-bit-preserved
loop-bit-preserved c =
    let before : List Tone = line (take c.loop-bit.bit-index c.args.bits.now) in
    let more : line (take (c.loop-bit.bit-index + 1) c.args.bits.now) ≡ before ++ c.step-tone.result ∷ []
    = ap line (take_more c.args.bits.now c.loop-bit.bit-index false (omega arith))
    ∙ c.step-tone.ensures.line (take c.loop-bit.bit-index c.args.bits.now) c.loop-bit.invariant.tone in
    record {
      samples = c.in_ok-extend_from_slice.ensures.items
          ∙ (λ i. c.loop-bit.invariant.samples i ++ (c.as_slice.ensures ∙ c.next.ensures.window) i)
          ∙ sym (wave-push c.args.level before c.step-tone.result c.loop-bit.modulator c.loop-bit.invariant.modulator)
          ∙ ap (λ tones. at_level c.args.level (wave tones)) (sym more);
      tone = c.step-tone.ensures.stands_for (take c.loop-bit.bit-index c.args.bits.now) c.loop-bit.invariant.tone
          ∙ ap (λ bits. last_tone (line bits))
          (sym (take_more c.args.bits.now c.loop-bit.bit-index false (omega arith)));
      modulator = c.next.ensures.phase
          ∙ hf_after-push (hf_start c.args.level) before c.step-tone.result c.loop-bit.modulator
          c.loop-bit.invariant.modulator
          ∙ ap (hf_after (hf_start c.args.level)) (sym more);
    }
