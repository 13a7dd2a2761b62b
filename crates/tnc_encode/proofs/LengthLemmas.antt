-- How many samples a transmission of Bell 202 has.
use Rattle.tnc_encode.proofs.Common.{◌≡◌, ℕ, ◌+◌, Bool, List, [], ◌∷◌, length, replicate, pos, refl, sym, ap, ◌∙◌, arith}
use Rattle.tnc_encode.proofs.Common.{EncodeWords, samples_at_once, sent_at_once, transmission_by}
use Rattle.std.specs.Prelude.{◌*◌}
use Rattle.std.proofs.Common.{length-append}
use Rattle.std.proofs.lemmas.List.{length-map, length-replicate}
use Rattle.tone_table.specs.declared.tone.Tone.{Tone}
use Rattle.tone_table.specs.declared.tone.Tone.TheVariants.{Mark}
use Rattle.tone_table.specs.Tones.{next_phase}
use Rattle.tone_table.specs.Wave.{pure_window, wave_from}
use Rattle.nrzi_bits.specs.Line.{line}
use Rattle.nrzi_bits.proofs.LineLemmas.{length-line_from}
use Rattle.hdlc_framer.specs.Body.{body}
use Rattle.afsk_modulator.specs.Level.{at_level, sample_at}
use Rattle.afsk_modulator.specs.Transmission.{transmission_at}
use Rattle.tnc_words.specs.declared.command.Modem.TheVariants.{Bell202}
use Rattle.tnc_encode.proofs.ModemLemmas.{samples_by-is}

length-pure_window : (phase : ℕ) (tone : Tone) → length (pure_window phase tone) ≡ 8
unfolding pure_window
length-pure_window phase tone = refl

length-wave_from : (phase : ℕ) (tones : List Tone) → length (wave_from phase tones) ≡ 8 * length tones
length-wave_from phase [] = refl
length-wave_from phase (tone ∷ tones) = omega (
  arith,
  length-append (pure_window phase tone) (wave_from (next_phase phase tone) tones),
  length-pure_window phase tone,
  length-wave_from (next_phase phase tone) tones,
)

-- eight for each bit
pub length-transmission : (level : ℕ) (frames : List (List ℕ)) (opening closing : ℕ)
    → length (transmission_at 0 level frames opening closing) ≡ 8 * length (body frames opening closing)
unfolding transmission_at at_level
length-transmission level frames opening closing =
    let bits : List Bool = body frames opening closing in
    length-map (wave_from 0 (line bits)) (sample_at level) ∙ length-wave_from 0 (line bits)
    ∙ ap (λ n. 8 * n) (length-line_from Mark bits)

-- those of the silence and of the bits are all
pub counts_all : (words : EncodeWords) (frames : List (List ℕ)) (count : ℕ) → words.modem ≡ Bell202
    → count ≡ words.silence + length (transmission_at 0 words.level frames words.opening words.closing)
    → count ≡ length (samples_at_once words frames)
unfolding transmission_by
counts_all words frames count is e =
    e
    ∙ ap (λ m. words.silence + length (transmission_by m words.level frames words.opening words.closing)) (sym is)
    ∙ ap (λ n. n + length (transmission_by words.modem words.level frames words.opening words.closing))
    (sym (length-replicate words.silence (pos 0)))
    ∙ sym (length-append (replicate words.silence (pos 0))
    (transmission_by words.modem words.level frames words.opening words.closing))
    ∙ sym (ap length (samples_by-is words.modem words.level (sent_at_once words frames)))
