use Rattle.tnc_encode.proofs.Common.{[], get_or, sym, ap, ◌∙◌}
use Rattle.std.specs.Prelude.{◌/◌}
use Rattle.tone_table.specs.declared.tone.Tone.TheVariants.{Mark, Space}
use Rattle.afsk_modulator.specs.Modulation.{tone_window}
use Rattle.tnc_encode.proofs.WindowLemmas.{at, window_is}
use Rattle.tnc_encode.proofs.windows.Windows.of.Goals as goal

pub returns-in-Mark : goal.returns-in-Mark
returns-in-Mark c = λ level are.
    ap (λ xs. get_or xs (c.args.phase / 8) []) are.mark
    ∙ window_is level c.args.phase Mark c.requires
    ∙ ap (tone_window (at c.args.phase level)) (sym c.in-Mark.is)

pub returns-in-Space : goal.returns-in-Space
returns-in-Space c = λ level are.
    ap (λ xs. get_or xs (c.args.phase / 8) []) are.space
    ∙ window_is level c.args.phase Space c.requires
    ∙ ap (tone_window (at c.args.phase level)) (sym c.in-Space.is)
