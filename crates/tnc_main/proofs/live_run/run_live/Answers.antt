use Rattle.tnc_main.proofs.Common.{◌≡◌, ℕ, sym, subst, ap, ◌∙◌, ServeWords, CanRunLive, words_of, CallWords}
use Rattle.link_machine.specs.Params.{IsRefusedWindow}
use Rattle.tnc_words.specs.declared.command.ServeOptions.{ServeOptions}
use Rattle.tnc_main.specs.declared.live_command.LiveCommand.TheVariants.{Serve as LiveServe, Call as LiveCall}
use Rattle.tnc_main.specs.declared.live_command.LiveCommand.TheVariants.{Record as LiveRecord}
use Rattle.tnc_main.proofs.LiveRuns.{served_as}
use Rattle.tnc_main.proofs.ServingLemmas.{want_as}
use Rattle.tnc_main.specs.Calling.{words_of as call_words_of}
use Rattle.tnc_main.proofs.CallingLemmas.{called_as}
use Rattle.tnc_main.specs.RecordRuns.{words_of as record_words_of}
use Rattle.tnc_main.proofs.RecordingLemmas.{recorded_as}
use Rattle.tnc_main.proofs.live_run.run_live.Goals as goal

pub serve-requires-clause-window : goal.serve-requires-clause-window
serve-requires-clause-window g c κs within =
    subst (λ (words : ServeWords). (window : ℕ) → IsRefusedWindow words.config.params window → ⊥)
    (sym c.serve_words-words.ensures) (subst CanRunLive c.in-Serve.is c.requires.can_run).0

pub returns-in-Serve-clause-served : goal.returns-in-Serve-clause-served
returns-in-Serve-clause-served g c = λ options is.
    let both : LiveServe c.in-Serve.options ≡ LiveServe options = sym c.in-Serve.is ∙ is in
    let same : c.in-Serve.options ≡ options = cc both in
    served_as c.serve_words-words.result options c.args.live.now.seed c.serve.result _ _ _ _
    (c.serve_words-words.ensures ∙ ap (λ (options : ServeOptions). words_of options c.args.live.now.seed) same)
    c.serve.ensures.served

pub returns-in-Serve-clause-want : goal.returns-in-Serve-clause-want
returns-in-Serve-clause-want g c = λ options is three.
    let both : LiveServe c.in-Serve.options ≡ LiveServe options = sym c.in-Serve.is ∙ is in
    let same : c.in-Serve.options ≡ options = cc both in
    want_as c.serve_words-words.result (words_of options c.args.live.now.seed) _ _ _ _ _ _
    (c.serve_words-words.ensures ∙ ap (λ (options : ServeOptions). words_of options c.args.live.now.seed) same)
    (c.serve.ensures.want three)

pub returns-in-Call-clause-called : goal.returns-in-Call-clause-called
returns-in-Call-clause-called g c = λ options text before is reads was.
    let both : LiveCall c.in-Call.options ≡ LiveCall options = sym c.in-Call.is ∙ is in
    let same : c.in-Call.options ≡ options = cc both in
    called_as c.call_words.result (call_words_of options) c.call.result text before _ _ _ _ _
    (c.call_words.ensures ∙ ap call_words_of same) (c.call.ensures.called text before reads was)

pub returns-in-Record-clause-recorded : goal.returns-in-Record-clause-recorded
returns-in-Record-clause-recorded g c = λ options is.
    let both : LiveRecord c.in-Record.options ≡ LiveRecord options = sym c.in-Record.is ∙ is in
    let same : c.in-Record.options ≡ options = cc both in
    recorded_as c.record_words.result (record_words_of options) c.record.result _ _ _ _ _ _
    (c.record_words.ensures ∙ ap record_words_of same) c.record.ensures.recorded
