use Rattle.tnc_loop.proofs.Common.{◌≡◌, ◌++◌, List, ℕ, Some, string_bytes, subst, ap, ◌∙◌, WrotePart, NoStray, drawn}
use Rattle.tnc_loop.proofs.Common.{samples_drawn, HasFound}
use Rattle.tnc_loop.proofs.HeardLemmas.{drawn_law}
use Rattle.tnc_loop.proofs.SummaryLemmas.{one_summary, clean_text, wrote_all}
use Rattle.tnc_loop.proofs.command.loop_back.Goals as goal

pub returns-in-Err-default-clause-cut : goal.returns-in-Err-default-clause-cut
returns-in-Err-default-clause-cut g c = λ before text was is.
    let same : c.as_bytes.result.now ≡ text = c.as_bytes.ensures.value
    ∙ one_summary c.args.words (string_bytes c.in_ok-told.told.summary) text c.in_ok-told.ensures.summary is in
    subst (λ (t : List ℕ). WrotePart before t (g.O.Sink.told c.write.new.self).written) same
    (c.in-Err-default.ensures.partly before was)

pub returns-in-Ok-None-clause-same : goal.returns-in-Ok-None-clause-same
returns-in-Ok-None-clause-same g c = λ before was.
    let clear : NoStray (drawn c.args.words) (samples_drawn c.args.words) =
    subst (HasFound c.args.words) c.in-Ok-None.is-1 c.in_ok-told.ensures.stray in
    c.in-Ok-None.ensures.appends before was
    ∙ ap (λ text. Some (before ++ text)) (c.as_bytes.ensures.value
    ∙ clean_text c.args.words (string_bytes c.in_ok-told.told.summary) c.in_ok-told.ensures.summary clear)

pub returns-in-Ok-None-clause-clean : goal.returns-in-Ok-None-clause-clean
returns-in-Ok-None-clause-clean g c =
    let clear : NoStray (drawn c.args.words) (samples_drawn c.args.words) =
    subst (HasFound c.args.words) c.in-Ok-None.is-1 c.in_ok-told.ensures.stray in
    drawn_law c.args.words clear

pub returns-clause-cut : goal.returns-clause-cut
returns-clause-cut g c = λ before text was is.
    let same : c.as_bytes.result.now ≡ text = c.as_bytes.ensures.value
    ∙ one_summary c.args.words (string_bytes c.in_ok-told.told.summary) text c.in_ok-told.ensures.summary is in
    wrote_all before text _ (c.in-Ok-Some.ensures.appends before was ∙ ap (λ t. Some (before ++ t)) same)
