use Rattle.tnc_words.proofs.Common.{◌≡◌, [], map, string_bytes, ap, ◌∙◌, subst, IfOk, App, found_of, is_simple_and_free}
use Rattle.tnc_words.proofs.Common.{rows_of}
use Rattle.std.specs.Prelude.{OnOk}
use Rattle.clap.specs.Words.{fault_of, matches_of}
use Rattle.tnc_words.proofs.parsing.parsed.Goals as goal

pub found_by-requires : goal.found_by-requires
found_by-requires c = ap is_simple_and_free c.in_ok-command_of.ensures ∙ c.requires

pub returns-clause-rows : goal.returns-clause-rows
returns-clause-rows c = subst (λ (app : App). IfOk c.found_by.result (λ found.
    rows_of (found_of found) ≡ matches_of app (map string_bytes c.args.words.now))) c.in_ok-command_of.ensures
    c.found_by.ensures.rows

pub returns-clause-taken : goal.returns-clause-taken
returns-clause-taken c =
    subst (λ (app : App). OnOk c.found_by.result (fault_of app (map string_bytes c.args.words.now) ≡ []))
    c.in_ok-command_of.ensures c.found_by.ensures.taken

pub returns-clause-refused : goal.returns-clause-refused
returns-clause-refused c = λ refused faultless. c.found_by.ensures.refused refused
    (ap (λ app. fault_of app (map string_bytes c.args.words.now)) c.in_ok-command_of.ensures ∙ faultless)
