-- A command with the options of a table, one after another.
use Rattle.tnc_words.proofs.Common.{◌≡◌, ℕ, ◌+◌, ◌<◌, List, [], ◌∷◌, ◌++◌, length, take, refl, sym, ap, ◌∙◌, App}
use Rattle.tnc_words.proofs.Common.{with_entries}
use Rattle.std.proofs.Common.{get_or}
use Rattle.std.proofs.lemmas.List.{take_more}
use Rattle.clap.specs.Words.{Rule, with_rule}
use Rattle.tnc_words.specs.Entries.{rule_of_entry}
use Rattle.tnc_words.specs.declared.options.Entry.{Entry}

with_last : (app : App) (entries : List Entry) (entry : Entry)
    → with_entries app (entries ++ entry ∷ []) ≡ with_rule (with_entries app entries) (rule_of_entry entry)
with_last app [] entry = refl
with_last app (first ∷ entries) entry = with_last (with_rule app (rule_of_entry first)) entries entry

-- the options so far and one more
pub one_more : (app now longer : App) (rule : Rule) (entries : List Entry) (i : ℕ) (d : Entry) → i < length entries
    → longer ≡ with_rule now rule → now ≡ with_entries app (take i entries)
    → rule ≡ rule_of_entry (get_or entries i d) → longer ≡ with_entries app (take (i + 1) entries)
one_more app now longer rule entries i d within is so_far entry =
    is ∙ ap (λ (a : App). with_rule a rule) so_far
    ∙ ap (with_rule (with_entries app (take i entries))) entry
    ∙ sym (with_last app (take i entries) (get_or entries i d))
    ∙ ap (with_entries app) (sym (take_more entries i d within))
