use Rattle.tnc_words.proofs.Common.{◌≡◌, ◌∙◌, Some, Err, map, string_bytes, codes, refl, ap, sym, first_word}
use Rattle.std.specs.Option.{option_copied, option_map}
use Rattle.std.proofs.lemmas.Option.{slice_get-map}
use Rattle.tnc_words.proofs.Found.{passed_on}
use Rattle.tnc_words.proofs.OneCommand.{no_decode}
use Rattle.tnc_words.proofs.reading.read_words.Goals as goal

pub returns-in_err-read_decode-in-decode-clause-refused : goal.returns-in_err-read_decode-in-decode-clause-refused
returns-in_err-read_decode-in-decode-clause-refused c = λ refused.
    let named : first_word (map string_bytes c.args.words.now) ≡ Some (codes "decode") =
    slice_get-map string_bytes c.args.words.now 0
    ∙ ap (option_map string_bytes) (sym c.first.ensures.value ∙ ap option_copied c.in-Some-first.is)
    ∙ ap Some (sym c.as_str.ensures.value ∙ c.in-decode.is) in
    no_decode _ named (c.in_default.ensures.no_help refl) (c.in_default.ensures.no_version refl)
    (c.in_err-read_decode-in-decode.ensures.refused
    (ap Err (passed_on c.from_residual.result c.in_err-read_decode-in-decode.field-0.0 _ refused
    c.from_residual.ensures.1)))
