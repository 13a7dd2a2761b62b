use Rattle.tnc_encode.proofs.Common.{◌≡◌, ◌++◌, pos, replicate, Err, [], sym, ap, ◌∙◌, rules, sent_at_once}
use Rattle.tnc_encode.proofs.Common.{transmission_by}
use Rattle.tnc_encode.proofs.ModemLemmas.{samples_by-is}
use Rattle.tnc_encode.proofs.sending.samples_at_once.Goals as goal

pub unreachable-requires-in-Err-BadLength : goal.unreachable-requires-in-Err-BadLength
unreachable-requires-in-Err-BadLength c =
    let first = c.transmission.ensures.bad_length c.in-Err-BadLength.field-0-0 (c.in-Err-BadLength.is
    ∙ ap Err c.in-Err-BadLength.field-0-is) in
    c.requires.frames c.in-Err-BadLength.field-0-0 [] first.within first.bad

pub returns : goal.returns
returns c =
    let words = c.args.words in
    let items : c.extend_from_slice.new.self.items
    ≡ replicate words.silence (pos 0) ++ transmission_by words.modem words.level c.args.frames.now words.opening
    words.closing
    = search rules in
    items ∙ sym (samples_by-is words.modem words.level (sent_at_once words c.args.frames.now))
