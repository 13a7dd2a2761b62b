use Rattle.tnc_forms.proofs.Common.{◌≡◌, ◌≤◌, length, sym, subst, ◌∙◌, arith, Frame, Refused, text_of}
use Rattle.tnc_forms.proofs.LineTextLemmas.{IsWithin, text_of-within}
use Rattle.tnc_forms.proofs.hex_in.frame_of_line.Goals as goal

pub overflow_add-place : goal.overflow_add-place
overflow_add-place c =
    let is : text_of c.args.least c.args.text.now ≡ Refused c.in-Refused.flaw c.in-Refused.offset =
    sym c.in_ok-read_line.ensures ∙ c.in-Refused.is in
    let within : c.in-Refused.offset ≤ length c.args.text.now =
    subst (IsWithin c.args.least c.args.text.now) is (text_of-within c.args.least c.args.text.now) in
    let room = c.requires in
    omega arith

pub returns-in-Frame-clause-size : goal.returns-in-Frame-clause-size
returns-in-Frame-clause-size c =
    let is : text_of c.args.least c.args.text.now ≡ Frame c.in-Frame.octets = sym c.in_ok-read_line.ensures
    ∙ c.in-Frame.is in
    (subst (IsWithin c.args.least c.args.text.now) is (text_of-within c.args.least c.args.text.now)).0
