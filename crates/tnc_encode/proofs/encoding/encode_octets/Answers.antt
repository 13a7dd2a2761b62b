use Rattle.tnc_encode.proofs.Common.{◌≡◌, ◌++◌, Some, length, sym, ap, ◌∙◌, rules, map_ok, on_err, encoded_before}
use Rattle.tnc_encode.proofs.Common.{length_fault, samples_sent, signal_of, written_as, written_before, form_fault}
use Rattle.std.proofs.Common.{append-nil}
use Rattle.tnc_forms.proofs.WrittenParts.{wrote_all}
use Rattle.tnc_encode.proofs.EncodedLemmas.{form_not_long, fault_of_length, fault_of_form, encoded_is}
use Rattle.tnc_encode.proofs.EncodedLemmas.{encoded_before_is, no_file_before, part_before}
use Rattle.tnc_encode.proofs.WritingLemmas.{writes_same}
use Rattle.tnc_encode.proofs.encoding.encode_octets.Goals as goal

-- ---- an input without a fault

pub returns-in-None-clause-good : goal.returns-in-None-clause-good
returns-in-None-clause-good g c =
    let same : signal_of c.args.words c.deref.result.now ≡ samples_sent c.args.words c.args.octets.now =
    ap (λ frames. signal_of c.args.words frames) (c.deref.ensures.value ∙ c.in_ok-read.ensures.frames) in
    map_ok c.send_as_told.result
    (λ fits. fault_of_length c.args.words c.args.octets.now c.requires.limit (sym c.in_ok-read.ensures.fault
    ∙ c.in-None.is)
    ∙ ap (λ s. length_fault c.args.words.audio (length s)) (sym same) ∙ fits)
    c.send_as_told.ensures.fits

pub returns-in-None-clause-writes : goal.returns-in-None-clause-writes
returns-in-None-clause-writes g c =
    let same : signal_of c.args.words c.deref.result.now ≡ samples_sent c.args.words c.args.octets.now =
    ap (λ frames. signal_of c.args.words frames) (c.deref.ensures.value ∙ c.in_ok-read.ensures.frames) in
    writes_same _ _ _ _ _ (ap (written_as c.args.words.audio) same ∙ encoded_is c.args.words c.args.octets.now)
    c.send_as_told.ensures.writes

pub returns-in-None-clause-bad : goal.returns-in-None-clause-bad
returns-in-None-clause-bad g c = λ fault is.
    let same : signal_of c.args.words c.deref.result.now ≡ samples_sent c.args.words c.args.octets.now =
    ap (λ frames. signal_of c.args.words frames) (c.deref.ensures.value ∙ c.in_ok-read.ensures.frames) in
    let long = c.send_as_told.ensures.long fault is in (
      fault_of_length c.args.words c.args.octets.now c.requires.limit (sym c.in_ok-read.ensures.fault ∙ c.in-None.is)
          ∙ ap (λ s. length_fault c.args.words.audio (length s)) (sym same) ∙ long.0,
      long.1,
    )

pub returns-in-None-clause-encoded_before : goal.returns-in-None-clause-encoded_before
returns-in-None-clause-encoded_before g c = λ before fault was is.
    let long = c.send_as_told.ensures.long fault is in
    ap (λ o. (g.O.Sink.told o).written) long.3 ∙ was ∙ ap Some (sym (append-nil before))
    ∙ ap (λ text. Some (before ++ text)) (sym (no_file_before c.args.words c.args.octets.now long.2))

-- ---- an input with a bad line

pub returns-in_err-send_before_fault-in-Some-clause-writes : goal.returns-in_err-send_before_fault-in-Some-clause-writes
returns-in_err-send_before_fault-in-Some-clause-writes g c =
    let same : signal_of c.args.words c.deref-in-Some.result.now ≡ samples_sent c.args.words c.args.octets.now =
    ap (λ frames. signal_of c.args.words frames) (c.deref-in-Some.ensures.value ∙ c.in_ok-read.ensures.frames) in
    let before_fault = writes_same _ _ _ _ _ (ap (written_before c.args.words.audio) same
    ∙ encoded_before_is c.args.words c.args.octets.now) c.in_err-send_before_fault-in-Some.ensures.writes in
    record {
      all = search rules;
      part = λ before was. on_err _ (part_before c.args.words c.args.octets.now before _
          (before_fault.part before was));
    }

pub returns-clause-bad : goal.returns-clause-bad
returns-clause-bad g c = λ fault is.
    let same : c.in-Some.fault ≡ fault = cc is in
    let shown : form_fault c.args.words.frames c.args.octets.now ≡ Some fault = sym c.in_ok-read.ensures.fault
    ∙ c.in-Some.is ∙ ap Some same in (
      fault_of_form c.args.words c.args.octets.now fault c.requires.limit shown,
      form_not_long c.args.words.frames c.args.octets.now fault shown,
    )

pub returns-clause-encoded_before : goal.returns-clause-encoded_before
returns-clause-encoded_before g c = λ before fault was is.
    let same : signal_of c.args.words c.deref-in-Some.result.now ≡ samples_sent c.args.words c.args.octets.now =
    ap (λ frames. signal_of c.args.words frames) (c.deref-in-Some.ensures.value ∙ c.in_ok-read.ensures.frames) in
    c.in_ok-send_before_fault-in-Some.ensures.writes.all before was
    ∙ ap (λ text. Some (before ++ text)) (ap (written_before c.args.words.audio) same
    ∙ encoded_before_is c.args.words c.args.octets.now)

pub returns-clause-writes : goal.returns-clause-writes
returns-clause-writes g c =
    let same : signal_of c.args.words c.deref-in-Some.result.now ≡ samples_sent c.args.words c.args.octets.now =
    ap (λ frames. signal_of c.args.words frames) (c.deref-in-Some.ensures.value ∙ c.in_ok-read.ensures.frames) in
    let before_fault = writes_same _ _ _ _ _ (ap (written_before c.args.words.audio) same
    ∙ encoded_before_is c.args.words c.args.octets.now) c.in_ok-send_before_fault-in-Some.ensures.writes in
    record {
      all = λ before was. tt;
      part = λ before was. part_before c.args.words c.args.octets.now before _
          (wrote_all before (encoded_before c.args.words c.args.octets.now) _ (before_fault.all before was));
    }
