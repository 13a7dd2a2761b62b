use Rattle.tnc_encode.proofs.Common.{◌≡◌, ◌++◌, List, ℕ, Some, length, ap, subst, ◌∙◌, rules, WrotePart, pcm}
use Rattle.tnc_encode.proofs.Common.{wrote_front, signal_of}
use Rattle.wav_file.specs.Head.{head_of}
use Rattle.tnc_encode.proofs.WritingLemmas.{writes_after}
use Rattle.tnc_encode.proofs.encoding.send_wav.Goals as goal

pub returns-in-Ok-write-clause-writes : goal.returns-in-Ok-write-clause-writes
returns-in-Ok-write-clause-writes g c =
    let octets : List ℕ = head_of (length (signal_of c.args.words c.args.frames.now)) in
    let same : c.in-Ok.head ≡ octets = c.in-Ok.ensures.head ∙ ap head_of c.in_ok-count.ensures in
    writes_after octets (pcm (signal_of c.args.words c.args.frames.now)) (g.O.Sink.told c.args.output.now).written
    (g.O.Sink.told c.write.new.self).written (g.O.Sink.told c.send_all.new.output).written c.send_all.result
    (λ before was. c.in-Ok-write.ensures.appends before was ∙ ap (λ h. Some (before ++ h)) same)
    c.send_all.ensures.writes

pub returns-in-Err-write-clause-writes : goal.returns-in-Err-write-clause-writes
returns-in-Err-write-clause-writes g c =
    let octets : List ℕ = head_of (length (signal_of c.args.words c.args.frames.now)) in
    let same : c.in-Ok.head ≡ octets = c.in-Ok.ensures.head ∙ ap head_of c.in_ok-count.ensures in
    record {
      all = search rules;
      part = λ before was.
          wrote_front before octets (pcm (signal_of c.args.words c.args.frames.now))
          (g.O.Sink.told c.write.new.self).written
          (subst (λ (h : List ℕ). WrotePart before h (g.O.Sink.told c.write.new.self).written) same
          (c.in-Err-write.ensures.partly before was));
    }
