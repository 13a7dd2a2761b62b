use Rattle.tnc_encode.proofs.Common.{◌++◌, ◌∷◌, [], ℕ, List, Option, Some, length, take, refl, sym, subst, ap, ◌∙◌}
use Rattle.tnc_encode.proofs.Common.{append_assoc, arith, rules, eqb-true, append-nil, take_all, WrotePart}
use Rattle.tnc_encode.proofs.Common.{samples_at_once, pcm, on_err}
use Rattle.tnc_encode.proofs.SendingLemmas.{none_joined, joined_sent, own_octets, own_octets-none, own_octets-more}
use Rattle.tnc_encode.proofs.SendingLemmas.{own_octets-all, cut_within}
use Rattle.tnc_encode.proofs.CountingLemmas.{some_of}
use Rattle.tnc_encode.proofs.WritingLemmas.{writes_same}
use Rattle.tnc_encode.proofs.encoding.send_all.Goals as goal

pub returns-then-is_empty-clause-writes : goal.returns-then-is_empty-clause-writes
returns-then-is_empty-clause-writes g c = record {
  all = λ before was.
      was ∙ ap Some (sym (append-nil before))
      ∙ ap (λ text. Some (before ++ text))
      (sym (none_joined c.args.words c.args.frames.now c.if-words.true
      (eqb-true (length c.args.frames.now) 0 (sym c.if-is_empty.ensures))));
  part = λ before was. tt;
}

pub returns-else-is_empty-clause-writes : goal.returns-else-is_empty-clause-writes
returns-else-is_empty-clause-writes g c =
    writes_same _ _ _ _ _ (joined_sent c.args.words c.args.frames.now c.if-words.true
    (some_of (length c.args.frames.now) (sym c.if-is_empty.ensures))) c.send.ensures.writes

pub loop-frame-init : goal.loop-frame-init
loop-frame-init g c = record {
  sent = λ before was. was ∙ ap Some (sym (append-nil before))
      ∙ ap (λ text. Some (before ++ text)) (sym (own_octets-none c.args.words));
  faultless = refl;
}

pub loop-frame-preserved : goal.loop-frame-preserved
loop-frame-preserved g c = record {
  sent = λ before was.
      let done : List ℕ = own_octets c.args.words (take c.loop-frame.frame-index c.args.frames.now) in
      c.in_ok-send.ensures.writes.all (before ++ done) (c.loop-frame.invariant.sent before was)
      ∙ ap (λ frames. Some ((before ++ done) ++ pcm (samples_at_once c.args.words frames))) c.from_ref.ensures.value
      ∙ ap Some (append_assoc before done (pcm (samples_at_once c.args.words (c.frame-item.result ∷ []))))
      ∙ ap (λ text. Some (before ++ text))
      (sym (own_octets-more c.args.words c.args.frames.now c.loop-frame.frame-index c.frame-item.result
      c.loop-frame-test.true c.frame-item.is));
  faultless = c.in_ok-send.ensures.counts.faultless ∙ c.loop-frame.invariant.faultless;
}

pub returns-in_err-send-clause-writes : goal.returns-in_err-send-clause-writes
returns-in_err-send-clause-writes g c = record {
  all = search rules;
  part = λ before was.
      let done : List ℕ = own_octets c.args.words (take c.loop-frame.frame-index c.args.frames.now) in
      let now : Option (List ℕ) = (g.O.Sink.told c.send-in-loop-frame.new.output).written in
      let part : WrotePart (before ++ done) (pcm (samples_at_once c.args.words (c.frame-item.result ∷ []))) now =
      subst (λ (frames : List (List ℕ)). WrotePart (before ++ done) (pcm (samples_at_once c.args.words frames)) now)
      c.from_ref.ensures.value
      (c.in_err-send.ensures.writes.part (before ++ done) (c.loop-frame.invariant.sent before was)) in
      on_err _ (subst (λ (text : List ℕ). WrotePart before text now)
      (own_octets-all c.args.words c.args.frames.now c.if-words.false)
      (cut_within c.args.words c.args.frames.now c.loop-frame.frame-index c.frame-item.result c.loop-frame-test.true
      c.frame-item.is before now part));
}

pub returns-clause-writes : goal.returns-clause-writes
returns-clause-writes g c = record {
  all = λ before was.
      c.loop-frame.invariant.sent before was
      ∙ ap (λ text. Some (before ++ text)) (ap (own_octets c.args.words)
      (take_all c.loop-frame.frame-index c.args.frames.now (omega arith))
      ∙ own_octets-all c.args.words c.args.frames.now c.if-words.false);
  part = λ before was. tt;
}
