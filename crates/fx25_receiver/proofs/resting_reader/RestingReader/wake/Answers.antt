use Rattle.fx25_receiver.proofs.Common.{ap, subst, sym, arith}
use Rattle.fx25_receiver.specs.Resting.{StandsFor, over_after}
use Rattle.fx25_receiver.specs.declared.resting_reader.RestingReader.{RestingReader}
use Rattle.fx25_receiver.proofs.RestingLemmas.{stays_awake, wakes}
use Rattle.fx25_receiver.proofs.resting_reader.RestingReader.wake.Goals.{then-self-eq0, else-self-eq0}
use Rattle.fx25_receiver.proofs.resting_reader.RestingReader.wake.Goals as goal

pub returns-clause-stands_for : goal.returns-clause-stands_for
returns-clause-stands_for c = λ b s.
    let P : RestingReader → Type 0 = λ now. StandsFor (record {
      reader = now.reader;
      register = now.register;
      awake = over_after;
    }) b in
    elim c.if-self-eq0.branch [
      | then-self-eq0 w ↦ subst P (sym w.self-is)
          (wakes c.args.self.now w.reader_of-self.result b w.if-self-eq0.true w.reader_of-self.ensures.stands_for s)
      | else-self-eq0 w ↦
          let awake = w.if-self-eq0.false in
          subst P (sym w.self-is) (stays_awake c.args.self.now b (omega arith) s)
    ]

pub returns-clause-register : goal.returns-clause-register
returns-clause-register c = elim c.if-self-eq0.branch [
  | then-self-eq0 w ↦ ap (λ (now : RestingReader). now.register) w.self-is
  | else-self-eq0 w ↦ ap (λ (now : RestingReader). now.register) w.self-is
]
