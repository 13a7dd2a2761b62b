use Rattle.fx25_receiver.proofs.Common.{◌≡◌, ◌++◌, ℕ, List, Bool, subst, sym, arith}
use Rattle.std.proofs.lemmas.Option.{IfSome_then}
use Rattle.hdlc_framer.specs.BitOrder.{octet_bits}
use Rattle.fx25_receiver.specs.Resting.{RestsAt, StandsFor}
use Rattle.fx25_receiver.proofs.resting_reader.RestingReader.quietly_after.Goals as goal

module _ (c : goal.After-far_after) where
  rests : c.args.self.now.awake ≡ 0
  rests = omega (arith, c.if-self-gt0.false)

  rests_at : (b : List Bool) → StandsFor c.args.self.now b → RestsAt c.args.self.now.register c.args.self.now.reader b
  rests_at b = subst (λ (a : ℕ). StandsFor (record {
    reader = c.args.self.now.reader;
    register = c.args.self.now.register;
    awake = a;
  }) b) rests

pub returns-clause-stands_for : goal.returns-clause-stands_for
returns-clause-stands_for c = λ b s.
    IfSome_then c.far_after.result c.far_after.ensures (λ last far.
    subst (λ (a : ℕ). StandsFor (record { reader = c.args.self.now.reader; register = last; awake = a })
    (b ++ octet_bits c.args.octet)) (sym (rests c)) (far c.args.self.now.reader b (rests_at c b s)).0)

pub returns-clause-quiet : goal.returns-clause-quiet
returns-clause-quiet c = λ b s.
    IfSome_then c.far_after.result c.far_after.ensures (λ last far. (far c.args.self.now.reader b (rests_at c b s)).1)
