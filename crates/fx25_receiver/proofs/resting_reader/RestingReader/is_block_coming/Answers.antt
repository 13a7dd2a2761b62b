use Rattle.fx25_receiver.proofs.Common.{arith, drop}
use Rattle.std.proofs.lemmas.Bool.{ltb-true}
use Rattle.fx25_receiver.proofs.RestingLemmas.{awake_for_coming, coming_inside, coming_outside}
use Rattle.fx25_receiver.proofs.resting_reader.RestingReader.is_block_coming.Goals as goal

pub returns-then-self-gt0 : goal.returns-then-self-gt0
returns-then-self-gt0 c = λ b s.
    let reads = s.reads c.if-self-gt0.true in
    let told = c.is_block_coming.ensures (drop reads.0 b) reads.1.reader_stands in (
      λ e. coming_outside reads.0 b (told.0 e),
      λ comes. told.1 (coming_inside c.args.self.now b s reads.0 reads.1 comes),
    )

pub returns-else-self-gt0 : goal.returns-else-self-gt0
returns-else-self-gt0 c = λ b s.
    let rests = c.if-self-gt0.false in (
      λ e. let awake = ltb-true 0 c.args.self.now.awake e in absurd (omega arith),
      λ comes. let awake = awake_for_coming c.args.self.now b s comes in absurd (omega arith),
    )
