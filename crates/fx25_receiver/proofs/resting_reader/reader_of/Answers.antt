use Rattle.fx25_receiver.proofs.Common.{◌≡◌, sym, subst, arith}
use Rattle.fx25_blocks.specs.Held.{StandsFor}
unfoldable use Rattle.fx25_blocks.specs.Tags.{bits_of_64}
use Rattle.hdlc_framer.proofs.BitLemmas.{low_bits-more}
use Rattle.hdlc_framer.specs.BitOrder.{low_bits}
use Rattle.fx25_receiver.proofs.resting_reader.reader_of.Goals as goal

pub loop-place-preserved : goal.loop-place-preserved
loop-place-preserved c = record {
  stands = subst (StandsFor c.push.new.self) (sym (low_bits-more c.loop-place.place c.args.register))
      (c.push.ensures.stands_for _ c.loop-place.invariant.stands);
  taken = omega (arith, c.push.ensures.taken, c.loop-place.invariant.taken);
}

pub loop-place-init : goal.loop-place-init
loop-place-init c = record { stands = c.new-reader.ensures.stands_for; taken = omega (arith, c.new-reader.ensures.taken) }

pub returns-clause-stands_for : goal.returns-clause-stands_for
unfolding bits_of_64
returns-clause-stands_for c =
    let all : c.loop-place.place ≡ 64 = omega arith in
    subst (λ n. StandsFor c.loop-place.reader (low_bits n c.args.register)) all c.loop-place.invariant.stands
