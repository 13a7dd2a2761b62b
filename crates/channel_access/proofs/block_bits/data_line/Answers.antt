use Rattle.channel_access.proofs.Common.{arith, subst, sym, ◌≡◌}
use Rattle.std.proofs.Common.{rules}
use Rattle.channel_access.specs.DataLine.{HasPut}
use Rattle.channel_access.proofs.BlockLemmas.{put_none, all_put}
use Rattle.channel_access.proofs.block_bits.data_line.Goals as goal

pub loop-place-init : goal.loop-place-init
loop-place-init c = record {
  put = subst (λ f. HasPut c.args.octets.now _ 0 f 0) (sym c.new.ensures) (put_none c.args.octets.now _);
  flags = omega arith;
  size = search rules;
}

pub loop-place-preserved : goal.loop-place-preserved
loop-place-preserved c =
    let size = c.loop-place.invariant.size in
    record {
      put = c.next.ensures.put c.loop-place.line (omega (arith, c.loop-place-test.true)) c.loop-place.invariant.put;
      flags = c.next.ensures.flags;
      size = search rules;
    }

pub returns : goal.returns
returns c =
    let least = c.loop-place-test.false in
    let most = c.loop-place.auto.place-end in
    let whole : c.loop-place.place ≡ 1912 = omega arith in
    all_put c.args.octets.now c.loop-place.line c.loop-place.bits.frame c.loop-place.bits.flags
    c.loop-place.invariant.size
    (subst (λ n. HasPut c.args.octets.now c.loop-place.line n c.loop-place.bits.frame c.loop-place.bits.flags) whole
    c.loop-place.invariant.put)
