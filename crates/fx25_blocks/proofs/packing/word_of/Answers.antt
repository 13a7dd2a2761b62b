use Rattle.fx25_blocks.proofs.Common.{◌<◌, length, ap, arith, length-take}
use Rattle.fx25_blocks.proofs.packing.word_of.Goals as goal

pub push-requires : goal.push-requires
push-requires c =
    let room : length c.loop-octet.word.items < 255 = omega (
      arith,
      ap length c.loop-octet.invariant,
      length-take c.loop-octet.octet-index c.args.octets.now,
    ) in
    (omega arith, room)
