use Rattle.fx25_blocks.proofs.Common.{take, length, ap, arith, length-take}
use Rattle.hdlc_framer.proofs.BitLemmas.{length-sent_bits}
use Rattle.fx25_blocks.proofs.packing.unpack.Goals as goal

pub push_octet-requires : goal.push_octet-requires
push_octet-requires c =
    let sent = take c.loop-octet.octet-index c.args.octets.now in
    omega (
      arith,
      ap length c.loop-octet.invariant,
      length-sent_bits sent,
      length-take c.loop-octet.octet-index c.args.octets.now,
    )
