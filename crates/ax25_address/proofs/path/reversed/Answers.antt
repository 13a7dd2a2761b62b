use Rattle.ax25_address.proofs.Common.{reverse, arith, undone}
use Rattle.std.proofs.lemmas.List.{map_more, get_or-reverse, length-reverse}
use Rattle.ax25_address.proofs.path.reversed.Goals as goal

pub loop-k-preserved : goal.loop-k-preserved
loop-k-preserved c =
    let hops = c.as_slice-hops.result.now in
    let hop = c.index-hops-hops.result in
    let more = map_more undone (reverse hops) c.loop-k.k hop (omega (arith, length-reverse hops)) in
    let mirrored = get_or-reverse hops c.loop-k.k hop (omega arith) in
    cc
