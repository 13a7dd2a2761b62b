use Rattle.host_ports.proofs.Common.{◌-◌, ap}
use Rattle.host_ports.proofs.RangeLemmas.{range_longer}
use Rattle.host_ports.proofs.id_range.add.Goals as goal

pub returns-then-range-id : goal.returns-then-range-id
returns-then-range-id c =
    let item = c.in-Some.ensures.item in
    let ok = c.args.ranges.now.ok in
    record {
      added = λ other. range_longer c.args.ranges.now.items _ c.in-Some.range.now c.args.id other item.3.0
          (ap (λ n. n - 1) ok.0) c.in-Some.ensures.value c.if-range.true c.if-range-id.true;
    }
