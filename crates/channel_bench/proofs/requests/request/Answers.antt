-- A message is short.
use Rattle.channel_bench.proofs.Common.{◌≡◌, length, ap, arith, rules, AgwMessage}
use Rattle.channel_bench.proofs.MessageLengths.{length-spelling}
use Rattle.channel_bench.proofs.requests.request.Goals as goal

pub returns-clause-most : goal.returns-clause-most
returns-clause-most c =
    let message : AgwMessage = record {
      port = 0;
      kind = c.args.kind;
      pid = 0;
      from = c.args.from;
      to =
          c.args.to;
      body = c.in_ok-body.body;
    } in
    let from : length c.args.from ≡ 10 = search rules in
    let to : length c.args.to ≡ 10 = search rules in
    omega (
      arith,
      ap length c.in_ok-octets.ensures.spelled,
      length-spelling message from to,
      ap length
          c.in_ok-body.ensures,
      c.requires,
    )
