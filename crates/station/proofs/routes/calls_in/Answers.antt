use Rattle.station.proofs.Common.{◌≡◌, ◌+◌, ◌-◌, ◌*◌, List, take, drop, sym, ◌∙◌, ap, arith, Callsign, calls_in}
use Rattle.station.proofs.RouteLemmas.{before_rest, calls_more}
use Rattle.station.proofs.routes.calls_in.Goals as goal

pub loop-k-preserved : goal.loop-k-preserved
loop-k-preserved c =
    let k = c.loop-k.k in
    let octets = c.args.octets.now in
    let size : 10 * k + 10 - 10 * k ≡ 10 = omega arith in
    let rest = calls_in (c.args.count - (k + 1)) (drop (10 * (k + 1)) octets) in
    record {
      calls = calls_more c.args.count k octets (take (10 * k + 10 - 10 * k) (drop (10 * k) octets))
          c.loop-k.calls.items c.in-Some.call c.loop-k-test.true
          (ap (λ n. take n (drop (10 * k) octets)) size) (sym c.call_in.ensures ∙ c.in-Some.is) c.loop-k.invariant.calls
          ∙ ap (λ (calls : List Callsign). before_rest calls rest) (sym c.push.ensures.items);
      few = c.push.ensures.len ∙ ap (λ n. n + 1) c.loop-k.invariant.few;
    }
