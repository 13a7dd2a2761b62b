use Rattle.ring_receiver.proofs.Common.{◌-◌, ◌++◌, ◌∙◌, ap, arith, map, moved}
use Rattle.std.proofs.lemmas.Result.{on_ok_weaker}
use Rattle.ring_receiver.proofs.AddedLemmas.{heard_more}
use Rattle.ring_receiver.proofs.added_lanes.AddedLanesStretchLanes.hear.Goals as goal

pub returns-clause-heard : goal.returns-clause-heard
returns-clause-heard c =
    on_ok_weaker c.add_moved.result (λ moved_is s own h.
    let heard = c.in_ok-heard.ensures.found s.samples h.stands.samples in
    record {
      more = map (moved s.begin) c.in_ok-heard.heard.items;
      holds = record {
        stands = record { begin = h.stands.begin; samples = heard.0 };
        are = heard_more s c.args.samples.now own c.in_ok-heard.heard.items heard.1 h.are;
      };
      brought = moved_is
          ∙ ap (λ b. c.args.items.now.items ++ map (moved b) c.in_ok-heard.heard.items) h.stands.begin;
    })
    c.add_moved.ensures.found

pub returns-clause-listens : goal.returns-clause-listens
returns-clause-listens c =
    on_ok_weaker c.add_moved.result (λ moved_is s h. record {
      begin = h.begin;
      samples = (c.in_ok-heard.ensures.found s.samples h.samples).0;
    })
    c.add_moved.ensures.found

pub returns-clause-comes : goal.returns-clause-comes
returns-clause-comes c = λ from under.
    c.add_moved.ensures.bounds (c.args.self.now.bank.position - 32) (from - 32) (omega arith) c.in_ok-heard.ensures.late
