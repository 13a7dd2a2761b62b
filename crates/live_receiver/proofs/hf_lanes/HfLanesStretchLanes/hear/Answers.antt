use Rattle.live_receiver.proofs.Common.{◌≡◌, ◌++◌, ◌∙◌, All, List, arith, map, ap, append_assoc, subst, sym}
use Rattle.live_receiver.proofs.Common.{false, true, AreAllIn, Candidate, IsHeardInOne, with_samples}
use Rattle.live_receiver.proofs.Common.{moved, moved_added}
use Rattle.std.proofs.lemmas.Bool.{true≢false}
use Rattle.std.proofs.lemmas.Result.{on_ok_weaker}
use Rattle.hf_sensitive.specs.Found.{CanBePutFrom, least_end}
use Rattle.live_receiver.proofs.HeardLemmas.{more_by_all, more_by_one}
use Rattle.live_receiver.proofs.PutLemmas.{moved_come}
use Rattle.live_receiver.proofs.hf_lanes.HfLanesStretchLanes.hear.Goals as goal

pub returns-then-not-self-clause-heard : goal.returns-then-not-self-clause-heard
returns-then-not-self-clause-heard c = λ s own h.
    let old = c.args.self.now in
    let told = c.in_ok-hear_each.ensures.heard in
    let plain : old.sensitive ≡ false = c.if-not-self.true in
    let step = told.2 s.samples h.stands.samples in
    let more : List Candidate = map (moved s.begin) told.0 in
    record {
      more = more;
      holds = record {
        stands = record {
          begin = h.stands.begin;
          samples = step.0;
          added = λ all. absurd (true≢false (sym all ∙ plain));
        };
        are = subst (λ b. AreAllIn (IsHeardInOne b) (with_samples s c.args.samples.now) (own ++ more)) (sym plain)
            (more_by_one s c.args.samples.now own told.0 step.1
            (subst (λ b. AreAllIn (IsHeardInOne b) s own) plain h.are));
      };
      brought = told.1 ∙ ap (λ b. c.args.items.now.items ++ map (moved b) told.0) h.stands.begin;
    }

pub returns-clause-heard : goal.returns-clause-heard
returns-clause-heard c =
    on_ok_weaker c.add_moved.result (λ moved_is s own h.
    let old = c.args.self.now in
    let told = c.in_ok-hear_each.ensures.heard in
    let all : old.sensitive ≡ true = c.if-not-self.false in
    let step = told.2 s.samples h.stands.samples in
    let added : List Candidate = c.in_ok-added.added.items in
    let first : List Candidate = map (moved s.begin) told.0 in
    let second : List Candidate = map (moved_added s.begin) added in
    record {
      more = first ++ second;
      holds = record {
        stands = record {
          begin = h.stands.begin;
          samples = step.0;
          added = λ e. c.in_ok-added.ensures.stand_for s.samples (h.stands.added e);
        };
        are = subst (λ b. AreAllIn (IsHeardInOne b) (with_samples s c.args.samples.now) (own ++ (first ++ second))) (sym all)
            (more_by_all s c.args.samples.now own told.0 step.1 added
            (c.in_ok-added.ensures.found s.samples (h.stands.added all))
            (subst (λ b. AreAllIn (IsHeardInOne b) s own) all h.are));
      };
      brought = moved_is
          ∙ ap (λ l. l ++ map (moved_added old.begin) added) told.1
          ∙ append_assoc c.args.items.now.items (map (moved old.begin) told.0) (map (moved_added old.begin) added)
          ∙ ap (λ b. c.args.items.now.items ++ (map (moved b) told.0 ++ map (moved_added b) added)) h.stands.begin;
    })
    c.add_moved.ensures

pub returns-clause-listens : goal.returns-clause-listens
returns-clause-listens c =
    on_ok_weaker c.add_moved.result (λ moved_is s h. record {
      begin = h.begin;
      samples = (c.in_ok-hear_each.ensures.heard.2 s.samples h.samples).0;
      added = λ all. c.in_ok-added.ensures.stand_for s.samples (h.added all);
    })
    c.add_moved.ensures

pub returns-clause-comes : goal.returns-clause-comes
returns-clause-comes c = λ from under.
    let old = c.args.self.now in
    let room = c.requires.room in
    on_ok_weaker c.add_moved.result (λ moved_is before.
    moved_come old.sensitive old.begin old.bank.position from c.hear_each.new.items.items c.add_moved.new.items.items
    c.in_ok-added.added.items c.if-not-self.false moved_is (omega arith) under
    (subst (λ n. All (CanBePutFrom (least_end n)) c.in_ok-added.added.items) c.position-position.ensures
    c.in_ok-added.ensures.bounds)
    (c.in_ok-hear_each.ensures.comes old.sensitive from under before))
    c.add_moved.ensures
