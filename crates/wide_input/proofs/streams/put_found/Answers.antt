use Rattle.wide_input.proofs.Common.{◌≡◌, ◌<◌, ◌+◌, ◌∙◌, ◌++◌, ℕ, List, map, take, ap, sym, subst, length, get_or}
use Rattle.wide_input.proofs.Common.{append_assoc, arith, Candidate, in_stream, HeldStream, brought, found_by}
use Rattle.std.proofs.lemmas.List.{take_all}
use Rattle.frame_merge.specs.Held.{StandsFor}
use Rattle.wide_input.proofs.Visits.{GaveFound, visited_here, visited_more, brought-more}
use Rattle.wide_input.proofs.streams.put_found.Goals as goal

pub loop-number-preserved : goal.loop-number-preserved
loop-number-preserved c =
    let old : List HeldStream = c.args.streams.now in
    let now : List HeldStream = c.loop-number.streams in
    let n : ℕ = c.loop-number.number in
    let was : HeldStream = c.index-streams-number.result in
    let after : HeldStream = c.take_found.new.self in
    let found : List Candidate = c.in_ok-found.found.items in
    let before = c.loop-number.invariant in
    let five = c.requires.streams in
    let small : n < length old = (let t = c.loop-number-test.true in omega arith) in
    let is = c.in_ok-found.ensures.found in
    let did : GaveFound (get_or now n was) after = (c.in_ok-found.ensures.alike, (found, is)) in
    let there = visited_here GaveFound old now n was was before.visited small in
    let same : brought 0 (map found_by (take n old)) ++ map (in_stream n) found
    ≡ brought 0 (map found_by (take (n + 1) old))
    = brought-more old n was found small (ap (λ (held : HeldStream). held.found) (sym there) ∙ is) in
    record {
      visited = visited_more GaveFound old now n was after before.visited small did;
      stands_for = λ puts given h.
          subst (λ t. StandsFor c.put_stream.new.merger t given)
          (append_assoc puts (brought 0 (map found_by (take n old))) (map (in_stream n) found)
          ∙ ap (λ t. puts ++ t) same)
          (c.in_ok-put_stream.ensures.stands_for (puts ++ brought 0 (map found_by (take n old))) given
          (before.stands_for puts given h));
      marks = c.in_ok-put_stream.ensures.marks ∙ before.marks;
    }

pub returns-clause-kept : goal.returns-clause-kept
returns-clause-kept c = λ k d l.
    (c.loop-number.invariant.visited.done k d (let past = c.loop-number-test.false in let five = c.requires.streams in
    omega arith)).1

pub returns-clause-stands_for : goal.returns-clause-stands_for
returns-clause-stands_for c = λ puts given h.
    let past = c.loop-number-test.false in
    let five = c.requires.streams in
    subst (λ t. StandsFor c.loop-number.merger (puts ++ brought 0 (map found_by t)) given)
    (take_all c.loop-number.number c.args.streams.now (omega arith))
    (c.loop-number.invariant.stands_for puts given h)
