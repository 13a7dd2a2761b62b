use Rattle.wide_input.proofs.Common.{◌++◌, ◌∷◌, [], List, map, ap, sym, subst, map-append, Candidate, HasPut, in_stream}
use Rattle.frame_merge.specs.Held.{StandsFor}
use Rattle.slicer_bank.proofs.MergingLemmas.{has_put_more, has_put_all}
use Rattle.wide_input.proofs.streams.put_stream.Goals as goal

pub loop-heard-preserved : goal.loop-heard-preserved
loop-heard-preserved c =
    let f : Candidate → Candidate = in_stream c.args.number in
    let heard : Candidate = c.in-Some.heard in
    let rest : List Candidate = c.next.new.self.rest.items in
    subst (λ t. HasPut c.args.merger.now c.put_in_time.new.self (map f c.args.found.items) t (map f rest)
    c.next.new.self.rest.len) (sym (map-append f c.loop-heard.yielded (heard ∷ [])))
    (has_put_more c.args.merger.now c.loop-heard.merger c.put_in_time.new.self (map f c.args.found.items)
    (map f c.loop-heard.yielded) (map f c.loop-heard.heard-iterator.rest.items) (map f rest)
    c.loop-heard.heard-iterator.rest.len c.next.new.self.rest.len (f heard) c.loop-heard.invariant
    (ap (map f) c.in-Some.ensures.steps.0) c.in-Some.ensures.steps.1 c.in_ok-put_in_time.ensures.marks
    c.in_ok-put_in_time.ensures.ok)

pub returns-clause-stands_for : goal.returns-clause-stands_for
returns-clause-stands_for c = λ puts given h.
    let f : Candidate → Candidate = in_stream c.args.number in
    subst (λ t. StandsFor c.loop-heard.merger (puts ++ t) given)
    (has_put_all c.args.merger.now c.loop-heard.merger (map f c.args.found.items) (map f c.loop-heard.yielded)
    (map f c.loop-heard.heard-iterator.rest.items) c.loop-heard.heard-iterator.rest.len
    c.loop-heard.invariant c.in-None.ensures.steps.0)
    (c.loop-heard.invariant.stands_for puts given h)
