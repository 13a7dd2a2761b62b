use Rattle.tnc_words.proofs.Common.{◌<◌, Some, None, length, refl, sym, subst, IsCallList}
use Rattle.std.proofs.Common.{rules}
use Rattle.tnc_words.proofs.CallLists.{SpelledSoFar, bad_part, first_part, last_one, one_more, too_many}
use Rattle.tnc_words.proofs.stations.calls_in.Goals as goal

pub returns-in_err-spelled-in-Some-clause-none : goal.returns-in_err-spelled-in-Some-clause-none
returns-in_err-spelled-in-Some-clause-none c = λ none.
    bad_part c.args.text.now c.loop-rest.rest.now c.loop-rest.calls.items c.loop-rest.invariant.1 _ _
    (first_part c.loop-rest.rest.now (Some (c.in-Some.first, c.in-Some.others)) c.in-Some.ensures.cases)
    (c.in_err-spelled-in-Some.ensures.none refl)

pub loop-rest-preserved : goal.loop-rest-preserved
loop-rest-preserved c =
    let few : length c.loop-rest.calls.items < 8 = search rules in (
      search rules,
      subst (SpelledSoFar c.args.text.now c.in-Some.others.now) (sym c.push.ensures.items)
          (one_more c.args.text.now c.loop-rest.rest.now c.loop-rest.calls.items c.loop-rest.invariant.1 _ _ _
          (first_part c.loop-rest.rest.now (Some (c.in-Some.first, c.in-Some.others)) c.in-Some.ensures.cases)
          c.in_ok-spelled-in-Some.ensures.call few),
    )

pub returns-in_err-spelled-in-None-clause-none : goal.returns-in_err-spelled-in-None-clause-none
returns-in_err-spelled-in-None-clause-none c = λ none.
    bad_part c.args.text.now c.loop-rest.rest.now c.loop-rest.calls.items c.loop-rest.invariant.1 _ _
    (first_part c.loop-rest.rest.now None c.in-None.ensures.cases) (c.in_err-spelled-in-None.ensures.none refl)

pub returns-in-None-clause-calls : goal.returns-in-None-clause-calls
returns-in-None-clause-calls c =
    let few : length c.loop-rest.calls.items < 8 = search rules in
    subst (IsCallList c.args.text.now) (sym c.push-in-None.ensures.items)
    (last_one c.args.text.now c.loop-rest.rest.now c.loop-rest.calls.items c.loop-rest.invariant.1 _
    (first_part c.loop-rest.rest.now None c.in-None.ensures.cases) c.in_ok-spelled-in-None.ensures.call few)

pub returns-clause-none : goal.returns-clause-none
returns-clause-none c = λ none.
    too_many c.args.text.now c.loop-rest.rest.now c.loop-rest.calls.items c.loop-rest.invariant.1 (search rules)
