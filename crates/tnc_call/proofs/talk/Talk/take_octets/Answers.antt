use Rattle.tnc_call.proofs.Common.{◌+◌, ◌++◌, ◌∷◌, [], ℕ, List, take, drop, get_or, subst, sym, ◌∙◌, MatchOption}
use Rattle.tnc_call.proofs.Common.{WriteFault, take-append-drop, GoesOn, Stops}
use Rattle.agwpe_port.proofs.StreamLemmas.{one_more}
use Rattle.tnc_call.proofs.HeardLemmas.{goes_if_none, none_is_no_end, octets_stop}
use Rattle.tnc_call.proofs.talk.Talk.take_octets.Goals as goal

pub loop-octet-preserved : goal.loop-octet-preserved
loop-octet-preserved g c = record {
  goes_on = λ plan host before goes.
      let octets : List ℕ = c.args.octets.now in
      let i : ℕ = c.loop-octet.octet-index in
      let P : List ℕ → Type 0 = λ xs. GoesOn c.take_octet-end.new.self plan xs before
      (g.O.Sink.told c.take_octet-end.new.output).written in
      subst P (one_more host octets i c.loop-octet-test.true)
      (goes_if_none c.take_octet-end.result _
      (Stops plan ((host ++ take i octets) ++ get_or octets i 0 ∷ []) before
      (g.O.Sink.told c.take_octet-end.new.output).written)
      (sym c.is_some.ensures ∙ c.if-is_some.false)
      (c.take_octet-end.ensures.taken plan (host ++ take i octets) before
      (c.loop-octet.invariant.goes_on plan host before
      goes)));
  kept = c.take_octet-end.ensures.kept ∙ c.loop-octet.invariant.kept;
  within = c.take_octet-end.ensures.within;
  faultless = c.take_octet-end.ensures.faultless
      (none_is_no_end c.take_octet-end.result WriteFault (sym c.is_some.ensures ∙ c.if-is_some.false))
      ∙ c.loop-octet.invariant.faultless;
}

pub returns-then-is_some-clause-taken : goal.returns-then-is_some-clause-taken
returns-then-is_some-clause-taken g c = λ plan host before goes.
    let octets : List ℕ = c.args.octets.now in
    let i : ℕ = c.loop-octet.octet-index in
    let written = (g.O.Sink.told c.take_octet-end.new.output).written in
    let stopped : MatchOption c.take_octet-end.result _ (Stops plan ((host ++ take i octets) ++ get_or octets i 0 ∷ [])
    before written) = c.take_octet-end.ensures.taken plan (host ++ take i octets) before
    (c.loop-octet.invariant.goes_on plan host before goes) in
    let P : List ℕ → Type 0 = λ xs. MatchOption c.take_octet-end.result
    (GoesOn c.take_octet-end.new.self plan (host ++ octets) before written) (Stops plan (host ++ xs) before written) in
    let Q : List ℕ → Type 0 = λ xs. MatchOption c.take_octet-end.result
    (GoesOn c.take_octet-end.new.self plan ((host ++ take i octets) ++ get_or octets i 0 ∷ []) before written)
    (Stops plan xs before written) in
    subst P (take-append-drop (i + 1) octets)
    (octets_stop plan host (take (i + 1) octets) (drop (i + 1) octets) before written c.take_octet-end.result _ _
    (sym c.is_some.ensures ∙ c.if-is_some.true)
    (subst Q (one_more host octets i c.loop-octet-test.true) stopped))
