use Rattle.live_receiver.proofs.Common.{◌+◌, ◌++◌, ◌∷◌, ℤ, List, [], get_or, length, subst, arith, AreCandidatesAfter}
use Rattle.live_receiver.proofs.Common.{option_to_list}
use Rattle.std.specs.Prelude.{pos, take}
use Rattle.std.proofs.Common.{FitsSigned, rules}
use Rattle.std.proofs.lemmas.Int.{to_z-of_z}
use Rattle.std.proofs.lemmas.List.{length-take, take_more}
use mir.Syntax.{w16}
use Rattle.hf_modem.specs.Held.{BankStandsFor}
use Rattle.live_receiver.proofs.PutLemmas.{kept_more, kept_none}
use Rattle.live_receiver.proofs.hf_placing.hear_each.Goals as goal

pub loop-sample-init : goal.loop-sample-init
loop-sample-init c = kept_none c.args.begin c.args.bank.now c.args.items.now.items

pub push-requires : goal.push-requires
push-requires c =
    let at = c.loop-sample.invariant.position in
    let room = c.requires in
    let inside = c.loop-sample-test.true in
    let n = length-take c.loop-sample.sample-index c.args.samples.now in
    omega arith

pub loop-sample-preserved : goal.loop-sample-preserved
loop-sample-preserved c =
    let block : List ℤ = c.args.samples.now in
    let i = c.loop-sample.sample-index in
    let sample : ℤ = get_or block i (pos 0) in
    let fits : FitsSigned w16 sample = search rules in
    let inv = c.loop-sample.invariant in
    let at = inv.position in
    let room = c.requires in
    let n = length-take i block in
    let inside = c.loop-sample-test.true in
    let now = c.push.ensures.position in
    let told = c.position.ensures in
    kept_more c.args.begin c.args.bank.now c.loop-sample.bank c.push.new.self (take i block) (take (i + 1) block) sample _
    c.args.items.now.items c.loop-sample.items.items c.keep.new.items.items c.in_ok-heard.heard inv
    (take_more block i (pos 0) (omega arith)) c.in_ok-keep.ensures (omega arith) (omega arith) c.push.ensures.position
    c.push.ensures.flags c.in_ok-heard.ensures.place
    (subst (λ (z : ℤ). (y : List ℤ) → BankStandsFor c.loop-sample.bank y → BankStandsFor c.push.new.self (y ++ z ∷ [])
    × AreCandidatesAfter (length y) (y ++ z ∷ []) (option_to_list c.in_ok-heard.heard)) (to_z-of_z w16 sample fits)
    c.in_ok-heard.ensures.heard)
