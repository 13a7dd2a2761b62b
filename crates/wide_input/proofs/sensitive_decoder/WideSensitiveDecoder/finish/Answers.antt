use Rattle.wide_input.proofs.Common.{◌≡◌, ◌≤◌, ◌<◌, ◌^◌, ◌+◌, ◌++◌, ℤ, List, length, take, sym, subst, arith, IfOk, IfOk-weaker}
use Rattle.wide_input.proofs.Common.{Candidate}
use Rattle.std.proofs.Math.Nat.{min-le_left}
use Rattle.std.proofs.lemmas.List.{length-take}
use Rattle.resampler.specs.Filtered.{decimated}
use Rattle.sensitive_receiver.specs.MergedItems.{AreMergedBetween}
use Rattle.wide_input.specs.SettledByAll.{settled_by_all}
use Rattle.wide_input.specs.HeldSensitive.{HeldSensitive, StandsFor}
use Rattle.wide_input.proofs.DecimatedLemmas.{end_decimated}
use Rattle.wide_input.proofs.sensitive_decoder.WideSensitiveDecoder.finish.Goals as goal

pub returns-clause-rest : goal.returns-clause-rest
returns-clause-rest c =
    let old = c.self.inside in
    let held : HeldSensitive = record { filter = old.filter; decoder = old.decoder; ended = old.ended } in
    let out : List ℤ = c.finish-count.new.out in
    let part : List ℤ = take c.finish-count.result out in
    let few : length part ≤ 15 = omega (
      arith,
      c.finish-count.ensures.count,
      length-take c.finish-count.result out,
      min-le_left c.finish-count.result (length out),
    ) in
    let items : List Candidate = c.in_ok-items.items.items in
    let rest : List Candidate = c.in_ok-rest.rest.items in
    let P : HeldSensitive → Type 0 = λ was. was.decoder.position + 15 < 2 ^ 48
    → IfOk c.join.result (λ joined. (x : List ℤ) → StandsFor was x
    → AreMergedBetween (settled_by_all (length x)) (length (decimated x) + 1) (decimated x) joined.items) in
    subst P c.self.view_is (λ room. IfOk-weaker c.join.result
    (λ joined. joined.items ≡ items ++ rest)
    (λ joined. (x : List ℤ) → StandsFor held x
    → AreMergedBetween (settled_by_all (length x)) (length (decimated x) + 1) (decimated x) joined.items)
    (λ joined is x h. subst (λ (l : List Candidate).
    AreMergedBetween (settled_by_all (length x)) (length (decimated x) + 1) (decimated x) l) (sym is)
    (end_decimated old.filter old.decoder c.block.new.self old.ended part items rest few room
    c.finish-count.ensures.rest c.in_ok-items.ensures.given c.in_ok-rest.ensures.rest x h))
    c.join.ensures) c.requires.room
