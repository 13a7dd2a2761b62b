use Rattle.tnc_decode.proofs.Common.{◌≡◌, ◌+◌, ◌-◌, ◌≤◌, ℕ, Err, List, ap, arith, drop, length, length-drop, refl, sym, take}
use Rattle.tnc_decode.proofs.Common.{◌∙◌, err_from_is_err_and, File}
use Rattle.std.proofs.lemmas.List.{length-take, take_all}
use Rattle.tnc_decode.proofs.AudioLemmas.{takes_none, takes_more, takes_many, stops_within}
use Rattle.tnc_decode.proofs.audio.take_file.Goals as goal

pub taking-init : goal.taking-init
taking-init c =
    let told = c.in_ok-count.ensures in
    let sum : c.in_ok-count.count ≡ 0 + c.in_ok-count.count = omega arith in (
      told.count,
      takes_many (File c.args.file.now) (File c.args.file.now) (File c.take_data.new.file)
          c.args.octets.now c.args.octets.now 0 c.in_ok-count.count c.in_ok-count.count c.args.samples.now.items
          c.take_data.new.samples.items sum refl
          (takes_none (File c.args.file.now) c.args.octets.now c.args.samples.now.items c.requires)
          told.takes told.samples told.few,
    )

pub taking-preserved : goal.taking-preserved
taking-preserved c =
    let octets : List ℕ = c.args.octets.now in
    let count : ℕ = c.taking.count + 1 in
    let left : List ℕ = take (length octets - count) (drop count octets) in
    let many : ℕ = c.in_ok-count-2.field-0 in
    let told = c.in_ok-count-2.ensures in
    let some = c.taking-test.true in
    let few : many ≤ length left = told.count in
    let is : left ≡ drop count octets =
    take_all (length octets - count) (drop count octets) (omega (arith, length-drop count octets)) in (
      omega (arith, few, some, length-take (length octets - count) (drop count octets), length-drop count octets),
      takes_many (File c.args.file.now) (File c.take_one.new.file) (File c.take_data-in-taking.new.file)
          octets left count many (count + many) c.take_one.new.samples.items c.take_data-in-taking.new.samples.items
          refl is
          (takes_more (File c.args.file.now) (File c.taking.file) (File c.take_one.new.file)
          octets c.taking.count c.taking.samples.items c.take_one.new.samples.items some c.taking.invariant.1
          c.in_ok-take_one.ensures.takes c.in_ok-take_one.ensures.samples c.in_ok-take_one.ensures.count)
          told.takes told.samples told.few,
    )

pub returns-in_err-take_one-clause-stops : goal.returns-in_err-take_one-clause-stops
returns-in_err-take_one-clause-stops c = λ fault rates form before is h.
    let told = err_from_is_err_and c.from_residual-in_err-take_one.result c.from_residual-in_err-take_one.ensures.1 in
    let same = ap Err (sym told.2) ∙ sym told.1 ∙ is in
    stops_within (File c.args.file.now) (File c.taking.file)
    c.args.octets.now c.taking.count c.taking.samples.items fault
    c.taking-test.true c.taking.invariant.1 (λ rates' form' before' k.
    c.in_err-take_one.ensures.stops fault rates' form' before' same k) rates form before h
