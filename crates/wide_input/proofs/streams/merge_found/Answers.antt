use Rattle.wide_input.proofs.Common.{◌≡◌, ◌+◌, ◌/◌, ◌^◌, ◌<◌, ◌≤◌, ◌++◌, ◌∙◌, ap, sym, subst, length, map, replicate}
use Rattle.wide_input.proofs.Common.{arith, get_or, HeldBank, brought, found_by}
use Rattle.wide_input.proofs.StreamLemmas.{abreast_alike}
use Rattle.wide_input.proofs.WideSteps.{taken_more}
use Rattle.wide_input.proofs.streams.merge_found.Goals as goal

pub returns-clause-given : goal.returns-clause-given
returns-clause-given c = λ before x y size heard h.
    let put = c.in_ok-put_found.ensures in
    let room : length (x ++ y) < 2 ^ 48 = (let r = c.requires.room in omega arith) in
    let forty : length c.put_found.new.merger.marks ≡ 40 = ap length put.marks ∙ c.requires.lanes in
    let marks : c.mark_all.new.self.marks ≡ replicate 40 (length (x ++ y) / 5)
    = c.mark_all.ensures.marks ∙ ap (λ n. replicate n (c.args.position / 5)) forty
    ∙ ap (λ n. replicate 40 (n / 5)) (sym size) in
    taken_more x y before c.args.streams.now c.args.merger.now c.requires.streams heard put.kept h
    c.put_found.new.streams put.alike c.mark_all.new.self c.take_ready.new.self c.in_ok-ready.ready.items room
    (λ puts given stands. c.mark_all.ensures.stands_for (puts ++ brought 0 (map found_by c.args.streams.now)) given
    (put.stands_for puts given stands))
    marks c.in_ok-ready.ensures.ready

pub returns-clause-positions : goal.returns-clause-positions
returns-clause-positions c = λ most each k d l.
    let five = c.requires.streams in
    let still = c.put_found.ensures.streams in
    let same = c.in_ok-put_found.ensures.alike k d (omega arith) in
    subst (λ (b : HeldBank). b.position ≤ most) (sym same.bank) (each k d (omega arith))

pub returns-clause-abreast : goal.returns-clause-abreast
returns-clause-abreast c = λ from count each k d l.
    let five = c.requires.streams in
    let still = c.put_found.ensures.streams in
    let put = c.in_ok-put_found.ensures in
    abreast_alike (from + count) (get_or c.args.streams.now k d) (get_or c.put_found.new.streams k d)
    (put.alike k d (omega arith)) ((each k d (omega arith)).abreast (put.kept k d (omega arith)))
