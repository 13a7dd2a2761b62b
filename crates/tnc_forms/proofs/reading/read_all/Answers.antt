use Rattle.tnc_forms.proofs.Common.{◌≡◌, ◌<◌, Some, drop, length, ◌∙◌, ap, sym, arith, ◌+◌, common_steps}
use Rattle.std.proofs.Common.{◌^◌}
use Rattle.tnc_forms.proofs.Lists.{drop-parts}
use Rattle.tnc_forms.proofs.ReadingLemmas.{read_on}
use Rattle.tnc_forms.proofs.reading.read_all.Goals as goal

pub returns-then-count-eq0-clause-end : goal.returns-then-count-eq0-clause-end
returns-then-count-eq0-clause-end g c octets is =
    let so_far = c.reading.invariant.so_far octets is in
    let gives = c.in-Ok.ensures.gives so_far.0 so_far.2 in
    let none = c.if-count-eq0.true in
    let room = c.min-room.ensures in
    let kept = c.read.auto.buffer in
    let below = c.reading-test.true in
    let len = c.len.ensures in
    let len_again = c.len-in-reading.ensures in
    let has_room : 0 < length c.read.new.buffer = grind (arith, common_steps) in
    gives.rest ∙ ap (λ count. Some (drop count so_far.0)) none ∙ ap Some (gives.end none has_room)

pub reading-preserved : goal.reading-preserved
reading-preserved g c = record {
  so_far = λ whole is.
      let so_far = c.reading.invariant.so_far whole is in
      let gives = c.in-Ok.ensures.gives so_far.0 so_far.2 in
      read_on _ _ _ _ _ _ _ _ so_far.1 c.in-Ok.ensures.bound gives c.in_ok-extend_from_slice.ensures.items;
  bound = let a = c.in_ok-extend_from_slice.ensures.len in
      let b = c.min-room.ensures in
      let d = c.in-Ok.ensures.bound in
      let e = c.read.auto.buffer in
      let below = c.reading-test.true in
      let len = c.len.ensures in
      let len_again = c.len-in-reading.ensures in
      grind (arith, common_steps);
  faultless = c.in-Ok.ensures.faultless ∙ c.reading.invariant.faultless;
}

pub returns-clause-stops : goal.returns-clause-stops
returns-clause-stops g c octets is _ =
    let so_far = c.reading.invariant.so_far octets is in
    let bound = c.reading.invariant.bound in
    let full = c.reading-test.false in
    let len = c.len.ensures in
    let sized = c.reading.octets.ok in
    let all : length c.reading.octets.items ≡ 2 ^ 40 + 1 = omega (arith, sized.0) in
    so_far.2 ∙ ap Some (sym (drop-parts octets c.reading.octets.items so_far.0 (2 ^ 40 + 1) so_far.1 all))
