use Rattle.tnc_call.proofs.Common.{◌∙◌, arith}
use Rattle.std.proofs.lemmas.Grind.{common_steps}
use Rattle.tnc_forms.proofs.ReadingLemmas.{read_on}
use Rattle.tnc_call.proofs.reading.read_text.Goals as goal

pub reading-preserved : goal.reading-preserved
reading-preserved g c = record {
  so_far = λ whole is.
      let so_far = c.reading.invariant.so_far whole is in
      let gives = c.in-Ok.ensures.gives so_far.0 so_far.2 in
      read_on _ _ _ _ _ _ _ _ so_far.1 c.in-Ok.ensures.bound gives c.in-Ok-extend_from_slice.ensures.items;
  bound = let a = c.in-Ok-extend_from_slice.ensures.len in
      let b = c.min-room.ensures in
      let d = c.in-Ok.ensures.bound in
      let e = c.read.auto.buffer in
      let below = c.reading-test.true in
      let len = c.len.ensures in
      let len_again = c.len-in-reading.ensures in
      grind (arith, common_steps);
  faultless = c.in-Ok.ensures.faultless ∙ c.reading.invariant.faultless;
}
