use Rattle.tnc_decode.proofs.Common.{◌≡◌, ℕ, ◌+◌, ◌-◌, ◌≤◌, ◌++◌, ◌∙◌, List, [], ℤ, length, take, drop, ap, sym, subst}
use Rattle.tnc_decode.proofs.Common.{arith, append-nil, append_assoc, length-drop, common_steps, HasDecoded, settled_count}
use Rattle.tnc_decode.proofs.Common.{AreGivenBetween}
use Rattle.std.proofs.Math.Seq.{take-add}
use Rattle.std.proofs.lemmas.List.{length-take-le}
use Rattle.tnc_decode.proofs.ModemLemmas.{given_none, given_blocks}
use Rattle.tnc_decode.proofs.decoders.Decoders.hear.Goals as goal

pub loop-done-init : goal.loop-done-init
loop-done-init g c = record {
  within = omega arith;
  given = λ modem x h. (
    subst (HasDecoded modem c.args.self.now) (sym (append-nil x)) h,
    subst (AreGivenBetween modem (settled_count modem x) (settled_count modem (x ++ [])) (x ++ []))
        (sym c.new-items.ensures.items) (given_none modem x),
  );
  position = omega arith;
  unfinished = c.requires.unfinished;
}

pub loop-done-preserved : goal.loop-done-preserved
loop-done-preserved g c =
    let samples : List ℤ = c.args.samples.now in
    let done : ℕ = c.loop-done.done in
    let count : ℕ = c.min-count.result in
    let least = c.min-count.ensures in
    let inside = c.loop-done.invariant.within in
    let within : done + count ≤ length samples = grind (arith, common_steps) in
    let piece : List ℤ = take (done + count - done) (drop done samples) in
    let same : done + count - done ≡ count = omega arith in
    let size : length piece ≡ count = omega (
      arith,
      same,
      length-take-le (done + count - done) (drop done samples) (omega (arith, length-drop done samples)),
    ) in
    record {
      within = within;
      given = λ modem x h.
          let before = c.loop-done.invariant.given modem x h in
          let gave = c.in_ok-more.ensures.given modem (x ++ take done samples) before.0 in
          let both = given_blocks modem x (take done samples) piece c.loop-done.items.items c.in_ok-more.more.items
          before.1 gave.1 in
          let whole : (x ++ take done samples) ++ piece ≡ x ++ take (done + count) samples
          = append_assoc x (take done samples) piece
          ∙ ap (λ n. x ++ (take done samples ++ take n (drop done samples))) same
          ∙ ap (λ l. x ++ l) (sym (take-add done count samples)) in (
            subst (HasDecoded modem c.block.new.self) whole gave.0,
            subst (AreGivenBetween modem (settled_count modem x) (settled_count modem (x ++ take (done + count) samples))
                (x ++ take (done + count) samples))
                (sym c.in_ok-append.ensures.items)
                (subst (λ (z : List ℤ). AreGivenBetween modem (settled_count modem x) (settled_count modem z) z
                (c.loop-done.items.items ++ c.in_ok-more.more.items)) whole both),
          );
      position = (let so_far = c.loop-done.invariant.position in let more = c.in_ok-more.ensures.position in
          omega (arith, so_far, more, size));
      unfinished = c.in_ok-more.ensures.unfinished;
    }
