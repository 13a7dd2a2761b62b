-- A block of samples without its mean, piece by piece.
use Rattle.tone_tracking.proofs.Common.{◌≡◌, ◌+◌, ◌-◌, ◌≤◌, ◌∙◌, ℤ, List, [], length, sym, subst, ap, arith, All, unsigned_abs}
use Rattle.std.proofs.Common.{◌++◌, append_assoc, append-nil, length-append}
use Rattle.tone_tracking.specs.HeldLine.{Settles}
use Rattle.tone_tracking.specs.HeldMean.{HeldMean, StandsFor}
use Rattle.tone_tracking.specs.WithoutMean.{without_mean}

-- a part of a block is taken, and what it settles is added to the levels
pub record HasTakenPart (was now : HeldMean) (before after : List ℤ) (done : List ℤ) : Type 0 where
  pub settled : Settles was now before after done
  pub left : now.left ≡ was.left - length done
  pub length : length after ≡ length before + (length done - was.left)
  pub small : All (λ level. unsigned_abs level ≤ 262144) after

pub none_taken : (was : HeldMean) (levels : List ℤ) → All (λ level. unsigned_abs level ≤ 262144) levels
    → HasTakenPart was was levels levels []
none_taken was levels small = record {
  settled = λ x h. (
    subst (StandsFor was) (sym (append-nil x)) h,
    [],
    ap without_mean (append-nil x) ∙ sym (append-nil (without_mean x)),
    sym (append-nil levels),
  );
  left = omega arith;
  length = omega arith;
  small = small;
}

pub one_more : (was mid now : HeldMean) (before middle after done piece : List ℤ)
    → HasTakenPart was mid before middle done → HasTakenPart mid now middle after piece
    → HasTakenPart was now before after (done ++ piece)
one_more was mid now before middle after done piece first second =
    let size = length-append done piece in
    let one = first.left in
    let two = second.left in
    let long = first.length in
    let longer = second.length in
    record {
      settled = λ x h.
          let a = first.settled x h in
          let b = second.settled (x ++ done) a.0 in (
            subst (StandsFor now) (append_assoc x done piece) b.0,
            a.1 ++ b.1,
            ap without_mean (sym (append_assoc x done piece)) ∙ b.2 ∙ ap (λ l. l ++ b.1) a.2
                ∙ append_assoc (without_mean x) a.1 b.1,
            b.3 ∙ ap (λ l. l ++ b.1) a.3 ∙ append_assoc before a.1 b.1,
          );
      left = omega arith;
      length = omega arith;
      small = second.small;
    }
