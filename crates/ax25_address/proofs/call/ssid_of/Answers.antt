use Rattle.ax25_address.proofs.Common.{◌≡◌, ◌-◌, ◌+◌, get_or, Some, ap, arith, inl, inr}
use Rattle.ax25_address.proofs.SsidLemmas.{octets_from_tells, tells_one_digit, tells_two_digits}
use Rattle.ax25_address.proofs.call.ssid_of.Goals.{else-tail-eq2-via-then-tail-eq2+else-is_ascii_digit}
use Rattle.ax25_address.proofs.call.ssid_of.Goals.{else-tail-eq2-via-else-tail-eq2}
use Rattle.ax25_address.proofs.call.ssid_of.Goals.{else-tail-eq3-via-then-tail-eq3+then-tail-eq49+then-tail-ge48+else-tail-le53}
use Rattle.ax25_address.proofs.call.ssid_of.Goals.{else-tail-eq3-via-then-tail-eq3+then-tail-eq49+else-tail-ge48}
use Rattle.ax25_address.proofs.call.ssid_of.Goals.{else-tail-eq3-via-then-tail-eq3+else-tail-eq49}
use Rattle.ax25_address.proofs.call.ssid_of.Goals.{else-tail-eq3-via-else-tail-eq3}
use Rattle.ax25_address.proofs.call.ssid_of.Goals as goal

pub returns-then-is_ascii_digit-clause-ssid : goal.returns-then-is_ascii_digit-clause-ssid
returns-then-is_ascii_digit-clause-ssid c =
    let digit = c.if-is_ascii_digit.ensures.cases in (
      omega arith,
      tells_one_digit _ _ (record {
        len = omega arith;
        small = omega arith;
        dash = omega arith;
        digit = omega arith;
      }),
    )

pub returns-then-is_ascii_digit-clause-exact : goal.returns-then-is_ascii_digit-clause-exact
returns-then-is_ascii_digit-clause-exact c =
    λ n lt t.
    elim (octets_from_tells _ n lt t) [
      | inl none ↦ absurd (omega arith)
      | inr (inl one) ↦ (let e : get_or c.args.tail.now 1 0 - 48 ≡ n = omega arith in ap (λ m. Some m) e)
      | inr (inr two) ↦ absurd (omega arith)
    ]

pub returns-then-tail-le53-clause-ssid : goal.returns-then-tail-le53-clause-ssid
returns-then-tail-le53-clause-ssid c = (
  omega arith,
  tells_two_digits _ _ (omega arith) (record {
    len = omega arith;
    large = omega arith;
    dash = omega arith;
    ten = omega arith;
    digit = omega arith;
  }),
)

pub returns-then-tail-le53-clause-exact : goal.returns-then-tail-le53-clause-exact
returns-then-tail-le53-clause-exact c =
    λ n lt t.
    elim (octets_from_tells _ n lt t) [
      | inl none ↦ absurd (omega arith)
      | inr (inl one) ↦ absurd (omega arith)
      | inr (inr two) ↦ (let e : 10 + (get_or c.args.tail.now 2 0 - 48) ≡ n = omega arith in ap (λ m. Some m) e)
    ]

pub returns-clause-exact : goal.returns-clause-exact
returns-clause-exact c =
    λ n lt t.
    elim (octets_from_tells _ n lt t) [
      | inl none ↦ absurd (grind arith)
      | inr (inl one) ↦ elim c.else-tail-eq2.branch [
        | else-tail-eq2-via-then-tail-eq2+else-is_ascii_digit w ↦ absurd
            (omega (arith, w.if-is_ascii_digit.ensures.cases))
        | else-tail-eq2-via-else-tail-eq2 w ↦ absurd (omega arith)
      ]
      | inr (inr two) ↦ elim c.else-tail-eq3.branch [
        | else-tail-eq3-via-then-tail-eq3+then-tail-eq49+then-tail-ge48+else-tail-le53 w ↦ absurd (omega arith)
        | else-tail-eq3-via-then-tail-eq3+then-tail-eq49+else-tail-ge48 w ↦ absurd (omega arith)
        | else-tail-eq3-via-then-tail-eq3+else-tail-eq49 w ↦ absurd (omega arith)
        | else-tail-eq3-via-else-tail-eq3 w ↦ absurd (omega arith)
      ]
    ]
