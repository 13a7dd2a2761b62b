-- Products and sums of integers.
use Rattle.offset_slicers.proofs.Common.{◌≡◌, zero, suc, ℤ, pos, ◌+ℤ◌, ◌-ℤ◌, ◌*ℤ◌, ap, ◌∙◌, arith, ints}
use Rattle.std.proofs.Common.{negsuc, neg_ℤ}
use Rattle.std.proofs.Math.IntN.{pred_ℤ, suc_ℤ-*ℤ, pred_ℤ-*ℤ, suc_ℤ-+ℤ, pred_ℤ-+ℤ, zero-*ℤ, *ℤ_comm, +ℤ_idl, +ℤ_invr}

pub mul-add_left : (a b c : ℤ) → (a +ℤ b) *ℤ c ≡ a *ℤ c +ℤ b *ℤ c
mul-add_left (pos zero) b c = ap (λ z. z *ℤ c) (+ℤ_idl b) ∙ omega (arith, ints, zero-*ℤ c)
mul-add_left (pos (suc n)) b c =
    ap (λ z. z *ℤ c) (suc_ℤ-+ℤ (pos n) b) ∙ omega (
      arith,
      ints,
      suc_ℤ-*ℤ (pos n +ℤ b) c,
      mul-add_left (pos n) b c,
      suc_ℤ-*ℤ (pos n) c,
    )
mul-add_left (negsuc zero) b c =
    ap (λ z. z *ℤ c) (pred_ℤ-+ℤ (pos 0) b ∙ ap pred_ℤ (+ℤ_idl b))
    ∙ omega (arith, ints, pred_ℤ-*ℤ b c, pred_ℤ-*ℤ (pos 0) c, zero-*ℤ c)
mul-add_left (negsuc (suc n)) b c =
    ap (λ z. z *ℤ c) (pred_ℤ-+ℤ (negsuc n) b) ∙ omega (
      arith,
      ints,
      pred_ℤ-*ℤ (negsuc n +ℤ b) c,
      mul-add_left (negsuc n) b c,
      pred_ℤ-*ℤ (negsuc n) c,
    )

pub mul-add_right : (a b c : ℤ) → a *ℤ (b +ℤ c) ≡ a *ℤ b +ℤ a *ℤ c
mul-add_right a b c = *ℤ_comm a (b +ℤ c) ∙ mul-add_left b c a ∙ (λ i. *ℤ_comm b a i +ℤ *ℤ_comm c a i)

mul-neg_left : (b c : ℤ) → neg_ℤ b *ℤ c ≡ neg_ℤ (b *ℤ c)
mul-neg_left b c = omega (arith, ints, mul-add_left b (neg_ℤ b) c, ap (λ z. z *ℤ c) (+ℤ_invr b), zero-*ℤ c)

pub mul-sub_left : (a b c : ℤ) → (a -ℤ b) *ℤ c ≡ a *ℤ c -ℤ b *ℤ c
mul-sub_left a b c = mul-add_left a (neg_ℤ b) c ∙ ap (λ z. a *ℤ c +ℤ z) (mul-neg_left b c)

pub mul-assoc : (a b c : ℤ) → (a *ℤ b) *ℤ c ≡ a *ℤ (b *ℤ c)
mul-assoc (pos zero) b c = ap (λ z. z *ℤ c) (zero-*ℤ b) ∙ omega (arith, ints, zero-*ℤ c, zero-*ℤ (b *ℤ c))
mul-assoc (pos (suc n)) b c =
    ap (λ z. z *ℤ c) (suc_ℤ-*ℤ (pos n) b) ∙ omega (
      arith,
      ints,
      mul-add_left (pos n *ℤ b) b c,
      mul-assoc (pos n) b c,
      suc_ℤ-*ℤ (pos n) (b *ℤ c),
    )
mul-assoc (negsuc zero) b c =
    ap (λ z. z *ℤ c) (pred_ℤ-*ℤ (pos 0) b) ∙ omega (
      arith,
      ints,
      zero-*ℤ b,
      mul-sub_left (pos 0 *ℤ b) b c,
      ap (λ z. z *ℤ c) (zero-*ℤ b),
      zero-*ℤ c,
      pred_ℤ-*ℤ (pos 0) (b *ℤ c),
      zero-*ℤ (b *ℤ c),
    )
mul-assoc (negsuc (suc n)) b c =
    ap (λ z. z *ℤ c) (pred_ℤ-*ℤ (negsuc n) b) ∙ omega (
      arith,
      ints,
      mul-sub_left (negsuc n *ℤ b) b c,
      mul-assoc (negsuc n) b c,
      pred_ℤ-*ℤ (negsuc n) (b *ℤ c),
    )
