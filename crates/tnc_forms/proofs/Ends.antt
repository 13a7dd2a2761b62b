-- What follows of a call's answer.
use Rattle.tnc_forms.proofs.Common.{◌≡◌, Result, Ok, Err, true≢false, sym, subst, OnOk, IfOk}
use Rattle.std.specs.Prelude.{OnErr, IfErr, IsErrAnd, IsOk}

module _ {T E : Type 0} where
  pub at_ok : (r : Result T E) {P : Type 0} → OnOk r P → IsOk r → P
  at_ok (Ok x) h ok = h
  at_ok (Err e) h ok = absurd (true≢false (sym ok))

  pub at_err : (r : Result T E) {P Q : E → Type 0} {R : Type 0} → IfErr r P → IsErrAnd r Q → ((e : E) → P e → Q e → R)
      → R
  at_err (Ok x) h k f = absurd k
  at_err (Err e) h k f = f e h k

  pub at_fault : (r : Result T E) (P : E → Type 0) (e : E) → IfErr r P → r ≡ Err e → P e
  at_fault r P e h is = subst (λ q. IfErr q P) is h

  pub on_err : (r : Result T E) {P : Type 0} → P → OnErr r P
  on_err (Ok x) p = tt
  on_err (Err e) p = p

  pub map_ok : (r : Result T E) {P Q : Type 0} → (P → Q) → OnOk r P → OnOk r Q
  map_ok (Ok x) f h = f h
  map_ok (Err e) f h = tt

  pub map_err : (r : Result T E) {P Q : Type 0} → (P → Q) → OnErr r P → OnErr r Q
  map_err (Ok x) f h = tt
  map_err (Err e) f h = f h

  pub if_ok : (r : Result T E) {P : Type 0} {Q R : T → Type 0} → OnOk r P → IfOk r Q → ((x : T) → P → Q x → R x)
      → IfOk r R
  if_ok (Ok x) p q f = f x p q
  if_ok (Err e) p q f = tt

-- a fault that was handed on
pub same_fault : {T E : Type 0} (a b : E) → ◌≡◌ {A = Result T E} (Err a) (Err b) → a ≡ b
same_fault a b e = cc
