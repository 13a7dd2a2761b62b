-- Windows that fit are not refused.
use Rattle.link_world.proofs.Common.{◌≡◌, ℕ, inl, inr, refl, sym, ap, ◌∙◌, subst, arith, Result, Err, ◌↔◌, IfErr, Mode}
use Rattle.link_world.proofs.Common.{IsWindow, Params, NewFault, HasWindows}
use Rattle.selective_reject.specs.declared.window.BadWindow.{BadWindow}
use Rattle.selective_reject.specs.Window.{IsBadWindow}
use Rattle.link_machine.specs.declared.fault.NewFault.TheVariants.{BadWindow as RefusedWindow}
use Rattle.link_machine.specs.Params.{IsRefusedWindow}

fits_or_not : (modulus window : ℕ) (mode : Mode) → IsWindow modulus window mode → IsBadWindow modulus window mode → ⊥
fits_or_not modulus window mode h (inl none) = let low = h.0 in omega arith
fits_or_not modulus window mode h (inr large) = let high = h.1 in omega arith

-- if both windows fit, none is refused
pub none_refused : (p : Params) (window : ℕ) → HasWindows p → IsRefusedWindow p window → ⊥
none_refused p window h (inl r) = fits_or_not 8 p.window p.mode h.0 r.1
none_refused p window h (inr r) = fits_or_not 128 p.wide_window p.wide_mode h.1 r.2

same_made :
    {T : Type 0} (a b : ℕ) → ◌≡◌ {A = Result T NewFault} (Err (RefusedWindow a)) (Err (RefusedWindow b)) → a ≡ b
same_made a b e = cc

same_checked :
    {T : Type 0} (a b : ℕ)
    → ◌≡◌ {A = Result T BadWindow} (Err (record { window = a })) (Err (record { window = b })) → a ≡ b
same_checked a b e = subst (λ r. IfErr r (λ (w : BadWindow). a ≡ w.window)) e refl

-- a window that is refused is carried, and no other
pub refused_is :
    {T E : Type 0} (made : Result T NewFault) (checked : Result E BadWindow) (p : Params) (found window : ℕ)
    → made ≡ Err (RefusedWindow found) → checked ≡ Err (record { window = found })
    → ((w : ℕ) → (checked ≡ Err (record { window = w })) ↔ IsRefusedWindow p w)
    → (made ≡ Err (RefusedWindow window)) ↔ IsRefusedWindow p window
refused_is made checked p found window is was says = (
  (λ e. subst (IsRefusedWindow p) (same_made found window (sym is ∙ e)) ((says found).0 was)),
  (λ r. is ∙ ap (λ w. Err (RefusedWindow w)) (same_checked found window (sym was ∙ (says window).1 r))),
)
