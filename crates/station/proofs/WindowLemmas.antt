-- Windows that fit are not refused.
use Rattle.station.proofs.Common.{ℕ, arith, inl, inr, Params}
use Rattle.selective_reject.specs.declared.window.Mode.{Mode}
use Rattle.selective_reject.specs.Window.{IsWindow, IsBadWindow}
use Rattle.link_machine.specs.Params.{HasWindows, IsRefusedWindow}

fits_or_not : (modulus window : ℕ) (mode : Mode) → IsWindow modulus window mode → ¬ IsBadWindow modulus window mode
fits_or_not modulus window mode fits (inl none) = let least = fits.0 in omega arith
fits_or_not modulus window mode fits (inr over) = let most = fits.1 in omega arith

pub none_refused : (params : Params) (window : ℕ) → HasWindows params → ¬ IsRefusedWindow params window
none_refused params window fits (inl small) = fits_or_not 8 params.window params.mode fits.0 small.1
none_refused params window fits (inr wide) = fits_or_not 128 params.wide_window params.wide_mode fits.1 wide.2
