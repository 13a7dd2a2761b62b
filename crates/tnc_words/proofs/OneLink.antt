-- Options name one mode, say one set of parameters and spell one call.
use Rattle.tnc_words.proofs.Common.{◌≡◌, ℕ, ◌<◌, Option, Some, None, List, [], ◌∷◌, length, codes, refl, sym, ap, ◌∙◌}
use Rattle.tnc_words.proofs.Common.{inl, inr, arith, eqb-false, Row, Text, Callsign, IsCallText}
use Rattle.std.specs.Fmt.{decimal}
use Rattle.std.proofs.lemmas.Fmt.{decimal_injective}
use Rattle.ax25_address.specs.CallText.{TellsSsid}
use Rattle.selective_reject.specs.declared.window.Mode.{Mode}
use Rattle.selective_reject.specs.declared.window.Mode.TheVariants.{Rej, Srej}
use Rattle.link_machine.specs.declared.params.Params.{Params}
use Rattle.tnc_words.specs.Links.{HasCall, HasMode, SaysParams}
use Rattle.tnc_words.proofs.OneNumber.{one_number}

other_name : codes "rej" ≡ codes "srej" → ⊥
other_name is = eqb-false 3 4 refl (ap length is)

one_mode :
    (usual : Mode) (text : Option Text) (mode other : Mode) → HasMode usual text mode → HasMode usual text other
    → mode ≡ other
one_mode usual None mode other h k = h ∙ sym k
one_mode usual (Some text) Rej Rej h k = refl
one_mode usual (Some text) Rej Srej h k = absurd (other_name (sym h ∙ k))
one_mode usual (Some text) Srej Rej h k = absurd (other_name (sym k ∙ h))
one_mode usual (Some text) Srej Srej h k = refl

pub one_params : (found : List Row) (params other : Params) → SaysParams found params → SaysParams found other
    → params ≡ other
one_params found params other h k =
    ap (λ v. record params { mode = v }) (one_mode Rej _ params.mode other.mode h.mode k.mode)
    ∙ ap (λ v. record params { mode = other.mode; window = v }) (one_number _ _ _ _ _ _ h.window k.window)
    ∙ ap (λ v. record params { mode = other.mode; window = other.window; wide = v }) (h.wide ∙ sym k.wide)
    ∙ ap (λ v. record other { wide_mode = v; wide_window = params.wide_window; t1 = params.t1; retries = params.retries })
    (one_mode Srej _ params.wide_mode other.wide_mode h.wide_mode k.wide_mode)
    ∙ ap (λ v. record other { wide_window = v; t1 = params.t1; retries = params.retries })
    (one_number _ _ _ _ _ _ h.wide_window k.wide_window)
    ∙ ap (λ v. record other { t1 = v; retries = params.retries }) (one_number _ _ _ _ _ _ h.t1 k.t1)
    ∙ ap (λ v. record other { retries = v }) (one_number _ _ _ _ _ _ h.retries k.retries)

-- what tells an SSID tells one
one_ssid : (tail : List ℕ) (ssid other : ℕ) → ssid < 16 → other < 16 → TellsSsid tail ssid → TellsSsid tail other
    → ssid ≡ other
one_ssid tail ssid other small less (inl (none, is)) (inl (gone, same)) = is ∙ sym same
one_ssid tail ssid other small less (inl (none, is)) (inr same) =
    absurd (let both : [] ≡ 45 ∷ decimal other = sym none ∙ same in cc both)
one_ssid tail ssid other small less (inr is) (inl (gone, same)) =
    absurd (let both : [] ≡ 45 ∷ decimal ssid = sym gone ∙ is in cc both)
one_ssid tail ssid other small less (inr is) (inr same) =
    let both : 45 ∷ decimal ssid ≡ 45 ∷ decimal other = sym is ∙ same in
    decimal_injective ssid other (omega arith) (omega arith) (cc both)

-- a text spells one call
pub one_spelled : (text : Text) (call other : Callsign) → IsCallText text call → IsCallText text other → call ≡ other
one_spelled text call other h k =
    ap (λ v. record call { name = v }) (sym h.name ∙ k.name)
    ∙ ap (λ v. record other { ssid = v }) (one_ssid _ call.ssid other.ssid h.valid.ssid k.valid.ssid h.ssid k.ssid)

pub one_call : (text : Option Text) (call other : Option Callsign) → HasCall text call → HasCall text other
    → call ≡ other
one_call None call other h k = h ∙ sym k
one_call (Some text) call other h k = h.2 ∙ ap Some (one_spelled text h.0 k.0 h.1 k.1) ∙ sym k.2
