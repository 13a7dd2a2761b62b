-- The text of a call is read as that call.
use Rattle.ax25_address.proofs.Common.{◌≡◌, ℕ, ◌+◌, ◌<◌, ◌++◌, List, [], length, get_or, take, drop, map, refl, sym, ap}
use Rattle.ax25_address.proofs.Common.{subst, arith, inl, inr, ◌∙◌, eqb, false, Bool, to_ascii_uppercase, ext_get_or}
use Rattle.ax25_address.proofs.Common.{length-map, length-append, get_or-map, get_or_append_left, get_or-append_right}
use Rattle.ax25_address.proofs.Common.{take_at, drop_at, position_or_len_is, nat_tests, Callsign, IsCall}
use Rattle.ax25_address.proofs.Common.{IsCallCharacter, IsCallText, TellsSsid, ssid_suffix, text_of_call}
use Rattle.std.proofs.Common.{append-nil, cond}
use Rattle.std.specs.List.{All}
use Rattle.std.proofs.lemmas.Bool.Decides.{eqb_tells}
use Rattle.ax25_address.specs.CallText.{dash_place}

upper_character : (c : ℕ) → IsCallCharacter c → to_ascii_uppercase c ≡ c
upper_character c h = elim h [ inl capital ↦ grind (arith, nat_tests) | inr digit ↦ grind (arith, nat_tests) ]

-- a name is in capitals
upper_name : (name : List ℕ) → All IsCallCharacter name → map to_ascii_uppercase name ≡ name
upper_name name h =
    ext_get_or 0 (map to_ascii_uppercase name) name (length-map name to_ascii_uppercase)
    (λ k below. let inside : k < length name = omega (arith, length-map name to_ascii_uppercase) in
    get_or-map to_ascii_uppercase name k 0 0 inside ∙ upper_character (get_or name k 0) (h k 0 inside))

-- a name has no dash
no_dash : (c : ℕ) → IsCallCharacter c → eqb c 45 ≡ false
no_dash c h = elim h [ inl capital ↦ grind (arith, nat_tests) | inr digit ↦ grind (arith, nat_tests) ]

dash_place-name : (name tail : List ℕ) → All IsCallCharacter name → (0 < length tail → get_or tail 0 0 ≡ 45)
    → dash_place (name ++ tail) ≡ length name
dash_place-name name tail h dash =
    let whole : length (name ++ tail) ≡ length name + length tail = length-append name tail in
    position_or_len_is (λ x. eqb x 45) (name ++ tail) (length name) 0 (omega arith)
    (λ k below. ap (λ x. eqb x 45) (get_or_append_left name tail 0 k below) ∙ no_dash (get_or name k 0) (h k 0 below))
    (λ inside. let here : get_or (name ++ tail) (length name) 0 ≡ 45 =
    get_or-append_right name tail (length name) (length name) 0 refl (omega arith)
    ∙ ap (λ n. get_or tail n 0) (omega arith) ∙ dash (omega arith) in
    ap (λ x. eqb x 45) here)

-- a name and what tells its SSID are a call's text
IsCallText-parts : (call : Callsign) (tail : List ℕ) → IsCall call → (0 < length tail → get_or tail 0 0 ≡ 45)
    → TellsSsid tail call.ssid → IsCallText (call.name ++ tail) call
IsCallText-parts call tail valid dash tells =
    let place : dash_place (call.name ++ tail) ≡ length call.name =
    dash_place-name call.name tail valid.name.characters dash in
    record {
      valid = valid;
      name = ap (λ n. map to_ascii_uppercase (take n (call.name ++ tail))) place
          ∙ ap (λ xs. map to_ascii_uppercase xs) (take_at call.name tail (length call.name) refl)
          ∙ upper_name call.name valid.name.characters;
      ssid = subst (λ (xs : List ℕ). TellsSsid xs call.ssid)
          (sym (ap (λ n. drop n (call.name ++ tail)) place ∙ drop_at call.name tail (length call.name) refl)) tells;
    }

-- the text of a call is read as that call
pub IsCallText-text : (call : Callsign) → IsCall call → IsCallText (text_of_call call) call
IsCallText-text call valid =
    let choice : Bool → List ℕ = λ b. cond b call.name (call.name ++ ssid_suffix call.ssid) in
    elim (eqb_tells call.ssid 0) [
      | inl none ↦ subst (λ (xs : List ℕ). IsCallText xs call) (append-nil call.name ∙ ap choice (sym none.0))
          (IsCallText-parts call [] valid (λ some. absurd (omega arith)) (inl (refl, none.1)))
      | inr some ↦ subst (λ (xs : List ℕ). IsCallText xs call) (ap choice (sym some.0))
          (IsCallText-parts call (ssid_suffix call.ssid) valid (λ _. refl) (inr refl))
    ]
