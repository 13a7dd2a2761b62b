-- What `==` tells of two calls: whether they are one call, with one name and one SSID.
use Rattle.std.specs.Prelude.{◌≡◌, ℕ, ◌-◌, Bool, true, false, ◌&&◌, nat_eq, List, length, replicate, take, refl}
use Rattle.std.specs.Prelude.{Decides}
use Rattle.std.specs.Str.{bytes_eq}
use Rattle.std.proofs.Common.{ap, ◌∙◌, sym, subst}
use Rattle.std.proofs.lemmas.List.{take_at}
use Rattle.std.proofs.lemmas.Bool.{false≢true, eqb-true, eq-eqb}
use Rattle.std.proofs.lemmas.Slice.Eq.{bytes_eq-Decides}
use Rattle.ax25_address.specs.Callsign.{Callsign, padded}

-- the test that `==` makes
abbrev pub is_same_call : Callsign → Callsign → Bool
is_same_call a b =
    bytes_eq (padded a.name) (padded b.name) && (nat_eq (length a.name) (length b.name) && nat_eq a.ssid b.ssid)

-- calls of one name and one SSID are one call
pub call_same : (a b : Callsign) → a.name ≡ b.name → a.ssid ≡ b.ssid → a ≡ b
call_same a b name ssid =
    let call : List ℕ → ℕ → Callsign = λ n s. record { name = n; ssid = s } in
    ap (λ n. call n a.ssid) name ∙ ap (λ s. call b.name s) ssid

both_true : (x y : Bool) → (x && y) ≡ true → (x ≡ true) × (y ≡ true)
both_true true y h = (refl, h)
both_true false y h = absurd (false≢true h)

same_name : (a b : List ℕ) → padded a ≡ padded b → length a ≡ length b → a ≡ b
same_name a b e n =
    sym (take_at a (replicate (6 - length a) 32) (length a) refl) ∙ ap (λ xs. take (length a) xs) e
    ∙ ap (λ k. take k (padded b)) n
    ∙ take_at b (replicate (6 - length b) 32) (length b) refl

-- the test is true exactly when both are one call
pub is_same_call-Decides : (a b : Callsign) → Decides (is_same_call a b) (a ≡ b)
is_same_call-Decides a b = (
  λ h.
      let first = both_true (bytes_eq (padded a.name) (padded b.name))
      (nat_eq (length a.name) (length b.name) && nat_eq a.ssid b.ssid) h in
      let rest = both_true (nat_eq (length a.name) (length b.name)) (nat_eq a.ssid b.ssid) first.1 in
      call_same a b (same_name a.name b.name ((bytes_eq-Decides (padded a.name) (padded b.name)).0 first.0)
      (eqb-true (length a.name) (length b.name) rest.0)) (eqb-true a.ssid b.ssid rest.1),
  λ e. subst (λ (c : Callsign). is_same_call a c ≡ true) e (itself a),
)
  where
    itself : (c : Callsign) → is_same_call c c ≡ true
    itself c =
        ap (λ x. x && (nat_eq (length c.name) (length c.name) && nat_eq c.ssid c.ssid))
        ((bytes_eq-Decides (padded c.name) (padded c.name)).1 refl)
        ∙ ap (λ x. x && nat_eq c.ssid c.ssid) (eq-eqb (length c.name) (length c.name) refl) ∙ eq-eqb c.ssid c.ssid refl
