-- Parameters are read in one way: what follows those that a group begins with is spelled by others.
use Rattle.std.proofs.Common.{◌≡◌, ℕ, List, [], ◌∷◌, ◌++◌, length, drop, sym, ap, ◌∙◌, arith}
use Rattle.std.proofs.Common.{append_assoc}
use Rattle.std.proofs.lemmas.List.{append-nil}
use Rattle.std.proofs.Math.Seq.{drop-append_seam}
use Rattle.xid_parameters.specs.XidField.{Parameter, parameter_octets, group_octets}

cons_nil : {x : ℕ} {xs : List ℕ} → x ∷ xs ≡ [] → ⊥
cons_nil is = omega (arith, ap length is)

-- the number at the front of a list
abbrev front : List ℕ → ℕ
front [] = 0
front (x ∷ xs) = x

same_after : (d p : Parameter) (done ps rest : List ℕ)
    → d.identifier ∷ length d.value ∷ ((d.value ++ done) ++ rest) ≡ p.identifier ∷ length p.value ∷ (p.value ++ ps)
    → done ++ rest ≡ ps
same_after d p done ps rest is =
    let long : length d.value ≡ length p.value = ap (λ (xs : List ℕ). front (drop 1 xs)) is in
    let same : (d.value ++ done) ++ rest ≡ p.value ++ ps = ap (drop 2) is in
    sym (drop-append_seam d.value (done ++ rest))
    ∙ ap (drop (length d.value)) (sym (append_assoc d.value done rest) ∙ same)
    ∙ ap (λ n. drop n (p.value ++ ps)) long ∙ drop-append_seam p.value ps

pub one_spelling :
    (done ps : List Parameter) (rest : List ℕ) → group_octets done ++ rest ≡ group_octets ps
    → (after : List Parameter) × (rest ≡ group_octets after)
one_spelling [] ps rest is = (ps, is)
one_spelling (d ∷ done) [] rest is = absurd (cons_nil is)
one_spelling (d ∷ done) (p ∷ ps) rest is =
    one_spelling done ps rest (same_after d p (group_octets done) (group_octets ps) rest is)

pub joins_group : (done : List Parameter) (p : Parameter)
    → group_octets (done ++ p ∷ []) ≡ group_octets done ++ parameter_octets p
joins_group [] p = append-nil (parameter_octets p)
joins_group (d ∷ done) p =
    ap (λ (octets : List ℕ). parameter_octets d ++ octets) (joins_group done p)
    ∙ sym (append_assoc (parameter_octets d) (group_octets done) (parameter_octets p))
