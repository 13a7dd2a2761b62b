-- Information spells parameters exactly if these are read in it.
use Rattle.std.proofs.Common.{◌≡◌, ℕ, zero, suc, ◌+◌, ◌/◌, ◌%◌, ◌≤◌, ◌==◌, ◌&&◌, nat_le, Bool, true, false}
use Rattle.std.proofs.Common.{if◌then◌else◌, List, [], ◌∷◌, ◌++◌, length, take, drop, Option, Some, None, refl, sym, ap}
use Rattle.std.proofs.Common.{◌∙◌, arith}
use Rattle.std.proofs.lemmas.Bool.{le-leb, leb-true, and_parts, eqb-true, eq-eqb}
use Rattle.std.proofs.lemmas.List.{length-append, length-take-le, take-append-drop}
use Rattle.std.proofs.Math.Seq.{take-append_seam, drop-append_seam}
use Rattle.xid_parameters.specs.declared.parameters.ToldParameters.{ToldParameters}
use Rattle.xid_parameters.specs.XidField.{Parameter, parameter_octets, group_octets, with_head, IsXidField}
use Rattle.xid_parameters.specs.Told.{told_by}
use Rattle.xid_parameters.specs.Reading.{and_others, parameters_in, parameters_read, told_by_some, told_in_xid}

-- ---- what is spelled is read

one_more : (p : Parameter) (most : ℕ) (rest : List ℕ) (ps : List Parameter) → parameters_in most rest ≡ Some ps
    → parameters_in (suc most) (p.identifier ∷ length p.value ∷ (p.value ++ rest)) ≡ Some (p ∷ ps)
one_more p most rest ps is =
    let fits : nat_le (length p.value) (length (p.value ++ rest)) ≡ true =
    le-leb (length p.value) (length (p.value ++ rest)) (omega (arith, length-append p.value rest)) in
    ap (λ (b : Bool). if b
    then and_others (record { identifier = p.identifier; value = take (length p.value) (p.value ++ rest) })
    (parameters_in most (drop (length p.value) (p.value ++ rest))) else None) fits
    ∙ ap (λ (value : List ℕ). and_others (record { identifier = p.identifier; value = value })
    (parameters_in most (drop (length p.value) (p.value ++ rest)))) (take-append_seam p.value rest)
    ∙ ap (λ (octets : List ℕ). and_others p (parameters_in most octets)) (drop-append_seam p.value rest)
    ∙ ap (and_others p) is

group_read : (ps : List Parameter) (most : ℕ) → length ps ≤ most → parameters_in most (group_octets ps) ≡ Some ps
group_read [] most few = refl
group_read (p ∷ ps) zero few = absurd (omega (arith, few))
group_read (p ∷ ps) (suc most) few =
    one_more p most (group_octets ps) ps (group_read ps most (omega (arith, few)))

-- a parameter has two octets at least
few_parameters : (ps : List Parameter) → length ps ≤ length (group_octets ps)
few_parameters [] = omega arith
few_parameters (p ∷ ps) =
    omega (arith, few_parameters ps, length-append (parameter_octets p) (group_octets ps))

same_is : (n : ℕ) → (n == n) ≡ true
same_is n = eq-eqb n n refl

head_read : (octets : List ℕ) → parameters_read (with_head octets) ≡ parameters_in (length octets) octets
head_read octets =
    ap (λ (b : Bool). if b && length octets % 256 == length octets % 256
    then parameters_in (length octets) octets else None) (same_is (length octets / 256))
    ∙ ap (λ (b : Bool). if b then parameters_in (length octets) octets else None) (same_is (length octets % 256))

pub spelled_is_read : (ps : List Parameter) (octets : List ℕ) → IsXidField ps octets → parameters_read octets ≡ Some ps
spelled_is_read ps octets is =
    ap parameters_read is ∙ head_read (group_octets ps)
    ∙ group_read ps (length (group_octets ps)) (few_parameters ps)

-- ---- what is read is spelled

abbrev held : {X : Type 0} → X → Option X → X
held other None = other
held other (Some x) = x

same_held : {X : Type 0} {x y : X} → Some x ≡ Some y → x ≡ y
same_held {x = x} e = ap (held x) e

some_others : (p : Parameter) (others : Option (List Parameter)) (ps : List Parameter) → and_others p others ≡ Some ps
    → (rest : List Parameter) × (others ≡ Some rest) × (ps ≡ p ∷ rest)
some_others p None ps is = absurd (cc)
some_others p (Some rest) ps is = (rest, refl, sym (same_held is))

-- a value that is whole, with what follows it
whole_value : (identifier len : ℕ) (octets : List ℕ) (rest : List Parameter) → len ≤ length octets
    → drop len octets ≡ group_octets rest
    → identifier ∷ len ∷ octets ≡ group_octets (record { identifier = identifier; value = take len octets } ∷ rest)
whole_value identifier len octets rest fits is =
    ap (λ (xs : List ℕ). identifier ∷ len ∷ xs) (sym (take-append-drop len octets))
    ∙ ap (λ (n : ℕ). identifier ∷ n ∷ (take len octets ++ drop len octets)) (sym (length-take-le len octets fits))
    ∙ ap (λ (xs : List ℕ). identifier ∷ length (take len octets) ∷ (take len octets ++ xs)) is

group_spelled : (most : ℕ) (octets : List ℕ) (ps : List Parameter) → parameters_in most octets ≡ Some ps
    → octets ≡ group_octets ps
group_spelled most [] ps is = ap group_octets (same_held is)
group_spelled zero (identifier ∷ octets) ps is = absurd (cc)
group_spelled (suc most) (identifier ∷ []) ps is = absurd (cc)
group_spelled (suc most) (identifier ∷ len ∷ octets) ps is =
    go (nat_le len (length octets)) refl is (λ rest more. group_spelled most (drop len octets) rest more)
  where
    p : Parameter
    p = record { identifier = identifier; value = take len octets }

    go : (b : Bool) → nat_le len (length octets) ≡ b
        → (if b then and_others p (parameters_in most (drop len octets)) else None) ≡ Some ps
        → ((rest : List Parameter) → parameters_in most (drop len octets) ≡ Some rest
        → drop len octets ≡ group_octets rest)
        → identifier ∷ len ∷ octets ≡ group_octets ps
    go true fits e spelled =
        let others = some_others p (parameters_in most (drop len octets)) ps e in
        whole_value identifier len octets others.0 (leb-true len (length octets) fits)
        (spelled others.0 others.1)
        ∙ ap group_octets (sym others.2)
    go false cut e spelled = absurd (cc)

pub read_is_spelled : (octets : List ℕ) (ps : List Parameter) → parameters_read octets ≡ Some ps → IsXidField ps octets
read_is_spelled [] ps is = absurd (cc)
read_is_spelled (format ∷ []) ps is = absurd (cc)
read_is_spelled (format ∷ group ∷ []) ps is = absurd (cc)
read_is_spelled (format ∷ group ∷ high ∷ []) ps is = absurd (cc)
read_is_spelled (format ∷ group ∷ high ∷ low ∷ octets) ps is =
    go (format == 130 && group == 128 && high == length octets / 256 && low == length octets % 256) refl is
  where
    headed : format == 130 && group == 128 && high == length octets / 256 && low == length octets % 256 ≡ true
        → format ∷ group ∷ high ∷ low ∷ octets ≡ with_head octets
    headed h =
        let last = and_parts (format == 130 && group == 128 && high == length octets / 256)
        (low == length octets % 256) h in
        let third = and_parts (format == 130 && group == 128) (high == length octets / 256) last.0 in
        let two = and_parts (format == 130) (group == 128) third.0 in
        ap (λ (n : ℕ). n ∷ group ∷ high ∷ low ∷ octets) (eqb-true format 130 two.0)
        ∙ ap (λ (n : ℕ). 130 ∷ n ∷ high ∷ low ∷ octets) (eqb-true group 128 two.1)
        ∙ ap (λ (n : ℕ). 130 ∷ 128 ∷ n ∷ low ∷ octets) (eqb-true high (length octets / 256) third.1)
        ∙ ap (λ (n : ℕ). 130 ∷ 128 ∷ length octets / 256 ∷ n ∷ octets) (eqb-true low (length octets % 256) last.1)

    go : (b : Bool)
        → (format == 130 && group == 128 && high == length octets / 256 && low == length octets % 256) ≡ b
        → (if b then parameters_in (length octets) octets else None) ≡ Some ps
        → IsXidField ps (format ∷ group ∷ high ∷ low ∷ octets)
    go true h e = headed h ∙ ap with_head (group_spelled (length octets) octets ps e)
    go false h e = absurd (cc)

-- ---- what is told

pub told_of_spelled : (ps : List Parameter) (octets : List ℕ) → IsXidField ps octets → told_by ps ≡ told_in_xid octets
told_of_spelled ps octets is = ap told_by_some (sym (spelled_is_read ps octets is))

pub nothing_told : (octets : List ℕ) → ((ps : List Parameter) → IsXidField ps octets → ⊥)
    → told_by [] ≡ told_in_xid octets
nothing_told octets none = go (parameters_read octets) refl
  where
    go : (o : Option (List Parameter)) → parameters_read octets ≡ o → told_by [] ≡ told_by_some o
    go None is = refl
    go (Some ps) is = absurd (none ps (read_is_spelled octets ps is))
