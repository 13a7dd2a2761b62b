-- The information of an XID frame, read parameter by parameter (AX.25 2.2 section 4.3.3.7): what it tells. If it spells no
-- parameters, it tells nothing.
use Rattle.std.specs.Prelude.{ℕ, zero, suc, ◌/◌, ◌%◌, ◌==◌, nat_le, ◌&&◌, if◌then◌else◌, List, [], ◌∷◌, length, take}
use Rattle.std.specs.Prelude.{drop, Option, Some, None}
use Rattle.xid_parameters.specs.declared.parameters.ToldParameters.{ToldParameters}
use Rattle.xid_parameters.specs.XidField.{Parameter}
use Rattle.xid_parameters.specs.Told.{told_by}

-- a parameter, and those that follow it
abbrev pub and_others : Parameter → Option (List Parameter) → Option (List Parameter)
and_others p None = None
and_others p (Some ps) = Some (p ∷ ps)

-- the parameters that octets spell one after another, which are at most so many; none if the octets end within one
abbrev pub parameters_in : ℕ → List ℕ → Option (List Parameter)
parameters_in most [] = Some []
parameters_in zero (identifier ∷ octets) = None
parameters_in (suc most) (identifier ∷ []) = None
parameters_in (suc most) (identifier ∷ len ∷ octets) =
    if nat_le len (length octets)
    then and_others (record { identifier = identifier; value = take len octets }) (parameters_in most (drop len octets))
    else None

-- those of the whole information: each of them has two octets at least
abbrev pub parameters_read : List ℕ → Option (List Parameter)
parameters_read [] = None
parameters_read (format ∷ []) = None
parameters_read (format ∷ group ∷ []) = None
parameters_read (format ∷ group ∷ high ∷ []) = None
parameters_read (format ∷ group ∷ high ∷ low ∷ octets) =
    if format == 130 && group == 128 && high == length octets / 256 && low == length octets % 256
    then parameters_in (length octets) octets else None

abbrev pub told_by_some : Option (List Parameter) → ToldParameters
told_by_some None = told_by []
told_by_some (Some ps) = told_by ps

abbrev pub told_in_xid : List ℕ → ToldParameters
told_in_xid octets = told_by_some (parameters_read octets)
