-- Sound on the air.
use Rattle.std.specs.Prelude.{ℤ, pos, not, Bool, List}
use Rattle.std.specs.List.{list_any}
use Rattle.std.specs.Ordering.{int_eq}

-- whether samples have sound: one of them is not 0
abbrev pub has_sound : List ℤ → Bool
has_sound samples = list_any (λ sample. not (int_eq sample (pos 0))) samples
