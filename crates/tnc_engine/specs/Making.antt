-- What a command makes of the octets of its input: a text, and what is wrong with them.
use Rattle.std.specs.Prelude.{◌≡◌, ℕ, ⊤, ◌<◌, ◌≤◌, List, [], ◌++◌, length, take, Option, Some, None}
use Rattle.tnc_forms.specs.declared.fault.InputFault.{InputFault}
use Rattle.tnc_forms.specs.declared.fault.InputFault.TheVariants.{TooLong}
use Rattle.tnc_forms.specs.LinesSoFar.{fault_as_read}
use Rattle.tnc_forms.specs.Reading.{input_limit}
use Rattle.tnc_engine.specs.declared.maker.Taken.{Taken}
use Rattle.tnc_engine.specs.declared.maker.Taken.TheVariants.{Front, Bad}

pub record Making : Type 1 where
  -- the text is what octets settle, whatever follows
  pub Settles : List ℕ → List ℕ → Type 0
  -- the text is what octets make that end the input
  pub Makes : List ℕ → List ℕ → Type 0
  -- the text is a first part of what octets make
  pub Begins : List ℕ → List ℕ → Type 0
  -- what is known to be wrong with octets, whatever follows
  pub fault_so_far : List ℕ → Option InputFault
  -- what is wrong with octets that end the input
  pub fault_of : List ℕ → Option InputFault

-- Why an input is refused: for what is known to be wrong with its first 2^40 octets if it has more, and then for its
-- length; or for what is wrong with the whole.
abbrev pub fault_in : Making → List ℕ → Option InputFault
fault_in making octets =
    fault_as_read (making.fault_so_far (take input_limit octets)) (making.fault_of octets) octets

-- what is settled stays so, and a fault that is known ends it
pub record IsMaking (making : Making) : Type 0 where
  pub none : making.Settles [] []
  pub good : making.fault_so_far [] ≡ None
  -- what good octets settle begins what they make with more
  pub first : (octets more text part rest : List ℕ) → making.fault_so_far octets ≡ None → making.Settles octets text
      → text ≡ part ++ rest → making.Begins (octets ++ more) part
  pub last : (octets text part rest : List ℕ) → making.Makes octets text → text ≡ part ++ rest
      → making.Begins octets part
  pub bad : (octets more : List ℕ) (fault : InputFault) → making.fault_so_far octets ≡ Some fault
      → (making.fault_so_far (octets ++ more) ≡ Some fault) × (making.fault_of (octets ++ more) ≡ Some fault)
  pub still : (octets more text : List ℕ) (fault : InputFault) → making.fault_so_far octets ≡ Some fault
      → making.Settles octets text
      → making.Settles (octets ++ more) text × making.Makes (octets ++ more) text
  pub not_long : (octets : List ℕ) (fault : InputFault) → making.fault_so_far octets ≡ Some fault → fault ≡ TooLong → ⊥
  pub not_long_whole : (octets : List ℕ) (fault : InputFault) → making.fault_of octets ≡ Some fault → fault ≡ TooLong
      → ⊥

-- ---- a maker's calls

-- the text is what octets settle beside those before
abbrev pub Adds : Making → List ℕ → List ℕ → List ℕ → Type 0
Adds making before octets more = (text : List ℕ) → making.Settles before text
    → making.Settles (before ++ octets) (text ++ more)

-- the text is what the end of the input adds
abbrev pub Closes : Making → List ℕ → List ℕ → Type 0
Closes making octets more = (text : List ℕ) → making.Settles octets text → making.Makes octets (text ++ more)

-- at least one of the octets was taken, and none that is not there
abbrev pub IsFront : List ℕ → Taken → Type 0
IsFront octets (Front count) = (0 < count) × (count ≤ length octets)
IsFront octets (Bad fault) = ⊤

-- The text is that of the octets that were taken, in which no fault shows; or of those before a fault.
abbrev pub Takes : Making → (List ℕ → Type 0) → List ℕ → List ℕ → List ℕ → Taken → Type 0
Takes making Holds before octets text (Front count) =
    Holds (before ++ take count octets) × (making.fault_so_far (before ++ take count octets) ≡ None)
    × Adds making before (take count octets) text
Takes making Holds before octets text (Bad fault) =
    (making.fault_so_far (before ++ octets) ≡ Some fault) × Adds making before octets text

-- the text is what the end of the input adds, and this is wrong with the input
pub record Finishes (making : Making) (octets text : List ℕ) (fault : Option InputFault) : Type 0 where
  pub known : making.fault_of octets ≡ fault
  pub closes : Closes making octets text
