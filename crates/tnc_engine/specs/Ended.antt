-- How the making of a text ends, by the answer: what is left of the input, and what was written to the output.
use Rattle.std.specs.Prelude.{◌≡◌, ℕ, ◌+◌, ◌<◌, ◌≤◌, List, [], ◌++◌, length, take, drop, Option, Some, None, Result, Ok}
use Rattle.std.specs.Prelude.{Err}
use Rattle.tnc_forms.specs.declared.fault.Fault.{Fault}
use Rattle.tnc_forms.specs.declared.fault.Fault.TheVariants.{Input, Memory, Read, Write}
use Rattle.tnc_forms.specs.declared.fault.InputFault.{InputFault}
use Rattle.tnc_forms.specs.declared.fault.InputFault.TheVariants.{TooLong}
use Rattle.tnc_forms.specs.Reading.{input_limit}
use Rattle.tnc_forms.specs.Taken.{WereRead}
use Rattle.tnc_engine.specs.Making.{Making, fault_in}

-- such a text was written
pub record Wrote (Text : List ℕ → Type 0) (was now : Option (List ℕ)) : Type 0 where
  pub text : List ℕ
  pub is : Text text
  pub written : (before : List ℕ) → was ≡ Some before → now ≡ Some (before ++ text)

-- all went well: the input was read to its end, and what it makes was written
pub record EndedWell (making : Making) (octets : List ℕ) (left was now : Option (List ℕ)) : Type 0 where
  pub end : left ≡ Some []
  pub good : fault_in making octets ≡ None
  pub wrote : Wrote (making.Makes octets) was now

-- The input was refused, after what it makes was written. If it is too long, that is what its first 2^40 octets settle,
-- and if it is refused for this, one octet more was read.
pub record EndedAtFault (making : Making) (octets : List ℕ) (left was now : Option (List ℕ)) (fault : InputFault)
    : Type 0 where
  pub bad : fault_in making octets ≡ Some fault
  pub wrote : length octets ≤ input_limit → Wrote (making.Makes octets) was now
  pub wrote_of_many : input_limit < length octets → Wrote (making.Settles (take input_limit octets)) was now
  pub stops : fault ≡ TooLong → left ≡ Some (drop (input_limit + 1) octets)

-- the input failed: what the octets read settle was written
pub record EndedAtRead (making : Making) (octets : List ℕ) (left was now : Option (List ℕ)) : Type 0 where
  pub read : List ℕ
  pub taken : WereRead octets left read
  pub good : making.fault_so_far read ≡ None
  pub wrote : Wrote (making.Settles read) was now

-- memory ran out: what a first part of the octets read settles was written, which lacks at most so many of them
pub record EndedAtMemory (making : Making) (most : ℕ) (octets : List ℕ) (left was now : Option (List ℕ)) : Type 0 where
  pub read : List ℕ
  pub front : List ℕ
  pub rest : List ℕ
  pub taken : WereRead octets left read
  pub parts : read ≡ front ++ rest
  pub few : length rest ≤ most
  pub good : making.fault_so_far front ≡ None
  pub wrote : Wrote (making.Settles front) was now

-- the output failed: what was written begins with as much, and begins what the octets read make, and what all make
pub record EndedAtWrite (making : Making) (most : ℕ) (octets : List ℕ) (left was now : Option (List ℕ)) : Type 0 where
  pub read : List ℕ
  pub front : List ℕ
  pub rest : List ℕ
  pub taken : WereRead octets left read
  pub parts : read ≡ front ++ rest
  pub few : length rest ≤ most
  pub good : making.fault_so_far front ≡ None
  pub early : List ℕ
  pub settled : making.Settles front early
  pub written : (before : List ℕ) → was ≡ Some before → (more : List ℕ) × making.Begins read (early ++ more)
      × making.Begins octets (early ++ more) × (now ≡ Some (before ++ (early ++ more)))

-- If octets are read at most so many at once, the making ends so.
abbrev pub IsEnded : Making → ℕ → List ℕ → Option (List ℕ) → Option (List ℕ) → Option (List ℕ)
    → Result (Unit {0}) Fault → Type 0
IsEnded making most octets left was now (Ok x) = EndedWell making octets left was now
IsEnded making most octets left was now (Err (Input fault)) = EndedAtFault making octets left was now fault
IsEnded making most octets left was now (Err Memory) = EndedAtMemory making most octets left was now
IsEnded making most octets left was now (Err Read) = EndedAtRead making octets left was now
IsEnded making most octets left was now (Err Write) = EndedAtWrite making most octets left was now
