-- What became of a piece of an input, and of its end. No public clause cites it.
use Rattle.std.specs.Prelude.{◌≡◌, ℕ, List, ◌++◌, Option, Some, None, Result, Ok, Err}
use Rattle.tnc_base.specs.Streams.{WrotePart}
use Rattle.tnc_forms.specs.declared.fault.Fault.{Fault}
use Rattle.tnc_forms.specs.declared.fault.Fault.TheVariants.{Input, Memory, Read, Write}
use Rattle.tnc_engine.specs.Making.{Making, Adds, Closes}
use Rattle.tnc_engine.specs.Ended.{Wrote}

-- a text was to be written, and a first part of it was
pub record WroteSome (Text : List ℕ → Type 0) (was now : Option (List ℕ)) : Type 0 where
  pub text : List ℕ
  pub is : Text text
  pub written : (before : List ℕ) → was ≡ Some before → WrotePart before text now

-- ---- a piece

-- what a first part of a piece settles was written
pub record WroteFront (making : Making) (octets more : List ℕ) (was now : Option (List ℕ)) : Type 0 where
  pub front : List ℕ
  pub rest : List ℕ
  pub parts : more ≡ front ++ rest
  pub good : making.fault_so_far (octets ++ front) ≡ None
  pub wrote : Wrote (Adds making octets front) was now

-- each first part of a text begins, after what was written, what octets make with a piece and with whatever follows
abbrev pub BeginsAfter : Making → List ℕ → List ℕ → List ℕ → List ℕ → Type 0
BeginsAfter making octets more wrote next = (text part rest after : List ℕ) → making.Settles octets text
    → next ≡ part ++ rest → making.Begins ((octets ++ more) ++ after) (text ++ (wrote ++ part))

-- the same as `WroteFront`, and then the output failed at the text of what follows
pub record WroteCut (making : Making) (octets more : List ℕ) (was now : Option (List ℕ)) : Type 0 where
  pub mid : Option (List ℕ)
  pub front : WroteFront making octets more was mid
  pub next : WroteSome (BeginsAfter making octets more front.wrote.text) mid now

-- how a piece was taken
abbrev pub IsTaken : Making → List ℕ → List ℕ → Option (List ℕ) → Option (List ℕ) → Result (Unit {0}) Fault → Type 0
IsTaken making octets more was now (Ok x) = Wrote (Adds making octets more) was now
IsTaken making octets more was now (Err (Input fault)) =
    (making.fault_so_far (octets ++ more) ≡ Some fault) × Wrote (Adds making octets more) was now
IsTaken making octets more was now (Err Memory) = WroteFront making octets more was now
IsTaken making octets more was now (Err Read) = ⊥
IsTaken making octets more was now (Err Write) = WroteCut making octets more was now

-- how the end of the input was taken
abbrev pub IsFinished : Making → List ℕ → Option (List ℕ) → Option (List ℕ) → Result (Unit {0}) Fault → Type 0
IsFinished making octets was now (Ok x) = (making.fault_of octets ≡ None) × Wrote (Closes making octets) was now
IsFinished making octets was now (Err (Input fault)) =
    (making.fault_of octets ≡ Some fault) × Wrote (Closes making octets) was now
IsFinished making octets was now (Err Memory) = now ≡ was
IsFinished making octets was now (Err Read) = ⊥
IsFinished making octets was now (Err Write) = WroteSome (Closes making octets) was now
