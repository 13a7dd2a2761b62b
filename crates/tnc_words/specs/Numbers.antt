-- The number of an option: one or more decimal digits, of a number within bounds.
use Rattle.std.specs.Prelude.{◌≡◌, ◌≤◌, ℕ, Option, Some, None}
use Rattle.std.specs.Str.Parse.{IsNumeral, digits_value}
use Rattle.clap.specs.Words.{Text}

-- a text of digits for this number
pub record IsNumber (text : Text) (number : ℕ) : Type 0 where
  pub digits : IsNumeral 10 text
  pub value : digits_value 10 text ≡ number

-- the number of an option that was given: that of its text, between the least and the greatest
abbrev pub GivesNumber : Option Text → ℕ → ℕ → ℕ → Type 0
GivesNumber None least greatest number = ⊥
GivesNumber (Some text) least greatest number = IsNumber text number × (least ≤ number) × (number ≤ greatest)

-- an option's number, or the default if it was not given
abbrev pub HasNumber : Option Text → ℕ → ℕ → ℕ → ℕ → Type 0
HasNumber None default least greatest number = number ≡ default
HasNumber (Some text) default least greatest number = GivesNumber (Some text) least greatest number

-- an option's number, or no number if it was not given
abbrev pub NamesNumber : Option Text → ℕ → ℕ → Option ℕ → Type 0
NamesNumber None least greatest number = number ≡ None
NamesNumber (Some text) least greatest None = ⊥
NamesNumber (Some text) least greatest (Some number) = GivesNumber (Some text) least greatest number
