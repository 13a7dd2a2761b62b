-- An option has one number.
use Rattle.tnc_words.proofs.Common.{◌≡◌, ℕ, Option, Some, None, ap, sym, ◌∙◌, Text, HasNumber}
use Rattle.tnc_words.specs.Numbers.{GivesNumber, NamesNumber}

-- an option that was given has one number
pub given_number : (text : Option Text) (least greatest number other : ℕ) → GivesNumber text least greatest number
    → GivesNumber text least greatest other → number ≡ other
given_number None least greatest number other h k = absurd h
given_number (Some text) least greatest number other h k = sym h.0.value ∙ k.0.value

-- an option has one number
pub one_number : (text : Option Text) (default least greatest number other : ℕ)
    → HasNumber text default least greatest number → HasNumber text default least greatest other → number ≡ other
one_number None default least greatest number other h k = h ∙ sym k
one_number (Some text) default least greatest number other h k = sym h.0.value ∙ k.0.value

-- an option names one number, or none
pub named_number : (text : Option Text) (least greatest : ℕ) (number other : Option ℕ)
    → NamesNumber text least greatest number → NamesNumber text least greatest other → number ≡ other
named_number None least greatest number other h k = h ∙ sym k
named_number (Some text) least greatest None other h k = absurd h
named_number (Some text) least greatest (Some number) None h k = absurd k
named_number (Some text) least greatest (Some number) (Some other) h k =
    ap Some (given_number (Some text) least greatest number other h k)
