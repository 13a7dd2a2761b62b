-- The answers of rigctld, each a line (rigctld(1): `RPRT x`, where x is 0 or a negative number of hamlib's errors).
use Rattle.std.specs.Prelude.{ℕ, ◌+◌, ◌-◌, ◌*◌, ◌==◌, ◌||◌, not, min, if◌then◌else◌, List}
use Rattle.std.specs.Prelude.{length, take, drop, Option, Some, None, codes}
use Rattle.std.specs.Char.{is_ascii_digit}
use Rattle.std.specs.List.{fold, list_all}
use Rattle.std.specs.Str.{bytes_eq}
use Rattle.keying.specs.declared.answer.Answer.{Answer}
use Rattle.keying.specs.declared.answer.Answer.TheVariants.{Accepts, Refuses, Unclear}

-- the number that digits name
abbrev pub number_of : List ℕ → ℕ
number_of digits = fold (λ number digit. 10 * number + (digit - 48)) 0 digits

-- the number of a refusal, if there are digits and nothing else; above the largest of 32 bits it is told as that
abbrev pub refused_number : List ℕ → Option ℕ
refused_number digits = if (length digits == 0) || not (list_all is_ascii_digit digits) then None
    else Some (min (number_of digits) 4294967295)

abbrev pub refusal : Option ℕ → Answer
refusal None = Unclear
refusal (Some number) = Refuses number

-- what a line says, without its line feed: exactly `RPRT 0` accepts, and `RPRT -` with digits refuses
unfoldable pub answer_of : List ℕ → Answer
answer_of line = if bytes_eq line (codes "RPRT 0") then Accepts
    else if bytes_eq (take 6 line) (codes "RPRT -") then refusal (refused_number (drop 6 line)) else Unclear
