use Rattle.keying.proofs.Common.{◌≡◌, true, take}
use Rattle.std.proofs.Common.{min}
use Rattle.std.specs.Char.{is_ascii_digit}
use Rattle.std.specs.List.{list_all}
use Rattle.keying.specs.Answers.{number_of}
use Rattle.keying.proofs.answer.refused_number.Given as goal

abbrev pub invariant-loop-digit : goal.invariant-loop-digit
invariant-loop-digit l = record {
  number : l.number ≡ min (number_of (take l.digit-index l.digits)) 4294967295;
  digits : list_all is_ascii_digit (take l.digit-index l.digits) ≡ true;
}
