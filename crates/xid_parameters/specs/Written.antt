-- What a station tells is read as it was told.
use Rattle.std.specs.Prelude.{◌≡◌, ◌≤◌}
use Rattle.xid_parameters.specs.declared.parameters.LinkParameters.{LinkParameters}
use Rattle.xid_parameters.specs.Told.{told_by, parameters_of, all_told}

-- parameters that can be told: N1 is told in bits, of which two octets have room for 65,535
pub record CanBeTold (own : LinkParameters) : Type 0 where
  pub info_octets : own.info_octets ≤ 8191
  pub some_window : 1 ≤ own.window
  pub window : own.window ≤ 127

abbrev pub WrittenIsRead : Type 0
WrittenIsRead = (own : LinkParameters) → CanBeTold own → told_by (parameters_of own) ≡ all_told own
