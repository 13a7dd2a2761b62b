-- A station's call, after AX.25 2.2 section 3.12: one to six characters of A to Z and 0 to 9, and an SSID of 0 to 15.
use Rattle.std.specs.Prelude.{ℕ, ◌-◌, ◌<◌, ◌≤◌, ◌⊎◌, List, ◌++◌, length, replicate, All}

-- the characters of a call, without padding, and its SSID
pub record Callsign : Type 0 where
  pub name : List ℕ
  pub ssid : ℕ

-- a capital letter, A to Z
abbrev pub IsCapital : ℕ → Type 0
IsCapital c = (65 ≤ c) × (c ≤ 90)

-- a digit, 0 to 9
abbrev pub IsDigit : ℕ → Type 0
IsDigit c = (48 ≤ c) × (c ≤ 57)

-- a character that a call may have
abbrev pub IsCallCharacter : ℕ → Type 0
IsCallCharacter c = IsCapital c ⊎ IsDigit c

-- one to six capital letters and digits
pub record IsName (name : List ℕ) : Type 0 where
  pub shortest : 0 < length name
  pub longest : length name ≤ 6
  pub characters : All IsCallCharacter name

-- a call as the standard allows it
pub record IsCall (call : Callsign) : Type 0 where
  pub name : IsName call.name
  pub ssid : call.ssid < 16

-- a name on the air: filled up with spaces to six characters
abbrev pub padded : List ℕ → List ℕ
padded name = name ++ replicate (6 - length name) 32
