-- What options say of the stations of a call: who calls, who is called, and which repeaters stand between them.
use Rattle.std.specs.Prelude.{◌≡◌, ◌≤◌, ◌==◌, ⊤, List, [], ◌∷◌, length, Option, Some, None}
use Rattle.std.specs.List.{slice_split}
use Rattle.clap.specs.Words.{Text}
use Rattle.ax25_address.specs.Callsign.{Callsign}
use Rattle.ax25_address.specs.CallText.{IsCallText}

-- the call that an option spells, which was given
abbrev pub GivesCall : Option Text → Callsign → Type 0
GivesCall None call = ⊥
GivesCall (Some text) call = IsCallText text call

-- the texts spell the calls, one each
abbrev pub SpellCalls : List Text → List Callsign → Type 0
SpellCalls [] [] = ⊤
SpellCalls [] (call ∷ calls) = ⊥
SpellCalls (text ∷ texts) [] = ⊥
SpellCalls (text ∷ texts) (call ∷ calls) = IsCallText text call × SpellCalls texts calls

-- what stands between the commas of a text: one part more than it has commas
abbrev pub parts_at_commas : Text → List Text
parts_at_commas text = slice_split (λ character. character == 44) text

-- a text of one to eight calls, joined by commas
pub record IsCallList (text : Text) (calls : List Callsign) : Type 0 where
  pub spelled : SpellCalls (parts_at_commas text) calls
  pub few : length calls ≤ 8

-- the repeaters that an option names, in order, or none if it was not given
abbrev pub HasRepeaters : Option Text → List Callsign → Type 0
HasRepeaters None repeaters = repeaters ≡ []
HasRepeaters (Some text) repeaters = IsCallList text repeaters
