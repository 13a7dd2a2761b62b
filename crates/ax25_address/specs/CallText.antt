-- A call as text: `CALL`, or `CALL-n` with the SSID n in decimal.
use Rattle.std.specs.Prelude.{◌≡◌, ℕ, ◌<◌, ◌≤◌, ◌==◌, ◌⊎◌, if◌then◌else◌, List, [], ◌∷◌, ◌++◌, length, map, take, drop}
use Rattle.std.specs.Prelude.{slice_index, decimal}
use Rattle.std.specs.Char.{to_ascii_uppercase}
use Rattle.std.specs.List.{position_or_len}
use Rattle.ax25_address.specs.Callsign.{Callsign, IsCallCharacter, IsName, IsCall}
use Rattle.ax25_address.specs.declared.call.CallFault.{CallFault}
use Rattle.ax25_address.specs.declared.call.CallFault.TheVariants.{Empty, TooLong, BadChar, BadSsid}

-- a dash, and the SSID in decimal, which has no leading zeros
abbrev pub ssid_suffix : ℕ → List ℕ
ssid_suffix ssid = 45 ∷ decimal ssid

-- the one text of a call: an SSID of 0 is left out
abbrev pub text_of_call : Callsign → List ℕ
text_of_call call = if call.ssid == 0 then call.name else call.name ++ ssid_suffix call.ssid

-- where the first dash of a text stands, or the text's length
abbrev pub dash_place : List ℕ → ℕ
dash_place text = position_or_len (λ c. c == 45) text

-- what stands before the first dash of a text, in capitals
abbrev pub name_part : List ℕ → List ℕ
name_part text = map to_ascii_uppercase (take (dash_place text) text)

-- what stands from the first dash of a text on
abbrev pub ssid_part : List ℕ → List ℕ
ssid_part text = drop (dash_place text) text

-- nothing stands for the SSID 0, and a dash and a number for that number
abbrev pub TellsSsid : List ℕ → ℕ → Type 0
TellsSsid tail ssid = ((tail ≡ []) × (ssid ≡ 0)) ⊎ (tail ≡ ssid_suffix ssid)

-- the text is the call's name in letters of either size, and what tells its SSID
pub record IsCallText (text : List ℕ) (call : Callsign) : Type 0 where
  pub valid : IsCall call
  pub name : name_part text ≡ call.name
  pub ssid : TellsSsid (ssid_part text) call.ssid

-- no SSID is told
abbrev pub TellsNoSsid : List ℕ → Type 0
TellsNoSsid tail = (ssid : ℕ) → ssid < 16 → ¬ TellsSsid tail ssid

-- the first place of a name whose character no call may have
pub record IsFirstBadCharacter (name : List ℕ) (index : ℕ) : Type 0 where
  pub within : index < length name
  pub before : (k : ℕ) → k < index → IsCallCharacter (slice_index name k)
  pub here : ¬ IsCallCharacter (slice_index name index)

-- why a name and an SSID make no call: the first of these reasons
abbrev pub IsFaultOf : List ℕ → Type 0 → CallFault → Type 0
IsFaultOf name HasBadSsid Empty = name ≡ []
IsFaultOf name HasBadSsid TooLong = 6 < length name
IsFaultOf name HasBadSsid (BadChar index) = (length name ≤ 6) × IsFirstBadCharacter name index
IsFaultOf name HasBadSsid BadSsid = IsName name × HasBadSsid
