-- Which of what is heard is a unit that was sent, and what remains of it all when it is merged.
use Rattle.std.specs.Prelude.{◌≡◌, ℕ, ◌+◌, ◌<◌, ◌⊎◌, ℤ, List, [], ◌∷◌, map}
use Rattle.fx25_receiver.specs.declared.heard.Heard.{Heard}
use Rattle.fx25_receiver.specs.Heard.{IsHeard}
use Rattle.fx25_receiver.specs.Merged.{AreMerged}
use Rattle.fx25_signal.specs.Units.{SentUnit, frame_end, unit_end}

-- The item has the octets of the unit's frame. It ended, or would have ended plainly, less than eight samples, one bit,
-- from where that frame did, and it ended less than a bit after the unit or before that.
pub record IsOf (unit : SentUnit) (item : Heard) : Type 0 where
  pub octets : item.octets ≡ unit.octets
  pub late : frame_end unit < item.at + 8
  pub soon : item.at < frame_end unit + 8
  pub ended : item.end < unit_end unit + 8

abbrev pub IsOfOne : List SentUnit → Heard → Type 0
IsOfOne [] item = ⊥
IsOfOne (unit ∷ units) item = IsOf unit item ⊎ IsOfOne units item

-- nothing that is heard of the samples is stray: each item is of a unit that was sent
abbrev pub NoneStray : List SentUnit → List ℤ → Type 0
NoneStray units x = (item : Heard) → IsHeard x item → IsOfOne units item

-- what remains of the samples after merging has these octets, in this order
abbrev pub MergesTo : List (List ℕ) → List ℤ → Type 0
MergesTo frames x = (items : List Heard) → AreMerged x items → map (λ item. item.octets) items ≡ frames
