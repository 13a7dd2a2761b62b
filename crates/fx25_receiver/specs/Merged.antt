-- Merging: lanes hear one transmission at ends that lie close together, and a block's frame is heard plainly too if it
-- came right. What is heard of one frame agrees in where it ended, or would have ended, plainly.
use Rattle.std.specs.Prelude.{◌≡◌, ℕ, ◌+◌, ℤ, List, [], ◌∷◌, ◌++◌, Bool, nat_le, ◌&&◌, if◌then◌else◌}
use Rattle.std.specs.List.{list_any}
use Rattle.std.specs.Str.{bytes_eq}
use Rattle.fx25_receiver.specs.declared.heard.Heard.{Heard}
use Rattle.fx25_receiver.specs.Heard.{AreHeard}

-- how many samples lower an end may be
abbrev pub reach : ℕ
reach = 20000

-- `earlier` has the octets of `item`, a plain end at most 15 samples away, and an end at most 20,000 samples lower
abbrev pub repeats : Heard → Heard → Bool
repeats item earlier =
    ((bytes_eq earlier.octets item.octets && nat_le item.at (earlier.at + 15)) && nat_le earlier.at (item.at + 15))
    && nat_le item.end (earlier.end + reach)

-- of `items`, which come after `earlier`, those that repeat none before them, whether or not that one was itself left
-- out
abbrev pub merged_after : List Heard → List Heard → List Heard
merged_after earlier [] = []
merged_after earlier (item ∷ items) =
    if list_any (repeats item) earlier
    then merged_after (earlier ++ item ∷ []) items
    else item ∷ merged_after (earlier ++ item ∷ []) items

-- what remains of a list in order
abbrev pub merged : List Heard → List Heard
merged items = merged_after [] items

-- the items are what is heard of the samples, merged
pub record AreMerged (x : List ℤ) (items : List Heard) : Type 0 where
  pub heard : List Heard
  pub are : AreHeard x heard
  pub is : items ≡ merged heard
