-- What is heard by the same lanes if they read no blocks.
use Rattle.std.specs.Prelude.{◌≡◌, ℤ, List}
use Rattle.fx25_receiver.specs.declared.heard.Heard.{Heard}
use Rattle.sensitive_blocks.specs.Heard.{IsHeard}

-- no block ends with any bit of a lane
abbrev pub HasNoBlock : List ℤ → Type 0
HasNoBlock x = (item : Heard) → IsHeard x item → item.tag ≡ 0
