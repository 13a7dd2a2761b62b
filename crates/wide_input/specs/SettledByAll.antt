-- What all lanes settle of samples at 48,000 a second. They hear the first stream of filtered samples alone: each
-- fifth, from the first on.
use Rattle.std.specs.Prelude.{ℕ, ◌+◌, ◌-◌, ◌/◌}
use Rattle.sensitive_receiver.specs.MergedItems.{settled}

-- so many samples settle, with the filter before the lanes, what ends below this position of the first stream
abbrev pub settled_by_all : ℕ → ℕ
settled_by_all count = settled ((count - 15 + 4) / 5)
