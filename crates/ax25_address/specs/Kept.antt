-- A `Call`'s fields can be found again from its value.
use Rattle.std.specs.Prelude.{◌≡◌, ℕ, List, length, take}
use Rattle.std.proofs.Common.{sym, ap, ◌∙◌, arith, length-take-le}
use Rattle.ax25_address.specs.Callsign.{padded}
use Rattle.ax25_address.specs.Held.{IsHeld}
use Rattle.ax25_address.specs.declared.call.Call.TheInside.{Inside}

-- the six characters are the name with its padding
abbrev pub kept : List ℕ → ℕ → ℕ → Inside
kept characters len ssid = record { characters = characters; len = len; ssid = ssid }

pub fields_back : (c : Inside) → IsHeld c.characters c.len c.ssid
    → kept (padded (take c.len c.characters)) (length (take c.len c.characters)) c.ssid ≡ c
fields_back c h =
    ap (λ xs. kept xs (length (take c.len c.characters)) c.ssid) (sym h.filled)
    ∙ ap (λ n. kept c.characters n c.ssid) (length-take-le c.len c.characters (omega (arith, h.fits, h.size)))
