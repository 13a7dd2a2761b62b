-- What a `Call` keeps: its six characters as they are sent, how many of them are not padding, and its SSID.
use Rattle.std.specs.Prelude.{◌≡◌, ℕ, ◌<◌, ◌≤◌, List, length, take}
use Rattle.ax25_address.specs.Callsign.{IsName, padded}

pub record IsHeld (characters : List ℕ) (len number : ℕ) : Type 0 where
  pub size : length characters ≡ 6
  pub fits : len ≤ 6
  pub name : IsName (take len characters)
  pub filled : characters ≡ padded (take len characters)
  pub ssid : number < 16
