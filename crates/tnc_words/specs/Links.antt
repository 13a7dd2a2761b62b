-- What options say of links and of the station's call: a mode by its name, windows that fit it, T1 and the most retries,
-- and a call.
use Rattle.std.specs.Prelude.{◌≡◌, ℕ, Bool, true, false, List, Option, Some, None, codes}
use Rattle.clap.specs.Words.{Row, Text, first_of}
use Rattle.ax25_address.specs.Callsign.{Callsign}
use Rattle.ax25_address.specs.CallText.{IsCallText}
use Rattle.selective_reject.specs.declared.window.Mode.{Mode}
use Rattle.selective_reject.specs.declared.window.Mode.TheVariants.{Rej, Srej}
use Rattle.link_machine.specs.declared.params.Params.{Params}
use Rattle.link_machine.specs.Params.{HasWindows}
use Rattle.tnc_words.specs.Numbers.{HasNumber}
use Rattle.tnc_words.specs.Options.{is_used}

-- a mode's name
abbrev pub mode_name : Mode → Text
mode_name Rej = codes "rej"
mode_name Srej = codes "srej"

-- the mode that an option names, or the usual one if it was not given
abbrev pub HasMode : Mode → Option Text → Mode → Type 0
HasMode usual None mode = mode ≡ usual
HasMode usual (Some text) mode = text ≡ mode_name mode

-- the usual T1 in ticks of 10 ms, by whether --hf was given: on short wave three times as long
abbrev pub usual_t1 : Bool → ℕ
usual_t1 false = 200
usual_t1 true = 600

-- What the options say of links. A mode that is given is that of both moduli. If no other was given, the mode modulo 8
-- is REJ, the window 4, calls are modulo 8, the mode modulo 128 is SREJ, the window there is 32, T1 is the usual one on a
-- path without repeaters, and there are 10 retries at most.
pub record SaysParams (found : List Row) (params : Params) : Type 0 where
  pub mode : HasMode Rej (first_of (codes "mode") found) params.mode
  pub window : HasNumber (first_of (codes "window") found) 4 0 255 params.window
  pub wide : params.wide ≡ is_used (codes "wide") found
  pub wide_mode : HasMode Srej (first_of (codes "mode") found) params.wide_mode
  pub wide_window : HasNumber (first_of (codes "wide-window") found) 32 0 255 params.wide_window
  pub t1 : HasNumber (first_of (codes "t1") found) (usual_t1 (is_used (codes "hf") found)) 100 3000 params.t1
  pub retries : HasNumber (first_of (codes "retries") found) 10 1 20 params.retries

-- these are the parameters of links, and each window fits its modulus in its mode
pub record HasParams (found : List Row) (params : Params) : Type 0 where
  pub said : SaysParams found params
  pub fit : HasWindows params

-- the call that an option spells, or none if it was not given
abbrev pub HasCall : Option Text → Option Callsign → Type 0
HasCall None call = call ≡ None
HasCall (Some text) call = (spelled : Callsign) × IsCallText text spelled × (call ≡ Some spelled)
