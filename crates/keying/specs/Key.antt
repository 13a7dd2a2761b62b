-- The line and the key together.
use Rattle.std.specs.Prelude.{ℕ, ◌-◌, ◌==◌, ◌&&◌, not, Bool, true, false, List, [], ◌∷◌, length, Option}
use Rattle.keying.specs.declared.line.Phase.{Phase}
use Rattle.keying.specs.declared.line.Phase.TheVariants.{Down, Opening, Up}
use Rattle.keying.specs.declared.machine.Words.{Words}
use Rattle.keying.specs.declared.report.Why.{Why}
use Rattle.keying.specs.Marks.{Mark}
use Rattle.keying.specs.Line as line
use Rattle.keying.specs.Keyed as keyed

pub record Key : Type 0 where
  pub words : Words
  pub phase : Phase
  pub time : ℕ
  pub on : Bool
  pub lit : ℕ
  pub waiting : List ℕ
  pub owed : Bool
  pub ready : Bool
  pub part : List ℕ
  pub last_try : Option ℕ
  pub last_loss : Option Why
  pub ticked : ℕ
  -- for how many further ticks the key is wanted if they have no sound
  pub linger : ℕ
  pub cut : Bool
  pub failed : Bool
  pub ending : Option ℕ
  pub retried : Bool

-- for how many further ticks without sound the key is wanted
abbrev pub linger_after : ℕ → List Bool → ℕ
linger_after tail [] = 0
linger_after tail (true ∷ sounding) = tail
linger_after tail (false ∷ sounding) = linger_after tail sounding - 1

-- by what has happened so far
abbrev pub key_of : Words → List Mark → Key
key_of words past = record {
  words = words;
  phase = line.phase past;
  time = line.time past;
  on = keyed.on past;
  lit = keyed.lit past;
  waiting = line.waiting past;
  owed = keyed.owed past;
  ready = line.ready past;
  part = line.part past;
  last_try = line.last_try past;
  last_loss = line.last_loss past;
  ticked = keyed.ticked past;
  linger = linger_after words.tail (keyed.ticks past);
  cut = keyed.cut words.tail past;
  failed = keyed.failed past;
  ending = keyed.ending past;
  retried = keyed.retried past;
}

abbrev pub is_up : Phase → Bool
is_up Down = false
is_up Opening = false
is_up Up = true

abbrev pub is_down : Phase → Bool
is_down Down = true
is_down Opening = false
is_down Up = false

-- whether the radio can be keyed: the line is up, the key is off, each command was accepted, nothing is cut off
abbrev pub free : Key → Bool
free key = is_up key.phase && (not key.on && ((length key.waiting == 0) && (not key.cut && not key.failed)))

abbrev pub is_free : Words → List Mark → Bool
is_free words past = free (key_of words past)
