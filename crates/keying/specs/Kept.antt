-- What is kept of what has happened. Public clauses cite `StandsFor` alone.
use Rattle.std.specs.Prelude.{◌≡◌, ℕ, ◌+◌, ◌-◌, ◌==◌, ◌&&◌, ◌||◌, not, nat_lt, Bool, true, false, if◌then◌else◌, List}
use Rattle.std.specs.Prelude.{[], ◌∷◌, ◌++◌, drop, length, Option, Some, unwrap_or, is_some}
use Rattle.keying.specs.declared.line.End.{End}
use Rattle.keying.specs.declared.line.Phase.TheVariants.{Down, Opening, Up}
use Rattle.keying.specs.declared.machine.Words.{Words}
use Rattle.keying.specs.Marks.{Mark}
use Rattle.keying.specs.Marks.Mark.{Turned, Tried, Opened, Keyed, Released, Heard, Accepted, Readied, Lost}
use Rattle.keying.specs.Marks.Mark.{Ticked, Cut, WriteFault, Ends}
use Rattle.keying.specs.Key.{Key, key_of}
use Rattle.keying.specs.Rules.{octet_marks, end_marks}

-- this has happened
pub record StandsFor (words : Words) (past : List Mark) (key : Key) : Type 0 where
  pub is : key ≡ key_of words past

-- whether the key is wanted at a tick
abbrev pub is_wanted : Bool → Key → Bool
is_wanted sounds key = sounds || nat_lt 0 key.linger

-- how a mark changes what is kept
abbrev pub after : Mark → Key → Key
after (Turned now) key = record key { time = now }
after Tried key = record key {
  phase = Opening;
  on = false;
  waiting = key.time ∷ [];
  ready = false;
  part = [];
  last_try = Some key.time;
  retried = is_some key.ending;
}
after Opened key = record key { phase = Up; on = false }
after Keyed key = record key { on = true; lit = 0; owed = true; waiting = key.waiting ++ key.time ∷ [] }
after Released key = record key { on = false; waiting = key.waiting ++ key.time ∷ [] }
after (Heard octet) key = record key { part = if octet == 10 then [] else key.part ++ octet ∷ [] }
after Accepted key = record key {
  waiting = drop 1 key.waiting;
  owed = if not key.on && (length (drop 1 key.waiting) == 0) then false else key.owed;
}
after Readied key = record key { ready = true }
after (Lost why) key = record key { phase = Down; on = false; waiting = []; last_loss = Some why }
after (Ticked sounds) key = record key {
  lit = if key.on then key.lit + 1 else key.lit;
  ticked = key.time;
  linger = if sounds then key.words.tail else key.linger - 1;
  cut = key.cut && is_wanted sounds key;
}
after (Cut why) key = record key { cut = true }
after WriteFault key = record key { failed = true }
after Ends key = record key { ending = Some (unwrap_or key.ending key.time) }

-- marks, the newest first
abbrev pub after_all : List Mark → Key → Key
after_all [] key = key
after_all (mark ∷ marks) key = after mark (after_all marks key)

-- octets that came
abbrev pub after_octets : List ℕ → Key → Key
after_octets [] key = key
after_octets (octet ∷ octets) key = after_octets octets (after_all (octet_marks octet key) key)

-- a rule applied
abbrev pub after_rule : (Key → List Mark) → Key → Key
after_rule rule key = after_all (rule key) key

-- what was read at this time
abbrev pub after_reading : ℕ → List ℕ → Option End → Key → Key
after_reading now octets end key = after_rule (end_marks end) (after_octets octets (after (Turned now) key))
