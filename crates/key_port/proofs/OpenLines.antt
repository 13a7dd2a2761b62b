-- Whether there is a connection, and the commands on it, after each change.
use Rattle.std.proofs.Common.{◌≡◌, ℕ, List, [], ◌∷◌, ◌++◌, refl, ap, ◌∙◌}
use Rattle.std.proofs.lemmas.List.{reverse-append}
use Rattle.std.specs.Prelude.{not, Bool, true, false, if◌then◌else◌, reverse, Option}
use Rattle.keying.specs.declared.command.Command.{Command}
use Rattle.keying.specs.declared.line.End.{End}
use Rattle.key_port.specs.declared.key_records.KeyStep.{KeyStep}
use Rattle.key_port.specs.declared.key_records.KeyStep.TheVariants.{Wrote, Read}
use Rattle.key_port.specs.KeyLines.{KeyLine, with_last, is_open, open_commands, commands_in, keys, after_write}
use Rattle.key_port.specs.KeyLines.{after_read, after_drop, after_connect, new_line, steps_read}

commands_append : (first second : List KeyStep)
    → commands_in (first ++ second) ≡ commands_in first ++ commands_in second
commands_append [] second = refl
commands_append (Wrote command had ∷ first) second = ap (λ cs. keys command ∷ cs) (commands_append first second)
commands_append (Read now octets ∷ first) second = commands_append first second

nothing_after : (bits : List Bool) → bits ++ [] ≡ bits
nothing_after [] = refl
nothing_after (bit ∷ bits) = ap (λ bs. bit ∷ bs) (nothing_after bits)

no_commands_read : (now : ℕ) (octets : List ℕ) → commands_in (steps_read now octets) ≡ []
no_commands_read now [] = refl
no_commands_read now (octet ∷ octets) = refl

-- ---- a read

pub open_read : (now : ℕ) (octets : List ℕ) (end : Option End) (lines : List KeyLine)
    → is_open (with_last (after_read now octets end) lines) ≡ is_open lines
open_read now octets end [] = refl
open_read now octets end (line ∷ []) = refl
open_read now octets end (line ∷ next ∷ []) = refl
open_read now octets end (line ∷ next ∷ third ∷ lines) = open_read now octets end (next ∷ third ∷ lines)

pub commands_read : (now : ℕ) (octets : List ℕ) (end : Option End) (lines : List KeyLine)
    → open_commands (with_last (after_read now octets end) lines) ≡ open_commands lines
commands_read now octets end [] = refl
commands_read now octets end (line ∷ []) =
    ap (λ (cs : List Bool). if line.dropped then [] else reverse cs)
    (commands_append line.steps (steps_read now octets)
    ∙ ap (λ cs. commands_in line.steps ++ cs) (no_commands_read now octets)
    ∙ nothing_after (commands_in line.steps))
commands_read now octets end (line ∷ next ∷ []) = commands_read now octets end (next ∷ [])
commands_read now octets end (line ∷ next ∷ third ∷ lines) = commands_read now octets end (next ∷ third ∷ lines)

-- ---- a connection that is given up

pub open_drop : (lines : List KeyLine) → is_open (with_last after_drop lines) ≡ false
open_drop [] = refl
open_drop (line ∷ []) = refl
open_drop (line ∷ next ∷ []) = refl
open_drop (line ∷ next ∷ third ∷ lines) = open_drop (next ∷ third ∷ lines)

closed_in : (dropped : Bool) (bits : List Bool) → not dropped ≡ false → (if dropped then [] else bits) ≡ []
closed_in true bits is = refl
closed_in false bits is = absurd (cc)

pub closed_commands : (lines : List KeyLine) → is_open lines ≡ false → open_commands lines ≡ []
closed_commands [] is = refl
closed_commands (line ∷ []) is = closed_in line.dropped (reverse (commands_in line.steps)) is
closed_commands (line ∷ next ∷ lines) is = closed_commands (next ∷ lines) is

-- ---- a connection that is begun

open_more : (port : ℕ) (lines : List KeyLine) → is_open (lines ++ new_line port ∷ []) ≡ true
open_more port [] = refl
open_more port (line ∷ []) = refl
open_more port (line ∷ next ∷ lines) = open_more port (next ∷ lines)

commands_more : (port : ℕ) (lines : List KeyLine) → open_commands (lines ++ new_line port ∷ []) ≡ []
commands_more port [] = refl
commands_more port (line ∷ []) = refl
commands_more port (line ∷ next ∷ lines) = commands_more port (next ∷ lines)

pub open_connect : (port : ℕ) (lines : List KeyLine) → is_open (after_connect port lines) ≡ true
open_connect port lines = open_more port (with_last after_drop lines)

pub commands_connect : (port : ℕ) (lines : List KeyLine) → open_commands (after_connect port lines) ≡ []
commands_connect port lines = commands_more port (with_last after_drop lines)

-- ---- a command

pub open_write : (command : Command) (had : ℕ) (lines : List KeyLine)
    → is_open (with_last (after_write command had) lines) ≡ is_open lines
open_write command had [] = refl
open_write command had (line ∷ []) = refl
open_write command had (line ∷ next ∷ []) = refl
open_write command had (line ∷ next ∷ third ∷ lines) = open_write command had (next ∷ third ∷ lines)

written_in : (dropped : Bool) (steps : List KeyStep) (command : Command) (had : ℕ) → not dropped ≡ true
    → (if dropped then [] else reverse (commands_in (steps ++ Wrote command had ∷ [])))
    ≡ keys command ∷ (if dropped then [] else reverse (commands_in steps))
written_in true steps command had is = absurd (cc)
written_in false steps command had is =
    ap reverse (commands_append steps (Wrote command had ∷ []))
    ∙ reverse-append (commands_in steps) (keys command ∷ [])

pub commands_write : (command : Command) (had : ℕ) (lines : List KeyLine) → is_open lines ≡ true
    → open_commands (with_last (after_write command had) lines) ≡ keys command ∷ open_commands lines
commands_write command had [] is = absurd (cc)
commands_write command had (line ∷ []) is = written_in line.dropped line.steps command had is
commands_write command had (line ∷ next ∷ []) is = commands_write command had (next ∷ []) is
commands_write command had (line ∷ next ∷ third ∷ lines) is = commands_write command had (next ∷ third ∷ lines) is
