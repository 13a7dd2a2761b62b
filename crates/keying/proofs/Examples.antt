-- Worked examples, computed on the definitions.
use Rattle.keying.proofs.Common.{◌≡◌, true, false, List, [], ◌∷◌, None, Some, refl, Accepts, Refuses, Unclear, KeyData}
use Rattle.keying.proofs.Common.{Written, Words, answer_of, Call, history, Turn, AfterTry, Tick, on, lit, is_free}
use Rattle.keying.proofs.Common.{commands, accepted, tick_told}
use Rattle.std.proofs.Common.{codes}
use Rattle.keying.specs.declared.command.Command.TheVariants.{Release as Unkey}

-- ---- answers

accepted_line : answer_of (codes "RPRT 0") ≡ Accepts
unfolding answer_of
accepted_line = refl

refused_line : answer_of (codes "RPRT -19") ≡ Refuses 19
unfolding answer_of
refused_line = refl

unsigned_line : answer_of (codes "RPRT 1") ≡ Unclear
unfolding answer_of
unsigned_line = refl

-- ---- a transmission of one tick with sound, and a tail of one tick

abbrev short_tail : Words
short_tail = record { tail = 1; «data» = true }

-- the newest first
abbrev connected : List Call
connected = Turn 50 (codes "RPRT 0\n") None ∷ AfterTry Written ∷ Turn 0 [] None ∷ []

free_then : is_free short_tail (history short_tail connected) ≡ true
unfolding answer_of
free_then = refl

keyed_then : tick_told short_tail true (history short_tail connected) ≡ record { command = Some KeyData; report = None }
unfolding answer_of
keyed_then = refl

-- the sound, and the tick of the tail
abbrev sent : List Call
sent = Tick false ∷ Turn 60 (codes "RPRT 0\n") None ∷ Tick true ∷ connected

on_in_tail : on (history short_tail sent) ≡ true
unfolding answer_of
on_in_tail = refl

for_two_ticks : lit (history short_tail sent) ≡ 2
unfolding answer_of
for_two_ticks = refl

released_then : tick_told short_tail false (history short_tail sent) ≡ record { command = Some Unkey; report = None }
unfolding answer_of
released_then = refl

three_commands : commands (history short_tail (Tick false ∷ sent)) ≡ false ∷ true ∷ false ∷ []
unfolding answer_of
three_commands = refl

two_accepted : accepted (history short_tail (Tick false ∷ sent)) ≡ 2
unfolding answer_of
two_accepted = refl

-- a release waits for its answer
not_free_then : is_free short_tail (history short_tail (Tick false ∷ sent)) ≡ false
unfolding answer_of
not_free_then = refl
