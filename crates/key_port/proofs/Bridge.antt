-- What the machine takes to be the commands of the connection stands on the line, whenever nothing is to be done.
use Rattle.std.proofs.Common.{◌≡◌, ℕ, ◌+◌, List, [], ◌∷◌, ◌++◌, length, refl, ap, sym, subst, ◌∙◌, inl, inr}
use Rattle.std.proofs.lemmas.Bool.{cond_both, and_parts}
use Rattle.std.specs.Prelude.{not, ◌==◌, ◌&&◌, nat_le, if◌then◌else◌, Bool, true, false, Option, Some, None, ◌-◌, drop}
use Rattle.keying.specs.declared.command.Command.{Command}
use Rattle.keying.specs.declared.command.Command.TheVariants.{Release as Unkey, Key as KeyOn, KeyData}
use Rattle.keying.specs.declared.ending.Ending.TheVariants.{ConnectNow, OpenNow, ReleaseNow, Wait, Over}
use Rattle.keying.specs.declared.line.End.{End}
use Rattle.keying.specs.declared.line.End.TheVariants.{Fault}
use Rattle.keying.specs.declared.line.Phase.{Phase}
use Rattle.keying.specs.declared.line.Phase.TheVariants.{Down, Opening, Up}
use Rattle.keying.specs.declared.line.Try.TheVariants.{Refused, NotYet, Written}
use Rattle.keying.specs.declared.machine.Words.{Words}
use Rattle.keying.specs.declared.report.OffWhy.TheVariants.{Limit, Sound}
use Rattle.keying.specs.declared.report.Report.TheVariants.{Off}
use Rattle.keying.specs.declared.ticking.Act.{Act}
use Rattle.keying.specs.declared.turning.Next.TheVariants.{Rest, ToConnect, ToRelease}
use Rattle.keying.specs.Calls.{Call, called, ticked, written, turned, ended, read, listened}
use Rattle.keying.specs.Calls.Call.{Turn, AfterTry, Tick, AfterWrite, CommandFailed, Release}
use Rattle.keying.specs.Key.{key_of, is_up, is_down, free}
use Rattle.keying.specs.Keyed.{on, ticks, wanted, ticked as last_tick, owed, retried, ending}
use Rattle.keying.specs.Laws.{commands, newest_keys}
use Rattle.keying.specs.Line.{phase, time, waiting}
use Rattle.keying.specs.Marks.{Mark}
use Rattle.keying.specs.Marks.Mark.{Keyed, Released, Cut, WriteFault, Ends}
use Rattle.keying.specs.Rules.{try_marks_in, is_try_due, is_stalled, stall_marks, is_at_limit}
use Rattle.keying.specs.Rules.{closing_marks, end_marks_in}
use Rattle.keying.specs.Told.{next_in, ending_in, keying_command, is_in_time}
use Rattle.key_port.specs.KeyLines.{KeyLine, with_last, after_write, after_drop, after_connect, is_open}
use Rattle.key_port.specs.KeyLines.{open_commands, keys}
use Rattle.key_port.specs.KeyEvents.{KeyEvent, Task, marks_of, lines_of, lines_read, give_up_if, tasks_of_next}
use Rattle.key_port.specs.KeyEvents.{tasks_of_ending, tasks_of_command, asks, to_do, Does, Obeys}
use Rattle.key_port.specs.KeyEvents.{after_written, after_unwritten}
use Rattle.key_port.specs.KeyEvents.KeyEvent.{Called, Began, NotBegun, Wrote, NotWritten, HungUp}
use Rattle.key_port.specs.KeyEvents.Task.{Connect, Open, Write, Tell, GiveUp}
use Rattle.key_port.proofs.OpenLines.{open_read, commands_read, open_drop, closed_commands, open_connect}
use Rattle.key_port.proofs.OpenLines.{commands_connect, open_write, commands_write}
use Rattle.keying.proofs.Quiet.{level_read, level_listened, newest_on}

-- how the machine's connection, its commands, the connection on the line and the commands there stand to one another
-- when nothing is to be done
abbrev Match : Phase → List Bool → Bool → List Bool → Type 0
Match Down known there stood = (there ≡ false) × (known ≡ [])
Match Opening known there stood = (there ≡ true) × (stood ≡ []) × (known ≡ [])
Match Up known there stood = (there ≡ true) × (known ≡ stood)

-- what is done once a connection is given up: nothing, or another one is begun
abbrev IsBegun : List Task → Type 0
IsBegun [] = Unit {0}
IsBegun (Connect ∷ []) = Unit {0}
IsBegun _ = ⊥

-- and when this is to be done
abbrev Meets : List Task → Phase → List Bool → Bool → List Bool → Type 0
Meets [] p known there stood = Match p known there stood
Meets (Connect ∷ tasks) p known there stood = (p ≡ Down) × (known ≡ [])
Meets (Open ∷ tasks) p known there stood = (is_up p ≡ false) × (known ≡ []) × (there ≡ true) × (stood ≡ [])
Meets (Write command ∷ tasks) p known there stood =
    (p ≡ Up) × (there ≡ true) × (known ≡ keys command ∷ stood)
Meets (Tell (AfterTry Written) ∷ tasks) p known there stood =
    (is_up p ≡ false) × (there ≡ true) × (stood ≡ false ∷ [])
Meets (Tell (AfterTry Refused) ∷ tasks) p known there stood = is_up p ≡ false
Meets (Tell CommandFailed ∷ tasks) p known there stood = p ≡ Up
Meets (Tell _ ∷ tasks) p known there stood = ⊥
Meets (GiveUp ∷ tasks) p known there stood = (p ≡ Down) × (known ≡ []) × IsBegun tasks

-- ---- a history

abbrev At : List Task → List Mark → List KeyLine → Type 0
At tasks past lines = Meets tasks (phase past) (commands past) (is_open lines) (open_commands lines)

at_phase : (tasks : List Task) (p q : Phase) (known : List Bool) (there : Bool) (stood : List Bool) → p ≡ q
    → Meets tasks p known there stood → Meets tasks q known there stood
at_phase tasks p q known there stood same meets =
    let P : Phase → Type 0 = λ r. Meets tasks r known there stood in subst P same meets

-- the key is on only on a line that is up
up_if_on : (p : Phase) (past : List Mark) (there : Bool) (stood : List Bool) → Match p (commands past) there stood
    → on past ≡ true → p ≡ Up
up_if_on Down past there stood m keyed =
    absurd (let none : newest_keys (commands past) ≡ false = ap newest_keys m.1 in
    let is = newest_on past in cc (none, is, keyed))
up_if_on Opening past there stood m keyed =
    absurd (let none : newest_keys (commands past) ≡ false = ap newest_keys m.2 in
    let is = newest_on past in cc (none, is, keyed))
up_if_on Up past there stood m keyed = refl

off_if_none : (past : List Mark) → commands past ≡ [] → on past ≡ false
off_if_none past none = sym (newest_on past) ∙ ap newest_keys none

up_parts : (p : Phase) (known : List Bool) (there : Bool) (stood : List Bool) → p ≡ Up → Match p known there stood
    → (there ≡ true) × (known ≡ stood)
up_parts p known there stood is m = let P : Phase → Type 0 = λ q. Match q known there stood in subst P is m

-- ---- a turn

stall_phase : (b : Bool) (past : List Mark)
    → phase ((if b then Cut Sound ∷ Released ∷ [] else []) ++ past) ≡ phase past
stall_phase true past = refl
stall_phase false past = refl

stall_none : (past : List Mark) → commands past ≡ []
    → commands ((if on past && nat_le 2000 (time past - last_tick past) then Cut Sound ∷ Released ∷ []
    else []) ++ past) ≡ []
stall_none past none =
    ap (λ (b : Bool). commands ((if b && nat_le 2000 (time past - last_tick past) then Cut Sound ∷ Released ∷ []
    else []) ++ past)) (off_if_none past none) ∙ none

stall_meets : (b : Bool) (past : List Mark) (there : Bool) (stood : List Bool) → there ≡ true → commands past ≡ stood
    → Meets (tasks_of_next (if b then ToRelease else Rest)) Up
    (commands ((if b then Cut Sound ∷ Released ∷ [] else []) ++ past)) there stood
stall_meets true past there stood is same = (refl, is, ap (λ cs. false ∷ cs) same)
stall_meets false past there stood is same = (is, same)

-- the tasks of a turn after which the connection stands at the second of these
abbrev AfterTurn : Words → Phase → Phase → List Mark → Bool → List Bool → Type 0
AfterTurn words before now come there stood =
    let key = key_of words come in
    Meets (give_up_if (not (is_down before) && is_down now) ++ tasks_of_next (next_in now key)) now
    (commands (stall_marks key ++ come)) there stood

gone_tasks : (lost due : Bool) (known : List Bool) (there : Bool) (stood : List Bool) → known ≡ []
    → (lost ≡ false → there ≡ false)
    → Meets (give_up_if lost ++ tasks_of_next (if due then ToConnect else Rest)) Down known there stood
gone_tasks true true known there stood none closed = (refl, none, tt)
gone_tasks true false known there stood none closed = (refl, none, tt)
gone_tasks false true known there stood none closed = (refl, none)
gone_tasks false false known there stood none closed = (closed refl, none)

was_down : (p : Phase) → (not (is_down p) && true) ≡ false → p ≡ Down
was_down Down is = refl
was_down Opening is = absurd (cc)
was_down Up is = absurd (cc)

turn_gone : (words : Words) (before : Phase) (come : List Mark) (there : Bool) (stood : List Bool)
    → commands come ≡ [] → (before ≡ Down → there ≡ false) → AfterTurn words before Down come there stood
turn_gone words before come there stood none closed =
    let key = key_of words come in
    gone_tasks (not (is_down before) && true) (is_try_due key) (commands (stall_marks key ++ come)) there stood
    (stall_none come none) (λ lost. closed (was_down before lost))

turn_kept : (words : Words) (p : Phase) (come : List Mark) (there : Bool) (stood : List Bool)
    → Match p (commands come) there stood → AfterTurn words p p come there stood
turn_kept words Down come there stood m =
    let key = key_of words come in
    gone_tasks false (is_try_due key) (commands (stall_marks key ++ come)) there stood (stall_none come m.1) (λ _. m.0)
turn_kept words Opening come there stood m = (refl, stall_none come m.2, m.0, m.1)
turn_kept words Up come there stood m = stall_meets (is_stalled (key_of words come)) come there stood m.0 m.1

closed_if_down : (p : Phase) (known : List Bool) (there : Bool) (stood : List Bool) → Match p known there stood
    → p ≡ Down → there ≡ false
closed_if_down p known there stood m is =
    let P : Phase → Type 0 = λ q. Match q known there stood in let at : P Down = subst P is m in at.0

-- reading changes neither whether there is a connection, nor the commands on it
match_read : (p : Phase) (known there_known : List Bool) (there here : Bool) (stood stands : List Bool)
    → there_known ≡ known → here ≡ there → stands ≡ stood → Match p known there stood
    → Match p there_known here stands
match_read p known there_known there here stood stands a b c m =
    let P : List Bool → Type 0 = λ known. Match p known there stood in
    let Q : Bool → Type 0 = λ there. Match p there_known there stood in
    let R : List Bool → Type 0 = λ stood. Match p there_known here stood in
    subst R (sym c) (subst Q (sym b) (subst P (sym a) m))

turn_at : (words : Words) (now : ℕ) (octets : List ℕ) (end : Option End) (past : List Mark) (lines : List KeyLine)
    → At [] past lines
    → At (asks words (Turn now octets end) past) (turned words now octets end past)
    (lines_read (Turn now octets end) lines)
turn_at words now octets end past lines m =
    let come = listened words now octets end past in
    let new = lines_read (Turn now octets end) lines in
    let still = open_read now octets end lines in
    let same = commands_read now octets end lines in
    let P : Phase → Type 0 = λ p. AfterTurn words (phase past) p come (is_open new) (open_commands new) in
    let after : P (phase come) = elim (level_listened words now octets end past) [
      | inl gone ↦ subst P (sym gone.0) (turn_gone words (phase past) come (is_open new) (open_commands new) gone.1
          (λ is. still ∙ closed_if_down (phase past) (commands past) (is_open lines) (open_commands lines) m is))
      | inr level ↦ subst P (sym level.0) (turn_kept words (phase past) come (is_open new) (open_commands new)
          (match_read (phase past) (commands past) (commands come) (is_open lines) (is_open new) (open_commands lines)
          (open_commands new) level.1 still same m))
    ] in
    at_phase (asks words (Turn now octets end) past) (phase come) (phase (turned words now octets end past))
    (commands (turned words now octets end past)) (is_open new) (open_commands new)
    (sym (stall_phase (is_stalled (key_of words come)) come)) after

-- ---- the end of the run

pub closing_phase : (b : Bool) (past : List Mark)
    → phase ((if b then Ends ∷ Released ∷ [] else Ends ∷ []) ++ past) ≡ phase past
closing_phase true past = refl
closing_phase false past = refl

closing_none : (past : List Mark) → commands past ≡ []
    → commands ((if on past then Ends ∷ Released ∷ [] else Ends ∷ []) ++ past) ≡ []
closing_none past none =
    ap (λ (b : Bool). commands ((if b then Ends ∷ Released ∷ [] else Ends ∷ []) ++ past)) (off_if_none past none) ∙ none

abbrev AfterEnding : Words → Phase → List Mark → Bool → List Bool → Type 0
AfterEnding words now come there stood =
    let key = key_of words come in
    Meets (give_up_if (is_down now) ++ tasks_of_ending (ending_in now key)) now
    (commands (closing_marks key ++ come)) there stood

connect_tasks : (due : Bool) (known : List Bool) (there : Bool) (stood : List Bool) → known ≡ []
    → Meets (GiveUp ∷ tasks_of_ending (if due then ConnectNow else Over)) Down known there stood
connect_tasks true known there stood none = (refl, none, tt)
connect_tasks false known there stood none = (refl, none, tt)

open_tasks : (due : Bool) (known : List Bool) (there : Bool) (stood : List Bool) → known ≡ [] → there ≡ true
    → stood ≡ [] → Meets (tasks_of_ending (if due then OpenNow else Over)) Opening known there stood
open_tasks true known there stood none is bare = (refl, none, is, bare)
open_tasks false known there stood none is bare = (is, bare, none)

release_tasks : (b waits : Bool) (past : List Mark) (there : Bool) (stood : List Bool) → there ≡ true
    → commands past ≡ stood
    → Meets (tasks_of_ending (if b then ReleaseNow else if waits then Wait else Over)) Up
    (commands ((if b then Ends ∷ Released ∷ [] else Ends ∷ []) ++ past)) there stood
release_tasks true waits past there stood is same = (refl, is, ap (λ cs. false ∷ cs) same)
release_tasks false true past there stood is same = (is, same)
release_tasks false false past there stood is same = (is, same)

ending_gone : (words : Words) (come : List Mark) (there : Bool) (stood : List Bool) → commands come ≡ []
    → AfterEnding words Down come there stood
ending_gone words come there stood none =
    connect_tasks (owed come && (not (retried come) && is_in_time (ending come) (time come)))
    (commands (closing_marks (key_of words come) ++ come)) there stood (closing_none come none)

ending_kept : (words : Words) (p : Phase) (come : List Mark) (there : Bool) (stood : List Bool)
    → Match p (commands come) there stood → AfterEnding words p come there stood
ending_kept words Down come there stood m = ending_gone words come there stood m.1
ending_kept words Opening come there stood m =
    open_tasks (owed come && is_in_time (ending come) (time come))
    (commands (closing_marks (key_of words come) ++ come)) there stood (closing_none come m.2) m.0 m.1
ending_kept words Up come there stood m =
    release_tasks (on come) (not (length (waiting come) == 0) && is_in_time (ending come) (time come)) come there stood
    m.0 m.1

release_at : (words : Words) (now : ℕ) (octets : List ℕ) (end : Option End) (past : List Mark) (lines : List KeyLine)
    → At [] past lines
    → At (asks words (Release now octets end) past) (ended words now octets end past)
    (lines_read (Release now octets end) lines)
release_at words now octets end past lines m =
    let come = read words now octets end past in
    let new = lines_read (Release now octets end) lines in
    let P : Phase → Type 0 = λ p. AfterEnding words p come (is_open new) (open_commands new) in
    let after : P (phase come) = elim (level_read words now octets end past) [
      | inl gone ↦ subst P (sym gone.0) (ending_gone words come (is_open new) (open_commands new) gone.1)
      | inr level ↦ subst P (sym level.0) (ending_kept words (phase past) come (is_open new) (open_commands new)
          (match_read (phase past) (commands past) (commands come) (is_open lines) (is_open new) (open_commands lines)
          (open_commands new) level.1 (open_read now octets end lines) (commands_read now octets end lines) m))
    ] in
    at_phase (asks words (Release now octets end) past) (phase come) (phase (ended words now octets end past))
    (commands (ended words now octets end past)) (is_open new) (open_commands new)
    (sym (closing_phase (on come) come)) after

-- ---- a tick

keys_keying : (words : Words) → keys (keying_command words) ≡ true
keys_keying words = cond_both words.data KeyData KeyOn (λ c. keys c ≡ true) (λ _. refl) (λ _. refl)

abbrev acts : Bool → Bool → Bool → Words → Act
acts begins limit over words = if begins then record { command = Some (keying_command words); report = None }
    else if limit then record { command = Some Unkey; report = Some (Off Limit) }
    else if over then record { command = Some Unkey; report = None }
    else record { command = None; report = None }

abbrev acted : Bool → Bool → Bool → List Mark
acted begins limit over = if begins then Keyed ∷ [] else if limit then Cut Limit ∷ Released ∷ []
    else if over then Released ∷ [] else []

acted_phase : (begins limit over : Bool) (past : List Mark) → phase (acted begins limit over ++ past) ≡ phase past
acted_phase true limit over past = refl
acted_phase false true over past = refl
acted_phase false false true past = refl
acted_phase false false false past = refl

acts_meet : (begins limit over : Bool) (words : Words) (p : Phase) (past : List Mark) (there : Bool)
    (stood : List Bool) → Match p (commands past) there stood
    → (begins ≡ true → p ≡ Up) → (limit ≡ true → p ≡ Up) → (over ≡ true → p ≡ Up)
    → Meets (tasks_of_command (acts begins limit over words).command) p (commands (acted begins limit over ++ past))
    there stood
acts_meet true limit over words p past there stood m a b c =
    let up = up_parts p (commands past) there stood (a refl) m in (
      a refl,
      up.0,
      ap (λ k. k ∷ commands past) (sym (keys_keying words))
          ∙ ap (λ cs. keys (keying_command words) ∷ cs) up.1,
    )
acts_meet false true over words p past there stood m a b c =
    let up = up_parts p (commands past) there stood (b refl) m in (b refl, up.0, ap (λ cs. false ∷ cs) up.1)
acts_meet false false true words p past there stood m a b c =
    let up = up_parts p (commands past) there stood (c refl) m in (c refl, up.0, ap (λ cs. false ∷ cs) up.1)
acts_meet false false false words p past there stood m a b c = m

up_is : (p : Phase) → is_up p ≡ true → p ≡ Up
up_is Down is = absurd (cc)
up_is Opening is = absurd (cc)
up_is Up is = refl

tick_at : (words : Words) (sounds : Bool) (past : List Mark) (lines : List KeyLine) → At [] past lines
    → At (asks words (Tick sounds) past) (ticked words sounds past) lines
tick_at words sounds past lines m =
    let key = key_of words past in
    let needed = wanted words.tail (sounds ∷ ticks past) in
    let up = up_if_on (phase past) past (is_open lines) (open_commands lines) m in
    at_phase (asks words (Tick sounds) past) (phase past) (phase (ticked words sounds past))
    (commands (ticked words sounds past)) (is_open lines) (open_commands lines)
    (sym (acted_phase (free key && sounds) (is_at_limit key) (on past && not needed) past))
    (acts_meet (free key && sounds) (is_at_limit key) (on past && not needed) words (phase past) past (is_open lines)
    (open_commands lines) m
    (λ begins. up_is (phase past) (and_parts _ _ (and_parts _ _ begins).0).0)
    (λ limit. up (and_parts _ _ limit).0)
    (λ over. up (and_parts _ _ over).0))

-- ---- after the samples of a tick

failing_phase : (b : Bool) (past : List Mark)
    → phase ((if b then WriteFault ∷ Released ∷ [] else WriteFault ∷ []) ++ past) ≡ phase past
failing_phase true past = refl
failing_phase false past = refl

failing_meets : (b : Bool) (p : Phase) (past : List Mark) (there : Bool) (stood : List Bool)
    → Match p (commands past) there stood → (b ≡ true → p ≡ Up)
    → Meets (tasks_of_command (if b then Some Unkey else None)) p
    (commands ((if b then WriteFault ∷ Released ∷ [] else WriteFault ∷ []) ++ past)) there stood
failing_meets true p past there stood m a =
    let up = up_parts p (commands past) there stood (a refl) m in (a refl, up.0, ap (λ cs. false ∷ cs) up.1)
failing_meets false p past there stood m a = m

write_at : (words : Words) (fault : Bool) (past : List Mark) (lines : List KeyLine) → At [] past lines
    → At (asks words (AfterWrite fault) past) (written words fault past) lines
write_at words false past lines m = m
write_at words true past lines m =
    at_phase (asks words (AfterWrite true) past) (phase past) (phase (written words true past))
    (commands (written words true past)) (is_open lines) (open_commands lines)
    (sym (failing_phase (on past) past))
    (failing_meets (on past) (phase past) past (is_open lines) (open_commands lines) m
    (up_if_on (phase past) past (is_open lines) (open_commands lines) m))

-- ---- a try that has ended

try_in : (p : Phase) (past : List Mark) (there : Bool) (stood : List Bool) → phase past ≡ p → is_up p ≡ false
    → commands past ≡ [] → there ≡ true → stood ≡ []
    → Meets [] (phase (try_marks_in p NotYet ++ past)) (commands (try_marks_in p NotYet ++ past)) there stood
try_in Down past there stood is low none here bare = (here, bare, refl)
try_in Opening past there stood is low none here bare =
    at_phase [] Opening (phase past) (commands past) there stood (sym is) (here, bare, none)
try_in Up past there stood is low none here bare = absurd (cc)

written_in : (p : Phase) (past : List Mark) (there : Bool) (stood : List Bool) → is_up p ≡ false → there ≡ true
    → stood ≡ false ∷ []
    → Meets [] (phase (try_marks_in p Written ++ past)) (commands (try_marks_in p Written ++ past)) there stood
written_in Down past there stood low here first = (here, sym first)
written_in Opening past there stood low here first = (here, sym first)
written_in Up past there stood low here first = absurd (cc)

refused_in : (p : Phase) (past : List Mark) (there : Bool) (stood : List Bool) → is_up p ≡ false
    → Meets (GiveUp ∷ []) (phase (try_marks_in p Refused ++ past)) (commands (try_marks_in p Refused ++ past)) there
    stood
refused_in Down past there stood low = (refl, refl, tt)
refused_in Opening past there stood low = (refl, refl, tt)
refused_in Up past there stood low = absurd (cc)

failed_in : (p : Phase) (past : List Mark) (there : Bool) (stood : List Bool) → p ≡ Up
    → Meets (GiveUp ∷ []) (phase (end_marks_in p Fault ++ past)) (commands (end_marks_in p Fault ++ past)) there stood
failed_in Down past there stood is = absurd (cc)
failed_in Opening past there stood is = absurd (cc)
failed_in Up past there stood is = (refl, refl, tt)

told_at : (words : Words) (told : Call) (tasks : List Task) (past : List Mark) (lines : List KeyLine)
    → At (Tell told ∷ tasks) past lines
    → At (asks words told past) (called words told past) (lines_read told lines)
told_at words (Turn now octets end) tasks past lines m = absurd m
told_at words (AfterTry Refused) tasks past lines m =
    refused_in (phase past) past (is_open lines) (open_commands lines) m
told_at words (AfterTry NotYet) tasks past lines m = absurd m
told_at words (AfterTry Written) tasks past lines m =
    written_in (phase past) past (is_open lines) (open_commands lines) m.0 m.1 m.2
told_at words (Tick sounds) tasks past lines m = absurd m
told_at words (AfterWrite fault) tasks past lines m = absurd m
told_at words CommandFailed tasks past lines m =
    failed_in (phase past) past (is_open lines) (open_commands lines) m
told_at words (Release now octets end) tasks past lines m = absurd m

-- ---- the events

call_begins : (words : Words) (call : Call) (past : List Mark) (lines : List KeyLine) → Does (Called call) []
    → At [] past lines → At (asks words call past) (called words call past) (lines_read call lines)
call_begins words (Turn now octets end) past lines does m = turn_at words now octets end past lines m
call_begins words (AfterTry how) past lines does m = absurd does
call_begins words (Tick sounds) past lines does m = tick_at words sounds past lines m
call_begins words (AfterWrite fault) past lines does m = write_at words fault past lines m
call_begins words CommandFailed past lines does m = absurd does
call_begins words (Release now octets end) past lines does m = release_at words now octets end past lines m

call_at : (words : Words) (call : Call) (tasks : List Task) (past : List Mark) (lines : List KeyLine)
    → Does (Called call) tasks → At tasks past lines
    → At (asks words call past) (called words call past) (lines_read call lines)
call_at words call [] past lines does m = call_begins words call past lines does m
call_at words call (Connect ∷ tasks) past lines does m = absurd does
call_at words call (Open ∷ tasks) past lines does m =
    let P : Call → Type 0 = λ c. At (asks words c past) (called words c past) (lines_read c lines) in
    subst P (sym does)
    (try_in (phase past) past (is_open lines) (open_commands lines) refl m.0 m.1 m.2 m.3)
call_at words call (Write command ∷ tasks) past lines does m = absurd does
call_at words call (Tell told ∷ tasks) past lines does m =
    let P : Call → Type 0 = λ c. At (asks words c past) (called words c past) (lines_read c lines) in
    subst P (sym does) (told_at words told tasks past lines m)
call_at words call (GiveUp ∷ tasks) past lines does m = absurd does

low_down : (p : Phase) → p ≡ Down → is_up p ≡ false
low_down p is = ap is_up is

began_at : (port : ℕ) (tasks : List Task) (past : List Mark) (lines : List KeyLine) → Does Began tasks
    → At tasks past lines → At (Open ∷ []) past (after_connect port lines)
began_at port [] past lines does m = absurd does
began_at port (Connect ∷ tasks) past lines does m =
    (low_down (phase past) m.0, m.1, open_connect port lines, commands_connect port lines)
began_at port (Open ∷ tasks) past lines does m = absurd does
began_at port (Write command ∷ tasks) past lines does m = absurd does
began_at port (Tell told ∷ tasks) past lines does m = absurd does
began_at port (GiveUp ∷ tasks) past lines does m = absurd does

not_begun_at : (tasks : List Task) (past : List Mark) (lines : List KeyLine) → Does NotBegun tasks
    → At tasks past lines → is_up (phase past) ≡ false
not_begun_at [] past lines does m = absurd does
not_begun_at (Connect ∷ tasks) past lines does m = low_down (phase past) m.0
not_begun_at (Open ∷ tasks) past lines does m = absurd does
not_begun_at (Write command ∷ tasks) past lines does m = absurd does
not_begun_at (Tell told ∷ tasks) past lines does m = absurd does
not_begun_at (GiveUp ∷ tasks) past lines does m = absurd does

wrote_at : (command : Command) (had place : ℕ) (tasks : List Task) (past : List Mark) (lines : List KeyLine)
    → Does (Wrote command had) tasks → At tasks past lines
    → At (after_written tasks) past (with_last (after_write command place) lines)
wrote_at command had place [] past lines does m = absurd does
wrote_at command had place (Connect ∷ tasks) past lines does m = absurd does
wrote_at command had place (Open ∷ tasks) past lines does m = (
  m.0,
  open_write command place lines ∙ m.2,
  commands_write command place lines m.2 ∙ ap (λ c. keys c ∷ open_commands lines) does ∙ ap (λ cs. false ∷ cs) m.3,
)
wrote_at command had place (Write asked ∷ tasks) past lines does m =
    let new = with_last (after_write command place) lines in
    at_phase [] Up (phase past) (commands past) (is_open new) (open_commands new) (sym m.0) (
      open_write command place lines ∙ m.1,
      m.2 ∙ ap (λ c. keys c ∷ open_commands lines) (sym does) ∙ sym (commands_write command place lines m.1),
    )
wrote_at command had place (Tell told ∷ tasks) past lines does m = absurd does
wrote_at command had place (GiveUp ∷ tasks) past lines does m = absurd does

not_written_at : (tasks : List Task) (past : List Mark) (lines : List KeyLine) → Does NotWritten tasks
    → At tasks past lines → At (after_unwritten tasks) past lines
not_written_at [] past lines does m = absurd does
not_written_at (Connect ∷ tasks) past lines does m = absurd does
not_written_at (Open ∷ tasks) past lines does m = m.0
not_written_at (Write asked ∷ tasks) past lines does m = m.0
not_written_at (Tell told ∷ tasks) past lines does m = absurd does
not_written_at (GiveUp ∷ tasks) past lines does m = absurd does

given_up : (tasks : List Task) (p : Phase) (known : List Bool) (there : Bool) (stood : List Bool) → p ≡ Down
    → known ≡ [] → there ≡ false → IsBegun tasks → Meets tasks p known there stood
given_up [] p known there stood down none closed begun =
    at_phase [] Down p known there stood (sym down) (closed, none)
given_up (Connect ∷ tasks) p known there stood down none closed begun = (down, none)
given_up (Open ∷ tasks) p known there stood down none closed begun = absurd begun
given_up (Write command ∷ tasks) p known there stood down none closed begun = absurd begun
given_up (Tell told ∷ tasks) p known there stood down none closed begun = absurd begun
given_up (GiveUp ∷ tasks) p known there stood down none closed begun = absurd begun

hung_up_at : (tasks : List Task) (past : List Mark) (lines : List KeyLine) → Does HungUp tasks
    → At tasks past lines → At (drop 1 tasks) past (with_last after_drop lines)
hung_up_at [] past lines does m = absurd does
hung_up_at (Connect ∷ tasks) past lines does m = absurd does
hung_up_at (Open ∷ tasks) past lines does m = absurd does
hung_up_at (Write command ∷ tasks) past lines does m = absurd does
hung_up_at (Tell told ∷ tasks) past lines does m = absurd does
hung_up_at (GiveUp ∷ tasks) past lines does m =
    given_up tasks (phase past) (commands past) (is_open (with_last after_drop lines))
    (open_commands (with_last after_drop lines)) m.0 m.1 (open_drop lines) m.2

pub meets : (words : Words) (port start : ℕ) (was : List KeyLine) (events : List KeyEvent) → Obeys words events
    → is_open was ≡ false
    → At (to_do words events) (marks_of words events) (lines_of port start was events)
meets words port start was [] obeys closed = (closed, refl)
meets words port start was (Called call ∷ events) obeys closed =
    call_at words call (to_do words events) (marks_of words events) (lines_of port start was events) obeys.0
    (meets words port start was events obeys.1 closed)
meets words port start was (Began ∷ events) obeys closed =
    began_at port (to_do words events) (marks_of words events) (lines_of port start was events) obeys.0
    (meets words port start was events obeys.1 closed)
meets words port start was (NotBegun ∷ events) obeys closed =
    not_begun_at (to_do words events) (marks_of words events) (lines_of port start was events) obeys.0
    (meets words port start was events obeys.1 closed)
meets words port start was (Wrote command had ∷ events) obeys closed =
    wrote_at command had (start + had) (to_do words events) (marks_of words events) (lines_of port start was events)
    obeys.0 (meets words port start was events obeys.1 closed)
meets words port start was (NotWritten ∷ events) obeys closed =
    not_written_at (to_do words events) (marks_of words events) (lines_of port start was events) obeys.0
    (meets words port start was events obeys.1 closed)
meets words port start was (HungUp ∷ events) obeys closed =
    hung_up_at (to_do words events) (marks_of words events) (lines_of port start was events) obeys.0
    (meets words port start was events obeys.1 closed)

match_same : (p : Phase) (known : List Bool) (lines : List KeyLine)
    → Match p known (is_open lines) (open_commands lines) → known ≡ open_commands lines
match_same Down known lines m = m.1 ∙ sym (closed_commands lines m.0)
match_same Opening known lines m = m.2 ∙ sym m.1
match_same Up known lines m = m.1

settled : (tasks : List Task) (past : List Mark) (lines : List KeyLine) → tasks ≡ [] → At tasks past lines
    → commands past ≡ open_commands lines
settled tasks past lines none m =
    let P : List Task → Type 0 = λ ts. At ts past lines in
    match_same (phase past) (commands past) lines (subst P none m)

-- the commands that the machine knows are those on the line
pub same_commands : (words : Words) (port start : ℕ) (was : List KeyLine) (events : List KeyEvent)
    → Obeys words events → is_open was ≡ false → to_do words events ≡ []
    → commands (marks_of words events) ≡ open_commands (lines_of port start was events)
same_commands words port start was events obeys closed none =
    settled (to_do words events) (marks_of words events) (lines_of port start was events) none
    (meets words port start was events obeys closed)
