-- What an event adds: to what is left to do, to the line, to its faults.
use Rattle.std.proofs.Common.{◌≡◌, ◌≢◌, ℕ, ◌+◌, List, [], ◌∷◌, ◌++◌, length, refl, ap, sym, subst, ◌∙◌, arith}
use Rattle.std.proofs.lemmas.List.{append_assoc}
use Rattle.std.proofs.lemmas.List.Elements.{All-from_recursion, All-append}
use Rattle.std.specs.Prelude.{Bool, true, false, ◌||◌, Option, Some, None, option_map}
use Rattle.keying.specs.declared.command.Command.{Command}
use Rattle.keying.specs.declared.line.End.{End}
use Rattle.keying.specs.declared.line.End.TheVariants.{Closed, Fault}
use Rattle.keying.specs.declared.machine.Words.{Words}
use Rattle.keying.specs.declared.report.Report.{Report}
use Rattle.keying.specs.Key.{Key}
use Rattle.tnc_base.specs.Faults.{HasRisen}
use Rattle.key_port.specs.KeyCalls.{FollowsUp, StandsAt}
use Rattle.key_port.specs.KeyEvents.{KeyEvent, Task, Obeys, Does, lines_of, to_do, reports_of}
use Rattle.key_port.specs.KeyEvents.KeyEvent.{Wrote}
use Rattle.key_port.specs.KeyFaults.{is_fault}
use Rattle.key_port.specs.KeyLines.{KeyLine, LineTold, with_last, after_write}
use Rattle.key_port.specs.KeyTasks.{DoesTasks, LineGoes, CountsIf, FaultsGo}

pub obeys_next : (words : Words) (event : KeyEvent) (events : List KeyEvent) (tasks : List Task)
    → to_do words events ≡ tasks → Obeys words events → Does event tasks → Obeys words (event ∷ events)
obeys_next words event events tasks left obeys does =
    let P : List Task → Type 0 = λ ts. Does event ts in (subst P (sym left) does, obeys)

-- ---- the line

-- connections that are told, after one more change
mapped : (was : Option (List KeyLine)) (change before after : List KeyLine → List KeyLine)
    → ((lines : List KeyLine) → after lines ≡ change (before lines))
    → option_map change (option_map before was) ≡ option_map after was
mapped None change before after same = refl
mapped (Some lines) change before after same = ap (λ (ls : List KeyLine). Some ls) (sym (same lines))

pub line_step : (port octets : ℕ) (written : Option (List ℕ)) (events later : List KeyEvent) (event : KeyEvent)
    (change : List KeyLine → List KeyLine) (before between after : Option (List KeyLine))
    → ((start : ℕ) (lines : List KeyLine)
    → lines_of port start lines (event ∷ later) ≡ change (lines_of port start lines later))
    → LineGoes port octets written events later before between → after ≡ option_map change between
    → LineGoes port octets written events (event ∷ later) before after
line_step port octets written events later event change before between after same goes is = λ start was has e.
    is ∙ ap (option_map change) (goes start was has e)
    ∙ mapped was change (λ lines. lines_of port start lines later) (λ lines. lines_of port start lines (event ∷ later))
    (same start)

pub line_wrote : (port octets : ℕ) (written : Option (List ℕ)) (command : Command) (events : List KeyEvent)
    (before after : Option (List KeyLine))
    → ((had : List ℕ) → written ≡ Some had
    → after ≡ option_map (with_last (after_write command (length had))) before)
    → LineGoes port octets written events (Wrote command octets ∷ events) before after
line_wrote port octets written command events before after wrote = λ start was has e.
    wrote has.out has.is
    ∙ ap (λ n. option_map (with_last (after_write command n)) before) has.size
    ∙ ap (option_map (with_last (after_write command (start + octets)))) e
    ∙ mapped was (with_last (after_write command (start + octets))) (λ lines. lines_of port start lines events)
    (λ lines. lines_of port start lines (Wrote command octets ∷ events)) (λ lines. refl)

-- ---- faults

risen_on : (a b c : ℕ) → HasRisen a b → HasRisen b c → HasRisen a c
risen_on a b c first second = omega (arith, first, second)

-- something fails after this, which the line counts
pub count_more : (failed : Bool) (start before after : ℕ) → CountsIf failed start before → HasRisen before after
    → HasRisen start after
count_more true start before after counted risen = risen_on start before after counted risen
count_more false start before after counted risen =
    let P : ℕ → Type 0 = λ n. HasRisen n after in subst P counted risen

-- nothing fails
pub count_same : (failed : Bool) (start before after : ℕ) → CountsIf failed start before → after ≡ before
    → CountsIf failed start after
count_same failed start before after counted same =
    let P : ℕ → Type 0 = λ n. CountsIf failed start n in subst P (sym same) counted

-- a read
pub count_read : (end : Option End) (failed : Bool) (start before after : ℕ) → (end ≢ Some Fault → after ≡ before)
    → (end ≡ Some Fault → HasRisen before after) → CountsIf failed start before
    → CountsIf (is_fault end || failed) start after
count_read None failed start before after same risen counted =
    count_same failed start before after counted (same (λ e. absurd (cc)))
count_read (Some Closed) failed start before after same risen counted =
    count_same failed start before after counted (same (λ e. absurd (cc)))
count_read (Some Fault) failed start before after same risen counted =
    count_more failed start before after counted (risen refl)

-- ---- what is done for an event stands before the rest

unfoldable pub prepended : (words : Words) (port octets : ℕ) (written : Option (List ℕ)) (event : KeyEvent)
    (events : List KeyEvent) (reported : List Report) (key : Key) (before between after : LineTold)
    → FollowsUp event → StandsAt octets event → reports_of words (event ∷ events) ≡ reports_of words events
    → LineGoes port octets written events (event ∷ events) before.lines between.lines
    → FaultsGo events (event ∷ events) before.faults between.faults
    → DoesTasks words port octets written (event ∷ events) reported key between after
    → DoesTasks words port octets written events reported key before after
prepended words port octets written event events reported key before between after follows stands silent line faults d =
    record {
      more = d.more ++ event ∷ [];
      new = d.new;
      is = d.is ∙ sym (append_assoc d.more (event ∷ []) events);
      follow = All-append FollowsUp d.more (event ∷ []) d.follow (All-from_recursion FollowsUp (event ∷ []) (follows, tt));
      order = All-append (StandsAt octets) d.more (event ∷ []) d.order
          (All-from_recursion (StandsAt octets) (event ∷ []) (stands, tt));
      done = d.done;
      told = d.told ∙ ap (λ (rs : List Report). rs ++ reported) silent;
      line = λ start was has e. d.line start was has (line start was has e);
      faults = λ start counted. d.faults start (faults start counted);
    }
