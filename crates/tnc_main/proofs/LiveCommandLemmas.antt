-- Words that ask for a live command ask for one, for no job and within its ranges.
use Rattle.tnc_main.proofs.Common.{◌≡◌, ℕ, ◌≤◌, List, Option, Some, None, refl, subst, sym, ap, ◌∙◌, arith}
use Rattle.tnc_main.proofs.Common.{BenchOptions, Command, Bench, Loop, Serve, Record, Call, LoopWords, RecordOptions}
use Rattle.tnc_main.proofs.Common.{Asks, one_command, Reads, ReadsNothing, CanRunLive, command_of, WritesAtEnd, Job}
use Rattle.tnc_main.proofs.Common.{CanRun}
use Rattle.std.proofs.Common.{Bool, true, false, ◌||◌}
use Rattle.std.specs.Prelude.{is_some}
use Rattle.link_world.proofs.WindowLemmas.{none_refused}
use Rattle.tnc_words.specs.Commands.{IsBench, IsLoop}
use Rattle.slicer_bank.specs.Detection.{CanBeAsked}
use Rattle.live_receiver.specs.declared.listening.Listening.TheVariants.{ShortWave, Fx25}
use Rattle.live_receiver.specs.Listening.{CanBeAskedBy}
use Rattle.tnc_words.specs.Carriers.{HasDcd}
use Rattle.tnc_words.specs.Numbers.{HasNumber}
use Rattle.tnc_words.specs.StationModems.{IsStationModem}
use Rattle.tnc_words.specs.declared.command.StationModem.{StationModem}
use Rattle.tnc_words.specs.declared.command.StationModem.TheVariants.{Bell202 as OfBell202, ShortWave as OfShortWave, Fx25 as OfFx25}
use Rattle.tnc_words.specs.declared.command.Dcd.{Dcd}
use Rattle.tnc_words.specs.declared.command.Dcd.TheVariants.{Tones as ByTones, Flags as ByFlags}
use Rattle.tnc_main.specs.Serving.{detection_of, listening_of}
use Rattle.tnc_main.specs.declared.live_command.LiveCommand.{LiveCommand}
use Rattle.tnc_main.specs.declared.live_command.LiveCommand.TheVariants.{Serve as LiveServe, Record as LiveRecord}
use Rattle.tnc_main.specs.declared.live_command.LiveCommand.TheVariants.{Call as LiveCall}
use Rattle.tnc_main.specs.LiveCommands.{AskNoPorts}

-- a live command is known by the command that it is
one_of_command : (live other : LiveCommand) → command_of live ≡ command_of other → live ≡ other
one_of_command (LiveServe options) (LiveServe others) is = let both : Serve options ≡ Serve others = is in cc both
one_of_command (LiveServe options) (LiveRecord others) is = let both : Serve options ≡ Record others = is in cc both
one_of_command (LiveServe options) (LiveCall others) is = let both : Serve options ≡ Call others = is in cc both
one_of_command (LiveRecord options) (LiveServe others) is = let both : Record options ≡ Serve others = is in cc both
one_of_command (LiveRecord options) (LiveRecord others) is = let both : Record options ≡ Record others = is in cc both
one_of_command (LiveRecord options) (LiveCall others) is = let both : Record options ≡ Call others = is in cc both
one_of_command (LiveCall options) (LiveServe others) is = let both : Call options ≡ Serve others = is in cc both
one_of_command (LiveCall options) (LiveRecord others) is = let both : Call options ≡ Record others = is in cc both
one_of_command (LiveCall options) (LiveCall others) is = let both : Call options ≡ Call others = is in cc both

never_at_end : (live : LiveCommand) → WritesAtEnd (command_of live) → ⊥
never_at_end (LiveServe options) h = h
never_at_end (LiveRecord options) h = h
never_at_end (LiveCall options) h = h

reads_on : (live : LiveCommand) → ReadsNothing (command_of live) → ⊥
reads_on (LiveServe options) h = h
reads_on (LiveRecord options) h = h
reads_on (LiveCall options) h = h

reads_as_no_job : (live : LiveCommand) (left : Option (List ℕ)) (octets : List ℕ) → Reads (command_of live) left octets
    → ⊥
reads_as_no_job (LiveServe options) left octets h = h
reads_as_no_job (LiveRecord options) left octets h = h
reads_as_no_job (LiveCall options) left octets h = h

is_no_bench : (live : LiveCommand) (bench : BenchOptions) → Bench bench ≡ command_of live → ⊥
is_no_bench (LiveServe options) bench is = let both : Bench bench ≡ Serve options = is in cc both
is_no_bench (LiveRecord options) bench is = let both : Bench bench ≡ Record options = is in cc both
is_no_bench (LiveCall options) bench is = let both : Bench bench ≡ Call options = is in cc both

is_no_loop : (live : LiveCommand) (loop : LoopWords) → Loop loop ≡ command_of live → ⊥
is_no_loop (LiveServe options) loop is = let both : Loop loop ≡ Serve options = is in cc both
is_no_loop (LiveRecord options) loop is = let both : Loop loop ≡ Record options = is in cc both
is_no_loop (LiveCall options) loop is = let both : Loop loop ≡ Call options = is in cc both

runs_on : (live : LiveCommand) → CanRun (command_of live) → ⊥
runs_on (LiveServe options) h = h
runs_on (LiveRecord options) h = h
runs_on (LiveCall options) h = h

-- words that ask for a command that is run to its end ask for no live one
pub not_live : (words : List (List ℕ)) (command : Command) (live : LiveCommand) → CanRun command → Asks words command
    → Asks words (command_of live) → ⊥
not_live words command live can asks asked =
    runs_on live (subst CanRun (one_command words command (command_of live) asks asked) can)

-- a number of an option, or its default, is within the bounds if the default is
within : (text : Option (List ℕ)) (default least greatest number : ℕ) → least ≤ default → default ≤ greatest
    → HasNumber text default least greatest number → (least ≤ number) × (number ≤ greatest)
within None default least greatest number low high h = (omega (arith, h), omega (arith, h))
within (Some text) default least greatest number low high h = (h.1, h.2)

module _ (words : List (List ℕ)) (live : LiveCommand) (asks : Asks words (command_of live)) where
  pub one_live : (other : LiveCommand) → Asks words (command_of other) → live ≡ other
  one_live other asked = one_of_command live other (one_command words (command_of live) (command_of other) asks asked)

  pub no_job : (left : Option (List ℕ)) (code : ℕ) → Job words left code → ⊥
  no_job left code job =
      reads_as_no_job live left job.octets
      (subst (λ command. Reads command left job.octets)
      (one_command words job.command (command_of live) job.asked asks) job.reads)

  pub not_at_end : (command : Command) → Asks words command → WritesAtEnd command → ⊥
  not_at_end command asked h =
      never_at_end live (subst WritesAtEnd (one_command words command (command_of live) asked asks) h)

  pub not_unread : (command : Command) → Asks words command → ReadsNothing command → ⊥
  not_unread command asked h =
      reads_on live (subst ReadsNothing (one_command words command (command_of live) asked asks) h)

  pub no_bench : (bench : BenchOptions) → IsBench words bench → ⊥
  no_bench bench asked = is_no_bench live bench (one_command words (Bench bench) (command_of live) asked asks)

  pub no_loop : (loop : LoopWords) → IsLoop words loop → ⊥
  no_loop loop asked = is_no_loop live loop (one_command words (Loop loop) (command_of live) asked asks)

-- of the live commands record alone has nothing to do with ports
pub only_record : (words : List (List ℕ)) (live : LiveCommand) → AskNoPorts words → Asks words (command_of live)
    → (options : RecordOptions) × (live ≡ LiveRecord options)
only_record words (LiveServe options) alone asks = absurd (alone.serve options asks)
only_record words (LiveRecord options) alone asks = (options, refl)
only_record words (LiveCall options) alone asks = absurd (alone.call options asks)

flags_are_no_tones : (count : ℕ) → ByFlags count ≡ ByTones → ⊥
flags_are_no_tones count is = cc is

-- what the words say of the channel can be asked for
asked_plainly : (text : Option (List ℕ)) (dcd : Dcd) → HasDcd false text dcd → CanBeAsked (detection_of dcd)
asked_plainly text ByTones h = tt
asked_plainly None (ByFlags count) h = absurd (flags_are_no_tones count h)
asked_plainly (Some text) (ByFlags count) h = (h.1, h.2)

-- flags in a row can be
asked_by_flags : (text : Option (List ℕ)) (dcd : Dcd) → HasDcd true text dcd
    → (count : ℕ) × (dcd ≡ ByFlags count) × (1 ≤ count) × (count ≤ 8)
asked_by_flags None dcd h = (3, h, omega arith, omega arith)
asked_by_flags (Some text) ByTones h = absurd h
asked_by_flags (Some text) (ByFlags count) h = (count, refl, (let least = h.1 in omega arith), h.2)

asked_on_wave : (sensitive : Bool) (text : Option (List ℕ)) (dcd : Dcd) → HasDcd true text dcd
    → CanBeAskedBy (ShortWave sensitive) (detection_of dcd)
asked_on_wave sensitive text dcd h =
    let by = asked_by_flags text dcd h in
    subst (λ d. CanBeAskedBy (ShortWave sensitive) (detection_of d)) (sym by.1) (by.2, by.3)

asked_of_blocks : (sensitive : Bool) (text : Option (List ℕ)) (dcd : Dcd) → HasDcd true text dcd
    → CanBeAskedBy (Fx25 sensitive) (detection_of dcd)
asked_of_blocks sensitive text dcd h =
    let by = asked_by_flags text dcd h in
    subst (λ d. CanBeAskedBy (Fx25 sensitive) (detection_of d)) (sym by.1) (by.2, by.3)

can_be_asked : (hf sensitive : Bool) (checks text : Option (List ℕ)) (dcd : Dcd) (modem : StationModem)
    → HasDcd (hf || is_some checks) text dcd → IsStationModem hf sensitive checks modem
    → CanBeAskedBy (listening_of modem) (detection_of dcd)
can_be_asked hf sensitive None text dcd (OfBell202 more) h is =
    asked_plainly text dcd (subst (λ b. HasDcd (b || false) text dcd) is.0 h)
can_be_asked hf sensitive None text dcd (OfShortWave more) h is =
    asked_on_wave more text dcd (subst (λ b. HasDcd (b || false) text dcd) is.0 h)
can_be_asked hf sensitive None text dcd (OfFx25 sent more) h is = absurd is
can_be_asked hf sensitive (Some checks) text dcd (OfBell202 more) h is = absurd is
can_be_asked hf sensitive (Some checks) text dcd (OfShortWave more) h is = absurd is
can_be_asked hf sensitive (Some checks) text dcd (OfFx25 sent more) h is =
    asked_of_blocks more text dcd (subst (λ b. HasDcd (b || true) text dcd) is.0 h)

-- the options of a live command that words ask for are within their ranges
pub can_run_live : (words : List (List ℕ)) (live : LiveCommand) → Asks words (command_of live) → CanRunLive live
can_run_live words (LiveServe options) h = (
  λ window. none_refused options.params window h.options.params.fit,
  can_be_asked _ _ _ _ options.dcd options.modem h.options.dcd
      h.options.modem,
)
can_run_live words (LiveRecord options) h =
    within _ 576000 1 17280000 options.keep (omega arith) (omega arith) h.options.keep
can_run_live words (LiveCall options) h =
    let expect = within _ 0 0 1000000 options.expect (omega arith) (omega arith) h.options.expect in
    let polls = within _ 100000 1 1000000 options.polls (omega arith) (omega arith) h.options.polls in
    (expect.1, polls.0, polls.1)
