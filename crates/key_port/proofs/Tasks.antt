-- Each task that is left, done on the line.
use Rattle.std.proofs.Common.{◌≡◌, ℕ, List, [], ◌∷◌, ◌++◌, length, refl, ap, sym, subst, ◌∙◌}
use Rattle.std.proofs.lemmas.List.{append-nil}
use Rattle.std.proofs.lemmas.List.Elements.{All-from_recursion, All-nil}
use Rattle.std.specs.Prelude.{Option, Some, option_map}
use Rattle.keying.specs.declared.command.Command.{Command}
use Rattle.keying.specs.declared.command.Command.TheVariants.{Release as Unkey}
use Rattle.keying.specs.declared.line.Try.TheVariants.{Refused, NotYet, Written}
use Rattle.keying.specs.declared.machine.Words.{Words}
use Rattle.keying.specs.declared.report.Report.{Report}
use Rattle.keying.specs.declared.report.Why.{Why}
use Rattle.keying.specs.Calls.{tried, command_failed}
use Rattle.keying.specs.Calls.Call.{AfterTry, CommandFailed}
use Rattle.keying.specs.Kept.{StandsFor}
use Rattle.keying.specs.Key.{Key}
use Rattle.keying.specs.Told.{try_told, fault_told}
use Rattle.tnc_base.specs.Faults.{HasRisen}
use Rattle.key_port.specs.KeyCalls.{FollowsUp, StandsAt}
use Rattle.key_port.specs.KeyEvents.{KeyEvent, Task, marks_of, reports_of, lost_report, after_written, after_unwritten}
use Rattle.key_port.specs.KeyEvents.KeyEvent.{Called, Began, NotBegun, Wrote, NotWritten, HungUp}
use Rattle.key_port.specs.KeyEvents.Task.{Connect, Open, Write, Tell, GiveUp}
use Rattle.key_port.specs.KeyFaults.{has_failed}
use Rattle.key_port.specs.KeyLines.{LineTold, with_last, after_connect, after_write, after_drop}
use Rattle.key_port.specs.KeyTasks.{IsDoing, DoesTasks}
use Rattle.key_port.proofs.Steps.{obeys_next, line_step, line_wrote, count_more, count_same, prepended}

-- ---- nothing is left

pub nothing_left : (words : Words) (port octets : ℕ) (written : Option (List ℕ)) (events : List KeyEvent) (key : Key)
    (told : LineTold) → IsDoing words [] events key
    → DoesTasks words port octets written events [] key told told
nothing_left words port octets written events key told doing = record {
  more = [];
  new = events;
  is = refl;
  follow = All-nil FollowsUp;
  order = All-nil (StandsAt octets);
  done = doing;
  told = sym (append-nil (reports_of words events));
  line = λ start was has e. e;
  faults = λ start counted. counted;
}

-- ---- a command

pub command_written : (words : Words) (port octets : ℕ) (written : Option (List ℕ)) (command : Command)
    (tasks : List Task) (events : List KeyEvent) (key : Key) (before after : LineTold)
    → IsDoing words (Write command ∷ tasks) events key
    → ((had : List ℕ) → written ≡ Some had
    → after.lines ≡ option_map (with_last (after_write command (length had))) before.lines)
    → after.faults ≡ before.faults → DoesTasks words port octets written events [] key before after
command_written words port octets written command tasks events key before after doing wrote same = record {
  more = Wrote command octets ∷ [];
  new = Wrote command octets ∷ events;
  is = refl;
  follow = All-from_recursion FollowsUp (Wrote command octets ∷ []) (tt, tt);
  order = All-from_recursion (StandsAt octets) (Wrote command octets ∷ []) (refl, tt);
  done = record {
    stands = doing.stands;
    obeys = obeys_next words (Wrote command octets) events (Write command ∷ tasks) doing.left doing.obeys refl;
    left = ap after_written doing.left;
  };
  told = sym (append-nil (reports_of words events));
  line = line_wrote port octets written command events before.lines after.lines wrote;
  faults = λ start counted. count_same (has_failed events) start before.faults after.faults counted same;
}

-- the machine was told that it was not written, and the connection was given up
pub command_lost : (words : Words) (port octets : ℕ) (written : Option (List ℕ)) (command : Command)
    (tasks : List Task) (events : List KeyEvent) (key later : Key) (lost : Option Why) (before between after : LineTold)
    → IsDoing words (Write command ∷ tasks) events key
    → StandsFor words (command_failed words (marks_of words events)) later
    → lost ≡ fault_told words (marks_of words events)
    → between.lines ≡ before.lines → HasRisen before.faults between.faults
    → after.lines ≡ option_map (with_last after_drop) between.lines → after.faults ≡ between.faults
    → DoesTasks words port octets written events (lost_report lost) later before after
command_lost words port octets written command tasks events key later lost before between after doing stands is stays
    risen gone same =
    let unwritten = obeys_next words NotWritten events (Write command ∷ tasks) doing.left doing.obeys tt in
    let told = obeys_next words (Called CommandFailed) (NotWritten ∷ events) (Tell CommandFailed ∷ [])
    (ap after_unwritten doing.left) unwritten refl in
    record {
      more = HungUp ∷ Called CommandFailed ∷ NotWritten ∷ [];
      new = HungUp ∷ Called CommandFailed ∷ NotWritten ∷ events;
      is = refl;
      follow = All-from_recursion FollowsUp (HungUp ∷ Called CommandFailed ∷ NotWritten ∷ [])
          (tt, (λ none. none, (tt, tt)));
      order = All-from_recursion (StandsAt octets) (HungUp ∷ Called CommandFailed ∷ NotWritten ∷ [])
          (tt, (tt, (tt, tt)));
      done = record {
        stands = stands;
        obeys = obeys_next words HungUp (Called CommandFailed ∷ NotWritten ∷ events) (GiveUp ∷ []) refl told tt;
        left = refl;
      };
      told = ap (λ (l : Option Why). reports_of words events ++ lost_report l) (sym is);
      line = line_step port octets written events (Called CommandFailed ∷ NotWritten ∷ events) HungUp
          (with_last after_drop) before.lines between.lines after.lines (λ start lines. refl)
          (λ start was has e. stays ∙ e) gone;
      faults = λ start counted.
          let P : ℕ → Type 0 = λ n. HasRisen start n in
          subst P (sym same) (count_more (has_failed events) start before.faults between.faults counted risen);
    }

-- ---- a connection

-- the machine was told that there is none, and what there was of one was given up
pub try_refused : (words : Words) (port octets : ℕ) (written : Option (List ℕ)) (tasks : List Task)
    (events : List KeyEvent) (key later : Key) (lost : Option Why) (before after : LineTold)
    → IsDoing words (Tell (AfterTry Refused) ∷ tasks) events key
    → StandsFor words (tried words Refused (marks_of words events)) later
    → lost ≡ try_told words Refused (marks_of words events)
    → after.lines ≡ option_map (with_last after_drop) before.lines → after.faults ≡ before.faults
    → DoesTasks words port octets written events (lost_report lost) later before after
try_refused words port octets written tasks events key later lost before after doing stands is gone same =
    let told = obeys_next words (Called (AfterTry Refused)) events (Tell (AfterTry Refused) ∷ tasks) doing.left
    doing.obeys refl in
    record {
      more = HungUp ∷ Called (AfterTry Refused) ∷ [];
      new = HungUp ∷ Called (AfterTry Refused) ∷ events;
      is = refl;
      follow = All-from_recursion FollowsUp (HungUp ∷ Called (AfterTry Refused) ∷ []) (tt, (λ none. none, tt));
      order = All-from_recursion (StandsAt octets) (HungUp ∷ Called (AfterTry Refused) ∷ []) (tt, (tt, tt));
      done = record {
        stands = stands;
        obeys = obeys_next words HungUp (Called (AfterTry Refused) ∷ events) (GiveUp ∷ []) refl told tt;
        left = refl;
      };
      told = ap (λ (l : Option Why). reports_of words events ++ lost_report l) (sym is);
      line = line_step port octets written events (Called (AfterTry Refused) ∷ events) HungUp (with_last after_drop)
          before.lines before.lines after.lines (λ start lines. refl) (λ start was has e. e) gone;
      faults = λ start counted. count_same (has_failed events) start before.faults after.faults counted same;
    }

pub try_written : (words : Words) (port octets : ℕ) (written : Option (List ℕ)) (tasks : List Task)
    (events : List KeyEvent) (key later : Key) (lost : Option Why) (before after : LineTold)
    → IsDoing words (Open ∷ tasks) events key
    → StandsFor words (tried words Written (marks_of words events)) later
    → lost ≡ try_told words Written (marks_of words events)
    → ((had : List ℕ) → written ≡ Some had
    → after.lines ≡ option_map (with_last (after_write Unkey (length had))) before.lines)
    → after.faults ≡ before.faults → DoesTasks words port octets written events (lost_report lost) later before after
try_written words port octets written tasks events key later lost before after doing stands is wrote same =
    let opened = obeys_next words (Wrote Unkey octets) events (Open ∷ tasks) doing.left doing.obeys refl in
    record {
      more = Called (AfterTry Written) ∷ Wrote Unkey octets ∷ [];
      new = Called (AfterTry Written) ∷ Wrote Unkey octets ∷ events;
      is = refl;
      follow = All-from_recursion FollowsUp (Called (AfterTry Written) ∷ Wrote Unkey octets ∷ [])
          (λ none. none, (tt, tt));
      order = All-from_recursion (StandsAt octets) (Called (AfterTry Written) ∷ Wrote Unkey octets ∷ [])
          (tt, (refl, tt));
      done = record {
        stands = stands;
        obeys = obeys_next words (Called (AfterTry Written)) (Wrote Unkey octets ∷ events)
            (Tell (AfterTry Written) ∷ []) (ap after_written doing.left) opened refl;
        left = refl;
      };
      told = ap (λ (l : Option Why). reports_of words events ++ lost_report l) (sym is);
      line = line_wrote port octets written Unkey events before.lines after.lines wrote;
      faults = λ start counted. count_same (has_failed events) start before.faults after.faults counted same;
    }

pub try_early : (words : Words) (port octets : ℕ) (written : Option (List ℕ)) (tasks : List Task)
    (events : List KeyEvent) (key later : Key) (lost : Option Why) (before after : LineTold)
    → IsDoing words (Open ∷ tasks) events key
    → StandsFor words (tried words NotYet (marks_of words events)) later
    → lost ≡ try_told words NotYet (marks_of words events)
    → after.lines ≡ before.lines → after.faults ≡ before.faults
    → DoesTasks words port octets written events (lost_report lost) later before after
try_early words port octets written tasks events key later lost before after doing stands is stays same = record {
  more = Called (AfterTry NotYet) ∷ [];
  new = Called (AfterTry NotYet) ∷ events;
  is = refl;
  follow = All-from_recursion FollowsUp (Called (AfterTry NotYet) ∷ []) (λ none. none, tt);
  order = All-from_recursion (StandsAt octets) (Called (AfterTry NotYet) ∷ []) (tt, tt);
  done = record {
    stands = stands;
    obeys = obeys_next words (Called (AfterTry NotYet)) events (Open ∷ tasks) doing.left doing.obeys refl;
    left = refl;
  };
  told = ap (λ (l : Option Why). reports_of words events ++ lost_report l) (sym is);
  line = λ start was has e. stays ∙ e;
  faults = λ start counted. count_same (has_failed events) start before.faults after.faults counted same;
}

-- ---- what comes first of a try

-- the first release was not written
pub unopened : (words : Words) (tasks : List Task) (events : List KeyEvent) (key : Key)
    → IsDoing words (Open ∷ tasks) events key
    → IsDoing words (Tell (AfterTry Refused) ∷ []) (NotWritten ∷ events) key
unopened words tasks events key doing = record {
  stands = doing.stands;
  obeys = obeys_next words NotWritten events (Open ∷ tasks) doing.left doing.obeys tt;
  left = ap after_unwritten doing.left;
}

pub after_unopened : (words : Words) (port octets : ℕ) (written : Option (List ℕ)) (events : List KeyEvent)
    (reported : List Report) (key : Key) (before between after : LineTold)
    → between.lines ≡ before.lines → HasRisen before.faults between.faults
    → DoesTasks words port octets written (NotWritten ∷ events) reported key between after
    → DoesTasks words port octets written events reported key before after
after_unopened words port octets written events reported key before between after stays risen =
    prepended words port octets written NotWritten events reported key before between after tt tt refl
    (λ start was has e. stays ∙ e)
    (λ start counted. count_more (has_failed events) start before.faults between.faults counted risen)

-- the connection was begun
pub begun : (words : Words) (tasks : List Task) (events : List KeyEvent) (key : Key)
    → IsDoing words (Connect ∷ tasks) events key → IsDoing words (Open ∷ []) (Began ∷ events) key
begun words tasks events key doing = record {
  stands = doing.stands;
  obeys = obeys_next words Began events (Connect ∷ tasks) doing.left doing.obeys tt;
  left = refl;
}

pub after_begun : (words : Words) (port octets : ℕ) (written : Option (List ℕ)) (events : List KeyEvent)
    (reported : List Report) (key : Key) (before between after : LineTold)
    → between.lines ≡ option_map (after_connect port) before.lines → between.faults ≡ before.faults
    → DoesTasks words port octets written (Began ∷ events) reported key between after
    → DoesTasks words port octets written events reported key before after
after_begun words port octets written events reported key before between after more same =
    prepended words port octets written Began events reported key before between after tt tt refl
    (line_step port octets written events events Began (after_connect port) before.lines before.lines between.lines
    (λ start lines. refl) (λ start was has e. e) more)
    (λ start counted. count_same (has_failed events) start before.faults between.faults counted same)

-- or could not be
pub not_begun : (words : Words) (tasks : List Task) (events : List KeyEvent) (key : Key)
    → IsDoing words (Connect ∷ tasks) events key
    → IsDoing words (Tell (AfterTry Refused) ∷ []) (NotBegun ∷ events) key
not_begun words tasks events key doing = record {
  stands = doing.stands;
  obeys = obeys_next words NotBegun events (Connect ∷ tasks) doing.left doing.obeys tt;
  left = refl;
}

pub after_not_begun : (words : Words) (port octets : ℕ) (written : Option (List ℕ)) (events : List KeyEvent)
    (reported : List Report) (key : Key) (before between after : LineTold)
    → between.lines ≡ option_map (with_last after_drop) before.lines → HasRisen before.faults between.faults
    → DoesTasks words port octets written (NotBegun ∷ events) reported key between after
    → DoesTasks words port octets written events reported key before after
after_not_begun words port octets written events reported key before between after gone risen =
    prepended words port octets written NotBegun events reported key before between after tt tt refl
    (line_step port octets written events events NotBegun (with_last after_drop) before.lines before.lines
    between.lines (λ start lines. refl) (λ start was has e. e) gone)
    (λ start counted. count_more (has_failed events) start before.faults between.faults counted risen)
