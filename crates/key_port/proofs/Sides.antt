-- A call of the machine, with all that it asks for on the line.
use Rattle.std.proofs.Common.{◌≡◌, ◌≢◌, ℕ, List, [], ◌∷◌, ◌++◌, refl, ap, sym, subst, ◌∙◌}
use Rattle.std.proofs.lemmas.List.{append_assoc}
use Rattle.std.specs.Prelude.{Bool, true, false, drop, Option, Some, option_map}
use Rattle.keying.specs.declared.command.Command.{Command}
use Rattle.keying.specs.declared.line.End.{End}
use Rattle.keying.specs.declared.line.End.TheVariants.{Fault}
use Rattle.keying.specs.declared.machine.Words.{Words}
use Rattle.keying.specs.declared.report.Report.{Report}
use Rattle.keying.specs.declared.report.Why.{Why}
use Rattle.keying.specs.declared.ticking.Act.{Act}
use Rattle.keying.specs.declared.turning.Turn.{Turn as Told}
use Rattle.keying.specs.Calls.{Call, called, turned, ticked, written as after_write_of}
use Rattle.keying.specs.Calls.Call.{Turn, Tick, AfterWrite}
use Rattle.keying.specs.Kept.{StandsFor}
use Rattle.keying.specs.Key.{Key, key_of}
use Rattle.keying.specs.Told.{turn_told, tick_told, written_told}
use Rattle.tnc_base.specs.Faults.{HasRisen}
use Rattle.key_port.specs.declared.key_side.KeySide.{KeySide}
use Rattle.key_port.specs.KeyEvents.{KeyEvent, Task, Begins, marks_of, asks, give_up_if, reports_of, call_reports}
use Rattle.key_port.specs.KeyEvents.{lost_report, tick_report, turn_reports, tasks_of_next, tasks_of_command}
use Rattle.key_port.specs.KeyEvents.KeyEvent.{Called, HungUp}
use Rattle.key_port.specs.KeyEvents.Task.{GiveUp}
use Rattle.key_port.specs.KeyFaults.{has_failed}
use Rattle.key_port.specs.KeyLines.{LineTold, with_last, after_read, after_drop}
use Rattle.key_port.specs.KeySides.{DoesCall, port_of}
use Rattle.key_port.specs.KeyTasks.{IsDoing, DoesTasks, LineGoes, FaultsGo, lines_given_up}
use Rattle.key_port.proofs.Steps.{obeys_next, line_step, count_same, count_read, prepended}

-- the machine was called
pub called_doing : (words : Words) (call : Call) (tasks : List Task) (keyed : List KeyEvent) (key later : Key)
    → Begins call → IsDoing words [] keyed key → StandsFor words (called words call (marks_of words keyed)) later
    → asks words call (marks_of words keyed) ≡ tasks → IsDoing words tasks (Called call ∷ keyed) later
called_doing words call tasks keyed key later begins doing stands asked = record {
  stands = stands;
  obeys = obeys_next words (Called call) keyed [] doing.left doing.obeys begins;
  left = asked;
}

-- ---- the connection is given up, if it is lost

abbrev pub gave_up : Bool → List KeyEvent → List KeyEvent
gave_up true events = HungUp ∷ events
gave_up false events = events

pub given_up : (lost : Bool) (words : Words) (tasks : List Task) (events : List KeyEvent) (key : Key)
    → IsDoing words (give_up_if lost ++ tasks) events key → IsDoing words tasks (gave_up lost events) key
given_up true words tasks events key doing = record {
  stands = doing.stands;
  obeys = obeys_next words HungUp events (GiveUp ∷ tasks) doing.left doing.obeys tt;
  left = ap (λ (ts : List Task). drop 1 ts) doing.left;
}
given_up false words tasks events key doing = doing

pub after_given_up : (lost : Bool) (words : Words) (port octets : ℕ) (written : Option (List ℕ))
    (events : List KeyEvent) (reported : List Report) (key : Key) (before between after : LineTold)
    → between.lines ≡ lines_given_up lost before.lines → between.faults ≡ before.faults
    → DoesTasks words port octets written (gave_up lost events) reported key between after
    → DoesTasks words port octets written events reported key before after
after_given_up true words port octets written events reported key before between after gone same d =
    prepended words port octets written HungUp events reported key before between after tt tt refl
    (line_step port octets written events events HungUp (with_last after_drop) before.lines before.lines between.lines
    (λ start lines. refl) (λ start was has e. e) gone)
    (λ start counted. count_same (has_failed events) start before.faults between.faults counted same) d
after_given_up false words port octets written events reported key before between after gone same d = record {
  more = d.more;
  new = d.new;
  is = d.is;
  follow = d.follow;
  order = d.order;
  done = d.done;
  told = d.told;
  line = λ start was has e. d.line start was has (gone ∙ e);
  faults = λ start counted.
      d.faults start (count_same (has_failed events) start before.faults between.faults counted same);
}

pub same_new : (lost : Bool) (words : Words) (port octets : ℕ) (written : Option (List ℕ))
    (events : List KeyEvent) (reported : List Report) (key : Key) (before between after : LineTold)
    → (gone : between.lines ≡ lines_given_up lost before.lines) → (same : between.faults ≡ before.faults)
    → (d : DoesTasks words port octets written (gave_up lost events) reported key between after)
    → (after_given_up lost words port octets written events reported key before between after gone same d).new ≡ d.new
unfolding after_given_up prepended
same_new true words port octets written events reported key before between after gone same d = refl
same_new false words port octets written events reported key before between after gone same d = refl

-- ---- what was read

pub line_read : (port octets : ℕ) (written : Option (List ℕ)) (now : ℕ) (came : List ℕ) (end : Option End)
    (keyed : List KeyEvent) (before after : LineTold)
    → after.lines ≡ option_map (with_last (after_read now came end)) before.lines
    → LineGoes port octets written keyed (Called (Turn now came end) ∷ keyed) before.lines after.lines
line_read port octets written now came end keyed before after is =
    line_step port octets written keyed keyed (Called (Turn now came end)) (with_last (after_read now came end))
    before.lines before.lines after.lines (λ start lines. refl) (λ start was has e. e) is

pub faults_read : (now : ℕ) (came : List ℕ) (end : Option End) (keyed : List KeyEvent) (before after : LineTold)
    → (end ≢ Some Fault → after.faults ≡ before.faults) → (end ≡ Some Fault → HasRisen before.faults after.faults)
    → FaultsGo keyed (Called (Turn now came end) ∷ keyed) before.faults after.faults
faults_read now came end keyed before after same risen = λ start counted.
    count_read end (has_failed keyed) start before.faults after.faults same risen counted

-- ---- a call

pub call_done : (words : Words) (port octets : ℕ) (written : Option (List ℕ)) (call : Call) (keyed : List KeyEvent)
    (reported lost : List Report) (side : KeySide) (before between after : LineTold) → port_of side ≡ port
    → LineGoes port octets written keyed (Called call ∷ keyed) before.lines between.lines
    → FaultsGo keyed (Called call ∷ keyed) before.faults between.faults
    → reported ≡ call_reports words call (marks_of words keyed) ++ lost
    → DoesTasks words port octets written (Called call ∷ keyed) lost side.machine between after
    → DoesCall words octets written call keyed reported side before after
call_done words port octets written call keyed reported lost side before between after at line faults told d = record {
  new = d.new;
  is = record {
    more = d.more;
    follow = d.follow;
    is = d.is;
    obeys = d.done.obeys;
    done = d.done.left;
    order = λ _. d.order;
    told = d.told
        ∙ append_assoc (reports_of words keyed) (call_reports words call (marks_of words keyed)) lost
        ∙ ap (λ (rs : List Report). reports_of words keyed ++ rs) (sym told);
  };
  done = d.done;
  line = let P : ℕ → Type 0 = λ p. LineGoes p octets written keyed d.new before.lines after.lines in
      subst P (sym at) (λ start was has e. d.line start was has (line start was has e));
  faults = λ start counted. d.faults start (faults start counted);
}

pub turn_done : (words : Words) (port octets : ℕ) (written : Option (List ℕ)) (now clock later_clock : ℕ)
    (came : List ℕ) (end : Option End) (keyed : List KeyEvent) (key later : Key) (turn : Told) (reported : List Report)
    (lost : Option Why) (side : KeySide) (before come gone after : LineTold)
    → now ≡ clock → later_clock ≡ clock → IsDoing words [] keyed key
    → StandsFor words (turned words now came end (marks_of words keyed)) later
    → turn ≡ turn_told words now came end (marks_of words keyed)
    → come.lines ≡ option_map (with_last (after_read clock came end)) before.lines
    → (end ≢ Some Fault → come.faults ≡ before.faults) → (end ≡ Some Fault → HasRisen before.faults come.faults)
    → gone.lines ≡ lines_given_up turn.dropped come.lines → gone.faults ≡ come.faults
    → ((events : List KeyEvent) → IsDoing words (tasks_of_next turn.next) events later
    → DoesTasks words port octets written events (lost_report lost) side.machine gone after)
    → port_of side ≡ port → reported ≡ turn_reports turn ++ lost_report lost
    → DoesCall words octets written (Turn later_clock came end) keyed reported side before after
turn_done words port octets written now clock later_clock came end keyed key later turn reported lost side before come
    gone after on_time in_time doing stands told read same risen up kept next at is =
    let call = Turn now came end in
    let here : come.lines ≡ option_map (with_last (after_read now came end)) before.lines =
    read ∙ ap (λ (n : ℕ). option_map (with_last (after_read n came end)) before.lines) (sym on_time) in
    let P : ℕ → Type 0 = λ n. DoesCall words octets written (Turn n came end) keyed reported side before after in
    let asked = called_doing words call (give_up_if turn.dropped ++ tasks_of_next turn.next) keyed key later tt doing
    stands (ap (λ (t : Told). give_up_if t.dropped ++ tasks_of_next t.next) (sym told)) in
    let left = given_up turn.dropped words (tasks_of_next turn.next) (Called call ∷ keyed) later asked in
    subst P (on_time ∙ sym in_time)
    (call_done words port octets written call keyed reported (lost_report lost) side before come after at
    (line_read port octets written now came end keyed before come here)
    (faults_read now came end keyed before come same risen)
    (is ∙ ap (λ (t : Told). turn_reports t ++ lost_report lost) told)
    (after_given_up turn.dropped words port octets written (Called call ∷ keyed) (lost_report lost) side.machine come
    gone after up kept (next (gave_up turn.dropped (Called call ∷ keyed)) left)))

pub tick_done : (words : Words) (port octets : ℕ) (written : Option (List ℕ)) (sounds : Bool) (keyed : List KeyEvent)
    (key later : Key) (act : Act) (reported : List Report) (lost : Option Why) (side : KeySide)
    (before after : LineTold) → IsDoing words [] keyed key
    → StandsFor words (ticked words sounds (marks_of words keyed)) later
    → act ≡ tick_told words sounds (marks_of words keyed)
    → ((events : List KeyEvent) → IsDoing words (tasks_of_command act.command) events later
    → DoesTasks words port octets written events (lost_report lost) side.machine before after)
    → port_of side ≡ port → reported ≡ tick_report act.report ++ lost_report lost
    → DoesCall words octets written (Tick sounds) keyed reported side before after
tick_done words port octets written sounds keyed key later act reported lost side before after doing stands told next at
    is =
    let asked = called_doing words (Tick sounds) (tasks_of_command act.command) keyed key later tt doing stands
    (ap (λ (a : Act). tasks_of_command a.command) (sym told)) in
    call_done words port octets written (Tick sounds) keyed reported (lost_report lost) side before before after at
    (λ start was has e. e) (λ start counted. counted)
    (is ∙ ap (λ (a : Act). tick_report a.report ++ lost_report lost) told)
    (next (Called (Tick sounds) ∷ keyed) asked)

pub written_done : (words : Words) (port octets : ℕ) (written : Option (List ℕ)) (fault : Bool)
    (keyed : List KeyEvent) (key later : Key) (command : Option Command) (reported : List Report) (lost : Option Why)
    (side : KeySide) (before after : LineTold) → IsDoing words [] keyed key
    → StandsFor words (after_write_of words fault (marks_of words keyed)) later
    → command ≡ written_told fault (key_of words (marks_of words keyed))
    → ((events : List KeyEvent) → IsDoing words (tasks_of_command command) events later
    → DoesTasks words port octets written events (lost_report lost) side.machine before after)
    → port_of side ≡ port → reported ≡ lost_report lost
    → DoesCall words octets written (AfterWrite fault) keyed reported side before after
written_done words port octets written fault keyed key later command reported lost side before after doing stands told
    next at is =
    let asked = called_doing words (AfterWrite fault) (tasks_of_command command) keyed key later tt doing stands
    (ap tasks_of_command (sym told)) in
    call_done words port octets written (AfterWrite fault) keyed reported (lost_report lost) side before before after at
    (λ start was has e. e) (λ start counted. counted) is (next (Called (AfterWrite fault) ∷ keyed) asked)
