-- The end of a run: call after call, with all that each asks for, until nothing more is to be done.
use Rattle.std.proofs.Common.{◌≡◌, ◌≢◌, ℕ, List, [], ◌∷◌, ◌++◌, refl, ap, sym, subst, ◌∙◌}
use Rattle.std.proofs.lemmas.List.{append_assoc}
use Rattle.std.proofs.lemmas.List.Elements.{All-from_recursion, recursion_from_All, All-nil, All-append}
use Rattle.std.specs.List.{AllByRecursion}
use Rattle.std.specs.Prelude.{Bool, true, false, not, Option, Some, option_map}
use Rattle.keying.specs.declared.ending.Ending.{Ending}
use Rattle.keying.specs.declared.ending.Ending.TheVariants.{Over}
use Rattle.keying.specs.declared.line.End.{End}
use Rattle.keying.specs.declared.line.End.TheVariants.{Fault}
use Rattle.keying.specs.declared.machine.Words.{Words}
use Rattle.keying.specs.declared.report.Why.{Why}
use Rattle.keying.specs.declared.turning.Next.{Next}
use Rattle.keying.specs.Calls.{read, ended}
use Rattle.keying.specs.Calls.Call.{Turn, AfterTry, Tick, AfterWrite, CommandFailed, Release}
use Rattle.keying.specs.Kept.{StandsFor}
use Rattle.keying.specs.Key.{Key, is_down}
use Rattle.keying.specs.Keyed.{on}
use Rattle.keying.specs.Line.{phase}
use Rattle.keying.specs.Told.{ending_told}
use Rattle.tnc_base.specs.Faults.{HasRisen}
use Rattle.key_port.specs.declared.key_side.KeySide.{KeySide}
use Rattle.key_port.specs.KeyCalls.{FollowsUp, Releases, StandsAt, IsOver}
use Rattle.key_port.specs.KeyEvents.{KeyEvent, Task, Obeys, Does, marks_of, asks, give_up_if, to_do, lost_report}
use Rattle.key_port.specs.KeyEvents.{tasks_of_next, tasks_of_ending}
use Rattle.key_port.specs.KeyEvents.KeyEvent.{Called, Began, NotBegun, Wrote, NotWritten, HungUp}
use Rattle.key_port.specs.KeyFaults.{has_failed}
use Rattle.key_port.specs.KeyLines.{LineTold, with_last, after_read}
use Rattle.key_port.specs.KeySides.{HasDone, GoesOn, DoesRelease, Closes, port_of}
use Rattle.key_port.specs.KeyTasks.{IsDoing, DoesTasks, LineGoes, lines_given_up}
use Rattle.key_port.proofs.Bridge.{closing_phase}
use Rattle.key_port.proofs.Sides.{called_doing, gave_up, given_up, after_given_up, same_new}
use Rattle.key_port.proofs.Steps.{line_step, count_read}

-- ---- what follows a call is no turn and no tick

follows_release : (event : KeyEvent) → FollowsUp event → Releases event
follows_release (Called (Turn now octets end)) follows = follows
follows_release (Called (AfterTry how)) follows = follows
follows_release (Called (Tick sounds)) follows = follows
follows_release (Called (AfterWrite fault)) follows = follows
follows_release (Called CommandFailed) follows = follows
follows_release (Called (Release now octets end)) follows = tt
follows_release Began follows = tt
follows_release NotBegun follows = tt
follows_release (Wrote command had) follows = tt
follows_release NotWritten follows = tt
follows_release HungUp follows = tt

follow_release : (events : List KeyEvent) → AllByRecursion FollowsUp events → AllByRecursion Releases events
follow_release [] follow = tt
follow_release (event ∷ events) follow = (follows_release event follow.0, follow_release events follow.1)

-- ---- nothing follows if nothing is left to do

no_more : (event : KeyEvent) → FollowsUp event → Does event [] → ⊥
no_more (Called call) follows does = follows does
no_more Began follows does = does
no_more NotBegun follows does = does
no_more (Wrote command had) follows does = does
no_more NotWritten follows does = does
no_more HungUp follows does = does

nothing_follows : (words : Words) (more events : List KeyEvent) → AllByRecursion FollowsUp more
    → Obeys words (more ++ events) → to_do words events ≡ [] → more ≡ []
nothing_follows words [] events follow obeys done = refl
nothing_follows words (event ∷ more) events follow obeys done =
    let none = nothing_follows words more events follow.1 obeys.1 done in
    let left : to_do words (more ++ events) ≡ [] = ap (λ (m : List KeyEvent). to_do words (m ++ events)) none ∙ done in
    let P : List Task → Type 0 = λ ts. Does event ts in
    absurd (no_more event follow.0 (subst P left obeys.0))

over_at : (lost : Bool) (words : Words) (now : ℕ) (came : List ℕ) (end : Option End) (keyed : List KeyEvent)
    → ending_told words now came end (marks_of words keyed) ≡ Over
    → IsOver words (gave_up lost (Called (Release now came end) ∷ keyed))
over_at true words now came end keyed is = is
over_at false words now came end keyed is = is

-- ---- a call

not_not : (b : Bool) → not (not b) ≡ b
not_not true = refl
not_not false = refl

pub close_done : (words : Words) (port octets : ℕ) (written : Option (List ℕ)) (now clock : ℕ) (came : List ℕ)
    (end : Option End) (keyed : List KeyEvent) (key later : Key) (ending : Ending) (has is_over : Bool) (next : Next)
    (lost : Option Why) (side : KeySide) (before come gone after : LineTold)
    → now ≡ clock → IsDoing words [] keyed key
    → StandsFor words (ended words now came end (marks_of words keyed)) later
    → ending ≡ ending_told words now came end (marks_of words keyed)
    → has ≡ not (is_down (phase (ended words now came end (marks_of words keyed))))
    → tasks_of_next next ≡ tasks_of_ending ending → (is_over ≡ true → ending ≡ Over)
    → come.lines ≡ option_map (with_last (after_read clock came end)) before.lines
    → (end ≢ Some Fault → come.faults ≡ before.faults) → (end ≡ Some Fault → HasRisen before.faults come.faults)
    → gone.lines ≡ lines_given_up (not has) come.lines → gone.faults ≡ come.faults
    → ((events : List KeyEvent) → IsDoing words (tasks_of_next next) events later
    → DoesTasks words port octets written events (lost_report lost) side.machine gone after)
    → port_of side ≡ port
    → GoesOn (λ new. Closes words octets keyed new × (is_over ≡ true → IsOver words new)) words octets written keyed side
    before after
close_done words port octets written now clock came end keyed key later ending has is_over next lost side before come
    gone after on_time doing stands is there tasks last read_line same risen up kept does at =
    let line : come.lines ≡ option_map (with_last (after_read now came end)) before.lines =
    read_line ∙ ap (λ (n : ℕ). option_map (with_last (after_read n came end)) before.lines) (sym on_time) in
    let past = marks_of words keyed in
    let call = Release now came end in
    let events = Called call ∷ keyed in
    let heard = read words now came end past in
    let level : phase (ended words now came end past) ≡ phase heard = closing_phase (on heard) heard in
    let down : is_down (phase heard) ≡ not has =
    sym (ap not there ∙ not_not (is_down (phase (ended words now came end past))) ∙ ap is_down level) in
    let asked : asks words call past ≡ give_up_if (not has) ++ tasks_of_next next =
    ap (λ (b : Bool). give_up_if b ++ tasks_of_ending (ending_told words now came end past)) down
    ∙ ap (λ (ts : List Task). give_up_if (not has) ++ ts) (ap tasks_of_ending (sym is) ∙ sym tasks) in
    let left = given_up (not has) words (tasks_of_next next) events later
    (called_doing words call (give_up_if (not has) ++ tasks_of_next next) keyed key later tt doing stands asked) in
    let d = does (gave_up (not has) events) left in
    let all = after_given_up (not has) words port octets written events (lost_report lost) side.machine come gone after
    up kept d in
    record {
      new = all.new;
      is = (
        record {
          more = all.more ++ Called call ∷ [];
          releases = All-append Releases all.more (Called call ∷ [])
              (All-from_recursion Releases all.more
              (follow_release all.more (recursion_from_All FollowsUp all.more all.follow)))
              (All-from_recursion Releases (Called call ∷ []) (tt, tt));
          order = All-append (StandsAt octets) all.more (Called call ∷ []) all.order
              (All-from_recursion (StandsAt octets) (Called call ∷ []) (tt, tt));
          is = all.is ∙ sym (append_assoc all.more (Called call ∷ []) keyed);
        },
        λ said.
            let over : ending ≡ Over = last said in
            let none : to_do words (gave_up (not has) events) ≡ [] = left.left ∙ tasks ∙ ap tasks_of_ending over in
            let P : List KeyEvent → Type 0 = λ es. Obeys words es in
            let bare : d.more ≡ [] = nothing_follows words d.more (gave_up (not has) events)
            (recursion_from_All FollowsUp d.more d.follow) (subst P d.is d.done.obeys) none in
            let new : all.new ≡ gave_up (not has) events =
            same_new (not has) words port octets written events (lost_report lost) side.machine come gone after up
            kept d ∙ d.is ∙ ap (λ (m : List KeyEvent). m ++ gave_up (not has) events) bare in
            let Q : List KeyEvent → Type 0 = λ es. IsOver words es in
            subst Q (sym new) (over_at (not has) words now came end keyed (sym is ∙ over)),
      );
      done = all.done;
      line = let P : ℕ → Type 0 = λ p. LineGoes p octets written keyed all.new before.lines after.lines in
          subst P (sym at) (λ start was told e. all.line start was told
          (line_step port octets written keyed keyed (Called call) (with_last (after_read now came end)) before.lines
          before.lines come.lines (λ start lines. refl) (λ start was told e. e) line start was told e));
      faults = λ start counted. all.faults start
          (count_read end (has_failed keyed) start before.faults come.faults same risen counted);
    }

-- ---- call after call

pub closes_first : (words : Words) (octets : ℕ) (written : Option (List ℕ)) (keyed : List KeyEvent) (side : KeySide)
    (told : LineTold) → HasDone words keyed side
    → GoesOn (λ new. Closes words octets keyed new) words octets written keyed side told told
closes_first words octets written keyed side told done = record {
  new = keyed;
  is = record { more = []; releases = All-nil Releases; order = All-nil (StandsAt octets); is = refl };
  done = done;
  line = λ start was has e. e;
  faults = λ start counted. counted;
}

closes_more : (words : Words) (octets : ℕ) (keyed between new : List KeyEvent) → Closes words octets keyed between
    → Closes words octets between new → Closes words octets keyed new
closes_more words octets keyed between new first second = record {
  more = second.more ++ first.more;
  releases = All-append Releases second.more first.more second.releases first.releases;
  order = All-append (StandsAt octets) second.more first.more second.order first.order;
  is = second.is ∙ ap (λ (es : List KeyEvent). second.more ++ es) first.is
      ∙ sym (append_assoc second.more first.more keyed);
}

line_on : (octets : ℕ) (written : Option (List ℕ)) (keyed between new : List KeyEvent) (side later : KeySide)
    (before come after : LineTold) → port_of later ≡ port_of side
    → LineGoes (port_of side) octets written keyed between before.lines come.lines
    → LineGoes (port_of later) octets written between new come.lines after.lines
    → LineGoes (port_of later) octets written keyed new before.lines after.lines
line_on octets written keyed between new side later before come after at first second =
    let P : ℕ → Type 0 = λ p. LineGoes p octets written keyed between before.lines come.lines in
    let same : LineGoes (port_of later) octets written keyed between before.lines come.lines = subst P (sym at) first in
    λ start was has e. second start was has (same start was has e)

-- one more call, after which the line rests
pub closes_on : (words : Words) (octets : ℕ) (written : Option (List ℕ)) (keyed : List KeyEvent) (is_over : Bool)
    (side later : KeySide) (before come after rested : LineTold)
    → (first : GoesOn (λ new. Closes words octets keyed new) words octets written keyed side before come)
    → GoesOn (λ new. Closes words octets first.new new × (is_over ≡ true → IsOver words new)) words octets written
    first.new later come after
    → port_of later ≡ port_of side → rested ≡ after
    → GoesOn (λ new. Closes words octets keyed new) words octets written keyed later before rested
closes_on words octets written keyed is_over side later before come after rested first second at same =
    let P : LineTold → Type 0 = GoesOn (λ new. Closes words octets keyed new) words octets written keyed later before in
    subst P (sym same) (record {
      new = second.new;
      is = closes_more words octets keyed first.new second.new first.is second.is.0;
      done = second.done;
      line = line_on octets written keyed first.new second.new side later before come after at first.line second.line;
      faults = λ start counted. second.faults start (first.faults start counted);
    })

-- the last call
pub closed : (words : Words) (octets : ℕ) (written : Option (List ℕ)) (keyed : List KeyEvent) (is_over : Bool)
    (side later : KeySide) (before come after : LineTold)
    → (first : GoesOn (λ new. Closes words octets keyed new) words octets written keyed side before come)
    → GoesOn (λ new. Closes words octets first.new new × (is_over ≡ true → IsOver words new)) words octets written
    first.new later come after
    → port_of later ≡ port_of side → is_over ≡ true
    → DoesRelease words octets written keyed later before after
closed words octets written keyed is_over side later before come after first second at over =
    let all = closes_more words octets keyed first.new second.new first.is second.is.0 in
    record {
      new = second.new;
      is = record {
        more = all.more;
        releases = all.releases;
        is = all.is;
        obeys = second.done.obeys;
        done = second.done.left;
        over = second.is.1 over;
        order = λ _. all.order;
      };
      done = second.done;
      line = line_on octets written keyed first.new second.new side later before come after at first.line second.line;
      faults = λ start counted. second.faults start (first.faults start counted);
    }
