-- As long as no line of the report tells of the key and no write has failed, no call within a transmission tells the end
-- of the key.
use Rattle.std.proofs.Common.{◌≡◌, ℕ, ◌+◌, ◌≤◌, List, [], ◌∷◌, ◌++◌, refl, sym, ap, subst, length, inl, inr, ◌∙◌, arith}
use Rattle.std.proofs.lemmas.Bool.{true≢false}
use Rattle.std.proofs.lemmas.List.{length-append}
use Rattle.std.proofs.lemmas.List.Elements.{All-tail}
use Rattle.std.specs.Prelude.{All, Bool, true, false, ◌&&◌, not, if◌then◌else◌, Option, Some, None, IsSome}
use Rattle.keying.specs.declared.command.Command.TheVariants.{Release as Unkey, Key as KeyOn, KeyData}
use Rattle.keying.specs.declared.machine.Words.{Words}
use Rattle.keying.specs.declared.report.OffWhy.TheVariants.{Limit}
use Rattle.keying.specs.declared.report.Report.TheVariants.{Off}
use Rattle.keying.specs.declared.report.Why.{Why}
use Rattle.keying.specs.declared.report.Why.TheVariants.{Failed}
use Rattle.keying.specs.declared.ticking.Act.{Act}
use Rattle.keying.specs.declared.turning.Next.{Next}
use Rattle.keying.specs.declared.turning.Next.TheVariants.{Rest, ToConnect, ToOpen, ToRelease}
use Rattle.keying.specs.declared.turning.Turn.{Turn as Told}
use Rattle.keying.specs.Calls.{Call, called, history}
use Rattle.keying.specs.Calls.Call.{Turn, AfterTry, Tick, AfterWrite, CommandFailed, Release}
use Rattle.keying.specs.Key.{Key, free, key_of}
use Rattle.keying.specs.Keyed.{failed}
use Rattle.keying.specs.Laws.{NoneTellsEnd, TellsEnd}
use Rattle.keying.specs.Marks.{Mark}
use Rattle.keying.specs.Rules.{is_at_limit}
use Rattle.keying.specs.Told.{fault_told, keying_command, tick_told, turn_told, written_told}
use Rattle.key_port.specs.KeyCalls.{FollowsUp}
use Rattle.key_port.specs.KeyEvents.{KeyEvent, call_reports, calls_of, lost_report, marks_of, off_report, ready_report}
use Rattle.key_port.specs.KeyEvents.{reports_of, tick_report, turn_reports}
use Rattle.key_port.specs.KeyEvents.KeyEvent.{Called, Began, NotBegun, Wrote, NotWritten, HungUp}
use Rattle.tnc_ports.specs.KeyLaws.{NoEndSince, from_tick}
use Rattle.tnc_ports.proofs.KeyBegins.{calls-append}
use Rattle.tnc_ports.proofs.KeyFailures.{before_events, told_failure}

-- ---- what comes to pass within a transmission

-- a tick with sound, and no end of the run
abbrev IsLoudCall : Call → Type 0
IsLoudCall (Tick sounds) = sounds ≡ true
IsLoudCall (Release now octets end) = ⊥
IsLoudCall _ = Unit {0}

abbrev IsLoud : KeyEvent → Type 0
IsLoud (Called call) = IsLoudCall call
IsLoud _ = Unit {0}

abbrev pub AreLoud : List KeyEvent → Type 0
AreLoud [] = Unit {0}
AreLoud (event ∷ events) = IsLoud event × AreLoud events

pub loud-append : (more events : List KeyEvent) → AreLoud more → AreLoud events → AreLoud (more ++ events)
loud-append [] events first second = second
loud-append (event ∷ more) events first second = (first.0, loud-append more events first.1 second)

-- what follows a call up
pub follow_loud : (more : List KeyEvent) → All FollowsUp more → AreLoud more
follow_loud [] follow = tt
follow_loud (event ∷ more) follow =
    (one event (follow 0 event (omega arith)), follow_loud more (All-tail FollowsUp event more follow))
  where
    call_loud : (call : Call) → FollowsUp (Called call) → IsLoudCall call
    call_loud (Turn now octets end) f = tt
    call_loud (AfterTry how) f = tt
    call_loud (Tick sounds) f = absurd (f tt)
    call_loud (AfterWrite fault) f = tt
    call_loud CommandFailed f = tt
    call_loud (Release now octets end) f = absurd (f tt)

    one : (event : KeyEvent) → FollowsUp event → IsLoud event
    one (Called call) f = call_loud call f
    one Began f = tt
    one NotBegun f = tt
    one (Wrote command had) f = tt
    one NotWritten f = tt
    one HungUp f = tt

-- ---- reports

-- later events report no less
reported_more : (words : Words) (more events : List KeyEvent)
    → length (reports_of words events) ≤ length (reports_of words (more ++ events))
reported_more words [] events = omega arith
reported_more words (Called call ∷ more) events =
    let size = length-append (reports_of words (more ++ events)) (call_reports words call (marks_of words (more ++ events)))
    in
    let before = reported_more words more events in
    omega (arith, size, before)
reported_more words (Began ∷ more) events = reported_more words more events
reported_more words (NotBegun ∷ more) events = reported_more words more events
reported_more words (Wrote command had ∷ more) events = reported_more words more events
reported_more words (NotWritten ∷ more) events = reported_more words more events
reported_more words (HungUp ∷ more) events = reported_more words more events

-- ---- a call that reports nothing

lost_untold : (lost : Option Why) → length (lost_report lost) ≡ 0 → IsSome lost → ⊥
lost_untold None none some = true≢false (sym some)
lost_untold (Some why) none some = cc none

off_untold : (next : Next) → length (off_report next) ≡ 0 → next ≡ ToRelease → ⊥
off_untold Rest none is = cc is
off_untold ToConnect none is = cc is
off_untold ToOpen none is = cc is
off_untold ToRelease none is = cc none

turn_untold : (told : Told) → length (turn_reports told) ≡ 0 → IsSome told.lost → ⊥
turn_untold told none some =
    let a = length-append (ready_report told.ready ++ lost_report told.lost) (off_report told.next) in
    let b = length-append (ready_report told.ready) (lost_report told.lost) in
    let whole : length ((ready_report told.ready ++ lost_report told.lost) ++ off_report told.next) ≡ 0 = none in
    lost_untold told.lost (omega (arith, whole, a, b)) some

turn_unreleased : (told : Told) → length (turn_reports told) ≡ 0 → told.next ≡ ToRelease → ⊥
turn_unreleased told none is =
    let a = length-append (ready_report told.ready ++ lost_report told.lost) (off_report told.next) in
    let b = length-append (ready_report told.ready) (lost_report told.lost) in
    let whole : length ((ready_report told.ready ++ lost_report told.lost) ++ off_report told.next) ≡ 0 = none in
    off_untold told.next (omega (arith, whole, a, b)) is

not_released : (words : Words) → Some (keying_command words) ≡ Some Unkey → ⊥
not_released words is = by_data words.data is
  where
    by_data : (data_socket : Bool)
        → Some (if data_socket then KeyData else KeyOn) ≡ Some Unkey → ⊥
    by_data true is = cc is
    by_data false is = cc is

-- by whether the radio is free, the key is at its limit, and the key is on
chosen : Bool → Bool → Bool → Words → Act
chosen free limit on words = if free && true then record { command = Some (keying_command words); report = None }
    else if limit then record { command = Some Unkey; report = Some (Off Limit) }
    else if on && not true then record { command = Some Unkey; report = None }
    else record { command = None; report = None }

chosen_untold : (free limit on : Bool) (words : Words) → length (tick_report (chosen free limit on words).report) ≡ 0
    → (chosen free limit on words).command ≡ Some Unkey → ⊥
unfolding chosen
chosen_untold true limit on words none is = not_released words is
chosen_untold false true on words none is = cc none
chosen_untold false false true words none is = cc is
chosen_untold false false false words none is = cc is

tick_untold : (words : Words) (past : List Mark) → length (tick_report (tick_told words true past).report) ≡ 0
    → (tick_told words true past).command ≡ Some Unkey → ⊥
unfolding chosen
tick_untold words past none is =
    let key : Key = key_of words past in chosen_untold (free key) (is_at_limit key) key.on key.words none is

write_untold : (words : Words) (fault : Bool) (past : List Mark) → failed (called words (AfterWrite fault) past) ≡ false
    → written_told fault (key_of words past) ≡ Some Unkey → ⊥
write_untold words fault past unfailed is =
    let none : written_told fault (key_of words past) ≡ None =
    ap (λ (b : Bool). written_told b (key_of words past)) (told_failure words fault past unfailed) in
    cc (sym none ∙ is)

fault_untold : (told : Option Why) → length (lost_report told) ≡ 0 → told ≡ Some Failed → ⊥
fault_untold None none is = cc is
fault_untold (Some why) none is = cc none

call_untold : (words : Words) (call : Call) (past : List Mark) → IsLoudCall call
    → length (call_reports words call past) ≡ 0 → failed (called words call past) ≡ false
    → TellsEnd words call past → ⊥
call_untold words (Turn now octets end) past loud none unfailed (inl lost) =
    turn_untold (turn_told words now octets end past) none lost
call_untold words (Turn now octets end) past loud none unfailed (inr next) =
    turn_unreleased (turn_told words now octets end past) none next
call_untold words (AfterTry how) past loud none unfailed tells = tells
call_untold words (Tick true) past loud none unfailed tells = tick_untold words past none tells
call_untold words (Tick false) past loud none unfailed tells = absurd (true≢false (sym loud))
call_untold words (AfterWrite fault) past loud none unfailed tells = write_untold words fault past unfailed tells
call_untold words CommandFailed past loud none unfailed tells = fault_untold (fault_told words past) none tells
call_untold words (Release now octets end) past loud none unfailed tells = loud

-- ---- all calls since the first tick of a transmission

abbrev ReportsNoMore : Words → List KeyEvent → List KeyEvent → Type 0
ReportsNoMore words more keyed =
    length (reports_of words (from_tick more keyed)) ≤ length (reports_of words keyed)

none_told : (words : Words) (more keyed : List KeyEvent) → AreLoud more → ReportsNoMore words more keyed
    → failed (marks_of words (from_tick more keyed)) ≡ false → NoEndSince words more keyed
none_told words [] keyed loud none unfailed = tt
none_told words (Called call ∷ more) keyed loud none unfailed =
    let events : List KeyEvent = from_tick more keyed in
    let size = length-append (reports_of words events) (call_reports words call (marks_of words events)) in
    let all = reported_more words more (Called (Tick true) ∷ keyed) in
    let first = reported_more words (Called (Tick true) ∷ []) keyed in (
      subst (λ (calls : List Call). TellsEnd words call (history words calls) → ⊥)
          (calls-append more (Called (Tick true) ∷ keyed))
          (call_untold words call (marks_of words events) loud.0 (omega (arith, none, size, all, first)) unfailed),
      none_told words more keyed loud.1 (omega (arith, none, size))
          (before_events words (Called call ∷ []) events unfailed),
    )
none_told words (Began ∷ more) keyed loud none unfailed = none_told words more keyed loud.1 none unfailed
none_told words (NotBegun ∷ more) keyed loud none unfailed = none_told words more keyed loud.1 none unfailed
none_told words (Wrote command had ∷ more) keyed loud none unfailed = none_told words more keyed loud.1 none unfailed
none_told words (NotWritten ∷ more) keyed loud none unfailed = none_told words more keyed loud.1 none unfailed
none_told words (HungUp ∷ more) keyed loud none unfailed = none_told words more keyed loud.1 none unfailed

pub no_end_since : (words : Words) (more keyed : List KeyEvent) → AreLoud more
    → reports_of words (from_tick more keyed) ≡ reports_of words keyed
    → failed (marks_of words (from_tick more keyed)) ≡ false → NoEndSince words more keyed
no_end_since words more keyed loud same unfailed =
    let count : length (reports_of words (from_tick more keyed)) ≡ length (reports_of words keyed) = ap length same in
    none_told words more keyed loud (omega arith) unfailed
