-- Each step of a live station, of what the code keeps and what it writes.
use Rattle.tnc_ports.proofs.Common.{Bool, true, false, Option, Some, Result, Ok, Err, OnErr, ◌≡◌, ℕ, ◌+◌, ◌-◌, ◌<◌, ◌≤◌}
use Rattle.tnc_ports.proofs.Common.{[], ◌++◌, length, take, drop, get_or, refl, sym, ap, subst, ◌∙◌, arith}
use Rattle.tnc_ports.proofs.Common.{append_assoc, append-nil, take_more, take-append-drop, Sent, Links, AirTick}
use Rattle.tnc_ports.proofs.Common.{Candidate, Got, ReportLine, Turning, PortsTold, IsAsked, taken_of, octets_for, StandsFor}
use Rattle.tnc_ports.proofs.Common.{Hosts, Asked, IsHostPart, report_text, Live, AreHeard, AreTicked}
use Rattle.tnc_ports.proofs.Common.{IsTurn, ReceivedLine, SentLine, with_lines, AreReceivedLines, AreSentLines}
use Rattle.tnc_ports.proofs.Common.{IsFrameHeard, Keeps, HearsFrames, HearsSome, Ticks, TicksAll, ServesAll}
use Rattle.tnc_ports.proofs.Common.{AreTurns, SinkTold, Puts, ReportsMore, WritesMore, ServeWords, From, KeyedSince}
use Rattle.key_port.specs.declared.key_side.KeySide.{KeySide}
use Rattle.key_port.specs.KeyLines.{LineTold}
use Rattle.tnc_ports.specs.SampledHeld.{KeyStands, LineStands, IsWrittenSince}
use Rattle.tnc_ports.specs.SampledRun.{key_failed}
use Rattle.std.proofs.Common.{zero, suc, List, ◌∷◌}
use Rattle.std.proofs.lemmas.List.{append_cancel_left, take_all}
use Rattle.ax25_address.specs.declared.path.Path.{Path}
use Rattle.ax25_frames.specs.declared.frame.Modulus.{Modulus}
use Rattle.station.specs.Heard.{IsPathOf}
use Rattle.station.specs.Monitored.{heard_modulus, sent_modulus}
use Rattle.slicer_bank.specs.RingLanes.{answers_of}
use Rattle.host_ports.specs.HeldHosts.{HeldHosts}
use Rattle.tnc_ports.specs.HeldMeter.{Measures}
use Rattle.host_ports.specs.Hosts.{IsHeardStep, IsTickStep}
use Rattle.tnc_ports.specs.Sampled.{IsTicked}
use Rattle.tnc_ports.specs.SampledFrames.{IsFrameText}
use Rattle.tnc_ports.specs.SampledHeld.{HearsFrame}
use Rattle.tnc_ports.proofs.LiveWrites.{reports_more, writes_more, no_report, no_write}

-- ---- lines

-- if all lines are printed, they may be any others
pub relined : (held : HeldHosts) (hosts : Hosts) (report : List ReportLine) → StandsFor held hosts.report hosts
    → StandsFor held report (record hosts { report = report })
relined held hosts report h =
    let none : held.parts.report.items ≡ [] =
    sym (append_cancel_left hosts.report [] held.parts.report.items (append-nil hosts.report ∙ h.parts.report)) in
    record {
      live = h.live;
      parts = record {
        station = h.parts.station;
        came = h.parts.came;
        clients = h.parts.clients;
        untaken = h.parts.untaken;
        report = sym (append-nil report) ∙ ap (λ xs. report ++ xs) (sym none);
        to_shut = h.parts.to_shut;
        leaving = h.parts.leaving;
      };
      orderly = h.orderly;
    }

-- the lines that a step left are taken
abbrev pub AreTakenLines : HeldHosts → HeldHosts → List ReportLine → Type 0
AreTakenLines before after taken = (hosts : Hosts) (printed : List ReportLine) → StandsFor before printed hosts
    → (hosts.report ≡ printed ++ taken) × StandsFor after (printed ++ taken) hosts

-- ---- what a monitor shows

pub received_line : (monitor : Bool) (octets text : List ℕ) (links : Links) (modulus : Modulus)
    (lines : List ReportLine) (path : Option Path)
    → monitor ≡ true → IsPathOf octets path → modulus ≡ heard_modulus path links → IsFrameText modulus octets text
    → lines ≡ ReceivedLine text ∷ []
    → AreReceivedLines monitor octets links lines
received_line monitor octets text links modulus lines path m reading is shown one =
    subst (λ b. AreReceivedLines b octets links lines) (sym m) (
      ReceivedLine text,
      record {
        path = path;
        reading = reading;
        text = text;
        is_text = subst (λ x. IsFrameText x octets text) is shown;
        is = refl;
      },
      one,
    )

pub sent_line : (monitor : Bool) (sent : Option Sent) (one : Sent) (octets text : List ℕ) (links : Links)
    (modulus : Modulus) (lines : List ReportLine) (path : Option Path)
    → monitor ≡ true → sent ≡ Some one → octets ≡ one.octets → IsPathOf octets path → modulus ≡ sent_modulus path links
    → IsFrameText modulus octets text → lines ≡ SentLine text ∷ []
    → AreSentLines monitor sent links lines
sent_line monitor sent one octets text links modulus lines path m some same reading is shown only =
    subst (λ s. AreSentLines monitor s links lines) (sym some)
    (subst (λ b. AreSentLines b (Some one) links lines) (sym m) (
      SentLine text,
      record {
        path = path;
        reading = subst (λ o. IsPathOf o path) same reading;
        text = text;
        is_text = subst (λ o. IsFrameText (sent_modulus path links) o text) same
            (subst (λ x. IsFrameText x octets text) is shown);
        is = refl;
      },
      only,
    ))

-- ---- a frame

abbrev pub IsHearing : List ℕ → HeldHosts → HeldHosts → Type 0
IsHearing octets before after = (hosts : Hosts) (printed : List ReportLine) → StandsFor before printed hosts
    → (next : Hosts) × IsHeardStep octets hosts next × StandsFor after printed next

pub hears_frame : (octets : List ℕ) (before after : Turning) (between : HeldHosts) (hosts : Hosts)
    (shown taken : List ReportLine) (text : List ℕ) (report report' : SinkTold)
    → Keeps before.hosts hosts → AreReceivedLines before.words.monitor octets hosts.station.links shown
    → IsHearing octets before.hosts between → AreTakenLines between after.hosts taken
    → text ≡ report_text (shown ++ taken) → Puts before.failed after.failed text report report'
    → HearsFrame octets before after hosts report report'
hears_frame octets before after between hosts shown taken text report report' keeps are hear take is put =
    let given = hear (with_lines shown hosts) (hosts.report ++ shown)
    (relined before.hosts hosts (hosts.report ++ shown) keeps) in
    let took = take given.0 (hosts.report ++ shown) given.2 in
    record {
      next = given.0;
      heard = record { lines = shown; shown = are; step = given.1 };
      keeps = subst (λ r. StandsFor after.hosts r given.0) (sym took.0) took.1;
      writes = record {
        lines = shown ++ taken;
        more = took.0 ∙ append_assoc hosts.report shown taken;
        puts = subst (λ t. Puts before.failed after.failed t report report') is put;
      };
    }

-- ---- several frames

heard_more : (monitor : Bool) (items : List Candidate) (item : Candidate) (a b c : Hosts) → AreHeard monitor items a b
    → IsFrameHeard monitor item.octets b c → AreHeard monitor (items ++ item ∷ []) a c
heard_more monitor [] item a b c h g = (c, subst (λ x. IsFrameHeard monitor item.octets x c) h g, refl)
heard_more monitor (first ∷ items) item a b c h g = (h.0, h.1, heard_more monitor items item h.0 b c h.2 g)

pub hears_more : (items : List Candidate) (item : Candidate) (octets : List ℕ) (first before after : Turning)
    (hosts : Hosts) (r r' r'' : SinkTold)
    → octets ≡ item.octets → before.words ≡ first.words
    → HearsFrames items first before hosts r r'
    → ((hosts : Hosts) → Keeps before.hosts hosts → HearsFrame octets before after hosts r' r'')
    → HearsFrames (items ++ item ∷ []) first after hosts r r''
hears_more items item octets first before after hosts r r' r'' is words h hear =
    let one = hear h.next h.keeps in
    record {
      next = one.next;
      heard = heard_more first.words.monitor items item hosts h.next one.next h.heard
          (subst (λ o. IsFrameHeard first.words.monitor o h.next one.next) is
          (subst (λ w. IsFrameHeard w.monitor octets h.next one.next) words one.heard));
      keeps = one.keeps;
      writes = reports_more first.failed before.failed after.failed hosts h.next one.next r r' r'' h.writes one.writes;
    }

-- with the next of the frames
pub hears_next : (items : List Candidate) (k : ℕ) (item : Candidate) (octets : List ℕ) (first before after : Turning)
    (hosts : Hosts) (r r' r'' : SinkTold)
    → k < length items → item ≡ get_or items k item → octets ≡ item.octets → before.words ≡ first.words
    → HearsFrames (take k items) first before hosts r r'
    → ((hosts : Hosts) → Keeps before.hosts hosts → HearsFrame octets before after hosts r' r'')
    → HearsFrames (take (k + 1) items) first after hosts r r''
hears_next items k item octets first before after hosts r r' r'' lt at is words h hear =
    let e : take (k + 1) items ≡ take k items ++ item ∷ [] = take_more items k item lt
    ∙ ap (λ x. take k items ++ x ∷ []) (sym at) in
    subst (λ xs. HearsFrames xs first after hosts r r'') (sym e)
    (hears_more (take k items) item octets first before after hosts r r' r'' is words h hear)

pub hears_none : (turning : Turning) (items : List Candidate) (hosts : Hosts) (r : SinkTold) → Keeps turning.hosts hosts
    → HearsFrames (take 0 items) turning turning hosts r r
hears_none turning items hosts r keeps = record {
  next = hosts;
  heard = refl;
  keeps = keeps;
  writes = no_report turning.failed hosts r;
}

pub hears_done : (items : List Candidate) (k : ℕ) (first after : Turning) (hosts : Hosts) (r r' : SinkTold)
    → length items ≤ k
    → HearsFrames (take k items) first after hosts r r' → HearsFrames items first after hosts r r'
hears_done items k first after hosts r r' past h = subst (λ xs. HearsFrames xs first after hosts r r')
    (take_all k items past) h

pub hears_some : (items : List Candidate) (k : ℕ) (first before after : Turning) (hosts : Hosts) (r r' r'' : SinkTold)
    → HearsFrames (take k items) first before hosts r r' → r'' ≡ r' → after.failed ≡ before.failed
    → HearsSome items first after hosts r r''
hears_some items k first before after hosts r r' r'' h same failed = record {
  first = take k items;
  others = drop k items;
  parts = sym (take-append-drop k items);
  next = h.next;
  heard = h.heard;
  writes = subst (λ s. ReportsMore first.failed after.failed hosts h.next r s) (sym same)
      (subst (λ f. ReportsMore first.failed f hosts h.next r r') (sym failed) h.writes);
}

-- with other counts
pub hears_counted : (items : List Candidate) (first after last : Turning) (hosts : Hosts) (r r' : SinkTold)
    → last.hosts ≡ after.hosts → last.failed ≡ after.failed → HearsFrames items first after hosts r r'
    → HearsFrames items first last hosts r r'
hears_counted items first after last hosts r r' same failed h = record {
  next = h.next;
  heard = h.heard;
  keeps = subst (λ (held : HeldHosts). Keeps held h.next) (sym same) h.keeps;
  writes = subst (λ (f : Bool). ReportsMore first.failed f hosts h.next r r') (sym failed) h.writes;
}

pub hears_same : (items others : List Candidate) (first after : Turning) (hosts : Hosts) (r r' : SinkTold)
    → items ≡ others
    → HearsFrames items first after hosts r r' → HearsFrames others first after hosts r r'
hears_same items others first after hosts r r' e h = subst (λ xs. HearsFrames xs first after hosts r r') e h

pub hears_some_same : (items others : List Candidate) (first after : Turning) (hosts : Hosts) (r r' : SinkTold)
    → items ≡ others
    → HearsSome items first after hosts r r' → HearsSome others first after hosts r r'
hears_some_same items others first after hosts r r' e h = subst (λ xs. HearsSome xs first after hosts r r') e h

-- ---- a key to which nothing was done

pub keyed_same : (from : From) (before after : Turning) (live : Live) (o o' r r' : SinkTold) (line line' : LineTold)
    → o' ≡ o → r' ≡ r → line' ≡ line → after.failed ≡ before.failed → after.words ≡ before.words
    → after.key ≡ before.key → KeyedSince from before live o r line → KeyedSince from after live o' r' line'
keyed_same from before after live o o' r r' line line' so sr sl failed words key h = record {
  stands = subst (λ (w : ServeWords). KeyStands w.key after.key live.keyed) (sym words)
      (subst (λ (k : Option KeySide). KeyStands before.words.key k live.keyed) (sym key) h.stands);
  untold = λ none. ap (λ (w : ServeWords). key_failed w.key live) words ∙ h.untold (sym failed ∙ none);
  written = subst (λ (w : ServeWords). IsWrittenSince from w.key after.failed live o' r') (sym words)
      (subst (λ (f : Bool). IsWrittenSince from before.words.key f live o' r') (sym failed)
      (subst (λ (s : SinkTold). IsWrittenSince from before.words.key before.failed live s r') (sym so)
      (subst (λ (s : SinkTold). IsWrittenSince from before.words.key before.failed live o s) (sym sr) h.written)));
  line_stands = subst (λ (w : ServeWords). LineStands from w.key live line') (sym words)
      (subst (λ (l : LineTold). LineStands from before.words.key live l) (sym sl) h.line_stands);
}

-- ---- a tick

abbrev pub IsTicking : Bool → AirTick → HeldHosts → HeldHosts → Type 0
IsTicking busy air before after = (hosts : Hosts) (printed : List ReportLine) → StandsFor before printed hosts
    → (next : Hosts) × IsTickStep busy air hosts next × StandsFor after printed next

ticked_more : (words : ServeWords) (busy : Bool) (count : ℕ) (a b c : Live) → AreTicked words busy count a b
    → AreTicked words busy 1 b c → AreTicked words busy (suc count) a c
ticked_more words busy zero a b c h g = (g.0, subst (λ x. IsTicked words busy x g.0) h g.1, g.2)
ticked_more words busy (suc count) a b c h g = (h.0, h.1, ticked_more words busy count h.0 b c h.2 g)

-- what ticks leave as it was
pub record IsTickedTo (count : ℕ) (a b : Live) : Type 0 where
  pub ticks : b.ticks ≡ a.ticks + count
  pub lanes : b.lanes ≡ a.lanes
  pub asked : b.asked ≡ a.asked

pub ticked_to : (words : ServeWords) (busy : Bool) (count : ℕ) (a b : Live) → AreTicked words busy count a b
    → IsTickedTo count a b
ticked_to words busy zero a b h = record {
  ticks = let e = ap (λ (l : Live). l.ticks) h in omega (arith, e);
  lanes = ap (λ (l : Live). l.lanes) h;
  asked = ap (λ (l : Live). l.asked) h;
}
ticked_to words busy (suc count) a b h =
    let rest = ticked_to words busy count h.0 b h.2 in
    record {
      ticks = let e = ap (λ (l : Live). l.ticks) h.1.is in let f = rest.ticks in omega (arith, e, f);
      lanes = rest.lanes ∙ ap (λ (l : Live). l.lanes) h.1.is;
      asked = rest.asked ∙ ap (λ (l : Live). l.asked) h.1.is;
    }

pub ticks_more : (from : From) (busy : Bool) (count tick len : ℕ) (first before after : Turning) (live : Live)
    (o o' o'' r r' r'' : SinkTold) (line line' : LineTold)
    → before.words ≡ first.words → tick ≡ live.ticks + count
    → TicksAll from busy count len first before live o o' r r' line
    → ((live : Live) → Keeps before.hosts live.hosts → tick ≡ live.ticks
    → Measures len before.words.rate before.meter live
    → KeyedSince from before live o' r' line
    → TicksAll from busy 1 len before after live o' o'' r' r'' line')
    → TicksAll from busy (suc count) len first after live o o'' r r'' line'
ticks_more from busy count tick len first before after live o o' o'' r r' r'' line line' words at h step =
    let to = ticked_to first.words busy count live h.next h.ticked in
    let one = step h.next h.keeps (at ∙ sym to.ticks)
    (subst (λ (w : ServeWords). Measures len w.rate before.meter h.next) (sym words) h.measures) h.key in
    record {
      next = one.next;
      ticked = ticked_more first.words busy count live h.next one.next h.ticked
          (subst (λ w. AreTicked w busy 1 h.next one.next) words one.ticked);
      key = one.key;
      writes = writes_more first.failed before.failed after.failed live h.next one.next o o' o'' r r' r'' h.writes
          one.writes;
      keeps = one.keeps;
      ticks = one.ticks;
      measures = subst (λ (w : ServeWords). Measures len w.rate after.meter one.next) words one.measures;
    }

pub ticks_none : (from : From) (busy : Bool) (len : ℕ) (turning : Turning) (live : Live) (o r : SinkTold)
    (line : LineTold)
    → Keeps turning.hosts live.hosts → turning.ticks ≡ live.ticks
    → Measures len turning.words.rate turning.meter live
    → KeyedSince from turning live o r line
    → TicksAll from busy 0 len turning turning live o o r r line
ticks_none from busy len turning live o r line keeps at measures key = record {
  next = live;
  ticked = refl;
  key = key;
  writes = no_write turning.failed live o r;
  keeps = keeps;
  ticks = at;
  measures = measures;
}

pub ticks_done : (from : From) (busy : Bool) (count due len : ℕ) (first after : Turning) (live : Live)
    (o o' r r' : SinkTold)
    (line' : LineTold) → count ≡ due → TicksAll from busy count len first after live o o' r r' line'
    → TicksAll from busy due len first after live o o' r r' line'
ticks_done from busy count due len first after live o o' r r' line' e h =
    subst (λ n. TicksAll from busy n len first after live o o' r r' line') e h

-- how many ticks are due
pub count_due : (count tick ticks due : ℕ) → tick ≡ ticks + count → (0 < count → tick ≤ due) → due ≤ tick
    → count ≡ due - ticks
count_due zero tick ticks due a b t = omega (arith, a, t)
count_due (suc n) tick ticks due a b t = let positive : 0 < suc n = omega arith in let h = b positive in
    omega (arith, a, h, t)

pub ticks_some : (from : From) (busy : Bool) (count len : ℕ) (first before after : Turning) (live : Live)
    (o o' o'' r r' r'' : SinkTold) (line line' : LineTold)
    → TicksAll from busy count len first before live o o' r r' line → o'' ≡ o' → r'' ≡ r' → line' ≡ line
    → after.failed ≡ before.failed → after.words ≡ before.words → after.key ≡ before.key
    → ((more : List Got) × (answers_of len after.meter.reader ≡ answers_of len before.meter.reader ++ more))
    → Ticks from busy count len first after live o o'' r r'' line'
ticks_some from busy count len first before after live o o' o'' r r' r'' line line' h so sr sl failed words key more =
    record {
      next = h.next;
      ticked = h.ticked;
      key = keyed_same from before after h.next o' o'' r' r'' line line' so sr sl failed words key h.key;
      writes = subst (λ s. WritesMore first.failed after.failed live h.next o s r r'') (sym so)
          (subst (λ s. WritesMore first.failed after.failed live h.next o o' r s) (sym sr)
          (subst (λ f. WritesMore first.failed f live h.next o o' r r') (sym failed) h.writes));
      measured = (more.0, more.1 ∙ ap (λ xs. xs ++ more.0) h.measures.sound);
    }

-- ---- hosts

pub serves_all : (before after : Turning) (between : HeldHosts) (hosts : Hosts) (taken : List ReportLine)
    (text : List ℕ) (report report' : SinkTold) (told told' : PortsTold)
    → Keeps before.hosts hosts
    → ((hosts : Hosts) (printed : List ReportLine) → StandsFor before.hosts printed hosts
    → (asked : Asked) × (next : Hosts) × IsHostPart asked hosts next × StandsFor between printed next
    × ((id : ℕ) → octets_for id next.sent ≡ octets_for id hosts.sent ++ taken_of id asked.offers)
    × IsAsked asked told told')
    → AreTakenLines between after.hosts taken
    → text ≡ report_text taken → Puts before.failed after.failed text report report'
    → ServesAll before after hosts report report' told told'
serves_all before after between hosts taken text report report' told told' keeps part take is put =
    let given = part hosts hosts.report keeps in
    let took = take given.1 hosts.report given.3 in
    record {
      asked = given.0;
      next = given.1;
      part = given.2;
      tells = given.5;
      keeps = subst (λ r. StandsFor after.hosts r given.1) (sym took.0) took.1;
      writes = record {
        lines = taken;
        more = took.0;
        puts = subst (λ t. Puts before.failed after.failed t report report') is put;
      };
    }

-- ---- turns

pub turns_more : (words : ServeWords) (count : ℕ) (a b c : Live) → AreTurns words count a b → IsTurn words false b c
    → AreTurns words (suc count) a c
turns_more words zero a b c h g = (c, subst (λ x. IsTurn words false x c) h g, refl)
turns_more words (suc count) a b c h g = (h.0, h.1, turns_more words count h.0 b c h.2 g)
