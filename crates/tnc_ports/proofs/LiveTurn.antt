-- The parts of a turn make a turn, and those that came to pass one that is cut short.
use Rattle.tnc_ports.proofs.Common.{append-nil, Bool, IsTrue, ◌↔◌, ◌≡◌, ℕ, ◌+◌, ◌-◌, ◌*◌, ◌/◌, ◌<◌, ◌≤◌, [], ◌++◌, refl, sym, ap}
use Rattle.tnc_ports.proofs.Common.{subst, inl, inr, ◌∙◌, arith, Candidate, least_position, AreDueBy, LiveReceiver, detection_of}
use Rattle.tnc_ports.proofs.Common.{listening_of}
use Rattle.tnc_ports.proofs.Common.{answers_in, LanesListen, Turning, ServeWords, PortsTold, AreUnasked, IsAsked, Hosts}
use Rattle.tnc_ports.proofs.Common.{Asked, Live, HaveEnded, with_hosts, AreHeard, AreTicked, HearsAll, MakesAll, Keeps}
use Rattle.tnc_ports.proofs.Common.{StandsForLive, HearsFrames, HearsSome, Ticks, TicksAll, ServesAll, Reads, Turns}
use Rattle.tnc_ports.proofs.Common.{IsCutOff, IsCutInReading, IsCutInServing, SinkTold, WritesMore}
use Rattle.std.proofs.Common.{◌⊎◌, List, ◌∷◌, length}
use Rattle.live_receiver.specs.Listening.{IsBusyBy}
use Rattle.host_ports.specs.CutPart.{HasCutPart}
use Rattle.slicer_bank.specs.RingLanes.{answers_of}
use Rattle.tnc_ports.specs.declared.meter.Meter.{Meter}
use Rattle.host_ports.specs.Health.{with_heard}
use Rattle.tnc_ports.specs.HeldMeter.{HasMeasured, Measures}
use Rattle.sound_rate.specs.declared.rate.Rate.{Rate}
use Rattle.sound_rate.specs.HeldRates.{HasMade}
use Rattle.tnc_ports.specs.Measured.{place_after}
use Rattle.tnc_ports.specs.Sampled.{MakesTicks, having_heard}
use Rattle.tnc_ports.specs.SampledHeld.{Makes}
use Rattle.tnc_ports.specs.SampledRun.{IsCutInHearing, IsCutInTicking}
use Rattle.host_ports.proofs.AskedLemmas.{unasked}
use Rattle.tnc_ports.proofs.Common.{From, IsKeyTurn, KeyWords, KeyedSince, TurnsTheKey, Got}
use Rattle.std.specs.Prelude.{Option, Some, None}
use Rattle.key_port.specs.declared.key_side.KeySide.{KeySide}
use Rattle.key_port.specs.KeyEvents.{KeyEvent}
use Rattle.key_port.specs.KeyLines.{LineTold}
use Rattle.tnc_ports.specs.SampledHeld.{KeyStands, LineStands, IsWrittenSince}
use Rattle.tnc_ports.specs.SampledWrites.{ReportsMore}
use Rattle.tnc_ports.specs.ReportText.{report_text}
use Rattle.tnc_ports.specs.SampledRun.{key_failed}
use Rattle.tnc_ports.proofs.KeySteps.{LineHas, failed_same, written_since, put_failed}
use Rattle.tnc_ports.proofs.LiveSteps.{keyed_same, ticked_to}
use Rattle.tnc_ports.proofs.LiveWrites.{writes_more, writes_report, no_write, no_report, reports_more}

-- nothing is written
pub writes_nothing : (f f' : Bool) (a b : Live) (o o' r r' : SinkTold) → f' ≡ f → o' ≡ o → r' ≡ r → b.sent ≡ a.sent
    → b.hosts.report ≡ a.hosts.report → WritesMore f f' a b o o' r r'
writes_nothing f f' a b o o' r r' ef eo er es eh =
    let none = no_write f a o r in
    subst (λ x. WritesMore f x a b o o' r r') (sym ef)
    (subst (λ x. WritesMore f f a b o x r r') (sym eo)
    (subst (λ x. WritesMore f f a b o o r x) (sym er)
    (record {
      lines = none.lines;
      more = eh ∙ none.more;
      samples = none.samples;
      sent = es ∙ none.sent;
      puts = none.puts;
    })))

-- ---- up to the frames

-- so many frames are counted
abbrev pub counted_in : ℕ → Meter → Meter
counted_in count meter = record meter { health = with_heard count meter.health }

hears_all : (ended : Bool) (least : ℕ) (items : List Candidate) (before a b : Turning) (len : ℕ)
    (receiver : LiveReceiver) (live : Live) (r0 r1 r2 : SinkTold)
    → (h : Reads ended least items before a len receiver live r0 r1) → (g : HearsFrames items a b h.read.hosts r1 r2)
    → a.words ≡ before.words → HearsAll before.words ended live (having_heard items g.next h.read)
hears_all ended least items before a b len receiver live r0 r1 r2 h g words = record {
  read = h.read;
  reads = h.reads;
  items = items;
  due = h.due;
  hosts = g.next;
  hears = subst (λ w. AreHeard w.monitor items h.read.hosts g.next) words g.heard;
  is = refl;
}

heard_writes : (ended : Bool) (least : ℕ) (items : List Candidate) (before a b : Turning) (len : ℕ)
    (receiver : LiveReceiver) (live : Live) (o r0 r1 r2 : SinkTold)
    → (h : Reads ended least items before a len receiver live r0 r1) → (g : HearsFrames items a b h.read.hosts r1 r2)
    → WritesMore before.failed b.failed live (with_hosts g.next h.read) o o r0 r2
heard_writes ended least items before a b len receiver live o r0 r1 r2 h g =
    writes_more before.failed a.failed b.failed live h.read (with_hosts g.next h.read) o o o r0 r1 r2
    (writes_report before.failed a.failed live h.read o r0 r1 (ap (λ (l : Live). l.sent) h.reads.is) h.writes)
    (writes_report a.failed b.failed h.read (with_hosts g.next h.read) o r1 r2 refl g.writes)

-- ---- up to the ticks

ticks_after : (busy : Bool) (count least : ℕ) (before b : Turning) (len : ℕ) (receiver : LiveReceiver)
    (heard next : Live)
    → (answers_in len receiver ≡ heard.lanes) → (IsTrue busy ↔ IsBusyBy (listening_of receiver) (detection_of receiver) (answers_in len receiver))
    → listening_of receiver ≡ before.words.listening → detection_of receiver ≡ before.words.dcd
    → b.words ≡ before.words → AreTicked b.words busy count heard next → least ≡ least_position heard.lanes
    → heard.ticks + count ≤ least / 96 → MakesTicks before.words count heard next
ticks_after busy count least before b len receiver heard next lanes carrier listening detection words ticked is few =
    let to = ticked_to b.words busy count heard next ticked in
    let same : least ≡ least_position next.lanes = is ∙ ap least_position (sym to.lanes) in
    record {
      busy = busy;
      carrier = subst (λ l. IsTrue busy ↔ IsBusyBy before.words.listening before.words.dcd l) lanes
          (subst (λ d. IsTrue busy ↔ IsBusyBy before.words.listening d (answers_in len receiver)) detection
          (subst (λ w. IsTrue busy ↔ IsBusyBy w (detection_of receiver) (answers_in len receiver)) listening carrier));
      made = subst (λ w. AreTicked w busy count heard next) words ticked;
      passed = subst (λ n. 96 * next.ticks ≤ n) same (let t = to.ticks in omega (arith, t, few));
    }

makes_all : (ended busy : Bool) (least : ℕ) (before b : Turning) (len : ℕ) (receiver : LiveReceiver)
    (live heard keyed next : Live)
    → HearsAll before.words ended live heard → IsKeyTurn before.words heard keyed
    → (answers_in len receiver ≡ keyed.lanes) → (IsTrue busy ↔ IsBusyBy (listening_of receiver) (detection_of receiver) (answers_in len receiver))
    → listening_of receiver ≡ before.words.listening → detection_of receiver ≡ before.words.dcd
    → b.words ≡ before.words → AreTicked b.words busy (least / 96 - keyed.ticks) keyed next
    → least ≡ least_position keyed.lanes
    → 96 * keyed.ticks ≤ least → MakesAll before.words ended live next
makes_all ended busy least before b len receiver live heard keyed next hears keys lanes carrier listening detection words
    ticked is passed =
    let to = ticked_to b.words busy (least / 96 - keyed.ticks) keyed next ticked in
    let same : least ≡ least_position next.lanes = is ∙ ap least_position (sym to.lanes) in
    record {
      heard = heard;
      hears = hears;
      keyed = keyed;
      keys = keys;
      count = least / 96 - keyed.ticks;
      makes = ticks_after busy (least / 96 - keyed.ticks)
          least before b len receiver keyed next lanes carrier listening detection words ticked is
          (omega (arith, passed));
      next = subst (λ n. n < 96 * (next.ticks + 1)) same (let t = to.ticks in omega (arith, t, passed));
    }

read_ticks : (ended : Bool) (least : ℕ) (items : List Candidate) (before a : Turning) (len : ℕ)
    (receiver : LiveReceiver) (live : Live) (r0 r1 : SinkTold)
    → (h : Reads ended least items before a len receiver live r0 r1) → h.read.ticks ≡ live.ticks
read_ticks ended least items before a len receiver live r0 r1 h = ap (λ (l : Live). l.ticks) h.reads.is

-- ---- the key meanwhile

line_alike : (from : From) (key : Option KeyWords) (live next : Live) (line : LineTold) → next.keyed ≡ live.keyed
    → LineStands from key live line → LineStands from key next line
line_alike from None live next line same h = h
line_alike from (Some key) live next line same h = subst (λ (events : List KeyEvent). LineHas from key events line)
    (sym same) h

-- other lanes
relaned : (from : From) (key : Option KeyWords) (failed : Bool) (live : Live) (lanes : List (List Got)) (o r : SinkTold)
    → IsWrittenSince from key failed live o r → IsWrittenSince from key failed (record live { lanes = lanes }) o r
relaned from key failed live lanes o r h = written_since from key failed failed live (record live { lanes = lanes }) o r r
    refl refl refl (no_report failed live.hosts r) h

-- what the readers and the frames report is written, and the key did nothing
keyed_heard : (from : From) (before b : Turning) (live next : Live) (o r r' : SinkTold) (line : LineTold)
    → b.words ≡ before.words → b.key ≡ before.key → next.sent ≡ live.sent → next.whole ≡ live.whole
    → next.keyed ≡ live.keyed → ReportsMore before.failed b.failed live.hosts next.hosts r r'
    → KeyedSince from before live o r line → KeyedSince from b next o r' line
keyed_heard from before b live next o r r' line words key sent whole keyed writes h = record {
  stands = subst (λ (w : ServeWords). KeyStands w.key b.key next.keyed) (sym words)
      (subst (λ (k : Option KeySide). KeyStands before.words.key k next.keyed) (sym key)
      (subst (λ (events : List KeyEvent). KeyStands before.words.key before.key events) (sym keyed) h.stands));
  untold = λ none. ap (λ (w : ServeWords). key_failed w.key next) words
      ∙ failed_same before.words.key live next keyed
      ∙ h.untold (put_failed before.failed b.failed (report_text writes.lines) r r' writes.puts none);
  written = subst (λ (w : ServeWords). IsWrittenSince from w.key b.failed next o r') (sym words)
      (written_since from before.words.key before.failed b.failed live next o r r' sent whole keyed writes h.written);
  line_stands = subst (λ (w : ServeWords). LineStands from w.key next line) (sym words)
      (line_alike from before.words.key live next line keyed h.line_stands);
}

-- ---- a whole turn

-- up to the key's turn
pub record Keyed (from : From) (ended : Bool) (least : ℕ) (before k : Turning) (len : ℕ) (receiver : LiveReceiver)
    (live : Live) (o r0 r3 : SinkTold) (line : LineTold) : Type 0 where
  pub heard : Live
  pub hears : HearsAll before.words ended live heard
  pub next : Live
  pub keys : IsKeyTurn before.words heard next
  pub keeps : Keeps k.hosts next.hosts
  pub key : KeyedSince from k next o r3 line
  pub lanes : answers_in len receiver ≡ next.lanes
  pub is_least : least ≡ least_position next.lanes
  pub ticks : next.ticks ≡ live.ticks
  pub measures : Measures len before.words.rate k.meter next
  pub asked : next.asked ≡ live.asked
  pub writes : WritesMore before.failed k.failed live next o o r0 r3

keyed_up_to : (from : From) (ended : Bool) (least : ℕ) (items : List Candidate) (before a b k : Turning) (len : ℕ)
    (receiver : LiveReceiver) (live : Live) (o r0 r1 r2 r3 : SinkTold) (line line1 : LineTold)
    → KeyedSince from before live o r0 line
    → Reads ended least items before a len receiver live r0 r1
    → ((hosts : Hosts) → Keeps a.hosts hosts → HearsFrames items a b hosts r1 r2)
    → ((live : Live) → Keeps b.hosts live.hosts → KeyedSince from b live o r2 line
    → TurnsTheKey from b k live o r2 r3 line1)
    → a.words ≡ before.words → b.words ≡ a.words → a.key ≡ before.key → b.key ≡ a.key
    → Measures len before.words.rate before.meter live → a.meter ≡ before.meter → b.meter ≡ counted_in (length items) a.meter
    → k.meter ≡ b.meter
    → Keyed from ended least before k len receiver live o r0 r3 line1
keyed_up_to from ended least items before a b k len receiver live o r0 r1 r2 r3 line line1 key reads hear turn wa wb ka
    kb measures ma mb mk =
    let h = hear reads.read.hosts reads.keeps in
    let heard : Live = having_heard items h.next reads.read in
    let both = reports_more before.failed a.failed b.failed live.hosts reads.read.hosts h.next r0 r1 r2 reads.writes
    h.writes in
    let is = reads.reads.is in
    let keyed_b = keyed_heard from before b live heard o r0 r2 line (wb ∙ wa) (kb ∙ ka)
    (ap (λ (l : Live). l.sent) is) (ap (λ (l : Live). l.whole) is) (ap (λ (l : Live). l.keyed) is) both key in
    let t = turn heard h.keeps keyed_b in
    let to = t.turn.is in
    record {
      heard = heard;
      hears = hears_all ended least items before a b len receiver live r0 r1 r2 reads h wa;
      next = t.next;
      keys = subst (λ (w : ServeWords). IsKeyTurn w heard t.next) (wb ∙ wa) t.turn;
      keeps = t.keeps;
      key = t.key;
      lanes = reads.lanes ∙ sym (ap (λ (l : Live). l.lanes) to);
      is_least = reads.is_least ∙ ap least_position (sym (ap (λ (l : Live). l.lanes) to));
      ticks = ap (λ (l : Live). l.ticks) to ∙ read_ticks ended least items before a len receiver live r0 r1 reads;
      measures = subst (Measures len before.words.rate k.meter) (sym to)
          (subst (λ (m : Meter). Measures len before.words.rate m (record heard { hosts = t.turn.hosts; keyed = t.turn.keyed }))
          (sym (mk ∙ mb ∙ ap (counted_in (length items)) ma)) (record {
            sound = measures.sound ∙ sym (ap (λ (l : Live). l.sound) is);
            place = measures.place ∙ ap (place_after 0) (sym (ap (λ (l : Live). l.sound) is));
            health = ap (with_heard (length items)) (measures.health ∙ sym (ap (λ (l : Live). l.health) is));
            made = subst (HasMade before.words.rate before.meter.out) (sym (ap (λ (l : Live). l.samples) is))
                measures.made;
          }));
      asked = ap (λ (l : Live). l.asked) to ∙ ap (λ (l : Live). l.asked) is;
      writes = writes_report before.failed k.failed live t.next o r0 r3
          (ap (λ (l : Live). l.sent) to ∙ ap (λ (l : Live). l.sent) is)
          (reports_more before.failed b.failed k.failed live.hosts heard.hosts t.next.hosts r0 r2 r3 both t.writes);
    }

pub all_made : (from : From) (ended busy : Bool) (least : ℕ) (items : List Candidate) (before a b k c : Turning)
    (len : ℕ) (old receiver : LiveReceiver) (live : Live) (o o' r0 r1 r2 r3 r4 : SinkTold) (line line1 line2 : LineTold)
    → StandsForLive before len old live → KeyedSince from before live o r0 line
    → Reads ended least items before a len receiver live r0 r1
    → ((hosts : Hosts) → Keeps a.hosts hosts → HearsFrames items a b hosts r1 r2)
    → ((live : Live) → Keeps b.hosts live.hosts → KeyedSince from b live o r2 line
    → TurnsTheKey from b k live o r2 r3 line1)
    → ((live : Live) → Keeps k.hosts live.hosts → k.ticks ≡ live.ticks
    → Measures len k.words.rate k.meter live → KeyedSince from k live o r3 line1
    → TicksAll from busy (least / 96 - live.ticks) len k c live o o' r3 r4 line2)
    → ((n : ℕ) → LanesListen n receiver → IsTrue busy ↔ IsBusyBy (listening_of receiver) (detection_of receiver) (answers_in n receiver))
    → detection_of receiver ≡ before.words.dcd
    → a.words ≡ before.words → b.words ≡ a.words → k.words ≡ b.words → a.key ≡ before.key → b.key ≡ a.key
    → a.ticks ≡ before.ticks → b.ticks ≡ a.ticks → k.ticks ≡ b.ticks
    → a.meter ≡ before.meter → b.meter ≡ counted_in (length items) a.meter → k.meter ≡ b.meter
    → Makes from ended before c len receiver live o o' r0 r4 line2
all_made from ended busy least items before a b k c len old receiver live o o' r0 r1 r2 r3 r4 line line1 line2 stands key
    reads hear turn tick carrier detection wa wb wk ka kb ta tb tk ma mb mk =
    let up = keyed_up_to from ended least items before a b k len receiver live o r0 r1 r2 r3 line line1 key reads hear
    turn wa wb ka kb stands.measures ma mb mk in
    let kt : k.ticks ≡ up.next.ticks = tk ∙ tb ∙ ta ∙ stands.ticks ∙ sym up.ticks in
    let t = tick up.next up.keeps kt
    (subst (λ (w : ServeWords). Measures len w.rate k.meter up.next) (sym (wk ∙ wb ∙ wa)) up.measures) up.key in
    let to = ticked_to k.words busy (least / 96 - up.next.ticks) up.next t.next t.ticked in
    let passed : 96 * up.next.ticks ≤ least =
    (let p = stands.passed in let f = reads.forward in let at = up.ticks in omega (arith, p, f, at)) in
    record {
      made = t.next;
      makes = makes_all ended busy least before k len receiver live up.heard up.next t.next up.hears up.keys
          up.lanes (carrier len reads.listens) reads.listening detection (wk ∙ wb ∙ wa) t.ticked up.is_least passed;
      lanes = up.lanes ∙ sym to.lanes;
      listening = reads.listening;
      hears = reads.hears;
      ends = λ e. subst HaveEnded (sym reads.lanes ∙ up.lanes ∙ sym to.lanes) (reads.ends e);
      keeps = t.keeps;
      ticks = t.ticks;
      measures = subst (λ (w : ServeWords). Measures len w.rate c.meter t.next) (wk ∙ wb ∙ wa) t.measures;
      asked = to.asked ∙ up.asked;
      key = t.key;
      writes = writes_more before.failed k.failed c.failed live up.next t.next o o o' r0 r3 r4 up.writes t.writes;
    }

pub whole_turn : (from : From) (ended : Bool) (before c d : Turning) (len : ℕ) (receiver : LiveReceiver) (live : Live)
    (o o' r0 r3 r4 : SinkTold) (told told' : PortsTold) (line : LineTold)
    → Makes from ended before c len receiver live o o' r0 r3 line
    → ((hosts : Hosts) → Keeps c.hosts hosts → ServesAll c d hosts r3 r4 told told')
    → d.ticks ≡ c.ticks → c.words ≡ before.words → d.words ≡ c.words → d.key ≡ c.key → d.meter ≡ c.meter
    → Turns from ended before d len receiver live o o' r0 r4 told told' line
whole_turn from ended before c d len receiver live o o' r0 r3 r4 told told' line m serve td wc wd kd md =
    let s = serve m.made.hosts m.keeps in
    let next : Live = record m.made { hosts = s.next; asked = m.made.asked ++ s.asked ∷ [] } in
    record {
      between = c;
      reported = r3;
      makes = m;
      serves = s;
      next = next;
      turn = record {
        made = m.made;
        makes = m.makes;
        serves = record { asked = s.asked; hosts = s.next; part = s.part; is = refl };
      };
      goes_on = λ e. record {
        hosts = s.keeps;
        ticks = td ∙ m.ticks;
        listening = m.listening ∙ ap (λ (w : ServeWords). w.listening) (sym (wd ∙ wc));
        lanes = m.lanes;
        hears = m.hears e;
        passed = m.makes.makes.passed;
        measures = subst (λ (w : ServeWords). Measures len w.rate d.meter next) (sym (wd ∙ wc))
            (subst (λ (meter : Meter). Measures len before.words.rate meter next) (sym md) (record {
              sound = m.measures.sound;
              place = m.measures.place;
              health = m.measures.health;
              made = m.measures.made;
            }));
      };
      over = m.ends;
      lanes = m.lanes;
      sound = ap (λ (meter : Meter). answers_of len meter.reader) md ∙ m.measures.sound;
      key = keyed_heard from c d m.made next o' r3 r4 line wd kd refl refl refl s.writes m.key;
      writes = writes_more before.failed c.failed d.failed live m.made next o o' o' r0 r3 r4
          m.writes (writes_report c.failed d.failed m.made next o' r3 r4 refl s.writes);
      asked = s.asked;
      asks = ap (λ xs. xs ++ s.asked ∷ []) m.asked;
      tells = s.tells;
    }

-- ---- turns that are cut short

-- a meter that stayed
measured_so : (len : ℕ) (rate : Rate) (before after : Meter) (live next : Live) → after ≡ before
    → Measures len rate before live → next.sound ≡ live.sound → HasMeasured len after next
measured_so len rate before after live next same h sound = (
  [],
  ap (λ (m : Meter). answers_of len m.reader) same ∙ h.sound ∙ sym sound ∙ sym (append-nil next.sound),
)

pub cut_reading : (from : From) (before a : Turning) (len : ℕ) (receiver : LiveReceiver) (live : Live)
    (o r0 r1 : SinkTold)
    (told : PortsTold) (line : LineTold)
    → KeyedSince from before live o r0 line
    → IsCutInReading before.words live (record live { lanes = answers_in len receiver }) → a.failed ≡ before.failed
    → a.words ≡ before.words → a.key ≡ before.key → r1 ≡ r0
    → Measures len before.words.rate before.meter live → a.meter ≡ before.meter
    → IsCutOff from before a len receiver live o o r0 r1 told told line
cut_reading from before a len receiver live o r0 r1 told line key cut failed words same_key same measures ma = record {
  next = record live { lanes = answers_in len receiver };
  cut = inl cut;
  lanes = refl;
  measured = measured_so len before.words.rate before.meter a.meter live (record live { lanes = answers_in len receiver }) ma measures
      refl;
  key = keyed_same from before a (record live { lanes = answers_in len receiver }) o o r0 r1 line line refl same refl
      failed words same_key (record {
        stands = key.stands;
        untold = λ none. failed_same before.words.key live (record live { lanes = answers_in len receiver }) refl
            ∙ key.untold none;
        written = relaned from before.words.key before.failed live
            (answers_in len receiver) o r0 key.written;
        line_stands = line_alike from before.words.key live
            (record live { lanes = answers_in len receiver }) line refl key.line_stands;
      });
  writes = writes_nothing before.failed a.failed live (record live { lanes = answers_in len receiver })
      o o r0 r1 failed refl same refl refl;
  asks = refl;
  tells = inl (unasked told);
}

pub cut_hearing : (from : From) (ended : Bool) (least : ℕ) (items : List Candidate) (before a b : Turning) (len : ℕ)
    (receiver : LiveReceiver) (live : Live) (o r0 r1 r2 : SinkTold) (told : PortsTold) (line : LineTold)
    → KeyedSince from before live o r0 line
    → Reads ended least items before a len receiver live r0 r1
    → ((hosts : Hosts) → Keeps a.hosts hosts → HearsSome items a b hosts r1 r2)
    → a.words ≡ before.words → b.words ≡ a.words → a.key ≡ before.key → b.key ≡ a.key
    → Measures len before.words.rate before.meter live → a.meter ≡ before.meter → b.meter ≡ a.meter
    → IsCutOff from before b len receiver live o o r0 r2 told told line
cut_hearing from ended least items before a b len receiver live o r0 r1 r2 told line key reads hear wa wb ka kb measures ma
    mb =
    let h = hear reads.read.hosts reads.keeps in
    let next : Live = with_hosts h.next reads.read in
    let is = reads.reads.is in
    let cut : IsCutInHearing before.words live next = record {
      ended = ended;
      read = reads.read;
      reads = reads.reads;
      items = h.first;
      others = h.others;
      due = subst (AreDueBy before.words.listening ended live.lanes reads.read.lanes) h.parts reads.due;
      hosts = h.next;
      hears = subst (λ w. AreHeard w.monitor h.first reads.read.hosts h.next) wa h.heard;
      is = refl;
    } in
    record {
      next = next;
      cut = inr (inl cut);
      lanes = reads.lanes;
      measured = measured_so len before.words.rate before.meter b.meter live next (mb ∙ ma) measures (ap (λ (l : Live). l.sound) is);
      key = keyed_heard from before b live next o r0 r2 line (wb ∙ wa) (kb ∙ ka) (ap (λ (l : Live). l.sent) is)
          (ap (λ (l : Live). l.whole) is) (ap (λ (l : Live). l.keyed) is)
          (reports_more before.failed a.failed b.failed live.hosts reads.read.hosts h.next r0 r1 r2 reads.writes h.writes)
          key;
      writes = writes_more before.failed a.failed b.failed live reads.read next o o o r0 r1 r2
          (writes_report before.failed a.failed live reads.read o r0 r1 (ap (λ (l : Live). l.sent) is) reads.writes)
          (writes_report a.failed b.failed reads.read next o r1 r2 refl h.writes);
      asks = ap (λ (l : Live). l.asked) is;
      tells = inl (unasked told);
    }

pub cut_ticking : (from : From) (ended busy : Bool) (least : ℕ) (items : List Candidate) (before a b k c : Turning)
    (len : ℕ) (old receiver : LiveReceiver) (live : Live) (o o' r0 r1 r2 r3 r4 : SinkTold) (told : PortsTold)
    (line line1 line2 : LineTold)
    → StandsForLive before len old live → KeyedSince from before live o r0 line
    → Reads ended least items before a len receiver live r0 r1
    → ((hosts : Hosts) → Keeps a.hosts hosts → HearsFrames items a b hosts r1 r2)
    → ((live : Live) → Keeps b.hosts live.hosts → KeyedSince from b live o r2 line
    → TurnsTheKey from b k live o r2 r3 line1)
    → ((live : Live) → Keeps k.hosts live.hosts → k.ticks ≡ live.ticks
    → Measures len k.words.rate k.meter live → KeyedSince from k live o r3 line1
    → (count : ℕ) × (live.ticks + count ≤ least / 96) × Ticks from busy count len k c live o o' r3 r4 line2)
    → ((n : ℕ) → LanesListen n receiver → IsTrue busy ↔ IsBusyBy (listening_of receiver) (detection_of receiver) (answers_in n receiver))
    → detection_of receiver ≡ before.words.dcd
    → a.words ≡ before.words → b.words ≡ a.words → k.words ≡ b.words → a.key ≡ before.key → b.key ≡ a.key
    → a.ticks ≡ before.ticks → b.ticks ≡ a.ticks → k.ticks ≡ b.ticks
    → a.meter ≡ before.meter → b.meter ≡ counted_in (length items) a.meter → k.meter ≡ b.meter
    → IsCutOff from before c len receiver live o o' r0 r4 told told line2
cut_ticking from ended busy least items before a b k c len old receiver live o o' r0 r1 r2 r3 r4 told line line1 line2
    stands key reads hear turn tick carrier detection wa wb wk ka kb ta tb tk ma mb mk =
    let up = keyed_up_to from ended least items before a b k len receiver live o r0 r1 r2 r3 line line1 key reads hear
    turn wa wb ka kb stands.measures ma mb mk in
    let t = tick up.next up.keeps (tk ∙ tb ∙ ta ∙ stands.ticks ∙ sym up.ticks)
    (subst (λ (w : ServeWords). Measures len w.rate k.meter up.next) (sym (wk ∙ wb ∙ wa)) up.measures) up.key in
    let to = ticked_to k.words busy t.0 up.next t.2.next t.2.ticked in
    let cut : IsCutInTicking before.words live t.2.next = record {
      ended = ended;
      heard = up.heard;
      hears = up.hears;
      keyed = up.next;
      keys = up.keys;
      count = t.0;
      makes = ticks_after busy t.0 least before k len receiver up.next t.2.next up.lanes (carrier len reads.listens)
          reads.listening detection (wk ∙ wb ∙ wa) t.2.ticked up.is_least t.1;
    } in
    record {
      next = t.2.next;
      cut = inr (inr (inl cut));
      lanes = up.lanes ∙ sym to.lanes;
      measured = t.2.measured;
      key = t.2.key;
      writes = writes_more before.failed k.failed c.failed live up.next t.2.next o o o' r0 r3 r4 up.writes t.2.writes;
      asks = to.asked ∙ up.asked;
      tells = inl (unasked told);
    }

in_serving : (words : ServeWords) (ended : Bool) (before made : Live) (told told' : PortsTold)
    → MakesAll words ended before made → HasCutPart made.hosts told told'
    → AreUnasked told told' ⊎ ((asked : Asked) × (reached : Hosts) × IsCutInServing words before made asked reached
    × IsAsked asked told told')
in_serving words ended before made told told' makes (inl none) = inl none
in_serving words ended before made told told' makes (inr some) =
    inr (some.0, some.1, record { ended = ended; makes = makes; part = some.2 }, some.3)

pub cut_serving : (from : From) (ended : Bool) (before c d : Turning) (len : ℕ) (receiver : LiveReceiver) (live : Live)
    (o o' r0 r3 r4 : SinkTold) (told told' : PortsTold) (line : LineTold)
    → Makes from ended before c len receiver live o o' r0 r3 line
    → d.failed ≡ c.failed → d.words ≡ c.words → d.key ≡ c.key → r4 ≡ r3
    → ((hosts : Hosts) → Keeps c.hosts hosts → HasCutPart hosts told told') → d.meter ≡ c.meter
    → IsCutOff from before d len receiver live o o' r0 r4 told told' line
cut_serving from ended before c d len receiver live o o' r0 r3 r4 told told' line m failed words key same cut md =
    record {
      next = m.made;
      cut = inr (inr (inr (ended, m.makes)));
      lanes = m.lanes;
      measured = measured_so len before.words.rate c.meter d.meter m.made m.made md m.measures refl;
      key = keyed_same from c d m.made o' o' r3 r4 line line refl same refl failed words key m.key;
      writes = writes_more before.failed c.failed d.failed live m.made m.made o o' o' r0 r3 r4
          m.writes (writes_nothing c.failed d.failed m.made m.made o' o' r3 r4 failed refl same refl refl);
      asks = m.asked;
      tells = in_serving before.words ended live m.made told told' m.makes (cut m.made.hosts m.keeps);
    }
