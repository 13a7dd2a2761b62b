-- A tick of a live station, of what the code keeps and what it writes: the key's command, the samples, the lines.
use Rattle.std.proofs.Common.{◌≡◌, ℕ, ◌+◌, List, ◌++◌, refl, sym, ap, subst, ◌∙◌}
use Rattle.std.specs.Prelude.{ℤ, Bool, false, ◌||◌, Option, Some, None, length, map}
use Rattle.channel_access.specs.Sound.{has_sound}
use Rattle.keying.specs.declared.report.Report.{Report}
use Rattle.keying.specs.Calls.Call.{Tick, AfterWrite}
use Rattle.key_port.specs.declared.key_side.KeySide.{KeySide}
use Rattle.key_port.specs.KeyEvents.{KeyEvent}
use Rattle.key_port.specs.KeyLines.{LineTold}
use Rattle.tnc_ports.proofs.Common.{AirTick, AreSentLines, From, Hosts, IsTickMade, Keeps, KeyWords, KeyedSince, Live}
use Rattle.tnc_ports.proofs.Common.{Puts, ReportLine, ServeWords, StandsFor, SinkTold, TicksAll, Turning, append_assoc}
use Rattle.tnc_ports.proofs.Common.{is_held, key_line, output_octets, report_text, with_lines}
use Rattle.sound_rate.specs.HeldRates.{HasMade}
use Rattle.sound_rate.specs.Rates.{written_at}
use Rattle.host_ports.specs.declared.health.Health.{Health}
use Rattle.host_ports.specs.declared.health_note.HealthNotes.{HealthNotes}
use Rattle.tnc_ports.specs.HealthNotes.{health_lines}
use Rattle.host_ports.specs.HeldHosts.{HeldHosts}
use Rattle.tnc_ports.specs.Sampled.{notes_in_tick, health_after_tick}
use Rattle.tnc_ports.specs.SampledHeld.{KeyStands, LineStands, IsWrittenSince}
use Rattle.tnc_ports.specs.SampledRun.{key_failed}
use Rattle.tnc_ports.proofs.KeySteps.{failed_same, put_failed}
use Rattle.tnc_ports.proofs.KeyTicks.{KeyTicked, Asks, Rests, ticked, output_since, tick_report_since, lines_within}
use Rattle.tnc_ports.proofs.LiveMeter.{HasReadTick}
use Rattle.tnc_ports.proofs.LiveSteps.{AreTakenLines, IsTicking, relined}
use Rattle.tnc_ports.proofs.LiveWrites.{both_puts, puts_puts, report_text-append}

pub ticks_once : (from : From) (len : ℕ) (busy held : Bool) (air : AirTick) (before after : Turning) (between : HeldHosts)
    (live : Live) (shown taken : List ReportLine) (reps1 reps2 : List Report) (side1 side2 : Option KeySide)
    (f1 f2 f3 f4 : Bool) (outs : List ℤ) (text told : List ℕ) (o o' r r1 r2 r3 r4 : SinkTold)
    (line line1 line2 : LineTold)
    (notes : HealthNotes) (was read : Health) (measured : HasReadTick len live was read after.meter)
    → Keeps before.hosts live.hosts → KeyedSince from before live o r line
    → held ≡ (busy || is_held before.words.key live.keyed)
    → IsTicking held air before.hosts between → AreTakenLines between after.hosts taken
    → ((hosts : Hosts) (printed : List ReportLine) → StandsFor after.hosts printed hosts
    → AreSentLines before.words.monitor air.sent hosts.station.links shown)
    → text ≡ report_text (shown ++ taken)
    → written_at before.words.rate (live.samples ++ air.samples) ≡ written_at before.words.rate live.samples ++ outs
    → HasMade before.words.rate after.meter.out (live.samples ++ air.samples)
    → Asks before.key side1 o.written (Tick (has_sound air.samples)) reps1 line line1 before.words.key
    → Rests before.key side1 reps1 line line1
    → Asks side1 side2 o'.written (AfterWrite f3) reps2 line1 line2 before.words.key
    → Rests side1 side2 reps2 line1 line2
    → Puts before.failed f1 (output_octets outs) o o' → Puts f1 f2 text r r1
    → Puts f2 f3 (report_text (map key_line reps1)) r1 r2
    → Puts f3 f4 (report_text (map key_line reps2)) r2 r3
    → told ≡ report_text (health_lines notes) → Puts f4 after.failed told r3 r4
    → ((hosts : Hosts) (printed : List ReportLine) → StandsFor after.hosts printed hosts
    → (notes ≡ notes_in_tick before.words busy measured.reads air live hosts)
    × (after.meter.health ≡ health_after_tick before.words busy measured.reads air live hosts))
    → after.words ≡ before.words → after.key ≡ side2
    → after.ticks ≡ live.ticks + 1 → length air.samples ≡ 96
    → TicksAll from busy 1 len before after live o o' r r4 line2
ticks_once from len busy held air before after between live shown taken reps1 reps2 side1 side2 f1 f2 f3 f4 outs text told
    o o' r r1 r2 r3 r4 line line1 line2 notes was read measured keeps key is_held_so tick take sent is at_rate made_out one rest1 two rest2 out_put put1
    put2 put3 is_told put4 health words same_key count size =
    let given = tick live.hosts live.hosts.report keeps in
    let took = take given.0 live.hosts.report given.2 in
    let all = live.hosts.report ++ (shown ++ taken) in
    let made : Hosts = record given.0 { report = all } in
    let lines1 = map key_line reps1 in
    let lines2 = map key_line reps2 ++ health_lines notes in
    let first = (shown ++ taken) ++ lines1 in
    let keyed : Hosts = with_lines (map key_line reps2) (with_lines lines1 made) in
    let hosts : Hosts = with_lines (health_lines notes) keyed in
    let text_put : Puts f1 f2 (report_text (shown ++ taken)) r r1 = subst (λ t. Puts f1 f2 t r r1) is put1 in
    let first_put : Puts f1 f3 (report_text first) r r2 =
    subst (λ t. Puts f1 f3 t r r2) (sym (report_text-append (shown ++ taken) lines1))
    (puts_puts f1 f2 f3 (report_text (shown ++ taken)) (report_text lines1) r r1 r2 text_put put2) in
    let later : f3 ≡ false → f1 ≡ false = put_failed f1 f3 (report_text first) r r2 first_put in
    let last_put : Puts f3 after.failed (report_text lines2) r2 r4 =
    subst (λ t. Puts f3 after.failed t r2 r4) (sym (report_text-append (map key_line reps2) (health_lines notes)))
    (puts_puts f3 f4 after.failed (report_text (map key_line reps2)) (report_text (health_lines notes)) r2 r3 r4 put3
    (subst (λ t. Puts f4 after.failed t r3 r4) is_told put4)) in
    let last : after.failed ≡ false → f3 ≡ false = put_failed f3 after.failed (report_text lines2) r2 r4 last_put in
    let k : KeyTicked from before.words.key side2 live air.samples outs f3 reps1 reps2 made line2 =
    ticked from live air.samples outs before.failed f1 f3 reps1 reps2 o o' r line line1 line2 made size out_put later
    before.words.key before.key side1 side2 key.stands key.written key.line_stands one rest1 two rest2 in
    let next : Live = record live {
      hosts = hosts;
      keyed = k.keyed;
      whole = k.whole;
      ticks = live.ticks + 1;
      samples = live.samples ++ air.samples;
      sent = live.sent ++ outs;
      sound = live.sound ++ measured.reads;
      health = health_after_tick before.words busy measured.reads air live keyed;
    } in
    let made_so : IsTickMade before.words.monitor held air live.hosts made = record {
      ticked = given.0;
      step = given.1;
      reported = taken;
      told = took.0;
      lines = shown;
      shown = sent given.0 (live.hosts.report ++ taken) took.1;
      is = refl;
    } in
    let report_is : hosts.report ≡ (live.hosts.report ++ first) ++ lines2 =
    append_assoc (made.report ++ lines1) (map key_line reps2) (health_lines notes)
    ∙ ap (λ xs. xs ++ lines2) (append_assoc live.hosts.report (shown ++ taken) lines1) in
    let known = health given.0 (live.hosts.report ++ taken) took.1 in
    let count_is : length (made.report ++ lines1) ≡ length (live.hosts.report ++ first) =
    ap (λ (xs : List ReportLine). length xs) (append_assoc live.hosts.report (shown ++ taken) lines1) in
    record {
      next = next;
      ticked = (
        next,
        record {
          reads = measured.reads;
          reading = measured.reading;
          air = air;
          made = made;
          step = subst (λ (b : Bool). IsTickMade before.words.monitor b air live.hosts made) is_held_so made_so;
          size = size;
          out = outs;
          at_rate = at_rate;
          keyed = k.keyed;
          whole = k.whole;
          hosts = keyed;
          key = k.does;
          is = ap (λ (told : HealthNotes). record next { hosts = with_lines (health_lines told) keyed }) known.0;
        },
        refl,
      );
      key = record {
        stands = subst (λ (w : ServeWords). KeyStands w.key after.key k.keyed) (sym words)
            (subst (λ (s : Option KeySide). KeyStands before.words.key s k.keyed) (sym same_key) k.stands);
        untold = λ none. ap (λ (w : ServeWords). key_failed w.key next) words
            ∙ failed_same before.words.key (record live { keyed = k.keyed }) next refl
            ∙ k.so_far (last none) (key.untold (put_failed before.failed f1 (output_octets outs) o o' out_put
            (later (last none))));
        written = subst (λ (w : ServeWords). IsWrittenSince from w.key after.failed next o' r4) (sym words) (record {
          outputs = λ start e. output_since before.words.key k.told live next outs
              (length (made.report ++ lines1)) refl k.is_whole start before.failed f1 after.failed o o' out_put
              (λ none. later (last none)) (λ none. later (k.so none)) k.untold (key.written.outputs start e);
          reports = λ start e. tick_report_since before.words.key k.told live next outs
              (length (made.report ++ lines1)) refl k.is_whole first lines2 count_is report_is start before.failed f1 f3
              after.failed r r2 r4 (put_failed before.failed f1 (output_octets outs) o o' out_put) first_put
              last_put
              k.so key.written.lines (key.written.reports start e);
          lines = lines_within before.words.key k.told live next outs (length (made.report ++ lines1)) refl
              k.is_whole first lines2 count_is report_is k.told refl key.written.lines;
        });
        line_stands = subst (λ (w : ServeWords). LineStands from w.key next line2) (sym words)
            (line_as before.words.key k.keyed next refl k.has);
      };
      writes = record {
        lines = first ++ lines2;
        more = report_is ∙ append_assoc live.hosts.report first lines2;
        samples = outs;
        sent = refl;
        puts = both_puts before.failed f1 after.failed (output_octets outs) (report_text (first ++ lines2))
            o o' r r4 out_put
            (subst (λ t. Puts f1 after.failed t r r4) (sym (report_text-append first lines2))
            (puts_puts f1 f3 after.failed (report_text first) (report_text lines2) r r2 r4 first_put last_put));
      };
      keeps = relined after.hosts given.0 hosts.report
          (subst (λ x. StandsFor after.hosts x given.0) (sym took.0) took.1);
      ticks = count;
      measures = record { sound = measured.sound; place = measured.place; health = known.1; made = made_out };
    }
  where
    line_as : (key : Option KeyWords) (keyed : List KeyEvent) (next : Live)
        → next.keyed ≡ keyed → LineStands from key (record live { keyed = keyed }) line2 → LineStands from key next line2
    line_as None keyed next e h = h
    line_as (Some words) keyed next e h = subst (λ events. LineStands from (Some words) (record live { keyed = events })
        line2) (sym e) h
