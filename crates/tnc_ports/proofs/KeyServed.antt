-- Every run of a served station with a key is a keyed one, and without a key nothing is done on its line.
use Rattle.std.proofs.Common.{◌≡◌, ℕ, List, [], ◌++◌, refl, sym, ap, subst, length, inl, inr, ◌∙◌}
use Rattle.std.proofs.lemmas.List.{append-nil}
use Rattle.std.specs.Prelude.{true, false, ℤ, Option, Some, None}
use Rattle.sound_rate.specs.Rates.{written_at}
use Rattle.tnc_base.specs.Streams.{WrotePart, SinkTold, SourceTold}
use Rattle.key_port.specs.KeyLines.{KeyLine, LineTold, is_open}
use Rattle.tnc_ports.proofs.Common.{AllIsWritten, Got, IsLooped, IsRun, KeyWords, Live, Outside, ServeWords, new_live}
use Rattle.tnc_ports.proofs.Common.{output_octets}
use Rattle.tnc_ports.specs.declared.looping.LoopEnd.{LoopEnd}
use Rattle.tnc_ports.specs.declared.looping.LoopEnd.TheVariants.{Done as LoopDone, Memory as LoopMemory}
use Rattle.tnc_ports.specs.declared.looping.LoopEnd.TheVariants.{WriteFault as LoopFault}
use Rattle.tnc_ports.specs.declared.serving.ServeEnd.{ServeEnd}
use Rattle.tnc_ports.specs.declared.serving.ServeEnd.TheVariants.{Done, TooLong, Memory, ReadFault, WriteFault, NoPort}
use Rattle.tnc_ports.specs.declared.serving.ServeEnd.TheVariants.{NoThread}
use Rattle.tnc_ports.specs.KeyRuns.{IsKeyedRun, events_at}
use Rattle.tnc_ports.specs.RunTicks.{RunTick, samples_of, ticks_looped, ticks_of_cut_run, ticks_of_run, ticks_served}
use Rattle.tnc_ports.specs.RunTicks.{with_turns}
use Rattle.tnc_ports.specs.SampledRun.{IsCutRun, KeyTold}
use Rattle.tnc_ports.specs.ServeRun.{HasServed, IsServed, OnlyListens}
use Rattle.tnc_ports.proofs.KeyLaws.{ends_by, kept_by, kept_still, released_still}
use Rattle.tnc_ports.proofs.KeyRuns.{Follows, all_turned, begins_so, cut_short, each_tick, goes_on_longer, turned}

-- ---- the output

all_part : (live : Live) (before after : Outside) (out : List ℕ) → before.output.written ≡ Some out
    → AllIsWritten live before after → WrotePart out (output_octets live.sent) after.output.written
all_part live before after out was h =
    (output_octets live.sent, [], sym (append-nil (output_octets live.sent)), h.output out was)

-- ---- the run

module _ (words : ServeWords) (key : KeyWords) (is : words.key ≡ Some key) (was : List KeyLine) (out : List ℕ)
    (closed : is_open was ≡ false) where
  abbrev So : Live → List (RunTick words) → Type 0
  So live ticks = Follows words key (length out) was live ticks

  run_so : (live : Live) (run : IsRun words live) → So live (ticks_of_run words live run)
  run_so live run =
      turned words key is (length out) was closed true run.last live run.over
      (with_turns words run.count (new_live words) run.last run.turns [])
      (all_turned words key is (length out) was closed run.count (new_live words) run.last run.turns []
      (begins_so words key is (length out) was closed))

  cut_run_so : (live : Live) (run : IsCutRun words live) → So live (ticks_of_cut_run words live run)
  cut_run_so live run =
      cut_short words key is (length out) was closed run.last live run.cut
      (with_turns words run.count (new_live words) run.last run.turns [])
      (all_turned words key is (length out) was closed run.count (new_live words) run.last run.turns []
      (begins_so words key is (length out) was closed))

  -- what is told of the run after it
  keyed_run : (live : Live) (ticks : List (RunTick words)) (before after : Outside) → So live ticks
      → live.sent ≡ written_at words.rate live.samples
      → KeyTold words.key live before after → before.line.lines ≡ Some was → before.output.written ≡ Some out
      → WrotePart out (output_octets live.sent) after.output.written → IsKeyedRun words key was out after ticks
  keyed_run live ticks before after so at_rate told lines output written =
      let kept = kept_by words.key key live before after was out is told lines output closed in
      record {
        written = subst (λ (xs : List ℤ). WrotePart out (output_octets xs) after.output.written)
            (at_rate ∙ ap (written_at words.rate) so.samples) written;
        sounds = so.sounds;
        begins = so.begins;
        kept = kept.0;
        in_order = each_tick words _ _
            (λ tick older known. goes_on_longer kept.0.events live.keyed (events_at words tick) kept.1 known) ticks
            so.in_order;
        released = ends_by words.key key live before after was out is told lines output closed;
      }

  -- ---- by how it ends

  looped : (end : LoopEnd) (answers : List (List Got)) (before after : Outside)
      → (h : IsLooped words end answers before after) → before.line.lines ≡ Some was → before.output.written ≡ Some out
      → IsKeyedRun words key was out after (ticks_looped words end answers before after h)
  looped LoopDone answers before after h lines output =
      keyed_run h.0 (ticks_of_run words h.0 h.1.run) before after (run_so h.0 h.1.run)
      h.1.samples.at_rate h.3 lines output (all_part h.0 before after out output h.2.written)
  looped LoopFault answers before after h lines output =
      keyed_run h.0 (ticks_of_run words h.0 h.1.run) before after (run_so h.0 h.1.run)
      h.1.samples.at_rate h.3 lines output (h.2.output out output)
  looped LoopMemory answers before after h lines output =
      keyed_run h.0 (ticks_of_cut_run words h.0 h.1.run) before after (cut_run_so h.0 h.1.run)
      h.1.samples.at_rate h.3 lines output
      (elim h.2 [
        | inl all ↦ all_part h.0 before after out output all.written
        | inr part ↦ part.output out output
      ])

  served : (end : ServeEnd) (input left : SourceTold) (before after : Outside)
      → (h : HasServed words end input left before after) → before.line.lines ≡ Some was
      → before.output.written ≡ Some out
      → IsKeyedRun words key was out after (ticks_looped words h.loop h.lanes h.open_ports after h.looped)
  served end input left before after h lines output =
      looped h.loop h.lanes h.open_ports after h.looped
      (ap (λ (line : LineTold). line.lines) h.opens.only.line ∙ lines)
      (ap (λ (o : SinkTold). o.written) h.opens.only.output ∙ output)

  -- nothing is done
  pub still : (after : Outside) → after.line.lines ≡ Some was → after.output.written ≡ Some out
      → IsKeyedRun words key was out after []
  still after lines output = record {
    written = ([], output_octets (written_at words.rate []), refl, output ∙ ap Some (sym (append-nil out)));
    sounds = tt;
    begins = tt;
    kept = kept_still key was out after lines closed;
    in_order = tt;
    released = released_still key was after lines closed;
  }

  listening : (before after : Outside) → OnlyListens before after → before.line.lines ≡ Some was
      → before.output.written ≡ Some out → IsKeyedRun words key was out after []
  listening before after only lines output =
      still after (ap (λ (line : LineTold). line.lines) only.line ∙ lines)
      (ap (λ (o : SinkTold). o.written) only.output ∙ output)

  pub keyed_served : (end : ServeEnd) (input left : SourceTold) (before after : Outside)
      → (h : IsServed words end input left before after) → before.line.lines ≡ Some was
      → before.output.written ≡ Some out
      → IsKeyedRun words key was out after (ticks_served words end input left before after h)
  keyed_served Done input left before after h lines output = served Done input left before after h lines output
  keyed_served TooLong input left before after h lines output = served TooLong input left before after h lines output
  keyed_served Memory input left before after (inl h) lines output =
      listening before after h.opens.only lines output
  keyed_served Memory input left before after (inr h) lines output =
      served Memory input left before after h lines output
  keyed_served NoThread input left before after h lines output = listening before after h.opens.only lines output
  keyed_served ReadFault input left before after h lines output =
      served ReadFault input left before after h lines output
  keyed_served WriteFault input left before after h lines output =
      served WriteFault input left before after h lines output
  keyed_served NoPort input left before after h lines output = listening before after h.1.only lines output

-- ---- without a key

untouched_by : (asked : Option KeyWords) (live : Live) (before after : Outside) → asked ≡ None
    → KeyTold asked live before after → after.line ≡ before.line
untouched_by None live before after none told = told
untouched_by (Some key) live before after none told = absurd (cc none)

looped_untouched : (words : ServeWords) (end : LoopEnd) (answers : List (List Got)) (before after : Outside)
    → words.key ≡ None → IsLooped words end answers before after → after.line ≡ before.line
looped_untouched words LoopDone answers before after none h = untouched_by words.key h.0 before after none h.3
looped_untouched words LoopFault answers before after none h = untouched_by words.key h.0 before after none h.3
looped_untouched words LoopMemory answers before after none h = untouched_by words.key h.0 before after none h.3

served_untouched : (words : ServeWords) (end : ServeEnd) (input left : SourceTold) (before after : Outside)
    → words.key ≡ None → HasServed words end input left before after → after.line ≡ before.line
served_untouched words end input left before after none h =
    looped_untouched words h.loop h.lanes h.open_ports after none h.looped ∙ h.opens.only.line

pub line_untouched : (words : ServeWords) (end : ServeEnd) (input left : SourceTold) (before after : Outside)
    → words.key ≡ None → IsServed words end input left before after → after.line ≡ before.line
line_untouched words Done input left before after none h =
    served_untouched words Done input left before after none h
line_untouched words TooLong input left before after none h =
    served_untouched words TooLong input left before after none h
line_untouched words Memory input left before after none (inl h) = h.opens.only.line
line_untouched words Memory input left before after none (inr h) =
    served_untouched words Memory input left before after none h
line_untouched words NoThread input left before after none h = h.opens.only.line
line_untouched words ReadFault input left before after none h =
    served_untouched words ReadFault input left before after none h
line_untouched words WriteFault input left before after none h =
    served_untouched words WriteFault input left before after none h
line_untouched words NoPort input left before after none h = h.1.only.line

-- ---- what is told after a run

-- whatever is done that leaves the key's line and the output
pub keyed_as : (words : ServeWords) (key : KeyWords) (was : List KeyLine) (out : List ℕ) (between after : Outside)
    (ticks : List (RunTick words)) → after.line.lines ≡ between.line.lines → after.output ≡ between.output
    → IsKeyedRun words key was out between ticks → IsKeyedRun words key was out after ticks
keyed_as words key was out between after ticks lines output h = record {
  written = subst (λ (o : SinkTold). WrotePart out (output_octets (written_at words.rate
      (samples_of words ticks))) o.written)
      (sym output) h.written;
  sounds = h.sounds;
  begins = h.begins;
  kept = record {
    events = h.kept.events;
    told = lines ∙ h.kept.told;
    obeys = h.kept.obeys;
    limit = h.kept.limit;
    alternate = h.kept.alternate;
  };
  in_order = h.in_order;
  released = record { lines = h.released.lines; told = lines ∙ h.released.told; released = h.released.released };
}
