-- However a run ends, its key is released, and it was never on for longer than its limit.
use Rattle.std.proofs.Common.{◌≡◌, ℕ, List, [], ◌∷◌, ◌++◌, refl, sym, ap, subst, length, ◌∙◌}
use Rattle.std.specs.Prelude.{Bool, false, Option, Some}
use Rattle.keying.specs.declared.machine.Words.{Words}
use Rattle.keying.specs.Laws.{Alternate, newest_keys}
use Rattle.keying.proofs.RulesAreSound.{sound_history}
use Rattle.key_port.specs.KeyEvents.{KeyEvent, Obeys, calls_of, lines_of, to_do}
use Rattle.key_port.specs.KeyLines.{KeyLine, is_open, open_commands}
use Rattle.key_port.proofs.Bridge.{same_commands}
use Rattle.key_port.proofs.EndOfRun.{line_released}
use Rattle.tnc_ports.proofs.Common.{Got, IsLooped, KeyWords, Live, Outside, ServeWords, octets_sent}
use Rattle.tnc_ports.specs.declared.looping.LoopEnd.{LoopEnd}
use Rattle.tnc_ports.specs.declared.looping.LoopEnd.TheVariants.{Done, Memory, WriteFault}
use Rattle.tnc_ports.specs.KeyLaws.{EndsReleased, IsKeptWithin}
use Rattle.tnc_ports.specs.KeyRuns.{GoesOnFrom}
use Rattle.tnc_ports.specs.SampledRun.{KeyIsReleased, KeyTold}

pub ends_by : (asked : Option KeyWords) (key : KeyWords) (live : Live) (before after : Outside) (was : List KeyLine)
    (out : List ℕ) → asked ≡ Some key → KeyTold asked live before after → before.line.lines ≡ Some was
    → before.output.written ≡ Some out → is_open was ≡ false → EndsReleased after
ends_by asked key live before after was out is told lines output closed =
    let r : KeyIsReleased key live before after = subst (λ (k : Option KeyWords). KeyTold k live before after) is told in
    record {
      lines = lines_of key.port (length out) was r.keyed;
      told = r.lines was out lines output;
      released = line_released key.words key.port (length out) (octets_sent live) was live.keyed r.keyed closed r.releases;
    }

pub ends_released : (words : ServeWords) (key : KeyWords) (end : LoopEnd) (answers : List (List Got))
    (before after : Outside) (was : List KeyLine) (out : List ℕ) → words.key ≡ Some key
    → IsLooped words end answers before after → before.line.lines ≡ Some was → before.output.written ≡ Some out
    → is_open was ≡ false → EndsReleased after
ends_released words key Done answers before after was out is h = ends_by words.key key h.0 before after was out is h.3
ends_released words key WriteFault answers before after was out is h =
    ends_by words.key key h.0 before after was out is h.3
ends_released words key Memory answers before after was out is h = ends_by words.key key h.0 before after was out is h.3

-- ---- each moment

obeys_older : (words : Words) (newer older : List KeyEvent) → Obeys words (newer ++ older) → Obeys words older
obeys_older words [] older obeys = obeys
obeys_older words (event ∷ newer) older obeys = obeys_older words newer older obeys.1

alternates : (words : Words) (port start : ℕ) (was : List KeyLine) (events newer older : List KeyEvent)
    → is_open was ≡ false → Obeys words events → events ≡ newer ++ older → to_do words older ≡ []
    → Alternate (open_commands (lines_of port start was older))
alternates words port start was events newer older closed obeys parts done =
    let so : Obeys words older = obeys_older words newer older (subst (λ (es : List KeyEvent). Obeys words es) parts obeys)
    in
    subst (λ (cs : List Bool). Alternate cs) (same_commands words port start was older so closed done)
    (sound_history words (calls_of older)).alternate

-- whatever stands on the line
kept_so : (key : KeyWords) (was : List KeyLine) (out : List ℕ) (after : Outside) (events : List KeyEvent)
    → after.line.lines ≡ Some (lines_of key.port (length out) was events) → Obeys key.words events
    → is_open was ≡ false → (kept : IsKeptWithin key was out after) × (kept.events ≡ events)
kept_so key was out after events told obeys closed = (
  record {
    events = events;
    told = told;
    obeys = obeys;
    limit = λ newer older parts. (sound_history key.words (calls_of older)).lit;
    alternate = λ newer older parts done.
        alternates key.words key.port (length out) was events newer older closed obeys parts done;
  },
  refl,
)

-- What it did until its release is a first part of that.
pub kept_by : (asked : Option KeyWords) (key : KeyWords) (live : Live) (before after : Outside) (was : List KeyLine)
    (out : List ℕ) → asked ≡ Some key → KeyTold asked live before after → before.line.lines ≡ Some was
    → before.output.written ≡ Some out → is_open was ≡ false
    → (kept : IsKeptWithin key was out after) × GoesOnFrom kept.events live.keyed
kept_by asked key live before after was out is told lines output closed =
    let r : KeyIsReleased key live before after = subst (λ (k : Option KeyWords). KeyTold k live before after) is told in
    let kept = kept_so key was out after r.keyed (r.lines was out lines output) r.releases.obeys closed in
    (kept.0, record { newer = r.releases.more; is = kept.1 ∙ r.releases.is })

-- a line on which nothing was done
pub kept_still : (key : KeyWords) (was : List KeyLine) (out : List ℕ) (after : Outside)
    → after.line.lines ≡ Some was → is_open was ≡ false → IsKeptWithin key was out after
kept_still key was out after lines closed = (kept_so key was out after [] lines tt closed).0

pub released_still : (key : KeyWords) (was : List KeyLine) (after : Outside) → after.line.lines ≡ Some was
    → is_open was ≡ false → EndsReleased after
released_still key was after lines closed = record {
  lines = was;
  told = lines;
  released = ap newest_keys (sym (same_commands key.words key.port 0 was [] tt closed refl));
}

pub kept_within : (words : ServeWords) (key : KeyWords) (end : LoopEnd) (answers : List (List Got))
    (before after : Outside) (was : List KeyLine) (out : List ℕ) → words.key ≡ Some key
    → IsLooped words end answers before after → before.line.lines ≡ Some was → before.output.written ≡ Some out
    → is_open was ≡ false → IsKeptWithin key was out after
kept_within words key Done answers before after was out is h lines output closed =
    (kept_by words.key key h.0 before after was out is h.3 lines output closed).0
kept_within words key WriteFault answers before after was out is h lines output closed =
    (kept_by words.key key h.0 before after was out is h.3 lines output closed).0
kept_within words key Memory answers before after was out is h lines output closed =
    (kept_by words.key key h.0 before after was out is h.3 lines output closed).0
