-- Without key words a tick is a plain one, and a turn of the key changes nothing.
use Rattle.std.proofs.Common.{◌≡◌, refl, sym, ap, subst, ◌∙◌}
use Rattle.std.proofs.Math.Bool.{or-false}
use Rattle.std.specs.Prelude.{Bool, ◌||◌, ◌↔◌, ◌+◌, ◌++◌, Option, None, List}
use Rattle.key_port.specs.KeyEvents.{KeyEvent}
use Rattle.tnc_ports.specs.declared.serve_words.KeyWords.{KeyWords}
use Rattle.tnc_ports.specs.declared.serve_words.ServeWords.{ServeWords}
use Rattle.host_ports.specs.Hosts.{Hosts}
use Rattle.tnc_ports.specs.KeyTurns.{Whole, is_held, TicksKeyIf, TurnsKeyIf}
use Rattle.tnc_ports.specs.HealthNotes.{health_lines}
use Rattle.tnc_ports.specs.Sampled.{Live, IsTicked, IsKeyTurn, health_after_tick, notes_in_tick, octets_sent}
use Rattle.tnc_ports.specs.SampledFrames.{IsTickMade, with_lines}
use Rattle.tnc_ports.specs.Unkeyed.{IsPlainTick}

busy_alone : (words : ServeWords) (busy : Bool) (keyed : List KeyEvent) → words.key ≡ None
    → (busy || is_held words.key keyed) ≡ busy
busy_alone words busy keyed none =
    ap (λ (key : Option KeyWords). busy || is_held key keyed) none ∙ or-false busy

is_plain : (words : ServeWords) (busy : Bool) (before after : Live) → words.key ≡ None
    → IsTicked words busy before after → IsPlainTick words busy before after
is_plain words busy before after none h =
    let k : (h.keyed ≡ before.keyed) × (h.whole ≡ before.whole) × (h.hosts ≡ h.made) =
    subst (λ (key : Option KeyWords). TicksKeyIf key (octets_sent before) h.air.samples h.out before.keyed h.keyed before.whole
    h.whole h.made h.hosts) none h.key in
    let told : Hosts → Hosts = λ x. with_lines (health_lines (notes_in_tick words busy h.reads h.air before x)) x in
    record {
      reads = h.reads;
      reading = h.reading;
      air = h.air;
      hosts = h.made;
      step = subst (λ (b : Bool). IsTickMade words.monitor b h.air before.hosts h.made)
          (busy_alone words busy before.keyed none) h.step;
      size = h.size;
      out = h.out;
      at_rate = h.at_rate;
      is = h.is
          ∙ ap (λ (x : List KeyEvent). record before {
            hosts = told h.hosts;
            keyed = x;
            whole = h.whole;
            ticks = before.ticks + 1;
            samples = before.samples ++ h.air.samples;
            sent = before.sent ++ h.out;
            sound = before.sound ++ h.reads;
            health = health_after_tick words busy h.reads h.air before h.hosts;
          }) k.0
          ∙ ap (λ (x : Whole). record before {
            hosts = told h.hosts;
            whole = x;
            ticks = before.ticks + 1;
            samples = before.samples ++ h.air.samples;
            sent = before.sent ++ h.out;
            sound = before.sound ++ h.reads;
            health = health_after_tick words busy h.reads h.air before h.hosts;
          }) k.1
          ∙ ap (λ (x : Hosts). record before {
            hosts = told x;
            ticks = before.ticks + 1;
            samples = before.samples ++ h.air.samples;
            sent = before.sent ++ h.out;
            sound = before.sound ++ h.reads;
            health = health_after_tick words busy h.reads h.air before x;
          }) k.2;
    }

of_plain : (words : ServeWords) (busy : Bool) (before after : Live) → words.key ≡ None
    → IsPlainTick words busy before after → IsTicked words busy before after
of_plain words busy before after none h = record {
  reads = h.reads;
  reading = h.reading;
  air = h.air;
  made = h.hosts;
  step = subst (λ (b : Bool). IsTickMade words.monitor b h.air before.hosts h.hosts)
      (sym (busy_alone words busy before.keyed none)) h.step;
  size = h.size;
  out = h.out;
  at_rate = h.at_rate;
  keyed = before.keyed;
  whole = before.whole;
  hosts = h.hosts;
  key = subst (λ (key : Option KeyWords). TicksKeyIf key (octets_sent before) h.air.samples h.out before.keyed before.keyed
      before.whole before.whole h.hosts h.hosts) (sym none) (refl, refl, refl);
  is = h.is;
}

is_still : (words : ServeWords) (before after : Live) → words.key ≡ None → IsKeyTurn words before after → after ≡ before
is_still words before after none h =
    let k : (h.keyed ≡ before.keyed) × (h.hosts ≡ before.hosts) =
    subst (λ (key : Option KeyWords). TurnsKeyIf key (octets_sent before) before.keyed h.keyed before.hosts h.hosts)
    none h.turn in
    h.is
    ∙ ap (λ (x : List KeyEvent). record before { keyed = x; hosts = h.hosts }) k.0
    ∙ ap (λ (x : Hosts). record before { hosts = x }) k.1

of_still : (words : ServeWords) (before after : Live) → words.key ≡ None → after ≡ before → IsKeyTurn words before after
of_still words before after none same = record {
  keyed = before.keyed;
  hosts = before.hosts;
  turn = subst (λ (key : Option KeyWords). TurnsKeyIf key (octets_sent before) before.keyed before.keyed before.hosts
      before.hosts) (sym none) (refl, refl);
  is = same;
}

pub plain_ticks : (words : ServeWords) (busy : Bool) (before after : Live) → words.key ≡ None
    → IsTicked words busy before after ↔ IsPlainTick words busy before after
plain_ticks words busy before after none =
    (is_plain words busy before after none, of_plain words busy before after none)

pub still_turns : (words : ServeWords) (before after : Live) → words.key ≡ None
    → IsKeyTurn words before after ↔ (after ≡ before)
still_turns words before after none = (is_still words before after none, of_still words before after none)
