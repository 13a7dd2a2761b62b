-- In half duplex a transmission begins only while the radio can be keyed, and is keyed from its first tick on.
use Rattle.std.proofs.Common.{◌≡◌, List, [], ◌∷◌, ◌++◌, refl, sym, ap, subst, ◌∙◌}
use Rattle.std.proofs.lemmas.Bool.{or_parts, true≢false}
use Rattle.std.specs.Prelude.{Bool, true, false, ◌||◌, not, Option, Some}
use Rattle.channel_access.specs.Sound.{has_sound}
use Rattle.channel_access.specs.Channel.{Channel}
use Rattle.channel_access.specs.declared.parameters.Parameters.{Parameters}
use Rattle.channel_access.proofs.QuietBegins.{begins_while_free}
use Rattle.channel_access.proofs.SoundLemmas.{begins_with_sound}
use Rattle.keying.specs.declared.machine.Words.{Words}
use Rattle.keying.specs.Calls.{Call, history}
use Rattle.keying.specs.Calls.Call.{Tick}
use Rattle.keying.specs.Key.{is_free}
use Rattle.keying.specs.Keyed.{on}
use Rattle.keying.specs.Laws.{newest_keys}
use Rattle.keying.proofs.KeyLasts.{stays_keyed}
use Rattle.keying.proofs.Quiet.{newest_on}
use Rattle.keying.proofs.RulesAreSound.{sound_history}
use Rattle.keying.proofs.Tails.{free_accepted}
use Rattle.key_port.specs.KeyEvents.{KeyEvent, calls_of, marks_of}
use Rattle.key_port.specs.KeyEvents.KeyEvent.{Called, Began, NotBegun, Wrote, NotWritten, HungUp}
use Rattle.key_port.proofs.Bridge.{same_commands}
use Rattle.station.specs.Asking.{some_wants}
use Rattle.station.specs.State.{StationState}
use Rattle.station.specs.Ticks.{air_of, asked_links}
use Rattle.station.specs.Turn.{begin}
use Rattle.tnc_ports.proofs.Common.{AirTick, KeyWords, Live, ServeWords, is_held}
use Rattle.tnc_ports.specs.KeyLaws.{BeginsKeyed, IsAccepted, NoEndSince, from_tick}
use Rattle.tnc_ports.specs.Sampled.{IsTicked}
use Rattle.tnc_ports.proofs.ChannelKept.{asked_keep}

-- ---- the tick of the channel

abbrev ticking : Bool → StationState → StationState
ticking held s = (asked_links held (begin s)).now

half_as : (held : Bool) (s : StationState) → s.channel.parameters.full_duplex ≡ false
    → (ticking held s).channel.parameters.full_duplex ≡ false
half_as held s half =
    ap (λ (p : Parameters). p.full_duplex)
    (asked_keep Parameters (λ (c : Channel). c.parameters) (λ link octets c. refl) held (begin s)) ∙ half

begins_free : (held : Bool) (s : StationState) → s.channel.parameters.full_duplex ≡ false
    → (air_of held s).began ≡ true → held ≡ false
begins_free held s half began =
    begins_while_free held (some_wants (ticking held s).links) (ticking held s).channel (half_as held s half) began

pub begins_loud : (held : Bool) (s : StationState) (air : AirTick) → air ≡ air_of held s → air.began ≡ true
    → has_sound air.samples ≡ true
begins_loud held s air is began =
    ap (λ (a : AirTick). has_sound a.samples) is
    ∙ begins_with_sound held (some_wants (ticking held s).links) (ticking held s).channel
    (ap (λ (a : AirTick). a.began) (sym is) ∙ began)

-- ---- the key

free_so : (b : Bool) → not b ≡ false → b ≡ true
free_so true e = refl
free_so false e = absurd (true≢false e)

pub calls-append : (more events : List KeyEvent) → calls_of (more ++ events) ≡ calls_of more ++ calls_of events
calls-append [] events = refl
calls-append (Called call ∷ more) events = ap (λ (calls : List Call). call ∷ calls) (calls-append more events)
calls-append (Began ∷ more) events = calls-append more events
calls-append (NotBegun ∷ more) events = calls-append more events
calls-append (Wrote command had ∷ more) events = calls-append more events
calls-append (NotWritten ∷ more) events = calls-append more events
calls-append (HungUp ∷ more) events = calls-append more events

stays : (words : Words) (more keyed : List KeyEvent) → is_free words (marks_of words keyed) ≡ true
    → NoEndSince words more keyed → on (marks_of words (from_tick more keyed)) ≡ true
stays words more keyed free none =
    ap (λ (calls : List Call). on (history words calls)) (calls-append more (Called (Tick true) ∷ keyed))
    ∙ stays_keyed words (calls_of keyed) (calls_of more) free none

accepted_so : (words : Words) (keyed : List KeyEvent) → is_free words (marks_of words keyed) ≡ true
    → IsAccepted words keyed
accepted_so words keyed free =
    let all = free_accepted words (marks_of words keyed) (sound_history words (calls_of keyed)) free in
    record { free = free; all = all.0; some = all.1; releases = all.2 }

pub begins_keyed : (words : ServeWords) (key : KeyWords) (busy : Bool) (before after : Live) → words.key ≡ Some key
    → (tick : IsTicked words busy before after) → tick.air.began ≡ true
    → before.hosts.station.channel.parameters.full_duplex ≡ false
    → BeginsKeyed key.words busy tick.air.samples before.keyed
begins_keyed words key busy before after is tick began half =
    let held : Bool = busy || is_held words.key before.keyed in
    let s : StationState = before.hosts.station in
    let on_air = tick.step.step.on_air in
    let quiet : held ≡ false = begins_free held s half (ap (λ (a : AirTick). a.began) (sym on_air) ∙ began) in
    let both = or_parts busy (is_held words.key before.keyed) quiet in
    let free : is_free key.words (marks_of key.words before.keyed) ≡ true =
    free_so (is_free key.words (marks_of key.words before.keyed))
    (subst (λ (k : Option KeyWords). is_held k before.keyed ≡ false) is both.1) in
    record {
      quiet = both.0;
      ready = accepted_so key.words before.keyed free;
      sounds = begins_loud held s tick.air on_air began;
      stays = λ more none. stays key.words more before.keyed free none;
      line = λ more port start was none obeys done closed.
          ap newest_keys (sym (same_commands key.words port start was (from_tick more before.keyed) obeys closed done))
          ∙ newest_on (marks_of key.words (from_tick more before.keyed))
          ∙ stays key.words more before.keyed free none;
    }
