-- In every run with a key each tick with sound is keyed, and each transmission in half duplex begins keyed.
use Rattle.std.proofs.Common.{◌≡◌, ℕ, zero, suc, ◌+◌, ◌*◌, List, [], ◌∷◌, ◌++◌, refl, sym, ap, subst, length, inl, inr}
use Rattle.std.proofs.Common.{append_assoc, ◌∙◌}
use Rattle.std.proofs.lemmas.Bool.{cases_Bool, true≢false}
use Rattle.std.specs.List.{list_all}
use Rattle.std.specs.Prelude.{Bool, true, false, ◌&&◌, ◌||◌, ◌⊎◌, ℤ, Option, Some, None, is_some, unwrap_or}
use Rattle.channel_access.specs.Channel.{Channel}
use Rattle.channel_access.specs.OnAir.{OnAir}
use Rattle.channel_access.specs.Sound.{has_sound}
use Rattle.channel_access.specs.declared.air_tick.AirTick.{AirTick}
use Rattle.keying.specs.declared.machine.Words.{Words}
use Rattle.keying.specs.Calls.Call.{AfterWrite, Tick, Turn}
use Rattle.keying.specs.Keyed.{failed}
use Rattle.keying.specs.Laws.{newest_keys}
use Rattle.key_port.specs.KeyEvents.{KeyEvent, Obeys, lines_of, marks_of, reports_of, to_do}
use Rattle.key_port.specs.KeyEvents.KeyEvent.{Called}
use Rattle.key_port.specs.KeyLines.{KeyLine, is_open, open_commands}
use Rattle.station.specs.Asking.{some_wants}
use Rattle.station.specs.Turn.{begin}
use Rattle.tnc_ports.proofs.Common.{AreTicked, HearsAll, Hosts, IsCutTurn, IsKeyTurn, IsTurn, KeyWords}
use Rattle.tnc_ports.proofs.Common.{LanesReadOn, Live, MakesAll, ServeWords, StationState, TicksKeyIf, TurnsKeyIf, Whole}
use Rattle.tnc_ports.proofs.Common.{AreTurns, is_held, new_live, octets_sent}
use Rattle.tnc_ports.specs.KeyLaws.{from_tick}
use Rattle.tnc_ports.specs.KeyRuns.{BeginsWell, EachTick, GoesOnFrom, SoundsKeyed, events_at, events_told}
use Rattle.tnc_ports.specs.RunTicks.{RunTick, begins_in, is_full_duplex, is_on_air, samples_in, samples_of, sounds_in}
use Rattle.tnc_ports.specs.RunTicks.{with_all, with_cut, with_made, with_ticks, with_turns}
use Rattle.tnc_ports.specs.Sampled.{IsTicked, MakesTicks, ServesHosts}
use Rattle.tnc_ports.specs.SampledRun.{IsCutInHearing, IsCutInReading, IsCutInTicking}
use Rattle.tnc_ports.proofs.AirTicks.{is_silent, stays_at_rest}
use Rattle.tnc_ports.proofs.ChannelKept.{asked_keep}
use Rattle.tnc_ports.proofs.HostsOnAir.{asked, heard_all_keep, on_air, part_keeps, tick_made}
use Rattle.tnc_ports.proofs.KeyBegins.{begins_keyed, begins_loud}
use Rattle.tnc_ports.proofs.KeyUntold.{AreLoud, follow_loud, loud-append, no_end_since}
use Rattle.tnc_ports.proofs.LoudTicks.{HasLeft, is_loud, stays_left}

-- ---- events that go on

-- these events, and others after them that may come within a transmission
pub record Passes (events older : List KeyEvent) : Type 0 where
  pub newer : List KeyEvent
  pub is : events ≡ newer ++ older
  pub loud : AreLoud newer

nothing_passes : (events older : List KeyEvent) → events ≡ older → Passes events older
nothing_passes events older is = record { newer = []; is = is; loud = tt }

then_so : (last events older : List KeyEvent) → last ≡ events → Passes events older → Passes last older
then_so last events older same first = record { newer = first.newer; is = same ∙ first.is; loud = first.loud }

goes_so : (events older : List KeyEvent) → Passes events older → GoesOnFrom events older
goes_so events older p = record { newer = p.newer; is = p.is }

pub goes_on_longer : (last events older : List KeyEvent) → GoesOnFrom last events → GoesOnFrom events older
    → GoesOnFrom last older
goes_on_longer last events older second first = record {
  newer = second.newer ++ first.newer;
  is = second.is ∙ ap (λ (es : List KeyEvent). second.newer ++ es) first.is
      ∙ sym (append_assoc second.newer first.newer older);
}

pub each_tick : (words : ServeWords) (P Q : RunTick words → List (RunTick words) → Type 0)
    → ((tick : RunTick words) (older : List (RunTick words)) → P tick older → Q tick older)
    → (ticks : List (RunTick words)) → EachTick words P ticks → EachTick words Q ticks
each_tick words P Q each [] h = tt
each_tick words P Q each (tick ∷ older) h = (each tick older h.0, each_tick words P Q each older h.1)

-- ---- what the key is told of a tick and of a turn

-- when the samples of a tick are written, and after it
pub record IsToldTick (words : Words) (samples : List ℤ) (keyed at new : List KeyEvent) (before after : Hosts) : Type 0 where
  pub more : List KeyEvent
  pub follow : AreLoud more
  pub is : at ≡ more ++ Called (Tick (has_sound samples)) ∷ keyed
  pub obeys : Obeys words at
  pub done : to_do words at ≡ []
  pub later : Passes new at
  pub station : after.station ≡ before.station

told_tick : (asked : Option KeyWords) (key : KeyWords) (octets : ℕ) (samples out : List ℤ) (keyed new : List KeyEvent)
    (whole told : Whole) (before after : Hosts) → asked ≡ Some key
    → (h : TicksKeyIf asked octets samples out keyed new whole told before after)
    → IsToldTick key.words samples keyed
    (events_told asked octets samples out keyed new whole told before after h) new before after
told_tick None key octets samples out keyed new whole told before after is h = absurd (cc is)
told_tick (Some asked) key octets samples out keyed new whole told before after is h =
    let same : asked ≡ key = ap (λ (o : Option KeyWords). unwrap_or o key) is in
    let made = h.tick.makes in
    let wrote = h.write.makes in
    subst (λ (k : KeyWords). IsToldTick k.words samples keyed h.between new before after) same (record {
      more = made.more;
      follow = follow_loud made.more made.follow;
      is = made.is;
      obeys = made.obeys;
      done = made.done;
      later = record {
        newer = wrote.more ++ Called (AfterWrite h.fault) ∷ [];
        is = wrote.is ∙ sym (append_assoc wrote.more (Called (AfterWrite h.fault) ∷ []) h.between);
        loud = loud-append wrote.more (Called (AfterWrite h.fault) ∷ []) (follow_loud wrote.more wrote.follow) (tt, tt);
      };
      station = ap (λ (x : Hosts). x.station) h.write.hosts ∙ ap (λ (x : Hosts). x.station) h.tick.hosts;
    })

told_turn : (asked : Option KeyWords) (octets : ℕ) (keyed new : List KeyEvent) (before after : Hosts)
    → TurnsKeyIf asked octets keyed new before after → Passes new keyed × (after.station ≡ before.station)
told_turn None octets keyed new before after h = (nothing_passes new keyed h.0, ap (λ (x : Hosts). x.station) h.1)
told_turn (Some key) octets keyed new before after h =
    let made = h.call.makes in
    let call : KeyEvent = Called (Turn h.now h.came h.end) in (
      record {
        newer = made.more ++ call ∷ [];
        is = made.is ∙ sym (append_assoc made.more (call ∷ []) keyed);
        loud = loud-append made.more (call ∷ []) (follow_loud made.more made.follow) (tt, tt);
      },
      ap (λ (x : Hosts). x.station) h.call.hosts,
    )

-- ---- a transmission that is under way

-- The first of these ticks began it, it was under way before each one since, and these events go on from the first.
pub record IsUnderWay (words : ServeWords) (key : KeyWords) (events : List KeyEvent) (ticks : List (RunTick words)) : Type 0
  where
    pub since : List (RunTick words)
    pub first : RunTick words
    pub earlier : List (RunTick words)
    pub stand : ticks ≡ since ++ first ∷ earlier
    pub begins : begins_in words first ≡ true
    pub well : BeginsWell words key first
    pub under_way : list_all (is_on_air words) since ≡ true
    pub loud : list_all (sounds_in words) since ≡ true
    pub more : List KeyEvent
    pub goes_on : events ≡ from_tick more first.before.keyed
    pub passed : AreLoud more

under_way_longer : (words : ServeWords) (key : KeyWords) (last events : List KeyEvent) (ticks : List (RunTick words))
    → Passes last events → IsUnderWay words key events ticks → IsUnderWay words key last ticks
under_way_longer words key last events ticks later u = record {
  since = u.since;
  first = u.first;
  earlier = u.earlier;
  stand = u.stand;
  begins = u.begins;
  well = u.well;
  under_way = u.under_way;
  loud = u.loud;
  more = later.newer ++ u.more;
  goes_on = later.is ∙ ap (λ (es : List KeyEvent). later.newer ++ es) u.goes_on
      ∙ sym (append_assoc later.newer u.more (Called (Tick true) ∷ u.first.before.keyed));
  passed = loud-append later.newer u.more later.loud u.passed;
}

-- a tick with sound of such a transmission
sounds_keyed : (words : ServeWords) (key : KeyWords) (start : ℕ) (was : List KeyLine) (tick : RunTick words)
    (older : List (RunTick words)) → is_open was ≡ false → Obeys key.words (events_at words tick)
    → to_do key.words (events_at words tick) ≡ [] → IsUnderWay words key (events_at words tick) (tick ∷ older)
    → SoundsKeyed words key start was tick older
sounds_keyed words key start was tick older closed obeys done u = record {
  since = u.since;
  first = u.first;
  earlier = u.earlier;
  stand = u.stand;
  begins = u.begins;
  under_way = u.under_way;
  loud = u.loud;
  keys = λ half silent unfailed.
      let quiet : reports_of key.words (from_tick u.more u.first.before.keyed)
      ≡ reports_of key.words u.first.before.keyed =
      ap (λ (es : List KeyEvent). reports_of key.words es) (sym u.goes_on) ∙ silent in
      let none : failed (marks_of key.words (from_tick u.more u.first.before.keyed)) ≡ false =
      ap (λ (es : List KeyEvent). failed (marks_of key.words es)) (sym u.goes_on) ∙ unfailed in
      ap (λ (es : List KeyEvent). newest_keys (open_commands (lines_of key.port start was es))) u.goes_on
      ∙ (u.well u.begins half).line u.more key.port start was
      (no_end_since key.words u.more u.first.before.keyed u.passed quiet none)
      (subst (λ (es : List KeyEvent). Obeys key.words es) u.goes_on obeys)
      (ap (λ (es : List KeyEvent). to_do key.words es) (sym u.goes_on) ∙ done) closed;
}

-- ---- a tick

module _ (words : ServeWords) (key : KeyWords) (is : words.key ≡ Some key) (busy : Bool) (before after : Live)
    (made : IsTicked words busy before after) (older : List (RunTick words)) where
  abbrev this : RunTick words
  this = record { busy = busy; before = before; after = after; made = made }

  abbrev held : Bool
  held = busy || is_held words.key before.keyed

  abbrev channel : Channel
  channel = (asked held before.hosts).channel

  abbrev wants : Bool
  wants = some_wants (asked held before.hosts).links

  pub tick_told : IsToldTick key.words made.air.samples before.keyed (events_at words this) made.keyed made.made
      made.hosts
  tick_told = told_tick words.key key (octets_sent before) made.air.samples made.out before.keyed made.keyed before.whole
      made.whole made.made made.hosts is made.key

  pub begins_well : BeginsWell words key this
  begins_well = λ began half. begins_keyed words key busy before after is made began half

  same_air : channel.air ≡ on_air before.hosts
  same_air =
      asked_keep (Option OnAir) (λ (c : Channel). c.air) (λ link octets c. refl) held (begin before.hosts.station)

  -- a transmission begins
  begins_now : begins_in words this ≡ true → IsUnderWay words key (events_at words this) (this ∷ older)
  begins_now began = record {
    since = [];
    first = this;
    earlier = older;
    stand = refl;
    begins = began;
    well = begins_well;
    under_way = refl;
    loud = refl;
    more = tick_told.more;
    passed = tick_told.follow;
    goes_on = tick_told.is
        ∙ ap (λ (sounds : Bool). tick_told.more ++ Called (Tick sounds) ∷ before.keyed)
        (begins_loud held before.hosts.station made.air made.step.step.on_air began);
  }

  -- or goes on, with sound
  loud_now : (t : OnAir) → on_air before.hosts ≡ Some t → HasLeft (on_air before.hosts) → sounds_in words this ≡ true
  loud_now t air left =
      ap (λ (a : AirTick). has_sound a.samples) made.step.step.on_air
      ∙ is_loud held wants channel t (same_air ∙ air) (subst HasLeft (sym same_air) left)

  goes_on_now : is_some (on_air before.hosts) ≡ true → sounds_in words this ≡ true
      → IsUnderWay words key before.keyed older → IsUnderWay words key (events_at words this) (this ∷ older)
  goes_on_now some loud u = record {
    since = this ∷ u.since;
    first = u.first;
    earlier = u.earlier;
    stand = ap (λ (ticks : List (RunTick words)). this ∷ ticks) u.stand;
    begins = u.begins;
    well = u.well;
    under_way = ap (λ (b : Bool). b && list_all (is_on_air words) u.since) some ∙ u.under_way;
    loud = ap (λ (b : Bool). b && list_all (sounds_in words) u.since) loud ∙ u.loud;
    more = tick_told.more ++ Called (Tick (sounds_in words this)) ∷ u.more;
    goes_on = tick_told.is
        ∙ ap (λ (es : List KeyEvent). tick_told.more ++ Called (Tick (sounds_in words this)) ∷ es) u.goes_on
        ∙ sym (append_assoc tick_told.more (Called (Tick (sounds_in words this)) ∷ u.more)
        (Called (Tick true) ∷ u.first.before.keyed));
    passed = loud-append tick_told.more (Called (Tick (sounds_in words this)) ∷ u.more) tick_told.follow
        (loud, u.passed);
  }

  -- what a tick shows of a transmission: it has sound, or one is under way after it
  abbrev Shows : Type 0
  Shows = (has_sound made.air.samples ≡ true) ⊎ (is_some (on_air made.made) ≡ true)

  none_shows : channel.air ≡ None → made.air.began ≡ false → Shows → ⊥
  none_shows rest none shows =
      let air = made.step.step.on_air in
      let quiet = ap (λ (a : AirTick). a.began) (sym air) ∙ none in
      elim shows [
        | inl loud ↦ true≢false (sym loud ∙ ap (λ (a : AirTick). has_sound a.samples) air
            ∙ is_silent held wants channel rest quiet)
        | inr some ↦ true≢false (sym some
            ∙ ap is_some (tick_made words.monitor held made.air before.hosts made.made made.step
            ∙ stays_at_rest held wants channel rest quiet))
      ]

  pub under_way_now : HasLeft (on_air before.hosts)
      → (is_some (on_air before.hosts) ≡ true → IsUnderWay words key before.keyed older) → Shows
      → IsUnderWay words key (events_at words this) (this ∷ older)
  under_way_now left so shows = by_air (on_air before.hosts) refl
    where
      by_air : (air : Option OnAir) → on_air before.hosts ≡ air
          → IsUnderWay words key (events_at words this) (this ∷ older)
      by_air None rest = elim (cases_Bool made.air.began) [
        | inl began ↦ begins_now began
        | inr none ↦ absurd (none_shows (same_air ∙ rest) none shows)
      ]
      by_air (Some t) air =
          let some : is_some (on_air before.hosts) ≡ true = ap is_some air in
          goes_on_now some (loud_now t air left) (so some)

  pub left_now : HasLeft (on_air made.made)
  left_now =
      subst HasLeft (sym (tick_made words.monitor held made.air before.hosts made.made made.step))
      (stays_left held wants channel)

-- ---- what holds of the ticks so far

pub record Follows (words : ServeWords) (key : KeyWords) (start : ℕ) (was : List KeyLine) (live : Live)
    (ticks : List (RunTick words)) : Type 0 where
  pub samples : live.samples ≡ samples_of words ticks
  pub in_order : EachTick words (λ tick older. GoesOnFrom live.keyed (events_at words tick)) ticks
  pub begins : EachTick words (λ tick older. BeginsWell words key tick) ticks
  pub sounds : EachTick words (λ tick older. sounds_in words tick ≡ true
      → SoundsKeyed words key start was tick older) ticks
  pub left : HasLeft (on_air live.hosts)
  pub under_way : is_some (on_air live.hosts) ≡ true → IsUnderWay words key live.keyed ticks

module _ (words : ServeWords) (key : KeyWords) (is : words.key ≡ Some key) (start : ℕ) (was : List KeyLine)
    (closed : is_open was ≡ false) where
  abbrev So : Live → List (RunTick words) → Type 0
  So live ticks = Follows words key start was live ticks

  -- no tick is made, and no transmission begins or ends
  stays : (a b : Live) (ticks : List (RunTick words)) → b.samples ≡ a.samples → Passes b.keyed a.keyed
      → on_air b.hosts ≡ on_air a.hosts → So a ticks → So b ticks
  stays a b ticks same later air so = record {
    samples = same ∙ so.samples;
    in_order = each_tick words _ _
        (λ tick older known.
        goes_on_longer b.keyed a.keyed (events_at words tick) (goes_so b.keyed a.keyed later) known) ticks so.in_order;
    begins = so.begins;
    sounds = so.sounds;
    left = subst HasLeft (sym air) so.left;
    under_way = λ some.
        under_way_longer words key b.keyed a.keyed ticks later (so.under_way (sym (ap is_some air) ∙ some));
  }

  ticked : (busy : Bool) (a b : Live) (made : IsTicked words busy a b) (ticks : List (RunTick words)) → So a ticks
      → So b ((record { busy = busy; before = a; after = b; made = made }) ∷ ticks)
  ticked busy a b made ticks so =
      let this : RunTick words = record { busy = busy; before = a; after = b; made = made } in
      let told = tick_told words key is busy a b made ticks in
      let at = events_at words this in
      let keyed : b.keyed ≡ made.keyed = ap (λ (l : Live). l.keyed) made.is in
      let passes : Passes b.keyed at = then_so b.keyed made.keyed at keyed told.later in
      let later : GoesOnFrom b.keyed at = goes_so b.keyed at passes in
      let before_it : GoesOnFrom at a.keyed = record {
        newer = told.more ++ Called (Tick (has_sound made.air.samples)) ∷ [];
        is = told.is ∙ sym (append_assoc told.more (Called (Tick (has_sound made.air.samples)) ∷ []) a.keyed);
      } in
      let since_then : GoesOnFrom b.keyed a.keyed = goes_on_longer b.keyed at a.keyed later before_it in
      let air : on_air b.hosts ≡ on_air made.made =
      ap (λ (l : Live). on_air l.hosts) made.is ∙ ap (λ (s : StationState). s.channel.air) told.station in
      record {
        samples = ap (λ (l : Live). l.samples) made.is ∙ ap (λ (xs : List ℤ). xs ++ made.air.samples) so.samples;
        in_order = (
          later,
          each_tick words _ _
              (λ tick older known. goes_on_longer b.keyed a.keyed (events_at words tick) since_then known) ticks
              so.in_order,
        );
        begins = (begins_well words key is busy a b made ticks, so.begins);
        sounds = (
          (λ loud. sounds_keyed words key start was this ticks closed told.obeys told.done
              (under_way_now words key is busy a b made ticks so.left so.under_way (inl loud))),
          so.sounds,
        );
        left = subst HasLeft (sym air) (left_now words key is busy a b made ticks);
        under_way = λ some.
            under_way_longer words key b.keyed at (this ∷ ticks) passes
            (under_way_now words key is busy a b made ticks so.left so.under_way
            (inr (sym (ap is_some air) ∙ some)));
      }

  -- ---- a turn

  all_ticked : (busy : Bool) (count : ℕ) (a b : Live) (made : AreTicked words busy count a b)
      (ticks : List (RunTick words)) → So a ticks → So b (with_ticks words busy count a b made ticks)
  all_ticked busy zero a b made ticks so = subst (λ (l : Live). So l ticks) (sym made) so
  all_ticked busy (suc count) a b made ticks so =
      all_ticked busy count made.0 b made.2
      ((record { busy = busy; before = a; after = made.0; made = made.1 }) ∷ ticks)
      (ticked busy a made.0 made.1 ticks so)

  part_made : (count : ℕ) (a b : Live) (made : MakesTicks words count a b) (ticks : List (RunTick words)) → So a ticks
      → So b (with_made words count a b made ticks)
  part_made count a b made ticks so = all_ticked made.busy count a b made.made ticks so

  read_on : (ended : Bool) (a b : Live) (ticks : List (RunTick words)) → LanesReadOn words ended a b → So a ticks
      → So b ticks
  read_on ended a b ticks h so =
      stays a b ticks (ap (λ (l : Live). l.samples) h.is)
      (nothing_passes b.keyed a.keyed (ap (λ (l : Live). l.keyed) h.is)) (ap (λ (l : Live). on_air l.hosts) h.is) so

  heard : (ended : Bool) (a b : Live) (ticks : List (RunTick words)) → HearsAll words ended a b → So a ticks
      → So b ticks
  heard ended a b ticks h so =
      stays h.read b ticks (ap (λ (l : Live). l.samples) h.is)
      (nothing_passes b.keyed h.read.keyed (ap (λ (l : Live). l.keyed) h.is))
      (ap (λ (l : Live). on_air l.hosts) h.is ∙ heard_all_keep words.monitor h.items h.read.hosts h.hosts h.hears)
      (read_on ended a h.read ticks h.reads so)

  key_turned : (a b : Live) (ticks : List (RunTick words)) → IsKeyTurn words a b → So a ticks → So b ticks
  key_turned a b ticks h so =
      let told = told_turn words.key (octets_sent a) a.keyed h.keyed a.hosts h.hosts h.turn in
      stays a b ticks (ap (λ (l : Live). l.samples) h.is)
      (then_so b.keyed h.keyed a.keyed (ap (λ (l : Live). l.keyed) h.is) told.0)
      (ap (λ (l : Live). on_air l.hosts) h.is ∙ ap (λ (s : StationState). s.channel.air) told.1) so

  all_made : (ended : Bool) (a b : Live) (h : MakesAll words ended a b) (ticks : List (RunTick words)) → So a ticks
      → So b (with_all words ended a b h ticks)
  all_made ended a b h ticks so =
      part_made h.count h.keyed b h.makes ticks
      (key_turned h.heard h.keyed ticks h.keys (heard ended a h.heard ticks h.hears so))

  hosts_served : (a b : Live) (ticks : List (RunTick words)) → ServesHosts a b → So a ticks → So b ticks
  hosts_served a b ticks h so =
      stays a b ticks (ap (λ (l : Live). l.samples) h.is)
      (nothing_passes b.keyed a.keyed (ap (λ (l : Live). l.keyed) h.is))
      (ap (λ (l : Live). on_air l.hosts) h.is ∙ part_keeps h.asked a.hosts h.hosts h.part) so

  -- ---- a run

  pub begins_so : So (new_live words) []
  begins_so = record {
    samples = refl;
    in_order = tt;
    begins = tt;
    sounds = tt;
    left = tt;
    under_way = λ some. absurd (true≢false (sym some));
  }

  pub turned : (ended : Bool) (a b : Live) (h : IsTurn words ended a b) (ticks : List (RunTick words)) → So a ticks
      → So b (with_all words ended a h.made h.makes ticks)
  turned ended a b h ticks so =
      hosts_served h.made b (with_all words ended a h.made h.makes ticks) h.serves
      (all_made ended a h.made h.makes ticks so)

  pub all_turned : (count : ℕ) (a b : Live) (turns : AreTurns words count a b) (ticks : List (RunTick words))
      → So a ticks → So b (with_turns words count a b turns ticks)
  all_turned zero a b turns ticks so = subst (λ (l : Live). So l ticks) (sym turns) so
  all_turned (suc count) a b turns ticks so =
      all_turned count turns.0 b turns.2 (with_all words false a turns.1.made turns.1.makes ticks)
      (turned false a turns.0 turns.1 ticks so)

  pub cut_short : (a b : Live) (cut : IsCutTurn words a b) (ticks : List (RunTick words)) → So a ticks
      → So b (with_cut words a b cut ticks)
  cut_short a b (inl reading) ticks so =
      stays a b ticks (ap (λ (l : Live). l.samples) reading.is)
      (nothing_passes b.keyed a.keyed (ap (λ (l : Live). l.keyed) reading.is))
      (ap (λ (l : Live). on_air l.hosts) reading.is) so
  cut_short a b (inr (inl hearing)) ticks so =
      stays hearing.read b ticks (ap (λ (l : Live). l.samples) hearing.is)
      (nothing_passes b.keyed hearing.read.keyed (ap (λ (l : Live). l.keyed) hearing.is))
      (ap (λ (l : Live). on_air l.hosts) hearing.is
      ∙ heard_all_keep words.monitor hearing.items hearing.read.hosts hearing.hosts hearing.hears)
      (read_on hearing.ended a hearing.read ticks hearing.reads so)
  cut_short a b (inr (inr (inl ticking))) ticks so =
      part_made ticking.count ticking.keyed b ticking.makes ticks
      (key_turned ticking.heard ticking.keyed ticks ticking.keys
      (heard ticking.ended a ticking.heard ticks ticking.hears so))
  cut_short a b (inr (inr (inr all))) ticks so = all_made all.0 a b all.1 ticks so
