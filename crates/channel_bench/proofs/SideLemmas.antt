-- What a station of the bench stands for after its calls.
use Rattle.channel_bench.proofs.Common.{◌≡◌, ℕ, ◌<◌, Bool, true, false, ℤ, List, Some, None, refl, sym, ap, ◌∙◌, subst}
use Rattle.channel_bench.proofs.Common.{All, MatchBool, ◌↔◌, IsTrue, End, A, B, HostEvent, IsHeard, ids_of, ids_after}
use Rattle.channel_bench.proofs.Common.{IsHostTurn, StationState, air_of, Out, Turn, begin, SentAt, Shared, Side}
use Rattle.channel_bench.proofs.Common.{SideState, Near, ways_of, MayCome, IsStep, IsTicking, IsTold, told_pieces}
use Rattle.channel_bench.proofs.Common.{first_unquiet, trouble_of, EarStandsFor, HearsStation, StandsForSide, StandsForCommon}
use Rattle.channel_bench.proofs.Common.{StandsForNear, StandsForWays, ProgramState, BothWays, is_ask, hearing_at}
use Rattle.channel_bench.proofs.Common.{queueing_all, FromHost, OffAir, OfClock}
use Rattle.agwpe_port.specs.Held.{StandsFor as AgwStandsFor}
use Rattle.station.specs.StandsFor.{StandsFor as StationStandsFor}
use Rattle.station.specs.Ticks.{IsTick}
use Rattle.channel_bench.proofs.Loudness.{air_within}
use Rattle.channel_bench.proofs.StepLemmas.{step_made}

-- all but the station and the connections that are there is as it was
pub record IsSameBesides (before after : Side) : Type 0 where
  pub end : after.end ≡ before.end
  pub reader : after.reader ≡ before.reader
  pub program : after.program ≡ before.program
  pub ear : after.ear ≡ before.ear
  pub towards : after.towards ≡ before.towards
  pub matched : after.matched ≡ before.matched
  pub air : after.air ≡ before.air
  pub silenced : after.silenced ≡ before.silenced

pub stands_with : (end : End) (before after : Side) (side : SideState) (next : StationState) (there : List ℕ)
    → StandsForSide end before side → IsSameBesides before after → StationStandsFor after.station next
    → ids_of after.station ≡ there → after.there.items ≡ there
    → StandsForSide end after (record side { station = next; there = there })
stands_with end before after side next there h same station ids is = record {
  end_is = same.end ∙ h.end_is;
  station = station;
  ids = ids;
  there = is;
  reader = subst (λ r. AgwStandsFor r side.stream) (sym same.reader) h.reader;
  program = same.program ∙ h.program;
  ear = subst (λ e. EarStandsFor e side.blocks side.samples) (sym same.ear) h.ear;
  towards = ap (λ t. t.items) same.towards ∙ h.towards;
  matched = same.matched ∙ h.matched;
  air = same.air ∙ h.air;
  loud = h.loud;
  silenced = same.silenced ∙ h.silenced;
}

-- all but whether memory was refused is as it was
pub record SameButMemory (before after : Side) : Type 0 where
  pub end : after.end ≡ before.end
  pub station : after.station ≡ before.station
  pub there : after.there ≡ before.there
  pub reader : after.reader ≡ before.reader
  pub program : after.program ≡ before.program
  pub ear : after.ear ≡ before.ear
  pub towards : after.towards ≡ before.towards
  pub matched : after.matched ≡ before.matched
  pub air : after.air ≡ before.air
  pub silenced : after.silenced ≡ before.silenced

-- so the side stands for what it stood for
pub remembers : (end : End) (before after : Side) (side : SideState) → StandsForSide end before side
    → SameButMemory before after → StandsForSide end after side
remembers end before after side h same = record {
  end_is = same.end ∙ h.end_is;
  station = subst (λ s. StationStandsFor s side.station) (sym same.station) h.station;
  ids = ap ids_of same.station ∙ h.ids;
  there = ap (λ t. t.items) same.there ∙ h.there;
  reader = subst (λ r. AgwStandsFor r side.stream) (sym same.reader) h.reader;
  program = same.program ∙ h.program;
  ear = subst (λ e. EarStandsFor e side.blocks side.samples) (sym same.ear) h.ear;
  towards = ap (λ t. t.items) same.towards ∙ h.towards;
  matched = same.matched ∙ h.matched;
  air = same.air ∙ h.air;
  loud = h.loud;
  silenced = same.silenced ∙ h.silenced;
}

pub near_remembers : (end : End) (before after : Side) (shared : Shared) (n : Near)
    → StandsForNear end before shared n → SameButMemory before after → StandsForNear end after shared n
near_remembers end before after shared n h same =
    record { side_is = remembers end before after n.side h.side_is same; shared_is = h.shared_is }

-- all but what it hears, and whether its transmission is lost, is as it was
pub record KeepsStation (before after : Side) : Type 0 where
  pub end : after.end ≡ before.end
  pub station : after.station ≡ before.station
  pub there : after.there ≡ before.there
  pub reader : after.reader ≡ before.reader
  pub program : after.program ≡ before.program
  pub air : after.air ≡ before.air

pub stands_kept : (end : End) (before after : Side) (side : SideState) → StandsForSide end before side
    → KeepsStation before after
    → (samples : List ℤ) (towards : List SentAt) (matched : ℕ) (silenced : Bool) → EarStandsFor after.ear side.blocks samples
    → after.towards.items ≡ towards → after.matched ≡ matched → after.silenced ≡ silenced
    → StandsForSide end after (record side {
      samples = samples;
      towards = towards;
      matched = matched;
      silenced =
          silenced;
    })
stands_kept end before after side h same samples towards matched silenced ear sent number lost = record {
  end_is = same.end ∙ h.end_is;
  station = subst (λ s. StationStandsFor s side.station) (sym same.station) h.station;
  ids = ap ids_of same.station ∙ h.ids;
  there = ap (λ t. t.items) same.there ∙ h.there;
  reader = subst (λ r. AgwStandsFor r side.stream) (sym same.reader) h.reader;
  program = same.program ∙ h.program;
  ear = ear;
  towards = sent;
  matched = number;
  air = same.air ∙ h.air;
  loud = h.loud;
  silenced = lost;
}

-- all but the host program is as it was
pub record KeepsAllElse (before after : Side) : Type 0 where
  pub end : after.end ≡ before.end
  pub station : after.station ≡ before.station
  pub there : after.there ≡ before.there
  pub reader : after.reader ≡ before.reader
  pub ear : after.ear ≡ before.ear
  pub towards : after.towards ≡ before.towards
  pub matched : after.matched ≡ before.matched
  pub air : after.air ≡ before.air
  pub silenced : after.silenced ≡ before.silenced

pub stands_program : (end : End) (before after : Side) (side : SideState) (program : ProgramState)
    → StandsForSide end before side
    → KeepsAllElse before after → after.program ≡ program → StandsForSide end after (record side { program = program })
stands_program end before after side program h same is = record {
  end_is = same.end ∙ h.end_is;
  station = subst (λ s. StationStandsFor s side.station) (sym same.station) h.station;
  ids = ap ids_of same.station ∙ h.ids;
  there = ap (λ t. t.items) same.there ∙ h.there;
  reader = subst (λ r. AgwStandsFor r side.stream) (sym same.reader) h.reader;
  program = is;
  ear = subst (λ e. EarStandsFor e side.blocks side.samples) (sym same.ear) h.ear;
  towards = ap (λ t. t.items) same.towards ∙ h.towards;
  matched = same.matched ∙ h.matched;
  air = same.air ∙ h.air;
  loud = h.loud;
  silenced = same.silenced ∙ h.silenced;
}

pub hearing_none : (end : End) (ways : BothWays) → hearing_at end None ways ≡ ways
hearing_none A ways = refl
hearing_none B ways = refl

-- what the frames of a step are told of
pub record HasSettled (sender : End) (on_ask : Bool) (frames : List (List ℕ)) (ways : BothWays)
    (before after : Shared) : Type 0 where
  pub flight : StandsForWays after.flight (queueing_all sender on_ask frames ways)
  pub trouble : after.trouble ≡ trouble_of (first_unquiet sender on_ask frames ways)
  pub draws : after.draws ≡ before.draws
  pub transmissions : after.transmissions ≡ before.transmissions
  pub lost : after.lost ≡ before.lost

-- an event of a host
pub host_made : (end : End) (event : HostEvent) (n : Near) (out : Out) (side : Side) (before after : Shared)
    → (host : (next : StationState) × IsHostTurn event (begin n.side.station) (record { now = next; out = out }))
    → StandsForSide end side (told_pieces out.pieces
    (record n.side { station = host.0; there = ids_after event out.closed n.side.there }))
    → HasSettled end false out.queued (ways_of n.common) before after → StandsForCommon before n.common
    → (next : Near) × IsStep end (FromHost event) None n next × StandsForNear end side after next
host_made end event n out side before after host stands settled common =
    let same = sym (hearing_none end (ways_of n.common)) in
    step_made end (FromHost event) None n (record { now = host.0; out = out }) host.1 tt side after stands
    (subst (λ ways. StandsForWays after.flight (queueing_all end false out.queued ways)) same settled.flight)
    (settled.trouble ∙ ap (λ ways. trouble_of (first_unquiet end false out.queued ways)) same)
    (settled.draws ∙ common.draws) (settled.transmissions ∙ common.transmissions) (settled.lost ∙ common.lost)

-- a tick
pub tick_made : (end : End) (busy : Bool) (n : Near) (turn : Turn) (side : Side) (before after : Shared)
    → IsTick busy (begin n.side.station) turn
    → StandsForSide end side (told_pieces turn.out.pieces (record n.side { station = turn.now; there = n.side.there }))
    → HasSettled end false turn.out.queued (ways_of n.common) before after → StandsForCommon before n.common
    → (next : Near) × IsStep end (OfClock busy) None n next × StandsForNear end side after next
tick_made end busy n turn side before after is stands settled common =
    let same = sym (hearing_none end (ways_of n.common)) in
    step_made end (OfClock busy) None n turn is tt side after stands
    (subst (λ ways. StandsForWays after.flight (queueing_all end false turn.out.queued ways)) same settled.flight)
    (settled.trouble ∙ ap (λ ways. trouble_of (first_unquiet end false turn.out.queued ways)) same)
    (settled.draws ∙ common.draws) (settled.transmissions ∙ common.transmissions) (settled.lost ∙ common.lost)

-- a frame that is heard
pub heard_made : (end : End) (octets : List ℕ) (number : ℕ) (n : Near) (out : Out) (side : Side) (before after : Shared)
    → (heard : (next : StationState) × IsHeard octets (begin n.side.station) (record { now = next; out = out }))
    → All (λ octet. octet < 256) octets
    → StandsForSide end side (told_pieces out.pieces (record n.side { station = heard.0; there = n.side.there }))
    → HasSettled end (is_ask octets) out.queued (hearing_at end (Some number) (ways_of n.common)) before after
    → before.draws ≡ n.common.draws → before.transmissions ≡ n.common.transmissions → before.lost ≡ n.common.lost
    → (next : Near) × IsStep end (OffAir octets) (Some number) n next × StandsForNear end side after next
heard_made end octets number n out side before after heard small stands settled draws transmissions lost =
    step_made end (OffAir octets) (Some number) n
    (record { now = heard.0; out = out }) heard.1 small side after stands settled.flight settled.trouble
    (settled.draws ∙ draws) (settled.transmissions ∙ transmissions) (settled.lost ∙ lost)

-- all but what it sends in the tick is as it was
pub record KeepsBesidesAir (before after : Side) : Type 0 where
  pub end : after.end ≡ before.end
  pub station : after.station ≡ before.station
  pub there : after.there ≡ before.there
  pub reader : after.reader ≡ before.reader
  pub program : after.program ≡ before.program
  pub ear : after.ear ≡ before.ear
  pub towards : after.towards ≡ before.towards
  pub matched : after.matched ≡ before.matched
  pub silenced : after.silenced ≡ before.silenced

-- with what is sent in the tick
pub ticks : (end : End) (busy : Bool) (n : Near) (after side : Side) (shared : Shared)
    → (IsTrue busy ↔ HearsStation n.side.blocks n.side.samples) → after.air ≡ air_of busy n.side.station
    → KeepsBesidesAir side after
    → (next : Near) × IsStep end (OfClock busy) None n next × StandsForNear end side shared next
    → (next : Near) × IsTicking end n next × StandsForNear end after shared next
ticks end busy n after side shared carrier air same made =
    let now : SideState = record made.0.side { air = air_of busy n.side.station } in
    let h = made.2.side_is in (
      record made.0 { side = now },
      record { busy = busy; carrier = carrier; next = made.0; step = made.1; is = refl },
      record {
        side_is = record {
          end_is = same.end ∙ h.end_is;
          station = subst (λ s. StationStandsFor s made.0.side.station) (sym same.station) h.station;
          ids = ap ids_of same.station ∙ h.ids;
          there = ap (λ t. t.items) same.there ∙ h.there;
          reader = subst (λ r. AgwStandsFor r made.0.side.stream) (sym same.reader) h.reader;
          program = same.program ∙ h.program;
          ear = subst (λ e. EarStandsFor e made.0.side.blocks made.0.side.samples) (sym same.ear) h.ear;
          towards = ap (λ t. t.items) same.towards ∙ h.towards;
          matched = same.matched ∙ h.matched;
          air = air;
          loud = air_within busy n.side.station;
          silenced = same.silenced ∙ h.silenced;
        };
        shared_is = made.2.shared_is;
      },
    )

-- ---- what comes from hosts

pub told_no : (end : End) (event : HostEvent) (n : Near) (may : Bool) → (IsTrue may ↔ MayCome event n.side)
    → may ≡ false → IsTold end event n n
told_no end event n may exactly is =
    record {
      may = may;
      exactly = exactly;
      told = subst
          (λ b. MatchBool b (IsStep end (FromHost event) None n n) (n ≡ n)) (sym is) refl;
    }

pub told_yes : (end : End) (event : HostEvent) (n next : Near) (may : Bool) → (IsTrue may ↔ MayCome event n.side)
    → may ≡ true
    → IsStep end (FromHost event) None n next → IsTold end event n next
told_yes end event n next may exactly is step =
    record {
      may = may;
      exactly = exactly;
      told = subst
          (λ b. MatchBool b (IsStep end (FromHost event) None n next) (next ≡ n)) (sym is) step;
    }
