-- In a run of the bench nothing but the frames of links joins a transmit queue, and a station sends them in the order
-- in which they joined it.
use Rattle.channel_bench.proofs.Common.{◌≡◌, ℕ, ◌≤◌, Bool, true, false, List, [], ◌∷◌, ◌++◌, length, map, cond}
use Rattle.channel_bench.proofs.Common.{Option, Some, None, refl, sym, ap, ◌∙◌, subst, arith, append-nil, append_assoc}
use Rattle.channel_bench.proofs.Common.{map-append, call_field, spelling, AgwMessage, Sent, End, A, B, PortKind, Kiss}
use Rattle.channel_bench.proofs.Common.{Agw, register_kind, connect_kind, data_kind, disconnect_kind, IsAnswered}
use Rattle.channel_bench.proofs.Common.{has_place, joining, taking, with_host, no_call, StationState, air_of}
use Rattle.channel_bench.proofs.Common.{asked_links, some_wants, Turn, begin, changing, closing, BenchWords, Near}
use Rattle.channel_bench.proofs.Common.{IsStep}
use Rattle.channel_bench.proofs.Common.{program_id, kiss_id, call_at, request, request_between, Moment, steps_in, Input}
use Rattle.channel_bench.proofs.Common.{IsTurn, Step, Stations, at_end, queued_at, state_of, with_state, FromHost}
use Rattle.channel_bench.proofs.Common.{OffAir, OfClock}
use Rattle.channel_bench.proofs.ChannelOrder.{Fits, fits_more, octets_of, sent_octets, tick_long, tick_sends}
use Rattle.channel_bench.proofs.CoreRun.{KeptByCore, Occurs, Usual, input_of, told_station}
use Rattle.channel_bench.proofs.CoreRun.Usual.{joins_kiss, sets_full, joins_program, registers, connects, gives}
use Rattle.channel_bench.proofs.CoreRun.Usual.{disconnects, hears, ticks}
use Rattle.channel_bench.proofs.HostsStay.{HasHosts, IsOfProgram, IsSaid, IsSet, none_passes, said_by, set_by}
use Rattle.channel_bench.proofs.HostsStay.IsSaid.{unheard, said}
use Rattle.channel_bench.proofs.HostsStay.IsSet.{unheard as alone, full}
use Rattle.std.specs.List.{AllByRecursion as Each}
use Rattle.station.specs.CallFields.{call_in}
use Rattle.channel_bench.proofs.NotedRun.{steps_more, steps_passed}
use Rattle.channel_bench.proofs.ProgramsAsk.{AskLittle, asks_kept, between_written, hosts_at, registers_written}
use Rattle.channel_bench.proofs.TurnWalks.{KeptByTurns, connect_kept, data_kept, disconnect_kept, heard_kept}
use Rattle.channel_bench.proofs.TurnWalks.{register_kept, ticks_kept}

-- ---- what joins the queue

-- the frames of links that some acts queue wait after those that waited
record Fed (before after : Turn) : Type 0 where
  more : List (List ℕ)
  queued : after.out.queued ≡ before.out.queued ++ more
  waits : map octets_of after.now.channel.waiting ≡ map octets_of before.now.channel.waiting ++ more
  air : after.now.channel.air ≡ before.now.channel.air

fed_none :
    (before after : Turn) → after.out.queued ≡ before.out.queued
    → after.now.channel.waiting ≡ before.now.channel.waiting
    → after.now.channel.air ≡ before.now.channel.air → Fed before after
fed_none before after queued waits air = record {
  more = [];
  queued = queued ∙ sym (append-nil before.out.queued);
  waits = ap (map octets_of) waits ∙ sym (append-nil (map octets_of before.now.channel.waiting));
  air = air;
}

fed_on : (t u v : Turn) → Fed t u → Fed u v → Fed t v
fed_on t u v h k = record {
  more = h.more ++ k.more;
  queued = k.queued ∙ ap (λ xs. xs ++ k.more) h.queued ∙ append_assoc t.out.queued h.more k.more;
  waits = k.waits ∙ ap (λ xs. xs ++ k.more) h.waits ∙ append_assoc (map octets_of t.now.channel.waiting) h.more k.more;
  air = k.air ∙ h.air;
}

fed : KeptByTurns Fed
fed = record {
  acts = record {
    same = λ t. fed_none t t refl refl refl;
    on = fed_on;
    tells = λ t pieces. fed_none t _ refl refl refl;
    links = λ change t. fed_none t _ refl refl refl;
    enters = λ key octets t. record {
      more = octets ∷ [];
      queued = refl;
      waits = map-append octets_of t.now.channel.waiting _;
      air = refl;
    };
    drops = λ t. fed_none t _ refl refl refl;
    asks = λ key t. fed_none t _ refl refl refl;
  };
  registers = λ call t. fed_none t _ refl refl refl;
  told = λ path ours t. fed_none t _ refl refl refl;
}

-- ---- a step

-- What waited and what joins is what the step sends and what waits then.
record StepOrder (s : StationState) (sent : List (List ℕ)) (after : Turn) : Type 0 where
  order : map octets_of s.channel.waiting ++ after.out.queued ≡ sent ++ map octets_of after.now.channel.waiting
  fits : Fits after.now.channel.air after.now.channel.waiting

fed_order : (s : StationState) (after : Turn) → Fed (begin s) after → Fits s.channel.air s.channel.waiting
    → StepOrder s [] after
fed_order s after h fits = record {
  order = ap (λ xs. map octets_of s.channel.waiting ++ xs) h.queued ∙ sym h.waits;
  fits = subst (λ air. Fits air after.now.channel.waiting) (sym h.air)
      (fits_more s.channel.air s.channel.waiting after.now.channel.waiting h.more h.waits fits);
}

clock_order : (busy : Bool) (s : StationState) (after : Turn) → IsTurn (OfClock busy) (begin s) after
    → Fits s.channel.air s.channel.waiting
    → StepOrder s (sent_octets (air_of busy s).sent) after
clock_order busy s after turn fits =
    let ticked = asked_links busy (begin s) in
    let links = fed_order s ticked (ticks_kept Fed fed busy (begin s)) fits in
    let sends = tick_sends busy (some_wants ticked.now.links) ticked.now.channel links.fits in
    subst (StepOrder s (sent_octets (air_of busy s).sent)) (sym turn.effect)
    (record { order = links.order ∙ sends.order; fits = sends.fits })

-- what a tick sends
pub record ClockSends (busy : Bool) (s : StationState) : Type 0 where
  pub soon : (x : Sent) → (air_of busy s).sent ≡ Some x → x.after ≤ 96
  pub long : length (air_of busy s).samples ≡ 96

pub clock_sends : (busy : Bool) (s : StationState) → Fits s.channel.air s.channel.waiting → ClockSends busy s
clock_sends busy s fits =
    let ticked = asked_links busy (begin s) in
    let wants = some_wants ticked.now.links in
    let links = fed_order s ticked (ticks_kept Fed fed busy (begin s)) fits in
    record {
      soon = (tick_sends busy wants ticked.now.channel links.fits).soon;
      long = tick_long busy wants ticked.now.channel links.fits;
    }

joining_fed : (id : ℕ) (kind : PortKind) (s : StationState) → Fed (begin s) (joining id kind (begin s))
joining_fed id kind s = go (has_place s)
  where
    go : (b : Bool) → Fed (begin s) (cond b (changing (with_host id kind) (begin s)) (closing id (begin s)))
    go true = fed_none (begin s) _ refl refl refl
    go false = fed_none (begin s) _ refl refl refl

said_fed :
    (message : AgwMessage) (before after : Turn) → ((t : Turn) → t.now.registrations ≡ before.now.registrations → IsAnswered program_id message t after
    → Fed t after)
    → IsSaid message before after → Fed before after
said_fed message before after keeps (unheard same) = subst (Fed before) (sym same)
    (fed_none before before refl refl refl)
said_fed message before after keeps (said answered) =
    let took = taking program_id (spelling message) before in
    fed_on before took after (fed_none before took refl refl refl) (keeps took refl answered)

set_fed : (before after : Turn) → IsSet before after → Fed before after
set_fed before after (alone same) = subst (Fed before) (sym same) (fed_none before before refl refl refl)
set_fed before after (full same) = subst (Fed before) (sym same) (fed_none before _ refl refl refl)

-- the frames that a step sends
abbrev pub sent_in_step : Input → StationState → List (List ℕ)
sent_in_step (FromHost event) s = []
sent_in_step (OffAir octets) s = []
sent_in_step (OfClock busy) s = sent_octets (air_of busy s).sent

order_after :
    (end : End) (usual : Usual) (s : StationState) (after : Turn) → Occurs end usual
    → IsTurn (input_of end usual) (begin s) after
    → HasHosts s → Fits s.channel.air s.channel.waiting → StepOrder s (sent_in_step (input_of end usual) s) after
order_after end joins_kiss s after occurs turn h fits = fed_order s after
    (subst (Fed (begin s)) (sym turn) (joining_fed kiss_id Kiss s)) fits
order_after end sets_full s after occurs turn h fits = fed_order s after
    (set_fed (begin s) after (set_by (begin s) after h turn)) fits
order_after end joins_program s after occurs turn h fits =
    fed_order s after (subst (Fed (begin s)) (sym turn) (joining_fed program_id Agw s)) fits
order_after end registers s after occurs turn h fits =
    let from = call_field (call_at end) in
    let message = request register_kind from no_call [] in
    fed_order s after (said_fed message (begin s) after
    (λ t same answered. register_kept Fed fed from no_call [] t after
    (none_passes (call_in from) t (subst (Each IsOfProgram) (sym same) h.registered)) answered)
    (said_by message (begin s) after (registers_written end) h turn)) fits
order_after end connects s after occurs turn h fits =
    let message = request_between connect_kind end [] in
    fed_order s after
    (said_fed message (begin s) after
    (λ t same answered. connect_kept Fed fed program_id message.from message.to [] t after answered)
    (said_by message (begin s) after (between_written connect_kind end [] (omega arith)) h turn)) fits
order_after end (gives piece) s after occurs turn h fits =
    let message = request_between data_kind end piece in
    fed_order s after
    (said_fed message (begin s) after
    (λ t same answered. data_kept Fed fed program_id message.from message.to piece t after answered)
    (said_by message (begin s) after (between_written data_kind end piece occurs) h turn)) fits
order_after end disconnects s after occurs turn h fits =
    let message = request_between disconnect_kind end [] in
    fed_order s after
    (said_fed message (begin s) after
    (λ t same answered. disconnect_kept Fed fed program_id message.from message.to [] t after answered)
    (said_by message (begin s) after (between_written disconnect_kind end [] (omega arith)) h turn)) fits
order_after end (hears octets) s after occurs turn h fits = fed_order s after
    (heard_kept Fed fed octets (begin s) after h.digi turn) fits
order_after end (ticks busy) s after occurs turn h fits = clock_order busy s after turn fits

-- ---- a run

-- the frames that a station has sent
abbrev pub sent_at : End → List Step → List (List ℕ)
sent_at end [] = []
sent_at end (step ∷ steps) = at_end end step.station (sent_in_step step.input step.before) ++ sent_at end steps

pub sent_more :
    (end : End) (steps : List Step) (step : Step)
    → sent_at end (steps ++ step ∷ []) ≡ sent_at end steps ++ at_end end step.station
    (sent_in_step step.input step.before)
sent_more end [] step = append-nil _
sent_more end (first ∷ steps) step =
    ap (λ xs. at_end end first.station (sent_in_step first.input first.before) ++ xs) (sent_more end steps step)
    ∙ sym (append_assoc (at_end end first.station (sent_in_step first.input first.before)) (sent_at end steps) _)

pub queued_more :
    (end : End) (steps : List Step) (step : Step)
    → queued_at end (steps ++ step ∷ []) ≡ queued_at end steps ++ at_end end step.station step.after.out.queued
queued_more end [] step = append-nil _
queued_more end (first ∷ steps) step =
    ap (λ xs. at_end end first.station first.after.out.queued ++ xs) (queued_more end steps step)
    ∙ sym (append_assoc (at_end end first.station first.after.out.queued) (queued_at end steps) _)

-- What was queued at an end is what was sent and what waits.
pub record InOrder (end : End) (steps : List Step) (s : StationState) : Type 0 where
  pub order : queued_at end steps ≡ sent_at end steps ++ map octets_of s.channel.waiting
  pub fits : Fits s.channel.air s.channel.waiting

own_order :
    (end : End) (steps : List Step) (step : Step)
    → at_end end step.station step.after.out.queued ≡ step.after.out.queued
    → at_end end step.station (sent_in_step step.input step.before) ≡ sent_in_step step.input step.before
    → InOrder end steps step.before → StepOrder step.before (sent_in_step step.input step.before) step.after
    → InOrder end (steps ++ step ∷ []) step.after.now
own_order end steps step queued sent h one =
    let before = map octets_of step.before.channel.waiting in
    let after = map octets_of step.after.now.channel.waiting in
    let sending = sent_in_step step.input step.before in
    record {
      order = queued_more end steps step ∙ ap (λ xs. queued_at end steps ++ xs) queued
          ∙ ap (λ xs. xs ++ step.after.out.queued) h.order
          ∙ append_assoc (sent_at end steps) before step.after.out.queued
          ∙ ap (λ xs. sent_at end steps ++ xs) one.order ∙ sym (append_assoc (sent_at end steps) sending after)
          ∙ ap (λ xs. xs ++ after) (sym (sent_more end steps step ∙ ap (λ xs. sent_at end steps ++ xs) sent));
      fits = one.fits;
    }

other_order :
    (end : End) (steps : List Step) (step : Step) (s : StationState)
    → at_end end step.station step.after.out.queued ≡ []
    → at_end end step.station (sent_in_step step.input step.before) ≡ [] → InOrder end steps s
    → InOrder end (steps ++ step ∷ []) s
other_order end steps step s queued sent h = record {
  order = queued_more end steps step ∙ ap (λ xs. queued_at end steps ++ xs) queued ∙ append-nil (queued_at end steps)
      ∙ h.order
      ∙ ap (λ xs. xs ++ map octets_of s.channel.waiting)
      (sym (sent_more end steps step ∙ ap (λ xs. sent_at end steps ++ xs) sent ∙ append-nil (sent_at end steps)));
  fits = h.fits;
}

pub record SentInTurn (moments : List Moment) (s : Stations) : Type 0 where
  pub little : AskLittle moments s
  pub a : InOrder A (steps_in moments) s.a
  pub b : InOrder B (steps_in moments) s.b

in_order_with :
    (steps : List Step) (step : Step) (end : End) (s : Stations) → step.station ≡ end → step.before ≡ state_of end s
    → InOrder A steps s.a → InOrder B steps s.b → StepOrder step.before (sent_in_step step.input step.before) step.after
    → InOrder A (steps ++ step ∷ []) (with_state end step.after.now s).a
    × InOrder B (steps ++ step ∷ []) (with_state end step.after.now s).b
in_order_with steps step A s is at a b one = (
  own_order A steps step (ap (λ x. at_end A x step.after.out.queued) is)
      (ap (λ x. at_end A x (sent_in_step step.input step.before)) is) (subst (InOrder A steps) (sym at) a) one,
  other_order B steps step s.b (ap (λ x. at_end B x step.after.out.queued) is)
      (ap (λ x. at_end B x (sent_in_step step.input step.before)) is) b,
)
in_order_with steps step B s is at a b one = (
  other_order A steps step s.a (ap (λ x. at_end A x step.after.out.queued) is)
      (ap (λ x. at_end A x (sent_in_step step.input step.before)) is) a,
  own_order B steps step (ap (λ x. at_end B x step.after.out.queued) is)
      (ap (λ x. at_end B x (sent_in_step step.input step.before)) is) (subst (InOrder B steps) (sym at) b) one,
)

pub fits_at : (end : End) (steps : List Step) (s : Stations) → InOrder A steps s.a → InOrder B steps s.b
    → Fits (state_of end s).channel.air (state_of end s).channel.waiting
fits_at A steps s a b = a.fits
fits_at B steps s a b = b.fits

step_order :
    (w : BenchWords) (end : End) (usual : Usual) (matched : Option ℕ) (before after : Near) (s : Stations)
    → Occurs end usual
    → IsStep end (input_of end usual) matched before after → after.common.trouble ≡ None
    → before.side.station ≡ state_of end s
    → SentInTurn before.common.moments s → SentInTurn after.common.moments (with_state end after.side.station s)
step_order w end usual matched before after s occurs h calm at sent =
    let step : Step = record {
      station = end;
      input = input_of end usual;
      before = before.side.station;
      after = h.turn;
      turn = h.makes;
      octets = h.octets;
    } in
    let steps = steps_in before.common.moments in
    let steps_are : steps_in after.common.moments ≡ steps ++ step ∷ [] =
    ap (λ (n : Near). steps_in n.common.moments) h.is ∙ steps_more before.common.moments step matched in
    let station_is : after.side.station ≡ h.turn.now =
    ap (λ (n : Near). n.side.station) h.is ∙ told_station h.turn.out.pieces _ in
    let has = subst HasHosts (sym at) (hosts_at end s sent.little.a sent.little.b) in
    let fits = subst (λ (x : StationState). Fits x.channel.air x.channel.waiting) (sym at)
    (fits_at end steps s sent.a sent.b) in
    let one = order_after end usual before.side.station h.turn occurs h.makes has fits in
    let both = in_order_with steps step end s refl at sent.a sent.b one in
    record {
      little = (asks_kept w).steps end usual matched before after s occurs h calm at sent.little;
      a = subst (λ state. InOrder A (steps_in after.common.moments) (with_state end state s).a) (sym station_is)
          (subst (λ xs. InOrder A xs (with_state end h.turn.now s).a) (sym steps_are) both.0);
      b = subst (λ state. InOrder B (steps_in after.common.moments) (with_state end state s).b) (sym station_is)
          (subst (λ xs. InOrder B xs (with_state end h.turn.now s).b) (sym steps_are) both.1);
    }

pub order_kept : (w : BenchWords) → KeptByCore w SentInTurn
order_kept w = record {
  new = record {
    little =
        (asks_kept w).new;
    a = record { order = refl; fits = tt };
    b = record { order = refl; fits = tt };
  };
  steps = step_order w;
  passes = λ sender below moments s sent.
      let same = steps_passed moments sender below in
      record {
        little = (asks_kept w).passes sender below moments s sent.little;
        a = subst (λ xs. InOrder A xs s.a) (sym same) sent.a;
        b = subst (λ xs. InOrder B xs s.b) (sym same) sent.b;
      };
}
