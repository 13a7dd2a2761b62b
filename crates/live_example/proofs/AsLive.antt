-- The steps of each station of the worked run have what is proved of the steps of each live run: they follow each other
-- from a new station on, and its connection takes what they say to it. It joins by AGWPE, and stays.
use Rattle.station_laws.proofs.Common.{All, inl, arith, and_parts, sym, ◌∙◌, ap, subst, All-from_recursion, End, A, B, Bytes}
use Rattle.station_laws.proofs.Common.{reading, call_of_text, frame_octets, ticking_links, eqb-true, Step, Stations, FromHost}
use Rattle.station_laws.proofs.Common.{StationState, IsJointRun, stepped, with_state, state_of, new_stations, each_append}
use Rattle.station_laws.proofs.Common.{at_end, OfClock, list_all, Input}
use Rattle.std.specs.Prelude.{◌≡◌, ◌≢◌, ℕ, zero, suc, ◌≤◌, ◌==◌, nat_le, Bool, true, false, if◌then◌else◌, List, [], ◌∷◌}
use Rattle.std.specs.Prelude.{◌++◌, length, take, refl}
use Rattle.std.specs.List.{AllByRecursion as Each}
use Rattle.std.proofs.Math.Seq.{take-length}
use Rattle.std.proofs.lemmas.Bool.{leb-true}
use Rattle.std.proofs.lemmas.List.{append-nil}
use Rattle.agwpe_port.specs.Messages.{spelling}
use Rattle.channel_access.specs.OnAir.{bits_of, flag_end, frames_end}
use Rattle.hdlc_framer.specs.BitOrder.{octet_bits}
use Rattle.channel_access.specs.Modem.{body_by, piece}
use Rattle.hdlc_framer.specs.CheckSequence.{fcs_of}
use Rattle.hdlc_framer.specs.Frames.{frame_bits, with_fcs}
use Rattle.host_ports.specs.HostTurns.{Asked}
use Rattle.host_ports.specs.Waiting.{most_octets}
use Rattle.link_machine.specs.Step.{step as link_turn}
use Rattle.selective_reject.specs.Numbers.{ahead}
use Rattle.selective_reject.specs.Places.{missing}
use Rattle.station.specs.declared.host_out.Piece.{Piece}
use Rattle.station.specs.Asking.{first_wanting}
use Rattle.call_laws.specs.Client.{pieces_for}
use Rattle.live_laws.specs.LiveRuns.{LiveRun, octets_taken, own_step, steps_at}
use Rattle.live_laws.specs.LiveSteps.{OwnStep}
use Rattle.call_laws.specs.Client.{Stays}
use Rattle.live_laws.specs.Taken.{IsChain, IsTakenIn, JoinsByAgwpe, JoinsInAgwpe, IsAgwpe, StaysIn, octets_in, said}
use Rattle.live_example.specs.WorkedRun.{IsLikeLive}
use Rattle.live_example.proofs.Acts.{a_calls, a_gives, a_hears_ua, a_joins, a_registers, b_all_silent, b_gives, b_hears_sabm}
use Rattle.live_example.proofs.Acts.{b_joins, b_registers, b_ticks, config, next, NameNone, silent_by, tick, ticks_of}
use Rattle.live_example.proofs.Loss.{a_hears_disc, a_hears_info, a_names_info, a_names_sabm, a_ticks, again_silent}
use Rattle.live_example.proofs.Loss.{again_tick, b_disconnects, b_hears_again, b_hears_last_ua, b_hears_third}
use Rattle.live_example.proofs.Loss.{first_silent, more_ticks, second_silent, t1_silent, t1_tick}
use Rattle.live_example.proofs.TheRun.{first_steps, is_run, last_steps, steps, steps_again, steps_of_loss}

-- ---- the steps of each station follow each other

own_a : (station : End) (own : OwnStep) (rest : List OwnStep) (s : Stations) → own.before ≡ state_of station s
    → IsChain (with_state station own.after.now s).a rest → IsChain s.a (at_end A station (own ∷ []) ++ rest)
own_a A own rest s h k = (h, k)
own_a B own rest s h k = k

chain_a : (steps : List Step) (s : Stations) → IsJointRun s steps → IsChain s.a (steps_at A steps)
chain_a [] s h = tt
chain_a (step ∷ steps) s h =
    own_a step.station (own_step step) (steps_at A steps) s h.0 (chain_a steps (stepped step s) h.1)

own_b : (station : End) (own : OwnStep) (rest : List OwnStep) (s : Stations) → own.before ≡ state_of station s
    → IsChain (with_state station own.after.now s).b rest → IsChain s.b (at_end B station (own ∷ []) ++ rest)
own_b A own rest s h k = k
own_b B own rest s h k = (h, k)

chain_b : (steps : List Step) (s : Stations) → IsJointRun s steps → IsChain s.b (steps_at B steps)
chain_b [] s h = tt
chain_b (step ∷ steps) s h =
    own_b step.station (own_step step) (steps_at B steps) s h.0 (chain_b steps (stepped step s) h.1)

-- ---- what holds of each step of a station

abbrev OfEnd : End → (OwnStep → Type 0) → Step → Type 0
OfEnd end P step = step.station ≡ end → P (own_step step)

here : (P : OwnStep → Type 0) (end station : End) (own : OwnStep) (rest : List OwnStep) → (station ≡ end → P own)
    → Each P rest → Each P (at_end end station (own ∷ []) ++ rest)
here P A A own rest h k = (h refl, k)
here P A B own rest h k = k
here P B A own rest h k = k
here P B B own rest h k = (h refl, k)

each_at : (P : OwnStep → Type 0) (end : End) (steps : List Step) → Each (OfEnd end P) steps → Each P (steps_at end steps)
each_at P end [] h = tt
each_at P end (step ∷ steps) h =
    here P end step.station (own_step step) (steps_at end steps) h.0 (each_at P end steps h.1)

-- ticks keep what holds of every step of the clock
abbrev HoldsOfClock : (OwnStep → Type 0) → Type 0
HoldsOfClock P = (step : Step) → step.input ≡ OfClock false → P (own_step step)

ticks_each : (P : OwnStep → Type 0) (at end : End) (count : ℕ) (s : StationState) (silent : NameNone count s)
    → HoldsOfClock P → Each (OfEnd at P) (ticks_of end count s silent)
ticks_each P at end zero s silent h = tt
ticks_each P at end (suc count) s silent h =
    ((λ same. h (tick end s silent.0) refl), ticks_each P at end count (next s) silent.1 h)

-- all steps of the run, if it holds of the first, of the frames that are heard again, and of the last
each_of_run : (P : OwnStep → Type 0) (end : End) → HoldsOfClock P → Each (OfEnd end P) first_steps
    → OfEnd end P a_hears_info → Each (OfEnd end P) last_steps → Each (OfEnd end P) steps
unfolding reading call_of_text link_turn ahead ticking_links first_wanting frames_end flag_end bits_of body_by piece frame_bits
    with_fcs fcs_of octet_bits frame_octets missing
each_of_run P end clock first info last =
    each_append (OfEnd end P) first_steps (b_ticks ++ (a_ticks ++ steps_of_loss)) first
    (each_append (OfEnd end P) b_ticks (a_ticks ++ steps_of_loss)
    (ticks_each P end B 13 b_gives.after.now (silent_by 13 b_gives.after.now b_all_silent) clock)
    (each_append (OfEnd end P) a_ticks steps_of_loss
    (ticks_each P end A 13 a_gives.after.now (silent_by 13 a_gives.after.now first_silent) clock) (
      λ same. clock a_names_sabm refl,
      each_append (OfEnd end P) more_ticks (a_names_info ∷ t1_tick ++ steps_again)
          (ticks_each P end A 12 a_names_sabm.after.now (silent_by 12 a_names_sabm.after.now second_silent) clock) (
            λ same. clock a_names_info refl,
            each_append (OfEnd end P) t1_tick steps_again
                (ticks_each P end A 1 a_names_info.after.now (silent_by 1 a_names_info.after.now t1_silent) clock) (
                  info,
                  each_append (OfEnd end P) again_tick last_steps
                      (ticks_each P end A 1 a_hears_info.after.now (silent_by 1 a_hears_info.after.now again_silent) clock) last,
                ),
          ),
    )))

a_is_not_b : A ≢ B
a_is_not_b e = cc

b_is_not_a : B ≢ A
b_is_not_a e = cc

stays_of_clock : HoldsOfClock (StaysIn 1)
stays_of_clock step is =
    subst (λ (input : Input). Stays 1 input step.after.out.closed) (sym is) tt

joins_of_clock : HoldsOfClock (JoinsInAgwpe 1)
joins_of_clock step is = subst (λ (input : Input). JoinsByAgwpe 1 input) (sym is) tt

-- ---- the connection of each station joins by AGWPE, and stays

nobody_closed : All (λ (n : ℕ). n ≢ 1) []
nobody_closed = All-from_recursion (λ (n : ℕ). n ≢ 1) [] tt

a_stays : Each (StaysIn 1) (steps_at A steps)
unfolding reading call_of_text link_turn ahead ticking_links first_wanting frames_end flag_end bits_of body_by piece frame_bits
    with_fcs fcs_of octet_bits frame_octets missing
a_stays =
    each_at (StaysIn 1) A steps (each_of_run (StaysIn 1) A stays_of_clock (
      λ same. tt,
      (
        λ same. absurd (b_is_not_a same),
        (
          λ same. nobody_closed,
          (
            λ same. absurd (b_is_not_a same),
            (
              λ same. nobody_closed,
              (
                λ same. absurd (b_is_not_a same),
                (
                  λ same. tt,
                  (
                    λ same. absurd (b_is_not_a same),
                    (λ same. nobody_closed, tt),
                  ),
                ),
              ),
            ),
          ),
        ),
      ),
    )
    (λ same. tt) (
      λ same. absurd (b_is_not_a same),
      (
        λ same. absurd (b_is_not_a same),
        (
          λ same. absurd (b_is_not_a same),
          (λ same. tt, (λ same. absurd (b_is_not_a same), tt)),
        ),
      ),
    ))

b_stays : Each (StaysIn 1) (steps_at B steps)
unfolding reading call_of_text link_turn ahead ticking_links first_wanting frames_end flag_end bits_of body_by piece frame_bits
    with_fcs fcs_of octet_bits frame_octets missing
b_stays =
    each_at (StaysIn 1) B steps (each_of_run (StaysIn 1) B stays_of_clock (
      λ same. absurd (a_is_not_b same),
      (
        λ same. tt,
        (
          λ same. absurd (a_is_not_b same),
          (
            λ same. nobody_closed,
            (
              λ same. absurd (a_is_not_b same),
              (
                λ same. tt,
                (
                  λ same. absurd (a_is_not_b same),
                  (
                    λ same. nobody_closed,
                    (λ same. absurd (a_is_not_b same), tt),
                  ),
                ),
              ),
            ),
          ),
        ),
      ),
    )
    (λ same. absurd (a_is_not_b same))
    (λ same. tt, (λ same. tt, (λ same. nobody_closed, (λ same. absurd (a_is_not_b same), (λ same. tt, tt))))))

a_joins_so : Each (JoinsInAgwpe 1) (steps_at A steps)
unfolding reading call_of_text link_turn ahead ticking_links first_wanting frames_end flag_end bits_of body_by piece frame_bits
    with_fcs fcs_of octet_bits frame_octets missing
a_joins_so =
    each_at (JoinsInAgwpe 1) A steps (each_of_run (JoinsInAgwpe 1) A joins_of_clock (
      λ same is. refl,
      (
        λ same. absurd (b_is_not_a same),
        (
          λ same. tt,
          (
            λ same. absurd (b_is_not_a same),
            (
              λ same. tt,
              (
                λ same. absurd (b_is_not_a same),
                (
                  λ same. tt,
                  (
                    λ same. absurd (b_is_not_a same),
                    (λ same. tt, tt),
                  ),
                ),
              ),
            ),
          ),
        ),
      ),
    )
    (λ same. tt) (
      λ same. absurd (b_is_not_a same),
      (
        λ same. absurd (b_is_not_a same),
        (
          λ same. absurd (b_is_not_a same),
          (λ same. tt, (λ same. absurd (b_is_not_a same), tt)),
        ),
      ),
    ))

b_joins_so : Each (JoinsInAgwpe 1) (steps_at B steps)
unfolding reading call_of_text link_turn ahead ticking_links first_wanting frames_end flag_end bits_of body_by piece frame_bits
    with_fcs fcs_of octet_bits frame_octets missing
b_joins_so =
    each_at (JoinsInAgwpe 1) B steps (each_of_run (JoinsInAgwpe 1) B joins_of_clock (
      λ same. absurd (a_is_not_b same),
      (
        λ same is. refl,
        (
          λ same. absurd (a_is_not_b same),
          (
            λ same. tt,
            (
              λ same. absurd (a_is_not_b same),
              (
                λ same. tt,
                (
                  λ same. absurd (a_is_not_b same),
                  (
                    λ same. tt,
                    (λ same. absurd (a_is_not_b same), tt),
                  ),
                ),
              ),
            ),
          ),
        ),
      ),
    )
    (λ same. absurd (a_is_not_b same))
    (λ same. tt, (λ same. tt, (λ same. tt, (λ same. absurd (a_is_not_b same), (λ same. tt, tt))))))

-- ---- what it takes

-- one turn, in which it takes all that there is for it
abbrev pub asked_at_once : List ℕ → Asked
asked_at_once octets = record {
  paused = [];
  events = [];
  offers = record { id = 1; octets = octets; took = length octets } ∷ [];
  failed = [];
  shut = [];
}

abbrev pub all_said : List OwnStep → List ℕ
all_said steps = octets_in (pieces_for 1 (said steps))

-- the run of a station whose connection takes all
abbrev pub taking_all : List OwnStep → LiveRun
taking_all steps = record { steps = steps; turns = asked_at_once (all_said steps) ∷ [] }

taken_if : (is : Bool) (octets : List ℕ)
    → ((if is then take (length octets) octets else []) ++ []) ++ [] ≡ (if is then octets else [])
taken_if true octets =
    append-nil (take (length octets) octets ++ []) ∙ append-nil (take (length octets) octets) ∙ take-length octets
taken_if false octets = refl

abbrev IsShort : Piece → Type 0
IsShort piece = length piece.octets ≤ most_octets

each_short : (pieces : List Piece)
    → list_all (λ (piece : Piece). nat_le (length piece.octets) most_octets) pieces ≡ true → Each IsShort pieces
each_short [] h = tt
each_short (piece ∷ pieces) h =
    let both = and_parts (nat_le (length piece.octets) most_octets)
    (list_all (λ (p : Piece). nat_le (length p.octets) most_octets) pieces) h in
    (leb-true (length piece.octets) most_octets both.0, each_short pieces both.1)

-- a connection that took nothing
took_nothing : (id : ℕ) (steps : List OwnStep) → IsTakenIn id steps []
took_nothing id steps = record {
  appended = [];
  are_said = record {
    earlier = [];
    there = [];
    later = steps;
    parts = refl;
    stays = All-from_recursion (StaysIn id) [] tt;
    first = ([], refl);
    short = All-from_recursion IsShort [] tt;
  };
  first = ([], refl);
}

took_all : (steps : List OwnStep) → Each (StaysIn 1) steps
    → list_all (λ (piece : Piece). nat_le (length piece.octets) most_octets) (pieces_for 1 (said steps)) ≡ true
    → IsTakenIn 1 steps (all_said steps)
took_all steps stays short = record {
  appended = said steps;
  are_said = record {
    earlier = [];
    there = steps;
    later = [];
    parts = sym (append-nil steps);
    stays = All-from_recursion (StaysIn 1) steps stays;
    first = ([], sym (append-nil (pieces_for 1 (said steps))));
    short = All-from_recursion IsShort (pieces_for 1 (said steps)) (each_short (pieces_for 1 (said steps)) short);
  };
  first = ([], sym (append-nil (all_said steps)));
}

take_by : (steps : List OwnStep) → IsTakenIn 1 steps (all_said steps) → (id : ℕ) (is : Bool) → (1 == id) ≡ is
    → IsTakenIn id steps (if is then all_said steps else [])
take_by steps all id true is = subst (λ (n : ℕ). IsTakenIn n steps (all_said steps)) (eqb-true 1 id is) all
take_by steps all id false is = took_nothing id steps

takes_all : (steps : List OwnStep) → IsTakenIn 1 steps (all_said steps) → (id : ℕ)
    → IsTakenIn id steps (octets_taken id (taking_all steps))
takes_all steps all id =
    subst (IsTakenIn id steps) (sym (taken_if (1 == id) (all_said steps))) (take_by steps all id (1 == id) refl)

a_short : list_all (λ (piece : Piece). nat_le (length piece.octets) most_octets) (pieces_for 1 (said (steps_at A steps)))
    ≡ true
unfolding reading call_of_text link_turn ahead ticking_links first_wanting frames_end flag_end bits_of body_by piece frame_bits
    with_fcs fcs_of octet_bits frame_octets missing spelling
a_short = refl

b_short : list_all (λ (piece : Piece). nat_le (length piece.octets) most_octets) (pieces_for 1 (said (steps_at B steps)))
    ≡ true
unfolding reading call_of_text link_turn ahead ticking_links first_wanting frames_end flag_end bits_of body_by piece frame_bits
    with_fcs fcs_of octet_bits frame_octets missing spelling
b_short = refl

-- ---- the two runs

abbrev pub run_a : LiveRun
run_a = taking_all (steps_at A steps)

abbrev pub run_b : LiveRun
run_b = taking_all (steps_at B steps)

pub a_is_like : IsLikeLive config 1 run_a
a_is_like = record {
  follow = chain_a steps (new_stations config 1 config 2) is_run;
  takes = takes_all (steps_at A steps) (took_all (steps_at A steps) a_stays a_short);
}

pub b_is_like : IsLikeLive config 2 run_b
b_is_like = record {
  follow = chain_b steps (new_stations config 1 config 2) is_run;
  takes = takes_all (steps_at B steps) (took_all (steps_at B steps) b_stays b_short);
}

pub a_is_agwpe : IsAgwpe 1 run_a.steps
a_is_agwpe = All-from_recursion (JoinsInAgwpe 1) (steps_at A steps) a_joins_so

pub b_is_agwpe : IsAgwpe 1 run_b.steps
b_is_agwpe = All-from_recursion (JoinsInAgwpe 1) (steps_at B steps) b_joins_so
