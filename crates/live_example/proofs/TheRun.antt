-- The worked run as a joint run of two new stations, and the frames that each hears paired with those that the other
-- queued before.
use Rattle.station_laws.proofs.Common.{arith, sym, ◌∙◌, subst, ap, All-from_recursion, All-contains_itself, End, A, B}
use Rattle.station_laws.proofs.Common.{reading, call_of_text, frame_octets, ticking_links, Step, Stations, StationState}
use Rattle.station_laws.proofs.Common.{new_stations, IsJointRun, all_stepped, stepped, Calls, Pairs, Pair, ⊤}
use Rattle.std.specs.Prelude.{◌≡◌, ℕ, zero, suc, ◌+◌, true, List, [], ◌∷◌, ◌++◌, refl}
use Rattle.channel_access.specs.OnAir.{bits_of, flag_end, frames_end}
use Rattle.hdlc_framer.specs.BitOrder.{octet_bits}
use Rattle.channel_access.specs.Modem.{body_by, piece}
use Rattle.hdlc_framer.specs.CheckSequence.{fcs_of}
use Rattle.hdlc_framer.specs.Frames.{frame_bits, with_fcs}
use Rattle.link_machine.specs.Step.{step as link_turn}
use Rattle.selective_reject.specs.Numbers.{ahead}
use Rattle.selective_reject.specs.Places.{missing}
use Rattle.station.specs.Asking.{first_wanting}
use Rattle.live_example.proofs.Frames.{aaaa, bbbb}
use Rattle.live_example.proofs.Acts.{a_calls, a_gives, a_hears_ua, a_joins, a_registers, after_ticks, all_silent, b_gives}
use Rattle.live_example.proofs.Acts.{b_all_silent, b_hears_sabm, b_joins, b_registers, b_ticks, config, next, NameNone}
use Rattle.live_example.proofs.Acts.{silent_by, ticks_of}
use Rattle.live_example.proofs.Loss.{a_hears_disc, a_hears_info, a_names_info, a_names_sabm, a_ticks, again_silent}
use Rattle.live_example.proofs.Loss.{again_tick, b_disconnects, b_hears_again, b_hears_last_ua, b_hears_third}
use Rattle.live_example.proofs.Loss.{first_silent, more_ticks, second_silent, t1_silent, t1_tick}

abbrev pub first_steps : List Step
first_steps =
    a_joins ∷ b_joins ∷ a_registers ∷ b_registers ∷ a_calls ∷ b_hears_sabm ∷ a_hears_ua ∷ b_gives ∷ a_gives ∷ []

abbrev pub last_steps : List Step
last_steps = b_hears_again ∷ b_hears_third ∷ b_disconnects ∷ a_hears_disc ∷ b_hears_last_ua ∷ []

abbrev pub steps_again : List Step
steps_again = a_hears_info ∷ again_tick ++ last_steps

abbrev pub steps_of_loss : List Step
steps_of_loss = a_names_sabm ∷ more_ticks ++ (a_names_info ∷ t1_tick ++ steps_again)

abbrev pub steps : List Step
steps = first_steps ++ (b_ticks ++ (a_ticks ++ steps_of_loss))

-- ---- it is a joint run

run_append : (first rest : List Step) (s : Stations) → IsJointRun s first → IsJointRun (all_stepped first s) rest
    → IsJointRun s (first ++ rest)
run_append [] rest s h k = k
run_append (step ∷ first) rest s h k = (h.0, run_append first rest (stepped step s) h.1 k)

ticks_at_a : (count : ℕ) (a b : StationState) (silent : NameNone count a)
    → IsJointRun (record { a = a; b = b }) (ticks_of A count a silent)
ticks_at_a zero a b silent = tt
ticks_at_a (suc count) a b silent = (refl, ticks_at_a count (next a) b silent.1)

ticks_at_b : (count : ℕ) (a b : StationState) (silent : NameNone count b)
    → IsJointRun (record { a = a; b = b }) (ticks_of B count b silent)
ticks_at_b zero a b silent = tt
ticks_at_b (suc count) a b silent = (refl, ticks_at_b count a (next b) silent.1)

abbrev after_first : Stations
after_first = record { a = a_gives.after.now; b = b_gives.after.now }

abbrev b_after : StationState
b_after = after_ticks 13 b_gives.after.now

last_run : IsJointRun (record { a = after_ticks 1 a_hears_info.after.now; b = b_after }) last_steps
unfolding reading call_of_text link_turn ahead ticking_links first_wanting frames_end flag_end bits_of body_by piece frame_bits
    with_fcs fcs_of octet_bits frame_octets missing
last_run = (refl, (refl, (refl, (refl, (refl, tt)))))

again_run : IsJointRun (record { a = after_ticks 1 a_names_info.after.now; b = b_after }) steps_again
unfolding reading call_of_text link_turn ahead ticking_links first_wanting frames_end flag_end bits_of body_by piece frame_bits
    with_fcs fcs_of octet_bits frame_octets missing
again_run = (
  refl,
  run_append again_tick last_steps (record { a = a_hears_info.after.now; b = b_after })
      (ticks_at_a 1 a_hears_info.after.now b_after (silent_by 1 a_hears_info.after.now again_silent)) last_run,
)

info_run : IsJointRun (record { a = after_ticks 12 a_names_sabm.after.now; b = b_after })
    (a_names_info ∷ t1_tick ++ steps_again)
unfolding reading call_of_text link_turn ahead ticking_links first_wanting frames_end flag_end bits_of body_by piece frame_bits
    with_fcs fcs_of octet_bits frame_octets missing
info_run = (
  refl,
  run_append t1_tick steps_again (record { a = a_names_info.after.now; b = b_after })
      (ticks_at_a 1 a_names_info.after.now b_after (silent_by 1 a_names_info.after.now t1_silent)) again_run,
)

loss_run : IsJointRun (record { a = after_ticks 13 a_gives.after.now; b = b_after }) steps_of_loss
unfolding reading call_of_text link_turn ahead ticking_links first_wanting frames_end flag_end bits_of body_by piece frame_bits
    with_fcs fcs_of octet_bits frame_octets missing
loss_run = (
  refl,
  run_append more_ticks (a_names_info ∷ t1_tick ++ steps_again)
      (record { a = a_names_sabm.after.now; b = b_after })
      (ticks_at_a 12 a_names_sabm.after.now b_after (silent_by 12 a_names_sabm.after.now second_silent)) info_run,
)

pub is_run : IsJointRun (new_stations config 1 config 2) steps
unfolding reading call_of_text link_turn ahead ticking_links first_wanting frames_end flag_end bits_of body_by piece frame_bits
    with_fcs fcs_of octet_bits frame_octets missing
is_run =
    run_append first_steps (b_ticks ++ (a_ticks ++ steps_of_loss)) (new_stations config 1 config 2)
    (refl, (refl, (refl, (refl, (refl, (refl, (refl, (refl, (refl, tt)))))))))
    (run_append b_ticks (a_ticks ++ steps_of_loss) after_first
    (ticks_at_b 13 a_gives.after.now b_gives.after.now (silent_by 13 b_gives.after.now b_all_silent))
    (run_append a_ticks steps_of_loss (record { a = a_gives.after.now; b = b_after })
    (ticks_at_a 13 a_gives.after.now b_after (silent_by 13 a_gives.after.now first_silent)) loss_run))

-- ---- what is heard of the link

abbrev pub calls : Calls
calls = record { a = aaaa; b = bbbb }

-- A hears B's UA, its I frame and its DISC. B hears the SABM, the I frame as it is sent again, and the last UA.
abbrev pub pairs : Pairs
pairs = record {
  at_a = record { heard = 6; sent = 0 } ∷ record { heard = 50; sent = 1 } ∷ record { heard = 55; sent = 3 } ∷ [];
  at_b = record { heard = 5; sent = 0 } ∷ record { heard = 52; sent = 2 } ∷ record { heard = 56; sent = 3 } ∷ [];
}
