-- Worked examples of two links, by computation.
use Rattle.link_world.proofs.Common.{Packet, Mode, ahead, missing, Opened, Ended, Reset, Params, Sent, InfoSent}
use Rattle.link_world.proofs.Common.{SuperSent, SetupSent, Sabm, Dm, Info, Super, Eight, OneTwentyEight, End, A, B}
use Rattle.link_world.proofs.Common.{Event, Connect, Send, Tick, Seize, Hear, Lose, kind_read, Tagged, World, run}
use Rattle.link_world.proofs.Common.{towards, is_quiet}
use Rattle.std.specs.Prelude.{◌≡◌, ℕ, true, false, List, [], ◌∷◌, ◌++◌, map, replicate, length, refl, Some, None}
use Rattle.selective_reject.specs.declared.window.Mode.TheVariants.{Rej, Srej}
use Rattle.link_machine.specs.Params.{default_params}
use Rattle.link_machine.specs.Step.{step as link_step}
use Rattle.ax25_frames.specs.declared.frame.S.TheVariants.{Rr as RrFrame, Rej as RejFrame, Srej as SrejFrame}
use Rattle.link_world.specs.World.{first_world, told_by}
use Rattle.link_world.specs.Quiet.{is_quiet_to_send}

abbrev params : Mode → ℕ → Params
params mode window = record default_params { mode = mode; window = window; wide_mode = mode }

abbrev wide_params : Params
wide_params = record default_params { wide = true; wide_mode = Rej; wide_window = 127 }

abbrev from_first : Mode → ℕ → List Event → World
from_first mode window events = run (first_world (params mode window) (params mode window)) events

abbrev packet : ℕ → Packet
packet n = record { pid = 240; octets = n ∷ [] }

abbrev sends : List ℕ → List Event
sends numbers = map (λ n. Send A (packet n)) numbers

abbrev sent_to : End → World → List Sent
sent_to end w = map (λ (t : Tagged). t.sent) (towards end w)

-- A calls B
abbrev both_up : List Event
both_up = Connect A ∷ Hear B ∷ Hear A ∷ []

-- the channel takes so many frames of an end
abbrev takes : End → ℕ → List Event
takes end count = replicate count (Seize end false false)

-- By REJ with a window of seven, ten packets: frame 3 is lost and asked for, and all from 3 on are sent again.
abbrev lost_by_rej : List Event
lost_by_rej =
    both_up ++ sends (0 ∷ 1 ∷ 2 ∷ 3 ∷ 4 ∷ 5 ∷ 6 ∷ 7 ∷ 8 ∷ 9 ∷ []) ++ takes A 7 ++ Lose B 3 ∷ replicate 6 (Hear B)
    ++ takes B 1

-- the last one of the window polls, and REJ, which answers it, asks from 3 on
pub asks_by_rej : sent_to A (from_first Rej 7 lost_by_rej) ≡ SuperSent RejFrame false 3 true ∷ []
unfolding link_step ahead missing
asks_by_rej = refl

-- all from 3 on go out again
pub sends_again_by_rej :
    sent_to B (from_first Rej 7 (lost_by_rej ++ Hear A ∷ takes A 7))
    ≡ map (λ n. InfoSent n 0 false (packet n)) (3 ∷ 4 ∷ 5 ∷ 6 ∷ 7 ∷ 8 ∷ 9 ∷ [])
unfolding link_step ahead missing
sends_again_by_rej = refl

-- B got all ten, each once, in the set-up whose origin is that of A
pub got_by_rej :
    (from_first Rej 7 (lost_by_rej ++ Hear A ∷ takes A 7 ++ replicate 7 (Hear B))).b.end.set_ups
    ≡ record {
      given = [];
      got = map packet (0 ∷ 1 ∷ 2 ∷ 3 ∷ 4 ∷ 5 ∷ 6 ∷ 7 ∷ 8 ∷ 9 ∷ []);
      modulus = 8;
      mate = 0;
      acted_on = replicate 13 0;
      accepted = Some 0;
    } ∷ []
unfolding link_step ahead missing
got_by_rej = refl

-- By SREJ with a window of four, four packets: frame 0 is lost and asked for once, and alone sent again.
abbrev lost_by_srej : List Event
lost_by_srej = both_up ++ sends (0 ∷ 1 ∷ 2 ∷ 3 ∷ []) ++ takes A 4 ++ Lose B 0 ∷ replicate 3 (Hear B) ++ takes B 1

-- SREJ asks for 0
pub asks_by_srej : sent_to A (from_first Srej 4 lost_by_srej) ≡ SuperSent SrejFrame false 0 false ∷ []
unfolding link_step ahead missing
asks_by_srej = refl

-- 0 alone goes out again
abbrev again_by_srej : List Event
again_by_srej = lost_by_srej ++ Hear A ∷ takes A 4

pub sends_again_by_srej : sent_to B (from_first Srej 4 again_by_srej) ≡ InfoSent 0 0 false (packet 0) ∷ []
unfolding link_step ahead missing
sends_again_by_srej = refl

-- then all are acknowledged, by one frame
pub acknowledges_by_srej :
    sent_to A (from_first Srej 4 (again_by_srej ++ Hear B ∷ takes B 2)) ≡ SuperSent RrFrame false 4 false ∷ []
unfolding link_step ahead missing
acknowledges_by_srej = refl

-- nothing goes out on its own: a link gives a frame when the channel takes one
pub gives_when_taken : sent_to B (from_first Rej 4 (both_up ++ sends (0 ∷ 1 ∷ []))) ≡ []
unfolding link_step
gives_when_taken = refl

-- Both call, and the UA to A is lost: A calls again, and B begins anew.
abbrev answer_lost : List Event
answer_lost = Connect A ∷ Connect B ∷ Hear B ∷ Hear A ∷ Hear B ∷ Lose A 0 ∷ replicate 200 (Tick A false)

-- A calls again
pub calls_again : sent_to B (from_first Rej 4 answer_lost) ≡ SetupSent Sabm true ∷ []
unfolding link_step
calls_again = refl

-- B is told that its set-up ended, and that another begins
pub begins_anew : told_by (from_first Rej 4 answer_lost) (Hear B) ≡ Ended Reset ∷ Opened false ∷ []
unfolding link_step
begins_anew = refl

-- A has one set-up then
pub set_ups_of_a : length (from_first Rej 4 (answer_lost ++ Hear B ∷ Hear A ∷ [])).a.end.set_ups ≡ 1
unfolding link_step
set_ups_of_a = refl

-- and B two
pub set_ups_of_b : length (from_first Rej 4 (answer_lost ++ Hear B ∷ Hear A ∷ [])).b.end.set_ups ≡ 2
unfolding link_step
set_ups_of_b = refl

-- A call whose SABM is still in flight is not repeated into a quiet channel.
pub is_not_quiet : is_quiet_to_send (from_first Rej 4 (Connect A ∷ replicate 199 (Tick A false))) (Tick A false) ≡ false
unfolding link_step
is_not_quiet = refl

-- a tick earlier none was sent
pub is_still_quiet : is_quiet (from_first Rej 4 (Connect A ∷ replicate 198 (Tick A false))) (Tick A false) ≡ true
unfolding link_step
is_still_quiet = refl

-- A calls modulo 128 and B modulo 8, at once: B declines SABME, A passes over SABM, and goes on in 8.
abbrev crossing : List Event
crossing = Connect A ∷ Connect B ∷ Hear B ∷ Hear A ∷ []

abbrev crossed : List Event → World
crossed events = run (first_world wide_params (params Rej 4)) events

-- B declines
pub declines_wide : sent_to A (crossed crossing) ≡ SetupSent Dm true ∷ []
unfolding link_step
declines_wide = refl

-- A is told nothing, and calls modulo 8
abbrev called_again : List Event
called_again = crossing ++ Hear A ∷ []

pub tells_nothing : told_by (crossed crossing) (Hear A) ≡ []
unfolding link_step
tells_nothing = refl

pub calls_narrow : sent_to B (crossed called_again) ≡ SetupSent Sabm true ∷ []
unfolding link_step
calls_narrow = refl

-- into a quiet channel: the DM that declined is heard, and no longer under way
pub is_quiet_to_call : is_quiet (crossed crossing) (Hear A) ≡ true
unfolding link_step
is_quiet_to_call = refl

-- B, which calls too, agrees, and A is up
pub opens_narrow : told_by (crossed (called_again ++ Hear B ∷ [])) (Hear A) ≡ Opened true ∷ []
unfolding link_step
opens_narrow = refl

-- B calls again, and both are up modulo 8
abbrev both_opened : List Event
both_opened = called_again ++ Hear B ∷ Hear A ∷ replicate 200 (Tick B false)

pub opens_anew : told_by (crossed both_opened) (Hear A) ≡ Ended Reset ∷ Opened false ∷ []
unfolding link_step
opens_anew = refl

pub opens_own : told_by (crossed (both_opened ++ Hear A ∷ [])) (Hear B) ≡ Opened true ∷ []
unfolding link_step
opens_own = refl

pub modulus_of_a : (crossed (both_opened ++ Hear A ∷ Hear B ∷ [])).a.end.machine.incoming.modulus ≡ 8
unfolding link_step
modulus_of_a = refl

pub modulus_of_b : (crossed (both_opened ++ Hear A ∷ Hear B ∷ [])).b.end.machine.incoming.modulus ≡ 8
unfolding link_step
modulus_of_b = refl

-- An I frame of modulus 8 with N(S) 3, N(R) 2 and three octets after it, read modulo 128, and the other way round.
pub info_read_as_wide :
    kind_read Eight OneTwentyEight (Info 3 2 false 240 (5 ∷ 6 ∷ [])) ≡ Some (Info 35 120 false 5 (6 ∷ []))
info_read_as_wide = refl

pub info_read_as_narrow :
    kind_read OneTwentyEight Eight (Info 35 120 false 5 (6 ∷ [])) ≡ Some (Info 3 2 false 240 (5 ∷ 6 ∷ []))
info_read_as_narrow = refl

-- an RR of either is refused in the other
pub rr_refused : kind_read Eight OneTwentyEight (Super RrFrame 2 false) ≡ None
rr_refused = refl

pub wide_rr_refused : kind_read OneTwentyEight Eight (Super RrFrame 2 false) ≡ None
wide_rr_refused = refl
