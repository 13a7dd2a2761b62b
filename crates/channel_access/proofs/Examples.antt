-- Worked examples, computed on the definitions.
use Rattle.channel_access.proofs.Common.{◌≡◌, ℕ, true, false, Some, None, List, [], ◌∷◌, ◌++◌, ◌+◌, length, replicate}
use Rattle.channel_access.proofs.Common.{refl}
use Rattle.channel_access.proofs.Common.{octet_bits, fcs_of, with_fcs, frame_bits, body_by, piece, OnAir, bits_of, flag_end}
use Rattle.channel_access.proofs.Common.{followed_by, frame_named, frames_end, GoesToItsEnd, Ticks, Channel}
use Rattle.channel_access.proofs.Common.{new_channel, with_frame, with_setting, decision, begun, air_tick, after_tick}
use Rattle.channel_access.specs.Channel.{takes_frame, takes_last}
use Rattle.channel_access.specs.declared.parameters.Param.TheVariants.{FullDuplex, Persist, TxDelay, TxTail}
use Rattle.channel_access.specs.Words.{generator_of, draw_stream, draw, after_word}
use Rattle.channel_access.specs.Channel.{Decision}
use Rattle.channel_access.specs.Happenings.{Happening}
use Rattle.channel_access.specs.Happenings.Happening.{Heard, Ticked}
use Rattle.channel_access.specs.Turns.{is_spoken_to, is_its_turn}

-- SABM with P from N7LEM to NJ7P
abbrev shortest : List ℕ
shortest = 0x9C ∷ 0x94 ∷ 0x6E ∷ 0xA0 ∷ 0x40 ∷ 0x40 ∷ 0xE0 ∷ 0x9C ∷ 0x6E ∷ 0x98 ∷ 0x8A ∷ 0x9A ∷ 0x40 ∷ 0x61 ∷ 0x3F ∷ []

-- it waits in full duplex
abbrev waiting : Channel
waiting = with_setting (FullDuplex true) (with_frame None shortest (new_channel 1))

begins_at_once : (decision true false waiting).begins ≡ true
begins_at_once = refl

-- 45 flags, which the frame follows if it waits where they end, and 3 flags
abbrev opened : OnAir
opened = followed_by waiting.waiting (begun waiting)

abbrev whole : OnAir
whole = followed_by [] opened

flags_round_it : whole.closing + whole.opening ≡ 48
flags_round_it = refl

whole_length : length (bits_of whole) ≡ 522
unfolding fcs_of octet_bits with_fcs frame_bits piece body_by bits_of
whole_length = refl

-- the flag after the frame ends with bit 506, the second of tick 43
flag_place : flag_end 1 whole ≡ 506
unfolding fcs_of octet_bits with_fcs frame_bits piece body_by flag_end
flag_place = refl

named_in_tick_43 : frame_named 516 (record whole { ticks = 42 }) ≡ Some (record { octets = shortest; after = 16 })
unfolding fcs_of octet_bits with_fcs frame_bits piece body_by flag_end
named_in_tick_43 = refl

not_before : frame_named 504 (record whole { ticks = 41 }) ≡ None
unfolding fcs_of octet_bits with_fcs frame_bits piece body_by flag_end
not_before = refl

-- the draws of seed 2 begin with 102 and 40
draws : draw (generator_of 2 draw_stream) ≡ 102
draws = refl

next_draws : draw (after_word (generator_of 2 draw_stream)) ≡ 40
next_draws = refl

-- at most P begins, and above it a slot has to pass
abbrev one_waits : Channel
one_waits = with_frame None shortest (new_channel 2)

a_slot_passes : (decision false false one_waits).slot ≡ 10
a_slot_passes = refl

at_p_begins : (decision false false (with_setting (Persist 102) one_waits)).begins ≡ true
at_p_begins = refl

-- With no TXDELAY and no TXtail there are two flags before the frame and one after it: 162 bits, which are sent in
-- fourteen ticks. So there are transmissions that end.
short_one : Channel
short_one = with_setting (TxTail 0) (with_setting (TxDelay 0) waiting)

short_begins : (air_tick true false short_one).began ≡ true
unfolding short_one
short_begins = refl

short_ends : GoesToItsEnd (replicate 13 (Ticks true false)) (after_tick true false short_one)
unfolding short_one fcs_of octet_bits with_fcs frame_bits piece body_by bits_of frames_end flag_end
short_ends = (
  refl,
  (
    refl,
    (
      refl,
      (
        refl,
        (refl, (refl, (refl, (refl, (refl, (refl, (refl, (refl, (refl, refl))))))))),
      ),
    ),
  ),
)

-- ---- a link wants to send

-- With no frame that waits a transmission begins because a link wants to send, with two opening flags.
abbrev wanted : Channel
wanted = with_setting (TxTail 0) (with_setting (TxDelay 0) (with_setting (FullDuplex true) (new_channel 1)))

wanting_begins : (air_tick true true wanted).began ≡ true
wanting_begins = refl

else_silent : (air_tick true false wanted).began ≡ false
else_silent = refl

-- The flags end with the second tick, before which the channel takes a frame, and it is not the last.
abbrev in_flags : Channel
in_flags = after_tick true true wanted

no_frame_at_first : takes_frame wanted ≡ false
no_frame_at_first = refl

a_frame_then : takes_frame in_flags ≡ true
unfolding frames_end piece body_by bits_of
a_frame_then = refl

not_the_last : takes_last in_flags ≡ false
unfolding frames_end piece body_by bits_of
not_the_last = refl

-- no other one is taken while a frame of a link waits to follow, but beside a frame of a host it is
one_is_enough : takes_frame (with_frame (Some 3) shortest in_flags) ≡ false
unfolding frames_end piece body_by bits_of
one_is_enough = refl

beside_a_host : takes_frame (with_frame None shortest in_flags) ≡ true
unfolding frames_end piece body_by bits_of
beside_a_host = refl

-- If none comes, one closing flag follows, and all is sent with that tick.
none_comes : (after_tick true true in_flags).air ≡ None
unfolding frames_end piece body_by bits_of flag_end
none_comes = refl

-- ---- whose turn it is

abbrev quiet : ℕ → List Happening
quiet count = replicate count (Ticked false false false)

abbrev busy : ℕ → List Happening
busy count = replicate count (Ticked true false false)

-- quiet ticks, so many of them, and a transmission, whose frame is heard while the channel is still busy
abbrev asked : ℕ → List Happening
asked count = Heard true ∷ (busy 60 ++ quiet count)

after_a_slot : is_its_turn 10 (asked 10) ≡ true
after_a_slot = refl

after_less : is_its_turn 10 (asked 9) ≡ false
after_less = refl

spoken_to_all_the_same : is_spoken_to (asked 9) ≡ true
spoken_to_all_the_same = refl

-- the end of the carrier, and then a host that takes its time
no_haste : is_its_turn 10 (quiet 40 ++ (busy 2 ++ asked 10)) ≡ true
no_haste = refl

busy_anew : is_spoken_to (busy 1 ++ (quiet 1 ++ (busy 2 ++ asked 10))) ≡ false
busy_anew = refl

for_another : is_spoken_to (Heard false ∷ asked 10) ≡ false
for_another = refl

taken_once : is_spoken_to (Ticked false true true ∷ (busy 2 ++ asked 10)) ≡ false
taken_once = refl

-- the ticks after its own transmission are too few for a turn, if the other station answers soon
turns_alternate : is_its_turn 10 (Heard true ∷ (busy 60 ++ (quiet 3 ++ (Ticked false false true ∷ quiet 20)))) ≡ false
turns_alternate = refl

-- With these after it a channel in which one frame waits decides so. The draw of seed 2 is 102, and P is 63.
abbrev decides : List Happening → Decision
decides past = decision false false (record one_waits { past = past })

a_turn_has_no_draw : decides (busy 1 ++ asked 10)
    ≡ record { begins = true; slot = 0; generator = one_waits.generator }
a_turn_has_no_draw = refl

spoken_to_has_no_slot : decides (busy 1 ++ asked 9)
    ≡ record { begins = false; slot = 10; generator = after_word one_waits.generator }
spoken_to_has_no_slot = refl

others_have_a_slot : decides (busy 1 ++ (Heard false ∷ asked 10))
    ≡ record { begins = false; slot = 9; generator = one_waits.generator }
others_have_a_slot = refl

a_slot_after_its_own : (decides (Ticked false false true ∷ [])).slot ≡ 9
a_slot_after_its_own = refl

-- without a frame the slot runs too
a_slot_runs : (decision false false (record (new_channel 2) { slot = 3; past = quiet 1 })).slot ≡ 2
a_slot_runs = refl
