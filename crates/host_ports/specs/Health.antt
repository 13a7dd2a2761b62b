-- The health of a live station: what it counts of its sound, of its channel and of its frames since the last line of
-- counts, and what its report tells after a tick.
use Rattle.std.specs.Prelude.{ℕ, zero, suc, ℤ, pos, neg_ℤ, ◌+◌, ◌-◌, ◌*◌, ◌%◌, ◌^◌, ◌==◌, ◌&&◌, ◌||◌, Bool, false}
use Rattle.std.specs.Prelude.{nat_lt, nat_le, if◌then◌else◌, List, fold, length, min, max, unsigned_abs, Option, Some}
use Rattle.std.specs.Prelude.{None}
use Rattle.std.specs.Ordering.{int_eq}
use Rattle.sample_ring.specs.declared.got.Got.{Got}
use Rattle.sample_ring.specs.declared.got.Got.TheVariants.{Item, Gap, Empty, End}
use Rattle.station.specs.Links.{count_of_links}
use Rattle.host_ports.specs.declared.health.Health.{Health}
use Rattle.host_ports.specs.declared.health.Standing.{Standing}
use Rattle.host_ports.specs.declared.health_note.Counts.{Counts}
use Rattle.host_ports.specs.declared.health_note.HealthNotes.{HealthNotes}
use Rattle.host_ports.specs.Hosts.{Hosts}

abbrev pub new_health : Health
new_health = record {
  peak = 0;
  clipped = 0;
  last = pos 0;
  alike = 0;
  busy = 0;
  heard = 0;
  sent = 0;
  dropped = 0;
  told = 0;
}

-- ---- what is counted

-- a count with so many more, which stays at the greatest number of 64 bits
abbrev pub with_more : ℕ → ℕ → ℕ
with_more more count = min (count + more) (2 ^ 64 - 1)

abbrev pub more_if : Bool → ℕ → ℕ
more_if more count = if more then with_more 1 count else count

-- the least or the greatest sample that there is
abbrev pub is_clipped : ℤ → Bool
is_clipped sample = int_eq sample (neg_ℤ (pos 32768)) || int_eq sample (pos 32767)

-- how many samples in a row are alike with one more, if so many were by the last one
abbrev pub alike_with : ℤ → ℤ → ℕ → ℕ
alike_with last sample count = if int_eq sample last then with_more 1 count else 1

-- a sample is read
abbrev pub after_sample : ℤ → Health → Health
after_sample sample health = record health {
  peak = max health.peak (unsigned_abs sample);
  clipped = more_if (is_clipped sample) health.clipped;
  last = sample;
  alike = alike_with health.last sample health.alike;
}

-- samples are lost, which ends those that are alike
abbrev pub after_gap : Health → Health
after_gap health = record health { alike = 0 }

-- what the reader of the sound was answered
abbrev pub after_answer : Health → Got → Health
after_answer health (Item at sample) = after_sample sample health
after_answer health (Gap from to) = after_gap health
after_answer health (Empty at) = health
after_answer health (End total) = health

abbrev pub after_answers : List Got → Health → Health
after_answers reads health = fold after_answer health reads

-- so many frames are heard
abbrev pub with_heard : ℕ → Health → Health
with_heard frames health = record health { heard = with_more frames health.heard }

-- a tick is made, in which another station is heard or not, and the sending of a frame ends or not
abbrev pub after_tick : Bool → Bool → Health → Health
after_tick busy sent health = record health { busy = more_if busy health.busy; sent = more_if sent health.sent }

-- ---- what is told

-- what is told of the station as it is
abbrev pub standing_of : Hosts → Standing
standing_of hosts = record {
  dropped = hosts.station.dropped;
  hosts = length hosts.clients;
  links = count_of_links hosts.station.links;
}

-- how many frames were dropped in all, if the report has told another count
abbrev pub news : ℕ → ℕ → Option ℕ
news told dropped = if dropped == told then None else Some dropped

-- With a tick so many samples in a row have come to be all alike, the last ones that were read: those of a thousand
-- ticks.
abbrev pub goes_dead : ℕ → ℕ → Bool
goes_dead before after = nat_lt before 96000 && nat_le 96000 after

-- a line of counts is due after each so many seconds, of 100 ticks
abbrev pub is_due : Option ℕ → ℕ → Bool
is_due None ticks = false
is_due (Some zero) ticks = false
is_due (Some (suc more)) ticks = ticks % (100 * suc more) == 0

abbrev pub counts_of : ℕ → Standing → Health → Counts
counts_of ticks now health = record {
  ticks = ticks;
  peak = health.peak;
  clipped = health.clipped;
  busy = health.busy;
  heard = health.heard;
  sent = health.sent;
  dropped = now.dropped - health.dropped;
  hosts = now.hosts;
  links = now.links;
}

-- What is told after so many ticks: dropped frames in the first tick after them; that the sound is dead, if fewer samples
-- were alike before the last tick; and counts if they are due.
abbrev pub notes_of : Option ℕ → ℕ → ℕ → Standing → Health → HealthNotes
notes_of seconds ticks alike now health = record {
  dropped = news health.told now.dropped;
  dead = goes_dead alike health.alike;
  stats = if is_due seconds ticks then Some (counts_of ticks now health) else None;
}

-- after a line of counts all is counted anew but what samples are alike
abbrev pub counted_anew : ℕ → Health → Health
counted_anew dropped health =
    record new_health { last = health.last; alike = health.alike; dropped = dropped; told = health.told }

-- after what is told
abbrev pub after_notes : Option ℕ → ℕ → Standing → Health → Health
after_notes seconds ticks now health =
    if is_due seconds ticks
    then counted_anew now.dropped (record health { told = now.dropped }) else record health { told = now.dropped }
