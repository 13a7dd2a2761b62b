-- No packet that a link tells of is longer than those that host programs give: by the law, what an end got it was
-- given.
use Rattle.channel_bench.proofs.Common.{◌≡◌, ◌≢◌, ℕ, zero, suc, ◌≤◌, Bool, true, false, List, [], ◌∷◌, ◌++◌, length}
use Rattle.channel_bench.proofs.Common.{map, fold, Some, None, refl, subst, arith, ⊤, slice_get, recursion_from_All}
use Rattle.channel_bench.proofs.Common.{IsWritten, Packet, Told, Opened, Given, Ended, End, A, B, GotNothingElse}
use Rattle.channel_bench.proofs.Common.{RecordedEnd, each_append, most_octets, LinkStep, AreToldInOne, runs_after}
use Rattle.channel_bench.proofs.Common.{AllToldInOne, told_in, Seen, as_seen, change_last_seen, seen_by, seen_by_all}
use Rattle.channel_bench.proofs.Common.{seen_giving, seen_told, with_given, with_got}
use Rattle.std.specs.List.{AllByRecursion as Each}
use Rattle.link_machine.specs.Event.{Event as LinkEvent}
use Rattle.link_machine.specs.Event.Event.{Connect as LinkConnect, Send as LinkSend, Disconnect as LinkDisconnect}
use Rattle.link_machine.specs.Event.Event.{Hear as LinkHear, Seize as LinkSeize, Tick as LinkTick}
use Rattle.link_world.specs.Origin.{GotInOrder as PacketsInOrder}
use Rattle.link_world.specs.SetUps.{SetUp as LinkSetUp}
use Rattle.station_laws.specs.SetUpsSeen.{last_seen_changed}
use Rattle.channel_bench.proofs.OwnLinks.{message_at, messages_by, messages_of}
use Rattle.link_world.proofs.law.Each.{each_last}

abbrev pub IsShort : Packet → Type 0
IsShort packet = length packet.octets ≤ most_octets

abbrev pub GivesShort : LinkEvent → Type 0
GivesShort LinkConnect = ⊤
GivesShort (LinkSend packet) = IsShort packet
GivesShort LinkDisconnect = ⊤
GivesShort (LinkHear frame) = ⊤
GivesShort (LinkTick waiting) = ⊤
GivesShort (LinkSeize last full) = ⊤

abbrev pub GivenShort : Seen → Type 0
GivenShort q = Each IsShort q.given

abbrev pub GotShort : Seen → Type 0
GotShort q = Each IsShort q.got

each_left : {T : Type 0} (P : T → Type 0) (xs ys : List T) → Each P (xs ++ ys) → Each P xs
each_left P [] ys h = tt
each_left P (x ∷ xs) ys h = (h.0, each_left P xs ys h.1)

-- ---- what is given

last_changed :
    (P : Seen → Type 0) (f : Seen → Seen) → ((q : Seen) → P q → P (f q)) → (q : Seen) (rest : List Seen)
    → P q → Each P rest → Each P (last_seen_changed f q rest)
last_changed P f keeps q [] h all = (keeps q h, tt)
last_changed P f keeps q (next ∷ rest) h all = (h, last_changed P f keeps next rest all.0 all.1)

each_changed :
    (P : Seen → Type 0) (f : Seen → Seen) → ((q : Seen) → P q → P (f q)) → (seen : List Seen) → Each P seen
    → Each P (change_last_seen f seen)
each_changed P f keeps [] h = tt
each_changed P f keeps (q ∷ rest) h = last_changed P f keeps q rest h.0 h.1

told_given : (told : List Told) (seen : List Seen) → Each GivenShort seen → Each GivenShort (fold seen_told seen told)
told_given [] seen h = h
told_given (Opened ours ∷ told) seen h =
    told_given told (seen_told seen (Opened ours)) (each_append GivenShort seen _ h (tt, tt))
told_given (Given packet ∷ told) seen h =
    told_given told (seen_told seen (Given packet)) (each_changed GivenShort (with_got packet) (λ q g. g) seen h)
told_given (Ended why ∷ told) seen h = told_given told seen h

event_given : (event : LinkEvent) (seen : List Seen) → GivesShort event → Each GivenShort seen
    → Each GivenShort (seen_giving event seen)
event_given LinkConnect seen short h = h
event_given (LinkSend packet) seen short h =
    each_changed GivenShort (with_given packet) (λ q g. each_append IsShort q.given (packet ∷ []) g (short, tt)) seen h
event_given LinkDisconnect seen short h = h
event_given (LinkHear frame) seen short h = h
event_given (LinkTick waiting) seen short h = h
event_given (LinkSeize last full) seen short h = h

abbrev pub ShortStep : LinkStep → Type 0
ShortStep step = GivesShort step.event

pub steps_given : (steps : List LinkStep) (seen : List Seen) → Each ShortStep steps → Each GivenShort seen
    → Each GivenShort (seen_by_all steps seen)
steps_given [] seen short h = h
steps_given (step ∷ steps) seen short h =
    steps_given steps (seen_by step seen) short.1
    (told_given (told_in step) (seen_giving step.event seen) (event_given step.event seen short.0 h))

-- ---- what is got

pub each_slice : {T : Type 0} (P : T → Type 0) (xs : List T) (n : ℕ) (x : T) → Each P xs → slice_get xs n ≡ Some x → P x
each_slice P [] n x h is = absurd (let clash : None ≡ Some x = is in cc)
each_slice P (y ∷ xs) zero x h is = let same : y ≡ x = cc in subst P same h.0
each_slice P (y ∷ xs) (suc n) x h is = each_slice P xs n x h.1 is

given_of : (set_ups : List LinkSetUp) → Each GivenShort (map as_seen set_ups)
    → Each (λ (q : LinkSetUp). Each IsShort q.given) set_ups
given_of [] h = tt
given_of (q ∷ set_ups) h = (h.0, given_of set_ups h.1)

one_got :
    (theirs : List LinkSetUp) (q : LinkSetUp) → Each (λ (g : LinkSetUp). Each IsShort g.given) theirs
    → GotNothingElse theirs q → Each IsShort q.got
one_got theirs q short only = go q.got refl
  where
    go : (got : List Packet) → q.got ≡ got → Each IsShort got
    go [] is = tt
    go (packet ∷ packets) is =
        let some : q.got ≢ [] = λ none. absurd (cc) in
        let h = only some in
        let given = each_slice (λ (g : LinkSetUp). Each IsShort g.given) theirs h.number h.giver short h.is_there in
        subst (Each IsShort) is (each_left IsShort q.got h.prefix.0 (subst (Each IsShort) h.prefix.1 given))

all_got :
    (theirs ours : List LinkSetUp) → Each (λ (g : LinkSetUp). Each IsShort g.given) theirs
    → Each (GotNothingElse theirs) ours → Each GotShort (map as_seen ours)
all_got theirs [] short only = tt
all_got theirs (q ∷ ours) short only = (one_got theirs q short only.0, all_got theirs ours short only.1)

pub got_short :
    (near far : RecordedEnd) → PacketsInOrder near far → Each GivenShort (map as_seen far.set_ups)
    → Each GotShort (map as_seen near.set_ups)
got_short near far order short =
    all_got far.set_ups near.set_ups (given_of far.set_ups short)
    (recursion_from_All (GotNothingElse far.set_ups) near.set_ups order.prefixes)

-- ---- so what was told is short

abbrev pub IsSome : List Seen → Type 0
IsSome [] = ⊥
IsSome (q ∷ seen) = ⊤

last_back :
    (f : Seen → Seen) → ((q : Seen) → GotShort (f q) → GotShort q) → (q : Seen) (rest : List Seen)
    → Each GotShort (last_seen_changed f q rest) → Each GotShort (q ∷ rest)
last_back f back q [] h = (back q h.0, tt)
last_back f back q (next ∷ rest) h = (h.0, last_back f back next rest h.1)

changed_back :
    (f : Seen → Seen) → ((q : Seen) → GotShort (f q) → GotShort q) → (seen : List Seen)
    → Each GotShort (change_last_seen f seen) → Each GotShort seen
changed_back f back [] h = tt
changed_back f back (q ∷ rest) h = last_back f back q rest h

told_back : (told : List Told) (seen : List Seen) → Each GotShort (fold seen_told seen told) → Each GotShort seen
told_back [] seen h = h
told_back (Opened ours ∷ told) seen h =
    each_left GotShort seen _ (told_back told (seen_told seen (Opened ours)) h)
told_back (Given packet ∷ told) seen h =
    changed_back (with_got packet) (λ q g. each_left IsShort q.got (packet ∷ []) g) seen
    (told_back told (seen_told seen (Given packet)) h)
told_back (Ended why ∷ told) seen h = told_back told seen h

event_back : (event : LinkEvent) (seen : List Seen) → Each GotShort (seen_giving event seen) → Each GotShort seen
event_back LinkConnect seen h = h
event_back (LinkSend packet) seen h = changed_back (with_given packet) (λ q g. g) seen h
event_back LinkDisconnect seen h = h
event_back (LinkHear frame) seen h = h
event_back (LinkTick waiting) seen h = h
event_back (LinkSeize last full) seen h = h

steps_back : (steps : List LinkStep) (seen : List Seen) → Each GotShort (seen_by_all steps seen) → Each GotShort seen
steps_back [] seen h = h
steps_back (step ∷ steps) seen h =
    event_back step.event seen
    (told_back (told_in step) (seen_giving step.event seen) (steps_back steps (seen_by step seen) h))

last_got : (packet : Packet) (q : Seen) (rest : List Seen)
    → Each GotShort (last_seen_changed (with_got packet) q rest) → IsShort packet
last_got packet q [] h = each_last IsShort q.got packet h.0
last_got packet q (next ∷ rest) h = last_got packet next rest h.1

one_got_short : (packet : Packet) (seen : List Seen) → IsSome seen
    → Each GotShort (change_last_seen (with_got packet) seen) → IsShort packet
one_got_short packet [] some h = absurd some
one_got_short packet (q ∷ rest) some h = last_got packet q rest h

last_some : (f : Seen → Seen) (q : Seen) (rest : List Seen) → IsSome (last_seen_changed f q rest)
last_some f q [] = tt
last_some f q (next ∷ rest) = tt

changed_some : (f : Seen → Seen) (seen : List Seen) → IsSome seen → IsSome (change_last_seen f seen)
changed_some f [] some = some
changed_some f (q ∷ rest) some = last_some f q rest

more_some : (seen : List Seen) (q : Seen) → IsSome (seen ++ q ∷ [])
more_some [] q = tt
more_some (first ∷ seen) q = tt

abbrev pub TellsShort : Told → Type 0
TellsShort (Opened ours) = ⊤
TellsShort (Given packet) = IsShort packet
TellsShort (Ended why) = ⊤

told_short :
    (told : List Told) (seen : List Seen) (runs : Bool) → AreToldInOne runs told → (runs ≡ true → IsSome seen)
    → Each GotShort (fold seen_told seen told) → Each TellsShort told
told_short [] seen runs in_one some h = tt
told_short (Opened ours ∷ told) seen runs in_one some h =
    (tt, told_short told (seen_told seen (Opened ours)) true in_one (λ run. more_some seen _) h)
told_short (Given packet ∷ told) seen runs in_one some h = (
  one_got_short packet seen (some in_one.0) (told_back told (seen_told seen (Given packet)) h),
  told_short told (seen_told seen (Given packet)) runs in_one.1
      (λ run. changed_some (with_got packet) seen (some run)) h,
)
told_short (Ended why ∷ told) seen runs in_one some h = (tt, told_short told seen false in_one (λ run. absurd (cc)) h)

told_some : (told : List Told) (seen : List Seen) (runs : Bool) → (runs ≡ true → IsSome seen)
    → runs_after runs told ≡ true → IsSome (fold seen_told seen told)
told_some [] seen runs some run = some run
told_some (Opened ours ∷ told) seen runs some run =
    told_some told (seen_told seen (Opened ours)) true (λ r. more_some seen _) run
told_some (Given packet ∷ told) seen runs some run =
    told_some told (seen_told seen (Given packet)) runs (λ r. changed_some (with_got packet) seen (some r)) run
told_some (Ended why ∷ told) seen runs some run = told_some told seen false (λ r. absurd (cc)) run

giving_some : (event : LinkEvent) (seen : List Seen) → IsSome seen → IsSome (seen_giving event seen)
giving_some LinkConnect seen some = some
giving_some (LinkSend packet) seen some = changed_some (with_given packet) seen some
giving_some LinkDisconnect seen some = some
giving_some (LinkHear frame) seen some = some
giving_some (LinkTick waiting) seen some = some
giving_some (LinkSeize last full) seen some = some

pub steps_short :
    (steps : List LinkStep) (seen : List Seen) (runs : Bool) → AllToldInOne runs steps → (runs ≡ true → IsSome seen)
    → Each GotShort (seen_by_all steps seen) → Each (λ (step : LinkStep). Each TellsShort (told_in step)) steps
steps_short [] seen runs in_one some h = tt
steps_short (step ∷ steps) seen runs in_one some h =
    let told = told_in step in
    let before = seen_giving step.event seen in
    let some_before : runs ≡ true → IsSome before = λ run. giving_some step.event seen (some run) in (
      told_short told before runs in_one.0 some_before (steps_back steps (seen_by step seen) h),
      steps_short steps (seen_by step seen) (runs_after runs told) in_one.1
          (λ run. told_some told before runs some_before run) h,
    )

-- ---- and its message can be written

told_written : (e : End) (item : Told) → TellsShort item → IsWritten (message_at e item)
told_written A (Opened true) short = record { from = refl; to = refl; body = omega arith }
told_written A (Opened false) short = record { from = refl; to = refl; body = omega arith }
told_written B (Opened true) short = record { from = refl; to = refl; body = omega arith }
told_written B (Opened false) short = record { from = refl; to = refl; body = omega arith }
told_written A (Given packet) short = record { from = refl; to = refl; body = omega arith }
told_written B (Given packet) short = record { from = refl; to = refl; body = omega arith }
told_written A (Ended why) short = record { from = refl; to = refl; body = omega arith }
told_written B (Ended why) short = record { from = refl; to = refl; body = omega arith }

all_written : (e : End) (told : List Told) → Each TellsShort told → Each IsWritten (map (message_at e) told)
all_written e [] short = tt
all_written e (item ∷ told) short = (told_written e item short.0, all_written e told short.1)

pub steps_written :
    (e : End) (steps : List LinkStep) → Each (λ (step : LinkStep). Each TellsShort (told_in step)) steps
    → Each IsWritten (messages_of e steps)
steps_written e [] short = tt
steps_written e (step ∷ steps) short =
    each_append IsWritten (messages_by e step) (messages_of e steps) (all_written e (told_in step) short.0)
    (steps_written e steps short.1)
