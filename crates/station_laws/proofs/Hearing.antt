-- A frame that is heard keeps what holds of a link between two calls: as an event of that link it is the frame in front
-- of those in flight, and as an event of another it is not among them.
use Rattle.station_laws.proofs.Common.{◌≡◌, ℕ, ◌<◌, Bool, true, false, List, [], ◌∷◌, ◌++◌, length, drop, arith, cond}
use Rattle.station_laws.proofs.Common.{Option, Some, None, is_some, refl, sym, ap, ◌∙◌, subst, inl, inr, ◌⊎◌, All, is_none}
use Rattle.station_laws.proofs.Common.{get_or-set_same, Callsign, BeginsWithPath, way_back, Path, Command}
use Rattle.station_laws.proofs.Common.{BeginsWithPath-same, Frame, Eight, IsFrame, Machine, new_machine, modulus_named}
use Rattle.station_laws.proofs.Common.{step, End, near_made, near_kept, Tagged, asks, World, near_turn, read_in}
use Rattle.station_laws.proofs.Common.{repeated, IsHeard, shown_to_hosts, event_at, with_links, Link, Links, most_links}
use Rattle.station_laws.proofs.Common.{is_between, key_between, link_at, with_new_link, making, idle_link, no_layer_3}
use Rattle.station_laws.proofs.Common.{Turn, changing, AreAlikeButForH, with_none_done, LinkFrame, is_ask, event_at_end}
use Rattle.station_laws.proofs.Common.{LinkStep, link_step, steps_for, steps_at, heard_steps, first_chosen}
use Rattle.station_laws.proofs.Common.{StationState, Choice, IsNewKey, is_from_to}
use Rattle.std.specs.Prelude.{map}
use Rattle.link_machine.specs.Event.{Event as LinkEvent}
use Rattle.link_machine.specs.Event.Event.{Hear as LinkHear}
use Rattle.station.specs.Heard.{noting}
use Rattle.station.specs.Links.{link_modulus}
use Rattle.station_laws.proofs.Acts.{Setting, Holds, marks_of, still_holds, own_machine, own_heard, heard_told}
use Rattle.station_laws.proofs.Acts.{heard_asking, heard_next, FrontRead, is_asking, asks_when_sent, other_event}
use Rattle.station_laws.proofs.Addresses.{heard_again}
use Rattle.station_laws.proofs.Along.{Kept, makes_near, near_all}
use Rattle.station_laws.proofs.Events.{meant, MayMake, made_own, made_another}
use Rattle.station_laws.proofs.Controls.{ask_heard}
use Rattle.station_laws.proofs.LinkFrames.{from_to_path}
use Rattle.station_laws.proofs.Messages.{IsStill, still, still_both, raw_still}
use Rattle.station_laws.proofs.Readings.{reread, hears_same}
use Rattle.station_laws.proofs.Standing.{chosen_calls, calls_chosen, made_at}
use Rattle.station_laws.proofs.Tables.{none_chosen, not_both}
use Rattle.station_laws.proofs.Tags.{IsTagged, IsOther}
use Rattle.station_laws.proofs.ValidCalls.{heard_good, none_by_position, at_position}
use Rattle.station_laws.proofs.HeardAs.{Heard, heard_as, only_shows}
use Rattle.station_laws.proofs.HeardAs.Heard.{passes, repeats, hears, hears_new}

-- what is heard leaves the frames in flight: it is the front one, or one of another link
pub data Pop (s : Setting) (octets : List ℕ) : List Tagged → List Tagged → Type 0 where
  Own : (f : Tagged) → (stays : List Tagged) → (queued : LinkFrame) → AreAlikeButForH octets queued.octets
      → IsTagged s.remote s.local f queued → (is_ask octets ≡ true → s.on_ask ≡ true) → Pop s octets (f ∷ stays) stays
  Another : (stays : List Tagged) → (queued : List ℕ) → AreAlikeButForH octets queued → IsOther s.remote s.local queued
      → Pop s octets stays stays

-- the calls of what is heard are those of what was queued
same_source : (p q : Path) → with_none_done p ≡ with_none_done q → p.source ≡ q.source
same_source p q e = ap (λ (x : Path). x.source) e

same_dest : (p q : Path) → with_none_done p ≡ with_none_done q → p.dest ≡ q.dest
same_dest p q e = ap (λ (x : Path). x.dest) e

-- ---- an event of a link that is there

-- the link hears it, if it is the one that is meant
abbrev HeardBy : Bool → Setting → End → List Tagged → Turn → ℕ → Link → Frame → World → World → Type 0
HeardBy true s e stays turn key link frame made w =
    Holds s stays (event_at key (LinkHear frame) turn)
    (near_kept (event_at_end e (LinkHear frame)) (marks_of s turn (event_at key (LinkHear frame) turn)) made)
    × (made.a.end.machine ≡ link.machine)
    × ((near_turn (event_at_end e (LinkHear frame)) made).told ≡ (step link.machine (LinkHear frame)).told)
    × (drop 1 made.a.towards ≡ stays)
    × (map is_asking (near_turn (event_at_end e (LinkHear frame)) made).sent
    ≡ map asks_when_sent (step link.machine (LinkHear frame)).sent)
    × ((near_turn (event_at_end e (LinkHear frame)) made).now.machine ≡ (step link.machine (LinkHear frame)).now)
    × FrontRead frame made
HeardBy false s e stays turn key link frame made w = Holds s stays (event_at key (LinkHear frame) turn) w

heard_at_link :
    (s : Setting) (e : End) (octets : List ℕ) (back stays : List Tagged) (turn : Turn) (key : ℕ) (link : Link)
    (path : Path) (len : ℕ) (frame : Frame) (made w : World) → All (λ octet. octet < 256) octets
    → Pop s octets back stays → BeginsWithPath octets path len → link.local ≡ path.dest → link.remote ≡ path.source
    → IsFrame frame (modulus_named link.machine.incoming.modulus) octets → link_at key turn.now.links ≡ Some link
    → (meant s (Some link) ≡ true → Holds s back turn made) → (meant s (Some link) ≡ false → Holds s back turn w)
    → (b : Bool) → meant s (Some link) ≡ b → HeardBy b s e stays turn key link frame made w
heard_at_link s e octets back stays turn key link path len frame made w low (Own f later queued alike tag caused)
    begins local remote is at own another true chosen =
    let H = own chosen in
    let again = reread s.remote s.local f octets queued (modulus_named link.machine.incoming.modulus)
    frame tag alike low is in
    let machine : made.a.end.machine ≡ link.machine = own_machine s (f ∷ later) turn made key link H at chosen in
    let read : read_in made.a.end.machine.incoming.modulus f ≡ Some again.as_read =
    ap (λ (m : Machine). read_in m.incoming.modulus f) machine ∙ again.reading in
    let same : step made.a.end.machine (LinkHear again.as_read) ≡ step link.machine (LinkHear frame) =
    ap (λ m. step m (LinkHear again.as_read)) machine
    ∙ hears_same link.machine again.as_read frame again.kind again.role in (
      own_heard s e f again.as_read later turn made key link frame
          (λ asking. caused (ask_heard (modulus_named link.machine.incoming.modulus) octets frame is
          (ap asks (sym again.kind) ∙ asking)))
          H at chosen read same,
      machine,
      heard_told e f again.as_read later made link.machine frame H.back_is read same,
      ap (drop 1) H.back_is,
      heard_asking e f again.as_read later made link.machine frame H.back_is read same,
      heard_next e f again.as_read later made link.machine frame H.back_is read same,
      record {
        front = f;
        rest = later;
        as_read = again.as_read;
        towards = H.back_is;
        reading = read;
        kind = again.kind;
        of_link = again.of_link;
      },
    )
heard_at_link s e octets back stays turn key link path len frame made w low (Own f later queued alike tag caused)
    begins local remote is at own another false chosen =
    let again = heard_again (modulus_named f.modulus) f.frame octets queued.octets tag.path tag.spelled alike in
    let same : path ≡ alike.path_heard =
    (BeginsWithPath-same octets path alike.path_heard len alike.len begins alike.heard_begins).0 in
    absurd (not_both (meant s (Some link)) (calls_chosen s.local s.remote link
    (local ∙ ap (λ (p : Path). p.dest) same ∙ same_dest alike.path_heard f.frame.path again.paths ∙ tag.dest)
    (remote ∙ ap (λ (p : Path). p.source) same ∙ same_source alike.path_heard f.frame.path again.paths ∙ tag.source))
    chosen)
heard_at_link s e octets back stays turn key link path len frame made w low (Another later queued alike other)
    begins local remote is at own another true chosen =
    let calls = chosen_calls s.local s.remote link chosen in
    let same : path ≡ alike.path_heard =
    (BeginsWithPath-same octets path alike.path_heard len alike.len begins alike.heard_begins).0 in
    absurd (other alike.path_sent alike.len alike.sent_begins
    (sym (same_source alike.path_heard alike.path_sent alike.paths) ∙ sym (ap (λ (p : Path). p.source) same)
    ∙ sym remote ∙ calls.remote_is)
    (sym (same_dest alike.path_heard alike.path_sent alike.paths) ∙ sym (ap (λ (p : Path). p.dest) same) ∙ sym local
    ∙ calls.local_is))
heard_at_link s e octets back stays turn key link path len frame made w low (Another later queued alike other)
    begins local remote is at own another false chosen =
    other_event s later turn w key link (LinkHear frame) (another chosen) at chosen

-- as the steps of the link have it
by_choice :
    (s : Setting) (e : End) (stays : List Tagged) (turn : Turn) (key : ℕ) (link : Link) (frame : Frame)
    (anew : Option Path) (w : World) (b : Bool) → HeardBy b s e stays turn key link frame (makes_near anew w) w
    → Kept s e stays (event_at key (LinkHear frame) turn)
    (cond b (link_step anew key (LinkHear frame) turn link ∷ []) []) w
by_choice s e stays turn key link frame anew w true h =
    (h.0, (record { machine = h.1; told = h.2; stays = h.3; asking = h.4; next = h.5; reads = h.6 }, tt))
by_choice s e stays turn key link frame anew w false h = (h, tt)

pub there_goes :
    (s : Setting) (e : End) (octets : List ℕ) (back stays : List Tagged) (turn : Turn) (key : ℕ) (link : Link)
    (path : Path) (len : ℕ) (frame : Frame) (w : World) → All (λ octet. octet < 256) octets
    → Pop s octets back stays → BeginsWithPath octets path len → link.local ≡ path.dest → link.remote ≡ path.source
    → IsFrame frame (modulus_named link.machine.incoming.modulus) octets → link_at key turn.now.links ≡ Some link
    → Holds s back turn w
    → Kept s e stays (event_at key (LinkHear frame) turn) (steps_at (meant s) None key (LinkHear frame) turn) w
there_goes s e octets back stays turn key link path len frame w low pop begins local remote is at H =
    subst (λ place. Kept s e stays (event_at key (LinkHear frame) turn)
    (steps_for (meant s) None key (LinkHear frame) turn place) w)
    (sym at)
    (by_choice s e stays turn key link frame None w (meant s (Some link))
    (heard_at_link s e octets back stays turn key link path len frame w w low pop begins local remote is at (λ c. H)
    (λ c. H)
    (meant s (Some link)) refl))

-- ---- an event of a link that is made for it

pub new_goes :
    (s : Setting) (e : End) (octets : List ℕ) (back stays : List Tagged) (before turn : Turn) (key : ℕ) (link : Link)
    (way path : Path) (len : ℕ) (frame : Frame) (w : World) → All (λ octet. octet < 256) octets
    → Pop s octets back stays → BeginsWithPath octets path len → link.local ≡ path.dest → link.remote ≡ path.source
    → IsFrame frame (modulus_named link.machine.incoming.modulus) octets
    → MayMake s before key link → link.machine ≡ new_machine way s.params
    → turn ≡ changing (with_links (with_new_link key link)) before → Holds s back before w
    → Kept s e stays (event_at key (LinkHear frame) turn) (steps_at (meant s) (Some way) key (LinkHear frame) turn) w
new_goes s e octets back stays before turn key link way path len frame w low pop begins local remote is may new turn_is
    H =
    let at : link_at key turn.now.links ≡ Some link =
    ap (λ (t : Turn). link_at key t.now.links) turn_is
    ∙ made_at s.params (meant s) before.now.links w.a.end.machine key link H.table may.new in
    subst (λ place. Kept s e stays (event_at key (LinkHear frame) turn)
    (steps_for (meant s) (Some way) key (LinkHear frame) turn place) w)
    (sym at)
    (by_choice s e stays turn key link frame (Some way) w (meant s (Some link))
    (heard_at_link s e octets back stays turn key link path len frame (near_made way w) w low pop begins local remote
    is at (λ chosen. made_own s back before w key link way turn H may chosen new turn_is)
    (λ chosen. made_another s back before w key link turn H may chosen turn_is) (meant s (Some link)) refl))

-- ---- an event of another link

pub past_goes :
    (s : Setting) (e : End) (turn : Turn) (key : ℕ) (link : Link) (frame : Frame) (anew : Option Path) (w : World)
    (back : List Tagged) → meant s (Some link) ≡ false → link_at key turn.now.links ≡ Some link → Holds s back turn w
    → Kept s e back (event_at key (LinkHear frame) turn) (steps_at (meant s) anew key (LinkHear frame) turn) w
past_goes s e turn key link frame anew w back other at H =
    subst (λ place. Kept s e back (event_at key (LinkHear frame) turn)
    (steps_for (meant s) anew key (LinkHear frame) turn place) w)
    (sym at)
    (by_choice s e back turn key link frame anew w (meant s (Some link))
    (subst (λ b. HeardBy b s e back turn key link frame (makes_near anew w) w) (sym other)
    (other_event s back turn w key link (LinkHear frame) H at other)))

-- a frame with the calls of the link that is meant is one of that link
between_calls :
    (s : Setting) (link : Link) (octets : List ℕ) (path : Path) (len : ℕ) → meant s (Some link) ≡ true
    → BeginsWithPath octets path len → link.local ≡ path.dest → link.remote ≡ path.source
    → is_from_to s.remote s.local octets ≡ true
between_calls s link octets path len chosen begins local remote =
    let calls = chosen_calls s.local s.remote link chosen in
    subst (λ source. is_from_to source s.local octets ≡ true) (sym remote ∙ calls.remote_is)
    (subst (λ dest. is_from_to path.source dest octets ≡ true) (sym local ∙ calls.local_is)
    (from_to_path octets path len begins))

-- it goes on with what is in flight, if that is not among it
abbrev pub GoesPast : Setting → End → Turn → Turn → List LinkStep → Type 0
GoesPast s e before after own = (w : World) (back : List Tagged) → Holds s back before w → Kept s e back after own w

-- one of the link that is meant, or of another
own_or_past :
    (s : Setting) (e : End) (octets : List ℕ) (before after : Turn) (own : List LinkStep) (link : Link) (path : Path)
    (len : ℕ) → BeginsWithPath octets path len → link.local ≡ path.dest → link.remote ≡ path.source
    → (meant s (Some link) ≡ false → GoesPast s e before after own)
    → (is_from_to s.remote s.local octets ≡ true) ⊎ GoesPast s e before after own
own_or_past s e octets before after own link path len begins local remote past = by_test (meant s (Some link)) refl
  where
    by_test : (b : Bool) → meant s (Some link) ≡ b
        → (is_from_to s.remote s.local octets ≡ true) ⊎ GoesPast s e before after own
    by_test true chosen = inl (between_calls s link octets path len chosen begins local remote)
    by_test false other = inr (past other)

-- ---- what a heard frame comes to

-- Nothing, or an event of a link, perhaps of one that is made for it. If the frame is not one of the link that is
-- meant, it is nothing to that link.
pub data Outcome (s : Setting) (e : End) (octets : List ℕ) (before after : Turn) (own any : List LinkStep)
    : Type 0 where
  Passed : IsStill before after → own ≡ [] → any ≡ [] → Outcome s e octets before after own any
  Event : ((w : World) (back stays : List Tagged) → Pop s octets back stays → Holds s back before w
      → Kept s e stays after own w)
      → (any ≡ [] → ⊥) → (is_from_to s.remote s.local octets ≡ true) ⊎ GoesPast s e before after own
      → Outcome s e octets before after own any

not_empty :
    (anew : Option Path) (key : ℕ) (event : LinkEvent) (turn : Turn) (link : Link) (place : Option Link)
    → place ≡ Some link
    → steps_for is_some anew key event turn place ≡ [] → ⊥
not_empty anew key event turn link None is empty = cc
not_empty anew key event turn link (Some other) is empty = cc

-- of a link that is made
new_outcome :
    (s : Setting) (e : End) (octets : List ℕ) (key id : ℕ) (frame : Frame) (turn : Turn)
    → All (λ octet. octet < 256) octets → IsFrame frame Eight octets
    → key_between frame.path.dest frame.path.source turn.now.links ≡ None → turn.now.parameters ≡ s.params
    → length turn.now.links.places ≡ most_links → IsNewKey key turn.now.links
    → let way = way_back frame.path Command in
    let made = making key id no_layer_3 frame.path.dest frame.path.source way turn in
    Outcome s e octets turn (event_at key (LinkHear frame) made)
    (steps_at (meant s) (Some way) key (LinkHear frame) made) (steps_at is_some (Some way) key (LinkHear frame) made)
new_outcome s e octets key id frame turn low is vacant params size new =
    let path = frame.path in
    let way = way_back path Command in
    let link = idle_link id no_layer_3 path.dest path.source way turn.now.parameters in
    let made = making key id no_layer_3 path.dest path.source way turn in
    let may : MayMake s turn key link = record {
      new = new;
      good = record {
        path = heard_good octets path is.len Command is.path;
        source = refl;
        dest = refl;
        params_are = params;
        counts = record { modulus_is = inl refl; short = tt };
      };
      none = λ chosen. let calls = chosen_calls s.local s.remote link chosen in
          subst (λ (l : Callsign). first_chosen (is_between l s.remote) turn.now.links.places ≡ None) calls.local_is
          (subst (λ (r : Callsign). first_chosen (is_between path.dest r) turn.now.links.places ≡ None) calls.remote_is
          (none_chosen (is_between path.dest path.source) turn.now.links.places
          (none_by_position (is_between path.dest path.source) turn.now.links.places (ap is_none vacant))));
    } in
    let at : link_at key made.now.links ≡ Some link =
    let within : key < length turn.now.links.places = let low_key = new.within in omega arith in
    get_or-set_same turn.now.links.places key (Some link) None within in
    Event (λ w back stays pop H.
    new_goes s e octets back stays turn made key link way path is.len frame w low pop is.path refl refl is may
    (ap (new_machine way) params) refl H)
    (not_empty (Some way) key (LinkHear frame) made link (link_at key made.now.links) at)
    (own_or_past s e octets turn (event_at key (LinkHear frame) made)
    (steps_at (meant s) (Some way) key (LinkHear frame) made) link path is.len is.path refl refl
    (λ other w back H.
    past_goes s e made key link frame (Some way) w back other at
    (made_another s back turn w key link made H may other refl)))

-- of the link of the two calls
there_outcome :
    (s : Setting) (e : End) (octets : List ℕ) (path : Path) (len key : ℕ) (frame : Frame) (turn : Turn)
    → All (λ octet. octet < 256) octets → BeginsWithPath octets path len
    → key_between path.dest path.source turn.now.links ≡ Some key
    → IsFrame frame (link_modulus (link_at key turn.now.links)) octets
    → Outcome s e octets turn (event_at key (LinkHear frame) turn)
    (steps_at (meant s) None key (LinkHear frame) turn) (steps_at is_some None key (LinkHear frame) turn)
there_outcome s e octets path len key frame turn low begins found is = by_place (link_at key turn.now.links) refl
  where
    chosen : is_between path.dest path.source (link_at key turn.now.links) ≡ true
    chosen = at_position (is_between path.dest path.source) turn.now.links.places key found

    by_place : (place : Option Link) → link_at key turn.now.links ≡ place
        → Outcome s e octets turn (event_at key (LinkHear frame) turn)
        (steps_at (meant s) None key (LinkHear frame) turn) (steps_at is_some None key (LinkHear frame) turn)
    by_place None at = absurd (not_both false (sym (ap (is_between path.dest path.source) at) ∙ chosen) refl)
    by_place (Some link) at =
        let calls = chosen_calls path.dest path.source link (sym (ap (is_between path.dest path.source) at) ∙ chosen) in
        Event (λ w back stays pop H.
        there_goes s e octets back stays turn key link path len frame w low pop begins calls.local_is calls.remote_is
        (subst (λ place. IsFrame frame (link_modulus place) octets) at is) at H)
        (not_empty None key (LinkHear frame) turn link (link_at key turn.now.links) at)
        (own_or_past s e octets turn (event_at key (LinkHear frame) turn)
        (steps_at (meant s) None key (LinkHear frame) turn) link path len begins calls.local_is calls.remote_is
        (λ other w back H. past_goes s e turn key link frame None w back other at H))

outcome_of :
    (s : Setting) (e : End) (octets : List ℕ) (turn : Turn) (steps : Choice → List LinkStep) (after : Turn)
    → All (λ octet. octet < 256) octets → turn.now.parameters ≡ s.params → length turn.now.links.places ≡ most_links
    → Heard octets turn steps after → Outcome s e octets turn after (steps (meant s)) (steps is_some)
outcome_of s e octets turn steps after low params size passes = Passed (still turn) refl refl
outcome_of s e octets turn steps after low params size (repeats call k is) =
    Passed (raw_still None None (repeated octets k) turn) refl refl
outcome_of s e octets turn steps after low params size (hears key len path frame begins found is) =
    there_outcome s e octets path len key frame turn low begins found is
outcome_of s e octets turn steps after low params size (hears_new key id frame is vacant known new) =
    new_outcome s e octets key id frame turn low is vacant params size new

-- what is shown before is nothing to a link
after_showing :
    (s : Setting) (e : End) (octets : List ℕ) (before shown after : Turn) (own any : List LinkStep)
    → IsStill before shown
    → Outcome s e octets shown after own any → Outcome s e octets before after own any
after_showing s e octets before shown after own any h (Passed calm none none_any) =
    Passed (still_both before shown after h calm) none none_any
after_showing s e octets before shown after own any h (Event goes some past) =
    Event (λ w back stays pop H. goes w back stays pop
    (still_holds s back before shown w H h.links h.parameters h.queued)) some
    (elim past [
      | inl own_frame ↦ inl own_frame
      | inr goes_past ↦
          inr (λ w back H. goes_past w back (still_holds s back before shown w H h.links h.parameters h.queued))
    ])

-- nor is what is noted
after_telling :
    (s : Setting) (e : End) (octets : List ℕ) (before between : Turn) (own any : List LinkStep) (path : Option Path)
    (ours : Bool)
    → Outcome s e octets before between own any → Outcome s e octets before (noting path ours between) own any
after_telling s e octets before between own any path ours (Passed calm none none_any) =
    Passed (record { links = calm.links; parameters = calm.parameters; queued = calm.queued }) none none_any
after_telling s e octets before between own any path ours (Event goes some past) =
    Event (λ w back stays pop H. told w stays (goes w back stays pop H)) some
    (elim past [
      | inl own_frame ↦ inl own_frame
      | inr goes_past ↦ inr (λ w back H. told w back (goes_past w back H))
    ])
  where
    told : (w : World) (stays : List Tagged) → Kept s e stays between own w
        → Kept s e stays (noting path ours between) own w
    told w stays kept =
        let then = near_all e (s.done ++ s.rest) (length s.earlier) own w in
        (still_holds s stays between (noting path ours between) then kept.0 refl refl refl, kept.1)

pub heard_outcome :
    (s : Setting) (e : End) (octets : List ℕ) (before after : Turn) → All (λ octet. octet < 256) octets
    → before.now.parameters ≡ s.params → length before.now.links.places ≡ most_links → (h : IsHeard octets before after)
    → Outcome s e octets before after (heard_steps (meant s) octets before after h)
    (heard_steps is_some octets before after h)
heard_outcome s e octets before after low params size h =
    let shown = shown_to_hosts h.path octets h.monitored before in
    let shows = only_shows h.path octets h.monitored before in
    let calm : IsStill before shown = record {
      links = ap (λ (state : StationState). state.links) shows.now;
      parameters = ap (λ (state : StationState). state.parameters) shows.now;
      queued = shows.queued;
    } in
    let own = heard_steps (meant s) octets before after h in
    let any = heard_steps is_some octets before after h in
    subst (λ (t : Turn). Outcome s e octets before t own any) (sym h.told)
    (after_telling s e octets before h.between own any h.path h.ours
    (after_showing s e octets before shown h.between own any calm
    (outcome_of s e octets shown (λ chosen. heard_steps chosen octets before after h) h.between low
    (calm.parameters ∙ params) (ap (λ (l : Links). length l.places) calm.links ∙ size)
    (heard_as octets before after h))))
