-- What a request, a tick, a frame heard and a frame lost make of two sides.
use Rattle.link_world.proofs.Common.{◌≡◌, ℕ, suc, ◌<◌, Bool, true, false, List, [], ◌∷◌, ◌++◌, length, drop, refl, sym}
use Rattle.link_world.proofs.Common.{◌∙◌, ap, subst, arith, Some, None, remove, slice_index_or, lt-ltb, Told, Done}
use Rattle.link_world.proofs.Common.{Machine, modulus_named, step, done_of, refusal_of, Frame, Modulus, End, Hear, Lose}
use Rattle.link_world.proofs.Common.{InFlight, frame_read, Tagged, asks, RecordedEnd, EndTurn, seen, hears_ask, Hears}
use Rattle.link_world.proofs.Common.{Side, World, read_in, hearing_as, turn_of, near_turn, refused_by, in_flight}
use Rattle.link_world.proofs.Common.{all_in_flight, event_of, seen_of, StandForBoth, MadeStep, Flew}
use Rattle.std.specs.Prelude.{Option}
use Rattle.std.proofs.lemmas.List.{append-nil, drop-map}
use Rattle.link_machine.specs.declared.machine.Machine.{Machine as HeldLink}
use Rattle.link_machine.specs.Event.{Event as LinkEvent}
use Rattle.link_machine.specs.Event.Event.{Hear as LinkHear}
use Rattle.link_machine.specs.StandsFor.{StandsFor as LinkStandsFor}
use Rattle.link_world.specs.declared.request.Request.{Request}
use Rattle.link_world.specs.declared.request.Request.TheVariants.{Connect as ConnectRequest, Send as SendRequest}
use Rattle.link_world.specs.declared.request.Request.TheVariants.{Disconnect as DisconnectRequest, Tick as TickRequest}
use Rattle.link_world.specs.declared.request.Request.TheVariants.{Seize as SeizeRequest}
use Rattle.link_world.specs.declared.side.Side.{Side as HeldSide}
use Rattle.link_world.specs.Recorded.{no_turn}
use Rattle.link_world.specs.Held.{happening_of}
use Rattle.link_world.proofs.Counting.{Steps}
use Rattle.link_world.proofs.TagLemmas.{map-remove}
use Rattle.link_world.proofs.Happens.{IsAsked, made}

-- a request is asked
pub is_asked :
    (request : Request) (end : End) (w : World) (back : List InFlight) → back ≡ all_in_flight w.a.towards
    → IsAsked (event_of request end) (happening_of request) w back
is_asked ConnectRequest end w back e = record { turn = refl; there = refl; following = e }
is_asked (SendRequest packet) end w back e = record { turn = refl; there = refl; following = e }
is_asked DisconnectRequest end w back e = record { turn = refl; there = refl; following = e }
is_asked (TickRequest waiting) end w back e = record { turn = refl; there = refl; following = e }
is_asked (SeizeRequest last full) end w back e = record { turn = refl; there = refl; following = e }

-- the link refuses it as an event, if it does
pub same_refusal :
    (request : Request) (end : End) (m : Machine) → refused_by (event_of request end) m
    ≡ refusal_of m (seen_of request)
same_refusal ConnectRequest end m = refl
same_refusal (SendRequest packet) end m = refl
same_refusal DisconnectRequest end m = refl
same_refusal (TickRequest waiting) end m = refl
same_refusal (SeizeRequest last full) end m = refl

-- the link sees the request
pub same_seen : (request : Request) → seen_of request ≡ seen (happening_of request)
same_seen ConnectRequest = refl
same_seen (SendRequest packet) = refl
same_seen DisconnectRequest = refl
same_seen (TickRequest waiting) = refl
same_seen (SeizeRequest last full) = refl

-- a request is no SABM or DISC heard
no_ask : (request : Request) → false ≡ hears_ask (happening_of request)
no_ask ConnectRequest = refl
no_ask (SendRequest packet) = refl
no_ask DisconnectRequest = refl
no_ask (TickRequest waiting) = refl
no_ask (SeizeRequest last full) = refl

-- it is taken
pub asked_made :
    (request : Request) (end : End) (w : World) (near_old far_old near far : HeldSide) (done : Done) (told : List Told)
    → StandForBoth near_old far_old w → Steps (seen_of request) near_old.link near.link done
    → near.towards.items ≡ near_old.towards.items → far.link ≡ far_old.link
    → Flew done false far_old.towards.items far.towards.items told → MadeStep (event_of request end) w near far told
asked_made request end w near_old far_old near far done told both steps stays same flew =
    let m = w.a.end.machine in
    let P : LinkEvent → Type 0 = λ e. LinkStandsFor near.link (step m e).now in
    let D : LinkEvent → Type 0 = λ e. done ≡ done_of (step m e) in
    let Q : Bool → Type 0 = λ b. Flew done b far_old.towards.items far.towards.items told in
    made (event_of request end) (happening_of request) w near_old far_old near far near_old.towards.items done told
    (is_asked request end w near_old.towards.items both.of_near.towards)
    (subst D (same_seen request) (steps.does m both.of_near.link)) both
    (subst P (same_seen request) (steps.stands m both.of_near.link)) stays same (subst Q (no_ask request) flew)

-- The frame at the front, if there is one, is what the end hears, as its link reads it.
pub record IsHeard (end : End) (w : World) (frame : Frame) (back : List InFlight) : Type 0 where
  pub tagged : Tagged
  pub asked : IsAsked (Hear end) (Hears (record tagged { frame = frame })) w back

-- what is read of a frame in flight is what is read of it with its tags
read_tagged :
    (modulus : ℕ) (heard : InFlight) (tag : Tagged) (named : Modulus) (o : Option Frame) → heard ≡ in_flight tag
    → named ≡ modulus_named modulus → frame_read heard.sent.modulus named heard.sent.frame ≡ o → read_in modulus tag ≡ o
read_tagged modulus heard tag named o is same read =
    ap (λ m. frame_read (modulus_named tag.modulus) m tag.frame) (sym same)
    ∙ ap (λ (f : InFlight). frame_read f.sent.modulus named f.sent.frame) (sym is) ∙ read

first_of :
    (tag : Tagged) (tags : List Tagged) (items : List InFlight) (heard : InFlight) → items ≡ all_in_flight (tag ∷ tags)
    → heard ≡ slice_index_or items 0 heard → heard ≡ in_flight tag
first_of tag tags items heard e first = first ∙ ap (λ xs. slice_index_or xs 0 heard) e

-- the first frame of a list is what is heard
heard_at :
    (end : End) (r : RecordedEnd) (tags : List Tagged) (b : Side) (items : List InFlight) (heard : InFlight)
    (named : Modulus) (frame : Frame)
    → items ≡ all_in_flight tags → 0 < length items → heard ≡ slice_index_or items 0 heard
    → named ≡ modulus_named r.machine.incoming.modulus → frame_read heard.sent.modulus named heard.sent.frame
    ≡ Some frame
    → IsHeard end (record { a = record { end = r; towards = tags }; b = b }) frame (drop 1 items)
heard_at end r [] b items heard named frame e some first same read =
    absurd (let n : length items ≡ 0 = ap length e in omega arith)
heard_at end r (tag ∷ tags) b items heard named frame e some first same read =
    let reads = read_tagged r.machine.incoming.modulus heard tag named (Some frame)
    (first_of tag tags items heard e first)
    same read in
    record {
      tagged = tag;
      asked = record {
        turn = ap (λ o. turn_of (hearing_as tag o) r) reads;
        there = lt-ltb 0 (suc (length tags)) (omega arith);
        following = ap (drop 1) e;
      };
    }

-- the modulus of a link is that of each machine that it stands for
same_modulus :
    (link : HeldLink) (m : Machine) → LinkStandsFor link m
    → modulus_named link.incoming.modulus ≡ modulus_named m.incoming.modulus
same_modulus link m stands = ap modulus_named stands.incoming.modulus

-- what an end reads of the frame at its front
pub record ReadsFront (near : HeldSide) (heard : InFlight) (o : Option Frame) : Type 0 where
  pub some : 0 < length near.towards.items
  pub first : heard ≡ slice_index_or near.towards.items 0 heard
  pub read : frame_read heard.sent.modulus (modulus_named near.link.incoming.modulus) heard.sent.frame ≡ o

-- the first frame in flight is what the end hears
pub is_heard :
    (end : End) (w : World) (near far : HeldSide) (heard : InFlight) (frame : Frame)
    → StandForBoth near far w → ReadsFront near heard (Some frame) → IsHeard end w frame (drop 1 near.towards.items)
is_heard end w near far heard frame both front =
    heard_at end w.a.end w.a.towards w.b near.towards.items heard (modulus_named near.link.incoming.modulus) frame
    both.of_near.towards front.some front.first (same_modulus near.link w.a.end.machine both.of_near.link) front.read

-- what the link sent on hearing it flies
pub heard_made :
    (end : End) (w : World) (near_old far_old near far : HeldSide) (heard : InFlight) (frame : Frame) (done : Done)
    (told : List Told)
    → StandForBoth near_old far_old w → Steps (LinkHear frame) near_old.link near.link done
    → ReadsFront near_old heard (Some frame) → near.towards.items ≡ drop 1 near_old.towards.items
    → far.link ≡ far_old.link → Flew done (asks frame.kind) far_old.towards.items far.towards.items told
    → MadeStep (Hear end) w near far told
heard_made end w near_old far_old near far heard frame done told both steps front stays same flew =
    let is = is_heard end w near_old far_old heard frame both front in
    let m = w.a.end.machine in
    made (Hear end) (Hears (record is.tagged { frame = frame })) w near_old far_old near far
    (drop 1 near_old.towards.items) done told is.asked (steps.does m both.of_near.link) both
    (steps.stands m both.of_near.link) stays same flew

-- a frame that the link does not read makes no turn of it
passed_at :
    (end : End) (r : RecordedEnd) (tags : List Tagged) (b : Side) (near far : HeldSide) (heard : InFlight)
    → let w : World = record { a = record { end = r; towards = tags }; b = b } in
    StandForBoth near far w → ReadsFront near heard None → near_turn (Hear end) w ≡ no_turn r
passed_at end r [] b near far heard both front =
    absurd (let some = front.some in let n : length near.towards.items ≡ 0 = ap length both.of_near.towards in
    omega arith)
passed_at end r (tag ∷ tags) b near far heard both front =
    let reads : read_in r.machine.incoming.modulus tag ≡ None =
    read_tagged r.machine.incoming.modulus heard tag (modulus_named near.link.incoming.modulus) None
    (first_of tag tags near.towards.items heard both.of_near.towards front.first)
    (same_modulus near.link r.machine both.of_near.link) front.read in
    ap (λ o. turn_of (hearing_as tag o) r) reads

pub passed_turn :
    (end : End) (w : World) (near far : HeldSide) (heard : InFlight)
    → StandForBoth near far w → ReadsFront near heard None → near_turn (Hear end) w ≡ no_turn w.a.end
passed_turn end w near far heard both front =
    passed_at end w.a.end w.a.towards w.b near far heard both front

-- such a frame is passed over
pub passed_made :
    (end : End) (w : World) (near_old far near : HeldSide) (heard : InFlight)
    → StandForBoth near_old far w → ReadsFront near_old heard None → near.link ≡ near_old.link
    → near.towards.items ≡ drop 1 near_old.towards.items → MadeStep (Hear end) w near far []
passed_made end w near_old far near heard both front same stays =
    let turn = passed_turn end w near_old far heard both front in
    record {
      stands = record {
        of_near = record {
          link = let P : EndTurn → Type 0 = λ t. LinkStandsFor near.link t.now.machine in
              subst P (sym turn) (let Q : HeldLink → Type 0 = λ l. LinkStandsFor l w.a.end.machine in
              subst Q (sym same) both.of_near.link);
          towards = stays ∙ ap (drop 1) both.of_near.towards ∙ drop-map in_flight 1 w.a.towards;
        };
        of_far = record {
          link = both.of_far.link;
          towards = both.of_far.towards ∙ ap all_in_flight (sym (append-nil w.b.towards))
              ∙ ap (λ (t : EndTurn). all_in_flight (w.b.towards ++ t.sent)) (sym turn);
        };
      };
      tells = ap (λ (t : EndTurn). t.told) (sym turn);
    }

-- a frame is lost
pub lost_made :
    (end : End) (index : ℕ) (w : World) (near_old far near : HeldSide)
    → StandForBoth near_old far w → near.link ≡ near_old.link
    → near.towards.items ≡ remove near_old.towards.items index → MadeStep (Lose end index) w near far []
lost_made end index w near_old far near both same lost =
    record {
      stands = record {
        of_near = record {
          link = let P : HeldLink → Type 0 = λ l. LinkStandsFor l w.a.end.machine in subst P (sym same)
              both.of_near.link;
          towards = lost ∙ ap (λ xs. remove xs index) both.of_near.towards ∙ sym
              (map-remove in_flight w.a.towards index);
        };
        of_far = record {
          link = both.of_far.link;
          towards = both.of_far.towards ∙ ap all_in_flight (sym (append-nil w.b.towards));
        };
      };
      tells = refl;
    }
