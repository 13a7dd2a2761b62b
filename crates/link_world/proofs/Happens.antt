-- How two sides follow the step of a world.
use Rattle.link_world.proofs.Common.{◌≡◌, ℕ, Bool, true, if◌then◌else◌, List, ◌++◌, length, map, sym, ◌∙◌, ap, subst}
use Rattle.link_world.proofs.Common.{Some, map-append, Told, LinkFault, Done, step, done_of, Event, NothingThere}
use Rattle.link_world.proofs.Common.{InFlight, Happening, EndTurn, end_turn, seen, hears_ask, World, near_turn, staying}
use Rattle.link_world.proofs.Common.{sends_alone, is_there, refused_by, near_cause, in_flight, all_in_flight}
use Rattle.link_world.proofs.Common.{StandForBoth, flying, MadeStep, Flew}
use Rattle.std.specs.Prelude.{Option}
use Rattle.link_machine.specs.declared.machine.Machine.{Machine as HeldLink}
use Rattle.link_machine.specs.StandsFor.{StandsFor as LinkStandsFor}
use Rattle.link_world.specs.declared.side.Side.{Side as HeldSide}
use Rattle.link_world.specs.Faults.{cause_by}
use Rattle.link_world.proofs.TagLemmas.{all_in_flight-tagged}

-- what an end's event is: its happening, what is heard then, and that it may be asked for
pub record IsAsked (event : Event) (h : Happening) (w : World) (back : List InFlight) : Type 0 where
  pub turn : near_turn event w ≡ end_turn h w.a.end
  pub there : is_there event (length w.a.towards) ≡ true
  pub following : back ≡ all_in_flight (staying event w.a.towards)

-- the cause of a refusal, by its parts
pub cause_is :
    (number : ℕ) (event : Event) (w : World) (refused : Option LinkFault) (quiet : Bool)
    → is_there event (length w.a.towards) ≡ true → refused_by event w.a.end.machine ≡ refused → sends_alone w event ≡
    quiet
    → near_cause number event w ≡ cause_by refused quiet number
cause_is number event w refused quiet there r q =
    ap (λ b. if b then cause_by (refused_by event w.a.end.machine) (sends_alone w event) number else Some
    NothingThere) there
    ∙ ap (λ x. cause_by x (sends_alone w event) number) r
    ∙ ap (λ x. cause_by refused x number) q

-- the frames that were sent fly after the others
sent_following :
    (event : Event) (h : Happening) (w : World) (ahead back following : List InFlight) (done : Done) (told : List Told)
    → IsAsked event h w back → done ≡ done_of (step w.a.end.machine (seen h)) → ahead ≡ all_in_flight w.b.towards
    → Flew done (hears_ask h) ahead following told → following ≡ all_in_flight (w.b.towards ++ (near_turn event w).sent)
sent_following event h w ahead back following done told is does e flew =
    let turn = step w.a.end.machine (seen h) in
    flew.towards
    ∙ ap (λ x. x ++ map (flying (hears_ask h)) done.frames) e
    ∙ ap (λ x. all_in_flight w.b.towards ++ x)
    (ap (λ (d : Done). map (flying (hears_ask h)) d.frames) does
    ∙ sym (all_in_flight-tagged (hears_ask h) (end_turn h w.a.end).now turn.sent))
    ∙ sym (map-append in_flight w.b.towards (end_turn h w.a.end).sent)
    ∙ ap (λ (t : EndTurn). all_in_flight (w.b.towards ++ t.sent)) (sym is.turn)

-- what was sent flies: the sides made the step
pub made :
    (event : Event) (h : Happening) (w : World) (near_old far_old near far : HeldSide) (back : List InFlight)
    (done : Done) (told : List Told)
    → IsAsked event h w back → done ≡ done_of (step w.a.end.machine (seen h)) → StandForBoth near_old far_old w
    → LinkStandsFor near.link (step w.a.end.machine (seen h)).now → near.towards.items ≡ back → far.link ≡ far_old.link
    → Flew done (hears_ask h) far_old.towards.items far.towards.items told
    → MadeStep event w near far told
made event h w near_old far_old near far back done told is does both link stays same flew = record {
  stands = record {
    of_near = record {
      link = let P : EndTurn → Type 0 = λ t. LinkStandsFor near.link t.now.machine in subst P (sym is.turn) link;
      towards = stays ∙ is.following;
    };
    of_far = record {
      link = let P : HeldLink → Type 0 = λ l. LinkStandsFor l w.b.end.machine in subst P (sym same) both.of_far.link;
      towards = sent_following event h w far_old.towards.items back far.towards.items done told is does
          both.of_far.towards flew;
    };
  };
  tells = flew.tells ∙ ap (λ (d : Done). d.told) does ∙ ap (λ (t : EndTurn). t.told) (sym is.turn);
}
