-- What a turn makes of a receiver.
use Rattle.fx25_ring.proofs.Common.{◌≡◌, ℕ, ◌^◌, ◌<◌, Bool, true, false, List, [], ◌++◌, refl, sym, subst, ◌∙◌, Candidate}
use Rattle.fx25_ring.proofs.Common.{Reader, position_of, answers_of, Leads, last_stretch, Stretch}
use Rattle.fx25_ring.proofs.Common.{stretch_at, AreDueInBlocks, AreHeardInOne, AreSettledInOne, Lanes, Turn, Heard, MadeTurn}
use Rattle.fx25_ring.proofs.Common.{MakesTurn, Finishes, HaveHeard, AreInStep, BlocksHeard, BlockLanesListen, ListenTo}
use Rattle.fx25_ring.proofs.Common.{StandForStretch, are_sensitive, receiver_of, AreDueBy}
use Rattle.sample_ring.specs.Ends.{IsNew}
use Rattle.stretch_reader.proofs.GoingOn.{all_ended, settled_of}
use Rattle.fx25_ring.proofs.HeardLemmas.{due_lengths}
use Rattle.fx25_ring.proofs.LanesLemmas.{stands_settled}
use Rattle.fx25_ring.proofs.OneReader.{leads, lowest, nothing_answered, rises, turned}

-- a receiver that has read nothing
pub none_heard : (len : ℕ) (reader : Reader) (lanes : Lanes) → IsNew reader → StandForStretch lanes (stretch_at 0) []
    → ListenTo lanes (stretch_at 0) → BlocksHeard len (receiver_of reader lanes false)
none_heard len reader lanes new stand listen =
    let none = nothing_answered len reader new in
    record {
      spent = refl;
      listens = record {
        lead = subst (λ a. Leads 0 a (position_of reader)) (sym none) (sym new.at_start);
        listen = subst (λ a. ListenTo lanes (last_stretch a)) (sym none) listen;
      };
      given = [];
      heard = subst (λ a. HaveHeard (AreHeardInOne (are_sensitive lanes)) (StandForStretch lanes) a []) (sym none) (record {
        earlier = [];
        own = [];
        ended = refl;
        holds = stand;
        given_is = refl;
      });
    }

module _ (len : ℕ) (before after : Reader) (was there now : Lanes) (turn : Turn) (heard : Heard)
    (made : MadeTurn (AreHeardInOne (are_sensitive was)) (StandForStretch was) (StandForStretch there) (ListenTo was)
    (ListenTo there) len 0 before after turn)
    (step : AreInStep after there) (same : are_sensitive there ≡ are_sensitive was)
    (stays : turn.ended ≡ false → (now ≡ there) × (heard.items.items ≡ turn.items.items))
    (ends : turn.ended ≡ true → (s : Stretch) (own : List Candidate) → StandForStretch there s own
    → Finishes (AreHeardInOne (are_sensitive there)) s own turn.items.items heard.items.items)
    (still : (s : Stretch) → ListenTo there s → ListenTo now s)
    (here : heard.least ≡ position_of after) (small : heard.least < 2 ^ 64) (over : heard.ended ≡ turn.ended)
    (told : heard.gaps.items ≡ turn.gaps.items) where
  abbrev Heards : Stretch → List Candidate → Type 0
  Heards = AreHeardInOne (are_sensitive was)

  abbrev Settleds : Stretch → List Candidate → Type 0
  Settleds = AreSettledInOne (are_sensitive was)

  listens : BlockLanesListen len (receiver_of before was false) → BlockLanesListen len (receiver_of after now false)
  listens l = record {
    lead = leads Heards (StandForStretch was) (StandForStretch there) (ListenTo was) (ListenTo there) len before after turn
        heard made l.lead;
    listen = still (last_stretch (answers_of len after)) (made.on.listens l.listen);
  }

  module _ (h : BlocksHeard len (receiver_of before was false)) where
    gave : HaveHeard Heards (StandForStretch there) (answers_of len after) (h.given ++ turn.items.items)
    gave = made.on.heard h.given h.heard

    -- so they gave the items that are told, if the ring has not ended
    gave_on : heard.ended ≡ false → HaveHeard Heards (StandForStretch there) (answers_of len after)
        (h.given ++ heard.items.items)
    gave_on e =
        subst (λ l. HaveHeard Heards (StandForStretch there) (answers_of len after) (h.given ++ l))
        (sym (stays (sym over ∙ e)).1) gave

    are_due : (e : Bool) → heard.ended ≡ e
        → AreDueBy Heards Settleds e (answers_of len after) (h.given ++ heard.items.items)
    are_due false e =
        settled_of Heards Settleds (StandForStretch there)
        (λ s own k. subst (λ o. AreSettledInOne o s own) same (stands_settled there s own k)) (answers_of len after)
        (h.given ++ heard.items.items) (gave_on e)
    are_due true e =
        all_ended Heards (StandForStretch there) (StandForStretch there) (answers_of len after) h.given turn.items.items
        heard.items.items gave
        (subst (λ o. Finishes (AreHeardInOne o) (last_stretch (answers_of len after)) gave.own turn.items.items
        heard.items.items) same (ends (sym over ∙ e) (last_stretch (answers_of len after)) gave.own gave.holds))

    due : AreDueInBlocks (are_sensitive was) heard.ended (answers_of len before) (answers_of len after) heard.items.items
    due = record {
      given = h.given;
      were = settled_of Heards Settleds (StandForStretch was) (stands_settled was) (answers_of len before) h.given h.heard;
      are = are_due heard.ended refl;
    }

    hears : heard.ended ≡ false → BlocksHeard len (receiver_of after now false)
    hears e = record {
      spent = refl;
      listens = listens h.listens;
      given = h.given ++ heard.items.items;
      heard = subst (λ (l : Lanes). HaveHeard (AreHeardInOne (are_sensitive l)) (StandForStretch l) (answers_of len after)
          (h.given ++ heard.items.items)) (sym (stays (sym over ∙ e)).0)
          (subst (λ o. HaveHeard (AreHeardInOne o) (StandForStretch there) (answers_of len after)
          (h.given ++ heard.items.items)) (sym same) (gave_on e));
    }

  pub makes : MakesTurn len (receiver_of before was false) (receiver_of after now false) heard
  makes = record {
    turn = turned Heards (StandForStretch was) (StandForStretch there) (ListenTo was) (ListenTo there) len before after turn
        heard made over told;
    listens = listens;
    due = due;
    lengths = λ h. due_lengths (are_sensitive was) heard.ended (answers_of len before) (answers_of len after)
        heard.items.items (due h);
    hears = λ e h. hears h e;
    least = λ h. lowest Heards (StandForStretch was) (StandForStretch there) (ListenTo was) (ListenTo there) len before
        after turn heard made h.listens.lead here small;
    forward = λ h. rises Heards (StandForStretch was) (StandForStretch there) (ListenTo was) (ListenTo there) len before
        after turn heard made h.listens.lead here small;
    step = λ e. subst (AreInStep after) (sym (stays (sym over ∙ e)).0) step;
  }
