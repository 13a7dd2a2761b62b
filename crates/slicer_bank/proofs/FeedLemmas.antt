-- A bank that was fed a block, on one thread or on two.
use Rattle.slicer_bank.proofs.Common.{◌≡◌, ℕ, ◌+◌, ℤ, List, ◌++◌, ap, sym, ◌∙◌, subst, length, length-append, take}
use Rattle.slicer_bank.proofs.Common.{drop, IfOk, OnOk, All, take-append_seam, All-weaker, IfOk-weaker, Candidate}
use Rattle.slicer_bank.proofs.Common.{AreCandidatesAfter, ◌<◌, Some, get_or, bits_of, flags_asked, tones_at, HeldBank}
use Rattle.slicer_bank.proofs.Common.{HeldLane, LanesStandFor, AsksFor, last_seven, HearsAlone, LanesKeep, CanBePut}
use Rattle.slicer_bank.proofs.Common.{CanBePutPast, AllPast}
use Rattle.std.specs.Prelude.{Result}
use Rattle.std.specs.declared.result.Result.TheVariants.{Ok, Err}
use Rattle.hdlc_framer.specs.Held.{StandsFor as DeframerStandsFor}
use Rattle.slicer_bank.specs.Held.{StandsFor}
use Rattle.slicer_bank.specs.Heard.{LanesAreAlike}

-- the lanes that were lent come back as they were left
pub given_back : (n : ℕ) (lanes before : List HeldLane) → n ≡ length lanes
    → take n (lanes ++ drop (length lanes) before) ≡ lanes
given_back n lanes before full =
    ap (λ m. take m (lanes ++ drop (length lanes) before)) full ∙ take-append_seam lanes (drop (length lanes) before)

-- the bank once the block is counted
abbrev pub counted : HeldBank → List HeldLane → List ℤ → ℕ → HeldBank
counted was lanes recent count = record {
  lanes = lanes;
  recent = recent;
  position = was.position + count;
  flags = was.flags;
  spent = was.spent;
}

module _ {V : Type 0} (items_of : V → List Candidate) (was new : HeldBank) (lent back taken : List HeldLane)
    (recent block : List ℤ)
    (lent_is : lent ≡ was.lanes) (taken_is : taken ≡ back) where
  abbrev pub Hears : V → Type 0
  Hears found = (x : List ℤ) → length x ≡ was.position → was.recent ≡ last_seven x → LanesStandFor lent x
      → LanesStandFor back (x ++ block) × (recent ≡ last_seven (x ++ block))
      × AreCandidatesAfter was.position (x ++ block) (items_of found)

  abbrev pub Feeds : V → Type 0
  Feeds found = (x : List ℤ) → StandsFor was x → StandsFor new (x ++ block)
      × AreCandidatesAfter (length x) (x ++ block) (items_of found)

  by_result : {E : Type 0} (result : Result V E) → OnOk result (new ≡ counted was taken recent (length block))
      → IfOk result Hears
      → OnOk result ((flags : ℕ) → All (AsksFor flags) lent → All (AsksFor flags) back) → IfOk result Feeds
  by_result (Err e) counts hears asks = tt
  by_result (Ok found) counts hears asks = λ x h.
      let heard = hears x (sym h.count) h.recent (subst (λ lanes. LanesStandFor lanes x) (sym lent_is) h.lanes) in
      let stands : StandsFor (counted was taken recent (length block)) (x ++ block) = record {
        spent = h.spent;
        count = ap (λ t. t + length block) h.count ∙ sym (length-append x block);
        recent = heard.1;
        lanes = subst (λ lanes. LanesStandFor lanes (x ++ block)) (sym taken_is) heard.0;
        asks = subst (All (AsksFor was.flags)) (sym taken_is)
            (asks was.flags (subst (All (AsksFor was.flags)) (sym lent_is) h.asks));
      } in (
        subst (λ bank. StandsFor bank (x ++ block)) (sym counts) stands,
        subst (λ t. AreCandidatesAfter t (x ++ block) (items_of found)) h.count heard.2,
      )

  pub fed : {E : Type 0} (result heard : Result V E) → result ≡ heard
      → OnOk result (new ≡ counted was taken recent (length block)) → IfOk heard Hears
      → OnOk heard ((flags : ℕ) → All (AsksFor flags) lent → All (AsksFor flags) back) → IfOk result Feeds
  fed result heard same counts hears asks =
      by_result result counts (subst (λ r. IfOk r Hears) (sym same) hears)
      (subst (λ r. OnOk r ((flags : ℕ) → All (AsksFor flags) lent → All (AsksFor flags) back)) (sym same) asks)

-- what a lane does in its job: it hears a block by itself
pub record DidJob (position : ℕ) (seven block : List ℤ) (offset : ℕ) (was lane : HeldLane) : Type 0 where
  pub heard : HearsAlone offset position seven block was lane
  pub fit : (items : List Candidate) → lane.heard ≡ Some items → All (CanBePutPast position) items
  pub asks : flags_asked lane.deframer ≡ flags_asked was.deframer

-- lanes that heard a block each by itself, and then gave what they heard
module _ (position : ℕ) (old mid new : List HeldLane) (recent block : List ℤ)
    (each : (k : ℕ) (d : HeldLane) → k < 8 → HearsAlone k position recent block (get_or old k d) (get_or mid k d))
    (kept : (k : ℕ) (d : HeldLane) → k < 8 → (items : List Candidate) × ((get_or mid k d).heard ≡ Some items))
    (alike : LanesAreAlike new mid)
    (x : List ℤ) (size : length x ≡ position) (is : recent ≡ last_seven x) (stand : LanesStandFor old x) where
  pub each_stands : LanesStandFor new (x ++ block)
  each_stands k d small =
      let keeps = kept k d small in
      let there = (each k d small x keeps.0 keeps.1 size is (stand k d small)).0 in
      let same = alike k d small in
      record {
        before = same.before ∙ there.before;
        deframer =
            subst (λ t. DeframerStandsFor t (bits_of (tones_at k (x ++ block)))) (sym same.deframer) there.deframer;
      }

  pub each_keeps : LanesKeep position (x ++ block) mid
  each_keeps k d items small h = (each k d small x items h size is (stand k d small)).1

-- what the lanes heard in a block, gathered
pub gathered : {V E : Type 0} (items_of : V → List Candidate) (position : ℕ) (old mid new : List HeldLane)
    (recent after block : List ℤ)
    → ((k : ℕ) (d : HeldLane) → k < 8 → HearsAlone k position recent block (get_or old k d) (get_or mid k d))
    → ((x : List ℤ) → recent ≡ last_seven x → after ≡ last_seven (x ++ block))
    → (result : Result V E)
    → OnOk result ((k : ℕ) (d : HeldLane) → k < 8 → (items : List Candidate) × ((get_or mid k d).heard ≡ Some items))
    → OnOk result (LanesAreAlike new mid)
    → IfOk result (λ found. (at : ℕ) (x : List ℤ) → LanesKeep at x mid → AreCandidatesAfter at x (items_of found))
    → IfOk result (λ found. (x : List ℤ) → length x ≡ position → recent ≡ last_seven x → LanesStandFor old x
    → LanesStandFor new (x ++ block) × (after ≡ last_seven (x ++ block))
    × AreCandidatesAfter position (x ++ block) (items_of found))
gathered items_of position old mid new recent after block each last (Err e) kept alike are = tt
gathered items_of position old mid new recent after block each last (Ok found) kept alike are = λ x size is stand. (
  each_stands position old mid new recent block each kept alike x size is stand,
  last x is,
  are position (x ++ block) (each_keeps position old mid new recent block each kept alike x size is stand),
)

-- what can be put into a merger past a position can be put into one, and ends past it
can_all : (position : ℕ) (items : List Candidate) → All (CanBePutPast position) items → All CanBePut items
can_all position items h = All-weaker (CanBePutPast position) CanBePut (λ item fits. fits.can) items h

past_all : (position : ℕ) (items : List Candidate) → All (CanBePutPast position) items → AllPast position items
past_all position items h =
    All-weaker (CanBePutPast position) (λ item. position < item.end) (λ item fits. fits.past) items h

pub bounds_of : {V E : Type 0} (items_of : V → List Candidate) (position : ℕ) (result heard : Result V E)
    → result ≡ heard → IfOk heard (λ found. All (CanBePutPast position) (items_of found))
    → IfOk result (λ found. All CanBePut (items_of found))
bounds_of items_of position result heard same h =
    IfOk-weaker result (λ found. All (CanBePutPast position) (items_of found)) (λ found. All CanBePut (items_of found))
    (λ found fits. can_all position (items_of found) fits)
    (subst (λ r. IfOk r (λ found. All (CanBePutPast position) (items_of found))) (sym same) h)

pub past_of : {V E : Type 0} (items_of : V → List Candidate) (position : ℕ) (result heard : Result V E)
    → result ≡ heard → IfOk heard (λ found. All (CanBePutPast position) (items_of found))
    → IfOk result (λ found. AllPast position (items_of found))
past_of items_of position result heard same h =
    IfOk-weaker result (λ found. All (CanBePutPast position) (items_of found))
    (λ found. AllPast position (items_of found))
    (λ found fits. past_all position (items_of found) fits)
    (subst (λ r. IfOk r (λ found. All (CanBePutPast position) (items_of found))) (sym same) h)
