-- A lane with one bit more, and the lanes after each other.
use Rattle.sensitive_blocks.proofs.Common.{◌≡◌, ◌≢◌, ℕ, ◌+◌, ◌-◌, ◌%◌, ◌<◌, ◌≤◌, ℤ, List, [], ◌∷◌, ◌++◌}
use Rattle.sensitive_blocks.proofs.Common.{length, get_or, set, refl, ap, sym, ◌∙◌, subst, arith, inl, inr, cases_eq, cases_lt}
use Rattle.sensitive_blocks.proofs.Common.{lt-ltb, le-ltb, if◌then◌else◌, get_or-append-add, get_or_append_left}
use Rattle.sensitive_blocks.proofs.Common.{length_push, Tone, All, All-append, All-cons, All-nil, HeldLane, LaneHasRead}
use Rattle.sensitive_blocks.proofs.Common.{ends, lane_certainties, lane_tones}
use Rattle.std.proofs.Common.{get_or-set_same, get_or-set_other}
use Rattle.std.proofs.lemmas.List.{length-set}
use Rattle.fx25_receiver.specs.Held.{HeldLane as HeldTones, LaneStandsFor}
use Rattle.fx25_receiver.specs.Known.{KnowsNumbers}
use Rattle.sensitive_blocks.specs.Held.{LanesAreAt, LanesHaveRead, ends_taken}
use Rattle.sensitive_blocks.proofs.BitLemmas.{certainties-none, ends-none, tones-none}
use Rattle.sensitive_blocks.proofs.PrefixLemmas.{certainties-append, ends-append, tones-append}

-- ---- one lane

-- the end of one bit more is kept
pub kept_more : (kept ends : List ℕ) (next end : ℕ) → length kept ≡ 2048 → next ≡ length ends % 2048
    → ((i : ℕ) → i < length ends → length ends ≤ i + 2048 → get_or kept (i % 2048) 0 ≡ get_or ends i 0)
    → (i : ℕ) → i < length (ends ++ end ∷ []) → length (ends ++ end ∷ []) ≤ i + 2048
    → get_or (set kept next end) (i % 2048) 0 ≡ get_or (ends ++ end ∷ []) i 0
kept_more kept ends next end size next_is was i before near =
    let more = length_push ends end in
    elim (cases_lt i (length ends)) [
      | inl older ↦
          let other : i % 2048 ≢ next = (λ same. let e : i % 2048 ≡ next = same in
          let far : length ends < i + 2048 = omega arith in absurd (omega arith)) in
          get_or-set_other kept next (i % 2048) end 0 other ∙ was i older (omega arith)
          ∙ sym (get_or_append_left ends (end ∷ []) 0 i older)
      | inr last ↦
          let at : i ≡ length ends + 0 = omega arith in
          let here : i % 2048 ≡ next = (let e : i ≡ length ends = omega arith in ap (λ n. n % 2048) e ∙ sym next_is) in
          ap (λ k. get_or (set kept next end) k 0) here ∙ get_or-set_same kept next end 0 (omega arith)
          ∙ sym (ap (λ n. get_or (ends ++ end ∷ []) n 0) at ∙ get_or-append-add ends (end ∷ []) 0 0)
    ]

-- a lane that has read nothing
pub read_nothing : (held : HeldTones) (kept : List ℕ) → LaneStandsFor held [] → KnowsNumbers held.reader held.certainties []
    → length kept ≡ 2048 → LaneHasRead (record { lane = held; ends = kept; next = 0 }) [] [] []
read_nothing held kept stands knows size = record {
  tones_stand = stands;
  knows = knows;
  next_is = refl;
  size = size;
  kept = λ i before near. absurd (omega arith);
}

-- a lane with one bit more
pub read_more : (held now : HeldTones) (kept : List ℕ) (next end number : ℕ) (tone : Tone) (tones : List Tone)
    (numbers ends : List ℕ) → ((t : List Tone) → LaneStandsFor held t → LaneStandsFor now (t ++ tone ∷ []))
    → ((n : List ℕ) → KnowsNumbers held.reader held.certainties n → KnowsNumbers now.reader now.certainties (n ++ number ∷ []))
    → LaneHasRead (record { lane = held; ends = kept; next = next }) tones numbers ends
    → LaneHasRead (record { lane = now; ends = set kept next end; next = (next + 1) % 2048 }) (tones ++ tone ∷ [])
    (numbers ++ number ∷ []) (ends ++ end ∷ [])
read_more held now kept next end number tone tones numbers ends push know h =
    let next_is = h.next_is in
    record {
      tones_stand = push tones h.tones_stand;
      knows = know numbers h.knows;
      next_is = (let more = length_push ends end in omega arith);
      size = length-set kept next end ∙ h.size;
      kept = kept_more kept ends next end h.size next_is h.kept;
    }

-- where an earlier bit ended
pub ended : (held : HeldTones) (kept : List ℕ) (next back index : ℕ) (tones : List Tone) (numbers ends : List ℕ) → back < 2048
    → LaneHasRead (record { lane = held; ends = kept; next = next }) tones numbers ends → index + back + 1 ≡ length ends
    → get_or kept ((next + 4095 - back) % 2048) 0 ≡ get_or ends index 0
ended held kept next back index tones numbers ends near h at =
    let next_is = h.next_is in
    let place : (next + 4095 - back) % 2048 ≡ index % 2048 = omega arith in
    ap (λ k. get_or kept k 0) place ∙ h.kept index (omega arith) (omega arith)

-- ---- the lanes as they are made

-- so many lanes that have read nothing
pub record AreFresh (n : ℕ) (lanes : List HeldLane) : Type 0 where
  pub count : length lanes ≡ n
  pub each : All (λ lane. LaneHasRead lane [] [] []) lanes

pub fresh_more : (n : ℕ) (lanes : List HeldLane) (lane : HeldLane) → AreFresh n lanes → LaneHasRead lane [] [] []
    → AreFresh (n + 1) (lanes ++ lane ∷ [])
fresh_more n lanes lane h new =
    let count = h.count in
    record {
      count = omega (arith, length_push lanes lane);
      each = All-append (λ l. LaneHasRead l [] [] []) lanes (lane ∷ []) h.each
          (All-cons (λ l. LaneHasRead l [] [] []) lane [] new (All-nil (λ l. LaneHasRead l [] [] [])));
    }

-- below end 0 no lane has read a bit
pub fresh_read : (lanes : List HeldLane) (x : List ℤ) → length lanes ≡ 26 → All (λ lane. LaneHasRead lane [] [] []) lanes
    → LanesHaveRead lanes 0 x
fresh_read lanes x size fresh k d small =
    subst (λ t. LaneHasRead (get_or lanes k d) t (lane_certainties x k 0) (ends x k 0)) (sym (tones-none x k))
    (subst (λ n. LaneHasRead (get_or lanes k d) [] n (ends x k 0)) (sym (certainties-none x k))
    (subst (λ e. LaneHasRead (get_or lanes k d) [] [] e) (sym (ends-none x k)) (fresh k d (omega arith))))

-- ---- one lane after another

pub taken-below : (first end k : ℕ) → k < first → ends_taken first end k ≡ end + 1
taken-below first end k l = ap (λ b. if b then end + 1 else end) (lt-ltb k first l)

pub taken-from : (first end k : ℕ) → first ≤ k → ends_taken first end k ≡ end
taken-from first end k le = ap (λ b. if b then end + 1 else end) (le-ltb k first le)

taken-other : (n end k : ℕ) → k ≢ n → ends_taken (n + 1) end k ≡ ends_taken n end k
taken-other n end k ne = elim (cases_lt k n) [
  | inl lt ↦ taken-below (n + 1) end k (omega arith) ∙ sym (taken-below n end k lt)
  | inr ge ↦ taken-from (n + 1) end k (omega arith) ∙ sym (taken-from n end k ge)
]

abbrev HasReadTo : HeldLane → List ℤ → ℕ → ℕ → Type 0
HasReadTo lane x k count = LaneHasRead lane (lane_tones x k count) (lane_certainties x k count) (ends x k count)

pub lanes_before : (end : ℕ) (lanes : List HeldLane) (x : List ℤ) → LanesHaveRead lanes end x → LanesAreAt 0 lanes end x
lanes_before end lanes x h k d m = subst (HasReadTo (get_or lanes k d) x k) (sym (taken-from 0 end k (omega arith))) (h k d m)

pub lanes_after : (end : ℕ) (lanes : List HeldLane) (x : List ℤ) → LanesAreAt 26 lanes end x → LanesHaveRead lanes (end + 1) x
lanes_after end lanes x h k d m = subst (HasReadTo (get_or lanes k d) x k) (taken-below 26 end k m) (h k d m)

pub lane_before : (end n : ℕ) (lanes : List HeldLane) (was : HeldLane) (x : List ℤ) → n < 26 → LanesAreAt n lanes end x
    → LaneHasRead (get_or lanes n was) (lane_tones x n end) (lane_certainties x n end) (ends x n end)
lane_before end n lanes was x l h = subst (HasReadTo (get_or lanes n was) x n) (taken-from n end n (omega arith)) (h n was l)

pub lane_after : (end n : ℕ) (lanes : List HeldLane) (lane : HeldLane) (x : List ℤ) → length lanes ≡ 26 → n < 26
    → LaneHasRead lane (lane_tones x n (end + 1)) (lane_certainties x n (end + 1)) (ends x n (end + 1))
    → LanesAreAt n lanes end x
    → LanesAreAt (n + 1) (set lanes n lane) end x
lane_after end n lanes lane x size l now h k d m = elim (cases_eq k n) [
  | inl e ↦ subst (λ i. HasReadTo (get_or (set lanes n lane) i d) x i (ends_taken (n + 1) end i)) (sym e)
      (subst (λ t. HasReadTo t x n (ends_taken (n + 1) end n)) (sym (get_or-set_same lanes n lane d (omega arith)))
      (subst (HasReadTo lane x n) (sym (taken-below (n + 1) end n (omega arith))) now))
  | inr ne ↦ subst (λ t. HasReadTo t x k (ends_taken (n + 1) end k)) (sym (get_or-set_other lanes n k lane d ne))
      (subst (HasReadTo (get_or lanes k d) x k) (sym (taken-other n end k ne)) (h k d m))
]

-- ---- more samples

pub lanes-append : (lanes : List HeldLane) (x y : List ℤ) (next : ℕ) → next ≤ length x - 32 → LanesHaveRead lanes next x
    → LanesHaveRead lanes next (x ++ y)
lanes-append lanes x y next inside h k d small =
    let lane = get_or lanes k d in
    let all = x ++ y in
    subst (λ e. LaneHasRead lane (lane_tones all k next) (lane_certainties all k next) e) (ends-append x y k next small inside)
    (subst (λ n. LaneHasRead lane (lane_tones all k next) n (ends x k next)) (certainties-append x y k next small inside)
    (subst (λ t. LaneHasRead lane t (lane_certainties x k next) (ends x k next)) (tones-append x y k next small inside)
    (h k d small)))
