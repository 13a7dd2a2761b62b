-- A bank of added lanes with a piece of samples more.
use Rattle.sensitive_receiver.proofs.Common.{◌≡◌, ℕ, ◌+◌, ◌-◌, ◌<◌, ◌≤◌, ◌^◌, ℤ, List, [], ◌∷◌, ◌++◌, length, get_or}
use Rattle.sensitive_receiver.proofs.Common.{sym, subst, ◌∙◌, arith, inl, inr, append_assoc, append-nil}
use Rattle.sensitive_receiver.proofs.Common.{length-append, cases_lt, Candidate, All, All-append, All-nil, All-weaker}
use Rattle.sensitive_receiver.proofs.Common.{Reach, Near, Far, Alone, IsSlowOn, added_places, HeldList, AreAddedBetween, AreAddedIn}
use Rattle.sensitive_receiver.proofs.Common.{HasRead, HasRoomFrom}
use Rattle.tone_tracking.specs.declared.place_tones.PlaceTones.{PlaceTones}
use Rattle.tone_tracking.specs.HeldLine.{HeldLine, HasTaken as LineHasTaken, TakesBlock as LineTakesBlock, decided_in}
use Rattle.sensitive_receiver.specs.FastLane.{FastHasRead}
use Rattle.sensitive_receiver.specs.FiveBanks.{AllReadLine, AreAt, HaveRead, HaveRoom, HeldBanks}
use Rattle.sensitive_receiver.specs.FixedLanes.{FixedHasRead}
use Rattle.sensitive_receiver.specs.Found.{AreAddedWhere, HasRoom, IsAddedFrom}
use Rattle.sensitive_receiver.specs.HeardBlock.{HearsBlock}
use Rattle.sensitive_receiver.specs.Hearing.{AreTonesOf, ReadsLine}
use Rattle.sensitive_receiver.specs.HeldLanes.{HeldBank, StandsFor, bank_of}
use Rattle.sensitive_receiver.proofs.FoundLemmas.{where_join, where_none}
use Rattle.sensitive_receiver.proofs.PrefixLanes.{ends-append, ends-take, fast_read-append, fixed_read-append, list_read-append}

-- ---- what the banks find, joined

-- items of some places, of the lanes below one
abbrev IsBelow : ℕ → ℕ → ℕ → ℕ → ℕ → Type 0
IsBelow from to n p l = ((from ≤ p) × (p < to)) × (l < n)

-- and of the lanes that follow
next_join : (from to m n : ℕ) (Next : ℕ → Type 0) (x : List ℤ) (items more : List Candidate) → m ≤ n
    → ((l : ℕ) → Next l → (m ≤ l) × (l < n)) → ((l : ℕ) → m ≤ l → l < n → Next l)
    → AreAddedWhere (IsBelow from to m) x items → AreAddedWhere (λ p l. ((from ≤ p) × (p < to)) × Next l) x more
    → AreAddedWhere (IsBelow from to n) x (items ++ more)
next_join from to m n Next x items more le inside is a b =
    where_join (IsBelow from to m) (λ p l. ((from ≤ p) × (p < to)) × Next l) (IsBelow from to n) x items more a b
    (λ p l h. (h.0, (let small = h.1 in omega arith)))
    (λ p l h. (h.0, (inside l h.1).1))
    (λ p l h. elim (cases_lt l m) [ inl low ↦ inl (h.0, low) | inr high ↦ inr (h.0, is l high h.1) ])
    (λ p l h k. let small = h.1 in let least = (inside l k.1).0 in omega arith)

-- no other lane adds anything
all_below : (from to : ℕ) (x : List ℤ) (items : List Candidate) → AreAddedWhere (IsBelow from to 26) x items
    → AreAddedBetween from to x items
all_below from to x items a = record {
  each = λ k d l. let e = a.each k d l in (e.0, e.1.0, e.2);
  whole = λ item place of ends. a.whole item place (of, ends.most) ends;
  apart = a.apart;
}

banks_join : (from to : ℕ) (x : List ℤ) (fixed near far fast alone : List Candidate)
    → AreAddedWhere (IsBelow from to 16) x fixed
    → AreAddedIn Near from to x near → AreAddedIn Far from to x far
    → AreAddedWhere (λ p l. ((from ≤ p) × (p < to)) × (l ≡ 22)) x fast → AreAddedIn Alone from to x alone
    → AreAddedBetween from to x ((((fixed ++ near) ++ far) ++ fast) ++ alone)
banks_join from to x fixed near far fast alone i n f q a =
    let some = next_join from to 16 19 (IsSlowOn Near) x fixed near (omega arith)
    (λ l h. (h.0, h.1)) (λ l least most. (least, most)) i n in
    let more = next_join from to 19 22 (IsSlowOn Far) x (fixed ++ near) far (omega arith)
    (λ l h. (h.0, h.1)) (λ l least most. (least, most)) some f in
    let most = next_join from to 22 23 (λ l. l ≡ 22) x ((fixed ++ near) ++ far) fast (omega arith)
    (λ l h. (omega arith, omega arith)) (λ l least most. omega arith) more q in
    all_below from to x ((((fixed ++ near) ++ far) ++ fast) ++ alone)
    (next_join from to 23 26 (IsSlowOn Alone) x (((fixed ++ near) ++ far) ++ fast) alone (omega arith)
    (λ l h. (h.0, h.1)) (λ l least most. (least, most)) most a)

-- what is found of the first samples is found of all
found-append : (x y : List ℤ) (from to : ℕ) (items : List Candidate) → to ≤ added_places (length x)
    → AreAddedBetween from to x items → AreAddedBetween from to (x ++ y) items
found-append x y from to items inside a = record {
  each = λ k d l.
      let e = a.each k d l in
      let below = e.1.1 in
      (e.0, e.1, ends-append x y (get_or items k d) e.0 (omega arith) e.2);
  whole = λ item place of ends.
      let below = of.1 in
      a.whole item place of (ends-take x y item place (omega arith) ends);
  apart = a.apart;
}

-- and what follows it is joined to it
found_more : (x y : List ℤ) (from middle to : ℕ) (items more : List Candidate) → from ≤ middle → middle ≤ to
    → middle ≤ added_places (length x) → AreAddedBetween from middle x items
    → AreAddedBetween middle to (x ++ y) more → AreAddedBetween from to (x ++ y) (items ++ more)
found_more x y from middle to items more le le' inside a b =
    where_join (λ p l. (from ≤ p) × (p < middle)) (λ p l. (middle ≤ p) × (p < to)) (λ p l. (from ≤ p) × (p < to)) (x ++ y)
    items more (found-append x y from middle items inside a) b
    (λ p l h. (h.0, (let high = h.1 in omega arith))) (λ p l h. ((let low = h.0 in omega arith), h.1))
    (λ p l h. elim (cases_lt p middle) [ inl lt ↦ inl (h.0, lt) | inr ge ↦ inr (ge, h.1) ])
    (λ p l h k. let high = h.1 in let low = k.0 in omega arith)

-- ---- one piece

-- what all banks hear has room
all_bounds : (place low : ℕ) (old new : HeldBanks) (row : List PlaceTones) (items : List Candidate)
    → AreAt place old → low ≤ place + 6 → AllReadLine old new row items → All (HasRoomFrom low) items
all_bounds place low old new row items at le reads =
    let P : Candidate → Type 0 = HasRoomFrom low in
    let weaker : (from : ℕ) (some : List Candidate) → from ≡ place → All (HasRoomFrom (from + 6)) some → All P some
    = λ from some is all k d l.
    let one = all k d l in
    let end = one.from.end in
    record { room = one.room; from = record { lane = one.from.lane; end = omega arith } } in
    let i = reads.fixed_heard in
    let n = reads.near_heard in
    let f = reads.far_heard in
    let q = reads.fast_heard in
    subst (All P) (sym reads.joined)
    (All-append P (((i ++ n) ++ f) ++ q) reads.alone_heard
    (All-append P ((i ++ n) ++ f) q
    (All-append P (i ++ n) f
    (All-append P i n
    (weaker old.fixed.place i at.fixed_place reads.fixed_reads.bounds)
    (weaker old.near.ring.place n at.near_place reads.near_reads.bounds))
    (weaker old.far.ring.place f at.far_place reads.far_reads.bounds))
    (weaker old.fast.ring.place q at.fast_place reads.fast_reads.bounds))
    (weaker old.alone.ring.place reads.alone_heard at.alone_place reads.alone_reads.bounds))

-- where the banks are when they have read a line
all_at : (place count : ℕ) (old new : HeldBanks) (row : List PlaceTones) (items : List Candidate)
    → AreAt place old → count ≡ place + length row → AllReadLine old new row items → AreAt count new
all_at place count old new row items at is reads =
    let next : (was now : HeldList) (heard : List Candidate) → was.ring.place ≡ place → ReadsLine was now row heard
    → now.ring.place ≡ count
    = λ was now heard here line. let end = line.place in omega arith in
    let fixed_here = at.fixed_place in
    let fixed_end = reads.fixed_reads.place in
    let fast_here = at.fast_place in
    let fast_end = reads.fast_reads.place in
    record {
      near_list = reads.near_reads.list ∙ at.near_list;
      far_list = reads.far_reads.list ∙ at.far_list;
      alone_list = reads.alone_reads.list ∙ at.alone_list;
      fixed_place = omega arith;
      near_place = next old.near new.near reads.near_heard at.near_place reads.near_reads;
      far_place = next old.far new.far reads.far_heard at.far_place reads.far_reads;
      fast_place = omega arith;
      alone_place = next old.alone new.alone reads.alone_heard at.alone_place reads.alone_reads;
    }

-- items that have room, and are late enough
have_room : (low : ℕ) (items : List Candidate) → All (HasRoomFrom low) items → All HasRoom items
have_room low items all = All-weaker (HasRoomFrom low) HasRoom (λ item one. one.room) items all

are_late : (low : ℕ) (items : List Candidate) → All (HasRoomFrom low) items → All (IsAddedFrom low) items
are_late low items all = All-weaker (HasRoomFrom low) (IsAddedFrom low) (λ item one. one.from) items all

-- the banks read the line of a piece, by the samples with it
module _ (line : HeldLine) (old new : HeldBanks) (row : List PlaceTones) (piece : List ℤ)
    (items : List Candidate) (x : List ℤ)
    (first : line.first ≡ added_places (length x))
    (taken : LineHasTaken line (x ++ piece))
    (are : AreTonesOf line.first row (x ++ piece))
    (size : line.first + length row ≡ decided_in line.count)
    (reads : AllReadLine old new row items)
    (at : AreAt (added_places (length x)) old)
    (read : HaveRead old x) where
  abbrev now : List ℤ
  now = x ++ piece

  abbrev from : ℕ
  from = added_places (length x)

  abbrev to : ℕ
  to = added_places (length now)

  row_at : (place : ℕ) → place ≡ from → AreTonesOf place row now
  row_at place is = subst (λ p. AreTonesOf p row now) (first ∙ sym is) are

  reach_to : to ≡ from + length row
  reach_to =
      let count = taken.count in
      let more = length-append x piece in
      omega arith

  pub row_at_end : AreAt to new
  row_at_end = all_at from to old new row items at reach_to reads

  were : (held : HeldList) → held.ring.place ≡ from → HasRead held x → HasRead held now
  were held is before = list_read-append x piece held is before

  fixed_were : FixedHasRead old.fixed now
  fixed_were = fixed_read-append x piece old.fixed at.fixed_place read.fixed_read

  fast_were : FastHasRead old.fast now
  fast_were = fast_read-append x piece old.fast at.fast_place read.fast_read

  pub row_read : HaveRead new now
  row_read = record {
    fixed_read = reads.fixed_reads.read now (row_at old.fixed.place at.fixed_place) fixed_were;
    near_read = reads.near_reads.read now (row_at old.near.ring.place at.near_place)
        (were old.near at.near_place read.near_read);
    far_read = reads.far_reads.read now (row_at old.far.ring.place at.far_place)
        (were old.far at.far_place read.far_read);
    fast_read = reads.fast_reads.read now (row_at old.fast.ring.place at.fast_place) fast_were;
    alone_read = reads.alone_reads.read now (row_at old.alone.ring.place at.alone_place)
        (were old.alone at.alone_place read.alone_read);
  }

  list_found : (reach : Reach) (was held : HeldList) (heard : List Candidate) → ReadsLine was held row heard
      → was.ring.place ≡ from → was.ring.reach ≡ reach → held.ring.place ≡ to → HasRead was x
      → AreAddedIn reach from to now heard
  list_found reach was held heard line_read place_is list_is end_is before =
      subst (λ r. AreAddedIn r from to now heard) list_is
      (subst (λ p. AreAddedIn was.ring.reach p to now heard) place_is
      (subst (λ p. AreAddedIn was.ring.reach was.ring.place p now heard) end_is
      (line_read.found now (row_at was.ring.place place_is) (were was place_is before))))

  -- what lanes of some kind find, by where their bank was and is
  kind_found : (Kind : ℕ → Type 0) (was is : ℕ) (heard : List Candidate) → was ≡ from → is ≡ to
      → AreAddedWhere (λ p l. ((was ≤ p) × (p < is)) × Kind l) now heard
      → AreAddedWhere (λ p l. ((from ≤ p) × (p < to)) × Kind l) now heard
  kind_found Kind was is heard start end found =
      let Found : ℕ → ℕ → Type 0 = λ low high. AreAddedWhere (λ p l. ((low ≤ p) × (p < high)) × Kind l) now heard in
      subst (λ p. Found p to) start (subst (Found was) end found)

  pub row_found : AreAddedBetween from to now items
  row_found =
      let end = row_at_end in
      subst (AreAddedBetween from to now) (sym reads.joined)
      (banks_join from to now reads.fixed_heard reads.near_heard reads.far_heard reads.fast_heard reads.alone_heard
      (kind_found (λ l. l < 16) old.fixed.place new.fixed.place reads.fixed_heard at.fixed_place end.fixed_place
      (reads.fixed_reads.found now (row_at old.fixed.place at.fixed_place) fixed_were))
      (list_found Near old.near new.near reads.near_heard reads.near_reads at.near_place at.near_list end.near_place
      read.near_read)
      (list_found Far old.far new.far reads.far_heard reads.far_reads at.far_place at.far_list end.far_place
      read.far_read)
      (kind_found (λ l. l ≡ 22) old.fast.ring.place new.fast.ring.place reads.fast_heard at.fast_place end.fast_place
      (reads.fast_reads.found now (row_at old.fast.ring.place at.fast_place) fast_were))
      (list_found Alone old.alone new.alone reads.alone_heard reads.alone_reads at.alone_place at.alone_list
      end.alone_place read.alone_read))

-- the line that a piece makes is read
piece_fed : (old line : HeldLine) (was banks : HeldBanks) (row : List PlaceTones) (piece : List ℤ)
    (items : List Candidate) (x : List ℤ)
    → ((y : List ℤ) → LineHasTaken old y → LineHasTaken line (y ++ piece))
    → line.first ≡ decided_in old.count
    → ((y : List ℤ) → LineHasTaken line y → AreTonesOf line.first row y)
    → line.first + length row ≡ decided_in line.count
    → AllReadLine was banks row items
    → StandsFor (bank_of old was) x
    → StandsFor (bank_of line banks) (x ++ piece)
    × AreAddedBetween (added_places (length x)) (added_places (length (x ++ piece))) (x ++ piece) items
piece_fed old line was banks row piece items x stands first are size reads h =
    let taken = stands x h.line in
    let count = h.line.count in
    let here : line.first ≡ added_places (length x) = omega arith in
    let row_are = are (x ++ piece) taken in (
      record {
        position = taken.count;
        line = taken;
        at = row_at_end line was banks row piece items x here taken row_are size reads h.at h.read;
        read = row_read line was banks row piece items x here taken row_are size reads h.at h.read;
      },
      row_found line was banks row piece items x here taken row_are size reads h.at h.read,
    )

-- ---- piece after piece

-- what was found so far of a block, and where the banks are then
pub record HasFed (initial later : HeldBank) (done : List ℤ) (items : List Candidate) : Type 0 where
  pub heard : HearsBlock initial later done items
  pub at : AreAt (decided_in later.line.count) later.banks

-- the line that a piece makes is read, so the piece is heard
pub piece_heard : (old line : HeldLine) (was banks : HeldBanks) (row : List PlaceTones) (piece : List ℤ)
    (items : List Candidate)
    → LineTakesBlock old line piece
    → ((y : List ℤ) → LineHasTaken line y → AreTonesOf line.first row y)
    → line.first + length row ≡ decided_in line.count
    → AllReadLine was banks row items
    → AreAt (decided_in old.count) was
    → HasFed (bank_of old was) (bank_of line banks) piece items
piece_heard old line was banks row piece items takes are size reads at =
    let low : ℕ = old.count - 32 in
    let count = takes.count in
    let first = takes.first in
    let bounds = all_bounds (decided_in old.count) low was banks row items at (omega arith) reads in
    record {
      heard = record {
        found = λ x h. piece_fed old line was banks row piece items x takes.has_taken takes.first are size reads h;
        bounds = have_room low items bounds;
        late = are_late low items bounds;
        position = takes.count;
      };
      at = all_at (decided_in old.count) (decided_in line.count) was banks row items at (omega arith) reads;
    }

pub fed_none : (initial : HeldBank) → AreAt (decided_in initial.line.count) initial.banks
    → HasFed initial initial [] []
fed_none initial at = record {
  heard = record {
    found = λ x h.
        let from = added_places (length x) in
        subst (λ y. StandsFor initial y × AreAddedBetween from (added_places (length y)) y []) (sym (append-nil x)) (
          h,
          where_none (λ p l. (from ≤ p) × (p < from)) x
              (λ item place of ends. let low = of.0 in let high = of.1 in absurd (omega arith)),
        );
    bounds = All-nil HasRoom;
    late = All-nil (IsAddedFrom (initial.position - 32));
    position = omega arith;
  };
  at = at;
}

pub fed_more : (initial was later : HeldBank) (done piece : List ℤ) (items more : List Candidate)
    → HasFed initial was done items → HasFed was later piece more
    → HasFed initial later (done ++ piece) (items ++ more)
fed_more initial was later done piece items more h next =
    let at = h.heard.position in
    let end = next.heard.position in
    let size = length-append done piece in
    let P : Candidate → Type 0 = IsAddedFrom (initial.position - 32) in
    record {
      heard = record {
        found = λ x start.
            let from = added_places (length x) in
            let middle = h.heard.found x start in
            let last = next.heard.found (x ++ done) middle.0 in
            let first = length-append x done in
            let second = length-append (x ++ done) piece in
            subst (λ y. StandsFor later y × AreAddedBetween from (added_places (length y)) y (items ++ more))
            (append_assoc x done piece) (
              last.0,
              found_more (x ++ done) piece from (added_places (length (x ++ done)))
                  (added_places (length ((x ++ done) ++ piece))) items more (omega arith) (omega arith) (omega arith)
                  middle.1 last.1,
            );
        bounds = All-append HasRoom items more h.heard.bounds next.heard.bounds;
        late = All-append P items more h.heard.late (λ k d l.
            let one = next.heard.late k d l in
            let low = one.end in
            record { lane = one.lane; end = omega arith });
        position = omega arith;
      };
      at = next.at;
    }

-- nothing is left, so all is done
pub all_done : (done rest block : List ℤ) → done ++ rest ≡ block → length rest ≡ 0 → done ≡ block
all_done done [] block is none = sym (append-nil done) ∙ is
all_done done (x ∷ rest) block is none = absurd (omega arith)

-- each bank has room for the line of a piece
pub row_room : (old line : HeldLine) (banks : HeldBanks) (row : List PlaceTones) (piece : List ℤ)
    → LineTakesBlock old line piece → line.first + length row ≡ decided_in line.count
    → old.count + length piece < 2 ^ 48 → AreAt (decided_in old.count) banks → HaveRoom (length row) banks
row_room old line banks row piece takes size room at =
    let count = takes.count in
    let first = takes.first in
    let here : (place : ℕ) → place ≡ decided_in old.count → place + length row < 2 ^ 48 = λ place is. omega arith in
    record {
      fixed = here banks.fixed.place at.fixed_place;
      near = here banks.near.ring.place at.near_place;
      far = here banks.far.ring.place at.far_place;
      fast = here banks.fast.ring.place at.fast_place;
      alone = here banks.alone.ring.place at.alone_place;
    }
