-- How far the making of a text is, and what stands written where it stops.
use Rattle.tnc_engine.proofs.Common.{◌≡◌, ℕ, ◌+◌, ◌-◌, ◌<◌, ◌≤◌, List, [], ◌++◌, length, length-append, take, drop}
use Rattle.tnc_engine.proofs.Common.{append_assoc, Option, Some, None, Result, Ok, Err, inl, inr, refl, sym, subst, ap}
use Rattle.tnc_engine.proofs.Common.{◌∙◌, arith, lt-ltb, le-ltb, cases_lt, append-nil, option_or, if◌then◌else◌}
use Rattle.tnc_engine.proofs.Common.{Fault, Input, Memory, Read, Write, InputFault, TooLong, input_limit, WereRead}
use Rattle.tnc_engine.proofs.Common.{Making, IsMaking, Adds, Closes, fault_in, Wrote, WroteFront, IsTaken}
use Rattle.tnc_engine.proofs.Common.{IsFinished, IsEnded, EndedAtMemory}
use Rattle.std.proofs.Math.Seq.{drop-append-add, take-append-add}

-- so many octets of the whole were read and taken, and the text that they settle was written
pub record Progress (making : Making) (Holds : List ℕ → Type 0) (whole : List ℕ) (left was now : Option (List ℕ))
    (total : ℕ) : Type 0 where
  pub read : List ℕ
  pub taken : WereRead whole left read
  pub count : length read ≡ total
  pub holds : Holds read
  pub good : making.fault_so_far read ≡ None
  pub wrote : Wrote (making.Settles read) was now

-- the first of a list that has a first part
take_past : (n : ℕ) (first rest : List ℕ) → length first ≤ n
    → take n (first ++ rest) ≡ first ++ take (n - length first) rest
take_past n first rest fits = ap (λ k. take k (first ++ rest)) (omega arith)
    ∙ take-append-add first rest (n - length first)

-- the answers of calls
abbrev pub failed_read : Fault → Result ℕ Fault
failed_read e = Err e

-- ---- what was written

pub wrote_same : (Text : List ℕ → Type 0) (was mid now : Option (List ℕ)) → Wrote Text was mid → now ≡ mid
    → Wrote Text was now
wrote_same Text was mid now a same = record {
  text = a.text;
  is = a.is;
  written = λ before w. same ∙ a.written before w;
}

-- nothing
pub wrote_none : (Text : List ℕ → Type 0) (out : Option (List ℕ)) → Text [] → Wrote Text out out
wrote_none Text out is = record { text = []; is = is; written = λ before w. w ∙ ap Some (sym (append-nil before)) }

-- a text of other octets is one of these
pub wrote_as : (Text Other : List ℕ → Type 0) (was now : Option (List ℕ)) → ((text : List ℕ) → Text text → Other text)
    → Wrote Text was now → Wrote Other was now
wrote_as Text Other was now same a = record { text = a.text; is = same a.text a.is; written = a.written }

module _ (making : Making) where
  -- what more octets settle was written too
  pub wrote_all_more : (octets more : List ℕ) (was mid now : Option (List ℕ)) → Wrote (making.Settles octets) was mid
      → Wrote (Adds making octets more) mid now
      → Wrote (making.Settles (octets ++ more)) was now
  wrote_all_more octets more was mid now a b = record {
    text = a.text ++ b.text;
    is = b.is a.text a.is;
    written = λ before w. b.written (before ++ a.text) (a.written before w)
        ∙ ap Some (append_assoc before a.text b.text);
  }

  -- and at the end all that they make
  pub wrote_rest : (octets : List ℕ) (was mid now : Option (List ℕ)) → Wrote (making.Settles octets) was mid
      → Wrote (Closes making octets) mid now → Wrote (making.Makes octets) was now
  wrote_rest octets was mid now a b = record {
    text = a.text ++ b.text;
    is = b.is a.text a.is;
    written = λ before w. b.written (before ++ a.text) (a.written before w)
        ∙ ap Some (append_assoc before a.text b.text);
  }

module _ (making : Making) (laws : IsMaking making) where
  -- what octets settle begins what they make with whatever follows
  pub settled_begins : (octets more text part rest : List ℕ) → making.Settles octets text → text ≡ part ++ rest
      → making.Begins (octets ++ more) part
  settled_begins octets more text part rest settled parts = go (making.fault_so_far octets) refl
    where
      go : (found : Option InputFault) → making.fault_so_far octets ≡ found → making.Begins (octets ++ more) part
      go None is = laws.first octets more text part rest is settled parts
      go (Some fault) is = laws.last (octets ++ more) text part rest (laws.still octets more text fault is settled).1 parts

  module _ (Holds : List ℕ → Type 0) (whole : List ℕ) where
    pub progress_none : (left out : Option (List ℕ)) → left ≡ Some whole → Holds []
        → Progress making Holds whole left out out 0
    progress_none left out is holds = record {
      read = [];
      taken = record { rest = whole; parts = refl; left_over = is };
      count = refl;
      holds = holds;
      good = laws.good;
      wrote = wrote_none (making.Settles []) out laws.none;
    }

    module _ (most : ℕ) (left was mid : Option (List ℕ)) (total : ℕ) (p : Progress making Holds whole left was mid total)
        (few : total ≤ input_limit) where
      -- what was written, where memory ran out right after
      at_memory_here : (next now : Option (List ℕ)) → WereRead whole next p.read → now ≡ mid
          → EndedAtMemory making most whole next was now
      at_memory_here next now taken same = record {
        read = p.read;
        front = p.read;
        rest = [];
        taken = taken;
        parts = sym (append-nil p.read);
        few = omega arith;
        good = p.good;
        wrote = wrote_same (making.Settles p.read) was mid now p.wrote same;
      }

      -- ---- a read that does not give octets

      pub ended_reading : (next : Option (List ℕ)) (e : Fault)
          → ((octets : List ℕ) → left ≡ Some octets → failed_read e ≡ Err (Input TooLong)
          → (total ≡ input_limit) × (0 < length octets) × (next ≡ Some (drop 1 octets)))
          → (failed_read e ≡ Err Read → next ≡ left)
          → (failed_read e ≡ Err Write → ⊥)
          → (failed_read e ≡ Err Memory → ⊥)
          → ((fault : InputFault) → failed_read e ≡ Err (Input fault) → fault ≡ TooLong)
          → IsEnded making most whole next was mid (Err e)
      ended_reading next (Input fault) long kept write memory only =
          let same = only fault refl in
          let stop = long p.taken.rest p.taken.left_over (ap (λ f. failed_read (Input f)) same) in
          let full : length p.read ≡ input_limit = p.count ∙ stop.0 in
          let size : length whole ≡ length p.read + length p.taken.rest = ap length p.taken.parts
          ∙ length-append p.read p.taken.rest in
          let some = stop.1 in
          let first : take input_limit whole ≡ p.read =
          ap (take input_limit) p.taken.parts ∙ take_past input_limit p.read p.taken.rest (omega (arith, full))
          ∙ ap (λ n. p.read ++ take n p.taken.rest) (none_left full) ∙ append-nil p.read in
          record {
            bad = ap (λ b. if b then option_or (making.fault_so_far (take input_limit whole)) (Some TooLong)
                else making.fault_of whole) (lt-ltb input_limit (length whole) (omega (arith, full, size, some)))
                ∙ ap (λ o. option_or (making.fault_so_far o) (Some TooLong)) first
                ∙ ap (λ f. option_or f (Some TooLong)) p.good ∙ ap Some (sym same);
            wrote = λ short. absurd (omega (arith, full, size, some, short));
            wrote_of_many = λ over. subst (λ o. Wrote (making.Settles o) was mid) (sym first) p.wrote;
            stops = λ is. stop.2 ∙ ap Some (sym (ap (drop (input_limit + 1)) p.taken.parts
                ∙ ap (λ n. drop (n + 1) (p.read ++ p.taken.rest)) (sym full)
                ∙ drop-append-add p.read p.taken.rest 1));
          }
        where
          none_left : length p.read ≡ input_limit → input_limit - length p.read ≡ 0
          none_left full = omega (arith, full)
      ended_reading next Read long kept write memory only = record {
        read = p.read;
        taken = record { rest = p.taken.rest; parts = p.taken.parts; left_over = kept refl ∙ p.taken.left_over };
        good = p.good;
        wrote = p.wrote;
      }
      ended_reading next Write long kept write memory only = absurd (write refl)
      ended_reading next Memory long kept write memory only = absurd (memory refl)

      -- ---- a piece more

      module _ (piece rest : List ℕ) (next now : Option (List ℕ)) (parts : p.taken.rest ≡ piece ++ rest)
          (gone : next ≡ Some rest) where
        pub piece_read : WereRead whole next (p.read ++ piece)
        piece_read = record {
          rest = rest;
          parts = p.taken.parts ∙ ap (λ o. p.read ++ o) parts ∙ sym (append_assoc p.read piece rest);
          left_over = gone;
        }

        pub progress_more : (HoldsNext : List ℕ → Type 0) → HoldsNext (p.read ++ piece)
            → making.fault_so_far (p.read ++ piece) ≡ None → Wrote (Adds making p.read piece) mid now
            → Progress making HoldsNext whole next was now (total + length piece)
        progress_more HoldsNext holds good more = record {
          read = p.read ++ piece;
          taken = piece_read;
          count = length-append p.read piece ∙ ap (λ n. n + length piece) p.count;
          holds = holds;
          good = good;
          wrote = wrote_all_more making p.read piece was mid now p.wrote more;
        }

        at_memory : (out : Option (List ℕ)) → length piece ≤ most → WroteFront making p.read piece mid out
            → EndedAtMemory making most whole next was out
        at_memory out small f = record {
          read = p.read ++ piece;
          front = p.read ++ f.front;
          rest = f.rest;
          taken = piece_read;
          parts = ap (λ o. p.read ++ o) f.parts ∙ sym (append_assoc p.read f.front f.rest);
          few = (let size = ap length f.parts ∙ length-append f.front f.rest in omega (arith, size, small));
          good = f.good;
          wrote = wrote_all_more making p.read f.front was mid out p.wrote f.wrote;
        }

        pub ended_piece : length piece ≤ most → total + length piece ≤ input_limit → (e : Fault)
            → IsTaken making p.read piece mid now (Err e) → IsEnded making most whole next was now (Err e)
        unfolding piece_read at_memory wrote_all_more
        ended_piece small fits (Input fault) (bad, more) =
            let taken = piece_read in
            let wrote = wrote_all_more making p.read piece was mid now p.wrote more in
            let size : length (p.read ++ piece) ≡ total + length piece = length-append p.read piece
            ∙ ap (λ n. n + length piece) p.count in
            let first : take input_limit whole ≡ (p.read ++ piece) ++ take (input_limit - length (p.read ++ piece)) rest =
            ap (take input_limit) taken.parts ∙ take_past input_limit (p.read ++ piece) rest (omega (arith, size, fits)) in
            let early = laws.bad (p.read ++ piece) (take (input_limit - length (p.read ++ piece)) rest) fault bad in
            let late = laws.bad (p.read ++ piece) rest fault bad in
            record {
              bad = elim (cases_lt input_limit (length whole)) [
                | inl over ↦ ap (λ b. if b then option_or (making.fault_so_far (take input_limit whole)) (Some TooLong)
                    else making.fault_of whole) (lt-ltb input_limit (length whole) over)
                    ∙ ap (λ o. option_or (making.fault_so_far o) (Some TooLong)) first
                    ∙ ap (λ f. option_or f (Some TooLong)) early.0
                | inr short ↦ ap (λ b. if b then option_or (making.fault_so_far (take input_limit whole)) (Some TooLong)
                    else making.fault_of whole) (le-ltb input_limit (length whole) short)
                    ∙ ap making.fault_of taken.parts ∙ late.1
              ];
              wrote = λ short. subst (λ o. Wrote (making.Makes o) was now) (sym taken.parts)
                  (wrote_as (making.Settles (p.read ++ piece)) (making.Makes ((p.read ++ piece) ++ rest)) was now
                  (λ text settled. (laws.still (p.read ++ piece) rest text fault bad settled).1) wrote);
              wrote_of_many = λ over. subst (λ o. Wrote (making.Settles o) was now) (sym first)
                  (wrote_as (making.Settles (p.read ++ piece))
                  (making.Settles ((p.read ++ piece) ++ take (input_limit - length (p.read ++ piece)) rest)) was now
                  (λ text settled. (laws.still (p.read ++ piece) (take (input_limit - length (p.read ++ piece)) rest)
                  text fault bad settled).0) wrote);
              stops = λ is. absurd (laws.not_long (p.read ++ piece) fault bad is);
            }
        ended_piece small fits Memory f = at_memory now small f
        ended_piece small fits Read h = absurd h
        ended_piece small fits Write cut =
            let first : List ℕ = p.wrote.text in
            let front : List ℕ = cut.front.wrote.text in
            let begins : (after part more : List ℕ) → cut.next.text ≡ part ++ more
            → making.Begins ((p.read ++ piece) ++ after) ((first ++ front) ++ part) =
            λ after part more is. subst (making.Begins ((p.read ++ piece) ++ after)) (sym (append_assoc first front part))
            (cut.next.is first part more after p.wrote.is is) in
            let before = at_memory cut.mid small cut.front in
            record {
              read = before.read;
              front = before.front;
              rest = before.rest;
              taken = before.taken;
              parts = before.parts;
              few = before.few;
              good = before.good;
              early = first ++ front;
              settled = before.wrote.is;
              written = λ b w.
                  let part = cut.next.written (b ++ (first ++ front)) (before.wrote.written b w) in (
                    part.0,
                    subst (λ o. making.Begins o ((first ++ front) ++ part.0)) (append-nil (p.read ++ piece))
                        (begins [] part.0 part.1 part.2),
                    subst (λ o. making.Begins o ((first ++ front) ++ part.0)) (sym piece_read.parts)
                        (begins rest part.0 part.1 part.2),
                    part.3 ∙ ap Some (append_assoc b (first ++ front) part.0),
                  );
            }

      -- ---- the end of the input

      module _ (buffer rest : List ℕ) (next : Option (List ℕ)) (count : ℕ) (none : count ≡ 0)
          (parts : p.taken.rest ≡ take count buffer ++ rest) (gone : next ≡ Some rest) (last : count ≡ 0
          → rest ≡ []) where
        nothing_left : p.taken.rest ≡ []
        nothing_left = parts ∙ ap (λ n. take n buffer ++ rest) none ∙ last none

        all_read : p.read ≡ whole
        all_read = sym (p.taken.parts ∙ ap (λ o. p.read ++ o) nothing_left ∙ append-nil p.read)

        at_end : next ≡ Some []
        at_end = gone ∙ ap Some (last none)

        read_whole : WereRead whole next p.read
        read_whole = record { rest = []; parts = sym all_read ∙ sym (append-nil p.read); left_over = at_end }

        short_whole : length whole ≤ input_limit
        short_whole = (let size = ap length all_read in let read = p.count in omega (arith, size, read, few))

        fault_whole : fault_in making whole ≡ making.fault_of p.read
        fault_whole =
            ap (λ b. if b then option_or (making.fault_so_far (take input_limit whole)) (Some TooLong)
            else making.fault_of whole) (le-ltb input_limit (length whole) short_whole)
            ∙ ap making.fault_of (sym all_read)

        wrote_whole : (now : Option (List ℕ)) → Wrote (Closes making p.read) mid now → Wrote (making.Makes whole) was now
        wrote_whole now more = subst (λ o. Wrote (making.Makes o) was now) all_read
            (wrote_rest making p.read was mid now p.wrote more)

        pub ended_finish : (now : Option (List ℕ)) (r : Result (Unit {0}) Fault)
            → IsFinished making p.read mid now r → IsEnded making most whole next was now r
        unfolding at_memory_here wrote_same
        ended_finish now (Ok x) (good, more) = record {
          end = at_end;
          good = fault_whole ∙ good;
          wrote = wrote_whole now more;
        }
        ended_finish now (Err (Input fault)) (bad, more) = record {
          bad = fault_whole ∙ bad;
          wrote = λ short. wrote_whole now more;
          wrote_of_many = λ over. absurd (let short = short_whole in omega (arith, over, short));
          stops = λ is. absurd (laws.not_long_whole p.read fault bad is);
        }
        ended_finish now (Err Memory) same = at_memory_here next now read_whole same
        ended_finish now (Err Read) h = absurd h
        ended_finish now (Err Write) cut =
            let first : List ℕ = p.wrote.text in
            let begins : (part more : List ℕ) → cut.text ≡ part ++ more → making.Begins p.read (first ++ part) =
            λ part more is. laws.last p.read (first ++ cut.text) (first ++ part) more (cut.is first p.wrote.is)
            (ap (λ t. first ++ t) is ∙ sym (append_assoc first part more)) in
            record {
              read = p.read;
              front = p.read;
              rest = [];
              taken = read_whole;
              parts = sym (append-nil p.read);
              few = omega arith;
              good = p.good;
              early = first;
              settled = p.wrote.is;
              written = λ b w.
                  let part = cut.written (b ++ first) (p.wrote.written b w) in (
                    part.0,
                    begins part.0 part.1 part.2,
                    subst (λ o. making.Begins o (first ++ part.0)) all_read (begins part.0 part.1 part.2),
                    part.3 ∙ ap Some (append_assoc b first part.0),
                  );
            }
