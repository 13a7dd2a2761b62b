-- A carrier of one flag, told from the last flag.
use Rattle.hdlc_framer.proofs.Common.{◌≡◌, ℕ, zero, suc, ◌+◌, ◌-◌, ◌<◌, ◌≤◌, Bool, true, false, List, [], ◌∷◌, ◌++◌}
use Rattle.hdlc_framer.proofs.Common.{length, get_or, take, ap, subst, ◌∙◌, sym, inl, inr, arith, length-append}
use Rattle.hdlc_framer.proofs.Common.{cases_lt, cases_eq, cases_Bool, true≢false, take_all, length-take-le, flag}
use Rattle.hdlc_framer.proofs.Common.{EndsFlag, line_after, IsQuiet, IsLost, HoldsCarrier}
use Rattle.std.proofs.Common.{◌⊎◌}
use Rattle.std.proofs.Math.Seq.{take-suc}
use Rattle.std.proofs.lemmas.List.{take-take}
use Rattle.hdlc_framer.specs.Carrier.{IsBusy}
use Rattle.hdlc_framer.proofs.FrameEnds.{ends_flag, ends_on_zero, no_flag_on_one}

-- a flag ends with a bit, or none does
flag_or_none : (bits : List Bool) (bit : Bool) → EndsFlag (bits ++ bit ∷ []) ⊎ (¬ EndsFlag (bits ++ bit ∷ []))
flag_or_none bits true = inr (no_flag_on_one bits)
flag_or_none bits false =
    elim (cases_eq (line_after bits).ones 6) [
      | inl six ↦
          elim (cases_Bool (line_after bits).after_zero) [
            | inl after ↦ inl (ends_flag bits (record { six = six; after_zero = after }))
            | inr first ↦ inr (λ ends. true≢false (sym (ends_on_zero bits ends).after_zero ∙ first))
          ]
      | inr other ↦ inr (λ ends. other (ends_on_zero bits ends).six)
    ]

-- the last flag that ends at or before a place
record LastFlag (bits : List Bool) (place : ℕ) : Type 0 where
  end : ℕ
  within : end ≤ place
  flag : EndsFlag (take end bits)
  last : (later : ℕ) → end < later → later ≤ place → ¬ EndsFlag (take later bits)

no_flag_before : (bits : List Bool) → ¬ EndsFlag (take 0 bits)
no_flag_before bits ends = omega (arith, ap length ends.1, length-append ends.0 flag)

last_flag : (bits : List Bool) (place : ℕ) → place ≤ length bits
    → ((end : ℕ) → end ≤ place → ¬ EndsFlag (take end bits)) ⊎ LastFlag bits place
last_flag bits zero within =
    inl (λ end early ends. let first : end ≡ 0 = omega arith in
    no_flag_before bits (subst (λ n. EndsFlag (take n bits)) first ends))
last_flag bits (suc place) within =
    let bit : Bool = get_or bits place false in
    let more : take (suc place) bits ≡ take place bits ++ bit ∷ [] = take-suc bits place false (omega arith) in
    elim (flag_or_none (take place bits) bit) [
      | inl here ↦ inr (record {
        end = suc place;
        within = omega arith;
        flag = subst EndsFlag (sym more) here;
        last = λ later following early. absurd (omega arith);
      })
      | inr none ↦
          let not_here : (end : ℕ) → end ≡ suc place → ¬ EndsFlag (take end bits)
          = λ end same ends. none (subst EndsFlag more (subst (λ n. EndsFlag (take n bits)) same ends)) in
          elim (last_flag bits place (omega arith)) [
            | inl never ↦ inl (λ end early ends. elim (cases_lt place end) [
              | inl past ↦ not_here end (omega arith) ends
              | inr before ↦ never end before ends
            ])
            | inr old ↦ inr (record {
              end = old.end;
              within = (let early = old.within in omega arith);
              flag = old.flag;
              last = λ later following early ends. elim (cases_lt place later) [
                | inl past ↦ not_here later (omega arith) ends
                | inr before ↦ old.last later following before ends
              ];
            })
          ]
    ]

-- 10,000 bits after the last flag a carrier is lost
lost_after : (bits : List Bool) (old : LastFlag bits (length bits)) → old.end + 10000 ≤ length bits
    → IsLost (take (length bits) bits)
lost_after bits old long =
    let quiet : IsQuiet bits = λ k few ends. old.last (length bits - k) (omega arith) (omega arith) ends in
    subst IsLost (sym (take_all (length bits) bits (omega arith))) (inr quiet)

pub busy_of_held : (bits : List Bool) → HoldsCarrier 1 bits → IsBusy bits
busy_of_held bits held =
    elim (last_flag bits (length bits) (omega arith)) [
      | inl never ↦ absurd (never held.place held.within held.found)
      | inr old ↦
          let order : held.place ≤ old.end = not_before old in
          record {
            place = old.end;
            within = old.within;
            flag = old.flag;
            last = old.last;
            no_abort = λ later following early abort. held.kept later (omega arith) early (inl abort);
            fewer = elim (cases_lt (length bits) (old.end + 10000)) [
              | inl few ↦ few
              | inr long ↦ absurd (held.kept (length bits) (omega arith) (omega arith) (lost_after bits old long))
            ];
          }
    ]
  where
    not_before : (old : LastFlag bits (length bits)) → held.place ≤ old.end
    not_before old = elim (cases_lt old.end held.place) [
      | inl past ↦ absurd (old.last held.place past held.within held.found)
      | inr early ↦ early
    ]

pub held_of_busy : (bits : List Bool) → IsBusy bits → HoldsCarrier 1 bits
held_of_busy bits busy = record {
  place = busy.place;
  within = busy.within;
  found = busy.flag;
  kept = λ later following early lost. not_lost later following early lost;
}
  where
    not_lost : (later : ℕ) → busy.place < later → later ≤ length bits → ¬ IsLost (take later bits)
    not_lost later following early (inl abort) = busy.no_abort later following early abort
    not_lost later following early (inr quiet) =
        let fewer = busy.fewer in
        let size : length (take later bits) ≡ later = length-take-le later bits early in
        let place : length (take later bits) - (later - busy.place) ≡ busy.place = omega arith in
        let same : take (length (take later bits) - (later - busy.place)) (take later bits) ≡ take busy.place bits
        = ap (λ n. take n (take later bits)) place ∙ take-take busy.place later bits (omega arith) in
        quiet (later - busy.place) (omega arith) (subst EndsFlag (sym same) busy.flag)
