-- Closing a ring: one reader after another is handed in.
use Rattle.sample_ring.proofs.Common.{◌≡◌, ℕ, suc, ◌+◌, List, [], ◌∷◌, ◌++◌, length, true, ap, ◌∙◌, sym, subst, arith}
use Rattle.sample_ring.proofs.Common.{ℤ, All, TableId, Reader, reader_ring, listed, StandsIn}
use Rattle.std.proofs.Common.{map, append_assoc}
use Rattle.sample_ring.specs.declared.history.History.{History}
use Rattle.sample_ring.specs.Ends.{history_ring, record_of, records_of}

-- the history keeps the records of the readers handed in, and `left` are still to come
pub record HasKept (ring : TableId) (len : ℕ) (list : List ℤ) (all : List Reader) (history : History)
    (left : List Reader) (fewer : ℕ) : Type 0 where
  pub same_ring : history_ring history ≡ ring
  pub same_list : listed history ≡ list
  pub records : records_of history ++ map record_of left ≡ map record_of all
  pub many : length left ≡ fewer
  pub belong : All (λ reader. reader_ring reader ≡ ring) left
  pub stand : All (StandsIn len list true) (records_of history)

pub has_kept_more : (ring : TableId) (len : ℕ) (list : List ℤ) (all : List Reader) (before after : History)
    (left rest : List Reader) (fewer less : ℕ) (reader : Reader) → HasKept ring len list all before left fewer
    → left ≡ reader ∷ rest → less + 1 ≡ fewer → history_ring after ≡ history_ring before → listed after ≡ listed before
    → records_of after ≡ records_of before ++ record_of reader ∷ []
    → All (StandsIn len (listed after) true) (records_of after) → HasKept ring len list all after rest less
has_kept_more ring len list all before after left rest fewer less reader h is count same_ring same_list kept stand =
    let many = h.many in
    let was : length left ≡ suc (length rest) = ap length is in
    record {
      same_ring = same_ring ∙ h.same_ring;
      same_list = same_list ∙ h.same_list;
      records = ap (λ l. l ++ map record_of rest) kept ∙ append_assoc (records_of before) (record_of reader ∷ [])
          (map record_of rest) ∙ ap (λ l. records_of before ++ map record_of l) (sym is) ∙ h.records;
      many = omega arith;
      belong = λ k d lt. subst (All (λ r. reader_ring r ≡ ring)) is h.belong (suc k) d (omega arith);
      stand = subst (λ l. All (StandsIn len l true) (records_of after)) (same_list ∙ h.same_list) stand;
    }
