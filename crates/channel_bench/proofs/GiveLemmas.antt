-- A host program gives the next piece of its text, or nothing.
use Rattle.channel_bench.proofs.Common.{◌≡◌, ℕ, Bool, true, false, List, Option, Some, None, refl, sym, ap, ◌∙◌, subst}
use Rattle.channel_bench.proofs.Common.{MatchBool, ◌↔◌, IsTrue, End, Shared, Side, BenchWords, Near, AcceptsProgram}
use Rattle.channel_bench.proofs.Common.{IsGiven, IsGivenPiece, Says, with_giving, StandsForNear, ProgramState}
use Rattle.channel_bench.proofs.Common.{data_octets, next_piece, text_at}
use Rattle.channel_bench.specs.HostProgram.{giving}
use Rattle.channel_bench.proofs.SideLemmas.{KeepsAllElse, stands_program}

module _ (w : BenchWords) (end : End) (n next : Near) (accepts : Bool)
    (exactly : IsTrue accepts ↔ AcceptsProgram n.side) where
  -- the station does not take it
  pub given_no : accepts ≡ false → IsGiven w end n n
  given_no is = record {
    accepts = accepts;
    exactly = exactly;
    given = subst (λ b. MatchBool b (IsGivenPiece end (next_piece (text_at w end) n.side.program.running) n n)
        (n ≡ n)) (sym is) refl;
  }

  -- there is nothing to give
  pub given_none : accepts ≡ true → next_piece (text_at w end) n.side.program.running ≡ None → IsGiven w end n n
  given_none is none = record {
    accepts = accepts;
    exactly = exactly;
    given = subst (λ b. MatchBool b (IsGivenPiece end (next_piece (text_at w end) n.side.program.running) n n)
        (n ≡ n)) (sym is)
        (subst (λ p. IsGivenPiece end p n n) (sym none) refl);
  }

  -- a piece is given
  pub given_yes : (octets : List ℕ) → accepts ≡ true → next_piece (text_at w end) n.side.program.running ≡ Some octets
      → Says end (data_octets end octets) (with_giving octets n) next → IsGiven w end n next
  given_yes octets is some said = record {
    accepts = accepts;
    exactly = exactly;
    given = subst (λ b. MatchBool b (IsGivenPiece end (next_piece (text_at w end) n.side.program.running) n next)
        (next ≡ n)) (sym is)
        (subst (λ p. IsGivenPiece end p n next) (sym some) said);
  }

-- the next piece of the text, by what the code keeps of the program
pub piece_is : (w : BenchWords) (end : End) (n : Near) (held : ProgramState) (text : List ℕ) (piece : Option (List ℕ))
    → text ≡ text_at w end
    → held ≡ n.side.program → piece ≡ next_piece text held.running
    → next_piece (text_at w end) n.side.program.running ≡ piece
piece_is w end n held text piece is same next =
    sym (next ∙ ap (λ t. next_piece t held.running) is
    ∙ ap (λ (p : ProgramState). next_piece (text_at w end) p.running) same)

-- what the code keeps, with a piece given
pub stands_giving : (end : End) (before after : Side) (shared : Shared) (n : Near) (octets : List ℕ)
    → StandsForNear end before shared n
    → KeepsAllElse before after → after.program ≡ giving octets before.program
    → StandsForNear end after shared (with_giving octets n)
stands_giving end before after shared n octets h same given = record {
  side_is = stands_program end before after n.side (giving octets n.side.program) h.side_is same
      (given ∙ ap (giving octets) h.side_is.program);
  shared_is = h.shared_is;
}
