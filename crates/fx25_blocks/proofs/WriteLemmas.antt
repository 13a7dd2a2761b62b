-- From the line of a frame to its unit.
use Rattle.fx25_blocks.proofs.Common.{◌≡◌, ℕ, zero, suc, ◌+◌, ◌-◌, ◌*◌, ◌≤◌, Bool, List, [], ◌∷◌, ◌++◌, length, take}
use Rattle.fx25_blocks.proofs.Common.{refl, ap, ◌∙◌, sym, arith, append_assoc, length-append, take-append-le}
use Rattle.fx25_blocks.proofs.Common.{flag, flags, frame_bits, bits_needed, padded, data_bits, data_count, IsTagFor}
use Rattle.fx25_blocks.proofs.Common.{IsWritten, IsBlockUnit}

length-flags : (count : ℕ) → length (flags count) ≡ 8 * count
length-flags zero = refl
length-flags (suc count) = omega (arith, length-append flag (flags count), length-flags count)

flags-add : (m n : ℕ) → flags (m + n) ≡ flags m ++ flags n
flags-add zero n = ap flags (omega arith)
flags-add (suc m) n =
    let next : suc m + n ≡ suc (m + n) = omega arith in
    ap flags next ∙ ap (λ xs. flag ++ xs) (flags-add m n) ∙ sym (append_assoc flag (flags m) (flags n))

pub length-padded : (frame : List ℕ) (count : ℕ) → length (padded frame count) + 8 ≡ bits_needed frame + 8 * count
unfolding padded
length-padded frame count = omega (
  arith,
  length-append flag (frame_bits frame ++ flags count),
  length-append (frame_bits frame) (flags count),
  length-flags count,
)

-- more flags after the frame change none of the first bits
pub padded_front : (frame : List ℕ) (count more : ℕ) → count ≤ more
    → take (8 * count) (padded frame more) ≡ take (8 * count) (padded frame count)
unfolding padded
padded_front frame count more most =
    let xs = frame_bits frame in
    let cut : more ≡ count + (more - count) = omega arith in
    let size : 8 * count ≤ length (flag ++ (xs ++ flags count)) = omega (
      arith,
      length-append flag (xs ++ flags count),
      length-append xs (flags count),
      length-flags count,
    ) in
    ap (λ n. take (8 * count) (flag ++ (xs ++ flags n))) cut
    ∙ ap (λ zs. take (8 * count) (flag ++ (xs ++ zs))) (flags-add count (more - count))
    ∙ ap (λ zs. take (8 * count) (flag ++ zs)) (sym (append_assoc xs (flags count) (flags (more - count))))
    ∙ ap (take (8 * count)) (sym (append_assoc flag (xs ++ flags count) (flags (more - count))))
    ∙ take-append-le (8 * count) (flag ++ (xs ++ flags count)) (flags (more - count)) size

pub unit_written : (checks tag : ℕ) (frame : List ℕ) (bits : List Bool) → data_count tag ≤ 239
    → IsTagFor checks (bits_needed frame) tag → IsWritten tag (take (8 * data_count tag) (padded frame 239)) bits
    → IsBlockUnit checks frame bits
unfolding data_bits
unit_written checks tag frame bits most tag_for written = record {
  tag = tag;
  block = written.block;
  tag_for = tag_for;
  block_of = record {
    fits = tag_for.fits;
    size = written.carries.size;
    octets = written.carries.octets;
    carried = written.carries.carried ∙ padded_front frame (data_count tag) 239 most;
    codeword = written.carries.codeword;
  };
  bits_are = written.bits_are;
}
