-- The names that most proofs of this crate cite, passed on from one place.
unfoldable pub use Rattle.reed_solomon.specs.Codeword.{whole_of}
pub use Rattle.reed_solomon.specs.Codeword.{IsCodeword, IsWithinReach, with_zeros}
unfoldable pub use Rattle.reed_solomon.specs.Distance.{distance}
unfoldable pub use Rattle.reed_solomon.specs.Field.{double, times_power}
pub use Rattle.reed_solomon.specs.Field.{power}
unfoldable pub use Rattle.reed_solomon.specs.Erasures.{blanked, count_true}
pub use Rattle.reed_solomon.specs.Erasures.{IsWithinReachOutside, distance_outside}
unfoldable pub use Rattle.reed_solomon.specs.Kernel.{dot, octet_before, values_down, weight_outside}
pub use Rattle.reed_solomon.specs.Kernel.{AddsMultiple, IsBasis, IsMultiple, IsWrong, Meet, marks, row, scaled}
unfoldable pub use Rattle.reed_solomon.specs.Product.{logarithm, product}
unfoldable pub use Rattle.reed_solomon.specs.Register.{generator_of, taken, with_root}
pub use Rattle.reed_solomon.specs.Register.{ChecksOf, added, whole, zeros_after, zeros_before}
unfoldable pub use Rattle.reed_solomon.specs.Values.{value_at}
pub use Rattle.reed_solomon.specs.Values.{Vanishes}
pub use Rattle.reed_solomon.specs.declared.code.Code.{Code}
pub use Rattle.reed_solomon.specs.declared.code.Zeros.{Zeros}
pub use Rattle.reed_solomon.specs.declared.code.Zeros.TheVariants.{Between, Leading}
pub use Rattle.std.proofs.Common.{All, Bool, List, [], ap, arith, bit_xor, cond, drop, eqb, false, get_or, inl, inr}
pub use Rattle.std.proofs.Common.{length, length-append, map, refl, replicate, set, subst, suc, sym, take, take_all}
pub use Rattle.std.proofs.Common.{true, zero, ℕ, ◌%◌, ◌*◌, ◌++◌, ◌+◌, ◌-◌, ◌/◌, ◌<◌, ◌∙◌, ◌∷◌, ◌≡◌, ◌≢◌, ◌≤◌}
pub use Rattle.std.proofs.lemmas.Bool.{cases_Bool, cases_eq, cases_lt, eq-eqb, false≢true, ne_eqb}
pub use Rattle.std.proofs.lemmas.List.{append-nil, append_assoc, drop_at, ext_get_or, get_or-set_other, get_or-set_same}
pub use Rattle.std.proofs.lemmas.List.{length-drop, length-map, length-replicate, length-take, take-append-drop}
pub use Rattle.std.proofs.lemmas.List.{take_at, take_more, take_rest}
pub use Rattle.std.proofs.lemmas.Nat.{xor_comm, xor_of_8}
pub use Rattle.std.specs.Int.Bits.{xor_assoc, xor_self, xor_zero_l, xor_zero_r}
pub use Rattle.std.specs.List.{fold}
