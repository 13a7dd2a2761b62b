-- The names that most proofs of this crate cite, passed on from one place.
pub use Rattle.fx25_blocks.specs.Blocks.{Fits, IsBlockCodeword, IsBlockOf, bits_needed}
unfoldable pub use Rattle.fx25_blocks.specs.Blocks.{data_bits, padded}
pub use Rattle.fx25_blocks.specs.Tags.{IsTag, block_length, tag_bits}
unfoldable pub use Rattle.fx25_blocks.specs.Tags.{check_count, data_count}
pub use Rattle.fx25_blocks.specs.Units.{IsBlockUnit, IsTagFor, IsUnit}
pub use Rattle.hdlc_framer.specs.BitOrder.{low_bits, number_of, sent_bits}
unfoldable pub use Rattle.hdlc_framer.specs.BitOrder.{octet_bits}
pub use Rattle.hdlc_framer.specs.Body.{flags}
unfoldable pub use Rattle.hdlc_framer.specs.Body.{body}
pub use Rattle.hdlc_framer.specs.Stuffing.{flag}
unfoldable pub use Rattle.reed_solomon.specs.Codeword.{whole_of}
unfoldable pub use Rattle.reed_solomon.specs.Register.{generator_of}
unfoldable pub use Rattle.reed_solomon.specs.Register.{taken}
pub use Rattle.reed_solomon.specs.Values.{Vanishes}
pub use Rattle.reed_solomon.specs.declared.code.Code.{Code}
pub use Rattle.reed_solomon.specs.declared.code.Zeros.TheVariants.{Between}
pub use Rattle.fx25_sender.specs.Units.{block_octets, octets_of, unit_with}
unfoldable pub use Rattle.fx25_sender.specs.Units.{check_octets, last_tag, unit}
unfoldable pub use Rattle.fx25_sender.specs.Transmission.{fx25_body, fx25_transmission}
pub use Rattle.afsk_modulator.specs.Signal.{Transmission}
pub use Rattle.fx25_sender.specs.Signal.{fx25_samples_of}
unfoldable pub use Rattle.fx25_sender.specs.Signal.{fx25_signal}
pub use Rattle.std.proofs.Common.{Bool, List, [], add-one, ap, append-nil, append_assoc, arith, drop, eqb, false, inl}
pub use Rattle.std.proofs.Common.{inr}
pub use Rattle.std.proofs.Common.{length, length-append, nat_lt, Option, Some, None, refl, replicate, subst, suc, sym}
pub use Rattle.std.proofs.Common.{take, true, zero, ℕ, ◌%◌, ◌*◌, ◌++◌, ◌+◌, ◌-◌, ◌/◌, ◌<◌, ◌∙◌, ◌∷◌, ◌≡◌, ◌≤◌}
pub use Rattle.std.proofs.lemmas.Bool.{agree_below_at, cases_lt, eqb-true, ne_eqb, eq-eqb}
pub use Rattle.std.proofs.lemmas.List.{drop_at, length-drop, length-replicate, length-take, take-append-drop, take_at}
pub use Rattle.std.proofs.lemmas.List.{take_more}
pub use Rattle.std.specs.List.{All, fold, flat_map}
