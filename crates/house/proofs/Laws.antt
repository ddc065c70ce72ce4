-- What a well-formed call has.
-- Assumes nothing.
use Rattle.std.specs.Prelude.{ℕ, ◌≤◌, ◌≡◌, List, length, drop, Some}
use Rattle.std.proofs.Common.{arith, length-take}
use Rattle.std.proofs.Math.Bool.{true}
use Rattle.std.proofs.Math.Dec.{leb}
use borrow.Author.Tests.{leb-true}
use Rattle.lists.specs.Tests.{within, within_least, and_left, and_right}
use Rattle.house.specs.House.{kind_at, format_length_at, format_at, buffer_length_at, buffer_at, call_length, byte, well_formed, given_by, call_of}

module _ (bytes : List ℕ) (formed : well_formed bytes ≡ true) where
  pub formed_length : call_length ≤ length bytes
  unfolding well_formed
  formed_length =
      let h : leb call_length (length bytes) ≡ true = search (and_left, and_right) in
      leb-true call_length (length bytes) h

  pub formed_kind : 1 ≤ byte bytes kind_at
  unfolding well_formed
  formed_kind =
      let h : within 1 13 (byte bytes kind_at) ≡ true = search (and_left, and_right) in
      within_least 1 13 (byte bytes kind_at) h

  pub formed_format : byte bytes format_length_at ≤ 16
  unfolding well_formed
  formed_format =
      let h : leb (byte bytes format_length_at) 16 ≡ true = search (and_left, and_right) in
      leb-true (byte bytes format_length_at) 16 h

  pub formed_buffer : byte bytes buffer_length_at ≤ 35
  unfolding well_formed
  formed_buffer =
      let h : leb (byte bytes buffer_length_at) 35 ≡ true = search (and_left, and_right) in
      leb-true (byte bytes buffer_length_at) 35 h

  pub formed_lengths : (length (given_by bytes).format ≤ 16) × (length (given_by bytes).buffer ≤ 35)
  unfolding given_by
  formed_lengths =
      let format = length-take (byte bytes format_length_at) (drop format_at bytes) in
      let buffer = length-take (byte bytes buffer_length_at) (drop buffer_at bytes) in
      (omega (arith, format, formed_format), omega (arith, buffer, formed_buffer))

  pub formed_sent : Some (given_by bytes) ≡ call_of bytes
  unfolding call_of
  formed_sent = rw formed
