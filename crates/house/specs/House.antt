-- The house call list (document 01): one item of the definition table and one call as bytes.
use Rattle.std.specs.Prelude.{ℕ, ◌+◌, ◌-◌, ◌*◌, ◌≤◌, Bool, ◌&&◌, List, eqb, leb, length, get_or, take, drop, Option, Some, None}
use Rattle.lists.specs.Tests.{cond, within}
use Rattle.nucleus.specs.Commands.{code_at}
use Rattle.nucleus.specs.Nucleus.{Given, given}
use Rattle.nucleus.specs.declared.Call.{Call}
use Rattle.house.specs.declared.Sent.{Sent}

-- ---- the definition table
-- the bytes behind an item's kind: "Kind 1, a file: number (1 byte ..), highest ISN (2 bytes ..)", "Kind 2, a field ..: name (2 bytes ..), length (1 byte),
-- format (1 byte), option (1 byte ..)", "Kind 0, the end, no body"
unfoldable pub rest_of_item : ℕ → Option ℕ
rest_of_item kind = cond (eqb kind 0) (Some 0) (cond (eqb kind 1) (Some 3) (cond (eqb kind 2) (Some 5) None))

-- ---- a call
-- "A call is one byte, its place in the table of commands HI RI L1 L4 A1 E1 N1 N2 ET BT RE OP CL from 1, then 64 bytes: user 1, option 1, file 1, ISN 2,
-- limit 2, clock 4, format length 1, format 16, record length 1, record 35"; these are the places of the parts, from 0
abbrev pub kind_at : ℕ
kind_at = 0

abbrev pub user_at : ℕ
user_at = 1

abbrev pub option_at : ℕ
option_at = 2

abbrev pub file_at : ℕ
file_at = 3

abbrev pub isn_at : ℕ
isn_at = 4

abbrev pub limit_at : ℕ
limit_at = 6

abbrev pub clock_at : ℕ
clock_at = 8

abbrev pub format_length_at : ℕ
format_length_at = 12

abbrev pub format_at : ℕ
format_at = 13

abbrev pub buffer_length_at : ℕ
buffer_length_at = 29

abbrev pub buffer_at : ℕ
buffer_at = 30

abbrev pub call_length : ℕ
call_length = 65

-- a number of one, two and four bytes at a place; "numbers of several bytes have the high byte first"
abbrev pub byte : List ℕ → ℕ → ℕ
byte bytes at = get_or bytes at 0

abbrev pub pair : List ℕ → ℕ → ℕ
pair bytes at = byte bytes at * 256 + byte bytes (at + 1)

abbrev pub four : List ℕ → ℕ → ℕ
four bytes at = pair bytes at * 65536 + pair bytes (at + 2)

-- "a bad kind, length or cut body" is none of these
unfoldable pub well_formed : List ℕ → Bool
well_formed bytes =
    leb call_length (length bytes) && within 1 13 (byte bytes kind_at) && leb (byte bytes format_length_at) 16 && leb (byte bytes buffer_length_at) 35

abbrev pub arguments : List ℕ → Call
arguments bytes = record {
  command = code_at (byte bytes kind_at - 1);
  option = byte bytes option_at;
  user = byte bytes user_at;
  file = byte bytes file_at;
  isn = pair bytes isn_at;
  limit = pair bytes limit_at;
  clock = four bytes clock_at;
}

-- bytes past the two lengths are not looked at
unfoldable pub given_by : List ℕ → Given
given_by bytes =
    given (arguments bytes) (take (byte bytes format_length_at) (drop format_at bytes)) (take (byte bytes buffer_length_at) (drop buffer_at bytes))

-- the call that bytes begin with, or a bad one
unfoldable pub call_of : List ℕ → Option Given
call_of bytes = cond (well_formed bytes) (Some (given_by bytes)) None

-- what is answered of a good call
abbrev pub sent_as : Sent → Given
sent_as s = given s.call s.format.now s.buffer.now

-- its format and record buffer are no longer than they may be
abbrev pub Lengths : Sent → Type 0
Lengths s = (length s.format.now ≤ 16) × (length s.buffer.now ≤ 35)
