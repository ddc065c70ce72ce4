-- Bytes written one after another, and at the front of a buffer; the digits of bytes.
-- Assumes nothing.
use Rattle.std.specs.Prelude.{ℕ, ◌+◌, ◌*◌, ◌/◌, ◌%◌, ◌≤◌, ◌<◌, ◌≡◌, refl, true, false, leb, get_or, set, take}
use Rattle.std.proofs.Common.{add-one, sym, ◌∙◌, length-append, length-take, drop_of_length-le, length-take-le}
use Rattle.std.proofs.Math.Numerals.{add-two}
use native.Mathlib.Omega.{arith}
use Rattle.std.proofs.Math.Path.{ap}
use mathlib.Core.List.{List, [], ◌∷◌, ◌++◌, append-nil}
use Rattle.std.proofs.Math.ListN.{length, drop}
use Rattle.std.proofs.lemmas.List.Edits.{sets}
use Rattle.std.proofs.Math.Seq.{sets-eq}
use borrow.Author.Tests.{le-leb, lt-leb, leb-true}
use Rattle.lists.specs.Tests.{cond, Outcome, holds, fails, outcome}
use Rattle.lists.specs.Parts.{sets_append, sets_same}
use Rattle.lists.specs.Rest.{drop_more}
use Rattle.slices.specs.Slices.{copied}
use Rattle.slices.specs.Laws.{copied_whole}
use Rattle.nucleus.specs.Line.{digit, hexadecimal, numbers_part, shows_bytes, line_of}
use Rattle.nucleus.specs.declared.Call.{Call}
use Rattle.nucleus.specs.declared.Answer.{Answer}
use Rattle.lines.specs.Digits.{numbers_most}
use Rattle.lines.specs.Lines.{Within, Put, Front, put_length, put_front}
use Rattle.lines.specs.Laws.{at_front}

pub put_then : (old : List ℕ) (at : ℕ) (u : List ℕ) (end : ℕ) (left : List ℕ) (v : List ℕ) (end' : ℕ) (left' : List ℕ)
    → Put old at u end left → Put left end v end' left' → Put old at (u ++ v) end' left'
put_then old at u end left v end' left' p q =
    (omega (arith, p.0, q.0, length-append u v), q.1 ∙ rw (p.0, p.1) (sym (sets_append old at u v)))

-- ---- at the front
module _ (new old : List ℕ) where
  pub put_whole : (end : ℕ) (left : List ℕ) → length new ≤ length old → Put old 0 new end left → Front new old end left
  unfolding put_length put_front
  put_whole end left h p =
      let fits = le-leb (length new) (length old) h in
      let zero : 0 + length new ≡ length new = omega arith in
      (rw fits (p.0 ∙ zero), rw fits (p.1 ∙ sets-eq new old 0 (omega arith) ∙ ap (λ n. new ++ drop n old) zero))

  pub put_taken : (end : ℕ) (left : List ℕ) → length new ≤ length old → Put old 0 new end left → take end left ≡ new
  put_taken end left h p =
      let zero : 0 + length new ≡ length new = omega arith in
      rw (p.0 ∙ zero, p.1) (sets_same old 0 (length new) new refl (omega arith))

  -- a copy over as many bytes at the front, which were lent
  pub copied_there : (part : List ℕ) → length new ≤ length old → part ≡ copied new (take (length new) old) → Put old 0 new (length new) (part ++ drop (length new) old)
  copied_there part h e =
      let zero : length new ≡ 0 + length new = omega arith in
      let same = e ∙ copied_whole new (take (length new) old) (sym (length-take-le (length new) old h)) in
      (zero, rw same (ap (λ n. new ++ drop n old) zero ∙ sym (sets-eq new old 0 (omega arith))))

  pub front_within : (end : ℕ) (left : List ℕ) → Front new old end left → length left ≡ length old → Within end left
  unfolding put_length
  front_within end left p same = at_front end left (go (outcome (leb (length new) (length old))))
    where
      go : Outcome (leb (length new) (length old)) → end ≤ length left
      go (holds h) = rw (p.0, h, same) (leb-true (length new) (length old) h)
      go (fails h) = rw (p.0, h) (omega arith)

  pub put_none : length old < length new → Front new old 0 old
  unfolding put_length put_front
  put_none h = let no = lt-leb (length new) (length old) h in (rw no, rw no)

-- a blank
pub put_blank : (old : List ℕ) (at : ℕ) → Put old at (32 ∷ []) (at + 1) (set old at 32)
put_blank old at = (refl, refl)

-- ---- the digits of bytes
pub length_hexadecimal : (bytes : List ℕ) → length (hexadecimal bytes) ≡ 2 * length bytes
length_hexadecimal [] = refl
length_hexadecimal (b ∷ bytes) = omega (arith, length_hexadecimal bytes)

-- what is left to write at a byte: its two digits, and then those of the bytes after it
pub byte_more : (bytes out : List ℕ) (to i : ℕ) → i < length bytes
    → sets out to (hexadecimal (drop i bytes))
    ≡ sets (set (set out to (digit (get_or bytes i 0 / 16))) (to + 1) (digit (get_or bytes i 0 % 16))) (to + 2) (hexadecimal (drop (i + 1) bytes))
byte_more bytes out to i h = rw (drop_more bytes i 0 h, add-one to, add-two to)

pub byte_none : (bytes out : List ℕ) (to i : ℕ) → length bytes ≤ i → sets out to (hexadecimal (drop i bytes)) ≡ out
byte_none bytes out to i h = rw (drop_of_length-le bytes h)

-- numbers, a blank and the digits of bytes together
pub length_both : (numbers bytes : List ℕ) → length (numbers ++ 32 ∷ hexadecimal bytes) ≡ length numbers + (1 + 2 * length bytes)
length_both numbers bytes = omega (arith, length-append numbers (32 ∷ hexadecimal bytes), length_hexadecimal bytes)

-- ---- the line of a call that wrote bytes to show, and of another
module _ (call : Call) (a : Answer) (buffer : List ℕ) where
  pub line_shown : shows_bytes call a ≡ true → line_of call a buffer ≡ numbers_part a ++ 32 ∷ hexadecimal (take a.quantity buffer)
  unfolding line_of
  line_shown h = ap (λ b. numbers_part a ++ cond b (32 ∷ hexadecimal (take a.quantity buffer)) []) h

  pub line_plain : shows_bytes call a ≡ false → line_of call a buffer ≡ numbers_part a
  unfolding line_of
  line_plain h = ap (λ b. numbers_part a ++ cond b (32 ∷ hexadecimal (take a.quantity buffer)) []) h ∙ append-nil (numbers_part a)

-- how long a line may be
pub line_most : (call : Call) (a : Answer) (buffer : List ℕ) → length (line_of call a buffer) ≤ 84 + 2 * length buffer
line_most call a buffer = go (outcome (shows_bytes call a))
  where
    go : Outcome (shows_bytes call a) → length (line_of call a buffer) ≤ 84 + 2 * length buffer
    go (holds h) = rw (line_shown call a buffer h) (omega (arith, length_both (numbers_part a) (take a.quantity buffer), length-take a.quantity buffer, numbers_most a))
    go (fails h) = rw (line_plain call a buffer h) (omega (arith, numbers_most a))
