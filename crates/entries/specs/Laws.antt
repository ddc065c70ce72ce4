-- Laws of entries: an entry and its word are each other's; the entries in use, one after the other; what writing a word makes of them.
-- Assumes nothing.
use Rattle.std.specs.Prelude.{ℕ, zero, suc, ◌+◌, ◌*◌, ◌/◌, ◌%◌, ◌≤◌, ◌<◌, min, ◌≡◌, refl, Bool, true, false, List, [], ◌∷◌, ◌++◌, map, eqb, length, take, drop, get_or, set}
use Rattle.std.proofs.Common.{div-add-mod', add-one, arith, sym, ◌∙◌, take-append-drop, drop_of_length-le, drop-cons, get_or-take, take-suc, take-take}
use Rattle.std.proofs.Math.Nat.{div-div-eq-div-mul}
use Rattle.std.proofs.Math.Path.{ap}
use Rattle.std.proofs.lemmas.List.{map-append, take-set-le}
use Rattle.std.proofs.Math.ListN.{length-take, length-map, get_or-map}
use Rattle.std.proofs.Math.Seq.{take-set-lt}
use Rattle.lists.specs.Maps.{take_map, map_set}
use Rattle.lists.specs.Parts.{take_least}
use Rattle.entries.specs.Entries.{bit, pack_of, unpack_of, entries}
use Rattle.entries.specs.declared.Entry.{Entry}

-- ---- an entry and its word
-- what every entry has: numbers that fit their bytes
pub record Shape (e : Entry) : Type 0 where
  pub user : e.user < 256
  pub file : e.file < 256
  pub isn : e.isn < 65536

-- two to the number of bits that an entry uses
abbrev pub word_bound : ℕ
word_bound = 17179869184

bit_small : (t : Bool) → bit t < 2
bit_small true = omega arith
bit_small false = omega arith

bit_back : (t : Bool) → eqb (bit t) 1 ≡ t
bit_back true = refl
bit_back false = refl

bit_of : (n : ℕ) → n < 2 → bit (eqb n 1) ≡ n
bit_of zero h = refl
bit_of (suc zero) h = refl
bit_of (suc (suc n)) h = absurd (omega arith)

-- the parts of a word
module _ (u f i c x : ℕ) (gu : u < 256) (gf : f < 256) (gi : i < 65536) (gc : c < 2) (gx : x < 2) where
  abbrev w : ℕ
  w = u + f * 256 + i * 65536 + c * 4294967296 + x * 8589934592

  user_is : w % 256 ≡ u
  user_is = omega (arith, gu)

  file_is : w / 256 % 256 ≡ f
  file_is = omega (arith, gu, gf)

  isn_is : w / 65536 % 65536 ≡ i
  isn_is = omega (arith, gu, gf, gi)

  changed_is : w / 4294967296 % 2 ≡ c
  changed_is = omega (arith, gu, gf, gi, gc)

  existed_is : w / 8589934592 % 2 ≡ x
  existed_is = omega (arith, gu, gf, gi, gc, gx)

pub unpack_pack : (e : Entry) → Shape e → unpack_of (pack_of e) ≡ e
unfolding pack_of unpack_of
unpack_pack e s = λ j. record {
  user = user_is e.user e.file e.isn (bit e.changed) (bit e.existed) s.user s.file s.isn gc gx j;
  file = file_is e.user e.file e.isn (bit e.changed) (bit e.existed) s.user s.file s.isn gc gx j;
  isn = isn_is e.user e.file e.isn (bit e.changed) (bit e.existed) s.user s.file s.isn gc gx j;
  changed = (ap (λ (k : ℕ). eqb k 1) (changed_is e.user e.file e.isn (bit e.changed) (bit e.existed) s.user s.file s.isn gc gx) ∙ bit_back e.changed) j;
  existed = (ap (λ (k : ℕ). eqb k 1) (existed_is e.user e.file e.isn (bit e.changed) (bit e.existed) s.user s.file s.isn gc gx) ∙ bit_back e.existed) j;
}
  where
    gc : bit e.changed < 2
    gc = bit_small e.changed

    gx : bit e.existed < 2
    gx = bit_small e.existed

-- a number with its last digit taken off, in base b
digit : (n q b : ℕ) → n / b ≡ q → n ≡ q * b + n % b
digit n q b e = sym (rw (← e) (div-add-mod' n b))

joined : (n a d₁ b d₂ i d₃ c x : ℕ) → n ≡ d₁ * 256 + a → d₁ ≡ d₂ * 256 + b → d₂ ≡ d₃ * 65536 + i → d₃ ≡ x * 2 + c
    → a + b * 256 + i * 65536 + c * 4294967296 + x * 8589934592 ≡ n
joined n a d₁ b d₂ i d₃ c x p q r s = omega arith

-- a word is what its parts add up to, where it has no bit above them
parts : (n : ℕ) → n < word_bound → n % 256 + n / 256 % 256 * 256 + n / 65536 % 65536 * 65536 + n / 4294967296 % 2 * 4294967296 + n / 8589934592 % 2 * 8589934592 ≡ n
parts n h =
    let top : n / 8589934592 % 2 ≡ n / 8589934592 = omega arith in
    rw top
    (joined n _ (n / 256) _ (n / 65536) _ (n / 4294967296) _ (n / 8589934592) (digit n (n / 256) 256 refl) (digit (n / 256) (n / 65536) 256 (div-div-eq-div-mul n 256 256))
    (digit (n / 65536) (n / 4294967296) 65536 (div-div-eq-div-mul n 65536 65536))
    (digit (n / 4294967296) (n / 8589934592) 2 (div-div-eq-div-mul n 4294967296 2)))

pub pack_unpack : (n : ℕ) → n < word_bound → pack_of (unpack_of n) ≡ n
unfolding pack_of unpack_of
pack_unpack n h =
    let c : n / 4294967296 % 2 < 2 = omega arith in
    let x : n / 8589934592 % 2 < 2 = omega arith in
    rw (bit_of (n / 4294967296 % 2) c, bit_of (n / 8589934592 % 2) x) (parts n h)

pub unpack_shape : (w : ℕ) → Shape (unpack_of w)
unfolding unpack_of
unpack_shape w = record { user = omega arith; file = omega arith; isn = omega arith }

-- ---- the entries in use
-- what a place past the end reads as
pub no_entry : Entry
no_entry = unpack_of 0

-- the words, one after another
pub entries_are : (words : List ℕ) (count : ℕ) → entries words count ≡ map unpack_of (take count words)
unfolding entries
entries_are words count = refl

front : (words : List ℕ) (i count : ℕ) → i ≤ count → take i (entries words count) ≡ entries words i
unfolding entries
front words i count h = take_map unpack_of i (take count words) ∙ ap (map unpack_of) (take-take i count words h)

module _ (words : List ℕ) (count : ℕ) where
  pub length_entries : length (entries words count) ≡ min count (length words)
  unfolding entries
  length_entries = length-map (take count words) unpack_of ∙ length-take count words

  pub entry_at : (i : ℕ) → i < count → get_or (entries words count) i no_entry ≡ unpack_of (get_or words i 0)
  unfolding entries no_entry
  entry_at i h = get_or-map unpack_of (take count words) i 0 ∙ ap unpack_of (get_or-take count words i 0 h)

  -- one turn of a loop over the entries, and its end
  pub entry_next : (i : ℕ) → i < min count (length words) → drop i (entries words count) ≡ unpack_of (get_or words i 0) ∷ drop (i + 1) (entries words count)
  entry_next i h =
      let m : i < length (entries words count) = omega (arith, length_entries) in
      let k : i < count = omega arith in
      rw (add-one i, ← (entry_at i k)) (drop-cons (entries words count) i no_entry m)

  pub no_entry_left : (i : ℕ) → min count (length words) ≤ i → drop i (entries words count) ≡ []
  no_entry_left i h = let m : length (entries words count) ≤ i = omega (arith, length_entries) in drop_of_length-le (entries words count) m

  -- more than all are all
  pub entries_all : entries words (min count (length words)) ≡ entries words count
  unfolding entries
  entries_all = ap (map unpack_of) (take_least count words)

-- one more entry
pub entries_last : (words : List ℕ) (i : ℕ) → i < length words → entries words (i + 1) ≡ entries words i ++ unpack_of (get_or words i 0) ∷ []
unfolding entries
entries_last words i h = rw (add-one i, take-suc words i 0 h) (map-append unpack_of (take i words) (get_or words i 0 ∷ []))

-- the first i of more
pub entries_front : (words : List ℕ) (i count : ℕ) → i ≤ count → entries words count ≡ entries words i ++ drop i (entries words count)
entries_front words i count h = rw (← (front words i count h)) (sym (take-append-drop i (entries words count)))

-- ---- what writing a word makes of the entries
module _ (words : List ℕ) (count at word : ℕ) where
  pub entries_set : at < count → entries (set words at word) count ≡ set (entries words count) at (unpack_of word)
  unfolding entries
  entries_set h = rw (take-set-lt count words at word h) (map_set unpack_of (take count words) at word)

  pub entries_kept : count ≤ at → entries (set words at word) count ≡ entries words count
  unfolding entries
  entries_kept h = ap (map unpack_of) (take-set-le count words at word h)
