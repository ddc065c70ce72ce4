-- One turn of `repeated`: the entries passed are marked, and no two of them are alike.
-- Assumes nothing.
use Rattle.std.specs.Prelude.{ℕ, ◌+◌, ◌/◌, ◌<◌, min, ◌≡◌, true, not, ◌&&◌, List, [], ◌∷◌, length, drop, get_or}
use Rattle.std.proofs.Common.{arith, ◌∙◌}
use Rattle.std.proofs.Math.Bool.{false}
use Rattle.lists.specs.Folds.{any, distinct, all_append}
use Rattle.lists.specs.Tests.{and-false}
use Rattle.entries.specs.Entries.{unpack_of, is_of, entries}
use Rattle.repeats.specs.Repeats.{alike, repeated}
use Rattle.lists.specs.Distinct.{distinct_last, distinct_front}
use Rattle.repeats.specs.Marks.{key, key_small, marked, set_mark, all_marked, all_marked_kept, set_mark_here}
use Rattle.entries.specs.Laws.{entries_last, entries_front}
use Rattle.entries.specs.declared.Entry.{Entry}

module _ (words : List ℕ) (count i : ℕ) (e : Entry) (now : e ≡ unpack_of (get_or words i 0)) (more : i < min count (length words)) where
  passed : distinct alike (entries words (i + 1)) ≡ (distinct alike (entries words i) && not (any (is_of e.file e.isn) (entries words i)))
  passed = rw (entries_last words i (omega arith), ← now) (distinct_last alike (entries words i) e)

  pub repeated_here : any (is_of e.file e.isn) (entries words i) ≡ true → repeated (entries words count) ≡ true
  unfolding repeated
  repeated_here h =
      let two : distinct alike (entries words (i + 1)) ≡ false = passed ∙ rw h (and-false (distinct alike (entries words i))) in
      rw (entries_front words (i + 1) count (omega arith), distinct_front alike (entries words (i + 1)) (drop (i + 1) (entries words count)) two)

  pub distinct_so_far : distinct alike (entries words i) ≡ true → any (is_of e.file e.isn) (entries words i) ≡ false → distinct alike (entries words (i + 1)) ≡ true
  distinct_so_far d h = passed ∙ rw (d, h)

  pub marked_so_far : (table : List ℕ) → length table ≡ 64 → all_marked table (entries words i) ≡ true → all_marked (set_mark table (key e)) (entries words (i + 1)) ≡ true
  marked_so_far table l m =
      let small : key e / 64 < length table = omega (arith, key_small e) in
      rw (entries_last words i (omega arith), ← now, all_append (λ x. marked (set_mark table (key e)) (key x)) (entries words i) (e ∷ []), all_marked_kept table (key e) (entries words i) small m, set_mark_here table (key e) small)
