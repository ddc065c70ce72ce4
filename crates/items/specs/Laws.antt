-- An item is no longer than the bytes that it was read from; of no bytes there is none.
-- Assumes nothing.
use Rattle.definition.specs.declared.Format.{Format}
use Rattle.definition.specs.declared.FieldOption.{FieldOption}
use Rattle.std.specs.Prelude.{ℕ, ◌+◌, ◌≤◌, ◌≡◌, refl, List, [], eqb, ltb, length, get_or, drop, Option, Some, None}
use Rattle.std.proofs.Common.{arith, length-drop, ltb-false}
use Rattle.std.proofs.lemmas.Bool.{eqb-false}
use Rattle.lists.specs.Tests.{Outcome, holds, fails, outcome}
use Rattle.items.specs.Items.{format_of, option_of, file_item, field_typed, field_item, item_of}
use Rattle.items.specs.declared.Item.{Item}
use Rattle.items.specs.declared.Item.TheVariants.{File as item_file, Field as item_field, End as item_end}

abbrev pub item_size : Option Item → ℕ
item_size (Some (item_file n m)) = 4
item_size (Some (item_field f)) = 6
item_size (Some item_end) = 1
item_size None = 0

file_fits : (body : List ℕ) → item_size (file_item body) ≤ length body + 1
unfolding file_item
file_fits body = go (outcome (ltb (length body) 3))
  where
    go : Outcome (ltb (length body) 3) → item_size (file_item body) ≤ length body + 1
    go (holds e) = rw e (omega arith)
    go (fails e) = rw e (omega (arith, ltb-false (length body) 3 e))

typed_fits : (body : List ℕ) (f : Option Format) (o : Option FieldOption) → item_size (field_typed body f o) ≤ 6
typed_fits body None o = omega arith
typed_fits body (Some f) None = omega arith
typed_fits body (Some f) (Some o) = omega arith

field_fits : (body : List ℕ) → item_size (field_item body) ≤ length body + 1
unfolding field_item
field_fits body = go (outcome (ltb (length body) 5))
  where
    go : Outcome (ltb (length body) 5) → item_size (field_item body) ≤ length body + 1
    go (holds e) = rw e (omega arith)
    go (fails e) = rw e (omega (arith, ltb-false (length body) 5 e, typed_fits body (format_of (get_or body 3 0)) (option_of (get_or body 4 0))))

pub item_fits : (bytes : List ℕ) → item_size (item_of bytes) ≤ length bytes
unfolding item_of
item_fits bytes = go (outcome (eqb (length bytes) 0)) (outcome (eqb k 0)) (outcome (eqb k 1)) (outcome (eqb k 2))
  where
    k : ℕ
    k = get_or bytes 0 0

    go : Outcome (eqb (length bytes) 0) → Outcome (eqb k 0) → Outcome (eqb k 1) → Outcome (eqb k 2) → item_size (item_of bytes) ≤ length bytes
    go (holds e) q r s = rw e (omega arith)
    go (fails e) (holds q) r s = let z = eqb-false (length bytes) 0 e in rw (e, q) (omega (arith, z))
    go (fails e) (fails q) (holds r) s =
        let z = eqb-false (length bytes) 0 e in
        rw (e, q, r) (omega (arith, z, file_fits (drop 1 bytes), length-drop 1 bytes))
    go (fails e) (fails q) (fails r) (holds s) =
        let z = eqb-false (length bytes) 0 e in
        rw (e, q, r, s) (omega (arith, z, field_fits (drop 1 bytes), length-drop 1 bytes))
    go (fails e) (fails q) (fails r) (fails s) = rw (e, q, r, s) (omega arith)

pub item_none : item_of [] ≡ None
unfolding item_of
item_none = refl
