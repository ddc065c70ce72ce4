-- Items of a table by their kinds alone, as they are read one by one, and where the grammar ends.
-- Assumes nothing.
use Rattle.definition.specs.declared.FieldOption.{FieldOption}
use Rattle.definition.specs.declared.Format.{Format}
use Rattle.std.specs.Prelude.{ℕ, zero, suc, ◌+◌, ◌-◌, ◌*◌, ◌≤◌, ◌<◌, ◌≡◌, refl, Bool, true, false, List, [], eqb, ltb, length, get_or, take, drop, Option, Some, None}
use Rattle.std.proofs.Common.{arith, sym, ap, ◌∙◌, length-drop}
use Rattle.std.proofs.lemmas.Bool.{eqb-true, eqb-false}
use Rattle.lists.specs.Tests.{cond, Outcome, holds, fails, outcome}
use Rattle.definition.specs.Table.{no_definition}
use Rattle.definition.specs.declared.Definition.{Definition}
use Rattle.validity.specs.Validity.{valid}
use Rattle.items.specs.Items.{format_of, option_of, file_item, field_typed, field_item, item_of}
use Rattle.items.specs.Laws.{item_size, item_fits}
use Rattle.items.specs.declared.Item.{Item}
use Rattle.items.specs.declared.Item.TheVariants.{File as item_file, Field as item_field, End as item_end}
use Rattle.reading.specs.Grammar.{room_for_file, room_for_field, add_file, add_field, broken, ended, proceed, read_from, read_table}
use Rattle.reading.specs.declared.Reading.{Reading}
use Rattle.house.specs.House.{rest_of_item}
use Rattle.house.proofs.Tables.{table_most}

-- ---- an item's kind
abbrev Kind : List ℕ → Option Item → Type 0
Kind ys (Some (item_file n m)) = get_or ys 0 0 ≡ 1
Kind ys (Some (item_field f)) = get_or ys 0 0 ≡ 2
Kind ys (Some item_end) = get_or ys 0 0 ≡ 0
Kind ys None = Unit {0}

module _ (ys : List ℕ) where
  file_kind : (body : List ℕ) → get_or ys 0 0 ≡ 1 → Kind ys (file_item body)
  unfolding file_item
  file_kind body k = go (outcome (ltb (length body) 3))
    where
      go : Outcome (ltb (length body) 3) → Kind ys (file_item body)
      go (holds e) = rw e tt
      go (fails e) = rw e k

  typed_kind : (body : List ℕ) (f : Option Format) (o : Option FieldOption) → get_or ys 0 0 ≡ 2 → Kind ys (field_typed body f o)
  typed_kind body None o k = tt
  typed_kind body (Some f) None k = tt
  typed_kind body (Some f) (Some o) k = k

  field_kind : (body : List ℕ) → get_or ys 0 0 ≡ 2 → Kind ys (field_item body)
  unfolding field_item
  field_kind body k = go (outcome (ltb (length body) 5))
    where
      go : Outcome (ltb (length body) 5) → Kind ys (field_item body)
      go (holds e) = rw e tt
      go (fails e) = rw e (typed_kind body (format_of (get_or body 3 0)) (option_of (get_or body 4 0)) k)

  kind : Kind ys (item_of ys)
  unfolding item_of
  kind = go (outcome (eqb (length ys) 0)) (outcome (eqb k 0)) (outcome (eqb k 1)) (outcome (eqb k 2))
    where
      k : ℕ
      k = get_or ys 0 0

      go : Outcome (eqb (length ys) 0) → Outcome (eqb k 0) → Outcome (eqb k 1) → Outcome (eqb k 2) → Kind ys (item_of ys)
      go (holds e) q r s = rw e tt
      go (fails e) (holds q) r s = rw (e, q) (eqb-true k 0 q)
      go (fails e) (fails q) (holds r) s = rw (e, q, r) (file_kind (drop 1 ys) (eqb-true k 1 r))
      go (fails e) (fails q) (fails r) (holds s) = rw (e, q, r, s) (field_kind (drop 1 ys) (eqb-true k 2 s))
      go (fails e) (fails q) (fails r) (fails s) = rw (e, q, r, s) tt

-- ---- a reading that ends
pub none_ends : {P : Type 0} (e : ℕ) → None ≡ Some e → P
none_ends e q = absurd (let z : ◌≡◌ {A = ℕ} 0 1 = cc in omega arith)

-- where a choice between a reading and a broken one ends, the reading does
chosen : (b : Bool) (r : Reading) (e : ℕ) → (cond b r broken).end ≡ Some e → r.end ≡ Some e
chosen true r e q = q
chosen false r e q = none_ends e q

bytes_same : (n m : ℕ) → Some n ≡ Some m → n ≡ m
bytes_same n m q = cc

module _ (xs : List ℕ) where
  -- what such a reading does first: it is at the end, or goes on behind an item as long as its kind says
  data First (f at e : ℕ) : Type 0 where
    by_end : get_or (drop at xs) 0 0 ≡ 0 → 1 ≤ length xs - at → e ≡ at + 1 → First f at e
    by_item : (n : ℕ) → rest_of_item (get_or (drop at xs) 0 0) ≡ Some n → 1 ≤ n → 1 + n ≤ length xs - at → (d : Definition)
        → (read_from f xs (at + 1 + n) d).end ≡ Some e → First f at e

  first : (f at : ℕ) (d : Definition) (e : ℕ) → (read_from (suc f) xs at d).end ≡ Some e → First f at e
  unfolding read_from rest_of_item
  first f at d e = go (item_of (drop at xs)) (kind (drop at xs)) (item_fits (drop at xs))
    where
      go : (i : Option Item) → Kind (drop at xs) i → item_size i ≤ length (drop at xs) → (proceed (read_from f xs) at d i).end ≡ Some e → First f at e
      go (Some (item_file n m)) k s q =
          let z : at + 4 ≡ at + 1 + 3 = omega arith in
          let later = chosen (room_for_file d) (read_from f xs (at + 4) (add_file d n m)) e q in
          by_item 3 (rw k refl) (omega arith) (omega (arith, s, length-drop at xs)) (add_file d n m) (rw (← z) later)
      go (Some (item_field g)) k s q =
          let z : at + 6 ≡ at + 1 + 5 = omega arith in
          let later = chosen (room_for_field d) (read_from f xs (at + 6) (add_field d g)) e q in
          by_item 5 (rw k refl) (omega arith) (omega (arith, s, length-drop at xs)) (add_field d g) (rw (← z) later)
      go (Some item_end) k s q =
          let here : Some (at + 1) ≡ Some e = chosen (valid d) (record { end = Some (at + 1); definition = d }) e q in
          by_end k (omega (arith, s, length-drop at xs)) (let same : at + 1 ≡ e = cc in sym same)
      go None k s q = none_ends e q

  pub starts_inside : (f at : ℕ) (d : Definition) (e : ℕ) → (read_from (suc f) xs at d).end ≡ Some e → at ≤ length xs
  starts_inside f at d e q = go (first f at d e q)
    where
      go : First f at e → at ≤ length xs
      go (by_end k s h) = omega arith
      go (by_item n k h s d' later) = omega arith

  -- an end lies behind where the reading is
  behind : (f at : ℕ) (d : Definition) (e : ℕ) → (read_from f xs at d).end ≡ Some e → at < e
  unfolding read_from
  behind zero at d e q = none_ends e q
  behind (suc f) at d e q = go (first f at d e q) (behind f)
    where
      go : First f at e → ((at : ℕ) (d : Definition) (e : ℕ) → (read_from f xs at d).end ≡ Some e → at < e) → at < e
      go (by_end k s h) rest = omega arith
      go (by_item n k h s d' later) rest = omega (arith, rest (at + 1 + n) d' e later)

  -- ---- each reading of the table that ends goes by a place
  abbrev pub Passes : ℕ → Type 0
  Passes at = (e : ℕ) → (read_table xs).end ≡ Some e → (f : ℕ) × (d : Definition) × ((read_from f xs at d).end ≡ Some e)

  pub passes_start : Passes 0
  unfolding read_table
  passes_start e q = (length xs, no_definition, q)

  pub passes_item : (at n : ℕ) → rest_of_item (get_or (drop at xs) 0 0) ≡ Some n → 1 ≤ n → Passes at → Passes (at + 1 + n)
  unfolding read_from rest_of_item
  passes_item at n k h p e q = go (p e q).0 (p e q).1 (p e q).2
    where
      go : (f : ℕ) (d : Definition) → (read_from f xs at d).end ≡ Some e → (f : ℕ) × (d : Definition) × ((read_from f xs (at + 1 + n) d).end ≡ Some e)
      go zero d r = none_ends e r
      go (suc f) d r = one (first f at d e r)
        where
          one : First f at e → (f : ℕ) × (d : Definition) × ((read_from f xs (at + 1 + n) d).end ≡ Some e)
          one (by_end z s l) =
              let zero_long : Some 0 ≡ Some n = ap rest_of_item (sym z) ∙ k in
              absurd (omega (arith, bytes_same 0 n zero_long))
          one (by_item m k' h' s d' later) =
              let same = bytes_same m n (sym k' ∙ k) in
              (f, d', rw (← same) later)

  -- the end
  pub passes_end : (at : ℕ) → get_or (drop at xs) 0 0 ≡ 0 → Passes at → (e : ℕ) → (read_table xs).end ≡ Some e → e ≡ at + 1
  unfolding read_from rest_of_item
  passes_end at z p e q = go (p e q).0 (p e q).1 (p e q).2
    where
      go : (f : ℕ) (d : Definition) → (read_from f xs at d).end ≡ Some e → e ≡ at + 1
      go zero d r = none_ends e r
      go (suc f) d r = one (first f at d e r)
        where
          one : First f at e → e ≡ at + 1
          one (by_end z' s l) = l
          one (by_item m k' h' s d' later) =
              let long : Some m ≡ Some 0 = sym k' ∙ ap rest_of_item z in
              absurd (omega (arith, bytes_same m 0 long))

  -- no item: its kind is unknown, or it is cut
  pub passes_none : (at : ℕ) → ((n : ℕ) → rest_of_item (get_or (drop at xs) 0 0) ≡ Some n → length xs - at < 1 + n) → Passes at → (e : ℕ) → (read_table xs).end ≡ Some e → ⊥
  unfolding read_from rest_of_item
  passes_none at none p e q = go (p e q).0 (p e q).1 (p e q).2
    where
      go : (f : ℕ) (d : Definition) → (read_from f xs at d).end ≡ Some e → ⊥
      go zero d r = none_ends e r
      go (suc f) d r = one (first f at d e r)
        where
          one : First f at e → ⊥
          one (by_end z s l) = let short = none 0 (ap rest_of_item z) in omega arith
          one (by_item m k' h' s d' later) = let short = none m k' in omega arith

  -- a table of which no item ends within 1601 bytes
  pub passes_full : (at : ℕ) → 1601 ≤ at → Passes at → (e : ℕ) → (read_table xs).end ≡ Some e → ⊥
  passes_full at h p e q = omega (arith, behind (p e q).0 at (p e q).1 e (p e q).2, table_most xs e q)
