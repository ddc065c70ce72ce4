-- The table that set-up keeps has nothing in its unused places: reading a table fills one place after another from the front, and leaves those behind
-- them empty, whatever numbers it was read from.
-- Assumes nothing.
use Prim.Native.Nat.{ℕ, zero, suc, ◌+◌, ◌-◌, ◌≤◌, ◌<◌}
use Rattle.std.proofs.Common.{arith, sym, ap, ◌∙◌, length-set, drop-drop, drop-set-lt, ltb-true}
use Rattle.std.specs.Prelude.{◌≡◌, refl, Bool, true, false, List, map, eqb, ltb, length, drop, set, Option, Some, None}
use Rattle.lists.specs.Tests.{cond, within, within_least, and_left, and_right}
use Rattle.lists.specs.Folds.{Each, each_at, each_take, each_replicate, each_set}
use Rattle.definition.specs.Table.{max_fields, max_files, no_file, beyond, no_definition, field_count, file_count}
use Rattle.definition.specs.declared.Field.{Field}
use Rattle.definition.specs.declared.File.{File}
use Rattle.definition.specs.declared.Definition.{Definition}
use Rattle.validity.specs.Validity.{valid}
use Rattle.items.specs.Items.{item_of}
use Rattle.items.specs.declared.Item.{Item}
use Rattle.items.specs.declared.Item.TheVariants.{File as item_file, Field as item_field, End as item_end}
use Rattle.reading.specs.Grammar.{room_for_file, add_file, last_file, room_for_field, with_field, add_field, broken, proceed, read_from, read_table}
use Rattle.reading.specs.declared.Reading.{Reading}
use Rattle.entries.specs.Entries.{pack_of}
use Rattle.entries.specs.declared.Entry.{Entry}
use Rattle.kept_tables.specs.Laws.{TidyFile, Tidy}
use Rattle.nucleus.specs.WellMade.{too_short}
use Rattle.nucleus.specs.Step.{SetUp, set_up_as, set_up_at, set_up}
use Rattle.database.specs.Database.{set_up_database}

-- ---- what a reading keeps, from item to item. (Every place is there, so that the last file is one of them)
record Grown (d : Definition) : Type 0 where
  most : d.count ≤ max_files
  places : length d.files ≡ max_files
  each : Each TidyFile d.files
  unused : drop d.count d.files ≡ drop d.count no_definition.files

-- a file that has no field yet
new_tidy : (n m : ℕ) → TidyFile (record { number = n; max_isn = m; count = 0; fields = no_file.fields })
new_tidy n m = record { unused = refl }

none_tidy : Tidy no_definition
none_tidy = record { each_used = tt; unused = refl }

none_grown : Grown no_definition
none_grown = record { most = omega arith; places = refl; each = each_replicate TidyFile max_files no_file (new_tidy 0 0); unused = refl }

-- the next place taken, those behind it are as empty as they were
next_unused : {A : Type 0} (l blank : List A) (i : ℕ) (x : A) → drop i l ≡ drop i blank → drop (i + 1) (set l i x) ≡ drop (i + 1) blank
next_unused l blank i x e = drop-set-lt (i + 1) l i x (omega arith) ∙ sym (drop-drop 1 i l) ∙ ap (drop 1) e ∙ drop-drop 1 i blank

with_field_tidy : (f : File) (g : Field) → TidyFile f → f.count < max_fields → TidyFile (with_field f g)
with_field_tidy f g t h =
    let before : field_count f ≡ f.count = omega (arith, h) in
    let after : field_count (with_field f g) ≡ f.count + 1 = omega (arith, h) in
    record { unused = rw after (next_unused f.fields no_file.fields f.count g (rw before at t.unused)) }

file_added : (d : Definition) (n m : ℕ) → Grown d → room_for_file d ≡ true → Grown (add_file d n m)
file_added d n m g h =
    let f : File = record { number = n; max_isn = m; count = 0; fields = no_file.fields } in
    record {
      most = omega (arith, ltb-true d.count max_files h);
      places = length-set d.files d.count f ∙ g.places;
      each = each_set TidyFile d.files d.count f g.each (new_tidy n m);
      unused = next_unused d.files no_definition.files d.count f g.unused;
    }

field_added : (d : Definition) (f : Field) → Grown d → room_for_field d ≡ true → Grown (add_field d f)
field_added d f g h =
    let least : 1 ≤ d.count = within_least 1 max_files d.count (and_left (within 1 max_files d.count) (ltb (last_file d).count max_fields) h) in
    let room : (last_file d).count < max_fields = ltb-true (last_file d).count max_fields (and_right (within 1 max_files d.count) (ltb (last_file d).count max_fields) h) in
    let last : TidyFile (last_file d) = each_at TidyFile d.files beyond g.each (d.count - 1) (omega (arith, least, g.most, g.places)) in
    let longer : File = with_field (last_file d) f in
    record {
      most = g.most;
      places = length-set d.files (d.count - 1) longer ∙ g.places;
      each = each_set TidyFile d.files (d.count - 1) longer g.each (with_field_tidy (last_file d) f last room);
      unused = drop-set-lt d.count d.files (d.count - 1) longer (omega (arith, least)) ∙ g.unused;
    }

grown_tidy : (d : Definition) → Grown d → Tidy d
grown_tidy d g =
    let all_used : file_count d ≡ d.count = omega (arith, g.most) in
    record { each_used = each_take TidyFile (file_count d) d.files g.each; unused = rw all_used g.unused }

-- ---- along the items
abbrev TidyReading : Reading → Type 0
TidyReading r = Tidy r.definition

cond_tidy : (b : Bool) (r : Reading) → (b ≡ true → TidyReading r) → TidyReading (cond b r broken)
cond_tidy true r t = t refl
cond_tidy false r t = none_tidy

module _ (on : ℕ → Definition → Reading) (later : (at : ℕ) (d : Definition) → Grown d → TidyReading (on at d)) where
  proceed_tidy : (at : ℕ) (d : Definition) (i : Option Item) → Grown d → TidyReading (proceed on at d i)
  proceed_tidy at d (Some (item_file n m)) g = cond_tidy (room_for_file d) (on (at + 4) (add_file d n m)) (λ h. later (at + 4) (add_file d n m) (file_added d n m g h))
  proceed_tidy at d (Some (item_field f)) g = cond_tidy (room_for_field d) (on (at + 6) (add_field d f)) (λ h. later (at + 6) (add_field d f) (field_added d f g h))
  proceed_tidy at d (Some item_end) g = cond_tidy (valid d) _ (λ v. grown_tidy d g)
  proceed_tidy at d None g = none_tidy

module _ (bytes : List ℕ) where
  from_tidy : (fuel at : ℕ) (d : Definition) → Grown d → TidyReading (read_from fuel bytes at d)
  unfolding read_from
  from_tidy zero at d g = none_tidy
  from_tidy (suc fuel) at d g = proceed_tidy (read_from fuel bytes) (from_tidy fuel) at d (item_of (drop at bytes)) g

  pub read_tidy : Tidy (read_table bytes).definition
  unfolding read_table
  read_tidy = from_tidy (length bytes) 0 no_definition none_grown

-- ---- set-up: the table that was read, or none
abbrev TidySetUp : SetUp → Type 0
TidySetUp s = Tidy s.nucleus.state.definition

set_up_cond : (b : Bool) (yes_then no_then : SetUp) → TidySetUp yes_then → TidySetUp no_then → TidySetUp (cond b yes_then no_then)
set_up_cond true s t p q = p
set_up_cond false s t p q = q

module _ (capacity : ℕ) (store : List ℕ) (queue : List Entry) (images table : List ℕ) where
  abbrev words : List ℕ
  words = map pack_of queue

  as_tidy : (d : Definition) → Tidy d → TidySetUp (set_up_as capacity store words images d)
  as_tidy d t = set_up_cond (too_short d capacity store words images) _ _ none_tidy t

  at_tidy : (e : Option ℕ) (size : ℕ) (d : Definition) → Tidy d → TidySetUp (set_up_at capacity store words images e size d)
  at_tidy None size d t = none_tidy
  at_tidy (Some end) size d t = set_up_cond (eqb end size) _ _ (as_tidy d t) none_tidy

  pub set_up_tidy : Tidy (set_up_database capacity store queue images table).database.state.definition
  unfolding set_up_database set_up
  set_up_tidy = at_tidy (read_table table).end (length table) (read_table table).definition (read_tidy table)
