-- What is kept of a table is the table: frozen and thawed again it is what it was, where its unused places are empty, and every byte is then known; what
-- stands behind a count makes no difference.
-- And the loop over the first elements that writes an image of each: one turn, and its end.
-- Assumes nothing.
use Rattle.std.specs.Prelude.{ℕ, zero, suc, ◌+◌, ◌≤◌, ◌<◌, ◌≡◌, refl, Bool, true, List, [], ◌∷◌, ◌++◌, map, ltb, length, take, get_or, set}
use Rattle.std.proofs.Common.{arith, ◌∙◌, take-append-drop, take-take}
use Rattle.std.proofs.Math.Path.{ap, sym}
use Rattle.std.proofs.Math.ListN.{drop, get_or-map}
use Rattle.std.proofs.lemmas.List.{length-map}
use Rattle.lists.specs.Folds.{all, Each, each_index}
use Rattle.lists.specs.Every.{each_with}
use Rattle.lists.specs.Maps.{take_map}
use Rattle.lists.specs.Rest.{write_more, write_all}
use Rattle.definition.specs.Table.{no_field, no_file, no_definition, field_count, fields_of, file_count, files_of}
use Rattle.definition.specs.declared.Format.{Format}
use Rattle.definition.specs.declared.Format.TheVariants.{Alphanumeric, Binary, Unpacked, Packed}
use Rattle.definition.specs.declared.FieldOption.{FieldOption}
use Rattle.definition.specs.declared.FieldOption.TheVariants.{Plain, Descriptor, Unique}
use Rattle.definition.specs.declared.Field.{Field}
use Rattle.definition.specs.declared.File.{File}
use Rattle.definition.specs.declared.Definition.{Definition}
use Rattle.kept_tables.specs.KeptTables.{format_number, option_number, format_numbered, option_numbered, kept_field_count, kept_fields_of, kept_file_count, kept_files_of, bytes_known, fields_known, files_known, mapped, thawed_field, thawed_file, thawed_files, frozen_field, frozen_file}
use Rattle.kept_tables.specs.declared.KeptFile.{KeptFile}

-- ---- frozen and thawed again
format_back : (f : Format) → format_numbered (format_number f) ≡ f
unfolding format_numbered
format_back Alphanumeric = refl
format_back Binary = refl
format_back Unpacked = refl
format_back Packed = refl

option_back : (o : FieldOption) → option_numbered (option_number o) ≡ o
unfolding option_numbered
option_back Plain = refl
option_back Descriptor = refl
option_back Unique = refl

pub field_back : (f : Field) → thawed_field (frozen_field f) ≡ f
unfolding thawed_field frozen_field
field_back f = λ i. record { name = f.name; length = f.length; format = format_back f.format i; option = option_back f.option i }

-- a file whose unused places are empty, and a definition of which each file in use is such a one and the other places are empty
pub record TidyFile (f : File) : Type 0 where
  pub unused : drop (field_count f) f.fields ≡ drop (field_count f) no_file.fields

pub record Tidy (d : Definition) : Type 0 where
  pub each_used : Each TidyFile (files_of d)
  pub unused : drop (file_count d) d.files ≡ drop (file_count d) no_definition.files

module _ {A B : Type 0} (g : A → B) (h : B → A) where
  map_back : (l : List A) → Each (λ x. h (g x) ≡ x) l → map h (map g l) ≡ l
  map_back [] e = refl
  map_back (x ∷ l) e = λ i. (e.0 i) ∷ map_back l e.1 i

  -- the first n there and back, and behind them the same as before
  mapped_back : (n : ℕ) (l rest : List A) → Each (λ x. h (g x) ≡ x) (take n l) → drop n l ≡ drop n rest → mapped h (map g l) rest n ≡ l
  mapped_back n l rest e same =
      (λ i. (take_map h n (map g l) ∙ ap (map h) (take_map g n l) ∙ map_back (take n l) e) i ++ sym same i) ∙ take-append-drop n l

pub file_back : (f : File) → TidyFile f → thawed_file (frozen_file f) ≡ f
unfolding thawed_file frozen_file
file_back f t =
    let each = each_index (λ x. thawed_field (frozen_field x) ≡ x) no_field (fields_of f) (λ i h. field_back _) in
    let fields = mapped_back frozen_field thawed_field (field_count f) f.fields no_file.fields each t.unused in
    λ i. record { number = f.number; max_isn = f.max_isn; count = f.count; fields = fields i }

pub files_back : (d : Definition) → Tidy d → thawed_files d.count (map frozen_file d.files) ≡ d.files
unfolding thawed_files
files_back d t =
    let each = each_with TidyFile (λ f. thawed_file (frozen_file f) ≡ f) file_back (files_of d) t.each_used in
    mapped_back frozen_file thawed_file (file_count d) d.files no_definition.files each t.unused

-- ---- what stands behind a count is not looked at
-- what is looked at of a file: its numbers, and the fields in use
abbrev pub seen : KeptFile → KeptFile
seen k = record { number = k.number; count = k.count; max_isn = k.max_isn; fields = kept_fields_of k }

seen_again : (k : KeptFile) → kept_fields_of (seen k) ≡ kept_fields_of k
seen_again k = take-take (kept_field_count k) (kept_field_count k) k.fields (omega arith)

file_seen : (k : KeptFile) → thawed_file (seen k) ≡ thawed_file k
unfolding thawed_file
file_seen k =
    let fields = take_map thawed_field (kept_field_count k) (kept_fields_of k) ∙ ap (map thawed_field) (seen_again k) ∙ sym (take_map thawed_field (kept_field_count k) k.fields) in
    λ i. record { number = k.number; max_isn = k.max_isn; count = k.count; fields = fields i ++ drop (kept_field_count k) no_file.fields }

bytes_seen : (k : KeptFile) → fields_known (seen k) ≡ fields_known k
unfolding fields_known
bytes_seen k = ap (all bytes_known) (seen_again k)

each_seen : (l : List KeptFile) → (map thawed_file (map seen l) ≡ map thawed_file l) × (all fields_known (map seen l) ≡ all fields_known l)
each_seen [] = (refl, refl)
each_seen (k ∷ l) = (λ i. file_seen k i ∷ (each_seen l).0 i, rw (bytes_seen k, (each_seen l).1))

-- two tables of which the same is looked at
module _ (count : ℕ) (files other : List KeptFile) (same : map seen (kept_files_of count files) ≡ map seen (kept_files_of count other)) where
  pub files_unseen : thawed_files count files ≡ thawed_files count other
  unfolding thawed_files
  files_unseen =
      let thaw = sym (each_seen (kept_files_of count files)).0 ∙ ap (map thawed_file) same ∙ (each_seen (kept_files_of count other)).0 in
      ap (λ t. t ++ drop (kept_file_count count) no_definition.files) (take_map thawed_file (kept_file_count count) files ∙ thaw ∙ sym (take_map thawed_file (kept_file_count count) other))

  pub known_unseen : files_known count files ≡ files_known count other
  unfolding files_known
  known_unseen = sym (each_seen (kept_files_of count files)).1 ∙ ap (all fields_known) same ∙ (each_seen (kept_files_of count other)).1

-- ---- every byte of what was frozen is known
format_known : (f : Format) → ltb (format_number f) 4 ≡ true
format_known Alphanumeric = refl
format_known Binary = refl
format_known Unpacked = refl
format_known Packed = refl

option_known : (o : FieldOption) → ltb (option_number o) 3 ≡ true
option_known Plain = refl
option_known Descriptor = refl
option_known Unique = refl

field_known : (f : Field) → bytes_known (frozen_field f) ≡ true
unfolding bytes_known frozen_field
field_known f = rw (format_known f.format, option_known f.option)

map_known : {A B : Type 0} (p : B → Bool) (g : A → B) → ((x : A) → p (g x) ≡ true) → (n : ℕ) (l : List A) → all p (take n (map g l)) ≡ true
map_known p g e zero l = refl
map_known p g e (suc n) [] = refl
map_known p g e (suc n) (x ∷ l) = rw (e x) (map_known p g e n l)

file_known : (f : File) → fields_known (frozen_file f) ≡ true
unfolding fields_known frozen_file
file_known f = map_known bytes_known frozen_field field_known (field_count f) f.fields

pub frozen_known : (count : ℕ) (l : List File) → files_known count (map frozen_file l) ≡ true
unfolding files_known
frozen_known count l = map_known fields_known frozen_file file_known (kept_file_count count) l

-- ---- a loop that writes the image of each element
module _ {A B : Type 0} (f : A → B) (l : List A) (old : List B) (i : ℕ) where
  pub map_more : (d : A) → i < length l → i < length old → set (mapped f l old i) i (f (get_or l i d)) ≡ mapped f l old (i + 1)
  map_more d h k =
      let within : i < length (map f l) = omega (arith, h, length-map l f) in
      ap (set (mapped f l old i) i) (sym (get_or-map f l i d)) ∙ write_more (map f l) old i (f d) within k

  pub map_all : length l ≤ i → length old ≤ i → mapped f l old i ≡ map f l
  map_all h k =
      let past : length (map f l) ≤ i = omega (arith, h, length-map l f) in
      write_all (map f l) old i past k
