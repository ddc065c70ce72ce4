-- Worked examples: the definitions computed on document 01's own table and on rows that break one rule each, checked by one law a table.
-- Assumes nothing.
use Rattle.std.specs.Prelude.{ℕ, ◌≡◌, refl, Bool, true, List, [], ◌∷◌, ◌++◌, map, eqb, set, Option, Some, None}
use Rattle.lists.specs.Folds.{all}
use Rattle.definition.specs.Table.{no_file, no_definition}
use Rattle.records.specs.Records.{record_length}
use Rattle.layout.specs.Layout.{store_size, image_length}
use Rattle.file_validity.specs.FileValidity.{name_valid, field_valid, file_valid}
use Rattle.validity.specs.Validity.{valid}
use Rattle.items.specs.Items.{format_of, option_of, file_item, field_item, item_of}
use Rattle.reading.specs.Grammar.{read_from, read_table}
use Rattle.definition.specs.declared.Format.TheVariants.{Alphanumeric}
use Rattle.definition.specs.declared.FieldOption.TheVariants.{Plain, Unique}

-- "Table X'01010003 0252430141 55 0248480241 20 00' (RC unique, HH)"
paper : List ℕ
paper = 1 ∷ 1 ∷ 0 ∷ 3 ∷ 2 ∷ 82 ∷ 67 ∷ 1 ∷ 65 ∷ 85 ∷ 2 ∷ 72 ∷ 72 ∷ 2 ∷ 65 ∷ 32 ∷ 0 ∷ []

paper_read : read_table paper ≡ record {
  end = Some 17;
  definition = record {
    count = 1;
    files = set no_definition.files 0 (record {
      number = 1;
      max_isn = 3;
      count = 2;
      fields = set
          (set no_file.fields 0 (record { name = record { first = 82; second = 67 }; length = 1; format = Alphanumeric; option = Unique }))
          1
          (record { name = record { first = 72; second = 72 }; length = 2; format = Alphanumeric; option = Plain });
    });
  };
}
unfolding paper read_table read_from item_of file_item field_item format_of option_of valid file_valid field_valid name_valid record_length
paper_read = refl

-- it takes 3 slots of 4 bytes
paper_size : store_size (read_table paper).definition ≡ 12
unfolding paper read_table read_from item_of file_item field_item format_of option_of valid file_valid field_valid name_valid record_length store_size
paper_size = refl

-- ---- one rule after another: a row of bytes, and where it ends, or 0 where it is broken
ends : Option ℕ → ℕ
ends (Some e) = e
ends None = 0

-- a field by its two characters, format, length and option
named : ℕ → ℕ → ℕ → ℕ → ℕ → List ℕ
named first second format length option = 2 ∷ first ∷ second ∷ length ∷ format ∷ option ∷ []

-- a field whose name begins with A
field : ℕ → ℕ → ℕ → ℕ → List ℕ
field second format length option = named 65 second format length option

-- fields of one byte, by their second characters
fields : List ℕ → List ℕ
fields [] = []
fields (second ∷ seconds) = field second 65 1 32 ++ fields seconds

sixteen : List ℕ
sixteen = 48 ∷ 49 ∷ 50 ∷ 51 ∷ 52 ∷ 53 ∷ 54 ∷ 55 ∷ 56 ∷ 57 ∷ 65 ∷ 66 ∷ 67 ∷ 68 ∷ 69 ∷ 70 ∷ []

file : ℕ → ℕ → ℕ → List ℕ
file number high low = 1 ∷ number ∷ high ∷ low ∷ []

-- files of one ISN and one field, by their numbers
files : List ℕ → List ℕ
files [] = []
files (number ∷ numbers) = file number 0 1 ++ field 65 65 1 32 ++ files numbers

record Row : Type 0 where
  bytes : List ℕ
  end : ℕ

one : List ℕ
one = field 65 65 1 32

rows : List Row
rows =
    record { bytes = []; end = 0 } ∷
    record { bytes = 0 ∷ []; end = 0 } ∷
    record { bytes = file 1 0 1 ++ 0 ∷ []; end = 0 } ∷
    record { bytes = file 1 0 1 ++ one; end = 0 } ∷
    record { bytes = file 1 0 1 ++ one ++ 0 ∷ []; end = 11 } ∷
    record { bytes = file 1 0 1 ++ one ++ 0 ∷ 0 ∷ []; end = 11 } ∷
    record { bytes = file 1 0 1 ++ one ++ (3 ∷ 2 ∷ 0 ∷ 1 ∷ []) ++ one ++ 0 ∷ []; end = 0 } ∷
    record { bytes = file 1 0 1 ++ one ++ (3 ∷ 65 ∷ 66 ∷ 1 ∷ 65 ∷ 32 ∷ 0 ∷ []); end = 0 } ∷
    record { bytes = file 1 0 1 ++ one ++ 3 ∷ []; end = 0 } ∷
    record { bytes = one ++ file 1 0 1 ++ one ++ 0 ∷ []; end = 0 } ∷
    record { bytes = file 0 0 1 ++ one ++ 0 ∷ []; end = 0 } ∷
    record { bytes = file 16 0 1 ++ one ++ 0 ∷ []; end = 11 } ∷
    record { bytes = file 17 0 1 ++ one ++ 0 ∷ []; end = 0 } ∷
    record { bytes = file 1 0 0 ++ one ++ 0 ∷ []; end = 0 } ∷
    record { bytes = file 1 15 255 ++ one ++ 0 ∷ []; end = 11 } ∷
    record { bytes = file 1 16 0 ++ one ++ 0 ∷ []; end = 0 } ∷
    record { bytes = file 1 0 1 ++ field 97 65 1 32 ++ 0 ∷ []; end = 0 } ∷
    record { bytes = file 1 0 1 ++ field 57 65 1 32 ++ 0 ∷ []; end = 11 } ∷
    record { bytes = file 1 0 1 ++ field 58 65 1 32 ++ 0 ∷ []; end = 0 } ∷
    record { bytes = file 1 0 1 ++ named 90 90 65 1 32 ++ 0 ∷ []; end = 11 } ∷
    record { bytes = file 1 0 1 ++ named 91 65 65 1 32 ++ 0 ∷ []; end = 0 } ∷
    record { bytes = file 1 0 1 ++ named 97 65 65 1 32 ++ 0 ∷ []; end = 0 } ∷
    record { bytes = file 1 0 1 ++ named 57 65 65 1 32 ++ 0 ∷ []; end = 0 } ∷
    record { bytes = file 1 0 1 ++ fields sixteen ++ 0 ∷ []; end = 101 } ∷
    record { bytes = file 1 0 1 ++ fields (71 ∷ sixteen) ++ 0 ∷ []; end = 0 } ∷
    record { bytes = files (1 ∷ 2 ∷ 3 ∷ 4 ∷ 5 ∷ 6 ∷ 7 ∷ 8 ∷ 9 ∷ 10 ∷ 11 ∷ 12 ∷ 13 ∷ 14 ∷ 15 ∷ 16 ∷ []) ++ 0 ∷ []; end = 161 } ∷
    record { bytes = file 1 0 1 ++ field 65 65 0 32 ++ 0 ∷ []; end = 0 } ∷
    record { bytes = file 1 0 1 ++ field 65 65 253 32 ++ 0 ∷ []; end = 11 } ∷
    record { bytes = file 1 0 1 ++ field 65 65 254 32 ++ 0 ∷ []; end = 0 } ∷
    record { bytes = file 1 0 1 ++ field 65 66 126 68 ++ 0 ∷ []; end = 11 } ∷
    record { bytes = file 1 0 1 ++ field 65 66 127 68 ++ 0 ∷ []; end = 0 } ∷
    record { bytes = file 1 0 1 ++ field 65 85 29 85 ++ 0 ∷ []; end = 11 } ∷
    record { bytes = file 1 0 1 ++ field 65 85 30 85 ++ 0 ∷ []; end = 0 } ∷
    record { bytes = file 1 0 1 ++ field 65 80 15 32 ++ 0 ∷ []; end = 11 } ∷
    record { bytes = file 1 0 1 ++ field 65 80 16 32 ++ 0 ∷ []; end = 0 } ∷
    record { bytes = file 1 0 1 ++ field 65 67 1 32 ++ 0 ∷ []; end = 0 } ∷
    record { bytes = file 1 0 1 ++ field 65 65 1 0 ++ 0 ∷ []; end = 0 } ∷
    record { bytes = file 1 0 1 ++ one ++ one ++ 0 ∷ []; end = 0 } ∷
    record { bytes = file 1 0 1 ++ one ++ file 1 0 1 ++ one ++ 0 ∷ []; end = 0 } ∷
    record { bytes = file 1 0 1 ++ one ++ file 2 0 1 ++ one ++ 0 ∷ []; end = 21 } ∷
    record { bytes = file 1 0 1 ++ field 65 65 253 32 ++ field 66 65 253 32 ++ field 67 65 6 32 ++ 0 ∷ []; end = 23 } ∷
    record { bytes = file 1 0 1 ++ field 65 65 253 32 ++ field 66 65 253 32 ++ field 67 65 7 32 ++ 0 ∷ []; end = 0 } ∷ []

right : Row → Bool
right r = eqb (ends (read_table r.bytes).end) r.end

rows_right : all right rows ≡ true
unfolding rows right ends named field fields sixteen file files one read_table read_from item_of file_item field_item format_of option_of valid file_valid field_valid name_valid record_length
rows_right = refl

-- ---- an image takes the bytes of the longest record, whichever file has it
widest : map
    (λ bytes. image_length (read_table bytes).definition)
    (paper ∷ (file 2 0 9 ++ field 65 65 5 32 ++ files (1 ∷ []) ++ 0 ∷ []) ∷ (files (1 ∷ []) ++ file 2 0 9 ++ field 65 65 5 32 ++ 0 ∷ []) ∷ [])
    ≡ 3 ∷ 5 ∷ 5 ∷ []
unfolding paper named field files file read_table read_from item_of file_item field_item format_of option_of valid file_valid field_valid name_valid record_length image_length
widest = refl
