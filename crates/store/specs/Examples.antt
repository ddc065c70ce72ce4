-- Worked examples: the definitions computed on a file with highest ISN 3 and width 3 (fields of 1 and 2 bytes), in a part of 12 bytes.
-- Assumes nothing.
use Rattle.std.specs.Prelude.{ℕ, ◌≡◌, refl, Bool, true, List, [], ◌∷◌, ◌++◌, set, Option, Some, None}
use Rattle.lists.specs.Folds.{all}
use Rattle.definition.specs.Table.{no_file}
use Rattle.definition.specs.declared.File.{File}
use Rattle.definition.specs.declared.Format.TheVariants.{Alphanumeric}
use Rattle.definition.specs.declared.FieldOption.TheVariants.{Plain, Unique}
use Rattle.records.specs.Records.{field_offset, record_length}
use Rattle.lists.specs.Tests.{eqbs}
use Rattle.store.specs.Store.{slot_fits, has_record, shown, get, put_record, empty, fresh}

-- document 01's example: RC unique, 1 byte; HH, 2 bytes; highest ISN 3
unfoldable pub paper : File
paper = record {
  number = 1;
  max_isn = 3;
  count = 2;
  fields = set
      (set no_file.fields 0 (record { name = record { first = 82; second = 67 }; length = 1; format = Alphanumeric; option = Unique }))
      1
      (record { name = record { first = 72; second = 72 }; length = 2; format = Alphanumeric; option = Plain });
}

-- records at ISN 1 and 3; the first byte of ISN 2 is no 1
unfoldable pub part : List ℕ
part = 1 ∷ 50 ∷ 65 ∷ 66 ∷ 2 ∷ 51 ∷ 67 ∷ 68 ∷ 1 ∷ 52 ∷ 69 ∷ 70 ∷ []

-- ---- what is read, as bytes: a record, or nothing
bytes : Option (List ℕ) → List ℕ
bytes None = []
bytes (Some r) = r

record Row : Type 0 where
  given : List ℕ
  expected : List ℕ

rows : List Row
rows =
    -- a record at 1 and 3, none at 0, 2 and 4
    record { given = bytes (get paper part 1); expected = 50 ∷ 65 ∷ 66 ∷ [] } ∷
    record { given = bytes (get paper part 2); expected = [] } ∷
    record { given = bytes (get paper part 3); expected = 52 ∷ 69 ∷ 70 ∷ [] } ∷
    record { given = bytes (get paper part 0); expected = [] } ∷
    record { given = bytes (get paper part 4); expected = [] } ∷
    record { given = bytes (get paper (part ++ 1 ∷ 1 ∷ 1 ∷ 1 ∷ []) 4); expected = [] } ∷
    -- a part that is a byte too short has no third slot
    record { given = bytes (get paper (1 ∷ 50 ∷ 65 ∷ 66 ∷ 2 ∷ 51 ∷ 67 ∷ 68 ∷ 1 ∷ 52 ∷ 69 ∷ []) 3); expected = [] } ∷
    -- what is shown of an ISN with a record, and of one without
    record { given = shown paper part 3; expected = 52 ∷ 69 ∷ 70 ∷ [] } ∷
    record { given = shown paper part 2; expected = [] } ∷
    -- writing: a record, one of another width, at an ISN that is none; emptying; set-up
    record { given = put_record paper part 2 (7 ∷ 8 ∷ 9 ∷ []); expected = 1 ∷ 50 ∷ 65 ∷ 66 ∷ 1 ∷ 7 ∷ 8 ∷ 9 ∷ 1 ∷ 52 ∷ 69 ∷ 70 ∷ [] } ∷
    record { given = put_record paper part 2 (7 ∷ 8 ∷ []); expected = part } ∷
    record { given = put_record paper part 4 (7 ∷ 8 ∷ 9 ∷ []); expected = part } ∷
    record { given = empty paper part 3; expected = 1 ∷ 50 ∷ 65 ∷ 66 ∷ 2 ∷ 51 ∷ 67 ∷ 68 ∷ 0 ∷ 52 ∷ 69 ∷ 70 ∷ [] } ∷
    record { given = empty paper part 0; expected = part } ∷
    record { given = fresh paper (part ++ 1 ∷ 1 ∷ []); expected = 0 ∷ 50 ∷ 65 ∷ 66 ∷ 0 ∷ 51 ∷ 67 ∷ 68 ∷ 0 ∷ 52 ∷ 69 ∷ 70 ∷ 1 ∷ 1 ∷ [] } ∷
    record { given = fresh paper (1 ∷ 50 ∷ 65 ∷ 66 ∷ 1 ∷ 51 ∷ []); expected = 0 ∷ 50 ∷ 65 ∷ 66 ∷ 1 ∷ 51 ∷ [] } ∷ []

right : Row → Bool
right r = eqbs r.given r.expected

rows_right : all right rows ≡ true
unfolding paper part bytes rows right slot_fits has_record shown get put_record empty fresh field_offset record_length
rows_right = refl
