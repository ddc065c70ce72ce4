-- Worked examples: the bytes that document 01's table asks for, with three ISNs of three bytes each. Assumes nothing.
use Rattle.std.specs.Prelude.{ℕ, ◌≡◌, refl, List, [], ◌∷◌, map, take}
use Rattle.records.specs.Records.{record_length}
use Rattle.layout.specs.Layout.{store_size, image_length}
use Rattle.validity.specs.Validity.{valid}
use Rattle.file_validity.specs.FileValidity.{file_valid, field_valid, name_valid}
use Rattle.items.specs.Items.{format_of, option_of, file_item, field_item, item_of}
use Rattle.reading.specs.Grammar.{read_from, read_table}
use Rattle.kept_setup.specs.KeptSetup.{store_bytes, image_bytes}

table : List ℕ
table = 0x01 ∷ 0x01 ∷ 0x00 ∷ 0x03 ∷ 0x02 ∷ 0x52 ∷ 0x43 ∷ 0x01 ∷ 0x41 ∷ 0x55 ∷ 0x02 ∷ 0x48 ∷ 0x48 ∷ 0x02 ∷ 0x41 ∷ 0x20 ∷ 0x00 ∷ []

store : store_bytes table ≡ 12
unfolding table store_bytes record_length store_size valid file_valid field_valid name_valid format_of option_of file_item field_item item_of read_from read_table
store = refl

-- a capacity of 64; one past the greatest; none
images : map (λ capacity. image_bytes capacity table) (64 ∷ 257 ∷ 0 ∷ []) ≡ 192 ∷ 0 ∷ 0 ∷ []
unfolding table image_bytes record_length image_length valid file_valid field_valid name_valid format_of option_of file_item field_item item_of read_from read_table
images = refl

-- a table without its end
cut : store_bytes (take 16 table) ≡ 0
unfolding table store_bytes valid file_valid field_valid name_valid format_of option_of file_item field_item item_of read_from read_table
cut = refl
