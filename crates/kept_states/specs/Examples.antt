-- Worked examples: a control block and its call, an answer put in, and tables as they are kept. Assumes nothing.
use Rattle.std.specs.Prelude.{ℕ, ◌≡◌, refl, List, [], ◌∷◌, replicate}
use Rattle.definition.specs.Table.{no_field, no_file, no_definition}
use Rattle.definition.specs.declared.Format.TheVariants.{Binary}
use Rattle.definition.specs.declared.FieldOption.TheVariants.{Descriptor}
use Rattle.definition.specs.declared.Definition.{Definition}
use Rattle.kept_tables.specs.KeptTables.{format_numbered, option_numbered, bytes_known, fields_known, files_known, thawed_field, thawed_file, thawed_files}
use Rattle.kept_tables.specs.declared.KeptFile.{KeptFile}
use Rattle.nucleus.specs.declared.Response.TheVariants.{Good}
use Rattle.kept_states.specs.KeptStates.{thawed_table, call_of, answered}
use Rattle.kept_states.specs.declared.ControlBlock.{ControlBlock}

-- L1 with option I at ISN 2 of file 3, by user 4, at 500 seconds; and the same with what it answered
asked : ControlBlock
asked = record {
  command = 76 ∷ 49 ∷ [];
  option = 73;
  user = 4;
  file = 3;
  isn = 2;
  limit = 0;
  clock = 500;
  response = 0;
  answered_isn = 0;
  sequence = 0;
  quantity = 0;
}

told : ControlBlock
told = record {
  command = 76 ∷ 49 ∷ [];
  option = 73;
  user = 4;
  file = 3;
  isn = 2;
  limit = 0;
  clock = 500;
  response = 0;
  answered_isn = 7;
  sequence = 0;
  quantity = 3;
}

call : call_of asked ≡ record { command = 76 ∷ 49 ∷ []; option = 73; user = 4; file = 3; isn = 2; limit = 0; clock = 500 }
unfolding asked call_of
call = refl

answer : answered 0 (record { response = Good; isn = 7; quantity = 3; sequence = 0 }) asked ≡ told
unfolding asked told answered
answer = refl

-- a file that has in its first place the field AA, binary, 2 bytes, a descriptor, and in its second a byte that numbers no option: with the first place
-- alone in use it is a table, and with both it is none
kept : ℕ → List KeptFile
kept count = record {
  number = 1;
  count = count;
  max_isn = 9;
  fields = record { first = 65; second = 65; length = 2; format = 1; option = 1 } ∷ record { first = 65; second = 66; length = 2; format = 1; option = 3 } ∷ [];
} ∷ []

defined : Definition
defined = record {
  count = 1;
  files = record {
    number = 1;
    max_isn = 9;
    count = 1;
    fields = record { name = record { first = 65; second = 65 }; length = 2; format = Binary; option = Descriptor } ∷ replicate 15 no_field;
  } ∷ replicate 15 no_file;
}

table : thawed_table 1 (kept 1) ≡ defined
unfolding kept defined thawed_table files_known fields_known bytes_known thawed_files thawed_file thawed_field format_numbered option_numbered
table = refl

no_table : thawed_table 1 (kept 2) ≡ no_definition
unfolding kept thawed_table files_known fields_known bytes_known
no_table = refl
