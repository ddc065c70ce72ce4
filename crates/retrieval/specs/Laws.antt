-- What the target of a reading says of the rows that L1 and L4 begin with, whatever rows come after.
-- Assumes nothing.
use Rattle.std.specs.Prelude.{ℕ, ◌≤◌, ◌≡◌, refl, true, length, Option, Some, None, Ok, Err}
use Rattle.std.proofs.Math.Path.{ap}
use Rattle.std.proofs.Common.{◌∙◌}
use mathlib.Core.List.{List, [], ◌∷◌, ◌++◌}
use borrow.Author.Tests.{not-false}
use Rattle.lists.specs.Tests.{not_both}
use Rattle.definition.specs.declared.File.{File}
use Rattle.elements.specs.Elements.{length_needed}
use Rattle.nucleus.specs.Target.{is_isn, isn_in}
use Rattle.nucleus.specs.Rows.{Row, first_cause}
use Rattle.nucleus.specs.declared.Call.{Call}
use Rattle.nucleus.specs.declared.Response.{Response}
use Rattle.shares.specs.Causes.{causes_refused, causes_passed}
use Rattle.shares.proofs.Laws.{row_passed, last_passed}
use Rattle.shares.specs.Chains.{rows_read, row_found, sought, sought_isn}
use Rattle.formats.specs.Laws.{read_room}
use Rattle.retrieval.specs.Retrieval.{target_unless, rows_target, read_target}

-- a target is the ISN where no cause refuses, and else the cause
module _ (c : Option Response) (n : ℕ) where
  unless_refused : (cause : Response) → target_unless c n ≡ Err cause → c ≡ Some cause
  unless_refused cause e = go c e
    where
      go : (x : Option Response) → target_unless x n ≡ Err cause → x ≡ Some cause
      go (Some d) h = cc
      go None h = cc

  unless_at : (isn : ℕ) → target_unless c n ≡ Ok isn → (c ≡ None) × (n ≡ isn)
  unless_at isn e = go c e
    where
      go : (x : Option Response) → target_unless x n ≡ Ok isn → (x ≡ None) × (n ≡ isn)
      go (Some d) h = (cc, cc)
      go None h = (refl, cc)

isn_there : (x : Option ℕ) → is_isn x ≡ true → x ≡ Some (isn_in x)
isn_there (Some isn) h = refl
isn_there None h = not_both _ h refl

module _ (call : Call) (f : File) (part format buffer : List ℕ) where
  pub target_refused : (cause : Response) → read_target call f part format buffer ≡ Err cause → (later : List Row) → first_cause (rows_target call f part format buffer ++ later) ≡ Some cause
  unfolding read_target
  target_refused cause e later = causes_refused (rows_target call f part format buffer) later cause (unless_refused (first_cause (rows_target call f part format buffer)) (sought_isn call f part) cause e)

  module _ (isn : ℕ) (e : read_target call f part format buffer ≡ Ok isn) where
    target_passed : first_cause (rows_target call f part format buffer) ≡ None
    unfolding read_target
    target_passed = (unless_at (first_cause (rows_target call f part format buffer)) (sought_isn call f part) isn e).0

    pub target_later : (later : List Row) → first_cause (rows_target call f part format buffer ++ later) ≡ first_cause later
    target_later later = causes_passed (rows_target call f part format buffer) later target_passed

    -- it was found
    pub target_sought : sought call f part ≡ Some isn
    unfolding read_target
    target_sought =
        let found = not-false (is_isn (sought call f part)) (row_passed (row_found call f part) [] (last_passed (rows_read f format buffer) (row_found call f part ∷ []) target_passed)) in
        isn_there (sought call f part) found ∙ ap Some (unless_at (first_cause (rows_target call f part format buffer)) (sought_isn call f part) isn e).1

    -- and the record buffer has room
    pub target_room : length_needed f format ≤ length buffer
    target_room = read_room f format buffer (row_found call f part ∷ []) target_passed
