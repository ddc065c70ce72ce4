-- An accepted A1, E1, N1 or N2 is a change that the abstract machine allows: nobody else holds the ISN (145), the record is of the file's width, and
-- no unique value that it brings is taken (198).
-- Assumes nothing.
use Rattle.std.specs.Prelude.{ℕ, ◌≡◌, Bool, true, not, ◌&&◌, ◌||◌, List, [], ◌∷◌, eqb, Some}
use Rattle.std.proofs.Math.Path.{refl}
use Rattle.std.proofs.Common.{sym, ap, ◌∙◌}
use Rattle.std.proofs.Math.Bool.{false, and_assoc}
use Rattle.lists.specs.Tests.{eqb_self}
use Rattle.lists.specs.Folds.{any, any_agree}
use Rattle.lists.specs.Sift.{any_sift}
use Rattle.definition.specs.Table.{field_at, field_count, is_unique}
use Rattle.definition.specs.Shape.{DefinitionShape}
use Rattle.definition.specs.declared.Definition.{Definition}
use Rattle.records.specs.Records.{record_length}
use Rattle.layout.specs.Laws.{place_found}
use Rattle.validity.specs.Validity.{valid}
use Rattle.elements.specs.Elements.{places}
use Rattle.lists.specs.Numbers.{numbers}
use Rattle.store.specs.Store.{field_value}
use Rattle.transactions.specs.Machine as machine
use Rattle.ground.specs.Keys.{key, key_file, key_isn, Known}
use Rattle.ground.proofs.Keys.{file_of_key, isn_of_key}
use Rattle.ground.specs.Store.{get}
use Rattle.ground.specs.Queue.{queue_of, Made}
use Rattle.ground.specs.Ground.{uniques}
use Rattle.ground.proofs.Taken.{taken_is}
use Rattle.nucleus.specs.Commands.{one_of, holding, bringing_values}
use Rattle.nucleus.specs.Nucleus.{Nucleus, Request}
use Rattle.nucleus.specs.Target.{file, target_isn, new_record}
use Rattle.nucleus.specs.Rows.{judged, is_taken, value_taken}
use Rattle.nucleus.specs.declared.Command.TheVariants.{A1}
use Rattle.history.specs.Updates.{FileUpdate, suits, judged_by, updates}
use Rattle.claim.specs.Lent.{Lent}
use Rattle.history.specs.Kept.{definition_of, ground_of, seen}
use Rattle.history.proofs.HoldMoves.{other_seen}
use Rattle.history.proofs.Holding.{holdable_at}
use Rattle.history.specs.Accepted.{Accepted}
use Rattle.history.proofs.Changes.{Changes, replaces, erases, adds, adds_there, rest_fails, Aim, file_is}
use Rattle.history.proofs.ChangesLogged.{update_of, slot_of, target_slot, old_width, new_width, old_there, applied}

-- the change as the machine has it
abbrev pub file_update : (r : Request) → Changes r → FileUpdate
file_update r c = record { file = r.call.file; update = update_of r c }

-- ---- each of the four holds its record
pub holds_record : (r : Request) → Changes r → one_of holding r.command ≡ true
holds_record r (replaces e) = rw e
holds_record r (erases e) = rw e
holds_record r (adds e) = rw e
holds_record r (adds_there e) = rw e

permitted : (a b c : Bool) → a ≡ false → b ≡ true → c ≡ false → (not a && b && not c) ≡ true
permitted a b c h i j = rw (h, i, j)

module _ (r : Request) (n : Nucleus) (s : DefinitionShape (definition_of n)) (v : valid (definition_of n) ≡ true) (capacity : ℕ)
    (made : Made (definition_of n) capacity n.store n.queue n.images n.state.count) (t : Aim r n) (a : Accepted r n) (c : Changes r) where
  abbrev d : Definition
  d = definition_of n

  abbrev isn : ℕ
  isn = target_isn r n

  abbrev k : ℕ
  k = key r.call.file isn

  abbrev u : ℕ
  u = r.call.user

  abbrev change : FileUpdate
  change = file_update r c

  number_is : key_file k ≡ r.call.file
  number_is = file_of_key r.call.file isn t.small

  isn_is : key_isn k ≡ isn
  isn_is = isn_of_key r.call.file isn t.small

  abbrev home : Known d k
  home = record {
    at = t.at;
    found = rw number_is t.found;
    in_use = t.in_use;
    number = (place_found d s r.call.file t.at t.found).1 ∙ sym number_is;
    least = rw isn_is t.inside.least;
    most = rw isn_is t.inside.most;
  }

  pub nobody_else : machine.held_by_other u k (queue_of d n.queue n.images n.state.count) ≡ false
  nobody_else = other_seen n capacity made u r.call.file isn t.small ∙ (holdable_at r n a (holds_record r c) t).mine

  pub may_change : (updates d).may change k (get d n.store k) ≡ true
  may_change = rw (t.known, number_is, eqb_self r.call.file) (go c)
    where
      go : (b : Changes r) → suits d r.call.file (update_of r b) (get d n.store k) ≡ true
      go (replaces e) =
          rw (target_slot r n s made.store_room t, old_there r n s made.store_room t a (rw e) (rw e), file_is r n t.at isn t.found, old_width r n s made.store_room t)
          (eqb_self (record_length (file r n)))
      go (erases e) = refl
      go (adds e) = refl
      go (adds_there e) = refl

  pub machine_applied : (updates d).apply k change (get d n.store k) ≡ slot_of r n c
  machine_applied = rw (number_is, file_is r n t.at isn t.found) (applied r n s made.store_room t a c)

  -- ---- unique values
  abbrev new : List ℕ
  new = new_record r n isn

  abbrev judges : ℕ → Bool
  judges j = (updates d).judges change j

  -- "N1 and N2 judge every unique field, A1 the named ones"
  abbrev judged_here : ℕ → Bool
  judged_here j = not (one_of (A1 ∷ []) r.command) || any (eqb j) (places (file r n) r.format)

  judges_is : (j : ℕ) → judged_here j ≡ judges j
  judges_is j = go c
    where
      go : (b : Changes r) → judged_here j ≡ judged_by d r.call.file (update_of r b) j
      go (replaces e) = let y : one_of (A1 ∷ []) r.command ≡ true = rw e in rw (y, file_is r n t.at isn t.found)
      go (erases e) = let y : one_of (A1 ∷ []) r.command ≡ false = rw e in rw y
      go (adds e) = let y : one_of (A1 ∷ []) r.command ≡ false = rw e in rw y
      go (adds_there e) = let y : one_of (A1 ∷ []) r.command ≡ false = rw e in rw y

  abbrev taken_at : ℕ → Bool
  taken_at j = is_taken r n j (field_value (file r n) j new)

  field_test : (j : ℕ) → (is_unique (field_at (file r n) j).option && (judges j && taken_at j)) ≡ (judged r n j && taken_at j)
  field_test j = rw (← (judges_is j)) (sym (and_assoc (is_unique (field_at (file r n) j).option) (judged_here j) (taken_at j)))

  -- 198
  values_free : one_of bringing_values r.command ≡ true → any (λ j. judges j && taken_at j) (uniques (file r n)) ≡ false
  unfolding value_taken uniques
  values_free brings =
      any_sift (λ j. is_unique (field_at (file r n) j).option) (λ j. judges j && taken_at j) (numbers (field_count (file r n)) 0)
      ∙ any_agree _ _ field_test (numbers (field_count (file r n)) 0) ∙ rest_fails _ _ brings a.unique

  module _ (lent : Lent ℕ) where
    new_free : one_of bringing_values r.command ≡ true → machine.taken (ground_of lent n) u k change (Some new) (seen lent n) ≡ false
    new_free brings =
        taken_is d s v n.store made.store_room k home (updates d) lent.store change new (rw t.found at (new_width r n s made.store_room t)) u n.queue n.images n.state.count nobody_else
        ∙ rw (isn_is, number_is) (rw t.found at (values_free brings))

    pub slot_free : machine.taken (ground_of lent n) u k change (slot_of r n c) (seen lent n) ≡ false
    unfolding machine.taken
    slot_free = go c
      where
        go : (b : Changes r) → machine.taken (ground_of lent n) u k change (slot_of r n b) (seen lent n) ≡ false
        go (replaces e) = new_free (rw e)
        go (erases e) = refl
        go (adds e) = new_free (rw e)
        go (adds_there e) = new_free (rw e)

    pub change_allowed : machine.allowed (ground_of lent n) (machine.change u k change) (seen lent n) ≡ true
    unfolding machine.allowed
    change_allowed =
        permitted _ _ _ nobody_else may_change (ap (λ x. machine.taken (ground_of lent n) u k change x (seen lent n)) machine_applied ∙ slot_free)
