-- A table that is read to its end from some bytes is read so from more.
-- Assumes nothing.
use Rattle.definition.specs.declared.FieldOption.{FieldOption}
use Rattle.definition.specs.declared.Format.{Format}
use Rattle.std.specs.Prelude.{ℕ, zero, suc, ◌+◌, ◌-◌, ◌≤◌, ◌<◌, ◌≡◌, refl, Bool, true, false, List, [], ◌++◌, eqb, ltb, length, get_or, take, drop, Option, Some, None}
use Rattle.std.proofs.Common.{arith, sym, ap, subst, ◌∙◌, length-drop, length-append, ne_eqb}
use Rattle.std.proofs.lemmas.Bool.{eqb-true, eqb-false, le-ltb, ltb-false}
use Rattle.std.proofs.lemmas.List.{drop-append-le}
use Rattle.std.proofs.Math.ListN.{get_or-append}
use Rattle.lists.specs.Tests.{cond, Outcome, holds, fails, outcome}
use Rattle.definition.specs.Table.{no_definition}
use Rattle.definition.specs.declared.Definition.{Definition}
use Rattle.validity.specs.Validity.{valid}
use Rattle.items.specs.Items.{format_of, option_of, file_item, field_typed, field_item, item_of}
use Rattle.items.specs.Laws.{item_size, item_fits}
use Rattle.items.specs.declared.Item.{Item}
use Rattle.items.specs.declared.Item.TheVariants.{File as item_file, Field as item_field, End as item_end}
use Rattle.reading.specs.Grammar.{room_for_file, room_for_field, add_file, add_field, broken, ended, proceed, read_from, read_table}
use Rattle.reading.specs.declared.Reading.{Reading}
use Rattle.party.proofs.Passing.{none_ends, starts_inside}

-- ---- an item with more bytes behind it
data More (ys zs : List ℕ) : Type 0 where
  same : item_of (ys ++ zs) ≡ item_of ys → More ys zs
  gone : item_of ys ≡ None → More ys zs

module _ (ys zs : List ℕ) where
  file_more : 3 ≤ length ys → file_item (ys ++ zs) ≡ file_item ys
  unfolding file_item
  file_more h =
      rw (
        le-ltb (length (ys ++ zs)) 3 (omega (arith, length-append ys zs)),
        le-ltb (length ys) 3 h,
        get_or-append ys zs 0 0 (omega arith),
        get_or-append ys zs 0 1 (omega arith),
        get_or-append ys zs 0 2 (omega arith),
      ) refl

  typed_more : (f : Option Format) (o : Option FieldOption) → 5 ≤ length ys → field_typed (ys ++ zs) f o ≡ field_typed ys f o
  typed_more None o h = refl
  typed_more (Some f) None h = refl
  typed_more (Some f) (Some o) h =
      rw (get_or-append ys zs 0 0 (omega arith), get_or-append ys zs 0 1 (omega arith), get_or-append ys zs 0 2 (omega arith)) refl

  field_more : 5 ≤ length ys → field_item (ys ++ zs) ≡ field_item ys
  unfolding field_item
  field_more h =
      rw (
        le-ltb (length (ys ++ zs)) 5 (omega (arith, length-append ys zs)),
        le-ltb (length ys) 5 h,
        get_or-append ys zs 0 3 (omega arith),
        get_or-append ys zs 0 4 (omega arith),
      )
      (typed_more (format_of (get_or ys 3 0)) (option_of (get_or ys 4 0)) h)

file_short : (body : List ℕ) → ltb (length body) 3 ≡ true → file_item body ≡ None
unfolding file_item
file_short body h = rw h refl

field_short : (body : List ℕ) → ltb (length body) 5 ≡ true → field_item body ≡ None
unfolding field_item
field_short body h = rw h refl

item_more : (ys zs : List ℕ) → More ys zs
unfolding item_of
item_more ys zs = go (outcome (eqb (length ys) 0)) (outcome (eqb (get_or ys 0 0) 0)) (outcome (eqb (get_or ys 0 0) 1)) (outcome (eqb (get_or ys 0 0) 2))
  where
    go : Outcome (eqb (length ys) 0) → Outcome (eqb (get_or ys 0 0) 0) → Outcome (eqb (get_or ys 0 0) 1) → Outcome (eqb (get_or ys 0 0) 2) → More ys zs
    go (holds e) q r s = gone (rw e refl)
    go (fails e) q r s = kinds q r s
      where
        some_left : 1 ≤ length ys
        some_left = omega (arith, eqb-false (length ys) 0 e)

        long : eqb (length (ys ++ zs)) 0 ≡ false
        long = ne_eqb (length (ys ++ zs)) 0 (λ z. omega (arith, some_left, length-append ys zs))

        first : get_or (ys ++ zs) 0 0 ≡ get_or ys 0 0
        first = get_or-append ys zs 0 0 some_left

        behind : drop 1 (ys ++ zs) ≡ drop 1 ys ++ zs
        behind = drop-append-le 1 ys zs some_left

        kinds : Outcome (eqb (get_or ys 0 0) 0) → Outcome (eqb (get_or ys 0 0) 1) → Outcome (eqb (get_or ys 0 0) 2) → More ys zs
        kinds (holds q) r s = same (rw (long, first, e, q) refl)
        kinds (fails q) (holds r) s = file (outcome (ltb (length (drop 1 ys)) 3))
          where
            file : Outcome (ltb (length (drop 1 ys)) 3) → More ys zs
            file (holds h) = gone (rw (e, q, r) (file_short (drop 1 ys) h))
            file (fails h) = same (rw (long, first, e, q, r, behind) (file_more (drop 1 ys) zs (omega (arith, ltb-false (length (drop 1 ys)) 3 h))))
        kinds (fails q) (fails r) (holds s) = field (outcome (ltb (length (drop 1 ys)) 5))
          where
            field : Outcome (ltb (length (drop 1 ys)) 5) → More ys zs
            field (holds h) = gone (rw (e, q, r, s) (field_short (drop 1 ys) h))
            field (fails h) = same (rw (long, first, e, q, r, s, behind) (field_more (drop 1 ys) zs (omega (arith, ltb-false (length (drop 1 ys)) 5 h))))
        kinds (fails q) (fails r) (fails s) = gone (rw (e, q, r, s) refl)

-- ---- a reading with more bytes and more fuel
cond_more : (b : Bool) (r r' : Reading) (e : ℕ) → (r.end ≡ Some e → r'.end ≡ Some e) → (cond b r broken).end ≡ Some e → (cond b r' broken).end ≡ Some e
cond_more true r r' e later q = later q
cond_more false r r' e later q = q

from_more : (f g : ℕ) (t zs : List ℕ) (at : ℕ) (d : Definition) (e : ℕ) → f ≤ g → (read_from f t at d).end ≡ Some e → (read_from g (t ++ zs) at d).end ≡ Some e
unfolding read_from
from_more zero g t zs at d e p q = none_ends e q
from_more (suc f) zero t zs at d e p q = absurd (omega arith)
from_more (suc f) (suc g) t zs at d e p q =
    go (item_more (drop at t) zs) (λ at d. from_more f g t zs at d e (omega arith))
  where
    Later : Type 0
    Later = (at : ℕ) (d : Definition) → (read_from f t at d).end ≡ Some e → (read_from g (t ++ zs) at d).end ≡ Some e

    by_item : Later → (i : Option Item) → (proceed (read_from f t) at d i).end ≡ Some e → (proceed (read_from g (t ++ zs)) at d i).end ≡ Some e
    by_item later (Some (item_file n m)) = cond_more (room_for_file d) _ _ e (later (at + 4) (add_file d n m))
    by_item later (Some (item_field h)) = cond_more (room_for_field d) _ _ e (later (at + 6) (add_field d h))
    by_item later (Some item_end) = λ r. r
    by_item later None = λ r. r

    go : More (drop at t) zs → Later → (proceed (read_from g (t ++ zs)) at d (item_of (drop at (t ++ zs)))).end ≡ Some e
    go (same h) later = rw (drop-append-le at t zs (starts_inside t f at d e q), h) (by_item later (item_of (drop at t)) q)
    go (gone h) later = none_ends e (subst (λ i. (proceed (read_from f t) at d i).end ≡ Some e) h q)

pub table_more : (t zs : List ℕ) (e : ℕ) → (read_table t).end ≡ Some e → (read_table (t ++ zs)).end ≡ Some e
unfolding read_table
table_more t zs e = from_more (length t) (length (t ++ zs)) t zs 0 no_definition e (omega (arith, length-append t zs))
