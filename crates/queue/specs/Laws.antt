-- Laws of the hold queue: what looking up finds, and counting; what adding an entry makes of the list of entries.
-- Assumes nothing.
use Rattle.std.specs.Prelude.{ℕ, zero, suc, ◌+◌, ◌≤◌, ◌<◌, ◌≡◌, refl, Bool, true, false, not, List, [], ◌∷◌, ◌++◌, map, eqb, length, get_or, set, Option, Some, None, is_some}
use Rattle.std.proofs.Common.{suc-le-suc, le_of_suc-le-suc, arith, sym, ap, ◌∙◌, length-set, get_or-set_same, eqb-true}
use Rattle.std.proofs.Math.Seq.{set_out}
use Rattle.std.proofs.lemmas.Bool.{not-true}
use Rattle.lists.specs.Folds.{any, total, distinct, any_agree}
use Rattle.lists.specs.Maps.{any_over}
use Rattle.lists.specs.Tests.{Outcome, holds, fails, outcome, not_both, and_left, and_right, or_left, or_right, eqb_self, eqb_comm}
use Rattle.entries.specs.Entries.{bit, pack_of, is_of, entries}
use Rattle.entries.specs.Laws.{Shape, unpack_pack, no_entry, entries_last, entries_kept}
use Rattle.queue.specs.Queue.{seek, holder, one_of, held_by, append}
use Rattle.entries.specs.declared.Entry.{Entry}

-- ---- what looking up finds
abbrev pub is_held : Option (ℕ × Entry) → Bool
is_held (Some (i, e)) = true
is_held None = false

held_seek : (file isn : ℕ) (es : List Entry) (i : ℕ) → is_held (seek file isn es i) ≡ any (is_of file isn) es
held_seek file isn [] i = refl
held_seek file isn (e ∷ es) i = go (outcome (is_of file isn e)) (held_seek file isn es (i + 1))
  where
    go : Outcome (is_of file isn e) → is_held (seek file isn es (i + 1)) ≡ any (is_of file isn) es → is_held (seek file isn (e ∷ es) i) ≡ any (is_of file isn) (e ∷ es)
    go (holds p) r = rw p
    go (fails p) r = rw p r

pub held_any : (file isn : ℕ) (es : List Entry) → is_held (holder es file isn) ≡ any (is_of file isn) es
unfolding holder
held_any file isn es = held_seek file isn es 0

pub held_some : (file isn : ℕ) (es : List Entry) → is_some (holder es file isn) ≡ any (is_of file isn) es
held_some file isn es = go (holder es file isn) ∙ held_any file isn es
  where
    go : (r : Option (ℕ × Entry)) → is_some r ≡ is_held r
    go (Some (i, e)) = refl
    go None = refl

-- what a lookup that finds says
pub record Found (es : List Entry) (file isn i : ℕ) (e : Entry) : Type 0 where
  pub inside : i < length es
  pub stands : get_or es i no_entry ≡ e
  pub matches : is_of file isn e ≡ true
  pub first : (k : ℕ) → k < i → is_of file isn (get_or es k no_entry) ≡ false

-- the same from a place on
record Sought (es : List Entry) (file isn from i : ℕ) (e : Entry) : Type 0 where
  step : ℕ
  is : i ≡ from + step
  found : Found es file isn step e

module _ (file isn : ℕ) where
  seek_found : (es : List Entry) (from i : ℕ) (e : Entry) → seek file isn es from ≡ Some (i, e) → Sought es file isn from i e
  seek_found [] from i e h = absurd (let z : ◌≡◌ {A = ℕ} 0 1 = ap (λ r. bit (is_held r)) h in omega arith)
  seek_found (x ∷ es) from i e h = go (outcome (is_of file isn x)) (seek_found es (from + 1) i e)
    where
      go : Outcome (is_of file isn x) → (seek file isn es (from + 1) ≡ Some (i, e) → Sought es file isn (from + 1) i e) → Sought (x ∷ es) file isn from i e
      go (holds p) f =
          let here : Some (from, x) ≡ Some (i, e) = rw p at h in
          let both : ◌≡◌ {A = ℕ × Entry} (from, x) (i, e) = cc in
          let at : from ≡ i = ap (λ (p : ℕ × Entry). p.0) both in
          let entry : x ≡ e = ap (λ (p : ℕ × Entry). p.1) both in
          record {
            step = 0;
            is = omega arith;
            found = record { inside = omega arith; stands = entry; matches = rw (← entry) p; first = λ k b. absurd (omega arith) };
          }
      go (fails p) f =
          let r = f (rw p at h) in
          record {
            step = suc r.step;
            is = r.is ∙ omega arith;
            found = record {
              inside = suc-le-suc r.found.inside;
              stands = r.found.stands;
              matches = r.found.matches;
              first = earlier p r.found.first;
            };
          }
        where
          earlier : is_of file isn x ≡ false → {n : ℕ} → ((k : ℕ) → k < n → is_of file isn (get_or es k no_entry) ≡ false) → (k : ℕ) → k < suc n → is_of file isn (get_or (x ∷ es) k no_entry) ≡ false
          earlier q g zero b = q
          earlier q g (suc k) b = g k (le_of_suc-le-suc b)

  pub held_found : (es : List Entry) (i : ℕ) (e : Entry) → holder es file isn ≡ Some (i, e) → Found es file isn i e
  unfolding holder
  held_found es i e h =
      let r = seek_found es 0 i e h in
      let at : r.step ≡ i = omega (arith, r.is) in
      rw at at r.found

  pub free_none : (es : List Entry) → holder es file isn ≡ None → any (is_of file isn) es ≡ false
  free_none es h = sym (held_any file isn es) ∙ ap is_held h

-- of a list with others behind it: the same, where it finds, and else the last
seek_front : (file isn : ℕ) (es fs : List Entry) (i : ℕ) → any (is_of file isn) es ≡ true → seek file isn (es ++ fs) i ≡ seek file isn es i
seek_front file isn [] fs i h = not_both false h refl
seek_front file isn (e ∷ es) fs i h = go (outcome (is_of file isn e)) (seek_front file isn es fs (i + 1))
  where
    go : Outcome (is_of file isn e) → (any (is_of file isn) es ≡ true → seek file isn (es ++ fs) (i + 1) ≡ seek file isn es (i + 1)) → seek file isn (e ∷ es ++ fs) i ≡ seek file isn (e ∷ es) i
    go (holds t) later = rw t
    go (fails t) later = rw t (later (rw t at h))

pub holder_front : (file isn : ℕ) (es fs : List Entry) → is_held (holder es file isn) ≡ true → holder (es ++ fs) file isn ≡ holder es file isn
unfolding holder
holder_front file isn es fs h = seek_front file isn es fs 0 (sym (held_any file isn es) ∙ h)

seek_last : (file isn : ℕ) (e : Entry) (es : List Entry) (i : ℕ) → any (is_of file isn) es ≡ false → is_of file isn e ≡ true → seek file isn (es ++ e ∷ []) i ≡ Some (i + length es, e)
seek_last file isn e [] i h t = let z : i + 0 ≡ i = omega arith in rw (t, z)
seek_last file isn e (x ∷ es) i h t =
    let z : i + suc (length es) ≡ i + 1 + length es = omega arith in
    rw (or_left (is_of file isn x) (any (is_of file isn) es) h, z) (seek_last file isn e es (i + 1) (or_right (is_of file isn x) (any (is_of file isn) es) h) t)

pub holder_last : (es : List Entry) (e : Entry) → holder es e.file e.isn ≡ None → holder (es ++ e ∷ []) e.file e.isn ≡ Some (length es, e)
unfolding holder
holder_last es e free =
    let here : is_of e.file e.isn e ≡ true = rw (eqb_self e.file, eqb_self e.isn) in
    seek_last e.file e.isn e es 0 (free_none e.file e.isn es free) here ∙ ap (λ k. Some (k, e)) (omega arith)

-- two entries of one record, either way round
pub is_of_swap : (e f : Entry) → is_of f.file f.isn e ≡ is_of e.file e.isn f
is_of_swap e f = rw (eqb_comm e.file f.file, eqb_comm e.isn f.isn)

-- ---- how many a user has: one, where all entries are of different users
none_held : (user : ℕ) (es : List Entry) → any (λ (e : Entry). eqb e.user user) es ≡ false → total (one_of user) es ≡ 0
none_held user [] h = refl
none_held user (e ∷ es) h =
    let rest : total (one_of user) es ≡ 0 = none_held user es (or_right (eqb e.user user) (any (λ (x : Entry). eqb x.user user) es) h) in
    rw (or_left (eqb e.user user) (any (λ (x : Entry). eqb x.user user) es) h) (omega (arith, rest))

one_held : (user : ℕ) (es : List Entry) → distinct eqb (map (λ (e : Entry). e.user) es) ≡ true → any (λ (e : Entry). eqb e.user user) es ≡ true → total (one_of user) es ≡ 1
one_held user [] d h = not_both false h refl
one_held user (e ∷ es) d h = go (outcome (eqb e.user user)) (one_held user es (and_right (not (any (eqb e.user) users)) (distinct eqb users) d))
  where
    users : List ℕ
    users = map (λ (x : Entry). x.user) es

    go : Outcome (eqb e.user user) → (any (λ (x : Entry). eqb x.user user) es ≡ true → total (one_of user) es ≡ 1) → total (one_of user) (e ∷ es) ≡ 1
    go (holds t) later =
        let alone : any (eqb e.user) users ≡ false = not-true (any (eqb e.user) users) (and_left (not (any (eqb e.user) users)) (distinct eqb users) d) in
        let others : any (λ (x : Entry). eqb x.user user) es ≡ false =
        any_agree (λ (x : Entry). eqb x.user user) (λ (x : Entry). eqb user x.user) (λ x. eqb_comm x.user user) es
        ∙ sym (any_over (λ (x : Entry). x.user) (eqb user) es) ∙ rw (eqb-true e.user user t) at alone in
        rw t (omega (arith, none_held user es others))
    go (fails t) later = rw t (omega (arith, later (rw t at h)))

pub held_once : (user : ℕ) (es : List Entry) → distinct eqb (map (λ (e : Entry). e.user) es) ≡ true → any (λ (e : Entry). eqb e.user user) es ≡ true → held_by es user ≡ 1
unfolding held_by
held_once user es d h = one_held user es d h

-- ---- an entry more
pub entries_append : (words : List ℕ) (count : ℕ) (e : Entry) → Shape e → count < length words → entries (append words count e) (count + 1) ≡ entries words count ++ e ∷ []
unfolding append
entries_append words count e s h =
    let long : count < length (set words count (pack_of e)) = simp length-set h in
    rw (
      entries_last (set words count (pack_of e)) count long,
      entries_kept words count count (pack_of e) (omega arith),
      get_or-set_same words count (pack_of e) 0 h,
      unpack_pack e s,
    )

-- no room
pub append_full : (words : List ℕ) (count : ℕ) (e : Entry) → length words ≤ count → append words count e ≡ words
unfolding append
append_full words count e h = set_out words count (pack_of e) h

pub length_append_entry : (words : List ℕ) (count : ℕ) (e : Entry) → length (append words count e) ≡ length words
unfolding append
length_append_entry words count e = length-set words count (pack_of e)
