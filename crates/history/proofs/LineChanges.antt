-- Holds and lines (`Lined`) where a record is changed: the hold of the record is marked, in the queue and in the journal; who holds stays as it was.
-- Assumes nothing.
use Rattle.std.specs.Prelude.{ℕ, zero, suc, ◌+◌, ◌<◌, ◌≡◌, Bool, true, false, not, cond, ◌||◌, eqb, length, get_or, Some}
use Rattle.std.proofs.Common.{suc-le-suc, le_of_suc-le-suc, not-suc-le-zero, arith, ◌∙◌, eqb-true}
use Rattle.std.proofs.Math.Path.{refl, sym, ap}
use Rattle.std.proofs.Math.Bool.{or-false}
use mathlib.Core.List.{List, [], ◌∷◌, map}
use Rattle.std.proofs.Math.ListN.{set}
use Rattle.std.proofs.Math.Seq.{set-get_or}
use Rattle.std.proofs.lemmas.Bool.{not-true, not-false}
use Rattle.lists.specs.Tests.{or-true, Outcome, holds, fails, outcome, and_left, and_right, or_left, or_right}
use Rattle.lists.specs.Folds.{any, distinct, any_agree}
use Rattle.lists.specs.Maps.{map_set}
use Rattle.entries.specs.Entries.{is_of, entries}
use Rattle.entries.specs.Laws.{no_entry, length_entries}
use Rattle.entries.specs.declared.Entry.{Entry}
use Rattle.queue.specs.Queue.{seek, holder}
use Rattle.queue.specs.Laws.{Found, held_found, is_of_swap}
use Rattle.changes.specs.Changes.{as_changed, change, settled, first_change_queue}
use Rattle.changes.specs.Laws.{entries_change, settled_at}
use Rattle.repeats.specs.Repeats.{alike, repeated}
use Rattle.nucleus.specs.Nucleus.{Nucleus, Request, entries_of}
use Rattle.nucleus.specs.Target.{other_holds, holder_of}
use Rattle.nucleus.specs.Effects.{imaged_at}
use Rattle.claim.specs.Journal.{Journal, Hold, hold_at, mark_changed, log_mark}
use Rattle.history.proofs.QueueMoves.{MadeIn}
use Rattle.history.specs.Lined.{Lined, hold_seen}
use Rattle.history.proofs.LineLaws.{fair_as}
use Rattle.history.proofs.Lines.{fair, lined}

-- ---- who holds, as the journal sees it: whether it is changed is not asked
abbrev holds_other : ℕ → ℕ → ℕ → List Hold → Bool
holds_other u file isn [] = false
holds_other u file isn (h ∷ hs) = cond (hold_at file isn h) (not (eqb h.user u)) (holds_other u file isn hs)

other_seek : (u file isn : ℕ) (es : List Entry) (i : ℕ) → other_holds u (seek file isn es i) ≡ holds_other u file isn (map hold_seen es)
other_seek u file isn [] i = refl
other_seek u file isn (e ∷ es) i = go (is_of file isn e) (other_seek u file isn es (i + 1))
  where
    go : (b : Bool) → other_holds u (seek file isn es (i + 1)) ≡ holds_other u file isn (map hold_seen es)
        → other_holds u (cond b (Some (i, e)) (seek file isn es (i + 1))) ≡ cond b (not (eqb e.user u)) (holds_other u file isn (map hold_seen es))
    go true later = refl
    go false later = later

marked_other : (u file isn f i : ℕ) (hs : List Hold) → holds_other u f i (map (mark_changed file isn) hs) ≡ holds_other u f i hs
marked_other u file isn f i [] = refl
marked_other u file isn f i (h ∷ hs) = ap (cond (hold_at f i h) (not (eqb h.user u))) (marked_other u file isn f i hs)

module _ (file isn : ℕ) where
  other_marked : (es fs : List Entry) → map hold_seen fs ≡ map (mark_changed file isn) (map hold_seen es) → (u f i : ℕ) → other_holds u (holder es f i) ≡ other_holds u (holder fs f i)
  unfolding holder
  other_marked es fs h u f i =
      other_seek u f i es 0 ∙ sym (marked_other u file isn f i (map hold_seen es)) ∙ ap (holds_other u f i) (sym h) ∙ sym (other_seek u f i fs 0)

  pub lined_marked : {gone : List Entry} {n : Nucleus} {j : Journal} → Lined gone n j → {m : Nucleus} → map hold_seen (entries_of m) ≡ map (mark_changed file isn) (map hold_seen (entries_of n))
      → m.state.wait_queue ≡ n.state.wait_queue → m.state.users ≡ n.state.users → Lined gone m (log_mark file isn j)
  unfolding log_mark
  lined_marked {n = n} l {m} hs ws us =
      lined (fair_as (fair l) (λ w t. rw (other_marked (entries_of n) (entries_of m) hs w.user w.file w.isn) at t)) refl ws us (hs ∙ ap (map (mark_changed file isn)) l.same_holds) l.same_line

  -- ---- of entries no two of which are of one record, one is marked
  mark_other : (x : Entry) → is_of file isn x ≡ false → mark_changed file isn (hold_seen x) ≡ hold_seen x
  mark_other x h = λ i. record { user = x.user; file = x.file; isn = x.isn; changed = (ap (λ b. x.changed || b) h ∙ or-false x.changed) i }

  marks_none : (es : List Entry) → any (is_of file isn) es ≡ false → map (mark_changed file isn) (map hold_seen es) ≡ map hold_seen es
  marks_none [] h = refl
  marks_none (x ∷ es) h =
      rw (mark_other x (or_left (is_of file isn x) (any (is_of file isn) es) h), marks_none es (or_right (is_of file isn x) (any (is_of file isn) es) h))

  -- none is of the record of one before it
  alone : (x : Entry) (es : List Entry) → is_of file isn x ≡ true → any (alike x) es ≡ false → any (is_of file isn) es ≡ false
  alone x es here h =
      let same_file : x.file ≡ file = eqb-true x.file file (and_left (eqb x.file file) (eqb x.isn isn) here) in
      let same_isn : x.isn ≡ isn = eqb-true x.isn isn (and_right (eqb x.file file) (eqb x.isn isn) here) in
      rw (same_file, same_isn) at (any_agree (is_of x.file x.isn) (alike x) (λ y. sym (is_of_swap x y)) es ∙ h)

  marks_one : (es : List Entry) (at : ℕ) → at < length es → is_of file isn (get_or es at no_entry) ≡ true → ((k : ℕ) → k < at → is_of file isn (get_or es k no_entry) ≡ false)
      → distinct alike es ≡ true → map (mark_changed file isn) (map hold_seen es) ≡ set (map hold_seen es) at (mark_changed file isn (hold_seen (get_or es at no_entry)))
  marks_one [] at inside here before d = absurd (not-suc-le-zero inside)
  marks_one (x ∷ es) zero inside here before d =
      ap (λ t. mark_changed file isn (hold_seen x) ∷ t) (marks_none es (alone x es here (not-true (any (alike x) es) (and_left (not (any (alike x) es)) (distinct alike es) d))))
  marks_one (x ∷ es) (suc at) inside here before d =
      rw (
        mark_other x (before zero (omega arith)),
        marks_one es at (le_of_suc-le-suc inside) here (λ k b. before (suc k) (suc-le-suc b)) (and_right (not (any (alike x) es)) (distinct alike es) d),
      )

  -- ---- the first change, or a later one, of the entry that is found
  module _ (words : List ℕ) (count : ℕ) (single : repeated (entries words count) ≡ false) {at : ℕ} {e : Entry} (found : holder (entries words count) file isn ≡ Some (at, e)) (existed : Bool) where
    abbrev es : List Entry
    es = entries words count

    abbrev f : Found es file isn at e
    f = held_found file isn es at e found

    inside : at < count
    inside = omega (arith, f.inside, length_entries words count)

    settled_is : settled words at ≡ e.changed
    settled_is = settled_at words count at f.inside ∙ ap (λ (x : Entry). x.changed) f.stands

    marked : map (mark_changed file isn) (map hold_seen es) ≡ set (map hold_seen es) at (hold_seen (as_changed existed e))
    unfolding repeated
    marked =
        marks_one es at f.inside (rw f.stands f.matches) f.first (not-false (distinct alike es) single)
        ∙ ap (set (map hold_seen es) at) (ap (λ x. mark_changed file isn (hold_seen x)) f.stands
        ∙ (λ i. record { user = e.user; file = e.file; isn = e.isn; changed = (ap (λ b. e.changed || b) f.matches ∙ or-true e.changed) i }))

    pub holds_marked : map hold_seen (entries (first_change_queue words at existed) count) ≡ map (mark_changed file isn) (map hold_seen es)
    unfolding first_change_queue
    holds_marked = go (outcome e.changed)
      where
        go : Outcome e.changed → map hold_seen (entries (cond (settled words at) words (change words at existed)) count) ≡ map (mark_changed file isn) (map hold_seen es)
        go (holds c) =
            let same : set es at e ≡ es = ap (set es at) (sym f.stands) ∙ set-get_or es at no_entry in
            let changed_already : hold_seen e ≡ hold_seen (as_changed existed e) = λ i. record { user = e.user; file = e.file; isn = e.isn; changed = c i } in
            rw (settled_is, c) (ap (map hold_seen) (sym same) ∙ map_set hold_seen es at e ∙ ap (set (map hold_seen es) at) changed_already ∙ sym marked)
        go (fails c) =
            rw (settled_is, c)
            (ap (map hold_seen) (entries_change words count at existed inside ∙ ap (λ x. set es at (as_changed existed x)) f.stands)
            ∙ map_set hold_seen es at (as_changed existed e) ∙ sym marked)

-- ---- the image of an entry that is found is kept
pub lined_imaged : {gone : List Entry} {n : Nucleus} {j : Journal} → Lined gone n j → (capacity : ℕ) → MadeIn capacity n → (r : Request) (isn : ℕ) {at : ℕ} {e : Entry} → holder_of r n isn ≡ Some (at, e)
    → Lined gone (imaged_at r (Some (at, e)) isn n) (log_mark r.call.file isn j)
lined_imaged {n = n} l capacity made r isn found =
    lined_marked r.call.file isn l (holds_marked r.call.file isn n.queue n.state.count made.single found _) refl refl
