-- Laws of the queue where a key has one entry.
-- Assumes nothing.
use Rattle.std.specs.Prelude.{ℕ, zero, suc, ◌<◌, ◌≡◌, refl, Bool, true, false, not, cond, ◌&&◌, ◌||◌, List, [], ◌∷◌, map, length, get_or, set}
use Rattle.std.proofs.Common.{le_of_suc-le-suc, not-suc-le-zero, arith, sym, ap, ◌∙◌}
use Rattle.lists.specs.Tests.{not_both, and_left, and_right}
use Rattle.lists.specs.Folds.{all}
use Rattle.lists.specs.Sift.{keep, sift}
use Rattle.transactions.specs.Slots.{Slot}
use Rattle.transactions.specs.Machine.{Entry, of_user, at_key, imaged_entry, image_kept}
use Rattle.transactions.specs.View.{Single, holder, at}

single_tail : {e : Entry} {l : List Entry} → Single (e ∷ l) → l ≡ []
single_tail (holder e) = refl

image_kept_none : (k : ℕ) (x : Slot) (q : List Entry) → at k q ≡ [] → map (image_kept k x) q ≡ q
image_kept_none k x [] h = refl
image_kept_none k x (e ∷ q) h = go (at_key k e) h (image_kept_none k x q)
  where
    go : (b : Bool) → keep b e (at k q) ≡ [] → (at k q ≡ [] → map (image_kept k x) q ≡ q) → cond b (imaged_entry x e) e ∷ map (image_kept k x) q ≡ e ∷ q
    go true a f = cc
    go false a f = ap (λ l. e ∷ l) (f a)

-- the one entry of a key, found at an index
module _ (k : ℕ) (z : Entry) where
  not_none : (q : List Entry) (i : ℕ) → i < length q → at_key k (get_or q i z) ≡ true → at k q ≡ [] → ⊥
  not_none [] i h e a = not-suc-le-zero h
  not_none (w ∷ q) zero h e a =
      let b : w ∷ at k q ≡ [] = rw e at a in
      let o : ◌≡◌ {A = ℕ} 0 1 = cc in
      omega arith
  not_none (w ∷ q) (suc i) h e a = go (at_key k w) a (not_none q i (le_of_suc-le-suc h) e)
    where
      go : (b : Bool) → keep b w (at k q) ≡ [] → (at k q ≡ [] → ⊥) → ⊥
      go true c f = let o : ◌≡◌ {A = ℕ} 0 1 = cc in omega arith
      go false c f = f c

  pub at_index : (q : List Entry) (i : ℕ) → i < length q → at_key k (get_or q i z) ≡ true → Single (at k q) → at k q ≡ get_or q i z ∷ []
  at_index [] i h e s = absurd (not-suc-le-zero h)
  at_index (w ∷ q) zero h e s = rw e (ap (λ l. w ∷ l) (single_tail (rw e at s)))
  at_index (w ∷ q) (suc i) h e s = go (at_key k w) s (at_index q i (le_of_suc-le-suc h) e)
    where
      go : (b : Bool) → Single (keep b w (at k q)) → (Single (at k q) → at k q ≡ get_or q i z ∷ []) → keep b w (at k q) ≡ get_or q i z ∷ []
      go true t f = absurd (not_none q i (le_of_suc-le-suc h) e (single_tail t))
      go false t f = f t

  -- an image kept there is a store at the index
  pub image_kept_set : (x : Slot) (q : List Entry) (i : ℕ) → i < length q → at_key k (get_or q i z) ≡ true → Single (at k q) → map (image_kept k x) q ≡ set q i (imaged_entry x (get_or q i z))
  image_kept_set x [] i h e s = absurd (not-suc-le-zero h)
  image_kept_set x (w ∷ q) zero h e s = rw (e, image_kept_none k x q (single_tail (rw e at s)))
  image_kept_set x (w ∷ q) (suc i) h e s = go (at_key k w) s (image_kept_set x q i (le_of_suc-le-suc h) e)
    where
      go : (b : Bool) → Single (keep b w (at k q)) → (Single (at k q) → map (image_kept k x) q ≡ set q i (imaged_entry x (get_or q i z)))
          → cond b (imaged_entry x w) w ∷ map (image_kept k x) q ≡ w ∷ set q i (imaged_entry x (get_or q i z))
      go true t f = absurd (not_none q i (le_of_suc-le-suc h) e (single_tail t))
      go false t f = ap (λ l. w ∷ l) (f t)

-- an entry that was changed before is as it was
pub imaged_changed : (x : Slot) (e : Entry) → e.changed ≡ true → imaged_entry x e ≡ e
imaged_changed x e h = λ j. record { user = e.user; key = e.key; changed = sym h j; image = ap (λ b. cond b e.image x) h j }

-- a test of the entries at a key
pub all_at_key : (k : ℕ) (p : Entry → Bool) (q : List Entry) → all p (at k q) ≡ all (λ (e : Entry). not (at_key k e) || p e) q
all_at_key k p [] = refl
all_at_key k p (e ∷ q) = go (at_key k e) ∙ ap (λ b. (not (at_key k e) || p e) && b) (all_at_key k p q)
  where
    go : (b : Bool) → all p (keep b e (at k q)) ≡ ((not b || p e) && all p (at k q))
    go true = refl
    go false = refl

-- the one entry of a key goes: it is its user's, and unchanged (release)
release_test : (a c u : Bool) → (not a || (not c && u)) ≡ true → not a ≡ (c || not (u && a))
release_test false true u h = refl
release_test false false true h = refl
release_test false false false h = refl
release_test true true u h = not_both false h refl
release_test true false true h = refl
release_test true false false h = not_both false h refl

pub release_one : (k u : ℕ) (q : List Entry) → all (λ (e : Entry). not (at_key k e) || (not e.changed && of_user u e)) q ≡ true
    → sift (λ (e : Entry). not (at_key k e)) q ≡ sift (λ (e : Entry). e.changed || not (of_user u e && at_key k e)) q
release_one k u [] h = refl
release_one k u (e ∷ q) h =
    let first = release_test (at_key k e) e.changed (of_user u e) (and_left _ (all (λ (e : Entry). not (at_key k e) || (not e.changed && of_user u e)) q) h) in
    rw (← first) (ap (keep (not (at_key k e)) e) (release_one k u q (and_right (not (at_key k e) || (not e.changed && of_user u e)) _ h)))
