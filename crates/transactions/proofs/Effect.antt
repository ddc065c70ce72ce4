-- What stands at a key once the users that a test picks are backed out: of the machine (`view`), of the journal (`told`),
-- and what each operation does to the two. Assumes nothing.
use Rattle.std.specs.Prelude.{◌≡◌, Bool, cond, ◌&&◌, ◌||◌, ℕ, None}
use Rattle.std.proofs.Math.Path.{refl, ap}
use Rattle.std.proofs.Common.{sym, ◌∙◌, eqb-true}
use Rattle.std.proofs.Math.Bool.{true, false, not, and-false}
use mathlib.Core.List.{List, [], ◌∷◌, ◌++◌, map}
use Rattle.std.proofs.Math.Dec.{eqb}
use Rattle.lists.specs.Tests.{and_left, and_right}
use Rattle.lists.specs.Folds.{any, all, all_append}
use Rattle.lists.specs.Sift.{keep, sift_sift, sift_ext, sift_append, all_map}
use Rattle.transactions.specs.Slots.{Slot}
use Rattle.transactions.specs.Machine.{Entry, Change, hold, release, release_all, change, end, back_out, Ground, Laws, new_entry, of_user, at_key, held_by_other, with_hold, imaged_entry, image_kept, Machine, restore, act, Journal, uncommitted_of, strike, closed, log, replay}
use Rattle.transactions.specs.View.{Single, at, hit, back, plus, less, stay}
use Rattle.transactions.proofs.View.{back_sift, back_hold, back_image_kept, back_twice, held, at_image_kept, back_change, back_still, single_map, single_hold}
use Rattle.transactions.specs.Effect.{told, view, fitting}

module _ (G : Ground) where
  open G use {Store, get, put, fit, Update, apply, may}

  -- ---- the journal

  replay_keep : (k : ℕ) (x : Slot) (b : Bool) (l : Change Update) (r : Journal G)
      → replay G k x (keep b l r) ≡ replay G k (cond (b && eqb l.key k) (apply l.key l.update x) x) r
  unfolding replay
  replay_keep k x true l r = refl
  replay_keep k x false l r = refl

  replay_append : (k : ℕ) (x : Slot) (b r : Journal G) → replay G k x (b ++ r) ≡ replay G k (replay G k x b) r
  unfolding replay
  replay_append k x [] r = refl
  replay_append k x (l ∷ b) r = replay_append k (cond (eqb l.key k) (apply l.key l.update x) x) b r

  pub told_change : (P : ℕ → Bool) (j u k : ℕ) (c : Update) (b : Journal G)
      → told G P j (log G (change u k c) b) ≡ cond (not (P u) && eqb k j) (apply k c (told G P j b)) (told G P j b)
  unfolding log replay
  told_change P j u k c b =
      ap (replay G j None) (sift_append (λ l. not (uncommitted_of G P l)) b (record { user = u; key = k; update = c; uncommitted = true } ∷ []))
      ∙ replay_append j None (strike G P b) (strike G P (record { user = u; key = k; update = c; uncommitted = true } ∷ []))
      ∙ replay_keep j (told G P j b) (not (P u)) (record { user = u; key = k; update = c; uncommitted = true }) []

  swap : (o n p : Bool) → not ((o && n) && p) ≡ not (o && (p && n))
  swap true true true = refl
  swap true true false = refl
  swap true false true = refl
  swap true false false = refl
  swap false n p = refl

  replay_end : (P : ℕ → Bool) (k u : ℕ) (x : Slot) (b : Journal G)
      → replay G k x (strike G P (map (closed G u) b)) ≡ replay G k x (strike G (less P u) b)
  replay_end P k u x [] = refl
  replay_end P k u x (l ∷ b) =
      replay_keep k x (not (uncommitted_of G P (closed G u l))) (closed G u l) (strike G P (map (closed G u) b))
      ∙ rw (swap l.uncommitted (not (eqb l.user u)) (P l.user))
      (replay_end P k u (cond (not (uncommitted_of G (less P u) l) && eqb l.key k) (apply l.key l.update x) x) b)
      ∙ sym (replay_keep k x (not (uncommitted_of G (less P u) l)) l (strike G (less P u) b))

  pub told_end : (P : ℕ → Bool) (k u : ℕ) (b : Journal G) → told G P k (log G (end u) b) ≡ told G (less P u) k b
  unfolding log
  told_end P k u b = replay_end P k u None b

  both : (o p t : Bool) → (not (o && t) && not (o && p)) ≡ not (o && (p || t))
  both true true true = refl
  both true true false = refl
  both true false true = refl
  both true false false = refl
  both false p t = refl

  pub told_back_out : (P : ℕ → Bool) (k u : ℕ) (b : Journal G) → told G P k (log G (back_out u) b) ≡ told G (plus P u) k b
  unfolding log
  told_back_out P k u b = ap (replay G k None)
      (sift_sift (λ l. not (uncommitted_of G P l)) (λ l. not (uncommitted_of G (λ v. eqb v u) l)) b
      ∙ sift_ext _ (λ l. not (uncommitted_of G (plus P u) l)) (λ l. both l.uncommitted (P l.user) (eqb l.user u)) b)

  pub strike_stay : (b : Journal G) → strike G stay b ≡ b
  strike_stay [] = refl
  strike_stay (l ∷ b) = rw (and-false l.uncommitted) (ap (λ r. l ∷ r) (strike_stay b))

  -- ---- the machine

  module _ (L : Laws G) where
    put_back : (k : ℕ) (s : Store) (e : Entry) (b : Bool) → (b ≡ true → fit e.key e.image ≡ true)
        → get (cond b (put s e.key e.image) s) k ≡ cond (at_key k e && b) e.image (get s k)
    put_back k s e true f = go (at_key k e) refl
      where
        go : (c : Bool) → at_key k e ≡ c → get (put s e.key e.image) k ≡ cond (c && true) e.image (get s k)
        go true i = rw (← (eqb-true e.key k i)) (L.get_put s e.key e.image (f refl))
        go false i = L.get_other s e.key e.image k (f refl) i
    put_back k s e false f = rw (and-false (at_key k e))

    fits_hit : (P : ℕ → Bool) (e : Entry) → fitting G e ≡ true → hit P e ≡ true → fit e.key e.image ≡ true
    fits_hit P e f h = rw (and_left e.changed (P e.user) h) at f

    pub restore_get : (P : ℕ → Bool) (k : ℕ) (q : List Entry) (s : Store) → all (fitting G) q ≡ true
        → get (restore G P q s) k ≡ back k P (get s k) q
    unfolding restore
    restore_get P k [] s f = refl
    restore_get P k (e ∷ q) s f =
        restore_get P k q (cond (hit P e) (put s e.key e.image) s) (and_right (fitting G e) (all (fitting G) q) f)
        ∙ ap (λ x. back k P x q) (put_back k s e (hit P e) (fits_hit P e (and_left (fitting G e) (all (fitting G) q) f)))

    end_test : (t c p : Bool) → (not t && (c && p)) ≡ (c && (p && not t))
    end_test true true true = refl
    end_test true true false = refl
    end_test true false p = refl
    end_test false true true = refl
    end_test false true false = refl
    end_test false false p = refl

    release_test : (t c p : Bool) → ((c || t) && (c && p)) ≡ (c && p)
    release_test t true p = refl
    release_test t false p = and-false t

    pub view_hold : (P : ℕ → Bool) (j u k : ℕ) (m : Machine G) → view G P j (act G (hold u k) m) ≡ view G P j m
    unfolding act
    view_hold P j u k m = back_hold j P (get m.store j) u k m.queue

    pub view_release : (P : ℕ → Bool) (j u k : ℕ) (m : Machine G) → view G P j (act G (release u k) m) ≡ view G P j m
    unfolding act
    view_release P j u k m = back_sift j (λ (e : Entry). e.changed || not (of_user u e && at_key k e)) P P
        (λ e. release_test (not (of_user u e && at_key k e)) e.changed (P e.user)) (get m.store j) m.queue

    pub view_release_all : (P : ℕ → Bool) (j u : ℕ) (m : Machine G) → view G P j (act G (release_all u) m) ≡ view G P j m
    unfolding act
    view_release_all P j u m = back_sift j (λ (e : Entry). e.changed || not (of_user u e)) P P
        (λ e. release_test (not (of_user u e)) e.changed (P e.user)) (get m.store j) m.queue

    pub view_end : (P : ℕ → Bool) (k u : ℕ) (m : Machine G) → view G P k (act G (end u) m) ≡ view G (less P u) k m
    unfolding act
    view_end P k u m = back_sift k (λ (e : Entry). not (of_user u e)) P (less P u)
        (λ e. end_test (of_user u e) e.changed (P e.user)) (get m.store k) m.queue

    pub view_back_out : (P : ℕ → Bool) (k u : ℕ) (m : Machine G) → all (fitting G) m.queue ≡ true → Single (at k m.queue)
        → view G P k (act G (back_out u) m) ≡ view G (plus P u) k m
    unfolding act
    view_back_out P k u m f h = rw (restore_get (λ v. eqb v u) k m.queue m.store f) (back_twice k P u (get m.store k) m.queue h)

    pub fits_hold : (u k : ℕ) (q : List Entry) → all (fitting G) q ≡ true → all (fitting G) (with_hold u k q) ≡ true
    fits_hold u k q f = go (any (at_key k) q)
      where
        go : (b : Bool) → all (fitting G) (cond b q (q ++ (new_entry u k ∷ []))) ≡ true
        go true = f
        go false = rw (all_append (fitting G) q (new_entry u k ∷ []), f)

    fits_image_kept : (k : ℕ) (x : Slot) → fit k x ≡ true → (e : Entry) → fitting G e ≡ true → fitting G (image_kept k x e) ≡ true
    fits_image_kept k x i e f = go (at_key k e) refl
      where
        new : (b : Bool) → (not b || fit e.key e.image) ≡ true → e.key ≡ k → fit e.key (cond b e.image x) ≡ true
        new true f n = f
        new false f n = rw n i

        go : (b : Bool) → at_key k e ≡ b → fitting G (cond b (imaged_entry x e) e) ≡ true
        go true n = new e.changed f (eqb-true e.key k n)
        go false n = f

    -- a change that is accepted
    module _ (u k : ℕ) (c : Update) (m : Machine G) (may? : may c k (get m.store k) ≡ true) where
      pub view_other : (P : ℕ → Bool) (j : ℕ) → eqb k j ≡ false → view G P j (act G (change u k c) m) ≡ view G P j m
      unfolding act
      view_other P j n =
          back_image_kept j P k (get m.store k) n (get (put m.store k (apply k c (get m.store k))) j) (with_hold u k m.queue)
          ∙ back_hold j P (get (put m.store k (apply k c (get m.store k))) j) u k m.queue
          ∙ ap (λ x. back j P x m.queue) (L.get_other m.store k (apply k c (get m.store k)) j (L.may_fit c k (get m.store k) may?) n)

      pub view_change : (P : ℕ → Bool) → Single (at k m.queue) → held_by_other u k m.queue ≡ false
          → view G P k (act G (change u k c) m) ≡ cond (P u) (view G P k m) (apply k c (get m.store k))
      unfolding act
      view_change P h f =
          back_change P u k (get m.store k) m.queue (held u k m.queue h f) (get (put m.store k (apply k c (get m.store k))) k)
          ∙ rw (L.get_put m.store k (apply k c (get m.store k)) (L.may_fit c k (get m.store k) may?))

      pub view_still : (P : ℕ → Bool) → Single (at k m.queue) → held_by_other u k m.queue ≡ false → P u ≡ false
          → view G P k m ≡ get m.store k
      view_still P h f n = back_still P u k (get m.store k) m.queue (held u k m.queue h f) n

      pub single_change : (j : ℕ) → Single (at j m.queue) → held_by_other u k m.queue ≡ false → Single (at j (act G (change u k c) m).queue)
      unfolding act
      single_change j h f = rw (at_image_kept j k (get m.store k) (with_hold u k m.queue)) (single_map (image_kept k (get m.store k)) (single_hold j u k m.queue h f))

      pub fits_change : all (fitting G) m.queue ≡ true → all (fitting G) (act G (change u k c) m).queue ≡ true
      unfolding act
      fits_change f = all_map (fitting G) (image_kept k (get m.store k))
          (fits_image_kept k (get m.store k) (L.get_fit m.store k (L.may_key c k (get m.store k) may?)))
          (with_hold u k m.queue) (fits_hold u k m.queue f)
