-- What the hold queue puts back at a key for the users that a test picks, and how holds, releases and changes of entries act on that.
-- Assumes nothing.
use Rattle.std.specs.Prelude.{◌≡◌, refl, Bool, true, false, not, cond, ◌&&◌, ◌||◌, List, [], ◌∷◌, ◌++◌, map, ℕ, eqb, None}
use Rattle.std.proofs.Common.{sym, ◌∙◌, ap, append-nil, eqb-true}
use Rattle.std.proofs.Math.Bool.{and-false, and-true}
use Rattle.std.proofs.lemmas.Bool.{not-false}
use Rattle.lists.specs.Tests.{eqb_self, not_both, and_left, or_left}
use Rattle.lists.specs.Folds.{any}
use Rattle.lists.specs.Sift.{keep, sift, sift_comm, sift_map, sift_append, sift_none, any_sift, all_sift}
use Rattle.transactions.specs.Slots.{Slot}
use Rattle.transactions.specs.Machine.{Entry, new_entry, of_user, at_key, held_by_other, with_hold, imaged_entry, image_kept, without}
use Rattle.transactions.specs.View.{Single, at, hit, back, backs, plus, Held, stay, nobody, holder}

-- ---- one key of the queue

pub single_keep : (b : Bool) (e : Entry) → Single (keep b e [])
single_keep true e = holder e
single_keep false e = nobody

pub single_sift : (p : Entry → Bool) {q : List Entry} → Single q → Single (sift p q)
single_sift p nobody = nobody
single_sift p (holder e) = single_keep (p e) e

pub single_map : (f : Entry → Entry) {q : List Entry} → Single q → Single (map f q)
single_map f nobody = nobody
single_map f (holder e) = holder (f e)

pub at_sift : (k : ℕ) (p : Entry → Bool) (q : List Entry) → Single (at k q) → Single (at k (sift p q))
at_sift k p q h = rw (sift_comm (at_key k) p q) (single_sift p h)

pub back_at : (k : ℕ) (P : ℕ → Bool) (x : Slot) (q : List Entry) → back k P x q ≡ backs P x (at k q)
back_at k P x [] = refl
back_at k P x (e ∷ q) = back_at k P (cond (at_key k e && hit P e) e.image x) q ∙ go (at_key k e)
  where
    go : (b : Bool) → backs P (cond (b && hit P e) e.image x) (at k q) ≡ backs P x (keep b e (at k q))
    go true = refl
    go false = refl

pub back_keep : (k : ℕ) (P : ℕ → Bool) (x : Slot) (b : Bool) (e : Entry) (q : List Entry)
    → back k P x (keep b e q) ≡ back k P (cond (at_key k e && (b && hit P e)) e.image x) q
back_keep k P x true e q = refl
back_keep k P x false e q = ap (λ c. back k P (cond c e.image x) q) (sym (and-false (at_key k e)))

-- entries that have nothing to put back may go
pub back_sift : (k : ℕ) (p : Entry → Bool) (P Q : ℕ → Bool) → ((e : Entry) → (p e && hit P e) ≡ hit Q e)
    → (x : Slot) (q : List Entry) → back k P x (sift p q) ≡ back k Q x q
back_sift k p P Q h x [] = refl
back_sift k p P Q h x (e ∷ q) =
    back_keep k P x (p e) e (sift p q) ∙ ap (λ c. back k P (cond (at_key k e && c) e.image x) (sift p q)) (h e)
    ∙ back_sift k p P Q h (cond (at_key k e && hit Q e) e.image x) q

pub back_append : (k : ℕ) (P : ℕ → Bool) (x : Slot) (q r : List Entry) → back k P x (q ++ r) ≡ back k P (back k P x q) r
back_append k P x [] r = refl
back_append k P x (e ∷ q) r = back_append k P (cond (at_key k e && hit P e) e.image x) q r

-- a new entry has nothing to put back
pub back_hold : (k : ℕ) (P : ℕ → Bool) (x : Slot) (u j : ℕ) (q : List Entry) → back k P x (with_hold u j q) ≡ back k P x q
back_hold k P x u j q = go (any (at_key j) q)
  where
    go : (b : Bool) → back k P x (cond b q (q ++ (new_entry u j ∷ []))) ≡ back k P x q
    go true = refl
    go false = back_append k P x q (new_entry u j ∷ []) ∙ ap (λ c. cond c None (back k P x q)) (and-false (eqb j k))

-- an image kept at another key leaves this key
pub back_image_kept : (k : ℕ) (P : ℕ → Bool) (j : ℕ) (y : Slot) → eqb j k ≡ false
    → (x : Slot) (q : List Entry) → back k P x (map (image_kept j y) q) ≡ back k P x q
back_image_kept k P j y h x [] = refl
back_image_kept k P j y h x (e ∷ q) = ap (λ z. back k P z (map (image_kept j y) q)) (go (at_key j e) refl) ∙ back_image_kept k P j y h (cond (at_key k e && hit P e) e.image x) q
  where
    go : (b : Bool) → at_key j e ≡ b
        → cond (at_key k (cond b (imaged_entry y e) e) && hit P (cond b (imaged_entry y e) e)) (cond b (imaged_entry y e) e).image x ≡ cond (at_key k e && hit P e) e.image x
    go true i = let n : eqb e.key k ≡ false = rw (eqb-true e.key j i) h in rw n
    go false i = refl

-- ---- users: one more that is backed out, one that is not

-- a user's entries put back and gone, and then those that `P` picks: as all of these at once
twice : (t c p : Bool) (i x : Slot) → cond (not t && (c && p)) i (cond (c && t) i x) ≡ cond (c && (p || t)) i x
twice true true true i x = refl
twice true true false i x = refl
twice true false true i x = refl
twice true false false i x = refl
twice false true true i x = refl
twice false true false i x = refl
twice false false true i x = refl
twice false false false i x = refl

backs_keep : (P : ℕ → Bool) (x : Slot) (b : Bool) (e : Entry) → backs P x (keep b e []) ≡ cond (b && hit P e) e.image x
backs_keep P x true e = refl
backs_keep P x false e = refl

backs_twice : (P : ℕ → Bool) (u : ℕ) (x : Slot) {q : List Entry} → Single q
    → backs P (backs (λ v. eqb v u) x q) (without u q) ≡ backs (plus P u) x q
backs_twice P u x nobody = refl
backs_twice P u x (holder e) =
    backs_keep P (cond (hit (λ v. eqb v u) e) e.image x) (not (of_user u e)) e
    ∙ twice (eqb e.user u) e.changed (P e.user) e.image x

pub back_twice : (k : ℕ) (P : ℕ → Bool) (u : ℕ) (x : Slot) (q : List Entry) → Single (at k q)
    → back k P (back k (λ v. eqb v u) x q) (without u q) ≡ back k (plus P u) x q
back_twice k P u x q h = simp (back_at, sift_comm (at_key k)) (backs_twice P u x h)

-- ---- a change at a key

pub held : (u k : ℕ) (q : List Entry) → Single (at k q) → held_by_other u k q ≡ false → Held u k q
held u k q h f = go (any (at_key k) q) refl
  where
    f' : any (λ (e : Entry). not (of_user u e)) (at k q) ≡ false
    f' = any_sift (at_key k) (λ (e : Entry). not (of_user u e)) q ∙ f

    new : at k q ≡ [] → at k (q ++ (new_entry u k ∷ [])) ≡ new_entry u k ∷ []
    new e = sift_append (at_key k) q (new_entry u k ∷ []) ∙ rw (e, eqb_self k)

    some_one : any (λ (e : Entry). true) (at k q) ≡ any (at_key k) q
    some_one = simp and-true at (any_sift (at_key k) (λ (e : Entry). true) q)

    old : {es : List Entry} → Single es → at k q ≡ es → any (at_key k) q ≡ true → Held u k q
    old nobody a e = absurd (not_both (any (at_key k) q) e (sym some_one ∙ rw a))
    old (holder w) a e = record {
      who = w;
      alone = rw e a;
      his = eqb-true w.user u (not-false (of_user u w) (or_left (not (of_user u w)) false (rw a at f')));
      here = and_left (at_key k w) true (rw a at (all_sift (at_key k) q));
    }

    go : (b : Bool) → any (at_key k) q ≡ b → Held u k q
    go true e = old h refl e
    go false e = record {
      who = new_entry u k;
      alone = rw e (new (sift_none (at_key k) q e));
      his = refl;
      here = eqb_self k;
    }

image_kept_key : (j k : ℕ) (x : Slot) (e : Entry) → at_key j (image_kept k x e) ≡ at_key j e
image_kept_key j k x e = go (at_key k e)
  where
    go : (b : Bool) → at_key j (cond b (imaged_entry x e) e) ≡ at_key j e
    go true = refl
    go false = refl

pub at_image_kept : (j k : ℕ) (x : Slot) (q : List Entry) → at j (map (image_kept k x) q) ≡ map (image_kept k x) (at j q)
at_image_kept j k x q = sift_map (at_key j) (image_kept k x) (image_kept_key j k x) q

-- at another key nothing is held anew
pub at_hold : (j u k : ℕ) (q : List Entry) → eqb k j ≡ false → at j (with_hold u k q) ≡ at j q
at_hold j u k q n = go (any (at_key k) q)
  where
    go : (b : Bool) → at j (cond b q (q ++ (new_entry u k ∷ []))) ≡ at j q
    go true = refl
    go false = sift_append (at_key j) q (new_entry u k ∷ []) ∙ rw n (append-nil (at j q))

module _ (P : ℕ → Bool) (u k : ℕ) (x : Slot) (q : List Entry) (g : Held u k q) where
  held_view : back k P x q ≡ cond (g.who.changed && P u) g.who.image x
  held_view = sym (back_hold k P x u k q) ∙ back_at k P x (with_hold u k q) ∙ rw (g.alone, g.his)

  imaged_back : (y : Slot) → back k P y (map (image_kept k x) (with_hold u k q)) ≡ cond (P u) (cond g.who.changed g.who.image x) y
  imaged_back y = back_at k P y (map (image_kept k x) (with_hold u k q)) ∙ rw (at_image_kept k k x (with_hold u k q), g.alone, g.here, g.his)

  -- after the change: where `u` is backed out his old slot is there, else the new one; and before it, where he is not, nothing is put back
  pub back_change : (y : Slot) → back k P y (map (image_kept k x) (with_hold u k q)) ≡ cond (P u) (back k P x q) y
  back_change y = imaged_back y ∙ rw held_view (go (P u) g.who.changed)
    where
      go : (p c : Bool) → cond p (cond c g.who.image x) y ≡ cond p (cond (c && p) g.who.image x) y
      go true true = refl
      go true false = refl
      go false c = refl

  pub back_still : P u ≡ false → back k P x q ≡ x
  back_still n = held_view ∙ rw (n, and-false g.who.changed)

pub single_hold : (j u k : ℕ) (q : List Entry) → Single (at j q) → held_by_other u k q ≡ false → Single (at j (with_hold u k q))
single_hold j u k q h f = go (eqb k j) refl
  where
    go : (b : Bool) → eqb k j ≡ b → Single (at j (with_hold u k q))
    go true e = let i : k ≡ j = eqb-true k j e in
        let h' : Single (at k q) = rw i h in
        let g : Held u k q = held u k q h' f in
        rw (← i, g.alone) (holder g.who)
    go false e = rw (at_hold j u k q e) h

pub back_stay : (k : ℕ) (x : Slot) (q : List Entry) → back k stay x q ≡ x
back_stay k x [] = refl
back_stay k x (e ∷ q) = rw (and-false e.changed, and-false (at_key k e)) (back_stay k x q)
