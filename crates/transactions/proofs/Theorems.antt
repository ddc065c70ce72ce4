-- Requirement 3 on the abstract machine: a backed-out transaction never was, and no unique value stands in two records, whoever is backed out.
-- The one idea: the invariant speaks of EVERY choice P of users to back out, of what the machine would show (`view`) and of what the journal
-- would tell (`told`). Each operation changes P, or one key, in both alike.
-- Assumes nothing.
use Rattle.std.proofs.Math.Path.{◌≡◌, refl}
use Rattle.std.proofs.Common.{sym, ◌∙◌, ap, arith, eqb-true, ne_eqb}
use Rattle.std.specs.Prelude.{Bool, not, ◌&&◌, ◌≢◌, ℕ, Some, None}
use Rattle.std.proofs.Math.Bool.{true, false, cond, and-false}
use mathlib.Core.List.{List, [], ◌∷◌}
use Rattle.std.proofs.Math.Dec.{eqb}
use Rattle.std.proofs.lemmas.Bool.{not-true}
use Rattle.lists.specs.Tests.{eqbs, eqb_self, eqbs_self, not_both, and_left, and_right, or_left, or_right, eqb_sym}
use Rattle.lists.specs.Folds.{any, all}
use Rattle.lists.specs.Sift.{all_keeps, any_elem}
use Rattle.transactions.specs.Slots.{Bytes, Slot}
use Rattle.transactions.specs.Machine.{Entry, Operation, hold, release, release_all, change, end, back_out, Ground, Laws, of_user, at_key, held_by_other, Machine, clash, taken, allowed, act, Journal, strike, log, replay, World, step, run, begin, back_outs, struck}
use Rattle.transactions.specs.View.{Single, nobody, at, hit, back, plus, less, stay}
use Rattle.transactions.proofs.View.{at_sift, single_hold, back_stay}
use Rattle.transactions.specs.Effect.{told, view, fitting}
use Rattle.transactions.proofs.Effect.{told_change, told_end, told_back_out, view_hold, view_release, view_release_all, view_end, view_back_out, view_other, view_change, view_still, single_change, fits_hold, fits_change, strike_stay}
use Rattle.transactions.specs.Theorems.{Apart, Two, Invariant}

module _ (G : Ground) where
  open G use {get, keys, file, fields, value, Update, apply, may, judges}

  apart_sym : (F : ℕ) (x y : Slot) → Apart G F x y → Apart G F y x
  apart_sym F x y h a b d i j e v = h b a d j i e (sym v)

  two_sym : {k j : ℕ} → Two G k j → Two G j k
  two_sym {k} {j} t = record { one = t.two; two = t.one; unlike = eqb_sym k j t.unlike; same = sym t.same }

  -- a new record at `k` clashes with nothing that some choice of back-outs without `u` leaves at `j`
  module _ (u k : ℕ) (c : Update) (r : Bytes) (P : ℕ → Bool) (out : P u ≡ false) (j : ℕ) (t : Two G k j) where
    abbrev seen : Entry → Bool
    seen e = e.changed && not (of_user u e) && (not (eqb k e.key) && eqb (file k) (file e.key) && clash G c (file k) r e.image)

    abbrev met : Machine G → ℕ → Bool
    met m i = not (eqb k i) && eqb (file k) (file i) && clash G c (file k) r (get m.store i)

    not_his : (v : ℕ) → P v ≡ true → eqb v u ≡ false
    not_his v h = go (eqb v u) refl
      where
        go : (b : Bool) → eqb v u ≡ b → b ≡ false
        go true e = absurd (not_both (P v) h (rw (eqb-true v u e) out))
        go false e = refl

    image_free : (e : Entry) → (at_key j e && hit P e) ≡ true → seen e ≡ false → clash G c (file k) r e.image ≡ false
    image_free e h f =
        let i : e.key ≡ j = eqb-true e.key j (and_left (at_key j e) (hit P e) h) in
        let g : hit P e ≡ true = and_right (at_key j e) (hit P e) h in
        rw (i, and_left e.changed (P e.user) g, not_his e.user (and_right e.changed (P e.user) g), t.unlike, ← t.same, eqb_self (file k)) at f

    clash_back : (q : List Entry) → any seen q ≡ false → (x : Slot) → clash G c (file k) r x ≡ false → clash G c (file k) r (back j P x q) ≡ false
    clash_back [] f x h = h
    clash_back (e ∷ q) f x h = clash_back q (or_right (seen e) (any seen q) f) (cond (at_key j e && hit P e) e.image x) (go (at_key j e && hit P e) refl)
      where
        go : (b : Bool) → (at_key j e && hit P e) ≡ b → clash G c (file k) r (cond b e.image x) ≡ false
        go true i = image_free e i (or_left (seen e) (any seen q) f)
        go false i = h

    pub clash_view : (m : Machine G) → taken G u k c (Some r) m ≡ false → clash G c (file k) r (view G P j m) ≡ false
    unfolding taken
    clash_view m f = clash_back m.queue (or_right (any (met m) keys) (any seen m.queue) f) (get m.store j)
        (rw (t.unlike, ← t.same, eqb_self (file k)) at (any_elem (met m) j keys (or_left (any (met m) keys) (any seen m.queue) f) t.two))

  -- no clash: a judged field differs
  judged : (c : Update) (F : ℕ) (r b : Bytes) (d : ℕ) → clash G c F r (Some b) ≡ false → judges c d ≡ true → any (eqb d) (fields F) ≡ true
      → value F d r ≡ value F d b → ⊥
  unfolding clash
  judged c F r b d f j i v = not_both (eqbs (value F d b) (value F d b)) (eqbs_self (value F d b)) (rw (j, v) at (any_elem _ d (fields F) f i))

  module _ (L : Laws G) where
    pub kept_begin : Invariant G (begin G).machine (begin G).journal
    unfolding begin replay
    kept_begin = record {
      single = λ k. nobody;
      fits = refl;
      agree = λ P k. L.empty k;
      apart = λ P k j t a b d x y i v. let z : ◌≡◌ {A = ℕ} 0 1 = cc (L.empty k) in omega arith;
    }

    -- an operation that does to every view what it does to what the journal tells
    module _ (m m' : Machine G) (b b' : Journal G) (φ : (ℕ → Bool) → ℕ → Bool) (I : Invariant G m b)
        (views : (P : ℕ → Bool) (k : ℕ) → view G P k m' ≡ view G (φ P) k m)
        (tells : (P : ℕ → Bool) (k : ℕ) → told G P k b' ≡ told G (φ P) k b) where
      moved : ((k : ℕ) → Single (at k m'.queue)) → all (fitting G) m'.queue ≡ true → Invariant G m' b'
      moved s f = record {
        single = s;
        fits = f;
        agree = λ P k. views P k ∙ I.agree (φ P) k ∙ sym (tells P k);
        apart = λ P k j t. rw (views P k, views P j) (I.apart (φ P) k j t);
      }

    module _ (m : Machine G) (b : Journal G) (I : Invariant G m b) where
      kept_hold : (u k : ℕ) → held_by_other u k m.queue ≡ false → Invariant G (act G (hold u k) m) (log G (hold u k) b)
      unfolding act log
      kept_hold u k f = moved m (act G (hold u k) m) b b (λ P. P) I (λ P j. view_hold G L P j u k m) (λ P j. refl)
          (λ j. single_hold j u k m.queue (I.single j) f) (fits_hold G L u k m.queue I.fits)

      kept_release : (u k : ℕ) → Invariant G (act G (release u k) m) (log G (release u k) b)
      unfolding act log
      kept_release u k = moved m (act G (release u k) m) b b (λ P. P) I (λ P j. view_release G L P j u k m) (λ P j. refl)
          (λ j. at_sift j _ m.queue (I.single j)) (all_keeps (fitting G) _ m.queue I.fits)

      kept_release_all : (u : ℕ) → Invariant G (act G (release_all u) m) (log G (release_all u) b)
      unfolding act log
      kept_release_all u = moved m (act G (release_all u) m) b b (λ P. P) I (λ P j. view_release_all G L P j u m) (λ P j. refl)
          (λ j. at_sift j _ m.queue (I.single j)) (all_keeps (fitting G) _ m.queue I.fits)

      kept_end : (u : ℕ) → Invariant G (act G (end u) m) (log G (end u) b)
      unfolding act
      kept_end u = moved m (act G (end u) m) b (log G (end u) b) (λ P. less P u) I (λ P j. view_end G L P j u m) (λ P j. told_end G P j u b)
          (λ j. at_sift j _ m.queue (I.single j)) (all_keeps (fitting G) _ m.queue I.fits)

      pub kept_back_out : (u : ℕ) → Invariant G (act G (back_out u) m) (log G (back_out u) b)
      unfolding act
      kept_back_out u = moved m (act G (back_out u) m) b (log G (back_out u) b) (λ P. plus P u) I
          (λ P j. view_back_out G L P j u m I.fits (I.single j)) (λ P j. told_back_out G P j u b)
          (λ j. at_sift j _ m.queue (I.single j)) (all_keeps (fitting G) _ m.queue I.fits)

      module _ (u k : ℕ) (c : Update) (f : held_by_other u k m.queue ≡ false) (p : may c k (get m.store k) ≡ true)
          (n : taken G u k c (apply k c (get m.store k)) m ≡ false) where
        abbrev after : Machine G
        after = act G (change u k c) m

        still : (P : ℕ → Bool) → P u ≡ false → view G P k m ≡ get m.store k
        still P h = view_still G L u k c m p P (I.single k) f h

        in_out : (P : ℕ → Bool) → view G P k after ≡ cond (P u) (view G P k m) (apply k c (get m.store k))
        in_out P = view_change G L u k c m p P (I.single k) f

        agree_k : (P : ℕ → Bool) → view G P k after ≡ told G P k (log G (change u k c) b)
        agree_k P = in_out P ∙ go (P u) refl ∙ sym (told_change G P k u k c b)
          where
            go : (q : Bool) → P u ≡ q → cond q (view G P k m) (apply k c (get m.store k)) ≡ cond (not q && eqb k k) (apply k c (told G P k b)) (told G P k b)
            go true e = I.agree P k
            go false e = rw (eqb_self k) (ap (apply k c) (sym (still P e) ∙ I.agree P k))

        agree_new : (P : ℕ → Bool) (j : ℕ) → view G P j after ≡ told G P j (log G (change u k c) b)
        agree_new P j = go (eqb k j) refl
          where
            go : (q : Bool) → eqb k j ≡ q → view G P j after ≡ told G P j (log G (change u k c) b)
            go true e = rw (← (eqb-true k j e)) (agree_k P)
            go false e = view_other G L u k c m p P j e ∙ I.agree P j ∙ sym (told_change G P j u k c b ∙ rw (e, and-false (not (P u))))

        apart_out : (P : ℕ → Bool) (j : ℕ) → Two G k j → P u ≡ false → Apart G (file k) (apply k c (get m.store k)) (view G P j m)
        apart_out P j t h r o d x y i = go (judges c d) refl
          where
            free : clash G c (file k) r (Some o) ≡ false
            free = rw y at (clash_view u k c r P h j t m (rw x at n))

            go : (q : Bool) → judges c d ≡ q → value (file k) d r ≡ value (file k) d o → ⊥
            go true e = judged c (file k) r o d free e i
            go false e = λ v. let w = L.kept c k (get m.store k) r d p x i e in
                I.apart P k j t w.0 o d (still P h ∙ w.1) y i (w.2 ∙ v)

        apart_k : (P : ℕ → Bool) (j : ℕ) → Two G k j → Apart G (file k) (view G P k after) (view G P j after)
        apart_k P j t = rw (in_out P, view_other G L u k c m p P j t.unlike) (go (P u) refl)
          where
            go : (q : Bool) → P u ≡ q → Apart G (file k) (cond q (view G P k m) (apply k c (get m.store k))) (view G P j m)
            go true e = I.apart P k j t
            go false e = apart_out P j t e

        apart_new : (P : ℕ → Bool) (i j : ℕ) → Two G i j → Apart G (file i) (view G P i after) (view G P j after)
        apart_new P i j t = go (eqb k i) refl (eqb k j) refl
          where
            go : (q : Bool) → eqb k i ≡ q → (s : Bool) → eqb k j ≡ s → Apart G (file i) (view G P i after) (view G P j after)
            go true e s h = let z : k ≡ i = eqb-true k i e in rw (← z) (apart_k P j (rw z t))
            go false e true h = let z : k ≡ j = eqb-true k j h in
                rw (t.same, ← z) (apart_sym (file k) (view G P k after) (view G P i after) (apart_k P i (two_sym (rw z t))))
            go false e false h = rw (view_other G L u k c m p P i e, view_other G L u k c m p P j h) (I.apart P i j t)

        kept_change : Invariant G after (log G (change u k c) b)
        kept_change = record {
          single = λ j. single_change G L u k c m p j (I.single j) f;
          fits = fits_change G L u k c m p I.fits;
          agree = agree_new;
          apart = apart_new;
        }

      pub kept_act : (o : Operation Update) → allowed G o m ≡ true → Invariant G (act G o m) (log G o b)
      unfolding allowed
      kept_act (hold u k) o = kept_hold u k (not-true (held_by_other u k m.queue) o)
      kept_act (release u k) o = kept_release u k
      kept_act (release_all u) o = kept_release_all u
      kept_act (change u k c) o = kept_change u k c (search (and_left, and_right, not-true)) (search (and_left, and_right)) (search (and_left, and_right, not-true))
      kept_act (end u) o = kept_end u
      kept_act (back_out u) o = kept_back_out u

    pub kept_step : (o : Operation Update) (w : World G) → Invariant G w.machine w.journal → Invariant G (step G o w).machine (step G o w).journal
    unfolding step
    kept_step o w I = go (allowed G o w.machine) refl
      where
        go : (q : Bool) → allowed G o w.machine ≡ q →
            let w' : World G = cond q (record { machine = act G o w.machine; journal = log G o w.journal }) w in Invariant G w'.machine w'.journal
        go true e = kept_act w.machine w.journal I o e
        go false e = I

    pub kept_run : (os : List (Operation Update)) (w : World G) → Invariant G w.machine w.journal → Invariant G (run G os w).machine (run G os w).journal
    unfolding run
    kept_run [] w I = I
    kept_run (o ∷ os) w I = kept_run os (step G o w) (kept_step o w I)

    pub kept_back_outs : (us : List ℕ) (m : Machine G) (b : Journal G) → Invariant G m b → Invariant G (back_outs G us m) (struck G us b)
    unfolding back_outs struck log
    kept_back_outs [] m b I = I
    kept_back_outs (u ∷ us) m b I = kept_back_outs us (act G (back_out u) m) (strike G (λ v. eqb v u) b) (kept_back_out m b I u)

    pub reached : (os : List (Operation Update)) (us : List ℕ) → Invariant G (back_outs G us (run G os (begin G)).machine) (struck G us (run G os (begin G)).journal)
    reached os us = kept_back_outs us (run G os (begin G)).machine (run G os (begin G)).journal (kept_run os (begin G) kept_begin)

    -- what the invariant says of the store as it stands
    pub same_slots : (m : Machine G) (b : Journal G) → Invariant G m b → (k : ℕ) → get m.store k ≡ replay G k None b
    same_slots m b I k = sym (back_stay k (get m.store k) m.queue) ∙ I.agree stay k ∙ ap (replay G k None) (strike_stay G b)

    pub no_value_twice : (m : Machine G) (b : Journal G) → Invariant G m b → (k j : ℕ) → Two G k j → Apart G (file k) (get m.store k) (get m.store j)
    no_value_twice m b I k j t = rw (← (back_stay k (get m.store k) m.queue), ← (back_stay j (get m.store j) m.queue)) (I.apart stay k j t)

    -- After any list of operations, and with any users backed out in any order, the store has what the journal has.
    pub backed_out_never_was : (os : List (Operation Update)) (us : List ℕ) (k : ℕ)
        → get (back_outs G us (run G os (begin G)).machine).store k ≡ replay G k None (struck G us (run G os (begin G)).journal)
    backed_out_never_was os us k = same_slots _ _ (reached os us) k

    -- After the same, no unique value stands in two records of a file.
    pub unique_values_apart : (os : List (Operation Update)) (us : List ℕ) (k j : ℕ) (a b : Bytes) (d : ℕ)
        → any (eqb k) keys ≡ true → any (eqb j) keys ≡ true → k ≢ j → file k ≡ file j
        → get (back_outs G us (run G os (begin G)).machine).store k ≡ Some a
        → get (back_outs G us (run G os (begin G)).machine).store j ≡ Some b
        → any (eqb d) (fields (file k)) ≡ true
        → value (file k) d a ≢ value (file k) d b
    unique_values_apart os us k j a b d ki ji n f x y i v =
        no_value_twice _ _ (reached os us) k j (record { one = ki; two = ji; unlike = ne_eqb k j n; same = f }) a b d x y i v
