-- What is asked of a line, by the lists that it speaks of (`Fair`), through each thing that is done to them: a user changes, one leaves or joins, entries
-- go, come or change, a hold is handed over.
-- Assumes nothing.
use Rattle.std.specs.Prelude.{ℕ, ◌+◌, ◌-◌, ◌*◌, ◌≤◌, ◌<◌, ◌≡◌, refl, Bool, true, false, not, ◌&&◌, ◌||◌, eqb, length, set, Option, Some, None}
use Rattle.std.proofs.Common.{arith, sym, ap, ◌∙◌, eqb-true, le-leb}
use Rattle.std.proofs.Math.Bool.{or-false}
use mathlib.Core.List.{List, [], ◌∷◌, ◌++◌, map, map-append}
use Rattle.std.proofs.lemmas.List.{length-map}
use Rattle.std.proofs.lemmas.Bool.{not-true}
use Rattle.lists.specs.Tests.{within, within_least, within_most, eqb_self, eqb_sym, eqb_comm, Outcome, holds, fails, outcome, and_left, and_right, or-true, not_both, or_left, or_right}
use Rattle.lists.specs.Folds.{any, all, distinct, all_append, any_agree, any_none, all_at}
use Rattle.lists.specs.Sift.{sift, all_keeps, all_left, distinct_sift, any_sift}
use Rattle.lists.specs.Maps.{all_over, any_over, distinct_over}
use Rattle.lists.specs.Distinct.{distinct_last, different_few}
use Rattle.lists.specs.Every.{any_there, all_implies}
use Rattle.entries.specs.Entries.{is_of}
use Rattle.entries.specs.Laws.{Shape, no_entry, length_entries}
use Rattle.entries.specs.declared.Entry.{Entry}
use Rattle.queue.specs.Queue.{seek, holder, append}
use Rattle.queue.specs.Laws.{is_held, held_found, free_none, holder_front, holder_last, is_of_swap, entries_append, length_append_entry}
use Rattle.removal.specs.Removal.{fits}
use Rattle.removal.specs.Laws.{entries_remove, length_remove_queue, remove_count_most, remove_none_queue, remove_none_count}
use Rattle.removal.specs.declared.Removal.TheVariants.{All}
use Rattle.nucleus.specs.Nucleus.{max_users}
use Rattle.nucleus.specs.Target.{other_holds}
use Rattle.nucleus.specs.Waiters.{waiters_in, is_user, in_line, first_in_line, left_line}
use Rattle.nucleus.specs.declared.User.{User}
use Rattle.nucleus.specs.declared.WaitQueue.{WaitQueue}
use Rattle.history.specs.Kept.{one_of_users}
use Rattle.history.proofs.People.{user_own, user_other}
use Rattle.history.specs.Lined.{may_receive, waiter_sound, awaited}

-- ---- what is asked of a line
pub record Fair (gone es : List Entry) (l : WaitQueue) (us : List User) : Type 0 where
  pub places : length l.places ≡ max_users
  pub few : l.waiting ≤ max_users
  pub different : distinct eqb (map (λ (w : Entry). w.user) (waiters_in l)) ≡ true
  pub sound : all (waiter_sound us) (waiters_in l) ≡ true
  pub waited : all (awaited gone es) (waiters_in l) ≡ true

-- the line has a place for each who waits
pub fair_room : {gone es : List Entry} {l : WaitQueue} {us : List User} → Fair gone es l us → l.waiting ≤ length l.places
fair_room f = omega (arith, f.places, f.few)

-- others are waited for
fair_waited : {gone es gone' es' : List Entry} {l : WaitQueue} {us : List User} → Fair gone es l us → all (awaited gone' es') (waiters_in l) ≡ true → Fair gone' es' l us
fair_waited f h = record { places = f.places; few = f.few; different = f.different; sound = f.sound; waited = h }

pub fair_as : {gone es gone' es' : List Entry} {l : WaitQueue} {us : List User} → Fair gone es l us → ((w : Entry) → awaited gone es w ≡ true → awaited gone' es' w ≡ true) → Fair gone' es' l us
fair_as {gone} {es} {gone'} {es'} {l} f h = fair_waited f (all_implies (awaited gone es) (awaited gone' es') h (waiters_in l) f.waited)

-- ---- one of those who wait
module _ (us : List User) (w : Entry) (s : waiter_sound us w ≡ true) where
  sound_within : within 1 max_users w.user ≡ true
  sound_within = and_left (within 1 max_users w.user) (may_receive (one_of_users us w.user)) s

  sound_least : 1 ≤ w.user
  sound_least = within_least 1 max_users w.user sound_within

  sound_may : may_receive (one_of_users us w.user) ≡ true
  sound_may = and_right (within 1 max_users w.user) (may_receive (one_of_users us w.user)) s

-- ---- a user becomes another value; whoever waits may be handed a hold still
module _ (us : List User) (full : length us ≡ max_users) (u : ℕ) (least : 1 ≤ u) (most : u ≤ max_users) (x : User) where
  sound_set : (ws : List Entry) → (any (is_user u) ws ≡ true → may_receive x ≡ true) → all (waiter_sound us) ws ≡ true → all (waiter_sound (set us (u - 1) x)) ws ≡ true
  sound_set [] may h = refl
  sound_set (w ∷ ws) may h =
      let here : waiter_sound us w ≡ true = and_left (waiter_sound us w) (all (waiter_sound us) ws) h in
      rw (sound_one (outcome (eqb w.user u)) here)
      (sound_set ws (λ t. may (rw t (or-true (is_user u w)))) (and_right (waiter_sound us w) (all (waiter_sound us) ws) h))
    where
      sound_one : Outcome (eqb w.user u) → waiter_sound us w ≡ true → waiter_sound (set us (u - 1) x) w ≡ true
      sound_one (holds t) s =
          let same : w.user ≡ u = eqb-true w.user u t in
          rw (sound_within us w s, same, user_own us full u least most x) (may (rw t))
      sound_one (fails t) s = rw (user_other us full u least most x w.user (sound_least us w s) t) s

-- ---- leaving the line
module _ (u : ℕ) (l : WaitQueue) (room : l.waiting ≤ length l.places) where
  line_fits : fits l.places [] l.waiting 0 ≡ true
  line_fits = rw (le-leb l.waiting (length l.places) room, le-leb (l.waiting * 0) 0 (omega arith))

  -- the others stay, in order
  pub waiters_left : waiters_in (left_line u l) ≡ sift (λ w. not (is_user u w)) (waiters_in l)
  unfolding left_line
  waiters_left = entries_remove l.places [] l.waiting 0 (All u) line_fits

  pub not_in_left : in_line (left_line u l) u ≡ false
  not_in_left =
      ap (any (is_user u)) waiters_left
      ∙ any_sift (λ w. not (is_user u w)) (is_user u) (waiters_in l)
      ∙ any_none (λ w. not (is_user u w) && is_user u w) (λ w. not_and (is_user u w)) (waiters_in l)
    where
      not_and : (b : Bool) → (not b && b) ≡ false
      not_and true = refl
      not_and false = refl

  left_places : length (left_line u l).places ≡ length l.places
  unfolding left_line
  left_places = length_remove_queue l.places [] l.waiting 0 (All u) line_fits

  left_few : (left_line u l).waiting ≤ l.waiting
  unfolding left_line
  left_few = remove_count_most l.places [] l.waiting 0 (All u)

-- whoever is not in it leaves it as it is
pub left_none : (u : ℕ) (l : WaitQueue) → in_line l u ≡ false → left_line u l ≡ l
unfolding left_line
left_none u l h = λ i. record {
  places = remove_none_queue l.places [] l.waiting 0 (All u) h i;
  waiting = remove_none_count l.places [] l.waiting 0 (All u) h i;
}

-- their users differ still
different_left : (p : Entry → Bool) (ws : List Entry) → distinct eqb (map (λ (w : Entry). w.user) ws) ≡ true → distinct eqb (map (λ (w : Entry). w.user) (sift p ws)) ≡ true
different_left p ws h =
    sym (distinct_over (λ (w : Entry). w.user) eqb (sift p ws))
    ∙ distinct_sift (λ x y. eqb x.user y.user) p ws (distinct_over (λ (w : Entry). w.user) eqb ws ∙ h)

module _ {gone es : List Entry} {l : WaitQueue} {us : List User} (f : Fair gone es l us) where
  pub fair_user : (u : ℕ) (x : User) → length us ≡ max_users → 1 ≤ u → u ≤ max_users → (in_line l u ≡ true → may_receive x ≡ true) → Fair gone es l (set us (u - 1) x)
  fair_user u x full least most may = record {
    places = f.places;
    few = f.few;
    different = f.different;
    sound = sound_set us full u least most x (waiters_in l) may f.sound;
    waited = f.waited;
  }

  pub fair_left : (u : ℕ) → Fair gone es (left_line u l) us
  fair_left u =
      let rest = waiters_left u l (fair_room f) in
      record {
        places = left_places u l (fair_room f) ∙ f.places;
        few = omega (arith, left_few u l (fair_room f), f.few);
        different = rw rest (different_left (λ w. not (is_user u w)) (waiters_in l) f.different);
        sound = rw rest (all_keeps (waiter_sound us) (λ w. not (is_user u w)) (waiters_in l) f.sound);
        waited = rw rest (all_keeps (awaited gone es) (λ w. not (is_user u w)) (waiters_in l) f.waited);
      }

-- ---- entries go
-- another who holds holds still, or his entry is among those that went
other_left : (p : Entry → Bool) (u file isn : ℕ) (es : List Entry) (i k : ℕ) → other_holds u (seek file isn es i) ≡ true
    → (other_holds u (seek file isn (sift (λ e. not (p e)) es) k) || any (is_of file isn) (sift p es)) ≡ true
other_left p u file isn [] i k h = not_both false h refl
other_left p u file isn (e ∷ es) i k h = go (outcome (is_of file isn e)) (outcome (p e)) (other_left p u file isn es (i + 1))
  where
    rest : List Entry
    rest = sift (λ x. not (p x)) es

    go : Outcome (is_of file isn e) → Outcome (p e)
        → ((k : ℕ) → other_holds u (seek file isn es (i + 1)) ≡ true → (other_holds u (seek file isn rest k) || any (is_of file isn) (sift p es)) ≡ true)
        → (other_holds u (seek file isn (sift (λ x. not (p x)) (e ∷ es)) k) || any (is_of file isn) (sift p (e ∷ es))) ≡ true
    go (holds t) (holds g) later = rw (g, t) (or-true (other_holds u (seek file isn rest k)))
    go (holds t) (fails g) later = let his : not (eqb e.user u) ≡ true = rw t at h in rw (g, t, his)
    go (fails t) (holds g) later = rw (g, t) (later k (rw t at h))
    go (fails t) (fails g) later = rw (g, t) (later (k + 1) (rw t at h))

awaited_left : (p : Entry → Bool) (es : List Entry) (w : Entry) → awaited [] es w ≡ true → awaited (sift p es) (sift (λ e. not (p e)) es) w ≡ true
unfolding holder
awaited_left p es w h = other_left p w.user w.file w.isn es 0 0 (sym (or-false (other_holds w.user (seek w.file w.isn es 0))) ∙ h)

pub fair_removed : {es : List Entry} {l : WaitQueue} {us : List User} → Fair [] es l us → (p : Entry → Bool) → Fair (sift p es) (sift (λ e. not (p e)) es) l us
fair_removed {es} f p = fair_as f (awaited_left p es)

-- ---- entries come
other_held : (u : ℕ) (l : Option (ℕ × Entry)) → other_holds u l ≡ true → is_held l ≡ true
other_held u (Some (i, e)) h = refl
other_held u None h = h

-- whoever is waited for holds still
awaited_more : (gone es fs : List Entry) (w : Entry) → awaited gone es w ≡ true → awaited gone (es ++ fs) w ≡ true
awaited_more gone es fs w h = go (outcome (other_holds w.user (holder es w.file w.isn)))
  where
    go : Outcome (other_holds w.user (holder es w.file w.isn)) → awaited gone (es ++ fs) w ≡ true
    go (holds t) = rw (holder_front w.file w.isn es fs (other_held w.user (holder es w.file w.isn) t), t)
    go (fails t) =
        let later : any (is_of w.file w.isn) gone ≡ true = rw t at h in
        rw later (or-true (other_holds w.user (holder (es ++ fs) w.file w.isn)))

pub fair_more : {gone es : List Entry} {l : WaitQueue} {us : List User} → Fair gone es l us → (fs : List Entry) → Fair gone (es ++ fs) l us
fair_more {gone} {es} f fs = fair_as f (awaited_more gone es fs)

-- ---- a hold is handed over
-- nobody waits for it
waited_none : (e : Entry) (gone es ws : List Entry) → any (is_of e.file e.isn) ws ≡ false → all (awaited (e ∷ gone) es) ws ≡ true → all (awaited gone es) ws ≡ true
waited_none e gone es [] n h = refl
waited_none e gone es (w ∷ ws) n h =
    let apart : is_of w.file w.isn e ≡ false = is_of_swap e w ∙ or_left (is_of e.file e.isn w) (any (is_of e.file e.isn) ws) n in
    let here : awaited gone es w ≡ true = rw apart at (and_left (awaited (e ∷ gone) es w) (all (awaited (e ∷ gone) es) ws) h) in
    rw here (waited_none e gone es ws (or_right (is_of e.file e.isn w) (any (is_of e.file e.isn) ws) n) (and_right (awaited (e ∷ gone) es w) (all (awaited (e ∷ gone) es) ws) h))

pub fair_none : {gone es : List Entry} {l : WaitQueue} {us : List User} {e : Entry} → Fair (e ∷ gone) es l us → first_in_line l e.file e.isn ≡ None → Fair gone es l us
fair_none {gone} {es} {l} {us} {e} f free = fair_waited f (waited_none e gone es (waiters_in l) (free_none e.file e.isn (waiters_in l) free) f.waited)

-- who is first, and may be handed it
pub record First (l : WaitQueue) (us : List User) (file isn : ℕ) (w : Entry) : Type 0 where
  pub same_file : w.file ≡ file
  pub same_isn : w.isn ≡ isn
  pub waits : in_line l w.user ≡ true
  pub least : 1 ≤ w.user
  pub most : w.user ≤ max_users
  pub session : (one_of_users us w.user).session ≡ true
  pub not_overdue : (one_of_users us w.user).overdue ≡ false
  pub changing : (one_of_users us w.user).access_only ≡ false

pub first_sound : {gone es : List Entry} {l : WaitQueue} {us : List User} → Fair gone es l us → {file isn i : ℕ} {w : Entry} → first_in_line l file isn ≡ Some (i, w) → First l us file isn w
first_sound {gone} {es} {l} {us} f {file} {isn} {i} {w} found =
    let at = held_found file isn (waiters_in l) i w found in
    let mine : waiter_sound us w ≡ true = rw at.stands at (all_at (waiter_sound us) (waiters_in l) no_entry f.sound i at.inside) in
    let x : User = one_of_users us w.user in
    let may : may_receive x ≡ true = sound_may us w mine in
    record {
      same_file = eqb-true w.file file (and_left (eqb w.file file) (eqb w.isn isn) at.matches);
      same_isn = eqb-true w.isn isn (and_right (eqb w.file file) (eqb w.isn isn) at.matches);
      waits = any_there (is_user w.user) (waiters_in l) no_entry i at.inside (rw at.stands (eqb_self w.user));
      least = sound_least us w mine;
      most = within_most 1 max_users w.user (sound_within us w mine);
      session = search (and_left, and_right);
      not_overdue = not-true x.overdue (search (and_left, and_right));
      changing = not-true x.access_only (search (and_left, and_right));
    }

-- the others, of its line and of other lines: `new` holds the record of `e`
awaited_taken : (gone es : List Entry) (new e w : Entry) → e.file ≡ new.file → e.isn ≡ new.isn → holder es new.file new.isn ≡ None
    → not (is_user new.user w) ≡ true → awaited (e ∷ gone) es w ≡ true → awaited gone (es ++ new ∷ []) w ≡ true
awaited_taken gone es new e w same_file same_isn free other h = go (outcome (is_of w.file w.isn e))
  where
    go : Outcome (is_of w.file w.isn e) → awaited gone (es ++ new ∷ []) w ≡ true
    go (holds t) =
        let its_file : w.file ≡ new.file = sym (eqb-true e.file w.file (and_left (eqb e.file w.file) (eqb e.isn w.isn) t)) ∙ same_file in
        let its_isn : w.isn ≡ new.isn = sym (eqb-true e.isn w.isn (and_right (eqb e.file w.file) (eqb e.isn w.isn) t)) ∙ same_isn in
        let apart : eqb new.user w.user ≡ false = eqb_sym w.user new.user (not-true (eqb w.user new.user) other) in
        rw (its_file, its_isn, holder_last es new free, apart)
    go (fails t) = awaited_more gone es (new ∷ []) w (rw t at h)

pub fair_taken : {gone es : List Entry} {l : WaitQueue} {us : List User} {e : Entry} → Fair (e ∷ gone) es l us → (new : Entry) (x : User)
    → e.file ≡ new.file → e.isn ≡ new.isn → holder es new.file new.isn ≡ None → length us ≡ max_users → 1 ≤ new.user → new.user ≤ max_users
    → Fair gone (es ++ new ∷ []) (left_line new.user l) (set us (new.user - 1) x)
fair_taken {gone} {es} {l} {us} {e} f new x same_file same_isn free full least most =
    let rest = waiters_left new.user l (fair_room f) in
    let others = fair_left f new.user in
    record {
      places = others.places;
      few = others.few;
      different = others.different;
      sound = rw rest (all_left (waiter_sound us) (λ w. not (is_user new.user w)) (waiter_sound (set us (new.user - 1) x)) other_sound (waiters_in l) f.sound);
      waited =
          rw rest
          (all_left (awaited (e ∷ gone) es) (λ w. not (is_user new.user w)) (awaited gone (es ++ new ∷ []))
          (λ w h n. awaited_taken gone es new e w same_file same_isn free n h) (waiters_in l) f.waited);
    }
  where
    other_sound : (w : Entry) → waiter_sound us w ≡ true → not (is_user new.user w) ≡ true → waiter_sound (set us (new.user - 1) x) w ≡ true
    other_sound w s n = rw (user_other us full new.user least most x w.user (sound_least us w s) (not-true (is_user new.user w) n)) s

-- ---- one joins
-- who is not in the line finds a place in it
module _ {es : List Entry} {l : WaitQueue} {us : List User} (f : Fair [] es l us) (w : Entry) (out : in_line l w.user ≡ false) (sound : waiter_sound us w ≡ true) where
  abbrev users : List ℕ
  users = map (λ (x : Entry). x.user) (waiters_in l)

  not_among : any (λ x. eqb x w.user) users ≡ false
  not_among = any_over (λ (x : Entry). x.user) (λ x. eqb x w.user) (waiters_in l) ∙ out

  pub place_left : l.waiting < max_users
  place_left =
      let among : all (within 1 max_users) users ≡ true =
      all_over (λ (x : Entry). x.user) (within 1 max_users) (waiters_in l)
      ∙ all_implies (waiter_sound us) (λ (x : Entry). within 1 max_users x.user) (sound_within us) (waiters_in l) f.sound in
      let alone : any (eqb w.user) users ≡ false = any_agree (eqb w.user) (λ x. eqb x w.user) (λ x. eqb_comm w.user x) users ∙ not_among in
      let few : length (w.user ∷ users) ≤ max_users =
      different_few max_users (w.user ∷ users) (rw (sound_within us w sound) among) (rw alone f.different) in
      omega (arith, few, length-map (waiters_in l) (λ (x : Entry). x.user), length_entries l.places l.waiting, f.places, f.few)

  module _ (shape : Shape w) where
    abbrev joined : WaitQueue
    joined = record { places = append l.places l.waiting w; waiting = l.waiting + 1 }

    pub waiters_joined : waiters_in joined ≡ waiters_in l ++ w ∷ []
    waiters_joined = entries_append l.places l.waiting w shape (omega (arith, place_left, f.places))

    pub fair_joined : other_holds w.user (holder es w.file w.isn) ≡ true → Fair [] es joined us
    fair_joined held = record {
      places = length_append_entry l.places l.waiting w ∙ f.places;
      few = omega (arith, place_left);
      different =
          rw (waiters_joined, map-append (λ (x : Entry). x.user) (waiters_in l) (w ∷ []), distinct_last eqb users w.user, not_among, f.different);
      sound = rw (waiters_joined, all_append (waiter_sound us) (waiters_in l) (w ∷ []), f.sound, sound);
      waited = rw (waiters_joined, all_append (awaited [] es) (waiters_in l) (w ∷ []), f.waited, held);
    }
