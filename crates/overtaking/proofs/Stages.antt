-- A stage of a call: some moments that lead from one nucleus to another. In each of them a waiter loses his place only in one of the three ways, each
-- hold of his record that is let go brings him one nearer, and no hold goes that is not counted.
-- Assumes nothing.
use Rattle.std.specs.Prelude.{ℕ, ◌+◌, ◌≤◌, ◌<◌, ◌≡◌, Bool, true, ◌&&◌, eqb, length, Option, Some, None}
use native.Mathlib.Omega.{arith}
use Rattle.std.proofs.Math.Path.{refl}
use Rattle.std.proofs.Common.{sym, ap, ◌∙◌, eqb-true, lt-ltb}
use Rattle.std.proofs.Math.Bool.{false}
use mathlib.Core.List.{List, [], ◌∷◌, ◌++◌}
use Rattle.lists.specs.Tests.{not_both, Outcome, holds, fails, outcome, and_left, and_right, or_left, or_right, or-true, eqb_self}
use Rattle.lists.specs.Folds.{any, all, total, any_append}
use Rattle.lists.specs.Sift.{sift, all_keeps}
use Rattle.entries.specs.Entries.{bit, is_of}
use Rattle.entries.specs.declared.Entry.{Entry}
use Rattle.removal.specs.Removal.{stays}
use Rattle.removal.specs.declared.Removal.TheVariants.{All}
use Rattle.nucleus.specs.Nucleus.{Nucleus, entries_of}
use Rattle.nucleus.specs.Waiters.{waiters_of, is_user, left_line, first_in_line, record_there, left, taking, handed_to, handed_on, handed}
use Rattle.overtaking.specs.Moments.{line_of, waits, before, Event, hands_on, other, Moment, moment, moments_handed, end, let_go_by, times_let_go, holds_of, gone, is_his, his_hold, has_hold, is_out}
use Rattle.overtaking.specs.Statements.{HasPlaces}
use Rattle.overtaking.proofs.Lines.{still_waits, no_more_before, IsFirst, first_is, line_left}
use Rattle.overtaking.proofs.Room.{RoomIn, room_handed_on, place_free, InLine, only_there, in_line_handed_on, first_file, first_isn, entries_taking}

pub total_append : {A : Type 0} (f : A → ℕ) (xs ys : List A) → total f (xs ++ ys) ≡ total f xs + total f ys
total_append f [] ys = omega arith
total_append f (x ∷ xs) ys = omega (arith, total_append f xs ys)

module _ (u file isn : ℕ) where
  -- ---- of one moment after a nucleus
  abbrev pub Fair : Nucleus → Moment → Type 0
  Fair n m =
      waits u (line_of file isn n) ≡ true
      → is_out u file isn m ≡ false
      → (waits u (line_of file isn m.after) ≡ true) × (let_go_by file isn m.event + before u (line_of file isn m.after) ≤ before u (line_of file isn n))

  abbrev pub AllFair : Nucleus → List Moment → Type 0
  AllFair n [] = Unit {0}
  AllFair n (m ∷ ms) = Fair n m × AllFair m.after ms

  -- `due` holds of the record that went before are handed on in it
  pub record Stage (due : ℕ) (n : Nucleus) (ms : List Moment) (m : Nucleus) : Type 0 where
    pub ends : end n ms ≡ m
    pub fair : AllFair n ms
    pub counted : gone file isn n ms + due ≡ times_let_go file isn ms
    pub places : HasPlaces n → HasPlaces m

  -- ---- one stage after another
  pub nothing : (n : Nucleus) → Stage 0 n [] n
  nothing n = record { ends = refl; fair = tt; counted = refl; places = λ h. h }

  end_append : (n : Nucleus) (xs ys : List Moment) → end n (xs ++ ys) ≡ end (end n xs) ys
  end_append n [] ys = refl
  end_append n (x ∷ xs) ys = end_append x.after xs ys

  fair_append : (n : Nucleus) (xs ys : List Moment) → AllFair n xs → AllFair (end n xs) ys → AllFair n (xs ++ ys)
  fair_append n [] ys f g = g
  fair_append n (x ∷ xs) ys f g = (f.0, fair_append x.after xs ys f.1 g)

  gone_append : (n : Nucleus) (xs ys : List Moment) → gone file isn n (xs ++ ys) ≡ gone file isn n xs + gone file isn (end n xs) ys
  gone_append n [] ys = omega arith
  gone_append n (x ∷ xs) ys = omega (arith, gone_append x.after xs ys)

  times_append : (xs ys : List Moment) → times_let_go file isn (xs ++ ys) ≡ times_let_go file isn xs + times_let_go file isn ys
  times_append xs ys = total_append (λ (m : Moment). let_go_by file isn m.event) xs ys

  pub followed : {a b : ℕ} {n m k : Nucleus} {xs ys : List Moment} → Stage a n xs m → Stage b m ys k → Stage (a + b) n (xs ++ ys) k
  followed {a = a} {b = b} {n = n} {m = m} {k = k} {xs = xs} {ys = ys} s t = record {
    ends = end_append n xs ys ∙ ap (λ x. end x ys) s.ends ∙ t.ends;
    fair = fair_append n xs ys s.fair (rw s.ends t.fair);
    counted =
        let rest : gone file isn (end n xs) ys ≡ gone file isn m ys = ap (λ x. gone file isn x ys) s.ends in
        omega (arith, gone_append n xs ys, times_append xs ys, s.counted, t.counted, rest);
    places = λ h. t.places (s.places h);
  }

  -- ---- a moment in which the line stays, and no hold goes
  pub fair_quiet : (n m : Nucleus) → m.state.wait_queue ≡ n.state.wait_queue → Fair n (moment other m)
  fair_quiet n m same h out = rw same (h, omega arith)

  pub quiet : (n m : Nucleus) → m.state.wait_queue ≡ n.state.wait_queue → holds_of file isn n ≤ holds_of file isn m → Stage 0 n (moment other m ∷ []) m
  quiet n m same held = record { ends = refl; fair = (fair_quiet n m same, tt); counted = omega (arith, held); places = λ h. rw same h }

  -- ---- somebody leaves the line: if it is not he, he still waits, with no more before him
  pub fair_leaving : (v : ℕ) (e : Event) (n m : Nucleus) → InLine u file isn n.state.wait_queue
      → is_his u e ≡ eqb v u → let_go_by file isn e ≡ 0 → m.state.wait_queue ≡ left_line v n.state.wait_queue
      → Fair n (moment e m)
  fair_leaving v e n m a his none same h out =
      let another : eqb v u ≡ false = sym his ∙ or_right (has_hold u file isn m) (is_his u e) out in
      let now : line_of file isn m ≡ sift (stays (All v)) (line_of file isn n) = rw same (line_left v n.state.wait_queue a.inside file isn) in
      rw (now, none, still_waits u v another (line_of file isn n)) (h, omega (arith, no_more_before u v another (line_of file isn n)))

  -- ---- a hold is handed on
  module _ (f i : ℕ) (n : Nucleus) (free : n.state.count < length n.queue) (a : InLine u file isn n.state.wait_queue) where
    abbrev this : Bool
    this = eqb f file && eqb i isn

    same_line : this ≡ true → line_of file isn n ≡ line_of f i n
    same_line same =
        let same_file : f ≡ file = eqb-true f file (and_left (eqb f file) (eqb i isn) same) in
        let same_isn : i ≡ isn = eqb-true i isn (and_right (eqb f file) (eqb i isn) same) in
        rw (same_file, same_isn)

    -- the first of the line takes it
    module _ (w : Entry) (rest : List Entry) (first : line_of f i n ≡ w ∷ rest) where
      abbrev then : Nucleus
      then = taking w.user f i n

      abbrev new : Entry
      new = record { user = w.user; file = f; isn = i; changed = false; existed = record_there (left w.user n) f i }

      entries_then : entries_of then ≡ entries_of n ++ new ∷ []
      entries_then = entries_taking f i n w rest first free (record_there (left w.user n) f i)

      line_then : line_of file isn then ≡ sift (stays (All w.user)) (line_of file isn n)
      line_then = line_left w.user n.state.wait_queue a.inside file isn

      he_has : is_user u w ≡ true → this ≡ true → has_hold u file isn then ≡ true
      he_has his same =
          rw (entries_then, any_append (his_hold u file isn) (entries_of n) (new ∷ []), his, same) (or-true (any (his_hold u file isn) (entries_of n)))

      other_record : is_user u w ≡ true → this ≡ false → waits u (line_of file isn n) ≡ true → ⊥
      other_record his differs h =
          let all_there : all (only_there u file isn) (w ∷ rest) ≡ true = rw first at (all_keeps (only_there u file isn) (is_of f i) (waiters_of n) (a.sole h)) in
          let there : only_there u file isn w ≡ true = and_left (only_there u file isn w) (all (only_there u file isn) rest) all_there in
          let waited : is_of file isn w ≡ true = rw his at there in
          let same : this ≡ true = rw (first_file f i n w rest first, first_isn f i n w rest first) at waited in
          not_both this same differs

      nearer : is_user u w ≡ false → this ≡ true → 1 + before u (line_of file isn then) ≤ before u (line_of file isn n)
      nearer another same =
          rw (line_then, same_line same ∙ first, eqb_self w.user, another) (omega (arith, no_more_before u w.user another rest))

      fair_taking : Fair n (moment (hands_on f i) then)
      fair_taking h out = go (outcome (is_user u w)) (outcome this)
        where
          go : Outcome (is_user u w) → Outcome this → (waits u (line_of file isn then) ≡ true) × (bit this + before u (line_of file isn then) ≤ before u (line_of file isn n))
          go (holds his) (holds same) = not_both (has_hold u file isn then) (he_has his same) (or_left (has_hold u file isn then) false out)
          go (holds his) (fails differs) = absurd (other_record his differs h)
          go (fails another) (holds same) = (rw (line_then, still_waits u w.user another (line_of file isn n)) h, rw same (nearer another same))
          go (fails another) (fails differs) = (
            rw (line_then, still_waits u w.user another (line_of file isn n)) h,
            rw (differs, line_then) (omega (arith, no_more_before u w.user another (line_of file isn n))),
          )

      held_taking : holds_of file isn n ≤ holds_of file isn then
      held_taking = rw (entries_then, total_append (λ e. bit (is_of file isn e)) (entries_of n) (new ∷ [])) (omega arith)

    fair_handed_on : Fair n (moment (hands_on f i) (handed_on f i n))
    unfolding handed_on
    fair_handed_on = go (first_in_line n.state.wait_queue f i) (first_is f i (waiters_of n))
      where
        nobody : line_of f i n ≡ [] → Fair n (moment (hands_on f i) n)
        nobody none h out = here (outcome this)
          where
            here : Outcome this → (waits u (line_of file isn n) ≡ true) × (bit this + before u (line_of file isn n) ≤ before u (line_of file isn n))
            here (holds same) = not_both false (rw (same_line same ∙ none) at h) refl
            here (fails differs) = (h, rw differs (omega arith))

        go : (l : Option (ℕ × Entry)) → IsFirst l (line_of f i n) → Fair n (moment (hands_on f i) (handed_to l f i n))
        go (Some (k, w)) (rest, first) = rw (lt-ltb n.state.count (length n.queue) free) (fair_taking w rest first)
        go None none = nobody none

    held_handed_on : holds_of file isn n ≤ holds_of file isn (handed_on f i n)
    unfolding handed_on
    held_handed_on = go (first_in_line n.state.wait_queue f i) (first_is f i (waiters_of n))
      where
        go : (l : Option (ℕ × Entry)) → IsFirst l (line_of f i n) → holds_of file isn n ≤ holds_of file isn (handed_to l f i n)
        go (Some (k, w)) (rest, first) = rw (lt-ltb n.state.count (length n.queue) free) (held_taking w rest first)
        go None none = omega arith

  -- all that was let go is handed on
  abbrev pub of_record : List Entry → ℕ
  of_record es = total (λ e. bit (is_of file isn e)) es

  pub stage_handed : (capacity : ℕ) (es : List Entry) (n : Nucleus) → RoomIn capacity (length es) n → InLine u file isn n.state.wait_queue
      → Stage (of_record es) n (moments_handed es n) (handed es n)
  stage_handed capacity [] n room a = nothing n
  stage_handed capacity (e ∷ es) n room a =
      let free = place_free capacity (length es) e.file e.isn n room in
      let Room_after = room_handed_on capacity (length es) e.file e.isn n room in
      let after = in_line_handed_on u file isn e.file e.isn n a in
      let rest = stage_handed capacity es (handed_on e.file e.isn n) Room_after after in
      record {
        ends = rest.ends;
        fair = (fair_handed_on e.file e.isn n free a, rest.fair);
        counted = omega (arith, rest.counted, held_handed_on e.file e.isn n free a);
        places = λ h. rest.places after.places;
      }

  -- entries go in one moment, and are handed on in those that follow
  pub stage_removed : (e : Event) (es : List Entry) (n m : Nucleus) → Fair n (moment e m) → let_go_by file isn e ≡ 0
      → of_record es + holds_of file isn m ≡ holds_of file isn n → HasPlaces m → Stage (of_record es) m (moments_handed es m) (handed es m)
      → Stage 0 n (moment e m ∷ moments_handed es m) (handed es m)
  stage_removed e es n m fair none parts long rest = record {
    ends = rest.ends;
    fair = (fair, rest.fair);
    counted = omega (arith, rest.counted, none, parts);
    places = λ h. rest.places long;
  }
