-- A call that no row of the response table refuses: what each row's failing says, for whoever reasons about its effect.
-- Assumes nothing.
use Rattle.std.specs.Prelude.{ℕ, ◌≡◌, refl, Bool, true, false, ◌&&◌, List, [], ◌∷◌, eqb, Option, Some, None}
use Rattle.std.proofs.Common.{ap}
use Rattle.lists.specs.Tests.{Outcome, holds, fails, outcome, not_both, or-true, eqb_self}
use Rattle.lists.specs.Folds.{any, Each}
use Rattle.nucleus.specs.Responses.{number}
use Rattle.nucleus.specs.Nucleus.{Nucleus, Request}
use Rattle.nucleus.specs.Rows.{Row, first_cause, rows_last, file_unknown, isn_invalid, format_refused, field_twice, record_length_refused, value_refused, none_found, waits, held_elsewhere, presence_refused, not_held, release_refused, file_full, limit_reached, queue_full, value_taken}
use Rattle.nucleus.specs.declared.Response.{Response}

-- whether a cause was found
abbrev pub is_cause : Option Response → Bool
is_cause None = false
is_cause (Some c) = true

none_held : (r : Row) (rs : List Row) → is_cause (first_cause (r ∷ rs)) ≡ false → (r.holds ≡ false) × (is_cause (first_cause rs) ≡ false)
none_held r rs h = go r.holds refl
  where
    go : (b : Bool) → r.holds ≡ b → (b ≡ false) × (is_cause (first_cause rs) ≡ false)
    go true e = absurd (not_both true refl (rw e at h))
    go false e = (refl, rw e at h)

pub no_row : (rs : List Row) → is_cause (first_cause rs) ≡ false → Each (λ r. r.holds ≡ false) rs
no_row [] h = tt
no_row (r ∷ rs) h = let p = none_held r rs h in (p.0, no_row rs p.1)

-- ---- the row of the first cause holds
pub first_holds : (k : ℕ) (rs : List Row) (c : Response) → first_cause rs ≡ Some c → number c ≡ k → any (λ (r : Row). eqb (number r.cause) k && r.holds) rs ≡ true
first_holds k [] c e same = not_both false (ap is_cause e) refl
first_holds k (r ∷ rs) c e same = go (outcome r.holds) (first_holds k rs c)
  where
    go : Outcome r.holds → (first_cause rs ≡ Some c → number c ≡ k → any (λ (x : Row). eqb (number x.cause) k && x.holds) rs ≡ true)
        → any (λ (x : Row). eqb (number x.cause) k && x.holds) (r ∷ rs) ≡ true
    go (holds t) later =
        let first : r.cause ≡ c = cc (rw t at e) in
        let here : eqb (number r.cause) k ≡ true = rw (first, same) (eqb_self k) in
        rw (here, t)
    go (fails t) later = rw (later (rw t at e) same) (or-true (eqb (number r.cause) k && r.holds))

-- the rows of a call in its last list, all of them failing
pub record Accepted (r : Request) (n : Nucleus) : Type 0 where
  pub file : file_unknown r n ≡ false
  pub isn : isn_invalid r n ≡ false
  pub format : format_refused r n ≡ false
  pub once : field_twice r n ≡ false
  pub length : record_length_refused r n ≡ false
  pub values : value_refused r n ≡ false
  pub found : none_found r n ≡ false
  pub unawaited : waits r n ≡ false
  pub mine : held_elsewhere r n ≡ false
  pub presence : presence_refused r n ≡ false
  pub held : not_held r n ≡ false
  pub unchanged : release_refused r n ≡ false
  pub free : file_full r n ≡ false
  pub limit : limit_reached r n ≡ false
  pub room : queue_full r n ≡ false
  pub unique : value_taken r n ≡ false

pub accepted : (r : Request) (n : Nucleus) → is_cause (first_cause (rows_last r n)) ≡ false → Accepted r n
accepted r n h =
    let e = no_row (rows_last r n) h in
    record {
      file = e.0;
      isn = e.1.0;
      format = e.1.1.0;
      once = e.1.1.1.0;
      length = e.1.1.1.1.0;
      values = e.1.1.1.1.1.0;
      found = e.1.1.1.1.1.1.0;
      unawaited = e.1.1.1.1.1.1.1.0;
      mine = e.1.1.1.1.1.1.1.1.0;
      presence = e.1.1.1.1.1.1.1.1.1.0;
      held = e.1.1.1.1.1.1.1.1.1.1.0;
      unchanged = e.1.1.1.1.1.1.1.1.1.1.1.0;
      free = e.1.1.1.1.1.1.1.1.1.1.1.1.0;
      limit = e.1.1.1.1.1.1.1.1.1.1.1.1.1.0;
      room = e.1.1.1.1.1.1.1.1.1.1.1.1.1.1.0;
      unique = e.1.1.1.1.1.1.1.1.1.1.1.1.1.1.1.0;
    }
