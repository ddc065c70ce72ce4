-- Nobody who waits is overtaken: the proofs of `Statements`.
-- Assumes nothing.
use Rattle.std.specs.Prelude.{ℕ, ◌+◌, ◌≤◌, ◌≡◌, true, false, List, [], ◌∷◌, ◌++◌}
use Rattle.std.proofs.Common.{arith, sym, append-nil}
use Rattle.lists.specs.Tests.{not_both, Outcome, holds, fails, outcome, or_left, or_right}
use Rattle.lists.specs.Folds.{any}
use Rattle.nucleus.specs.Nucleus.{Nucleus}
use Rattle.overtaking.specs.Moments.{line_of, waits, before, Moment, Called, end, moments_of, times_let_go, is_out}
use Rattle.overtaking.specs.Statements.{HasPlaces, BoundedOvertaking, NotOvertaken, ThreeWays, EndOfCalls, PlacesStay, EachLetGo, NotOvertakenByCalls}
use Rattle.overtaking.proofs.Stages.{Fair, AllFair}
use Rattle.overtaking.proofs.Calls.{stage_calls}

module _ (u file isn : ℕ) where
  -- ---- of moments that are all fair
  fair_past : (n : Nucleus) (past rest : List Moment) → AllFair u file isn n (past ++ rest) → AllFair u file isn n past
  fair_past n [] rest f = tt
  fair_past n (m ∷ past) rest f = (f.0, fair_past m.after past rest f.1)

  fair_next : (n : Nucleus) (past : List Moment) (m : Moment) (rest : List Moment) → AllFair u file isn n (past ++ m ∷ rest) → Fair u file isn (end n past) m
  fair_next n [] m rest f = f.0
  fair_next n (x ∷ past) m rest f = fair_next x.after past m rest f.1

  nearer : (n : Nucleus) (past : List Moment) → AllFair u file isn n past → waits u (line_of file isn n) ≡ true → any (is_out u file isn) past ≡ false
      → (waits u (line_of file isn (end n past)) ≡ true) × (times_let_go file isn past + before u (line_of file isn (end n past)) ≤ before u (line_of file isn n))
  nearer n [] f h out = (h, omega arith)
  nearer n (m ∷ past) f h out =
      let (still, one) = f.0 h (or_left (is_out u file isn m) (any (is_out u file isn) past) out) in
      let (last, more) = nearer m.after past f.1 still (or_right (is_out u file isn m) (any (is_out u file isn) past) out) in
      (last, omega (arith, one, more))

  -- ---- of the moments of calls
  fair_calls : (n : Nucleus) (calls : List Called) (ms : List Moment) → HasPlaces n → moments_of calls n ≡ ms → AllFair u file isn n ms
  fair_calls n calls ms places e = rw e at (stage_calls u file isn calls n places).fair

pub not_overtaken : NotOvertaken
not_overtaken u file isn n calls past rest places e h out =
    nearer u file isn n past (fair_past u file isn n past rest (fair_calls u file isn n calls (past ++ rest) places e)) h out

pub bounded_overtaking : BoundedOvertaking
bounded_overtaking u file isn k n calls past rest places e h others gone = go (outcome (any (is_out u file isn) past))
  where
    go : Outcome (any (is_out u file isn) past) → any (is_out u file isn) past ≡ true
    go (holds t) = t
    go (fails t) = let (still, few) = not_overtaken u file isn n calls past rest places e h t in absurd (omega (arith, few, others, gone))

pub three_ways : ThreeWays
three_ways u file isn n calls past m rest places e h no_more = go (outcome (is_out u file isn m))
  where
    go : Outcome (is_out u file isn m) → is_out u file isn m ≡ true
    go (holds t) = t
    go (fails t) =
        let (still, few) = fair_next u file isn n past m rest (fair_calls u file isn n calls (past ++ m ∷ rest) places e) h t in
        not_both (waits u (line_of file isn m.after)) still no_more

pub end_of_calls : EndOfCalls
end_of_calls n calls places = (stage_calls 0 0 0 calls n places).ends

pub places_stay : PlacesStay
places_stay n calls places = (stage_calls 0 0 0 calls n places).places places

pub each_let_go : EachLetGo
each_let_go file isn n calls places = omega (arith, (stage_calls 0 file isn calls n places).counted)

pub not_overtaken_by_calls : NotOvertakenByCalls
not_overtaken_by_calls u file isn n calls places h out =
    rw (← (end_of_calls n calls places), each_let_go file isn n calls places)
    (not_overtaken u file isn n calls (moments_of calls n) [] places (sym (append-nil (moments_of calls n))) h out)
