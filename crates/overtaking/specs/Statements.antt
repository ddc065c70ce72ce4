-- Nobody who waits is overtaken (document 02, No. 1): from any state, whoever made it, over every list of calls, up to any moment in them. Of the state
-- it is asked only that its line has a place for each user, as every `State` has. A state that is not well made, or buffers that are too short, need no
-- premise: a call has no moments then.
use Rattle.std.specs.Prelude.{ℕ, ◌+◌, ◌≤◌, ◌≡◌, true, false, List, ◌∷◌, ◌++◌, length}
use Rattle.lists.specs.Folds.{any}
use Rattle.nucleus.specs.Nucleus.{Nucleus, max_users}
use Rattle.overtaking.specs.Moments.{line_of, waits, before, Moment, Called, run, moments_of, end, times_let_go, gone, is_out}

abbrev pub HasPlaces : Nucleus → Type 0
HasPlaces n = max_users ≤ length n.state.wait_queue.places

-- "A user with k others before him has had the hold, or has left, or been backed out, after k + 1 holders have let go, in every order of the others'
-- calls"
abbrev pub BoundedOvertaking : Type 0
BoundedOvertaking =
    (u file isn k : ℕ) (n : Nucleus) (calls : List Called) (past rest : List Moment)
    → HasPlaces n
    → moments_of calls n ≡ past ++ rest
    → waits u (line_of file isn n) ≡ true
    → before u (line_of file isn n) ≡ k
    → k + 1 ≤ times_let_go file isn past
    → any (is_out u file isn) past ≡ true

-- as long as he has not, he waits, and each time that the hold was let go has brought him one nearer: nobody came before him
abbrev pub NotOvertaken : Type 0
NotOvertaken =
    (u file isn : ℕ) (n : Nucleus) (calls : List Called) (past rest : List Moment)
    → HasPlaces n
    → moments_of calls n ≡ past ++ rest
    → waits u (line_of file isn n) ≡ true
    → any (is_out u file isn) past ≡ false
    → let now = line_of file isn (end n past) in
    (waits u now ≡ true) × (times_let_go file isn past + before u now ≤ before u (line_of file isn n))

-- he goes from the line in these three ways only: in the very moment after which he waits no more, he has the hold, leaves, or is backed out
abbrev pub ThreeWays : Type 0
ThreeWays =
    (u file isn : ℕ) (n : Nucleus) (calls : List Called) (past : List Moment) (m : Moment) (rest : List Moment)
    → HasPlaces n
    → moments_of calls n ≡ past ++ m ∷ rest
    → waits u (line_of file isn (end n past)) ≡ true
    → waits u (line_of file isn m.after) ≡ false
    → is_out u file isn m ≡ true

-- ---- that the moments are those of the calls
-- the last of them leaves what the calls leave
abbrev pub EndOfCalls : Type 0
EndOfCalls = (n : Nucleus) (calls : List Called) → HasPlaces n → end n (moments_of calls n) ≡ run calls n

-- the line has its places then too
abbrev pub PlacesStay : Type 0
PlacesStay = (n : Nucleus) (calls : List Called) → HasPlaces n → HasPlaces (run calls n)

-- and of each record as many holds are let go as entries go from the queue, in whatever way
abbrev pub EachLetGo : Type 0
EachLetGo =
    (file isn : ℕ) (n : Nucleus) (calls : List Called)
    → HasPlaces n
    → gone file isn n (moments_of calls n) ≡ times_let_go file isn (moments_of calls n)

-- so, over whole calls: no more of the record's entries went than he came nearer
abbrev pub NotOvertakenByCalls : Type 0
NotOvertakenByCalls =
    (u file isn : ℕ) (n : Nucleus) (calls : List Called)
    → HasPlaces n
    → waits u (line_of file isn n) ≡ true
    → any (is_out u file isn) (moments_of calls n) ≡ false
    → let now = line_of file isn (run calls n) in
    (waits u now ≡ true) × (gone file isn n (moments_of calls n) + before u now ≤ before u (line_of file isn n))
