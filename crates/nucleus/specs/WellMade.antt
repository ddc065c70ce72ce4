-- Sizes, and when a state is well made (document 01, below the table of responses).
use Rattle.std.specs.Prelude.{ℕ, ◌*◌, Bool, true, not, ◌&&◌, ◌||◌, List, [], ◌∷◌, eqb, leb, ltb, length}
use Rattle.lists.specs.Tests.{cond, within}
use Rattle.lists.specs.Folds.{all}
use Rattle.definition.specs.Table.{files_of}
use Rattle.layout.specs.Layout.{store_size, image_length, place, isn_found}
use Rattle.validity.specs.Validity.{valid}
use Rattle.repeats.specs.Repeats.{repeated}
use Rattle.queue.specs.Queue.{holder, held_by}
use Rattle.definition.specs.declared.Definition.{Definition}
use Rattle.definition.specs.declared.File.{File}
use Rattle.entries.specs.declared.Entry.{Entry}
use Rattle.nucleus.specs.Users.{is_active, is_ready}
use Rattle.nucleus.specs.Nucleus.{Nucleus, max_users, max_capacity, max_et_data, user_at, user_of, entries_of}
use Rattle.nucleus.specs.Target.{other_holds}
use Rattle.nucleus.specs.Waiters.{waiters_of}
use Rattle.nucleus.specs.declared.User.{User}
use Rattle.nucleus.specs.declared.EtData.{EtData}
use Rattle.nucleus.specs.declared.State.{State}

-- "Too short: store or image buffer below the size above, or queue below H"; "H not 1 to 256"
unfoldable pub too_short : Definition → ℕ → List ℕ → List ℕ → List ℕ → Bool
too_short d capacity store queue images =
    not (within 1 max_capacity capacity)
    || ltb (length queue) capacity
    || ltb (length store) (store_size d)
    || ltb (length images) (capacity * image_length d)

-- ---- entries: "each within its file and of a user in a transaction"
abbrev pub entry_made : State → Entry → Bool
entry_made s e =
    isn_found s.definition (place s.definition e.file) e.isn
    && (within 1 max_users e.user && is_active (user_at s e.user))

-- ---- users: "whoever is in one has a session; no transaction begun after the kept clock". Document 02, No. 12: ready is kept for a transaction, and
-- nobody without one has it
abbrev pub user_made : ℕ → User → Bool
user_made clock u = cond (is_active u) (u.session && leb u.transaction.begun clock) (not (is_ready u))

-- "ET data at most 64 bytes"
abbrev pub data_made : EtData → Bool
data_made x = leb x.length max_et_data

-- "N1's marks at most the highest ISN", of the files in use
abbrev pub assigned_made : List ℕ → List File → Bool
assigned_made isns [] = true
assigned_made [] (f ∷ fs) = true
assigned_made (isn ∷ isns) (f ∷ fs) = leb isn f.max_isn && assigned_made isns fs

-- ---- who waits. Document 02, No. 1: "a waiter has a session and another holds his record"; and nobody waits twice
abbrev pub waiter_made : Nucleus → Entry → Bool
waiter_made n w =
    within 1 max_users w.user
    && (user_of n w.user).session
    && eqb (held_by (waiters_of n) w.user) 1
    && other_holds w.user (holder (entries_of n) w.file w.isn)

-- "Well made: the kept table is valid, at most H entries, no file and ISN in two, .."
unfoldable pub well_made : ℕ → Nucleus → Bool
well_made capacity n =
    valid n.state.definition
    && leb n.state.count capacity
    && not (repeated (entries_of n))
    && all (entry_made n.state) (entries_of n)
    && all (user_made n.state.clock) n.state.users
    && assigned_made n.state.last_assigned (files_of n.state.definition)
    && all data_made n.state.et_data
    && leb n.state.wait_queue.waiting max_users
    && all (waiter_made n) (waiters_of n)
