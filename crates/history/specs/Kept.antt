-- What holds of nucleus and journal after any list of calls: the state is well made, nothing past the sizes of what was lent is touched, the
-- journal has its clock and its transactions, and the argument of requirement 3 (`Invariant` of `transactions`) holds of what is seen of store,
-- queue and images.
use Rattle.std.specs.Prelude.{ℕ, ◌-◌, ◌≡◌, Bool, true, not, ◌&&◌, ◌||◌, List, map, leb, ltb, length, get_or, Option, Some, None}
use Rattle.lists.specs.Tests.{cond, within}
use Rattle.lists.specs.Folds.{all}
use Rattle.definition.specs.Table.{files_of}
use Rattle.definition.specs.Shape.{DefinitionShape}
use Rattle.definition.specs.declared.Definition.{Definition}
use Rattle.validity.specs.Validity as validity
use Rattle.entries.specs.declared.Entry.{Entry}
use Rattle.transactions.specs.Machine.{Ground, Machine}
use Rattle.transactions.specs.Theorems.{Invariant}
use Rattle.ground.specs.Keys.{isn_bound}
use Rattle.ground.specs.Ground.{ground}
use Rattle.ground.specs.Queue.{queue_of, Made}
use Rattle.nucleus.specs.Users.{default_time_limit, fresh_user, is_active, is_ready, is_due}
use Rattle.nucleus.specs.Nucleus.{Nucleus, max_users, max_capacity, entries_of}
use Rattle.nucleus.specs.WellMade.{assigned_made, data_made}
use Rattle.nucleus.specs.declared.User.{User}
use Rattle.claim.specs.Journal.{Journal, Member, Change}
use Rattle.history.specs.Updates.{updates, logged}
use Rattle.claim.specs.Lent.{Lent, Past}

-- ---- what the abstract machine is, of a nucleus
abbrev pub definition_of : Nucleus → Definition
definition_of n = n.state.definition

-- over the store as it was lent at set-up
abbrev pub ground_of : Lent ℕ → Nucleus → Ground
ground_of lent n = ground (definition_of n) (updates (definition_of n)) lent.store

abbrev pub seen : (lent : Lent ℕ) (n : Nucleus) → Machine (ground_of lent n)
seen lent n = record { store = n.store; queue = queue_of (definition_of n) n.queue n.images n.state.count }

-- ---- users
-- whoever is in a transaction has a session, began it not after the clock, and is neither overdue nor access-only; whoever is in none is not ready
abbrev pub user_sound : ℕ → User → Bool
user_sound clock u = cond (is_active u) (u.session && leb u.transaction.begun clock && not u.overdue && not u.access_only) (not (is_ready u))

-- a user of the list, from 1
abbrev pub one_of_users : List User → ℕ → User
one_of_users us u = get_or us (u - 1) fresh_user

abbrev pub active_in : List User → ℕ → Bool
active_in us u = within 1 max_users u && is_active (one_of_users us u)

abbrev pub entry_active : List User → Entry → Bool
entry_active us e = active_in us e.user

-- a user as the journal has him: who has no session has the default limit
abbrev pub start_of : User → Option ℕ
start_of u = cond (is_active u) (Some u.transaction.begun) None

abbrev pub member_of : User → Member
member_of u = record { limit = cond u.session u.time_limit default_time_limit; start = start_of u; ready = is_active u && is_ready u }

-- ---- changes: an ISN of two bytes; uncommitted only of a user in a transaction
abbrev pub change_sound : List User → Change → Bool
change_sound us c = ltb c.isn isn_bound && (not c.uncommitted || active_in us c.user)

-- ---- all of it, by what it speaks of
-- the table that set-up read, and the store, the queue and the images that were lent for it
pub record Sized (capacity : ℕ) (lent : Lent ℕ) (d : Definition) (store queue images : List ℕ) (count : ℕ) : Type 0 where
  pub same_table : d ≡ lent.definition
  pub shape : DefinitionShape d
  pub valid : validity.valid d ≡ true
  pub capacity_sound : within 1 max_capacity capacity ≡ true
  pub made : Made d capacity store queue images count
  pub past : Past capacity d lent store queue images

-- the users, and whose the entries are
pub record People (clock : ℕ) (us : List User) (es : List Entry) : Type 0 where
  pub user_count : length us ≡ max_users
  pub users_sound : all (user_sound clock) us ≡ true
  pub entries_active : all (entry_active us) es ≡ true

-- the journal beside them
pub record Told (clock : ℕ) (us : List User) (j : Journal) : Type 0 where
  pub same_clock : j.clock ≡ clock
  pub same_members : j.members ≡ map member_of us
  pub changes_sound : all (change_sound us) j.changes ≡ true

module _ (capacity : ℕ) (lent : Lent ℕ) where
  pub record Kept (n : Nucleus) (j : Journal) : Type 0 where
    pub sized : Sized capacity lent (definition_of n) n.store n.queue n.images n.state.count
    pub people : People n.state.clock n.state.users (entries_of n)
    pub assigned_sound : assigned_made n.state.last_assigned (files_of (definition_of n)) ≡ true
    pub data_sound : all data_made n.state.et_data ≡ true
    pub told : Told n.state.clock n.state.users j
    pub invariant : Invariant (ground_of lent n) (seen lent n) (logged j.changes)

-- nobody is overdue: so it is between calls
abbrev pub Rested : Nucleus → Type 0
Rested n = all (λ u. not (is_due n.state.clock u)) n.state.users ≡ true
