-- A user (document 01: "A user with no session gets one: hold limit 64, time limit 900, sequence 0"), and what becomes of his session and
-- transaction.
use Rattle.std.specs.Prelude.{ℕ, ◌-◌, Bool, true, false, not, ◌&&◌, eqb, ltb}
use Rattle.lists.specs.Tests.{cond}
use Rattle.nucleus.specs.declared.Transaction.{Transaction}
use Rattle.nucleus.specs.declared.User.{User}

abbrev pub default_hold_limit : ℕ
default_hold_limit = 64

abbrev pub default_time_limit : ℕ
default_time_limit = 900

-- "it stops at 4294967295"
abbrev pub max_sequence : ℕ
max_sequence = 4294967295

-- ---- sessions
abbrev pub opening : User
opening = record {
  session = true;
  hold_limit = default_hold_limit;
  time_limit = default_time_limit;
  sequence = 0;
  access_only = false;
  transaction = record { active = false; begun = 0; ready = false };
  overdue = false;
}

-- "A user with no session gets one"
abbrev pub opened : User → User
opened u = cond u.session u opening

-- "0 for the default"
abbrev pub or_default : ℕ → ℕ → ℕ
or_default default n = cond (eqb n 0) default n

-- OP: the two limits given, and whether access-only
abbrev pub set_session : ℕ → ℕ → Bool → User → User
set_session holds time access u = record {
  session = u.session;
  hold_limit = or_default default_hold_limit holds;
  time_limit = or_default default_time_limit time;
  sequence = 0;
  access_only = access;
  transaction = u.transaction;
  overdue = u.overdue;
}

-- CL
abbrev pub closed : User → User
closed u = record {
  session = false;
  hold_limit = u.hold_limit;
  time_limit = u.time_limit;
  sequence = u.sequence;
  access_only = u.access_only;
  transaction = u.transaction;
  overdue = u.overdue;
}

-- "no user is open"
abbrev pub fresh_user : User
fresh_user = closed opening

-- ET: the sequence answered
abbrev pub counted : ℕ → User → User
counted next u = record {
  session = u.session;
  hold_limit = u.hold_limit;
  time_limit = u.time_limit;
  sequence = next;
  access_only = u.access_only;
  transaction = u.transaction;
  overdue = u.overdue;
}

-- ---- transactions and the clock
abbrev pub is_active : User → Bool
is_active u = u.transaction.active

-- document 02, No. 12: PE set it ready
abbrev pub is_ready : User → Bool
is_ready u = u.transaction.ready

-- a transaction that began more than the limit ago
abbrev pub late : ℕ → ℕ → ℕ → Bool
late clock begun limit = ltb limit (clock - begun)

-- No. 12: while he is ready "time doesn't back him out"
abbrev pub is_due : ℕ → User → Bool
is_due clock u = is_active u && not (is_ready u) && late clock u.transaction.begun u.time_limit

abbrev pub with_transaction : Transaction → User → User
with_transaction t u = record {
  session = u.session;
  hold_limit = u.hold_limit;
  time_limit = u.time_limit;
  sequence = u.sequence;
  access_only = u.access_only;
  transaction = t;
  overdue = u.overdue;
}

-- "A transaction opens at the user's first new hold"
abbrev pub started : ℕ → User → User
started clock u = cond (is_active u) u (with_transaction (record { active = true; begun = clock; ready = false }) u)

-- No. 12: "PE sets his open transaction ready"
abbrev pub made_ready : User → User
made_ready u = with_transaction (record { active = is_active u; begun = u.transaction.begun; ready = true }) u

abbrev pub ended : User → User
ended u = with_transaction (record { active = false; begun = u.transaction.begun; ready = false }) u

-- document 01's overdue mark, set or cleared
abbrev pub with_overdue : Bool → User → User
with_overdue overdue u = record {
  session = u.session;
  hold_limit = u.hold_limit;
  time_limit = u.time_limit;
  sequence = u.sequence;
  access_only = u.access_only;
  transaction = u.transaction;
  overdue = overdue;
}
