-- One turn of the clock, on a nucleus from its parts.
-- Assumes nothing.
use Rattle.std.specs.Prelude.{ℕ, zero, suc, ◌+◌, ◌-◌, ◌<◌, max, ◌≡◌, refl, true, false, List, [], ◌∷◌, get_or, set}
use Rattle.std.proofs.Common.{add-sub_cancel, arith, sym, ap, ◌∙◌}
use Rattle.definition.specs.declared.Definition.{Definition}
use Rattle.nucleus.specs.Users.{fresh_user, is_due, with_overdue}
use Rattle.nucleus.specs.Nucleus.{Nucleus, max_users, change_user}
use Rattle.nucleus.specs.Clock.{forced_out, timed_out, timed_out_from, clocked}
use Rattle.nucleus.specs.declared.EtData.{EtData}
use Rattle.nucleus.specs.declared.User.{User}
use Rattle.handing.specs.Parts.{parts, nucleus_of}
use Rattle.handing.specs.declared.Standing.{Standing}

-- whoever is no user of the nucleus is not due, whatever the list reads past its end
pub due_alike : (clock : ℕ) (blank : User) → is_due clock blank ≡ false → (users : List User) (i : ℕ) → is_due clock (get_or users i fresh_user) ≡ is_due clock (get_or users i blank)
due_alike clock blank idle [] i = sym idle
due_alike clock blank idle (x ∷ users) zero = refl
due_alike clock blank idle (x ∷ users) (suc i) = due_alike clock blank idle users i

module _ (d : Definition) (clock : ℕ) (s : Standing) (kept : List EtData) (assigned : List ℕ) (store queue images : List ℕ) where
  abbrev here : Nucleus
  here = nucleus_of d clock s kept assigned store queue images

  -- the user after i others
  module _ (i : ℕ) where
    pub out_when_due : is_due clock (get_or s.users i fresh_user) ≡ true → timed_out (i + 1) here ≡ change_user (i + 1) (with_overdue true) (forced_out (i + 1) here)
    out_when_due due = rw (add-sub_cancel i 1, due)

    pub kept_when_not : is_due clock (get_or s.users i fresh_user) ≡ false → timed_out (i + 1) here ≡ here
    kept_when_not early = rw (add-sub_cancel i 1, early)

  -- a user with another value
  pub changed : (u : ℕ) (f : User → User) (users : List User) → users ≡ set s.users (u - 1) (f (get_or s.users (u - 1) fresh_user))
      → change_user u f here ≡ parts d clock users kept assigned s.count s.wait_queue store queue images
  changed u f users e_users = rw e_users

-- one user more, of those from i on
pub next_user : (most i : ℕ) (n : Nucleus) → i < most → timed_out_from (most - i) (i + 1) n ≡ timed_out_from (most - (i + 1)) (i + 1 + 1) (timed_out (i + 1) n)
next_user most i n h =
    let more : most - i ≡ suc (most - (i + 1)) = omega arith in
    ap (λ k. timed_out_from k (i + 1) n) more

-- the clock of a call: the greater of the two is kept, and who is overdue by it is backed out
pub clocked_to : (d : Definition) (clock given now : ℕ) (s : Standing) (kept : List EtData) (assigned : List ℕ) (store queue images : List ℕ) (n : Nucleus) → now ≡ max clock given
    → timed_out_from max_users 1 (nucleus_of d now s kept assigned store queue images) ≡ n → clocked given (nucleus_of d clock s kept assigned store queue images) ≡ n
unfolding clocked
clocked_to d clock given now s kept assigned store queue images n latest out =
    ap (λ t. timed_out_from max_users 1 (nucleus_of d t s kept assigned store queue images)) (sym latest) ∙ out
