-- Who is still to be backed out: one law for each way of a turn.
-- Assumes nothing.
use Prim.Native.Nat.{ℕ, ◌+◌, ◌-◌, ◌≤◌, ◌<◌}
use native.Mathlib.Omega.{arith}
use mathlib.Core.Path.{◌≡◌, refl, sym, ap, ◌∙◌}
use mathlib.Core.Bool.{true, false}
use mathlib.Core.List.{List}
use lib.ListN.{length, get_or}
use Rattle.definition.specs.declared.Definition.{Definition}
use Rattle.nucleus.specs.Users.{is_due, with_overdue}
use Rattle.nucleus.specs.Nucleus.{max_users, change_user}
use Rattle.nucleus.specs.Clock.{forced_out, timed_out_from}
use Rattle.nucleus.specs.declared.EtData.{EtData}
use Rattle.nucleus.specs.declared.User.{User}
use Rattle.handing.specs.Parts.{nucleus_of}
use Rattle.handing.specs.declared.Standing.{Standing}
use Rattle.overdue.specs.Laws.{due_alike, out_when_due, kept_when_not, next_user}

-- the users after the first i, out of what there is now, and all, out of what there was: the same comes of both
pub record Pending (d : Definition) (clock : ℕ) (store₀ queue₀ images₀ : List ℕ) (s₀ : Standing) (store queue images : List ℕ) (s : Standing) (i : ℕ) : Type 0 where
  pub within : i ≤ max_users
  pub store_length : length store ≡ length store₀
  pub queue_length : length queue ≡ length queue₀
  pub images_length : length images ≡ length images₀
  pub same : (kept : List EtData) (assigned : List ℕ)
      → timed_out_from (max_users - i) (i + 1) (nucleus_of d clock s kept assigned store queue images)
      ≡ timed_out_from max_users 1 (nucleus_of d clock s₀ kept assigned store₀ queue₀ images₀)

pub start : {d : Definition} {clock : ℕ} {store queue images : List ℕ} {s : Standing} → Pending d clock store queue images s store queue images s 0
start = record { within = omega arith; store_length = refl; queue_length = refl; images_length = refl; same = λ kept assigned. refl }

module _ {d : Definition} {clock : ℕ} {store₀ queue₀ images₀ : List ℕ} {s₀ : Standing} {store queue images : List ℕ} {s : Standing} {i : ℕ}
    (p : Pending d clock store₀ queue₀ images₀ s₀ store queue images s i) where
  pub all_done : max_users ≤ i → (kept : List EtData) (assigned : List ℕ)
      → timed_out_from max_users 1 (nucleus_of d clock s₀ kept assigned store₀ queue₀ images₀) ≡ nucleus_of d clock s kept assigned store queue images
  all_done end kept assigned =
      let none : max_users - i ≡ 0 = omega arith in
      sym (rw none at (p.same kept assigned))

  -- a turn; `blank` is what code reads past the list's end
  module _ (more : i < max_users) (blank : User) (idle : is_due clock blank ≡ false) where
    pub turn_early : is_due clock (get_or s.users i blank) ≡ false → Pending d clock store₀ queue₀ images₀ s₀ store queue images s (i + 1)
    turn_early early =
        record {
          within = omega arith;
          store_length = p.store_length;
          queue_length = p.queue_length;
          images_length = p.images_length;
          same = λ kept assigned.
              sym (ap (timed_out_from (max_users - (i + 1)) (i + 1 + 1)) (kept_when_not d clock s kept assigned store queue images i (due_alike clock blank idle s.users i ∙ early)))
              ∙ sym (next_user max_users i _ more) ∙ p.same kept assigned;
        }

    pub turn_due : is_due clock (get_or s.users i blank) ≡ true → (s' : Standing) (store' queue' images' : List ℕ)
        → ((kept : List EtData) (assigned : List ℕ)
        → change_user (i + 1) (with_overdue true) (forced_out (i + 1) (nucleus_of d clock s kept assigned store queue images))
        ≡ nucleus_of d clock s' kept assigned store' queue' images')
        → length store' ≡ length store → length queue' ≡ length queue → length images' ≡ length images
        → Pending d clock store₀ queue₀ images₀ s₀ store' queue' images' s' (i + 1)
    turn_due due s' store' queue' images' out l_store l_queue l_images =
        record {
          within = omega arith;
          store_length = l_store ∙ p.store_length;
          queue_length = l_queue ∙ p.queue_length;
          images_length = l_images ∙ p.images_length;
          same = λ kept assigned.
              ap (timed_out_from (max_users - (i + 1)) (i + 1 + 1))
              (sym (out_when_due d clock s kept assigned store queue images i (due_alike clock blank idle s.users i ∙ due) ∙ out kept assigned))
              ∙ sym (next_user max_users i _ more) ∙ p.same kept assigned;
        }
