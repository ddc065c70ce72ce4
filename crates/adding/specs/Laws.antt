-- Laws of N1 and N2: what each row says of the cause.
-- Assumes nothing.
use Rattle.std.specs.Prelude.{ℕ, ◌≤◌, ◌≡◌, refl, Bool, true, false, not, List, [], ◌∷◌, ltb, Option, Some, None}
use Rattle.std.proofs.Common.{arith, ◌∙◌, ltb-false}
use Rattle.lists.specs.Tests.{cond, Outcome, holds, fails, outcome}
use Rattle.definition.specs.declared.File.{File}
use Rattle.records.specs.Records.{record_length}
use Rattle.store.specs.Store.{has_record}
use Rattle.nucleus.specs.Users.{started}
use Rattle.nucleus.specs.Target.{is_isn, isn_in, is_holder, other_holds}
use Rattle.nucleus.specs.Rows.{Row, row, first_cause}
use Rattle.nucleus.specs.declared.Call.{Call}
use Rattle.nucleus.specs.declared.Response.{Response}
use Rattle.nucleus.specs.declared.Response.TheVariants.{StateInvalid, HeldByAnother, Presence, FileFull}
use Rattle.shares.specs.Causes.{causes_refused, causes_passed}
use Rattle.shares.specs.Shares.{share, share_with_assigned}
use Rattle.shares.specs.Chains.{max_scratch, row_empty, row_other, rows_room, holder_at, next_count, held_share, n1_cause, n2_cause}
use Rattle.shares.specs.declared.Share.{Share}
use Rattle.adding.specs.Adding.{rows_beginning, row_taken, rows_ending, last_cause}

-- ---- the rows of N1 and N2
-- where none of them holds, the new record has its place
pub record_small : (f : File) (format buffer : List ℕ) → first_cause (rows_beginning f format buffer) ≡ None → record_length f ≤ max_scratch
record_small f format buffer e = go (outcome (ltb max_scratch (record_length f)))
  where
    go : Outcome (ltb max_scratch (record_length f)) → record_length f ≤ max_scratch
    go (holds t) = let bad : Some StateInvalid ≡ None = rw t at e in absurd (let z : ◌≡◌ {A = ℕ} 0 1 = cc in omega arith)
    go (fails t) = ltb-false max_scratch (record_length f) t

module _ (f : File) (part : List ℕ) (call : Call) (x : Share) (queue images : List ℕ) (width room : ℕ) (format buffer : List ℕ) where
  module _ (isn : ℕ) where
    pub no_room_left : (cause : Response) → first_cause (rows_room call x queue room isn) ≡ Some cause → last_cause f part call x queue images width room format buffer isn ≡ Some cause
    unfolding last_cause
    no_room_left = causes_refused (rows_room call x queue room isn) (row_taken f part call x queue images width room format buffer isn ∷ [])

    -- where there is room, the value decides
    pub room_left : first_cause (rows_room call x queue room isn) ≡ None → last_cause f part call x queue images width room format buffer isn ≡ first_cause (row_taken f part call x queue images width room format buffer isn ∷ [])
    unfolding last_cause
    room_left = causes_passed (rows_room call x queue room isn) (row_taken f part call x queue images width room format buffer isn ∷ [])

  -- N2, at the given ISN
  abbrev rows_given : List Row
  rows_given = row_other call x queue call.isn ∷ row_empty f part call.isn ∷ rows_ending f part call x queue images width room format buffer call.isn

  pub n2_begins : (cause : Response) → first_cause (rows_beginning f format buffer) ≡ Some cause → n2_cause f part call x queue images width room format buffer ≡ Some cause
  unfolding n2_cause
  n2_begins = causes_refused (rows_beginning f format buffer) rows_given

  module _ (passed : first_cause (rows_beginning f format buffer) ≡ None) where
    n2_goes_on : n2_cause f part call x queue images width room format buffer ≡ first_cause rows_given
    unfolding n2_cause
    n2_goes_on = causes_passed (rows_beginning f format buffer) rows_given passed

    pub n2_other : other_holds call.user (holder_at call x queue call.isn) ≡ true → n2_cause f part call x queue images width room format buffer ≡ Some HeldByAnother
    n2_other t = n2_goes_on ∙ rw t

    module _ (free : other_holds call.user (holder_at call x queue call.isn) ≡ false) where
      pub n2_there : has_record f part call.isn ≡ true → n2_cause f part call x queue images width room format buffer ≡ Some Presence
      n2_there t = n2_goes_on ∙ rw (free, t)

      pub n2_ends : has_record f part call.isn ≡ false → n2_cause f part call x queue images width room format buffer ≡ last_cause f part call x queue images width room format buffer call.isn
      unfolding last_cause
      n2_ends t = n2_goes_on ∙ rw (free, t)

  -- N1, at the ISN that it found, if any
  module _ (free : Option ℕ) where
    abbrev rows_found : List Row
    rows_found = row FileFull (not (is_isn free)) ∷ rows_ending f part call x queue images width room format buffer (isn_in free)

    pub n1_begins : (cause : Response) → first_cause (rows_beginning f format buffer) ≡ Some cause → n1_cause f part call x queue images width room format buffer free ≡ Some cause
    unfolding n1_cause
    n1_begins = causes_refused (rows_beginning f format buffer) rows_found

    module _ (passed : first_cause (rows_beginning f format buffer) ≡ None) where
      n1_goes_on : n1_cause f part call x queue images width room format buffer free ≡ first_cause rows_found
      unfolding n1_cause
      n1_goes_on = causes_passed (rows_beginning f format buffer) rows_found passed

      pub n1_full : free ≡ None → n1_cause f part call x queue images width room format buffer free ≡ Some FileFull
      n1_full e = n1_goes_on ∙ rw e

      pub n1_ends : (isn : ℕ) → free ≡ Some isn → n1_cause f part call x queue images width room format buffer free ≡ last_cause f part call x queue images width room format buffer isn
      unfolding last_cause
      n1_ends isn e = n1_goes_on ∙ rw e

-- ---- the ISN that N1 last gave stays where no other is kept
pub assigned_kept : (call : Call) (x : Share) (queue : List ℕ) (clock isn : ℕ) → share_with_assigned x.last_assigned (held_share call x queue clock isn) ≡ held_share call x queue clock isn
unfolding held_share
assigned_kept call x queue clock isn = go (is_holder call.user (holder_at call x queue isn))
  where
    go : (b : Bool) → share_with_assigned x.last_assigned (cond b x (share (started clock x.user) x.et_data x.last_assigned (next_count call x queue) x.waits)) ≡ cond b x (share (started clock x.user) x.et_data x.last_assigned (next_count call x queue) x.waits)
    go true = refl
    go false = refl
