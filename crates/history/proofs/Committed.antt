-- The record as ended transactions left it (document 02, No. 8) is the one that backing all users out would leave; and its part has its bytes.
-- Assumes nothing.
use Rattle.std.specs.Prelude.{ℕ, ◌<◌, ◌≡◌, refl, Bool, true, false, not, List, [], ◌∷◌, eqb, Option, Some, None}
use Rattle.std.proofs.Common.{arith, sym, ap, ◌∙◌}
use Rattle.lists.specs.Tests.{or-true, Outcome, holds, fails, outcome, within, within_inside, within_least, within_most, not_both}
use Rattle.lists.specs.Folds.{any, all}
use Rattle.lists.specs.Sift.{sift}
use Rattle.lists.specs.Every.{all_implies}
use Rattle.definition.specs.Table.{file_at}
use Rattle.definition.specs.Shape.{file_shape_at}
use Rattle.definition.specs.declared.File.{File}
use Rattle.definition.specs.declared.Definition.{Definition}
use Rattle.layout.specs.Layout.{image_length, place, file_found}
use Rattle.layout.specs.Laws.{place_found}
use Rattle.store.specs.Store.{file_part}
use Rattle.store.proofs.Laws.{get_outside}
use Rattle.entries.specs.declared.Entry.{Entry}
use Rattle.committed.specs.Committed.{committed_version, version_there, version_bytes, bytes_at}
use Rattle.committed.specs.declared.Version.{Version}
use Rattle.transactions.specs.Machine.{Ground}
use Rattle.transactions.specs.View.{plus, stay}
use Rattle.transactions.proofs.View.{back_stay}
use Rattle.transactions.specs.Effect.{told}
use Rattle.transactions.proofs.Effect.{told_back_out}
use Rattle.ground.specs.Keys.{isn_bound, key}
use Rattle.ground.specs.Ground.{ground}
use Rattle.ground.specs.Store.{get}
use Rattle.ground.specs.Committed.{version_slot}
use Rattle.ground.proofs.Committed.{version_view}
use Rattle.nucleus.specs.Nucleus.{Nucleus, entries_of}
use Rattle.nucleus.specs.Target.{part_in}
use Rattle.nucleus.specs.Rows.{rows_usable}
use Rattle.nucleus.specs.Committed.{place_in, committed_place}
use Rattle.database.specs.Database.{Database, in_words, direct_place, direct_part}
use Rattle.database.specs.Committed.{absent_bytes, place_bytes}
use Rattle.claim.specs.Journal.{Journal, strikes, hold_of, struck_changes, struck, log_leave}
use Rattle.claim.specs.Run.{BackOut, back_outs, struck_all, record_in}
use Rattle.claim.specs.Claim.{file_numbered, users_of}
use Rattle.claim.specs.Statements.{Everyone, record_after, bytes_of}
use Rattle.claim.specs.Lent.{Lent}
use Rattle.history.specs.Updates.{updates, logged}
use Rattle.history.proofs.Logs.{logged_back_out}
use Rattle.history.specs.HandLogs.{spared_let_go}
use Rattle.history.specs.Kept.{Kept, definition_of, ground_of, seen, entry_active}
use Rattle.history.proofs.People.{transaction_is}
use Rattle.history.proofs.Passing.{Passed}
use Rattle.history.proofs.Standing.{well_made_kept, long_kept}
use Rattle.history.proofs.Records.{slot_in}
use Rattle.history.proofs.BackingOut.{passed_back_outs}
use Rattle.history.specs.Committed.{committed_at, committed_of}

-- its bytes are those of the version
slot_bytes : (f : File) (part images : List ℕ) (width : ℕ) (v : Version) (isn : ℕ) → version_bytes f part images width v isn ≡ bytes_of (version_slot f part images width v isn)
slot_bytes f part images width v isn = go (outcome (version_there f part images width v isn))
  where
    go : Outcome (version_there f part images width v isn) → version_bytes f part images width v isn ≡ bytes_of (version_slot f part images width v isn)
    go (holds t) = rw t
    go (fails t) = rw t (absent_bytes f part images width v isn t)

-- ---- the users of some BTs, as the abstract machine picks them
abbrev out : List BackOut → ℕ → Bool
out [] = stay
out (b ∷ bs) = plus (out bs) b.user

out_is : (bs : List BackOut) (v : ℕ) → any (eqb v) (users_of bs) ≡ true → out bs v ≡ true
out_is [] v h = h
out_is (b ∷ bs) v h = go (outcome (eqb v b.user)) (out_is bs v)
  where
    go : Outcome (eqb v b.user) → (any (eqb v) (users_of bs) ≡ true → out bs v ≡ true) → out (b ∷ bs) v ≡ true
    go (holds t) later = rw (t, or-true (out bs v))
    go (fails t) later = rw (later (rw t at h))

-- what the journal tells with their open changes struck, at once or one after another
module _ (d : Definition) (lent : List ℕ) (k : ℕ) where
  abbrev G : Ground
  G = ground d (updates d) lent

  -- what is handed over changes nothing
  struck_told : (u : ℕ) (j : Journal) → (struck u j).changes ≡ sift (λ c. not (strikes u c)) j.changes
  unfolding struck struck_changes log_leave
  struck_told u j = (spared_let_go (hold_of u) (log_leave u (struck_changes u j))).same_changes

  told_out : (bs : List BackOut) (j : Journal) → told G (out bs) k (logged j.changes) ≡ told G stay k (logged (struck_all bs j).changes)
  told_out [] j = refl
  told_out (b ∷ bs) j =
      sym (told_back_out G (out bs) k b.user (logged j.changes))
      ∙ ap (told G (out bs) k) (logged_back_out d lent b.user j.changes ∙ ap logged (sym (struck_told b.user j)))
      ∙ told_out bs (struck b.user j)

module _ (capacity : ℕ) (lent : Lent ℕ) (b : Database) (j : Journal) (p : Passed capacity lent (in_words capacity b) j) (file isn : ℕ) where
  abbrev n : Nucleus
  n = in_words capacity b

  abbrev d : Definition
  d = definition_of n

  abbrev k : Kept capacity lent n j
  k = p.kept

  abbrev inside : Option ℕ → Bool
  inside x = within 1 (file_found d x).max_isn isn

  abbrev version : Version
  version = committed_version (entries_of n) file isn

  abbrev committed : Option ℕ → Option (List ℕ)
  committed x = committed_at d n.store n.images isn version x

  -- ---- the part
  pub part_bytes : direct_part capacity b file isn ≡ bytes_of (committed_of n file isn)
  unfolding direct_place committed_place rows_usable bytes_at
  part_bytes =
      rw (k.sized.valid, long_kept capacity lent n j k, well_made_kept capacity lent n j k p.lined) (go (place d file) (outcome (inside (place d file))))
    where
      go : (x : Option ℕ) → Outcome (inside x) → bytes_at (place_in n file isn x) n.store n.images ≡ bytes_of (committed x)
      go (Some i) (holds t) =
          rw t
          (place_bytes d i n.store n.images (image_length d) version isn
          ∙ slot_bytes (file_at d i) (file_part d i n.store) n.images (image_length d) version isn)
      go (Some i) (fails t) = rw t
      go None (holds t) = absurd (omega (arith, within_least 1 0 isn t, within_most 1 0 isn t))
      go None (fails t) = rw t

  -- ---- all users are backed out
  module _ (bs : List BackOut) (everyone : Everyone bs j) where
    abbrev m : Nucleus
    m = in_words capacity (back_outs capacity bs b)

    abbrev left : Definition → Option (List ℕ)
    left c = record_in c m.store file isn

    after : Kept capacity lent m (struck_all bs j)
    after = (passed_back_outs capacity lent bs b j p everyone.chosen).kept

    -- whoever has an entry is one of them
    all_out : all (λ (e : Entry). out bs e.user) (entries_of n) ≡ true
    all_out =
        all_implies (entry_active n.state.users) (λ e. out bs e.user)
        (λ e a. out_is bs e.user (everyone.none_left e.user (transaction_is n.state.users e.user j k.told.same_members ∙ a)))
        (entries_of n) k.people.entries_active

    -- what the journal tells with all open changes struck is what they leave
    told_left : isn < isn_bound → told (ground_of lent n) (out bs) (key file isn) (logged j.changes) ≡ left (definition_of m)
    told_left small =
        told_out d lent.store (key file isn) bs j
        ∙ ap (λ c. told (ground c (updates c) lent.store) stay (key file isn) (logged (struck_all bs j).changes)) (k.sized.same_table ∙ sym after.sized.same_table)
        ∙ sym (after.invariant.agree stay (key file isn))
        ∙ back_stay (key file isn) (get (definition_of m) m.store (key file isn)) (seen lent m).queue
        ∙ slot_in capacity lent m (struck_all bs j) after file isn small

    -- an ISN of the file: the version is what the machine shows with them backed out, and that is what the journal tells
    left_inside : (i : ℕ) → place d file ≡ Some i → inside (Some i) ≡ true → committed (Some i) ≡ left lent.definition
    left_inside i e t =
        let used = (place_found d k.sized.shape file i e).0 in
        let highest = (file_shape_at d k.sized.shape i (omega (arith, used))).small_max_isn in
        let small : isn < isn_bound = omega (arith, within_most 1 (file_at d i).max_isn isn t, highest) in
        rw t
        (version_view d k.sized.shape (updates d) lent.store capacity n.store n.queue n.images n.state.count k.sized.made file isn i small e (out bs) all_out
        ∙ k.invariant.agree (out bs) (key file isn) ∙ told_left small ∙ ap left after.sized.same_table)

    -- any other has no record
    left_outside : inside (place d file) ≡ false → left lent.definition ≡ None
    left_outside t =
        ap left (sym k.sized.same_table)
        ∙ get_outside (file_numbered d file) (part_in d (place d file) m.store) isn
        (λ x y. not_both (inside (place d file)) (within_inside 1 (file_numbered d file).max_isn isn x y) t)

    pub committed_left : committed_of n file isn ≡ record_after capacity lent.definition bs b file isn
    committed_left = go (place d file) refl (outcome (inside (place d file)))
      where
        go : (x : Option ℕ) → place d file ≡ x → Outcome (inside x) → committed x ≡ left lent.definition
        go (Some i) e (holds t) = left_inside i e t
        go None e (holds t) = absurd (omega (arith, within_least 1 0 isn t, within_most 1 0 isn t))
        go x e (fails t) = rw t (sym (left_outside (rw e t)))
