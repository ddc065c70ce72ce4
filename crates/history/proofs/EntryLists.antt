-- The hold queue as a list of entries: what is kept of a nucleus with its queue in words is kept where the words are made of entries anew, at set-up and
-- after each call.
-- Assumes nothing.
use Rattle.std.specs.Prelude.{ℕ, ◌≤◌, ◌≡◌, refl, true, false, List, map, length, take}
use Rattle.std.proofs.Common.{arith, ◌∙◌, length-take, drop_of_length-le, take-take}
use Rattle.std.proofs.Math.Path.{sym, ap, subst}
use Rattle.std.proofs.Math.ListN.{drop}
use Rattle.std.proofs.lemmas.List.{length-map}
use Rattle.lists.specs.Tests.{within, within_least, within_most}
use Rattle.lists.specs.Maps.{take_map}
use Rattle.entries.specs.Entries.{pack_of, unpack_of, entries}
use Rattle.entries.specs.declared.Entry.{Entry}
use Rattle.ground.specs.Queue.{queue_of, holds_of}
use Rattle.nucleus.specs.Responses.{number}
use Rattle.nucleus.specs.Nucleus.{Nucleus, nucleus, Result, max_users, max_capacity, entries_of}
use Rattle.nucleus.specs.Step.{step, set_up}
use Rattle.nucleus.specs.declared.Call.{Call}
use Rattle.nucleus.specs.declared.Response.TheVariants.{Good}
use Rattle.database.specs.Database.{Database, fitting_in, words, in_words, with_words, direct_call, set_up_database}
use Rattle.database.proofs.Laws.{fitting_size}
use Rattle.database.proofs.Words.{fitting_all, fitting_whole, renewed, length_renewed, entries_renewed, same_size, same_behind, words_again}
use Rattle.reading.specs.Grammar.{read_table}
use Rattle.claim.specs.Journal.{Journal, new_journal, is_early, fed}
use Rattle.claim.specs.Lent.{Lent, Alike}
use Rattle.claim.specs.Statements.{unusable}
use Rattle.history.proofs.Sizes.{alike_self}
use Rattle.history.specs.Kept.{definition_of, Kept}
use Rattle.history.proofs.Lines.{lined_like}
use Rattle.history.proofs.Passing.{Passed}
use Rattle.history.proofs.SetUpKept.{kept_set_up, rested_set_up, lined_set_up, set_up_touches}
use Rattle.history.proofs.Stepping.{Stepped, stepped}

-- ---- another queue, with the same entries in use
abbrev requeued : Nucleus → List ℕ → Nucleus
requeued n queue = nucleus n.state n.store queue n.images

-- and another that was lent
abbrev lent_anew : Lent ℕ → List ℕ → Lent ℕ
lent_anew lent queue = record { definition = lent.definition; store = lent.store; queue = queue; images = lent.images }

module _ (capacity : ℕ) (lent : Lent ℕ) (n : Nucleus) (j : Journal) (p : Passed capacity lent n j) (queue was : List ℕ)
    (same : entries queue n.state.count ≡ entries n.queue n.state.count) (room : capacity ≤ length queue) (alike : Alike capacity queue was) where
  abbrev k : Kept capacity lent n j
  k = p.kept

  queue_same : queue_of (definition_of n) queue n.images n.state.count ≡ queue_of (definition_of n) n.queue n.images n.state.count
  unfolding queue_of
  queue_same = ap (λ es. holds_of (definition_of n) es n.images) same

  passed_requeued : Passed capacity (lent_anew lent was) (requeued n queue) j
  passed_requeued = record {
    kept = record {
      sized = record {
        same_table = k.sized.same_table;
        shape = k.sized.shape;
        valid = k.sized.valid;
        capacity_sound = k.sized.capacity_sound;
        made = record {
          store_room = k.sized.made.store_room;
          queue_room = room;
          image_room = k.sized.made.image_room;
          most = k.sized.made.most;
          each_known = rw same k.sized.made.each_known;
          single = rw same k.sized.made.single;
        };
        past = record { store_past = k.sized.past.store_past; queue_past = alike; images_past = k.sized.past.images_past };
      };
      people = record { user_count = k.people.user_count; users_sound = k.people.users_sound; entries_active = rw same k.people.entries_active };
      assigned_sound = k.assigned_sound;
      data_sound = k.data_sound;
      told = k.told;
      invariant = rw queue_same k.invariant;
    };
    rested = p.rested;
    lined = lined_like p.lined same refl refl;
  }

-- ---- a call
module _ (capacity : ℕ) (lent : Lent ℕ) (b : Database) (j : Journal) (p : Passed capacity lent (in_words capacity b) j) where
  abbrev size : ℕ
  size = fitting_in capacity b.queue

  abbrev before : List ℕ
  before = words size b.queue

  length_before : length before ≡ size
  length_before =
      length-map (take size b.queue) pack_of ∙ length-take size b.queue
      ∙ omega (arith, fitting_size capacity (length b.queue))

  all_fit : size ≡ capacity
  all_fit =
      fitting_all capacity (length b.queue)
      (omega (arith, length_before, p.kept.sized.made.queue_room, within_least 1 max_capacity capacity p.kept.sized.capacity_sound))

  module _ (call : Call) (format buffer : List ℕ) where
    abbrev x : Result
    x = step capacity call format buffer (in_words capacity b)

    went : Stepped capacity lent call format buffer j x
    went = stepped capacity lent (in_words capacity b) j p call format buffer

    abbrev left : List ℕ
    left = x.nucleus.queue

    length_left : length left ≡ size
    length_left = went.passed.kept.sized.past.queue_past.same_length ∙ sym p.kept.sized.past.queue_past.same_length ∙ length_before

    -- nothing is past H words
    none_past : (l : List ℕ) → length l ≡ size → drop capacity l ≡ drop capacity lent.queue
    none_past l e =
        let short : length l ≤ capacity = omega (arith, all_fit) in
        let was_short : length lent.queue ≤ capacity = omega (arith, all_fit, length_before, p.kept.sized.past.queue_past.same_length) in
        drop_of_length-le l short ∙ sym (drop_of_length-le lent.queue was_short)

    renewed_alike : Alike capacity (renewed left) lent.queue
    renewed_alike = record {
      same_length = length_renewed left ∙ went.passed.kept.sized.past.queue_past.same_length;
      same_past = none_past (renewed left) (length_renewed left ∙ length_left);
    }

    abbrev told : Journal
    told = fed call format buffer (number x.answer.response) x.answer.isn j

    pub passed_called : Passed capacity lent (in_words capacity (direct_call capacity call format buffer b).database) told
    unfolding direct_call
    passed_called =
        subst (λ q. Passed capacity lent (requeued x.nucleus q) told) (sym (words_again capacity b.queue left length_left))
        (passed_requeued capacity lent x.nucleus told went.passed (renewed left) lent.queue (entries_renewed left x.nucleus.state.count)
        (omega (arith, length_renewed left, length_left, all_fit)) renewed_alike)

    -- the entries in use are those that the call left
    pub entries_called : entries_of (in_words capacity (direct_call capacity call format buffer b).database) ≡ entries_of x.nucleus
    unfolding direct_call
    entries_called =
        ap (λ q. entries q x.nucleus.state.count) (words_again capacity b.queue left length_left) ∙ entries_renewed left x.nucleus.state.count

    pub usable_called : unusable (number x.answer.response) ≡ false
    usable_called = went.usable

    pub inside_called : is_early (number x.answer.response) ≡ false → within 1 max_users call.user ≡ true
    inside_called = went.user_inside

    -- "entries past these sizes are never touched"
    pub queue_called : Alike capacity (direct_call capacity call format buffer b).database.queue b.queue
    unfolding direct_call
    queue_called = record {
      same_length = same_size capacity b.queue left length_left;
      same_past =
          subst (λ h. drop h (with_words size left b.queue) ≡ drop h b.queue) all_fit (same_behind capacity b.queue left length_left);
    }

-- ---- set-up
module _ (capacity : ℕ) (table store : List ℕ) (queue : List Entry) (images : List ℕ) (good : (set_up_database capacity store queue images table).response ≡ Good) where
  -- what was lent, with the queue in words
  abbrev pub lent_words : Lent ℕ
  lent_words = record { definition = (read_table table).definition; store = store; queue = words (fitting_in capacity queue) queue; images = images }

  abbrev n : Nucleus
  n = (set_up capacity store (map pack_of queue) images table).nucleus

  answered : (set_up capacity store (map pack_of queue) images table).response ≡ Good
  unfolding set_up_database
  answered = good

  start : Passed capacity (record { definition = (read_table table).definition; store = store; queue = map pack_of queue; images = images }) n new_journal
  start = record {
    kept = kept_set_up capacity store (map pack_of queue) images table answered;
    rested = rested_set_up capacity store (map pack_of queue) images table answered;
    lined = lined_set_up capacity store (map pack_of queue) images table answered;
  }

  same_queue : n.queue ≡ map pack_of queue
  same_queue = (set_up_touches capacity store (map pack_of queue) images table).queue_kept

  whole : fitting_in capacity queue ≡ capacity
  whole =
      fitting_whole capacity (length queue) (within_most 1 max_capacity capacity start.kept.sized.capacity_sound)
      (omega (arith, start.kept.sized.made.queue_room, ap length same_queue, length-map queue pack_of))

  -- the first H entries are all that any count reads
  same_front : entries (words (fitting_in capacity queue) queue) n.state.count ≡ entries n.queue n.state.count
  unfolding entries
  same_front =
      ap (map unpack_of)
      (take_map pack_of n.state.count (take (fitting_in capacity queue) queue)
      ∙ ap (map pack_of) (take-take n.state.count (fitting_in capacity queue) queue (omega (arith, whole, start.kept.sized.made.most)))
      ∙ sym (take_map pack_of n.state.count queue) ∙ ap (take n.state.count) (sym same_queue))

  room : capacity ≤ length (words (fitting_in capacity queue) queue)
  room = omega (
    arith,
    whole,
    length-map (take (fitting_in capacity queue) queue) pack_of,
    length-take (fitting_in capacity queue) queue,
    fitting_size capacity (length queue),
  )

  pub passed_set_up : Passed capacity lent_words (in_words capacity (set_up_database capacity store queue images table).database) new_journal
  unfolding set_up_database
  passed_set_up = passed_requeued capacity _ n new_journal start _ _ same_front room (alike_self capacity (words (fitting_in capacity queue) queue))
