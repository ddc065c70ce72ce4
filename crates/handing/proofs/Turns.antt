-- What is still to be handed over: one law for each way of a turn.
-- Assumes nothing.
use Prim.Native.Nat.{ℕ, ◌+◌, ◌≤◌, ◌<◌, min}
use mathlib.Core.Path.{◌≡◌, refl, sym, ap, ◌∙◌}
use mathlib.Core.List.{List}
use lib.ListN.{length, drop, get_or, take}
use Rattle.definition.specs.declared.Definition.{Definition}
use Rattle.entries.specs.Entries.{unpack_of, entries}
use Rattle.entries.proofs.Chains.{entry_taken, none_taken_left}
use Rattle.entries.specs.declared.Entry.{Entry}
use Rattle.nucleus.specs.Waiters.{handed_on, handed}
use Rattle.nucleus.specs.declared.EtData.{EtData}
use Rattle.handing.specs.Parts.{nucleus_of}
use Rattle.handing.specs.Laws.{nobody_waits}
use Rattle.handing.specs.declared.Standing.{Standing}

-- the entries after the first i, out of what there is now, and all, out of what there was: the same comes of both
pub record Pending (d : Definition) (clock : ℕ) (words : List ℕ) (n : ℕ) (store queue₀ : List ℕ) (s₀ : Standing) (queue : List ℕ) (s : Standing) (i : ℕ) : Type 0 where
  pub queue_length : length queue ≡ length queue₀
  pub same : (kept : List EtData) (assigned images : List ℕ)
      → handed (drop i (entries words n)) (nucleus_of d clock s kept assigned store queue images)
      ≡ handed (entries words n) (nucleus_of d clock s₀ kept assigned store queue₀ images)

pub start : {d : Definition} {clock : ℕ} {words : List ℕ} {n : ℕ} {store queue : List ℕ} {s : Standing} → Pending d clock words n store queue s queue s 0
start = record { queue_length = refl; same = λ kept assigned images. refl }

module _ {d : Definition} {clock : ℕ} {words : List ℕ} {n : ℕ} {store queue₀ : List ℕ} {s₀ : Standing} {queue : List ℕ} {s : Standing} {i : ℕ}
    (p : Pending d clock words n store queue₀ s₀ queue s i) where
  -- what comes of all is what there is now
  abbrev Done : Type 0
  Done = (kept : List EtData) (assigned images : List ℕ)
      → handed (entries words n) (nucleus_of d clock s₀ kept assigned store queue₀ images) ≡ nucleus_of d clock s kept assigned store queue images

  pub all_done : {last : ℕ} → last ≡ min n (length words) → length (take last words) ≤ i → Done
  all_done {last} e end kept assigned images = sym (rw (none_taken_left words n last e i end) at (p.same kept assigned images))

  pub none_waits : s.wait_queue.waiting ≡ 0 → Done
  none_waits none kept assigned images =
      sym (p.same kept assigned images) ∙ nobody_waits d clock s kept assigned store queue images none (drop i (entries words n))

  pub turn : {last : ℕ} → last ≡ min n (length words) → i < length (take last words)
      → (e : Entry) (s' : Standing) (queue' : List ℕ) → e ≡ unpack_of (get_or (take last words) i 0) → length queue' ≡ length queue
      → ((kept : List EtData) (assigned images : List ℕ)
      → handed_on e.file e.isn (nucleus_of d clock s kept assigned store queue images) ≡ nucleus_of d clock s' kept assigned store queue' images)
      → Pending d clock words n store queue₀ s₀ queue' s' (i + 1)
  turn {last} those more e s' queue' here long on =
      record {
        queue_length = long ∙ p.queue_length;
        same = λ kept assigned images.
            ap (handed (drop (i + 1) (entries words n))) (sym (on kept assigned images))
            ∙ rw here (rw (entry_taken words n last those i more) at (p.same kept assigned images));
      }
