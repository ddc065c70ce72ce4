-- The image of what was there: where there was no record, none is kept, whatever is handed over for it.
-- Assumes nothing.
use Rattle.std.specs.Prelude.{ℕ, ◌≡◌, Bool, false, List, Option, Some, None}
use Rattle.entries.specs.declared.Entry.{Entry}
use Rattle.std.proofs.Math.Path.{refl, ap}
use Rattle.lists.specs.Tests.{Outcome, holds, fails, outcome}
use Rattle.definition.specs.declared.File.{File}
use Rattle.store.specs.Store.{has_record, record_of, shown}
use Rattle.store.proofs.Laws.{shown_record}
use Rattle.changes.specs.Changes.{first_change_images}
use Rattle.nucleus.specs.declared.Call.{Call}
use Rattle.shares.specs.Chains.{held_queue, holder_now, images_with, imaged_images}
use Rattle.shares.specs.declared.Share.{Share}

module _ (call : Call) (x : Share) (queue : List ℕ) (clock isn width : ℕ) (images : List ℕ) where
  none_kept : (l : Option (ℕ × Entry)) (q : List ℕ) (existed : Bool) → existed ≡ false → (content other : List ℕ) → images_with call x queue l q existed width content images ≡ images_with call x queue l q existed width other images
  unfolding first_change_images
  none_kept (Some (i, e)) q existed h content other = rw h
  none_kept None q existed h content other = refl

  pub image_shown : (f : File) (part : List ℕ)
      → imaged_images call x queue clock isn (has_record f part isn) width (shown f part isn) images ≡ imaged_images call x queue clock isn (has_record f part isn) width (record_of f part isn) images
  unfolding imaged_images
  image_shown f part = go (outcome (has_record f part isn))
    where
      go : Outcome (has_record f part isn)
          → imaged_images call x queue clock isn (has_record f part isn) width (shown f part isn) images ≡ imaged_images call x queue clock isn (has_record f part isn) width (record_of f part isn) images
      go (holds t) = ap (λ content. imaged_images call x queue clock isn (has_record f part isn) width content images) (shown_record f part isn t)
      go (fails t) =
          none_kept (holder_now call x queue clock isn (has_record f part isn)) (held_queue call x queue isn (has_record f part isn)) (has_record f part isn) t (shown f part isn) (record_of f part isn)
