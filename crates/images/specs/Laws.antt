-- Laws of entries with their images: what a new entry, a changed one and a new image make of them.
-- Assumes nothing.
use Rattle.std.specs.Prelude.{ℕ, zero, suc, ◌+◌, ◌*◌, ◌≤◌, ◌<◌, ◌≡◌, refl, List, [], ◌∷◌, ◌++◌, length, take, drop, get_or, set}
use Rattle.std.proofs.Common.{le_of_suc-le-suc, not-suc-le-zero, arith, ap, length-take, length-drop, drop-drop, take_all, take_at, drop_at}
use Rattle.std.proofs.Math.Seq.{paste}
use Rattle.lists.specs.Copies.{paste_behind}
use Rattle.images.specs.Images.{hold_of, with_images}
use Rattle.entries.specs.declared.Entry.{Entry}

-- ---- entries with their images
module _ (width : ℕ) where
  pub length_with_images : (es : List Entry) (images : List ℕ) → length (with_images width es images) ≡ length es
  length_with_images [] images = refl
  length_with_images (e ∷ es) images = ap suc (length_with_images es (drop width images))

  -- a new entry takes the image that lies there
  pub with_images_append : (es fs : List Entry) (images : List ℕ) → with_images width (es ++ fs) images ≡ with_images width es images ++ with_images width fs (drop (length es * width) images)
  with_images_append [] fs images = let e : 0 * width ≡ 0 = omega arith in rw e
  with_images_append (x ∷ es) fs images =
      let e : suc (length es) * width ≡ width + length es * width = omega arith in
      rw (with_images_append es fs (drop width images), drop-drop (length es * width) width images, e)

  -- a changed entry keeps its image
  pub with_images_set : (es : List Entry) (i : ℕ) (e : Entry) (images : List ℕ) → i < length es
      → with_images width (set es i e) images ≡ set (with_images width es images) i (hold_of e (take width (drop (i * width) images)))
  with_images_set [] i e images h = absurd (not-suc-le-zero h)
  with_images_set (x ∷ es) zero e images h = let z : 0 * width ≡ 0 = omega arith in rw z
  with_images_set (x ∷ es) (suc i) e images h =
      let z : suc i * width ≡ width + i * width = omega arith in
      rw (with_images_set es i e (drop width images) (le_of_suc-le-suc h), drop-drop (i * width) width images, z)

  -- an image written leaves the others
  pub with_images_image : (es : List Entry) (i : ℕ) (d : Entry) (images v : List ℕ) → i < length es → length es * width ≤ length images → length v ≡ width
      → with_images width es (paste images (i * width) v width) ≡ set (with_images width es images) i (hold_of (get_or es i d) v)
  with_images_image [] i d images v h room size = absurd (not-suc-le-zero h)
  with_images_image (x ∷ es) zero d images v h room size =
      let z : 0 * width ≡ 0 = omega arith in
      let n : 0 + width ≡ width = omega arith in
      rw (z, n, take_all width v (omega arith), take_at v (drop width images) width size, drop_at v (drop width images) width size)
  with_images_image (x ∷ es) (suc i) d images v h room size =
      let z : suc i * width ≡ width + i * width = omega arith in
      let l : length (take width images) ≡ width = simp length-take (omega arith) in
      let more : List ℕ = paste (drop width images) (i * width) v width in
      let inside : length es * width ≤ length (drop width images) = simp length-drop (omega arith) in
      rw (
        z,
        paste_behind images v width (i * width) width,
        take_at (take width images) more width l,
        drop_at (take width images) more width l,
        with_images_image es i d (drop width images) v (le_of_suc-le-suc h) inside size,
      )

-- ---- entries with their images, one further
pub hold_next : (width : ℕ) (es : List Entry) (images : List ℕ) (i : ℕ) (e : Entry) → drop i es ≡ e ∷ drop (i + 1) es
    → with_images width (drop i es) (drop (i * width) images) ≡ hold_of e (take width (drop (i * width) images)) ∷ with_images width (drop (i + 1) es) (drop ((i + 1) * width) images)
hold_next width es images i e h =
    let next : (i + 1) * width ≡ i * width + width = omega arith in
    rw (h, next, ← (drop-drop width (i * width) images))
