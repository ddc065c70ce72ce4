-- `put_back_all` meets its contract. The loop's invariant: what is left to put back makes the same store.
-- Assumes nothing.
use Rattle.std.specs.Prelude.{Option, Some, None}
use native.Mathlib.Omega.{arith}
use Prim.Native.Nat.{ℕ, ◌+◌, ◌-◌, ◌*◌, ◌≤◌, ◌<◌, min}
use native.Mathlib.Nat.{zero-mul, mul-le-mul_right}
use mathlib.Core.Path.{◌≡◌, refl, sym, ap, ◌∙◌}
use mathlib.Core.List.{List, map}
use lib.ListN.{get_or, length, take, drop}
use lib.Seq.{drop-drop}
use Rattle.lists.specs.Parts.{part_take}
use Rattle.lists.specs.Pieces.{piece, patch}
use Rattle.definition.specs.Table.{file_count, file_at, files_of}
use Rattle.definition.specs.Shape.{DefinitionShape}
use Rattle.definition.specs.declared.Definition.{Definition}
use Rattle.definition.proofs.Known.{definition_known}
use Rattle.records.specs.Records.{file_size}
use Rattle.layout.specs.Layout.{file_offset, store_size}
use Rattle.layout.specs.Laws.{file_follows, file_within}
use Rattle.store.specs.Files.{file_part_is, with_part_is}
use Rattle.entries.specs.Entries.{unpack_of, entries}
use Rattle.entries.specs.Laws.{entry_next, no_entry_left}
use Rattle.entries.specs.declared.Entry.{Entry}
use Rattle.hold.specs.Hold.{put_back_in, put_back_at, put_back_of, restored}
use Rattle.hold.specs.Tables.{file_number, undone_at, put_back_undone, undone_found}
use Rattle.hold.proofs.put_back_all.Goals as goal
use Rattle.hold.proofs.put_back_all.Goals.{After-undone_at-found, In-Some, In-loop-i}

-- one entry of those that are left
turn : (d : Definition) (w u i : ℕ) (words : List ℕ) (count : ℕ) (images store : List ℕ) (e : Entry) (found : Option ℕ) → store_size d ≤ length store → i < min count (length words) → e ≡ unpack_of (get_or words i 0) → found ≡ undone_at (map file_number (files_of d)) u e
    → restored d w u (drop (i + 1) (entries words count)) (drop ((i + 1) * w) images) (put_back_at d found e (take w (drop (i * w) images)) store) ≡ restored d w u (drop i (entries words count)) (drop (i * w) images) store
turn d w u i words count images store e found room more here there =
    let next : i * w + w ≡ (i + 1) * w = omega arith in
    let on = ap (λ (t : List ℕ). restored d w u (drop (i + 1) (entries words count)) t (put_back_of d u e (take w (drop (i * w) images)) store)) (drop-drop w (i * w) images ∙ ap (λ (n : ℕ). drop n images) next) in
    rw (there, ← (put_back_undone d u e (take w (drop (i * w) images)) store room), entry_next words count i more, ← here) (sym on)

-- what is put back lies in the file's part of the store
abbrev in_part : Definition → ℕ → Entry → List ℕ → List ℕ → List ℕ
in_part d k e image store =
    patch (file_offset d k) (file_size (file_at d k)) store (put_back_in (file_at d k) e image (piece (file_offset d k) (file_size (file_at d k)) store))

put_back_part : (d : Definition) (k : ℕ) (e : Entry) (image store : List ℕ) → put_back_at d (Some k) e image store ≡ in_part d k e image store
put_back_part d k e image store = rw (file_part_is d k store, with_part_is d k store (put_back_in (file_at d k) e image (piece (file_offset d k) (file_size (file_at d k)) store)))

shape : (c : In-Some) → DefinitionShape c.args.d
shape c = definition_known c.args.d _ c.well_formed.0

-- the block of the entry ends within the images
room : (c : In-loop-i) → c.loop-i.i * c.args.width + c.args.width ≤ length c.args.images.now
room c =
    let a = c.args in
    let m : c.loop-i.i + 1 ≤ a.count = omega (arith, c.loop-i-test.true) in
    omega (arith, c.requires.width_in_bounds, mul-le-mul_right a.width m)

sought : (c : After-undone_at-found) → c.undone_at-found.result ≡ undone_at (map file_number (files_of c.args.d)) c.args.user c.unpack-e.result
sought c = rw (← c.requires.numbers_value) c.undone_at-found.ensures

sought_2 : (c : In-Some) → c.undone_at-found.result ≡ undone_at (map file_number (files_of c.args.d)) c.args.user c.unpack-e.result
sought_2 c = rw (← c.requires.numbers_value) c.undone_at-found.ensures

inside : (c : In-Some) → c.in-Some.k < file_count c.args.d
inside c =
    undone_found c.args.d (shape c) c.args.user c.unpack-e.result _ (sym (sought_2 c) ∙ c.in-Some.is)

-- the part of its file in the store
ends : (c : In-Some) → let d = c.args.d in let at = c.in-Some.k in let starts = c.args.starts.now in
    (get_or starts at 0 ≡ file_offset d at) × (get_or starts (at + 1) 0 ≡ file_offset d at + file_size (file_at d at)) × (get_or starts (at + 1) 0 ≤ length c.loop-i.store)
ends c =
    let d = c.args.d in
    let at = c.in-Some.k in
    let next = c.requires.by_index (at + 1) (omega (arith, inside c)) ∙ file_follows d (shape c) at (inside c) in
    (c.requires.by_index at (omega (arith, inside c)), next, omega (arith, next, file_within d (shape c) at (inside c), c.requires.d_in_bounds, c.loop-i.invariant.0))

pub loop-i-init : goal.loop-i-init
loop-i-init c =
    let z : 0 * c.args.width ≡ 0 = zero-mul c.args.width in
    (refl, rw z)

pub overflow_mul-at : goal.overflow_mul-at
overflow_mul-at c = omega (arith, room (goal.at.overflow_mul-at c).In-loop-i)

pub offset_bounds-d-k : goal.offset_bounds-d-k
offset_bounds-d-k c = omega (arith, inside (goal.at.offset_bounds-d-k c).In-Some)

pub bounds-d-k : goal.bounds-d-k
bounds-d-k c = omega (arith, inside (goal.at.bounds-d-k c).In-Some)

pub offset_bounds-starts-k : goal.offset_bounds-starts-k
offset_bounds-starts-k c = omega (arith, inside (goal.at.offset_bounds-starts-k c).In-Some)

pub bounds-starts-k : goal.bounds-starts-k
bounds-starts-k c = omega (arith, inside (goal.at.bounds-starts-k c).In-Some, c.requires.starts_len)

pub overflow_add-end : goal.overflow_add-end
overflow_add-end c = omega (arith, inside (goal.at.overflow_add-end c).In-Some)

pub offset_bounds-starts-k-in-loop-i : goal.offset_bounds-starts-k-in-loop-i
offset_bounds-starts-k-in-loop-i c = omega (arith, inside (goal.at.offset_bounds-starts-k-in-loop-i c).In-Some)

pub bounds-starts-k-in-loop-i : goal.bounds-starts-k-in-loop-i
bounds-starts-k-in-loop-i c = omega (arith, inside (goal.at.bounds-starts-k-in-loop-i c).In-Some, c.requires.starts_len)

pub overflow_add-at : goal.overflow_add-at
overflow_add-at c = omega (arith, room (goal.at.overflow_add-at c).In-loop-i)

pub slice_bounds-put_back-end : goal.slice_bounds-put_back-end
slice_bounds-put_back-end c = omega (arith, room (goal.at.slice_bounds-put_back-end c).In-loop-i)

pub put_back-requires : goal.put_back-requires
put_back-requires c = record { start_le_end = omega (arith, ends (goal.at.put_back-requires c).In-Some); end_in_bounds = omega (arith, ends (goal.at.put_back-requires c).In-Some) }

pub loop-i-preserved : goal.loop-i-preserved
loop-i-preserved c =
    let a = c.args in
    let at = c.in-Some.k in
    let e = c.unpack-e.result in
    let image = take a.width (drop (c.loop-i.i * a.width) a.images.now) in
    let same = turn a.d a.width a.user c.loop-i.i a.queue.now a.count a.images.now c.loop-i.store e (Some at) (omega (arith, c.requires.d_in_bounds)) (omega arith) c.unpack-e.ensures (sym c.in-Some.is ∙ sought (goal.at.loop-i-preserved c).After-undone_at-found) in
    let size : get_or a.starts.now (at + 1) 0 - get_or a.starts.now at 0 ≡ file_size (file_at a.d at) = omega (arith, ends (goal.at.loop-i-preserved c).In-Some) in
    let now : c.put_back.new.store ≡ in_part a.d at e image c.loop-i.store = rw (part_take (c.loop-i.i * a.width) a.width a.images.now, size, (ends (goal.at.loop-i-preserved c).In-Some).0) at c.put_back.ensures in
    (omega (arith, c.put_back.auto.store, c.loop-i.invariant.0), rw (now, ← (put_back_part a.d at e image c.loop-i.store)) (same ∙ c.loop-i.invariant.1))

pub loop-i-preserved-in_default : goal.loop-i-preserved-in_default
loop-i-preserved-in_default c =
    let a = c.args in
    let same = turn a.d a.width a.user c.loop-i.i a.queue.now a.count a.images.now c.loop-i.store c.unpack-e.result None (omega (arith, c.requires.d_in_bounds)) (omega arith) c.unpack-e.ensures (sym c.in_default.is ∙ sought (goal.at.loop-i-preserved-in_default c).After-undone_at-found) in
    (c.loop-i.invariant.0, same ∙ c.loop-i.invariant.1)

pub shape_of-store : goal.shape_of-store
shape_of-store c = c.loop-i.invariant.0

pub returns : goal.returns
returns c =
    let a = c.args in
    rw (no_entry_left a.queue.now a.count c.loop-i.i (omega arith)) at c.loop-i.invariant.1
