-- `restore` meets its contract: what the tables say is what `put_back_all` asks of them.
-- Assumes nothing.
use native.Mathlib.Omega.{arith}
use borrow.Author.Rules.{rules}
use Prim.Native.Nat.{◌*◌}
use mathlib.Core.Path.{◌≡◌, sym, ap, ◌∙◌}
use mathlib.Core.List.{map}
use mathlib.Core.Bool.{true}
use lib.Dec.{leb}
use lib.ListN.{length, take, get_or}
use lib.Seq.{length-take-le}
use borrow.Author.Tests.{leb-true}
use Rattle.lists.specs.Maps.{take_map}
use Rattle.layout.specs.Layout.{file_offset, store_size}
use Rattle.entries.specs.Entries.{entries}
use Rattle.hold.specs.Hold.{restore}
use Rattle.hold.specs.Tables.{file_number, store_end, restored_short}
use Rattle.hold.proofs.restore.Goals as goal
use Rattle.hold.proofs.restore.Goals.{After-file_starts-starts}

-- every entry has its image
fits : (c : After-file_starts-starts) → leb (c.args.count * c.args.width) (length c.args.images.now) ≡ true
fits c = sym c.blocks_fit.ensures ∙ c.if-not-blocks_fit.false

-- behind the last start the store ends
end : (c : After-file_starts-starts) → get_or c.file_starts-starts.result c.file_count-n.result 0 ≡ store_size c.args.d
end c = c.file_starts-starts.ensures c.file_count-n.result (omega (arith, c.file_count-n.ensures)) ∙ ap (file_offset c.args.d) c.file_count-n.ensures ∙ store_end c.args.d

pub returns-then-not-blocks_fit : goal.returns-then-not-blocks_fit
unfolding restore
returns-then-not-blocks_fit c =
    let short = sym c.blocks_fit.ensures ∙ c.if-not-blocks_fit.true in
    rw short

pub returns-then-store-starts : goal.returns-then-store-starts
unfolding restore
returns-then-store-starts c =
    let a = c.args in
    rw (fits (goal.at.returns-then-store-starts c).After-file_starts-starts) (sym (restored_short a.d a.width a.user (entries a.queue.now a.count) a.images.now a.store.now (omega (arith, end (goal.at.returns-then-store-starts c).After-file_starts-starts, c.if-store-starts.true))))

pub slice_bounds-put_back_all-end : goal.slice_bounds-put_back_all-end
slice_bounds-put_back_all-end c =
    let many : length c.file_numbers-numbers.result ≡ 16 = search rules in
    sym (length-take-le c.file_count-n.result c.file_numbers-numbers.result (omega (arith, many, c.file_count-n.ensures)))

pub put_back_all-requires : goal.put_back_all-requires
put_back_all-requires c =
    let d = c.args.d in
    let numbers = ap (take c.file_count-n.result) c.file_numbers-numbers.ensures ∙ take_map file_number c.file_count-n.result d.files ∙ ap (λ n. map file_number (take n d.files)) c.file_count-n.ensures in
    record { numbers_value = numbers; starts_len = search rules; by_index = c.file_starts-starts.ensures; width_in_bounds = leb-true _ _ (fits (goal.at.put_back_all-requires c).After-file_starts-starts); d_in_bounds = omega (arith, end (goal.at.put_back_all-requires c).After-file_starts-starts, c.if-store-starts.false) }

pub returns : goal.returns
unfolding restore
returns c = rw (fits (goal.at.returns c).After-file_starts-starts) c.put_back_all.ensures
