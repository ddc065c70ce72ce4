-- An item of a table, read in two parts: its kind, and its body.
-- Assumes nothing.
use Rattle.std.specs.Prelude.{Option, None, Some, IfSome, min}
use Rattle.std.proofs.Common.{◌≡◌, ℕ, ◌+◌, ◌-◌, ◌≤◌, ◌<◌, refl, List, [], ◌++◌, arith, length, take, drop, get_or, sym, ap, ◌∙◌, subst, length-take, length-take-le, length-drop, take-add, take_all, drop-drop, append_assoc, get_or-take, get_or-append-add}
use Rattle.std.proofs.lemmas.Slice.{take-put_mid}
use borrow.Rule.Slice.PartMut.{put_mid, same_len_mid}
use Rattle.house.specs.House.{rest_of_item}
use Rattle.party.specs.Serving.{Filled, ItemRead}

-- a whole buffer that was filled holds what was at the front
buffer_is : (n : ℕ) (b xs : List ℕ) → length b ≡ n → take n b ≡ take n xs → b ≡ take n xs
buffer_is n b xs long same = sym (take_all n b (omega (arith, long))) ∙ same

-- a byte that was read to a place
byte_read : (at k : ℕ) (t b : List ℕ) → at ≤ length t → length b ≡ 1 → get_or (put_mid at k t b) at 0 ≡ get_or b 0 0
byte_read at k t b within one =
    let there = length-take-le at t within in
    let front : take (at + 1) (put_mid at k t b) ≡ take at t ++ b = take-put_mid at k t b (at + 1) (omega (arith, one)) within in
    let here : length (take at t) + 0 ≡ at = omega (arith, there) in
    sym (get_or-take (at + 1) (put_mid at k t b) at 0 (omega arith)) ∙ ap (λ l. get_or l at 0) front ∙ ap (λ i. get_or (take at t ++ b) i 0) (sym here) ∙ get_or-append-add (take at t) b 0 0

pub item_read : (r₀ r₁ r₂ : Option (List ℕ)) (at n m₁ m₂ k₁ k₂ : ℕ) (t b₁ b₂ : List ℕ) → at + 1 + n ≤ length t → k₁ ≡ 1 → k₂ ≡ n
    → length b₁ ≡ length (take k₁ (drop at t)) → length b₂ ≡ length (take k₂ (drop (at + 1) (put_mid at k₁ t b₁))) → m₁ ≡ 1 → m₂ ≡ n
    → Filled r₀ r₁ m₁ b₁ → Filled r₁ r₂ m₂ b₂ → rest_of_item (get_or (put_mid at k₁ t b₁) at 0) ≡ Some n
    → IfSome r₀ (λ xs. ItemRead xs r₂ at (at + 1 + n) t (put_mid (at + 1) k₂ (put_mid at k₁ t b₁) b₂))
item_read None r₁ r₂ at n m₁ m₂ k₁ k₂ t b₁ b₂ within p₁ p₂ size₁ size₂ e₁ e₂ first second kind = tt
item_read (Some xs) r₁ r₂ at n m₁ m₂ k₁ k₂ t b₁ b₂ within p₁ p₂ size₁ size₂ e₁ e₂ first second kind =
    (n, ap rest_of_item (sym byte) ∙ kind, refl, omega (arith, f.0, s.0, one, whole, length-drop 1 xs), front, s.2 ∙ ap Some (drop-drop n 1 xs))
  where
    table : List ℕ
    table = put_mid at k₁ t b₁

    long : length table ≡ length t
    long = same_len_mid at k₁ t b₁ size₁

    one : length b₁ ≡ 1
    one = omega (arith, size₁, p₁, length-take k₁ (drop at t), length-drop at t)

    whole : length b₂ ≡ n
    whole = omega (arith, size₂, p₂, length-take k₂ (drop (at + 1) table), length-drop (at + 1) table, long)

    f : Filled (Some xs) r₁ 1 b₁
    f = subst (λ m. Filled (Some xs) r₁ m b₁) e₁ first

    s : Filled (Some (drop 1 xs)) r₂ n b₂
    s = subst (λ r. Filled r r₂ n b₂) f.2 (subst (λ m. Filled r₁ r₂ m b₂) e₂ second)

    b₁_is : b₁ ≡ take 1 xs
    b₁_is = buffer_is 1 b₁ xs one f.1

    byte : get_or table at 0 ≡ get_or xs 0 0
    byte = byte_read at k₁ t b₁ (omega arith) one ∙ ap (λ l. get_or l 0 0) b₁_is ∙ get_or-take 1 xs 0 0 (omega arith)

    front : take (at + 1 + n) (put_mid (at + 1) k₂ table b₂) ≡ take at t ++ take (1 + n) xs
    front =
        take-put_mid (at + 1) k₂ table b₂ (at + 1 + n) (omega (arith, whole)) (omega (arith, long))
        ∙ ap (λ l. l ++ b₂) (take-put_mid at k₁ t b₁ (at + 1) (omega (arith, one)) (omega arith))
        ∙ append_assoc (take at t) b₁ b₂
        ∙ ap (λ l. take at t ++ l) (ap (λ l. l ++ b₂) b₁_is ∙ ap (λ l. take 1 xs ++ l) (buffer_is n b₂ (drop 1 xs) whole s.1) ∙ sym (take-add 1 n xs))
