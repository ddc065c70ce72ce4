-- Known bytes, read into a buffer.
-- Assumes nothing.
use Rattle.std.proofs.Common.{◌≡◌, ℕ, ◌+◌, ◌-◌, ◌≤◌, ◌<◌, List, [], ◌++◌, arith, length, take, drop, sym, ap, ◌∙◌, subst, le_refl, drop_at, take_at, length-take-le, length-append, length-take, length-drop, take-add, ltb-true, ltb-false}
use Rattle.std.proofs.lemmas.List.{take-append-le}
use Rattle.std.specs.Prelude.{Option, None, Some, min, ltb}
use Rattle.lists.specs.Tests.{Outcome, holds, fails, outcome}
use Rattle.std.proofs.lemmas.Slice.{take-put_mid}
use Rattle.std.specs.Io.KnownBytes.{Consumes, IsAtEnd}
use Rattle.std.proofs.KnownBytes.{Consumes-trans}
use borrow.Rule.Slice.PartMut.{put_mid, post_of, same_len_mid}
use Rattle.party.specs.Serving.{Filled}

-- what a read put behind the bytes that are there
pub more : (a b c : Option (List ℕ)) (done k n : ℕ) (old part : List ℕ) → done ≤ length old → n ≤ length part
    → Consumes a b (take done old) → Consumes b c (take n part) → Consumes a c (take (done + n) (put_mid done k old part))
more a b c done k n old part within fits p q = subst (Consumes a c) joined (Consumes-trans a b c (take done old) (take n part) p q)
  where
    joined : take done old ++ take n part ≡ take (done + n) (put_mid done k old part)
    joined =
        let after = post_of done k old in
        let all = take done old ++ (part ++ after) in
        let there = length-take-le done old within in
        sym
        (take-add done n all
        ∙ ap (λ l. l ++ take n (drop done all)) (take_at (take done old) (part ++ after) done there)
        ∙ ap (λ l. take done old ++ take n l) (drop_at (take done old) (part ++ after) done there)
        ∙ ap (λ l. take done old ++ l) (take-append-le n part after fits))

-- all that there was room for, or all that was left
pub filled : (a b : Option (List ℕ)) (n : ℕ) (buffer : List ℕ) → n ≤ length buffer → Consumes a b (take n buffer) → (n < length buffer → IsAtEnd b) → Filled a b n buffer
filled None b n buffer h p q = tt
filled (Some xs) None n buffer h p q = absurd p
filled (Some xs) (Some ys) n buffer h p q =
    let there : length (take n buffer) ≡ n = length-take-le n buffer h in
    let long : length xs ≡ n + length ys = ap length p ∙ length-append (take n buffer) ys ∙ ap (λ m. m + length ys) there in (
      count long (outcome (ltb n (length buffer))),
      sym (ap (take n) p ∙ take_at (take n buffer) ys n there),
      ap Some (sym (ap (drop n) p ∙ drop_at (take n buffer) ys n there)),
    )
  where
    count : length xs ≡ n + length ys → Outcome (ltb n (length buffer)) → n ≡ min (length buffer) (length xs)
    count long (holds l) = let none = ap length (q (ltb-true n (length buffer) l)) in omega arith
    count long (fails l) = omega (arith, ltb-false n (length buffer) l)

-- a read that gave nothing
pub ended : (a b c : Option (List ℕ)) (done n : ℕ) (old part : List ℕ) → done < length old → n ≡ 0
    → length part ≡ length (take (length old - done) (drop done old)) → Consumes a b (take done old) → Consumes b c (take n part)
    → (n ≡ 0 → 0 < length part → IsAtEnd c) → Filled a c done (put_mid done (length old - done) old part)
ended a b c done n old part within none same p q end =
    let room = length old - done in
    let size = same_len_mid done room old part same in
    let part_size = length-take room (drop done old) in
    let rest_size = length-drop done old in
    let here : done + n ≡ done = omega (arith, none) in
    let all = more a b c done room n old part (omega arith) (omega (arith, none)) p q in
    filled a c done (put_mid done room old part) (omega (arith, size)) (subst (λ m. Consumes a c (take m (put_mid done room old part))) here all)
    (λ h. end none (omega (arith, same, part_size, rest_size, within)))
