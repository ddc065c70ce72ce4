-- The digits of a number: its last one, and those before it.
-- Assumes nothing.
use Rattle.std.specs.Prelude.{ℕ, zero, suc, ◌+◌, ◌/◌, ◌%◌, ◌^◌, ◌≤◌, ◌<◌, ◌≡◌, [], ◌∷◌, ◌++◌, ltb, length}
use Rattle.std.proofs.Common.{arith, sym, ap, ◌∙◌, length-append, lt-ltb, le-ltb}
use Rattle.lists.specs.Tests.{cond, Outcome, holds, fails, outcome}
use Rattle.nucleus.specs.Responses.{number}
use Rattle.nucleus.specs.declared.Answer.{Answer}
use Rattle.nucleus.specs.Line.{digit, decimal_within, decimal, numbers_part}

-- one digit more than a number has makes no difference
within_more : (more n : ℕ) → n < 10 ^ suc more → decimal_within (suc more) n ≡ decimal_within more n
within_more zero n h = rw (lt-ltb n 10 h)
within_more (suc more) n h = ap (λ before. cond (ltb n 10) (digit n ∷ []) (before ++ (digit (n % 10) ∷ []))) (within_more more (n / 10) (omega arith))

pub decimal_one : (n : ℕ) → n < 10 → decimal n ≡ digit n ∷ []
unfolding decimal
decimal_one n h = ap (λ b. cond b (digit n ∷ []) (decimal_within 18 (n / 10) ++ (digit (n % 10) ∷ []))) (lt-ltb n 10 h)

pub decimal_more : (n : ℕ) → 10 ≤ n → n < 2 ^ 64 → decimal n ≡ decimal (n / 10) ++ (digit (n % 10) ∷ [])
unfolding decimal
decimal_more n h k =
    ap (λ b. cond b (digit n ∷ []) (decimal_within 18 (n / 10) ++ (digit (n % 10) ∷ []))) (le-ltb n 10 h)
    ∙ ap (λ before. before ++ (digit (n % 10) ∷ [])) (sym (within_more 18 (n / 10) (omega arith)))

pub length_one : (n : ℕ) → n < 10 → length (decimal n) ≡ 1
length_one n h = ap length (decimal_one n h)

pub length_more : (n : ℕ) → 10 ≤ n → n < 2 ^ 64 → length (decimal n) ≡ length (decimal (n / 10)) + 1
length_more n h k = ap length (decimal_more n h k) ∙ length-append (decimal (n / 10)) (digit (n % 10) ∷ [])

-- there are at most as many as the bound allows
within_most : (more n : ℕ) → length (decimal_within more n) ≤ suc more
within_most zero n = omega arith
within_most (suc more) n = go (outcome (ltb n 10)) (within_most more (n / 10))
  where
    go : Outcome (ltb n 10) → length (decimal_within more (n / 10)) ≤ suc more → length (decimal_within (suc more) n) ≤ suc (suc more)
    go (holds e) h = rw e (omega arith)
    go (fails e) h = rw (e, length-append (decimal_within more (n / 10)) (digit (n % 10) ∷ [])) (omega arith)

pub decimal_most : (n : ℕ) → length (decimal n) ≤ 20
unfolding decimal
decimal_most n = within_most 19 n

pub numbers_most : (a : Answer) → length (numbers_part a) ≤ 83
numbers_most a =
    simp length-append (omega (arith, decimal_most (number a.response), decimal_most a.isn, decimal_most a.quantity, decimal_most a.sequence))
