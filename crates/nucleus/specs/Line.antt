-- The line that `partycall` prints for a call (document 01, 'The house call list': "response, ISN, quantity, sequence, and after a good L1, L4 or RE
-- that wrote something the bytes in capital hexadecimal without blanks; one blank stands between these parts").
use Rattle.std.specs.Prelude.{ℕ, zero, suc, ◌+◌, ◌/◌, ◌%◌, Bool, false, not, ◌&&◌, List, [], ◌∷◌, ◌++◌, eqb, ltb, take, Option, Some, None}
use Rattle.lists.specs.Tests.{cond}
use Rattle.nucleus.specs.Commands.{direct_commands, command_of, one_of}
use Rattle.nucleus.specs.Responses.{number}
use Rattle.nucleus.specs.Nucleus.{Result}
use Rattle.nucleus.specs.declared.Call.{Call}
use Rattle.nucleus.specs.declared.Answer.{Answer}
use Rattle.nucleus.specs.declared.Command.{Command}
use Rattle.nucleus.specs.declared.Command.TheVariants.{L1, L4, Re}

-- a digit as ASCII, to `F`
abbrev pub digit : ℕ → ℕ
digit d = cond (ltb d 10) (48 + d) (55 + d)

-- the digits of a number, the most significant first; `more` bounds how many come before the last
abbrev pub decimal_within : ℕ → ℕ → List ℕ
decimal_within zero n = digit n ∷ []
decimal_within (suc more) n = cond (ltb n 10) (digit n ∷ []) (decimal_within more (n / 10) ++ (digit (n % 10) ∷ []))

-- of a number below 10 to the 20th
unfoldable pub decimal : ℕ → List ℕ
decimal n = decimal_within 19 n

abbrev pub hexadecimal : List ℕ → List ℕ
hexadecimal [] = []
hexadecimal (b ∷ bs) = digit (b / 16) ∷ digit (b % 16) ∷ hexadecimal bs

abbrev pub shows : Option Command → Bool
shows None = false
shows (Some c) = one_of (L1 ∷ L4 ∷ Re ∷ []) c

-- "response, ISN, quantity, sequence"
abbrev pub numbers_part : Answer → List ℕ
numbers_part a = decimal (number a.response) ++ 32 ∷ decimal a.isn ++ 32 ∷ decimal a.quantity ++ 32 ∷ decimal a.sequence

-- the bytes that a reading wrote stand behind them
abbrev pub shows_bytes : Call → Answer → Bool
shows_bytes call a = shows (command_of direct_commands call.command) && not (eqb a.quantity 0)

-- by what a call answered, and its record buffer
unfoldable pub line_of : Call → Answer → List ℕ → List ℕ
line_of call a buffer = numbers_part a ++ cond (shows_bytes call a) (32 ∷ hexadecimal (take a.quantity buffer)) []

abbrev pub line : Call → Result → List ℕ
line call r = line_of call r.answer r.buffer
