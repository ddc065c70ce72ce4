-- What stands at a place of the tables of commands, what is left of a search there, and what letters say.
-- Assumes nothing.
use Rattle.std.specs.Prelude.{ℕ, zero, suc, ◌+◌, ◌-◌, ◌≤◌, ◌<◌, ◌≡◌, refl, true, false, List, [], ◌∷◌, map, length, drop, get_or, Some, None}
use Rattle.std.proofs.Common.{le_of_suc-le-suc, not-suc-le-zero, arith, ap, ◌∙◌, drop_of_length-le, get_or-append-add}
use Rattle.std.proofs.Math.ListN.{get_or-append}
use Rattle.lists.specs.Tests.{eqbs}
use Rattle.lists.specs.Rest.{drop_more}
use Rattle.nucleus.specs.Commands.{commands, later_commands, direct_commands, code, code_at, command_of}
use Rattle.nucleus.specs.declared.Command.{Command}
use Rattle.nucleus.specs.declared.Command.TheVariants.{Hi}
use Rattle.codes.specs.Codes.{later_code_at, letters_at, command_at}

-- ---- at a place
-- what a function makes of a list, within it: no default is read
pub mapped_at : {A B : Type 0} (f : A → B) (l : List A) (i : ℕ) (d : A) (e : B) → i < length l → get_or (map f l) i e ≡ f (get_or l i d)
mapped_at f [] i d e h = absurd (not-suc-le-zero h)
mapped_at f (x ∷ l) zero d e h = refl
mapped_at f (x ∷ l) (suc i) d e h = mapped_at f l i d e (le_of_suc-le-suc h)

abbrev pub listed : ℕ → Command
listed i = get_or direct_commands i Hi

pub letters_here : (i : ℕ) → i < 14 → letters_at i ≡ code (listed i)
unfolding letters_at
letters_here i h = mapped_at code direct_commands i Hi (0 ∷ 0 ∷ []) h

pub command_here : (i : ℕ) → i < 14 → command_at i ≡ Some (listed i)
unfolding command_at
command_here i h = mapped_at Some direct_commands i Hi None h

-- in each table, and where the second stands behind the first
pub code_here : (i : ℕ) → i < 13 → code_at i ≡ code (get_or commands i Hi)
unfolding code_at
code_here i h = mapped_at code commands i Hi (0 ∷ 0 ∷ []) h

pub later_code_here : (i : ℕ) → i < 1 → later_code_at i ≡ code (get_or later_commands i Hi)
unfolding later_code_at
later_code_here i h = mapped_at code later_commands i Hi (0 ∷ 0 ∷ []) h

pub letters_first : (i : ℕ) → i < 13 → letters_at i ≡ code_at i
unfolding letters_at code_at
letters_first i h = get_or-append (map code commands) (map code later_commands) (0 ∷ 0 ∷ []) i h

pub letters_later : (i : ℕ) → 13 ≤ i → letters_at i ≡ later_code_at (i - 13)
unfolding letters_at later_code_at
letters_later i h =
    let there : i ≡ 13 + (i - 13) = omega arith in
    ap letters_at there ∙ get_or-append-add (map code commands) (map code later_commands) (i - 13) (0 ∷ 0 ∷ [])

-- ---- what is left of a search at the i-th of some commands
module _ (letters : List ℕ) (cs : List Command) (i : ℕ) where
  pub found_here : i < length cs → eqbs (code (get_or cs i Hi)) letters ≡ true → command_of (drop i cs) letters ≡ Some (get_or cs i Hi)
  unfolding command_of
  found_here h t = rw (drop_more cs i Hi h, t)

  pub found_later : i < length cs → eqbs (code (get_or cs i Hi)) letters ≡ false → command_of (drop i cs) letters ≡ command_of (drop (i + 1) cs) letters
  unfolding command_of
  found_later h t = rw (drop_more cs i Hi h, t)

  pub found_nowhere : length cs ≤ i → command_of (drop i cs) letters ≡ None
  unfolding command_of
  found_nowhere h = rw (drop_of_length-le cs h)
