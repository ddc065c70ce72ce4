-- A group of commands that code tests by a `match`: the commands of its first arm are those of the group, those of the second all others.
-- Assumes nothing.
use Prim.Native.Nat.{ℕ}
use mathlib.Core.Path.{◌≡◌, refl, sym, ◌∙◌, ap}
use mathlib.Core.Bool.{Bool, true, false, not}
use mathlib.Core.List.{List, [], ◌∷◌, map}
use mathlib.Core.Logic.{inl, inr}
use denote.Enum.Declared.{tag_of}
use lib.ListN.{get_or}
use types.Run.{OneOf}
use borrow.Author.Tests.{not-true}
use borrow.Enum.Refused.{Among, opened}
use Rattle.lists.specs.Tests.{and_left, and_right}
use Rattle.lists.specs.Folds.{all}
use Rattle.lists.specs.Sift.{sift, all_sift}
use Rattle.nucleus.specs.Commands.{direct_commands, one_of}
use Rattle.nucleus.specs.declared.Command.{Command}
use Rattle.nucleus.specs.declared.Command.TheVariants.{Hi, Ri, L1, L4, A1, E1, N1, N2, Et, Bt, Re, Op, Cl, Pe}
use Rattle.nucleus.specs.contracts.Command as Command'

-- the number by which a `match` knows a command
abbrev tag : Command → ℕ
tag c = tag_of Command'.the_type c

-- it is the command's place in the tables, from 0
tag_back : (c : Command) → get_or direct_commands (tag c) Hi ≡ c
tag_back Hi = refl
tag_back Ri = refl
tag_back L1 = refl
tag_back L4 = refl
tag_back A1 = refl
tag_back E1 = refl
tag_back N1 = refl
tag_back N2 = refl
tag_back Et = refl
tag_back Bt = refl
tag_back Re = refl
tag_back Op = refl
tag_back Cl = refl
tag_back Pe = refl

same_tag : (c d : Command) → tag c ≡ tag d → c ≡ d
same_tag c d e = sym (tag_back c) ∙ ap (λ t. get_or direct_commands t Hi) e ∙ tag_back d

-- what holds of each command of an arm holds in it
in_arm : (p : Command → Bool) (c : Command) (ds : List Command) → all p ds ≡ true → OneOf (map tag ds) (tag c) → p c ≡ true
in_arm p c [] h o = absurd o
in_arm p c (d ∷ []) h o = ap p (same_tag c d o) ∙ and_left (p d) true h
in_arm p c (d ∷ e ∷ ds) h (inl o) = ap p (same_tag c d o) ∙ and_left (p d) (all p (e ∷ ds)) h
in_arm p c (d ∷ e ∷ ds) h (inr o) = in_arm p c (e ∷ ds) (and_right (p d) (all p (e ∷ ds)) h) o

module _ (cs : List Command) (c : Command) where
  pub in_group : OneOf (map tag (sift (one_of cs) direct_commands)) (tag c) → true ≡ one_of cs c
  in_group o = sym (in_arm (one_of cs) c (sift (one_of cs) direct_commands) (all_sift (one_of cs) direct_commands) o)

  abbrev other : Command → Bool
  other d = not (one_of cs d)

  pub not_in_group : Among (map tag (sift other direct_commands)) (tag c) → false ≡ one_of cs c
  not_in_group o = sym (not-true (one_of cs c) (in_arm other c (sift other direct_commands) (all_sift other direct_commands) (opened o)))
