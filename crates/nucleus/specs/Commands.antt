-- The table of commands, groups of them that rules speak of, and the options named for each (document 01, 'One call').
use Rattle.std.specs.Prelude.{ℕ, Bool, ◌&&◌, ◌||◌, List, [], ◌∷◌, ◌++◌, map, eqb, get_or, Option, Some, None}
use Rattle.lists.specs.Tests.{cond, eqbs}
use Rattle.lists.specs.Folds.{any}
use Rattle.nucleus.specs.declared.Command.{Command}
use Rattle.nucleus.specs.declared.Command.TheVariants.{Hi, Ri, L1, L4, A1, E1, N1, N2, Et, Bt, Re, Op, Cl, Pe}

-- "the table of commands HI RI L1 L4 A1 E1 N1 N2 ET BT RE OP CL"
abbrev pub commands : List Command
commands = Hi ∷ Ri ∷ L1 ∷ L4 ∷ A1 ∷ E1 ∷ N1 ∷ N2 ∷ Et ∷ Bt ∷ Re ∷ Op ∷ Cl ∷ []

-- commands that came later, of a table of their own behind that one. Document 02 orders them, No. 14: "S1, S4, S8, L9, L3, SP, RP, PE"
abbrev pub later_commands : List Command
later_commands = Pe ∷ []

-- what a direct call may be
abbrev pub direct_commands : List Command
direct_commands = commands ++ later_commands

-- its place among these, from 1
abbrev pub place_of : Command → ℕ
place_of Hi = 1
place_of Ri = 2
place_of L1 = 3
place_of L4 = 4
place_of A1 = 5
place_of E1 = 6
place_of N1 = 7
place_of N2 = 8
place_of Et = 9
place_of Bt = 10
place_of Re = 11
place_of Op = 12
place_of Cl = 13
place_of Pe = 14

-- its two letters, in ASCII
abbrev pub code : Command → List ℕ
code Hi = 72 ∷ 73 ∷ []
code Ri = 82 ∷ 73 ∷ []
code L1 = 76 ∷ 49 ∷ []
code L4 = 76 ∷ 52 ∷ []
code A1 = 65 ∷ 49 ∷ []
code E1 = 69 ∷ 49 ∷ []
code N1 = 78 ∷ 49 ∷ []
code N2 = 78 ∷ 50 ∷ []
code Et = 69 ∷ 84 ∷ []
code Bt = 66 ∷ 84 ∷ []
code Re = 82 ∷ 69 ∷ []
code Op = 79 ∷ 80 ∷ []
code Cl = 67 ∷ 76 ∷ []
code Pe = 80 ∷ 69 ∷ []

-- the code at a place of the table of commands, from 0; zeros past its end
unfoldable pub code_at : ℕ → List ℕ
code_at place = get_or (map code commands) place (0 ∷ 0 ∷ [])

-- the first of some commands that has the letters
abbrev pub seek : List ℕ → List Command → Option Command
seek letters [] = None
seek letters (c ∷ cs) = cond (eqbs (code c) letters) (Some c) (seek letters cs)

-- among the commands that a function serves
unfoldable pub command_of : List Command → List ℕ → Option Command
command_of served letters = seek letters served

-- whether the command is one of those
abbrev pub one_of : List Command → Command → Bool
one_of cs c = any (λ d. eqb (place_of d) (place_of c)) cs

-- ---- groups of commands
-- "HI to N2": about a file
abbrev pub on_file : List Command
on_file = Hi ∷ Ri ∷ L1 ∷ L4 ∷ A1 ∷ E1 ∷ N1 ∷ N2 ∷ []

-- about the ISN that the call gives
abbrev pub at_given_isn : List Command
at_given_isn = Hi ∷ Ri ∷ L1 ∷ L4 ∷ A1 ∷ E1 ∷ N2 ∷ []

-- that end with the ISN held
abbrev pub holding : List Command
holding = Hi ∷ L4 ∷ A1 ∷ E1 ∷ N1 ∷ N2 ∷ []

-- that need a hold of the user's, unless option `H` takes it
abbrev pub changing_held : List Command
changing_held = A1 ∷ E1 ∷ []

-- that need a record
abbrev pub on_record : List Command
on_record = L1 ∷ L4 ∷ A1 ∷ E1 ∷ []

-- "L1, L4, A1, N1 and N2 read a format buffer"
abbrev pub naming : List Command
naming = L1 ∷ L4 ∷ A1 ∷ N1 ∷ N2 ∷ []

-- of these, those that bring values
abbrev pub bringing_values : List Command
bringing_values = A1 ∷ N1 ∷ N2 ∷ []

-- of these, those that read values
abbrev pub reading_values : List Command
reading_values = L1 ∷ L4 ∷ []

-- of these, the one that may read a record as ended transactions left it
abbrev pub reading_committed : List Command
reading_committed = L1 ∷ []

-- that may wait in line for a record: "HI and L4 get option `W`"
abbrev pub may_wait : List Command
may_wait = Hi ∷ L4 ∷ []

-- by which a holder lets go: "Each back-out, ET or RI hands over"
abbrev pub letting_go : List Command
letting_go = Ri ∷ Et ∷ Bt ∷ []

-- that open or close a session
abbrev pub on_session : List Command
on_session = Op ∷ Cl ∷ []

-- that a user whose transaction is ready may call: "he may only send ET or BT"
abbrev pub serving_ready : List Command
serving_ready = Et ∷ Bt ∷ []

-- that sets a transaction ready
abbrev pub setting_ready : List Command
setting_ready = Pe ∷ []

-- that an access-only user may call
abbrev pub serving_access_only : List Command
serving_access_only = Op ∷ Cl ∷ L1 ∷ Re ∷ []

-- ---- options
abbrev pub blank : ℕ
blank = 32

abbrev pub option_I : ℕ
option_I = 73

abbrev pub option_H : ℕ
option_H = 72

abbrev pub option_A : ℕ
option_A = 65

-- document 02, No. 8: "L1 gets option `C`: it shows the record as ended transactions left it"
abbrev pub option_C : ℕ
option_C = 67

-- document 02, No. 1: "HI and L4 get option `W`: where 145 would be given, the call joins that record's line"
abbrev pub option_W : ℕ
option_W = 87

-- "blank X'20' for none"; `I` is named for L1 and L4, `H` for A1 and E1, `A` for OP, `C` for L1, and `W` for HI and L4
unfoldable pub has_option : Command → ℕ → Bool
has_option c o =
    eqb o blank
    || (eqb o option_I && one_of reading_values c)
    || (eqb o option_H && one_of changing_held c)
    || (eqb o option_A && one_of (Op ∷ []) c)
    || (eqb o option_C && one_of reading_committed c)
    || (eqb o option_W && one_of may_wait c)
