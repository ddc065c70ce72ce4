-- A list of calls, one after another, on the nucleus and on the journal; and users backed out afterwards.
use Rattle.std.specs.Prelude.{ℕ, List, [], ◌∷◌, Option}
use Rattle.definition.specs.declared.Definition.{Definition}
use Rattle.layout.specs.Layout.{place, file_found}
use Rattle.store.specs.Store.{get}
use Rattle.nucleus.specs.Commands.{code, blank}
use Rattle.nucleus.specs.Responses.{number}
use Rattle.nucleus.specs.Nucleus.{Given, given}
use Rattle.nucleus.specs.Target.{part_in}
use Rattle.nucleus.specs.declared.Command.TheVariants.{Bt}
use Rattle.entries.specs.declared.Entry.{Entry}
use Rattle.database.specs.Database.{Database, Reply, direct_call, set_up_database}
use Rattle.claim.specs.Journal.{Journal, new_journal, fed, struck}

-- the nucleus with all that it is lent, and the journal beside it
pub record World : Type 0 where
  pub database : Database
  pub journal : Journal

-- what one call answers and leaves
abbrev pub call_given : ℕ → Given → World → Reply
call_given capacity g w = direct_call capacity g.call g.format g.buffer w.database

-- the journal is fed the call's arguments, the response and the ISN
abbrev pub after : Given → Reply → Journal → World
after g r j = record {
  database = r.database;
  journal = fed g.call g.format g.buffer (number r.answer.response) r.answer.isn j;
}

abbrev pub called : ℕ → Given → World → World
called capacity g w = after g (call_given capacity g w) w.journal

unfoldable pub run : ℕ → List Given → World → World
run capacity [] w = w
run capacity (g ∷ gs) w = run capacity gs (called capacity g w)

-- set-up, and a journal that has seen nothing
abbrev pub begin : ℕ → List ℕ → List Entry → List ℕ → List ℕ → World
begin capacity store queue images table = record { database = (set_up_database capacity store queue images table).database; journal = new_journal }

-- ---- afterwards
-- "one BT, option blank, clock 0": what else a call has may be anything
pub record BackOut : Type 0 where
  pub user : ℕ
  pub file : ℕ
  pub isn : ℕ
  pub limit : ℕ
  pub format : List ℕ
  pub buffer : List ℕ

abbrev pub bt : BackOut → Given
bt b =
    given (record { command = code Bt; option = blank; user = b.user; file = b.file; isn = b.isn; limit = b.limit; clock = 0 }) b.format b.buffer

-- the nucleus after one BT of each user
abbrev pub back_outs : ℕ → List BackOut → Database → Database
back_outs capacity [] n = n
back_outs capacity (b ∷ bs) n = back_outs capacity bs (direct_call capacity (bt b).call (bt b).format (bt b).buffer n).database

-- "the book strikes his open changes"
abbrev pub struck_all : List BackOut → Journal → Journal
struck_all [] j = j
struck_all (b ∷ bs) j = struck_all bs (struck b.user j)

-- the record that a store has at a file and ISN of a table, if any
abbrev pub record_in : Definition → List ℕ → ℕ → ℕ → Option (List ℕ)
record_in d store file isn = get (file_found d (place d file)) (part_in d (place d file) store) isn
