-- The number for each cause, in the order of document 01's table and of the requests that add to it.
use Rattle.std.specs.Prelude.{ℕ}
use Rattle.nucleus.specs.declared.Response.{Response}
use Rattle.nucleus.specs.declared.Response.TheVariants.{Good, DefinitionInvalid, BufferTooShort, StateInvalid, CommandUnknown, UserUnknown, BackedOut, TransactionReady, AccessOnly, NoTransaction, FileUnknown, IsnInvalid, FormatInvalid, FieldTwice, RecordLength, ValueInvalid, NotFound, Waiting, HeldByAnother, Presence, NotHeld, AlreadyChanged, FileFull, HoldLimit, QueueFull, ValueTaken}
use Rattle.nucleus.specs.declared.Answer.{Answer}

-- document 02, No. 1: who joins a line, or still waits in it
abbrev pub waiting_number : ℕ
waiting_number = 20

abbrev pub number : Response → ℕ
number Good = 0
number DefinitionInvalid = 10
number BufferTooShort = 11
number StateInvalid = 12
number CommandUnknown = 22
number UserUnknown = 72
number BackedOut = 9
number TransactionReady = 211
number AccessOnly = 29
number NoTransaction = 212
number FileUnknown = 17
number IsnInvalid = 113
number FormatInvalid = 41
number FieldTwice = 44
number RecordLength = 53
number ValueInvalid = 55
number NotFound = 3
number Waiting = waiting_number
number HeldByAnother = 145
number Presence = 113
number NotHeld = 144
number AlreadyChanged = 146
number FileFull = 75
number HoldLimit = 47
number QueueFull = 70
number ValueTaken = 198

-- every row of the table returns 0, 0, 0
abbrev pub refused : Response → Answer
refused r = record { response = r; isn = 0; quantity = 0; sequence = 0 }

-- "Fields not named here are 0"
abbrev pub good : ℕ → ℕ → ℕ → Answer
good isn quantity sequence = record { response = Good; isn = isn; quantity = quantity; sequence = sequence }
