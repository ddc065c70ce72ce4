-- Calls whose file is not defined, or whose ISN is none of the file's: what `perform` does before anything of the file is read.
-- Assumes nothing.
use Rattle.std.specs.Prelude.{ℕ, ◌≡◌, true, false, ◌&&◌, List, [], ◌∷◌, eqb, Some, None}
use Rattle.std.proofs.Common.{ap}
use Rattle.std.proofs.Math.Bool.{and-false}
use Rattle.lists.specs.Tests.{within}
use Rattle.definition.specs.Table.{file_at}
use Rattle.layout.specs.Layout.{place}
use Rattle.nucleus.specs.Commands.{one_of, on_file, at_given_isn, reading_values, option_I}
use Rattle.nucleus.specs.Responses.{refused}
use Rattle.nucleus.specs.Nucleus.{Nucleus, request, resulting}
use Rattle.nucleus.specs.Rows.{file_unknown, isn_invalid}
use Rattle.nucleus.specs.Step.{perform, refusal}
use Rattle.nucleus.specs.declared.Call.{Call}
use Rattle.nucleus.specs.declared.Command.{Command}
use Rattle.nucleus.specs.declared.Command.TheVariants.{Ri}
use Rattle.nucleus.specs.declared.Response.{Response}
use Rattle.nucleus.specs.declared.Response.TheVariants.{FileUnknown, IsnInvalid}
use Rattle.shares.specs.Shares.{share_of, done}
use Rattle.shares.proofs.Laws.{result_on, nothing_done}

-- a refusal gives the share back as it was
pub refusal_is : (call : Call) (buffer : List ℕ) (n : Nucleus) (cause : Response)
    → refusal buffer n cause ≡ result_on call n (done (refused cause) (share_of call n.state)) n.store n.queue n.images buffer
refusal_is call buffer n cause = ap (λ m. resulting (refused cause) m buffer) (nothing_done call n)

module _ (capacity : ℕ) (call : Call) (format buffer : List ℕ) (n : Nucleus) (c : Command) (one : (one_of (Ri ∷ []) c && eqb call.isn 0) ≡ false) where
  -- 17; `one`: not RI of ISN 0
  pub perform_unknown : one_of on_file c ≡ true → place n.state.definition call.file ≡ None → perform (request capacity c call format buffer) n ≡ refusal buffer n FileUnknown
  unfolding perform file_unknown
  perform_unknown known nowhere = rw (known, one, nowhere)

  -- 113, first; also not option `I` of L1 and L4
  pub perform_invalid : (i : ℕ) → one_of at_given_isn c ≡ true → (one_of reading_values c && eqb call.option option_I) ≡ false → place n.state.definition call.file ≡ Some i
      → within 1 (file_at n.state.definition i).max_isn call.isn ≡ false → perform (request capacity c call format buffer) n ≡ refusal buffer n IsnInvalid
  unfolding perform file_unknown isn_invalid
  perform_invalid i known given there invalid = rw (known, one, given, there, invalid, and-false)
