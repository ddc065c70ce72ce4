-- `command_of` meets its contract. The loop's invariant: what is sought in both tables is sought from here on.
-- Assumes nothing.
use Rattle.std.specs.Prelude.{◌≡◌, drop}
use Rattle.nucleus.specs.Commands.{direct_commands, command_of}
use Rattle.codes.proofs.command_of.Given as goal

abbrev pub invariant-loop-i : goal.invariant-loop-i
invariant-loop-i l = command_of direct_commands l.letters ≡ command_of (drop l.i direct_commands) l.letters
