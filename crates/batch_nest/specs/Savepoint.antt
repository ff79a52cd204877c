-- The body of a savepoint.
use Rattle.batch_core.specs.declared.command.Command.{Command}
use Rattle.batch_core.specs.declared.command.End.TheVariants.{Abort}
use Rattle.batch_nest.specs.Nest.{Body, done, then_command, then_inner}

-- a command, an inner body of one command that ends in abort, and a last command
abbrev pub around_savepoint : {T : Type 0} → Command T → Command T → Command T → Body T
around_savepoint kept tried last = then_command kept (then_inner (then_command tried done) Abort (then_command last done))
