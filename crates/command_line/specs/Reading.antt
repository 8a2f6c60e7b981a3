-- What the code reads of a command line, in the words of Arguments.antt.
use Rattle.command_line.specs.Arguments.{Argument}
use Rattle.command_line.specs.declared.arguments.Argument.{Argument as Found}
use Rattle.command_line.specs.declared.arguments.Argument.TheVariants as found

-- what an argument in the code is
abbrev pub read : Found → Argument
read (found.Positional word) = Argument.Positional word.now
read (found.Setting name value) = Argument.Setting name.now value.now
read found.Wrong = Argument.Wrong
