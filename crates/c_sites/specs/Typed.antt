-- What a source that breaks no rule holds.
use Rattle.std.specs.Prelude.{List}
use Rattle.rr_base.specs.declared.layout.Site.{Site}
use Rattle.c_tree.specs.declared.program.Program.{Program}
use Rattle.c_sites.specs.declared.function_info.FunctionInfo.{FunctionInfo}
use Rattle.c_sites.specs.declared.typed.Typed.{Typed}

-- the syntax tree of the source
abbrev pub program_in : Typed → Program
program_in t = t.program

-- what has cells of its own, in the order of the text
abbrev pub sites_in : Typed → List Site
sites_in t = t.sites

-- what is told of each function that it defines
abbrev pub functions_in : Typed → List FunctionInfo
functions_in t = t.functions
