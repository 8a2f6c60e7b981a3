-- The constants of a code.
use Rattle.std.specs.Prelude.{Bool, true, List}
use Rattle.std.specs.List.{list_all}
use Rattle.word_semantics.specs.Values.{fits}
use Rattle.flow_code.specs.declared.act.Act.{Act}
use Rattle.flow_code.specs.declared.act.Act.TheVariants as act
use Rattle.flow_code.specs.declared.act.Instr.{Instr}
use Rattle.flow_code.specs.declared.code.Code.{Code}
use Rattle.flow_code.specs.declared.code.Function.{Function}
use Rattle.flow_code.specs.declared.work.Work.TheVariants as work

-- a constant that the instruction computes fits 64 bits
abbrev pub constant_fits : Act → Bool
constant_fits (act.Compute into (work.Constant z)) = fits z
constant_fits _ = true

-- one function's constants all fit 64 bits
abbrev pub constants_fit_in : List Instr → Bool
constants_fit_in is = list_all (λ i. constant_fits i.act) is

-- the constants of all these functions fit 64 bits
abbrev pub constants_fit_of : List Function → Bool
constants_fit_of fs = list_all (λ f. constants_fit_in f.instrs) fs

-- each constant fits 64 bits
abbrev pub constants_fit : Code → Bool
constants_fit code = constants_fit_of code.functions
