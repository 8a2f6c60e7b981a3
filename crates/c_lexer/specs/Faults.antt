-- The faults of a text: where each stands, and its number.
use Rattle.std.specs.Prelude.{ℕ, Option, Some, None}
use Rattle.rr_base.specs.declared.position.Position.{Position}
use Rattle.c_lexer.specs.declared.fault.Fault.{Fault}
use Rattle.c_lexer.specs.declared.fault.Fault.TheVariants as fault
use Rattle.c_lexer.specs.declared.fault.LexFault.{LexFault}
use Rattle.c_lexer.specs.declared.fault.LexFault.TheVariants as lex

-- the fault of a piece, once the place in the source is known
abbrev pub fault_at : Fault → Position → LexFault
fault_at fault.BadByte at = lex.BadByte at
fault_at fault.OpenComment at = lex.OpenComment at
fault_at fault.OpenText at = lex.OpenText at
fault_at fault.BadEscape at = lex.BadEscape at
fault_at fault.WideNumber at = lex.WideNumber at
fault_at fault.BadDirective at = lex.BadDirective at

-- the number that messages give, from 1 to 6; `OutOfMemory` has none
abbrev pub number_of : LexFault → Option ℕ
number_of (lex.BadByte at) = Some 1
number_of (lex.OpenComment at) = Some 2
number_of (lex.OpenText at) = Some 3
number_of (lex.BadEscape at) = Some 4
number_of (lex.WideNumber at) = Some 5
number_of (lex.BadDirective at) = Some 6
number_of lex.OutOfMemory = None

-- where the source breaks a rule; `OutOfMemory` stands nowhere
abbrev pub place_of : LexFault → Option Position
place_of (lex.BadByte at) = Some at
place_of (lex.OpenComment at) = Some at
place_of (lex.OpenText at) = Some at
place_of (lex.BadEscape at) = Some at
place_of (lex.WideNumber at) = Some at
place_of (lex.BadDirective at) = Some at
place_of lex.OutOfMemory = None
