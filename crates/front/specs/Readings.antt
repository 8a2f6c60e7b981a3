-- What reading a source comes to: its tree, which has no fault, or the first fault of its tokens, of its grammar or of
-- its types.
use Rattle.std.specs.Prelude.{◌≡◌, ℕ, if◌then◌else◌, List, Option, Some, None, Result, Ok, Err}
use Rattle.std.specs.Option.{option_map}
use Rattle.rr_base.specs.Texts.{Text}
use Rattle.c_lexer.specs.declared.fault.LexFault.{LexFault}
use Rattle.c_lexer.specs.Faults as lex
use Rattle.c_lexer.specs.declared.token.Token.{Token}
use Rattle.c_lexer.specs.Tokens.{tokens_of}
use Rattle.c_tree.specs.Tree.{Outer}
use Rattle.rr_base.specs.declared.position.Position.{Position}
use Rattle.c_parser.specs.declared.fault.ParseFault.{ParseFault}
use Rattle.c_parser.specs.Faults as grammar
use Rattle.c_parser.specs.Answers.{begins_refused, stands_at}
use Rattle.c_grammar.specs.Exact.{parsed}
use Rattle.c_parse_rules.specs.Gives.{limit, lexemes}
use Rattle.c_grammar.specs.Marks.{Lexeme}
use Rattle.c_grammar.specs.Parse.{Fault, Syntax, Nesting, Outcome, Got, Stuck, Spent}
use Rattle.c_types.specs.declared.fault.Found.{Found}
use Rattle.c_types.specs.Found as types
use Rattle.c_sites.specs.Whole.{first_fault}
use Rattle.front.specs.declared.reading.CompileFault.{CompileFault}
use Rattle.front.specs.declared.reading.CompileFault.TheVariants as faults
use Rattle.front.specs.declared.reading.SourceFault.{SourceFault}

-- what is read from a text: its tree, or the fault that refuses it
pub data Reading : Type 0 where
  -- a tree without a fault
  sound : List Outer → Reading
  refused : SourceFault → Reading

-- by the number of the fault, and its line and column
abbrev pub refused_at : ℕ → Position → Reading
refused_at number at = refused (record { number = number; at = at })

-- the fault of this number at this place, where it has both
abbrev pub fault_at : Option ℕ → Option Position → Option SourceFault
fault_at None at = None
fault_at (Some number) None = None
fault_at (Some number) (Some at) = Some (record { number = number; at = at })

-- ---- types

-- a tree is sound if no rule of types is broken
abbrev pub by_first_fault : List Outer → Option Found → Reading
by_first_fault os None = sound os
by_first_fault os (Some x) = refused_at (types.number_of x.fault) x.at

-- ---- the grammar

-- 8: nested too deep; 20: C that isn't taken; 7: any other
abbrev pub fault_number : Fault → List Lexeme → ℕ
fault_number Nesting rest = 8
fault_number Syntax rest = if begins_refused rest then 20 else 7

-- the one tree of the tokens, or the first token that fits none
abbrev pub IsByTree : List Token → Outcome (List Outer) → Reading → Type 0
IsByTree tokens (Got os rest) r = r ≡ by_first_fault os (first_fault os)
IsByTree tokens (Stuck fault rest) r = r ≡ refused_at (fault_number fault rest) (stands_at rest tokens)
IsByTree tokens Spent r = ⊥

-- what is told of a fault of the grammar; nothing of `OutOfMemory`
abbrev pub told_of : ParseFault → Option SourceFault
told_of f = fault_at (grammar.number_of f) (grammar.place_of f)

-- ---- tokens

-- the number of a fault in a text, with its place
abbrev pub refusal_of : LexFault → Option SourceFault
refusal_of f = fault_at (lex.number_of f) (lex.place_of f)

-- a fault of the tokens is told before any of the grammar
abbrev pub IsByTokens : Result (List Token) LexFault → Reading → Type 0
IsByTokens (Ok tokens) r = IsByTree tokens (parsed limit (lexemes tokens)) r
IsByTokens (Err fault) r = option_map refused (refusal_of fault) ≡ Some r

-- what the text is read as: each text has one reading
abbrev pub IsReading : Text → Reading → Type 0
IsReading text r = IsByTokens (tokens_of text) r

-- ---- what a call answers

-- `OutOfMemory`, or what is read refuses the source for this
abbrev pub IsRefusedBy : (Reading → Type 0) → CompileFault → Type 0
IsRefusedBy Reads faults.OutOfMemory = Unit {0}
IsRefusedBy Reads (faults.Source fault) = Reads (refused fault)

-- why a compilation of the text may have failed
abbrev pub IsRefusedFor : Text → CompileFault → Type 0
IsRefusedFor text f = IsRefusedBy (IsReading text) f

-- without a fault to tell it is `OutOfMemory`
abbrev pub compile_fault : Option SourceFault → CompileFault
compile_fault None = faults.OutOfMemory
compile_fault (Some fault) = faults.Source fault

-- a text has one reading
abbrev pub OneReading : Type 0
OneReading = (text : Text) (r s : Reading) → IsReading text r → IsReading text s → r ≡ s
