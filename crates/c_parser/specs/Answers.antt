-- What a parser answers for the tokens of a source.
use Rattle.std.specs.Prelude.{◌≡◌, ◌+◌, ◌-◌, Bool, true, false, List, [], ◌∷◌, ◌++◌, length, slice_get, Option, Some, None, Result, Ok, Err}
use Rattle.c_lexer.specs.declared.token.Kind.{Kind}
use Rattle.c_lexer.specs.declared.token.Kind.TheVariants as kind
use Rattle.c_lexer.specs.declared.token.Token.{Token}
use Rattle.c_tree.specs.declared.program.Program.{Program}
use Rattle.c_tree.specs.Tree.{Outer}
use Rattle.rr_base.specs.declared.position.Position.{Position}
use Rattle.rr_base.specs.Positions.{position_at}
use Rattle.c_tree.specs.View.{program_of}
use Rattle.c_parser.specs.declared.fault.ParseFault.{ParseFault}
use Rattle.c_parser.specs.declared.fault.ParseFault.TheVariants as faults
use Rattle.c_grammar.specs.Marks.{Lexeme, Mark, erase, AllLow}
use Rattle.c_grammar.specs.Parse.{Fault, Syntax, Nesting, Outcome, Got, Stuck}
use Rattle.c_grammar.specs.Exact.{IsProgram, IsFaultOf}
use Rattle.c_parse_rules.specs.Gives.{limit, lexemes}

-- these are the tokens of the tree, each within the limit
abbrev pub IsTreeOf : List Token → List Outer → Type 0
IsTreeOf ts os = (ms : List Mark) × IsProgram os ms × AllLow limit ms × (lexemes ts ≡ erase ms)

-- the tree is found, unless memory runs out
abbrev pub Finds : Result Program ParseFault → List Outer → Type 0
Finds (Ok p) os = program_of p ≡ os
Finds (Err faults.OutOfMemory) os = Unit {0}
Finds (Err (faults.Syntax at)) os = ⊥
Finds (Err (faults.Nesting at)) os = ⊥
Finds (Err (faults.OutOfProfile at)) os = ⊥

-- ---- faults

-- a word of C that the profile refuses
abbrev pub is_refused : Kind → Bool
is_refused (kind.Refused word) = true
is_refused _ = false

-- the next token is a word that the profile refuses
abbrev pub begins_refused : List Lexeme → Bool
begins_refused [] = false
begins_refused (t ∷ ts) = is_refused t.kind

-- the byte after this token
abbrev pub place_after : Option Token → Position
place_after None = position_at 1 1
place_after (Some t) = position_at t.at.line (t.at.column + (t.end - t.start))

-- the byte after the last token
abbrev pub end_of : List Token → Position
end_of ts = place_after (slice_get ts (length ts - 1))

-- the first of the rest, or the end of the tokens where none is left
abbrev pub stands_at : List Lexeme → List Token → Position
stands_at [] ts = end_of ts
stands_at (t ∷ rest) ts = t.place

-- What stands before the rest begins a program, each token within the limit. The next token is none that goes on with
-- one, or stands above the limit there.
abbrev pub StopsAt : Fault → List Lexeme → List Token → Type 0
StopsAt f rest ts = (front : List Mark) × AllLow limit front × (lexemes ts ≡ erase front ++ rest) × IsFaultOf limit f front rest

-- the fault that is answered is the source's first, unless memory runs out
abbrev pub IsFault : ParseFault → List Token → Type 0
IsFault (faults.Syntax at) ts = (rest : List Lexeme) × StopsAt Syntax rest ts × (begins_refused rest ≡ false) × (at ≡ stands_at rest ts)
IsFault (faults.OutOfProfile at) ts = (rest : List Lexeme) × StopsAt Syntax rest ts × (begins_refused rest ≡ true) × (at ≡ stands_at rest ts)
IsFault (faults.Nesting at) ts = (rest : List Lexeme) × StopsAt Nesting rest ts × (at ≡ stands_at rest ts)
IsFault faults.OutOfMemory ts = Unit {0}

-- ---- what the rules find

-- the call answers what the rules find in the tokens, unless memory runs out
abbrev pub Tells : Result Program ParseFault → Outcome (List Outer) → List Token → Type 0
Tells (Ok p) o ts = (rest : List Lexeme) × (o ≡ Got (program_of p) rest)
Tells (Err (faults.Syntax at)) o ts = (rest : List Lexeme) × (o ≡ Stuck Syntax rest) × (begins_refused rest ≡ false) × (at ≡ stands_at rest ts)
Tells (Err (faults.OutOfProfile at)) o ts = (rest : List Lexeme) × (o ≡ Stuck Syntax rest) × (begins_refused rest ≡ true) × (at ≡ stands_at rest ts)
Tells (Err (faults.Nesting at)) o ts = (rest : List Lexeme) × (o ≡ Stuck Nesting rest) × (at ≡ stands_at rest ts)
Tells (Err faults.OutOfMemory) o ts = Unit {0}
