-- What a reader of the code gives, on the tokens of the lexer.
use Rattle.std.specs.Prelude.{◌≡◌, ◌≤◌, ◌<◌, ℕ, length, Bool, true, false, List, Option, Some, None, Result, Ok, Err, map}
use Rattle.std.specs.Borrow.{Bor}
use Rattle.c_lexer.specs.declared.token.Token.{Token}
use Rattle.c_tree.specs.declared.name.Name.{Name as TreeName}
use Rattle.c_tree.specs.declared.declaration.Initial.{Initial}
use Rattle.rr_base.specs.declared.position.Position.{Position}
use Rattle.c_tree.specs.declared.param.Params.{Params}
use Rattle.c_tree.specs.Tree.{Formals}
use Rattle.c_tree.specs.View.{init_of, formals_of}
use Rattle.c_parse_rules.specs.declared.token.Stop.{Stop}
use Rattle.c_parse_rules.specs.declared.token.Stop.TheVariants as stop
use Rattle.c_grammar.specs.Marks.{Lexeme}
use Rattle.c_grammar.specs.Phrase.{Phrase, TreeOf, Initials, initials}
use Rattle.c_grammar.specs.Parse.{Class, Value, is_of, Rule, Syntax, Nesting, Outcome, Got, Stuck, token, passes, run}
use Rattle.c_grammar.specs.Rules.{read}

-- the levels of nesting that a source may have
abbrev pub limit : ℕ
limit = 256

-- the lexer's token without its span of bytes
abbrev pub lexeme_of : Token → Lexeme
lexeme_of t = record { kind = t.kind; place = t.at }

-- what the lexer found, as the grammar sees it
abbrev pub lexemes : List Token → List Lexeme
lexemes ts = map lexeme_of ts

-- a sign or a word tells nothing but its place
abbrev pub bare : Position → Unit {0} × Position
bare p = (tt, p)

-- a name as its class of tokens tells it: bytes and place
abbrev pub name_view : TreeName → List ℕ × Position
name_view n = (n.text, n.at)

-- the crate's initials, and whether a comma stands after the last
abbrev pub initials_of : List Initial × Bool → Initials
initials_of x = initials (map init_of x.0) x.1

-- a pointer to a function by its name and its parameters, as the rules have them
abbrev pub pointed_of : TreeName × Params → TreeName × Formals
pointed_of x = (x.0, formals_of x.1)

-- the same fault with the same tokens left, unless memory runs out
abbrev pub Stops : {B : Type 0} → Stop → Outcome B → Type 0
Stops stop.OutOfMemory o = Unit {0}
Stops (stop.Syntax rest) o = o ≡ Stuck Syntax (lexemes rest.now)
Stops (stop.Nesting rest) o = o ≡ Stuck Nesting (lexemes rest.now)

-- this outcome, unless memory runs out
abbrev pub Gives : {A B : Type 0} → (A → B) → Result (A × Bor (List Token)) Stop → Outcome B → Type 0
Gives view (Ok x) o = o ≡ Got (view x.0) (lexemes x.1.now)
Gives view (Err s) o = Stops s o

-- what the rule gives
abbrev pub Follows : {A B : Type 0} → Rule B → (A → B) → List Token → Result (A × Bor (List Token)) Stop → Type 0
Follows g view ts r = Gives view r (run limit (read limit) g (lexemes ts))

-- what is read of a phrase
abbrev pub Reads : {A : Type 0} (n : Phrase) → (A → TreeOf n) → List Token → Result (A × Bor (List Token)) Stop → Type 0
Reads n view ts r = Gives view r (read limit n (lexemes ts))

-- the one token of the class, which stands at level l
abbrev pub Takes : {A : Type 0} (c : Class) → ℕ → (A → Value c × Position) → List Token → Result (A × Bor (List Token)) Stop → Type 0
Takes c l view ts r = Gives view r (token limit c l (lexemes ts))

-- the same where the next token is of the class
abbrev pub MayTake : {A : Type 0} (c : Class) → ℕ → (A → Value c × Position) → List Token → Result (Option (A × Bor (List Token))) Stop → Type 0
MayTake c l view ts (Ok None) = passes (is_of c) (lexemes ts) ≡ false
MayTake c l view ts (Ok (Some x)) = (passes (is_of c) (lexemes ts) ≡ true) × (token limit c l (lexemes ts) ≡ Got (view x.0) (lexemes x.1.now)) × (l ≤ limit) × (length x.1.now < length ts)
MayTake c l view ts (Err s) = (passes (is_of c) (lexemes ts) ≡ true) × Stops s (token limit c l (lexemes ts))
