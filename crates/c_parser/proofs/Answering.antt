-- What the rules give for the tokens is what a parser is to answer.
use Rattle.std.proofs.Common.{◌≡◌, List, [], ◌∷◌, map, refl, sym, ◌∙◌, ap}
use Rattle.c_lexer.specs.declared.token.Kind.{Kind}
use Rattle.c_lexer.specs.declared.token.Token.{Token}
use Rattle.c_print.specs.Kinds.{kinds_of}
use Rattle.c_tree.specs.Tree.{Outer}
use Rattle.c_grammar.specs.Marks.{Lexeme, Mark, erase, kinds_at}
use Rattle.c_grammar.specs.Parse.{Fault, Got, Stuck}
use Rattle.c_grammar.specs.Exact.{parsed}
use Rattle.c_parse_rules.specs.Gives.{limit, lexemes}
use Rattle.c_parser.specs.Answers.{IsTreeOf, StopsAt}
use Rattle.c_grammar.proofs.Exactly.{parsed_exactly, says}
use Rattle.c_grammar.proofs.Prints.{prints}

-- what was read is a tree of the tokens
pub found : (ts : List Token) (os : List Outer) (rest : List Lexeme) → parsed limit (lexemes ts) ≡ Got os rest → IsTreeOf ts os
found ts os rest e = let s = says limit (lexemes ts) (Got os rest) e in (s.1, s.2, s.3, s.4)

-- there is no other
pub only : (ts : List Token) (os all : List Outer) (rest : List Lexeme) → parsed limit (lexemes ts) ≡ Got all rest → IsTreeOf ts os → all ≡ os
only ts os all rest e h =
    let is = (parsed_exactly limit (lexemes ts)).only os h.0 h.1 h.2 h.3 in let both = sym e ∙ is in cc

-- where reading stops there is no tree
pub none : {A : Type 0} (ts : List Token) (os : List Outer) (f : Fault) (rest : List Lexeme) → parsed limit (lexemes ts) ≡ Stuck f rest → IsTreeOf ts os → A
none ts os f rest e h =
    let is = (parsed_exactly limit (lexemes ts)).only os h.0 h.1 h.2 h.3 in let both = sym e ∙ is in cc

pub stops : (ts : List Token) (f : Fault) (rest : List Lexeme) → parsed limit (lexemes ts) ≡ Stuck f rest → StopsAt f rest ts
stops ts f rest e = let s = says limit (lexemes ts) (Stuck f rest) e in (s.0, s.1, s.2, s.3)

kinds_erased : (ms : List Mark) → map (λ (t : Lexeme). t.kind) (erase ms) ≡ kinds_at ms
kinds_erased [] = refl
kinds_erased (m ∷ ms) = ap (λ z. m.lexeme.kind ∷ z) (kinds_erased ms)

kinds_lexemes : (ts : List Token) → map (λ (t : Lexeme). t.kind) (lexemes ts) ≡ map (λ (t : Token). t.kind) ts
kinds_lexemes [] = refl
kinds_lexemes (t ∷ ts) = ap (λ z. t.kind ∷ z) (kinds_lexemes ts)

-- a tree of the tokens prints back to their kinds
pub printed : (ts : List Token) (os : List Outer) → IsTreeOf ts os → map (λ (t : Token). t.kind) ts ≡ kinds_of os
printed ts os h = sym (kinds_lexemes ts) ∙ ap (map (λ (t : Lexeme). t.kind)) h.3 ∙ kinds_erased h.0 ∙ prints os h.0 h.1
