-- That a reader goes by the rules. The attributes of the readers name this file, so it has no more.
use Rattle.std.proofs.Common.{◌≡◌, ℕ, Bool, List}
use Rattle.c_lexer.specs.declared.token.Punct.{Punct}
use Rattle.c_tree.specs.declared.ctype.Specifier.{Specifier}
use Rattle.c_tree.specs.Tree.{Exp, Formal, Declared, Init, Object, Part, Fields, Outer}
use Rattle.rr_base.specs.declared.position.Position.{Position}
use Rattle.c_grammar.specs.Marks.{Lexeme}
use Rattle.c_grammar.specs.Phrase.{Phrase}
use Rattle.c_grammar.specs.Phrase as phrase
use Rattle.c_grammar.specs.Parse.{run}
use Rattle.c_grammar.specs.Rules.{rules, read}
use Rattle.c_grammar.proofs.Enough.{read_is}

-- what is read of a phrase is what its rule gives
pub by_rule : (n : Phrase) (ts : List Lexeme) → read 256 n ts ≡ run 256 (read 256) (rules n) ts
by_rule n ts = read_is 256 n ts

-- ---- the same for each phrase: with one of these a tactic unfolds no other phrase

pub specifier_rules : (l : ℕ) (ts : List Lexeme) → read 256 (phrase.specifier l) ts ≡ run 256 (read 256) (rules (phrase.specifier l)) ts
specifier_rules l ts = by_rule (phrase.specifier l) ts

pub stars_rules : (l : ℕ) (n : ℕ) (ts : List Lexeme) → read 256 (phrase.stars l n) ts ≡ run 256 (read 256) (rules (phrase.stars l n)) ts
stars_rules l n ts = by_rule (phrase.stars l n) ts

pub type_name_rules : (l : ℕ) (ts : List Lexeme) → read 256 (phrase.type_name l) ts ≡ run 256 (read 256) (rules (phrase.type_name l)) ts
type_name_rules l ts = by_rule (phrase.type_name l) ts

pub expression_rules : (l : ℕ) (ts : List Lexeme) → read 256 (phrase.expression l) ts ≡ run 256 (read 256) (rules (phrase.expression l)) ts
expression_rules l ts = by_rule (phrase.expression l) ts

pub more_rules : (l : ℕ) (es : List Exp) (ts : List Lexeme) → read 256 (phrase.more l es) ts ≡ run 256 (read 256) (rules (phrase.more l es)) ts
more_rules l es ts = by_rule (phrase.more l es) ts

pub assignment_rules : (l : ℕ) (ts : List Lexeme) → read 256 (phrase.assignment l) ts ≡ run 256 (read 256) (rules (phrase.assignment l)) ts
assignment_rules l ts = by_rule (phrase.assignment l) ts

pub conditional_part_rules : (l : ℕ) (ts : List Lexeme) → read 256 (phrase.conditional_part l) ts ≡ run 256 (read 256) (rules (phrase.conditional_part l)) ts
conditional_part_rules l ts = by_rule (phrase.conditional_part l) ts

pub operands_rules : (l : ℕ) (ts : List Lexeme) → read 256 (phrase.operands l) ts ≡ run 256 (read 256) (rules (phrase.operands l)) ts
operands_rules l ts = by_rule (phrase.operands l) ts

pub chain_rules : (l : ℕ) (e : Exp) (ts : List Lexeme) → read 256 (phrase.chain l e) ts ≡ run 256 (read 256) (rules (phrase.chain l e)) ts
chain_rules l e ts = by_rule (phrase.chain l e) ts

pub unary_rules : (l : ℕ) (ts : List Lexeme) → read 256 (phrase.unary l) ts ≡ run 256 (read 256) (rules (phrase.unary l)) ts
unary_rules l ts = by_rule (phrase.unary l) ts

pub unary_plain_rules : (l : ℕ) (ts : List Lexeme) → read 256 (phrase.unary_plain l) ts ≡ run 256 (read 256) (rules (phrase.unary_plain l)) ts
unary_plain_rules l ts = by_rule (phrase.unary_plain l) ts

pub opened_rules : (l : ℕ) (at : Position) (ts : List Lexeme) → read 256 (phrase.opened l at) ts ≡ run 256 (read 256) (rules (phrase.opened l at)) ts
opened_rules l at ts = by_rule (phrase.opened l at) ts

pub enclosed_rules : (l : ℕ) (at : Position) (ts : List Lexeme) → read 256 (phrase.enclosed l at) ts ≡ run 256 (read 256) (rules (phrase.enclosed l at)) ts
enclosed_rules l at ts = by_rule (phrase.enclosed l at) ts

pub atom_rules : (l : ℕ) (ts : List Lexeme) → read 256 (phrase.atom l) ts ≡ run 256 (read 256) (rules (phrase.atom l)) ts
atom_rules l ts = by_rule (phrase.atom l) ts

pub postfix_rules : (l : ℕ) (e : Exp) (ts : List Lexeme) → read 256 (phrase.postfix l e) ts ≡ run 256 (read 256) (rules (phrase.postfix l e)) ts
postfix_rules l e ts = by_rule (phrase.postfix l e) ts

pub arguments_rules : (l : ℕ) (ts : List Lexeme) → read 256 (phrase.arguments l) ts ≡ run 256 (read 256) (rules (phrase.arguments l)) ts
arguments_rules l ts = by_rule (phrase.arguments l) ts

pub maybe_expression_rules : (l : ℕ) (stop : Punct) (ts : List Lexeme) → read 256 (phrase.maybe_expression l stop) ts ≡ run 256 (read 256) (rules (phrase.maybe_expression l stop)) ts
maybe_expression_rules l stop ts = by_rule (phrase.maybe_expression l stop) ts

pub pointer_rules : (l : ℕ) (ts : List Lexeme) → read 256 (phrase.pointer l) ts ≡ run 256 (read 256) (rules (phrase.pointer l)) ts
pointer_rules l ts = by_rule (phrase.pointer l) ts

pub declarator_rules : (l : ℕ) (ts : List Lexeme) → read 256 (phrase.declarator l) ts ≡ run 256 (read 256) (rules (phrase.declarator l)) ts
declarator_rules l ts = by_rule (phrase.declarator l) ts

pub lengths_rules : (l : ℕ) (es : List Exp) (ts : List Lexeme) → read 256 (phrase.lengths l es) ts ≡ run 256 (read 256) (rules (phrase.lengths l es)) ts
lengths_rules l es ts = by_rule (phrase.lengths l es) ts

pub initial_rules : (l : ℕ) (ts : List Lexeme) → read 256 (phrase.initial l) ts ≡ run 256 (read 256) (rules (phrase.initial l)) ts
initial_rules l ts = by_rule (phrase.initial l) ts

pub more_initials_rules : (l : ℕ) (is : List Init) (ts : List Lexeme) → read 256 (phrase.more_initials l is) ts ≡ run 256 (read 256) (rules (phrase.more_initials l is)) ts
more_initials_rules l is ts = by_rule (phrase.more_initials l is) ts

pub object_rules : (l : ℕ) (ts : List Lexeme) → read 256 (phrase.object l) ts ≡ run 256 (read 256) (rules (phrase.object l)) ts
object_rules l ts = by_rule (phrase.object l) ts

pub object_after_rules : (l : ℕ) (d : Declared) (ts : List Lexeme) → read 256 (phrase.object_past l d) ts ≡ run 256 (read 256) (rules (phrase.object_past l d)) ts
object_after_rules l d ts = by_rule (phrase.object_past l d) ts

pub more_objects_rules : (l : ℕ) (os : List Object) (ts : List Lexeme) → read 256 (phrase.more_objects l os) ts ≡ run 256 (read 256) (rules (phrase.more_objects l os)) ts
more_objects_rules l os ts = by_rule (phrase.more_objects l os) ts

pub declaration_rules : (l : ℕ) (ts : List Lexeme) → read 256 (phrase.declaration l) ts ≡ run 256 (read 256) (rules (phrase.declaration l)) ts
declaration_rules l ts = by_rule (phrase.declaration l) ts

pub start_rules : (l : ℕ) (ts : List Lexeme) → read 256 (phrase.start l) ts ≡ run 256 (read 256) (rules (phrase.start l)) ts
start_rules l ts = by_rule (phrase.start l) ts

pub statement_rules : (l : ℕ) (ts : List Lexeme) → read 256 (phrase.statement l) ts ≡ run 256 (read 256) (rules (phrase.statement l)) ts
statement_rules l ts = by_rule (phrase.statement l) ts

pub parts_rules : (l : ℕ) (ps : List Part) (ts : List Lexeme) → read 256 (phrase.parts l ps) ts ≡ run 256 (read 256) (rules (phrase.parts l ps)) ts
parts_rules l ps ts = by_rule (phrase.parts l ps) ts

pub param_rules : (l : ℕ) (ts : List Lexeme) → read 256 (phrase.param l) ts ≡ run 256 (read 256) (rules (phrase.param l)) ts
param_rules l ts = by_rule (phrase.param l) ts

pub param_after_rules : (l : ℕ) (s : Specifier) (ts : List Lexeme) → read 256 (phrase.param_after l s) ts ≡ run 256 (read 256) (rules (phrase.param_after l s)) ts
param_after_rules l s ts = by_rule (phrase.param_after l s) ts

pub more_params_rules : (l : ℕ) (xs : List Formal) (ts : List Lexeme) → read 256 (phrase.more_params l xs) ts ≡ run 256 (read 256) (rules (phrase.more_params l xs)) ts
more_params_rules l xs ts = by_rule (phrase.more_params l xs) ts

pub params_rules : (l : ℕ) (ts : List Lexeme) → read 256 (phrase.params l) ts ≡ run 256 (read 256) (rules (phrase.params l)) ts
params_rules l ts = by_rule (phrase.params l) ts

pub code_rules : (ts : List Lexeme) → read 256 phrase.code ts ≡ run 256 (read 256) (rules phrase.code) ts
code_rules ts = by_rule phrase.code ts

pub more_declared_rules : (ds : List Declared) (ts : List Lexeme) → read 256 (phrase.more_declared ds) ts ≡ run 256 (read 256) (rules (phrase.more_declared ds)) ts
more_declared_rules ds ts = by_rule (phrase.more_declared ds) ts

pub member_rules : (ts : List Lexeme) → read 256 phrase.member ts ≡ run 256 (read 256) (rules phrase.member) ts
member_rules ts = by_rule phrase.member ts

pub more_members_rules : (fs : List Fields) (ts : List Lexeme) → read 256 (phrase.more_members fs) ts ≡ run 256 (read 256) (rules (phrase.more_members fs)) ts
more_members_rules fs ts = by_rule (phrase.more_members fs) ts

pub outer_rules : (ts : List Lexeme) → read 256 phrase.outer ts ≡ run 256 (read 256) (rules phrase.outer) ts
outer_rules ts = by_rule phrase.outer ts

pub outer_after_rules : (is_static : Bool) (s : Specifier) (at : Position) (ts : List Lexeme) → read 256 (phrase.outer_after is_static s at) ts ≡ run 256 (read 256) (rules (phrase.outer_after is_static s at)) ts
outer_after_rules is_static s at ts = by_rule (phrase.outer_after is_static s at) ts

pub program_rules : (os : List Outer) (ts : List Lexeme) → read 256 (phrase.program os) ts ≡ run 256 (read 256) (rules (phrase.program os)) ts
program_rules os ts = by_rule (phrase.program os) ts
