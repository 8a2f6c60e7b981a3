-- The rule of each phrase, and the parser that runs them.
use Rattle.std.specs.Prelude.{ℕ, zero, suc, ◌+◌, ◌*◌, nat_lt, Bool, true, false, if◌then◌else◌, List, [], ◌∷◌, ◌++◌, length, Option, Some, None}
use Rattle.c_lexer.specs.declared.token.Punct.{Punct}
use Rattle.c_lexer.specs.declared.token.Punct.TheVariants as punct
use Rattle.c_lexer.specs.declared.token.Word.{Word}
use Rattle.c_lexer.specs.declared.token.Word.TheVariants as word
use Rattle.c_tree.specs.declared.name.Name.{Name}
use Rattle.c_tree.specs.declared.ctype.Specifier.{Specifier}
use Rattle.c_tree.specs.declared.ctype.Specifier.TheVariants as specifiers
use Rattle.c_tree.specs.declared.expr.BinaryOp.{BinaryOp}
use Rattle.c_tree.specs.Tree.{Exp, comma, assign, conditional, binary, prefix, sizeof_exp, sizeof_type, cast, index, member, arrow, post_increment, post_decrement, named, call, number, letter, text, null, paren, listed, Formal, formal, formal_pointer, Formals, no_formals, void_formals, listed_formals, listed_row, Declared, declared, declared_pointer, Init, value, braces, mutex_start, cond_start, rwlock_start, listed_inits, Object, plain, initialised, Declares, declares, Start, start_declares, start_computes, Statement, block, compute, break_at, continue_at, gives, branch, branch_else, while_loop, do_loop, for_loop, Part, part_declares, part_does, listed_parts, Code, defined, prototype, Fields, fields, Outer, structure, function, objects}
use Rattle.rr_base.specs.declared.position.Position.{Position}
use Rattle.c_grammar.specs.Grammar.{specifier_place, tightness, first_place, ends_open, is_void_alone}
use Rattle.c_grammar.specs.Phrase as phrase
use Rattle.c_grammar.specs.Phrase.{Phrase, TreeOf, Head, function_head, object_head, pointer_head, Front, object_front, pointer_front, Initials, initials}
use Rattle.c_grammar.specs.Parse.{sign, key, a_name, a_number, a_letter, a_text, a_prefix, a_binary, an_assign, is_of, is_type, Rule, ret, one, heads, fronts, choose, Spent, Parser, run}
use Rattle.c_grammar.specs.Parse as rule

-- ---- short forms

-- this sign at this level, and then what its place leads to
abbrev pub punct_rule : {A : Type 0} → Punct → ℕ → (Position → Rule A) → Rule A
punct_rule x l f = one (sign x) l (λ _ place. f place)

-- the same for a word of the language
abbrev pub word_rule : {A : Type 0} → Word → ℕ → (Position → Rule A) → Rule A
word_rule x l f = one (key x) l (λ _ place. f place)

-- by the next token
abbrev pub on_punct : {A : Type 0} → Punct → Rule A → Rule A → Rule A
on_punct x g h = choose (is_of (sign x)) g h

-- the first rule if this word is next, else the second
abbrev pub on_word : {A : Type 0} → Word → Rule A → Rule A → Rule A
on_word x g h = choose (is_of (key x)) g h

-- a name by its bytes and its place
abbrev pub name_of : List ℕ → Position → Name
name_of x place = record { text = x; at = place }

-- One operator and operand more. An operator that binds tighter than the last one takes that one's operand.
abbrev pub push : Exp → BinaryOp → Exp → Position → Exp
push (binary a last b place) op e at = if nat_lt (tightness last) (tightness op) then binary a last (push b op e at) place else binary (binary a last b place) op e at
push left op e at = binary left op e at

-- ---- types

-- after the first `long`
abbrev pub long_rule : ℕ → Position → Rule Specifier
long_rule l at =
    on_word word.Long
    (word_rule word.Long l (λ _. on_word word.Int (word_rule word.Int l (λ _. ret (specifiers.Long true true at))) (ret (specifiers.Long true false at))))
    (on_word word.Int (word_rule word.Int l (λ _. ret (specifiers.Long false true at))) (ret (specifiers.Long false false at)))

-- a type specifier (C99 6.7.2), all of it at level l
abbrev pub specifier_rule : ℕ → Rule Specifier
specifier_rule l =
    on_word word.Int (word_rule word.Int l (λ at. ret (specifiers.Int at)))
    (on_word word.Long (word_rule word.Long l (λ at. long_rule l at))
    (on_word word.Void (word_rule word.Void l (λ at. ret (specifiers.Void at)))
    (on_word word.Struct (word_rule word.Struct l (λ at. one a_name l (λ x there. ret (specifiers.Struct (name_of x there) at))))
    (on_word word.PthreadT (word_rule word.PthreadT l (λ at. ret (specifiers.PthreadT at)))
    (on_word word.PthreadMutexT (word_rule word.PthreadMutexT l (λ at. ret (specifiers.PthreadMutexT at)))
    (on_word word.PthreadCondT (word_rule word.PthreadCondT l (λ at. ret (specifiers.PthreadCondT at)))
    (on_word word.PthreadBarrierT (word_rule word.PthreadBarrierT l (λ at. ret (specifiers.PthreadBarrierT at)))
    (word_rule word.PthreadRwlockT l (λ at. ret (specifiers.PthreadRwlockT at))))))))))

-- stars that raise no level, where n were read before
abbrev pub stars_rule : ℕ → ℕ → Rule ℕ
stars_rule l n = on_punct punct.Star (punct_rule punct.Star l (λ _. rule.call (phrase.stars l (suc n)) (λ k. ret k))) (ret n)

-- ---- expressions

-- an expression, with the comma operator (C99 6.5.17)
abbrev pub expression_rule : ℕ → Rule Exp
expression_rule l =
    rule.call (phrase.assignment l) (λ e.
    on_punct punct.Comma
    (punct_rule punct.Comma l (λ _. rule.call (phrase.assignment l) (λ x. rule.call (phrase.more l (x ∷ [])) (λ es. ret (comma e (listed es) (first_place e))))))
    (ret e))

-- further expressions after commas, where some were read before
abbrev pub more_rule : ℕ → List Exp → Rule (List Exp)
more_rule l es = on_punct punct.Comma (punct_rule punct.Comma l (λ _. rule.call (phrase.assignment l) (λ e. rule.call (phrase.more l (es ++ e ∷ [])) (λ all. ret all)))) (ret es)

-- an assignment, which groups to the right (C99 6.5.16)
abbrev pub assignment_rule : ℕ → Rule Exp
assignment_rule l =
    rule.call (phrase.conditional_part l) (λ a.
    choose (is_of an_assign) (one an_assign (suc (suc l)) (λ op at. rule.call (phrase.assignment (suc (suc l))) (λ b. ret (assign a op b at)))) (ret a))

-- a conditional, or an operand of one (C99 6.5.15)
abbrev pub conditional_rule : ℕ → Rule Exp
conditional_rule l =
    rule.call (phrase.operands l) (λ a.
    on_punct punct.Question
    (punct_rule punct.Question (suc (suc l)) (λ at.
    rule.call (phrase.expression (suc (suc l))) (λ b. punct_rule punct.Colon (suc (suc l)) (λ _. rule.call (phrase.conditional_part (suc l)) (λ c. ret (conditional a b c at))))))
    (ret a))

-- further binary operators and operands, each one level deeper
abbrev pub chain_rule : ℕ → Exp → Rule Exp
chain_rule l left =
    choose (is_of a_binary)
    (one a_binary (suc (suc l)) (λ op at. rule.call (phrase.unary (suc l)) (λ e. rule.call (phrase.chain (suc l) (push left op e at)) (λ all. ret all))))
    (ret left)

-- a unary expression or a cast (C99 6.5.3, 6.5.4)
abbrev pub unary_rule : ℕ → Rule Exp
unary_rule l = on_punct punct.OpenParen (punct_rule punct.OpenParen (suc l) (λ at. rule.call (phrase.opened l at) (λ e. ret e))) (rule.call (phrase.unary_plain l) (λ e. ret e))

-- after the word, which stands one level above l
abbrev pub sizeof_rule : ℕ → Position → Rule Exp
sizeof_rule l at =
    on_punct punct.OpenParen
    (punct_rule punct.OpenParen (suc (suc l)) (λ there.
    choose is_type
    (rule.call (phrase.type_name (suc (suc l))) (λ t. punct_rule punct.CloseParen (suc (suc l)) (λ _. ret (sizeof_type t at))))
    (rule.call (phrase.enclosed (suc l) there) (λ e. ret (sizeof_exp e at)))))
    (rule.call (phrase.unary_plain (suc l)) (λ e. ret (sizeof_exp e at)))

-- a unary expression whose first token is no parenthesis
abbrev pub unary_plain_rule : ℕ → Rule Exp
unary_plain_rule l =
    choose (is_of a_prefix) (one a_prefix (suc l) (λ op at. rule.call (phrase.unary (suc l)) (λ e. ret (prefix op e at))))
    (on_word word.Sizeof (word_rule word.Sizeof (suc l) (λ at. sizeof_rule l at))
    (rule.call (phrase.atom l) (λ e. rule.call (phrase.postfix l e) (λ all. ret all))))

-- past a parenthesis: a type makes it a cast (C99 6.5.4)
abbrev pub opened_rule : ℕ → Position → Rule Exp
opened_rule l at =
    choose is_type
    (rule.call (phrase.type_name (suc l)) (λ t. punct_rule punct.CloseParen (suc l) (λ _. rule.call (phrase.unary (suc l)) (λ e. ret (cast t e at)))))
    (rule.call (phrase.enclosed l at) (λ e. ret e))

-- past a parenthesis that holds an expression, with postfix operators after it
abbrev pub enclosed_rule : ℕ → Position → Rule Exp
enclosed_rule l at = rule.call (phrase.expression (suc l)) (λ e. punct_rule punct.CloseParen (suc l) (λ _. rule.call (phrase.postfix l (paren e at)) (λ all. ret all)))

-- a name, a call, a constant, a text or `NULL` (C99 6.5.1)
abbrev pub atom_rule : ℕ → Rule Exp
atom_rule l =
    choose (is_of a_name)
    (one a_name (suc l) (λ x at.
    on_punct punct.OpenParen (punct_rule punct.OpenParen (suc l) (λ _. rule.call (phrase.arguments (suc l)) (λ es. ret (call x (listed es) at)))) (ret (named x at))))
    (choose (is_of a_number) (one a_number (suc l) (λ n at. ret (number n at)))
    (choose (is_of a_letter) (one a_letter (suc l) (λ n at. ret (letter n at)))
    (choose (is_of a_text) (one a_text (suc l) (λ x at. ret (text x at)))
    (word_rule word.Null (suc l) (λ at. ret (null at))))))

-- further postfix operators after this operand, each one level deeper (C99 6.5.2)
abbrev pub postfix_rule : ℕ → Exp → Rule Exp
postfix_rule l a =
    on_punct punct.OpenBracket
    (punct_rule punct.OpenBracket (suc (suc l)) (λ at.
    rule.call (phrase.expression (suc (suc l))) (λ b. punct_rule punct.CloseBracket (suc (suc l)) (λ _. rule.call (phrase.postfix (suc l) (index a b at)) (λ all. ret all)))))
    (on_punct punct.Dot (punct_rule punct.Dot (suc (suc l)) (λ at. one a_name (suc (suc l)) (λ x there. rule.call (phrase.postfix (suc l) (member a (name_of x there) at)) (λ all. ret all))))
    (on_punct punct.Arrow (punct_rule punct.Arrow (suc (suc l)) (λ at. one a_name (suc (suc l)) (λ x there. rule.call (phrase.postfix (suc l) (arrow a (name_of x there) at)) (λ all. ret all))))
    (on_punct punct.PlusPlus (punct_rule punct.PlusPlus (suc (suc l)) (λ at. rule.call (phrase.postfix (suc l) (post_increment a at)) (λ all. ret all)))
    (on_punct punct.MinusMinus (punct_rule punct.MinusMinus (suc (suc l)) (λ at. rule.call (phrase.postfix (suc l) (post_decrement a at)) (λ all. ret all)))
    (ret a)))))

-- the arguments of a call, with the parenthesis after them (C99 6.5.2.2)
abbrev pub arguments_rule : ℕ → Rule (List Exp)
arguments_rule l =
    on_punct punct.CloseParen (punct_rule punct.CloseParen l (λ _. ret []))
    (rule.call (phrase.assignment l) (λ e. rule.call (phrase.more l (e ∷ [])) (λ es. punct_rule punct.CloseParen l (λ _. ret es))))

-- an expression, or none where `stop` is next, which stays unread
abbrev pub maybe_rule : ℕ → Punct → Rule (Option Exp)
maybe_rule l stop = on_punct stop (ret None) (rule.call (phrase.expression l) (λ e. ret (Some e)))

-- ---- parameters

-- one of them (C99 6.7.5.3)
abbrev pub param_rule : ℕ → Rule Formal
param_rule l = rule.call (phrase.specifier l) (λ s. rule.call (phrase.param_after l s) (λ x. ret x))

-- past the specifier of a parameter: stars, and a pointer to a function, a name or nothing
abbrev pub param_after_rule : ℕ → Specifier → Rule Formal
param_after_rule l s =
    rule.call (phrase.stars l 0) (λ n.
    on_punct punct.OpenParen (punct_rule punct.OpenParen l (λ _. rule.call (phrase.pointer l) (λ x. ret (formal_pointer s n x.0 x.1 (specifier_place s)))))
    (choose (is_of a_name) (one a_name l (λ x at. ret (formal s n (Some (name_of x at)) (specifier_place s))))
    (ret (formal s n None (specifier_place s)))))

-- further parameters after commas, where some were read before
abbrev pub more_params_rule : ℕ → List Formal → Rule (List Formal)
more_params_rule l xs = on_punct punct.Comma (punct_rule punct.Comma l (λ _. rule.call (phrase.param l) (λ x. rule.call (phrase.more_params l (xs ++ x ∷ [])) (λ all. ret all)))) (ret xs)

-- the word `void` alone means that there are none
abbrev pub params_from : List Formal → Formals
params_from xs = if is_void_alone (listed_row xs) then void_formals else listed_formals (listed_row xs)

-- up to the parenthesis that closes them
abbrev pub params_rule : ℕ → Rule Formals
params_rule l = on_punct punct.CloseParen (ret no_formals) (rule.call (phrase.param l) (λ x. rule.call (phrase.more_params l (x ∷ [])) (λ xs. ret (params_from xs))))

-- ---- declarations

-- past the parenthesis before it, a pointer to a function (C99 6.7.5.3), whose parameters stand one level deeper
abbrev pub pointer_rule : ℕ → Rule (Name × Formals)
pointer_rule l =
    punct_rule punct.Star l (λ _. one a_name l (λ x at. punct_rule punct.CloseParen l (λ _.
    punct_rule punct.OpenParen (suc l) (λ _. rule.call (phrase.params (suc l)) (λ xs. punct_rule punct.CloseParen (suc l) (λ _. ret (name_of x at, xs)))))))

-- the rest of a declarator (C99 6.7.5)
abbrev pub after_front : ℕ → Front → Rule Declared
after_front l (object_front n x at) = rule.call (phrase.lengths (l + n) []) (λ es. ret (declared n (name_of x at) es))
after_front l (pointer_front n) = rule.call (phrase.pointer l) (λ x. ret (declared_pointer n x.0 x.1))

-- a declarator, without its specifier
abbrev pub declarator_rule : ℕ → Rule Declared
declarator_rule l = fronts l (λ h. after_front l h)

-- further array lengths (C99 6.7.5.2), where some were read before
abbrev pub lengths_rule : ℕ → List Exp → Rule (List Exp)
lengths_rule l es =
    on_punct punct.OpenBracket
    (punct_rule punct.OpenBracket (suc l) (λ _. rule.call (phrase.conditional_part l) (λ e. punct_rule punct.CloseBracket (suc l) (λ _. rule.call (phrase.lengths (suc l) (es ++ e ∷ [])) (λ all. ret all)))))
    (ret es)

-- the brace that closes these initials
abbrev pub braces_after : ℕ → Initials → Position → Rule Init
braces_after l (initials is trailing) at = punct_rule punct.CloseBrace l (λ _. ret (braces (listed_inits is) trailing at))

-- after the opening brace, at its level
abbrev pub braces_rule : ℕ → Position → Rule Init
braces_rule l at = rule.call (phrase.initial l) (λ i. rule.call (phrase.more_initials l (i ∷ [])) (λ is. braces_after l is at))

-- an initializer (C99 6.7.8), or one that POSIX names
abbrev pub initial_rule : ℕ → Rule Init
initial_rule l =
    on_punct punct.OpenBrace
    (punct_rule punct.OpenBrace (suc l) (λ at. braces_rule (suc l) at))
    (on_word word.PthreadMutexInitializer (word_rule word.PthreadMutexInitializer (suc l) (λ at. ret (mutex_start at)))
    (on_word word.PthreadCondInitializer (word_rule word.PthreadCondInitializer (suc l) (λ at. ret (cond_start at)))
    (on_word word.PthreadRwlockInitializer (word_rule word.PthreadRwlockInitializer (suc l) (λ at. ret (rwlock_start at)))
    (rule.call (phrase.assignment (suc l)) (λ e. ret (value e))))))

-- after a comma in braces a brace may come too
abbrev pub more_initials_rule : ℕ → List Init → Rule Initials
more_initials_rule l is =
    on_punct punct.Comma
    (punct_rule punct.Comma l (λ _.
    on_punct punct.CloseBrace (ret (initials is true)) (rule.call (phrase.initial l) (λ i. rule.call (phrase.more_initials l (is ++ i ∷ [])) (λ all. ret all)))))
    (ret (initials is false))

-- a declarator and its first value, if any
abbrev pub object_rule : ℕ → Rule Object
object_rule l = rule.call (phrase.declarator l) (λ d. rule.call (phrase.object_past l d) (λ o. ret o))

-- past a declarator: `=` and a first value, or nothing
abbrev pub object_after_rule : ℕ → Declared → Rule Object
object_after_rule l d = on_punct punct.Assign (punct_rule punct.Assign l (λ at. rule.call (phrase.initial l) (λ i. ret (initialised d i at)))) (ret (plain d))

-- further objects after commas, where some were read before
abbrev pub more_objects_rule : ℕ → List Object → Rule (List Object)
more_objects_rule l os = on_punct punct.Comma (punct_rule punct.Comma l (λ _. rule.call (phrase.object l) (λ o. rule.call (phrase.more_objects l (os ++ o ∷ [])) (λ all. ret all)))) (ret os)

-- a declaration of objects, with its semicolon (C99 6.7)
abbrev pub declaration_rule : ℕ → Rule Declares
declaration_rule l =
    rule.call (phrase.specifier l) (λ s. rule.call (phrase.object l) (λ o. rule.call (phrase.more_objects l (o ∷ [])) (λ os. punct_rule punct.Semicolon l (λ _. ret (declares s os (specifier_place s))))))

-- ---- statements

-- the first clause of a `for`, with its semicolon (C99 6.8.5.3)
abbrev pub start_rule : ℕ → Rule Start
start_rule l =
    choose is_type (rule.call (phrase.declaration l) (λ d. ret (start_declares d)))
    (rule.call (phrase.maybe_expression l punct.Semicolon) (λ e. punct_rule punct.Semicolon l (λ _. ret (start_computes e))))

-- the expression of an `if` or its kin, in its parentheses
abbrev pub tested : {A : Type 0} → ℕ → (Exp → Rule A) → Rule A
tested l f = punct_rule punct.OpenParen l (λ _. rule.call (phrase.expression l) (λ e. punct_rule punct.CloseParen l (λ _. f e)))

-- An `else` after a statement with an open end has been read with it.
abbrev pub else_rule : ℕ → Exp → Statement → Position → Rule Statement
else_rule l e a at =
    if ends_open a then ret (branch e a at)
    else on_word word.Else (word_rule word.Else l (λ _. rule.call (phrase.statement l) (λ b. ret (branch_else e a b at)))) (ret (branch e a at))

-- a test in its parentheses alone, without the statement after it
abbrev pub test_rule : ℕ → Rule Exp
test_rule l = tested l (λ e. ret e)

-- how a `for` begins, up to its statement
pub record ForHead : Type 0 where
  pub start : Start
  pub test : Option Exp
  pub next : Option Exp

-- short for the record: the three clauses in their order
abbrev pub for_head : Start → Option Exp → Option Exp → ForHead
for_head s test next = record { start = s; test = test; next = next }

-- the clauses of a `for` in their parentheses, without the statement after them
abbrev pub for_head_rule : ℕ → Rule ForHead
for_head_rule l =
    punct_rule punct.OpenParen l (λ _. rule.call (phrase.start l) (λ s.
    rule.call (phrase.maybe_expression l punct.Semicolon) (λ test. punct_rule punct.Semicolon l (λ _.
    rule.call (phrase.maybe_expression l punct.CloseParen) (λ next. punct_rule punct.CloseParen l (λ _. ret (for_head s test next)))))))

-- past the word `for`, with its statement (C99 6.8.5.3)
abbrev pub for_rule : ℕ → Position → Rule Statement
for_rule l at =
    punct_rule punct.OpenParen l (λ _. rule.call (phrase.start l) (λ s.
    rule.call (phrase.maybe_expression l punct.Semicolon) (λ test. punct_rule punct.Semicolon l (λ _.
    rule.call (phrase.maybe_expression l punct.CloseParen) (λ next. punct_rule punct.CloseParen l (λ _.
    rule.call (phrase.statement l) (λ a. ret (for_loop s test next a at))))))))

-- after the statement of a `do`
abbrev pub do_end_rule : ℕ → Rule Exp
do_end_rule l = word_rule word.While l (λ _. tested l (λ e. punct_rule punct.Semicolon l (λ _. ret e)))

-- past the word `do`, up to its semicolon (C99 6.8.5.2)
abbrev pub do_rule : ℕ → Position → Rule Statement
do_rule l at = rule.call (phrase.statement l) (λ a. word_rule word.While l (λ _. tested l (λ e. punct_rule punct.Semicolon l (λ _. ret (do_loop a e at)))))

-- past the word `while` of a loop that tests first (C99 6.8.5.1)
abbrev pub while_rule : ℕ → Position → Rule Statement
while_rule l at = tested l (λ e. rule.call (phrase.statement l) (λ a. ret (while_loop e a at)))

-- past the word `if`, with the `else` that is its own (C99 6.8.4.1)
abbrev pub if_rule : ℕ → Position → Rule Statement
if_rule l at = tested l (λ e. rule.call (phrase.statement l) (λ a. else_rule l e a at))

-- past the brace, up to the one that closes it (C99 6.8.2)
abbrev pub block_rule : ℕ → Position → Rule Statement
block_rule l at = rule.call (phrase.parts l []) (λ ps. punct_rule punct.CloseBrace l (λ _. ret (block (listed_parts ps) at)))

-- past the word `return`: a value or none (C99 6.8.6.4)
abbrev pub return_rule : ℕ → Position → Rule Statement
return_rule l at = rule.call (phrase.maybe_expression l punct.Semicolon) (λ e. punct_rule punct.Semicolon l (λ _. ret (gives e at)))

-- an expression and its semicolon (C99 6.8.3)
abbrev pub compute_rule : ℕ → Rule Statement
compute_rule l = rule.call (phrase.expression l) (λ e. punct_rule punct.Semicolon l (λ _. ret (compute (Some e) (first_place e))))

-- one that begins with the word of a test or a loop, or with none
abbrev pub control_rule : ℕ → Rule Statement
control_rule l =
    on_word word.If (word_rule word.If l (λ at. if_rule l at))
    (on_word word.While (word_rule word.While l (λ at. while_rule l at))
    (on_word word.Do (word_rule word.Do l (λ at. do_rule l at))
    (on_word word.For (word_rule word.For l (λ at. for_rule l at)) (compute_rule l))))

-- one of a semicolon, or that begins with the word of a jump, or else such a one
abbrev pub simple_rule : ℕ → Rule Statement
simple_rule l =
    on_punct punct.Semicolon (punct_rule punct.Semicolon l (λ at. ret (compute None at)))
    (on_word word.Break (word_rule word.Break l (λ at. punct_rule punct.Semicolon l (λ _. ret (break_at at))))
    (on_word word.Continue (word_rule word.Continue l (λ at. punct_rule punct.Semicolon l (λ _. ret (continue_at at))))
    (on_word word.Return (word_rule word.Return l (λ at. return_rule l at)) (control_rule l))))

-- whose first token stands at that level
abbrev pub inside_rule : ℕ → Rule Statement
inside_rule l = on_punct punct.OpenBrace (punct_rule punct.OpenBrace l (λ at. block_rule l at)) (simple_rule l)

-- any statement; it stands one level above its context
abbrev pub statement_rule : ℕ → Rule Statement
statement_rule l = inside_rule (suc l)

-- the rest of a block up to its brace, where parts were read before
abbrev pub parts_rule : ℕ → List Part → Rule (List Part)
parts_rule l ps =
    on_punct punct.CloseBrace (ret ps)
    (choose is_type (rule.call (phrase.declaration l) (λ d. rule.call (phrase.parts l (ps ++ part_declares d ∷ [])) (λ all. ret all)))
    (rule.call (phrase.statement l) (λ s. rule.call (phrase.parts l (ps ++ part_does s ∷ [])) (λ all. ret all))))

-- one of them
abbrev pub part_rule : ℕ → Rule Part
part_rule l = choose is_type (rule.call (phrase.declaration l) (λ d. ret (part_declares d))) (rule.call (phrase.statement l) (λ s. ret (part_does s)))

-- ---- the outermost level

-- a function's body, or the semicolon of a prototype
abbrev pub code_rule : Rule Code
code_rule =
    on_punct punct.OpenBrace
    (punct_rule punct.OpenBrace 0 (λ at. rule.call (phrase.parts 0 []) (λ ps. punct_rule punct.CloseBrace 0 (λ _. ret (defined (listed_parts ps) at)))))
    (punct_rule punct.Semicolon 0 (λ _. ret prototype))

-- further members of one specifier, where some were read before
abbrev pub more_declared_rule : List Declared → Rule (List Declared)
more_declared_rule ds = on_punct punct.Comma (punct_rule punct.Comma 0 (λ _. rule.call (phrase.declarator 0) (λ d. rule.call (phrase.more_declared (ds ++ d ∷ [])) (λ all. ret all)))) (ret ds)

-- members of one specifier, with their semicolon (C99 6.7.2.1)
abbrev pub member_rule : Rule Fields
member_rule =
    rule.call (phrase.specifier 0) (λ s.
    rule.call (phrase.declarator 0) (λ d. rule.call (phrase.more_declared (d ∷ [])) (λ ds. punct_rule punct.Semicolon 0 (λ _. ret (fields s ds (specifier_place s))))))

-- up to the brace that closes them
abbrev pub more_members_rule : List Fields → Rule (List Fields)
more_members_rule fs = on_punct punct.CloseBrace (ret fs) (rule.call phrase.member (λ f. rule.call (phrase.more_members (fs ++ f ∷ [])) (λ all. ret all)))

-- after the parenthesis of its parameters: whether `static` stands before it, the specifier, stars, the name
abbrev pub function_rule : Bool → Specifier → ℕ → List ℕ → Position → Rule Outer
function_rule is_static s n x there = rule.call (phrase.params 0) (λ xs. punct_rule punct.CloseParen 0 (λ _. rule.call phrase.code (λ c. ret (function is_static s n (name_of x there) xs c))))

-- after the declarator of the first, with the place of the first token of all
abbrev pub objects_after_rule : Bool → Specifier → Position → Declared → Rule Outer
objects_after_rule is_static s at d =
    rule.call (phrase.object_past 0 d) (λ o.
    rule.call (phrase.more_objects 0 (o ∷ [])) (λ os. punct_rule punct.Semicolon 0 (λ _. ret (objects is_static s os at))))

-- after the name of the first
abbrev pub objects_rule : Bool → Specifier → Position → ℕ → List ℕ → Position → Rule Outer
objects_rule is_static s at n x there = rule.call (phrase.lengths n []) (λ es. objects_after_rule is_static s at (declared n (name_of x there) es))

-- after the parenthesis of the first, a pointer to a function
abbrev pub pointers_rule : Bool → Specifier → Position → ℕ → Rule Outer
pointers_rule is_static s at n = rule.call (phrase.pointer 0) (λ x. objects_after_rule is_static s at (declared_pointer n x.0 x.1))

-- After the specifier: whether `static` stands before it, the specifier, and the place of the first token.
abbrev pub after_head : Bool → Specifier → Position → Head → Rule Outer
after_head is_static s at (function_head n x there) = function_rule is_static s n x there
after_head is_static s at (object_head n x there) = objects_rule is_static s at n x there
after_head is_static s at (pointer_head n) = pointers_rule is_static s at n

-- past a specifier at file level: a function or objects
abbrev pub outer_after_rule : Bool → Specifier → Position → Rule Outer
outer_after_rule is_static s at = heads (λ h. after_head is_static s at h)

-- past the name of a struct that is defined here (C99 6.7.2.1)
abbrev pub structure_rule : List ℕ → Position → Rule Outer
structure_rule x there =
    punct_rule punct.OpenBrace 0 (λ _. rule.call phrase.member (λ f.
    rule.call (phrase.more_members (f ∷ [])) (λ fs. punct_rule punct.CloseBrace 0 (λ _. punct_rule punct.Semicolon 0 (λ _. ret (structure (name_of x there) fs))))))

-- after the word `struct` at that place: the members of a struct, or a struct's name as a specifier
abbrev pub after_struct_rule : Position → Rule Outer
after_struct_rule at =
    one a_name 0 (λ x there.
    on_punct punct.OpenBrace (structure_rule x there)
    (rule.call (phrase.outer_after false (specifiers.Struct (name_of x there) at) at) (λ o. ret o)))

-- an external declaration (C99 6.9)
abbrev pub outer_rule : Rule Outer
outer_rule =
    on_word word.Static (word_rule word.Static 0 (λ at. rule.call (phrase.specifier 0) (λ s. rule.call (phrase.outer_after true s at) (λ o. ret o))))
    (on_word word.Struct (word_rule word.Struct 0 (λ at. after_struct_rule at))
    (rule.call (phrase.specifier 0) (λ s. rule.call (phrase.outer_after false s (specifier_place s)) (λ o. ret o))))

-- to the end of the tokens
abbrev pub program_rule : List Outer → Rule (List Outer)
program_rule os = choose (λ k. true) (rule.call phrase.outer (λ o. rule.call (phrase.program (os ++ o ∷ [])) (λ all. ret all))) (ret os)

-- ---- all rules

-- each phrase, and how it is read
abbrev pub rules : (n : Phrase) → Rule (TreeOf n)
rules (phrase.specifier l) = specifier_rule l
rules (phrase.stars l n) = stars_rule l n
rules (phrase.type_name l) = rule.call (phrase.specifier l) (λ s. rule.call (phrase.stars l 0) (λ n. ret (record { specifier = s; stars = n; at = specifier_place s })))
rules (phrase.expression l) = expression_rule l
rules (phrase.more l es) = more_rule l es
rules (phrase.assignment l) = assignment_rule l
rules (phrase.conditional_part l) = conditional_rule l
rules (phrase.operands l) = rule.call (phrase.unary l) (λ e. rule.call (phrase.chain l e) (λ all. ret all))
rules (phrase.chain l left) = chain_rule l left
rules (phrase.unary l) = unary_rule l
rules (phrase.unary_plain l) = unary_plain_rule l
rules (phrase.opened l at) = opened_rule l at
rules (phrase.enclosed l at) = enclosed_rule l at
rules (phrase.atom l) = atom_rule l
rules (phrase.postfix l a) = postfix_rule l a
rules (phrase.arguments l) = arguments_rule l
rules (phrase.maybe_expression l stop) = maybe_rule l stop
rules (phrase.pointer l) = pointer_rule l
rules (phrase.declarator l) = declarator_rule l
rules (phrase.lengths l es) = lengths_rule l es
rules (phrase.initial l) = initial_rule l
rules (phrase.more_initials l is) = more_initials_rule l is
rules (phrase.object l) = object_rule l
rules (phrase.object_past l d) = object_after_rule l d
rules (phrase.more_objects l os) = more_objects_rule l os
rules (phrase.declaration l) = declaration_rule l
rules (phrase.start l) = start_rule l
rules (phrase.statement l) = statement_rule l
rules (phrase.parts l ps) = parts_rule l ps
rules (phrase.param l) = param_rule l
rules (phrase.param_after l s) = param_after_rule l s
rules (phrase.more_params l xs) = more_params_rule l xs
rules (phrase.params l) = params_rule l
rules phrase.code = code_rule
rules (phrase.more_declared ds) = more_declared_rule ds
rules phrase.member = member_rule
rules (phrase.more_members fs) = more_members_rule fs
rules phrase.outer = outer_rule
rules (phrase.outer_after is_static s at) = outer_after_rule is_static s at
rules (phrase.program os) = program_rule os

-- ---- the parser

-- which phrases may begin with which: with those of a lower rank
abbrev pub rank : Phrase → ℕ
rank (phrase.specifier l) = 0
rank (phrase.stars l n) = 0
rank (phrase.type_name l) = 1
rank (phrase.more l es) = 0
rank (phrase.chain l e) = 0
rank (phrase.atom l) = 0
rank (phrase.postfix l e) = 0
rank (phrase.unary_plain l) = 1
rank (phrase.unary l) = 2
rank (phrase.operands l) = 3
rank (phrase.conditional_part l) = 4
rank (phrase.assignment l) = 5
rank (phrase.expression l) = 6
rank (phrase.enclosed l at) = 7
rank (phrase.opened l at) = 8
rank (phrase.arguments l) = 7
rank (phrase.maybe_expression l stop) = 7
rank (phrase.pointer l) = 0
rank (phrase.lengths l es) = 0
rank (phrase.declarator l) = 0
rank (phrase.initial l) = 6
rank (phrase.more_initials l is) = 0
rank (phrase.object_past l d) = 0
rank (phrase.object l) = 2
rank (phrase.more_objects l os) = 0
rank (phrase.declaration l) = 3
rank (phrase.start l) = 8
rank (phrase.statement l) = 7
rank (phrase.parts l ps) = 8
rank (phrase.param l) = 2
rank (phrase.param_after l s) = 1
rank (phrase.more_params l xs) = 0
rank (phrase.params l) = 3
rank phrase.code = 0
rank (phrase.more_declared ds) = 0
rank phrase.member = 2
rank (phrase.more_members fs) = 3
rank phrase.outer = 1
rank (phrase.outer_after is_static s at) = 0
rank (phrase.program os) = 2

-- with so many phrases in one another
unfoldable pub read_within : ℕ → ℕ → (n : Phrase) → Parser (TreeOf n)
read_within limit zero n = λ ts. Spent
read_within limit (suc m) n = run limit (read_within limit m) (rules n)

-- with as many as can be needed
unfoldable pub read : ℕ → (n : Phrase) → Parser (TreeOf n)
read limit n ts = read_within limit (suc (9 * length ts + rank n)) n ts
