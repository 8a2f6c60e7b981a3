-- What may follow a phrase, so that the parser takes no more; and what a phrase begins with.
use Rattle.std.proofs.Common.{◌≡◌, ◌⊎◌, ℕ, suc, ◌≤◌, Bool, true, false, List, [], ◌∷◌, refl, ◌∙◌, ap, arith}
use Rattle.c_lexer.specs.declared.token.Kind.{Kind}
use Rattle.c_lexer.specs.declared.token.Kind.TheVariants as kind
use Rattle.c_lexer.specs.declared.token.Punct.{Punct}
use Rattle.c_lexer.specs.declared.token.Punct.TheVariants as punct
use Rattle.c_lexer.specs.declared.token.Word.{Word}
use Rattle.c_lexer.specs.declared.token.Word.TheVariants as word
use Rattle.c_tree.specs.declared.expr.PrefixOp.{PrefixOp}
use Rattle.c_tree.specs.declared.expr.PrefixOp.TheVariants as prefix_op
use Rattle.c_tree.specs.declared.expr.BinaryOp.{BinaryOp}
use Rattle.c_tree.specs.declared.expr.BinaryOp.TheVariants as binary_op
use Rattle.c_tree.specs.declared.expr.AssignOp.{AssignOp}
use Rattle.c_tree.specs.declared.expr.AssignOp.TheVariants as assign_op
use Rattle.c_tree.specs.Tree.{Exp, comma, assign, conditional, binary, prefix, sizeof_exp, sizeof_type, cast, index, member, arrow, post_increment, post_decrement, named, call, number, letter, text, null, paren}
use Rattle.rr_base.specs.declared.position.Position.{Position}
use Rattle.c_print.specs.Kinds.{p, w}
use Rattle.c_grammar.specs.Marks.{Mark, mark, erase}
use Rattle.c_grammar.specs.Grammar.{ends_open, OfExp}
use Rattle.c_grammar.specs.Phrase as phrase
use Rattle.c_grammar.specs.Phrase.{Phrase, TreeOf, Head, function_head, object_head, pointer_head, Front}
use Rattle.c_grammar.specs.Parse.{sign, key, a_prefix, a_binary, an_assign, Value, kind_of, is_of, is_type, follows_declarator, passes, Rule, ret, one, heads, fronts, choose}
use Rattle.c_grammar.specs.Parse as rule
use Rattle.c_grammar.proofs.Language.{OfHead, OfFront, Of}

-- ---- what goes on with an expression

abbrev pub joins_punct : Punct → ℕ
joins_punct punct.Comma = 1
joins_punct punct.Assign = 2
joins_punct punct.PlusAssign = 2
joins_punct punct.MinusAssign = 2
joins_punct punct.StarAssign = 2
joins_punct punct.SlashAssign = 2
joins_punct punct.PercentAssign = 2
joins_punct punct.AndAssign = 2
joins_punct punct.OrAssign = 2
joins_punct punct.CaretAssign = 2
joins_punct punct.ShiftLeftAssign = 2
joins_punct punct.ShiftRightAssign = 2
joins_punct punct.Question = 3
joins_punct punct.OrOr = 4
joins_punct punct.AndAnd = 4
joins_punct punct.Or = 4
joins_punct punct.Caret = 4
joins_punct punct.And = 4
joins_punct punct.EqualEqual = 4
joins_punct punct.NotEqual = 4
joins_punct punct.Less = 4
joins_punct punct.Greater = 4
joins_punct punct.LessEqual = 4
joins_punct punct.GreaterEqual = 4
joins_punct punct.ShiftLeft = 4
joins_punct punct.ShiftRight = 4
joins_punct punct.Plus = 4
joins_punct punct.Minus = 4
joins_punct punct.Star = 4
joins_punct punct.Slash = 4
joins_punct punct.Percent = 4
joins_punct punct.OpenParen = 5
joins_punct punct.OpenBracket = 5
joins_punct punct.Dot = 5
joins_punct punct.Arrow = 5
joins_punct punct.PlusPlus = 5
joins_punct punct.MinusMinus = 5
joins_punct _ = 0

-- the loosest expression that a token goes on with: 1 for one with commas, up to 5 for what a postfix operator may follow
abbrev pub joins : Kind → ℕ
joins (kind.Punct x) = joins_punct x
joins _ = 0

abbrev pub joins_next : List Mark → ℕ
joins_next [] = 0
joins_next (m ∷ ms) = joins m.lexeme.kind

abbrev pub next_is : (Kind → Bool) → List Mark → Bool
next_is test ms = passes test (erase ms)

abbrev pub sees : Punct → List Mark → Bool
sees x ms = next_is (is_of (sign x)) ms

abbrev pub reads_word : Word → List Mark → Bool
reads_word x ms = next_is (is_of (key x)) ms

-- no word that goes on with a specifier, and no star
abbrev pub AfterType : List Mark → Type 0
AfterType ms = (reads_word word.Long ms ≡ false) × (reads_word word.Int ms ≡ false)

abbrev pub AfterParam : List Mark → Type 0
AfterParam ms = (sees punct.Comma ms ≡ true) ⊎ (sees punct.CloseParen ms ≡ true)

-- what follows the phrase, where the parser is to stop after it
abbrev pub EndsAt : (n : Phrase) → TreeOf n → List Mark → Type 0
EndsAt (phrase.specifier l) s ms = AfterType ms
EndsAt (phrase.stars l n) k ms = sees punct.Star ms ≡ false
EndsAt (phrase.type_name l) t ms = sees punct.CloseParen ms ≡ true
EndsAt (phrase.expression l) e ms = joins_next ms ≤ 0
EndsAt (phrase.more l es) all ms = joins_next ms ≤ 0
EndsAt (phrase.assignment l) e ms = joins_next ms ≤ 1
EndsAt (phrase.conditional_part l) e ms = joins_next ms ≤ 2
EndsAt (phrase.operands l) e ms = joins_next ms ≤ 3
EndsAt (phrase.chain l left) e ms = joins_next ms ≤ 3
EndsAt (phrase.unary l) e ms = joins_next ms ≤ 4
EndsAt (phrase.unary_plain l) e ms = joins_next ms ≤ 4
EndsAt (phrase.opened l at) e ms = joins_next ms ≤ 4
EndsAt (phrase.enclosed l at) e ms = joins_next ms ≤ 4
EndsAt (phrase.atom l) e ms = sees punct.OpenParen ms ≡ false
EndsAt (phrase.postfix l left) e ms = joins_next ms ≤ 4
EndsAt (phrase.arguments l) es ms = Unit {0}
EndsAt (phrase.maybe_expression l stop) e ms = ((stop ≡ punct.Semicolon) ⊎ (stop ≡ punct.CloseParen)) × (sees stop ms ≡ true)
EndsAt (phrase.pointer l) x ms = Unit {0}
EndsAt (phrase.declarator l) d ms = joins_next ms ≤ 2
EndsAt (phrase.lengths l es) all ms = joins_next ms ≤ 2
EndsAt (phrase.initial l) i ms = joins_next ms ≤ 1
EndsAt (phrase.more_initials l is) r ms = sees punct.CloseBrace ms ≡ true
EndsAt (phrase.object l) o ms = joins_next ms ≤ 1
EndsAt (phrase.object_past l d) o ms = joins_next ms ≤ 1
EndsAt (phrase.more_objects l os) all ms = joins_next ms ≤ 0
EndsAt (phrase.declaration l) d ms = Unit {0}
EndsAt (phrase.start l) s ms = Unit {0}
EndsAt (phrase.statement l) s ms = ends_open s ≡ true → reads_word word.Else ms ≡ false
EndsAt (phrase.parts l ps) all ms = sees punct.CloseBrace ms ≡ true
EndsAt (phrase.param l) x ms = AfterParam ms
EndsAt (phrase.param_after l s) x ms = AfterParam ms
EndsAt (phrase.more_params l xs) all ms = sees punct.CloseParen ms ≡ true
EndsAt (phrase.params l) xs ms = sees punct.CloseParen ms ≡ true
EndsAt phrase.code c ms = Unit {0}
EndsAt (phrase.more_declared ds) all ms = sees punct.Semicolon ms ≡ true
EndsAt phrase.member f ms = Unit {0}
EndsAt (phrase.more_members fs) all ms = sees punct.CloseBrace ms ≡ true
EndsAt phrase.outer o ms = Unit {0}
EndsAt (phrase.outer_after is_static s at) o ms = Unit {0}
EndsAt (phrase.program os) all ms = ms ≡ []

abbrev pub HeadEndsAt : Head → List Mark → Type 0
HeadEndsAt (function_head n x at) ms = Unit {0}
HeadEndsAt (object_head n x at) ms = (sees punct.OpenParen ms ≡ false) × (next_is follows_declarator ms ≡ true)
HeadEndsAt (pointer_head n) ms = Unit {0}

-- what a rule reads, where each choice is made by the next token
abbrev pub Chosen : {A : Type 0} → Rule A → A → List Mark → List Mark → Type 0
Chosen (ret a) x ms rest = (x ≡ a) × (ms ≡ rest)
Chosen (one c l f) x ms rest = (v : Value c) × (at : Position) × (mid : List Mark) × (ms ≡ mark (kind_of c v) at l ∷ mid) × Chosen (f v at) x mid rest
Chosen (rule.call n f) x ms rest = (r : TreeOf n) × (mid : List Mark) × Of n r ms mid × EndsAt n r mid × Chosen (f r) x mid rest
Chosen (heads f) x ms rest = (h : Head) × (mid : List Mark) × OfHead h ms mid × HeadEndsAt h mid × Chosen (f h) x mid rest
Chosen (fronts l f) x ms rest = (h : Front) × (mid : List Mark) × OfFront l h ms mid × Chosen (f h) x mid rest
Chosen (choose test g h) x ms rest = ((next_is test ms ≡ true) × Chosen g x ms rest) ⊎ ((next_is test ms ≡ false) × Chosen h x ms rest)

-- ---- from the next token

abbrev pub OnNext : (Kind → Type 0) → List Mark → Type 0
OnNext P [] = ⊥
OnNext P (m ∷ ms) = P m.lexeme.kind

-- from what the next token goes on with
pub by_joins : (n : ℕ) (test : Kind → Bool) → ((k : Kind) → joins k ≤ n → test k ≡ false) → (ms : List Mark) → joins_next ms ≤ n → next_is test ms ≡ false
by_joins n test h [] le = refl
by_joins n test h (m ∷ ms) le = h m.lexeme.kind le

-- from one test to another
pub by_test : (f g : Kind → Bool) (b : Bool) → ((k : Kind) → f k ≡ true → g k ≡ b) → (ms : List Mark) → next_is f ms ≡ true → next_is g ms ≡ b
by_test f g b h [] e = cc
by_test f g b h (m ∷ ms) e = h m.lexeme.kind e

pub joins_test : (f : Kind → Bool) (n : ℕ) → ((k : Kind) → f k ≡ true → joins k ≤ n) → (ms : List Mark) → next_is f ms ≡ true → joins_next ms ≤ n
joins_test f n h [] e = cc
joins_test f n h (m ∷ ms) e = h m.lexeme.kind e

pub no_comma : (k : Kind) → joins k ≤ 0 → is_of (sign punct.Comma) k ≡ false
no_comma (kind.Punct punct.Comma) le = absurd (omega (arith, le))
no_comma _ le = refl

pub no_assign : (k : Kind) → joins k ≤ 1 → is_of an_assign k ≡ false
no_assign (kind.Punct x) le = by x le
  where
    by : (x : Punct) → joins_punct x ≤ 1 → is_of an_assign (kind.Punct x) ≡ false
    by punct.Assign le = absurd (omega (arith, le))
    by punct.PlusAssign le = absurd (omega (arith, le))
    by punct.MinusAssign le = absurd (omega (arith, le))
    by punct.StarAssign le = absurd (omega (arith, le))
    by punct.SlashAssign le = absurd (omega (arith, le))
    by punct.PercentAssign le = absurd (omega (arith, le))
    by punct.AndAssign le = absurd (omega (arith, le))
    by punct.OrAssign le = absurd (omega (arith, le))
    by punct.CaretAssign le = absurd (omega (arith, le))
    by punct.ShiftLeftAssign le = absurd (omega (arith, le))
    by punct.ShiftRightAssign le = absurd (omega (arith, le))
    by _ le = refl
no_assign _ le = refl

pub no_equals : (k : Kind) → joins k ≤ 1 → is_of (sign punct.Assign) k ≡ false
no_equals (kind.Punct punct.Assign) le = absurd (omega (arith, le))
no_equals _ le = refl

pub no_question : (k : Kind) → joins k ≤ 2 → is_of (sign punct.Question) k ≡ false
no_question (kind.Punct punct.Question) le = absurd (omega (arith, le))
no_question _ le = refl

pub no_bracket : (k : Kind) → joins k ≤ 4 → is_of (sign punct.OpenBracket) k ≡ false
no_bracket (kind.Punct punct.OpenBracket) le = absurd (omega (arith, le))
no_bracket _ le = refl

pub no_dot : (k : Kind) → joins k ≤ 4 → is_of (sign punct.Dot) k ≡ false
no_dot (kind.Punct punct.Dot) le = absurd (omega (arith, le))
no_dot _ le = refl

pub no_arrow : (k : Kind) → joins k ≤ 4 → is_of (sign punct.Arrow) k ≡ false
no_arrow (kind.Punct punct.Arrow) le = absurd (omega (arith, le))
no_arrow _ le = refl

pub no_increment : (k : Kind) → joins k ≤ 4 → is_of (sign punct.PlusPlus) k ≡ false
no_increment (kind.Punct punct.PlusPlus) le = absurd (omega (arith, le))
no_increment _ le = refl

pub no_decrement : (k : Kind) → joins k ≤ 4 → is_of (sign punct.MinusMinus) k ≡ false
no_decrement (kind.Punct punct.MinusMinus) le = absurd (omega (arith, le))
no_decrement _ le = refl

pub no_open : (k : Kind) → joins k ≤ 4 → is_of (sign punct.OpenParen) k ≡ false
no_open (kind.Punct punct.OpenParen) le = absurd (omega (arith, le))
no_open _ le = refl

pub no_binary : (k : Kind) → joins k ≤ 3 → is_of a_binary k ≡ false
no_binary (kind.Punct x) le = by x le
  where
    by : (x : Punct) → joins_punct x ≤ 3 → is_of a_binary (kind.Punct x) ≡ false
    by punct.OrOr le = absurd (omega (arith, le))
    by punct.AndAnd le = absurd (omega (arith, le))
    by punct.Or le = absurd (omega (arith, le))
    by punct.Caret le = absurd (omega (arith, le))
    by punct.And le = absurd (omega (arith, le))
    by punct.EqualEqual le = absurd (omega (arith, le))
    by punct.NotEqual le = absurd (omega (arith, le))
    by punct.Less le = absurd (omega (arith, le))
    by punct.Greater le = absurd (omega (arith, le))
    by punct.LessEqual le = absurd (omega (arith, le))
    by punct.GreaterEqual le = absurd (omega (arith, le))
    by punct.ShiftLeft le = absurd (omega (arith, le))
    by punct.ShiftRight le = absurd (omega (arith, le))
    by punct.Plus le = absurd (omega (arith, le))
    by punct.Minus le = absurd (omega (arith, le))
    by punct.Star le = absurd (omega (arith, le))
    by punct.Slash le = absurd (omega (arith, le))
    by punct.Percent le = absurd (omega (arith, le))
    by _ le = refl
no_binary _ le = refl

pub binary_joins : (op : BinaryOp) → joins (kind_of a_binary op) ≤ 4
binary_joins binary_op.Add = omega arith
binary_joins _ = omega arith

pub binary_is : (op : BinaryOp) → is_of a_binary (kind_of a_binary op) ≡ true
binary_is binary_op.Add = refl
binary_is _ = refl

pub assign_joins : (op : AssignOp) → joins (kind_of an_assign op) ≤ 2
assign_joins assign_op.Add = omega arith
assign_joins _ = omega arith

pub assign_is : (op : AssignOp) → is_of an_assign (kind_of an_assign op) ≡ true
assign_is assign_op.Add = refl
assign_is _ = refl

pub prefix_is : (op : PrefixOp) → is_of a_prefix (kind_of a_prefix op) ≡ true
prefix_is prefix_op.Minus = refl
prefix_is _ = refl

-- ---- what an expression begins with

abbrev pub begins_exp : Kind → Bool
begins_exp (kind.Name x) = true
begins_exp (kind.Number x) = true
begins_exp (kind.Letter x) = true
begins_exp (kind.Text x) = true
begins_exp (kind.Word word.Null) = true
begins_exp (kind.Word word.Sizeof) = true
begins_exp (kind.Punct punct.OpenParen) = true
begins_exp (kind.Punct punct.And) = true
begins_exp (kind.Punct punct.Star) = true
begins_exp (kind.Punct punct.Plus) = true
begins_exp (kind.Punct punct.Minus) = true
begins_exp (kind.Punct punct.Not) = true
begins_exp (kind.Punct punct.Tilde) = true
begins_exp (kind.Punct punct.PlusPlus) = true
begins_exp (kind.Punct punct.MinusMinus) = true
begins_exp _ = false

prefix_begins : (op : PrefixOp) → begins_exp (kind_of a_prefix op) ≡ true
prefix_begins prefix_op.Minus = refl
prefix_begins _ = refl

-- its first token, which stands one level above the context
pub record First (l : ℕ) (ms : List Mark) : Type 0 where
  pub token : Mark
  pub following : List Mark
  pub whole : ms ≡ token ∷ following
  pub level : token.level ≡ suc l
  pub begins : begins_exp token.lexeme.kind ≡ true

pub first_of_exp : (l : ℕ) (e : Exp) (ms rest : List Mark) → OfExp l e ms rest → First l ms
first_of_exp l (comma a es at) ms rest h = first_of_exp l a ms h.1.0 h.1.1
first_of_exp l (assign a op b at) ms rest h = first_of_exp l a ms h.1.0 h.1.1
first_of_exp l (conditional a b c at) ms rest h = first_of_exp l a ms h.1.0 h.1.1
first_of_exp l (binary a op b at) ms rest h = first_of_exp l a ms h.1.0 h.1.1
first_of_exp l (prefix op a at) ms rest h = record { token = mark (kind_of a_prefix op) at (suc l); following = h.1.0; whole = h.1.1; level = refl; begins = prefix_begins op }
first_of_exp l (sizeof_exp a at) ms rest h = record { token = mark (w word.Sizeof) at (suc l); following = h.1.0; whole = h.1.1; level = refl; begins = refl }
first_of_exp l (sizeof_type t at) ms rest h = record { token = mark (w word.Sizeof) at (suc l); following = h.0; whole = h.1; level = refl; begins = refl }
first_of_exp l (cast t a at) ms rest h = record { token = mark (p punct.OpenParen) at (suc l); following = h.1.0; whole = h.1.1; level = refl; begins = refl }
first_of_exp l (index a b at) ms rest h = first_of_exp l a ms h.1.0 h.1.1
first_of_exp l (member a x at) ms rest h = first_of_exp l a ms h.1.0 h.1.1
first_of_exp l (arrow a x at) ms rest h = first_of_exp l a ms h.1.0 h.1.1
first_of_exp l (post_increment a at) ms rest h = first_of_exp l a ms h.1.0 h.1.1
first_of_exp l (post_decrement a at) ms rest h = first_of_exp l a ms h.1.0 h.1.1
first_of_exp l (named x at) ms rest h = record { token = mark (kind.Name x) at (suc l); following = rest; whole = h; level = refl; begins = refl }
first_of_exp l (call x es at) ms rest h = record { token = mark (kind.Name x) at (suc l); following = h.0; whole = h.1; level = refl; begins = refl }
first_of_exp l (number n at) ms rest h = record { token = mark (kind.Number n) at (suc l); following = rest; whole = h; level = refl; begins = refl }
first_of_exp l (letter n at) ms rest h = record { token = mark (kind.Letter n) at (suc l); following = rest; whole = h; level = refl; begins = refl }
first_of_exp l (text x at) ms rest h = record { token = mark (kind.Text x) at (suc l); following = rest; whole = h; level = refl; begins = refl }
first_of_exp l (null at) ms rest h = record { token = mark (w word.Null) at (suc l); following = rest; whole = h; level = refl; begins = refl }
first_of_exp l (paren a at) ms rest h = record { token = mark (p punct.OpenParen) at (suc l); following = h.0; whole = h.1; level = refl; begins = refl }

pub exp_begins : (l : ℕ) (e : Exp) (ms rest : List Mark) → OfExp l e ms rest → next_is begins_exp ms ≡ true
exp_begins l e ms rest h = let f = first_of_exp l e ms rest h in ap (next_is begins_exp) f.whole ∙ f.begins

-- and so no other test passes
pub not_begun : (test : Kind → Bool) → ((k : Kind) → begins_exp k ≡ true → test k ≡ false) → (l : ℕ) (e : Exp) (ms rest : List Mark) → OfExp l e ms rest → next_is test ms ≡ false
not_begun test h l e ms rest d = by_test begins_exp test false h ms (exp_begins l e ms rest d)

pub not_close_paren : (k : Kind) → begins_exp k ≡ true → is_of (sign punct.CloseParen) k ≡ false
not_close_paren (kind.Punct punct.CloseParen) h = cc
not_close_paren _ h = refl

pub not_semicolon : (k : Kind) → begins_exp k ≡ true → is_of (sign punct.Semicolon) k ≡ false
not_semicolon (kind.Punct punct.Semicolon) h = cc
not_semicolon _ h = refl

pub not_open_brace : (k : Kind) → begins_exp k ≡ true → is_of (sign punct.OpenBrace) k ≡ false
not_open_brace (kind.Punct punct.OpenBrace) h = cc
not_open_brace _ h = refl

pub not_close_brace : (k : Kind) → begins_exp k ≡ true → is_of (sign punct.CloseBrace) k ≡ false
not_close_brace (kind.Punct punct.CloseBrace) h = cc
not_close_brace _ h = refl

pub not_break : (k : Kind) → begins_exp k ≡ true → is_of (key word.Break) k ≡ false
not_break (kind.Word word.Break) h = cc
not_break _ h = refl

pub not_continue : (k : Kind) → begins_exp k ≡ true → is_of (key word.Continue) k ≡ false
not_continue (kind.Word word.Continue) h = cc
not_continue _ h = refl

pub not_return : (k : Kind) → begins_exp k ≡ true → is_of (key word.Return) k ≡ false
not_return (kind.Word word.Return) h = cc
not_return _ h = refl

pub not_if : (k : Kind) → begins_exp k ≡ true → is_of (key word.If) k ≡ false
not_if (kind.Word word.If) h = cc
not_if _ h = refl

pub not_while : (k : Kind) → begins_exp k ≡ true → is_of (key word.While) k ≡ false
not_while (kind.Word word.While) h = cc
not_while _ h = refl

pub not_do : (k : Kind) → begins_exp k ≡ true → is_of (key word.Do) k ≡ false
not_do (kind.Word word.Do) h = cc
not_do _ h = refl

pub not_for : (k : Kind) → begins_exp k ≡ true → is_of (key word.For) k ≡ false
not_for (kind.Word word.For) h = cc
not_for _ h = refl

pub not_pthread_mutex_initializer : (k : Kind) → begins_exp k ≡ true → is_of (key word.PthreadMutexInitializer) k ≡ false
not_pthread_mutex_initializer (kind.Word word.PthreadMutexInitializer) h = cc
not_pthread_mutex_initializer _ h = refl

pub not_pthread_cond_initializer : (k : Kind) → begins_exp k ≡ true → is_of (key word.PthreadCondInitializer) k ≡ false
not_pthread_cond_initializer (kind.Word word.PthreadCondInitializer) h = cc
not_pthread_cond_initializer _ h = refl

pub not_pthread_rwlock_initializer : (k : Kind) → begins_exp k ≡ true → is_of (key word.PthreadRwlockInitializer) k ≡ false
not_pthread_rwlock_initializer (kind.Word word.PthreadRwlockInitializer) h = cc
not_pthread_rwlock_initializer _ h = refl

pub not_type : (k : Kind) → begins_exp k ≡ true → is_type k ≡ false
not_type (kind.Word x) h = by x h
  where
    by : (x : Word) → begins_exp (kind.Word x) ≡ true → is_type (kind.Word x) ≡ false
    by word.Null h = refl
    by word.Sizeof h = refl
    by _ h = cc
not_type _ h = refl
