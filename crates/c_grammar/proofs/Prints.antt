-- A tree prints to the kinds of its tokens.
use Rattle.std.proofs.Common.{◌≡◌, ℕ, zero, suc, ◌+◌, Bool, true, false, List, [], ◌∷◌, ◌++◌, Option, Some, None, sym, ◌∙◌, ap, append_assoc, append-nil}
use Rattle.c_lexer.specs.declared.token.Kind.{Kind}
use Rattle.c_lexer.specs.declared.token.Kind.TheVariants as kind
use Rattle.c_lexer.specs.declared.token.Punct.TheVariants as punct
use Rattle.c_lexer.specs.declared.token.Word.TheVariants as word
use Rattle.c_tree.specs.declared.name.Name.{Name}
use Rattle.c_tree.specs.declared.ctype.Specifier.{Specifier}
use Rattle.c_tree.specs.declared.ctype.Specifier.TheVariants as specifier
use Rattle.c_tree.specs.declared.ctype.CType.{CType}
use Rattle.c_tree.specs.Tree.{Exp, comma, assign, conditional, binary, prefix, sizeof_exp, sizeof_type, cast, index, member, arrow, post_increment, post_decrement, named, call, number, letter, text, null, paren, Exps, no_exp, and_exp, Formal, formal, formal_pointer, Formals, no_formals, void_formals, listed_formals, FormalRow, no_formal, and_formal, Declared, declared, declared_pointer, Init, value, braces, mutex_start, cond_start, rwlock_start, Inits, no_init, and_init, Object, plain, initialised, Declares, declares, Start, start_declares, start_computes, Statement, block, compute, break_at, continue_at, gives, branch, branch_else, while_loop, do_loop, for_loop, Parts, no_part, and_declares, and_does, Code, defined, prototype, Fields, fields, Outer, structure, function, objects}
use Rattle.rr_base.specs.declared.position.Position.{Position}
use Rattle.c_print.specs.Kinds.{p, w, prefix_punct, binary_punct, assign_punct, name_kind, if_there, specifier_kinds, stars_kinds, type_kinds, exp_kinds, exps_kinds, rest_kinds, maybe_kinds, length_kinds, declared_kinds, init_kinds, inits_kinds, rest_init_kinds, object_kinds, rest_objects_kinds, objects_kinds, declares_kinds, start_kinds, stmt_kinds, parts_kinds, named_kinds, pointer_kinds, formal_kinds, formals_kinds, formal_row_kinds, rest_formals_kinds, code_kinds, rest_declared_kinds, all_declared_kinds, fields_kinds, all_fields_kinds, outer_kinds, kinds_of}
use Rattle.c_grammar.specs.Marks.{Mark, kinds_at, Beginning, own, other, ◌>>◌, nothing, maybe, provided}
use Rattle.c_grammar.specs.Grammar.{name_place, OfName, OfSpecifier, OfStars, OfType, OfExp, OfExps, OfMore, OfMaybe, OfRaisingStars, OfLengths, OfDeclared, OfInit, OfInits, OfMoreInits, OfObject, OfMoreObjects, OfObjects, OfDeclares, OfStart, OfStatement, OfParts, OfMaybeName, OfPointer, OfFormal, OfFormals, OfFormalRow, OfMoreFormals, OfCode, OfMoreDeclared, OfAllDeclared, OfFields, OfMoreFields, OfAllFields, OfStatic, OfOuter, OfProgram}

-- what begins so begins with tokens of these kinds
record Prints (ks : List Kind) (r : Beginning) : Type 0 where
  says : (ms rest : List Mark) → r ms rest → kinds_at ms ≡ ks ++ kinds_at rest

o : (k : Kind) (at : Position) (l : ℕ) → Prints (k ∷ []) (own k at l)
o k at l = record { says = λ ms rest e. ap kinds_at e }

t : (k : Kind) (l : ℕ) → Prints (k ∷ []) (other k l)
t k l = record { says = λ ms rest e. ap kinds_at e.1 }

none : Prints [] nothing
none = record { says = λ ms rest e. ap kinds_at e }

infixr 5 ◌&◌
◌&◌ : {ks js : List Kind} {r s : Beginning} → Prints ks r → Prints js s → Prints (ks ++ js) (r >> s)
◌&◌ {ks} {js} {r} {s} x y = record { says = λ ms rest h. x.says ms h.0 h.1 ∙ ap (λ z. ks ++ z) (y.says h.0 rest h.2) ∙ sym (append_assoc ks js (kinds_at rest)) }

given : (P : Type 0) {ks : List Kind} {r : Beginning} → Prints ks r → Prints ks (provided P r)
given P x = record { says = λ ms rest h. x.says ms rest h.1 }

if_some : (b : Bool) (k : Kind) {r : Beginning} → Prints (k ∷ []) r → Prints (if_there b k) (maybe b r)
if_some true k x = x
if_some false k x = none

name : (l : ℕ) (n : Name) → Prints (name_kind n ∷ []) (OfName l n)
name l n = o (name_kind n) (name_place n) l

specifiers : (l : ℕ) (s : Specifier) → Prints (specifier_kinds s) (OfSpecifier l s)
specifiers l (specifier.Int at) = o (w word.Int) at l
specifiers l (specifier.Long second int at) = o (w word.Long) at l & if_some second (w word.Long) (t (w word.Long) l) & if_some int (w word.Int) (t (w word.Int) l)
specifiers l (specifier.Void at) = o (w word.Void) at l
specifiers l (specifier.Struct n at) = o (w word.Struct) at l & name l n
specifiers l (specifier.PthreadT at) = o (w word.PthreadT) at l
specifiers l (specifier.PthreadMutexT at) = o (w word.PthreadMutexT) at l
specifiers l (specifier.PthreadCondT at) = o (w word.PthreadCondT) at l
specifiers l (specifier.PthreadBarrierT at) = o (w word.PthreadBarrierT) at l
specifiers l (specifier.PthreadRwlockT at) = o (w word.PthreadRwlockT) at l

stars : (l n : ℕ) → Prints (stars_kinds n) (OfStars l n)
stars l zero = none
stars l (suc n) = t (p punct.Star) l & stars l n

types : (l : ℕ) (x : CType) → Prints (type_kinds x) (OfType l x)
types l x = given _ (specifiers l x.specifier & stars l x.stars)

mutual
  exp : (l : ℕ) (e : Exp) → Prints (exp_kinds e) (OfExp l e)
  exp l (comma e es at) = given _ (exp l e & rest l es)
  exp l (assign a op b at) = given _ (exp l a & o (p (assign_punct op)) at (suc (suc l)) & exp (suc (suc l)) b)
  exp l (conditional a b c at) = given _ (exp l a & o (p punct.Question) at (suc (suc l)) & exp (suc (suc l)) b & t (p punct.Colon) (suc (suc l)) & exp (suc l) c)
  exp l (binary a op b at) = given _ (exp l a & o (p (binary_punct op)) at _ & exp _ b)
  exp l (prefix op a at) = given _ (o (p (prefix_punct op)) at (suc l) & exp (suc l) a)
  exp l (sizeof_exp a at) = given _ (o (w word.Sizeof) at (suc l) & exp (suc l) a)
  exp l (sizeof_type x at) = o (w word.Sizeof) at (suc l) & t (p punct.OpenParen) (suc (suc l)) & types (suc (suc l)) x & t (p punct.CloseParen) (suc (suc l))
  exp l (cast x a at) = given _ (o (p punct.OpenParen) at (suc l) & types (suc l) x & t (p punct.CloseParen) (suc l) & exp (suc l) a)
  exp l (index a b at) = given _ (exp l a & o (p punct.OpenBracket) at _ & exp _ b & t (p punct.CloseBracket) _)
  exp l (member a n at) = given _ (exp l a & o (p punct.Dot) at _ & name _ n)
  exp l (arrow a n at) = given _ (exp l a & o (p punct.Arrow) at _ & name _ n)
  exp l (post_increment a at) = given _ (exp l a & o (p punct.PlusPlus) at _)
  exp l (post_decrement a at) = given _ (exp l a & o (p punct.MinusMinus) at _)
  exp l (named x at) = o (kind.Name x) at (suc l)
  exp l (call x es at) = o (kind.Name x) at (suc l) & t (p punct.OpenParen) (suc l) & exps (suc l) es & t (p punct.CloseParen) (suc l)
  exp l (number n at) = o (kind.Number n) at (suc l)
  exp l (letter n at) = o (kind.Letter n) at (suc l)
  exp l (text x at) = o (kind.Text x) at (suc l)
  exp l (null at) = o (w word.Null) at (suc l)
  exp l (paren a at) = o (p punct.OpenParen) at (suc l) & exp (suc l) a & t (p punct.CloseParen) (suc l)

  exps : (l : ℕ) (es : Exps) → Prints (exps_kinds es) (OfExps l es)
  exps l no_exp = none
  exps l (and_exp e es) = given _ (exp l e & rest l es)

  rest : (l : ℕ) (es : Exps) → Prints (rest_kinds es) (OfMore l es)
  rest l no_exp = none
  rest l (and_exp e es) = given _ (t (p punct.Comma) l & exp l e & rest l es)

maybe_exp : (l : ℕ) (e : Option Exp) → Prints (maybe_kinds e) (OfMaybe l e)
maybe_exp l None = none
maybe_exp l (Some e) = exp l e

maybe_name : (l : ℕ) (n : Option Name) → Prints (named_kinds n) (OfMaybeName l n)
maybe_name l None = none
maybe_name l (Some n) = name l n

pointer : (l n : ℕ) (x : Name) {ks : List Kind} {r : Beginning} → Prints ks r → Prints (pointer_kinds n x ks) (OfPointer l n x r)
pointer l n x y = stars l n & t (p punct.OpenParen) l & t (p punct.Star) l & name l x & t (p punct.CloseParen) l & t (p punct.OpenParen) (suc l) & y & t (p punct.CloseParen) (suc l)

mutual
  param : (l : ℕ) (x : Formal) → Prints (formal_kinds x) (OfFormal l x)
  param l (formal s n x at) = given _ (specifiers l s & stars l n & maybe_name l x)
  param l (formal_pointer s n x xs at) = given _ (specifiers l s & pointer l n x (formals (suc l) xs))

  formals : (l : ℕ) (xs : Formals) → Prints (formals_kinds xs) (OfFormals l xs)
  formals l no_formals = none
  formals l void_formals = t (w word.Void) l
  formals l (listed_formals xs) = given _ (formal_row l xs)

  formal_row : (l : ℕ) (xs : FormalRow) → Prints (formal_row_kinds xs) (OfFormalRow l xs)
  formal_row l no_formal = record { says = λ ms rest h. absurd h }
  formal_row l (and_formal x xs) = param l x & more_formals l xs

  more_formals : (l : ℕ) (xs : FormalRow) → Prints (rest_formals_kinds xs) (OfMoreFormals l xs)
  more_formals l no_formal = none
  more_formals l (and_formal x xs) = t (p punct.Comma) l & param l x & more_formals l xs

raising : (l n : ℕ) → Prints (stars_kinds n) (OfRaisingStars l n)
raising l zero = none
raising l (suc n) = t (p punct.Star) (suc l) & raising (suc l) n

lengths : (l : ℕ) (es : List Exp) → Prints (length_kinds es) (OfLengths l es)
lengths l [] = none
lengths l (e ∷ es) = given _ (t (p punct.OpenBracket) (suc l) & exp l e & t (p punct.CloseBracket) (suc l) & lengths (suc l) es)

declarator : (l : ℕ) (d : Declared) → Prints (declared_kinds d) (OfDeclared l d)
declarator l (declared n x es) = raising l n & name (l + n) x & lengths (l + n) es
declarator l (declared_pointer n x xs) = pointer l n x (formals (suc l) xs)

mutual
  init : (l : ℕ) (i : Init) → Prints (init_kinds i) (OfInit l i)
  init l (value e) = given _ (exp (suc l) e)
  init l (braces is trailing at) = o (p punct.OpenBrace) at (suc l) & inits (suc l) is & if_some trailing (p punct.Comma) (t (p punct.Comma) (suc l)) & t (p punct.CloseBrace) (suc l)
  init l (mutex_start at) = o (w word.PthreadMutexInitializer) at (suc l)
  init l (cond_start at) = o (w word.PthreadCondInitializer) at (suc l)
  init l (rwlock_start at) = o (w word.PthreadRwlockInitializer) at (suc l)

  inits : (l : ℕ) (is : Inits) → Prints (inits_kinds is) (OfInits l is)
  inits l no_init = record { says = λ ms rest h. absurd h }
  inits l (and_init i is) = init l i & more_inits l is

  more_inits : (l : ℕ) (is : Inits) → Prints (rest_init_kinds is) (OfMoreInits l is)
  more_inits l no_init = none
  more_inits l (and_init i is) = t (p punct.Comma) l & init l i & more_inits l is

object : (l : ℕ) (x : Object) → Prints (object_kinds x) (OfObject l x)
object l (plain d) = declarator l d
object l (initialised d i at) = declarator l d & o (p punct.Assign) at l & init l i

more_objects : (l : ℕ) (os : List Object) → Prints (rest_objects_kinds os) (OfMoreObjects l os)
more_objects l [] = none
more_objects l (x ∷ os) = t (p punct.Comma) l & object l x & more_objects l os

all_objects : (l : ℕ) (os : List Object) → Prints (objects_kinds os) (OfObjects l os)
all_objects l [] = record { says = λ ms rest h. absurd h }
all_objects l (x ∷ os) = object l x & more_objects l os

declaration : (l : ℕ) (d : Declares) → Prints (declares_kinds d) (OfDeclares l d)
declaration l (declares s os at) = given _ (specifiers l s & all_objects l os & t (p punct.Semicolon) l)

start : (l : ℕ) (s : Start) → Prints (start_kinds s) (OfStart l s)
start l (start_declares d) = declaration l d
start l (start_computes e) = maybe_exp l e & t (p punct.Semicolon) l

mutual
  statement : (l : ℕ) (s : Statement) → Prints (stmt_kinds s) (OfStatement l s)
  statement l (block ps at) = o (p punct.OpenBrace) at (suc l) & parts (suc l) ps & t (p punct.CloseBrace) (suc l)
  statement l (compute None at) = o (p punct.Semicolon) at (suc l)
  statement l (compute (Some e) at) = given _ (exp (suc l) e & t (p punct.Semicolon) (suc l))
  statement l (break_at at) = o (w word.Break) at (suc l) & t (p punct.Semicolon) (suc l)
  statement l (continue_at at) = o (w word.Continue) at (suc l) & t (p punct.Semicolon) (suc l)
  statement l (gives e at) = o (w word.Return) at (suc l) & maybe_exp (suc l) e & t (p punct.Semicolon) (suc l)
  statement l (branch e a at) = o (w word.If) at (suc l) & t (p punct.OpenParen) (suc l) & exp (suc l) e & t (p punct.CloseParen) (suc l) & statement (suc l) a
  statement l (branch_else e a b at) =
      given _ (o (w word.If) at (suc l) & t (p punct.OpenParen) (suc l) & exp (suc l) e & t (p punct.CloseParen) (suc l) & statement (suc l) a & t (w word.Else) (suc l) & statement (suc l) b)
  statement l (while_loop e a at) = o (w word.While) at (suc l) & t (p punct.OpenParen) (suc l) & exp (suc l) e & t (p punct.CloseParen) (suc l) & statement (suc l) a
  statement l (do_loop a e at) = o (w word.Do) at (suc l) & statement (suc l) a & t (w word.While) (suc l) & t (p punct.OpenParen) (suc l) & exp (suc l) e & t (p punct.CloseParen) (suc l) & t (p punct.Semicolon) (suc l)
  statement l (for_loop s test next a at) =
      o (w word.For) at (suc l) & t (p punct.OpenParen) (suc l) & start (suc l) s & maybe_exp (suc l) test & t (p punct.Semicolon) (suc l) & maybe_exp (suc l) next & t (p punct.CloseParen) (suc l) & statement (suc l) a

  parts : (l : ℕ) (ps : Parts) → Prints (parts_kinds ps) (OfParts l ps)
  parts l no_part = none
  parts l (and_declares d ps) = declaration l d & parts l ps
  parts l (and_does s ps) = statement l s & parts l ps

code : (c : Code) → Prints (code_kinds c) (OfCode c)
code (defined ps at) = o (p punct.OpenBrace) at 0 & parts 0 ps & t (p punct.CloseBrace) 0
code prototype = t (p punct.Semicolon) 0

more_declared : (ds : List Declared) → Prints (rest_declared_kinds ds) (OfMoreDeclared ds)
more_declared [] = none
more_declared (d ∷ ds) = t (p punct.Comma) 0 & declarator 0 d & more_declared ds

all_declared : (ds : List Declared) → Prints (all_declared_kinds ds) (OfAllDeclared ds)
all_declared [] = record { says = λ ms rest h. absurd h }
all_declared (d ∷ ds) = declarator 0 d & more_declared ds

members : (f : Fields) → Prints (fields_kinds f) (OfFields f)
members (fields s ds at) = given _ (specifiers 0 s & all_declared ds & t (p punct.Semicolon) 0)

more_members : (fs : List Fields) → Prints (all_fields_kinds fs) (OfMoreFields fs)
more_members [] = none
more_members (f ∷ fs) = members f & more_members fs

all_members : (fs : List Fields) → Prints (all_fields_kinds fs) (OfAllFields fs)
all_members [] = record { says = λ ms rest h. absurd h }
all_members (f ∷ fs) = members f & more_members fs

statics : (b : Bool) (s : Specifier) (at : Position) → Prints (if_there b (w word.Static)) (OfStatic b s at)
statics true s at = o (w word.Static) at 0
statics false s at = given _ none

outer : (x : Outer) → Prints (outer_kinds x) (OfOuter x)
outer (structure n fs) = t (w word.Struct) 0 & name 0 n & t (p punct.OpenBrace) 0 & all_members fs & t (p punct.CloseBrace) 0 & t (p punct.Semicolon) 0
outer (function b s n x xs c) = if_some b (w word.Static) (t (w word.Static) 0) & specifiers 0 s & stars 0 n & name 0 x & t (p punct.OpenParen) 0 & formals 0 xs & t (p punct.CloseParen) 0 & code c
outer (objects b s os at) = statics b s at & specifiers 0 s & all_objects 0 os & t (p punct.Semicolon) 0

program : (os : List Outer) → Prints (kinds_of os) (OfProgram os)
program [] = none
program (x ∷ os) = outer x & program os

pub prints : (os : List Outer) (ms : List Mark) → OfProgram os ms [] → kinds_at ms ≡ kinds_of os
prints os ms h = (program os).says ms [] h ∙ append-nil (kinds_of os)
