-- The grammar: which trees are trees of the language, and which tokens each stands for, with their places and levels. A
-- level is given to each production from outside; a statement, an assignment and an initial stand one above it, and what
-- is called a context here is the level before that.
use Rattle.std.specs.Prelude.{◌≡◌, ℕ, zero, suc, ◌+◌, ◌≤◌, ◌<◌, Bool, true, false, ◌&&◌, List, [], ◌∷◌, Option, Some, None}
use Rattle.c_lexer.specs.declared.token.Kind.TheVariants as kind
use Rattle.c_lexer.specs.declared.token.Punct.TheVariants as punct
use Rattle.c_lexer.specs.declared.token.Word.TheVariants as word
use Rattle.c_tree.specs.declared.name.Name.{Name}
use Rattle.c_tree.specs.declared.ctype.Specifier.{Specifier}
use Rattle.c_tree.specs.declared.ctype.Specifier.TheVariants as specifier
use Rattle.c_tree.specs.declared.ctype.CType.{CType}
use Rattle.c_tree.specs.declared.expr.BinaryOp.{BinaryOp}
use Rattle.c_tree.specs.declared.expr.BinaryOp.TheVariants as binary_op
use Rattle.c_tree.specs.Tree.{Exp, comma, assign, conditional, binary, prefix, sizeof_exp, sizeof_type, cast, index, member, arrow, post_increment, post_decrement, named, call, number, letter, text, null, paren, Exps, no_exp, and_exp, Formal, formal, formal_pointer, Formals, no_formals, void_formals, listed_formals, FormalRow, no_formal, and_formal, Declared, declared, declared_pointer, Init, value, braces, mutex_start, cond_start, rwlock_start, Inits, no_init, and_init, Object, plain, initialised, Declares, declares, Start, start_declares, start_computes, Statement, block, compute, break_at, continue_at, gives, branch, branch_else, while_loop, do_loop, for_loop, Parts, no_part, and_declares, and_does, Code, defined, prototype, Fields, fields, Outer, structure, function, objects}
use Rattle.rr_base.specs.declared.position.Position.{Position}
use Rattle.c_print.specs.Kinds.{p, w, prefix_punct, binary_punct, assign_punct}
use Rattle.c_grammar.specs.Marks.{Beginning, own, other, ◌>>◌, nothing, never, maybe, provided}

-- ---- types

-- where its first byte stands, as line and column
abbrev pub name_place : Name → Position
name_place n = n.at

-- the place of its first word
abbrev pub specifier_place : Specifier → Position
specifier_place (specifier.Int at) = at
specifier_place (specifier.Long second int at) = at
specifier_place (specifier.Void at) = at
specifier_place (specifier.Struct name at) = at
specifier_place (specifier.PthreadT at) = at
specifier_place (specifier.PthreadMutexT at) = at
specifier_place (specifier.PthreadCondT at) = at
specifier_place (specifier.PthreadBarrierT at) = at
specifier_place (specifier.PthreadRwlockT at) = at

-- an identifier (C99 6.4.2), whose place the tree keeps
abbrev pub OfName : ℕ → Name → Beginning
OfName l n = own (kind.Name n.text) (name_place n) l

-- all at level l
abbrev pub OfSpecifier : ℕ → Specifier → Beginning
OfSpecifier l (specifier.Int at) = own (w word.Int) at l
OfSpecifier l (specifier.Long second int at) = own (w word.Long) at l >> maybe second (other (w word.Long) l) >> maybe int (other (w word.Int) l)
OfSpecifier l (specifier.Void at) = own (w word.Void) at l
OfSpecifier l (specifier.Struct name at) = own (w word.Struct) at l >> OfName l name
OfSpecifier l (specifier.PthreadT at) = own (w word.PthreadT) at l
OfSpecifier l (specifier.PthreadMutexT at) = own (w word.PthreadMutexT) at l
OfSpecifier l (specifier.PthreadCondT at) = own (w word.PthreadCondT) at l
OfSpecifier l (specifier.PthreadBarrierT at) = own (w word.PthreadBarrierT) at l
OfSpecifier l (specifier.PthreadRwlockT at) = own (w word.PthreadRwlockT) at l

-- stars that raise nothing
abbrev pub OfStars : ℕ → ℕ → Beginning
OfStars l zero = nothing
OfStars l (suc n) = other (p punct.Star) l >> OfStars l n

-- a type name (C99 6.7.6): a specifier and stars, all at level l
abbrev pub OfType : ℕ → CType → Beginning
OfType l t = provided (t.at ≡ specifier_place t.specifier) (OfSpecifier l t.specifier >> OfStars l t.stars)

-- ---- expressions

-- how tightly an operator binds, from the loosest
abbrev pub tightness : BinaryOp → ℕ
tightness binary_op.LogicalOr = 3
tightness binary_op.LogicalAnd = 4
tightness binary_op.Or = 5
tightness binary_op.Xor = 6
tightness binary_op.And = 7
tightness binary_op.Equal = 8
tightness binary_op.NotEqual = 8
tightness binary_op.Less = 9
tightness binary_op.Greater = 9
tightness binary_op.LessEqual = 9
tightness binary_op.GreaterEqual = 9
tightness binary_op.ShiftLeft = 10
tightness binary_op.ShiftRight = 10
tightness binary_op.Add = 11
tightness binary_op.Subtract = 11
tightness binary_op.Multiply = 12
tightness binary_op.Divide = 12
tightness binary_op.Remainder = 12

-- how tightly an expression holds together: a comma expression 0, an assignment 1, a conditional 2, then the levels of
-- binary operators, what a prefix operator begins 13, what a postfix operator may follow 14
abbrev pub binds : Exp → ℕ
binds (comma e es place) = 0
binds (assign a op b place) = 1
binds (conditional a b c place) = 2
binds (binary a op b place) = tightness op
binds (prefix op a place) = 13
binds (sizeof_exp a place) = 13
binds (sizeof_type t place) = 13
binds (cast t a place) = 13
binds (index a b place) = 14
binds (member a name place) = 14
binds (arrow a name place) = 14
binds (post_increment a place) = 14
binds (post_decrement a place) = 14
binds (named name place) = 14
binds (call name es place) = 14
binds (number n place) = 14
binds (letter n place) = 14
binds (text bytes place) = 14
binds (null place) = 14
binds (paren a place) = 14

-- the place of the first token
abbrev pub first_place : Exp → Position
first_place (comma e es place) = first_place e
first_place (assign a op b place) = first_place a
first_place (conditional a b c place) = first_place a
first_place (binary a op b place) = first_place a
first_place (prefix op a place) = place
first_place (sizeof_exp a place) = place
first_place (sizeof_type t place) = place
first_place (cast t a place) = place
first_place (index a b place) = first_place a
first_place (member a name place) = first_place a
first_place (arrow a name place) = first_place a
first_place (post_increment a place) = first_place a
first_place (post_decrement a place) = first_place a
first_place (named name place) = place
first_place (call name es place) = place
first_place (number n place) = place
first_place (letter n place) = place
first_place (text bytes place) = place
first_place (null place) = place
first_place (paren a place) = place

-- the binary operators of its chain of operands
abbrev pub operators_in : Exp → ℕ
operators_in (binary a op b place) = operators_in a + suc (operators_in b)
operators_in _ = 0

-- the postfix operators after its innermost operand
abbrev pub postfixes_in : Exp → ℕ
postfixes_in (index a b place) = suc (postfixes_in a)
postfixes_in (member a name place) = suc (postfixes_in a)
postfixes_in (arrow a name place) = suc (postfixes_in a)
postfixes_in (post_increment a place) = suc (postfixes_in a)
postfixes_in (post_decrement a place) = suc (postfixes_in a)
postfixes_in _ = 0

-- a cast, which the operand of `sizeof` may not be (C99 6.5.3)
abbrev pub is_cast : Exp → Bool
is_cast (cast t a place) = true
is_cast _ = false

-- there are some
abbrev pub HasSome : Exps → Type 0
HasSome no_exp = ⊥
HasSome (and_exp e es) = Unit {0}

abbrev mutual
  -- In a context at level l, so that its first token is above it. Each level of operators groups to the left.
  pub OfExp : ℕ → Exp → Beginning
  OfExp l (comma e es place) = provided ((place ≡ first_place e) × (1 ≤ binds e) × HasSome es) (OfExp l e >> OfMore l es)
  OfExp l (assign a op b place) =
      provided ((2 ≤ binds a) × (1 ≤ binds b)) (OfExp l a >> own (p (assign_punct op)) place (suc (suc l)) >> OfExp (suc (suc l)) b)
  OfExp l (conditional a b c place) =
      provided ((3 ≤ binds a) × (2 ≤ binds c)) (OfExp l a >> own (p punct.Question) place (suc (suc l)) >> OfExp (suc (suc l)) b >> other (p punct.Colon) (suc (suc l)) >> OfExp (suc l) c)
  OfExp l (binary a op b place) =
      provided ((tightness op ≤ binds a) × (tightness op < binds b)) (OfExp l a >> own (p (binary_punct op)) place (suc (suc (l + operators_in a))) >> OfExp (suc (l + operators_in a)) b)
  OfExp l (prefix op a place) = provided (13 ≤ binds a) (own (p (prefix_punct op)) place (suc l) >> OfExp (suc l) a)
  OfExp l (sizeof_exp a place) = provided ((13 ≤ binds a) × (is_cast a ≡ false)) (own (w word.Sizeof) place (suc l) >> OfExp (suc l) a)
  OfExp l (sizeof_type t place) = own (w word.Sizeof) place (suc l) >> other (p punct.OpenParen) (suc (suc l)) >> OfType (suc (suc l)) t >> other (p punct.CloseParen) (suc (suc l))
  OfExp l (cast t a place) = provided (13 ≤ binds a) (own (p punct.OpenParen) place (suc l) >> OfType (suc l) t >> other (p punct.CloseParen) (suc l) >> OfExp (suc l) a)
  OfExp l (index a b place) =
      provided (14 ≤ binds a) (OfExp l a >> own (p punct.OpenBracket) place (suc (suc (l + postfixes_in a))) >> OfExp (suc (suc (l + postfixes_in a))) b >> other (p punct.CloseBracket) (suc (suc (l + postfixes_in a))))
  OfExp l (member a name place) = provided (14 ≤ binds a) (OfExp l a >> own (p punct.Dot) place (suc (suc (l + postfixes_in a))) >> OfName (suc (suc (l + postfixes_in a))) name)
  OfExp l (arrow a name place) = provided (14 ≤ binds a) (OfExp l a >> own (p punct.Arrow) place (suc (suc (l + postfixes_in a))) >> OfName (suc (suc (l + postfixes_in a))) name)
  OfExp l (post_increment a place) = provided (14 ≤ binds a) (OfExp l a >> own (p punct.PlusPlus) place (suc (suc (l + postfixes_in a))))
  OfExp l (post_decrement a place) = provided (14 ≤ binds a) (OfExp l a >> own (p punct.MinusMinus) place (suc (suc (l + postfixes_in a))))
  OfExp l (named name place) = own (kind.Name name) place (suc l)
  OfExp l (call name es place) = own (kind.Name name) place (suc l) >> other (p punct.OpenParen) (suc l) >> OfExps (suc l) es >> other (p punct.CloseParen) (suc l)
  OfExp l (number n place) = own (kind.Number n) place (suc l)
  OfExp l (letter n place) = own (kind.Letter n) place (suc l)
  OfExp l (text bytes place) = own (kind.Text bytes) place (suc l)
  OfExp l (null place) = own (w word.Null) place (suc l)
  OfExp l (paren a place) = own (p punct.OpenParen) place (suc l) >> OfExp (suc l) a >> other (p punct.CloseParen) (suc l)

  -- assignments with commas between them
  pub OfExps : ℕ → Exps → Beginning
  OfExps l no_exp = nothing
  OfExps l (and_exp e es) = provided (1 ≤ binds e) (OfExp l e >> OfMore l es)

  -- each with a comma before it
  pub OfMore : ℕ → Exps → Beginning
  OfMore l no_exp = nothing
  OfMore l (and_exp e es) = provided (1 ≤ binds e) (other (p punct.Comma) l >> OfExp l e >> OfMore l es)

-- an expression that the source may leave out, as after `return`
abbrev pub OfMaybe : ℕ → Option Exp → Beginning
OfMaybe l None = nothing
OfMaybe l (Some e) = OfExp l e

-- ---- parameters

-- the name of a parameter, which need have none (C99 6.7.5.3)
abbrev pub OfMaybeName : ℕ → Option Name → Beginning
OfMaybeName l None = nothing
OfMaybeName l (Some n) = OfName l n

-- `void`, whatever stars or name follow it
abbrev pub is_void : Specifier → Bool
is_void (specifier.Void at) = true
is_void _ = false

-- neither a name nor a star, so that the specifier stands alone
abbrev pub is_nameless : Option Name → ℕ → Bool
is_nameless None zero = true
is_nameless _ _ = false

-- the word `void` alone, which is no parameter
abbrev pub is_void_alone : FormalRow → Bool
is_void_alone (and_formal (formal s n name place) no_formal) = is_void s && is_nameless name n
is_void_alone _ = false

-- `*name)(parameters)`, where the parameters and their parentheses stand one level deeper
abbrev pub OfPointed : ℕ → Name → Beginning → Beginning
OfPointed l name xs = other (p punct.Star) l >> OfName l name >> other (p punct.CloseParen) l >> other (p punct.OpenParen) (suc l) >> xs >> other (p punct.CloseParen) (suc l)

-- a pointer to a function (C99 6.7.5.3), as `** (*name)(parameters)`: the stars of its result, its name, its parameters
abbrev pub OfPointer : ℕ → ℕ → Name → Beginning → Beginning
OfPointer l n name xs = OfStars l n >> other (p punct.OpenParen) l >> OfPointed l name xs

abbrev mutual
  -- one parameter, whose place is that of its specifier
  pub OfFormal : ℕ → Formal → Beginning
  OfFormal l (formal s n name place) = provided (place ≡ specifier_place s) (OfSpecifier l s >> OfStars l n >> OfMaybeName l name)
  OfFormal l (formal_pointer s n name xs place) = provided (place ≡ specifier_place s) (OfSpecifier l s >> OfPointer l n name (OfFormals (suc l) xs))

  -- what stands in a function's parentheses (C99 6.7.5.3)
  pub OfFormals : ℕ → Formals → Beginning
  OfFormals l no_formals = nothing
  OfFormals l void_formals = other (w word.Void) l
  OfFormals l (listed_formals xs) = provided (is_void_alone xs ≡ false) (OfFormalRow l xs)

  -- one or more
  pub OfFormalRow : ℕ → FormalRow → Beginning
  OfFormalRow l no_formal = never
  OfFormalRow l (and_formal x xs) = OfFormal l x >> OfMoreFormals l xs

  -- the parameters after the first, each with a comma before it
  pub OfMoreFormals : ℕ → FormalRow → Beginning
  OfMoreFormals l no_formal = nothing
  OfMoreFormals l (and_formal x xs) = other (p punct.Comma) l >> OfFormal l x >> OfMoreFormals l xs

-- ---- declarations

-- stars each of which raises the level
abbrev pub OfRaisingStars : ℕ → ℕ → Beginning
OfRaisingStars l zero = nothing
OfRaisingStars l (suc n) = other (p punct.Star) (suc l) >> OfRaisingStars (suc l) n

-- each bracket raises the level
abbrev pub OfLengths : ℕ → List Exp → Beginning
OfLengths l [] = nothing
OfLengths l (e ∷ es) = provided (2 ≤ binds e) (other (p punct.OpenBracket) (suc l) >> OfExp l e >> other (p punct.CloseBracket) (suc l) >> OfLengths (suc l) es)

-- a declarator (C99 6.7.5), without its specifier
abbrev pub OfDeclared : ℕ → Declared → Beginning
OfDeclared l (declared n name lengths) = OfRaisingStars l n >> OfName (l + n) name >> OfLengths (l + n) lengths
OfDeclared l (declared_pointer n name xs) = OfPointer l n name (OfFormals (suc l) xs)

abbrev mutual
  pub OfInit : ℕ → Init → Beginning
  OfInit l (value e) = provided (1 ≤ binds e) (OfExp (suc l) e)
  OfInit l (braces is trailing place) = own (p punct.OpenBrace) place (suc l) >> OfInits (suc l) is >> maybe trailing (other (p punct.Comma) (suc l)) >> other (p punct.CloseBrace) (suc l)
  OfInit l (mutex_start place) = own (w word.PthreadMutexInitializer) place (suc l)
  OfInit l (cond_start place) = own (w word.PthreadCondInitializer) place (suc l)
  OfInit l (rwlock_start place) = own (w word.PthreadRwlockInitializer) place (suc l)

  -- one or more
  pub OfInits : ℕ → Inits → Beginning
  OfInits l no_init = never
  OfInits l (and_init i is) = OfInit l i >> OfMoreInits l is

  pub OfMoreInits : ℕ → Inits → Beginning
  OfMoreInits l no_init = nothing
  OfMoreInits l (and_init i is) = other (p punct.Comma) l >> OfInit l i >> OfMoreInits l is

-- a declarator and its first value, if any (C99 6.7.8)
abbrev pub OfObject : ℕ → Object → Beginning
OfObject l (plain d) = OfDeclared l d
OfObject l (initialised d i place) = OfDeclared l d >> own (p punct.Assign) place l >> OfInit l i

-- the objects after the first, each with a comma before it
abbrev pub OfMoreObjects : ℕ → List Object → Beginning
OfMoreObjects l [] = nothing
OfMoreObjects l (o ∷ os) = other (p punct.Comma) l >> OfObject l o >> OfMoreObjects l os

-- one or more
abbrev pub OfObjects : ℕ → List Object → Beginning
OfObjects l [] = never
OfObjects l (o ∷ os) = OfObject l o >> OfMoreObjects l os

-- a declaration of objects, with its semicolon (C99 6.7)
abbrev pub OfDeclares : ℕ → Declares → Beginning
OfDeclares l (declares s os place) = provided (place ≡ specifier_place s) (OfSpecifier l s >> OfObjects l os >> other (p punct.Semicolon) l)

-- ---- statements

-- an `else` after it would belong to it
abbrev pub ends_open : Statement → Bool
ends_open (block ps place) = false
ends_open (compute e place) = false
ends_open (break_at place) = false
ends_open (continue_at place) = false
ends_open (gives e place) = false
ends_open (branch e a place) = true
ends_open (branch_else e a b place) = ends_open b
ends_open (while_loop e a place) = ends_open a
ends_open (do_loop a e place) = false
ends_open (for_loop s test next a place) = ends_open a

-- the first clause of a `for`, with its semicolon (C99 6.8.5.3)
abbrev pub OfStart : ℕ → Start → Beginning
OfStart l (start_declares d) = OfDeclares l d
OfStart l (start_computes e) = OfMaybe l e >> other (p punct.Semicolon) l

abbrev mutual
  -- In a context at level l. An `else` belongs to the nearest `if`.
  pub OfStatement : ℕ → Statement → Beginning
  OfStatement l (block ps place) = own (p punct.OpenBrace) place (suc l) >> OfParts (suc l) ps >> other (p punct.CloseBrace) (suc l)
  OfStatement l (compute None place) = own (p punct.Semicolon) place (suc l)
  OfStatement l (compute (Some e) place) = provided (place ≡ first_place e) (OfExp (suc l) e >> other (p punct.Semicolon) (suc l))
  OfStatement l (break_at place) = own (w word.Break) place (suc l) >> other (p punct.Semicolon) (suc l)
  OfStatement l (continue_at place) = own (w word.Continue) place (suc l) >> other (p punct.Semicolon) (suc l)
  OfStatement l (gives e place) = own (w word.Return) place (suc l) >> OfMaybe (suc l) e >> other (p punct.Semicolon) (suc l)
  OfStatement l (branch e a place) = own (w word.If) place (suc l) >> other (p punct.OpenParen) (suc l) >> OfExp (suc l) e >> other (p punct.CloseParen) (suc l) >> OfStatement (suc l) a
  OfStatement l (branch_else e a b place) =
      provided (ends_open a ≡ false)
      (own (w word.If) place (suc l) >> other (p punct.OpenParen) (suc l) >> OfExp (suc l) e >> other (p punct.CloseParen) (suc l) >> OfStatement (suc l) a >> other (w word.Else) (suc l) >> OfStatement (suc l) b)
  OfStatement l (while_loop e a place) = own (w word.While) place (suc l) >> other (p punct.OpenParen) (suc l) >> OfExp (suc l) e >> other (p punct.CloseParen) (suc l) >> OfStatement (suc l) a
  OfStatement l (do_loop a e place) =
      own (w word.Do) place (suc l) >> OfStatement (suc l) a >> other (w word.While) (suc l) >> other (p punct.OpenParen) (suc l) >> OfExp (suc l) e >> other (p punct.CloseParen) (suc l) >> other (p punct.Semicolon) (suc l)
  OfStatement l (for_loop s test next a place) =
      own (w word.For) place (suc l) >> other (p punct.OpenParen) (suc l) >> OfStart (suc l) s >> OfMaybe (suc l) test >> other (p punct.Semicolon) (suc l) >> OfMaybe (suc l) next >> other (p punct.CloseParen) (suc l) >> OfStatement (suc l) a

  pub OfParts : ℕ → Parts → Beginning
  OfParts l no_part = nothing
  OfParts l (and_declares d ps) = OfDeclares l d >> OfParts l ps
  OfParts l (and_does s ps) = OfStatement l s >> OfParts l ps

-- ---- the outermost level

-- a body in braces, or the semicolon of a prototype
abbrev pub OfCode : Code → Beginning
OfCode (defined ps place) = own (p punct.OpenBrace) place 0 >> OfParts 0 ps >> other (p punct.CloseBrace) 0
OfCode prototype = other (p punct.Semicolon) 0

-- the members after the first of one specifier, each after a comma
abbrev pub OfMoreDeclared : List Declared → Beginning
OfMoreDeclared [] = nothing
OfMoreDeclared (d ∷ ds) = other (p punct.Comma) 0 >> OfDeclared 0 d >> OfMoreDeclared ds

-- the members of one specifier, one or more
abbrev pub OfAllDeclared : List Declared → Beginning
OfAllDeclared [] = never
OfAllDeclared (d ∷ ds) = OfDeclared 0 d >> OfMoreDeclared ds

-- members of one specifier, with their semicolon (C99 6.7.2.1)
abbrev pub OfFields : Fields → Beginning
OfFields (fields s ds place) = provided (place ≡ specifier_place s) (OfSpecifier 0 s >> OfAllDeclared ds >> other (p punct.Semicolon) 0)

-- what else stands in a struct's braces, perhaps nothing
abbrev pub OfMoreFields : List Fields → Beginning
OfMoreFields [] = nothing
OfMoreFields (f ∷ fs) = OfFields f >> OfMoreFields fs

-- one or more
abbrev pub OfAllFields : List Fields → Beginning
OfAllFields [] = never
OfAllFields (f ∷ fs) = OfFields f >> OfMoreFields fs

-- `static`, whose place is that of the whole, or none
abbrev pub OfStatic : Bool → Specifier → Position → Beginning
OfStatic true s place = own (w word.Static) place 0
OfStatic false s place = provided (place ≡ specifier_place s) nothing

-- an external declaration (C99 6.9), which begins at level 0
abbrev pub OfOuter : Outer → Beginning
OfOuter (structure name fs) = other (w word.Struct) 0 >> OfName 0 name >> other (p punct.OpenBrace) 0 >> OfAllFields fs >> other (p punct.CloseBrace) 0 >> other (p punct.Semicolon) 0
OfOuter (function is_static s n name xs code) =
    maybe is_static (other (w word.Static) 0) >> OfSpecifier 0 s >> OfStars 0 n >> OfName 0 name >> other (p punct.OpenParen) 0 >> OfFormals 0 xs >> other (p punct.CloseParen) 0 >> OfCode code
OfOuter (objects is_static s os place) = OfStatic is_static s place >> OfSpecifier 0 s >> OfObjects 0 os >> other (p punct.Semicolon) 0

-- a whole source, which may also be empty
abbrev pub OfProgram : List Outer → Beginning
OfProgram [] = nothing
OfProgram (o ∷ os) = OfOuter o >> OfProgram os
