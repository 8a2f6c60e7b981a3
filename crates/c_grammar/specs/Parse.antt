-- The parser on lists: rules as data, and how they are run on tokens.
use Rattle.std.specs.Prelude.{ℕ, suc, ◌+◌, ◌-◌, ℤ, Bool, true, false, if◌then◌else◌, nat_le, ◌==◌, List, [], ◌∷◌, drop, Option, Some, None, is_some}
use Rattle.c_lexer.specs.declared.token.Kind.{Kind}
use Rattle.c_lexer.specs.declared.token.Kind.TheVariants as kind
use Rattle.c_lexer.specs.declared.token.Punct.{Punct}
use Rattle.c_lexer.specs.declared.token.Punct.TheVariants as punct
use Rattle.c_lexer.specs.declared.token.Word.{Word}
use Rattle.c_lexer.specs.declared.token.Word.TheVariants as word
use Rattle.c_tree.specs.declared.expr.PrefixOp.{PrefixOp}
use Rattle.c_tree.specs.declared.expr.PrefixOp.TheVariants as prefix_op
use Rattle.c_tree.specs.declared.expr.BinaryOp.{BinaryOp}
use Rattle.c_tree.specs.declared.expr.BinaryOp.TheVariants as binary_op
use Rattle.c_tree.specs.declared.expr.AssignOp.{AssignOp}
use Rattle.c_tree.specs.declared.expr.AssignOp.TheVariants as assign_op
use Rattle.rr_base.specs.declared.position.Position.{Position}
use Rattle.c_print.specs.Kinds.{prefix_punct, binary_punct, assign_punct}
use Rattle.c_grammar.specs.Marks.{Lexeme}
use Rattle.c_grammar.specs.Phrase.{Phrase, TreeOf, Head, function_head, object_head, pointer_head, Front, object_front, pointer_front}

-- ---- tokens by class

-- what a token is looked at for
pub data Class : Type 0 where
  sign : Punct → Class
  key : Word → Class
  a_name : Class
  a_number : Class
  a_letter : Class
  a_text : Class
  a_prefix : Class
  a_binary : Class
  an_assign : Class

-- what a token of the class tells beside its place
abbrev pub Value : Class → Type 0
Value (sign x) = Unit {0}
Value (key x) = Unit {0}
Value a_name = List ℕ
Value a_number = ℤ
Value a_letter = ℕ
Value a_text = List ℕ
Value a_prefix = PrefixOp
Value a_binary = BinaryOp
Value an_assign = AssignOp

-- the lexer's kind for a class and its value: `grab` backwards
abbrev pub kind_of : (c : Class) → Value c → Kind
kind_of (sign x) v = kind.Punct x
kind_of (key x) v = kind.Word x
kind_of a_name v = kind.Name v
kind_of a_number v = kind.Number v
kind_of a_letter v = kind.Letter v
kind_of a_text v = kind.Text v
kind_of a_prefix v = kind.Punct (prefix_punct v)
kind_of a_binary v = kind.Punct (binary_punct v)
kind_of an_assign v = kind.Punct (assign_punct v)

-- a number for each, by which two are told apart
abbrev pub punct_code : Punct → ℕ
punct_code punct.ShiftLeftAssign = 0
punct_code punct.ShiftRightAssign = 1
punct_code punct.Arrow = 2
punct_code punct.PlusPlus = 3
punct_code punct.MinusMinus = 4
punct_code punct.ShiftLeft = 5
punct_code punct.ShiftRight = 6
punct_code punct.LessEqual = 7
punct_code punct.GreaterEqual = 8
punct_code punct.EqualEqual = 9
punct_code punct.NotEqual = 10
punct_code punct.AndAnd = 11
punct_code punct.OrOr = 12
punct_code punct.PlusAssign = 13
punct_code punct.MinusAssign = 14
punct_code punct.StarAssign = 15
punct_code punct.SlashAssign = 16
punct_code punct.PercentAssign = 17
punct_code punct.AndAssign = 18
punct_code punct.OrAssign = 19
punct_code punct.CaretAssign = 20
punct_code punct.OpenParen = 21
punct_code punct.CloseParen = 22
punct_code punct.OpenBracket = 23
punct_code punct.CloseBracket = 24
punct_code punct.OpenBrace = 25
punct_code punct.CloseBrace = 26
punct_code punct.Semicolon = 27
punct_code punct.Comma = 28
punct_code punct.Dot = 29
punct_code punct.And = 30
punct_code punct.Star = 31
punct_code punct.Plus = 32
punct_code punct.Minus = 33
punct_code punct.Tilde = 34
punct_code punct.Not = 35
punct_code punct.Slash = 36
punct_code punct.Percent = 37
punct_code punct.Less = 38
punct_code punct.Greater = 39
punct_code punct.Caret = 40
punct_code punct.Or = 41
punct_code punct.Question = 42
punct_code punct.Colon = 43
punct_code punct.Assign = 44

-- the same for words: equal numbers mean the same word
abbrev pub word_code : Word → ℕ
word_code word.Int = 0
word_code word.Long = 1
word_code word.Void = 2
word_code word.Struct = 3
word_code word.If = 4
word_code word.Else = 5
word_code word.While = 6
word_code word.Do = 7
word_code word.For = 8
word_code word.Break = 9
word_code word.Continue = 10
word_code word.Return = 11
word_code word.Sizeof = 12
word_code word.Static = 13
word_code word.Null = 14
word_code word.PthreadT = 15
word_code word.PthreadMutexT = 16
word_code word.PthreadCondT = 17
word_code word.PthreadBarrierT = 18
word_code word.PthreadRwlockT = 19
word_code word.PthreadMutexInitializer = 20
word_code word.PthreadCondInitializer = 21
word_code word.PthreadRwlockInitializer = 22

-- the operator that a sign means before its operand (C99 6.5.3)
abbrev pub as_prefix : Punct → Option PrefixOp
as_prefix punct.And = Some prefix_op.Address
as_prefix punct.Star = Some prefix_op.Indirect
as_prefix punct.Plus = Some prefix_op.Plus
as_prefix punct.Minus = Some prefix_op.Minus
as_prefix punct.Not = Some prefix_op.Not
as_prefix punct.Tilde = Some prefix_op.Complement
as_prefix punct.PlusPlus = Some prefix_op.Increment
as_prefix punct.MinusMinus = Some prefix_op.Decrement
as_prefix _ = None

-- the operator that a sign means between operands (C99 6.5.5 to 6.5.14)
abbrev pub as_binary : Punct → Option BinaryOp
as_binary punct.OrOr = Some binary_op.LogicalOr
as_binary punct.AndAnd = Some binary_op.LogicalAnd
as_binary punct.Or = Some binary_op.Or
as_binary punct.Caret = Some binary_op.Xor
as_binary punct.And = Some binary_op.And
as_binary punct.EqualEqual = Some binary_op.Equal
as_binary punct.NotEqual = Some binary_op.NotEqual
as_binary punct.Less = Some binary_op.Less
as_binary punct.Greater = Some binary_op.Greater
as_binary punct.LessEqual = Some binary_op.LessEqual
as_binary punct.GreaterEqual = Some binary_op.GreaterEqual
as_binary punct.ShiftLeft = Some binary_op.ShiftLeft
as_binary punct.ShiftRight = Some binary_op.ShiftRight
as_binary punct.Plus = Some binary_op.Add
as_binary punct.Minus = Some binary_op.Subtract
as_binary punct.Star = Some binary_op.Multiply
as_binary punct.Slash = Some binary_op.Divide
as_binary punct.Percent = Some binary_op.Remainder
as_binary _ = None

-- `=` and the compound assignments (C99 6.5.16)
abbrev pub as_assign : Punct → Option AssignOp
as_assign punct.Assign = Some assign_op.Assign
as_assign punct.PlusAssign = Some assign_op.Add
as_assign punct.MinusAssign = Some assign_op.Subtract
as_assign punct.StarAssign = Some assign_op.Multiply
as_assign punct.SlashAssign = Some assign_op.Divide
as_assign punct.PercentAssign = Some assign_op.Remainder
as_assign punct.AndAssign = Some assign_op.And
as_assign punct.OrAssign = Some assign_op.Or
as_assign punct.CaretAssign = Some assign_op.Xor
as_assign punct.ShiftLeftAssign = Some assign_op.ShiftLeft
as_assign punct.ShiftRightAssign = Some assign_op.ShiftRight
as_assign _ = None

-- for signs and words, of which only their being there is told
abbrev pub some_if : Bool → Option (Unit {0})
some_if true = Some tt
some_if false = None

-- what the token tells if it is of the class, else none
abbrev pub grab : (c : Class) → Kind → Option (Value c)
grab (sign x) (kind.Punct y) = some_if (punct_code x == punct_code y)
grab (key x) (kind.Word y) = some_if (word_code x == word_code y)
grab a_name (kind.Name v) = Some v
grab a_number (kind.Number v) = Some v
grab a_letter (kind.Letter v) = Some v
grab a_text (kind.Text v) = Some v
grab a_prefix (kind.Punct y) = as_prefix y
grab a_binary (kind.Punct y) = as_binary y
grab an_assign (kind.Punct y) = as_assign y
grab _ _ = None

-- whether a token of this kind is of the class
abbrev pub is_of : Class → Kind → Bool
is_of c k = is_some (grab c k)

-- what begins a specifier
abbrev pub is_type : Kind → Bool
is_type (kind.Word word.Int) = true
is_type (kind.Word word.Long) = true
is_type (kind.Word word.Void) = true
is_type (kind.Word word.Struct) = true
is_type (kind.Word word.PthreadT) = true
is_type (kind.Word word.PthreadMutexT) = true
is_type (kind.Word word.PthreadCondT) = true
is_type (kind.Word word.PthreadBarrierT) = true
is_type (kind.Word word.PthreadRwlockT) = true
is_type _ = false

-- what may follow a declarator of an object
abbrev pub follows_declarator : Kind → Bool
follows_declarator (kind.Punct punct.OpenBracket) = true
follows_declarator (kind.Punct punct.Assign) = true
follows_declarator (kind.Punct punct.Comma) = true
follows_declarator (kind.Punct punct.Semicolon) = true
follows_declarator _ = false

-- what may begin a declarator
abbrev pub begins_declarator : Kind → Bool
begins_declarator (kind.Punct punct.Star) = true
begins_declarator (kind.Punct punct.OpenParen) = true
begins_declarator (kind.Name x) = true
begins_declarator _ = false

-- ---- rules

-- how a phrase is read, as data, so that proofs can look at it
pub data Rule (A : Type 0) : Type 0 where
  -- this is the tree, and no token more
  ret : A → Rule A
  -- a token of the class, at a level
  one : (c : Class) → ℕ → (Value c → Position → Rule A) → Rule A
  -- a phrase
  call : (n : Phrase) → (TreeOf n → Rule A) → Rule A
  -- the head of a function or object
  heads : (Head → Rule A) → Rule A
  -- the front of a declarator in a context at a level
  fronts : ℕ → (Front → Rule A) → Rule A
  -- the first if the next token passes the test, else the second
  choose : (Kind → Bool) → Rule A → Rule A → Rule A

-- ---- running them

-- no program goes on with this token, or it is nested too deep
pub data Fault : Type 0 where
  Syntax : Fault
  Nesting : Fault

-- a tree and the tokens after it, a fault and the tokens from it on, or more phrases in one another than were allowed for
pub data Outcome (A : Type 0) : Type 0 where
  Got : A → List Lexeme → Outcome A
  Stuck : Fault → List Lexeme → Outcome A
  Spent : Outcome A

-- from the tokens that are left to a tree or a fault
abbrev pub Parser : Type 0 → Type 0
Parser A = List Lexeme → Outcome A

-- once one part has a fault or is spent, so is the whole
abbrev pub and_then : {A B : Type 0} → Outcome A → (A → Parser B) → Outcome B
and_then (Got a rest) f = f a rest
and_then (Stuck fault rest) f = Stuck fault rest
and_then Spent f = Spent

infixl 10 ◌>>=◌
-- what is read second may depend on the first tree
abbrev pub ◌>>=◌ : {A B : Type 0} → Parser A → (A → Parser B) → Parser B
p >>= f = λ ts. and_then (p ts) f

-- a wrong token is a `Syntax` fault even where it stands too deep
abbrev pub taken : {B : Type 0} → ℕ → ℕ → Option B → Lexeme → List Lexeme → Outcome (B × Position)
taken limit l None t ts = Stuck Syntax (t ∷ ts)
taken limit l (Some v) t ts = if nat_le l limit then Got (v, t.place) ts else Stuck Nesting (t ∷ ts)

-- one token of the class, which stands at level l
abbrev pub token : ℕ → (c : Class) → ℕ → Parser (Value c × Position)
token limit c l [] = Stuck Syntax []
token limit c l (t ∷ ts) = taken limit l (grab c t.kind) t ts

-- whether there is a next token, and one that passes the test
abbrev pub passes : (Kind → Bool) → List Lexeme → Bool
passes test [] = false
passes test (t ∷ ts) = test t.kind

-- how many `*` stand at the front, one right after another
abbrev pub star_count : List Lexeme → ℕ
star_count [] = 0
star_count (t ∷ ts) = if is_of (sign punct.Star) t.kind then suc (star_count ts) else 0

-- After n stars and a name: a parenthesis makes it a function, and what may follow a declarator an object. The stars of a
-- function raise no level, but those of an object do, so where there are too many of them they are only now known to be.
abbrev pub decided : ℕ → List Lexeme → ℕ → List ℕ → Position → Parser Head
decided limit stars n x place ts =
    if passes (is_of (sign punct.OpenParen)) ts then Got (function_head n x place) (drop 1 ts)
    else (if passes follows_declarator ts then (if nat_le n limit then Got (object_head n x place) ts else Stuck Nesting (drop limit stars))
    else Stuck Syntax ts)

-- the same where the name may be missing, which is a fault
abbrev pub decided_by : ℕ → List Lexeme → ℕ → Outcome (List ℕ × Position) → Outcome Head
decided_by limit stars n o = and_then o (λ x. decided limit stars n x.0 x.1)

-- After n stars: a parenthesis makes it a pointer to a function, whose stars raise no level.
abbrev pub headed : ℕ → List Lexeme → ℕ → Parser Head
headed limit stars n ts =
    if passes (is_of (sign punct.OpenParen)) ts then Got (pointer_head n) (drop 1 ts)
    else decided_by limit stars n (token limit a_name 0 ts)

-- at file level: stars, and whether a function, an object or a pointer to a function comes
abbrev pub outer_head : ℕ → Parser Head
outer_head limit ts = headed limit ts (star_count ts) (drop (star_count ts) ts)

-- After n stars and a name of an object: where a star stands too deep it is only now known to.
abbrev pub named_front : ℕ → ℕ → List Lexeme → ℕ → List ℕ → Position → Parser Front
named_front limit l stars n x place ts = if nat_le (l + n) limit then Got (object_front n x place) ts else Stuck Nesting (drop (limit - l) stars)

-- After n stars in a context at level l: a parenthesis makes it a pointer to a function, and a name an object. The stars of a
-- pointer raise no level, but each star of an object does.
abbrev pub fronted : ℕ → ℕ → List Lexeme → ℕ → Parser Front
fronted limit l stars n ts =
    if passes (is_of (sign punct.OpenParen)) ts then Got (pointer_front n) (drop 1 ts)
    else and_then (token limit a_name 0 ts) (λ x. named_front limit l stars n x.0 x.1)

-- of a declarator: stars, and whether an object or a pointer to a function comes
abbrev pub declarator_front : ℕ → ℕ → Parser Front
declarator_front limit l ts =
    if nat_le l limit then fronted limit l ts (star_count ts) (drop (star_count ts) ts)
    else (if passes begins_declarator ts then Stuck Nesting ts else Stuck Syntax ts)

-- with a parser for each phrase
abbrev pub run : {A : Type 0} → ℕ → ((n : Phrase) → Parser (TreeOf n)) → Rule A → Parser A
run limit env (ret a) = λ ts. Got a ts
run limit env (one c l f) = token limit c l >>= λ x. run limit env (f x.0 x.1)
run limit env (call n f) = env n >>= λ x. run limit env (f x)
run limit env (heads f) = outer_head limit >>= λ h. run limit env (f h)
run limit env (fronts l f) = declarator_front limit l >>= λ h. run limit env (f h)
run limit env (choose test g h) = λ ts. if passes test ts then run limit env g ts else run limit env h ts
