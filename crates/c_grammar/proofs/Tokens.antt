-- What a token of a class tells is its kind.
use Rattle.std.proofs.Common.{◌≡◌, ◌==◌, pos, ℕ, zero, suc, Bool, true, false, List, [], ◌∷◌, Some, refl, sym, ◌∙◌, ap, arith}
use Rattle.std.proofs.lemmas.Bool.Decides.{nat_tests}
use Rattle.c_lexer.specs.declared.token.Kind.{Kind}
use Rattle.c_lexer.specs.declared.token.Kind.TheVariants as kind
use Rattle.c_lexer.specs.declared.token.Punct.{Punct}
use Rattle.c_lexer.specs.declared.token.Punct.TheVariants as punct
use Rattle.c_lexer.specs.declared.token.Word.{Word}
use Rattle.c_lexer.specs.declared.token.Word.TheVariants as word
use Rattle.c_tree.specs.declared.expr.PrefixOp.{PrefixOp}
use Rattle.c_tree.specs.declared.expr.PrefixOp.TheVariants as prefix_op
use Rattle.c_tree.specs.declared.expr.BinaryOp.{BinaryOp}
use Rattle.c_tree.specs.declared.expr.BinaryOp.TheVariants as binary_op
use Rattle.c_tree.specs.declared.expr.AssignOp.{AssignOp}
use Rattle.c_tree.specs.declared.expr.AssignOp.TheVariants as assign_op
use Rattle.c_print.specs.Kinds.{prefix_punct, binary_punct, assign_punct}
use Rattle.c_grammar.specs.Parse.{Class, sign, key, a_name, a_number, a_letter, a_text, a_prefix, a_binary, an_assign, Value, kind_of, punct_code, word_code, as_prefix, as_binary, as_assign, some_if, grab}

-- the one at that number
abbrev nth_punct : List Punct → ℕ → Punct
nth_punct [] n = punct.Comma
nth_punct (x ∷ xs) zero = x
nth_punct (x ∷ xs) (suc n) = nth_punct xs n

abbrev nth_word : List Word → ℕ → Word
nth_word [] n = word.Int
nth_word (x ∷ xs) zero = x
nth_word (x ∷ xs) (suc n) = nth_word xs n

abbrev puncts : List Punct
puncts = punct.ShiftLeftAssign ∷ punct.ShiftRightAssign ∷ punct.Arrow ∷ punct.PlusPlus ∷ punct.MinusMinus ∷ punct.ShiftLeft ∷ punct.ShiftRight ∷ punct.LessEqual ∷ punct.GreaterEqual ∷ punct.EqualEqual ∷ punct.NotEqual ∷ punct.AndAnd ∷ punct.OrOr ∷ punct.PlusAssign ∷ punct.MinusAssign ∷ punct.StarAssign ∷ punct.SlashAssign ∷ punct.PercentAssign ∷ punct.AndAssign ∷ punct.OrAssign ∷ punct.CaretAssign ∷ punct.OpenParen ∷ punct.CloseParen ∷ punct.OpenBracket ∷ punct.CloseBracket ∷ punct.OpenBrace ∷ punct.CloseBrace ∷ punct.Semicolon ∷ punct.Comma ∷ punct.Dot ∷ punct.And ∷ punct.Star ∷ punct.Plus ∷ punct.Minus ∷ punct.Tilde ∷ punct.Not ∷ punct.Slash ∷ punct.Percent ∷ punct.Less ∷ punct.Greater ∷ punct.Caret ∷ punct.Or ∷ punct.Question ∷ punct.Colon ∷ punct.Assign ∷ []

abbrev words : List Word
words = word.Int ∷ word.Long ∷ word.Void ∷ word.Struct ∷ word.If ∷ word.Else ∷ word.While ∷ word.Do ∷ word.For ∷ word.Break ∷ word.Continue ∷ word.Return ∷ word.Sizeof ∷ word.Static ∷ word.Null ∷ word.PthreadT ∷ word.PthreadMutexT ∷ word.PthreadCondT ∷ word.PthreadBarrierT ∷ word.PthreadRwlockT ∷ word.PthreadMutexInitializer ∷ word.PthreadCondInitializer ∷ word.PthreadRwlockInitializer ∷ []

decoded_punct : (x : Punct) → nth_punct puncts (punct_code x) ≡ x
decoded_punct punct.Comma = refl
decoded_punct _ = refl

decoded_word : (x : Word) → nth_word words (word_code x) ≡ x
decoded_word word.Int = refl
decoded_word _ = refl

same_code : (m n : ℕ) → (m == n) ≡ true → m ≡ n
same_code m n h = grind (arith, nat_tests)

code_same : (n : ℕ) → (n == n) ≡ true
code_same n = grind (arith, nat_tests)

pub same_punct : (x y : Punct) → (punct_code x == punct_code y) ≡ true → x ≡ y
same_punct x y h = sym (decoded_punct x) ∙ ap (nth_punct puncts) (same_code (punct_code x) (punct_code y) h) ∙ decoded_punct y

pub same_word : (x y : Word) → (word_code x == word_code y) ≡ true → x ≡ y
same_word x y h = sym (decoded_word x) ∙ ap (nth_word words) (same_code (word_code x) (word_code y) h) ∙ decoded_word y

some_if-true : (b : Bool) (u : Unit {0}) → some_if b ≡ Some u → b ≡ true
some_if-true true u e = refl
some_if-true false u e = cc

as_prefix-is : (y : Punct) (v : PrefixOp) → as_prefix y ≡ Some v → y ≡ prefix_punct v
as_prefix-is y v e = by y e
  where
    by : (y : Punct) → as_prefix y ≡ Some v → y ≡ prefix_punct v
    by punct.And e = let same : prefix_op.Address ≡ v = cc in ap prefix_punct same
    by punct.Star e = let same : prefix_op.Indirect ≡ v = cc in ap prefix_punct same
    by punct.Plus e = let same : prefix_op.Plus ≡ v = cc in ap prefix_punct same
    by punct.Minus e = let same : prefix_op.Minus ≡ v = cc in ap prefix_punct same
    by punct.Not e = let same : prefix_op.Not ≡ v = cc in ap prefix_punct same
    by punct.Tilde e = let same : prefix_op.Complement ≡ v = cc in ap prefix_punct same
    by punct.PlusPlus e = let same : prefix_op.Increment ≡ v = cc in ap prefix_punct same
    by punct.MinusMinus e = let same : prefix_op.Decrement ≡ v = cc in ap prefix_punct same
    by _ e = cc

as_binary-is : (y : Punct) (v : BinaryOp) → as_binary y ≡ Some v → y ≡ binary_punct v
as_binary-is y v e = by y e
  where
    by : (y : Punct) → as_binary y ≡ Some v → y ≡ binary_punct v
    by punct.OrOr e = let same : binary_op.LogicalOr ≡ v = cc in ap binary_punct same
    by punct.AndAnd e = let same : binary_op.LogicalAnd ≡ v = cc in ap binary_punct same
    by punct.Or e = let same : binary_op.Or ≡ v = cc in ap binary_punct same
    by punct.Caret e = let same : binary_op.Xor ≡ v = cc in ap binary_punct same
    by punct.And e = let same : binary_op.And ≡ v = cc in ap binary_punct same
    by punct.EqualEqual e = let same : binary_op.Equal ≡ v = cc in ap binary_punct same
    by punct.NotEqual e = let same : binary_op.NotEqual ≡ v = cc in ap binary_punct same
    by punct.Less e = let same : binary_op.Less ≡ v = cc in ap binary_punct same
    by punct.Greater e = let same : binary_op.Greater ≡ v = cc in ap binary_punct same
    by punct.LessEqual e = let same : binary_op.LessEqual ≡ v = cc in ap binary_punct same
    by punct.GreaterEqual e = let same : binary_op.GreaterEqual ≡ v = cc in ap binary_punct same
    by punct.ShiftLeft e = let same : binary_op.ShiftLeft ≡ v = cc in ap binary_punct same
    by punct.ShiftRight e = let same : binary_op.ShiftRight ≡ v = cc in ap binary_punct same
    by punct.Plus e = let same : binary_op.Add ≡ v = cc in ap binary_punct same
    by punct.Minus e = let same : binary_op.Subtract ≡ v = cc in ap binary_punct same
    by punct.Star e = let same : binary_op.Multiply ≡ v = cc in ap binary_punct same
    by punct.Slash e = let same : binary_op.Divide ≡ v = cc in ap binary_punct same
    by punct.Percent e = let same : binary_op.Remainder ≡ v = cc in ap binary_punct same
    by _ e = cc

as_assign-is : (y : Punct) (v : AssignOp) → as_assign y ≡ Some v → y ≡ assign_punct v
as_assign-is y v e = by y e
  where
    by : (y : Punct) → as_assign y ≡ Some v → y ≡ assign_punct v
    by punct.Assign e = let same : assign_op.Assign ≡ v = cc in ap assign_punct same
    by punct.PlusAssign e = let same : assign_op.Add ≡ v = cc in ap assign_punct same
    by punct.MinusAssign e = let same : assign_op.Subtract ≡ v = cc in ap assign_punct same
    by punct.StarAssign e = let same : assign_op.Multiply ≡ v = cc in ap assign_punct same
    by punct.SlashAssign e = let same : assign_op.Divide ≡ v = cc in ap assign_punct same
    by punct.PercentAssign e = let same : assign_op.Remainder ≡ v = cc in ap assign_punct same
    by punct.AndAssign e = let same : assign_op.And ≡ v = cc in ap assign_punct same
    by punct.OrAssign e = let same : assign_op.Or ≡ v = cc in ap assign_punct same
    by punct.CaretAssign e = let same : assign_op.Xor ≡ v = cc in ap assign_punct same
    by punct.ShiftLeftAssign e = let same : assign_op.ShiftLeft ≡ v = cc in ap assign_punct same
    by punct.ShiftRightAssign e = let same : assign_op.ShiftRight ≡ v = cc in ap assign_punct same
    by _ e = cc

prefix-as : (v : PrefixOp) → as_prefix (prefix_punct v) ≡ Some v
prefix-as prefix_op.Address = refl
prefix-as _ = refl

binary-as : (v : BinaryOp) → as_binary (binary_punct v) ≡ Some v
binary-as binary_op.Add = refl
binary-as _ = refl

assign-as : (v : AssignOp) → as_assign (assign_punct v) ≡ Some v
assign-as assign_op.Add = refl
assign-as _ = refl

pub grabbed : (c : Class) (k : Kind) (v : Value c) → grab c k ≡ Some v → k ≡ kind_of c v
grabbed (sign x) (kind.Punct y) v e = ap kind.Punct (sym (same_punct x y (some_if-true (punct_code x == punct_code y) v e)))
grabbed (key x) (kind.Word y) v e = ap kind.Word (sym (same_word x y (some_if-true (word_code x == word_code y) v e)))
grabbed a_name (kind.Name y) v e = let same : y ≡ v = cc in ap kind.Name same
grabbed a_number (kind.Number y) v e = let same : y ≡ v = cc in ap kind.Number same
grabbed a_letter (kind.Letter y) v e = let same : y ≡ v = cc in ap kind.Letter same
grabbed a_text (kind.Text y) v e = let same : y ≡ v = cc in ap kind.Text same
grabbed a_prefix (kind.Punct y) v e = ap kind.Punct (as_prefix-is y v e)
grabbed a_binary (kind.Punct y) v e = ap kind.Punct (as_binary-is y v e)
grabbed an_assign (kind.Punct y) v e = ap kind.Punct (as_assign-is y v e)
grabbed _ _ v e = cc

pub grabs : (c : Class) (v : Value c) → grab c (kind_of c v) ≡ Some v
grabs (sign x) v = ap some_if (code_same (punct_code x))
grabs (key x) v = ap some_if (code_same (word_code x))
grabs a_name v = refl
grabs a_number v = refl
grabs a_letter v = refl
grabs a_text v = refl
grabs a_prefix v = prefix-as v
grabs a_binary v = binary-as v
grabs an_assign v = assign-as v

-- there is a token of each class
pub example : (c : Class) → Value c
example (sign x) = tt
example (key x) = tt
example a_name = []
example a_number = pos 0
example a_letter = 0
example a_text = []
example a_prefix = prefix_op.Minus
example a_binary = binary_op.Add
example an_assign = assign_op.Assign
