-- What each phrase of the rules may be, by the grammar.
use Rattle.std.proofs.Common.{◌≡◌, ◌⊎◌, ℕ, suc, ◌+◌, ◌≤◌, Bool, true, false, List, [], ◌∷◌, ◌++◌, Option}
use Rattle.c_lexer.specs.declared.token.Kind.TheVariants as kind
use Rattle.c_lexer.specs.declared.token.Punct.TheVariants as punct
use Rattle.c_tree.specs.declared.name.Name.{Name}
use Rattle.c_tree.specs.declared.expr.BinaryOp.{BinaryOp}
use Rattle.c_tree.specs.Tree.{Exp, index, member, arrow, post_increment, post_decrement, listed, named, call, number, letter, text, null, Formal, formal, formal_pointer, Formals, listed_row, Declared, Init, listed_inits, Object, plain, initialised, Part, listed_parts, Code, Fields, Outer, function, objects}
use Rattle.rr_base.specs.declared.position.Position.{Position}
use Rattle.c_print.specs.Kinds.{p, binary_punct}
use Rattle.c_grammar.specs.Marks.{Mark, mark, erase, Beginning, own, other, ◌>>◌, maybe, provided}
use Rattle.c_grammar.specs.Grammar.{specifier_place, binds, is_cast, OfName, OfSpecifier, OfStars, OfType, OfExp, OfExps, OfMore, OfMaybe, OfMaybeName, OfPointed, OfPointer, OfFormal, OfFormals, OfMoreFormals, OfRaisingStars, OfLengths, OfDeclared, OfInit, OfMoreInits, OfObject, OfMoreObjects, OfObjects, OfDeclares, OfStart, OfStatement, OfParts, OfCode, OfMoreDeclared, OfFields, OfMoreFields, OfOuter, OfProgram}
use Rattle.c_grammar.specs.Phrase as phrase
use Rattle.c_grammar.specs.Phrase.{Phrase, TreeOf, Head, function_head, object_head, pointer_head, Front, object_front, pointer_front, initials}
use Rattle.c_grammar.specs.Parse.{sign, Value, kind_of, is_of, passes, Rule, ret, one, heads, fronts, choose}
use Rattle.c_grammar.specs.Parse as rule
use Rattle.c_grammar.specs.Rules.{push}

-- ---- chains

-- an operator after a left operand, and its right operand
pub data Link : Type 0 where
  link : BinaryOp → Position → Exp → Link

abbrev pub Chained : ℕ → Exp → List Link → Exp → Beginning
Chained l left [] e ms rest = (e ≡ left) × (ms ≡ rest)
Chained l left (link op at u ∷ ops) e ms rest = (own (p (binary_punct op)) at (suc (suc l)) >> provided (13 ≤ binds u) (OfExp (suc l) u) >> Chained (suc l) (push left op u at) ops e) ms rest

-- a postfix operator
pub data Postfix : Type 0 where
  by_index : Exp → Position → Postfix
  by_member : Name → Position → Postfix
  by_arrow : Name → Position → Postfix
  by_increment : Position → Postfix
  by_decrement : Position → Postfix

abbrev pub applied : Exp → Postfix → Exp
applied a (by_index b at) = index a b at
applied a (by_member name at) = member a name at
applied a (by_arrow name at) = arrow a name at
applied a (by_increment at) = post_increment a at
applied a (by_decrement at) = post_decrement a at

-- all at level l but what is in brackets
abbrev pub OfPostfix : ℕ → Postfix → Beginning
OfPostfix l (by_index b at) = own (p punct.OpenBracket) at l >> OfExp l b >> other (p punct.CloseBracket) l
OfPostfix l (by_member name at) = own (p punct.Dot) at l >> OfName l name
OfPostfix l (by_arrow name at) = own (p punct.Arrow) at l >> OfName l name
OfPostfix l (by_increment at) = own (p punct.PlusPlus) at l
OfPostfix l (by_decrement at) = own (p punct.MinusMinus) at l

abbrev pub Postfixed : ℕ → Exp → List Postfix → Exp → Beginning
Postfixed l left [] e ms rest = (e ≡ left) × (ms ≡ rest)
Postfixed l left (op ∷ ops) e ms rest = (OfPostfix (suc (suc l)) op >> Postfixed (suc l) (applied left op) ops e) ms rest

abbrev pub is_atom : Exp → Bool
is_atom (named name at) = true
is_atom (call name es at) = true
is_atom (number n at) = true
is_atom (letter n at) = true
is_atom (text x at) = true
is_atom (null at) = true
is_atom _ = false

-- ---- heads

abbrev pub OfHead : Head → Beginning
OfHead (function_head n x at) = OfStars 0 n >> own (kind.Name x) at 0 >> other (p punct.OpenParen) 0
OfHead (object_head n x at) = OfRaisingStars 0 n >> own (kind.Name x) at n
OfHead (pointer_head n) = OfStars 0 n >> other (p punct.OpenParen) 0

abbrev pub OfFront : ℕ → Front → Beginning
OfFront l (object_front n x at) = OfRaisingStars l n >> own (kind.Name x) at (l + n)
OfFront l (pointer_front n) = OfStars l n >> other (p punct.OpenParen) l

-- ---- phrases

abbrev pub open_mark : ℕ → Position → Mark
open_mark l at = mark (p punct.OpenParen) at (suc l)

abbrev pub starts_open : List Mark → Bool
starts_open ms = passes (is_of (sign punct.OpenParen)) (erase ms)

abbrev pub Of : (n : Phrase) → TreeOf n → Beginning
Of (phrase.specifier l) s = OfSpecifier l s
Of (phrase.stars l n) k = λ ms rest. (m : ℕ) × (k ≡ n + m) × OfStars l m ms rest
Of (phrase.type_name l) t = OfType l t
Of (phrase.expression l) e = OfExp l e
Of (phrase.more l es) all = λ ms rest. (more : List Exp) × (all ≡ es ++ more) × OfMore l (listed more) ms rest
Of (phrase.assignment l) e = provided (1 ≤ binds e) (OfExp l e)
Of (phrase.conditional_part l) e = provided (2 ≤ binds e) (OfExp l e)
Of (phrase.operands l) e = provided (3 ≤ binds e) (OfExp l e)
Of (phrase.chain l left) e = λ ms rest. (ops : List Link) × Chained l left ops e ms rest
Of (phrase.unary l) e = provided (13 ≤ binds e) (OfExp l e)
Of (phrase.unary_plain l) e = λ ms rest. (starts_open ms ≡ false) × (13 ≤ binds e) × (is_cast e ≡ false) × OfExp l e ms rest
Of (phrase.opened l at) e = λ ms rest. (13 ≤ binds e) × OfExp l e (open_mark l at ∷ ms) rest
Of (phrase.enclosed l at) e = λ ms rest. (13 ≤ binds e) × (is_cast e ≡ false) × OfExp l e (open_mark l at ∷ ms) rest
Of (phrase.atom l) e = provided (is_atom e ≡ true) (OfExp l e)
Of (phrase.postfix l left) e = λ ms rest. (ops : List Postfix) × Postfixed l left ops e ms rest
Of (phrase.arguments l) es = OfExps l (listed es) >> other (p punct.CloseParen) l
Of (phrase.maybe_expression l stop) e = OfMaybe l e
Of (phrase.pointer l) x = OfPointed l x.0 (OfFormals (suc l) x.1)
Of (phrase.declarator l) d = OfDeclared l d
Of (phrase.lengths l es) all = λ ms rest. (more : List Exp) × (all ≡ es ++ more) × OfLengths l more ms rest
Of (phrase.initial l) i = OfInit l i
Of (phrase.more_initials l is) r = λ ms rest. (more : List Init) × (trailing : Bool) × (r ≡ initials (is ++ more) trailing) × (OfMoreInits l (listed_inits more) >> maybe trailing (other (p punct.Comma) l)) ms rest
Of (phrase.object l) o = OfObject l o
Of (phrase.object_past l d) o = λ ms rest. ((o ≡ plain d) × (ms ≡ rest)) ⊎ ((i : Init) × (at : Position) × (o ≡ initialised d i at) × (own (p punct.Assign) at l >> OfInit l i) ms rest)
Of (phrase.more_objects l os) all = λ ms rest. (more : List Object) × (all ≡ os ++ more) × OfMoreObjects l more ms rest
Of (phrase.declaration l) d = OfDeclares l d
Of (phrase.start l) s = OfStart l s
Of (phrase.statement l) s = OfStatement l s
Of (phrase.parts l ps) all = λ ms rest. (more : List Part) × (all ≡ ps ++ more) × OfParts l (listed_parts more) ms rest
Of (phrase.param l) x = OfFormal l x
Of (phrase.param_after l s) x = λ ms rest.
    ((n : ℕ) × (name : Option Name) × (x ≡ formal s n name (specifier_place s)) × (OfStars l n >> OfMaybeName l name) ms rest)
    ⊎ ((n : ℕ) × (name : Name) × (xs : Formals) × (x ≡ formal_pointer s n name xs (specifier_place s)) × OfPointer l n name (OfFormals (suc l) xs) ms rest)
Of (phrase.more_params l xs) all = λ ms rest. (more : List Formal) × (all ≡ xs ++ more) × OfMoreFormals l (listed_row more) ms rest
Of (phrase.params l) xs = OfFormals l xs
Of phrase.code c = OfCode c
Of (phrase.more_declared ds) all = λ ms rest. (more : List Declared) × (all ≡ ds ++ more) × OfMoreDeclared more ms rest
Of phrase.member f = OfFields f
Of (phrase.more_members fs) all = λ ms rest. (more : List Fields) × (all ≡ fs ++ more) × OfMoreFields more ms rest
Of phrase.outer o = OfOuter o
Of (phrase.outer_after is_static s at) o = λ ms rest.
    ((n : ℕ) × (name : Name) × (xs : Formals) × (c : Code) × (o ≡ function is_static s n name xs c) × (OfStars 0 n >> OfName 0 name >> other (p punct.OpenParen) 0 >> OfFormals 0 xs >> other (p punct.CloseParen) 0 >> OfCode c) ms rest)
    ⊎ ((os : List Object) × (o ≡ objects is_static s os at) × (OfObjects 0 os >> other (p punct.Semicolon) 0) ms rest)
Of (phrase.program os) all = λ ms rest. (more : List Outer) × (all ≡ os ++ more) × OfProgram more ms rest

-- ---- what a rule may read

-- whatever the next token
abbrev pub Lang : {A : Type 0} → Rule A → A → List Mark → List Mark → Type 0
Lang (ret a) x ms rest = (x ≡ a) × (ms ≡ rest)
Lang (one c l f) x ms rest = (v : Value c × Position) × (mid : List Mark) × (ms ≡ mark (kind_of c v.0) v.1 l ∷ mid) × Lang (f v.0 v.1) x mid rest
Lang (rule.call n f) x ms rest = (r : TreeOf n) × (mid : List Mark) × Of n r ms mid × Lang (f r) x mid rest
Lang (heads f) x ms rest = (h : Head) × (mid : List Mark) × OfHead h ms mid × Lang (f h) x mid rest
Lang (fronts l f) x ms rest = (h : Front) × (mid : List Mark) × OfFront l h ms mid × Lang (f h) x mid rest
Lang (choose test g h) x ms rest = Lang g x ms rest ⊎ Lang h x ms rest

-- everything that it may read is so
abbrev pub Holds : {A : Type 0} → Rule A → List Mark → (A → List Mark → Type 0) → Type 0
Holds (ret a) ms Q = Q a ms
Holds (one c l f) ms Q = (v : Value c) (at : Position) (mid : List Mark) → ms ≡ mark (kind_of c v) at l ∷ mid → Holds (f v at) mid Q
Holds (rule.call n f) ms Q = (r : TreeOf n) (mid : List Mark) → Of n r ms mid → Holds (f r) mid Q
Holds (heads f) ms Q = (h : Head) (mid : List Mark) → OfHead h ms mid → Holds (f h) mid Q
Holds (fronts l f) ms Q = (h : Front) (mid : List Mark) → OfFront l h ms mid → Holds (f h) mid Q
Holds (choose test g h) ms Q = Holds g ms Q × Holds h ms Q
