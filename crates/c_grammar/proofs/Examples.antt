-- There is a phrase of each kind.
use Rattle.std.proofs.Common.{◌≡◌, inl, inr, pos, ℕ, suc, ◌+◌, false, List, [], ◌∷◌, ◌++◌, None, refl, sym, append-nil, arith}
use Rattle.c_lexer.specs.declared.token.Kind.TheVariants as kind
use Rattle.c_lexer.specs.declared.token.Punct.{Punct}
use Rattle.c_lexer.specs.declared.token.Punct.TheVariants as punct
use Rattle.c_lexer.specs.declared.token.Word.TheVariants as word
use Rattle.c_tree.specs.declared.name.Name.{Name}
use Rattle.c_tree.specs.declared.ctype.Specifier.{Specifier}
use Rattle.c_tree.specs.declared.ctype.Specifier.TheVariants as specifier
use Rattle.c_tree.specs.Tree.{Exp, number, paren, formal, no_formals, declared, mutex_start, plain, Declared, declares, start_computes, compute, prototype, fields, objects}
use Rattle.rr_base.specs.declared.position.Position.{Position}
use Rattle.rr_base.specs.Positions.{position_at}
use Rattle.c_print.specs.Kinds.{p, w}
use Rattle.c_grammar.specs.Grammar.{specifier_place}
use Rattle.c_grammar.specs.Marks.{Mark, mark}
use Rattle.c_grammar.specs.Phrase as phrase
use Rattle.c_grammar.specs.Phrase.{Phrase, object_head, object_front, initials}
use Rattle.c_grammar.specs.Parse.{kind_of, Rule, ret, one, heads, fronts, choose}
use Rattle.c_grammar.specs.Parse as rule
use Rattle.c_grammar.proofs.Tokens.{example}
use Rattle.c_grammar.proofs.Works.{HasPhrase, spells_both}
use Rattle.c_grammar.proofs.Language.{OfHead, OfFront, Of, Lang}

abbrev at : Position
at = position_at 1 1

abbrev zero_at : Exp
zero_at = number (pos 0) at

abbrev zero_mark : ℕ → Mark
zero_mark l = mark (kind.Number (pos 0)) at (suc l)

abbrev sign : Punct → ℕ → Mark
sign x l = mark (p x) at l

abbrev a_name : Name
a_name = record { text = []; at = at }

abbrev name_mark : ℕ → Mark
name_mark l = mark (kind.Name []) at l

abbrev int : Specifier
int = specifier.Int at

abbrev int_mark : ℕ → Mark
int_mark l = mark (w word.Int) at l

abbrev an_object : Declared
an_object = declared 0 a_name []

same_level : (l : ℕ) → l ≡ l + 0
same_level l = omega arith

some_declared : (l : ℕ) → (k : List Mark) → Of (phrase.declarator l) an_object (name_mark (l + 0) ∷ k) k
some_declared l k = (name_mark (l + 0) ∷ k, refl, (k, refl, refl))

pub some_of : (n : Phrase) → HasPhrase (Of n)
some_of (phrase.specifier l) = (int, int_mark l ∷ [], λ k. refl)
some_of (phrase.stars l n) = (n, [], λ k. (0, same_level n, refl))
some_of (phrase.type_name l) = (record { specifier = int; stars = 0; at = at }, int_mark l ∷ [], λ k. (refl, (k, refl, refl)))
some_of (phrase.expression l) = (zero_at, zero_mark l ∷ [], λ k. refl)
some_of (phrase.more l es) = (es, [], λ k. ([], sym (append-nil es), refl))
some_of (phrase.assignment l) = (zero_at, zero_mark l ∷ [], λ k. (omega arith, refl))
some_of (phrase.conditional_part l) = (zero_at, zero_mark l ∷ [], λ k. (omega arith, refl))
some_of (phrase.operands l) = (zero_at, zero_mark l ∷ [], λ k. (omega arith, refl))
some_of (phrase.chain l e) = (e, [], λ k. ([], (refl, refl)))
some_of (phrase.unary l) = (zero_at, zero_mark l ∷ [], λ k. (omega arith, refl))
some_of (phrase.unary_plain l) = (zero_at, zero_mark l ∷ [], λ k. (refl, omega arith, refl, refl))
some_of (phrase.opened l there) = (paren zero_at there, zero_mark (suc l) ∷ sign punct.CloseParen (suc l) ∷ [], λ k. (omega arith, (zero_mark (suc l) ∷ sign punct.CloseParen (suc l) ∷ k, refl, (sign punct.CloseParen (suc l) ∷ k, refl, (at, refl)))))
some_of (phrase.enclosed l there) = (paren zero_at there, zero_mark (suc l) ∷ sign punct.CloseParen (suc l) ∷ [], λ k. (omega arith, refl, (zero_mark (suc l) ∷ sign punct.CloseParen (suc l) ∷ k, refl, (sign punct.CloseParen (suc l) ∷ k, refl, (at, refl)))))
some_of (phrase.atom l) = (zero_at, zero_mark l ∷ [], λ k. (refl, refl))
some_of (phrase.postfix l e) = (e, [], λ k. ([], (refl, refl)))
some_of (phrase.arguments l) = ([], sign punct.CloseParen l ∷ [], λ k. (sign punct.CloseParen l ∷ k, refl, (at, refl)))
some_of (phrase.maybe_expression l stop) = (None, [], λ k. refl)
some_of (phrase.pointer l) = (
  (a_name, no_formals),
  sign punct.Star l ∷ name_mark l ∷ sign punct.CloseParen l ∷ sign punct.OpenParen (suc l) ∷ sign punct.CloseParen (suc l) ∷ [],
  λ k. let close = sign punct.CloseParen (suc l) ∷ k in
      (name_mark l ∷ sign punct.CloseParen l ∷ sign punct.OpenParen (suc l) ∷ close, (at, refl), (sign punct.CloseParen l ∷ sign punct.OpenParen (suc l) ∷ close, refl, (sign punct.OpenParen (suc l) ∷ close, (at, refl), (close, (at, refl), (close, refl, (at, refl)))))),
)
some_of (phrase.declarator l) = (an_object, name_mark (l + 0) ∷ [], some_declared l)
some_of (phrase.lengths l es) = (es, [], λ k. ([], sym (append-nil es), refl))
some_of (phrase.initial l) = (mutex_start at, mark (w word.PthreadMutexInitializer) at (suc l) ∷ [], λ k. refl)
some_of (phrase.more_initials l is) = (initials (is ++ []) false, [], λ k. ([], false, refl, (k, refl, refl)))
some_of (phrase.object l) = (plain an_object, name_mark (l + 0) ∷ [], some_declared l)
some_of (phrase.object_past l d) = (plain d, [], λ k. inl (refl, refl))
some_of (phrase.more_objects l os) = (os, [], λ k. ([], sym (append-nil os), refl))
some_of (phrase.declaration l) = (
  declares int (plain an_object ∷ []) at,
  int_mark l ∷ name_mark (l + 0) ∷ sign punct.Semicolon l ∷ [],
  λ k. (refl, (name_mark (l + 0) ∷ sign punct.Semicolon l ∷ k, refl, (sign punct.Semicolon l ∷ k, (sign punct.Semicolon l ∷ k, some_declared l (sign punct.Semicolon l ∷ k), refl), (at, refl)))),
)
some_of (phrase.start l) = (start_computes None, sign punct.Semicolon l ∷ [], λ k. (sign punct.Semicolon l ∷ k, refl, (at, refl)))
some_of (phrase.statement l) = (compute None at, sign punct.Semicolon (suc l) ∷ [], λ k. refl)
some_of (phrase.parts l ps) = (ps, [], λ k. ([], sym (append-nil ps), refl))
some_of (phrase.param l) = (formal int 0 None at, int_mark l ∷ [], λ k. (refl, (k, refl, (k, refl, refl))))
some_of (phrase.param_after l s) = (formal s 0 None (specifier_place s), [], λ k. inl (0, None, refl, (k, refl, refl)))
some_of (phrase.more_params l xs) = (xs, [], λ k. ([], sym (append-nil xs), refl))
some_of (phrase.params l) = (no_formals, [], λ k. refl)
some_of phrase.code = (prototype, sign punct.Semicolon 0 ∷ [], λ k. (at, refl))
some_of (phrase.more_declared ds) = (ds, [], λ k. ([], sym (append-nil ds), refl))
some_of phrase.member = (
  fields int (an_object ∷ []) at,
  int_mark 0 ∷ name_mark 0 ∷ sign punct.Semicolon 0 ∷ [],
  λ k. (refl, (name_mark 0 ∷ sign punct.Semicolon 0 ∷ k, refl, (sign punct.Semicolon 0 ∷ k, (sign punct.Semicolon 0 ∷ k, some_declared 0 (sign punct.Semicolon 0 ∷ k), refl), (at, refl)))),
)
some_of (phrase.more_members fs) = (fs, [], λ k. ([], sym (append-nil fs), refl))
some_of phrase.outer = (
  objects false int (plain an_object ∷ []) at,
  int_mark 0 ∷ name_mark 0 ∷ sign punct.Semicolon 0 ∷ [],
  λ k. (int_mark 0 ∷ name_mark 0 ∷ sign punct.Semicolon 0 ∷ k, (refl, refl), (name_mark 0 ∷ sign punct.Semicolon 0 ∷ k, refl, (sign punct.Semicolon 0 ∷ k, (sign punct.Semicolon 0 ∷ k, some_declared 0 (sign punct.Semicolon 0 ∷ k), refl), (at, refl)))),
)
some_of (phrase.outer_after is_static s there) = (
  objects is_static s (plain an_object ∷ []) there,
  name_mark 0 ∷ sign punct.Semicolon 0 ∷ [],
  λ k. inr (plain an_object ∷ [], refl, (sign punct.Semicolon 0 ∷ k, (sign punct.Semicolon 0 ∷ k, some_declared 0 (sign punct.Semicolon 0 ∷ k), refl), (at, refl))),
)
some_of (phrase.program os) = (os, [], λ k. ([], sym (append-nil os), refl))

pub some_head : HasPhrase OfHead
some_head = (object_head 0 [] at, name_mark 0 ∷ [], λ k. (name_mark 0 ∷ k, refl, refl))

pub some_front : (l : ℕ) → HasPhrase (OfFront l)
some_front l = (object_front 0 [] at, name_mark (l + 0) ∷ [], λ k. (name_mark (l + 0) ∷ k, refl, refl))

pub some_lang : {A : Type 0} (limit : ℕ) (g : Rule A) → HasPhrase (Lang g)
some_lang limit (ret a) = (a, [], λ k. (refl, refl))
some_lang limit (one c l f) =
    let next = some_lang limit (f (example c) at) in
    (next.0, mark (kind_of c (example c)) at l ∷ next.1, λ k. ((example c, at), next.1 ++ k, refl, next.2 k))
some_lang limit (rule.call n f) =
    let this = some_of n in let next = some_lang limit (f this.0) in
    (next.0, this.1 ++ next.1, spells_both limit (Of n) (λ x. Lang (f x)) this.0 next.0 this.1 next.1 this.2 next.2)
some_lang limit (heads f) =
    let next = some_lang limit (f some_head.0) in
    (next.0, some_head.1 ++ next.1, spells_both limit OfHead (λ x. Lang (f x)) some_head.0 next.0 some_head.1 next.1 some_head.2 next.2)
some_lang limit (fronts l f) =
    let this = some_front l in let next = some_lang limit (f this.0) in
    (next.0, this.1 ++ next.1, spells_both limit (OfFront l) (λ x. Lang (f x)) this.0 next.0 this.1 next.1 this.2 next.2)
some_lang limit (choose test g h) = let next = some_lang limit h in (next.0, next.1, λ k. inr (next.2 k))
