-- The rules of declarations, statements and what stands outermost choose what the grammar has.
use Rattle.std.proofs.Common.{◌≡◌, inl, inr, ℕ, zero, suc, ◌≤◌, Bool, true, false, List, [], ◌∷◌, Option, Some, None, refl, sym, ◌∙◌, ap, subst, append_assoc, append-nil, arith}
use Rattle.c_lexer.specs.declared.token.Kind.{Kind}
use Rattle.c_lexer.specs.declared.token.Kind.TheVariants as kind
use Rattle.c_lexer.specs.declared.token.Punct.TheVariants as punct
use Rattle.c_lexer.specs.declared.token.Word.TheVariants as word
use Rattle.c_tree.specs.Tree.{Exp, Declared, declared, declared_pointer, Init, value, braces, mutex_start, cond_start, rwlock_start, Inits, no_init, and_init, listed_inits, Object, plain, initialised, Declares, declares, start_declares, start_computes, Statement, block, compute, break_at, continue_at, gives, branch, branch_else, while_loop, do_loop, for_loop, Parts, no_part, and_declares, and_does, Part, part_declares, part_does, listed_parts}
use Rattle.c_print.specs.Kinds.{p}
use Rattle.c_grammar.specs.Marks.{Mark, mark, other, maybe}
use Rattle.c_grammar.specs.Grammar.{OfMaybe, OfDeclared, OfInit, OfMoreInits, OfObject, OfMoreObjects, OfObjects, OfDeclares, OfStatement, OfParts}
use Rattle.c_grammar.specs.Phrase as phrase
use Rattle.c_grammar.specs.Phrase.{object_front, pointer_front, initials}
use Rattle.c_grammar.specs.Parse.{sign, key, is_of, is_type, begins_declarator}
use Rattle.c_grammar.proofs.Ends.{joins, joins_next, next_is, sees, reads_word, AfterType, by_joins, by_test, joins_test, no_comma, no_equals, no_bracket, begins_exp, exp_begins, not_begun, not_open_brace, not_close_brace, not_pthread_mutex_initializer, not_pthread_cond_initializer, not_pthread_rwlock_initializer, not_type}
use Rattle.c_grammar.proofs.Expressions.{Chooses, joins_at, one_of_more, none_of_more, type_begins}

-- ---- declarators

pub chooses_pointer : (l : ℕ) → Chooses (phrase.pointer l)
chooses_pointer l x ms rest (m1, (p1, e1), (m2, en, (m3, (p3, e3), (m4, (p4, e4), (m5, h, (p6, e6)))))) ends =
    (tt, p1, m1, e1, (x.0.text, x.0.at, m2, en, (tt, p3, m3, e3, (tt, p4, m4, e4, (x.1, m5, h, ap (sees punct.CloseParen) e6, (tt, p6, rest, e6, (refl, refl)))))))

pub chooses_declarator : (l : ℕ) → Chooses (phrase.declarator l)
chooses_declarator l (declared n name es) ms rest (m1, hs, (m2, en, hl)) ends = (object_front n name.text name.at, m2, (m1, hs, en), (es, rest, (es, refl, hl), ends, (refl, refl)))
chooses_declarator l (declared_pointer n name xs) ms rest (m1, hs, (m2, eo, hp)) ends = (pointer_front n, m2, (m1, hs, eo), ((name, xs), rest, hp, tt, (refl, refl)))

pub chooses_lengths : (l : ℕ) (es : List Exp) → Chooses (phrase.lengths l es)
chooses_lengths l es all ms rest ([], e, h) ends = inr (ap (sees punct.OpenBracket) h ∙ by_joins 4 (is_of (sign punct.OpenBracket)) no_bracket rest (omega (arith, ends)), (none_of_more es all e, h))
chooses_lengths l es all ms rest (x ∷ xs, e, (tight, (m1, (at, eo), (m2, hx, (m3, (q, ec), hm))))) ends =
    inl (ap (sees punct.OpenBracket) eo, (tt, at, m1, eo, (x, m2, (tight, hx), joins_at 2 (mark (p punct.CloseBracket) q (suc l)) m2 m3 ec (omega arith), (tt, q, m3, ec, (all, rest, (xs, one_of_more es x xs all e, hm), ends, (refl, refl))))))

-- ---- initials

abbrev as_inits : Inits → List Init
as_inits no_init = []
as_inits (and_init i is) = i ∷ as_inits is

listed_as : (is : Inits) → listed_inits (as_inits is) ≡ is
listed_as no_init = refl
listed_as (and_init i is) = ap (and_init i) (listed_as is)

-- after an initial a comma comes, or the brace that closes all
before_inits : (l : ℕ) (is : Inits) (trailing : Bool) (ms mid rest : List Mark) → OfMoreInits l is ms mid → maybe trailing (other (p punct.Comma) l) mid rest → sees punct.CloseBrace rest ≡ true → joins_next ms ≤ 1
before_inits l no_init true ms mid rest h k e = joins_at 1 (mark (p punct.Comma) k.0 l) ms rest (h ∙ k.1) (omega arith)
before_inits l no_init false ms mid rest h k e = subst (λ z. joins_next z ≤ 1) (sym (h ∙ k)) (joins_test (is_of (sign punct.CloseBrace)) 1 is rest e)
  where
    is : (k : Kind) → is_of (sign punct.CloseBrace) k ≡ true → joins k ≤ 1
    is (kind.Punct punct.CloseBrace) h = omega arith
    is _ h = cc
before_inits l (and_init i is) trailing ms mid rest h k e = joins_at 1 (mark (p punct.Comma) h.1.0 l) ms h.0 h.1.1 (omega arith)

init_not_close : (l : ℕ) (i : Init) (ms rest : List Mark) → OfInit l i ms rest → sees punct.CloseBrace ms ≡ false
init_not_close l (value e) ms rest h = not_begun (is_of (sign punct.CloseBrace)) not_close_brace (suc l) e ms rest h.1
init_not_close l (braces is trailing at) ms rest h = ap (sees punct.CloseBrace) h.1
init_not_close l (mutex_start at) ms rest h = ap (sees punct.CloseBrace) h
init_not_close l (cond_start at) ms rest h = ap (sees punct.CloseBrace) h
init_not_close l (rwlock_start at) ms rest h = ap (sees punct.CloseBrace) h

pub chooses_initial : (l : ℕ) → Chooses (phrase.initial l)
chooses_initial l (value e) ms rest h ends =
    inr (
      not_begun (is_of (sign punct.OpenBrace)) not_open_brace (suc l) e ms rest h.1,
      inr (
        not_begun (is_of (key word.PthreadMutexInitializer)) not_pthread_mutex_initializer (suc l) e ms rest h.1,
        inr (
          not_begun (is_of (key word.PthreadCondInitializer)) not_pthread_cond_initializer (suc l) e ms rest h.1,
          inr (not_begun (is_of (key word.PthreadRwlockInitializer)) not_pthread_rwlock_initializer (suc l) e ms rest h.1, (e, rest, h, ends, (refl, refl))),
        ),
      ),
    )
chooses_initial l (mutex_start at) ms rest h ends = inr (ap (sees punct.OpenBrace) h, inl (ap (reads_word word.PthreadMutexInitializer) h, (tt, at, rest, h, (refl, refl))))
chooses_initial l (cond_start at) ms rest h ends = inr (ap (sees punct.OpenBrace) h, inr (ap (reads_word word.PthreadMutexInitializer) h, inl (ap (reads_word word.PthreadCondInitializer) h, (tt, at, rest, h, (refl, refl)))))
chooses_initial l (rwlock_start at) ms rest h ends =
    inr (ap (sees punct.OpenBrace) h, inr (ap (reads_word word.PthreadMutexInitializer) h, inr (ap (reads_word word.PthreadCondInitializer) h, inl (ap (reads_word word.PthreadRwlockInitializer) h, (tt, at, rest, h, (refl, refl))))))
chooses_initial l (braces no_init trailing at) ms rest (m1, e, (m2, h, (m3, k, (q, ec)))) ends = absurd h
chooses_initial l (braces (and_init i is) trailing at) ms rest (m1, e, (m2, (m5, hi, hm), (m3, k, (q, ec)))) ends =
    let closes = ap (sees punct.CloseBrace) ec in
    inl (
      ap (sees punct.OpenBrace) e,
      (
        tt,
        at,
        m1,
        e,
        (
          i,
          m5,
          hi,
          before_inits (suc l) is trailing m5 m2 m3 hm k closes,
          (
            initials (i ∷ as_inits is) trailing,
            m3,
            (as_inits is, trailing, refl, (m2, subst (λ z. OfMoreInits (suc l) z m5 m2) (sym (listed_as is)) hm, k)),
            closes,
            (tt, q, rest, ec, (ap (λ z. braces (and_init i z) trailing at) (sym (listed_as is)), refl)),
          ),
        ),
      ),
    )

close_no_comma : (k : Kind) → is_of (sign punct.CloseBrace) k ≡ true → is_of (sign punct.Comma) k ≡ false
close_no_comma (kind.Punct punct.Comma) h = cc
close_no_comma _ h = refl

pub chooses_more_initials : (l : ℕ) (is : List Init) → Chooses (phrase.more_initials l is)
chooses_more_initials l is r ms rest ([], true, e, (m1, h, (at, ec))) ends =
    let d : ms ≡ mark (p punct.Comma) at l ∷ rest = h ∙ ec in
    inl (ap (sees punct.Comma) d, (tt, at, rest, d, inl (ends, (e ∙ ap (λ z. initials z true) (append-nil is), refl))))
chooses_more_initials l is r ms rest ([], false, e, (m1, h, k)) ends =
    let d : ms ≡ rest = h ∙ k in
    inr (ap (sees punct.Comma) d ∙ by_test (is_of (sign punct.CloseBrace)) (is_of (sign punct.Comma)) false close_no_comma rest ends, (e ∙ ap (λ z. initials z false) (append-nil is), d))
chooses_more_initials l is r ms rest (i ∷ js, trailing, e, (m1, (m2, (at, ec), (m3, hi, hm)), k)) ends =
    inl (
      ap (sees punct.Comma) ec,
      (
        tt,
        at,
        m2,
        ec,
        inr (
          init_not_close l i m2 m3 hi,
          (
            i,
            m3,
            hi,
            before_inits l (listed_inits js) trailing m3 m1 rest hm k ends,
            (r, rest, (js, trailing, e ∙ ap (λ z. initials z trailing) (sym (append_assoc is (i ∷ []) js)), (m1, hm, k)), ends, (refl, refl)),
          ),
        ),
      ),
    )

-- ---- objects

pub chooses_object : (l : ℕ) → Chooses (phrase.object l)
chooses_object l (plain d) ms rest h ends = (d, rest, h, omega (arith, ends), (plain d, rest, inl (refl, refl), ends, (refl, refl)))
chooses_object l (initialised d i at) ms rest (m1, h, (m2, e, hi)) ends =
    (d, m1, h, joins_at 2 (mark (p punct.Assign) at l) m1 m2 e (omega arith), (initialised d i at, rest, inr (i, at, refl, (m2, e, hi)), ends, (refl, refl)))

pub chooses_object_after : (l : ℕ) (d : Declared) → Chooses (phrase.object_past l d)
chooses_object_after l d o ms rest (inl h) ends = inr (ap (sees punct.Assign) h.1 ∙ by_joins 1 (is_of (sign punct.Assign)) no_equals rest ends, h)
chooses_object_after l d o ms rest (inr (i, at, is, (m1, e, h))) ends = inl (ap (sees punct.Assign) e, (tt, at, m1, e, (i, rest, h, ends, (is, refl))))

pub before_objects : (l : ℕ) (os : List Object) (ms rest : List Mark) → OfMoreObjects l os ms rest → joins_next rest ≤ 0 → joins_next ms ≤ 1
before_objects l [] ms rest h e = subst (λ z. joins_next z ≤ 1) (sym h) (omega (arith, e))
before_objects l (o ∷ os) ms rest h e = joins_at 1 (mark (p punct.Comma) h.1.0 l) ms h.0 h.1.1 (omega arith)

pub chooses_more_objects : (l : ℕ) (os : List Object) → Chooses (phrase.more_objects l os)
chooses_more_objects l os all ms rest ([], e, h) ends = inr (ap (sees punct.Comma) h ∙ by_joins 0 (is_of (sign punct.Comma)) no_comma rest ends, (none_of_more os all e, h))
chooses_more_objects l os all ms rest (x ∷ xs, e, (m1, (at, ec), (m2, hx, hm))) ends =
    inl (ap (sees punct.Comma) ec, (tt, at, m1, ec, (x, m2, hx, before_objects l xs m2 rest hm ends, (all, rest, (xs, one_of_more os x xs all e, hm), ends, (refl, refl)))))

-- ---- what an object or a parameter begins with

pub declared_begins : (l : ℕ) (d : Declared) (ms rest : List Mark) → OfDeclared l d ms rest → next_is begins_declarator ms ≡ true
declared_begins l (declared zero name es) ms rest h = ap (next_is begins_declarator) (h.1 ∙ h.2.1)
declared_begins l (declared (suc n) name es) ms rest h = ap (next_is begins_declarator) h.1.1.1
declared_begins l (declared_pointer zero name xs) ms rest h = ap (next_is begins_declarator) (h.1 ∙ h.2.1.1)
declared_begins l (declared_pointer (suc n) name xs) ms rest h = ap (next_is begins_declarator) h.1.1.1

pub object_begins : (l : ℕ) (o : Object) (ms rest : List Mark) → OfObject l o ms rest → next_is begins_declarator ms ≡ true
object_begins l (plain d) ms rest h = declared_begins l d ms rest h
object_begins l (initialised d i at) ms rest h = declared_begins l d ms h.0 h.1

pub objects_begin : (l : ℕ) (os : List Object) (ms rest : List Mark) → OfObjects l os ms rest → next_is begins_declarator ms ≡ true
objects_begin l [] ms rest h = absurd h
objects_begin l (o ∷ os) ms rest h = object_begins l o ms h.0 h.1

object_no_long : (k : Kind) → begins_declarator k ≡ true → is_of (key word.Long) k ≡ false
object_no_long (kind.Word x) h = cc
object_no_long _ h = refl

object_no_int : (k : Kind) → begins_declarator k ≡ true → is_of (key word.Int) k ≡ false
object_no_int (kind.Word x) h = cc
object_no_int _ h = refl

pub after_type : (ms : List Mark) → next_is begins_declarator ms ≡ true → AfterType ms
after_type ms h = (by_test begins_declarator (is_of (key word.Long)) false object_no_long ms h, by_test begins_declarator (is_of (key word.Int)) false object_no_int ms h)

pub chooses_declaration : (l : ℕ) → Chooses (phrase.declaration l)
chooses_declaration l (declares s [] at) ms rest (e, (m1, hs, (m2, ho, (q, ec)))) ends = absurd ho
chooses_declaration l (declares s (o ∷ os) at) ms rest (e, (m1, hs, (m2, (m3, ho, hm), (q, ec)))) ends =
    let stop = joins_at 0 (mark (p punct.Semicolon) q l) m2 rest ec (omega arith) in
    (s, m1, hs, after_type m1 (object_begins l o m1 m3 ho), (o, m3, ho, before_objects l os m3 m2 hm stop, (o ∷ os, m2, (os, refl, hm), stop, (tt, q, rest, ec, (ap (declares s (o ∷ os)) e, refl)))))

declares_begins : (l : ℕ) (d : Declares) (ms rest : List Mark) → OfDeclares l d ms rest → next_is is_type ms ≡ true
declares_begins l (declares s os at) ms rest h = type_begins l s ms h.1.0 h.1.1

-- ---- statements

semicolon_no_type : (k : Kind) → is_of (sign punct.Semicolon) k ≡ true → is_type k ≡ false
semicolon_no_type (kind.Word x) h = cc
semicolon_no_type _ h = refl

maybe_no_type : (l : ℕ) (e : Option Exp) (ms rest : List Mark) → OfMaybe l e ms rest → sees punct.Semicolon rest ≡ true → next_is is_type ms ≡ false
maybe_no_type l None ms rest h e = ap (next_is is_type) h ∙ by_test (is_of (sign punct.Semicolon)) is_type false semicolon_no_type rest e
maybe_no_type l (Some x) ms rest h e = not_begun is_type not_type l x ms rest h

pub chooses_start : (l : ℕ) → Chooses (phrase.start l)
chooses_start l (start_declares d) ms rest h ends = inl (declares_begins l d ms rest h, (d, rest, h, tt, (refl, refl)))
chooses_start l (start_computes e) ms rest (m1, h, (q, ec)) ends =
    let closes = ap (sees punct.Semicolon) ec in
    inr (maybe_no_type l e ms m1 h closes, (e, m1, h, (inl refl, closes), (tt, q, rest, ec, (refl, refl))))

-- what a statement begins with
abbrev begins_statement : Kind → Bool
begins_statement (kind.Punct punct.OpenBrace) = true
begins_statement (kind.Punct punct.Semicolon) = true
begins_statement (kind.Word word.Break) = true
begins_statement (kind.Word word.Continue) = true
begins_statement (kind.Word word.Return) = true
begins_statement (kind.Word word.If) = true
begins_statement (kind.Word word.While) = true
begins_statement (kind.Word word.Do) = true
begins_statement (kind.Word word.For) = true
begins_statement k = begins_exp k

exp_statement : (k : Kind) → begins_exp k ≡ true → begins_statement k ≡ true
exp_statement (kind.Punct punct.OpenBrace) h = cc
exp_statement (kind.Punct punct.Semicolon) h = cc
exp_statement (kind.Word word.Break) h = cc
exp_statement (kind.Word word.Continue) h = cc
exp_statement (kind.Word word.Return) h = cc
exp_statement (kind.Word word.If) h = cc
exp_statement (kind.Word word.While) h = cc
exp_statement (kind.Word word.Do) h = cc
exp_statement (kind.Word word.For) h = cc
exp_statement _ h = h

statement_begins : (l : ℕ) (s : Statement) (ms rest : List Mark) → OfStatement l s ms rest → next_is begins_statement ms ≡ true
statement_begins l (block ps at) ms rest h = ap (next_is begins_statement) h.1
statement_begins l (compute None at) ms rest h = ap (next_is begins_statement) h
statement_begins l (compute (Some e) at) ms rest h = by_test begins_exp begins_statement true exp_statement ms (exp_begins (suc l) e ms h.1.0 h.1.1)
statement_begins l (break_at at) ms rest h = ap (next_is begins_statement) h.1
statement_begins l (continue_at at) ms rest h = ap (next_is begins_statement) h.1
statement_begins l (gives e at) ms rest h = ap (next_is begins_statement) h.1
statement_begins l (branch e a at) ms rest h = ap (next_is begins_statement) h.1
statement_begins l (branch_else e a b at) ms rest h = ap (next_is begins_statement) h.1.1
statement_begins l (while_loop e a at) ms rest h = ap (next_is begins_statement) h.1
statement_begins l (do_loop a e at) ms rest h = ap (next_is begins_statement) h.1
statement_begins l (for_loop s test next a at) ms rest h = ap (next_is begins_statement) h.1

statement_no_close : (k : Kind) → begins_statement k ≡ true → is_of (sign punct.CloseBrace) k ≡ false
statement_no_close (kind.Punct punct.CloseBrace) h = cc
statement_no_close _ h = refl

statement_no_type : (k : Kind) → begins_statement k ≡ true → is_type k ≡ false
statement_no_type (kind.Word word.Int) h = cc
statement_no_type (kind.Word word.Long) h = cc
statement_no_type (kind.Word word.Void) h = cc
statement_no_type (kind.Word word.Struct) h = cc
statement_no_type (kind.Word word.PthreadT) h = cc
statement_no_type (kind.Word word.PthreadMutexT) h = cc
statement_no_type (kind.Word word.PthreadCondT) h = cc
statement_no_type (kind.Word word.PthreadBarrierT) h = cc
statement_no_type (kind.Word word.PthreadRwlockT) h = cc
statement_no_type _ h = refl

pub type_no_close : (k : Kind) → is_type k ≡ true → is_of (sign punct.CloseBrace) k ≡ false
type_no_close (kind.Punct x) h = cc
type_no_close _ h = refl

abbrev pub as_parts : Parts → List Part
as_parts no_part = []
as_parts (and_declares d ps) = part_declares d ∷ as_parts ps
as_parts (and_does s ps) = part_does s ∷ as_parts ps

pub parts_as : (ps : Parts) → listed_parts (as_parts ps) ≡ ps
parts_as no_part = refl
parts_as (and_declares d ps) = ap (and_declares d) (parts_as ps)
parts_as (and_does s ps) = ap (and_does s) (parts_as ps)

close_no_else : (k : Kind) → is_of (sign punct.CloseBrace) k ≡ true → is_of (key word.Else) k ≡ false
close_no_else (kind.Word x) h = cc
close_no_else _ h = refl

type_no_else : (k : Kind) → is_type k ≡ true → is_of (key word.Else) k ≡ false
type_no_else (kind.Word word.Else) h = cc
type_no_else _ h = refl

statement_no_else : (k : Kind) → begins_statement k ≡ true → is_of (key word.Else) k ≡ false
statement_no_else (kind.Word word.Else) h = cc
statement_no_else _ h = refl

-- no `else` follows in a block
parts_no_else : (l : ℕ) (ps : List Part) (ms rest : List Mark) → OfParts l (listed_parts ps) ms rest → sees punct.CloseBrace rest ≡ true → reads_word word.Else ms ≡ false
parts_no_else l [] ms rest h e = ap (reads_word word.Else) h ∙ by_test (is_of (sign punct.CloseBrace)) (is_of (key word.Else)) false close_no_else rest e
parts_no_else l (part_declares d ∷ ps) ms rest h e = by_test is_type (is_of (key word.Else)) false type_no_else ms (declares_begins l d ms h.0 h.1)
parts_no_else l (part_does s ∷ ps) ms rest h e = by_test begins_statement (is_of (key word.Else)) false statement_no_else ms (statement_begins l s ms h.0 h.1)

pub chooses_parts : (l : ℕ) (ps : List Part) → Chooses (phrase.parts l ps)
chooses_parts l ps all ms rest ([], e, h) ends = inl (ap (sees punct.CloseBrace) h ∙ ends, (none_of_more ps all e, h))
chooses_parts l ps all ms rest (part_declares d ∷ qs, e, (m1, h, hm)) ends =
    let begins = declares_begins l d ms m1 h in
    inr (by_test is_type (is_of (sign punct.CloseBrace)) false type_no_close ms begins, inl (begins, (d, m1, h, tt, (all, rest, (qs, one_of_more ps (part_declares d) qs all e, hm), ends, (refl, refl)))))
chooses_parts l ps all ms rest (part_does s ∷ qs, e, (m1, h, hm)) ends =
    let begins = statement_begins l s ms m1 h in
    inr (
      by_test begins_statement (is_of (sign punct.CloseBrace)) false statement_no_close ms begins,
      inr (
        by_test begins_statement is_type false statement_no_type ms begins,
        (s, m1, h, (λ _. parts_no_else l qs m1 rest hm ends), (all, rest, (qs, one_of_more ps (part_does s) qs all e, hm), ends, (refl, refl))),
      ),
    )
