-- The rules of statements and of what stands outermost choose what the grammar has.
use Rattle.std.proofs.Common.{◌≡◌, inl, inr, ℕ, zero, suc, ◌+◌, ◌≤◌, Bool, true, false, cond, List, [], ◌∷◌, Option, Some, None, refl, sym, ◌∙◌, ap, subst, arith}
use Rattle.c_lexer.specs.declared.token.Kind.{Kind}
use Rattle.c_lexer.specs.declared.token.Kind.TheVariants as kind
use Rattle.c_lexer.specs.declared.token.Punct.TheVariants as punct
use Rattle.c_lexer.specs.declared.token.Word.TheVariants as word
use Rattle.c_tree.specs.declared.name.Name.{Name}
use Rattle.c_tree.specs.declared.ctype.Specifier.{Specifier}
use Rattle.c_tree.specs.declared.ctype.Specifier.TheVariants as specifiers
use Rattle.c_tree.specs.Tree.{Exp, Formal, formal, formal_pointer, Formals, no_formals, void_formals, listed_formals, FormalRow, no_formal, and_formal, listed_row, Declared, declared, declared_pointer, Object, plain, initialised, Statement, block, compute, break_at, continue_at, gives, branch, branch_else, while_loop, do_loop, for_loop, defined, prototype, Fields, fields, Outer, structure, function, objects}
use Rattle.rr_base.specs.declared.position.Position.{Position}
use Rattle.c_print.specs.Kinds.{p, w}
use Rattle.c_grammar.specs.Marks.{Mark, mark}
use Rattle.c_grammar.specs.Grammar.{specifier_place, ends_open, is_void_alone, OfName, OfSpecifier, OfStars, OfRaisingStars, OfLengths, OfMoreObjects, OfStatement, OfParts, OfMaybeName, OfPointed, OfFormal, OfFormals, OfMoreFormals, OfMoreDeclared, OfFields, OfOuter}
use Rattle.c_grammar.specs.Phrase as phrase
use Rattle.c_grammar.specs.Phrase.{Phrase, function_head, object_head, pointer_head}
use Rattle.c_grammar.specs.Parse.{sign, key, a_name, is_of, is_type, follows_declarator, begins_declarator, Rule, ret, one, choose}
use Rattle.c_grammar.specs.Parse as rule
use Rattle.c_grammar.specs.Rules.{rules, objects_after_rule}
use Rattle.c_grammar.proofs.Language.{Of}
use Rattle.c_grammar.proofs.Ends.{joins, joins_next, next_is, sees, reads_word, AfterParam, Chosen, by_test, joins_test, not_begun, not_open_brace, not_break, not_continue, not_return, not_if, not_while, not_do, not_for, not_semicolon}
use Rattle.c_grammar.proofs.Expressions.{Chooses, joins_at, one_of_more, none_of_more, chooses_specifier, chooses_stars, before_stars, zero_plus, type_begins, chooses_type, chooses_expression, chooses_more, chooses_assignment, chooses_conditional, chooses_operands, chooses_chain, chooses_unary, chooses_unary_plain, chooses_enclosed, chooses_opened, chooses_atom, chooses_postfix, chooses_arguments, chooses_maybe}
use Rattle.c_grammar.proofs.Statements.{chooses_pointer, chooses_declarator, chooses_lengths, chooses_initial, chooses_more_initials, chooses_object, chooses_object_after, before_objects, chooses_more_objects, declared_begins, objects_begin, after_type, chooses_declaration, chooses_start, chooses_parts, as_parts, parts_as, type_no_close}

-- ---- statements

abbrev else_of : ℕ → Exp → Statement → Position → Bool → Rule Statement
else_of l e a at b = cond b (ret (branch e a at)) (choose (is_of (key word.Else)) (one (key word.Else) l (λ _ _. rule.call (phrase.statement l) (λ b. ret (branch_else e a b at)))) (ret (branch e a at)))

no_else : (l : ℕ) (e : Exp) (a : Statement) (at : Position) (rest : List Mark) → reads_word word.Else rest ≡ false → (b : Bool) → Chosen (else_of l e a at b) (branch e a at) rest rest
no_else l e a at rest none true = (refl, refl)
no_else l e a at rest none false = inr (none, (refl, refl))

clash : {P : Type 0} (b : Bool) → b ≡ true → b ≡ false → P
clash b h k = cc

chooses_branch : (l : ℕ) (e : Exp) (a : Statement) (at : Position) (ms rest : List Mark) → OfStatement l (branch e a at) ms rest → reads_word word.Else rest ≡ false → Chosen (rules (phrase.statement l)) (branch e a at) ms rest
chooses_branch l e a at ms rest (m1, ei, (m2, (p2, e2), (m3, he, (m4, (p3, e3), ha)))) none =
    inr (
      ap (sees punct.OpenBrace) ei,
      inr (
        ap (sees punct.Semicolon) ei,
        inr (
          ap (reads_word word.Break) ei,
          inr (
            ap (reads_word word.Continue) ei,
            inr (
              ap (reads_word word.Return) ei,
              inl (
                ap (reads_word word.If) ei,
                (tt, at, m1, ei, (tt, p2, m2, e2, (e, m3, he, joins_at 0 (mark (p punct.CloseParen) p3 (suc l)) m3 m4 e3 (omega arith), (tt, p3, m4, e3, (a, rest, ha, (λ _. none), no_else (suc l) e a at rest none (ends_open a)))))),
              ),
            ),
          ),
        ),
      ),
    )

chooses_branch_else : (l : ℕ) (e : Exp) (a b : Statement) (at : Position) (ms rest : List Mark) → OfStatement l (branch_else e a b at) ms rest → (ends_open b ≡ true → reads_word word.Else rest ≡ false) → Chosen (rules (phrase.statement l)) (branch_else e a b at) ms rest
chooses_branch_else l e a b at ms rest (shut, (m1, ei, (m2, (p2, e2), (m3, he, (m4, (p3, e3), (m5, ha, (m6, (p4, e4), hb))))))) ends =
    inr (
      ap (sees punct.OpenBrace) ei,
      inr (
        ap (sees punct.Semicolon) ei,
        inr (
          ap (reads_word word.Break) ei,
          inr (
            ap (reads_word word.Continue) ei,
            inr (
              ap (reads_word word.Return) ei,
              inl (
                ap (reads_word word.If) ei,
                (
                  tt,
                  at,
                  m1,
                  ei,
                  (
                    tt,
                    p2,
                    m2,
                    e2,
                    (
                      e,
                      m3,
                      he,
                      joins_at 0 (mark (p punct.CloseParen) p3 (suc l)) m3 m4 e3 (omega arith),
                      (
                        tt,
                        p3,
                        m4,
                        e3,
                        (
                          a,
                          m5,
                          ha,
                          (λ opens. clash (ends_open a) opens shut),
                          subst (λ z. Chosen (else_of (suc l) e a at z) (branch_else e a b at) m5 rest) (sym shut) (inl (ap (reads_word word.Else) e4, (tt, p4, m6, e4, (b, rest, hb, ends, (refl, refl))))),
                        ),
                      ),
                    ),
                  ),
                ),
              ),
            ),
          ),
        ),
      ),
    )

chooses_statement : (l : ℕ) → Chooses (phrase.statement l)
chooses_statement l (block ps at) ms rest (m1, e, (m2, h, (q, ec))) ends =
    inl (ap (sees punct.OpenBrace) e, (tt, at, m1, e, (as_parts ps, m2, (as_parts ps, refl, subst (λ z. OfParts (suc l) z m1 m2) (sym (parts_as ps)) h), ap (sees punct.CloseBrace) ec, (tt, q, rest, ec, (ap (λ z. block z at) (sym (parts_as ps)), refl)))))
chooses_statement l (compute None at) ms rest e ends = inr (ap (sees punct.OpenBrace) e, inl (ap (sees punct.Semicolon) e, (tt, at, rest, e, (refl, refl))))
chooses_statement l (break_at at) ms rest (m1, e, (q, ec)) ends = inr (ap (sees punct.OpenBrace) e, inr (ap (sees punct.Semicolon) e, inl (ap (reads_word word.Break) e, (tt, at, m1, e, (tt, q, rest, ec, (refl, refl))))))
chooses_statement l (continue_at at) ms rest (m1, e, (q, ec)) ends =
    inr (ap (sees punct.OpenBrace) e, inr (ap (sees punct.Semicolon) e, inr (ap (reads_word word.Break) e, inl (ap (reads_word word.Continue) e, (tt, at, m1, e, (tt, q, rest, ec, (refl, refl)))))))
chooses_statement l (gives x at) ms rest (m1, e, (m2, h, (q, ec))) ends =
    inr (
      ap (sees punct.OpenBrace) e,
      inr (
        ap (sees punct.Semicolon) e,
        inr (
          ap (reads_word word.Break) e,
          inr (
            ap (reads_word word.Continue) e,
            inl (
              ap (reads_word word.Return) e,
              (tt, at, m1, e, (x, m2, h, (inl refl, ap (sees punct.Semicolon) ec), (tt, q, rest, ec, (refl, refl)))),
            ),
          ),
        ),
      ),
    )
chooses_statement l (branch e a at) ms rest h ends = chooses_branch l e a at ms rest h (ends refl)
chooses_statement l (branch_else e a b at) ms rest h ends = chooses_branch_else l e a b at ms rest h ends
chooses_statement l (while_loop x a at) ms rest (m1, e, (m2, (p2, e2), (m3, hx, (m4, (p3, e3), ha)))) ends =
    inr (
      ap (sees punct.OpenBrace) e,
      inr (
        ap (sees punct.Semicolon) e,
        inr (
          ap (reads_word word.Break) e,
          inr (
            ap (reads_word word.Continue) e,
            inr (
              ap (reads_word word.Return) e,
              inr (
                ap (reads_word word.If) e,
                inl (
                  ap (reads_word word.While) e,
                  (tt, at, m1, e, (tt, p2, m2, e2, (x, m3, hx, joins_at 0 (mark (p punct.CloseParen) p3 (suc l)) m3 m4 e3 (omega arith), (tt, p3, m4, e3, (a, rest, ha, ends, (refl, refl)))))),
                ),
              ),
            ),
          ),
        ),
      ),
    )
chooses_statement l (do_loop a x at) ms rest (m1, e, (m2, ha, (m3, (p2, e2), (m4, (p3, e3), (m5, hx, (m6, (p4, e4), (p5, e5))))))) ends =
    inr (
      ap (sees punct.OpenBrace) e,
      inr (
        ap (sees punct.Semicolon) e,
        inr (
          ap (reads_word word.Break) e,
          inr (
            ap (reads_word word.Continue) e,
            inr (
              ap (reads_word word.Return) e,
              inr (
                ap (reads_word word.If) e,
                inr (
                  ap (reads_word word.While) e,
                  inl (
                    ap (reads_word word.Do) e,
                    (tt, at, m1, e, (a, m2, ha, (λ _. ap (reads_word word.Else) e2), (tt, p2, m3, e2, (tt, p3, m4, e3, (x, m5, hx, joins_at 0 (mark (p punct.CloseParen) p4 (suc l)) m5 m6 e4 (omega arith), (tt, p4, m6, e4, (tt, p5, rest, e5, (refl, refl)))))))),
                  ),
                ),
              ),
            ),
          ),
        ),
      ),
    )
chooses_statement l (for_loop s test next a at) ms rest (m1, e, (m2, (p2, e2), (m3, hs, (m4, ht, (m5, (p3, e3), (m6, hn, (m7, (p4, e4), ha))))))) ends =
    inr (
      ap (sees punct.OpenBrace) e,
      inr (
        ap (sees punct.Semicolon) e,
        inr (
          ap (reads_word word.Break) e,
          inr (
            ap (reads_word word.Continue) e,
            inr (
              ap (reads_word word.Return) e,
              inr (
                ap (reads_word word.If) e,
                inr (
                  ap (reads_word word.While) e,
                  inr (
                    ap (reads_word word.Do) e,
                    inl (
                      ap (reads_word word.For) e,
                      (tt, at, m1, e, (tt, p2, m2, e2, (s, m3, hs, tt, (test, m4, ht, (inl refl, ap (sees punct.Semicolon) e3), (tt, p3, m5, e3, (next, m6, hn, (inr refl, ap (sees punct.CloseParen) e4), (tt, p4, m7, e4, (a, rest, ha, ends, (refl, refl))))))))),
                    ),
                  ),
                ),
              ),
            ),
          ),
        ),
      ),
    )
chooses_statement l (compute (Some x) at) ms rest (is, (m1, h, (q, ec))) ends =
    inr (
      not_begun (is_of (sign punct.OpenBrace)) not_open_brace (suc l) x ms m1 h,
      inr (
        not_begun (is_of (sign punct.Semicolon)) not_semicolon (suc l) x ms m1 h,
        inr (
          not_begun (is_of (key word.Break)) not_break (suc l) x ms m1 h,
          inr (
            not_begun (is_of (key word.Continue)) not_continue (suc l) x ms m1 h,
            inr (
              not_begun (is_of (key word.Return)) not_return (suc l) x ms m1 h,
              inr (
                not_begun (is_of (key word.If)) not_if (suc l) x ms m1 h,
                inr (
                  not_begun (is_of (key word.While)) not_while (suc l) x ms m1 h,
                  inr (
                    not_begun (is_of (key word.Do)) not_do (suc l) x ms m1 h,
                    inr (
                      not_begun (is_of (key word.For)) not_for (suc l) x ms m1 h,
                      (x, m1, h, joins_at 0 (mark (p punct.Semicolon) q (suc l)) m1 rest ec (omega arith), (tt, q, rest, ec, (ap (compute (Some x)) is, refl))),
                    ),
                  ),
                ),
              ),
            ),
          ),
        ),
      ),
    )

-- ---- parameters

after_param : (test : Kind → Bool) → test (p punct.Comma) ≡ false → test (p punct.CloseParen) ≡ false → (ms : List Mark) → AfterParam ms → next_is test ms ≡ false
after_param test a b ms (inl h) = by_test (is_of (sign punct.Comma)) test false is ms h
  where
    is : (k : Kind) → is_of (sign punct.Comma) k ≡ true → test k ≡ false
    is (kind.Punct punct.Comma) h = a
    is _ h = cc
after_param test a b ms (inr h) = by_test (is_of (sign punct.CloseParen)) test false is ms h
  where
    is : (k : Kind) → is_of (sign punct.CloseParen) k ≡ true → test k ≡ false
    is (kind.Punct punct.CloseParen) h = b
    is _ h = cc

before_name : (test : Kind → Bool) → test (p punct.Comma) ≡ false → test (p punct.CloseParen) ≡ false → ((x : List ℕ) → test (kind.Name x) ≡ false) → (l : ℕ) (n : Option Name) (ms rest : List Mark) → OfMaybeName l n ms rest → AfterParam rest → next_is test ms ≡ false
before_name test a b c l None ms rest h e = ap (next_is test) h ∙ after_param test a b rest e
before_name test a b c l (Some n) ms rest h e = ap (next_is test) h ∙ c n.text

chooses_param : (l : ℕ) → Chooses (phrase.param l)
chooses_param l (formal s k name at) ms rest (e, (m1, hs, (m2, hk, hn))) ends = (
  s,
  m1,
  hs,
  (
    before_stars (is_of (key word.Long)) refl l k m1 m2 hk (before_name (is_of (key word.Long)) refl refl (λ _. refl) l name m2 rest hn ends),
    before_stars (is_of (key word.Int)) refl l k m1 m2 hk (before_name (is_of (key word.Int)) refl refl (λ _. refl) l name m2 rest hn ends),
  ),
  (formal s k name at, rest, inl (k, name, ap (formal s k name) e, (m2, hk, hn)), ends, (refl, refl)),
)
chooses_param l (formal_pointer s k name xs at) ms rest (e, (m1, hs, (m2, hk, (m3, (q, eo), hp)))) ends = (
  s,
  m1,
  hs,
  (
    before_stars (is_of (key word.Long)) refl l k m1 m2 hk (ap (reads_word word.Long) eo),
    before_stars (is_of (key word.Int)) refl l k m1 m2 hk (ap (reads_word word.Int) eo),
  ),
  (formal_pointer s k name xs at, rest, inr (k, name, xs, ap (formal_pointer s k name xs) e, (m2, hk, (m3, (q, eo), hp))), ends, (refl, refl)),
)

chooses_param_after : (l : ℕ) (s : Specifier) → Chooses (phrase.param_after l s)
chooses_param_after l s x ms rest (inl (k, None, is, (m1, hk, hn))) ends = (
  k,
  m1,
  (k, zero_plus k, hk),
  before_name (is_of (sign punct.Star)) refl refl (λ _. refl) l None m1 rest hn ends,
  inr (
    before_name (is_of (sign punct.OpenParen)) refl refl (λ _. refl) l None m1 rest hn ends,
    inr (ap (next_is (is_of a_name)) hn ∙ after_param (is_of a_name) refl refl rest ends, (is, hn)),
  ),
)
chooses_param_after l s x ms rest (inl (k, Some n, is, (m1, hk, hn))) ends =
    (k, m1, (k, zero_plus k, hk), ap (sees punct.Star) hn, inr (ap (sees punct.OpenParen) hn, inl (ap (next_is (is_of a_name)) hn, (n.text, n.at, rest, hn, (is, refl)))))
chooses_param_after l s x ms rest (inr (k, name, xs, is, (m1, hk, (m2, (q, eo), hp)))) ends =
    (k, m1, (k, zero_plus k, hk), ap (sees punct.Star) eo, inl (ap (sees punct.OpenParen) eo, (tt, q, m2, eo, ((name, xs), rest, hp, tt, (is, refl)))))

before_params : (l : ℕ) (xs : FormalRow) (ms rest : List Mark) → OfMoreFormals l xs ms rest → sees punct.CloseParen rest ≡ true → AfterParam ms
before_params l no_formal ms rest h e = inr (ap (sees punct.CloseParen) h ∙ e)
before_params l (and_formal x xs) ms rest h e = inl (ap (sees punct.Comma) h.1.1)

close_no_comma : (k : Kind) → is_of (sign punct.CloseParen) k ≡ true → is_of (sign punct.Comma) k ≡ false
close_no_comma (kind.Punct punct.Comma) h = cc
close_no_comma _ h = refl

chooses_more_params : (l : ℕ) (xs : List Formal) → Chooses (phrase.more_params l xs)
chooses_more_params l xs all ms rest ([], e, h) ends = inr (ap (sees punct.Comma) h ∙ by_test (is_of (sign punct.CloseParen)) (is_of (sign punct.Comma)) false close_no_comma rest ends, (none_of_more xs all e, h))
chooses_more_params l xs all ms rest (y ∷ ys, e, (m1, (at, ec), (m2, hy, hm))) ends =
    inl (ap (sees punct.Comma) ec, (tt, at, m1, ec, (y, m2, hy, before_params l (listed_row ys) m2 rest hm ends, (all, rest, (ys, one_of_more xs y ys all e, hm), ends, (refl, refl)))))

type_no_paren : (k : Kind) → is_type k ≡ true → is_of (sign punct.CloseParen) k ≡ false
type_no_paren (kind.Punct x) h = cc
type_no_paren _ h = refl

formal_begins : (l : ℕ) (x : Formal) (ms rest : List Mark) → OfFormal l x ms rest → next_is is_type ms ≡ true
formal_begins l (formal s n name at) ms rest h = type_begins l s ms h.1.0 h.1.1
formal_begins l (formal_pointer s n name xs at) ms rest h = type_begins l s ms h.1.0 h.1.1

abbrev as_row : FormalRow → List Formal
as_row no_formal = []
as_row (and_formal x xs) = x ∷ as_row xs

row_as : (xs : FormalRow) → listed_row (as_row xs) ≡ xs
row_as no_formal = refl
row_as (and_formal x xs) = ap (and_formal x) (row_as xs)

chooses_params : (l : ℕ) → Chooses (phrase.params l)
chooses_params l no_formals ms rest h ends = inl (ap (sees punct.CloseParen) h ∙ ends, (refl, h))
chooses_params l void_formals ms rest (at, e) ends =
    let x = formal (specifiers.Void at) 0 None at in
    inr (ap (sees punct.CloseParen) e, (x, rest, (refl, (rest, e, (rest, refl, refl))), inr ends, (x ∷ [], rest, ([], refl, refl), ends, (refl, refl))))
chooses_params l (listed_formals no_formal) ms rest h ends = absurd h.1
chooses_params l (listed_formals (and_formal x xs)) ms rest (v, (m1, hx, hm)) ends =
    inr (
      by_test is_type (is_of (sign punct.CloseParen)) false type_no_paren ms (formal_begins l x ms m1 hx),
      (
        x,
        m1,
        hx,
        before_params l xs m1 rest hm ends,
        (
          x ∷ as_row xs,
          rest,
          (as_row xs, refl, subst (λ z. OfMoreFormals l z m1 rest) (sym (row_as xs)) hm),
          ends,
          (
            ap (λ b. cond b void_formals (listed_formals (and_formal x xs))) (sym v)
                ∙ ap (λ z. cond (is_void_alone (and_formal x z)) void_formals (listed_formals (and_formal x z))) (sym (row_as xs)),
            refl,
          ),
        ),
      ),
    )

chooses_code : Chooses phrase.code
chooses_code (defined ps at) ms rest (m1, e, (m2, h, (q, ec))) ends =
    inl (ap (sees punct.OpenBrace) e, (tt, at, m1, e, (as_parts ps, m2, (as_parts ps, refl, subst (λ z. OfParts 0 z m1 m2) (sym (parts_as ps)) h), ap (sees punct.CloseBrace) ec, (tt, q, rest, ec, (ap (λ z. defined z at) (sym (parts_as ps)), refl)))))
chooses_code prototype ms rest (q, e) ends = inr (ap (sees punct.OpenBrace) e, (tt, q, rest, e, (refl, refl)))

-- ---- members

semicolon_no_comma : (k : Kind) → is_of (sign punct.Semicolon) k ≡ true → is_of (sign punct.Comma) k ≡ false
semicolon_no_comma (kind.Punct punct.Comma) h = cc
semicolon_no_comma _ h = refl

semicolon_joins : (k : Kind) → is_of (sign punct.Semicolon) k ≡ true → joins k ≤ 0
semicolon_joins (kind.Punct punct.Semicolon) h = omega arith
semicolon_joins _ h = cc

before_declared : (ds : List Declared) (ms rest : List Mark) → OfMoreDeclared ds ms rest → sees punct.Semicolon rest ≡ true → joins_next ms ≤ 2
before_declared [] ms rest h e = subst (λ z. joins_next z ≤ 2) (sym h) (omega (arith, joins_test (is_of (sign punct.Semicolon)) 0 semicolon_joins rest e))
before_declared (d ∷ ds) ms rest h e = joins_at 2 (mark (p punct.Comma) h.1.0 0) ms h.0 h.1.1 (omega arith)

chooses_more_declared : (ds : List Declared) → Chooses (phrase.more_declared ds)
chooses_more_declared ds all ms rest ([], e, h) ends = inr (ap (sees punct.Comma) h ∙ by_test (is_of (sign punct.Semicolon)) (is_of (sign punct.Comma)) false semicolon_no_comma rest ends, (none_of_more ds all e, h))
chooses_more_declared ds all ms rest (y ∷ ys, e, (m1, (at, ec), (m2, hy, hm))) ends =
    inl (ap (sees punct.Comma) ec, (tt, at, m1, ec, (y, m2, hy, before_declared ys m2 rest hm ends, (all, rest, (ys, one_of_more ds y ys all e, hm), ends, (refl, refl)))))

chooses_member : Chooses phrase.member
chooses_member (fields s [] at) ms rest (e, (m1, hs, (m2, hd, (q, ec)))) ends = absurd hd
chooses_member (fields s (d ∷ ds) at) ms rest (e, (m1, hs, (m2, (m3, hd, hm), (q, ec)))) ends =
    let stop = ap (sees punct.Semicolon) ec in
    (s, m1, hs, after_type m1 (declared_begins 0 d m1 m3 hd), (d, m3, hd, before_declared ds m3 m2 hm stop, (d ∷ ds, m2, (ds, refl, hm), stop, (tt, q, rest, ec, (ap (fields s (d ∷ ds)) e, refl)))))

fields_begin : (f : Fields) (ms rest : List Mark) → OfFields f ms rest → next_is is_type ms ≡ true
fields_begin (fields s ds at) ms rest h = type_begins 0 s ms h.1.0 h.1.1

chooses_more_members : (fs : List Fields) → Chooses (phrase.more_members fs)
chooses_more_members fs all ms rest ([], e, h) ends = inl (ap (sees punct.CloseBrace) h ∙ ends, (none_of_more fs all e, h))
chooses_more_members fs all ms rest (f ∷ gs, e, (m1, hf, hm)) ends =
    inr (by_test is_type (is_of (sign punct.CloseBrace)) false type_no_close ms (fields_begin f ms m1 hf), (f, m1, hf, tt, (all, rest, (gs, one_of_more fs f gs all e, hm), ends, (refl, refl))))

-- ---- functions and objects

stars_begin : (n : ℕ) (name : Name) (ms mid rest : List Mark) → OfStars 0 n ms mid → OfName 0 name mid rest → next_is begins_declarator ms ≡ true
stars_begin zero name ms mid rest h e = ap (next_is begins_declarator) (h ∙ e)
stars_begin (suc n) name ms mid rest h e = ap (next_is begins_declarator) h.1.1

after_begins : (is_static : Bool) (s : Specifier) (at : Position) (o : Outer) (ms rest : List Mark) → Of (phrase.outer_after is_static s at) o ms rest → next_is begins_declarator ms ≡ true
after_begins is_static s at o ms rest (inl h) = stars_begin h.0 h.1 ms h.5.0 h.5.2.0 h.5.1 h.5.2.1
after_begins is_static s at o ms rest (inr h) = objects_begin 0 h.0 ms h.2.0 h.2.1

-- what stands after the declarator of an object
follows_objects : (os : List Object) (ms mid rest : List Mark) (q : Position) → OfMoreObjects 0 os ms mid → mid ≡ mark (p punct.Semicolon) q 0 ∷ rest → (sees punct.OpenParen ms ≡ false) × (next_is follows_declarator ms ≡ true)
follows_objects [] ms mid rest q h e = (ap (sees punct.OpenParen) (h ∙ e), ap (next_is follows_declarator) (h ∙ e))
follows_objects (o ∷ os) ms mid rest q h e = (ap (sees punct.OpenParen) h.1.1, ap (next_is follows_declarator) h.1.1)

follows_lengths : (n : ℕ) (es : List Exp) (ms mid : List Mark) → OfLengths n es ms mid → (sees punct.OpenParen mid ≡ false) × (next_is follows_declarator mid ≡ true) → (sees punct.OpenParen ms ≡ false) × (next_is follows_declarator ms ≡ true)
follows_lengths n [] ms mid h e = (ap (sees punct.OpenParen) h ∙ e.0, ap (next_is follows_declarator) h ∙ e.1)
follows_lengths n (x ∷ xs) ms mid h e = (ap (sees punct.OpenParen) h.1.1.1, ap (next_is follows_declarator) h.1.1.1)

-- after the declarator of the first object
first_past : (is_static : Bool) (s : Specifier) (at : Position) (o : Outer) (d : Declared) (x : Object) (os : List Object) (mc md me rest : List Mark) (q : Position)
    → o ≡ objects is_static s (x ∷ os) at → Of (phrase.object_past 0 d) x mc md → OfMoreObjects 0 os md me → me ≡ mark (p punct.Semicolon) q 0 ∷ rest → Chosen (objects_after_rule is_static s at d) o mc rest
first_past is_static s at o d x os mc md me rest q is hx hm ec =
    let stop = joins_at 0 (mark (p punct.Semicolon) q 0) me rest ec (omega arith) in (x, md, hx, before_objects 0 os md me hm stop, (x ∷ os, me, (os, refl, hm), stop, (tt, q, rest, ec, (is, refl))))

-- the first object, and those after it
first_object : (is_static : Bool) (s : Specifier) (at : Position) (o : Outer) (n : ℕ) (name : Name) (es : List Exp) (x : Object) (os : List Object) (ms ma mb mc md me rest : List Mark) (q : Position)
    → o ≡ objects is_static s (x ∷ os) at → OfRaisingStars 0 n ms ma → OfName (0 + n) name ma mb → OfLengths (0 + n) es mb mc → Of (phrase.object_past 0 (declared n name es)) x mc md → OfMoreObjects 0 os md me → me ≡ mark (p punct.Semicolon) q 0 ∷ rest
    → (sees punct.OpenParen mc ≡ false) × (next_is follows_declarator mc ≡ true) → joins_next mc ≤ 2 → Chosen (rules (phrase.outer_after is_static s at)) o ms rest
first_object is_static s at o n name es x os ms ma mb mc md me rest q is hk en hl hx hm ec follows low =
    let same : 0 + n ≡ n = sym (zero_plus n) in
    let lengths = subst (λ z. OfLengths z es mb mc) same hl in (
      object_head n name.text name.at,
      mb,
      (ma, hk, subst (λ z. OfName z name ma mb) same en),
      follows_lengths n es mb mc lengths follows,
      (es, mc, (es, refl, lengths), low, first_past is_static s at o (declared n name es) x os mc md me rest q is hx hm ec),
    )

-- the same where it is a pointer to a function
first_pointer : (is_static : Bool) (s : Specifier) (at : Position) (o : Outer) (n : ℕ) (name : Name) (xs : Formals) (x : Object) (os : List Object) (ms ma mb mc md me rest : List Mark) (q there : Position)
    → o ≡ objects is_static s (x ∷ os) at → OfStars 0 n ms ma → ma ≡ mark (p punct.OpenParen) there 0 ∷ mb → OfPointed 0 name (OfFormals 1 xs) mb mc → Of (phrase.object_past 0 (declared_pointer n name xs)) x mc md → OfMoreObjects 0 os md me → me ≡ mark (p punct.Semicolon) q 0 ∷ rest
    → Chosen (rules (phrase.outer_after is_static s at)) o ms rest
first_pointer is_static s at o n name xs x os ms ma mb mc md me rest q there is hk eo hp hx hm ec =
    (pointer_head n, mb, (ma, hk, (there, eo)), tt, ((name, xs), mc, hp, tt, first_past is_static s at o (declared_pointer n name xs) x os mc md me rest q is hx hm ec))

chooses_outer_after : (is_static : Bool) (s : Specifier) (at : Position) → Chooses (phrase.outer_after is_static s at)
chooses_outer_after is_static s at o ms rest (inl (n, name, xs, c, is, (m1, hk, (m2, en, (m3, (p3, e3), (m4, hx, (m5, (p5, e5), hc))))))) ends =
    (function_head n name.text name.at, m3, (m1, hk, (m2, en, (p3, e3))), tt, (xs, m4, hx, ap (sees punct.CloseParen) e5, (tt, p5, m5, e5, (c, rest, hc, tt, (is, refl)))))
chooses_outer_after is_static s at o ms rest (inr ([], is, (m1, hos, (q, ec)))) ends = absurd hos
chooses_outer_after is_static s at o ms rest (inr (plain (declared n name es) ∷ os, is, (m1, (m2, (ma, hk, (mb, en, hl)), hm), (q, ec)))) ends =
    let stop = joins_at 0 (mark (p punct.Semicolon) q 0) m1 rest ec (omega arith) in
    first_object is_static s at o n name es (plain (declared n name es)) os ms ma mb m2 m2 m1 rest q is hk en hl (inl (refl, refl)) hm ec (follows_objects os m2 m1 rest q hm ec) (omega (arith, before_objects 0 os m2 m1 hm stop))
chooses_outer_after is_static s at o ms rest (inr (initialised (declared n name es) i there ∷ os, is, (m1, (m2, (mc, (ma, hk, (mb, en, hl)), (md, ei, hi)), hm), (q, ec)))) ends =
    first_object is_static s at o n name es (initialised (declared n name es) i there) os ms ma mb mc m2 m1 rest q is hk en hl (inr (i, there, refl, (md, ei, hi))) hm ec (ap (sees punct.OpenParen) ei, ap (next_is follows_declarator) ei) (joins_at 2 (mark (p punct.Assign) there 0) mc md ei (omega arith))
chooses_outer_after is_static s at o ms rest (inr (plain (declared_pointer n name xs) ∷ os, is, (m1, (m2, (ma, hk, (mb, (there, eo), hp)), hm), (q, ec)))) ends =
    first_pointer is_static s at o n name xs (plain (declared_pointer n name xs)) os ms ma mb m2 m2 m1 rest q there is hk eo hp (inl (refl, refl)) hm ec
chooses_outer_after is_static s at o ms rest (inr (initialised (declared_pointer n name xs) i at2 ∷ os, is, (m1, (m2, (mc, (ma, hk, (mb, (there, eo), hp)), (md, ei, hi)), hm), (q, ec)))) ends =
    first_pointer is_static s at o n name xs (initialised (declared_pointer n name xs) i at2) os ms ma mb mc m2 m1 rest q there is hk eo hp (inr (i, at2, refl, (md, ei, hi))) hm ec

object_no_brace : (k : Kind) → begins_declarator k ≡ true → is_of (sign punct.OpenBrace) k ≡ false
object_no_brace (kind.Punct punct.OpenBrace) h = cc
object_no_brace _ h = refl

-- without `static`
plainly : (s : Specifier) (o : Outer) (ms m2 rest : List Mark) → OfSpecifier 0 s ms m2 → Of (phrase.outer_after false s (specifier_place s)) o m2 rest → Chosen (rules phrase.outer) o ms rest
plainly (specifiers.Struct name at) o ms m2 rest (m1, e, en) h =
    inr (
      ap (reads_word word.Static) e,
      inl (
        ap (reads_word word.Struct) e,
        (
          tt,
          at,
          m1,
          e,
          (
            name.text,
            name.at,
            m2,
            en,
            inr (by_test begins_declarator (is_of (sign punct.OpenBrace)) false object_no_brace m2 (after_begins false (specifiers.Struct name at) at o m2 rest h), (o, rest, h, tt, (refl, refl))),
          ),
        ),
      ),
    )
plainly (specifiers.Int at) o ms m2 rest e h = inr (ap (reads_word word.Static) e, inr (ap (reads_word word.Struct) e, (specifiers.Int at, m2, e, after_type m2 (after_begins false (specifiers.Int at) at o m2 rest h), (o, rest, h, tt, (refl, refl)))))
plainly (specifiers.Long second int at) o ms m2 rest e h =
    inr (ap (reads_word word.Static) e.1, inr (ap (reads_word word.Struct) e.1, (specifiers.Long second int at, m2, e, after_type m2 (after_begins false (specifiers.Long second int at) at o m2 rest h), (o, rest, h, tt, (refl, refl)))))
plainly (specifiers.Void at) o ms m2 rest e h = inr (ap (reads_word word.Static) e, inr (ap (reads_word word.Struct) e, (specifiers.Void at, m2, e, after_type m2 (after_begins false (specifiers.Void at) at o m2 rest h), (o, rest, h, tt, (refl, refl)))))
plainly (specifiers.PthreadT at) o ms m2 rest e h =
    inr (ap (reads_word word.Static) e, inr (ap (reads_word word.Struct) e, (specifiers.PthreadT at, m2, e, after_type m2 (after_begins false (specifiers.PthreadT at) at o m2 rest h), (o, rest, h, tt, (refl, refl)))))
plainly (specifiers.PthreadMutexT at) o ms m2 rest e h =
    inr (ap (reads_word word.Static) e, inr (ap (reads_word word.Struct) e, (specifiers.PthreadMutexT at, m2, e, after_type m2 (after_begins false (specifiers.PthreadMutexT at) at o m2 rest h), (o, rest, h, tt, (refl, refl)))))
plainly (specifiers.PthreadCondT at) o ms m2 rest e h =
    inr (ap (reads_word word.Static) e, inr (ap (reads_word word.Struct) e, (specifiers.PthreadCondT at, m2, e, after_type m2 (after_begins false (specifiers.PthreadCondT at) at o m2 rest h), (o, rest, h, tt, (refl, refl)))))
plainly (specifiers.PthreadBarrierT at) o ms m2 rest e h =
    inr (ap (reads_word word.Static) e, inr (ap (reads_word word.Struct) e, (specifiers.PthreadBarrierT at, m2, e, after_type m2 (after_begins false (specifiers.PthreadBarrierT at) at o m2 rest h), (o, rest, h, tt, (refl, refl)))))
plainly (specifiers.PthreadRwlockT at) o ms m2 rest e h =
    inr (ap (reads_word word.Static) e, inr (ap (reads_word word.Struct) e, (specifiers.PthreadRwlockT at, m2, e, after_type m2 (after_begins false (specifiers.PthreadRwlockT at) at o m2 rest h), (o, rest, h, tt, (refl, refl)))))

statically : (s : Specifier) (at : Position) (o : Outer) (ms m1 m2 rest : List Mark) → ms ≡ mark (w word.Static) at 0 ∷ m1 → OfSpecifier 0 s m1 m2 → Of (phrase.outer_after true s at) o m2 rest → Chosen (rules phrase.outer) o ms rest
statically s at o ms m1 m2 rest e hs h = inl (ap (reads_word word.Static) e, (tt, at, m1, e, (s, m2, hs, after_type m2 (after_begins true s at o m2 rest h), (o, rest, h, tt, (refl, refl)))))

chooses_outer : Chooses phrase.outer
chooses_outer (structure name []) ms rest (m1, (at, es), (m2, en, (m3, (p3, e3), (m5, hf, (m6, (p4, e4), (p5, e5)))))) ends = absurd hf
chooses_outer (structure name (f ∷ fs)) ms rest (m1, (at, es), (m2, en, (m3, (p3, e3), (m5, (m4, hf, hm), (m6, (p4, e4), (p5, e5)))))) ends =
    inr (
      ap (reads_word word.Static) es,
      inl (
        ap (reads_word word.Struct) es,
        (
          tt,
          at,
          m1,
          es,
          (
            name.text,
            name.at,
            m2,
            en,
            inl (
              ap (sees punct.OpenBrace) e3,
              (
                tt,
                p3,
                m3,
                e3,
                (f, m4, hf, tt, (f ∷ fs, m5, (fs, refl, hm), ap (sees punct.CloseBrace) e4, (tt, p4, m6, e4, (tt, p5, rest, e5, (refl, refl))))),
              ),
            ),
          ),
        ),
      ),
    )
chooses_outer (function true s n name xs c) ms rest (m1, (at, e), (m2, hs, h)) ends = statically s at (function true s n name xs c) ms m1 m2 rest e hs (inl (n, name, xs, c, refl, h))
chooses_outer (function false s n name xs c) ms rest (m1, e, (m2, hs, h)) ends = plainly s (function false s n name xs c) ms m2 rest (subst (λ z. OfSpecifier 0 s z m2) (sym e) hs) (inl (n, name, xs, c, refl, h))
chooses_outer (objects true s os at) ms rest (m1, e, (m2, hs, h)) ends = statically s at (objects true s os at) ms m1 m2 rest e hs (inr (os, refl, h))
chooses_outer (objects false s os at) ms rest (m1, (is, e), (m2, hs, h)) ends = plainly s (objects false s os at) ms m2 rest (subst (λ z. OfSpecifier 0 s z m2) (sym e) hs) (inr (os, ap (objects false s os) is, h))

abbrev any : Kind → Bool
any k = true

anything : (test : Kind → Bool) (ms : List Mark) → next_is test ms ≡ true → next_is any ms ≡ true
anything test ms h = by_test test any true (λ k _. refl) ms h

outer_some : (o : Outer) (ms rest : List Mark) → OfOuter o ms rest → next_is any ms ≡ true
outer_some (structure name fs) ms rest h = ap (next_is any) h.1.1
outer_some (function true s n name xs c) ms rest h = ap (next_is any) h.1.1
outer_some (function false s n name xs c) ms rest h = ap (next_is any) h.1 ∙ anything is_type h.0 (type_begins 0 s h.0 h.2.0 h.2.1)
outer_some (objects true s os at) ms rest h = ap (next_is any) h.1
outer_some (objects false s os at) ms rest h = ap (next_is any) h.1.1 ∙ anything is_type h.0 (type_begins 0 s h.0 h.2.0 h.2.1)

chooses_program : (os : List Outer) → Chooses (phrase.program os)
chooses_program os all ms rest ([], e, h) ends = inr (ap (next_is any) (h ∙ ends), (none_of_more os all e, h))
chooses_program os all ms rest (o ∷ more, e, (m1, ho, hm)) ends = inl (outer_some o ms m1 ho, (o, m1, ho, tt, (all, rest, (more, one_of_more os o more all e, hm), ends, (refl, refl))))

-- ---- every rule

pub chooses : (n : Phrase) → Chooses n
chooses (phrase.specifier l) = chooses_specifier l
chooses (phrase.stars l n) = chooses_stars l n
chooses (phrase.type_name l) = chooses_type l
chooses (phrase.expression l) = chooses_expression l
chooses (phrase.more l es) = chooses_more l es
chooses (phrase.assignment l) = chooses_assignment l
chooses (phrase.conditional_part l) = chooses_conditional l
chooses (phrase.operands l) = chooses_operands l
chooses (phrase.chain l left) = chooses_chain l left
chooses (phrase.unary l) = chooses_unary l
chooses (phrase.unary_plain l) = chooses_unary_plain l
chooses (phrase.opened l at) = chooses_opened l at
chooses (phrase.enclosed l at) = chooses_enclosed l at
chooses (phrase.atom l) = chooses_atom l
chooses (phrase.postfix l a) = chooses_postfix l a
chooses (phrase.arguments l) = chooses_arguments l
chooses (phrase.maybe_expression l stop) = chooses_maybe l stop
chooses (phrase.pointer l) = chooses_pointer l
chooses (phrase.declarator l) = chooses_declarator l
chooses (phrase.lengths l es) = chooses_lengths l es
chooses (phrase.initial l) = chooses_initial l
chooses (phrase.more_initials l is) = chooses_more_initials l is
chooses (phrase.object l) = chooses_object l
chooses (phrase.object_past l d) = chooses_object_after l d
chooses (phrase.more_objects l os) = chooses_more_objects l os
chooses (phrase.declaration l) = chooses_declaration l
chooses (phrase.start l) = chooses_start l
chooses (phrase.statement l) = chooses_statement l
chooses (phrase.parts l ps) = chooses_parts l ps
chooses (phrase.param l) = chooses_param l
chooses (phrase.param_after l s) = chooses_param_after l s
chooses (phrase.more_params l xs) = chooses_more_params l xs
chooses (phrase.params l) = chooses_params l
chooses phrase.code = chooses_code
chooses (phrase.more_declared ds) = chooses_more_declared ds
chooses phrase.member = chooses_member
chooses (phrase.more_members fs) = chooses_more_members fs
chooses phrase.outer = chooses_outer
chooses (phrase.outer_after is_static s at) = chooses_outer_after is_static s at
chooses (phrase.program os) = chooses_program os
