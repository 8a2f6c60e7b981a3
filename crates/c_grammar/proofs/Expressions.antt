-- The rules of types and expressions choose what the grammar has.
use Rattle.std.proofs.Common.{◌≡◌, ◌⊎◌, inl, inr, ℕ, zero, suc, ◌+◌, ◌≤◌, Bool, true, false, List, [], ◌∷◌, ◌++◌, Some, None, refl, sym, ◌∙◌, ap, subst, append_assoc, append-nil, arith}
use Rattle.c_lexer.specs.declared.token.Kind.{Kind}
use Rattle.c_lexer.specs.declared.token.Kind.TheVariants as kind
use Rattle.c_lexer.specs.declared.token.Punct.{Punct}
use Rattle.c_lexer.specs.declared.token.Punct.TheVariants as punct
use Rattle.c_lexer.specs.declared.token.Word.TheVariants as word
use Rattle.c_tree.specs.declared.ctype.Specifier.{Specifier}
use Rattle.c_tree.specs.declared.ctype.Specifier.TheVariants as specifiers
use Rattle.c_tree.specs.declared.expr.PrefixOp.{PrefixOp}
use Rattle.c_tree.specs.declared.expr.PrefixOp.TheVariants as prefix_op
use Rattle.c_tree.specs.Tree.{Exp, comma, assign, conditional, binary, prefix, sizeof_exp, sizeof_type, cast, named, call, number, letter, text, null, paren, Exps, no_exp, and_exp, listed}
use Rattle.rr_base.specs.declared.position.Position.{Position}
use Rattle.c_print.specs.Kinds.{p, w}
use Rattle.c_grammar.specs.Marks.{Mark, mark}
use Rattle.c_grammar.specs.Grammar.{binds, is_cast, OfSpecifier, OfStars, OfType, OfExp, OfExps, OfMore}
use Rattle.c_grammar.specs.Phrase as phrase
use Rattle.c_grammar.specs.Phrase.{Phrase, TreeOf}
use Rattle.c_grammar.specs.Parse.{sign, key, a_name, a_number, a_letter, a_text, a_prefix, a_binary, an_assign, kind_of, is_of, is_type}
use Rattle.c_grammar.specs.Rules.{rules}
use Rattle.c_grammar.proofs.Language.{Link, link, Chained, Postfix, by_index, by_member, by_arrow, by_increment, by_decrement, Postfixed, is_atom, open_mark, starts_open, Of}
use Rattle.c_grammar.proofs.Grouping.{tightness_low, tightness_small}
use Rattle.c_grammar.proofs.Ungrouping.{opened_chain, is_paren, Peeled, peeled}
use Rattle.c_grammar.proofs.Sound.{atom_not_open}
use Rattle.c_grammar.proofs.Ends.{joins, joins_next, next_is, sees, reads_word, EndsAt, Chosen, by_joins, by_test, joins_test, no_comma, no_assign, no_question, no_bracket, no_dot, no_arrow, no_increment, no_decrement, no_open, no_binary, binary_joins, binary_is, assign_joins, assign_is, prefix_is, First, first_of_exp, not_begun, not_close_paren, not_type, not_semicolon}

-- the rule of a phrase chooses each that ends there
abbrev pub Chooses : Phrase → Type 0
Chooses n = (x : TreeOf n) (ms rest : List Mark) → Of n x ms rest → EndsAt n x rest → Chosen (rules n) x ms rest

-- by the token that comes
pub looks : (test : Kind → Bool) (b : Bool) (m : Mark) (ms following : List Mark) → ms ≡ m ∷ following → test m.lexeme.kind ≡ b → next_is test ms ≡ b
looks test b m ms following e h = ap (next_is test) e ∙ h

pub joins_at : (n : ℕ) (m : Mark) (ms following : List Mark) → ms ≡ m ∷ following → joins m.lexeme.kind ≤ n → joins_next ms ≤ n
joins_at n m ms following e h = subst (λ z. joins_next z ≤ n) (sym e) h

pub one_of_more : {A : Type 0} (xs : List A) (x : A) (more all : List A) → all ≡ xs ++ x ∷ more → all ≡ (xs ++ x ∷ []) ++ more
one_of_more xs x more all e = e ∙ sym (append_assoc xs (x ∷ []) more)

pub none_of_more : {A : Type 0} (xs all : List A) → all ≡ xs ++ [] → all ≡ xs
none_of_more xs all e = e ∙ append-nil xs

abbrev pub as_list : Exps → List Exp
as_list no_exp = []
as_list (and_exp e es) = e ∷ as_list es

pub listed_as : (es : Exps) → listed (as_list es) ≡ es
listed_as no_exp = refl
listed_as (and_exp e es) = ap (and_exp e) (listed_as es)

-- ---- types

pub chooses_specifier : (l : ℕ) → Chooses (phrase.specifier l)
chooses_specifier l (specifiers.Int at) ms rest e ends = inl (ap (reads_word word.Int) e, (tt, at, rest, e, (refl, refl)))
chooses_specifier l (specifiers.Long true true at) ms rest h ends =
    let m = mark (w word.Long) at l in
    inr (
      looks (is_of (key word.Int)) false m ms h.0 h.1 refl,
      inl (
        looks (is_of (key word.Long)) true m ms h.0 h.1 refl,
        (
          tt,
          at,
          h.0,
          h.1,
          inl (ap (reads_word word.Long) h.2.1.1, (tt, h.2.1.0, h.2.0, h.2.1.1, inl (ap (reads_word word.Int) h.2.2.1, (tt, h.2.2.0, rest, h.2.2.1, (refl, refl))))),
        ),
      ),
    )
chooses_specifier l (specifiers.Long true false at) ms rest h ends =
    let m = mark (w word.Long) at l in
    inr (
      looks (is_of (key word.Int)) false m ms h.0 h.1 refl,
      inl (
        looks (is_of (key word.Long)) true m ms h.0 h.1 refl,
        (
          tt,
          at,
          h.0,
          h.1,
          inl (ap (reads_word word.Long) h.2.1.1, (tt, h.2.1.0, h.2.0, h.2.1.1, inr (ap (reads_word word.Int) h.2.2 ∙ ends.1, (refl, h.2.2)))),
        ),
      ),
    )
chooses_specifier l (specifiers.Long false true at) ms rest h ends =
    let m = mark (w word.Long) at l in
    let e : h.0 ≡ mark (w word.Int) h.2.2.0 l ∷ rest = h.2.1 ∙ h.2.2.1 in
    inr (
      looks (is_of (key word.Int)) false m ms h.0 h.1 refl,
      inl (
        looks (is_of (key word.Long)) true m ms h.0 h.1 refl,
        (
          tt,
          at,
          h.0,
          h.1,
          inr (ap (reads_word word.Long) e, inl (ap (reads_word word.Int) e, (tt, h.2.2.0, rest, e, (refl, refl)))),
        ),
      ),
    )
chooses_specifier l (specifiers.Long false false at) ms rest h ends =
    let m = mark (w word.Long) at l in
    let e : h.0 ≡ rest = h.2.1 ∙ h.2.2 in
    inr (
      looks (is_of (key word.Int)) false m ms h.0 h.1 refl,
      inl (
        looks (is_of (key word.Long)) true m ms h.0 h.1 refl,
        (
          tt,
          at,
          h.0,
          h.1,
          inr (ap (reads_word word.Long) e ∙ ends.0, inr (ap (reads_word word.Int) e ∙ ends.1, (refl, e))),
        ),
      ),
    )
chooses_specifier l (specifiers.Void at) ms rest e ends = inr (ap (reads_word word.Int) e, inr (ap (reads_word word.Long) e, inl (ap (reads_word word.Void) e, (tt, at, rest, e, (refl, refl)))))
chooses_specifier l (specifiers.Struct name at) ms rest h ends =
    let e = h.1 in
    inr (ap (reads_word word.Int) e, inr (ap (reads_word word.Long) e, inr (ap (reads_word word.Void) e, inl (ap (reads_word word.Struct) e, (tt, at, h.0, e, (name.text, name.at, rest, h.2, (refl, refl)))))))
chooses_specifier l (specifiers.PthreadT at) ms rest e ends =
    inr (ap (reads_word word.Int) e, inr (ap (reads_word word.Long) e, inr (ap (reads_word word.Void) e, inr (ap (reads_word word.Struct) e, inl (ap (reads_word word.PthreadT) e, (tt, at, rest, e, (refl, refl)))))))
chooses_specifier l (specifiers.PthreadMutexT at) ms rest e ends =
    inr (ap (reads_word word.Int) e, inr (ap (reads_word word.Long) e, inr (ap (reads_word word.Void) e, inr (ap (reads_word word.Struct) e, inr (ap (reads_word word.PthreadT) e, inl (ap (reads_word word.PthreadMutexT) e, (tt, at, rest, e, (refl, refl))))))))
chooses_specifier l (specifiers.PthreadCondT at) ms rest e ends =
    inr (ap (reads_word word.Int) e, inr (ap (reads_word word.Long) e, inr (ap (reads_word word.Void) e, inr (ap (reads_word word.Struct) e, inr (ap (reads_word word.PthreadT) e, inr (ap (reads_word word.PthreadMutexT) e, inl (ap (reads_word word.PthreadCondT) e, (tt, at, rest, e, (refl, refl)))))))))
chooses_specifier l (specifiers.PthreadBarrierT at) ms rest e ends =
    inr (ap (reads_word word.Int) e, inr (ap (reads_word word.Long) e, inr (ap (reads_word word.Void) e, inr (ap (reads_word word.Struct) e, inr (ap (reads_word word.PthreadT) e, inr (ap (reads_word word.PthreadMutexT) e, inr (ap (reads_word word.PthreadCondT) e, inl (ap (reads_word word.PthreadBarrierT) e, (tt, at, rest, e, (refl, refl))))))))))
chooses_specifier l (specifiers.PthreadRwlockT at) ms rest e ends =
    inr (ap (reads_word word.Int) e, inr (ap (reads_word word.Long) e, inr (ap (reads_word word.Void) e, inr (ap (reads_word word.Struct) e, inr (ap (reads_word word.PthreadT) e, inr (ap (reads_word word.PthreadMutexT) e, inr (ap (reads_word word.PthreadCondT) e, inr (ap (reads_word word.PthreadBarrierT) e, (tt, at, rest, e, (refl, refl))))))))))

pub chooses_stars : (l n : ℕ) → Chooses (phrase.stars l n)
chooses_stars l n k ms rest (zero, e, h) ends = inr (ap (sees punct.Star) h ∙ ends, (omega (arith, e), h))
chooses_stars l n k ms rest (suc m, e, h) ends = inl (ap (sees punct.Star) h.1.1, (tt, h.1.0, h.0, h.1.1, (k, rest, (m, omega (arith, e), h.2), ends, (refl, refl))))

-- what comes before stars or after them
pub before_stars : (test : Kind → Bool) → test (p punct.Star) ≡ false → (l n : ℕ) (ms rest : List Mark) → OfStars l n ms rest → next_is test rest ≡ false → next_is test ms ≡ false
before_stars test isnt l zero ms rest h e = ap (next_is test) h ∙ e
before_stars test isnt l (suc n) ms rest h e = looks test false (mark (p punct.Star) h.1.0 l) ms h.0 h.1.1 isnt

close_no_long : (k : Kind) → is_of (sign punct.CloseParen) k ≡ true → is_of (key word.Long) k ≡ false
close_no_long (kind.Word x) h = cc
close_no_long _ h = refl

close_no_int : (k : Kind) → is_of (sign punct.CloseParen) k ≡ true → is_of (key word.Int) k ≡ false
close_no_int (kind.Word x) h = cc
close_no_int _ h = refl

close_no_star : (k : Kind) → is_of (sign punct.CloseParen) k ≡ true → is_of (sign punct.Star) k ≡ false
close_no_star (kind.Punct punct.Star) h = cc
close_no_star _ h = refl

pub zero_plus : (n : ℕ) → n ≡ 0 + n
zero_plus n = omega arith

pub chooses_type : (l : ℕ) → Chooses (phrase.type_name l)
chooses_type l t ms rest h ends = (
  t.specifier,
  h.1.0,
  h.1.1,
  (
    before_stars (is_of (key word.Long)) refl l t.stars h.1.0 rest h.1.2 (by_test (is_of (sign punct.CloseParen)) (is_of (key word.Long)) false close_no_long rest ends),
    before_stars (is_of (key word.Int)) refl l t.stars h.1.0 rest h.1.2 (by_test (is_of (sign punct.CloseParen)) (is_of (key word.Int)) false close_no_int rest ends),
  ),
  (
    t.stars,
    rest,
    (t.stars, zero_plus t.stars, h.1.2),
    by_test (is_of (sign punct.CloseParen)) (is_of (sign punct.Star)) false close_no_star rest ends,
    (ap (λ (q : Position). record { specifier = t.specifier; stars = t.stars; at = q }) h.0, refl),
  ),
)

-- a type begins with its words
pub type_begins : (l : ℕ) (s : Specifier) (ms rest : List Mark) → OfSpecifier l s ms rest → next_is is_type ms ≡ true
type_begins l (specifiers.Int at) ms rest h = ap (next_is is_type) h
type_begins l (specifiers.Long second int at) ms rest h = ap (next_is is_type) h.1
type_begins l (specifiers.Void at) ms rest h = ap (next_is is_type) h
type_begins l (specifiers.Struct name at) ms rest h = ap (next_is is_type) h.1
type_begins l (specifiers.PthreadT at) ms rest h = ap (next_is is_type) h
type_begins l (specifiers.PthreadMutexT at) ms rest h = ap (next_is is_type) h
type_begins l (specifiers.PthreadCondT at) ms rest h = ap (next_is is_type) h
type_begins l (specifiers.PthreadBarrierT at) ms rest h = ap (next_is is_type) h
type_begins l (specifiers.PthreadRwlockT at) ms rest h = ap (next_is is_type) h

-- ---- expressions

-- after an assignment a comma comes, or what ends all
pub before_more : (l : ℕ) (es : Exps) (ms rest : List Mark) → OfMore l es ms rest → joins_next rest ≤ 0 → joins_next ms ≤ 1
before_more l no_exp ms rest h e = subst (λ z. joins_next z ≤ 1) (sym h) (omega (arith, e))
before_more l (and_exp x xs) ms rest h e = joins_at 1 (mark (p punct.Comma) h.1.1.0 l) ms h.1.0 h.1.1.1 (omega arith)

alone : (l : ℕ) (e : Exp) (ms rest : List Mark) → 1 ≤ binds e → OfExp l e ms rest → joins_next rest ≤ 0 → Chosen (rules (phrase.expression l)) e ms rest
alone l e ms rest low h ends = (e, rest, (low, h), omega (arith, ends), inr (by_joins 0 (is_of (sign punct.Comma)) no_comma rest ends, (refl, refl)))

pub chooses_expression : (l : ℕ) → Chooses (phrase.expression l)
chooses_expression l (comma a no_exp at) ms rest h ends = absurd h.0.2
chooses_expression l (comma a (and_exp x xs) at) ms rest ((e, low, _), (m1, ha, (tight, (m2, (there, ec), (m3, hx, hm))))) ends = (
  a,
  m1,
  (low, ha),
  joins_at 1 (mark (p punct.Comma) there l) m1 m2 ec (omega arith),
  inl (
    ap (sees punct.Comma) ec,
    (
      tt,
      there,
      m2,
      ec,
      (
        x,
        m3,
        (tight, hx),
        before_more l xs m3 rest hm ends,
        (
          x ∷ as_list xs,
          rest,
          (as_list xs, refl, subst (λ z. OfMore l z m3 rest) (sym (listed_as xs)) hm),
          ends,
          (ap (λ z. comma a (and_exp x z) at) (sym (listed_as xs)) ∙ ap (λ z. comma a (and_exp x (listed (as_list xs))) z) e, refl),
        ),
      ),
    ),
  ),
)
chooses_expression l (binary a op b at) ms rest h ends = alone l (binary a op b at) ms rest (omega (arith, tightness_low op)) h ends
chooses_expression l e ms rest h ends = alone l e ms rest (omega arith) h ends

pub chooses_more : (l : ℕ) (es : List Exp) → Chooses (phrase.more l es)
chooses_more l es all ms rest ([], e, h) ends = inr (ap (sees punct.Comma) h ∙ by_joins 0 (is_of (sign punct.Comma)) no_comma rest ends, (none_of_more es all e, h))
chooses_more l es all ms rest (x ∷ xs, e, (tight, (m1, (at, ec), (m2, hx, hm)))) ends =
    inl (ap (sees punct.Comma) ec, (tt, at, m1, ec, (x, m2, (tight, hx), before_more l (listed xs) m2 rest hm ends, (all, rest, (xs, one_of_more es x xs all e, hm), ends, (refl, refl)))))

unassigned : (l : ℕ) (e : Exp) (ms rest : List Mark) → 2 ≤ binds e → OfExp l e ms rest → joins_next rest ≤ 1 → Chosen (rules (phrase.assignment l)) e ms rest
unassigned l e ms rest low h ends = (e, rest, (low, h), omega (arith, ends), inr (by_joins 1 (is_of an_assign) no_assign rest ends, (refl, refl)))

pub chooses_assignment : (l : ℕ) → Chooses (phrase.assignment l)
chooses_assignment l (comma a es at) ms rest h ends = absurd (omega (arith, h.0))
chooses_assignment l (assign a op b at) ms rest (low, ((ba, bb), (m1, ha, (m2, eo, hb)))) ends =
    (a, m1, (ba, ha), joins_at 2 (mark (kind_of an_assign op) at (suc (suc l))) m1 m2 eo (assign_joins op), inl (ap (next_is (is_of an_assign)) eo ∙ assign_is op, (op, at, m2, eo, (b, rest, (bb, hb), ends, (refl, refl)))))
chooses_assignment l (binary a op b at) ms rest h ends = unassigned l (binary a op b at) ms rest (omega (arith, tightness_low op)) h.1 ends
chooses_assignment l e ms rest h ends = unassigned l e ms rest (omega arith) h.1 ends

unconditional : (l : ℕ) (e : Exp) (ms rest : List Mark) → 3 ≤ binds e → OfExp l e ms rest → joins_next rest ≤ 2 → Chosen (rules (phrase.conditional_part l)) e ms rest
unconditional l e ms rest low h ends = (e, rest, (low, h), omega (arith, ends), inr (by_joins 2 (is_of (sign punct.Question)) no_question rest ends, (refl, refl)))

pub chooses_conditional : (l : ℕ) → Chooses (phrase.conditional_part l)
chooses_conditional l (comma a es at) ms rest h ends = absurd (omega (arith, h.0))
chooses_conditional l (assign a op b at) ms rest h ends = absurd (omega (arith, h.0))
chooses_conditional l (conditional a b c at) ms rest (low, ((ba, bc), (m1, ha, (m2, eq, (m3, hb, (m4, (there, ec), hc)))))) ends = (
  a,
  m1,
  (ba, ha),
  joins_at 3 (mark (p punct.Question) at (suc (suc l))) m1 m2 eq (omega arith),
  inl (
    ap (sees punct.Question) eq,
    (
      tt,
      at,
      m2,
      eq,
      (b, m3, hb, joins_at 0 (mark (p punct.Colon) there (suc (suc l))) m3 m4 ec (omega arith), (tt, there, m4, ec, (c, rest, (bc, hc), ends, (refl, refl)))),
    ),
  ),
)
chooses_conditional l (binary a op b at) ms rest h ends = unconditional l (binary a op b at) ms rest (omega (arith, tightness_low op)) h.1 ends
chooses_conditional l e ms rest h ends = unconditional l e ms rest (omega arith) h.1 ends

before_chain : (l : ℕ) (left : Exp) (ops : List Link) (e : Exp) (ms rest : List Mark) → Chained l left ops e ms rest → joins_next rest ≤ 3 → joins_next ms ≤ 4
before_chain l left [] e ms rest h le = subst (λ z. joins_next z ≤ 4) (sym h.1) (omega (arith, le))
before_chain l left (link op at u ∷ ops) e ms rest h le = joins_at 4 (mark (kind_of a_binary op) at (suc (suc l))) ms h.0 h.1 (binary_joins op)

pub chooses_operands : (l : ℕ) → Chooses (phrase.operands l)
chooses_operands l e ms rest h ends =
    let o = opened_chain l e ms rest h.0 h.1 in
    (o.operand, o.mid, (o.tight, o.first), before_chain l o.operand o.links e o.mid rest o.chain ends, (e, rest, (o.links, o.chain), ends, (refl, refl)))

pub chooses_chain : (l : ℕ) (left : Exp) → Chooses (phrase.chain l left)
chooses_chain l left e ms rest ([], h) ends = inr (ap (next_is (is_of a_binary)) h.1 ∙ by_joins 3 (is_of a_binary) no_binary rest ends, h)
chooses_chain l left e ms rest (link op at u ∷ ops, h) ends =
    inl (ap (next_is (is_of a_binary)) h.1 ∙ binary_is op, (op, at, h.0, h.1, (u, h.2.0, h.2.1, before_chain (suc l) _ ops e h.2.0 rest h.2.2 ends, (e, rest, (ops, h.2.2), ends, (refl, refl)))))

-- what does not begin with a parenthesis is no cast
uncast : (l : ℕ) (e : Exp) (ms rest : List Mark) → OfExp l e ms rest → starts_open ms ≡ false → is_cast e ≡ false
uncast l (cast t a at) ms rest h isnt = let is = ap starts_open h.1.1 in cc
uncast l (comma a es at) ms rest h isnt = refl
uncast l _ ms rest h isnt = refl

opened_by : (l : ℕ) (ms : List Mark) → First l ms → starts_open ms ≡ true → (at : Position) × (following : List Mark) × (ms ≡ open_mark l at ∷ following)
opened_by l ms f does = (f.token.lexeme.place, f.following, f.whole ∙ ap (λ z. z ∷ f.following) same)
  where
    is : (k : Kind) → is_of (sign punct.OpenParen) k ≡ true → k ≡ p punct.OpenParen
    is (kind.Punct punct.OpenParen) h = refl
    is _ h = cc

    same : f.token ≡ open_mark l f.token.lexeme.place
    same = ap (λ (k : Kind). mark k f.token.lexeme.place f.token.level) (is f.token.lexeme.kind (sym (ap starts_open f.whole) ∙ does)) ∙ ap (λ z. mark (p punct.OpenParen) f.token.lexeme.place z) f.level

pub chooses_unary : (l : ℕ) → Chooses (phrase.unary l)
chooses_unary l e ms rest h ends = by (starts_open ms) refl
  where
    by : (b : Bool) → starts_open ms ≡ b → Chosen (rules (phrase.unary l)) e ms rest
    by true does =
        let o = opened_by l ms (first_of_exp l e ms rest h.1) does in
        inl (does, (tt, o.0, o.1, o.2, (e, rest, (h.0, subst (λ z. OfExp l e z rest) o.2 h.1), ends, (refl, refl))))
    by false isnt = inr (isnt, (e, rest, (isnt, h.0, uncast l e ms rest h.1 isnt, h.1), ends, (refl, refl)))

-- ---- operands

open_is : (ms following : List Mark) (l : ℕ) (at there : Position) (n : ℕ) → open_mark l at ∷ ms ≡ mark (p punct.OpenParen) there n ∷ following → (at ≡ there) × (ms ≡ following)
open_is ms following l at there n e = (ap place_of e, ap rest_of e)
  where
    place_of : List Mark → Position
    place_of [] = at
    place_of (m ∷ ms) = m.lexeme.place

    rest_of : List Mark → List Mark
    rest_of [] = ms
    rest_of (m ∷ ms) = ms

-- after the parenthesis of an expression that is no cast comes no type
record Enclosed (l : ℕ) (at : Position) (e : Exp) (ms rest : List Mark) : Type 0 where
  inner : Exp
  mid : List Mark
  following : List Mark
  there : Position
  has : OfExp (suc l) inner ms mid
  closes : mid ≡ mark (p punct.CloseParen) there (suc l) ∷ following
  links : List Postfix
  chain : Postfixed l (paren inner at) links e following rest

enclosed_by : (l : ℕ) (at : Position) (e u : Exp) (ms mid rest : List Mark) (ops : List Postfix) → is_paren u ≡ true → OfExp l u (open_mark l at ∷ ms) mid → Postfixed l u ops e mid rest → Enclosed l at e ms rest
enclosed_by l at e (paren b there) ms mid rest ops h d c =
    let same = open_is ms d.0 l at there (suc l) d.1 in
    record { inner = b; mid = d.2.0; following = mid; there = d.2.2.0; has = subst (λ z. OfExp (suc l) b z d.2.0) (sym same.1) d.2.1; closes = d.2.2.1; links = ops; chain = subst (λ z. Postfixed l (paren b z) ops e mid rest) (sym same.0) c }
enclosed_by l at e (comma a es there) ms mid rest ops h d c = cc
enclosed_by l at e _ ms mid rest ops h d c = cc

unopened : {P : Type 0} (l : ℕ) (at : Position) (ms : List Mark) → starts_open (open_mark l at ∷ ms) ≡ false → P
unopened l at ms h = cc

peeled_enclosed : (l : ℕ) (at : Position) (e : Exp) (ms rest : List Mark) → Peeled l e (open_mark l at ∷ ms) rest → Enclosed l at e ms rest
peeled_enclosed l at e ms rest x = by x.base
  where
    by : (is_atom x.operand ≡ true) ⊎ (is_paren x.operand ≡ true) → Enclosed l at e ms rest
    by (inl h) = unopened l at ms (atom_not_open l x.operand (open_mark l at ∷ ms) x.mid h x.first)
    by (inr h) = enclosed_by l at e x.operand ms x.mid rest x.links h x.first x.chain

prefix_not_open : (op : PrefixOp) → is_of (sign punct.OpenParen) (kind_of a_prefix op) ≡ false
prefix_not_open prefix_op.Minus = refl
prefix_not_open _ = refl

enclosed : (l : ℕ) (at : Position) (e : Exp) (ms rest : List Mark) → 13 ≤ binds e → is_cast e ≡ false → OfExp l e (open_mark l at ∷ ms) rest → Enclosed l at e ms rest
enclosed l at (comma a es there) ms rest tight isnt h = absurd (omega (arith, tight))
enclosed l at (assign a op b there) ms rest tight isnt h = absurd (omega (arith, tight))
enclosed l at (conditional a b c there) ms rest tight isnt h = absurd (omega (arith, tight))
enclosed l at (binary a op b there) ms rest tight isnt h = absurd (omega (arith, tight, tightness_small op))
enclosed l at (cast t a there) ms rest tight isnt h = cc
enclosed l at (prefix op a there) ms rest tight isnt h = unopened l at ms (ap starts_open h.1.1 ∙ prefix_not_open op)
enclosed l at (sizeof_exp a there) ms rest tight isnt h = unopened l at ms (ap starts_open h.1.1)
enclosed l at (sizeof_type t there) ms rest tight isnt h = unopened l at ms (ap starts_open h.1)
enclosed l at e ms rest tight isnt h = peeled_enclosed l at e ms rest (peeled l e (open_mark l at ∷ ms) rest (omega arith) h)

pub chooses_enclosed : (l : ℕ) (at : Position) → Chooses (phrase.enclosed l at)
chooses_enclosed l at e ms rest h ends =
    let x = enclosed l at e ms rest h.0 h.1 h.2 in
    (x.inner, x.mid, x.has, joins_at 0 (mark (p punct.CloseParen) x.there (suc l)) x.mid x.following x.closes (omega arith), (tt, x.there, x.following, x.closes, (e, rest, (x.links, x.chain), ends, (refl, refl))))

no_type_inside : (l : ℕ) (at : Position) (e : Exp) (ms rest : List Mark) → 13 ≤ binds e → is_cast e ≡ false → OfExp l e (open_mark l at ∷ ms) rest → next_is is_type ms ≡ false
no_type_inside l at e ms rest tight isnt h = let x = enclosed l at e ms rest tight isnt h in not_begun is_type not_type (suc l) x.inner ms x.mid x.has

closed_by : (l : ℕ) (at : Position) (ms following : List Mark) → ms ≡ mark (p punct.CloseParen) at l ∷ following → sees punct.CloseParen ms ≡ true
closed_by l at ms following e = ap (sees punct.CloseParen) e

opened_uncast : (l : ℕ) (at : Position) (e : Exp) (ms rest : List Mark) → is_cast e ≡ false → Of (phrase.opened l at) e ms rest → joins_next rest ≤ 4 → Chosen (rules (phrase.opened l at)) e ms rest
opened_uncast l at e ms rest isnt h ends = inr (no_type_inside l at e ms rest h.0 isnt h.1, (e, rest, (h.0, isnt, h.1), ends, (refl, refl)))

pub chooses_opened : (l : ℕ) (at : Position) → Chooses (phrase.opened l at)
chooses_opened l at (cast t a there) ms rest (tight, (ta, (m1, e1, (m2, ht, (m3, (q, e3), ha))))) ends =
    let same = open_is ms m1 l at there (suc l) e1 in
    inl (ap (next_is is_type) same.1 ∙ type_begins (suc l) t.specifier m1 ht.1.0 ht.1.1, (t, m2, subst (λ z. OfType (suc l) t z m2) (sym same.1) ht, closed_by (suc l) q m2 m3 e3, (tt, q, m3, e3, (a, rest, (ta, ha), ends, (ap (cast t a) (sym same.0), refl)))))
chooses_opened l at (comma a es there) ms rest h ends = absurd (omega (arith, h.0))
chooses_opened l at e ms rest h ends = opened_uncast l at e ms rest refl h ends

-- ---- atoms and what follows them

atom_no_prefix : (l : ℕ) (e : Exp) (ms rest : List Mark) → is_atom e ≡ true → OfExp l e ms rest → (next_is (is_of a_prefix) ms ≡ false) × (reads_word word.Sizeof ms ≡ false)
atom_no_prefix l (named x at) ms rest h d = (ap (next_is (is_of a_prefix)) d, ap (reads_word word.Sizeof) d)
atom_no_prefix l (call x es at) ms rest h d = (ap (next_is (is_of a_prefix)) d.1, ap (reads_word word.Sizeof) d.1)
atom_no_prefix l (number n at) ms rest h d = (ap (next_is (is_of a_prefix)) d, ap (reads_word word.Sizeof) d)
atom_no_prefix l (letter n at) ms rest h d = (ap (next_is (is_of a_prefix)) d, ap (reads_word word.Sizeof) d)
atom_no_prefix l (text x at) ms rest h d = (ap (next_is (is_of a_prefix)) d, ap (reads_word word.Sizeof) d)
atom_no_prefix l (null at) ms rest h d = (ap (next_is (is_of a_prefix)) d, ap (reads_word word.Sizeof) d)
atom_no_prefix l (comma a es at) ms rest h d = cc
atom_no_prefix l _ ms rest h d = cc

before_postfix : (l : ℕ) (left : Exp) (ops : List Postfix) (e : Exp) (ms rest : List Mark) → Postfixed l left ops e ms rest → joins_next rest ≤ 4 → sees punct.OpenParen ms ≡ false
before_postfix l left [] e ms rest h le = ap (sees punct.OpenParen) h.1 ∙ by_joins 4 (is_of (sign punct.OpenParen)) no_open rest le
before_postfix l left (by_index b at ∷ ops) e ms rest h le = ap (sees punct.OpenParen) h.1.1
before_postfix l left (by_member x at ∷ ops) e ms rest h le = ap (sees punct.OpenParen) h.1.1
before_postfix l left (by_arrow x at ∷ ops) e ms rest h le = ap (sees punct.OpenParen) h.1.1
before_postfix l left (by_increment at ∷ ops) e ms rest h le = ap (sees punct.OpenParen) h.1
before_postfix l left (by_decrement at ∷ ops) e ms rest h le = ap (sees punct.OpenParen) h.1

plain_atom : (l : ℕ) (e : Exp) (ms rest : List Mark) → starts_open ms ≡ false → joins_next rest ≤ 4 → Peeled l e ms rest → Chosen (rules (phrase.unary_plain l)) e ms rest
plain_atom l e ms rest isnt ends x = by x.base
  where
    paren_opens : (u : Exp) (mid : List Mark) → is_paren u ≡ true → OfExp l u ms mid → starts_open ms ≡ true
    paren_opens (paren b at) mid h d = ap starts_open d.1
    paren_opens (comma a es at) mid h d = cc
    paren_opens _ mid h d = cc

    clash : {P : Type 0} → starts_open ms ≡ true → P
    clash does = cc

    by : (is_atom x.operand ≡ true) ⊎ (is_paren x.operand ≡ true) → Chosen (rules (phrase.unary_plain l)) e ms rest
    by (inr h) = clash (paren_opens x.operand x.mid h x.first)
    by (inl h) =
        let none = atom_no_prefix l x.operand ms x.mid h x.first in
        inr (none.0, inr (none.1, (x.operand, x.mid, (h, x.first), before_postfix l x.operand x.links e x.mid rest x.chain ends, (e, rest, (x.links, x.chain), ends, (refl, refl)))))

sizeof_operand : (l : ℕ) (a : Exp) (at : Position) (ms m1 rest : List Mark) → ms ≡ mark (w word.Sizeof) at (suc l) ∷ m1 → 13 ≤ binds a → is_cast a ≡ false → OfExp (suc l) a m1 rest → joins_next rest ≤ 4 → Chosen (rules (phrase.unary_plain l)) (sizeof_exp a at) ms rest
sizeof_operand l a at ms m1 rest e tight isnt h ends = by (starts_open m1) refl
  where
    by : (b : Bool) → starts_open m1 ≡ b → Chosen (rules (phrase.unary_plain l)) (sizeof_exp a at) ms rest
    by true does =
        let o = opened_by (suc l) m1 (first_of_exp (suc l) a m1 rest h) does in
        let d = subst (λ z. OfExp (suc l) a z rest) o.2 h in
        inr (
          ap (next_is (is_of a_prefix)) e,
          inl (
            ap (reads_word word.Sizeof) e,
            (
              tt,
              at,
              m1,
              e,
              inl (
                does,
                (
                  tt,
                  o.0,
                  o.1,
                  o.2,
                  inr (no_type_inside (suc l) o.0 a o.1 rest tight isnt d, (a, rest, (tight, isnt, d), ends, (refl, refl))),
                ),
              ),
            ),
          ),
        )
    by false shut = inr (ap (next_is (is_of a_prefix)) e, inl (ap (reads_word word.Sizeof) e, (tt, at, m1, e, inr (shut, (a, rest, (shut, tight, isnt, h), ends, (refl, refl))))))

pub chooses_unary_plain : (l : ℕ) → Chooses (phrase.unary_plain l)
chooses_unary_plain l (prefix op a at) ms rest (isnt, tight, nc, (ta, (m1, e, ha))) ends =
    inl (ap (next_is (is_of a_prefix)) e ∙ prefix_is op, (op, at, m1, e, (a, rest, (ta, ha), ends, (refl, refl))))
chooses_unary_plain l (sizeof_exp a at) ms rest (isnt, tight, nc, (ta, (m1, e, ha))) ends = sizeof_operand l a at ms m1 rest e ta.0 ta.1 ha ends
chooses_unary_plain l (sizeof_type t at) ms rest (isnt, tight, nc, (m1, e, (m2, (there, e2), (m3, ht, (q, e3))))) ends =
    inr (
      ap (next_is (is_of a_prefix)) e,
      inl (
        ap (reads_word word.Sizeof) e,
        (
          tt,
          at,
          m1,
          e,
          inl (
            ap (sees punct.OpenParen) e2,
            (
              tt,
              there,
              m2,
              e2,
              inl (type_begins (suc (suc l)) t.specifier m2 ht.1.0 ht.1.1, (t, m3, ht, closed_by (suc (suc l)) q m3 rest e3, (tt, q, rest, e3, (refl, refl)))),
            ),
          ),
        ),
      ),
    )
chooses_unary_plain l (cast t a at) ms rest h ends = let isnt = h.2 in cc
chooses_unary_plain l (comma a es at) ms rest h ends = absurd (omega (arith, h.1))
chooses_unary_plain l (assign a op b at) ms rest h ends = absurd (omega (arith, h.1))
chooses_unary_plain l (conditional a b c at) ms rest h ends = absurd (omega (arith, h.1))
chooses_unary_plain l (binary a op b at) ms rest h ends = absurd (omega (arith, h.1, tightness_small op))
chooses_unary_plain l e ms rest h ends = plain_atom l e ms rest h.0 ends (peeled l e ms rest (omega arith) h.3)

pub chooses_atom : (l : ℕ) → Chooses (phrase.atom l)
chooses_atom l (named x at) ms rest h ends = inl (ap (next_is (is_of a_name)) h.1, (x, at, rest, h.1, inr (ends, (refl, refl))))
chooses_atom l (call x es at) ms rest (is, (m1, e, (m2, (there, e2), h))) ends =
    inl (
      ap (next_is (is_of a_name)) e,
      (
        x,
        at,
        m1,
        e,
        inl (
          ap (sees punct.OpenParen) e2,
          (
            tt,
            there,
            m2,
            e2,
            (as_list es, rest, (h.0, subst (λ z. OfExps (suc l) z m2 h.0) (sym (listed_as es)) h.1, h.2), tt, (ap (λ z. call x z at) (sym (listed_as es)), refl)),
          ),
        ),
      ),
    )
chooses_atom l (number n at) ms rest h ends = inr (ap (next_is (is_of a_name)) h.1, inl (ap (next_is (is_of a_number)) h.1, (n, at, rest, h.1, (refl, refl))))
chooses_atom l (letter n at) ms rest h ends = inr (ap (next_is (is_of a_name)) h.1, inr (ap (next_is (is_of a_number)) h.1, inl (ap (next_is (is_of a_letter)) h.1, (n, at, rest, h.1, (refl, refl)))))
chooses_atom l (text x at) ms rest h ends =
    inr (ap (next_is (is_of a_name)) h.1, inr (ap (next_is (is_of a_number)) h.1, inr (ap (next_is (is_of a_letter)) h.1, inl (ap (next_is (is_of a_text)) h.1, (x, at, rest, h.1, (refl, refl))))))
chooses_atom l (null at) ms rest h ends =
    inr (ap (next_is (is_of a_name)) h.1, inr (ap (next_is (is_of a_number)) h.1, inr (ap (next_is (is_of a_letter)) h.1, inr (ap (next_is (is_of a_text)) h.1, (tt, at, rest, h.1, (refl, refl))))))
chooses_atom l (comma a es at) ms rest h ends = let isnt = h.0 in cc
chooses_atom l _ ms rest h ends = let isnt = h.0 in cc

pub chooses_postfix : (l : ℕ) (left : Exp) → Chooses (phrase.postfix l left)
chooses_postfix l left e ms rest ([], h) ends =
    inr (
      ap (sees punct.OpenBracket) h.1 ∙ by_joins 4 (is_of (sign punct.OpenBracket)) no_bracket rest ends,
      inr (
        ap (sees punct.Dot) h.1 ∙ by_joins 4 (is_of (sign punct.Dot)) no_dot rest ends,
        inr (
          ap (sees punct.Arrow) h.1 ∙ by_joins 4 (is_of (sign punct.Arrow)) no_arrow rest ends,
          inr (
            ap (sees punct.PlusPlus) h.1 ∙ by_joins 4 (is_of (sign punct.PlusPlus)) no_increment rest ends,
            inr (ap (sees punct.MinusMinus) h.1 ∙ by_joins 4 (is_of (sign punct.MinusMinus)) no_decrement rest ends, h),
          ),
        ),
      ),
    )
chooses_postfix l left e ms rest (by_index b at ∷ ops, (m4, (m1, ea, (m2, hb, (q, eb))), hp)) ends =
    inl (ap (sees punct.OpenBracket) ea, (tt, at, m1, ea, (b, m2, hb, joins_at 0 (mark (p punct.CloseBracket) q (suc (suc l))) m2 m4 eb (omega arith), (tt, q, m4, eb, (e, rest, (ops, hp), ends, (refl, refl))))))
chooses_postfix l left e ms rest (by_member x at ∷ ops, (m4, (m1, ea, ex), hp)) ends =
    inr (ap (sees punct.OpenBracket) ea, inl (ap (sees punct.Dot) ea, (tt, at, m1, ea, (x.text, x.at, m4, ex, (e, rest, (ops, hp), ends, (refl, refl))))))
chooses_postfix l left e ms rest (by_arrow x at ∷ ops, (m4, (m1, ea, ex), hp)) ends =
    inr (ap (sees punct.OpenBracket) ea, inr (ap (sees punct.Dot) ea, inl (ap (sees punct.Arrow) ea, (tt, at, m1, ea, (x.text, x.at, m4, ex, (e, rest, (ops, hp), ends, (refl, refl)))))))
chooses_postfix l left e ms rest (by_increment at ∷ ops, (m4, ea, hp)) ends =
    inr (ap (sees punct.OpenBracket) ea, inr (ap (sees punct.Dot) ea, inr (ap (sees punct.Arrow) ea, inl (ap (sees punct.PlusPlus) ea, (tt, at, m4, ea, (e, rest, (ops, hp), ends, (refl, refl)))))))
chooses_postfix l left e ms rest (by_decrement at ∷ ops, (m4, ea, hp)) ends =
    inr (ap (sees punct.OpenBracket) ea, inr (ap (sees punct.Dot) ea, inr (ap (sees punct.Arrow) ea, inr (ap (sees punct.PlusPlus) ea, inl (ap (sees punct.MinusMinus) ea, (tt, at, m4, ea, (e, rest, (ops, hp), ends, (refl, refl))))))))

pub chooses_arguments : (l : ℕ) → Chooses (phrase.arguments l)
chooses_arguments l [] ms rest (m1, h, (at, e)) ends = let d : ms ≡ mark (p punct.CloseParen) at l ∷ rest = h ∙ e in inl (ap (sees punct.CloseParen) d, (tt, at, rest, d, (refl, refl)))
chooses_arguments l (x ∷ xs) ms rest (m1, (tight, (m2, hx, hm)), (at, e)) ends =
    let stop = joins_at 0 (mark (p punct.CloseParen) at l) m1 rest e (omega arith) in
    inr (not_begun (is_of (sign punct.CloseParen)) not_close_paren l x ms m2 hx, (x, m2, (tight, hx), before_more l (listed xs) m2 m1 hm stop, (x ∷ xs, m1, (xs, refl, hm), stop, (tt, at, rest, e, (refl, refl)))))

stop_joins : (stop : Punct) (ms : List Mark) → (stop ≡ punct.Semicolon) ⊎ (stop ≡ punct.CloseParen) → sees stop ms ≡ true → joins_next ms ≤ 0
stop_joins stop ms (inl e) h = joins_test (is_of (sign punct.Semicolon)) 0 is ms (subst (λ z. sees z ms ≡ true) e h)
  where
    is : (k : Kind) → is_of (sign punct.Semicolon) k ≡ true → joins k ≤ 0
    is (kind.Punct punct.Semicolon) h = omega arith
    is _ h = cc
stop_joins stop ms (inr e) h = joins_test (is_of (sign punct.CloseParen)) 0 is ms (subst (λ z. sees z ms ≡ true) e h)
  where
    is : (k : Kind) → is_of (sign punct.CloseParen) k ≡ true → joins k ≤ 0
    is (kind.Punct punct.CloseParen) h = omega arith
    is _ h = cc

stop_not_begun : (stop : Punct) (l : ℕ) (e : Exp) (ms rest : List Mark) → (stop ≡ punct.Semicolon) ⊎ (stop ≡ punct.CloseParen) → OfExp l e ms rest → sees stop ms ≡ false
stop_not_begun stop l e ms rest (inl d) h = subst (λ z. sees z ms ≡ false) (sym d) (not_begun (is_of (sign punct.Semicolon)) not_semicolon l e ms rest h)
stop_not_begun stop l e ms rest (inr d) h = subst (λ z. sees z ms ≡ false) (sym d) (not_begun (is_of (sign punct.CloseParen)) not_close_paren l e ms rest h)

pub chooses_maybe : (l : ℕ) (stop : Punct) → Chooses (phrase.maybe_expression l stop)
chooses_maybe l stop None ms rest h ends = inl (ap (sees stop) h ∙ ends.1, (refl, h))
chooses_maybe l stop (Some e) ms rest h ends = inr (stop_not_begun stop l e ms rest ends.0 h, (e, rest, h, stop_joins stop rest ends.0 ends.1, (refl, refl)))
