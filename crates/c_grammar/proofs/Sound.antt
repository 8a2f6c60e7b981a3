-- What a rule reads is a phrase of the grammar.
use Rattle.std.proofs.Common.{◌≡◌, inl, inr, ℕ, zero, suc, ◌+◌, ◌≤◌, Bool, true, false, cond, ◌&&◌, List, [], ◌∷◌, ◌++◌, Option, Some, None, refl, sym, ◌∙◌, ap, subst, append_assoc, append-nil, arith}
use Rattle.c_lexer.specs.declared.token.Kind.TheVariants as kind
use Rattle.c_lexer.specs.declared.token.Punct.TheVariants as punct
use Rattle.c_lexer.specs.declared.token.Word.TheVariants as word
use Rattle.c_tree.specs.declared.name.Name.{Name}
use Rattle.c_tree.specs.declared.ctype.Specifier.{Specifier}
use Rattle.c_tree.specs.declared.ctype.Specifier.TheVariants as specifiers
use Rattle.c_tree.specs.declared.expr.PrefixOp.{PrefixOp}
use Rattle.c_tree.specs.declared.expr.PrefixOp.TheVariants as prefix_op
use Rattle.c_tree.specs.Tree.{Exp, comma, named, call, number, letter, text, null, paren, listed, Formal, formal, formal_pointer, void_formals, listed_formals, FormalRow, no_formal, and_formal, listed_row, Declared, declared, declared_pointer, Init, listed_inits, Object, Statement, branch, branch_else, part_declares, part_does, listed_parts, Outer}
use Rattle.rr_base.specs.declared.position.Position.{Position}
use Rattle.c_print.specs.Kinds.{p, w}
use Rattle.c_grammar.specs.Grammar.{specifier_place, first_place, binds, postfixes_in, OfMaybeName, OfFormal, OfFormals, OfMoreFormals, ends_open, is_void, is_nameless, is_void_alone, OfSpecifier, OfStars, OfExp, OfExps, OfLengths, OfDeclared, OfInit, OfInits, OfObject, OfObjects, OfStatement, OfParts, OfAllDeclared, OfAllFields, OfOuter}
use Rattle.c_grammar.specs.Marks.{Mark, mark, own, other, ◌>>◌, maybe}
use Rattle.c_grammar.specs.Phrase as phrase
use Rattle.c_grammar.specs.Phrase.{Phrase, Head, function_head, object_head, pointer_head, Front, object_front, pointer_front, Initials, initials}
use Rattle.c_grammar.specs.Parse.{sign, key, a_prefix, kind_of, is_of, Rule, ret, one, heads, fronts, choose}
use Rattle.c_grammar.specs.Parse as rule
use Rattle.c_grammar.specs.Rules.{name_of, rules, braces_after, objects_after_rule, after_front, after_head, params_from}
use Rattle.c_grammar.proofs.Language.{link, by_index, by_member, by_arrow, by_increment, by_decrement, is_atom, open_mark, starts_open, OfHead, OfFront, Of, Lang, Holds}
use Rattle.c_grammar.proofs.Grouping.{no_operators, no_cast, of_chained, of_postfixed}

pub holds : {A : Type 0} (g : Rule A) (ms : List Mark) (Q : A → List Mark → Type 0) → Holds g ms Q → (x : A) (rest : List Mark) → Lang g x ms rest → Q x rest
holds (ret a) ms Q h x rest e = subst (λ z. Q z rest) (sym e.0) (subst (λ z. Q a z) e.1 h)
holds (one c l f) ms Q h x rest e = holds (f e.0.0 e.0.1) e.1 Q (h e.0.0 e.0.1 e.1 e.2) x rest e.3
holds (rule.call n f) ms Q h x rest e = holds (f e.0) e.1 Q (h e.0 e.1 e.2) x rest e.3
holds (heads f) ms Q h x rest e = holds (f e.0) e.1 Q (h e.0 e.1 e.2) x rest e.3
holds (fronts l f) ms Q h x rest e = holds (f e.0) e.1 Q (h e.0 e.1 e.2) x rest e.3
holds (choose test g k) ms Q h x rest (inl e) = holds g ms Q h.0 x rest e
holds (choose test g k) ms Q h x rest (inr e) = holds k ms Q h.1 x rest e

-- one more at the end
more_after : {A : Type 0} (xs : List A) (x : A) (more all : List A) → all ≡ (xs ++ x ∷ []) ++ more → all ≡ xs ++ x ∷ more
more_after xs x more all e = e ∙ append_assoc xs (x ∷ []) more

pub none_after : {A : Type 0} (xs : List A) → xs ≡ xs ++ []
none_after xs = sym (append-nil xs)

same_level : (l : ℕ) → l ≡ l + 0
same_level l = omega arith

-- so many from none on
from_none : (n m : ℕ) → n ≡ 0 + m → m ≡ n
from_none n m e = omega (arith, e)

stars_of : (l n : ℕ) (ms rest : List Mark) → Of (phrase.stars l 0) n ms rest → OfStars l n ms rest
stars_of l n ms rest h = subst (λ z. OfStars l z ms rest) (from_none n h.0 h.1) h.2

prefix_not_open : (op : PrefixOp) → is_of (sign punct.OpenParen) (kind_of a_prefix op) ≡ false
prefix_not_open prefix_op.Minus = refl
prefix_not_open _ = refl

pub atom_not_open : (l : ℕ) (e : Exp) (ms rest : List Mark) → is_atom e ≡ true → OfExp l e ms rest → starts_open ms ≡ false
atom_not_open l (named x at) ms rest h d = ap starts_open d
atom_not_open l (call x es at) ms rest h d = ap starts_open d.1
atom_not_open l (number n at) ms rest h d = ap starts_open d
atom_not_open l (letter n at) ms rest h d = ap starts_open d
atom_not_open l (text x at) ms rest h d = ap starts_open d
atom_not_open l (null at) ms rest h d = ap starts_open d
atom_not_open l _ ms rest h d = cc

pub atom_binds : (e : Exp) → is_atom e ≡ true → 14 ≤ binds e
atom_binds (named x at) h = omega arith
atom_binds (call x es at) h = omega arith
atom_binds (number n at) h = omega arith
atom_binds (letter n at) h = omega arith
atom_binds (text x at) h = omega arith
atom_binds (null at) h = omega arith
atom_binds _ h = cc

pub atom_postfixes : (e : Exp) → is_atom e ≡ true → (l : ℕ) → l ≡ l + postfixes_in e
atom_postfixes (named x at) h l = omega arith
atom_postfixes (call x es at) h l = omega arith
atom_postfixes (number n at) h l = omega arith
atom_postfixes (letter n at) h l = omega arith
atom_postfixes (text x at) h l = omega arith
atom_postfixes (null at) h l = omega arith
atom_postfixes _ h l = cc

-- ---- where a rule goes by what was read

braces_hold : (l : ℕ) (i : Init) (at : Position) (ms m1 m2 m3 : List Mark) → ms ≡ mark (p punct.OpenBrace) at (suc l) ∷ m1 → OfInit (suc l) i m1 m2 → (r : Initials) → Of (phrase.more_initials (suc l) (i ∷ [])) r m2 m3 → Holds (braces_after (suc l) r at) m3 (λ x rest. OfInit l x ms rest)
braces_hold l i at ms m1 m2 m3 e h (initials is trailing) k =
    λ v p2 m4 e2. let these : i ∷ k.0 ≡ is = cc in let comma : k.1 ≡ trailing = cc in
    (m1, e, (k.3.0, subst (λ z. OfInits (suc l) (listed_inits z) m1 k.3.0) these (m2, h, k.3.1), (m3, subst (λ z. maybe z (other (p punct.Comma) (suc l)) k.3.0 m3) comma k.3.2, (p2, e2))))

else_holds : (l : ℕ) (x : Exp) (a : Statement) (at : Position) (ms m5 : List Mark) → (OfStatement l (branch x a at) ms m5)
    → ((b : Statement) (place : Position) (m6 m7 : List Mark) → ends_open a ≡ false → m5 ≡ mark (w word.Else) place (suc l) ∷ m6 → OfStatement (suc l) b m6 m7 → OfStatement l (branch_else x a b at) ms m7)
    → (o : Bool) → ends_open a ≡ o → Holds (cond o (ret (branch x a at)) (choose (is_of (key word.Else)) (one (key word.Else) (suc l) (λ _ _. rule.call (phrase.statement (suc l)) (λ b. ret (branch_else x a b at)))) (ret (branch x a at)))) m5 (λ s rest. OfStatement l s ms rest)
else_holds l x a at ms m5 without both true e = without
else_holds l x a at ms m5 without both false e = ((λ v place m6 d b m7 h. both b place m6 m7 e d h), without)

join_object : (l : ℕ) (d : Declared) (o : Object) (ms m1 m2 : List Mark) → OfDeclared l d ms m1 → Of (phrase.object_past l d) o m1 m2 → OfObject l o ms m2
join_object l d o ms m1 m2 h (inl k) = subst (λ z. OfObject l z ms m2) (sym k.0) (subst (λ z. OfDeclared l d ms z) k.1 h)
join_object l d o ms m1 m2 h (inr k) = subst (λ z. OfObject l z ms m2) (sym k.2) (m1, h, k.3)

zero_plus : (n : ℕ) → n ≡ 0 + n
zero_plus n = omega arith

-- after the declarator of the first object
objects_hold : (is_static : Bool) (s : Specifier) (at : Position) (d : Declared) (ms m2 : List Mark) → OfDeclared 0 d ms m2 → Holds (objects_after_rule is_static s at d) m2 (λ o rest. Of (phrase.outer_after is_static s at) o ms rest)
objects_hold is_static s at d ms m2 h = λ o m3 g os m4 i v p2 m5 e2. inr (os, refl, (m4, subst (λ z. OfObjects 0 z ms m4) (sym i.1) (m3, join_object 0 d o ms m2 m3 h g, i.2), (p2, e2)))

head_holds : (is_static : Bool) (s : Specifier) (at : Position) (ms m1 : List Mark) (h : Head) → OfHead h ms m1 → Holds (after_head is_static s at h) m1 (λ o rest. Of (phrase.outer_after is_static s at) o ms rest)
head_holds is_static s at ms m1 (function_head n x there) k =
    λ xs m2 j v p2 m3 e2 c m4 g. inl (n, name_of x there, xs, c, refl, (k.0, k.1, (k.2.0, k.2.1, (m1, k.2.2, (m2, j, (m3, (p2, e2), g))))))
head_holds is_static s at ms m1 (object_head n x there) k =
    λ es m2 j.
    let d : OfDeclared 0 (declared n (name_of x there) es) ms m2 =
    (k.0, k.1, (m1, subst (λ z. own (kind.Name x) there z k.0 m1) (zero_plus n) k.2, subst (λ z. OfLengths z es m1 m2) (zero_plus n) (subst (λ z. OfLengths n z m1 m2) (sym j.1) j.2))) in
    objects_hold is_static s at (declared n (name_of x there) es) ms m2 d
head_holds is_static s at ms m1 (pointer_head n) k = λ x m2 j. objects_hold is_static s at (declared_pointer n x.0 x.1) ms m2 (k.0, k.1, (m1, k.2, j))

front_holds : (l : ℕ) (ms m1 : List Mark) (h : Front) → OfFront l h ms m1 → Holds (after_front l h) m1 (λ d rest. OfDeclared l d ms rest)
front_holds l ms m1 (object_front n x at) k = λ es m2 j. (k.0, k.1, (m1, k.2, subst (λ z. OfLengths (l + n) z m1 m2) (sym j.1) j.2))
front_holds l ms m1 (pointer_front n) k = λ x m2 j. (k.0, k.1, (m1, k.2, j))

outer_static : (s : Specifier) (at : Position) (o : Outer) (ms m1 m2 m3 : List Mark) → ms ≡ mark (w word.Static) at 0 ∷ m1 → OfSpecifier 0 s m1 m2 → Of (phrase.outer_after true s at) o m2 m3 → OfOuter o ms m3
outer_static s at o ms m1 m2 m3 e h (inl k) = subst (λ z. OfOuter z ms m3) (sym k.4) (m1, (at, e), (m2, h, k.5))
outer_static s at o ms m1 m2 m3 e h (inr k) = subst (λ z. OfOuter z ms m3) (sym k.1) (m1, e, (m2, h, k.2))

outer_plain : (s : Specifier) (o : Outer) (ms m2 m3 : List Mark) → OfSpecifier 0 s ms m2 → Of (phrase.outer_after false s (specifier_place s)) o m2 m3 → OfOuter o ms m3
outer_plain s o ms m2 m3 h (inl k) = subst (λ z. OfOuter z ms m3) (sym k.4) (ms, refl, (m2, h, k.5))
outer_plain s o ms m2 m3 h (inr k) = subst (λ z. OfOuter z ms m3) (sym k.1) (ms, (refl, refl), (m2, h, k.2))

-- `void` alone is one token
void_token : (l : ℕ) (s : Specifier) (n : Option Name) (k : ℕ) (ms mid rest : List Mark) → (is_void s && is_nameless n k) ≡ true → (OfSpecifier l s >> OfStars l k >> OfMaybeName l n) ms mid → mid ≡ rest → OfFormals l void_formals ms rest
void_token l (specifiers.Void at) None zero ms mid rest v h e = (at, h.1 ∙ ap (λ z. mark (w word.Void) at l ∷ z) (h.2.1 ∙ h.2.2 ∙ e))
void_token l _ _ _ ms mid rest v h e = cc

params_hold : (l : ℕ) (x : Formal) (more : FormalRow) (ms mid rest : List Mark) → OfFormal l x ms mid → OfMoreFormals l more mid rest → (b : Bool) → is_void_alone (and_formal x more) ≡ b → OfFormals l (cond b void_formals (listed_formals (and_formal x more))) ms rest
params_hold l (formal s n name at) no_formal ms mid rest h k true e = void_token l s name n ms mid rest e h.1 k
params_hold l (formal_pointer s n name xs at) no_formal ms mid rest h k true e = cc
params_hold l (formal s n name at) (and_formal y more) ms mid rest h k true e = cc
params_hold l (formal_pointer s n name xs at) (and_formal y more) ms mid rest h k true e = cc
params_hold l x more ms mid rest h k false e = (e, (mid, h, k))

join_param : (l : ℕ) (s : Specifier) (x : Formal) (ms m1 m2 : List Mark) → OfSpecifier l s ms m1 → Of (phrase.param_after l s) x m1 m2 → OfFormal l x ms m2
join_param l s x ms m1 m2 h (inl (n, name, is, k)) = subst (λ z. OfFormal l z ms m2) (sym is) (refl, (m1, h, k))
join_param l s x ms m1 m2 h (inr (n, name, xs, is, k)) = subst (λ z. OfFormal l z ms m2) (sym is) (refl, (m1, h, k))

-- ---- each rule

pub sound : (n : Phrase) (ms : List Mark) → Holds (rules n) ms (λ x rest. Of n x ms rest)
sound (phrase.specifier l) ms = (
  λ v at mid e. e,
  (
    λ v at m1 e. (
      λ v2 p2 m2 e2. (λ v3 p3 m3 e3. (m1, e, (m2, (p2, e2), (p3, e3))), (m1, e, (m2, (p2, e2), refl))),
      (λ v3 p3 m3 e3. (m1, e, (m1, refl, (p3, e3))), (m1, e, (m1, refl, refl))),
    ),
    (λ v at mid e. e, (λ v at m1 e x p2 m2 e2. (m1, e, e2), (λ v at mid e. e, (λ v at mid e. e, (λ v at mid e. e, (λ v at mid e. e, λ v at mid e. e)))))),
  ),
)
sound (phrase.stars l n) ms = (λ v at m1 e k m2 h. (suc h.0, omega (arith, h.1), (m1, (at, e), h.2)), (0, same_level n, refl))
sound (phrase.type_name l) ms = λ s m1 h n m2 k. (refl, (m1, h, stars_of l n m1 m2 k))
sound (phrase.expression l) ms = λ e m1 h. (
  λ v at m2 d x m3 k es m4 j. subst (λ z. OfExp l (comma e (listed z) (first_place e)) ms m4) (sym j.1) ((refl, h.0, tt), (m1, h.1, (k.0, (m2, (at, d), (m3, k.1, j.2))))),
  h.1,
)
sound (phrase.more l es) ms = (λ v at m1 e x m2 h all m3 k. (x ∷ k.0, more_after es x k.0 all k.1, (h.0, (m1, (at, e), (m2, h.1, k.2)))), ([], none_after es, refl))
sound (phrase.assignment l) ms = λ a m1 h. (λ op at m2 e b m3 k. (omega arith, ((h.0, k.0), (m1, h.1, (m2, e, k.1)))), (omega (arith, h.0), h.1))
sound (phrase.conditional_part l) ms = λ a m1 h. (λ v at m2 e b m3 k v2 p2 m4 e2 c m5 j. (omega arith, ((h.0, j.0), (m1, h.1, (m2, e, (m3, k, (m4, (p2, e2), j.1)))))), (omega (arith, h.0), h.1))
sound (phrase.operands l) ms = λ u m1 h all m2 k. of_chained k.0 l l u all ms m1 m2 (omega (arith, no_operators u h.0)) (omega (arith, h.0)) h.1 k.1
sound (phrase.chain l left) ms = (λ op at m1 e u m2 h all m3 k. (link op at u ∷ k.0, (m1, e, (m2, h, k.1))), ([], (refl, refl)))
sound (phrase.unary l) ms = (λ v at m1 e r m2 h. (h.0, subst (λ z. OfExp l r z m2) (sym e) h.1), λ r m1 h. (h.1, h.3))
sound (phrase.unary_plain l) ms = (
  λ op at m1 e a m2 h. (ap starts_open e ∙ prefix_not_open op, omega arith, refl, (h.0, (m1, e, h.1))),
  (
    λ v at m1 e. (
      λ v2 p2 m2 e2. (
        λ t m3 h v3 p3 m4 e3. (ap starts_open e, omega arith, refl, (m1, e, (m2, (p2, e2), (m3, h, (p3, e3))))),
        λ u m3 h. (ap starts_open e, omega arith, refl, ((h.0, h.1), (m1, e, subst (λ z. OfExp (suc l) u z m3) (sym e2) h.2))),
      ),
      λ u m2 h. (ap starts_open e, omega arith, refl, ((h.1, h.2), (m1, e, h.3))),
    ),
    λ a m1 h all m2 k. let b = of_postfixed k.0 l l a all ms m1 m2 (atom_postfixes a h.0 l) (atom_binds a h.0) h.1 k.1 in
        (atom_not_open l a ms m1 h.0 h.1, omega (arith, b.0), no_cast all b.0, b.1),
  ),
)
sound (phrase.opened l there) ms = (λ t m1 h v p2 m2 e a m3 k. (omega arith, (k.0, (ms, refl, (m1, h, (m2, (p2, e), k.1))))), λ r m1 h. (h.0, h.2))
sound (phrase.enclosed l there) ms = λ b m1 h v p2 m2 e all m3 k. let r = of_postfixed k.0 l l (paren b there) all (open_mark l there ∷ ms) m2 m3 (same_level l) (omega arith) (ms, refl, (m1, h, (p2, e))) k.1 in (omega (arith, r.0), no_cast all r.0, r.1)
sound (phrase.atom l) ms = (
  λ x at m1 e. (λ v2 p2 m2 e2 es m3 h. (refl, (m1, e, (m2, (p2, e2), h))), (refl, e)),
  (λ n at m1 e. (refl, e), (λ n at m1 e. (refl, e), (λ n at m1 e. (refl, e), λ v at m1 e. (refl, e)))),
)
sound (phrase.postfix l a) ms = (
  λ v at m1 e b m2 h v2 p2 m3 e2 all m4 k. (by_index b at ∷ k.0, (m3, (m1, e, (m2, h, (p2, e2))), k.1)),
  (
    λ v at m1 e x p2 m2 e2 all m3 k. (by_member (name_of x p2) at ∷ k.0, (m2, (m1, e, e2), k.1)),
    (
      λ v at m1 e x p2 m2 e2 all m3 k. (by_arrow (name_of x p2) at ∷ k.0, (m2, (m1, e, e2), k.1)),
      (λ v at m1 e all m2 k. (by_increment at ∷ k.0, (m1, e, k.1)), (λ v at m1 e all m2 k. (by_decrement at ∷ k.0, (m1, e, k.1)), ([], (refl, refl)))),
    ),
  ),
)
sound (phrase.arguments l) ms = (λ v at m1 e. (ms, refl, (at, e)), λ e m1 h es m2 k v p2 m3 d. (m2, subst (λ z. OfExps l (listed z) ms m2) (sym k.1) (h.0, (m1, h.1, k.2)), (p2, d)))
sound (phrase.maybe_expression l stop) ms = (refl, λ e m1 h. h)
sound (phrase.pointer l) ms = λ v p1 m1 e1 x at m2 e2 v3 p3 m3 e3 v4 p4 m4 e4 xs m5 h v6 p6 m6 e6. (m1, (p1, e1), (m2, e2, (m3, (p3, e3), (m4, (p4, e4), (m5, h, (p6, e6))))))
sound (phrase.declarator l) ms = λ h m1 k. front_holds l ms m1 h k
sound (phrase.lengths l es) ms = (
  λ v at m1 e x m2 h v2 p2 m3 d all m4 k. (x ∷ k.0, more_after es x k.0 all k.1, (h.0, (m1, (at, e), (m2, h.1, (m3, (p2, d), k.2))))),
  ([], none_after es, refl),
)
sound (phrase.initial l) ms = (λ v at m1 e i m2 h r m3 k. braces_hold l i at ms m1 m2 m3 e h r k, (λ v at m1 e. e, (λ v at m1 e. e, (λ v at m1 e. e, λ e m1 h. h))))
sound (phrase.more_initials l is) ms = (
  λ v at m1 e. (
    ([], true, ap (λ z. initials z true) (none_after is), (ms, refl, (at, e))),
    λ i m2 h r m3 k. (i ∷ k.0, k.1, k.2 ∙ ap (λ z. initials z k.1) (append_assoc is (i ∷ []) k.0), (k.3.0, (m1, (at, e), (m2, h, k.3.1)), k.3.2)),
  ),
  ([], false, ap (λ z. initials z false) (none_after is), (ms, refl, refl)),
)
sound (phrase.object l) ms = λ d m1 h o m2 k. join_object l d o ms m1 m2 h k
sound (phrase.object_past l d) ms = (λ v at m1 e i m2 h. inr (i, at, refl, (m1, e, h)), inl (refl, refl))
sound (phrase.more_objects l os) ms = (λ v at m1 e x m2 h all m3 k. (x ∷ k.0, more_after os x k.0 all k.1, (m1, (at, e), (m2, h, k.2))), ([], none_after os, refl))
sound (phrase.declaration l) ms = λ s m1 h o m2 k os m3 j v at m4 e. (refl, (m1, h, (m3, subst (λ z. OfObjects l z m1 m3) (sym j.1) (m2, k, j.2), (at, e))))
sound (phrase.start l) ms = (λ d m1 h. h, λ e m1 h v at m2 d. (m1, h, (at, d)))
sound (phrase.statement l) ms = (
  λ v at m1 e ps m2 h v2 p2 m3 d. (m1, e, (m2, subst (λ z. OfParts (suc l) (listed_parts z) m1 m2) (sym h.1) h.2, (p2, d))),
  (
    λ v at m1 e. e,
    (
      λ v at m1 e v2 p2 m2 d. (m1, e, (p2, d)),
      (
        λ v at m1 e v2 p2 m2 d. (m1, e, (p2, d)),
        (
          λ v at m1 e x m2 h v2 p2 m3 d. (m1, e, (m2, h, (p2, d))),
          (
            λ v at m1 e v2 p2 m2 e2 x m3 h v3 p3 m4 e3 a m5 k.
                else_holds l x a at ms m5 (m1, e, (m2, (p2, e2), (m3, h, (m4, (p3, e3), k)))) (λ b place m6 m7 c d j. (c, (m1, e, (m2, (p2, e2), (m3, h, (m4, (p3, e3), (m5, k, (m6, (place, d), j)))))))) (ends_open a) refl,
            (
              λ v at m1 e v2 p2 m2 e2 x m3 h v3 p3 m4 e3 a m5 k. (m1, e, (m2, (p2, e2), (m3, h, (m4, (p3, e3), k)))),
              (
                λ v at m1 e a m2 h v2 p2 m3 e2 v3 p3 m4 e3 x m5 k v4 p4 m6 e4 v5 p5 m7 e5. (m1, e, (m2, h, (m3, (p2, e2), (m4, (p3, e3), (m5, k, (m6, (p4, e4), (p5, e5))))))),
                (
                  λ v at m1 e v2 p2 m2 e2 s m3 h test m4 k v3 p3 m5 e3 next m6 j v4 p4 m7 e4 a m8 g. (m1, e, (m2, (p2, e2), (m3, h, (m4, k, (m5, (p3, e3), (m6, j, (m7, (p4, e4), g))))))),
                  λ x m1 h v p2 m2 d. (refl, (m1, h, (p2, d))),
                ),
              ),
            ),
          ),
        ),
      ),
    ),
  ),
)
sound (phrase.parts l ps) ms = (
  ([], none_after ps, refl),
  (
    λ d m1 h all m2 k. (part_declares d ∷ k.0, more_after ps (part_declares d) k.0 all k.1, (m1, h, k.2)),
    λ s m1 h all m2 k. (part_does s ∷ k.0, more_after ps (part_does s) k.0 all k.1, (m1, h, k.2)),
  ),
)
sound (phrase.param l) ms = λ s m1 h x m2 k. join_param l s x ms m1 m2 h k
sound (phrase.param_after l s) ms = λ n m1 h. (
  λ v at m2 e x m3 k. inr (n, x.0, x.1, refl, (m1, stars_of l n ms m1 h, (m2, (at, e), k))),
  (λ x at m2 e. inl (n, Some (name_of x at), refl, (m1, stars_of l n ms m1 h, e)), inl (n, None, refl, (m1, stars_of l n ms m1 h, refl))),
)
sound (phrase.more_params l xs) ms = (λ v at m1 e x m2 h all m3 k. (x ∷ k.0, more_after xs x k.0 all k.1, (m1, (at, e), (m2, h, k.2))), ([], none_after xs, refl))
sound (phrase.params l) ms = (refl, λ x m1 h xs m2 k. subst (λ z. OfFormals l (params_from z) ms m2) (sym k.1) (params_hold l x (listed_row k.0) ms m1 m2 h k.2 (is_void_alone (and_formal x (listed_row k.0))) refl))
sound phrase.code ms = (λ v at m1 e ps m2 h v2 p2 m3 d. (m1, e, (m2, subst (λ z. OfParts 0 (listed_parts z) m1 m2) (sym h.1) h.2, (p2, d))), λ v at m1 e. (at, e))
sound (phrase.more_declared ds) ms = (λ v at m1 e x m2 h all m3 k. (x ∷ k.0, more_after ds x k.0 all k.1, (m1, (at, e), (m2, h, k.2))), ([], none_after ds, refl))
sound phrase.member ms = λ s m1 h d m2 k ds m3 j v at m4 e. (refl, (m1, h, (m3, subst (λ z. OfAllDeclared z m1 m3) (sym j.1) (m2, k, j.2), (at, e))))
sound (phrase.more_members fs) ms = (([], none_after fs, refl), λ f m1 h all m2 k. (f ∷ k.0, more_after fs f k.0 all k.1, (m1, h, k.2)))
sound phrase.outer ms = (
  λ v at m1 e s m2 h o m3 k. outer_static s at o ms m1 m2 m3 e h k,
  (
    λ v at m1 e x p2 m2 e2. (
      λ v3 p3 m3 e3 f m4 h fs m5 k v4 p4 m6 e4 v5 p5 m7 e5. (m1, (at, e), (m2, e2, (m3, (p3, e3), (m5, subst (λ z. OfAllFields z m3 m5) (sym k.1) (m4, h, k.2), (m6, (p4, e4), (p5, e5)))))),
      λ o m3 k. outer_plain (specifiers.Struct (name_of x p2) at) o ms m2 m3 (m1, e, e2) k,
    ),
    λ s m1 h o m2 k. outer_plain s o ms m1 m2 h k,
  ),
)
sound (phrase.outer_after is_static s at) ms = λ h m1 k. head_holds is_static s at ms m1 h k
sound (phrase.program os) ms = (λ o m1 h all m2 k. (o ∷ k.0, more_after os o k.0 all k.1, (m1, h, k.2)), ([], none_after os, refl))
