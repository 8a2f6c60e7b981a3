-- An expression of the grammar as the operators that are read one after another.
use Rattle.std.proofs.Common.{◌≡◌, ◌⊎◌, inl, inr, ℕ, suc, ◌+◌, ◌≤◌, ◌<◌, Bool, true, false, cond, List, [], ◌∷◌, ◌++◌, length, refl, sym, ◌∙◌, ap, subst, arith, nat_lt, length-append}
use Rattle.std.proofs.lemmas.Bool.Decides.{nat_tests}
use Rattle.c_tree.specs.declared.expr.BinaryOp.{BinaryOp}
use Rattle.c_tree.specs.Tree.{Exp, comma, assign, conditional, binary, index, member, arrow, post_increment, post_decrement, named, call, number, letter, text, null, paren}
use Rattle.rr_base.specs.declared.position.Position.{Position}
use Rattle.c_print.specs.Kinds.{p, binary_punct}
use Rattle.c_grammar.specs.Marks.{Mark, own, ◌>>◌, provided, Beginning}
use Rattle.c_grammar.specs.Grammar.{tightness, binds, operators_in, postfixes_in, OfExp}
use Rattle.c_grammar.specs.Rules.{push}
use Rattle.c_grammar.proofs.Language.{Link, link, Chained, Postfix, by_index, by_member, by_arrow, by_increment, by_decrement, applied, OfPostfix, Postfixed, is_atom}
use Rattle.c_grammar.proofs.Grouping.{tightness_low, tightness_small}

below : (m n : ℕ) → m < n → nat_lt m n ≡ true
below m n h = grind (arith, nat_tests)

not_below : (m n : ℕ) → n ≤ m → nat_lt m n ≡ false
not_below m n h = grind (arith, nat_tests)

is_below : (m n : ℕ) → nat_lt m n ≡ true → m < n
is_below m n h = grind (arith, nat_tests)

the_first : (m n : ℕ) (l r : Exp) → m < n → cond (nat_lt m n) l r ≡ l
the_first m n l r h = ap (λ b. cond b l r) (below m n h)

-- an operator that binds tighter goes into the last operand
push-push : (a : Exp) (op : BinaryOp) (u : Exp) (at : Position) (tighter : BinaryOp) (v : Exp) (there : Position) → tightness op < tightness tighter → push (push a op u at) tighter v there ≡ push a op (push u tighter v there) at
push-push (binary x last y place) op u at tighter v there h = by (nat_lt (tightness last) (tightness op)) refl (push-push y op u at tighter v there h)
  where
    by : (b : Bool) → nat_lt (tightness last) (tightness op) ≡ b → push (push y op u at) tighter v there ≡ push y op (push u tighter v there) at → push (cond b (binary x last (push y op u at) place) (binary (binary x last y place) op u at)) tighter v there ≡ cond b (binary x last (push y op (push u tighter v there) at) place) (binary (binary x last y place) op (push u tighter v there) at)
    by true e ih =
        let lt : tightness last < tightness tighter = omega (arith, is_below (tightness last) (tightness op) e, h) in
        the_first (tightness last) (tightness tighter) _ _ lt ∙ ap (λ z. binary x last z place) ih
    by false e ih = the_first (tightness op) (tightness tighter) _ _ h
push-push (comma a es place) op u at tighter v there h = the_first (tightness op) (tightness tighter) _ _ h
push-push _ op u at tighter v there h = the_first (tightness op) (tightness tighter) _ _ h

-- one that binds no tighter takes all
push-binary : (a : Exp) (op : BinaryOp) (b : Exp) (at : Position) → tightness op ≤ binds a → push a op b at ≡ binary a op b at
push-binary (binary x last y place) op b at h = ap (λ t. cond t (binary x last (push y op b at) place) (binary (binary x last y place) op b at)) (not_below (tightness last) (tightness op) h)
push-binary (comma a es place) op b at h = refl
push-binary _ op b at h = refl

abbrev pushed : Exp → List Link → Exp
pushed left [] = left
pushed left (link op at u ∷ ops) = pushed (push left op u at) ops

abbrev AtLeast : ℕ → List Link → Type 0
AtLeast m [] = Unit {0}
AtLeast m (link op at u ∷ ops) = (m ≤ tightness op) × AtLeast m ops

pushed-append : (left : Exp) (xs ys : List Link) → pushed left (xs ++ ys) ≡ pushed (pushed left xs) ys
pushed-append left [] ys = refl
pushed-append left (link op at u ∷ xs) ys = pushed-append (push left op u at) xs ys

-- tighter operators go into the last operand
pushed-inside : (ops : List Link) (a : Exp) (op : BinaryOp) (u : Exp) (at : Position) (m : ℕ) → AtLeast m ops → tightness op < m → pushed (push a op u at) ops ≡ push a op (pushed u ops) at
pushed-inside [] a op u at m h lt = refl
pushed-inside (link tighter there v ∷ ops) a op u at m h lt =
    ap (λ z. pushed z ops) (push-push a op u at tighter v there (omega (arith, lt, h.0))) ∙ pushed-inside ops a op (push u tighter v there) at m h.1 lt

at_least-append : (m : ℕ) (xs ys : List Link) → AtLeast m xs → AtLeast m ys → AtLeast m (xs ++ ys)
at_least-append m [] ys h k = k
at_least-append m (link op at u ∷ xs) ys h k = (h.0, at_least-append m xs ys h.1 k)

at_least-less : (m n : ℕ) (xs : List Link) → n ≤ m → AtLeast m xs → AtLeast n xs
at_least-less m n [] le h = tt
at_least-less m n (link op at u ∷ xs) le h = (omega (arith, le, h.0), at_least-less m n xs le h.1)

-- the operators and operands, each a level above the one before
abbrev Links : ℕ → List Link → Beginning
Links k [] ms rest = ms ≡ rest
Links k (link op at u ∷ ops) ms rest = (own (p (binary_punct op)) at (suc (suc k)) >> provided (13 ≤ binds u) (OfExp (suc k) u) >> Links (suc k) ops) ms rest

links-append : (k n : ℕ) (xs ys : List Link) (ms mid rest : List Mark) → n ≡ k + length xs → Links k xs ms mid → Links n ys mid rest → Links k (xs ++ ys) ms rest
links-append k n [] ys ms mid rest e h j = subst (λ z. Links z ys ms rest) same (subst (λ z. Links n ys z rest) (sym h) j)
  where
    same : n ≡ k
    same = omega (arith, e)
links-append k n (link op at u ∷ xs) ys ms mid rest e h j = (h.0, h.1, (h.2.0, h.2.1, links-append (suc k) n xs ys h.2.0 mid rest (omega (arith, e)) h.2.2 j))

chained_of : (k : ℕ) (left e : Exp) (ops : List Link) (ms rest : List Mark) → Links k ops ms rest → e ≡ pushed left ops → Chained k left ops e ms rest
chained_of k left e [] ms rest h d = (d, h)
chained_of k left e (link op at u ∷ ops) ms rest h d = (h.0, h.1, (h.2.0, h.2.1, chained_of (suc k) (push left op u at) e ops h.2.0 rest h.2.2 d))

record Flat (l : ℕ) (e : Exp) (ms rest : List Mark) : Type 0 where
  operand : Exp
  links : List Link
  mid : List Mark
  tight : 13 ≤ binds operand
  first : OfExp l operand ms mid
  following : Links l links mid rest
  whole : pushed operand links ≡ e
  tighter : AtLeast (binds e) links
  count : length links ≡ operators_in e

alone : (l : ℕ) (e : Exp) (ms rest : List Mark) → 13 ≤ binds e → operators_in e ≡ 0 → OfExp l e ms rest → Flat l e ms rest
alone l e ms rest tight none h = record { operand = e; links = []; mid = rest; tight = tight; first = h; following = refl; whole = refl; tighter = tt; count = omega (arith, none) }

together : (l : ℕ) (a : Exp) (op : BinaryOp) (b : Exp) (at : Position) (ms m1 m2 rest : List Mark) → tightness op ≤ binds a → tightness op < binds b → own (p (binary_punct op)) at (suc (suc (l + operators_in a))) m1 m2 → Flat l a ms m1 → Flat (suc (l + operators_in a)) b m2 rest → Flat l (binary a op b at) ms rest
together l a op b at ms m1 m2 rest le lt o x y =
    let same : l + operators_in a ≡ l + length x.links = omega (arith, x.count) in
    record {
      operand = x.operand;
      links = x.links ++ link op at y.operand ∷ y.links;
      mid = x.mid;
      tight = x.tight;
      first = x.first;
      following = links-append l (l + operators_in a) x.links (link op at y.operand ∷ y.links) x.mid m1 rest same x.following (m2, o, (y.mid, (y.tight, y.first), y.following));
      whole = pushed-append x.operand x.links (link op at y.operand ∷ y.links)
          ∙ ap (λ z. pushed (push z op y.operand at) y.links) x.whole
          ∙ pushed-inside y.links a op y.operand at (binds b) y.tighter lt
          ∙ ap (λ z. push a op z at) y.whole
          ∙ push-binary a op b at le;
      tighter = at_least-append (tightness op) x.links (link op at y.operand ∷ y.links) (at_least-less (binds a) (tightness op) x.links le x.tighter) (omega arith, at_least-less (binds b) (tightness op) y.links (omega (arith, lt)) y.tighter);
      count = omega (arith, length-append x.links (link op at y.operand ∷ y.links), x.count, y.count);
    }

flat : (l : ℕ) (e : Exp) (ms rest : List Mark) → 3 ≤ binds e → OfExp l e ms rest → Flat l e ms rest
flat l (binary a op b at) ms rest low h =
    together l a op b at ms h.1.0 h.1.2.0 rest h.0.0 h.0.1 h.1.2.1
    (flat l a ms h.1.0 (omega (arith, h.0.0, tightness_low op)) h.1.1)
    (flat (suc (l + operators_in a)) b h.1.2.0 rest (omega (arith, h.0.1, tightness_low op)) h.1.2.2)
flat l (comma a es at) ms rest low h = absurd (omega (arith, low))
flat l (assign a op b at) ms rest low h = absurd (omega (arith, low))
flat l (conditional a b c at) ms rest low h = absurd (omega (arith, low))
flat l e ms rest low h = alone l e ms rest (omega arith) refl h

-- the first operand, and the chain after it
pub record Opened (l : ℕ) (e : Exp) (ms rest : List Mark) : Type 0 where
  pub operand : Exp
  pub mid : List Mark
  pub tight : 13 ≤ binds operand
  pub first : OfExp l operand ms mid
  pub links : List Link
  pub chain : Chained l operand links e mid rest

pub opened_chain : (l : ℕ) (e : Exp) (ms rest : List Mark) → 3 ≤ binds e → OfExp l e ms rest → Opened l e ms rest
opened_chain l e ms rest low h = let f = flat l e ms rest low h in
    record { operand = f.operand; mid = f.mid; tight = f.tight; first = f.first; links = f.links; chain = chained_of l f.operand e f.links f.mid rest f.following (sym f.whole) }

-- ---- postfix operators

abbrev pub is_paren : Exp → Bool
is_paren (paren a at) = true
is_paren _ = false

pub record Peeled (l : ℕ) (e : Exp) (ms rest : List Mark) : Type 0 where
  pub operand : Exp
  pub mid : List Mark
  pub base : (is_atom operand ≡ true) ⊎ (is_paren operand ≡ true)
  pub first : OfExp l operand ms mid
  pub links : List Postfix
  pub chain : Postfixed l operand links e mid rest
  pub count : length links ≡ postfixes_in e

one_more : (k n : ℕ) (left a : Exp) (xs : List Postfix) (op : Postfix) (ms mid rest : List Mark) → n ≡ k + length xs → Postfixed k left xs a ms mid → OfPostfix (suc (suc n)) op mid rest → Postfixed k left (xs ++ op ∷ []) (applied a op) ms rest
one_more k n left a [] op ms mid rest e h j =
    (rest, subst (λ z. OfPostfix (suc (suc z)) op ms rest) same (subst (λ z. OfPostfix (suc (suc n)) op z rest) (sym h.1) j), (ap (λ z. applied z op) h.0, refl))
  where
    same : n ≡ k
    same = omega (arith, e)
one_more k n left a (x ∷ xs) op ms mid rest e h j = (h.0, h.1, one_more (suc k) n (applied left x) a xs op h.0 mid rest (omega (arith, e)) h.2 j)

peel : (l : ℕ) (a : Exp) (op : Postfix) (ms m1 rest : List Mark) → postfixes_in (applied a op) ≡ suc (postfixes_in a) → OfPostfix (suc (suc (l + postfixes_in a))) op m1 rest → Peeled l a ms m1 → Peeled l (applied a op) ms rest
peel l a op ms m1 rest is h x = record {
  operand = x.operand;
  mid = x.mid;
  base = x.base;
  first = x.first;
  links = x.links ++ op ∷ [];
  chain = one_more l (l + postfixes_in a) x.operand a x.links op x.mid m1 rest (omega (arith, x.count)) x.chain h;
  count = omega (arith, length-append x.links (op ∷ []), x.count, is);
}

bare : (l : ℕ) (e : Exp) (ms rest : List Mark) → (is_atom e ≡ true) ⊎ (is_paren e ≡ true) → postfixes_in e ≡ 0 → OfExp l e ms rest → Peeled l e ms rest
bare l e ms rest base none h = record { operand = e; mid = rest; base = base; first = h; links = []; chain = (refl, refl); count = omega (arith, none) }

pub peeled : (l : ℕ) (e : Exp) (ms rest : List Mark) → 14 ≤ binds e → OfExp l e ms rest → Peeled l e ms rest
peeled l (index a b at) ms rest low h = peel l a (by_index b at) ms h.1.0 rest refl h.1.2 (peeled l a ms h.1.0 h.0 h.1.1)
peeled l (member a x at) ms rest low h = peel l a (by_member x at) ms h.1.0 rest refl h.1.2 (peeled l a ms h.1.0 h.0 h.1.1)
peeled l (arrow a x at) ms rest low h = peel l a (by_arrow x at) ms h.1.0 rest refl h.1.2 (peeled l a ms h.1.0 h.0 h.1.1)
peeled l (post_increment a at) ms rest low h = peel l a (by_increment at) ms h.1.0 rest refl h.1.2 (peeled l a ms h.1.0 h.0 h.1.1)
peeled l (post_decrement a at) ms rest low h = peel l a (by_decrement at) ms h.1.0 rest refl h.1.2 (peeled l a ms h.1.0 h.0 h.1.1)
peeled l (paren a at) ms rest low h = bare l (paren a at) ms rest (inr refl) refl h
peeled l (named x at) ms rest low h = bare l (named x at) ms rest (inl refl) refl h
peeled l (call x es at) ms rest low h = bare l (call x es at) ms rest (inl refl) refl h
peeled l (number n at) ms rest low h = bare l (number n at) ms rest (inl refl) refl h
peeled l (letter n at) ms rest low h = bare l (letter n at) ms rest (inl refl) refl h
peeled l (text x at) ms rest low h = bare l (text x at) ms rest (inl refl) refl h
peeled l (null at) ms rest low h = bare l (null at) ms rest (inl refl) refl h
peeled l (binary a op b at) ms rest low h = absurd (omega (arith, low, tightness_small op))
peeled l _ ms rest low h = absurd (omega (arith, low))
