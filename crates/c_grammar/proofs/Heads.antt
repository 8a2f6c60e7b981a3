-- The head of what is declared at file level is read as the grammar has it.
use Rattle.std.proofs.Common.{◌≡◌, ℕ, zero, suc, ◌+◌, ◌≤◌, ◌<◌, Bool, true, false, cond, List, [], ◌∷◌, ◌++◌, length, drop, Option, Some, None, is_some, refl, sym, ◌∙◌, ap, subst, append_assoc, arith, nat_le}
use Rattle.std.proofs.lemmas.Bool.Decides.{nat_tests}
use Rattle.c_lexer.specs.declared.token.Kind.{Kind}
use Rattle.c_lexer.specs.declared.token.Kind.TheVariants as kind
use Rattle.c_lexer.specs.declared.token.Punct.TheVariants as punct
use Rattle.rr_base.specs.declared.position.Position.{Position}
use Rattle.rr_base.specs.Positions.{position_at}
use Rattle.c_print.specs.Kinds.{p}
use Rattle.c_grammar.specs.Grammar.{OfStars, OfRaisingStars}
use Rattle.c_grammar.specs.Marks.{Lexeme, Mark, mark, erase, AllLow}
use Rattle.c_grammar.specs.Phrase.{Head, function_head, object_head, pointer_head}
use Rattle.c_grammar.specs.Parse.{sign, a_name, grab, is_of, follows_declarator, Syntax, Nesting, Outcome, Got, Stuck, taken, token, passes, star_count, decided, decided_by, headed, outer_head}
use Rattle.c_grammar.proofs.Tokens.{grabbed}
use Rattle.c_grammar.proofs.Works.{erase-append, low-append, Spells, Found, Lost, Works, high, Fits, works_by, passes_same}
use Rattle.c_grammar.proofs.Language.{OfHead}

abbrev pub is_star : Kind → Bool
is_star = is_of (sign punct.Star)

abbrev pub is_open : Kind → Bool
is_open = is_of (sign punct.OpenParen)

abbrev pub AllStars : List Lexeme → Type 0
AllStars [] = Unit {0}
AllStars (t ∷ ts) = (is_star t.kind ≡ true) × AllStars ts

-- stars, and what stands after them
pub record Split (ts : List Lexeme) : Type 0 where
  pub stars : List Lexeme
  pub following : List Lexeme
  pub whole : ts ≡ stars ++ following
  pub all : AllStars stars
  pub ends : passes is_star following ≡ false

pub split : (ts : List Lexeme) → Split ts
split [] = record { stars = []; following = []; whole = refl; all = tt; ends = refl }
split (t ∷ ts) = by (is_star t.kind) refl (split ts)
  where
    by : (b : Bool) → is_star t.kind ≡ b → Split ts → Split (t ∷ ts)
    by true h s = record { stars = t ∷ s.stars; following = s.following; whole = ap (λ z. t ∷ z) s.whole; all = (h, s.all); ends = s.ends }
    by false h s = record { stars = []; following = t ∷ ts; whole = refl; all = tt; ends = h }

-- all at level l
pub flat : ℕ → List Lexeme → List Mark
flat l [] = []
flat l (t ∷ ts) = high t l ∷ flat l ts

-- each above the one before
pub rising : ℕ → List Lexeme → List Mark
rising l [] = []
rising l (t ∷ ts) = high t (suc l) ∷ rising (suc l) ts

pub erase-flat : (l : ℕ) (ts : List Lexeme) → erase (flat l ts) ≡ ts
unfolding flat
erase-flat l [] = refl
erase-flat l (t ∷ ts) = ap (λ z. t ∷ z) (erase-flat l ts)

pub erase-rising : (l : ℕ) (ts : List Lexeme) → erase (rising l ts) ≡ ts
unfolding rising
erase-rising l [] = refl
erase-rising l (t ∷ ts) = ap (λ z. t ∷ z) (erase-rising (suc l) ts)

pub low-flat : (limit l : ℕ) (ts : List Lexeme) → l ≤ limit → AllLow limit (flat l ts)
unfolding flat
low-flat limit l [] h = tt
low-flat limit l (t ∷ ts) h = (h, low-flat limit l ts h)

pub low-rising : (limit l : ℕ) (ts : List Lexeme) → l + length ts ≤ limit → AllLow limit (rising l ts)
unfolding rising
low-rising limit l [] h = tt
low-rising limit l (t ∷ ts) h = (omega (arith, h), low-rising limit (suc l) ts (omega (arith, h)))

-- a star is a star
pub star_mark : (t : Lexeme) (l : ℕ) → is_star t.kind ≡ true → high t l ≡ mark (p punct.Star) t.place l
star_mark t l h = by (grab (sign punct.Star) t.kind) refl h
  where
    by : (o : Option (Unit {0})) → grab (sign punct.Star) t.kind ≡ o → is_some o ≡ true → high t l ≡ mark (p punct.Star) t.place l
    by None d e = cc
    by (Some u) d e = ap (λ (k : Kind). mark k t.place l) (grabbed (sign punct.Star) t.kind u d)

pub open_mark : (t : Lexeme) (l : ℕ) → is_open t.kind ≡ true → high t l ≡ mark (p punct.OpenParen) t.place l
open_mark t l h = by (grab (sign punct.OpenParen) t.kind) refl h
  where
    by : (o : Option (Unit {0})) → grab (sign punct.OpenParen) t.kind ≡ o → is_some o ≡ true → high t l ≡ mark (p punct.OpenParen) t.place l
    by None d e = cc
    by (Some u) d e = ap (λ (k : Kind). mark k t.place l) (grabbed (sign punct.OpenParen) t.kind u d)

pub name_mark : (t : Lexeme) (x : List ℕ) (l : ℕ) → grab a_name t.kind ≡ Some x → high t l ≡ mark (kind.Name x) t.place l
name_mark t x l h = ap (λ (k : Kind). mark k t.place l) (grabbed a_name t.kind x h)

-- a parenthesis is no star
pub open_no_star : (t : Lexeme) → is_open t.kind ≡ true → is_star t.kind ≡ false
open_no_star t h = by (grab (sign punct.OpenParen) t.kind) refl h
  where
    by : (o : Option (Unit {0})) → grab (sign punct.OpenParen) t.kind ≡ o → is_some o ≡ true → is_star t.kind ≡ false
    by None d e = cc
    by (Some u) d e = ap is_star (grabbed (sign punct.OpenParen) t.kind u d)

pub flat_stars : (l : ℕ) (ts : List Lexeme) → AllStars ts → (k : List Mark) → OfStars l (length ts) (flat l ts ++ k) k
unfolding flat
flat_stars l [] h k = refl
flat_stars l (t ∷ ts) h k = (flat l ts ++ k, (t.place, ap (λ z. z ∷ (flat l ts ++ k)) (star_mark t l h.0)), flat_stars l ts h.1 k)

pub rising_stars : (l : ℕ) (ts : List Lexeme) → AllStars ts → (k : List Mark) → OfRaisingStars l (length ts) (rising l ts ++ k) k
unfolding rising
rising_stars l [] h k = refl
rising_stars l (t ∷ ts) h k = (rising (suc l) ts ++ k, (t.place, ap (λ z. z ∷ (rising (suc l) ts ++ k)) (star_mark t (suc l) h.0)), rising_stars (suc l) ts h.1 k)

pub counts : (ss us : List Lexeme) → AllStars ss → passes is_star us ≡ false → star_count (ss ++ us) ≡ length ss
counts [] [] h e = refl
counts [] (u ∷ us) h e = ap (λ b. cond b (suc (star_count us)) 0) e
counts (s ∷ ss) us h e = ap (λ b. cond b (suc (star_count (ss ++ us))) 0) h.0 ∙ ap suc (counts ss us h.1 e)

pub drops : (ss us : List Lexeme) → drop (length ss) (ss ++ us) ≡ us
drops [] us = refl
drops (s ∷ ss) us = drops ss us

-- where the stars are
head_on : (m : ℕ) (ss us : List Lexeme) → AllStars ss → passes is_star us ≡ false → outer_head m (ss ++ us) ≡ headed m (ss ++ us) (length ss) us
head_on m ss us h e =
    ap (λ n. headed m (ss ++ us) n (drop n (ss ++ us))) (counts ss us h e)
    ∙ ap (λ z. headed m (ss ++ us) (length ss) z) (drops ss us)

-- no parenthesis comes after them
head_by_name : (m : ℕ) (ss us : List Lexeme) → AllStars ss → passes is_star us ≡ false → passes is_open us ≡ false → outer_head m (ss ++ us) ≡ decided_by m (ss ++ us) (length ss) (token m a_name 0 us)
head_by_name m ss us h e d = head_on m ss us h e ∙ ap (λ b. cond b (Got (pointer_head (length ss)) (drop 1 us)) (decided_by m (ss ++ us) (length ss) (token m a_name 0 us))) d

-- or one does
pub head_open : (m : ℕ) (ss : List Lexeme) (o : Lexeme) (ws : List Lexeme) → AllStars ss → is_open o.kind ≡ true → outer_head m (ss ++ o ∷ ws) ≡ Got (pointer_head (length ss)) ws
head_open m ss o ws h d =
    head_on m ss (o ∷ ws) h (open_no_star o d)
    ∙ ap (λ b. cond b (Got (pointer_head (length ss)) ws) (decided_by m (ss ++ o ∷ ws) (length ss) (token m a_name 0 (o ∷ ws)))) d

-- a name at level 0
pub named_at : (m : ℕ) (t : Lexeme) (x : List ℕ) (vs : List Lexeme) → grab a_name t.kind ≡ Some x → token m a_name 0 (t ∷ vs) ≡ Got (x, t.place) vs
named_at m t x vs h = ap (λ o. taken m 0 o t vs) h ∙ ap (λ b. cond b (Got (x, t.place) vs) (Stuck Nesting (t ∷ vs))) (zero_low m)
  where
    zero_low : (m : ℕ) → nat_le 0 m ≡ true
    zero_low m = grind (arith, nat_tests)

pub no_name : (m : ℕ) (us : List Lexeme) → passes (is_of a_name) us ≡ false → token m a_name 0 us ≡ Stuck Syntax us
no_name m [] h = refl
no_name m (t ∷ vs) h = by (grab a_name t.kind) refl h
  where
    by : (o : Option (List ℕ)) → grab a_name t.kind ≡ o → is_some o ≡ false → token m a_name 0 (t ∷ vs) ≡ Stuck Syntax (t ∷ vs)
    by None d e = ap (λ o. taken m 0 o t vs) d
    by (Some x) d e = cc

-- a name is no star
pub name_no_star : (t : Lexeme) (x : List ℕ) → grab a_name t.kind ≡ Some x → is_star t.kind ≡ false
name_no_star t x h = ap is_star (grabbed a_name t.kind x h)

pub name_no_open : (t : Lexeme) (x : List ℕ) → grab a_name t.kind ≡ Some x → is_open t.kind ≡ false
name_no_open t x h = ap is_open (grabbed a_name t.kind x h)

abbrev function_marks : List Lexeme → Lexeme → Lexeme → List Mark
function_marks ss t o = flat 0 ss ++ high t 0 ∷ high o 0 ∷ []

abbrev pub a_place : Position
a_place = position_at 1 1

abbrev some_name : Lexeme
some_name = record { kind = kind.Name []; place = a_place }

abbrev pub some_open : Lexeme
some_open = record { kind = p punct.OpenParen; place = a_place }

function_spells : (ss : List Lexeme) (t o : Lexeme) (x : List ℕ) → AllStars ss → grab a_name t.kind ≡ Some x → is_open o.kind ≡ true → Spells OfHead (function_head (length ss) x t.place) (function_marks ss t o)
function_spells ss t o x h e d k =
    subst (λ z. OfHead (function_head (length ss) x t.place) z k) (sym (append_assoc (flat 0 ss) (high t 0 ∷ high o 0 ∷ []) k))
    (high t 0 ∷ high o 0 ∷ k, flat_stars 0 ss h (high t 0 ∷ high o 0 ∷ k), (high o 0 ∷ k, ap (λ z. z ∷ high o 0 ∷ k) (name_mark t x 0 e), (o.place, ap (λ z. z ∷ k) (open_mark o 0 d))))

object_spells : (ss : List Lexeme) (t : Lexeme) (x : List ℕ) → AllStars ss → grab a_name t.kind ≡ Some x → Spells OfHead (object_head (length ss) x t.place) (rising 0 ss ++ high t (length ss) ∷ [])
object_spells ss t x h e k =
    subst (λ z. OfHead (object_head (length ss) x t.place) z k) (sym (append_assoc (rising 0 ss) (high t (length ss) ∷ []) k))
    (high t (length ss) ∷ k, rising_stars 0 ss h (high t (length ss) ∷ k), ap (λ z. z ∷ k) (name_mark t x (length ss) e))

pointer_spells : (ss : List Lexeme) (o : Lexeme) → AllStars ss → is_open o.kind ≡ true → Spells OfHead (pointer_head (length ss)) (flat 0 ss ++ high o 0 ∷ [])
pointer_spells ss o h d k =
    subst (λ z. OfHead (pointer_head (length ss)) z k) (sym (append_assoc (flat 0 ss) (high o 0 ∷ []) k))
    (high o 0 ∷ k, flat_stars 0 ss h (high o 0 ∷ k), (o.place, ap (λ z. z ∷ k) (open_mark o 0 d)))

-- the stars up to one, that one, and those after it
pub record Cut (n : ℕ) (ss : List Lexeme) : Type 0 where
  pub front : List Lexeme
  pub one : Lexeme
  pub following : List Lexeme
  pub whole : ss ≡ front ++ one ∷ following
  pub long : length front ≡ n

pub cut : (n : ℕ) (ss : List Lexeme) → n < length ss → Cut n ss
cut n [] h = absurd (omega (arith, h))
cut zero (s ∷ ss) h = record { front = []; one = s; following = ss; whole = refl; long = refl }
cut (suc n) (s ∷ ss) h = let c = cut n ss (omega (arith, h)) in record { front = s ∷ c.front; one = c.one; following = c.following; whole = ap (λ z. s ∷ z) c.whole; long = ap suc c.long }

pub rising-cut : (l : ℕ) (xs : List Lexeme) (t : Lexeme) (ys : List Lexeme) → rising l (xs ++ t ∷ ys) ≡ rising l xs ++ high t (suc (l + length xs)) ∷ rising (suc (l + length xs)) ys
unfolding rising
rising-cut l [] t ys = ap (λ z. high t (suc z) ∷ rising (suc z) ys) (omega arith)
rising-cut l (x ∷ xs) t ys = let same : suc l + length xs ≡ l + suc (length xs) = omega arith in ap (λ z. high x (suc l) ∷ z) (rising-cut (suc l) xs t ys) ∙ ap (λ z. high x (suc l) ∷ (rising (suc l) xs ++ high t (suc z) ∷ rising (suc z) ys)) same

pub le_true : (n m : ℕ) → n ≤ m → nat_le n m ≡ true
le_true n m h = grind (arith, nat_tests)

pub true_le : (n m : ℕ) → nat_le n m ≡ true → n ≤ m
true_le n m h = grind (arith, nat_tests)

pub false_lt : (n m : ℕ) → nat_le n m ≡ false → m < n
false_lt n m h = grind (arith, nat_tests)

-- what is decided, by what its tests say
pub decided_is : (m : ℕ) (ts : List Lexeme) (n : ℕ) (x : List ℕ) (at : Position) (vs : List Lexeme) (b c d : Bool) → passes is_open vs ≡ b → passes follows_declarator vs ≡ c → nat_le n m ≡ d → decided m ts n x at vs ≡ cond b (Got (function_head n x at) (drop 1 vs)) (cond c (cond d (Got (object_head n x at) vs) (Stuck Nesting (drop m ts))) (Stuck Syntax vs))
decided_is m ts n x at vs b c d h i j =
    ap (λ b. cond b (Got (function_head n x at) (drop 1 vs)) (cond (passes follows_declarator vs) (cond (nat_le n m) (Got (object_head n x at) vs) (Stuck Nesting (drop m ts))) (Stuck Syntax vs))) h
    ∙ ap (λ c. cond b (Got (function_head n x at) (drop 1 vs)) (cond c (cond (nat_le n m) (Got (object_head n x at) vs) (Stuck Nesting (drop m ts))) (Stuck Syntax vs))) i
    ∙ ap (λ d. cond b (Got (function_head n x at) (drop 1 vs)) (cond c (cond d (Got (object_head n x at) vs) (Stuck Nesting (drop m ts))) (Stuck Syntax vs))) j

-- after the stars and a name
pub head_named : (m : ℕ) (ss : List Lexeme) (t : Lexeme) (vs : List Lexeme) (x : List ℕ) → AllStars ss → grab a_name t.kind ≡ Some x → outer_head m (ss ++ t ∷ vs) ≡ decided m (ss ++ t ∷ vs) (length ss) x t.place vs
head_named m ss t vs x h e = head_by_name m ss (t ∷ vs) h (name_no_star t x e) (name_no_open t x e) ∙ ap (decided_by m (ss ++ t ∷ vs) (length ss)) (named_at m t x vs e)

pub named_splits : (front : List Mark) (ss vs : List Lexeme) (t : Lexeme) (l : ℕ) → erase front ≡ ss → ss ++ t ∷ vs ≡ erase (front ++ high t l ∷ []) ++ vs
named_splits front ss vs t l e = sym (append_assoc ss (t ∷ []) vs) ∙ ap (λ z. z ++ vs) (ap (λ z. z ++ t ∷ []) (sym e) ∙ sym (erase-append front (high t l ∷ [])))

module _ (limit m : ℕ) (more : limit ≤ m) where
  -- where no name comes
  nameless : (ss us : List Lexeme) → AllStars ss → passes is_star us ≡ false → passes is_open us ≡ false → passes (is_of a_name) us ≡ false → Lost limit (outer_head m) OfHead (ss ++ us) Syntax us
  nameless ss us h e d c = record {
    front = flat 0 ss;
    splits = ap (λ z. z ++ us) (sym (erase-flat 0 ss));
    low = low-flat limit 0 ss (omega arith);
    stops = (
      (function_head (length ss) [] a_place, high some_name 0 ∷ high some_open 0 ∷ [], function_spells ss some_name some_open [] h refl refl),
      λ rest' same. ap (λ z. outer_head m (z ++ rest')) (erase-flat 0 ss)
          ∙ head_by_name m ss rest' h (passes_same limit is_star [] us rest' same ∙ e) (passes_same limit is_open [] us rest' same ∙ d)
          ∙ ap (decided_by m (ss ++ rest') (length ss)) (no_name m rest' (passes_same limit (is_of a_name) [] us rest' same ∙ c)),
    );
  }

  -- a pointer to a function
  found_pointer : (ss : List Lexeme) (o : Lexeme) (ws : List Lexeme) → AllStars ss → is_open o.kind ≡ true → Found limit (outer_head m) OfHead (ss ++ o ∷ ws) (pointer_head (length ss)) ws
  found_pointer ss o ws h d = record {
    front = flat 0 ss ++ high o 0 ∷ [];
    splits = named_splits (flat 0 ss) ss ws o 0 (erase-flat 0 ss);
    phrase = pointer_spells ss o h d;
    low = low-append limit (flat 0 ss) (high o 0 ∷ []) (low-flat limit 0 ss (omega arith)) (omega arith, tt);
    again = λ rest' _. ap (outer_head m) (sym (named_splits (flat 0 ss) ss rest' o 0 (erase-flat 0 ss))) ∙ head_open m ss o rest' h d;
  }

  -- a function
  found_function : (ss : List Lexeme) (t o : Lexeme) (ws : List Lexeme) (x : List ℕ) → AllStars ss → grab a_name t.kind ≡ Some x → is_open o.kind ≡ true → Found limit (outer_head m) OfHead (ss ++ t ∷ o ∷ ws) (function_head (length ss) x t.place) ws
  found_function ss t o ws x h e d = record {
    front = function_marks ss t o;
    splits = whole ws;
    phrase = function_spells ss t o x h e d;
    low = low-append limit (flat 0 ss) (high t 0 ∷ high o 0 ∷ []) (low-flat limit 0 ss (omega arith)) (omega arith, (omega arith, tt));
    again = λ rest' _. ap (outer_head m) (sym (whole rest')) ∙ head_named m ss t (o ∷ rest') x h e
        ∙ decided_is m (ss ++ t ∷ o ∷ rest') (length ss) x t.place (o ∷ rest') true (passes follows_declarator (o ∷ rest')) (nat_le (length ss) m) d refl refl;
  }
    where
      whole : (ws : List Lexeme) → ss ++ t ∷ o ∷ ws ≡ erase (function_marks ss t o) ++ ws
      whole ws = sym (append_assoc ss (t ∷ o ∷ []) ws) ∙ ap (λ z. z ++ ws) (ap (λ z. z ++ t ∷ o ∷ []) (sym (erase-flat 0 ss)) ∙ sym (erase-append (flat 0 ss) (high t 0 ∷ high o 0 ∷ [])))

  -- an object
  found_object : (ss : List Lexeme) (t : Lexeme) (vs : List Lexeme) (x : List ℕ) → AllStars ss → grab a_name t.kind ≡ Some x → passes is_open vs ≡ false → passes follows_declarator vs ≡ true → length ss ≤ limit → Found limit (outer_head m) OfHead (ss ++ t ∷ vs) (object_head (length ss) x t.place) vs
  found_object ss t vs x h e d f le = record {
    front = rising 0 ss ++ high t (length ss) ∷ [];
    splits = named_splits (rising 0 ss) ss vs t (length ss) (erase-rising 0 ss);
    phrase = object_spells ss t x h e;
    low = low-append limit (rising 0 ss) (high t (length ss) ∷ []) (low-rising limit 0 ss (omega (arith, le))) (le, tt);
    again = λ rest' same. ap (outer_head m) (sym (named_splits (rising 0 ss) ss rest' t (length ss) (erase-rising 0 ss))) ∙ head_named m ss t rest' x h e
        ∙ decided_is m (ss ++ t ∷ rest') (length ss) x t.place rest' false true true (passes_same limit is_open [] vs rest' same ∙ d) (passes_same limit follows_declarator [] vs rest' same ∙ f) (le_true (length ss) m (omega (arith, le, more)));
  }

  -- neither
  lost_after : (ss : List Lexeme) (t : Lexeme) (vs : List Lexeme) (x : List ℕ) → AllStars ss → grab a_name t.kind ≡ Some x → passes is_open vs ≡ false → passes follows_declarator vs ≡ false → Lost limit (outer_head m) OfHead (ss ++ t ∷ vs) Syntax vs
  lost_after ss t vs x h e d f = record {
    front = flat 0 ss ++ high t 0 ∷ [];
    splits = named_splits (flat 0 ss) ss vs t 0 (erase-flat 0 ss);
    low = low-append limit (flat 0 ss) (high t 0 ∷ []) (low-flat limit 0 ss (omega arith)) (omega arith, tt);
    stops = (
      (function_head (length ss) x t.place, high some_open 0 ∷ [], subst (Spells OfHead (function_head (length ss) x t.place)) (sym (append_assoc (flat 0 ss) (high t 0 ∷ []) (high some_open 0 ∷ []))) (function_spells ss t some_open x h e refl)),
      λ rest' same. ap (outer_head m) (sym (named_splits (flat 0 ss) ss rest' t 0 (erase-flat 0 ss))) ∙ head_named m ss t rest' x h e
          ∙ decided_is m (ss ++ t ∷ rest') (length ss) x t.place rest' false false (nat_le (length ss) m) (passes_same limit is_open [] vs rest' same ∙ d) (passes_same limit follows_declarator [] vs rest' same ∙ f) refl,
    );
  }

  -- too many stars for an object
  lost_stars : (ss : List Lexeme) (t : Lexeme) (vs : List Lexeme) (x : List ℕ) → AllStars ss → grab a_name t.kind ≡ Some x → limit < length ss → Lost limit (outer_head m) OfHead (ss ++ t ∷ vs) Nesting (drop limit (ss ++ t ∷ vs))
  lost_stars ss t vs x h e lt = by (cut limit ss lt)
    where
      by : Cut limit ss → Lost limit (outer_head m) OfHead (ss ++ t ∷ vs) Nesting (drop limit (ss ++ t ∷ vs))
      by c =
          let following = c.one ∷ (c.following ++ t ∷ vs) in
          let whole : ss ++ t ∷ vs ≡ c.front ++ following = ap (λ z. z ++ t ∷ vs) c.whole ∙ append_assoc c.front (c.one ∷ c.following) (t ∷ vs) in
          let dropped : drop limit (ss ++ t ∷ vs) ≡ following = ap (λ z. drop limit z) whole ∙ ap (λ n. drop n (c.front ++ following)) (sym c.long) ∙ drops c.front following in
          let last : suc (0 + length c.front) ≡ suc limit = omega (arith, c.long) in
          let marks : rising 0 ss ≡ rising 0 c.front ++ high c.one (suc limit) ∷ rising (suc limit) c.following = ap (rising 0) c.whole ∙ rising-cut 0 c.front c.one c.following ∙ ap (λ z. rising 0 c.front ++ high c.one z ∷ rising z c.following) last in
          record {
            front = rising 0 c.front;
            splits = whole ∙ ap (λ z. z ++ following) (sym (erase-rising 0 c.front)) ∙ ap (λ z. erase (rising 0 c.front) ++ z) (sym dropped);
            low = low-rising limit 0 c.front (omega (arith, c.long));
            stops = (
              c.one,
              c.following ++ t ∷ vs,
              suc limit,
              omega arith,
              dropped,
              object_head (length ss) x t.place,
              rising (suc limit) c.following ++ high t (length ss) ∷ [],
              subst (Spells OfHead (object_head (length ss) x t.place)) (ap (λ z. z ++ high t (length ss) ∷ []) marks ∙ append_assoc (rising 0 c.front) (high c.one (suc limit) ∷ rising (suc limit) c.following) (high t (length ss) ∷ [])) (object_spells ss t x h e),
            );
          }

  -- what holds of the answer
  abbrev HeadFits : List Lexeme → Outcome Head → Type 0
  HeadFits ts o = Fits limit (outer_head m) OfHead ts o

  fits_decided : (ss : List Lexeme) (t : Lexeme) (vs : List Lexeme) (x : List ℕ) (b c d : Bool) → AllStars ss → grab a_name t.kind ≡ Some x → passes is_open vs ≡ b → passes follows_declarator vs ≡ c → nat_le (length ss) limit ≡ d
      → HeadFits (ss ++ t ∷ vs) (cond b (Got (function_head (length ss) x t.place) (drop 1 vs)) (cond c (cond d (Got (object_head (length ss) x t.place) vs) (Stuck Nesting (drop limit (ss ++ t ∷ vs)))) (Stuck Syntax vs)))
  fits_decided ss t [] x true c d h e i j k = cc
  fits_decided ss t (o ∷ ws) x true c d h e i j k = found_function ss t o ws x h e i
  fits_decided ss t vs x false true true h e i j k = found_object ss t vs x h e i j (true_le (length ss) limit k)
  fits_decided ss t vs x false true false h e i j k = lost_stars ss t vs x h e (false_lt (length ss) limit k)
  fits_decided ss t vs x false false d h e i j k = lost_after ss t vs x h e i j

  fits_named : (ss : List Lexeme) (t : Lexeme) (vs : List Lexeme) (o : Option (List ℕ)) → AllStars ss → passes is_star (t ∷ vs) ≡ false → is_open t.kind ≡ false → grab a_name t.kind ≡ o → HeadFits (ss ++ t ∷ vs) (outer_head limit (ss ++ t ∷ vs))
  fits_named ss t vs (Some x) h e c d =
      subst (HeadFits (ss ++ t ∷ vs)) (sym (head_named limit ss t vs x h d)) (fits_decided ss t vs x (passes is_open vs) (passes follows_declarator vs) (nat_le (length ss) limit) h d refl refl refl)
  fits_named ss t vs None h e c d =
      let no = ap is_some d in
      subst (HeadFits (ss ++ t ∷ vs)) (sym (head_by_name limit ss (t ∷ vs) h e c ∙ ap (decided_by limit (ss ++ t ∷ vs) (length ss)) (no_name limit (t ∷ vs) no))) (nameless ss (t ∷ vs) h e c no)

  fits_open : (ss : List Lexeme) (t : Lexeme) (vs : List Lexeme) (b : Bool) → AllStars ss → passes is_star (t ∷ vs) ≡ false → is_open t.kind ≡ b → HeadFits (ss ++ t ∷ vs) (outer_head limit (ss ++ t ∷ vs))
  fits_open ss t vs true h e d = subst (HeadFits (ss ++ t ∷ vs)) (sym (head_open limit ss t vs h d)) (found_pointer ss t vs h d)
  fits_open ss t vs false h e d = fits_named ss t vs (grab a_name t.kind) h e d refl

  fits_split : (ss us : List Lexeme) → AllStars ss → passes is_star us ≡ false → HeadFits (ss ++ us) (outer_head limit (ss ++ us))
  fits_split ss [] h e = subst (HeadFits (ss ++ [])) (sym (head_by_name limit ss [] h e refl)) (nameless ss [] h e refl refl)
  fits_split ss (t ∷ vs) h e = fits_open ss t vs (is_open t.kind) h e refl

  fits_all : (ts : List Lexeme) → HeadFits ts (outer_head limit ts)
  fits_all ts = let s = split ts in subst (λ z. HeadFits z (outer_head limit z)) (sym s.whole) (fits_split s.stars s.following s.all s.ends)

  pub head_works : Works limit (outer_head limit) (outer_head m) OfHead
  head_works = works_by limit (outer_head limit) (outer_head m) OfHead fits_all
