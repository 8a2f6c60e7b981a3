-- As many phrases in one another as are allowed for are enough, so the parser is its own rule.
use Rattle.std.proofs.Common.{◌≡◌, ◌≢◌, ◌⊎◌, inl, inr, ℕ, zero, suc, ◌+◌, ◌*◌, ◌≤◌, ◌<◌, Bool, true, false, cond, ◌-◌, List, [], ◌∷◌, length, drop, Option, Some, None, refl, sym, ◌∙◌, ap, subst, arith, nat_le}
use Rattle.c_lexer.specs.declared.token.Kind.{Kind}
use Rattle.c_lexer.specs.declared.token.Punct.TheVariants as punct
use Rattle.rr_base.specs.declared.position.Position.{Position}
use Rattle.c_grammar.specs.Marks.{Lexeme}
use Rattle.c_grammar.specs.Phrase as phrase
use Rattle.c_grammar.specs.Phrase.{Phrase, TreeOf, Head, function_head, object_head, pointer_head, Front, object_front, pointer_front}
use Rattle.c_grammar.specs.Parse.{Class, Value, sign, a_name, grab, is_of, follows_declarator, begins_declarator, Rule, ret, one, heads, fronts, choose, Syntax, Nesting, Outcome, Got, Stuck, Spent, Parser, and_then, taken, token, passes, star_count, decided, decided_by, headed, outer_head, named_front, fronted, declarator_front, run}
use Rattle.c_grammar.specs.Parse as rule
use Rattle.c_grammar.specs.Rules.{rules, rank, read_within, read}

-- those that take a token or more
abbrev pub eats : Phrase → Bool
eats (phrase.specifier l) = true
eats (phrase.declaration l) = true
eats (phrase.statement l) = true
eats phrase.member = true
eats phrase.outer = true
eats _ = false

abbrev Eats : {A : Type 0} → Rule A → Type 0
Eats (ret a) = ⊥
Eats (one c l f) = Unit {0}
Eats (rule.call n f) = (eats n ≡ true) ⊎ ((x : TreeOf n) → Eats (f x))
Eats (heads f) = Unit {0}
Eats (fronts l f) = Unit {0}
Eats (choose test g h) = Eats g × Eats h

-- before a token is taken only phrases of rank below r are called
abbrev Guarded : {A : Type 0} → ℕ → Rule A → Type 0
Guarded r (ret a) = Unit {0}
Guarded r (one c l f) = Unit {0}
Guarded r (rule.call n f) = (rank n < r) × ((eats n ≡ true) ⊎ ((x : TreeOf n) → Guarded r (f x)))
Guarded r (heads f) = Unit {0}
Guarded r (fronts l f) = Unit {0}
Guarded r (choose test g h) = Guarded r g × Guarded r h

-- ---- what is left is no longer

either : {A : Type 0} (P : Outcome A → Type 0) (b : Bool) (o o' : Outcome A) → P o → P o' → P (cond b o o')
either P true o o' h k = h
either P false o o' h k = k

either_same : {A : Type 0} (b : Bool) (o o' u u' : Outcome A) → (o ≢ Spent → o' ≡ o) → (u ≢ Spent → u' ≡ u) → cond b o u ≢ Spent → cond b o' u' ≡ cond b o u
either_same true o o' u u' h k n = h n
either_same false o o' u u' h k n = k n

record Shrinks (env : (n : Phrase) → Parser (TreeOf n)) : Type 0 where
  no_more : (n : Phrase) (us : List Lexeme) (a : TreeOf n) (rest : List Lexeme) → env n us ≡ Got a rest → length rest ≤ length us
  fewer : (n : Phrase) (us : List Lexeme) (a : TreeOf n) (rest : List Lexeme) → env n us ≡ Got a rest → eats n ≡ true → length rest < length us

pub token_fewer : (limit : ℕ) (c : Class) (l : ℕ) (us : List Lexeme) (a : Value c × Position) (rest : List Lexeme) → token limit c l us ≡ Got a rest → length rest < length us
token_fewer limit c l [] a rest e = cc
token_fewer limit c l (t ∷ ts) a rest e = by (grab c t.kind) (nat_le l limit) refl e
  where
    by : (o : Option (Value c)) (b : Bool) → nat_le l limit ≡ b → taken limit l o t ts ≡ Got a rest → length rest < suc (length ts)
    by None b d e = cc
    by (Some v) true d e =
        let yes : Path (Outcome (Value c × Position)) (Got (v, t.place) ts) (Got a rest) = ap (λ b. cond b (Got (v, t.place) ts) (Stuck Nesting (t ∷ ts))) (sym d) ∙ e in
        let same : ts ≡ rest = cc in omega (arith, ap length same)
    by (Some v) false d e =
        let no : Path (Outcome (Value c × Position)) (Stuck Nesting (t ∷ ts)) (Got a rest) = ap (λ b. cond b (Got (v, t.place) ts) (Stuck Nesting (t ∷ ts))) (sym d) ∙ e in cc

drop_less : {A : Type 0} (n : ℕ) (ts : List A) → length (drop n ts) ≤ length ts
drop_less zero ts = omega arith
drop_less (suc n) [] = omega arith
drop_less (suc n) (t ∷ ts) = omega (arith, drop_less n ts)

decided_less : (limit : ℕ) (ss : List Lexeme) (n : ℕ) (x : List ℕ) (at : Position) (us : List Lexeme) (h : Head) (rest : List Lexeme) → decided limit ss n x at us ≡ Got h rest → length rest ≤ length us
decided_less limit ss n x at us h rest e = by (passes (is_of (sign punct.OpenParen)) us) (nat_le n limit) (passes follows_declarator us) e
  where
    by : (b c d : Bool) → cond b (Got (function_head n x at) (drop 1 us)) (cond d (cond c (Got (object_head n x at) us) (Stuck Nesting (drop limit ss))) (Stuck Syntax us)) ≡ Got h rest → length rest ≤ length us
    by true c d e = let same : drop 1 us ≡ rest = cc in subst (λ z. length z ≤ length us) same (drop_less 1 us)
    by false true true e = let same : us ≡ rest = cc in omega (arith, ap length same)
    by false false true e = cc
    by false true false e = cc
    by false false false e = cc

passed_less : (test : Kind → Bool) (us : List Lexeme) → passes test us ≡ true → length (drop 1 us) < length us
passed_less test [] h = cc
passed_less test (t ∷ ts) h = omega arith

decided_fewer : (limit : ℕ) (ss : List Lexeme) (n : ℕ) (us : List Lexeme) (h : Head) (rest : List Lexeme) → decided_by limit ss n (token limit a_name 0 us) ≡ Got h rest → length rest < length us
decided_fewer limit ss n us h rest e = by (token limit a_name 0 us) refl e
  where
    by : (o : Outcome (List ℕ × Position)) → token limit a_name 0 us ≡ o → decided_by limit ss n o ≡ Got h rest → length rest < length us
    by (Got x mid) d e = omega (arith, token_fewer limit a_name 0 us x mid d, decided_less limit ss n x.0 x.1 mid h rest e)
    by (Stuck f mid) d e = cc
    by Spent d e = cc

headed_fewer : (limit : ℕ) (ss : List Lexeme) (n : ℕ) (us : List Lexeme) (h : Head) (rest : List Lexeme) → headed limit ss n us ≡ Got h rest → length rest < length us
headed_fewer limit ss n us h rest e = by (passes (is_of (sign punct.OpenParen)) us) refl e
  where
    by : (b : Bool) → passes (is_of (sign punct.OpenParen)) us ≡ b → cond b (Got (pointer_head n) (drop 1 us)) (decided_by limit ss n (token limit a_name 0 us)) ≡ Got h rest → length rest < length us
    by true d e = let same : drop 1 us ≡ rest = cc in subst (λ z. length z < length us) same (passed_less (is_of (sign punct.OpenParen)) us d)
    by false d e = decided_fewer limit ss n us h rest e

head_fewer : (limit : ℕ) (us : List Lexeme) (h : Head) (rest : List Lexeme) → outer_head limit us ≡ Got h rest → length rest < length us
head_fewer limit us h rest e = omega (arith, headed_fewer limit us (star_count us) (drop (star_count us) us) h rest e, drop_less (star_count us) us)

named_less : (limit l : ℕ) (ss : List Lexeme) (n : ℕ) (x : List ℕ) (at : Position) (us : List Lexeme) (h : Front) (rest : List Lexeme) → named_front limit l ss n x at us ≡ Got h rest → length rest ≤ length us
named_less limit l ss n x at us h rest e = by (nat_le (l + n) limit) e
  where
    by : (b : Bool) → cond b (Got (object_front n x at) us) (Stuck Nesting (drop (limit - l) ss)) ≡ Got h rest → length rest ≤ length us
    by true e = let same : us ≡ rest = cc in omega (arith, ap length same)
    by false e = cc

named_fewer : (limit l : ℕ) (ss : List Lexeme) (n : ℕ) (us : List Lexeme) (h : Front) (rest : List Lexeme) → and_then (token limit a_name 0 us) (λ x. named_front limit l ss n x.0 x.1) ≡ Got h rest → length rest < length us
named_fewer limit l ss n us h rest e = by (token limit a_name 0 us) refl e
  where
    by : (o : Outcome (List ℕ × Position)) → token limit a_name 0 us ≡ o → and_then o (λ x. named_front limit l ss n x.0 x.1) ≡ Got h rest → length rest < length us
    by (Got x mid) d e = omega (arith, token_fewer limit a_name 0 us x mid d, named_less limit l ss n x.0 x.1 mid h rest e)
    by (Stuck f mid) d e = cc
    by Spent d e = cc

fronted_fewer : (limit l : ℕ) (ss : List Lexeme) (n : ℕ) (us : List Lexeme) (h : Front) (rest : List Lexeme) → fronted limit l ss n us ≡ Got h rest → length rest < length us
fronted_fewer limit l ss n us h rest e = by (passes (is_of (sign punct.OpenParen)) us) refl e
  where
    by : (b : Bool) → passes (is_of (sign punct.OpenParen)) us ≡ b → cond b (Got (pointer_front n) (drop 1 us)) (and_then (token limit a_name 0 us) (λ x. named_front limit l ss n x.0 x.1)) ≡ Got h rest → length rest < length us
    by true d e = let same : drop 1 us ≡ rest = cc in subst (λ z. length z < length us) same (passed_less (is_of (sign punct.OpenParen)) us d)
    by false d e = named_fewer limit l ss n us h rest e

front_fewer : (limit l : ℕ) (us : List Lexeme) (h : Front) (rest : List Lexeme) → declarator_front limit l us ≡ Got h rest → length rest < length us
front_fewer limit l us h rest e = by (nat_le l limit) (passes begins_declarator us) e
  where
    by : (b c : Bool) → cond b (fronted limit l us (star_count us) (drop (star_count us) us)) (cond c (Stuck Nesting us) (Stuck Syntax us)) ≡ Got h rest → length rest < length us
    by true c e = omega (arith, fronted_fewer limit l us (star_count us) (drop (star_count us) us) h rest e, drop_less (star_count us) us)
    by false true e = cc
    by false false e = cc

module _ (limit : ℕ) (env : (n : Phrase) → Parser (TreeOf n)) (s : Shrinks env) where
  after_less : {A B : Type 0} (o : Outcome B) (f : B → Parser A) (us : List Lexeme) (a : A) (rest : List Lexeme) → ((x : B) (mid : List Lexeme) → o ≡ Got x mid → length mid ≤ length us) → ((x : B) (mid : List Lexeme) → f x mid ≡ Got a rest → length rest ≤ length mid) → and_then o f ≡ Got a rest → length rest ≤ length us
  after_less (Got x mid) f us a rest h k e = omega (arith, h x mid refl, k x mid e)
  after_less (Stuck g mid) f us a rest h k e = cc
  after_less Spent f us a rest h k e = cc

  run_no_more : {A : Type 0} (g : Rule A) (us : List Lexeme) (a : A) (rest : List Lexeme) → run limit env g us ≡ Got a rest → length rest ≤ length us
  run_no_more (ret x) us a rest e = let same : us ≡ rest = cc in omega (arith, ap length same)
  run_no_more (one c l f) us a rest e = after_less (token limit c l us) (λ x. run limit env (f x.0 x.1)) us a rest (λ x mid d. omega (arith, token_fewer limit c l us x mid d)) (λ x mid d. run_no_more (f x.0 x.1) mid a rest d) e
  run_no_more (rule.call n f) us a rest e = after_less (env n us) (λ x. run limit env (f x)) us a rest (λ x mid d. s.no_more n us x mid d) (λ x mid d. run_no_more (f x) mid a rest d) e
  run_no_more (heads f) us a rest e = after_less (outer_head limit us) (λ x. run limit env (f x)) us a rest (λ x mid d. omega (arith, head_fewer limit us x mid d)) (λ x mid d. run_no_more (f x) mid a rest d) e
  run_no_more (fronts l f) us a rest e = after_less (declarator_front limit l us) (λ x. run limit env (f x)) us a rest (λ x mid d. omega (arith, front_fewer limit l us x mid d)) (λ x mid d. run_no_more (f x) mid a rest d) e
  run_no_more (choose test g h) us a rest e =
      either (λ o. o ≡ Got a rest → length rest ≤ length us) (passes test us) (run limit env g us) (run limit env h us) (run_no_more g us a rest) (run_no_more h us a rest) e

  after_fewer : {A B : Type 0} (o : Outcome B) (f : B → Parser A) (us : List Lexeme) (a : A) (rest : List Lexeme) → ((x : B) (mid : List Lexeme) → o ≡ Got x mid → f x mid ≡ Got a rest → length rest < length us) → and_then o f ≡ Got a rest → length rest < length us
  after_fewer (Got x mid) f us a rest h e = h x mid refl e
  after_fewer (Stuck g mid) f us a rest h e = cc
  after_fewer Spent f us a rest h e = cc

  run_fewer : {A : Type 0} (g : Rule A) → Eats g → (us : List Lexeme) (a : A) (rest : List Lexeme) → run limit env g us ≡ Got a rest → length rest < length us
  run_fewer (ret x) h us a rest e = absurd h
  run_fewer (one c l f) h us a rest e = after_fewer (token limit c l us) (λ x. run limit env (f x.0 x.1)) us a rest (λ x mid d k. omega (arith, token_fewer limit c l us x mid d, run_no_more (f x.0 x.1) mid a rest k)) e
  run_fewer (rule.call n f) (inl h) us a rest e = after_fewer (env n us) (λ x. run limit env (f x)) us a rest (λ x mid d k. omega (arith, s.fewer n us x mid d h, run_no_more (f x) mid a rest k)) e
  run_fewer (rule.call n f) (inr h) us a rest e = after_fewer (env n us) (λ x. run limit env (f x)) us a rest (λ x mid d k. omega (arith, s.no_more n us x mid d, run_fewer (f x) (h x) mid a rest k)) e
  run_fewer (heads f) h us a rest e = after_fewer (outer_head limit us) (λ x. run limit env (f x)) us a rest (λ x mid d k. omega (arith, head_fewer limit us x mid d, run_no_more (f x) mid a rest k)) e
  run_fewer (fronts l f) h us a rest e = after_fewer (declarator_front limit l us) (λ x. run limit env (f x)) us a rest (λ x mid d k. omega (arith, front_fewer limit l us x mid d, run_no_more (f x) mid a rest k)) e
  run_fewer (choose test g k) h us a rest e =
      either (λ o. o ≡ Got a rest → length rest < length us) (passes test us) (run limit env g us) (run limit env k us) (run_fewer g h.0 us a rest) (run_fewer k h.1 us a rest) e

all_eat : (n : Phrase) → eats n ≡ true → Eats (rules n)
all_eat (phrase.specifier l) e = (tt, (tt, (tt, (tt, (tt, (tt, (tt, (tt, tt))))))))
all_eat (phrase.declaration l) e = inl refl
all_eat (phrase.statement l) e = (tt, (tt, (tt, (tt, (tt, (tt, (tt, (tt, (tt, inr (λ x. tt))))))))))
all_eat phrase.member e = inl refl
all_eat phrase.outer e = (tt, (tt, inl refl))
all_eat _ e = cc

shrinks : (limit m : ℕ) → Shrinks (read_within limit m)
unfolding read_within
shrinks limit zero = record { no_more = λ n us a rest e. cc; fewer = λ n us a rest e. cc }
shrinks limit (suc m) = record {
  no_more = λ n us a rest e. run_no_more limit (read_within limit m) (shrinks limit m) (rules n) us a rest e;
  fewer = λ n us a rest e h. run_fewer limit (read_within limit m) (shrinks limit m) (rules n) (all_eat n h) us a rest e;
}

-- ---- enough is left

guarded : (n : Phrase) → Guarded (rank n) (rules n)
guarded (phrase.specifier l) = (tt, (tt, (tt, (tt, (tt, (tt, (tt, (tt, tt))))))))
guarded (phrase.stars l n) = (tt, tt)
guarded (phrase.type_name l) = (omega arith, inr (λ s. (omega arith, inr (λ n. tt))))
guarded (phrase.expression l) = (omega arith, inr (λ e. (tt, tt)))
guarded (phrase.more l es) = (tt, tt)
guarded (phrase.assignment l) = (omega arith, inr (λ a. (tt, tt)))
guarded (phrase.conditional_part l) = (omega arith, inr (λ a. (tt, tt)))
guarded (phrase.operands l) = (omega arith, inr (λ e. (omega arith, inr (λ all. tt))))
guarded (phrase.chain l e) = (tt, tt)
guarded (phrase.unary l) = (tt, (omega arith, inr (λ e. tt)))
guarded (phrase.unary_plain l) = (tt, (tt, (omega arith, inr (λ e. (omega arith, inr (λ all. tt))))))
guarded (phrase.opened l at) = ((omega arith, inr (λ t. tt)), (omega arith, inr (λ e. tt)))
guarded (phrase.enclosed l at) = (omega arith, inr (λ e. tt))
guarded (phrase.atom l) = (tt, (tt, (tt, (tt, tt))))
guarded (phrase.postfix l e) = (tt, (tt, (tt, (tt, (tt, tt)))))
guarded (phrase.arguments l) = (tt, (omega arith, inr (λ e. (omega arith, inr (λ es. tt)))))
guarded (phrase.maybe_expression l stop) = (tt, (omega arith, inr (λ e. tt)))
guarded (phrase.pointer l) = tt
guarded (phrase.declarator l) = tt
guarded (phrase.lengths l es) = (tt, tt)
guarded (phrase.initial l) = (tt, (tt, (tt, (tt, (omega arith, inr (λ e. tt))))))
guarded (phrase.more_initials l is) = (tt, tt)
guarded (phrase.object l) = (omega arith, inr (λ d. (omega arith, inr (λ o. tt))))
guarded (phrase.object_past l d) = (tt, tt)
guarded (phrase.more_objects l os) = (tt, tt)
guarded (phrase.declaration l) = (omega arith, inl refl)
guarded (phrase.start l) = ((omega arith, inr (λ d. tt)), (omega arith, inr (λ e. tt)))
guarded (phrase.statement l) = (tt, (tt, (tt, (tt, (tt, (tt, (tt, (tt, (tt, (omega arith, inr (λ e. tt)))))))))))
guarded (phrase.parts l ps) = (tt, ((omega arith, inl refl), (omega arith, inl refl)))
guarded (phrase.param l) = (omega arith, inr (λ s. (omega arith, inr (λ x. tt))))
guarded (phrase.param_after l s) = (omega arith, inr (λ n. (tt, (tt, tt))))
guarded (phrase.more_params l xs) = (tt, tt)
guarded (phrase.params l) = (tt, (omega arith, inr (λ x. (omega arith, inr (λ xs. tt)))))
guarded phrase.code = (tt, tt)
guarded (phrase.more_declared ds) = (tt, tt)
guarded phrase.member = (omega arith, inl refl)
guarded (phrase.more_members fs) = (tt, (omega arith, inl refl))
guarded phrase.outer = (tt, (tt, (omega arith, inr (λ s. (omega arith, inr (λ o. tt))))))
guarded (phrase.outer_after is_static s at) = tt
guarded (phrase.program os) = ((omega arith, inl refl), tt)

rank_small : (n : Phrase) → rank n < 9
rank_small (phrase.specifier l) = omega arith
rank_small _ = omega arith

-- b phrases in one another are enough where the rank and nine for each token are below it
abbrev Suffices : ℕ → ((n : Phrase) → Parser (TreeOf n)) → Type 0
Suffices b env = (n : Phrase) (us : List Lexeme) → 9 * length us + rank n < b → env n us ≢ Spent

taken_unspent : {B : Type 0} (limit l : ℕ) (o : Option B) (t : Lexeme) (ts : List Lexeme) → taken limit l o t ts ≢ Spent
taken_unspent limit l None t ts e = cc
taken_unspent {B} limit l (Some v) t ts e = by (nat_le l limit) e
  where
    by : (b : Bool) → Path (Outcome (B × Position)) (cond b (Got (v, t.place) ts) (Stuck Nesting (t ∷ ts))) Spent → ⊥
    by true e = cc
    by false e = cc

token_unspent : (limit : ℕ) (c : Class) (l : ℕ) (us : List Lexeme) → token limit c l us ≢ Spent
token_unspent limit c l [] e = cc
token_unspent limit c l (t ∷ ts) e = taken_unspent limit l (grab c t.kind) t ts e

headed_unspent : (limit : ℕ) (ss : List Lexeme) (n : ℕ) (us : List Lexeme) → headed limit ss n us ≢ Spent
headed_unspent limit ss n us e = opens (passes (is_of (sign punct.OpenParen)) us) e
  where
    decides : (x : List ℕ) (at : Position) (mid : List Lexeme) (b c d : Bool) → Path (Outcome Head) (cond b (Got (function_head n x at) (drop 1 mid)) (cond d (cond c (Got (object_head n x at) mid) (Stuck Nesting (drop limit ss))) (Stuck Syntax mid))) Spent → ⊥
    decides x at mid true c d e = cc
    decides x at mid false true true e = cc
    decides x at mid false true false e = cc
    decides x at mid false false true e = cc
    decides x at mid false false false e = cc

    by : (o : Outcome (List ℕ × Position)) → token limit a_name 0 us ≡ o → decided_by limit ss n o ≡ Spent → ⊥
    by (Got x mid) d e = decides x.0 x.1 mid (passes (is_of (sign punct.OpenParen)) mid) (nat_le n limit) (passes follows_declarator mid) e
    by (Stuck f mid) d e = cc
    by Spent d e = token_unspent limit a_name 0 us d

    opens : (b : Bool) → cond b (Got (pointer_head n) (drop 1 us)) (decided_by limit ss n (token limit a_name 0 us)) ≡ Spent → ⊥
    opens true e = cc
    opens false e = by (token limit a_name 0 us) refl e

head_unspent : (limit : ℕ) (us : List Lexeme) → outer_head limit us ≢ Spent
head_unspent limit us = headed_unspent limit us (star_count us) (drop (star_count us) us)

fronted_unspent : (limit l : ℕ) (ss : List Lexeme) (n : ℕ) (us : List Lexeme) → fronted limit l ss n us ≢ Spent
fronted_unspent limit l ss n us e = opens (passes (is_of (sign punct.OpenParen)) us) e
  where
    decides : (x : List ℕ) (at : Position) (mid : List Lexeme) (b : Bool) → Path (Outcome Front) (cond b (Got (object_front n x at) mid) (Stuck Nesting (drop (limit - l) ss))) Spent → ⊥
    decides x at mid true e = cc
    decides x at mid false e = cc

    by : (o : Outcome (List ℕ × Position)) → token limit a_name 0 us ≡ o → and_then o (λ x. named_front limit l ss n x.0 x.1) ≡ Spent → ⊥
    by (Got x mid) d e = decides x.0 x.1 mid (nat_le (l + n) limit) e
    by (Stuck f mid) d e = cc
    by Spent d e = token_unspent limit a_name 0 us d

    opens : (b : Bool) → cond b (Got (pointer_front n) (drop 1 us)) (and_then (token limit a_name 0 us) (λ x. named_front limit l ss n x.0 x.1)) ≡ Spent → ⊥
    opens true e = cc
    opens false e = by (token limit a_name 0 us) refl e

front_unspent : (limit l : ℕ) (us : List Lexeme) → declarator_front limit l us ≢ Spent
front_unspent limit l us e = by (nat_le l limit) (passes begins_declarator us) e
  where
    by : (b c : Bool) → cond b (fronted limit l us (star_count us) (drop (star_count us) us)) (cond c (Stuck Nesting us) (Stuck Syntax us)) ≡ Spent → ⊥
    by true c e = fronted_unspent limit l us (star_count us) (drop (star_count us) us) e
    by false true e = cc
    by false false e = cc

module _ (limit b : ℕ) (env : (n : Phrase) → Parser (TreeOf n)) (s : Shrinks env) (enough : Suffices b env) where
  after_unspent : {A B : Type 0} (o : Outcome B) (f : B → Parser A) → o ≢ Spent → ((x : B) (mid : List Lexeme) → o ≡ Got x mid → f x mid ≢ Spent) → and_then o f ≢ Spent
  after_unspent (Got x mid) f h k e = k x mid refl e
  after_unspent (Stuck g mid) f h k e = cc
  after_unspent Spent f h k e = h refl

  -- after a token
  run_after : {A : Type 0} (g : Rule A) (us : List Lexeme) → 9 * length us + 9 ≤ b → run limit env g us ≢ Spent
  run_after (ret x) us le = λ e. cc
  run_after (one c l f) us le = after_unspent (token limit c l us) (λ x. run limit env (f x.0 x.1)) (token_unspent limit c l us) (λ x mid d. run_after (f x.0 x.1) mid (omega (arith, le, token_fewer limit c l us x mid d)))
  run_after (rule.call n f) us le = after_unspent (env n us) (λ x. run limit env (f x)) (enough n us (omega (arith, le, rank_small n))) (λ x mid d. run_after (f x) mid (omega (arith, le, s.no_more n us x mid d)))
  run_after (heads f) us le = after_unspent (outer_head limit us) (λ x. run limit env (f x)) (head_unspent limit us) (λ x mid d. run_after (f x) mid (omega (arith, le, head_fewer limit us x mid d)))
  run_after (fronts l f) us le = after_unspent (declarator_front limit l us) (λ x. run limit env (f x)) (front_unspent limit l us) (λ x mid d. run_after (f x) mid (omega (arith, le, front_fewer limit l us x mid d)))
  run_after (choose test g h) us le = either (λ o. o ≢ Spent) (passes test us) (run limit env g us) (run limit env h us) (run_after g us le) (run_after h us le)

  run_unspent : {A : Type 0} (r : ℕ) (g : Rule A) → Guarded r g → (us : List Lexeme) → 9 * length us + r ≤ b → run limit env g us ≢ Spent
  run_unspent r (ret x) h us le = λ e. cc
  run_unspent r (one c l f) h us le = after_unspent (token limit c l us) (λ x. run limit env (f x.0 x.1)) (token_unspent limit c l us) (λ x mid d. run_after (f x.0 x.1) mid (omega (arith, le, token_fewer limit c l us x mid d)))
  run_unspent {A} r (rule.call n f) h us le = after_unspent (env n us) (λ x. run limit env (f x)) (enough n us (omega (arith, le, h.0))) (λ x mid d. by x mid d h.1 (λ k le. run_unspent r (f x) k mid le))
    where
      by : (x : TreeOf n) (mid : List Lexeme) → env n us ≡ Got x mid → (eats n ≡ true) ⊎ ((x : TreeOf n) → Guarded r (f x)) → (Guarded r (f x) → 9 * length mid + r ≤ b → run limit env (f x) mid ≢ Spent) → run limit env (f x) mid ≢ Spent
      by x mid d (inl e) go = run_after (f x) mid (omega (arith, le, s.fewer n us x mid d e))
      by x mid d (inr k) go = go (k x) (omega (arith, le, s.no_more n us x mid d))
  run_unspent r (heads f) h us le = after_unspent (outer_head limit us) (λ x. run limit env (f x)) (head_unspent limit us) (λ x mid d. run_after (f x) mid (omega (arith, le, head_fewer limit us x mid d)))
  run_unspent r (fronts l f) h us le = after_unspent (declarator_front limit l us) (λ x. run limit env (f x)) (front_unspent limit l us) (λ x mid d. run_after (f x) mid (omega (arith, le, front_fewer limit l us x mid d)))
  run_unspent r (choose test g k) h us le = either (λ o. o ≢ Spent) (passes test us) (run limit env g us) (run limit env k us) (run_unspent r g h.0 us le) (run_unspent r k h.1 us le)

suffices : (limit m : ℕ) → Suffices m (read_within limit m)
unfolding read_within
suffices limit zero n us lt = absurd (omega (arith, lt))
suffices limit (suc m) n us lt = run_unspent limit m (read_within limit m) (shrinks limit m) (suffices limit m) (rank n) (rules n) (guarded n) us (omega (arith, lt))

-- ---- more changes nothing

module _ (limit : ℕ) (env env' : (n : Phrase) → Parser (TreeOf n)) (same : (n : Phrase) (us : List Lexeme) → env n us ≢ Spent → env' n us ≡ env n us) where
  after_same : {A B : Type 0} (o : Outcome B) (f f' : B → Parser A) → ((x : B) (mid : List Lexeme) → f x mid ≢ Spent → f' x mid ≡ f x mid) → and_then o f ≢ Spent → and_then o f' ≡ and_then o f
  after_same (Got x mid) f f' h k = h x mid k
  after_same (Stuck g mid) f f' h k = refl
  after_same Spent f f' h k = refl

  run_same : {A : Type 0} (g : Rule A) (us : List Lexeme) → run limit env g us ≢ Spent → run limit env' g us ≡ run limit env g us
  run_same (ret x) us h = refl
  run_same (one c l f) us h = after_same (token limit c l us) (λ x. run limit env (f x.0 x.1)) (λ x. run limit env' (f x.0 x.1)) (λ x mid k. run_same (f x.0 x.1) mid k) h
  run_same (rule.call n f) us h =
      ap (λ o. and_then o (λ x. run limit env' (f x))) (same n us (λ e. h (ap (λ o. and_then o (λ x. run limit env (f x))) e)))
      ∙ after_same (env n us) (λ x. run limit env (f x)) (λ x. run limit env' (f x)) (λ x mid k. run_same (f x) mid k) h
  run_same (heads f) us h = after_same (outer_head limit us) (λ x. run limit env (f x)) (λ x. run limit env' (f x)) (λ x mid k. run_same (f x) mid k) h
  run_same (fronts l f) us h = after_same (declarator_front limit l us) (λ x. run limit env (f x)) (λ x. run limit env' (f x)) (λ x mid k. run_same (f x) mid k) h
  run_same (choose test g k) us h = either_same (passes test us) (run limit env g us) (run limit env' g us) (run limit env k us) (run limit env' k us) (run_same g us) (run_same k us) h

one_more : (limit m : ℕ) (n : Phrase) (us : List Lexeme) → read_within limit m n us ≢ Spent → read_within limit (suc m) n us ≡ read_within limit m n us
unfolding read_within
one_more limit zero n us h = absurd (h refl)
one_more limit (suc m) n us h = run_same limit (read_within limit m) (read_within limit (suc m)) (one_more limit m) (rules n) us h

many_more : (limit k m : ℕ) (n : Phrase) (us : List Lexeme) → read_within limit m n us ≢ Spent → read_within limit (k + m) n us ≡ read_within limit m n us
many_more limit zero m n us h = ap (λ z. read_within limit z n us) (omega arith)
many_more limit (suc k) m n us h =
    let is = many_more limit k m n us h in
    let next : suc (k + m) ≡ suc k + m = omega arith in
    ap (λ z. read_within limit z n us) (sym next) ∙ one_more limit (k + m) n us (λ e. h (sym is ∙ e)) ∙ is

agree : (limit j m : ℕ) (n : Phrase) (us : List Lexeme) → read_within limit j n us ≢ Spent → read_within limit m n us ≢ Spent → read_within limit j n us ≡ read_within limit m n us
agree limit j m n us h k =
    let left = many_more limit m j n us h in let right = many_more limit j m n us k in
    let swap : m + j ≡ j + m = omega arith in
    sym left ∙ ap (λ z. read_within limit z n us) swap ∙ right

pub read_unspent : (limit : ℕ) (n : Phrase) (us : List Lexeme) → read limit n us ≢ Spent
unfolding read
read_unspent limit n us = suffices limit (suc (9 * length us + rank n)) n us (omega arith)

pub read_agrees : (limit m : ℕ) (n : Phrase) (us : List Lexeme) → read_within limit m n us ≢ Spent → read limit n us ≡ read_within limit m n us
unfolding read
read_agrees limit m n us h = agree limit (suc (9 * length us + rank n)) m n us (suffices limit (suc (9 * length us + rank n)) n us (omega arith)) h

-- the parser is its own rule
pub read_is : (limit : ℕ) (n : Phrase) (us : List Lexeme) → read limit n us ≡ run limit (read limit) (rules n) us
unfolding read read_within
read_is limit n us =
    sym (run_same limit (read_within limit (9 * length us + rank n)) (read limit) (λ k vs h. read_agrees limit (9 * length us + rank n) k vs h) (rules n) us
    (suffices limit (suc (9 * length us + rank n)) n us (omega arith)))

-- what is left is no longer
pub read_no_more : (limit : ℕ) (n : Phrase) (us : List Lexeme) (a : TreeOf n) (rest : List Lexeme) → read limit n us ≡ Got a rest → length rest ≤ length us
unfolding read
read_no_more limit n us a rest e = (shrinks limit (suc (9 * length us + rank n))).no_more n us a rest e

pub read_fewer : (limit : ℕ) (n : Phrase) (us : List Lexeme) (a : TreeOf n) (rest : List Lexeme) → eats n ≡ true → read limit n us ≡ Got a rest → length rest < length us
unfolding read
read_fewer limit n us a rest h e = (shrinks limit (suc (9 * length us + rank n))).fewer n us a rest e h
