-- What the grammar has within the limit is read.
use Rattle.std.proofs.Common.{◌≡◌, ◌≢◌, inl, inr, ℕ, zero, suc, ◌+◌, ◌*◌, ◌≤◌, true, false, cond, List, [], ◌∷◌, ◌++◌, length, refl, sym, ◌∙◌, ap, subst, arith, nat_le}
use Rattle.c_lexer.specs.declared.token.Kind.TheVariants as kind
use Rattle.c_lexer.specs.declared.token.Punct.TheVariants as punct
use Rattle.rr_base.specs.declared.position.Position.{Position}
use Rattle.c_print.specs.Kinds.{p}
use Rattle.c_grammar.specs.Marks.{Lexeme, lexeme, Mark, mark, erase, AllLow}
use Rattle.c_grammar.specs.Grammar.{OfStars, OfRaisingStars}
use Rattle.c_grammar.specs.Phrase.{Phrase, TreeOf, Head, function_head, object_head, pointer_head, Front, object_front, pointer_front}
use Rattle.c_grammar.specs.Parse.{Class, Value, kind_of, grab, follows_declarator, Rule, ret, one, heads, fronts, choose, Outcome, Got, Stuck, Spent, Nesting, Parser, and_then, taken, token, passes, outer_head, declarator_front, run}
use Rattle.c_grammar.specs.Parse as rule
use Rattle.c_grammar.specs.Rules.{rules, rank, read_within, read}
use Rattle.c_grammar.proofs.Tokens.{grabs}
use Rattle.c_grammar.proofs.Language.{OfHead, OfFront, Of}
use Rattle.c_grammar.proofs.Enough.{read_unspent}
use Rattle.c_grammar.proofs.Heads.{AllStars, head_open, head_named, decided_is, le_true}
use Rattle.c_grammar.proofs.Fronts.{front_open, front_named}
use Rattle.c_grammar.proofs.Ends.{EndsAt, HeadEndsAt, Chosen}
use Rattle.c_grammar.proofs.Outermost.{chooses}

-- stars at the front
record Stars (limit n : ℕ) (ms rest : List Mark) : Type 0 where
  stars : List Lexeme
  whole : erase ms ≡ stars ++ erase rest
  all : AllStars stars
  count : length stars ≡ n
  low : AllLow limit rest

stars_of : (limit l n : ℕ) (ms rest : List Mark) → OfStars l n ms rest → AllLow limit ms → Stars limit n ms rest
stars_of limit l zero ms rest h low = record { stars = []; whole = ap erase h; all = tt; count = refl; low = subst (AllLow limit) h low }
stars_of limit l (suc n) ms rest h low =
    let s = stars_of limit l n h.0 rest h.2 (subst (AllLow limit) h.1.1 low).1 in
    record { stars = lexeme (p punct.Star) h.1.0 ∷ s.stars; whole = ap erase h.1.1 ∙ ap (λ z. lexeme (p punct.Star) h.1.0 ∷ z) s.whole; all = (refl, s.all); count = ap suc s.count; low = s.low }

raising_of : (limit l n : ℕ) (ms rest : List Mark) → OfRaisingStars l n ms rest → AllLow limit ms → l ≤ limit → Stars limit n ms rest × (l + n ≤ limit)
raising_of limit l zero ms rest h low le = (record { stars = []; whole = ap erase h; all = tt; count = refl; low = subst (AllLow limit) h low }, omega (arith, le))
raising_of limit l (suc n) ms rest h low le =
    let here = subst (AllLow limit) h.1.1 low in
    let more = raising_of limit (suc l) n h.0 rest h.2 here.1 here.0 in
    let s = more.0 in
    (record { stars = lexeme (p punct.Star) h.1.0 ∷ s.stars; whole = ap erase h.1.1 ∙ ap (λ z. lexeme (p punct.Star) h.1.0 ∷ z) s.whole; all = (refl, s.all); count = ap suc s.count; low = s.low }, omega (arith, more.1))

head_complete : (limit : ℕ) (h : Head) (ms mid : List Mark) → OfHead h ms mid → HeadEndsAt h mid → AllLow limit ms → (outer_head limit (erase ms) ≡ Got h (erase mid)) × AllLow limit mid
head_complete limit (function_head n x at) ms mid (m1, hk, (m2, en, (q, eo))) ends low =
    let s = stars_of limit 0 n ms m1 hk low in
    let low1 = subst (AllLow limit) en s.low in
    let whole : erase ms ≡ s.stars ++ lexeme (kind.Name x) at ∷ lexeme (p punct.OpenParen) q ∷ erase mid = s.whole ∙ ap (λ z. s.stars ++ z) (ap erase en ∙ ap (λ z. lexeme (kind.Name x) at ∷ z) (ap erase eo)) in (
      ap (outer_head limit) whole ∙ head_named limit s.stars (lexeme (kind.Name x) at) (lexeme (p punct.OpenParen) q ∷ erase mid) x s.all refl
          ∙ decided_is limit (s.stars ++ lexeme (kind.Name x) at ∷ lexeme (p punct.OpenParen) q ∷ erase mid) (length s.stars) x at (lexeme (p punct.OpenParen) q ∷ erase mid) true (passes follows_declarator (lexeme (p punct.OpenParen) q ∷ erase mid)) (nat_le (length s.stars) limit) refl refl refl
          ∙ ap (λ z. Got (function_head z x at) (erase mid)) s.count,
      (subst (AllLow limit) eo low1.1).1,
    )
head_complete limit (object_head n x at) ms mid (m1, hk, en) ends low =
    let both = raising_of limit 0 n ms m1 hk low (omega arith) in
    let s = both.0 in
    let low1 = subst (AllLow limit) en s.low in
    let whole : erase ms ≡ s.stars ++ lexeme (kind.Name x) at ∷ erase mid = s.whole ∙ ap (λ z. s.stars ++ z) (ap erase en) in (
      ap (outer_head limit) whole ∙ head_named limit s.stars (lexeme (kind.Name x) at) (erase mid) x s.all refl
          ∙ decided_is limit (s.stars ++ lexeme (kind.Name x) at ∷ erase mid) (length s.stars) x at (erase mid) false true true ends.0 ends.1 (le_true (length s.stars) limit (omega (arith, s.count, both.1)))
          ∙ ap (λ z. Got (object_head z x at) (erase mid)) s.count,
      low1.1,
    )
head_complete limit (pointer_head n) ms mid (m1, hk, (q, eo)) ends low =
    let s = stars_of limit 0 n ms m1 hk low in
    let whole : erase ms ≡ s.stars ++ lexeme (p punct.OpenParen) q ∷ erase mid = s.whole ∙ ap (λ z. s.stars ++ z) (ap erase eo) in
    (ap (outer_head limit) whole ∙ head_open limit s.stars (lexeme (p punct.OpenParen) q) (erase mid) s.all refl ∙ ap (λ z. Got (pointer_head z) (erase mid)) s.count, (subst (AllLow limit) eo s.low).1)

-- a context in which an object's name stands within the limit
object_low : (limit l n : ℕ) (x : List ℕ) (at : Position) (ms m1 mid : List Mark) → OfRaisingStars l n ms m1 → m1 ≡ mark (kind.Name x) at (l + n) ∷ mid → AllLow limit ms → l ≤ limit
object_low limit l zero x at ms m1 mid h e low = let here = subst (AllLow limit) (h ∙ e) low in omega (arith, here.0)
object_low limit l (suc n) x at ms m1 mid h e low = let here = subst (AllLow limit) h.1.1 low in omega (arith, here.0)

front_complete : (limit l : ℕ) (h : Front) (ms mid : List Mark) → OfFront l h ms mid → AllLow limit ms → (declarator_front limit l (erase ms) ≡ Got h (erase mid)) × AllLow limit mid
front_complete limit l (object_front n x at) ms mid (m1, hk, en) low =
    let both = raising_of limit l n ms m1 hk low (object_low limit l n x at ms m1 mid hk en low) in
    let s = both.0 in
    let whole : erase ms ≡ s.stars ++ lexeme (kind.Name x) at ∷ erase mid = s.whole ∙ ap (λ z. s.stars ++ z) (ap erase en) in (
      ap (declarator_front limit l) whole ∙ front_named limit l s.stars (lexeme (kind.Name x) at) (erase mid) x s.all refl (omega (arith, s.count, both.1)) ∙ ap (λ z. Got (object_front z x at) (erase mid)) s.count,
      (subst (AllLow limit) en s.low).1,
    )
front_complete limit l (pointer_front n) ms mid (m1, hk, (q, eo)) low =
    let s = stars_of limit l n ms m1 hk low in
    let low1 = subst (AllLow limit) eo s.low in
    let whole : erase ms ≡ s.stars ++ lexeme (p punct.OpenParen) q ∷ erase mid = s.whole ∙ ap (λ z. s.stars ++ z) (ap erase eo) in
    (ap (declarator_front limit l) whole ∙ front_open limit l s.stars (lexeme (p punct.OpenParen) q) (erase mid) s.all refl low1.0 ∙ ap (λ z. Got (pointer_front z) (erase mid)) s.count, low1.1)

-- what is so of the parser of each phrase
abbrev Completes : ℕ → ((n : Phrase) → Parser (TreeOf n)) → Type 0
Completes limit env = (n : Phrase) (a : TreeOf n) (ms rest : List Mark) → Of n a ms rest → EndsAt n a rest → AllLow limit ms → env n (erase ms) ≢ Spent → (env n (erase ms) ≡ Got a (erase rest)) × AllLow limit rest

module _ (limit : ℕ) (env : (n : Phrase) → Parser (TreeOf n)) (done : Completes limit env) where
  one_done : (c : Class) (l : ℕ) (v : Value c) (at : Position) (ms mid : List Mark) → ms ≡ mark (kind_of c v) at l ∷ mid → AllLow limit ms → (token limit c l (erase ms) ≡ Got (v, at) (erase mid)) × AllLow limit mid
  one_done c l v at ms mid e low =
      let here = subst (AllLow limit) e low in (
        ap (λ z. token limit c l (erase z)) e ∙ ap (λ o. taken limit l o (lexeme (kind_of c v) at) (erase mid)) (grabs c v)
            ∙ ap (λ b. cond b (Got (v, at) (erase mid)) (Stuck Nesting (lexeme (kind_of c v) at ∷ erase mid))) (le_true l limit here.0),
        here.1,
      )

  -- what comes first is done, and what follows too
  passed_on : {A B : Type 0} (o : Outcome B) (f : B → Parser A) (b : B) (x : A) (mid rest : List Mark) → (o ≡ Got b (erase mid)) × AllLow limit mid → (AllLow limit mid → f b (erase mid) ≢ Spent → (f b (erase mid) ≡ Got x (erase rest)) × AllLow limit rest) → and_then o f ≢ Spent → (and_then o f ≡ Got x (erase rest)) × AllLow limit rest
  passed_on o f b x mid rest h go n =
      let is : and_then o f ≡ f b (erase mid) = ap (λ z. and_then z f) h.0 in
      let end = go h.1 (λ e. n (is ∙ e)) in
      (is ∙ end.0, end.1)

  run_complete : {A : Type 0} (g : Rule A) (x : A) (ms rest : List Mark) → Chosen g x ms rest → AllLow limit ms → run limit env g (erase ms) ≢ Spent → (run limit env g (erase ms) ≡ Got x (erase rest)) × AllLow limit rest
  run_complete (ret a) x ms rest h low n = (ap (λ z. Got z (erase ms)) (sym h.0) ∙ ap (λ z. Got x (erase z)) h.1, subst (AllLow limit) h.1 low)
  run_complete (one c l f) x ms rest (v, at, mid, e, h) low n =
      passed_on (token limit c l (erase ms)) (λ y. run limit env (f y.0 y.1)) (v, at) x mid rest (one_done c l v at ms mid e low) (λ low n. run_complete (f v at) x mid rest h low n) n
  run_complete (rule.call m f) x ms rest (r, mid, has, ends, h) low n =
      passed_on (env m (erase ms)) (λ y. run limit env (f y)) r x mid rest (done m r ms mid has ends low (λ e. n (ap (λ o. and_then o (λ y. run limit env (f y))) e))) (λ low n. run_complete (f r) x mid rest h low n) n
  run_complete (heads f) x ms rest (r, mid, has, ends, h) low n =
      passed_on (outer_head limit (erase ms)) (λ y. run limit env (f y)) r x mid rest (head_complete limit r ms mid has ends low) (λ low n. run_complete (f r) x mid rest h low n) n
  run_complete (fronts l f) x ms rest (r, mid, has, h) low n =
      passed_on (declarator_front limit l (erase ms)) (λ y. run limit env (f y)) r x mid rest (front_complete limit l r ms mid has low) (λ low n. run_complete (f r) x mid rest h low n) n
  run_complete (choose test g k) x ms rest (inl h) low n =
      let is : run limit env (choose test g k) (erase ms) ≡ run limit env g (erase ms) = ap (λ b. cond b (run limit env g (erase ms)) (run limit env k (erase ms))) h.0 in
      let end = run_complete g x ms rest h.1 low (λ e. n (is ∙ e)) in (is ∙ end.0, end.1)
  run_complete (choose test g k) x ms rest (inr h) low n =
      let is : run limit env (choose test g k) (erase ms) ≡ run limit env k (erase ms) = ap (λ b. cond b (run limit env g (erase ms)) (run limit env k (erase ms))) h.0 in
      let end = run_complete k x ms rest h.1 low (λ e. n (is ∙ e)) in (is ∙ end.0, end.1)

within_complete : (limit k : ℕ) → Completes limit (read_within limit k)
unfolding read_within
within_complete limit zero n a ms rest h ends low m = absurd (m refl)
within_complete limit (suc k) n a ms rest h ends low m = run_complete limit (read_within limit k) (within_complete limit k) (rules n) a ms rest (chooses n a ms rest h ends) low m

pub read_complete : (limit : ℕ) (n : Phrase) (a : TreeOf n) (ms rest : List Mark) → Of n a ms rest → EndsAt n a rest → AllLow limit ms → read limit n (erase ms) ≡ Got a (erase rest)
unfolding read
read_complete limit n a ms rest h ends low = (within_complete limit (suc (9 * length (erase ms) + rank n)) n a ms rest h ends low (read_unspent limit n (erase ms))).0
