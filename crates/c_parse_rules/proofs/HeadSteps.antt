-- How the head of what is declared at file level is read, and the front of a declarator.
use Rattle.std.proofs.Common.{◌≡◌, ℕ, suc, ◌+◌, ◌-◌, ◌≤◌, ◌<◌, Bool, true, false, List, [], ◌∷◌, length, drop, Option, Some, None, is_some, refl, sym, ◌∙◌, ap, arith, nat_le}
use Rattle.std.proofs.lemmas.Bool.Decides.{nat_tests}
use Rattle.std.proofs.lemmas.List.{length-map}
use Rattle.c_lexer.specs.declared.token.Token.{Token}
use Rattle.c_lexer.specs.declared.token.Punct.TheVariants as punct
use Rattle.rr_base.specs.declared.position.Position.{Position}
use Rattle.c_grammar.specs.Marks.{Lexeme}
use Rattle.c_grammar.specs.Phrase as phrase
use Rattle.c_grammar.specs.Phrase.{function_head, object_head, pointer_head, object_front, pointer_front}
use Rattle.c_grammar.specs.Parse.{is_of, sign, a_name, grab, follows_declarator, Fault, Syntax, Nesting, Outcome, Got, Stuck, and_then, passes, token, taken, star_count, decided, decided_by, headed, outer_head, named_front, fronted, declarator_front}
use Rattle.c_grammar.specs.Rules.{read}
use Rattle.c_parse_rules.specs.declared.token.Stop.{Stop}
use Rattle.c_parse_rules.specs.declared.token.Stop.TheVariants as stop
use Rattle.c_parse_rules.specs.Gives.{lexeme_of, lexemes, Stops}
use Rattle.c_parse_rules.proofs.Steps.{by_rule}

low : (l : ℕ) → l ≤ 256 → nat_le l 256 ≡ true
low l le = grind (arith, nat_tests)

star_count_more : (t : Lexeme) (ts : List Lexeme) → is_of (sign punct.Star) t.kind ≡ true → star_count (t ∷ ts) ≡ suc (star_count ts)
star_count_more t ts e = rw e refl

star_count_none : (t : Lexeme) (ts : List Lexeme) → is_of (sign punct.Star) t.kind ≡ false → star_count (t ∷ ts) ≡ 0
star_count_none t ts e = rw e refl

star_count_small : (ts : List Lexeme) → star_count ts ≤ length ts
star_count_small [] = omega arith
star_count_small (t ∷ ts) = by (is_of (sign punct.Star) t.kind) refl (star_count_small ts)
  where
    by : (b : Bool) → is_of (sign punct.Star) t.kind ≡ b → star_count ts ≤ length ts → star_count (t ∷ ts) ≤ suc (length ts)
    by true e h = rw e (omega (arith, h))
    by false e h = rw e (omega arith)

-- at a level within the limit
module _ (l : ℕ) (le : l ≤ 256) where
  star_next : (t : Lexeme) (ts : List Lexeme) (o : Option (Unit {0})) → is_some o ≡ true → taken 256 l o t ts ≡ Got (tt, t.place) ts
  star_next t ts None e = cc
  star_next t ts (Some v) e = rw (low l le) refl

  star_passes : (t : Lexeme) (ts : List Lexeme) (n : ℕ) → is_of (sign punct.Star) t.kind ≡ true → read 256 (phrase.stars l n) (t ∷ ts) ≡ and_then (read 256 (phrase.stars l (suc n)) ts) (λ k rest. Got k rest)
  star_passes t ts n e = rw (by_rule (phrase.stars l n) (t ∷ ts), e, star_next t ts (grab (sign punct.Star) t.kind) e) refl

  no_star : (t : Lexeme) (ts : List Lexeme) (n : ℕ) → is_of (sign punct.Star) t.kind ≡ false → read 256 (phrase.stars l n) (t ∷ ts) ≡ Got n (t ∷ ts)
  no_star t ts n e = rw (by_rule (phrase.stars l n) (t ∷ ts), e) refl

  stars_read : (n : ℕ) (ts : List Lexeme) → read 256 (phrase.stars l n) ts ≡ Got (n + star_count ts) (drop (star_count ts) ts)
  stars_read n [] = let e : n ≡ n + 0 = omega arith in by_rule (phrase.stars l n) [] ∙ ap (λ k. Got k []) e
  stars_read n (t ∷ ts) = by (is_of (sign punct.Star) t.kind) refl (stars_read (suc n) ts)
    where
      by : (b : Bool) → is_of (sign punct.Star) t.kind ≡ b → read 256 (phrase.stars l (suc n)) ts ≡ Got (suc n + star_count ts) (drop (star_count ts) ts) → read 256 (phrase.stars l n) (t ∷ ts) ≡ Got (n + star_count (t ∷ ts)) (drop (star_count (t ∷ ts)) (t ∷ ts))
      by true e h =
          let k : suc n + star_count ts ≡ n + suc (star_count ts) = omega arith in
          rw (star_passes t ts n e, h, e) (ap (λ k. Got k (drop (star_count ts) ts)) k)
      by false e h =
          let k : n ≡ n + 0 = omega arith in
          rw (no_star t ts n e, e) (ap (λ k. Got k (t ∷ ts)) k)

  -- there are no more stars than tokens
  pub stars_small : (ts : List Token) (n : ℕ) (rest : List Lexeme) → read 256 (phrase.stars l 0) (lexemes ts) ≡ Got n rest → n ≤ length ts
  stars_small ts n rest e =
      let both = sym e ∙ stars_read 0 (lexemes ts) in
      let same : n ≡ 0 + star_count (lexemes ts) = cc in
      omega (arith, star_count_small (lexemes ts), length-map ts lexeme_of)

  -- stars are no fault where they raise nothing
  pub stars_never : {A : Type 0} (ts : List Lexeme) (f : Fault) (rest : List Lexeme) → read 256 (phrase.stars l 0) ts ≡ Stuck f rest → A
  stars_never ts f rest e = let both = sym e ∙ stars_read 0 ts in cc

  counted : (us mid : List Lexeme) (n : ℕ) → read 256 (phrase.stars l 0) us ≡ Got n mid → star_count us ≡ n
  counted us mid n stars =
      let both = sym stars ∙ stars_read 0 us in
      let same : n ≡ 0 + star_count us = cc in omega arith

  after_stars : (us mid : List Lexeme) (n : ℕ) → read 256 (phrase.stars l 0) us ≡ Got n mid → drop (star_count us) us ≡ mid
  after_stars us mid n stars = let both = sym stars ∙ stars_read 0 us in cc

  dropped : (ts following : List Lexeme) (v : Unit {0} × Position) → passes (is_of (sign punct.OpenParen)) ts ≡ true → token 256 (sign punct.OpenParen) l ts ≡ Got v following → drop 1 ts ≡ following
  dropped [] following v e k = cc
  dropped (t ∷ ts) following v e k = by (grab (sign punct.OpenParen) t.kind) e k
    where
      by : (o : Option (Unit {0})) → is_some o ≡ true → taken 256 l o t ts ≡ Got v following → ts ≡ following
      by None e k = cc
      by (Some w) e k = let is = sym (star_next t ts (Some w) refl) ∙ k in cc

  -- a parenthesis within the limit is no fault
  pub open_never : {A : Type 0} (ts : List Lexeme) (f : Fault) (r : List Lexeme) → passes (is_of (sign punct.OpenParen)) ts ≡ true → token 256 (sign punct.OpenParen) l ts ≡ Stuck f r → A
  open_never [] f r e k = cc
  open_never (t ∷ ts) f r e k = let is = sym (star_next t ts (grab (sign punct.OpenParen) t.kind) e) ∙ k in cc

-- ---- at file level

module _ (us mid : List Lexeme) (n : ℕ) (stars : read 256 (phrase.stars 0 0) us ≡ Got n mid) where
  -- what comes after the stars decides
  headed_is : outer_head 256 us ≡ headed 256 us n mid
  headed_is =
      let le : 0 ≤ 256 = omega arith in
      ap (λ k. headed 256 us k (drop (star_count us) us)) (counted 0 le us mid n stars) ∙ ap (λ z. headed 256 us n z) (after_stars 0 le us mid n stars)

  pub a_pointer : (following : List Lexeme) (v : Unit {0} × Position) → passes (is_of (sign punct.OpenParen)) mid ≡ true → token 256 (sign punct.OpenParen) 0 mid ≡ Got v following → outer_head 256 us ≡ Got (pointer_head n) following
  a_pointer following v e k = headed_is ∙ rw e (ap (λ z. Got (pointer_head n) z) (dropped 0 (omega arith) mid following v e k))

  module _ (plain : passes (is_of (sign punct.OpenParen)) mid ≡ false) where
    head_by_name : outer_head 256 us ≡ decided_by 256 us n (token 256 a_name 0 mid)
    head_by_name = headed_is ∙ rw plain refl

    pub nameless : (f : Fault) (rest : List Lexeme) → token 256 a_name 0 mid ≡ Stuck f rest → outer_head 256 us ≡ Stuck f rest
    nameless f rest e = head_by_name ∙ ap (λ o. decided_by 256 us n o) e

    module _ (x : List ℕ) (at : Position) (rest : List Lexeme) (name : token 256 a_name 0 mid ≡ Got (x, at) rest) where
      decides : outer_head 256 us ≡ decided 256 us n x at rest
      decides = head_by_name ∙ ap (λ o. decided_by 256 us n o) name

      pub a_function : (following : List Lexeme) (v : Unit {0} × Position) → passes (is_of (sign punct.OpenParen)) rest ≡ true → token 256 (sign punct.OpenParen) 0 rest ≡ Got v following → outer_head 256 us ≡ Got (function_head n x at) following
      a_function following v e k = decides ∙ rw e (ap (λ z. Got (function_head n x at) z) (dropped 0 (omega arith) rest following v e k))

      module _ (no : passes (is_of (sign punct.OpenParen)) rest ≡ false) where
        pub neither : passes follows_declarator rest ≡ false → outer_head 256 us ≡ Stuck Syntax rest
        neither e = decides ∙ rw (no, e) refl

        pub an_object : passes follows_declarator rest ≡ true → n ≤ 256 → outer_head 256 us ≡ Got (object_head n x at) rest
        an_object e le = decides ∙ rw (no, e, low n le) refl

        pub too_many : passes follows_declarator rest ≡ true → 256 < n → outer_head 256 us ≡ Stuck Nesting (drop 256 us)
        too_many e lt = let high : nat_le n 256 ≡ false = grind (arith, nat_tests) in decides ∙ rw (no, e, high) refl

-- ---- of a declarator

module _ (l : ℕ) (le : l ≤ 256) (us mid : List Lexeme) (n : ℕ) (stars : read 256 (phrase.stars l 0) us ≡ Got n mid) where
  fronted_is : declarator_front 256 l us ≡ fronted 256 l us n mid
  fronted_is = rw (low l le) (ap (λ k. fronted 256 l us k (drop (star_count us) us)) (counted l le us mid n stars) ∙ ap (λ z. fronted 256 l us n z) (after_stars l le us mid n stars))

  pub front_pointer : (following : List Lexeme) (v : Unit {0} × Position) → passes (is_of (sign punct.OpenParen)) mid ≡ true → token 256 (sign punct.OpenParen) l mid ≡ Got v following → declarator_front 256 l us ≡ Got (pointer_front n) following
  front_pointer following v e k = fronted_is ∙ rw e (ap (λ z. Got (pointer_front n) z) (dropped l le mid following v e k))

  module _ (plain : passes (is_of (sign punct.OpenParen)) mid ≡ false) where
    front_by_name : declarator_front 256 l us ≡ and_then (token 256 a_name 0 mid) (λ x. named_front 256 l us n x.0 x.1)
    front_by_name = fronted_is ∙ rw plain refl

    pub front_nameless : (f : Fault) (rest : List Lexeme) → token 256 a_name 0 mid ≡ Stuck f rest → declarator_front 256 l us ≡ Stuck f rest
    front_nameless f rest e = front_by_name ∙ ap (λ o. and_then o (λ x. named_front 256 l us n x.0 x.1)) e

    module _ (x : List ℕ) (at : Position) (rest : List Lexeme) (name : token 256 a_name 0 mid ≡ Got (x, at) rest) where
      names : declarator_front 256 l us ≡ named_front 256 l us n x at rest
      names = front_by_name ∙ ap (λ o. and_then o (λ x. named_front 256 l us n x.0 x.1)) name

      pub front_object : l + n ≤ 256 → declarator_front 256 l us ≡ Got (object_front n x at) rest
      front_object h = names ∙ rw (low (l + n) h) refl

      pub front_deep : 256 < l + n → declarator_front 256 l us ≡ Stuck Nesting (drop (256 - l) us)
      front_deep lt = let high : nat_le (l + n) 256 ≡ false = grind (arith, nat_tests) in names ∙ rw high refl

-- what stops at a part stops the whole
pub stops_from : {B C : Type 0} (s : Stop) (o : Outcome B) (o' : Outcome C) → ((f : Fault) (r : List Lexeme) → o ≡ Stuck f r → o' ≡ Stuck f r) → Stops s o → Stops s o'
stops_from stop.OutOfMemory o o' h k = tt
stops_from (stop.Syntax rest) o o' h k = h Syntax (lexemes rest.now) k
stops_from (stop.Nesting rest) o o' h k = h Nesting (lexemes rest.now) k
