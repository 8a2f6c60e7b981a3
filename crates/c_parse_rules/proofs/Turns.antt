-- What a turn of each loop keeps.
use Rattle.std.proofs.Common.{◌≡◌, ℕ, suc, ◌+◌, ◌≤◌, ◌<◌, true, false, List, [], ◌∷◌, ◌++◌, length, refl, ◌∙◌, ap, arith}
use Rattle.std.proofs.lemmas.List.{length-map}
use Rattle.c_lexer.specs.declared.token.Token.{Token}
use Rattle.c_lexer.specs.declared.token.Punct.TheVariants as punct
use Rattle.c_tree.specs.declared.ctype.CType.{CType}
use Rattle.c_tree.specs.Tree.{Exp, index, member, arrow, post_increment, post_decrement, Init, Object}
use Rattle.rr_base.specs.declared.position.Position.{Position}
use Rattle.c_grammar.specs.Marks.{Lexeme}
use Rattle.c_grammar.specs.Phrase as phrase
use Rattle.c_grammar.specs.Phrase.{Phrase, TreeOf}
use Rattle.c_parse_rules.specs.Gives.{lexeme_of, lexemes, Stops}
use Rattle.c_parse_rules.specs.declared.token.Stop.{Stop}
use Rattle.c_parse_rules.specs.declared.token.Stop.TheVariants as stop
use Rattle.c_grammar.proofs.Enough.{token_fewer, read_no_more}
use Rattle.c_grammar.specs.Parse.{Class, Value, sign, a_name, is_of, is_type, Outcome, Got, Stuck, Spent, Parser, and_then, token, passes}
use Rattle.c_grammar.specs.Rules.{name_of, read}
use Rattle.c_parse_rules.proofs.Steps.{by_rule}

returned : {A : Type 0} (o : Outcome A) → and_then o (λ x ts. Got x ts) ≡ o
returned (Got x ts) = refl
returned (Stuck f ts) = refl
returned Spent = refl

pub stars_turn : (l n : ℕ) (ts rest : List Lexeme) (x : Unit {0} × Position) → passes (is_of (sign punct.Star)) ts ≡ true → token 256 (sign punct.Star) l ts ≡ Got x rest → read 256 (phrase.stars l n) ts ≡ read 256 (phrase.stars l (n + 1)) rest
stars_turn l n ts rest x h k =
    let next : suc n ≡ n + 1 = omega arith in
    rw (by_rule (phrase.stars l n) ts, h, k) (returned (read 256 (phrase.stars l (suc n)) rest) ∙ ap (λ z. read 256 (phrase.stars l z) rest) next)

-- the tokens after a phrase are no more than those before
pub no_longer : (n : Phrase) (ts rest : List Token) (a : TreeOf n) → read 256 n (lexemes ts) ≡ Got a (lexemes rest) → length rest ≤ length ts
no_longer n ts rest a e = omega (arith, read_no_more 256 n (lexemes ts) a (lexemes rest) e, length-map ts lexeme_of, length-map rest lexeme_of)

pub shorter : (c : Class) (l : ℕ) (ts rest : List Token) (x : Value c × Position) → token 256 c l (lexemes ts) ≡ Got x (lexemes rest) → length rest < length ts
shorter c l ts rest x e = omega (arith, token_fewer 256 c l (lexemes ts) x (lexemes rest) e, length-map ts lexeme_of, length-map rest lexeme_of)

pub more_turn : (l : ℕ) (es : List Exp) (ts mid rest : List Lexeme) (x : Unit {0} × Position) (e : Exp) → passes (is_of (sign punct.Comma)) ts ≡ true → token 256 (sign punct.Comma) l ts ≡ Got x mid → read 256 (phrase.assignment l) mid ≡ Got e rest → read 256 (phrase.more l es) ts ≡ read 256 (phrase.more l (es ++ e ∷ [])) rest
more_turn l es ts mid rest x e h k r = rw (by_rule (phrase.more l es) ts, h, k, r) (returned (read 256 (phrase.more l (es ++ e ∷ [])) rest))

pub more_initials_turn : (l : ℕ) (is : List Init) (ts mid rest : List Lexeme) (x : Unit {0} × Position) (i : Init) → passes (is_of (sign punct.Comma)) ts ≡ true → token 256 (sign punct.Comma) l ts ≡ Got x mid → passes (is_of (sign punct.CloseBrace)) mid ≡ false → read 256 (phrase.initial l) mid ≡ Got i rest → read 256 (phrase.more_initials l is) ts ≡ read 256 (phrase.more_initials l (is ++ i ∷ [])) rest
more_initials_turn l is ts mid rest x i h k n r = rw (by_rule (phrase.more_initials l is) ts, h, k, n, r) (returned (read 256 (phrase.more_initials l (is ++ i ∷ [])) rest))

pub more_objects_turn : (l : ℕ) (os : List Object) (ts mid rest : List Lexeme) (x : Unit {0} × Position) (o : Object) → passes (is_of (sign punct.Comma)) ts ≡ true → token 256 (sign punct.Comma) l ts ≡ Got x mid → read 256 (phrase.object l) mid ≡ Got o rest → read 256 (phrase.more_objects l os) ts ≡ read 256 (phrase.more_objects l (os ++ o ∷ [])) rest
more_objects_turn l os ts mid rest x o h k r = rw (by_rule (phrase.more_objects l os) ts, h, k, r) (returned (read 256 (phrase.more_objects l (os ++ o ∷ [])) rest))

pub lengths_turn : (l m : ℕ) (es : List Exp) (ts mid next rest : List Lexeme) (x y : Unit {0} × Position) (e : Exp) → m ≡ suc l → passes (is_of (sign punct.OpenBracket)) ts ≡ true → token 256 (sign punct.OpenBracket) m ts ≡ Got x mid → read 256 (phrase.conditional_part l) mid ≡ Got e next → token 256 (sign punct.CloseBracket) m next ≡ Got y rest → read 256 (phrase.lengths l es) ts ≡ read 256 (phrase.lengths m (es ++ e ∷ [])) rest
lengths_turn l m es ts mid next rest x y e d h k r s =
    let there = rw d at k in
    let close = rw d at s in
    rw (by_rule (phrase.lengths l es) ts, h, there, r, close, d) (returned (read 256 (phrase.lengths (suc l) (es ++ e ∷ [])) rest))

-- what ends a part ends the whole
pub stops_then : {A B : Type 0} (s : Stop) (o : Outcome A) (f : A → Parser B) → Stops s o → Stops s (and_then o f)
stops_then stop.OutOfMemory o f h = tt
stops_then (stop.Syntax rest) o f h = ap (λ z. and_then z f) h
stops_then (stop.Nesting rest) o f h = ap (λ z. and_then z f) h

pub lengths_stop : (s : Stop) (l m : ℕ) (es : List Exp) (ts mid next : List Lexeme) (x : Unit {0} × Position) (e : Exp) → m ≡ suc l → passes (is_of (sign punct.OpenBracket)) ts ≡ true → token 256 (sign punct.OpenBracket) m ts ≡ Got x mid → read 256 (phrase.conditional_part l) mid ≡ Got e next → Stops s (token 256 (sign punct.CloseBracket) m next) → Stops s (read 256 (phrase.lengths l es) ts)
lengths_stop s l m es ts mid next x e d h k r z =
    let there = rw d at k in
    let close = rw d at z in
    rw (by_rule (phrase.lengths l es) ts, h, there, r) (stops_then s (token 256 (sign punct.CloseBracket) (suc l) next) _ close)

-- ---- after a parenthesis

pub enclosed_stop : (s : Stop) (l m : ℕ) (at : Position) (ts mid : List Lexeme) (e : Exp) → m ≡ suc l → read 256 (phrase.expression m) ts ≡ Got e mid → Stops s (token 256 (sign punct.CloseParen) m mid) → Stops s (read 256 (phrase.enclosed l at) ts)
enclosed_stop s l m at ts mid e d r z =
    let there = rw d at r in
    let close = rw d at z in
    rw (by_rule (phrase.enclosed l at) ts, there) (stops_then s (token 256 (sign punct.CloseParen) (suc l) mid) _ close)

pub opened_stop : (s : Stop) (l m : ℕ) (at : Position) (ts mid : List Lexeme) (t : CType) → m ≡ suc l → passes is_type ts ≡ true → read 256 (phrase.type_name m) ts ≡ Got t mid → Stops s (token 256 (sign punct.CloseParen) m mid) → Stops s (read 256 (phrase.opened l at) ts)
opened_stop s l m at ts mid t d h r z =
    let there = rw d at r in
    let close = rw d at z in
    rw (by_rule (phrase.opened l at) ts, h, there) (stops_then s (token 256 (sign punct.CloseParen) (suc l) mid) _ close)

-- ---- one postfix operator more, where n is a level above l and m two

module _ (l m n : ℕ) (two : m ≡ suc (suc l)) (above : n ≡ suc l) (a : Exp) (ts : List Lexeme) where
  pub index_turn : (m1 m2 rest : List Lexeme) (x y : Unit {0} × Position) (b : Exp) → passes (is_of (sign punct.OpenBracket)) ts ≡ true → token 256 (sign punct.OpenBracket) m ts ≡ Got x m1 → read 256 (phrase.expression m) m1 ≡ Got b m2 → token 256 (sign punct.CloseBracket) m m2 ≡ Got y rest → read 256 (phrase.postfix l a) ts ≡ read 256 (phrase.postfix n (index a b x.1)) rest
  index_turn m1 m2 rest x y b h k r z =
      let open1 = rw two at k in
      let inside = rw two at r in
      let close = rw two at z in
      rw (by_rule (phrase.postfix l a) ts, h, open1, inside, close, above) (returned (read 256 (phrase.postfix (suc l) (index a b x.1)) rest))

  module _ (h : passes (is_of (sign punct.OpenBracket)) ts ≡ false) where
    pub member_turn : (mid rest : List Lexeme) (x : Unit {0} × Position) (y : List ℕ × Position) → passes (is_of (sign punct.Dot)) ts ≡ true → token 256 (sign punct.Dot) m ts ≡ Got x mid → token 256 a_name m mid ≡ Got y rest → read 256 (phrase.postfix l a) ts ≡ read 256 (phrase.postfix n (member a (name_of y.0 y.1) x.1)) rest
    member_turn mid rest x y i k z =
        let dot = rw two at k in
        let name = rw two at z in
        rw (by_rule (phrase.postfix l a) ts, h, i, dot, name, above) (returned (read 256 (phrase.postfix (suc l) (member a (name_of y.0 y.1) x.1)) rest))

    module _ (i : passes (is_of (sign punct.Dot)) ts ≡ false) where
      pub arrow_turn : (mid rest : List Lexeme) (x : Unit {0} × Position) (y : List ℕ × Position) → passes (is_of (sign punct.Arrow)) ts ≡ true → token 256 (sign punct.Arrow) m ts ≡ Got x mid → token 256 a_name m mid ≡ Got y rest → read 256 (phrase.postfix l a) ts ≡ read 256 (phrase.postfix n (arrow a (name_of y.0 y.1) x.1)) rest
      arrow_turn mid rest x y j k z =
          let sign1 = rw two at k in
          let name = rw two at z in
          rw (by_rule (phrase.postfix l a) ts, h, i, j, sign1, name, above) (returned (read 256 (phrase.postfix (suc l) (arrow a (name_of y.0 y.1) x.1)) rest))

      module _ (j : passes (is_of (sign punct.Arrow)) ts ≡ false) where
        pub increment_turn : (rest : List Lexeme) (x : Unit {0} × Position) → passes (is_of (sign punct.PlusPlus)) ts ≡ true → token 256 (sign punct.PlusPlus) m ts ≡ Got x rest → read 256 (phrase.postfix l a) ts ≡ read 256 (phrase.postfix n (post_increment a x.1)) rest
        increment_turn rest x k z =
            let sign1 = rw two at z in
            rw (by_rule (phrase.postfix l a) ts, h, i, j, k, sign1, above) (returned (read 256 (phrase.postfix (suc l) (post_increment a x.1)) rest))

        pub decrement_turn : (rest : List Lexeme) (x : Unit {0} × Position) → passes (is_of (sign punct.PlusPlus)) ts ≡ false → passes (is_of (sign punct.MinusMinus)) ts ≡ true → token 256 (sign punct.MinusMinus) m ts ≡ Got x rest → read 256 (phrase.postfix l a) ts ≡ read 256 (phrase.postfix n (post_decrement a x.1)) rest
        decrement_turn rest x k v z =
            let sign1 = rw two at z in
            rw (by_rule (phrase.postfix l a) ts, h, i, j, k, v, sign1, above) (returned (read 256 (phrase.postfix (suc l) (post_decrement a x.1)) rest))
