-- What a turn of each loop over parts, parameters, members and externals keeps.
use Rattle.std.proofs.Common.{◌≡◌, ◌≢◌, ℕ, ◌≤◌, ◌<◌, Bool, true, false, cond, List, [], ◌∷◌, ◌++◌, length, refl, ◌∙◌, ap, arith}
use Rattle.std.proofs.lemmas.List.{length-map}
use Rattle.c_lexer.specs.declared.token.Punct.TheVariants as punct
use Rattle.c_lexer.specs.declared.token.Token.{Token}
use Rattle.c_tree.specs.declared.ctype.Specifier.{Specifier}
use Rattle.c_tree.specs.Tree.{Formal, Object, Declares, Statement, Part, part_declares, part_does, Declared, Fields, Outer}
use Rattle.rr_base.specs.declared.position.Position.{Position}
use Rattle.c_grammar.specs.Marks.{Lexeme}
use Rattle.c_grammar.specs.Phrase as phrase
use Rattle.c_grammar.specs.Phrase.{Phrase, TreeOf}
use Rattle.c_grammar.specs.Parse.{is_of, sign, is_type, Outcome, Got, Stuck, Spent, Fault, Parser, and_then, passes, token, run}
use Rattle.c_grammar.specs.Rules.{read, part_rule, objects_after_rule}
use Rattle.c_parse_rules.specs.Gives.{lexeme_of, lexemes}
use Rattle.c_grammar.proofs.Enough.{eats, read_no_more, read_fewer}
use Rattle.c_parse_rules.proofs.Steps.{by_rule}

all_got : {A : Type 0} (o : Outcome A) → and_then o (λ a us. Got a us) ≡ o
all_got (Got a us) = refl
all_got (Stuck f us) = refl
all_got Spent = refl

-- the tokens after a phrase are no more than those before, and fewer where it takes one
pub no_longer : (n : Phrase) (ts rest : List Token) (a : TreeOf n) → read 256 n (lexemes ts) ≡ Got a (lexemes rest) → length rest ≤ length ts
no_longer n ts rest a e = omega (arith, read_no_more 256 n (lexemes ts) a (lexemes rest) e, length-map ts lexeme_of, length-map rest lexeme_of)

pub shorter : (n : Phrase) (ts rest : List Token) (a : TreeOf n) → eats n ≡ true → read 256 n (lexemes ts) ≡ Got a (lexemes rest) → length rest < length ts
shorter n ts rest a some e = omega (arith, read_fewer 256 n (lexemes ts) a (lexemes rest) some e, length-map ts lexeme_of, length-map rest lexeme_of)

-- ---- parts of a block

-- a part, and then what comes after it
module _ (k : Part → Parser (List Part)) where
  made : {A : Type 0} (o : Outcome A) (f : A → Part) (o' : Outcome Part) → and_then o (λ a us. Got (f a) us) ≡ o' → and_then o (λ a. k (f a)) ≡ and_then o' k
  made (Got a us) f o' e = ap (λ z. and_then z k) e
  made (Stuck g us) f o' e = ap (λ z. and_then z k) e
  made Spent f o' e = ap (λ z. and_then z k) e

  part_then : (l : ℕ) (b : Bool) (us : List Lexeme) (o : Outcome Part)
      → cond b (and_then (read 256 (phrase.declaration l) us) (λ d ts. Got (part_declares d) ts)) (and_then (read 256 (phrase.statement l) us) (λ s ts. Got (part_does s) ts)) ≡ o
      → cond b (and_then (read 256 (phrase.declaration l) us) (λ d. k (part_declares d))) (and_then (read 256 (phrase.statement l) us) (λ s. k (part_does s))) ≡ and_then o k
  part_then l true us o e = made (read 256 (phrase.declaration l) us) (λ d. part_declares d) o e
  part_then l false us o e = made (read 256 (phrase.statement l) us) (λ s. part_does s) o e

module _ (l : ℕ) (ps : List Part) (us : List Lexeme) (more : passes (is_of (sign punct.CloseBrace)) us ≡ false) where
  following : Part → Parser (List Part)
  following p = λ ts. and_then (read 256 (phrase.parts l (ps ++ p ∷ [])) ts) (λ all rest. Got all rest)

  part_next : (o : Outcome Part) → run 256 (read 256) (part_rule l) us ≡ o → read 256 (phrase.parts l ps) us ≡ and_then o following
  unfolding following
  part_next o e = rw (by_rule (phrase.parts l ps) us, more) (part_then following l (passes is_type us) us o e)

  pub parts_turn : (x : Part) (rest : List Lexeme) → run 256 (read 256) (part_rule l) us ≡ Got x rest → read 256 (phrase.parts l ps) us ≡ read 256 (phrase.parts l (ps ++ x ∷ [])) rest
  unfolding following
  parts_turn x rest e = part_next (Got x rest) e ∙ all_got (read 256 (phrase.parts l (ps ++ x ∷ [])) rest)

  pub parts_stuck : (f : Fault) (rest : List Lexeme) → run 256 (read 256) (part_rule l) us ≡ Stuck f rest → read 256 (phrase.parts l ps) us ≡ Stuck f rest
  parts_stuck f rest e = part_next (Stuck f rest) e

part_fewer : (l : ℕ) (b : Bool) (us : List Lexeme) (x : Part) (rest : List Lexeme)
    → cond b (and_then (read 256 (phrase.declaration l) us) (λ d ts. Got (part_declares d) ts)) (and_then (read 256 (phrase.statement l) us) (λ s ts. Got (part_does s) ts)) ≡ Got x rest
    → length rest < length us
part_fewer l true us x rest e = by (read 256 (phrase.declaration l) us) refl e
  where
    by : (o : Outcome Declares) → read 256 (phrase.declaration l) us ≡ o → and_then o (λ d ts. Got (part_declares d) ts) ≡ Got x rest → length rest < length us
    by (Got d ts) h e = let same : ts ≡ rest = cc in omega (arith, read_fewer 256 (phrase.declaration l) us d ts refl h, ap length same)
    by (Stuck f ts) h e = cc
    by Spent h e = cc
part_fewer l false us x rest e = by (read 256 (phrase.statement l) us) refl e
  where
    by : (o : Outcome Statement) → read 256 (phrase.statement l) us ≡ o → and_then o (λ s ts. Got (part_does s) ts) ≡ Got x rest → length rest < length us
    by (Got d ts) h e = let same : ts ≡ rest = cc in omega (arith, read_fewer 256 (phrase.statement l) us d ts refl h, ap length same)
    by (Stuck f ts) h e = cc
    by Spent h e = cc

pub part_shorter : (l : ℕ) (ts rest : List Token) (x : Part) → run 256 (read 256) (part_rule l) (lexemes ts) ≡ Got x (lexemes rest) → length rest < length ts
part_shorter l ts rest x e = omega (arith, part_fewer l (passes is_type (lexemes ts)) (lexemes ts) x (lexemes rest) e, length-map ts lexeme_of, length-map rest lexeme_of)

-- ---- the outermost level

pub params_turn : (l : ℕ) (xs : List Formal) (ts mid rest : List Lexeme) (x : Unit {0} × Position) (y : Formal) → passes (is_of (sign punct.Comma)) ts ≡ true → token 256 (sign punct.Comma) l ts ≡ Got x mid → read 256 (phrase.param l) mid ≡ Got y rest
    → read 256 (phrase.more_params l xs) ts ≡ read 256 (phrase.more_params l (xs ++ y ∷ [])) rest
params_turn l xs ts mid rest x y h k r = rw (by_rule (phrase.more_params l xs) ts, h, k, r) (all_got (read 256 (phrase.more_params l (xs ++ y ∷ [])) rest))

pub declared_turn : (ds : List Declared) (ts mid rest : List Lexeme) (x : Unit {0} × Position) (d : Declared) → passes (is_of (sign punct.Comma)) ts ≡ true → token 256 (sign punct.Comma) 0 ts ≡ Got x mid → read 256 (phrase.declarator 0) mid ≡ Got d rest
    → read 256 (phrase.more_declared ds) ts ≡ read 256 (phrase.more_declared (ds ++ d ∷ [])) rest
declared_turn ds ts mid rest x d h k r = rw (by_rule (phrase.more_declared ds) ts, h, k, r) (all_got (read 256 (phrase.more_declared (ds ++ d ∷ [])) rest))

pub members_turn : (fs : List Fields) (ts rest : List Lexeme) (f : Fields) → passes (is_of (sign punct.CloseBrace)) ts ≡ false → read 256 phrase.member ts ≡ Got f rest → read 256 (phrase.more_members fs) ts ≡ read 256 (phrase.more_members (fs ++ f ∷ [])) rest
members_turn fs ts rest f h r = rw (by_rule (phrase.more_members fs) ts, h, r) (all_got (read 256 (phrase.more_members (fs ++ f ∷ [])) rest))

pub program_turn : (os : List Outer) (t : Lexeme) (ts rest : List Lexeme) (o : Outer) → read 256 phrase.outer (t ∷ ts) ≡ Got o rest → read 256 (phrase.program os) (t ∷ ts) ≡ read 256 (phrase.program (os ++ o ∷ [])) rest
program_turn os t ts rest o r = rw (by_rule (phrase.program os) (t ∷ ts), r) (all_got (read 256 (phrase.program (os ++ o ∷ [])) rest))

pub program_stuck : (os : List Outer) (t : Lexeme) (ts rest : List Lexeme) (f : Fault) → read 256 phrase.outer (t ∷ ts) ≡ Stuck f rest → read 256 (phrase.program os) (t ∷ ts) ≡ Stuck f rest
program_stuck os t ts rest f r = rw (by_rule (phrase.program os) (t ∷ ts), r) refl

pub program_over : (os : List Outer) → read 256 (phrase.program os) [] ≡ Got os []
program_over os = by_rule (phrase.program os) []

-- ---- where they end

pub params_stuck : (l : ℕ) (xs : List Formal) (ts mid : List Lexeme) (x : Unit {0} × Position) (f : Fault) (rest : List Lexeme) → passes (is_of (sign punct.Comma)) ts ≡ true → token 256 (sign punct.Comma) l ts ≡ Got x mid → read 256 (phrase.param l) mid ≡ Stuck f rest
    → read 256 (phrase.more_params l xs) ts ≡ Stuck f rest
params_stuck l xs ts mid x f rest h k r = rw (by_rule (phrase.more_params l xs) ts, h, k, r) refl

pub params_over : (l : ℕ) (xs : List Formal) (ts : List Lexeme) → passes (is_of (sign punct.Comma)) ts ≡ false → read 256 (phrase.more_params l xs) ts ≡ Got xs ts
params_over l xs ts h = rw (by_rule (phrase.more_params l xs) ts, h) refl

pub declared_stuck : (ds : List Declared) (ts mid : List Lexeme) (x : Unit {0} × Position) (f : Fault) (rest : List Lexeme) → passes (is_of (sign punct.Comma)) ts ≡ true → token 256 (sign punct.Comma) 0 ts ≡ Got x mid → read 256 (phrase.declarator 0) mid ≡ Stuck f rest
    → read 256 (phrase.more_declared ds) ts ≡ Stuck f rest
declared_stuck ds ts mid x f rest h k r = rw (by_rule (phrase.more_declared ds) ts, h, k, r) refl

pub declared_over : (ds : List Declared) (ts : List Lexeme) → passes (is_of (sign punct.Comma)) ts ≡ false → read 256 (phrase.more_declared ds) ts ≡ Got ds ts
declared_over ds ts h = rw (by_rule (phrase.more_declared ds) ts, h) refl

pub members_stuck : (fs : List Fields) (ts : List Lexeme) (f : Fault) (rest : List Lexeme) → passes (is_of (sign punct.CloseBrace)) ts ≡ false → read 256 phrase.member ts ≡ Stuck f rest → read 256 (phrase.more_members fs) ts ≡ Stuck f rest
members_stuck fs ts f rest h r = rw (by_rule (phrase.more_members fs) ts, h, r) refl

pub members_over : (fs : List Fields) (ts : List Lexeme) → passes (is_of (sign punct.CloseBrace)) ts ≡ true → read 256 (phrase.more_members fs) ts ≡ Got fs ts
members_over fs ts h = rw (by_rule (phrase.more_members fs) ts, h) refl

pub parts_over : (l : ℕ) (ps : List Part) (ts : List Lexeme) → passes (is_of (sign punct.CloseBrace)) ts ≡ true → read 256 (phrase.parts l ps) ts ≡ Got ps ts
parts_over l ps ts h = rw (by_rule (phrase.parts l ps) ts, h) refl

-- the same with the tokens as the code has them
pub program_next : (os : List Outer) (ts : List Token) (rest : List Lexeme) (o : Outer) → ts ≢ [] → read 256 phrase.outer (lexemes ts) ≡ Got o rest → read 256 (phrase.program os) (lexemes ts) ≡ read 256 (phrase.program (os ++ o ∷ [])) rest
program_next os [] rest o some r = absurd (some refl)
program_next os (t ∷ ts) rest o some r = program_turn os (lexeme_of t) (lexemes ts) rest o r

pub program_stops : (os : List Outer) (ts : List Token) (f : Fault) (rest : List Lexeme) → ts ≢ [] → read 256 phrase.outer (lexemes ts) ≡ Stuck f rest → read 256 (phrase.program os) (lexemes ts) ≡ Stuck f rest
program_stops os [] f rest some r = absurd (some refl)
program_stops os (t ∷ ts) f rest some r = program_stuck os (lexeme_of t) (lexemes ts) rest f r

pub program_ends : (os : List Outer) (ts : List Token) → ts ≡ [] → read 256 (phrase.program os) (lexemes ts) ≡ Got os (lexemes ts)
program_ends os [] e = program_over os
program_ends os (t ∷ ts) e = cc

pub objects_stuck : (is_static : Bool) (s : Specifier) (at : Position) (d : Declared) (us first all : List Lexeme) (o : Object) (os : List Object) (f : Fault) (rest : List Lexeme) → read 256 (phrase.object_past 0 d) us ≡ Got o first → read 256 (phrase.more_objects 0 (o ∷ [])) first ≡ Got os all
    → token 256 (sign punct.Semicolon) 0 all ≡ Stuck f rest → run 256 (read 256) (objects_after_rule is_static s at d) us ≡ Stuck f rest
objects_stuck is_static s at d us first all o os f rest k r z = rw (k, r, z) refl
