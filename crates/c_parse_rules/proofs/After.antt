-- A rule after another is run on what the first leaves.
use Rattle.std.proofs.Common.{◌≡◌, ℕ, suc, Bool, true, false, cond, List, refl, sym, ◌∙◌, ap}
use Rattle.c_lexer.specs.declared.token.Punct.TheVariants as punct
use Rattle.c_tree.specs.Tree.{Exp, Statement, while_loop, do_loop, for_loop}
use Rattle.rr_base.specs.declared.position.Position.{Position}
use Rattle.c_grammar.specs.Marks.{Lexeme}
use Rattle.c_grammar.specs.Phrase as phrase
use Rattle.c_grammar.specs.Phrase.{Phrase}
use Rattle.c_grammar.specs.Parse.{is_of, sign, Outcome, Got, Stuck, Spent, Parser, and_then, passes, token, outer_head, declarator_front, Rule, ret, one, heads, fronts, choose, run}
use Rattle.c_grammar.specs.Parse as rule
use Rattle.c_grammar.specs.Rules.{read, test_rule, for_head_rule, do_end_rule, if_rule, while_rule, do_rule, for_rule, else_rule, simple_rule}
use Rattle.c_parse_rules.proofs.Steps.{by_rule}

-- a rule, and then another by what it gives
abbrev bind : {A B : Type 0} → Rule A → (A → Rule B) → Rule B
bind (ret a) f = f a
bind (one c l g) f = one c l (λ v p. bind (g v p) f)
bind (rule.call n g) f = rule.call n (λ x. bind (g x) f)
bind (heads g) f = heads (λ h. bind (g h) f)
bind (fronts l g) f = fronts l (λ h. bind (g h) f)
bind (choose test g h) f = choose test (bind g f) (bind h f)

after : {A B C : Type 0} (o : Outcome C) (g : C → Parser A) (k : A → Parser B) (h : C → Parser B) → ((x : C) (us : List Lexeme) → h x us ≡ and_then (g x us) k) → and_then o h ≡ and_then (and_then o g) k
after (Got x us) g k h e = e x us
after (Stuck f us) g k h e = refl
after Spent g k h e = refl

either_rule : {A B : Type 0} (b : Bool) (o o' : Outcome B) (u u' : Outcome A) (k : A → Parser B) → o ≡ and_then u k → o' ≡ and_then u' k → cond b o o' ≡ and_then (cond b u u') k
either_rule true o o' u u' k e e' = e
either_rule false o o' u u' k e e' = e'

run_bind : {A B : Type 0} (g : Rule A) (f : A → Rule B) (us : List Lexeme) → run 256 (read 256) (bind g f) us ≡ and_then (run 256 (read 256) g us) (λ x. run 256 (read 256) (f x))
run_bind (ret a) f us = refl
run_bind (one c l g) f us = after (token 256 c l us) (λ x. run 256 (read 256) (g x.0 x.1)) (λ x. run 256 (read 256) (f x)) (λ x. run 256 (read 256) (bind (g x.0 x.1) f)) (λ x vs. run_bind (g x.0 x.1) f vs)
run_bind (rule.call n g) f us = after (read 256 n us) (λ x. run 256 (read 256) (g x)) (λ x. run 256 (read 256) (f x)) (λ x. run 256 (read 256) (bind (g x) f)) (λ x vs. run_bind (g x) f vs)
run_bind (heads g) f us = after (outer_head 256 us) (λ x. run 256 (read 256) (g x)) (λ x. run 256 (read 256) (f x)) (λ x. run 256 (read 256) (bind (g x) f)) (λ x vs. run_bind (g x) f vs)
run_bind (fronts l g) f us = after (declarator_front 256 l us) (λ x. run 256 (read 256) (g x)) (λ x. run 256 (read 256) (f x)) (λ x. run 256 (read 256) (bind (g x) f)) (λ x vs. run_bind (g x) f vs)
run_bind (choose test g h) f us =
    either_rule (passes test us) (run 256 (read 256) (bind g f) us) (run 256 (read 256) (bind h f) us) (run 256 (read 256) g us) (run 256 (read 256) h us) (λ x. run 256 (read 256) (f x)) (run_bind g f us) (run_bind h f us)

pub if_by_test : (l : ℕ) (at : Position) (us : List Lexeme) → run 256 (read 256) (if_rule l at) us ≡ and_then (run 256 (read 256) (test_rule l) us) (λ e. run 256 (read 256) (rule.call (phrase.statement l) (λ a. else_rule l e a at)))
if_by_test l at us = run_bind (test_rule l) (λ e. rule.call (phrase.statement l) (λ a. else_rule l e a at)) us

pub while_by_test : (l : ℕ) (at : Position) (us : List Lexeme) → run 256 (read 256) (while_rule l at) us ≡ and_then (run 256 (read 256) (test_rule l) us) (λ e. run 256 (read 256) (rule.call (phrase.statement l) (λ a. ret (while_loop e a at))))
while_by_test l at us = run_bind (test_rule l) (λ e. rule.call (phrase.statement l) (λ a. ret (while_loop e a at))) us

pub for_by_head : (l : ℕ) (at : Position) (us : List Lexeme) → run 256 (read 256) (for_rule l at) us ≡ and_then (run 256 (read 256) (for_head_rule l) us) (λ h. run 256 (read 256) (rule.call (phrase.statement l) (λ a. ret (for_loop h.start h.test h.next a at))))
for_by_head l at us = run_bind (for_head_rule l) (λ h. rule.call (phrase.statement l) (λ a. ret (for_loop h.start h.test h.next a at))) us

pub do_by_end : (l : ℕ) (at : Position) (a : Statement) (us mid : List Lexeme) → read 256 (phrase.statement l) us ≡ Got a mid
    → run 256 (read 256) (do_rule l at) us ≡ and_then (run 256 (read 256) (do_end_rule l) mid) (λ e. run 256 (read 256) (ret (do_loop a e at)))
do_by_end l at a us mid e = rw e (run_bind (do_end_rule l) (λ e. ret (do_loop a e at)) mid)

-- after the test of an `if` and its statement
pub if_then : (l : ℕ) (at : Position) (us mid rest : List Lexeme) (e : Exp) (a : Statement) → run 256 (read 256) (test_rule l) us ≡ Got e mid → read 256 (phrase.statement l) mid ≡ Got a rest
    → run 256 (read 256) (if_rule l at) us ≡ run 256 (read 256) (else_rule l e a at) rest
if_then l at us mid rest e a h k =
    if_by_test l at us
    ∙ ap (λ o. and_then o (λ e. run 256 (read 256) (rule.call (phrase.statement l) (λ a. else_rule l e a at)))) h
    ∙ ap (λ o. and_then o (λ a. run 256 (read 256) (else_rule l e a at))) k

-- a statement that is no block
pub no_block : (l m : ℕ) (us : List Lexeme) → m ≡ suc l → passes (is_of (sign punct.OpenBrace)) us ≡ false → read 256 (phrase.statement l) us ≡ run 256 (read 256) (simple_rule m) us
no_block l m us e other = rw (by_rule (phrase.statement l) us, other) (ap (λ k. run 256 (read 256) (simple_rule k) us) (sym e))
