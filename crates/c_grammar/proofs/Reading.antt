-- The parser reads phrases of the grammar, and stops only where none goes on.
use Rattle.std.proofs.Common.{inl, inr, ℕ, zero, suc, ◌≤◌}
use Rattle.c_grammar.specs.Phrase.{Phrase, TreeOf}
use Rattle.c_grammar.specs.Parse.{Rule, ret, one, heads, fronts, choose, Parser, token, outer_head, declarator_front, run}
use Rattle.c_grammar.specs.Parse as rule
use Rattle.c_grammar.specs.Rules.{rules, read_within, read}
use Rattle.c_grammar.proofs.Works.{Works, now_works, wider, same_works, both_works, IsOne, one_works, picks_works}
use Rattle.c_grammar.proofs.Language.{OfHead, OfFront, Of, Lang}
use Rattle.c_grammar.proofs.Enough.{read_is}
use Rattle.c_grammar.proofs.Examples.{some_lang}
use Rattle.c_grammar.proofs.Heads.{head_works}
use Rattle.c_grammar.proofs.Fronts.{front_works}
use Rattle.c_grammar.proofs.Sound.{holds, sound}

module _ (limit m : ℕ) (le : limit ≤ m) (env env' : (n : Phrase) → Parser (TreeOf n)) (w : (n : Phrase) → Works limit (env n) (env' n) (Of n)) where
  run_works : {A : Type 0} (g : Rule A) → Works limit (run limit env g) (run m env' g) (Lang g)
  run_works (ret a) = now_works limit a
  run_works (one c l f) = both_works limit (token limit c l) (token m c l) (λ x. run limit env (f x.0 x.1)) (λ x. run m env' (f x.0 x.1)) (IsOne limit c l) (λ x. Lang (f x.0 x.1)) (one_works limit m le c l) (λ x. run_works (f x.0 x.1)) (λ x. some_lang limit (f x.0 x.1))
  run_works (rule.call n f) = both_works limit (env n) (env' n) (λ x. run limit env (f x)) (λ x. run m env' (f x)) (Of n) (λ x. Lang (f x)) (w n) (λ x. run_works (f x)) (λ x. some_lang limit (f x))
  run_works (heads f) = both_works limit (outer_head limit) (outer_head m) (λ x. run limit env (f x)) (λ x. run m env' (f x)) OfHead (λ x. Lang (f x)) (head_works limit m le) (λ x. run_works (f x)) (λ x. some_lang limit (f x))
  run_works (fronts l f) = both_works limit (declarator_front limit l) (declarator_front m l) (λ x. run limit env (f x)) (λ x. run m env' (f x)) (OfFront l) (λ x. Lang (f x)) (front_works limit m l le) (λ x. run_works (f x)) (λ x. some_lang limit (f x))
  run_works (choose test g h) = picks_works limit test (run limit env g) (run m env' g) (run limit env h) (run m env' h) (Lang (choose test g h))
      (wider limit (Lang g) (Lang (choose test g h)) (λ a ms rest k. inl k) (run_works g)) (wider limit (Lang h) (Lang (choose test g h)) (λ a ms rest k. inr k) (run_works h))

within_works : (limit m : ℕ) → limit ≤ m → (k : ℕ) (n : Phrase) → Works limit (read_within limit k n) (read m n) (Of n)
unfolding read_within
within_works limit m le zero n = record { found = λ ts a rest e. cc; lost = λ ts f rest e. cc }
within_works limit m le (suc k) n =
    same_works limit (read_is m n)
    (wider limit (Lang (rules n)) (Of n) (λ a ms rest h. holds (rules n) ms (λ x rest. Of n x ms rest) (sound n ms) a rest h)
    (run_works limit m le (read_within limit k) (read m) (within_works limit m le k) (rules n)))

pub read_works : (limit m : ℕ) → limit ≤ m → (n : Phrase) → Works limit (read limit n) (read m n) (Of n)
unfolding read
read_works limit m le n = record { found = λ ts a rest e. (within_works limit m le _ n).found ts a rest e; lost = λ ts f rest e. (within_works limit m le _ n).lost ts f rest e }
