-- What a sound core tree names is there.
use Rattle.std.proofs.Common.{◌≡◌, ℕ, suc, ◌+◌, ◌<◌, inl, inr, Bool, true, false, nat_lt, cond, List, [], ◌∷◌, length, count_by, position, unwrap_or, Option, Some, None, slice_get, refl, arith}
use Rattle.std.specs.List.{position_or_len}
use Rattle.std.proofs.lemmas.Bool.{ltb-true}
use Rattle.std.proofs.lemmas.Option.{slice_get_within}
use Rattle.word_semantics.specs.Pointers.{base_at}
use Rattle.core_tree.specs.Core as core
use Rattle.core_tree.specs.Core.{Exp, null, load, unary, binary, move, advance, member, between, to_pointer, to_number, copy, both, either, conditional, comma, set_register, store, change_register, change_cell, call, library, allocate, Exps, no_exp, and_exp, Statement, block, compute, branch, branch_else, while_loop, do_loop, for_loop, break_at, continue_at, gives, Statements, no_statement, and_statement, Arrival, arrives, Function, Program}
use Rattle.core_tree.specs.Meaning.{is_main}
use Rattle.core_tree.specs.Within.{IsWithinExp, AreWithin, IsWithinMaybe, IsWithinStatement, AreWithinStatements, AreWithinArrivals, IsWithinFunction, IsWithin}
use Rattle.core_tree.specs.Sound.{IsCallable, value_kinds, IsSoundExp, AreSound, IsSoundMaybe, IsSoundResult, IsSoundStatement, AreSoundStatements, IsSoundArrival, IsSoundFunction, IsSound}

module _ (p : Program) (home : ℕ → Option ℕ) (f : Function) where
  abbrev rs : List Bool
  rs = f.pointers

  abbrev os : ℕ
  os = length f.objects

  abbrev fs : ℕ
  fs = length p.functions + length p.pointers

  callable_within : (n : ℕ) (kinds : List Bool) (pointer : Bool) → IsCallable p n kinds pointer → n < fs
  callable_within n kinds pointer (inl c) = omega (arith, slice_get_within p.functions n c.0 c.1)
  callable_within n kinds pointer (inr c) = omega (arith, c.2, slice_get_within p.pointers c.0 c.1 c.3)

  mutual
    exp_within : (e : Exp) → IsSoundExp p home f e → IsWithinExp rs os fs e
    exp_within (core.number z at) s = tt
    exp_within (null at) s = tt
    exp_within (core.register n k at) s = s
    exp_within (core.object n at) s = s
    exp_within (core.global address at) s = tt
    exp_within (load e k at) s = exp_within e s.1
    exp_within (unary o e at) s = exp_within e s.1
    exp_within (binary o a b at) s = (exp_within a s.1, exp_within b s.2)
    exp_within (move a b element back at) s = (exp_within a s.3, exp_within b s.4)
    exp_within (advance a b element at) s = (exp_within a s.3, exp_within b s.4)
    exp_within (member a by at) s = exp_within a s.1
    exp_within (between a b element at) s = (exp_within a s.3, exp_within b s.4)
    exp_within (to_pointer a at) s = exp_within a s.1
    exp_within (to_number a at) s = exp_within a s.1
    exp_within (copy a at) s = exp_within a s
    exp_within (both a b at) s = (exp_within a s.0, exp_within b s.1)
    exp_within (either a b at) s = (exp_within a s.0, exp_within b s.1)
    exp_within (conditional a b c at) s = (exp_within a s.1, exp_within b s.2, exp_within c s.3)
    exp_within (comma a b at) s = (exp_within a s.0, exp_within b s.1)
    exp_within (set_register n a at) s = (slice_get_within f.pointers n _ s.0, exp_within a s.1)
    exp_within (store a b at) s = (exp_within a s.1, exp_within b s.2)
    exp_within (change_register n c b old at) s = (slice_get_within f.pointers n _ s.0, exp_within b s.2)
    exp_within (change_cell a loaded c b old at) s = (exp_within a s.2, exp_within b s.3)
    exp_within (call n es k at) s = (callable_within n (value_kinds es) k s.0, exps_within es s.1)
    exp_within (library c es at) s = exps_within es s.2
    exp_within (allocate site a at) s = exp_within a s.2

    exps_within : (es : Exps) → AreSound p home f es → AreWithin rs os fs es
    exps_within no_exp s = tt
    exps_within (and_exp e es) s = (exp_within e s.0, exps_within es s.1)

  maybe_within : (e : Option Exp) → IsSoundMaybe p home f e → IsWithinMaybe rs os fs e
  maybe_within None s = tt
  maybe_within (Some e) s = exp_within e s

  result_within : (e : Option Exp) → IsSoundResult p home f e → IsWithinMaybe rs os fs e
  result_within None s = tt
  result_within (Some e) s = exp_within e s.1

  mutual
    pub statement_within : (a : Statement) → IsSoundStatement p home f a → IsWithinStatement rs os fs a
    statement_within (block ss) s = statements_within ss s
    statement_within (compute e) s = exp_within e s
    statement_within (branch e a at) s = (exp_within e s.0, statement_within a s.1)
    statement_within (branch_else e a b at) s = (exp_within e s.0, statement_within a s.1, statement_within b s.2)
    statement_within (while_loop e a at) s = (exp_within e s.0, statement_within a s.1)
    statement_within (do_loop a e at) s = (statement_within a s.0, exp_within e s.1)
    statement_within (for_loop start test step a at) s = (statement_within start s.0, maybe_within test s.1, maybe_within step s.2, statement_within a s.3)
    statement_within (break_at at) s = tt
    statement_within (continue_at at) s = tt
    statement_within (gives e at) s = result_within e s

    statements_within : (ss : Statements) → AreSoundStatements p home f ss → AreWithinStatements rs os fs ss
    statements_within no_statement s = tt
    statements_within (and_statement a ss) s = (statement_within a s.0, statements_within ss s.1)

  arrivals_within : (arrivals : List Arrival) → ((k : ℕ) (a : Arrival) → slice_get arrivals k ≡ Some a → IsSoundArrival p home f a) → AreWithinArrivals (length rs) os arrivals
  arrivals_within [] h = tt
  arrivals_within (arrives n k at ∷ more) h = let here = h 0 (arrives n k at) refl in (here.0, here.1, arrivals_within more (λ j. h (suc j)))

  function_within : IsSoundFunction p home f → IsWithinFunction fs f
  function_within s = (arrivals_within f.arrivals s.arrivals, statement_within f.body s.body)

some_function : (fs : List Function) → count_by is_main fs ≡ 1 → 0 < length fs
some_function [] e = let none : 0 ≡ 1 = e in absurd (omega (arith, none))
some_function (f ∷ fs) e = omega arith

main_there : (fs : List Function) → count_by is_main fs ≡ 1 → unwrap_or (position is_main fs) 0 < length fs
main_there fs e = by (nat_lt (position_or_len is_main fs) (length fs)) refl
  where
    by : (b : Bool) → nat_lt (position_or_len is_main fs) (length fs) ≡ b → unwrap_or (cond b (Some (position_or_len is_main fs)) None) 0 < length fs
    by true lt = ltb-true (position_or_len is_main fs) (length fs) lt
    by false lt = some_function fs e

pub sound_within : (p : Program) → IsSound p → IsWithin p
sound_within p s = record { main = main_there p.functions s.one_main; functions = λ i f is. function_within p (base_at p.global_bases) f (s.functions i f is) }
