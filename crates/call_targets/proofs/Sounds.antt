-- A resolved core tree of a sound one is sound.
use Rattle.std.proofs.Common.{◌≡◌, ℕ, zero, suc, ◌+◌, ◌≤◌, inl, inr, Bool, true, false, cond, List, [], ◌∷◌, ◌++◌, length, map, take, Option, Some, None, count_by, slice_get, refl, sym, ◌∙◌, ap, subst, arith, length-append}
use Rattle.std.proofs.lemmas.List.Sums.{sum_by-append}
use Rattle.rr_base.proofs.Lists.{slice_get-append_found, slice_get-append_right}
use Rattle.rr_base.specs.declared.position.Position.{Position}
use Rattle.rr_base.specs.declared.layout.Site.{Site}
use Rattle.word_semantics.specs.declared.library_call.LibraryCall.{LibraryCall}
use Rattle.word_semantics.specs.declared.library_call.LibraryCall.TheVariants as library_call
use Rattle.word_semantics.specs.Pointers.{base_at}
use Rattle.core_tree.specs.Core as core
use Rattle.core_tree.specs.Core.{Exp, null, load, unary, binary, move, advance, member, between, to_pointer, to_number, copy, both, either, conditional, comma, set_register, store, change_register, change_cell, call, library, allocate, Exps, no_exp, and_exp, listed, Statement, block, compute, branch, branch_else, while_loop, do_loop, for_loop, break_at, continue_at, gives, Statements, no_statement, and_statement, listed_statements, Function, Pointer, Program}
use Rattle.core_tree.specs.Meaning.{is_main}
use Rattle.core_tree.specs.Sound.{IsFunction, IsPointerType, IsCallable, Starts, value_kinds, IsSoundExp, AreSound, IsSoundMaybe, IsSoundResult, IsSoundStatement, AreSoundStatements, IsSoundFunction, LiesAt, AreAtHome, IsSound}
use Rattle.call_targets.specs.Resolved.{formals_from, choice, choices, chooser, choosers, resolved}
use Rattle.call_targets.proofs.Places.{no_main}

-- ---- what may be called

chooser_of : (qs : List Pointer) (n k : ℕ) (q : Pointer) → slice_get qs k ≡ Some q → slice_get (choosers n qs) k ≡ Some (chooser (n + k) q)
chooser_of [] n k q e = absurd cc
chooser_of (x ∷ qs) n zero q e = let same : x ≡ q = cc in ap (λ m. Some (chooser m x)) (omega arith) ∙ ap (λ y. Some (chooser (n + 0) y)) same
chooser_of (x ∷ qs) n (suc k) q e = chooser_of qs (n + 1) k q e ∙ ap (λ m. Some (chooser m q)) (omega arith)

function_stays : (p : Program) (n : ℕ) (kinds : List Bool) (pointer : Bool) → IsFunction p n kinds pointer → IsFunction (resolved p) n kinds pointer
function_stays p n kinds pointer h = (h.0, slice_get-append_found p.functions (choosers 1 p.pointers) n h.0 h.1, h.2, h.3, h.4)

all_kinds : (ks : List Bool) → take (length ks) ks ≡ ks
all_kinds [] = refl
all_kinds (k ∷ ks) = ap (λ l. k ∷ l) (all_kinds ks)

pointer_becomes : (p : Program) (n : ℕ) (kinds : List Bool) (pointer : Bool) → IsPointerType p n kinds pointer → IsFunction (resolved p) n kinds pointer
pointer_becomes p n kinds pointer h =
    let k = h.0 in
    let q = h.1 in (
      chooser (1 + k) q,
      ap (slice_get (p.functions ++ choosers 1 p.pointers)) h.2 ∙ slice_get-append_right p.functions (choosers 1 p.pointers) k ∙ chooser_of p.pointers 1 k q h.3,
      refl,
      all_kinds (false ∷ q.kinds) ∙ h.4,
      h.5,
    )

callable_stays : (p : Program) (n : ℕ) (kinds : List Bool) (pointer : Bool) → IsCallable p n kinds pointer → IsCallable (resolved p) n kinds pointer
callable_stays p n kinds pointer (inl h) = inl (function_stays p n kinds pointer h)
callable_stays p n kinds pointer (inr h) = inl (pointer_becomes p n kinds pointer h)

starts_stays : (p : Program) (c : LibraryCall) → Starts p c → Starts (resolved p) c
starts_stays p (library_call.Create n) h = function_stays p n (true ∷ []) true h
starts_stays p _ h = h

-- ---- the functions of the source

module _ (p : Program) (home : ℕ → Option ℕ) (f : Function) where
  mutual
    exp_stays : (e : Exp) → IsSoundExp p home f e → IsSoundExp (resolved p) home f e
    exp_stays (core.number z at) s = tt
    exp_stays (null at) s = tt
    exp_stays (core.register n k at) s = s
    exp_stays (core.object n at) s = s
    exp_stays (core.global address at) s = s
    exp_stays (load e k at) s = (s.0, exp_stays e s.1)
    exp_stays (unary o e at) s = (s.0, exp_stays e s.1)
    exp_stays (binary o a b at) s = (s.0, exp_stays a s.1, exp_stays b s.2)
    exp_stays (move a b element back at) s = (s.0, s.1, s.2, exp_stays a s.3, exp_stays b s.4)
    exp_stays (advance a b element at) s = (s.0, s.1, s.2, exp_stays a s.3, exp_stays b s.4)
    exp_stays (member a by at) s = (s.0, exp_stays a s.1)
    exp_stays (between a b element at) s = (s.0, s.1, s.2, exp_stays a s.3, exp_stays b s.4)
    exp_stays (to_pointer a at) s = (s.0, exp_stays a s.1)
    exp_stays (to_number a at) s = (s.0, exp_stays a s.1)
    exp_stays (copy a at) s = exp_stays a s
    exp_stays (both a b at) s = (exp_stays a s.0, exp_stays b s.1)
    exp_stays (either a b at) s = (exp_stays a s.0, exp_stays b s.1)
    exp_stays (conditional a b c at) s = (s.0, exp_stays a s.1, exp_stays b s.2, exp_stays c s.3)
    exp_stays (comma a b at) s = (exp_stays a s.0, exp_stays b s.1)
    exp_stays (set_register n a at) s = (s.0, exp_stays a s.1)
    exp_stays (store a b at) s = (s.0, exp_stays a s.1, exp_stays b s.2)
    exp_stays (change_register n c b old at) s = (s.0, s.1, exp_stays b s.2)
    exp_stays (change_cell a loaded c b old at) s = (s.0, s.1, exp_stays a s.2, exp_stays b s.3)
    exp_stays (call n es k at) s = (callable_stays p n (value_kinds es) k s.0, exps_stay es s.1)
    exp_stays (library c es at) s = (s.0, starts_stays p c s.1, exps_stay es s.2)
    exp_stays (allocate site a at) s = (s.0, s.1, exp_stays a s.2)

    exps_stay : (es : Exps) → AreSound p home f es → AreSound (resolved p) home f es
    exps_stay no_exp s = tt
    exps_stay (and_exp e es) s = (exp_stays e s.0, exps_stay es s.1)

  maybe_stays : (e : Option Exp) → IsSoundMaybe p home f e → IsSoundMaybe (resolved p) home f e
  maybe_stays None s = tt
  maybe_stays (Some e) s = exp_stays e s

  result_stays : (e : Option Exp) → IsSoundResult p home f e → IsSoundResult (resolved p) home f e
  result_stays None s = tt
  result_stays (Some e) s = (s.0, exp_stays e s.1)

  mutual
    statement_stays : (a : Statement) → IsSoundStatement p home f a → IsSoundStatement (resolved p) home f a
    statement_stays (block ss) s = statements_stay ss s
    statement_stays (compute e) s = exp_stays e s
    statement_stays (branch e a at) s = (exp_stays e s.0, statement_stays a s.1)
    statement_stays (branch_else e a b at) s = (exp_stays e s.0, statement_stays a s.1, statement_stays b s.2)
    statement_stays (while_loop e a at) s = (exp_stays e s.0, statement_stays a s.1)
    statement_stays (do_loop a e at) s = (statement_stays a s.0, exp_stays e s.1)
    statement_stays (for_loop start test step a at) s = (statement_stays start s.0, maybe_stays test s.1, maybe_stays step s.2, statement_stays a s.3)
    statement_stays (break_at at) s = tt
    statement_stays (continue_at at) s = tt
    statement_stays (gives e at) s = result_stays e s

    statements_stay : (ss : Statements) → AreSoundStatements p home f ss → AreSoundStatements (resolved p) home f ss
    statements_stay no_statement s = tt
    statements_stay (and_statement a ss) s = (statement_stays a s.0, statements_stay ss s.1)

  stays : IsSoundFunction p home f → IsSoundFunction (resolved p) home f
  stays s = record { formals = s.formals; objects = s.objects; arrivals = s.arrivals; body = statement_stays f.body s.body }

-- ---- the choosers

formal_values : (r : ℕ) (kinds : List Bool) (at : Position) → value_kinds (listed (formals_from r kinds at)) ≡ kinds
formal_values r [] at = refl
formal_values r (k ∷ more) at = ap (λ l. k ∷ l) (formal_values (r + 1) more at)

module _ (p : Program) (home : ℕ → Option ℕ) (m : ℕ) (q : Pointer) where
  abbrev made : Function
  made = chooser m q

  formals_sound : (r : ℕ) (kinds : List Bool) → ((j : ℕ) (k : Bool) → slice_get kinds j ≡ Some k → slice_get made.pointers (r + j) ≡ Some k) → AreSound (resolved p) home made (listed (formals_from r kinds q.place))
  formals_sound r [] h = tt
  formals_sound r (k ∷ more) h =
      (ap (slice_get made.pointers) (omega arith) ∙ h 0 k refl, formals_sound (r + 1) more (λ j x e. ap (slice_get made.pointers) (next j) ∙ h (suc j) x e))
    where
      next : (j : ℕ) → r + 1 + j ≡ r + suc j
      next j = omega arith

  behind : (j : ℕ) (k : Bool) → slice_get q.kinds j ≡ Some k → slice_get made.pointers (1 + j) ≡ Some k
  behind j k e = ap (slice_get made.pointers) one_on ∙ e
    where
      one_on : 1 + j ≡ suc j
      one_on = omega arith

  choice_sound : (n : ℕ) → IsFunction p n q.kinds q.gives_pointer → IsSoundStatement (resolved p) home made (choice q n)
  choice_sound n h = (
    ((refl, λ e. refl), refl, tt),
    (refl, (inl (subst (λ ks. IsFunction (resolved p) n ks q.gives_pointer) (sym (formal_values 1 q.kinds q.place)) (function_stays p n q.kinds q.gives_pointer h)), formals_sound 1 q.kinds behind)),
  )

  choices_sound : (ns : List ℕ) → ((i n : ℕ) → slice_get ns i ≡ Some n → IsFunction p n q.kinds q.gives_pointer) → AreSoundStatements (resolved p) home made (listed_statements (choices q ns))
  choices_sound [] h = ((refl, tt), tt)
  choices_sound (n ∷ ns) h = (choice_sound n (h 0 n refl), choices_sound ns (λ i. h (suc i)))

  chooser_sound : ((i n : ℕ) → slice_get q.targets i ≡ Some n → IsFunction p n q.kinds q.gives_pointer) → IsSoundFunction (resolved p) home made
  chooser_sound h = record {
    formals = omega arith;
    objects = λ k site e. absurd cc;
    arrivals = λ k a e. absurd cc;
    body = choices_sound q.targets h;
  }

-- ---- the whole

-- what holds of each element of two lists holds of each of both
each : {X : Type 0} (P : X → Type 0) (xs ys : List X) → ((k : ℕ) (x : X) → slice_get xs k ≡ Some x → P x) → ((k : ℕ) (x : X) → slice_get ys k ≡ Some x → P x) → (k : ℕ) (x : X) → slice_get (xs ++ ys) k ≡ Some x → P x
each P [] ys h g k x e = g k x e
each P (y ∷ xs) ys h g zero x e = h 0 x e
each P (y ∷ xs) ys h g (suc k) x e = each P xs ys (λ j. h (suc j)) g k x e

-- what holds of the chooser of each type holds of each chooser
each_chooser : (P : Function → Type 0) (n : ℕ) (qs : List Pointer) → ((k : ℕ) (q : Pointer) → slice_get qs k ≡ Some q → (m : ℕ) → P (chooser m q)) → (k : ℕ) (f : Function) → slice_get (choosers n qs) k ≡ Some f → P f
each_chooser P n [] h k f e = absurd cc
each_chooser P n (q ∷ qs) h zero f e = let same : chooser n q ≡ f = cc in subst P same (h 0 q refl n)
each_chooser P n (q ∷ qs) h (suc k) f e = each_chooser P (n + 1) qs (λ j. h (suc j)) k f e

count_two : (fs gs : List Function) → count_by is_main (fs ++ gs) ≡ count_by is_main fs + count_by is_main gs
count_two fs gs = sum_by-append (λ f. cond (is_main f) 1 0) fs gs

how_many : (n : ℕ) (qs : List Pointer) → length (choosers n qs) ≡ length qs
how_many n [] = refl
how_many n (q ∷ qs) = omega (arith, how_many (n + 1) qs)

lies : (p : Program) (site : Site) (base : ℕ) → LiesAt p site base → LiesAt (resolved p) site base
lies p site base h = record { within = h.within; kinds = h.kinds }

at_home : (p : Program) (home : ℕ → Option ℕ) → AreAtHome p home → AreAtHome (resolved p) home
at_home p home h = record {
  there = λ s base e. (let found = h.there s base e in (found.0, found.1, lies p found.0 base found.2));
  apart = h.apart;
  words = h.words;
}

pub resolved_sound : (p : Program) → IsSound p → IsSound (resolved p)
resolved_sound p s = record {
  homes = at_home p (base_at p.global_bases) s.homes;
  functions = each (IsSoundFunction (resolved p) (base_at p.global_bases)) p.functions (choosers 1 p.pointers) (λ k f e. stays p (base_at p.global_bases) f (s.functions k f e))
      (each_chooser (IsSoundFunction (resolved p) (base_at p.global_bases)) 1 p.pointers (λ k q e m. chooser_sound p (base_at p.global_bases) m q (s.targets k q e)));
  one_main = count_two p.functions (choosers 1 p.pointers) ∙ omega (arith, s.one_main, no_main 1 p.pointers);
  main_alone = each (λ f. is_main f ≡ true → f.formals ≡ 0) p.functions (choosers 1 p.pointers) s.main_alone (each_chooser (λ f. is_main f ≡ true → f.formals ≡ 0) 1 p.pointers (λ k q e m is. absurd (no_start is)));
  targets = λ k q e. absurd cc;
  cell_kinds = s.cell_kinds;
  bases = s.bases;
  layouts = s.layouts;
  few_functions = omega (arith, s.few_functions, length-append p.functions (choosers 1 p.pointers), how_many 1 p.pointers);
  few_sites = s.few_sites;
  few_cells = s.few_cells;
}
  where
    no_start : false ≡ true → ⊥
    no_start e = cc
