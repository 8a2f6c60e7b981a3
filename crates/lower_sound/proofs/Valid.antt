-- The code of a sound core tree is valid.
use Rattle.std.proofs.Common.{◌≡◌, ℕ, suc, ◌+◌, ◌^◌, Bool, true, false, not, ◌&&◌, ◌||◌, ◌==◌, nat_le, cond, List, [], ◌∷◌, length, map, fold, count_by, Some, slice_get, refl, ◌∙◌, ap, arith}
use Rattle.std.proofs.lemmas.Bool.{and_from, le-leb, eq-eqb}
use Rattle.std.proofs.lemmas.List.{length-map}
use Rattle.flow_code.specs.declared.code.Code.{Code}
use Rattle.flow_code.specs.Addresses.{globals_fit}
use Rattle.flow_code.specs.Valid.{function_fits, functions_fit, is_main_function, mains_in, mains_have_no_formals, has_one_main, is_within_limits, is_valid}
use Rattle.word_semantics.specs.Layouts.{sites_fit}
use Rattle.word_semantics.specs.Pointers.{base_at}
use Rattle.core_tree.specs.Core.{Function, Program}
use Rattle.core_tree.specs.Meaning.{is_main}
use Rattle.flow_lower.specs.Lowered.{lowered, function_code}
use Rattle.core_tree.specs.Sound.{IsSound}
use Rattle.lower_sound.proofs.GoodFunctions.{function_is}
use Rattle.lower_sound.proofs.GoodGlobals.{address_is, globals_are}

-- ---- lists of functions

all_fit : (code : Code) (fs : List Function) → ((k : ℕ) (f : Function) → slice_get fs k ≡ Some f → function_fits code (function_code f) ≡ true) → functions_fit code (map function_code fs) ≡ true
all_fit code [] h = refl
all_fit code (f ∷ fs) h = and_from (function_fits code (function_code f)) (functions_fit code (map function_code fs)) (h 0 f refl) (all_fit code fs (λ k. h (suc k)))

same_count : (fs : List Function) → mains_in (map function_code fs) ≡ count_by is_main fs
same_count fs = along 0 fs
  where
    along : (a : ℕ) (fs : List Function) → fold (λ s f. s + cond (is_main_function f) 1 0) a (map function_code fs) ≡ fold (λ s f. s + cond (is_main f) 1 0) a fs
    along a [] = refl
    along a (f ∷ fs) = along (a + cond (is_main f) 1 0) fs

no_formals : (fs : List Function) → ((k : ℕ) (f : Function) → slice_get fs k ≡ Some f → is_main f ≡ true → f.formals ≡ 0) → mains_have_no_formals (map function_code fs) ≡ true
no_formals [] h = refl
no_formals (f ∷ fs) h = and_from (not (is_main f) || (f.formals == 0)) (mains_have_no_formals (map function_code fs)) (by (is_main f) (h 0 f refl)) (no_formals fs (λ k. h (suc k)))
  where
    by : (b : Bool) → (b ≡ true → f.formals ≡ 0) → (not b || (f.formals == 0)) ≡ true
    by true h = eq-eqb f.formals 0 (h refl)
    by false h = refl

-- ---- the code

module _ (p : Program) (sound : IsSound p) (none : p.pointers ≡ []) where
  few : length (map function_code p.functions) ≡ length p.functions
  few = length-map p.functions function_code

  limits : is_within_limits (lowered p) ≡ true
  limits =
      and_from (nat_le (length (map function_code p.functions)) (2 ^ 20) && nat_le (length p.sites) 1023 && nat_le (length p.globals) (2 ^ 20)) true
      (and_from (nat_le (length (map function_code p.functions)) (2 ^ 20) && nat_le (length p.sites) 1023) (nat_le (length p.globals) (2 ^ 20))
      (and_from (nat_le (length (map function_code p.functions)) (2 ^ 20)) (nat_le (length p.sites) 1023)
      (ap (λ n. nat_le n (2 ^ 20)) few ∙ le-leb (length p.functions) (2 ^ 20) (omega (arith, sound.few_functions)))
      (le-leb (length p.sites) 1023 sound.few_sites))
      (le-leb (length p.globals) (2 ^ 20) sound.few_cells))
      refl

  one_main : has_one_main (lowered p).functions ≡ true
  one_main = and_from (mains_in (map function_code p.functions) == 1) (mains_have_no_formals (map function_code p.functions)) (eq-eqb (mains_in (map function_code p.functions)) 1 (same_count p.functions ∙ sound.one_main)) (no_formals p.functions sound.main_alone)

  functions : functions_fit (lowered p) (lowered p).functions ≡ true
  functions = all_fit (lowered p) p.functions (λ k f is. function_is p (base_at p.global_bases) none sound.functions (address_is p sound.homes sound.layouts sound.few_cells) f (sound.functions k f is))

  globals : globals_fit (lowered p) ≡ true
  globals = globals_are p sound.homes sound.layouts sound.few_cells sound.cell_kinds sound.bases

  pub valid : is_valid (lowered p) ≡ true
  valid =
      let code = lowered p in
      and_from (is_within_limits code && sites_fit p.sites && true && has_one_main code.functions && functions_fit code code.functions) (globals_fit code)
      (and_from (is_within_limits code && sites_fit p.sites && true && has_one_main code.functions) (functions_fit code code.functions)
      (and_from (is_within_limits code && sites_fit p.sites && true) (has_one_main code.functions)
      (and_from (is_within_limits code && sites_fit p.sites) true (and_from (is_within_limits code) (sites_fit p.sites) limits sound.layouts) refl)
      one_main) functions) globals
