-- What valid code keeps, part by part.
use Rattle.std.proofs.Common.{◌≡◌, ℕ, zero, suc, ◌≤◌, ◌^◌, List, [], ◌∷◌, length, refl, subst, arith, Some, Bool, true, false}
use Rattle.std.specs.Prelude.{slice_get, ◌&&◌, nat_le}
use Rattle.std.specs.List.{list_all}
use Rattle.rr_base.specs.declared.layout.Site.{Site}
use Rattle.flow_code.specs.declared.act.Instr.{Instr}
use Rattle.flow_code.specs.declared.code.Code.{Code}
use Rattle.flow_code.specs.declared.code.Function.{Function}
use Rattle.flow_code.specs.Kinds.{act_fits}
use Rattle.flow_code.specs.Order.{order_fits}
use Rattle.flow_code.specs.Addresses.{globals_fit}
use Rattle.flow_code.specs.Valid.{is_valid, registers_fit, acts_fit, loops_fit, regions_fit, function_fits, functions_fit, all_locks_fit, has_one_main, most_locks, is_within_limits}
use Rattle.word_semantics.specs.Layouts.{layout_fits, sites_fit}

-- ---- tests

pub left : (a b : Bool) → (a && b) ≡ true → a ≡ true
left true b h = refl
left false b h = h

pub right : (a b : Bool) → (a && b) ≡ true → b ≡ true
right true b h = h
right false b h = cc

within : (m n : ℕ) → nat_le m n ≡ true → m ≤ n
within m n h = grind (arith, h)

pub some_is : {X : Type 0} (x y : X) → Some x ≡ Some y → x ≡ y
some_is x y e = cc

-- what holds of all items holds of the one at a place
pub each : {X : Type 0} (p : X → Bool) (xs : List X) (k : ℕ) (x : X) → list_all p xs ≡ true → slice_get xs k ≡ Some x → p x ≡ true
each p [] k x h e = cc
each p (y ∷ ys) zero x h e = subst (λ o. p o ≡ true) (some_is y x e) (left (p y) (list_all p ys) h)
each p (y ∷ ys) (suc k) x h e = each p ys k x (right (p y) (list_all p ys) h) e

-- ---- the whole code

module _ (code : Code) (valid : is_valid code ≡ true) where
  before_globals : (is_within_limits code && sites_fit code.sites && all_locks_fit code code.locks && has_one_main code.functions && functions_fit code code.functions) ≡ true
  before_globals = left _ (globals_fit code) valid

  before_functions : (is_within_limits code && sites_fit code.sites && all_locks_fit code code.locks && has_one_main code.functions) ≡ true
  before_functions = left _ (functions_fit code code.functions) before_globals

  before_main : (is_within_limits code && sites_fit code.sites && all_locks_fit code code.locks) ≡ true
  before_main = left _ (has_one_main code.functions) before_functions

  before_locks : (is_within_limits code && sites_fit code.sites) ≡ true
  before_locks = left _ (all_locks_fit code code.locks) before_main

  limits : is_within_limits code ≡ true
  limits = left (is_within_limits code) (sites_fit code.sites) before_locks

  before_locks_limit : (nat_le (length code.functions) (2 ^ 20) && nat_le (length code.sites) 1023 && nat_le (length code.globals) (2 ^ 20)) ≡ true
  before_locks_limit = left _ (nat_le (length code.locks) most_locks) limits

  pub few_functions : length code.functions ≤ 2 ^ 20
  few_functions = within (length code.functions) (2 ^ 20) (left (nat_le (length code.functions) (2 ^ 20)) (nat_le (length code.sites) 1023) (left (nat_le (length code.functions) (2 ^ 20) && nat_le (length code.sites) 1023) _ before_locks_limit))

  pub few_sites : length code.sites ≤ 1023
  few_sites = within (length code.sites) 1023 (right (nat_le (length code.functions) (2 ^ 20)) _ (left (nat_le (length code.functions) (2 ^ 20) && nat_le (length code.sites) 1023) _ before_locks_limit))

  pub few_globals : length code.globals ≤ 2 ^ 20
  few_globals = within (length code.globals) (2 ^ 20) (right (nat_le (length code.functions) (2 ^ 20) && nat_le (length code.sites) 1023) _ before_locks_limit)

  pub few_locks : length code.locks ≤ most_locks
  few_locks = within (length code.locks) most_locks (right (nat_le (length code.functions) (2 ^ 20) && nat_le (length code.sites) 1023 && nat_le (length code.globals) (2 ^ 20)) _ limits)

  pub layout_is_fit : (k : ℕ) (site : Site) → slice_get code.sites k ≡ Some site → layout_fits site.layout ≡ true
  layout_is_fit k site e = each (λ s. layout_fits s.layout) code.sites k site (right (is_within_limits code) _ before_locks) e

  pub locks_are_fit : all_locks_fit code code.locks ≡ true
  locks_are_fit = right (is_within_limits code && sites_fit code.sites) _ before_main

  pub one_is_main : has_one_main code.functions ≡ true
  one_is_main = right (is_within_limits code && sites_fit code.sites && all_locks_fit code code.locks) _ before_functions

  pub function_is_fit : (k : ℕ) (f : Function) → slice_get code.functions k ≡ Some f → function_fits code f ≡ true
  function_is_fit k f e = each (function_fits code) code.functions k f (right (is_within_limits code && sites_fit code.sites && all_locks_fit code code.locks && has_one_main code.functions) _ before_globals) e

  pub globals_are_fit : globals_fit code ≡ true
  globals_are_fit = right (is_within_limits code && sites_fit code.sites && all_locks_fit code code.locks && has_one_main code.functions && functions_fit code code.functions) _ valid

-- ---- one function

module _ (code : Code) (f : Function) (fits : function_fits code f ≡ true) where
  before_regions : (registers_fit f && order_fits f.instrs && acts_fit code f f.instrs && loops_fit f f.loops) ≡ true
  before_regions = left _ (regions_fit code f f.regions) fits

  before_loops : (registers_fit f && order_fits f.instrs && acts_fit code f f.instrs) ≡ true
  before_loops = left _ (loops_fit f f.loops) before_regions

  before_acts : (registers_fit f && order_fits f.instrs) ≡ true
  before_acts = left _ (acts_fit code f f.instrs) before_loops

  pub registers_are_fit : registers_fit f ≡ true
  registers_are_fit = left (registers_fit f) (order_fits f.instrs) before_acts

  pub order_is_fit : order_fits f.instrs ≡ true
  order_is_fit = right (registers_fit f) (order_fits f.instrs) before_acts

  pub act_is_fit : (k : ℕ) (i : Instr) → slice_get f.instrs k ≡ Some i → act_fits code f i.act ≡ true
  act_is_fit k i e = each (λ j. act_fits code f j.act) f.instrs k i (right (registers_fit f && order_fits f.instrs) _ before_loops) e

  pub loops_are_fit : loops_fit f f.loops ≡ true
  loops_are_fit = right (registers_fit f && order_fits f.instrs && acts_fit code f f.instrs) _ before_regions

  pub regions_are_fit : regions_fit code f f.regions ≡ true
  regions_are_fit = right (registers_fit f && order_fits f.instrs && acts_fit code f f.instrs && loops_fit f f.loops) _ fits
