-- A function's code, as what a sound core tree says of it: its registers, and what the code has that the tree names.
use Rattle.std.proofs.Common.{◌≡◌, ℕ, zero, suc, ◌+◌, ◌<◌, ◌≤◌, inl, inr, Bool, true, false, not, ◌&&◌, ◌==◌, List, [], ◌∷◌, length, take, Option, Some, None, slice_get, refl, ◌∙◌, ap, arith}
use Rattle.std.proofs.lemmas.Bool.{and_from, eq-eqb}
use Rattle.flow_code.specs.declared.act.Act.TheVariants as act
use Rattle.word_semantics.specs.declared.library_call.LibraryCall.{LibraryCall}
use Rattle.word_semantics.specs.declared.library_call.LibraryCall.TheVariants as library_call
use Rattle.flow_code.specs.declared.code.Code.{Code}
use Rattle.flow_code.specs.declared.code.Function.{Function as FlowFunction}
use Rattle.flow_code.specs.Works.{is_pointer}
use Rattle.flow_code.specs.Threads.{is_main_in}
use Rattle.flow_code.specs.Kinds.{formal_kinds, have_kinds, value_fits, call_fits, may_start, starts_fit, act_fits, is_site}
use Rattle.flow_code.specs.Addresses.{is_address}
use Rattle.core_tree.specs.Core.{Function, Program}
use Rattle.core_tree.specs.Sound.{IsFunction, IsPointerType, IsCallable, Starts, HasSite, IsAddress}
use Rattle.lower_sound.proofs.Fitting.{kinded}

-- a function other than `main` that takes values of these kinds and gives a pointer or not
pub record IsCallee (m : FlowFunction) (kinds : List Bool) (pointer : Bool) : Type 0 where
  pub not_main : is_main_in (Some m) ≡ false
  pub formals : formal_kinds m ≡ kinds
  pub enough : m.formals ≤ length m.pointers
  pub gives : m.gives_pointer ≡ pointer

pub record IsImage (p : Program) (home : ℕ → Option ℕ) (f : Function) (code : Code) (g : FlowFunction) (first : ℕ) : Type 0 where
  pub sized : length g.pointers ≡ g.registers
  pub registers : (n : ℕ) (k : Bool) → slice_get f.pointers n ≡ Some k → slice_get g.pointers n ≡ Some k
  pub objects : (n : ℕ) → n < length f.objects → slice_get g.pointers (first + n) ≡ Some true
  pub gives : g.gives_pointer ≡ f.gives_pointer
  pub calls : (n : ℕ) (kinds : List Bool) (pointer : Bool) → IsFunction p n kinds pointer → (m : FlowFunction) × (slice_get code.functions n ≡ Some m) × IsCallee m kinds pointer
  pub no_pointers : p.pointers ≡ []
  pub sites : (s : ℕ) → HasSite p s → is_site code s ≡ true
  pub addresses : (w : ℕ) → IsAddress p home w → is_address code w ≡ true

none_taken : (n : ℕ) (ks : List Bool) → n ≤ length ks → take n ks ≡ [] → n ≡ 0
none_taken zero ks le e = refl
none_taken (suc n) [] le e = absurd (omega (arith, le))
none_taken (suc n) (k ∷ ks) le e = absurd cc

one_formal : (n : ℕ) (ks : List Bool) → n ≤ length ks → take n ks ≡ true ∷ [] → ((n == 1) ≡ true) × (is_pointer ks 0 ≡ true)
one_formal zero ks le e = absurd cc
one_formal (suc n) [] le e = absurd (omega (arith, le))
one_formal (suc n) (k ∷ ks) le e =
    let rest : take n ks ≡ [] = cc in
    let kind : k ≡ true = cc in
    let none : n ≡ 0 = none_taken n ks (omega (arith, le)) rest in
    (eq-eqb (suc n) 1 (omega (arith, none)), kind)

module _ (p : Program) (home : ℕ → Option ℕ) (f : Function) (code : Code) (g : FlowFunction) (first : ℕ) (image : IsImage p home f code g first) where
  callee_fits : (m : FlowFunction) (kinds : List Bool) (pointer : Bool) (arguments : List ℕ) (into : ℕ) → IsCallee m kinds pointer → have_kinds g arguments kinds ≡ true → slice_get g.pointers into ≡ Some pointer → call_fits g arguments (Some into) (Some m) ≡ true
  callee_fits m kinds pointer arguments into c have h =
      and_from (not (is_main_in (Some m)) && have_kinds g arguments (formal_kinds m)) (value_fits g (Some into) m.gives_pointer)
      (and_from (not (is_main_in (Some m))) (have_kinds g arguments (formal_kinds m)) (ap not c.not_main) (ap (have_kinds g arguments) c.formals ∙ have))
      (ap (value_fits g (Some into)) c.gives ∙ kinded g image.sized into pointer h)

  pub call_is : (n : ℕ) (kinds : List Bool) (pointer : Bool) (arguments : List ℕ) (into : ℕ) → IsCallable p n kinds pointer → have_kinds g arguments kinds ≡ true → slice_get g.pointers into ≡ Some pointer → act_fits code g (act.Call n arguments (Some into)) ≡ true
  call_is n kinds pointer arguments into called have h =
      let found = image.calls n kinds pointer (by called) in
      ap (call_fits g arguments (Some into)) found.1 ∙ callee_fits found.0 kinds pointer arguments into found.2 have h
    where
      by : IsCallable p n kinds pointer → IsFunction p n kinds pointer
      by (inl c) = c
      by (inr c) =
          let found : slice_get p.pointers c.0 ≡ Some c.1 = c.3 in
          let none : slice_get p.pointers c.0 ≡ None = ap (λ qs. slice_get qs c.0) image.no_pointers in absurd cc

  callee_starts : (m : FlowFunction) → IsCallee m (true ∷ []) true → may_start (Some m) ≡ true
  callee_starts m c =
      let one = one_formal m.formals m.pointers c.enough c.formals in
      and_from (not (is_main_in (Some m)) && (m.formals == 1) && is_pointer m.pointers 0) m.gives_pointer
      (and_from (not (is_main_in (Some m)) && (m.formals == 1)) (is_pointer m.pointers 0)
      (and_from (not (is_main_in (Some m))) (m.formals == 1) (ap not c.not_main) one.0) one.1) c.gives

  pub start_is : (c : LibraryCall) → Starts p c → starts_fit code c ≡ true
  start_is (library_call.Create n) s = let found = image.calls n (true ∷ []) true s in ap may_start found.1 ∙ callee_starts found.0 found.2
  start_is _ s = refl
