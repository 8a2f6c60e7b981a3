-- What a valid code's instructions fit: registers, constants and addresses.
use Rattle.std.proofs.Common.{◌≡◌, ℕ, ◌^◌, ◌<◌, ◌≤◌, ◌&&◌, ◌||◌, Bool, true, false, not, List, length, Option, Some, None, refl, sym, ◌∙◌, subst, arith, eqb-true}
use Rattle.std.specs.Prelude.{slice_get, nat_le}
use Rattle.std.proofs.lemmas.Bool.Decides.{nat_tests}
use Rattle.rr_base.specs.Words.{site_of, base_of, length_of, offset_of}
use Rattle.flow_code.specs.declared.act.Act.{Act}
use Rattle.flow_code.specs.declared.act.Act.TheVariants as act
use Rattle.flow_code.specs.declared.act.Instr.{Instr}
use Rattle.flow_code.specs.declared.code.Code.{Code}
use Rattle.flow_code.specs.declared.code.Function.{Function}
use Rattle.flow_code.specs.declared.work.Work.{Work}
use Rattle.flow_code.specs.declared.work.Work.TheVariants as work
use Rattle.flow_code.specs.Addresses.{is_address, globals_fit}
use Rattle.flow_code.specs.Constants.{constant_fits, constants_fit_in, constants_fit}
use Rattle.flow_code.specs.Kinds.{has_register, has_pointer, has_whole, has_kind, same_register_kind, is_null, is_site, work_fits, value_fits, call_fits, library_value_fits, starts_fit, have_kinds, formal_kinds, act_fits}
use Rattle.word_semantics.specs.Kinds.{is_comparison, library_kinds}
use Rattle.flow_code.specs.Next.{act_in}
use Rattle.flow_code.specs.Threads.{is_main_in}
use Rattle.flow_code.specs.Valid.{is_valid, is_within_limits, all_locks_fit, has_one_main, functions_fit, function_fits}
use Rattle.flow_code.proofs.Objects.{address_site, address_whole}
use Rattle.flow_code.proofs.ValidParts.{few_sites, few_globals}
use Rattle.word_semantics.specs.Layouts.{sites_fit}
use Rattle.flow_code.specs.Works.{is_pointer}
use Rattle.word_semantics.specs.declared.library_call.LibraryCall.{LibraryCall}
use Rattle.word_semantics.specs.declared.library_call.LibraryCall.TheVariants as call
use Rattle.word_semantics.specs.Cells.{size_of}
use Rattle.word_semantics.specs.Operators.{based}
use Rattle.word_semantics.specs.Pointers.{pointer_at}
use Rattle.facts.specs.Blocks.{is_register, assigns}
use Rattle.weak_lock_facts.specs.Loops.{nth}
use Rattle.loop_bounds.specs.Turns.{AreFit}
use Rattle.loop_bounds.proofs.Pointing.{fits_signed}
use Rattle.weak_valid.proofs.Tests.{both, all_at}
use Rattle.weak_valid.proofs.Valid.{parts}

-- ---- registers

registered : (f : Function) (b : Bool) (r : ℕ) → has_register f r && b ≡ true → r < f.registers
registered f b r h = let a = (both (has_register f r) b h).0 in grind (arith, nat_tests, a)

kind_registered : (f : Function) (k : Bool) (r : ℕ) → has_kind f k r ≡ true → r < f.registers
kind_registered f true r h = registered f (is_pointer f.pointers r) r h
kind_registered f false r h = registered f (not (is_pointer f.pointers r)) r h

work_into : (code : Code) (f : Function) (into : ℕ) (w : Work) → work_fits code f into w ≡ true → into < f.registers
work_into code f into (work.Constant z) h = registered f (is_null z || not (is_pointer f.pointers into)) into h
work_into code f into (work.Address w) h = kind_registered f true into (both (has_pointer f into) (is_address code w) h).0
work_into code f into (work.Copy r) h = let a = (both (has_kind f (is_pointer f.pointers into) r) (has_register f into) h).1 in grind (arith, nat_tests, a)
work_into code f into (work.Minus r) h = kind_registered f false into (both (has_whole f into) (has_whole f r) h).0
work_into code f into (work.Complement r) h = kind_registered f false into (both (has_whole f into) (has_whole f r) h).0
work_into code f into (work.Not r) h = kind_registered f false into (both (has_whole f into) (has_register f r) h).0
work_into code f into (work.Binary o left right) h =
    let a = both (has_whole f into && (not (is_pointer f.pointers left) || is_comparison o)) (same_register_kind f left right) h in
    kind_registered f false into (both (has_whole f into) (not (is_pointer f.pointers left) || is_comparison o) a.0).0
work_into code f into (work.Move pointer by element back) h =
    let a = both (has_pointer f into && has_pointer f pointer && has_whole f by) (nat_le 1 element) h in
    let b = both (has_pointer f into && has_pointer f pointer) (has_whole f by) a.0 in
    kind_registered f true into (both (has_pointer f into) (has_pointer f pointer) b.0).0
work_into code f into (work.Member pointer by) h = kind_registered f true into (both (has_pointer f into) (has_pointer f pointer) h).0
work_into code f into (work.Between left right element) h =
    let a = both (has_whole f into && has_pointer f left && has_pointer f right) (nat_le 1 element) h in
    let b = both (has_whole f into && has_pointer f left) (has_pointer f right) a.0 in
    kind_registered f false into (both (has_whole f into) (has_pointer f left) b.0).0
work_into code f into (work.ToPointer r) h = kind_registered f true into (both (has_pointer f into) (has_whole f r) h).0
work_into code f into (work.ToNumber r) h = kind_registered f false into (both (has_whole f into) (has_pointer f r) h).0

value_into : (f : Function) (o : Option ℕ) (k : Bool) (r : ℕ) → value_fits f o k ≡ true → is_register r o ≡ true → r < f.registers
value_into f None k r h e = cc
value_into f (Some q) k r h e = subst (λ n. n < f.registers) (eqb-true q r e) (kind_registered f k q h)

library_into : (f : Function) (o : Option ℕ) (c : LibraryCall) (r : ℕ) → library_value_fits f o c ≡ true → is_register r o ≡ true → r < f.registers
library_into f None c r h e = cc
library_into f (Some q) call.Exit r h e = cc
library_into f (Some q) call.Free r h e = cc
library_into f (Some q) (call.Create g) r h e = value_into f (Some q) false r h e
library_into f (Some q) call.Join r h e = value_into f (Some q) false r h e
library_into f (Some q) call.SelfNumber r h e = value_into f (Some q) false r h e
library_into f (Some q) call.SameThread r h e = value_into f (Some q) false r h e
library_into f (Some q) call.MutexInit r h e = value_into f (Some q) false r h e
library_into f (Some q) call.MutexLock r h e = value_into f (Some q) false r h e
library_into f (Some q) call.MutexUnlock r h e = value_into f (Some q) false r h e
library_into f (Some q) call.MutexTryLock r h e = value_into f (Some q) false r h e
library_into f (Some q) call.MutexDestroy r h e = value_into f (Some q) false r h e
library_into f (Some q) call.CondInit r h e = value_into f (Some q) false r h e
library_into f (Some q) call.CondWait r h e = value_into f (Some q) false r h e
library_into f (Some q) call.CondSignal r h e = value_into f (Some q) false r h e
library_into f (Some q) call.CondDestroy r h e = value_into f (Some q) false r h e
library_into f (Some q) call.BarrierInit r h e = value_into f (Some q) false r h e
library_into f (Some q) call.BarrierWait r h e = value_into f (Some q) false r h e
library_into f (Some q) call.BarrierDestroy r h e = value_into f (Some q) false r h e
library_into f (Some q) call.RwInit r h e = value_into f (Some q) false r h e
library_into f (Some q) call.RwRdLock r h e = value_into f (Some q) false r h e
library_into f (Some q) call.RwWrLock r h e = value_into f (Some q) false r h e
library_into f (Some q) call.RwUnlock r h e = value_into f (Some q) false r h e
library_into f (Some q) call.RwDestroy r h e = value_into f (Some q) false r h e
library_into f (Some q) call.GetChar r h e = value_into f (Some q) false r h e
library_into f (Some q) (call.Print format) r h e = value_into f (Some q) false r h e
library_into f (Some q) call.PutChar r h e = value_into f (Some q) false r h e

call_into : (f : Function) (arguments : List ℕ) (into : Option ℕ) (g : Option Function) (r : ℕ) → call_fits f arguments into g ≡ true → is_register r into ≡ true → r < f.registers
call_into f arguments into None r h e = cc
call_into f arguments into (Some g) r h e = value_into f into g.gives_pointer r (both (not (is_main_in (Some g)) && have_kinds f arguments (formal_kinds g)) (value_fits f into g.gives_pointer) h).1 e

act_into : (code : Code) (f : Function) (a : Act) (r : ℕ) → act_fits code f a ≡ true → assigns r (Some a) ≡ true → r < f.registers
act_into code f (act.Compute into w) r h e = subst (λ n. n < f.registers) (eqb-true into r e) (work_into code f into w h)
act_into code f (act.Alloc into site size) r h e =
    let a = both (has_pointer f into && is_site code site) (value_fits f size false) h in
    subst (λ n. n < f.registers) (eqb-true into r e) (kind_registered f true into (both (has_pointer f into) (is_site code site) a.0).0)
act_into code f (act.LoadCell into through) r h e = subst (λ n. n < f.registers) (eqb-true into r e) (registered f (has_pointer f through) into h)
act_into code f (act.Call g arguments into) r h e = call_into f arguments into (slice_get code.functions g) r h e
act_into code f (act.Library c arguments into) r h e = library_into f into c r (both (starts_fit code c && have_kinds f arguments (library_kinds c)) (library_value_fits f into c) h).1 e
act_into code f (act.StoreCell through from) r h e = cc
act_into code f act.Mark r h e = cc
act_into code f (act.Jump to) r h e = cc
act_into code f (act.Branch on then_at else_at) r h e = cc
act_into code f (act.Return value) r h e = cc
act_into code f (act.Take region) r h e = cc
act_into code f (act.Give region) r h e = cc

-- ---- constants

found : (is : List Instr) (k : ℕ) (a : Act) → nth is k ≡ Some a → (i : Instr) × (slice_get is k ≡ Some i) × (i.act ≡ a)
found is k a h = go (slice_get is k) refl h
  where
    go : (o : Option Instr) → slice_get is k ≡ o → act_in o ≡ Some a → (i : Instr) × (slice_get is k ≡ Some i) × (i.act ≡ a)
    go None e h = cc
    go (Some i) e h = (i, e, cc)

module _ (code : Code) (valid : is_valid code ≡ true) (f : ℕ) (fn : Function) (at : slice_get code.functions f ≡ Some fn) where
  fits_here : function_fits code fn ≡ true
  fits_here =
      let a = both (is_within_limits code && sites_fit code.sites && all_locks_fit code code.locks && has_one_main code.functions && functions_fit code code.functions) (globals_fit code) valid in
      let b = both (is_within_limits code && sites_fit code.sites && all_locks_fit code code.locks && has_one_main code.functions) (functions_fit code code.functions) a.0 in
      all_at (function_fits code) code.functions f fn b.1 at

  act_here : (k : ℕ) (a : Act) → nth fn.instrs k ≡ Some a → act_fits code fn a ≡ true
  act_here k a h = let i = found fn.instrs k a h in subst (λ b. act_fits code fn b ≡ true) i.2 (all_at (λ (j : Instr). act_fits code fn j.act) fn.instrs k i.0 (parts code fn fits_here).acts i.1)

  pub are_fit : (n : ℕ) → constants_fit code ≡ true → fn.registers ≤ n → AreFit fn.instrs n
  are_fit n constants enough = record {
    registers = λ k r e. registers k r (nth fn.instrs k) refl e;
    constants = λ k into z e. let i = found fn.instrs k (act.Compute into (work.Constant z)) e in fits_signed z (subst (λ a. constant_fits a ≡ true) i.2 (all_at (λ (j : Instr). constant_fits j.act) fn.instrs k i.0 (all_at (λ (g : Function). constants_fit_in g.instrs) code.functions f fn constants at) i.1));
  }
    where
      registers : (k r : ℕ) (o : Option Act) → nth fn.instrs k ≡ o → assigns r o ≡ true → r < n
      registers k r None e h = cc
      registers k r (Some a) e h = omega (arith, enough, act_into code fn a r (act_here k a e) h)

  -- ---- addresses

  pub address_here : (k into w : ℕ) → nth fn.instrs k ≡ Some (act.Compute into (work.Address w)) → is_address code w ≡ true
  address_here k into w h = (both (has_pointer fn into) (is_address code w) (act_here k (act.Compute into (work.Address w)) h)).1

-- two words that point at the same offset into objects of the same site and length
pub record IsAlike (v w : ℕ) : Type 0 where
  pub site : site_of v ≡ site_of w
  pub cells : length_of v ≡ length_of w
  pub offset : offset_of v ≡ offset_of w

based_alike : (slots w : ℕ) → slots ≤ 16 → base_of w ≤ 2 ^ 20 → site_of w ≤ 1023 → IsAlike (based slots w) w
based_alike slots w few low site = record { site = omega arith; cells = omega arith; offset = omega arith }

first_alike : (w n : ℕ) → length_of w ≡ n → offset_of w ≡ 0 → site_of w ≤ 1023 → IsAlike (pointer_at (site_of w) 0 n) w
first_alike w n cells offset site = record { site = omega arith; cells = omega arith; offset = omega arith }

-- an address of a valid code, based, is like a pointer to the first cell of its site
pub address_alike : (code : Code) → is_valid code ≡ true → (slots w : ℕ) → slots ≤ 16 → is_address code w ≡ true → IsAlike (pointer_at (site_of w) 0 (size_of code.sites (site_of w))) (based slots w) × (site_of (based slots w) ≤ length code.sites)
address_alike code valid slots w few h =
    let p = address_whole code valid w h in
    let d = both (nat_le 1 (site_of w)) (nat_le (site_of w) (length code.sites)) (address_site code w h) in
    let known : site_of w ≤ length code.sites = grind (arith, nat_tests, d.1) in
    let sites = few_sites code valid in
    let globals = few_globals code valid in
    let x = based_alike slots w few (omega (arith, p.within, globals)) (omega (arith, known, sites)) in
    let y = first_alike w (size_of code.sites (site_of w)) p.cells p.offset (omega (arith, known, sites)) in
    (record { site = y.site ∙ sym x.site; cells = y.cells ∙ sym x.cells; offset = y.offset ∙ sym x.offset }, omega (arith, known, x.site))
