-- The code of a sound expression fits its function.
use Rattle.std.proofs.Common.{◌≡◌, ℕ, ◌+◌, ◌<◌, Bool, true, false, ◌&&◌, if◌then◌else◌, pos, List, ◌∷◌, ◌++◌, length, Option, Some, None, slice_get, refl, sym, ◌∙◌, ap, subst, arith}
use Rattle.std.proofs.lemmas.Bool.{and_from}
use Rattle.flow_code.specs.declared.act.Act.TheVariants as act
use Rattle.flow_code.specs.declared.act.Instr.{Instr}
use Rattle.word_semantics.specs.declared.library_call.LibraryCall.{LibraryCall}
use Rattle.word_semantics.specs.declared.library_call.LibraryCall.TheVariants as library_call
use Rattle.flow_code.specs.declared.code.Code.{Code}
use Rattle.flow_code.specs.declared.code.Function.{Function as FlowFunction}
use Rattle.flow_code.specs.declared.work.Work.{Work}
use Rattle.flow_code.specs.declared.work.Work.TheVariants as work
use Rattle.flow_code.specs.Kinds.{has_register, has_pointer, has_whole, has_kind, have_kinds, value_fits, is_site, starts_fit, library_value_fits, work_fits, act_fits}
use Rattle.word_semantics.specs.Kinds.{library_kinds}
use Rattle.flow_code.specs.Addresses.{is_address}
use Rattle.rr_base.specs.declared.position.Position.{Position}
use Rattle.core_tree.specs.Core as core
use Rattle.core_tree.specs.Core.{Exp, null, load, unary, binary, move, advance, member, between, to_pointer, to_number, copy, both, either, conditional, comma, set_register, store, change_register, change_cell, call, library, allocate, Exps, no_exp, and_exp, Function, Program}
use Rattle.core_tree.specs.Meaning.{is_pointer, is_pointer_change}
use Rattle.flow_lower.specs.Lowered.{held, instr, one, computes, gives_nothing, library_size, library_code, truth_code, unary_work, change_work, width, exp_kinds, exps_kinds, exp_size, exps_size, exp_code, exps_code, value_registers}
use Rattle.core_tree.specs.Sound.{IsSoundExp, AreSound, value_kinds}
use Rattle.lower_sound.proofs.Lengths.{exp_length, exps_length}
use Rattle.lower_sound.proofs.Places.{HasAt, has_at, has_front, has_back, kind_held}
use Rattle.lower_sound.proofs.Fitting.{registered, pointer, kinded, alike, as_pointer, as_whole, binary_is, move_is, between_is, number_is, unary_is, change_is, either_holds}
use Rattle.lower_sound.proofs.Good.{IsGood, AreGood, good_at, good_append, computed, jumps_on, branches_on}
use Rattle.lower_sound.proofs.Images.{IsImage, call_is, start_is}

-- ---- calls of the library

none_fits : (g : FlowFunction) (c : LibraryCall) → library_value_fits g None c ≡ true
none_fits g library_call.Exit = refl
none_fits g library_call.Free = refl
none_fits g _ = refl

some_fits : (g : FlowFunction) (c : LibraryCall) (r : ℕ) → gives_nothing c ≡ false → has_kind g false r ≡ true → library_value_fits g (Some r) c ≡ true
some_fits g library_call.Exit r e h = absurd cc
some_fits g library_call.Free r e h = absurd cc
some_fits g _ r e h = h

module _ (p : Program) (home : ℕ → Option ℕ) (f : Function) (code : Code) (g : FlowFunction) (first : ℕ) (image : IsImage p home f code g first) where
  abbrev total : ℕ
  total = length g.instrs

  abbrev ks : List Bool
  ks = g.pointers

  abbrev Good : ℕ → List Instr → Type 0
  Good at is = AreGood code g at is

  pub past_exp : (e : Exp) (r pc : ℕ) (rest : List Instr) → Good pc (exp_code first e r pc) → Good (pc + exp_size e) rest → Good pc (exp_code first e r pc ++ rest)
  past_exp e r pc rest h k = good_append code g pc (exp_size e) (exp_code first e r pc) rest (exp_length first e r pc) h k

  after_exps : (es : Exps) (r pc : ℕ) (rest : List Instr) → Good pc (exps_code first es r pc) → Good (pc + exps_size es) rest → Good pc (exps_code first es r pc ++ rest)
  after_exps es r pc rest h k = good_append code g pc (exps_size es) (exps_code first es r pc) rest (exps_length first es r pc) h k

  works : (at into : ℕ) (w : Work) → work_fits code g into w ≡ true → IsGood code g at (act.Compute into w)
  works at into w h = computed code g at into w h

  copies : (at into r : ℕ) (k : Bool) → slice_get ks into ≡ Some k → slice_get ks r ≡ Some k → IsGood code g at (act.Compute into (work.Copy r))
  copies at into r k h i = works at into (work.Copy r) (alike g image.sized into r k h i)

  -- the register that has the value of a sound expression is of its kind
  pub held_kind : (e : Exp) (r : ℕ) → IsSoundExp p home f e → HasAt ks r (exp_kinds e) → slice_get ks (held first e r) ≡ Some (is_pointer e)
  held_kind e r s h = kind_held ks first r e h (λ n pointer' at same. image.registers n pointer' (subst (IsSoundExp p home f) same s)) (λ n at same. image.objects n (subst (IsSoundExp p home f) same s))

  -- ---- the pieces

  truth_good : (at : Position) (r x pc : ℕ) (k : Bool) → slice_get ks r ≡ Some false → slice_get ks x ≡ Some k → pc + 4 < total → Good pc (truth_code at r x pc)
  truth_good at r x pc k h i lt = (
    branches_on code g pc x (pc + 1) (pc + 3) (registered g image.sized x k i) (omega arith) (omega arith) (omega (arith, lt)) (omega (arith, lt)),
    (works (pc + 1) r (work.Constant (pos 1)) (number_is g image.sized code r (pos 1) h), (jumps_on code g (pc + 1 + 1) (pc + 4) (omega arith) lt, (works (pc + 1 + 1 + 1) r (work.Constant (pos 0)) (number_is g image.sized code r (pos 0) h), tt))),
  )

  loads : (at into through : ℕ) (k k' : Bool) → slice_get ks into ≡ Some k → slice_get ks through ≡ Some k' → k' ≡ true → IsGood code g at (act.LoadCell into through)
  loads at into through k k' h i e = record { fits = and_from (has_register g into) (has_pointer g through) (registered g image.sized into k h) (as_pointer g image.sized through k' e i); jumps = refl; plain = refl }

  pub stores : (at through from : ℕ) (k k' : Bool) → slice_get ks through ≡ Some k → k ≡ true → slice_get ks from ≡ Some k' → IsGood code g at (act.StoreCell through from)
  stores at through from k k' h e i = record { fits = and_from (has_pointer g through) (has_register g from) (as_pointer g image.sized through k e h) (registered g image.sized from k' i); jumps = refl; plain = refl }

  library_good : (at : Position) (c : LibraryCall) (arguments : List ℕ) (r pc : ℕ) → slice_get ks r ≡ Some false → starts_fit code c ≡ true → have_kinds g arguments (library_kinds c) ≡ true → Good pc (library_code at r c arguments)
  library_good at c arguments r pc h s have = by (gives_nothing c) refl
    where
      fits' : (into : Option ℕ) → library_value_fits g into c ≡ true → act_fits code g (act.Library c arguments into) ≡ true
      fits' into v = and_from (starts_fit code c && have_kinds g arguments (library_kinds c)) (library_value_fits g into c) (and_from (starts_fit code c) (have_kinds g arguments (library_kinds c)) s have) v

      by : (b : Bool) → gives_nothing c ≡ b → Good pc (if b then instr at (act.Library c arguments None) ∷ computes at r (work.Constant (pos 0)) else one at (act.Library c arguments (Some r)))
      by true e = (record { fits = fits' None (none_fits g c); jumps = refl; plain = refl }, (works (pc + 1) r (work.Constant (pos 0)) (number_is g image.sized code r (pos 0) h), tt))
      by false e = (record { fits = fits' (Some r) (some_fits g c r e (kinded g image.sized r false h)); jumps = refl; plain = refl }, tt)

  -- the arguments of a call
  arguments_are : (es : Exps) (r : ℕ) → AreSound p home f es → HasAt ks r (exps_kinds es) → have_kinds g (value_registers first r es) (value_kinds es) ≡ true
  arguments_are no_exp r s h = refl
  arguments_are (and_exp e es) r s h =
      and_from (has_kind g (is_pointer e) (held first e r)) (have_kinds g (value_registers first (r + width e) es) (value_kinds es))
      (kinded g image.sized (held first e r) (is_pointer e) (held_kind e r s.0 (has_front ks r (exp_kinds e) (exps_kinds es) h)))
      (arguments_are es (r + width e) s.1 (has_back ks r (exp_kinds e) (exps_kinds es) h))

  -- ---- expressions

  -- the first and the second of two operands
  front : (a b : Exp) (r : ℕ) → HasAt ks r (exp_kinds a ++ exp_kinds b) → HasAt ks r (exp_kinds a)
  front a b r h = has_front ks r (exp_kinds a) (exp_kinds b) h

  back : (a b : Exp) (r : ℕ) → HasAt ks r (exp_kinds a ++ exp_kinds b) → HasAt ks (r + width a) (exp_kinds b)
  back a b r h = has_back ks r (exp_kinds a) (exp_kinds b) h

  -- two operands and what stands after them
  two : (a b : Exp) (r pc : ℕ) (rest : List Instr) → Good pc (exp_code first a r pc) → Good (pc + exp_size a) (exp_code first b (r + width a) (pc + exp_size a)) → Good (pc + exp_size a + exp_size b) rest
      → Good pc (exp_code first a r pc ++ (exp_code first b (r + width a) (pc + exp_size a) ++ rest))
  two a b r pc rest h k l = past_exp a r pc (exp_code first b (r + width a) (pc + exp_size a) ++ rest) h (past_exp b (r + width a) (pc + exp_size a) rest k l)

  mutual
    pub exp_good : (e : Exp) (r pc : ℕ) → IsSoundExp p home f e → HasAt ks r (exp_kinds e) → pc + exp_size e < total → Good pc (exp_code first e r pc)
    exp_good (core.number z at) r pc s h lt = (works pc r (work.Constant z) (number_is g image.sized code r z h.0), tt)
    exp_good (null at) r pc s h lt = (works pc r (work.Constant (pos 0)) (and_from (has_register g r) true (registered g image.sized r true h.0) refl), tt)
    exp_good (core.register n k at) r pc s h lt = tt
    exp_good (core.object n at) r pc s h lt = tt
    exp_good (core.global address at) r pc s h lt = (record { fits = and_from (has_pointer g r) (is_address code address) (pointer g image.sized r h.0) (image.addresses address s); jumps = refl; plain = refl }, tt)
    exp_good (load e k at) r pc s h lt =
        past_exp e (r + 1) pc (one at (act.LoadCell r (held first e (r + 1)))) (exp_good e (r + 1) pc s.1 h.1 (omega (arith, lt)))
        (loads (pc + exp_size e) r (held first e (r + 1)) k (is_pointer e) h.0 (held_kind e (r + 1) s.1 h.1) s.0, tt)
    exp_good (unary o e at) r pc s h lt =
        past_exp e (r + 1) pc (computes at r (unary_work o (held first e (r + 1)))) (exp_good e (r + 1) pc s.1 h.1 (omega (arith, lt)))
        (works (pc + exp_size e) r (unary_work o (held first e (r + 1))) (unary_is g image.sized code o e r (held first e (r + 1)) s.0 h.0 (held_kind e (r + 1) s.1 h.1)), tt)
    exp_good (binary o a b at) r pc s h lt =
        let ka = front a b (r + 1) h.1 in
        let kb = back a b (r + 1) h.1 in
        two a b (r + 1) pc (computes at r (work.Binary o (held first a (r + 1)) (held first b (r + 1 + width a)))) (exp_good a (r + 1) pc s.1 ka (omega (arith, lt))) (exp_good b (r + 1 + width a) (pc + exp_size a) s.2 kb (omega (arith, lt)))
        (works (pc + exp_size a + exp_size b) r (work.Binary o (held first a (r + 1)) (held first b (r + 1 + width a))) (binary_is g image.sized r (held first a (r + 1)) (held first b (r + 1 + width a)) o (is_pointer a) (is_pointer b) h.0 (held_kind a (r + 1) s.1 ka) (held_kind b (r + 1 + width a) s.2 kb) s.0.0 s.0.1), tt)
    exp_good (move a b element back' at) r pc s h lt =
        let ka = front a b (r + 1) h.1 in
        let kb = back a b (r + 1) h.1 in
        two a b (r + 1) pc (computes at r (work.Move (held first a (r + 1)) (held first b (r + 1 + width a)) element back')) (exp_good a (r + 1) pc s.3 ka (omega (arith, lt))) (exp_good b (r + 1 + width a) (pc + exp_size a) s.4 kb (omega (arith, lt)))
        (works (pc + exp_size a + exp_size b) r (work.Move (held first a (r + 1)) (held first b (r + 1 + width a)) element back') (move_is g image.sized r (held first a (r + 1)) (held first b (r + 1 + width a)) element (is_pointer a) (is_pointer b) h.0 (held_kind a (r + 1) s.3 ka) s.0 (held_kind b (r + 1 + width a) s.4 kb) s.1 s.2), tt)
    exp_good (advance a b element at) r pc s h lt =
        let ka = front a b (r + 1) h.1 in
        let kb = back a b (r + 1) h.1 in
        two a b (r + 1) pc (computes at r (work.Move (held first b (r + 1 + width a)) (held first a (r + 1)) element false)) (exp_good a (r + 1) pc s.3 ka (omega (arith, lt))) (exp_good b (r + 1 + width a) (pc + exp_size a) s.4 kb (omega (arith, lt)))
        (works (pc + exp_size a + exp_size b) r (work.Move (held first b (r + 1 + width a)) (held first a (r + 1)) element false) (move_is g image.sized r (held first b (r + 1 + width a)) (held first a (r + 1)) element (is_pointer b) (is_pointer a) h.0 (held_kind b (r + 1 + width a) s.4 kb) s.1 (held_kind a (r + 1) s.3 ka) s.0 s.2), tt)
    exp_good (member a by' at) r pc s h lt =
        let ka = held_kind a (r + 1) s.1 h.1 in
        past_exp a (r + 1) pc (computes at r (work.Member (held first a (r + 1)) by')) (exp_good a (r + 1) pc s.1 h.1 (omega (arith, lt)))
        (works (pc + exp_size a) r (work.Member (held first a (r + 1)) by') (and_from (has_pointer g r) (has_pointer g (held first a (r + 1))) (pointer g image.sized r h.0) (as_pointer g image.sized (held first a (r + 1)) (is_pointer a) s.0 ka)), tt)
    exp_good (between a b element at) r pc s h lt =
        let ka = front a b (r + 1) h.1 in
        let kb = back a b (r + 1) h.1 in
        two a b (r + 1) pc (computes at r (work.Between (held first a (r + 1)) (held first b (r + 1 + width a)) element)) (exp_good a (r + 1) pc s.3 ka (omega (arith, lt))) (exp_good b (r + 1 + width a) (pc + exp_size a) s.4 kb (omega (arith, lt)))
        (works (pc + exp_size a + exp_size b) r (work.Between (held first a (r + 1)) (held first b (r + 1 + width a)) element) (between_is g image.sized r (held first a (r + 1)) (held first b (r + 1 + width a)) element (is_pointer a) (is_pointer b) h.0 (held_kind a (r + 1) s.3 ka) s.0 (held_kind b (r + 1 + width a) s.4 kb) s.1 s.2), tt)
    exp_good (to_pointer a at) r pc s h lt =
        let ka = held_kind a (r + 1) s.1 h.1 in
        past_exp a (r + 1) pc (computes at r (work.ToPointer (held first a (r + 1)))) (exp_good a (r + 1) pc s.1 h.1 (omega (arith, lt)))
        (works (pc + exp_size a) r (work.ToPointer (held first a (r + 1))) (and_from (has_pointer g r) (has_whole g (held first a (r + 1))) (pointer g image.sized r h.0) (as_whole g image.sized (held first a (r + 1)) (is_pointer a) s.0 ka)), tt)
    exp_good (to_number a at) r pc s h lt =
        let ka = held_kind a (r + 1) s.1 h.1 in
        past_exp a (r + 1) pc (computes at r (work.ToNumber (held first a (r + 1)))) (exp_good a (r + 1) pc s.1 h.1 (omega (arith, lt)))
        (works (pc + exp_size a) r (work.ToNumber (held first a (r + 1))) (and_from (has_whole g r) (has_pointer g (held first a (r + 1))) (kinded g image.sized r false h.0) (as_pointer g image.sized (held first a (r + 1)) (is_pointer a) s.0 ka)), tt)
    exp_good (copy a at) r pc s h lt =
        past_exp a (r + 1) pc (computes at r (work.Copy (held first a (r + 1)))) (exp_good a (r + 1) pc s h.1 (omega (arith, lt)))
        (copies (pc + exp_size a) r (held first a (r + 1)) (is_pointer a) h.0 (held_kind a (r + 1) s h.1), tt)
    exp_good (both a b at) r pc s h lt =
        let ka = front a b (r + 1) h.1 in
        let kb = back a b (r + 1) h.1 in
        let x = r + 1 + width a in
        let second = pc + exp_size a + 1 in
        let tested = second + exp_size b in
        past_exp a (r + 1) pc (instr at (act.Branch (held first a (r + 1)) second (tested + 3)) ∷ (exp_code first b x second ++ truth_code at r (held first b x) tested)) (exp_good a (r + 1) pc s.0 ka (omega (arith, lt))) (
          branches_on code g (pc + exp_size a) (held first a (r + 1)) second (tested + 3) (registered g image.sized (held first a (r + 1)) (is_pointer a) (held_kind a (r + 1) s.0 ka)) (omega arith) (omega arith) (omega (arith, lt)) (omega (arith, lt)),
          past_exp b x second (truth_code at r (held first b x) tested) (exp_good b x second s.1 kb (omega (arith, lt))) (truth_good at r (held first b x) tested (is_pointer b) h.0 (held_kind b x s.1 kb) (omega (arith, lt))),
        )
    exp_good (either a b at) r pc s h lt =
        let ka = front a b (r + 1) h.1 in
        let kb = back a b (r + 1) h.1 in
        let x = r + 1 + width a in
        let second = pc + exp_size a + 1 in
        let tested = second + exp_size b in
        past_exp a (r + 1) pc (instr at (act.Branch (held first a (r + 1)) (tested + 1) second) ∷ (exp_code first b x second ++ truth_code at r (held first b x) tested)) (exp_good a (r + 1) pc s.0 ka (omega (arith, lt))) (
          branches_on code g (pc + exp_size a) (held first a (r + 1)) (tested + 1) second (registered g image.sized (held first a (r + 1)) (is_pointer a) (held_kind a (r + 1) s.0 ka)) (omega arith) (omega arith) (omega (arith, lt)) (omega (arith, lt)),
          past_exp b x second (truth_code at r (held first b x) tested) (exp_good b x second s.1 kb (omega (arith, lt))) (truth_good at r (held first b x) tested (is_pointer b) h.0 (held_kind b x s.1 kb) (omega (arith, lt))),
        )
    exp_good (conditional a b c at) r pc s h lt =
        let ka = has_front ks (r + 1) (exp_kinds a) (exp_kinds b ++ exp_kinds c) h.1 in
        let kbc = has_back ks (r + 1) (exp_kinds a) (exp_kinds b ++ exp_kinds c) h.1 in
        let x = r + 1 + width a in
        let kb = front b c x kbc in
        let kc = back b c x kbc in
        let y = x + width b in
        let yes' = pc + exp_size a + 1 in
        let no' = yes' + exp_size b + 2 in
        let last : Good no' (exp_code first c y no' ++ computes at r (work.Copy (held first c y))) =
        past_exp c y no' (computes at r (work.Copy (held first c y))) (exp_good c y no' s.3 kc (omega (arith, lt))) (copies (no' + exp_size c) r (held first c y) (is_pointer b) h.0 (held_kind c y s.3 kc ∙ ap Some (sym s.0)), tt) in
        past_exp a (r + 1) pc (instr at (act.Branch (held first a (r + 1)) yes' no') ∷ (exp_code first b x yes' ++ (instr at (act.Compute r (work.Copy (held first b x))) ∷ instr at (act.Jump (no' + exp_size c + 1)) ∷ (exp_code first c y no' ++ computes at r (work.Copy (held first c y)))))) (exp_good a (r + 1) pc s.1 ka (omega (arith, lt))) (
          branches_on code g (pc + exp_size a) (held first a (r + 1)) yes' no' (registered g image.sized (held first a (r + 1)) (is_pointer a) (held_kind a (r + 1) s.1 ka)) (omega arith) (omega arith) (omega (arith, lt)) (omega (arith, lt)),
          past_exp b x yes' (instr at (act.Compute r (work.Copy (held first b x))) ∷ instr at (act.Jump (no' + exp_size c + 1)) ∷ (exp_code first c y no' ++ computes at r (work.Copy (held first c y)))) (exp_good b x yes' s.2 kb (omega (arith, lt))) (
            copies (yes' + exp_size b) r (held first b x) (is_pointer b) h.0 (held_kind b x s.2 kb),
            (jumps_on code g (yes' + exp_size b + 1) (no' + exp_size c + 1) (omega arith) (omega (arith, lt)), good_at code g no' (yes' + exp_size b + 1 + 1) (exp_code first c y no' ++ computes at r (work.Copy (held first c y))) (omega arith) last),
          ),
        )
    exp_good (comma a b at) r pc s h lt =
        let ka = front a b (r + 1) h.1 in
        let kb = back a b (r + 1) h.1 in
        two a b (r + 1) pc (computes at r (work.Copy (held first b (r + 1 + width a)))) (exp_good a (r + 1) pc s.0 ka (omega (arith, lt))) (exp_good b (r + 1 + width a) (pc + exp_size a) s.1 kb (omega (arith, lt)))
        (copies (pc + exp_size a + exp_size b) r (held first b (r + 1 + width a)) (is_pointer b) h.0 (held_kind b (r + 1 + width a) s.1 kb), tt)
    exp_good (set_register n a at) r pc s h lt =
        let ka = held_kind a (r + 1) s.1 h.1 in
        past_exp a (r + 1) pc (instr at (act.Compute n (work.Copy (held first a (r + 1)))) ∷ computes at r (work.Copy (held first a (r + 1)))) (exp_good a (r + 1) pc s.1 h.1 (omega (arith, lt)))
        (copies (pc + exp_size a) n (held first a (r + 1)) (is_pointer a) (image.registers n (is_pointer a) s.0) ka, (copies (pc + exp_size a + 1) r (held first a (r + 1)) (is_pointer a) h.0 ka, tt))
    exp_good (store a b at) r pc s h lt =
        let ka = front a b (r + 1) h.1 in
        let kb = back a b (r + 1) h.1 in
        let x = r + 1 + width a in
        two a b (r + 1) pc (instr at (act.StoreCell (held first a (r + 1)) (held first b x)) ∷ computes at r (work.Copy (held first b x))) (exp_good a (r + 1) pc s.1 ka (omega (arith, lt))) (exp_good b x (pc + exp_size a) s.2 kb (omega (arith, lt)))
        (stores (pc + exp_size a + exp_size b) (held first a (r + 1)) (held first b x) (is_pointer a) (is_pointer b) (held_kind a (r + 1) s.1 ka) s.0 (held_kind b x s.2 kb), (copies (pc + exp_size a + exp_size b + 1) r (held first b x) (is_pointer b) h.0 (held_kind b x s.2 kb), tt))
    exp_good (change_register n c b old at) r pc s h lt =
        let k = is_pointer_change c in
        let k2 : slice_get ks (r + 2) ≡ Some k = subst (λ q. slice_get ks q ≡ Some k) (omega arith) h.1.1.0 in
        let kb = has_at ks (r + 1 + 1 + 1) (r + 3) (exp_kinds b) (omega arith) h.1.1.1 in
        let kn = image.registers n k s.0 in (
          copies pc (r + 1) n k h.1.0 kn,
          past_exp b (r + 3) (pc + 1) (instr at (act.Compute (r + 2) (change_work c (r + 1) (held first b (r + 3)))) ∷ instr at (act.Compute n (work.Copy (r + 2))) ∷ computes at r (work.Copy (if old then r + 1 else r + 2))) (exp_good b (r + 3) (pc + 1) s.2 kb (omega (arith, lt))) (
            works (pc + 1 + exp_size b) (r + 2) (change_work c (r + 1) (held first b (r + 3))) (change_is g image.sized code c b (r + 2) (r + 1) (held first b (r + 3)) s.1 k2 h.1.0 (held_kind b (r + 3) s.2 kb)),
            (copies (pc + 1 + exp_size b + 1) n (r + 2) k kn k2, (copies (pc + 1 + exp_size b + 1 + 1) r (if old then r + 1 else r + 2) k h.0 (either_holds g image.sized old (r + 1) (r + 2) k h.1.0 k2), tt)),
          ),
        )
    exp_good (change_cell a loaded c b old at) r pc s h lt =
        let k = is_pointer_change c in
        let k2 : slice_get ks (r + 2) ≡ Some k = subst (λ q. slice_get ks q ≡ Some k) (omega arith) h.1.1.0 in
        let kab = has_at ks (r + 1 + 1 + 1) (r + 3) (exp_kinds a ++ exp_kinds b) (omega arith) h.1.1.1 in
        let ka = front a b (r + 3) kab in
        let kb = back a b (r + 3) kab in
        let x = r + 3 + width a in
        let second = pc + exp_size a + 1 in
        past_exp a (r + 3) pc (instr loaded (act.LoadCell (r + 1) (held first a (r + 3))) ∷ (exp_code first b x second ++ (instr at (act.Compute (r + 2) (change_work c (r + 1) (held first b x))) ∷ instr at (act.StoreCell (held first a (r + 3)) (r + 2)) ∷ computes at r (work.Copy (if old then r + 1 else r + 2))))) (exp_good a (r + 3) pc s.2 ka (omega (arith, lt))) (
          loads (pc + exp_size a) (r + 1) (held first a (r + 3)) k (is_pointer a) h.1.0 (held_kind a (r + 3) s.2 ka) s.0,
          past_exp b x second (instr at (act.Compute (r + 2) (change_work c (r + 1) (held first b x))) ∷ instr at (act.StoreCell (held first a (r + 3)) (r + 2)) ∷ computes at r (work.Copy (if old then r + 1 else r + 2))) (exp_good b x second s.3 kb (omega (arith, lt))) (
            works (second + exp_size b) (r + 2) (change_work c (r + 1) (held first b x)) (change_is g image.sized code c b (r + 2) (r + 1) (held first b x) s.1 k2 h.1.0 (held_kind b x s.3 kb)),
            (stores (second + exp_size b + 1) (held first a (r + 3)) (r + 2) (is_pointer a) k (held_kind a (r + 3) s.2 ka) s.0 k2, (copies (second + exp_size b + 1 + 1) r (if old then r + 1 else r + 2) k h.0 (either_holds g image.sized old (r + 1) (r + 2) k h.1.0 k2), tt)),
          ),
        )
    exp_good (call n es k at) r pc s h lt =
        after_exps es (r + 1) pc (one at (act.Call n (value_registers first (r + 1) es) (Some r))) (exps_good es (r + 1) pc s.1 h.1 (omega (arith, lt)))
        (record { fits = call_is p home f code g first image n (value_kinds es) k (value_registers first (r + 1) es) r s.0 (arguments_are es (r + 1) s.1 h.1) h.0; jumps = refl; plain = refl }, tt)
    exp_good (library c es at) r pc s h lt =
        after_exps es (r + 1) pc (library_code at r c (value_registers first (r + 1) es)) (exps_good es (r + 1) pc s.2 h.1 (some_more (library_size c) lt))
        (library_good at c (value_registers first (r + 1) es) r (pc + exps_size es) h.0 (start_is p home f code g first image c s.1) (ap (have_kinds g (value_registers first (r + 1) es)) (sym s.0) ∙ arguments_are es (r + 1) s.2 h.1))
      where
        some_more : (n : ℕ) → pc + (exps_size es + n) < total → pc + exps_size es < total
        some_more n lt = omega (arith, lt)
    exp_good (allocate site a at) r pc s h lt =
        let ka = held_kind a (r + 1) s.2 h.1 in
        past_exp a (r + 1) pc (one at (act.Alloc r site (Some (held first a (r + 1))))) (exp_good a (r + 1) pc s.2 h.1 (omega (arith, lt)))
        (record { fits = and_from (has_pointer g r && is_site code site) (value_fits g (Some (held first a (r + 1))) false) (and_from (has_pointer g r) (is_site code site) (pointer g image.sized r h.0) (image.sites site s.0)) (as_whole g image.sized (held first a (r + 1)) (is_pointer a) s.1 ka); jumps = refl; plain = refl }, tt)

    pub exps_good : (es : Exps) (r pc : ℕ) → AreSound p home f es → HasAt ks r (exps_kinds es) → pc + exps_size es < total → Good pc (exps_code first es r pc)
    exps_good no_exp r pc s h lt = tt
    exps_good (and_exp e es) r pc s h lt =
        past_exp e r pc (exps_code first es (r + width e) (pc + exp_size e)) (exp_good e r pc s.0 (has_front ks r (exp_kinds e) (exps_kinds es) h) (omega (arith, lt)))
        (exps_good es (r + width e) (pc + exp_size e) s.1 (has_back ks r (exp_kinds e) (exps_kinds es) h) (omega (arith, lt)))
