-- The code of a sound function fits.
use Rattle.std.proofs.Common.{◌≡◌, ℕ, zero, suc, ◌+◌, ◌-◌, ◌<◌, ◌≤◌, Bool, true, false, ◌&&◌, ◌==◌, nat_le, List, [], ◌∷◌, ◌++◌, length, replicate, Option, Some, None, option_map, slice_get, if◌then◌else◌, refl, sym, ◌∙◌, ap, subst, append_assoc, arith, length-append}
use Rattle.std.proofs.lemmas.Bool.{and_parts, and_from, le-leb, eq-eqb}
use Rattle.std.proofs.lemmas.List.{take-append-le}
use Rattle.std.proofs.lemmas.Option.{slice_get-map, slice_get_within}
use Rattle.rr_base.proofs.Lists.{slice_get_inside, slice_get-append_found, slice_get-append_right, slice_get-append_at}
use Rattle.flow_code.specs.declared.act.Act.TheVariants as act
use Rattle.flow_code.specs.declared.act.Instr.{Instr}
use Rattle.flow_code.specs.declared.code.Code.{Code}
use Rattle.flow_code.specs.declared.code.Function.{Function as FlowFunction}
use Rattle.flow_code.specs.Next.{act_in}
use Rattle.flow_code.specs.Kinds.{has_pointer, is_site, act_fits}
use Rattle.flow_code.specs.Addresses.{is_address}
use Rattle.flow_code.specs.Order.{is_end, ends_in_itself, makes_no_object, make_no_objects, objects_are_first, jumps_fit, order_fits}
use Rattle.flow_code.specs.Valid.{registers_fit, acts_fit, loops_fit, function_fits}
use Rattle.rr_base.specs.declared.position.Position.{Position}
use Rattle.core_tree.specs.Core.{Arrival, arrives, Function, Program}
use Rattle.flow_lower.specs.Lowered.{body_kept, instr, one, lowered, function_code, function_kinds, body_code, statement_kinds, statement_size, objects_code, arrivals_code}
use Rattle.lowering_parts.specs.Loops.{statement_loops}
use Rattle.core_tree.specs.Sound.{HasSite, IsFunction, IsAddress, IsSoundArrival, IsSoundFunction}
use Rattle.lower_sound.proofs.Lengths.{statement_length, arrivals_length}
use Rattle.lower_sound.proofs.Places.{HasAt, has_front, start_of, body_at, end_at, statement_part, from_arrivals, has_body, has_end, has_kinds}
use Rattle.lower_sound.proofs.Fitting.{pointer}
use Rattle.lower_sound.proofs.Good.{AreGood, good_append, good_acts, good_jumps, good_plain}
use Rattle.lower_sound.proofs.Images.{IsImage, IsCallee}
use Rattle.lower_sound.proofs.GoodExpressions.{stores}
use Rattle.lower_sound.proofs.GoodStatements.{statement_good}
use Rattle.lower_sound.proofs.KeptSound.{statement_sound}
use Rattle.lower_sound.proofs.LoopsFit.{statement_fits}
use Rattle.lower_sound.proofs.SoundWithin.{statement_within}

-- ---- the objects, which come first

acts_append : (code : Code) (g : FlowFunction) (is js : List Instr) → acts_fit code g is ≡ true → acts_fit code g js ≡ true → acts_fit code g (is ++ js) ≡ true
acts_append code g [] js h k = k
acts_append code g (i ∷ is) js h k = let parts = and_parts (act_fits code g i.act) (acts_fit code g is) h in and_from (act_fits code g i.act) (acts_fit code g (is ++ js)) parts.0 (acts_append code g is js parts.1 k)

objects_jump : (all : List Instr) (place : Position) (r at : ℕ) (sites : List ℕ) (rest : List Instr) → jumps_fit all (at + length sites) rest ≡ true → jumps_fit all at (objects_code place r sites ++ rest) ≡ true
objects_jump all place r at [] rest h = subst (λ n. jumps_fit all n rest ≡ true) (omega arith) h
objects_jump all place r at (site ∷ more) rest h = objects_jump all place (r + 1) (at + 1) more rest (subst (λ n. jumps_fit all n rest ≡ true) (omega arith) h)

none_first : (is : List Instr) → make_no_objects is ≡ true → objects_are_first is ≡ true
none_first [] h = refl
none_first (i ∷ is) h = by (makes_no_object i) h
  where
    by : (b : Bool) → (b && make_no_objects is) ≡ true → (if b then make_no_objects is else objects_are_first is) ≡ true
    by true h = h
    by false h = absurd cc

objects_first : (place : Position) (r : ℕ) (sites : List ℕ) (rest : List Instr) → make_no_objects rest ≡ true → objects_are_first (objects_code place r sites ++ rest) ≡ true
objects_first place r [] rest h = none_first rest h
objects_first place r (site ∷ more) rest h = objects_first place (r + 1) more rest h

-- ---- the end

last_ends : (is : List Instr) (i : Instr) → is_end (Some i.act) ≡ true → ends_in_itself (is ++ i ∷ []) ≡ true
last_ends is i h =
    let place : length (is ++ i ∷ []) - 1 ≡ length is = omega (arith, length-append is (i ∷ [])) in
    ap (λ n. is_end (act_in (slice_get (is ++ i ∷ []) n))) place ∙ ap (λ o. is_end (act_in o)) (slice_get-append_at is i [] (length is) refl) ∙ h

after_ends : (is js ks : List Instr) (i : Instr) → is_end (Some i.act) ≡ true → ends_in_itself (is ++ (js ++ (ks ++ i ∷ []))) ≡ true
after_ends is js ks i h =
    let same : is ++ js ++ ks ++ i ∷ [] ≡ is ++ (js ++ (ks ++ i ∷ [])) = append_assoc (is ++ js) ks (i ∷ []) ∙ append_assoc is js (ks ++ i ∷ []) in
    subst (λ l. ends_in_itself l ≡ true) same (last_ends (is ++ js ++ ks) i h)

-- ---- the parts of a function

module _ (p : Program) (home : ℕ → Option ℕ) (f : Function) (code : Code) (g : FlowFunction) (image : IsImage p home f code g (length f.pointers)) (sound : IsSoundFunction p home f) (instrs : g.instrs ≡ body_code f) (kinds : g.pointers ≡ function_kinds f) where
  abbrev first : ℕ
  first = length f.pointers

  abbrev Good : ℕ → List Instr → Type 0
  Good at is = AreGood code g at is

  objects_fit : (place : Position) (r : ℕ) (sites : List ℕ) → ((n : ℕ) → n < length sites → slice_get g.pointers (r + n) ≡ Some true) → ((k site : ℕ) → slice_get sites k ≡ Some site → HasSite p site) → acts_fit code g (objects_code place r sites) ≡ true
  objects_fit place r [] have are = refl
  objects_fit place r (site ∷ more) have are =
      let here : slice_get g.pointers r ≡ Some true = subst (λ q. slice_get g.pointers q ≡ Some true) (omega arith) (have 0 (omega arith)) in
      and_from (has_pointer g r && is_site code site && true) (acts_fit code g (objects_code place (r + 1) more))
      (and_from (has_pointer g r && is_site code site) true (and_from (has_pointer g r) (is_site code site) (pointer g image.sized r here) (image.sites site (are 0 site refl))) refl)
      (objects_fit place (r + 1) more (λ n lt. subst (λ q. slice_get g.pointers q ≡ Some true) (omega arith) (have (suc n) (omega (arith, lt)))) (λ k. are (suc k)))

  arrivals_good : (arrivals : List Arrival) (at : ℕ) → ((k : ℕ) (a : Arrival) → slice_get arrivals k ≡ Some a → IsSoundArrival p home f a) → Good at (arrivals_code first arrivals)
  arrivals_good [] at are = tt
  arrivals_good (arrives n k place ∷ more) at are =
      let here = are 0 (arrives n k place) refl in
      let kind = slice_get_inside f.pointers n here.0 in
      (stores p home f code g first image at (first + k) n true kind.0 (image.objects k here.1) refl (image.registers n kind.0 kind.1), arrivals_good more (at + 1) (λ j. are (suc j)))

  in_code : end_at f < length g.instrs
  in_code = subst (λ l. end_at f < length l) (sym instrs) (slice_get_within (body_code f) (end_at f) (instr f.place (act.Return None)) (has_end f))

  body_good : Good (body_at f) (statement_part f)
  body_good =
      statement_good p home f code g first image (body_kept f) (first + length f.objects) (body_at f) (end_at f) (end_at f) (statement_sound p home f f.body sound.body)
      (subst (λ l. HasAt l (first + length f.objects) (statement_kinds (body_kept f))) (sym kinds) (has_kinds f))
      (subst (λ l. HasAt l (body_at f) (statement_part f)) (sym instrs) (has_front (body_code f) (body_at f) (statement_part f) (one f.place (act.Return None)) (has_body f)))
      (omega arith) in_code (omega arith) in_code

  rest_good : Good (start_of f) (from_arrivals f)
  rest_good =
      good_append code g (start_of f) (length f.arrivals) (arrivals_code first f.arrivals) (statement_part f ++ one f.place (act.Return None)) (arrivals_length first f.arrivals) (arrivals_good f.arrivals (start_of f) sound.arrivals)
      (good_append code g (body_at f) (statement_size (body_kept f)) (statement_part f) (one f.place (act.Return None)) (statement_length first (body_kept f) (first + length f.objects) (body_at f) (end_at f) (end_at f)) body_good
      (record { fits = refl; jumps = refl; plain = refl }, tt))

  pub acts_are : acts_fit code g (body_code f) ≡ true
  acts_are = acts_append code g (objects_code f.place first f.objects) (from_arrivals f) (objects_fit f.place first f.objects image.objects sound.objects) (good_acts code g (start_of f) (from_arrivals f) rest_good)

  pub jumps_are : jumps_fit g.instrs 0 (body_code f) ≡ true
  jumps_are = objects_jump g.instrs f.place first 0 f.objects (from_arrivals f) (subst (λ n. jumps_fit g.instrs n (from_arrivals f) ≡ true) (omega arith) (good_jumps code g (start_of f) (from_arrivals f) rest_good))

  pub objects_are : objects_are_first (body_code f) ≡ true
  objects_are = objects_first f.place first f.objects (from_arrivals f) (good_plain code g (start_of f) (from_arrivals f) rest_good)

  pub ends_are : ends_in_itself (body_code f) ≡ true
  ends_are = after_ends (objects_code f.place first f.objects) (arrivals_code first f.arrivals) (statement_part f) (instr f.place (act.Return None)) refl

-- ---- functions of a program

replicated : (m n : ℕ) → n < m → slice_get (replicate m true) n ≡ Some true
replicated zero n lt = absurd (omega (arith, lt))
replicated (suc m) zero lt = refl
replicated (suc m) (suc n) lt = replicated m n (omega (arith, lt))

formals_within : (f : Function) → f.formals ≤ length f.pointers → f.formals ≤ length (function_kinds f)
formals_within f le = omega (arith, le, length-append f.pointers (replicate (length f.objects) true ++ statement_kinds (body_kept f)))

module _ (p : Program) (home : ℕ → Option ℕ) (none : p.pointers ≡ []) (sound : (k : ℕ) (f : Function) → slice_get p.functions k ≡ Some f → IsSoundFunction p home f) (addresses : (w : ℕ) → IsAddress p home w → is_address (lowered p) w ≡ true) where
  callee : (n : ℕ) (kinds : List Bool) (pointer : Bool) → IsFunction p n kinds pointer → (m : FlowFunction) × (slice_get (lowered p).functions n ≡ Some m) × IsCallee m kinds pointer
  callee n kinds pointer c =
      let h = c.0 in
      let le = (sound n h c.1).formals in (
        function_code h,
        slice_get-map function_code p.functions n ∙ ap (option_map function_code) c.1,
        record {
          not_main = c.2;
          formals = take-append-le h.formals h.pointers (replicate (length h.objects) true ++ statement_kinds (body_kept h)) le ∙ c.3;
          enough = formals_within h le;
          gives = c.4;
        },
      )

  object_kinds : (f : Function) (n : ℕ) → n < length f.objects → slice_get (function_kinds f) (length f.pointers + n) ≡ Some true
  object_kinds f n lt =
      slice_get-append_right f.pointers (replicate (length f.objects) true ++ statement_kinds (body_kept f)) n
      ∙ slice_get-append_found (replicate (length f.objects) true) (statement_kinds (body_kept f)) n true (replicated (length f.objects) n lt)

  has_site : (s : ℕ) → HasSite p s → is_site (lowered p) s ≡ true
  has_site s h = and_from (nat_le 1 s) (nat_le s (length p.sites)) (le-leb 1 s h.0) (le-leb s (length p.sites) h.1)

  image_of : (f : Function) → IsImage p home f (lowered p) (function_code f) (length f.pointers)
  image_of f = record {
    sized = refl;
    registers = λ n k h. slice_get-append_found f.pointers (replicate (length f.objects) true ++ statement_kinds (body_kept f)) n k h;
    objects = object_kinds f;
    gives = refl;
    calls = callee;
    no_pointers = none;
    sites = has_site;
    addresses = addresses;
  }

  registers_are : (f : Function) → f.formals ≤ length f.pointers → registers_fit (function_code f) ≡ true
  registers_are f le = and_from (nat_le f.formals (length (function_kinds f))) (length (function_kinds f) == length (function_kinds f)) (le-leb f.formals (length (function_kinds f)) (formals_within f le)) (eq-eqb (length (function_kinds f)) (length (function_kinds f)) refl)

  order_is : (f : Function) → IsSoundFunction p home f → order_fits (body_code f) ≡ true
  order_is f s =
      let g = function_code f in
      and_from (ends_in_itself (body_code f) && jumps_fit (body_code f) 0 (body_code f)) (objects_are_first (body_code f))
      (and_from (ends_in_itself (body_code f)) (jumps_fit (body_code f) 0 (body_code f)) (ends_are p home f (lowered p) g (image_of f) s refl refl) (jumps_are p home f (lowered p) g (image_of f) s refl refl))
      (objects_are p home f (lowered p) g (image_of f) s refl refl)

  loops_are : (f : Function) → IsSoundFunction p home f → loops_fit (function_code f) (statement_loops f.body (body_at f)) ≡ true
  loops_are f s =
      let g = function_code f in
      let few : length f.pointers ≤ g.registers = omega (arith, length-append f.pointers (replicate (length f.objects) true ++ statement_kinds (body_kept f))) in
      let within : end_at f < length g.instrs = in_code p home f (lowered p) g (image_of f) s refl refl in
      statement_fits g f.pointers (length f.objects) (length p.functions + length p.pointers) few f.body (body_at f) (statement_within p home f f.body s.body) (omega arith)

  pub function_is : (f : Function) → IsSoundFunction p home f → function_fits (lowered p) (function_code f) ≡ true
  function_is f s =
      let g = function_code f in
      and_from (registers_fit g && order_fits (body_code f) && acts_fit (lowered p) g (body_code f) && loops_fit g g.loops) true
      (and_from (registers_fit g && order_fits (body_code f) && acts_fit (lowered p) g (body_code f)) (loops_fit g g.loops)
      (and_from (registers_fit g && order_fits (body_code f)) (acts_fit (lowered p) g (body_code f))
      (and_from (registers_fit g) (order_fits (body_code f)) (registers_are f s.formals) (order_is f s))
      (acts_are p home f (lowered p) g (image_of f) s refl refl)) (loops_are f s)) refl
