-- Frames as the conditions of a checkpoint want them, and what becomes of them: each stands at an instruction of its function, has
-- that function's registers, and all but the running one stand at a call of the next.
use Rattle.std.proofs.Common.{◌≡◌, ℕ, zero, suc, ◌+◌, ◌-◌, ◌<◌, ◌≤◌, inl, ⊎_elim, true, false, ℤ, List, [], ◌∷◌, ◌++◌, length, take, Option, Some, None, refl, sym, ap, ◌∙◌, subst, arith}
use Rattle.std.specs.Prelude.{◌&&◌, slice_get, slice_set, is_some}
use Rattle.std.proofs.lemmas.Bool.{cases_lt, true≢false}
use Rattle.std.proofs.lemmas.List.{length-set}
use Rattle.std.proofs.lemmas.Option.{same_Some, slice_get_within}
use Rattle.rr_base.specs.declared.layout.Site.{Site}
use Rattle.word_semantics.specs.Cells.{size_of}
use Rattle.word_semantics.specs.Pointers.{pointer_at}
use Rattle.word_semantics.specs.Registers.{words_of}
use Rattle.flow_code.specs.declared.act.Act.{Act}
use Rattle.flow_code.specs.declared.act.Act.TheVariants as act
use Rattle.flow_code.specs.declared.act.Instr.{Instr}
use Rattle.flow_code.specs.declared.code.Code.{Code}
use Rattle.flow_code.specs.declared.code.Function.{Function}
use Rattle.flow_code.specs.Kinds.{act_fits, may_start}
use Rattle.flow_code.specs.Next.{act_in, act_at, past, jumped, given}
use Rattle.flow_code.specs.Order.{is_end, ends_in_itself, jumps_fit}
use Rattle.flow_code.specs.Threads.{Frame, Object, object, instr_in, instr_at, instrs_in, registers_in, object_of, and_objects, objects_of, objects_in, placed, with_arguments, first_frame, is_main, is_main_in}
use Rattle.flow_code.specs.Valid.{is_valid, function_fits}
use Rattle.flow_code.proofs.ValidParts.{left, function_is_fit, act_is_fit, order_is_fit}
use Rattle.flow_code.proofs.Shapes.{StandsIn}
use Rattle.snapshots.specs.Conditions.{calls}
use Rattle.frame_sound.proofs.Calls.{Goes}

-- ---- lists

some_at : {A : Type 0} (xs : List A) (k : ℕ) → k < length xs → is_some (slice_get xs k) ≡ true
some_at [] k lt = absurd (omega (arith, lt))
some_at (x ∷ xs) zero lt = refl
some_at (x ∷ xs) (suc k) lt = some_at xs k (omega (arith, lt))

-- ---- the instructions of a function

module _ (code : Code) where
  -- the code has the function
  abbrev pub IsThere : ℕ → Type 0
  IsThere f = (fn : Function) × (slice_get code.functions f ≡ Some fn)

  pub may_start_there : (f : ℕ) → may_start (slice_get code.functions f) ≡ true → IsThere f
  may_start_there f h = by (slice_get code.functions f) refl h
    where
      by : (o : Option Function) → slice_get code.functions f ≡ o → may_start o ≡ true → IsThere f
      by None e g = cc
      by (Some fn) e g = (fn, e)

  pub main_there : (f : ℕ) → is_main code f ≡ true → IsThere f
  main_there f h = by (slice_get code.functions f) refl h
    where
      by : (o : Option Function) → slice_get code.functions f ≡ o → is_main_in o ≡ true → IsThere f
      by None e g = cc
      by (Some fn) e g = (fn, e)

  -- a frame stands at an instruction where its number is below theirs
  pub stands_at : (f : Frame) → StandsIn code f → is_some (instr_at code f) ≡ true
  stands_at f h = by (slice_get code.functions f.function) h
    where
      by : (o : Option Function) → f.instr < length (instrs_in o) → is_some (instr_in o f.instr) ≡ true
      by None lt = absurd (omega (arith, lt))
      by (Some fn) lt = some_at fn.instrs f.instr lt

  -- an instruction of a function that the code has
  pub record HasAct (f : Frame) (a : Act) : Type 0 where
    pub function : Function
    pub is_function : slice_get code.functions f.function ≡ Some function
    pub instr : Instr
    pub is_instr : slice_get function.instrs f.instr ≡ Some instr
    pub is_act : instr.act ≡ a

  pub has_act : (f : Frame) (a : Act) → act_at code f ≡ Some a → HasAct f a
  has_act f a e = by (slice_get code.functions f.function) refl e
    where
      at : (fn : Function) (o : Option Instr) → slice_get code.functions f.function ≡ Some fn → slice_get fn.instrs f.instr ≡ o → act_in o ≡ Some a → HasAct f a
      at fn None h k g = cc
      at fn (Some i) h k g = record { function = fn; is_function = h; instr = i; is_instr = k; is_act = same_Some i.act a g }

      by : (o : Option Function) → slice_get code.functions f.function ≡ o → act_in (instr_in o f.instr) ≡ Some a → HasAct f a
      by None h g = cc
      by (Some fn) h g = at fn (slice_get fn.instrs f.instr) h refl g

  module _ (valid : is_valid code ≡ true) where
    ends : (fn : Function) → function_fits code fn ≡ true → is_end (act_in (slice_get fn.instrs (length fn.instrs - 1))) ≡ true
    ends fn fits = left (ends_in_itself fn.instrs) _ (left (ends_in_itself fn.instrs && jumps_fit fn.instrs 0 fn.instrs) _ (order_is_fit code fn fits))

    -- an instruction that doesn't end the function isn't its last one
    not_last : (is : List Instr) (k : ℕ) (i : Instr) → is_end (act_in (slice_get is (length is - 1))) ≡ true → slice_get is k ≡ Some i → is_end (Some i.act) ≡ false → k + 1 < length is
    not_last is k i e at straight =
        let within = slice_get_within is k i at in
        ⊎_elim (λ lt. lt) (λ le. (let last : k ≡ length is - 1 = omega (arith, within, le) in absurd (true≢false (sym e ∙ ap (λ n. is_end (act_in (slice_get is n))) (sym last) ∙ ap (λ o. is_end (act_in o)) at ∙ straight)))) (cases_lt (k + 1) (length is))

    pub next_stands : (f : Frame) (a : Act) → act_at code f ≡ Some a → is_end (Some a) ≡ false → f.instr + 1 < length (instrs_in (slice_get code.functions f.function))
    next_stands f a e straight =
        let h = has_act f a e in
        let ends_at = ends h.function (function_is_fit code valid f.function h.function h.is_function) in
        subst (λ o. f.instr + 1 < length (instrs_in o)) (sym h.is_function) (not_last h.function.instrs f.instr h.instr ends_at h.is_instr (ap (λ z. is_end (Some z)) h.is_act ∙ straight))

    pub fits_at : (f : Frame) (a : Act) → act_at code f ≡ Some a → (fn : Function) × (slice_get code.functions f.function ≡ Some fn) × (act_fits code fn a ≡ true)
    fits_at f a e =
        let h = has_act f a e in
        (h.function, h.is_function, subst (λ z. act_fits code h.function z ≡ true) h.is_act (act_is_fit code h.function (function_is_fit code valid f.function h.function h.is_function) f.instr h.instr h.is_instr))

    -- ---- the first frame of a function

    no_object : (i : Instr) → is_end (Some i.act) ≡ true → object_of i.act ≡ None
    no_object i h = by i.act h
      where
        by : (a : Act) → is_end (Some a) ≡ true → object_of a ≡ None
        by (act.Jump to) g = refl
        by (act.Branch on then_at else_at) g = refl
        by (act.Return value) g = refl
        by _ g = cc

    -- objects are made before the last instruction
    few_objects : (is : List Instr) (n : ℕ) → length is ≡ suc n → is_end (act_in (slice_get is n)) ≡ true → length (objects_of is) ≤ n
    few_objects [] n long e = absurd (omega (arith, long))
    few_objects (i ∷ is) zero long e =
        let none = no_object i e in
        subst (λ o. length (and_objects o (objects_of is)) ≤ 0) (sym none) (omega arith)
    few_objects (i ∷ is) (suc n) long e = by (object_of i.act) (few_objects is n (omega (arith, long)) e)
      where
        by : (o : Option Object) → length (objects_of is) ≤ n → length (and_objects o (objects_of is)) ≤ suc n
        by None h = omega arith
        by (Some x) h = omega (arith, h)

    pub begins_in : (f : ℕ) → IsThere f → length (objects_in code f) < length (instrs_in (slice_get code.functions f))
    begins_in f t = subst (λ o. length (objects_of (instrs_in o)) < length (instrs_in o)) (sym t.1) (by t.0.instrs (ends t.0 (function_is_fit code valid f t.0 t.1)))
      where
        by : (is : List Instr) → is_end (act_in (slice_get is (length is - 1))) ≡ true → length (objects_of is) < length is
        by [] e = cc
        by (i ∷ is) e =
            let less : length (i ∷ is) - 1 ≡ length is = omega arith in
            let few = few_objects (i ∷ is) (length is) refl (subst (λ n. is_end (act_in (slice_get (i ∷ is) n)) ≡ true) less e) in
            omega (arith, few)

  arguments_length : (n : ℕ) (arguments : List ℕ) → length (with_arguments n arguments) ≡ n
  arguments_length zero arguments = refl
  arguments_length (suc n) [] = ap suc (arguments_length n [])
  arguments_length (suc n) (a ∷ arguments) = ap suc (arguments_length n arguments)

  placed_length : (sites : List Site) (os : List Object) (at : ℕ) (registers : List ℕ) → length (placed sites os at registers) ≡ length registers
  placed_length sites [] at registers = refl
  placed_length sites (object into site ∷ os) at registers =
      placed_length sites os (at + size_of sites site) (slice_set registers into (pointer_at site at (size_of sites site))) ∙ length-set registers into (pointer_at site at (size_of sites site))

  -- ---- the running frame

  module _ (slots : ℕ) where
    -- a call stands before its event, and in a call of the library the remaining events go on
    abbrev pub GoesAt : Option Act → (made : ℕ) (kept : ℤ) (registers : List ℕ) → Type 0
    GoesAt (Some (act.Call g arguments into)) made kept registers = made ≡ 0
    GoesAt (Some (act.Library c arguments into)) made kept registers = Goes code.sites slots (words_of registers arguments) c made kept
    GoesAt _ made kept registers = Unit {0}

    -- a frame of these registers at this instruction of this function
    pub record Stands (f : Frame) : Type 0 where
      pub at : StandsIn code f
      pub whole : length f.registers ≡ registers_in (slice_get code.functions f.function)

    pub record Running (f : Frame) : Type 0 where
      pub stands : Stands f
      pub goes : GoesAt (act_at code f) f.made f.kept f.registers

    none_made : (o : Option Act) (kept : ℤ) (registers : List ℕ) → GoesAt o 0 kept registers
    none_made None kept registers = tt
    none_made (Some (act.Compute into work)) kept registers = tt
    none_made (Some (act.Alloc into site size)) kept registers = tt
    none_made (Some (act.LoadCell into through)) kept registers = tt
    none_made (Some (act.StoreCell through from)) kept registers = tt
    none_made (Some act.Mark) kept registers = tt
    none_made (Some (act.Call g arguments into)) kept registers = refl
    none_made (Some (act.Library c arguments into)) kept registers = inl refl
    none_made (Some (act.Jump to)) kept registers = tt
    none_made (Some (act.Branch on then_at else_at)) kept registers = tt
    none_made (Some (act.Return value)) kept registers = tt
    none_made (Some (act.Take region)) kept registers = tt
    none_made (Some (act.Give region)) kept registers = tt

    -- at the begin of an instruction
    pub begins_at : (f : Frame) → f.made ≡ 0 → Stands f → Running f
    begins_at f e h = record { stands = h; goes = subst (λ n. GoesAt (act_at code f) n f.kept f.registers) (sym e) (none_made (act_at code f) f.kept f.registers) }

    pub given_stands : (f : Frame) (into : Option ℕ) (w : ℕ) → f.instr + 1 < length (instrs_in (slice_get code.functions f.function)) → Stands f → Stands (past (given f into w))
    given_stands f None w next h = record { at = next; whole = h.whole }
    given_stands f (Some r) w next h = record { at = next; whole = length-set f.registers r w ∙ h.whole }

    pub goes_past : (f : Frame) (into : Option ℕ) (w : ℕ) → f.instr + 1 < length (instrs_in (slice_get code.functions f.function)) → Stands f → Running (past (given f into w))
    goes_past f into w next h = begins_at (past (given f into w)) refl (given_stands f into w next h)

    pub goes_to : (f : Frame) (to : ℕ) → to < length (instrs_in (slice_get code.functions f.function)) → Stands f → Running (jumped f to)
    goes_to f to lt h = begins_at (jumped f to) refl (record { at = lt; whole = h.whole })

    pub first_runs : is_valid code ≡ true → (f : ℕ) (arguments : List ℕ) (arena : ℕ) → IsThere f → Running (first_frame code f arguments arena)
    first_runs valid f arguments arena t =
        begins_at (first_frame code f arguments arena) refl
        (record {
          at = begins_in valid f t;
          whole = placed_length code.sites (objects_in code f) arena (with_arguments (registers_in (slice_get code.functions f)) arguments) ∙ arguments_length (registers_in (slice_get code.functions f)) arguments;
        })

    -- ---- the frames below

    -- the frame stands at a call, of which one event is made
    pub record Waiting (f : Frame) : Type 0 where
      pub stands : Stands f
      pub made : f.made ≡ 1
      pub callee : ℕ
      pub call : calls (act_at code f) callee ≡ true

    -- the frame before, if there is one, stands at a call of the function
    abbrev pub Called : Option Frame → ℕ → Type 0
    Called None f = Unit {0}
    Called (Some g) f = calls (act_at code g) f ≡ true

    -- each of these frames stands at a call of the next, and the last at one of this function
    abbrev pub Chain : Option Frame → List Frame → ℕ → Type 0
    Chain before [] f = Called before f
    Chain before (g ∷ gs) f = Called before g.function × Waiting g × Chain (Some g) gs f

    pub one_more : (before : Option Frame) (gs : List Frame) (x : Frame) (f : ℕ) → Chain before gs x.function → Waiting x → calls (act_at code x) f ≡ true → Chain before (gs ++ x ∷ []) f
    one_more before [] x f h w c = (h, w, c)
    one_more before (g ∷ gs) x f h w c = (h.0, h.1, one_more (Some g) gs x f h.2 w c)

    last_one : (before : Option Frame) (n : ℕ) (gs : List Frame) (x : Frame) (f : ℕ) → length gs ≡ suc n → slice_get gs n ≡ Some x → Chain before gs f → Waiting x × Chain before (take n gs) x.function
    last_one before n [] x f long e h = cc
    last_one before zero (g ∷ gs) x f long e h = let same = same_Some g x e in (subst Waiting same h.1, subst (λ (z : Frame). Called before z.function) same h.0)
    last_one before (suc n) (g ∷ gs) x f long e h =
        let more = last_one (Some g) n gs x f (omega (arith, long)) e h.2 in
        (more.0, (h.0, h.1, more.1))

    pub one_less : (gs : List Frame) (x : Frame) (f : ℕ) → slice_get gs (length gs - 1) ≡ Some x → Chain None gs f → Waiting x × Chain None (take (length gs - 1) gs) x.function
    one_less gs x f e h = let within = slice_get_within gs (length gs - 1) x e in last_one None (length gs - 1) gs x f (omega (arith, within)) e h
