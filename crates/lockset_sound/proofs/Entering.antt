-- How a function's frame begins: what it knows of its registers, what its locks mean, and what its formals hold.
use Rattle.std.proofs.Common.{◌≡◌, ◌≢◌, ℕ, zero, suc, ◌+◌, ◌<◌, ◌≤◌, nat_lt, not, Bool, true, false, if◌then◌else◌, ℤ, List, [], ◌∷◌, length, Option, Some, None, refl, sym, ap, subst, ◌∙◌, arith, eq-eqb, ltb-true}
use Rattle.std.specs.Prelude.{slice_get, slice_set}
use Rattle.std.specs.List.{Contains}
use Rattle.std.proofs.lemmas.Bool.{and_parts, true≢false}
use Rattle.std.proofs.lemmas.List.{length-set}
use Rattle.std.proofs.lemmas.Option.{slice_get_within}
use Rattle.rr_base.proofs.Lists.{slice_get_inside}
use Rattle.rr_base.specs.declared.layout.Site.{Site}
use Rattle.word_semantics.specs.Cells.{size_of}
use Rattle.word_semantics.specs.Library.{argument}
use Rattle.word_semantics.specs.Pointers.{pointer_at}
use Rattle.word_semantics.specs.Registers.{register}
use Rattle.flow_code.specs.declared.act.Act.{Act}
use Rattle.flow_code.specs.declared.act.Act.TheVariants as act
use Rattle.flow_code.specs.declared.act.Instr.{Instr}
use Rattle.flow_code.specs.declared.code.Code.{Code}
use Rattle.flow_code.specs.declared.code.Function.{Function}
use Rattle.flow_code.specs.Next.{act_in}
use Rattle.flow_code.specs.Threads.{Object, object, object_of, and_objects, objects_of, placed, with_arguments, instrs_in, registers_in, first_frame}
use Rattle.facts.specs.Blocks.{begins_block, assigns, constant_of, constant_at}
use Rattle.facts.specs.Locks.{nothing, after, successors, MinusBelow, Below, Points, IsSolution}
use Rattle.facts.specs.Paths.{Known, is_never_assigned, known_formal, known_of, known_at}
use Rattle.facts.specs.declared.locks.Held.{Held}
use Rattle.facts.specs.declared.locks.Minus.{Minus}
use Rattle.facts.specs.declared.locks.Minus.TheVariants.{All, Listed}
use Rattle.facts.specs.declared.locks.RelLocks.{RelLocks}
use Rattle.lockset_sound.specs.Leading.{is_fixed}
use Rattle.lockset_sound.proofs.Known.{set_other, not_false, IsKnown, formal_is, known_before, constant_before}

minus_trans : (a b c : Minus) → MinusBelow a b → MinusBelow b c → MinusBelow a c
minus_trans All b c h k = tt
minus_trans (Listed ps) All c h k = absurd h
minus_trans (Listed ps) (Listed qs) All h k = absurd k
minus_trans (Listed ps) (Listed qs) (Listed ts) h k = λ p i. h p (k p i)

pub below_trans : (a b c : RelLocks) → Below a b → Below b c → Below a c
below_trans a b c h k = record { plus = λ p i. k.plus p (h.plus p i); minus = minus_trans a.minus b.minus c.minus h.minus k.minus }

-- ---- the objects of a function stand first

record IsObject (is : List Instr) (j : ℕ) : Type 0 where
  instr : Instr
  into : ℕ
  site : ℕ
  at : slice_get is j ≡ Some instr
  allocs : instr.act ≡ act.Alloc into site None

makes_object : (a : Act) (o : Object) → object_of a ≡ Some o → (into : ℕ) × (site : ℕ) × (a ≡ act.Alloc into site None)
makes_object (act.Alloc into site None) o e = (into, site, refl)
makes_object (act.Alloc into site (Some size)) o e = cc
makes_object _ o e = cc

objects_first : (is : List Instr) (j : ℕ) → j < length (objects_of is) → IsObject is j
objects_first [] j lt = absurd (omega arith)
objects_first (i ∷ is) zero lt = by (object_of i.act) refl lt
  where
    by : (o : Option Object) → object_of i.act ≡ o → 0 < length (and_objects o (objects_of is)) → IsObject (i ∷ is) 0
    by None e l = absurd (omega arith)
    by (Some o) e l = let m = makes_object i.act o e in record { instr = i; into = m.0; site = m.1; at = refl; allocs = m.2 }
objects_first (i ∷ is) (suc j) lt = by (object_of i.act) lt (λ l. objects_first is j l)
  where
    more : IsObject is j → IsObject (i ∷ is) (suc j)
    more x = record { instr = x.instr; into = x.into; site = x.site; at = x.at; allocs = x.allocs }

    by : (o : Option Object) → suc j < length (and_objects o (objects_of is)) → (j < length (objects_of is) → IsObject is j) → IsObject (i ∷ is) (suc j)
    by None l rest = absurd (omega arith)
    by (Some o) l rest = more (rest (omega arith))

module _ (code : Code) (slots : ℕ) (f : Function) where
  act_there : (j : ℕ) (x : IsObject f.instrs j) → act_in (slice_get f.instrs j) ≡ Some (act.Alloc x.into x.site None)
  act_there j x = ap act_in x.at ∙ ap Some x.allocs

  known_objects : (j : ℕ) → j ≤ length (objects_of f.instrs) → (r : ℕ) (n : Known) → known_at f.formals f.instrs j r ≡ Some n → known_formal f.formals f.instrs r ≡ Some n
  known_objects zero le r n e = e
  known_objects (suc j) le r n e = block (begins_block f.instrs (suc j)) e (λ g. known_objects j (omega arith) r n g)
    where
      x : IsObject f.instrs j
      x = objects_first f.instrs j (omega arith)

      alloc : (b : Bool) → (if b then None else known_at f.formals f.instrs j r) ≡ Some n → (known_at f.formals f.instrs j r ≡ Some n → known_formal f.formals f.instrs r ≡ Some n) → known_formal f.formals f.instrs r ≡ Some n
      alloc true g rest = cc
      alloc false g rest = rest g

      block : (b : Bool) → (if b then known_formal f.formals f.instrs r else if assigns r (act_in (slice_get f.instrs j)) then known_of (known_before f j) (constant_before f j) (act_in (slice_get f.instrs j)) else known_at f.formals f.instrs j r) ≡ Some n → (known_at f.formals f.instrs j r ≡ Some n → known_formal f.formals f.instrs r ≡ Some n) → known_formal f.formals f.instrs r ≡ Some n
      block true g rest = g
      block false g rest = alloc (assigns r (Some (act.Alloc x.into x.site None))) (subst (λ o. (if assigns r o then known_of (known_before f j) (constant_before f j) o else known_at f.formals f.instrs j r) ≡ Some n) (act_there j x) g) rest

  no_constants : (j : ℕ) → j ≤ length (objects_of f.instrs) → (r : ℕ) (z : ℤ) → constant_at f.instrs j r ≡ Some z → ⊥
  no_constants zero le r z e = cc
  no_constants (suc j) le r z e = block (begins_block f.instrs (suc j)) e (λ g. no_constants j (omega arith) r z g)
    where
      x : IsObject f.instrs j
      x = objects_first f.instrs j (omega arith)

      alloc : (b : Bool) → (if b then None else constant_at f.instrs j r) ≡ Some z → (constant_at f.instrs j r ≡ Some z → ⊥) → ⊥
      alloc true g rest = cc
      alloc false g rest = rest g

      block : (b : Bool) → (if b then None else if assigns r (act_in (slice_get f.instrs j)) then constant_of (act_in (slice_get f.instrs j)) else constant_at f.instrs j r) ≡ Some z → (constant_at f.instrs j r ≡ Some z → ⊥) → ⊥
      block true g rest = cc
      block false g rest = alloc (assigns r (Some (act.Alloc x.into x.site None))) (subst (λ o. (if assigns r o then constant_of o else constant_at f.instrs j r) ≡ Some z) (act_there j x) g) rest

  known_first : (rs : List ℕ) → length rs ≡ f.registers → IsKnown code slots f (length (objects_of f.instrs)) rs
  known_first rs long = record {
    long = long;
    words = λ r n e. formal_is code slots f rs r n (known_objects (length (objects_of f.instrs)) (omega arith) r n e);
    constants = λ r z e. absurd (no_constants (length (objects_of f.instrs)) (omega arith) r z e);
  }

  -- after the objects no more is known than at the entry
  pub locks_first : (exits : List RelLocks) (top : List Held) (x : Points) → IsSolution exits f top x → (j : ℕ) → j ≤ length (objects_of f.instrs) → (l : RelLocks) → slice_get x.before j ≡ Some l → Below l nothing
  locks_first exits top x solves zero le l e = solves.entry l e
  locks_first exits top x solves (suc j) le l e =
      let o = objects_first f.instrs j (omega arith) in
      let within = slice_get_within f.instrs j o.instr o.at in
      let long = solves.long in
      let before = slice_get_inside x.before j (omega arith) in
      let next : Contains (successors j o.instr.act) (suc j) = subst (λ a. Contains (successors j a) (suc j)) (sym o.allocs) (0, omega arith, omega arith) in
      let b = solves.steps j (suc j) o.instr before.0 l o.at next before.1 e in
      below_trans l before.0 nothing (subst (λ a. Below l (after exits f j a before.0)) o.allocs b) (locks_first exits top x solves j (omega arith) before.0 before.1)

-- ---- the first registers

pub args_at : (n : ℕ) (args : List ℕ) (i : ℕ) → i < n → register (with_arguments n args) i ≡ argument args i
args_at zero args i lt = absurd (omega arith)
args_at (suc n) [] zero lt = refl
args_at (suc n) [] (suc i) lt = args_at n [] i (omega arith)
args_at (suc n) (a ∷ args) zero lt = refl
args_at (suc n) (a ∷ args) (suc i) lt = args_at n args i (omega arith)

args_long : (n : ℕ) (args : List ℕ) → length (with_arguments n args) ≡ n
args_long zero args = refl
args_long (suc n) [] = ap suc (args_long n [])
args_long (suc n) (a ∷ args) = ap suc (args_long n args)

placed_long : (sites : List Site) (os : List Object) (at : ℕ) (rs : List ℕ) → length (placed sites os at rs) ≡ length rs
placed_long sites [] at rs = refl
placed_long sites (object into site ∷ os) at rs = placed_long sites os (at + size_of sites site) (slice_set rs into (pointer_at site at (size_of sites site))) ∙ length-set rs into (pointer_at site at (size_of sites site))

placed_never : (sites : List Site) (is : List Instr) (at : ℕ) (rs : List ℕ) (r : ℕ) → is_never_assigned is r ≡ true → register (placed sites (objects_of is) at rs) r ≡ register rs r
placed_never sites [] at rs r h = refl
placed_never sites (i ∷ is) at rs r h =
    let a = and_parts (not (assigns r (Some i.act))) (is_never_assigned is r) h in
    by (object_of i.act) refl (not_false (assigns r (Some i.act)) a.0) (λ at2 qs. placed_never sites is at2 qs r a.1)
  where
    by : (o : Option Object) → object_of i.act ≡ o → assigns r (Some i.act) ≡ false → ((at2 : ℕ) (qs : List ℕ) → register (placed sites (objects_of is) at2 qs) r ≡ register qs r) → register (placed sites (and_objects o (objects_of is)) at rs) r ≡ register rs r
    by None e n rest = refl
    by (Some (object into site)) e n rest =
        let m = makes_object i.act (object into site) e in
        let same : object m.0 m.1 ≡ object into site = some_object (sym (ap object_of m.2) ∙ e) in
        let here : m.0 ≡ into = cc in
        let apart : r ≢ into = λ q. true≢false (sym (eq-eqb m.0 r (here ∙ sym q)) ∙ sym (ap (λ z. assigns r (Some z)) m.2) ∙ n) in
        rest (at + size_of sites site) (slice_set rs into (pointer_at site at (size_of sites site))) ∙ set_other rs into (pointer_at site at (size_of sites site)) r apart
      where
        some_object : {x y : Object} → Some x ≡ Some y → x ≡ y
        some_object h = cc

-- ---- the first frame

module _ (code : Code) (slots : ℕ) (number : ℕ) (f : Function) (there : slice_get code.functions number ≡ Some f) (args : List ℕ) (arena : ℕ) where
  pub frame_known : IsKnown code slots f (first_frame code number args arena).instr (first_frame code number args arena).registers
  frame_known =
      subst (λ o. IsKnown code slots f (length (objects_of (instrs_in o))) (placed code.sites (objects_of (instrs_in o)) arena (with_arguments (registers_in o) args))) (sym there)
      (known_first code slots f (placed code.sites (objects_of f.instrs) arena (with_arguments f.registers args)) (placed_long code.sites (objects_of f.instrs) arena (with_arguments f.registers args) ∙ args_long f.registers args))

  pub frame_locks : (exits : List RelLocks) (top : List Held) (x : Points) (l : RelLocks) → IsSolution exits f top x → slice_get x.before (first_frame code number args arena).instr ≡ Some l → Below l nothing
  frame_locks exits top x l solves e = locks_first code slots f exits top x solves (length (objects_of f.instrs)) (omega arith) l (subst (λ o. slice_get x.before (length (objects_of (instrs_in o))) ≡ Some l) there e)

  pub frame_handed : (i : ℕ) → f.formals ≤ f.registers → is_fixed f i ≡ true → register (first_frame code number args arena).registers i ≡ argument args i
  frame_handed i le fixed =
      let a = and_parts (nat_lt i f.formals) (is_never_assigned f.instrs i) fixed in
      let lt = ltb-true i f.formals a.0 in
      subst (λ o. register (placed code.sites (objects_of (instrs_in o)) arena (with_arguments (registers_in o) args)) i ≡ argument args i) (sym there)
      (placed_never code.sites f.instrs arena (with_arguments f.registers args) i a.1 ∙ args_at f.registers args i (omega arith))
