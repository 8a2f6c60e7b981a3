-- What a function knows of its registers is what they hold, wherever a frame of it stands.
use Rattle.std.proofs.Common.{◌≡◌, ◌≢◌, ℕ, zero, suc, ◌+◌, ◌*◌, ◌^◌, ◌<◌, nat_lt, nat_le, not, Bool, true, false, if◌then◌else◌, ℤ, List, length, Option, Some, None, refl, sym, ap, subst, ◌∙◌, arith}
use Rattle.std.specs.Prelude.{slice_get, slice_set}
use Rattle.std.proofs.lemmas.Bool.{and_parts, leb-false}
use Rattle.std.proofs.lemmas.Option.{same_Some}
use Rattle.std.proofs.lemmas.List.{get_or-set_other, get_or-set_same}
use Rattle.rr_base.specs.Words.{site_of, base_of, length_of, offset_of}
use Rattle.rr_base.specs.declared.layout.CellKind.{CellKind}
use Rattle.word_semantics.specs.Pointers.{site_at, kind_in}
use Rattle.word_semantics.specs.Registers.{register}
use Rattle.word_semantics.specs.Values.{number}
use Rattle.flow_code.specs.declared.act.Act.{Act}
use Rattle.flow_code.specs.declared.act.Instr.{Instr}
use Rattle.flow_code.specs.declared.code.Code.{Code}
use Rattle.flow_code.specs.declared.code.Function.{Function}
use Rattle.flow_code.specs.Next.{act_in}
use Rattle.flow_code.proofs.ValidParts.{each}
use Rattle.facts.specs.Blocks.{begins_block, assigns, constant_of, constant_at}
use Rattle.facts.specs.Paths.{Root, global, formal, Known, known_formal, known_of, known_at, path_to, naming_of, naming_at, most_cells}
use Rattle.facts.specs.declared.locks.LockPath.{LockPath}
use Rattle.facts.specs.declared.locks.LockPath.TheVariants.{Cell, Formal}
use Rattle.facts.specs.declared.locks.Naming.TheVariants.{Nowhere, Named}
use Rattle.lockset_sound.specs.Leading.{is_fixed}
use Rattle.lockset_sound.proofs.Addresses.{on_site, on_base, on_length, on_offset}

-- ---- registers

pub set_same : (rs : List ℕ) (into w : ℕ) → into < length rs → register (slice_set rs into w) into ≡ w
set_same rs into w lt = get_or-set_same rs into w 0 lt

pub set_other : (rs : List ℕ) (into w r : ℕ) → r ≢ into → register (slice_set rs into w) r ≡ register rs r
set_other rs into w r ne = get_or-set_other rs into r w 0 ne

pub not_false : (b : Bool) → not b ≡ true → b ≡ false
not_false true e = cc
not_false false e = refl

-- no instruction assigns a fixed formal
pub never : (f : Function) (k : ℕ) (i : Instr) (r : ℕ) → slice_get f.instrs k ≡ Some i → is_fixed f r ≡ true → assigns r (Some i.act) ≡ false
never f k i r at fixed = not_false (assigns r (Some i.act)) (each (λ j. not (assigns r (Some j.act))) f.instrs k i (and_parts (nat_lt r f.formals) _ fixed).1 at)

-- ---- words behind roots

-- the word points to the first cell of the object that begins at this global cell, whose kinds are those of the global cells
pub record PointsToGlobal (code : Code) (slots : ℕ) (b v : ℕ) : Type 0 where
  pub base : base_of v ≡ b + 2 * slots
  pub front : offset_of v ≡ 0
  pub kinds : (n : ℕ) (k : CellKind) → n < length_of v → kind_in (site_at code.sites (site_of v)) n ≡ Some k → slice_get code.global_kinds (b + n) ≡ Some k

abbrev pub RootIs : Code → ℕ → Function → List ℕ → Root → ℕ → Type 0
RootIs code slots f rs (global b) v = PointsToGlobal code slots b v
RootIs code slots f rs (formal i) v = (is_fixed f i ≡ true) × (v ≡ register rs i)

-- the word is so many cells behind the root's
pub record IsAfter (code : Code) (slots : ℕ) (f : Function) (rs : List ℕ) (n : Known) (w : ℕ) : Type 0 where
  pub root : ℕ
  pub is : RootIs code slots f rs n.root root
  pub word : w ≡ root + n.cells
  pub near : offset_of root + n.cells < 2 ^ 16

-- each register holds what is known of it
pub record IsKnown (code : Code) (slots : ℕ) (f : Function) (k : ℕ) (rs : List ℕ) : Type 0 where
  pub long : length rs ≡ f.registers
  pub words : (r : ℕ) (n : Known) → known_at f.formals f.instrs k r ≡ Some n → IsAfter code slots f rs n (register rs r)
  pub constants : (r : ℕ) (z : ℤ) → constant_at f.instrs k r ≡ Some z → number (register rs r) ≡ z

abbrev pub known_to : Root → ℕ → Known
known_to x n = record { root = x; cells = n }

pub formal_is : (code : Code) (slots : ℕ) (f : Function) (rs : List ℕ) (r : ℕ) (n : Known) → known_formal f.formals f.instrs r ≡ Some n → IsAfter code slots f rs n (register rs r)
formal_is code slots f rs r n e = by (is_fixed f r) refl e
  where
    by : (b : Bool) → is_fixed f r ≡ b → (if b then Some (known_to (formal r) 0) else None) ≡ Some n → IsAfter code slots f rs n (register rs r)
    by true h g = subst (λ z. IsAfter code slots f rs z (register rs r)) (same_Some (known_to (formal r) 0) n g) (record { root = register rs r; is = (h, refl); word = omega arith; near = omega arith })
    by false h g = cc

if_true : {A : Type 0} (b : Bool) (x y z : A) → b ≡ true → (if b then x else y) ≡ z → x ≡ z
if_true true x y z e h = h
if_true false x y z e h = cc

none_some : {A : Type 0} (x : A) → None ≡ Some x → ⊥
none_some x e = cc

-- where a block begins no register is known but formals
pub begins : (code : Code) (slots : ℕ) (f : Function) (k : ℕ) (rs : List ℕ) → length rs ≡ f.registers → begins_block f.instrs k ≡ true → IsKnown code slots f k rs
begins code slots f zero rs long e = record { long = long; words = λ r n g. formal_is code slots f rs r n g; constants = λ r z g. absurd (none_some z g) }
begins code slots f (suc k) rs long e = record {
  long = long;
  words = λ r n g. formal_is code slots f rs r n (if_true (begins_block f.instrs (suc k)) (known_formal f.formals f.instrs r) _ (Some n) e g);
  constants = λ r z g. absurd (none_some z (if_true (begins_block f.instrs (suc k)) None _ (Some z) e g));
}

-- ---- one instruction

abbrev pub known_before : Function → ℕ → ℕ → Option Known
known_before f k q = known_at f.formals f.instrs k q

abbrev pub constant_before : Function → ℕ → ℕ → Option ℤ
constant_before f k q = constant_at f.instrs k q

-- an instruction that changes no register but the one that it assigns, to what is known of that after it
pub record Changes (code : Code) (slots : ℕ) (f : Function) (k : ℕ) (a : Act) (rs qs : List ℕ) : Type 0 where
  pub long : length qs ≡ length rs
  pub others : (r : ℕ) → assigns r (Some a) ≡ false → register qs r ≡ register rs r
  pub gives : (r : ℕ) (n : Known) → assigns r (Some a) ≡ true → known_of (known_before f k) (constant_before f k) (Some a) ≡ Some n → IsAfter code slots f rs n (register qs r)
  pub constant : (r : ℕ) (z : ℤ) → assigns r (Some a) ≡ true → constant_of (Some a) ≡ Some z → number (register qs r) ≡ z

root_kept : (code : Code) (slots : ℕ) (f : Function) (rs qs : List ℕ) (x : Root) (v : ℕ) → ((i : ℕ) → is_fixed f i ≡ true → register qs i ≡ register rs i) → RootIs code slots f rs x v → RootIs code slots f qs x v
root_kept code slots f rs qs (global b) v h r = r
root_kept code slots f rs qs (formal i) v h r = (r.0, r.1 ∙ sym (h i r.0))

pub after_kept : (code : Code) (slots : ℕ) (f : Function) (rs qs : List ℕ) (n : Known) (w : ℕ) → ((i : ℕ) → is_fixed f i ≡ true → register qs i ≡ register rs i) → IsAfter code slots f rs n w → IsAfter code slots f qs n w
after_kept code slots f rs qs n w h b = record { root = b.root; is = root_kept code slots f rs qs n.root b.root h b.is; word = b.word; near = b.near }

pub step : (code : Code) (slots : ℕ) (f : Function) (k : ℕ) (i : Instr) (rs qs : List ℕ) → slice_get f.instrs k ≡ Some i → IsKnown code slots f k rs → Changes code slots f k i.act rs qs → IsKnown code slots f (suc k) qs
step code slots f k i rs qs at h c = record { long = c.long ∙ h.long; words = λ r n e. first r n (begins_block f.instrs (suc k)) e; constants = λ r z e. third r z (begins_block f.instrs (suc k)) e }
  where
    fixed : (r : ℕ) → is_fixed f r ≡ true → register qs r ≡ register rs r
    fixed r e = c.others r (never f k i r at e)

    second : (r : ℕ) (n : Known) (b : Bool) → assigns r (Some i.act) ≡ b → (if b then known_of (known_before f k) (constant_before f k) (Some i.act) else known_at f.formals f.instrs k r) ≡ Some n → IsAfter code slots f qs n (register qs r)
    second r n true a g = after_kept code slots f rs qs n (register qs r) fixed (c.gives r n a g)
    second r n false a g = subst (IsAfter code slots f qs n) (sym (c.others r a)) (after_kept code slots f rs qs n (register rs r) fixed (h.words r n g))

    first : (r : ℕ) (n : Known) (b : Bool) → (if b then known_formal f.formals f.instrs r else if assigns r (act_in (slice_get f.instrs k)) then known_of (known_before f k) (constant_before f k) (act_in (slice_get f.instrs k)) else known_at f.formals f.instrs k r) ≡ Some n → IsAfter code slots f qs n (register qs r)
    first r n true g = formal_is code slots f qs r n g
    first r n false g = second r n (assigns r (Some i.act)) refl (subst (λ o. (if assigns r (act_in o) then known_of (known_before f k) (constant_before f k) (act_in o) else known_at f.formals f.instrs k r) ≡ Some n) at g)

    fourth : (r : ℕ) (z : ℤ) (b : Bool) → assigns r (Some i.act) ≡ b → (if b then constant_of (Some i.act) else constant_at f.instrs k r) ≡ Some z → number (register qs r) ≡ z
    fourth r z true a g = c.constant r z a g
    fourth r z false a g = ap number (c.others r a) ∙ h.constants r z g

    third : (r : ℕ) (z : ℤ) (b : Bool) → (if b then None else if assigns r (act_in (slice_get f.instrs k)) then constant_of (act_in (slice_get f.instrs k)) else constant_at f.instrs k r) ≡ Some z → number (register qs r) ≡ z
    third r z true g = cc
    third r z false g = fourth r z (assigns r (Some i.act)) refl (subst (λ o. (if assigns r (act_in o) then constant_of (act_in o) else constant_at f.instrs k r) ≡ Some z) at g)

-- ---- the names of locks

-- the word points to this global cell, in an object whose kinds are those of the global cells
pub record IsAtGlobal (code : Code) (slots : ℕ) (m w : ℕ) : Type 0 where
  pub first : ℕ
  pub base : base_of w ≡ first + 2 * slots
  pub cell : first + offset_of w ≡ m
  pub kinds : (n : ℕ) (k : CellKind) → n < length_of w → kind_in (site_at code.sites (site_of w)) n ≡ Some k → slice_get code.global_kinds (first + n) ≡ Some k

-- the word is the one to which the path leads
abbrev pub IsAt : Code → ℕ → Function → List ℕ → LockPath → ℕ → Type 0
IsAt code slots f rs (Cell m) w = IsAtGlobal code slots m w
IsAt code slots f rs (Formal j m) w = (is_fixed f j ≡ true) × (w ≡ register rs j + m) × (offset_of (register rs j) + m < 2 ^ 16)

path_is : (code : Code) (slots : ℕ) (f : Function) (rs : List ℕ) (x : Root) (n w : ℕ) → IsAfter code slots f rs (known_to x n) w → IsAt code slots f rs (path_to x n) w
path_is code slots f rs (global b) n w h = subst (IsAtGlobal code slots (b + n)) (sym h.word) (record {
  first = b;
  base = on_base h.root n h.near ∙ h.is.base;
  cell = (let o = on_offset h.root n h.near in let front = h.is.front in omega arith);
  kinds = λ i k lt e. h.is.kinds i k (subst (λ z. i < z) (on_length h.root n h.near) lt) (ap (λ z. kind_in (site_at code.sites z) i) (sym (on_site h.root n h.near)) ∙ e);
})
path_is code slots f rs (formal i) n w h = (h.is.0, h.word ∙ ap (λ z. z + n) h.is.1, subst (λ z. offset_of z + n < 2 ^ 16) h.is.1 h.near)

module _ (code : Code) (slots : ℕ) (f : Function) (k : ℕ) (rs : List ℕ) (h : IsKnown code slots f k rs) (r : ℕ) where
  -- a register that has a name stands where its path leads
  pub named : (p : LockPath) → naming_at f k r ≡ Named p → IsAt code slots f rs p (register rs r)
  named p e = by (known_at f.formals f.instrs k r) refl e
    where
      in_reach : (n : Known) (b : Bool) → known_at f.formals f.instrs k r ≡ Some n → (if b then Named (path_to n.root n.cells) else Nowhere) ≡ Named p → IsAt code slots f rs p (register rs r)
      in_reach n true g i = let same : path_to n.root n.cells ≡ p = cc in subst (λ z. IsAt code slots f rs z (register rs r)) same (path_is code slots f rs n.root n.cells (register rs r) (let b = h.words r n g in record { root = b.root; is = b.is; word = b.word; near = b.near }))
      in_reach n false g i = cc

      by : (o : Option Known) → known_at f.formals f.instrs k r ≡ o → naming_of o ≡ Named p → IsAt code slots f rs p (register rs r)
      by None g i = cc
      by (Some n) g i = in_reach n (nat_le n.cells most_cells) g i

  -- no register points beyond every object
  pub nowhere : naming_at f k r ≡ Nowhere → ⊥
  nowhere e = by (known_at f.formals f.instrs k r) refl e
    where
      in_reach : (n : Known) (b : Bool) → nat_le n.cells most_cells ≡ b → known_at f.formals f.instrs k r ≡ Some n → (if b then Named (path_to n.root n.cells) else Nowhere) ≡ Nowhere → ⊥
      in_reach n true c g i = cc
      in_reach n false c g i = let far = leb-false n.cells most_cells c in let near = (h.words r n g).near in absurd (omega arith)

      by : (o : Option Known) → known_at f.formals f.instrs k r ≡ o → naming_of o ≡ Nowhere → ⊥
      by None g i = cc
      by (Some n) g i = in_reach n (nat_le n.cells most_cells) refl g i
