-- A register that is known by name resolves to the cell to which its path leads.
use Rattle.std.proofs.Common.{◌≡◌, ℕ, ◌+◌, ◌*◌, ◌%◌, ◌^◌, ◌<◌, ◌==◌, nat_le, nat_lt, Bool, true, false, if◌then◌else◌, List, length, Option, Some, None, Result, Ok, Err, refl, sym, ap, ◌∙◌, arith, eq-eqb, ltb-true}
use Rattle.std.specs.Prelude.{slice_get}
use Rattle.rr_base.specs.Words as pointer
use Rattle.rr_base.specs.Words.{site_of, base_of, length_of, offset_of}
use Rattle.rr_base.specs.declared.layout.CellKind.{CellKind}
use Rattle.rr_base.specs.declared.layout.Site.{Site}
use Rattle.rr_base.specs.declared.trap.Trap.{Trap}
use Rattle.rr_base.specs.declared.trap.Trap.TheVariants.{BadDereference, OutOfObject}
use Rattle.word_semantics.specs.Pointers.{of_kind, is_kind, kind_in, site_at, resolved}
use Rattle.word_semantics.specs.Registers.{register}
use Rattle.flow_code.specs.declared.code.Code.{Code}
use Rattle.flow_code.specs.declared.code.Function.{Function}
use Rattle.facts.specs.Paths.{naming_at}
use Rattle.facts.specs.declared.locks.LockPath.{LockPath}
use Rattle.facts.specs.declared.locks.LockPath.TheVariants.{Cell, Formal}
use Rattle.facts.specs.declared.locks.Naming.TheVariants.{Named}
use Rattle.lockset_sound.specs.Leading.{LeadsTo}
use Rattle.lockset_sound.proofs.Addresses.{on_site, on_base, on_length, on_offset, same_kind_is}
use Rattle.lockset_sound.proofs.Known.{IsKnown, IsAt, named}

cell_is : (w c : ℕ) → pointer.cell_of w ≡ Ok c → (c ≡ base_of w + offset_of w) × (offset_of w < length_of w)
cell_is w c h = by (site_of w == 0) h
  where
    inside : (b : Bool) → nat_lt (offset_of w) (length_of w) ≡ b → (if b then Ok (base_of w + offset_of w) else Err OutOfObject) ≡ Ok c → (c ≡ base_of w + offset_of w) × (offset_of w < length_of w)
    inside true e g = (cc, ltb-true (offset_of w) (length_of w) e)
    inside false e g = cc

    by : (b : Bool) → (if b then Err BadDereference else if nat_lt (offset_of w) (length_of w) then Ok (base_of w + offset_of w) else Err OutOfObject) ≡ Ok c → (c ≡ base_of w + offset_of w) × (offset_of w < length_of w)
    by true g = cc
    by false g = inside (nat_lt (offset_of w) (length_of w)) refl g

-- the cell to which a word resolves: one of its object, of the kind that is asked for
pub record IsResolved (sites : List Site) (w c : ℕ) (k : CellKind) : Type 0 where
  pub cell : c ≡ base_of w + offset_of w
  pub within : offset_of w < length_of w
  pub kind : kind_in (site_at sites (site_of w)) (offset_of w) ≡ Some k

pub resolved_is : (sites : List Site) (w c : ℕ) (k : CellKind) → resolved sites w k ≡ Ok c → IsResolved sites w c k
resolved_is sites w c k h = read (nat_le (site_of w) (length sites)) h
  where
    none : (site_of (w % 2 ^ 54) == 0) ≡ true
    none = eq-eqb (site_of (w % 2 ^ 54)) 0 (omega arith)

    of_this_kind : (o : Option CellKind) → is_kind o k ≡ true → o ≡ Some k
    of_this_kind None e = cc
    of_this_kind (Some x) e = ap Some (same_kind_is x k e)

    kinds : (r : Result ℕ Trap) (b : Bool) → of_kind r b ≡ Ok c → (r ≡ Ok c) × (b ≡ true)
    kinds (Ok x) true g = (g, refl)
    kinds (Ok x) false g = cc
    kinds (Err t) b g = cc

    not_there : (b : Bool) → b ≡ true → (if b then Err BadDereference else if nat_lt (offset_of (w % 2 ^ 54)) (length_of (w % 2 ^ 54)) then Ok (base_of (w % 2 ^ 54) + offset_of (w % 2 ^ 54)) else Err OutOfObject) ≡ Ok c → ⊥
    not_there true e g = cc
    not_there false e g = cc

    read : (b : Bool) → of_kind (pointer.cell_of (if b then w else w % 2 ^ 54)) (is_kind (kind_in (site_at sites (site_of w)) (offset_of w)) k) ≡ Ok c → IsResolved sites w c k
    read true g =
        let p = kinds (pointer.cell_of w) (is_kind (kind_in (site_at sites (site_of w)) (offset_of w)) k) g in
        let r = cell_is w c p.0 in
        record { cell = r.0; within = r.1; kind = of_this_kind (kind_in (site_at sites (site_of w)) (offset_of w)) p.1 }
    read false g = absurd (not_there (site_of (w % 2 ^ 54) == 0) none (kinds (pointer.cell_of (w % 2 ^ 54)) _ g).0)

at_leads : (code : Code) (slots : ℕ) (f : Function) (rs : List ℕ) (p : LockPath) (w c : ℕ) (k : CellKind) → IsAt code slots f rs p w → IsResolved code.sites w c k → LeadsTo code slots f rs p k c
at_leads code slots f rs (Cell m) w c k h e =
    (ap (slice_get code.global_kinds) (sym h.cell) ∙ h.kinds (offset_of w) k e.within e.kind, e.cell ∙ ap (λ z. z + offset_of w) h.base ∙ sum h.first (offset_of w) ∙ ap (λ z. 2 * slots + z) h.cell)
  where
    sum : (a b : ℕ) → a + 2 * slots + b ≡ 2 * slots + (a + b)
    sum a b = omega arith
at_leads code slots f rs (Formal j m) w c k h e =
    let v = register rs j in
    let site : site_of w ≡ site_of v = ap site_of h.1 ∙ on_site v m h.2 in
    let base : base_of w ≡ base_of v = ap base_of h.1 ∙ on_base v m h.2 in
    let long : length_of w ≡ length_of v = ap length_of h.1 ∙ on_length v m h.2 in
    let offset : offset_of w ≡ offset_of v + m = ap offset_of h.1 ∙ on_offset v m h.2 in (
      h.0,
      inside (offset_of w) (offset_of v) (length_of w) (length_of v) offset long e.within,
      ap (kind_in (site_at code.sites (site_of v))) (sym offset) ∙ ap (λ z. kind_in (site_at code.sites z) (offset_of w)) (sym site) ∙ e.kind,
      sum (base_of w) (base_of v) (offset_of w) (offset_of v) base offset e.cell,
    )
  where
    inside : (x y l n : ℕ) → x ≡ y + m → l ≡ n → x < l → y + m < n
    inside x y l n h g lt = omega arith

    sum : (a b x y : ℕ) → a ≡ b → x ≡ y + m → c ≡ a + x → c ≡ b + y + m
    sum a b x y i j l = omega arith

-- the cell of a register is the one to which its name leads
pub name_leads : (code : Code) (slots : ℕ) (f : Function) (k : ℕ) (rs : List ℕ) (r c : ℕ) (want : CellKind) (p : LockPath) → IsKnown code slots f k rs → naming_at f k r ≡ Named p → resolved code.sites (register rs r) want ≡ Ok c → LeadsTo code slots f rs p want c
name_leads code slots f k rs r c want p h e g = at_leads code slots f rs p (register rs r) c want (named code slots f k rs h r p e) (resolved_is code.sites (register rs r) c want g)
