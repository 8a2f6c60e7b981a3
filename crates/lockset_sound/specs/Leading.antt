-- To which cells the paths of a function lead in a frame of it, and what relative locks mean there.
use Rattle.std.specs.Prelude.{◌≡◌, ℕ, ◌+◌, ◌*◌, ◌<◌, nat_lt, ◌&&◌, Bool, true, List, Some, slice_get}
use Rattle.rr_base.specs.Words.{site_of, base_of, length_of, offset_of}
use Rattle.rr_base.specs.declared.layout.CellKind.{CellKind}
use Rattle.sync_objects.specs.declared.mode.Mode.{Mode}
use Rattle.word_semantics.specs.Pointers.{site_at, kind_in}
use Rattle.word_semantics.specs.Registers.{register}
use Rattle.flow_code.specs.declared.code.Code.{Code}
use Rattle.flow_code.specs.declared.code.Function.{Function}
use Rattle.facts.specs.Locks.{has, has_held}
use Rattle.facts.specs.Paths.{is_never_assigned}
use Rattle.facts.specs.declared.locks.Held.{Held}
use Rattle.facts.specs.declared.locks.LockPath.{LockPath}
use Rattle.facts.specs.declared.locks.LockPath.TheVariants.{Cell, Formal}
use Rattle.facts.specs.declared.locks.Minus.{Minus}
use Rattle.facts.specs.declared.locks.Minus.TheVariants.{All, Listed}
use Rattle.facts.specs.declared.locks.RelLocks.{RelLocks}

-- which locks are held: in this mode, the lock that is in the cell, of this kind
abbrev pub Holds : Type 0
Holds = Mode → CellKind → ℕ → Bool

-- a formal that the function never assigns, so that it holds at each point what it held at the entry
abbrev pub is_fixed : Function → ℕ → Bool
is_fixed f i = nat_lt i f.formals && is_never_assigned f.instrs i

-- The path leads to the cell, which is of this kind, in a frame with these registers: global cells stand after the hand-off
-- cells, and a path from a formal goes so many cells on from where its word points, to a cell of the same object.
abbrev pub LeadsTo : Code → (slots : ℕ) → Function → List ℕ → LockPath → CellKind → ℕ → Type 0
LeadsTo code slots f rs (Cell n) k c = (slice_get code.global_kinds n ≡ Some k) × (c ≡ 2 * slots + n)
LeadsTo code slots f rs (Formal i n) k c =
    (is_fixed f i ≡ true) × (offset_of (register rs i) + n < length_of (register rs i))
    × (kind_in (site_at code.sites (site_of (register rs i))) (offset_of (register rs i) + n) ≡ Some k)
    × (c ≡ base_of (register rs i) + offset_of (register rs i) + n)

-- none of these paths leads to the cell
abbrev pub Spares : Code → (slots : ℕ) → Function → List ℕ → Minus → CellKind → ℕ → Type 0
Spares code slots f rs All k c = ⊥
Spares code slots f rs (Listed qs) k c = (q : LockPath) → has q qs ≡ true → LeadsTo code slots f rs q k c → ⊥

-- What relative locks mean in a frame at whose entry the locks of `before` were held: each path of a lock leads to one that
-- is held now in the lock's mode, and so is each lock of `before`, in each mode in which it was, to which no path leads that may have been given back.
pub record Mean (code : Code) (slots : ℕ) (f : Function) (rs : List ℕ) (l : RelLocks) (before now : Holds) : Type 0 where
  pub plus : (h : Held) → has_held h l.plus ≡ true → (k : CellKind) × (c : ℕ) × LeadsTo code slots f rs h.path k c × (now h.mode k c ≡ true)
  pub kept : (m : Mode) (k : CellKind) (c : ℕ) → before m k c ≡ true → Spares code slots f rs l.minus k c → now m k c ≡ true
