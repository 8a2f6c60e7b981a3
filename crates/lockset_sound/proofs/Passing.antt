-- How the locks that a thread holds change by what is due in it.
use Rattle.std.proofs.Common.{◌≡◌, ℕ, true, false, ℤ}
use Rattle.rr_base.specs.declared.layout.CellKind.{CellKind}
use Rattle.rr_base.specs.declared.layout.CellKind.TheVariants as kind
use Rattle.sync_objects.specs.Modes.{covers}
use Rattle.sync_objects.specs.declared.mode.Mode.{Mode}
use Rattle.sync_objects.specs.declared.mode.Mode.TheVariants.{Read, Write}
use Rattle.sync_objects.specs.declared.object.ObjId.{ObjId}
use Rattle.sync_objects.specs.declared.object.ObjId.TheVariants as object
use Rattle.sync_objects.specs.declared.operation.Op.{Op}
use Rattle.sync_objects.specs.declared.operation.Op.TheVariants as op
use Rattle.word_semantics.specs.Library.{is_misuse}
use Rattle.word_semantics.specs.declared.event.Due.{Due}
use Rattle.word_semantics.specs.declared.event.Due.TheVariants as due
use Rattle.lockset_sound.specs.Leading.{Holds}
use Rattle.lockset_sound.proofs.NoUnlocks.{is_unlock, HasNoUnlock}

-- all that was held is held
abbrev pub More : (now later : Holds) → Type 0
More now later = (m : Mode) (k : CellKind) (x : ℕ) → now m k x ≡ true → later m k x ≡ true

-- the object is the lock of this kind in the cell
abbrev pub IsLockAt : CellKind → ℕ → ObjId → Type 0
IsLockAt kind.Mutex c o = o ≡ object.Mutex c
IsLockAt kind.Rw c o = o ≡ object.Rw c
IsLockAt _ c o = ⊥

-- all but this lock are held as before
abbrev pub AllBut : ObjId → (now later : Holds) → Type 0
AllBut obj now later = (m : Mode) (k : CellKind) (x : ℕ) → (IsLockAt k x obj → ⊥) → now m k x ≡ true → later m k x ≡ true

-- the lock in the cell is held in this mode, and in those that it covers
abbrev pub Has : Mode → CellKind → ℕ → Holds → Type 0
Has mode k c later = (n : Mode) → covers mode n ≡ true → later n k c ≡ true

-- after a lock that was no misuse its object is held, and after an unlock all others are as before
abbrev pub PassesBy : Op → ObjId → (answer : ℤ) → (now later : Holds) → Type 0
PassesBy op.Lock obj answer now later = More now later × ((c : ℕ) → obj ≡ object.Mutex c → Has Write kind.Mutex c later)
PassesBy op.RdLock obj answer now later = More now later × ((c : ℕ) → obj ≡ object.Rw c → is_misuse answer ≡ false → Has Read kind.Rw c later)
PassesBy op.WrLock obj answer now later = More now later × ((c : ℕ) → obj ≡ object.Rw c → is_misuse answer ≡ false → Has Write kind.Rw c later)
PassesBy op.Unlock obj answer now later = AllBut obj now later
PassesBy op.RwUnlock obj answer now later = AllBut obj now later
PassesBy _ obj answer now later = More now later

-- a thread goes on by its code only where something is due that isn't a trap
abbrev pub Passes : Due → (answer : ℤ) → (now later : Holds) → Type 0
Passes due.Nothing answer now later = ⊥
Passes (due.Trap kind) answer now later = ⊥
Passes (due.Operate o obj) answer now later = PassesBy o obj answer now later
Passes _ answer now later = More now later

pub more_by : (o : Op) (obj : ObjId) (answer : ℤ) (now later : Holds) → is_unlock o ≡ false → PassesBy o obj answer now later → More now later
more_by op.Lock obj answer now later e p = p.0
more_by op.RdLock obj answer now later e p = p.0
more_by op.WrLock obj answer now later e p = p.0
more_by op.Unlock obj answer now later e p = cc
more_by op.RwUnlock obj answer now later e p = cc
more_by _ obj answer now later e p = p

pub more : (d : Due) (answer : ℤ) (now later : Holds) → HasNoUnlock d → Passes d answer now later → More now later
more due.Nothing answer now later h p = absurd p
more due.Quiet answer now later h p = p
more (due.Load c) answer now later h p = p
more (due.Store c w) answer now later h p = p
more due.Mark answer now later h p = p
more (due.Operate o obj) answer now later h p = more_by o obj answer now later h p
more (due.Trap kind) answer now later h p = absurd p
