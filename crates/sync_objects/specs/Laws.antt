-- What holds of every operation of the table, every word and every thread.
use Rattle.std.specs.Prelude.{◌≡◌, ◌≢◌, ℕ, ◌+◌, ◌-◌, ◌^◌, ◌<◌, ℤ}
use Rattle.sync_objects.specs.declared.kind.ObjKind.{ObjKind}
use Rattle.sync_objects.specs.declared.kind.ObjKind.TheVariants as kind
use Rattle.sync_objects.specs.declared.operation.Op.{Op}
use Rattle.sync_objects.specs.declared.operation.Op.TheVariants as op
use Rattle.sync_objects.specs.Advance.{advanced, NotAllowed, Advances}
use Rattle.sync_objects.specs.Names.{name_of, kind_of}
use Rattle.sync_objects.specs.Packing.{packed, shown}
use Rattle.sync_objects.specs.Sound.{IsSoundState, IsSoundWord, IsInRange}
use Rattle.sync_objects.specs.States.{StateOf, HeldBy}
use Rattle.sync_objects.specs.Words.{number_of, word_of}

-- an allowed operation raises the number of its object's word by exactly one
abbrev pub RaisesNumber : Type 0
RaisesNumber = (o : Op) (t word after : ℕ) (answer : ℤ) → advanced o t word ≡ Advances after answer → number_of after ≡ number_of word + 1

-- an allowed operation whose numbers are in range keeps a word sound
abbrev pub KeepsSound : Type 0
KeepsSound = (o : Op) (t word after : ℕ) (answer : ℤ) →
    t < 16 →
    IsInRange o →
    number_of word < 2 ^ 32 - 1 →
    IsSoundWord (kind_of (name_of o)) word →
    advanced o t word ≡ Advances after answer →
    IsSoundWord (kind_of (name_of o)) after

-- a word that is made of a number and a state shows that number
abbrev pub ShowsNumber : Type 0
ShowsNumber = (k : ObjKind) (number : ℕ) (s : StateOf k) → number_of (word_of number (packed k s)) ≡ number

-- and that state, if it is sound
abbrev pub ShowsState : Type 0
ShowsState = (k : ObjKind) (number : ℕ) (s : StateOf k) →
    number < 2 ^ 32 →
    IsSoundState k number s →
    shown k (word_of number (packed k s)) ≡ s

-- a mutex that thread t holds stays held by it at every operation but its own unlock
abbrev pub StaysHeld : Type 0
StaysHeld = (o : Op) (u t word after : ℕ) (answer : ℤ) →
    kind_of (name_of o) ≡ kind.Mutex →
    (u ≡ t → o ≢ op.Unlock) →
    shown kind.Mutex word ≡ HeldBy t →
    advanced o u word ≡ Advances after answer →
    shown kind.Mutex after ≡ HeldBy t

-- on a stripe that thread t holds no operation of another thread is allowed
abbrev pub OthersWait : Type 0
OthersWait = (o : Op) (u t word : ℕ) →
    kind_of (name_of o) ≡ kind.Weak →
    u ≢ t →
    shown kind.Weak word ≡ HeldBy t →
    advanced o u word ≡ NotAllowed
