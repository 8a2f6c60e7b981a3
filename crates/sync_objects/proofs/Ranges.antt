-- What a sound word tells of the numbers in its packed state.
use Rattle.std.proofs.Common.{◌≡◌, ℕ, zero, suc, ◌+◌, ◌-◌, ◌/◌, ◌%◌, ◌^◌, ◌<◌, ◌≤◌, subst, arith}
use Rattle.sync_objects.specs.declared.operation.Op.{Op}
use Rattle.sync_objects.specs.declared.operation.Op.TheVariants as op
use Rattle.sync_objects.specs.Names.{name_of, kind_of}
use Rattle.sync_objects.specs.Sound.{IsSoundLock, IsSoundWord}
use Rattle.sync_objects.specs.Packing.{lock_of}
use Rattle.sync_objects.specs.Words.{number_of, state_of}

sound_at : (o p : Op) (word : ℕ) → o ≡ p → IsSoundWord (kind_of (name_of o)) word → IsSoundWord (kind_of (name_of p)) word
sound_at o p word e h = subst (λ z. IsSoundWord (kind_of (name_of z)) word) e h

held_fits : (n : ℕ) → IsSoundLock (lock_of n) → n ≤ 16
held_fits zero h = omega arith
held_fits (suc t) h = omega arith

pub signal_fits : (o : Op) (word : ℕ) → o ≡ op.Signal → number_of word < 2 ^ 32 - 1 → IsSoundWord (kind_of (name_of o)) word → state_of word + 1 < 2 ^ 32
signal_fits o word e few h = let s = (sound_at o op.Signal word e h).state in omega arith

pub arrive_fits : (o : Op) (word : ℕ) → o ≡ op.Arrive → IsSoundWord (kind_of (name_of o)) word → state_of word / 32 % 32 < 16
arrive_fits o word e h = let s = (sound_at o op.Arrive word e h).state in omega arith

pub reading_fits : (o : Op) (word : ℕ) → o ≡ op.RdLock → IsSoundWord (kind_of (name_of o)) word → state_of word / 65536 ≤ 16
reading_fits o word e h = let s = sound_at o op.RdLock word e h in held_fits (state_of word / 65536) s.state.1

pub draw_fits : (o : Op) (slots word : ℕ) → o ≡ op.Draw slots → IsSoundWord (kind_of (name_of o)) word → state_of word / 32 ≤ 16
draw_fits o slots word e h = let s = (sound_at o (op.Draw slots) word e h).state in omega arith
