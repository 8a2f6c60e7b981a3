-- The mutex or read-write lock of which a library call speaks, by the names of the call's arguments.
use Rattle.std.specs.Prelude.{List, [], ◌∷◌}
use Rattle.word_semantics.specs.declared.library_call.LibraryCall.{LibraryCall}
use Rattle.word_semantics.specs.declared.library_call.LibraryCall.TheVariants as call
use Rattle.facts.specs.declared.locks.Naming.{Naming}
use Rattle.facts.specs.declared.locks.Naming.TheVariants.{Unknown}

-- for calls whose one argument is the lock
abbrev pub only_name : List Naming → Naming
only_name (m ∷ []) = m
only_name _ = Unknown

-- for `pthread_cond_wait`, whose mutex comes after the condition
abbrev pub second_name : List Naming → Naming
second_name (c ∷ m ∷ []) = m
second_name _ = Unknown

-- calls that speak of no lock have the unknown name
abbrev pub lock_name : LibraryCall → List Naming → Naming
lock_name call.MutexInit ns = only_name ns
lock_name call.MutexLock ns = only_name ns
lock_name call.MutexUnlock ns = only_name ns
lock_name call.MutexTryLock ns = only_name ns
lock_name call.MutexDestroy ns = only_name ns
lock_name call.CondWait ns = second_name ns
lock_name call.RwInit ns = only_name ns
lock_name call.RwRdLock ns = only_name ns
lock_name call.RwWrLock ns = only_name ns
lock_name call.RwUnlock ns = only_name ns
lock_name call.RwDestroy ns = only_name ns
lock_name _ ns = Unknown
