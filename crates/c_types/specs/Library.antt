-- The calls of the library, and which arguments they want (C99 7, POSIX threads).
use Rattle.std.specs.Prelude.{ℕ, List, [], ◌∷◌, Option, codes}
use Rattle.rr_base.specs.Texts.{Text, entry_of}
use Rattle.c_types.specs.declared.types.BaseType.{BaseType}
use Rattle.c_types.specs.declared.types.BaseType.TheVariants as base
use Rattle.c_types.specs.declared.types.ObjectType.{ObjectType}
use Rattle.c_types.specs.declared.library.StarredType.{StarredType}
use Rattle.c_types.specs.declared.library.Wanted.{Wanted}
use Rattle.c_types.specs.declared.library.Wanted.TheVariants as wants
use Rattle.c_types.specs.declared.library.LibraryName.{LibraryName}
use Rattle.c_types.specs.declared.library.LibraryName.TheVariants as call
use Rattle.c_types.specs.Scopes.{starred}

-- all functions of C99 and of POSIX threads that the profile has
abbrev pub calls : List (Text × LibraryName)
calls =
    (codes "pthread_create", call.Create) ∷
    (codes "pthread_join", call.Join) ∷
    (codes "pthread_exit", call.Exit) ∷
    (codes "pthread_self", call.SelfNumber) ∷
    (codes "pthread_equal", call.SameThread) ∷
    (codes "pthread_mutex_init", call.MutexInit) ∷
    (codes "pthread_mutex_lock", call.MutexLock) ∷
    (codes "pthread_mutex_unlock", call.MutexUnlock) ∷
    (codes "pthread_mutex_trylock", call.MutexTryLock) ∷
    (codes "pthread_mutex_destroy", call.MutexDestroy) ∷
    (codes "pthread_cond_init", call.CondInit) ∷
    (codes "pthread_cond_wait", call.CondWait) ∷
    (codes "pthread_cond_signal", call.CondSignal) ∷
    (codes "pthread_cond_broadcast", call.CondBroadcast) ∷
    (codes "pthread_cond_destroy", call.CondDestroy) ∷
    (codes "pthread_barrier_init", call.BarrierInit) ∷
    (codes "pthread_barrier_wait", call.BarrierWait) ∷
    (codes "pthread_barrier_destroy", call.BarrierDestroy) ∷
    (codes "pthread_rwlock_init", call.RwInit) ∷
    (codes "pthread_rwlock_rdlock", call.RwRdLock) ∷
    (codes "pthread_rwlock_wrlock", call.RwWrLock) ∷
    (codes "pthread_rwlock_unlock", call.RwUnlock) ∷
    (codes "pthread_rwlock_destroy", call.RwDestroy) ∷
    (codes "malloc", call.Malloc) ∷
    (codes "free", call.Free) ∷
    (codes "getchar", call.GetChar) ∷
    (codes "printf", call.PrintFormat) ∷
    (codes "putchar", call.PutChar) ∷
    (codes "puts", call.PutText) ∷
    []

-- none of these names can be declared by a source
unfoldable pub library_named : Text → Option LibraryName
library_named name = entry_of calls name

-- a type without arrays as an object's type
abbrev pub starred_type : StarredType → ObjectType
starred_type t = starred t.stars t.base

-- so many pointers to a base
abbrev pub fitting_type : ℕ → BaseType → Wanted
fitting_type n b = wants.Fits (record { stars = n; base = b })

-- every whole number fits, which a `pthread_t` is too
abbrev pub an_int : Wanted
an_int = fitting_type 0 base.Int

-- a pointer to one such object, as `pthread_mutex_t *`
abbrev pub to_one : BaseType → Wanted
to_one b = fitting_type 1 b

-- the arguments of each call; of `printf` the first one
abbrev pub wanted_by : LibraryName → List Wanted
wanted_by call.Create = to_one base.Int ∷ wants.Attribute ∷ wants.Root ∷ to_one base.Void ∷ []
wanted_by call.Join = an_int ∷ fitting_type 2 base.Void ∷ []
wanted_by call.Exit = to_one base.Void ∷ []
wanted_by call.SelfNumber = []
wanted_by call.SameThread = an_int ∷ an_int ∷ []
wanted_by call.MutexInit = to_one base.Mutex ∷ wants.Attribute ∷ []
wanted_by call.MutexLock = to_one base.Mutex ∷ []
wanted_by call.MutexUnlock = to_one base.Mutex ∷ []
wanted_by call.MutexTryLock = to_one base.Mutex ∷ []
wanted_by call.MutexDestroy = to_one base.Mutex ∷ []
wanted_by call.CondInit = to_one base.Cond ∷ wants.Attribute ∷ []
wanted_by call.CondWait = to_one base.Cond ∷ to_one base.Mutex ∷ []
wanted_by call.CondSignal = to_one base.Cond ∷ []
wanted_by call.CondBroadcast = to_one base.Cond ∷ []
wanted_by call.CondDestroy = to_one base.Cond ∷ []
wanted_by call.BarrierInit = to_one base.Barrier ∷ wants.Attribute ∷ an_int ∷ []
wanted_by call.BarrierWait = to_one base.Barrier ∷ []
wanted_by call.BarrierDestroy = to_one base.Barrier ∷ []
wanted_by call.RwInit = to_one base.RwLock ∷ wants.Attribute ∷ []
wanted_by call.RwRdLock = to_one base.RwLock ∷ []
wanted_by call.RwWrLock = to_one base.RwLock ∷ []
wanted_by call.RwUnlock = to_one base.RwLock ∷ []
wanted_by call.RwDestroy = to_one base.RwLock ∷ []
wanted_by call.Malloc = an_int ∷ []
wanted_by call.Free = to_one base.Void ∷ []
wanted_by call.GetChar = []
wanted_by call.PrintFormat = wants.Text ∷ []
wanted_by call.PutChar = an_int ∷ []
wanted_by call.PutText = wants.Text ∷ []

-- what the call gives, but for `malloc`
abbrev pub given_by : LibraryName → BaseType
given_by call.Exit = base.Void
given_by call.Free = base.Void
given_by _ = base.Int
