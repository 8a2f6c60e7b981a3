-- Which objects are kept in cells by their types, wherever they are declared.
use Rattle.std.specs.Prelude.{ℕ, ◌==◌, Bool, true, false, ◌&&◌, ◌||◌, List, [], ◌∷◌}
use Rattle.c_tree.specs.declared.ctype.Specifier.{Specifier}
use Rattle.c_tree.specs.declared.ctype.Specifier.TheVariants as specifier
use Rattle.c_tree.specs.Tree.{Exp, Formal, formal, formal_pointer, Declared, declared, declared_pointer}

-- a struct, a mutex, a condition variable, a barrier or a read-write lock
abbrev pub is_kept_specifier : Specifier → Bool
is_kept_specifier (specifier.Int at) = false
is_kept_specifier (specifier.Long second int at) = false
is_kept_specifier (specifier.Void at) = false
is_kept_specifier (specifier.Struct name at) = true
is_kept_specifier (specifier.PthreadT at) = false
is_kept_specifier (specifier.PthreadMutexT at) = true
is_kept_specifier (specifier.PthreadCondT at) = true
is_kept_specifier (specifier.PthreadBarrierT at) = true
is_kept_specifier (specifier.PthreadRwlockT at) = true

-- it is an array: at least one length stands after its name
abbrev pub is_some_length : List Exp → Bool
is_some_length [] = false
is_some_length (e ∷ es) = true

-- kept in cells by its type
abbrev pub is_kept : Specifier → ℕ → List Exp → Bool
is_kept s stars lengths = is_some_length lengths || ((stars == 0) && is_kept_specifier s)

-- the same, by a declarator and its specifier. A pointer to functions is a number
abbrev pub is_kept_declared : Specifier → Declared → Bool
is_kept_declared s (declared stars name lengths) = is_kept s stars lengths
is_kept_declared s (declared_pointer stars name ps) = false

-- a formal is never an array
abbrev pub is_kept_formal : Formal → Bool
is_kept_formal (formal s stars name at) = is_kept s stars []
is_kept_formal (formal_pointer s stars name ps at) = false
