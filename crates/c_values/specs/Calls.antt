-- Calls of the library, of functions of the source, and through pointers to them (C99 6.5.2.2, 7.19, 7.20.3; POSIX.1-2017 threads). Attributes, formats
-- and the function with which a thread starts are no operands of a call.
use Rattle.std.specs.Prelude.{ℕ, ◌==◌, nat_lt, Bool, false, if◌then◌else◌, pos, List, [], ◌∷◌, ◌++◌, map, Option, Some, None}
use Rattle.rr_base.specs.Texts.{Text}
use Rattle.word_semantics.specs.declared.library_call.LibraryCall.{LibraryCall}
use Rattle.word_semantics.specs.declared.library_call.LibraryCall.TheVariants as call
use Rattle.word_semantics.specs.declared.library_call.Piece.{Piece}
use Rattle.word_semantics.specs.declared.library_call.Piece.TheVariants as piece
use Rattle.c_tree.specs.Tree.{Exp, Exps, and_exp, text}
use Rattle.c_types.specs.declared.format.Inside.{Inside}
use Rattle.c_types.specs.declared.format.Inside.TheVariants as inside
use Rattle.c_types.specs.declared.library.StarredType.{StarredType}
use Rattle.c_types.specs.declared.library.Wanted.{Wanted}
use Rattle.c_types.specs.declared.library.Wanted.TheVariants as wants
use Rattle.c_types.specs.declared.library.LibraryName.{LibraryName}
use Rattle.c_types.specs.declared.library.LibraryName.TheVariants as library
use Rattle.c_types.specs.declared.names.Signature.{Signature}
use Rattle.c_types.specs.Scopes.{Known, function_numbered}
use Rattle.c_types.specs.Signatures.{signature_numbered}
use Rattle.c_types.specs.Operands.{type_operand}
use Rattle.c_types.specs.Library.{starred_type}
use Rattle.c_names.specs.Started.{third_name}
use Rattle.rr_base.specs.declared.position.Position.{Position}
use Rattle.core_tree.specs.Core as core
use Rattle.c_operators.specs.declared.denoted.WordKind.{WordKind}
use Rattle.c_operators.specs.Denoted.{Part, kind_of, value_in, wanted_in}
use Rattle.c_operators.specs.Context.{function_counted, pointer_counted}

-- ---- formats

-- a byte of a format that is printed as it is
abbrev pub byte_piece : ℕ → Piece
byte_piece b = piece.Byte b

-- for the text of `puts`, where a percent sign means nothing
abbrev pub bytes_pieces : Text → List Piece
bytes_pieces bytes = map byte_piece bytes

-- the pieces of a format from here on: `%%` is a percent sign, `%c` a letter, and all other conversions a number
abbrev pub pieces_from : Inside → Text → List Piece
pieces_from inside.Text [] = []
pieces_from inside.Text (b ∷ bs) = if b == 37 then pieces_from inside.Percent bs else byte_piece b ∷ pieces_from inside.Text bs
pieces_from inside.Percent [] = []
pieces_from inside.Percent (b ∷ bs) =
    if b == 37 then byte_piece 37 ∷ pieces_from inside.Text bs
    else (if b == 99 then piece.Letter ∷ pieces_from inside.Text bs
    else (if b == 108 then pieces_from inside.Long bs else piece.Number ∷ pieces_from inside.Text bs))
pieces_from inside.Long [] = []
pieces_from inside.Long (b ∷ bs) = if b == 108 then pieces_from inside.LongLong bs else piece.Number ∷ pieces_from inside.Text bs
pieces_from inside.LongLong [] = []
pieces_from inside.LongLong (b ∷ bs) = piece.Number ∷ pieces_from inside.Text bs

-- the format of `printf` from its begin
abbrev pub format_pieces : Text → List Piece
format_pieces bytes = pieces_from inside.Text bytes

-- the text that stands first
abbrev pub first_text : Exps → Text
first_text (and_exp (text bytes at) es) = bytes
first_text _ = []

-- ---- arguments

-- a pointer to an object is wanted
abbrev pub is_pointer_wanted : StarredType → Bool
is_pointer_wanted t = nat_lt 0 t.stars

-- a number or a pointer, as it is wanted
abbrev pub kind_wanted : StarredType → WordKind
kind_wanted t = kind_of (type_operand (starred_type t))

-- none for what the call holds itself: attributes, texts, a thread's function
abbrev pub operand_for : Wanted → Part → List core.Exp
operand_for (wants.Fits t) p = wanted_in (kind_wanted t) p ∷ []
operand_for wants.Anything p = value_in p ∷ []
operand_for wants.Attribute p = []
operand_for wants.Root p = []
operand_for wants.Text p = []

-- ---- calls

-- the number of the function that `pthread_create` names; 0 where none is
abbrev pub started_function : Known → Option Text → ℕ
started_function known None = 0
started_function known (Some name) = function_counted (function_numbered known name)

-- the call of the library; `malloc` is none
abbrev pub library_of : Known → LibraryName → Exps → LibraryCall
library_of known library.Create es = call.Create (started_function known (third_name es))
library_of known library.Join es = call.Join
library_of known library.Exit es = call.Exit
library_of known library.SelfNumber es = call.SelfNumber
library_of known library.SameThread es = call.SameThread
library_of known library.MutexInit es = call.MutexInit
library_of known library.MutexLock es = call.MutexLock
library_of known library.MutexUnlock es = call.MutexUnlock
library_of known library.MutexTryLock es = call.MutexTryLock
library_of known library.MutexDestroy es = call.MutexDestroy
library_of known library.CondInit es = call.CondInit
library_of known library.CondWait es = call.CondWait
library_of known library.CondSignal es = call.CondSignal
library_of known library.CondBroadcast es = call.CondSignal
library_of known library.CondDestroy es = call.CondDestroy
library_of known library.BarrierInit es = call.BarrierInit
library_of known library.BarrierWait es = call.BarrierWait
library_of known library.BarrierDestroy es = call.BarrierDestroy
library_of known library.RwInit es = call.RwInit
library_of known library.RwRdLock es = call.RwRdLock
library_of known library.RwWrLock es = call.RwWrLock
library_of known library.RwUnlock es = call.RwUnlock
library_of known library.RwDestroy es = call.RwDestroy
library_of known library.Malloc es = call.Free
library_of known library.Free es = call.Free
library_of known library.GetChar es = call.GetChar
library_of known library.PrintFormat es = call.Print (format_pieces (first_text es))
library_of known library.PutChar es = call.PutChar
library_of known library.PutText es = call.Print (bytes_pieces (first_text es) ++ byte_piece 10 ∷ [])

-- the size that a `malloc` is given; `0` where it has none
abbrev pub first_of : List core.Exp → Position → core.Exp
first_of [] at = core.number (pos 0) at
first_of (e ∷ es) at = e

-- the site of a `malloc` that stands at the place
abbrev pub library_called : Known → ℕ → Option LibraryName → Exps → List core.Exp → Position → core.Exp
library_called known site None es arguments at = core.number (pos 0) at
library_called known site (Some library.Malloc) es arguments at = core.allocate site (first_of arguments at) at
library_called known site (Some c) es arguments at = core.library (library_of known c es) (core.listed arguments) at

-- of a function's result, where none is that of `void`
abbrev pub gives_pointer : Option StarredType → Bool
gives_pointer None = false
gives_pointer (Some t) = is_pointer_wanted t

-- a call of a function of the source
abbrev pub function_called : Known → Text → Signature → List core.Exp → Position → core.Exp
function_called known name f arguments at =
    core.call (function_counted (function_numbered known name)) (core.listed arguments) (gives_pointer f.result) at

-- whether calls through pointers of the type give a pointer
abbrev pub pointed_gives : Option Signature → Bool
pointed_gives None = false
pointed_gives (Some f) = gives_pointer f.result

-- a call through a pointer to the functions whose type has this number: the pointer is evaluated before the arguments
abbrev pub pointer_called : Known → Option ℕ → core.Exp → List core.Exp → Position → core.Exp
pointer_called known None held arguments at = core.number (pos 0) at
pointer_called known (Some k) held arguments at =
    core.call (pointer_counted known k) (core.listed (held ∷ arguments)) (pointed_gives (signature_numbered known k)) at
