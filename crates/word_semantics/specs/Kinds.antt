-- Which operators and calls of the library take pointers, and which take whole numbers.
use Rattle.std.specs.Prelude.{Bool, true, false, List, [], ◌∷◌}
use Rattle.word_semantics.specs.declared.library_call.LibraryCall.{LibraryCall}
use Rattle.word_semantics.specs.declared.library_call.LibraryCall.TheVariants as call
use Rattle.word_semantics.specs.declared.library_call.Piece.{Piece}
use Rattle.word_semantics.specs.declared.library_call.Piece.TheVariants as piece
use Rattle.word_semantics.specs.declared.operator.BinaryOp.{BinaryOp}
use Rattle.word_semantics.specs.declared.operator.BinaryOp.TheVariants as op

-- the comparisons, which take two pointers as well
abbrev pub is_comparison : BinaryOp → Bool
is_comparison op.Less = true
is_comparison op.LessEqual = true
is_comparison op.Greater = true
is_comparison op.GreaterEqual = true
is_comparison op.Equal = true
is_comparison op.NotEqual = true
is_comparison _ = false

-- a whole number for each number and letter of a format
abbrev pub format_kinds : List Piece → List Bool
format_kinds [] = []
format_kinds (piece.Byte b ∷ ps) = format_kinds ps
format_kinds (piece.Number ∷ ps) = false ∷ format_kinds ps
format_kinds (piece.Letter ∷ ps) = false ∷ format_kinds ps

-- the kinds of a library call's arguments; attributes, formats and the name of a started function aren't among them
abbrev pub library_kinds : LibraryCall → List Bool
library_kinds (call.Create g) = true ∷ true ∷ []
library_kinds call.Join = false ∷ true ∷ []
library_kinds call.Exit = true ∷ []
library_kinds call.SelfNumber = []
library_kinds call.SameThread = false ∷ false ∷ []
library_kinds call.MutexInit = true ∷ []
library_kinds call.MutexLock = true ∷ []
library_kinds call.MutexUnlock = true ∷ []
library_kinds call.MutexTryLock = true ∷ []
library_kinds call.MutexDestroy = true ∷ []
library_kinds call.CondInit = true ∷ []
library_kinds call.CondWait = true ∷ true ∷ []
library_kinds call.CondSignal = true ∷ []
library_kinds call.CondDestroy = true ∷ []
library_kinds call.BarrierInit = true ∷ false ∷ []
library_kinds call.BarrierWait = true ∷ []
library_kinds call.BarrierDestroy = true ∷ []
library_kinds call.RwInit = true ∷ []
library_kinds call.RwRdLock = true ∷ []
library_kinds call.RwWrLock = true ∷ []
library_kinds call.RwUnlock = true ∷ []
library_kinds call.RwDestroy = true ∷ []
library_kinds call.Free = true ∷ []
library_kinds call.GetChar = []
library_kinds (call.Print format) = format_kinds format
library_kinds call.PutChar = false ∷ []
