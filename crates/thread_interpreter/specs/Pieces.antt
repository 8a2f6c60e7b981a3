-- What a thread's next print prints.
use Rattle.std.specs.Prelude.{ℕ, List, [], ◌∷◌, Option, Some}
use Rattle.sync_objects.specs.declared.operation.Op.{Op}
use Rattle.sync_objects.specs.declared.operation.Op.TheVariants as op
use Rattle.flow_code.specs.declared.act.Act.{Act}
use Rattle.flow_code.specs.declared.act.Act.TheVariants as act
use Rattle.flow_code.specs.declared.code.Code.{Code}
use Rattle.word_semantics.specs.Library.{piece_of}
use Rattle.flow_code.specs.Threads.{Thread}
use Rattle.flow_code.specs.Next.{act_at}
use Rattle.word_semantics.specs.Registers.{words_of}

-- the bytes of the call at which the thread stands
abbrev pub piece_at : Option Act → List ℕ → List ℕ
piece_at (Some (act.Library call arguments into)) registers = piece_of call (words_of registers arguments)
piece_at _ registers = []

-- the piece of a print, and of any other operation none
abbrev pub piece_next : Code → Thread → Op → List (List ℕ)
piece_next code th op.Print = piece_at (act_at code th.top) th.top.registers ∷ []
piece_next code th _ = []
