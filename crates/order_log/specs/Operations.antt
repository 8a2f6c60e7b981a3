-- What operations are called in a log.
use Rattle.std.specs.Prelude.{ℕ, List, codes}
use Rattle.sync_objects.specs.declared.operation.OpName.{OpName}
use Rattle.sync_objects.specs.declared.operation.OpName.TheVariants as op

-- the word for an operation, as it stands in an entry's line
abbrev pub op_text : OpName → List ℕ
op_text op.Lock = codes "lock"
op_text op.TryLock = codes "trylock"
op_text op.Unlock = codes "unlock"
op_text op.MutexInit = codes "minit"
op_text op.CondEnter = codes "center"
op_text op.CondWake = codes "cwake"
op_text op.Signal = codes "signal"
op_text op.BarrierInit = codes "binit"
op_text op.Arrive = codes "arrive"
op_text op.Pass = codes "pass"
op_text op.RdLock = codes "rdlock"
op_text op.WrLock = codes "wrlock"
op_text op.RwUnlock = codes "rwunlock"
op_text op.RwInit = codes "rwinit"
op_text op.Take = codes "take"
op_text op.Retake = codes "retake"
op_text op.Give = codes "give"
op_text op.Revoke = codes "revoke"
op_text op.Draw = codes "draw"
op_text op.Start = codes "start"
op_text op.Begin = codes "begin"
op_text op.End = codes "end"
op_text op.Join = codes "join"
op_text op.Close = codes "close"
op_text op.Leave = codes "leave"
op_text op.HaltAll = codes "halt"
op_text op.TrapHere = codes "trap"
op_text op.Stop = codes "stop"
op_text op.GetChar = codes "getchar"
op_text op.Print = codes "print"
