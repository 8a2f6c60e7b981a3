use Rattle.std.proofs.Common.{◌≡◌, ◌-◌}
use Rattle.flow_code.specs.Stripes.{guards, any_from}
use Rattle.flow_code.proofs.stripes.scan.Given as goal

abbrev pub invariant-loop-offset : goal.invariant-loop-offset
invariant-loop-offset l = any_from (λ offset. guards l.fn.code l.fn.word offset l.fn.lock l.fn.stripe) (l.following - l.offset) l.offset ≡ any_from (λ offset. guards l.fn.code l.fn.word offset l.fn.lock l.fn.stripe) (l.following - l.first) l.first
