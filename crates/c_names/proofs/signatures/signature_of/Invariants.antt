use Rattle.std.proofs.Common.{◌≡◌, take, map}
use Rattle.c_tree.specs.View.{formal_of}
use Rattle.c_names.specs.Signatures.{wanted_of}
use Rattle.c_names.proofs.signatures.signature_of.Given as goal

-- what the parameters so far want
abbrev pub invariant-loop-param : goal.invariant-loop-param
invariant-loop-param g l = l.wanted ≡ map (wanted_of (g.N.Names.known l.names)) (map formal_of (take l.param-index l.param-items))
