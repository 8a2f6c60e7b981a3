use Rattle.std.proofs.Common.{◌≡◌, length}
use Rattle.flow_code.specs.Addresses as spec
use Rattle.flow_code.proofs.addresses.objects_fit.Given as goal

abbrev pub invariant-loop-bases_left : goal.invariant-loop-bases_left
invariant-loop-bases_left l = spec.objects_fit l.code l.bases_left l.sites_left ≡ spec.objects_fit l.code l.bases l.sites

abbrev pub decreases-loop-bases_left : goal.decreases-loop-bases_left
decreases-loop-bases_left l = length l.bases_left
