use Rattle.c_parser.proofs.external.objects.Goals as goal

pub returns : goal.returns
returns c = rw c.in_ok-lengths.ensures c.objects_after.ensures
