use Rattle.c_frames.proofs.Objects.{objects_made}
use Rattle.c_frames.proofs.frames.objects_of.Goals as goal

pub returns : goal.returns
returns c =
    objects_made c.args.sites.now c.args.formals.now c.args.locals.now _ _ _ c.new-objects.ensures c.in_ok-push_sites.ensures c.in_ok-push_sites-2.ensures
