use Rattle.std.proofs.Common.{slice_get, sym, ◌∙◌}
use Rattle.c_types.specs.Scopes.{members_of}
use Rattle.c_sites.proofs.Typing.{types_more, types_left, types_end}
use Rattle.c_sites.proofs.sites.types_of_struct.Goals as goal

pub returns-in-None : goal.returns-in-None
returns-in-None g c =
    sym (types_end (members_of (slice_get (g.N.Names.known c.args.names.now).structs c.args.number)) c.members.index c.members.types c.in-None.ensures)
    ∙ c.members.invariant

pub members-smaller : goal.members-smaller
members-smaller g c = types_left _ _ _ _ c.in_ok-advance-in-Some.ensures c.in-Some.ensures

pub members-preserved : goal.members-preserved
members-preserved g c =
    types_more (members_of (slice_get (g.N.Names.known c.args.names.now).structs c.args.number)) _ _ _ _ _ c.in_ok-advance-in-Some.ensures c.in_ok-push_type-in-Some.ensures c.in-Some.ensures
    ∙ c.members.invariant
