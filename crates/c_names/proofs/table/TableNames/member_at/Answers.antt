use Rattle.std.proofs.Common.{ap, ◌∙◌, sym, slice_get}
use Rattle.std.proofs.lemmas.Option.{slice_get-map}
use Rattle.std.proofs.lemmas.Simd.{map-map}
use Rattle.std.specs.Option.{option_map}
use Rattle.c_types.specs.Scopes as spec
use Rattle.c_names.specs.Table.{members_of}
use Rattle.c_names.proofs.table.TableNames.member_at.Goals as goal

pub returns-in-Some : goal.returns-in-Some
returns-in-Some c =
    c.member_placed.ensures
    ∙ ap (λ ts. slice_get ts c.args.index) (sym (map-map (λ m. m.1) (λ m. (m.0.now, m.1)) c.in-Some.members.now.entries))
    ∙ ap (λ s. slice_get (spec.members_of s) c.args.index) (ap (option_map (λ s. members_of s.entries)) c.in-Some.ensures.value ∙ sym (slice_get-map (λ s. members_of s.entries) c.args.self.now.structs c.args.number))

pub returns-in-None : goal.returns-in-None
returns-in-None c =
    ap (λ s. slice_get (spec.members_of s) c.args.index) (ap (option_map (λ s. members_of s.entries)) c.in-None.ensures.value ∙ sym (slice_get-map (λ s. members_of s.entries) c.args.self.now.structs c.args.number))
