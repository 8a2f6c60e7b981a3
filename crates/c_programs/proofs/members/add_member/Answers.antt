use Rattle.std.proofs.Common.{◌≡◌, ap, sym, ◌∙◌, false, is_some}
use Rattle.std.specs.Str.{bytes_eq}
use Rattle.indexmap.proofs.CallerLemmas.{insert_entry-new}
use Rattle.rr_base.specs.Texts.{entry_of}
use Rattle.c_programs.specs.Members.{shown_members}
use Rattle.c_programs.proofs.ByName.{lookup-shown_members, shown_members-pushed, with_name-new, no_entry}
use Rattle.c_programs.proofs.members.add_member.Goals as goal

pub returns-clause-members : goal.returns-clause-members
returns-clause-members c =
    let old = c.args.members.now in
    let is_new : is_some (entry_of (shown_members old.entries) c.args.name.now) ≡ false = cc in
    let none = lookup-shown_members old.entries c.args.name.now ∙ no_entry _ is_new in
    let entries = c.in_ok-insert.ensures.entries ∙ insert_entry-new (λ k q. bytes_eq k.now q.now) old c.args.name c.args.of none in
    ap shown_members entries ∙ shown_members-pushed old.entries c.args.name c.args.of ∙ sym (with_name-new (shown_members old.entries) c.args.name.now c.args.of is_new)
