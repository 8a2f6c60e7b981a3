use Rattle.std.proofs.Common.{ap, sym, ◌∙◌, map, is_some}
use Rattle.std.specs.Str.{bytes_eq}
use Rattle.indexmap.proofs.CallerLemmas.{insert_entry-new}
use Rattle.c_types.proofs.Keyed.{lookup-entry_of, map-pushed, shown, with_name-new, with_name-there}
use Rattle.c_numbers.proofs.number_table.add.Goals as goal

pub returns-in_ok-insert-in-None : goal.returns-in_ok-insert-in-None
returns-in_ok-insert-in-None c =
    let entries = c.args.scope.now.entries in
    let absent = sym c.in-None.ensures.value in
    let new = insert_entry-new (λ k q. bytes_eq k.now q.now) c.args.scope.now c.args.name c.args.number absent in
    ap (map (shown (λ k. k.now))) (c.in_ok-insert-in-None.ensures.entries ∙ new)
    ∙ map-pushed (λ k. k.now) entries c.args.name c.args.number
    ∙ sym (with_name-new _ _ _ (sym (lookup-entry_of (λ k. k.now) entries c.args.name.now) ∙ absent))

pub returns-in-Some : goal.returns-in-Some
returns-in-Some c =
    sym (with_name-there _ _ _ (ap is_some (sym (lookup-entry_of (λ k. k.now) c.args.scope.now.entries c.args.name.now) ∙ sym c.in-Some.ensures.value)))
