use Rattle.std.proofs.Common.{ap, ◌∙◌, sym, true, false, ◌∷◌, []}
use Rattle.std.proofs.lemmas.List.{map-append}
use Rattle.std.specs.Str.{bytes_eq}
use Rattle.indexmap.proofs.CallerLemmas.{insert_entry-new}
use Rattle.c_names.specs.Table.{meaning_of, scope_of}
use Rattle.c_names.proofs.Tables.{with_name_of, none_from_test}
use Rattle.c_names.proofs.table.declare_in.Goals as goal

pub returns-in_ok-insert : goal.returns-in_ok-insert
returns-in_ok-insert c =
    let entries = c.args.scope.now.entries in
    let absent = none_from_test _ (sym c.if-not-contains_key.ensures) in
    let new = insert_entry-new (λ k q. bytes_eq k.now q.now) c.args.scope.now c.args.name c.args.meaning absent in
    ap scope_of (c.in_ok-insert.ensures.entries ∙ new)
    ∙ map-append (λ d. (d.0.now, meaning_of d.1)) entries ((c.args.name, c.args.meaning) ∷ [])
    ∙ sym (with_name_of entries c.args.name.now (meaning_of c.args.meaning) false (sym c.if-not-contains_key.ensures))

pub returns-else-not-contains_key : goal.returns-else-not-contains_key
returns-else-not-contains_key c = sym (with_name_of c.args.scope.now.entries c.args.name.now (meaning_of c.args.meaning) true (sym c.if-not-contains_key.ensures))
