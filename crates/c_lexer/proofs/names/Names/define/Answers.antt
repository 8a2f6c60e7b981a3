use Rattle.std.proofs.Common.{ap, ◌∙◌, map, ◌++◌, ◌∷◌, [], ℤ, w64, to_z, of_z}
use Rattle.std.proofs.Math.Facts.{to_z-of_z}
use Rattle.std.specs.Str.{bytes_eq}
use Rattle.indexmap.proofs.CallerLemmas.{insert_entry-new}
use Rattle.rr_base.specs.Texts.{entry_of}
use Rattle.c_lexer.proofs.Values.{lookup-entry_of, map-pushed, shown}
use Rattle.c_lexer.proofs.names.Names.define.Goals as goal

-- the value lies in the map as its bits
pub returns : goal.returns
returns c =
    let entries = c.self.inside.values.entries in
    let value : ℤ = to_z w64 (of_z w64 c.args.value) in
    let absent = lookup-entry_of (λ k. k.now) entries c.args.name.now ∙ ap (λ es. entry_of es c.args.name.now) c.self.view_is ∙ c.requires in
    let new = insert_entry-new (λ k q. bytes_eq k.now q.now) c.self.inside.values c.args.name value absent in
    ap (map (shown (λ k. k.now))) (c.in_ok-insert.ensures.entries ∙ new)
    ∙ map-pushed (λ k. k.now) entries c.args.name value
    ∙ ap (λ es. es ++ (c.args.name.now, value) ∷ []) c.self.view_is
    ∙ ap (λ v. c.args.self.now ++ (c.args.name.now, v) ∷ []) (to_z-of_z c.ranges.value)
