-- The numbers of a log's entries.
use Rattle.std.proofs.Common.{◌≡◌, ◌≤◌, List, [], ◌∷◌, ◌++◌, sym, ap, ◌∙◌, arith, append_assoc}
use Rattle.std.proofs.lemmas.List.{append-nil}
use Rattle.sync_objects.specs.declared.entry.Entry.{Entry}
use Rattle.sync_objects.specs.declared.entry.Noted.{Noted}
use Rattle.run_theory.specs.Merge.{entries_at}
use Rattle.run_theory.proofs.Lists.{AllIn, AllIn-map, IsFirst}
use Rattle.run_theory.proofs.Written.{entries_at-append}
use Rattle.replay_theory.specs.Numbered.{with_number, numbered_after}

-- an entry has at least the number of those of its object that came before
abbrev pub IsAfter : List Noted → Noted → Type 0
IsAfter before y = entries_at y.entry.obj before ≤ y.number

pub are_after : (before : List Noted) (es : List Entry) → AllIn (IsAfter before) (numbered_after before es)
are_after before [] = tt
are_after before (e ∷ es) =
    let x = with_number before e in
    (omega arith, AllIn-map (IsAfter (before ++ x ∷ [])) (IsAfter before) (numbered_after (before ++ x ∷ []) es) (λ y h. omega (arith, h, entries_at-append y.entry.obj before (x ∷ []))) (are_after (before ++ x ∷ []) es))

-- the next entry has the least number of its object
pub next_is_first : (before : List Noted) (e : Entry) (es : List Entry) → AllIn (IsFirst (with_number before e)) (numbered_after before (e ∷ es))
next_is_first before e es =
    AllIn-map (IsAfter before) (IsFirst (with_number before e)) (numbered_after before (e ∷ es)) (λ y h same. omega (arith, h, ap (λ o. entries_at o before) same)) (are_after before (e ∷ es))

pub numbered-append : (before : List Noted) (es fs : List Entry) → numbered_after before (es ++ fs) ≡ numbered_after before es ++ numbered_after (before ++ numbered_after before es) fs
numbered-append before [] fs = ap (λ z. numbered_after z fs) (sym (append-nil before))
numbered-append before (e ∷ es) fs =
    let x = with_number before e in
    ap (λ z. x ∷ z) (numbered-append (before ++ x ∷ []) es fs ∙ ap (λ z. numbered_after (before ++ x ∷ []) es ++ numbered_after z fs) (append_assoc before (x ∷ []) (numbered_after (before ++ x ∷ []) es)))
