-- A text that is written part by part.
use Rattle.std.proofs.Common.{◌≡◌, ℕ, zero, suc, ◌+◌, ◌^◌, ◌<◌, ◌≤◌, eqb, List, [], ◌∷◌, ◌++◌, length, map, sym, ap, ◌∙◌, arith, append_assoc}
use Rattle.std.proofs.lemmas.Bool.{ne_eqb, cond-false}
use Rattle.std.proofs.lemmas.List.{append-nil}
use Rattle.std.specs.Prelude.{codes, decimal}
use Rattle.std.proofs.lemmas.List.Concat.{flat_map-append}
use Rattle.std.proofs.lemmas.Fmt.{decimal_digit, decimal-digits_of}
use Rattle.profiles.specs.Profile.{Text}
use Rattle.sync_objects.specs.declared.entry.Entry.{Entry}
use Rattle.order_log.specs.Log.{LogView}
use Rattle.order_log.specs.declared.version.Version.{Version}
use Rattle.order_log.specs.Text.{number_text, hex_text, entry_line, profile_lines, stripe_of, last_text, Group, groups_of, group_line, version_line, text_of, text_in}
use Rattle.order_log.proofs.Numbers.{number_text_some}

pub decimal-number_text : (n : ℕ) → n < 2 ^ 64 → decimal n ≡ number_text n
decimal-number_text zero lt = decimal_digit 0 (omega arith)
decimal-number_text (suc n) lt = decimal-digits_of (suc n) (omega arith) lt ∙ sym (number_text_some (suc n) (omega arith))

text_of-append : (xs ys : List Text) → text_of (xs ++ ys) ≡ text_of xs ++ text_of ys
text_of-append xs ys = flat_map-append (λ line. line ++ 10 ∷ []) xs ys

joined : (a s c m i h : Text) (ps es : List Text) → text_of (a ∷ s ∷ c ∷ m ∷ ((ps ++ i ∷ h ∷ []) ++ es))
    ≡ (a ++ 10 ∷ []) ++ (s ++ 10 ∷ []) ++ (c ++ 10 ∷ []) ++ (m ++ 10 ∷ []) ++ text_of ps ++ (i ++ 10 ∷ []) ++ h ++ 10 ∷ [] ++ text_of es
joined a s c m i h ps es = simp (flat_map-append, append_assoc, append-nil)

chain : (a s c m i h : Text) (ps es : List Text) (o0 o1 o2 o3 o4 o5 o6 o7 o8 o9 : Text) → o0 ≡ a → o1 ≡ o0 ++ 10 ∷ [] → o2 ≡ o1 ++ (s ++ 10 ∷ []) → o3 ≡ o2 ++ (c ++ 10 ∷ []) → o4 ≡ o3 ++ (m ++ 10 ∷ []) → o5 ≡ o4 ++ text_of ps
    → o6 ≡ o5 ++ (i ++ 10 ∷ []) → o7 ≡ o6 ++ h → o8 ≡ o7 ++ 10 ∷ [] → o9 ≡ o8 ++ text_of es
    → o9 ≡ (a ++ 10 ∷ []) ++ (s ++ 10 ∷ []) ++ (c ++ 10 ∷ []) ++ (m ++ 10 ∷ []) ++ text_of ps ++ (i ++ 10 ∷ []) ++ h ++ 10 ∷ [] ++ text_of es
chain a s c m i h ps es o0 o1 o2 o3 o4 o5 o6 o7 o8 o9 e0 e1 e2 e3 e4 e5 e6 e7 e8 e9 = cc

-- the parts as they are written, one after the other
pub written : (w : Version) (v : LogView) (o0 o1 o2 o3 o4 o5 o6 o7 o8 o9 : Text) → o0 ≡ version_line w → o1 ≡ o0 ++ 10 ∷ []
    → o2 ≡ o1 ++ ((codes "slots " ++ number_text v.setup.slots) ++ 10 ∷ []) → o3 ≡ o2 ++ ((codes "cells " ++ number_text v.setup.cells) ++ 10 ∷ [])
    → o4 ≡ o3 ++ ((codes "limit " ++ number_text v.setup.limit) ++ 10 ∷ []) → o5 ≡ o4 ++ text_of (profile_lines v.profile)
    → o6 ≡ o5 ++ ((codes "input " ++ number_text (length v.setup.input)) ++ 10 ∷ []) → o7 ≡ o6 ++ hex_text v.setup.input → o8 ≡ o7 ++ 10 ∷ [] → o9 ≡ o8 ++ text_of (map group_line (groups_of w v.entries))
    → o9 ≡ text_in w v
written w v o0 o1 o2 o3 o4 o5 o6 o7 o8 o9 e0 e1 e2 e3 e4 e5 e6 e7 e8 e9 =
    let a = version_line w in
    let s = codes "slots " ++ number_text v.setup.slots in
    let c = codes "cells " ++ number_text v.setup.cells in
    let m = codes "limit " ++ number_text v.setup.limit in
    let i = codes "input " ++ number_text (length v.setup.input) in
    let h = hex_text v.setup.input in
    let ps = profile_lines v.profile in
    let es = map group_line (groups_of w v.entries) in
    chain a s c m i h ps es o0 o1 o2 o3 o4 o5 o6 o7 o8 o9 e0 e1 e2 e3 e4 e5 e6 e7 e8 e9 ∙ sym (joined a s c m i h ps es)

-- ---- the lines of entries

-- the first line, and what is left
pub lines_more : (w : Version) (out after whole : Text) (es fs : List Entry) (r : Group) → groups_of w es ≡ r ∷ groups_of w fs → after ≡ out ++ (group_line r ++ 10 ∷ [])
    → out ++ text_of (map group_line (groups_of w es)) ≡ whole → after ++ text_of (map group_line (groups_of w fs)) ≡ whole
lines_more w out after whole es fs r groups pushed so_far =
    let rest = text_of (map group_line (groups_of w fs)) in
    ap (λ (t : Text). t ++ rest) pushed ∙ append_assoc out (group_line r ++ 10 ∷ []) rest ∙ ap (λ (rs : List Group). out ++ text_of (map group_line rs)) (sym groups) ∙ so_far

-- an entry alone in its line, and one with others after it
pub alone_written : (e : Entry) (more : ℕ) (out after : Text) → more ≤ 0 → after ≡ out ++ entry_line e → after ++ 10 ∷ [] ≡ out ++ (group_line (record { first = e; more = more }) ++ 10 ∷ [])
alone_written e more out after few pushed =
    let none : more ≡ 0 = omega arith in
    let line : group_line (record { first = e; more = more }) ≡ entry_line e = ap (λ (k : ℕ). entry_line e ++ last_text (record { first = e; more = k })) none ∙ append-nil (entry_line e) in
    ap (λ (t : Text). t ++ 10 ∷ []) pushed ∙ append_assoc out (entry_line e) (10 ∷ []) ∙ ap (λ (t : Text). out ++ (t ++ 10 ∷ [])) (sym line)

pub range_written : (e : Entry) (more : ℕ) (out middle after : Text) → 0 < more → middle ≡ out ++ entry_line e → after ≡ middle ++ (codes "-" ++ number_text (stripe_of e.obj + more))
    → after ++ 10 ∷ [] ≡ out ++ (group_line (record { first = e; more = more }) ++ 10 ∷ [])
range_written e more out middle after some first second =
    let last = codes "-" ++ number_text (stripe_of e.obj + more) in
    let spelled : last_text (record { first = e; more = more }) ≡ last = cond-false (eqb more 0) [] last (ne_eqb more 0 (λ h. omega arith)) in
    ap (λ (t : Text). t ++ 10 ∷ []) (second ∙ ap (λ (t : Text). t ++ last) first ∙ append_assoc out (entry_line e) last) ∙ append_assoc out (entry_line e ++ last) (10 ∷ [])
    ∙ ap (λ (t : Text). out ++ ((entry_line e ++ t) ++ 10 ∷ [])) (sym spelled)
