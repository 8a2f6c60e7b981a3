-- Files that are put one after the other.
use Rattle.std.proofs.Common.{◌≡◌, ◌<◌, ◌+◌, refl, sym, ap, subst, ◌∙◌, ℕ, zero, suc, List, [], ◌∷◌, ◌++◌, length, take, get_or, Option, Some, None, arith}
use Rattle.std.specs.Prelude.{drop, option_map}
use Rattle.std.proofs.lemmas.List.{append_assoc, take_more, take-append-drop}
use Rattle.rr_base.specs.Files.{Files, with_file, LeavesOthers}
use Rattle.job_outcomes.specs.Puts.{Put, with_puts, ArePut, ArePartlyPut, PutFailed}

-- ---- some after others

with_both : (ps qs : List Put) (files : Files) → with_puts (ps ++ qs) files ≡ with_puts qs (with_puts ps files)
with_both [] qs files = refl
with_both (p ∷ ps) qs files = with_both ps qs (with_file p.name p.content files)

pub put_both : (ps qs : List Put) (old between new : Option Files) → ArePut ps old between → ArePut qs between new → ArePut (ps ++ qs) old new
put_both ps qs None between new h g = g ∙ ap (option_map (with_puts qs)) h
put_both ps qs (Some files) between new h g = g ∙ ap (option_map (with_puts qs)) h ∙ ap Some (sym (with_both ps qs files))

pub partly_after : (ps qs : List Put) (old between new : Option Files) → ArePut ps old between → ArePartlyPut qs between new → ArePartlyPut (ps ++ qs) old new
partly_after ps qs old between new h g = record { made = ps ++ g.made; rest = g.rest; split = ap (λ (xs : List Put). ps ++ xs) g.split ∙ sym (append_assoc ps g.made g.rest); files = put_both ps g.made old between new h g.files }

pub failed_after : (ps qs : List Put) (old between new : Option Files) → ArePut ps old between → PutFailed qs between new → PutFailed (ps ++ qs) old new
failed_after ps qs old between new h g = record { made = ps ++ g.made; failed = g.failed; rest = g.rest; split = ap (λ (xs : List Put). ps ++ xs) g.split ∙ sym (append_assoc ps g.made (g.failed ∷ g.rest)); before = g.before; files = put_both ps g.made old between g.before h g.files; others = g.others }

-- ---- up to a place

-- one more is put last
with_last : (ps : List Put) (p : Put) (files : Files) → with_puts (ps ++ p ∷ []) files ≡ with_file p.name p.content (with_puts ps files)
with_last [] p files = refl
with_last (q ∷ ps) p files = with_last ps p (with_file q.name q.content files)

pub none_put : (ps : List Put) (o : Option Files) → ArePut (take 0 ps) o o
none_put ps None = refl
none_put ps (Some files) = refl

put_last : (ps : List Put) (p : Put) (old before new : Option Files) → ArePut ps old before → new ≡ option_map (with_file p.name p.content) before → ArePut (ps ++ p ∷ []) old new
put_last ps p None before new h e = e ∙ ap (option_map (with_file p.name p.content)) h
put_last ps p (Some files) before new h e = e ∙ ap (option_map (with_file p.name p.content)) h ∙ ap Some (sym (with_last ps p files))

pub put_more : (ps : List Put) (k : ℕ) (p : Put) (name content : List ℕ) (old before new : Option Files) → k < length ps → p ≡ get_or ps k p → name ≡ p.name → content ≡ p.content → ArePut (take k ps) old before → new ≡ option_map (with_file name content) before → ArePut (take (k + 1) ps) old new
put_more ps k p name content old before new lt is n x h e =
    let more : take (k + 1) ps ≡ take k ps ++ p ∷ [] = take_more ps k p lt ∙ ap (λ (q : Put). take k ps ++ q ∷ []) (sym is) in
    subst (λ qs. ArePut qs old new) (sym more) (put_last (take k ps) p old before new h (e ∙ ap (λ m. option_map (with_file m content) before) n ∙ ap (λ m. option_map (with_file p.name m) before) x))

-- the list by its place k
split_at : (ps : List Put) (k : ℕ) (d : Put) → k < length ps → ps ≡ take k ps ++ get_or ps k d ∷ drop (suc k) ps
split_at [] k d lt = absurd (omega (arith, lt))
split_at (p ∷ ps) zero d lt = refl
split_at (p ∷ ps) (suc k) d lt = ap (λ (qs : List Put). p ∷ qs) (split_at ps k d (omega (arith, lt)))

pub put_failed : (ps : List Put) (k : ℕ) (p : Put) (name : List ℕ) (old before new : Option Files) → k < length ps → p ≡ get_or ps k p → name ≡ p.name → ArePut (take k ps) old before → LeavesOthers name before new → PutFailed ps old new
put_failed ps k p name old before new lt is n h others = record { made = take k ps; failed = get_or ps k p; rest = drop (suc k) ps; split = split_at ps k p lt; before = before; files = h; others = subst (λ m. LeavesOthers m before new) (n ∙ ap (λ (q : Put). q.name) is) others }

pub partly_put : (ps : List Put) (k : ℕ) (old before new : Option Files) → ArePut (take k ps) old before → new ≡ before → ArePartlyPut ps old new
partly_put ps k old before new h e = record { made = take k ps; rest = drop k ps; split = sym (take-append-drop k ps); files = e ∙ h }
