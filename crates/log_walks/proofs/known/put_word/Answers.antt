use Rattle.std.proofs.Common.{◌≡◌, ℕ, Bool, true, false, Option, Some, refl, sym, ap, ◌∙◌, cond}
use Rattle.std.specs.Prelude.{if◌then◌else◌}
use Rattle.std.specs.Option.{option_map_or}
use Rattle.std.specs.Map.{lookup}
use Rattle.indexmap.specs.IndexMap.{get}
use Rattle.sync_objects.specs.Start.{start_word}
use Rattle.sync_objects.specs.declared.object.ObjId.{ObjId}
use Rattle.run_theory.specs.Same.{same_object}
use Rattle.entry_merge.proofs.Objects.{eq, eq_is_same, lookup_same}
use Rattle.log_walks.proofs.known.put_word.Goals as goal

abbrev word_or_start : ObjId → Option ℕ → ℕ
word_or_start o w = option_map_or (λ n. n) w (start_word o)

-- the word of one object after another one's was put
put_at : (p : ObjId) (word : ℕ) (b : Bool) (old : Option ℕ) → word_or_start p (cond b (Some word) old) ≡ (if b then word else word_or_start p old)
put_at p word true old = refl
put_at p word false old = refl

pub returns : goal.returns
returns c p =
    ap (word_or_start p) (
    sym (lookup_same (eq p) (same_object p) (eq_is_same p) c.insert.new.self.entries)
    ∙ c.in_ok-insert.ensures.updates.0 p
    ∙ ap (λ b. cond b (Some c.args.word) (lookup (eq p) c.args.words.now.entries)) (eq_is_same c.args.obj p)
    ∙ ap (λ o. cond (same_object c.args.obj p) (Some c.args.word) o) (lookup_same (eq p) (same_object p) (eq_is_same p) c.args.words.now.entries)
    )
    ∙ put_at p c.args.word (same_object c.args.obj p) (get same_object c.args.words.now p)
