-- Whether a stripe fits, by the counts of all stripes.
use Rattle.std.proofs.Common.{◌≡◌, ℕ, ◌*◌, ◌+◌, ◌≤◌, Bool, true, List, length, Option, sym, ap, ◌∙◌}
use Rattle.std.specs.Prelude.{◌&&◌, ◌==◌, nat_lt, nat_le, slice_index}
use Rattle.std.proofs.lemmas.Bool.{and_from, le-leb, lt-ltb}
use Rattle.sync_objects.specs.Setup.{SetupView}
use Rattle.sync_objects.specs.declared.object.ObjId.TheVariants as object
use Rattle.flow_code.specs.declared.code.Code.{Code}
use Rattle.core_run.specs.Words.{has_object}
use Rattle.snapshots.specs.Conditions.{is_after, nesting_in, stripe_fits}
use Rattle.snapshot_reader.specs.Tallies.{AreNestings, IsIn, place}
use Rattle.thread_interpreter.specs.declared.part.RegionPart.{RegionPart}
use Rattle.thread_interpreter.specs.declared.part.StripePart.{StripePart}

-- all that is left to ask is whether its number is the count at its place
pub by_count : (code : Code) (s : SetupView) (regions : List RegionPart) (before : Option ℕ) (x : StripePart) (counts : List ℕ) (at : ℕ) (same : Bool)
    → AreNestings (length code.locks) regions counts → IsIn (length code.locks) (x.lock, x.stripe) → at ≡ place (x.lock, x.stripe)
    → is_after before at ≡ true → 1 ≤ x.nesting → same ≡ (x.nesting == slice_index counts at) → same ≡ stripe_fits code s regions before x
by_count code s regions before x counts at same are inside here after some same_is =
    let has : has_object code s (object.Weak x.lock x.stripe) ≡ true = and_from (nat_lt x.lock (length code.locks)) (nat_lt x.stripe 8) (lt-ltb x.lock (length code.locks) inside.0) (lt-ltb x.stripe 8 inside.1) in
    let later : is_after before (8 * x.lock + x.stripe) ≡ true = sym (ap (is_after before) here) ∙ after in
    let one : nat_le 1 x.nesting ≡ true = le-leb 1 x.nesting some in
    same_is ∙ ap (λ (n : ℕ). x.nesting == n) (ap (slice_index counts) here ∙ are.each (x.lock, x.stripe) inside)
    ∙ (λ i. sym has i && (sym later i && (sym one i && (x.nesting == nesting_in regions (x.lock, x.stripe)))))
