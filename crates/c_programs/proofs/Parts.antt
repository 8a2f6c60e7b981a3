-- What stands in a block, one thing after another.
use Rattle.std.proofs.Common.{◌≡◌, ℕ, ◌+◌, ◌<◌, Bool, true, List, ◌++◌, Option, length, get_or, drop, map, refl, sym, ap, ◌∙◌}
use Rattle.std.proofs.lemmas.List.{at_drop_more}
use Rattle.c_tree.specs.declared.statement.Part.{Part as RustPart}
use Rattle.c_tree.specs.Tree.{Exp, Part, part_declares, part_does, Parts, with_part, listed_parts, Start, Statement, block, for_loop}
use Rattle.rr_base.specs.declared.position.Position.{Position}
use Rattle.c_tree.specs.View.{part_of}
use Rattle.c_types.specs.declared.library.StarredType.{StarredType}
use Rattle.c_types.specs.declared.fault.Found.{Found}
use Rattle.c_types.specs.Found.{first_among}
use Rattle.c_types.specs.Scopes.{Known, opened}
use Rattle.c_programs.specs.Statements.{start_of_for_faults, after_start, test_faults, computed_faults, declares_faults, after_declares, statement_faults, parts_faults, after_parts}
use Rattle.c_types.proofs.First.{first_of_both}

-- known after one thing in a block
abbrev pub after_part : Known → Part → Known
after_part known (part_declares d) = after_declares known d
after_part known (part_does s) = known

abbrev pub part_faults : Known → Option StarredType → Bool → Part → List Found
part_faults known gives in_loop (part_declares d) = declares_faults known d
part_faults known gives in_loop (part_does s) = statement_faults known gives in_loop s

after_with_part : (known : Known) (p : Part) (ps : Parts) → after_parts (after_part known p) ps ≡ after_parts known (with_part p ps)
after_with_part known (part_declares d) ps = refl
after_with_part known (part_does s) ps = refl

first_with_part : (known : Known) (first : Option Found) (gives : Option StarredType) (in_loop : Bool) (p : Part) (ps : Parts) →
    first_among (first_among first (part_faults known gives in_loop p)) (parts_faults (after_part known p) gives in_loop ps) ≡ first_among first (parts_faults known gives in_loop (with_part p ps))
first_with_part known first gives in_loop (part_declares d) ps = sym (first_of_both first (declares_faults known d) _)
first_with_part known first gives in_loop (part_does s) ps = sym (first_of_both first (statement_faults known gives in_loop s) _)

-- the parts of a list of the crate
abbrev pub shown_parts : List RustPart → Parts
shown_parts ps = listed_parts (map part_of ps)

pub known_after : (before after : Known) (parts : List RustPart) (i : ℕ) (x : RustPart) →
    i < length parts → x ≡ get_or parts i x → after ≡ after_part before (part_of x) →
    after_parts after (shown_parts (drop (i + 1) parts)) ≡ after_parts before (shown_parts (drop i parts))
known_after before after parts i x lt is e =
    let rest = shown_parts (drop (i + 1) parts) in
    ap (λ k. after_parts k rest) e
    ∙ after_with_part before (part_of x) rest
    ∙ ap (λ y. after_parts before (with_part (part_of y) rest)) is
    ∙ sym (at_drop_more (λ (ys : List RustPart). after_parts before (shown_parts ys)) parts i x lt)

pub first_after : (before after : Known) (first more : Option Found) (gives : Option StarredType) (in_loop : Bool) (parts : List RustPart) (i : ℕ) (x : RustPart) →
    i < length parts → x ≡ get_or parts i x → after ≡ after_part before (part_of x) →
    more ≡ first_among first (part_faults before gives in_loop (part_of x)) →
    first_among more (parts_faults after gives in_loop (shown_parts (drop (i + 1) parts))) ≡ first_among first (parts_faults before gives in_loop (shown_parts (drop i parts)))
first_after before after first more gives in_loop parts i x lt is e f =
    let rest = shown_parts (drop (i + 1) parts) in
    ap (λ m. first_among m (parts_faults after gives in_loop rest)) f
    ∙ ap (λ k. first_among (first_among first (part_faults before gives in_loop (part_of x))) (parts_faults k gives in_loop rest)) e
    ∙ first_with_part before first gives in_loop (part_of x) rest
    ∙ ap (λ y. first_among first (parts_faults before gives in_loop (with_part (part_of y) rest))) is
    ∙ sym (at_drop_more (λ (ys : List RustPart). first_among first (parts_faults before gives in_loop (shown_parts ys))) parts i x lt)

-- a block, in a scope of its own
pub first_of_block : (known within : Known) (first last : Option Found) (gives : Option StarredType) (in_loop : Bool) (ps : Parts) (at : Position) →
    within ≡ opened known → last ≡ first_among first (parts_faults within gives in_loop ps) →
    last ≡ first_among first (statement_faults known gives in_loop (block ps at))
first_of_block known within first last gives in_loop ps at o l = l ∙ ap (λ k. first_among first (parts_faults k gives in_loop ps)) o

-- a `for`: what stands in its parentheses, and its body after that
pub first_of_for : (known within following : Known) (first head last : Option Found) (gives : Option StarredType) (in_loop : Bool) (begin : Start) (test next : Option Exp) (body : Statement) (at : Position) →
    within ≡ opened known → following ≡ after_start within begin →
    head ≡ first_among first (start_of_for_faults within begin ++ test_faults (after_start within begin) at test ++ computed_faults (after_start within begin) next) →
    last ≡ first_among head (statement_faults following gives true body) →
    last ≡ first_among first (statement_faults known gives in_loop (for_loop begin test next body at))
first_of_for known within following first head last gives in_loop begin test next body at o b h l =
    let before : Known → List Found = λ k. start_of_for_faults k begin ++ test_faults (after_start k begin) at test ++ computed_faults (after_start k begin) next in
    let inside : Known → List Found = λ k. statement_faults k gives true body in
    l
    ∙ ap (λ m. first_among m (inside following)) h
    ∙ ap (λ k. first_among (first_among first (before within)) (inside k)) b
    ∙ sym (first_of_both first (before within) (inside (after_start within begin)))
    ∙ ap (λ k. first_among first (before k ++ inside (after_start k begin))) o
