-- A block and a `for` stand in a scope of their own.
use Rattle.std.proofs.Common.{◌≡◌, List, Option, Result, Ok, Err, OnOk, ap, ◌∙◌}
use Rattle.c_tree.specs.Tree.{Exp, Start, Statement, Parts, for_loop}
use Rattle.rr_base.specs.declared.position.Position.{Position}
use Rattle.c_types.specs.Scopes.{Known, opened}
use Rattle.c_numbers.specs.Numbered.{Numbered, inside}
use Rattle.c_locals.proofs.Numbering.{after_none, past_both}
use Rattle.core_tree.specs.Core as core
use Rattle.c_operators.specs.Denoted.{position_of}
use Rattle.c_operators.specs.Context.{Source, Frame, context_in}
use Rattle.c_statements.specs.Statements.{context_inside, here_after_start, block_of, start_elaborated, maybe_value, elaborated, all_elaborated}

pub block_made : (s : Source) (f : Frame) (before within : Known) (numbered inner : Numbered) (ps : Parts) (made : List core.Statement) →
    within ≡ opened before → inner ≡ inside numbered → made ≡ all_elaborated (context_in s f within inner) ps →
    block_of made ≡ block_of (all_elaborated (context_inside (context_in s f before numbered)) ps)
block_made s f before within numbered inner ps made o n m =
    ap block_of
    (m
    ∙ ap (λ (k : Known). all_elaborated (context_in s f k inner) ps) o
    ∙ ap (λ (k : Numbered). all_elaborated (context_in s f (opened before) k) ps) n)

-- a `for` whose scope is open
abbrev pub for_within : Source → Frame → Known → Numbered → Start → Option Exp → Option Exp → Statement → Position → core.Statement
for_within s f known numbered begin test next body at =
    core.for_loop
    (start_elaborated (context_in s f known numbered) begin)
    (maybe_value (here_after_start (context_in s f known numbered) begin) test)
    (maybe_value (here_after_start (context_in s f known numbered) begin) next)
    (elaborated (here_after_start (context_in s f known numbered) begin) body)
    (position_of at)

pub for_made : (s : Source) (f : Frame) (before within : Known) (numbered inner : Numbered) (begin : Start) (test next : Option Exp) (body : Statement) (at : Position) (made : core.Statement) →
    within ≡ opened before → inner ≡ inside numbered → made ≡ for_within s f within inner begin test next body at →
    made ≡ elaborated (context_in s f before numbered) (for_loop begin test next body at)
for_made s f before within numbered inner begin test next body at made o n m =
    m
    ∙ ap (λ (k : Known). for_within s f k inner begin test next body at) o
    ∙ ap (λ (k : Numbered). for_within s f (opened before) k begin test next body at) n

pub ruleset numbers_past = (after_none, past_both)

-- what holds in any case
pub whenever : {T E : Type 0} {P : Type 0} (r : Result T E) → P → OnOk r P
whenever (Ok v) p = p
whenever (Err e) p = tt
