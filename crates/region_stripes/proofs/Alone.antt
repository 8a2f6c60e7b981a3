-- The region of a cell has one instruction.
use Rattle.std.proofs.Common.{◌≡◌, ℕ, ◌+◌, Bool, true, false, if◌then◌else◌, List, [], ◌∷◌, ◌++◌, map, refl, ap, ◌∙◌, Some, None}
use Rattle.flow_code.specs.declared.code.Function.{Function}
use Rattle.flow_code.specs.declared.code.LoopInfo.{LoopInfo}
use Rattle.flow_code.specs.declared.region.Base.{Base}
use Rattle.flow_code.specs.declared.region.Region.TheVariants as region
use Rattle.flow_code.specs.declared.region.Span.{Span}
use Rattle.weak_lock_facts.specs.declared.grain.Grain.TheVariants as grain
use Rattle.weak_code.specs.declared.stretch.RacyAccess.{RacyAccess}
use Rattle.weak_code.specs.declared.stretch.Stretch.{Stretch}
use Rattle.weak_code.specs.Stretches.{same_grain, with_grain, function_stretch, spans_of, loop_stretch, loop_stretches, block_stretch, block_from, block_stretches, access_stretch, access_stretches, stretches_of}
use Rattle.weak_valid.proofs.Accesses.{Each, each_append, each_filter_map}
use Rattle.std.proofs.lemmas.Option.{same_Some}

-- its last instruction is its first, if it is that of a cell
abbrev pub IsShort : Stretch → Type 0
IsShort t = (from : Base) (locks : List ℕ) → t.region ≡ region.Cell from locks → t.first ≡ t.last

function_short : (fn : Function) (xs : List RacyAccess) → Each IsShort (function_stretch fn xs)
function_short fn [] = tt
function_short fn (a ∷ more) = ((λ from locks e. cc), tt)

loop_short : (l : LoopInfo) (spans : List Span) (t : Stretch) → loop_stretch l spans ≡ Some t → IsShort t
loop_short l [] t h from locks e = cc
loop_short l (x ∷ spans) t h from locks e =
    let q = ap (λ (z : Stretch). z.region) (same_Some (record { first = l.at; last = l.last + 1; region = region.Ranged l.counter l.bound (x ∷ spans) }) t h) ∙ e in cc

block_short : (own : List RacyAccess) (a : RacyAccess) (t : Stretch) → block_from own a ≡ Some t → IsShort t
block_short own a t h from locks e = go (same_grain (grain.Block a.instr) a.grain) h
  where
    go : (b : Bool) → (if b then Some (block_stretch a.instr (with_grain (grain.Block a.instr) own)) else None) ≡ Some t → t.first ≡ t.last
    go true h = let q = ap (λ (z : Stretch). z.region) (same_Some (block_stretch a.instr (with_grain (grain.Block a.instr) own)) t h) ∙ e in cc
    go false h = cc

accesses_short : (xs : List RacyAccess) → Each IsShort (map access_stretch xs)
accesses_short [] = tt
accesses_short (a ∷ xs) = ((λ from locks e. refl), accesses_short xs)

pub all_short : (fn : Function) (own : List RacyAccess) → Each IsShort (stretches_of fn own)
all_short fn own =
    let loops : Each IsShort (loop_stretches fn own) = each_filter_map IsShort (λ l. loop_stretch l (spans_of fn.instrs l.at own)) fn.loops (λ k l t g h. loop_short l (spans_of fn.instrs l.at own) t h) in
    let blocks : Each IsShort (block_stretches own) = each_filter_map IsShort (block_from own) own (λ k a t g h. block_short own a t h) in
    each_append IsShort (function_stretch fn (with_grain grain.Function own)) (loop_stretches fn own ++ (block_stretches own ++ access_stretches own)) (function_short fn (with_grain grain.Function own))
    (each_append IsShort (loop_stretches fn own) (block_stretches own ++ access_stretches own) loops
    (each_append IsShort (block_stretches own) (access_stretches own) blocks (accesses_short (with_grain grain.Instruction own))))
