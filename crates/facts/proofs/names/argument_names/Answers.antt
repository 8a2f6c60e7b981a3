use Rattle.std.proofs.Common.{◌≡◌, Bool, map, ◌<◌, ◌++◌, ◌+◌, ℕ, List, Option, Some, sym, subst, ap, ◌∙◌, drop, arith, length}
use Rattle.std.specs.Prelude.{if◌then◌else◌, slice_get, slice_index_or}
use Rattle.std.proofs.lemmas.Option.{slice_get-get_or}
use Rattle.flow_code.specs.declared.act.Instr.{Instr}
use Rattle.facts.specs.Blocks.{AreStarts, AreAmounts, amount_by, assigns, constant_at}
use Rattle.facts.specs.Carried.{known_in}
use Rattle.facts.specs.declared.locks.Naming.{Naming}
use Rattle.facts.specs.Paths.{known_of, known_at, naming_of, namings_from, arguments_of, argument_namings}
use Rattle.facts.proofs.Carrying.{start_is, amount_of, known_entered, known_next, names_next}
use Rattle.facts.proofs.names.argument_names.Goals as goal

pub loop-at-preserved : goal.loop-at-preserved
loop-at-preserved c =
    let f = c.args.function.now in
    let is = c.as_slice-instrs.result.now in
    let at = c.loop-at.at in
    let i = slice_index_or is at c.index-instrs-at.result in
    let fixed = c.in_ok-fixed.fixed.items in
    let starts = c.in_ok-starts.starts.items in
    let amounts = c.in_ok-amounts.amounts.items in
    let same : is ≡ f.instrs = c.as_slice-instrs.ensures in
    let lt : at < length is = omega arith in
    let within : at < length f.instrs = omega (arith, ap (λ (z : List Instr). length z) same) in
    let there : slice_get f.instrs at ≡ Some i = ap (λ (z : List Instr). slice_get z at) (sym same) ∙ slice_get-get_or is at c.index-instrs-at.result lt in
    let begins : AreStarts f.instrs starts = subst (λ (z : List Instr). AreStarts z starts) same c.in_ok-starts.ensures.each in
    let long : length starts ≡ length f.instrs = c.in_ok-starts.ensures.length ∙ ap (λ (z : List Instr). length z) same in
    let amounts_are : AreAmounts f.instrs amounts = subst (λ (z : List Instr). AreAmounts z amounts) same c.in_ok-amounts.ensures.each in
    let held : (r : ℕ) → known_in c.entered-held.result fixed r ≡ known_at f.formals f.instrs at r = known_entered f fixed at c.index.result.now (known_in c.loop-at.held fixed) (known_in c.entered-held.result fixed) c.in_ok-fixed.ensures (c.index.ensures ∙ start_is f.instrs starts at c.index.result.now begins within long) (c.entered-held.ensures fixed) c.loop-at.invariant.held in
    let amount : c.index-in-loop-at.result.now ≡ amount_by (constant_at f.instrs at) (Some i.act) = amount_of f.instrs amounts at i c.index-in-loop-at.result.now there (amounts_are at within) (slice_get-get_or amounts at c.index-in-loop-at.result.now (omega (arith, c.in_ok-amounts.ensures.length)) ∙ ap Some (sym c.index-in-loop-at.ensures)) in
    let names : c.in_ok-names_of.field-0 ≡ map (λ r. naming_of (known_in c.entered-held.result fixed r)) (arguments_of i.act) = subst (λ (z : List Bool). c.in_ok-names_of.field-0 ≡ map (λ r. naming_of (known_in c.entered-held.result z r)) (arguments_of i.act)) c.deref-in-loop-at.ensures.value c.in_ok-names_of.ensures in
    let passed : (r : ℕ) → known_in c.pass.new.held fixed r ≡ (if assigns r (Some i.act) then known_of (known_in c.entered-held.result fixed) (constant_at f.instrs at) (Some i.act) else known_in c.entered-held.result fixed r) = subst (λ (z : List Bool). (r : ℕ) → known_in c.pass.new.held z r ≡ (if assigns r (Some i.act) then known_of (known_in c.entered-held.result z) (constant_at f.instrs at) (Some i.act) else known_in c.entered-held.result z r)) c.deref-in-loop-at-2.ensures.value (c.in_ok-pass.ensures (constant_at f.instrs at) amount) in
    record {
      rows = subst (λ (z : List (List Naming)). z ++ namings_from f (at + 1) (drop (at + 1) f.instrs) ≡ argument_namings f) (sym c.in_ok-push.ensures.ok) (names_next f at i (known_in c.entered-held.result fixed) c.loop-at.names c.in_ok-names_of.field-0 (argument_namings f) there held names c.loop-at.invariant.rows);
      held = known_next f at i (known_in c.entered-held.result fixed) (known_in c.pass.new.held fixed) there held passed;
    }
