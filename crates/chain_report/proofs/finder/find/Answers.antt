use Rattle.std.proofs.Common.{◌≡◌, ℕ, true, List, refl, sym, subst, inl, inr}
use Rattle.std.specs.Prelude.{MatchOption}
use Rattle.flow_code.specs.Settle.{IsRunnable}
use Rattle.lock_sound.proofs.Running.{weakened_runs}
use Rattle.chain_report.specs.Chains.{is_chain}
use Rattle.chain_report.specs.Finds.{ConflictIs, IsLowest, IsRight, IsWrongAt}
use Rattle.chain_report.proofs.Deciding.{turned, comes_first, one_way}
use Rattle.chain_report.proofs.finder.find.Goals as goal

pub wrong_entry-requires-clause-runnable : goal.wrong_entry-requires-clause-runnable
wrong_entry-requires-clause-runnable c = subst IsRunnable (sym c.code-code.ensures.value) (weakened_runs c.args.w.now c.code-code.ensures.kept)

pub are_conflicting-requires-clause-runnable : goal.are_conflicting-requires-clause-runnable
are_conflicting-requires-clause-runnable c = subst IsRunnable (sym c.code-code.ensures.value) (weakened_runs c.args.w.now c.code-code.ensures.kept)

pub returns-in-Some-2 : goal.returns-in-Some-2
returns-in-Some-2 c =
    let right = subst (λ z. IsRight z c.args.setup.now c.args.entries.now) c.code-code.ensures.value (subst (λ o. MatchOption o (IsRight c.code-code.result.now c.args.setup.now c.args.entries.now) (IsWrongAt c.code-code.result.now c.args.setup.now c.args.entries.now)) c.in_default.is c.in_ok-at.ensures) in
    let conflict = subst (λ z. ConflictIs z c.args.setup.now c.args.entries.now c.args.i c.args.j true) c.code-code.ensures.value (subst (ConflictIs c.code-code.result.now c.args.setup.now c.args.entries.now c.args.i c.args.j) c.if-not-branch.false c.in_ok-are_conflicting.ensures) in
    let found = subst (λ o. MatchOption o ((given : List (ℕ × ℕ)) → is_chain c.args.entries.now c.args.i c.args.j given ≡ true → ⊥) (λ given. IsLowest c.args.entries.now c.args.i c.args.j given × (is_chain c.args.entries.now c.args.i c.args.j given ≡ true))) c.in-Some-2.is c.in_ok-passes.ensures in
    (right, conflict, inl (refl, refl), comes_first c.args.w.now c.args.setup.now c.args.entries.now c.code-code.ensures.kept c.slots-slots.ensures.within right c.args.i c.args.j c.in-Some-2.passes conflict found.1, found.0, found.1)

pub returns-in-Some-3 : goal.returns-in-Some-3
returns-in-Some-3 c =
    let right = subst (λ z. IsRight z c.args.setup.now c.args.entries.now) c.code-code.ensures.value (subst (λ o. MatchOption o (IsRight c.code-code.result.now c.args.setup.now c.args.entries.now) (IsWrongAt c.code-code.result.now c.args.setup.now c.args.entries.now)) c.in_default.is c.in_ok-at.ensures) in
    let conflict = subst (λ z. ConflictIs z c.args.setup.now c.args.entries.now c.args.i c.args.j true) c.code-code.ensures.value (subst (ConflictIs c.code-code.result.now c.args.setup.now c.args.entries.now c.args.i c.args.j) c.if-not-branch.false c.in_ok-are_conflicting.ensures) in
    let found = subst (λ o. MatchOption o ((given : List (ℕ × ℕ)) → is_chain c.args.entries.now c.args.j c.args.i given ≡ true → ⊥) (λ given. IsLowest c.args.entries.now c.args.j c.args.i given × (is_chain c.args.entries.now c.args.j c.args.i given ≡ true))) c.in-Some-3.is c.in_ok-passes-2.ensures in
    (right, conflict, inr (refl, refl), comes_first c.args.w.now c.args.setup.now c.args.entries.now c.code-code.ensures.kept c.slots-slots.ensures.within right c.args.j c.args.i c.in-Some-3.passes (turned c.args.w.now.weak c.args.setup.now c.args.entries.now c.args.i c.args.j conflict) found.1, found.0, found.1)

pub returns : goal.returns
returns c =
    let right = subst (λ z. IsRight z c.args.setup.now c.args.entries.now) c.code-code.ensures.value (subst (λ o. MatchOption o (IsRight c.code-code.result.now c.args.setup.now c.args.entries.now) (IsWrongAt c.code-code.result.now c.args.setup.now c.args.entries.now)) c.in_default.is c.in_ok-at.ensures) in
    let none = subst (λ o. MatchOption o ((given : List (ℕ × ℕ)) → is_chain c.args.entries.now c.args.i c.args.j given ≡ true → ⊥) (λ given. IsLowest c.args.entries.now c.args.i c.args.j given × (is_chain c.args.entries.now c.args.i c.args.j given ≡ true))) c.in_default-2.is c.in_ok-passes.ensures in
    let back = subst (λ o. MatchOption o ((given : List (ℕ × ℕ)) → is_chain c.args.entries.now c.args.j c.args.i given ≡ true → ⊥) (λ given. IsLowest c.args.entries.now c.args.j c.args.i given × (is_chain c.args.entries.now c.args.j c.args.i given ≡ true))) c.in_default-3.is c.in_ok-passes-2.ensures in
    (right, λ conflict. one_way c.args.w.now c.args.setup.now c.args.entries.now c.code-code.ensures.kept c.slots-slots.ensures.within right c.args.i c.args.j conflict none back)
