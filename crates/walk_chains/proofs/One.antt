-- A log has one answer for two points on a code.
use Rattle.std.proofs.Common.{◌≡◌, refl, sym, ap, subst, ◌∙◌, ℕ, ◌⊎◌, inl, inr, List, arith}
use Rattle.command_line.specs.declared.answer.Answer.{Answer}
use Rattle.command_line.specs.declared.answer.Answer.TheVariants as answer
use Rattle.chain_report.specs.Finds.{ComesFirst, FoundIs, IsLowest, IsWrongAt}
use Rattle.chain_report.specs.declared.point.Found.{Found}
use Rattle.chain_report.specs.declared.point.Found.TheVariants as found
use Rattle.chain_report.specs.declared.point.Point.{Point}
use Rattle.core_run.specs.declared.outcome.Walk.{Walk}
use Rattle.core_run.specs.declared.outcome.Walk.TheVariants as walk
use Rattle.flow_code.specs.Settle.{IsRunnable}
use Rattle.flow_code.specs.declared.code.Code.{Code}
use Rattle.job_outcomes.specs.Outcomes.{answers}
use Rattle.job_outcomes.specs.declared.outcome.Outcome.{Outcome}
use Rattle.sync_objects.specs.Setup.{IsWithinLimits, SetupView}
use Rattle.sync_objects.specs.declared.entry.Entry.{Entry}
use Rattle.walk_answers.proofs.OneWalk.{one_walk}
use Rattle.walk_answers.specs.Walking as printed
use Rattle.walk_answers.specs.Walking.{no_reads}
use Rattle.walk_hits.proofs.One.{by_walk, with_line}
use Rattle.walk_hits.specs.Telling.{answer_of}
use Rattle.walk_chains.specs.Telling.{OneChain, TellsChain, chain_text, lines_of}
use Rattle.walk_chains.proofs.Lowest.{lowest_once}
use Rattle.walk_chains.proofs.Places.{one_way}

-- ---- what is found

module _ (code : Code) (s : SetupView) (es : List Entry) where
  -- what makes a chain between these points the one that is told
  record Chains (one other first second : Point) (given : List (ℕ × ℕ)) : Type 0 where
    ways : ((first ≡ one) × (second ≡ other)) ⊎ ((first ≡ other) × (second ≡ one))
    comes : ComesFirst code s es first second
    lowest : IsLowest es first second given

  module _ (run_ok : IsRunnable code) (limits : IsWithinLimits s) where
    same_ends : (a b c d : Point) (given passes : List (ℕ × ℕ)) → a ≡ c → b ≡ d → IsLowest es a b given → IsLowest es c d passes → chain_text a b given ≡ chain_text c d passes
    same_ends a b c d given passes e f h g =
        let l = subst (λ y. IsLowest es c y given) f (subst (λ x. IsLowest es x b given) e h) in
        let same = lowest_once es c d given passes l g in
        (λ i. chain_text (e i) (f i) (same i))

    never_turned : (p q a b c d : Point) → a ≡ p → b ≡ q → c ≡ q → d ≡ p → ComesFirst code s es a b → ComesFirst code s es c d → ⊥
    never_turned p q a b c d a_is b_is c_is d_is h g =
        one_way code s run_ok limits es p q
        (subst (λ y. ComesFirst code s es p y) b_is (subst (λ x. ComesFirst code s es x b) a_is h))
        (subst (λ y. ComesFirst code s es q y) d_is (subst (λ x. ComesFirst code s es x d) c_is g))

    one_text : (one other a b c d : Point) (given passes : List (ℕ × ℕ)) → Chains one other a b given → Chains one other c d passes → chain_text a b given ≡ chain_text c d passes
    one_text one other a b c d given passes h g = by h.ways g.ways
      where
        by : ((a ≡ one) × (b ≡ other)) ⊎ ((a ≡ other) × (b ≡ one)) → ((c ≡ one) × (d ≡ other)) ⊎ ((c ≡ other) × (d ≡ one)) → chain_text a b given ≡ chain_text c d passes
        by (inl x) (inl y) = same_ends a b c d given passes (x.0 ∙ sym y.0) (x.1 ∙ sym y.1) h.lowest g.lowest
        by (inr x) (inr y) = same_ends a b c d given passes (x.0 ∙ sym y.0) (x.1 ∙ sym y.1) h.lowest g.lowest
        by (inl x) (inr y) = absurd (never_turned one other a b c d x.0 x.1 y.0 y.1 h.comes g.comes)
        by (inr x) (inl y) = absurd (never_turned other one a b c d x.0 x.1 y.0 y.1 h.comes g.comes)

  -- the walk is wrong somewhere
  abbrev WrongSomewhere : Type 0
  WrongSomewhere = (at : ℕ) × IsWrongAt code s es at

  one_found : IsRunnable code → IsWithinLimits s → (one other : Point) (a b : Found) → FoundIs code s es one other a → FoundIs code s es one other b → (lines_of a ≡ lines_of b) ⊎ WrongSomewhere
  one_found run_ok limits one other (found.Wrong at) b h g = inr (at, h)
  one_found run_ok limits one other found.NoConflict (found.Wrong at) h g = inr (at, g)
  one_found run_ok limits one other found.NoConflict found.NoConflict h g = inl refl
  one_found run_ok limits one other found.NoConflict (found.Chain c d passes) h g = absurd (h.1 g.1)
  one_found run_ok limits one other (found.Chain a b given) (found.Wrong at) h g = inr (at, g)
  one_found run_ok limits one other (found.Chain a b given) found.NoConflict h g = absurd (g.1 h.1)
  one_found run_ok limits one other (found.Chain a b given) (found.Chain c d passes) h g =
      inl (one_text run_ok limits one other a b c d given passes
      (record { ways = h.2; comes = h.3; lowest = h.4 }) (record { ways = g.2; comes = g.3; lowest = g.4 }))

-- ---- what is told

pub one_chain : OneChain
one_chain code s es one other o p run_ok limits h g = h.told ∙ ap answers (answers_are (one_found code s es run_ok limits one other h.found g.found h.finds g.finds)) ∙ sym g.told
  where
    same : printed.answer_of h.walk ≡ printed.answer_of g.walk
    same = (one_walk code s es no_reads h.walk g.walk h.walks g.walks).0

    wrong : (at : ℕ) → IsWrongAt code s es at → printed.answer_of g.walk ≡ answer.WrongEntry at
    wrong at w = (one_walk code s es no_reads g.walk (walk.Wrong at) g.walks (at, omega arith, w)).0

    alike : (lines_of h.found ≡ lines_of g.found) ⊎ WrongSomewhere code s es → with_line (lines_of h.found) (printed.answer_of g.walk) ≡ with_line (lines_of g.found) (printed.answer_of g.walk)
    alike (inl e) = ap (λ line. with_line line (printed.answer_of g.walk)) e
    alike (inr w) = ap (with_line (lines_of h.found)) (wrong w.0 w.1) ∙ ap (with_line (lines_of g.found)) (sym (wrong w.0 w.1))

    answers_are : (lines_of h.found ≡ lines_of g.found) ⊎ WrongSomewhere code s es → answer_of (lines_of h.found) h.walk ≡ answer_of (lines_of g.found) g.walk
    answers_are e = by_walk (lines_of h.found) h.walk ∙ ap (with_line (lines_of h.found)) same ∙ alike e ∙ sym (by_walk (lines_of g.found) g.walk)
