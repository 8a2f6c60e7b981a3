-- The states between the entries of a walk.
use Rattle.std.proofs.Common.{◌≡◌, ℕ, ◌+◌, List, [], ◌∷◌, length, take, Some, sym, ap, ◌∙◌, true}
use Rattle.std.specs.Prelude.{option_and_then}
use Rattle.std.proofs.Math.Seq.{take-append_seam, take-append-add}
use Rattle.std.proofs.lemmas.Option.{same_Some}
use Rattle.sync_objects.specs.Setup.{SetupView}
use Rattle.sync_objects.specs.declared.entry.Entry.{Entry}
use Rattle.flow_code.specs.declared.code.Code.{Code}
use Rattle.thread_interpreter.specs.declared.access.Access.{Access}
use Rattle.thread_interpreter.specs.declared.access.Formula.{Formula}
use Rattle.thread_interpreter.specs.Flows.{Running}
use Rattle.core_run.specs.Machine.{machine, start_state}
use Rattle.core_run.specs.Shown.{RunAll, PartStep}
use Rattle.core_run.specs.Walks.{walk_of}
use Rattle.core_run.proofs.WalkLoop.{Walked, walked_more}
use Rattle.run_theory.proofs.Solo.{walk-append}

module _ (code : Code) (s : SetupView) (es : List Entry) (f : Formula) (at : ℕ) where
  module _ (rest : List Entry) (flows : List Running) (words : List ℕ) (reads : List (List Access)) (out : List ℕ) (w : Walked code s es f at rest flows words reads out) where
    -- the entries so far lead to the state
    pub leads : walk_of code s (take at es) (start_state code s) ≡ Some w.state
    leads = ap (λ n. walk_of code s (take n es) (start_state code s)) (sym w.count) ∙ ap (λ z. walk_of code s (take (length w.front) z) (start_state code s)) w.split
        ∙ ap (λ z. walk_of code s z (start_state code s)) (take-append_seam w.front rest) ∙ w.walked

    -- the walk of all is that of the rest from the state
    pub rest_walks : walk_of code s es (start_state code s) ≡ walk_of code s rest w.state
    rest_walks = ap (λ z. walk_of code s z (start_state code s)) w.split ∙ walk-append (machine code s) w.front rest (start_state code s) ∙ ap (option_and_then (walk_of code s rest)) w.walked

module _ (code : Code) (s : SetupView) (es : List Entry) (f : Formula) (at : ℕ) where
  module _ (e : Entry) (rest : List Entry) (flows flows1 : List Running) (words words1 : List ℕ) (reads reads1 : List (List Access)) (out out1 : List ℕ) (all : RunAll code s 0 flows1) (w : Walked code s es f at (e ∷ rest) flows words reads out) (p : PartStep code s f e w.state flows1 words1 reads1 out out1 true) where
    abbrev pub next_walked : Walked code s es f (at + 1) rest flows1 words1 reads1 out1
    next_walked = walked_more code s es f at flows words reads out e rest flows1 words1 reads1 out1 all w p

    to_next : walk_of code s (take (at + 1) es) (start_state code s) ≡ Some p.2.next
    to_next =
        ap (λ n. walk_of code s (take (n + 1) es) (start_state code s)) (sym w.count) ∙ ap (λ z. walk_of code s (take (length w.front + 1) z) (start_state code s)) w.split
        ∙ ap (λ z. walk_of code s z (start_state code s)) (take-append-add w.front (e ∷ rest) 1)
        ∙ walk-append (machine code s) w.front (e ∷ []) (start_state code s)
        ∙ ap (option_and_then (walk_of code s (e ∷ []))) w.walked ∙ ap (option_and_then (walk_of code s [])) p.2.parts

    pub next_is : p.2.next ≡ next_walked.state
    next_is = same_Some p.2.next next_walked.state (sym to_next ∙ leads code s es f (at + 1) rest flows1 words1 reads1 out1 next_walked)

-- the walk begins in the start state
pub begins : (code : Code) (s : SetupView) (es : List Entry) (f : Formula) (flows : List Running) (words : List ℕ) (reads : List (List Access)) (w : Walked code s es f 0 es flows words reads []) → start_state code s ≡ w.state
begins code s es f flows words reads w = same_Some (start_state code s) w.state (leads code s es f 0 es flows words reads [] w)
