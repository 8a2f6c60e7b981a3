use Rattle.std.proofs.Common.{◌≡◌, ℕ, ◌+◌, ◌<◌, Bool, List, ◌∷◌, Option, length, get_or, drop, map, sym, ap, ◌∙◌, arith}
use Rattle.std.proofs.lemmas.List.{at_drop_more}
use Rattle.c_tree.specs.declared.param.Param.{Param}
use Rattle.c_tree.specs.View.{formal_of}
use Rattle.c_types.specs.declared.fault.Found.{Found}
use Rattle.c_types.specs.Found.{first_among}
use Rattle.c_types.specs.Scopes.{Known}
use Rattle.c_programs.specs.Declarators.{after_param, after_params, param_faults, params_faults}
use Rattle.c_types.proofs.First.{first_of_both}
use Rattle.c_programs.proofs.params.note_params.Goals as goal

known_after : (before after : Known) (ps : List Param) (i : ℕ) (x : Param) →
    i < length ps → x ≡ get_or ps i x → after ≡ after_param before (formal_of x) →
    after_params after (map formal_of (drop (i + 1) ps)) ≡ after_params before (map formal_of (drop i ps))
known_after before after ps i x lt is e =
    ap (λ k. after_params k (map formal_of (drop (i + 1) ps))) e
    ∙ ap (λ y. after_params (after_param before (formal_of y)) (map formal_of (drop (i + 1) ps))) is
    ∙ sym (at_drop_more (λ (ys : List Param). after_params before (map formal_of ys)) ps i x lt)

first_after : (before after : Known) (first more : Option Found) (d : Bool) (ps : List Param) (i : ℕ) (x : Param) →
    i < length ps → x ≡ get_or ps i x → after ≡ after_param before (formal_of x) →
    more ≡ first_among first (param_faults before d (formal_of x)) →
    first_among more (params_faults after d (map formal_of (drop (i + 1) ps))) ≡ first_among first (params_faults before d (map formal_of (drop i ps)))
first_after before after first more d ps i x lt is e f =
    ap (λ m. first_among m (params_faults after d (map formal_of (drop (i + 1) ps)))) f
    ∙ ap (λ k. first_among (first_among first (param_faults before d (formal_of x))) (params_faults k d (map formal_of (drop (i + 1) ps)))) e
    ∙ sym (first_of_both first (param_faults before d (formal_of x)) (params_faults (after_param before (formal_of x)) d (map formal_of (drop (i + 1) ps))))
    ∙ ap (λ y. first_among first (params_faults before d (formal_of y ∷ map formal_of (drop (i + 1) ps)))) is
    ∙ sym (at_drop_more (λ (ys : List Param). first_among first (params_faults before d (map formal_of ys))) ps i x lt)

pub loop-p-preserved : goal.loop-p-preserved
loop-p-preserved c =
    let lt : c.loop-p.p-index < length c.listed-p-items.result.now = omega arith in
    record {
      known =
          known_after _ _ _ _ c.p-item.result lt c.p-item.is c.in_ok-declare_param.ensures
          ∙ c.loop-p.invariant.known;
      first =
          first_after _ _ _ _ _ _ _ c.p-item.result lt c.p-item.is c.in_ok-declare_param.ensures c.in_ok-note_param.ensures
          ∙ c.loop-p.invariant.first;
    }
