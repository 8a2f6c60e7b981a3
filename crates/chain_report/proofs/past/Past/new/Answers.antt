use Rattle.std.proofs.Common.{ℕ, [], Option, None, length, sym, ap, subst, ◌∙◌}
use Rattle.std.specs.Map.{lookup}
use Rattle.std.specs.Option.{option_map_or}
use Rattle.std.proofs.lemmas.List.{length-replicate}
use Rattle.run_theory.specs.Same.{same_object}
use Rattle.chain_report.specs.Past.{nothing, same_hold, KeptIs}
use Rattle.chain_report.proofs.PastRows.{no_links, nothing_is}
use Rattle.chain_report.proofs.past.Past.new.Goals as goal

pub returns : goal.returns
returns c = (
  record {
    objects = λ o. subst (KeptIs [] [] o) (sym (ap (λ es. option_map_or (λ kept. kept) (lookup (same_object o) es) nothing) c.new.ensures.empty)) (nothing_is o);
    holds = λ hold. ap (λ es. option_map_or (λ held. held) (lookup (same_hold hold) es) None) c.new-2.ensures.empty;
    links = no_links c.in_ok-links.links c.in_ok-links.ensures;
  },
  ap length c.in_ok-links.ensures ∙ length-replicate {A = Option ℕ} 256 None,
)
