-- The sites of a function's objects.
use Rattle.std.proofs.Common.{◌≡◌, ℕ, if◌then◌else◌, List, [], ◌∷◌, ◌++◌, refl, ap, sym, ◌∙◌, append_assoc}
use Rattle.rr_base.specs.declared.layout.Site.{Site}
use Rattle.c_operators.specs.Context.{site_at}
use Rattle.c_frames.specs.declared.local.Local.{Local}
use Rattle.c_frames.specs.Frames.{sites_of}

sites_append : (sites : List Site) (fs ls : List Local) → sites_of sites (fs ++ ls) ≡ sites_of sites fs ++ sites_of sites ls
sites_append sites [] ls = refl
sites_append sites (f ∷ fs) ls =
    ap (λ (z : List ℕ). (if f.is_kept then site_at sites f.at ∷ [] else []) ++ z) (sites_append sites fs ls)
    ∙ sym (append_assoc (if f.is_kept then site_at sites f.at ∷ [] else []) (sites_of sites fs) (sites_of sites ls))

pub objects_made : (sites : List Site) (fs ls : List Local) (start middle end : List ℕ) →
    start ≡ [] → middle ≡ start ++ sites_of sites fs → end ≡ middle ++ sites_of sites ls → end ≡ sites_of sites (fs ++ ls)
objects_made sites fs ls start middle end s m e =
    e
    ∙ ap (λ (z : List ℕ). z ++ sites_of sites ls) (m ∙ ap (λ (z : List ℕ). z ++ sites_of sites fs) s)
    ∙ sym (sites_append sites fs ls)
