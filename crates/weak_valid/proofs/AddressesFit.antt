-- The globals of a weakened code are those of the code, and so are their addresses.
use Rattle.std.proofs.Common.{◌≡◌, ℕ, ◌&&◌, true, List, [], ◌∷◌, length, refl, ap, ◌∙◌, Option, Some, None}
use Rattle.std.specs.Prelude.{◌==◌, is_some}
use Rattle.rr_base.specs.Words.{site_of}
use Rattle.rr_base.specs.declared.layout.CellKind.{CellKind}
use Rattle.rr_base.specs.declared.layout.Site.{Site}
use Rattle.flow_code.specs.declared.code.Code.{Code}
use Rattle.flow_code.specs.declared.code.Function.{Function}
use Rattle.flow_code.specs.declared.code.LockInfo.{LockInfo}
use Rattle.flow_code.specs.Addresses.{address_at, address_of, is_global, is_given, is_address, object_fits, objects_fit, word_fits, words_fit, globals_fit}
use Rattle.weak_valid.proofs.ActsFit.{code_with}

module _ (code : Code) (fns : List Function) (locks : List LockInfo) where
  word_same : (o : Option ℕ) → word_fits (code_with code fns locks) o ≡ word_fits code o
  word_same None = refl
  word_same (Some w) = refl

  words_same : (ks : List CellKind) (ws : List ℕ) → words_fit (code_with code fns locks) ks ws ≡ words_fit code ks ws
  words_same [] ws = refl
  words_same (k ∷ ks) [] = refl
  words_same (k ∷ ks) (w ∷ ws) = ap (λ b. b && words_fit (code_with code fns locks) ks ws) (word_same (address_at k w)) ∙ ap (λ b. word_fits code (address_at k w) && b) (words_same ks ws)

  object_same : (o : Option ℕ) (site : Site) (os : List (Option ℕ)) (sites : List Site) → object_fits (code_with code fns locks) o site os sites ≡ object_fits code o site os sites
  object_same None site os sites = refl
  object_same (Some base) site os sites = refl

  objects_same : (os : List (Option ℕ)) (sites : List Site) → objects_fit (code_with code fns locks) os sites ≡ objects_fit code os sites
  objects_same [] sites = refl
  objects_same (o ∷ os) [] = refl
  objects_same (o ∷ os) (site ∷ sites) = ap (λ b. b && objects_fit (code_with code fns locks) os sites) (object_same o site os sites) ∙ ap (λ b. object_fits code o site os sites && b) (objects_same os sites)

  pub globals : globals_fit (code_with code fns locks) ≡ globals_fit code
  globals =
      ap (λ b. (length code.global_kinds == length code.globals) && (length code.global_bases == length code.sites) && b && objects_fit (code_with code fns locks) code.global_bases code.sites) (words_same code.global_kinds code.globals)
      ∙ ap (λ b. (length code.global_kinds == length code.globals) && (length code.global_bases == length code.sites) && words_fit code code.global_kinds code.globals && b) (objects_same code.global_bases code.sites)

-- the site of an address is global
pub address_global : (code : Code) (w : ℕ) → is_address code w ≡ true → is_global code (site_of w) ≡ true
address_global code w h = by (address_of code (site_of w)) h
  where
    by : (o : Option ℕ) → is_given w o ≡ true → is_some o ≡ true
    by None e = cc
    by (Some v) e = refl
