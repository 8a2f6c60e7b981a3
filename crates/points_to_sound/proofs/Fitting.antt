-- The kinds of the registers that an instruction of a valid code uses.
use Rattle.std.proofs.Common.{◌≡◌, ℕ, zero, suc, not, Bool, true, false, List, [], ◌∷◌, Some, refl, subst, ◌∙◌}
use Rattle.std.specs.Prelude.{slice_get}
use Rattle.std.proofs.lemmas.Bool.{not-true}
use Rattle.flow_code.specs.declared.act.Act.{Act}
use Rattle.flow_code.specs.declared.code.Code.{Code}
use Rattle.flow_code.specs.declared.code.Function.{Function}
use Rattle.flow_code.specs.Kinds.{has_register, has_pointer, has_whole, has_kind, same_register_kind, have_kinds, act_fits}
use Rattle.flow_code.specs.Valid.{is_valid}
use Rattle.flow_code.specs.Works.{is_pointer}
use Rattle.flow_code.proofs.ValidParts.{left, right, function_is_fit, act_is_fit}
use Rattle.points_to_sound.proofs.Finding.{Stands}

-- the instruction fits
pub stands_fit : (code : Code) → is_valid code ≡ true → (f k : ℕ) (a : Act) (x : Stands code f k a) → act_fits code x.function a ≡ true
stands_fit code valid f k a x = subst (λ b. act_fits code x.function b ≡ true) x.is_act (act_is_fit code x.function (function_is_fit code valid f x.function x.is_function) k x.instr x.is_instr)

pub pointer_is : (f : Function) (r : ℕ) → has_pointer f r ≡ true → is_pointer f.pointers r ≡ true
pointer_is f r h = right (has_register f r) (is_pointer f.pointers r) h

pub whole_is : (f : Function) (r : ℕ) → has_whole f r ≡ true → is_pointer f.pointers r ≡ false
whole_is f r h = not-true (is_pointer f.pointers r) (right (has_register f r) (not (is_pointer f.pointers r)) h)

pub kind_is : (f : Function) (b : Bool) (r : ℕ) → has_kind f b r ≡ true → is_pointer f.pointers r ≡ b
kind_is f true r h = pointer_is f r h
kind_is f false r h = whole_is f r h

pub same_kind_is : (f : Function) (r q : ℕ) → same_register_kind f r q ≡ true → is_pointer f.pointers q ≡ is_pointer f.pointers r
same_kind_is f r q h = kind_is f (is_pointer f.pointers r) q (left (has_kind f (is_pointer f.pointers r) q) (has_register f r) h)

-- a register has the kind of its place
pub kinds_at : (f : Function) (rs : List ℕ) (ks : List Bool) (i : ℕ) (b : Bool) → have_kinds f rs ks ≡ true → slice_get ks i ≡ Some b → (r : ℕ) × (slice_get rs i ≡ Some r) × (is_pointer f.pointers r ≡ b)
kinds_at f [] [] i b h e = cc
kinds_at f [] (k ∷ ks) i b h e = cc
kinds_at f (r ∷ rs) [] i b h e = cc
kinds_at f (r ∷ rs) (k ∷ ks) zero b h e = let same : k ≡ b = cc in (r, refl, kind_is f k r (left (has_kind f k r) (have_kinds f rs ks) h) ∙ same)
kinds_at f (r ∷ rs) (k ∷ ks) (suc i) b h e = kinds_at f rs ks i b (right (has_kind f k r) (have_kinds f rs ks) h) e
