-- What is asked of the parts of an expression: the sites of their allocations, what `&` is applied to, and what a `malloc` is
-- to make an object of.
use Rattle.std.proofs.Common.{◌≡◌, ℕ, Bool, true, false, not, ◌&&◌, if◌then◌else◌, List, [], ◌∷◌, ◌++◌, Option, Some, None, is_some, refl, ap, ◌∙◌}
use Rattle.rr_base.specs.Texts.{Text}
use Rattle.c_tree.specs.declared.expr.AssignOp.{AssignOp}
use Rattle.c_tree.specs.declared.expr.AssignOp.TheVariants as assign_op
use Rattle.rr_base.specs.declared.position.Position.{Position}
use Rattle.c_types.specs.declared.types.BaseType.{BaseType}
use Rattle.c_types.specs.declared.types.Layer.{Layer}
use Rattle.c_types.specs.declared.types.Layer.TheVariants as layer
use Rattle.c_types.specs.declared.types.ObjectType.{ObjectType}
use Rattle.c_types.specs.declared.library.LibraryName.TheVariants as library
use Rattle.c_types.specs.Library.{library_named}
use Rattle.c_types.specs.Scopes.{seen}
use Rattle.c_types.specs.Operands.{Standing, no_type, zero_literal, null_literal, a_value, a_place, is_void}
use Rattle.c_types.specs.Standing.{Target, no_target, target_of, layered_target, type_target, assigned_target, cast_target}
use Rattle.c_programs.specs.Initials.{value_target}
use Rattle.c_spots.specs.Spots.{Spot, is_malloc_call, is_malloc, where_malloc}
use Rattle.core_tree.specs.Core.{Function, Program}
use Rattle.c_operators.specs.Denoted.{Denoted, denoted_register, denoted_cells, denoted_zero, denoted_null, denoted_value}
use Rattle.c_operators.specs.Context.{Context, site_at}
use Rattle.core_tree.specs.Sound.{HasSite}
use Rattle.source_sound.proofs.Environment.{IsFormed, IsFormedLayered, IsFormedOrVoid, IsFormedTarget, AreKept, places_of, HaveSites}
use Rattle.source_sound.proofs.Apart.{never}
use Rattle.source_sound.proofs.Standings.{formed_or_void, formed_pointee, Stands}

-- ---- targets

pub layers_target : (n : ℕ) (ls : List Layer) (b : BaseType) → IsFormedLayered n (layer.Pointer ∷ ls) b → IsFormedTarget n (layered_target ls b)
layers_target n [] b h = tt
layers_target n (layer.Array m ∷ ls) b h = tt
layers_target n (layer.Pointer ∷ ls) b h = by (is_void (record { layers = ls; base = b })) refl
  where
    by : (c : Bool) → is_void (record { layers = ls; base = b }) ≡ c → IsFormedTarget n (if c then no_target else target_of (record { layers = ls; base = b }))
    by true e = tt
    by false e = formed_pointee n ls b h e

-- the first value of an object of a formed type
pub formed_target : (n : ℕ) (t : ObjectType) → IsFormed n t → IsFormedTarget n (type_target t)
formed_target n t h = layers_target n t.layers t.base (formed_or_void n t.layers t.base h)

pub formed_value_target : (n : ℕ) (t : ObjectType) → IsFormed n t → IsFormedTarget n (value_target (Some t))
formed_value_target n t h = formed_target n t h

-- a type is known, and is formed or Void
abbrev pub IsKnownType : ℕ → Option ObjectType → Type 0
IsKnownType n None = ⊥
IsKnownType n (Some t) = IsFormedOrVoid n t

pub formed_cast_target : (n : ℕ) (o : Option ObjectType) (stars : ℕ) → IsKnownType n o → IsFormedTarget n (cast_target o stars)
formed_cast_target n None stars h = absurd h
formed_cast_target n (Some t) stars h = layers_target n t.layers t.base h

module _ (p : Program) (home : ℕ → Option ℕ) (f : Function) where
  pub formed_assigned_target : (n : ℕ) (o : AssignOp) (s : Standing) (x : Denoted) → Stands p home f n s x → IsFormedTarget n (assigned_target o s)
  formed_assigned_target n assign_op.Assign no_type x h = absurd h
  formed_assigned_target n assign_op.Assign zero_literal x h = tt
  formed_assigned_target n assign_op.Assign null_literal x h = tt
  formed_assigned_target n assign_op.Assign (a_value t) x h = tt
  formed_assigned_target n assign_op.Assign (a_place t) (denoted_register r at) h = formed_target n t h.0
  formed_assigned_target n assign_op.Assign (a_place t) (denoted_cells e at) h = formed_target n t h.0
  formed_assigned_target n assign_op.Assign (a_place t) (denoted_zero at) h = absurd h
  formed_assigned_target n assign_op.Assign (a_place t) (denoted_null at) h = absurd h
  formed_assigned_target n assign_op.Assign (a_place t) (denoted_value e) h = absurd h
  formed_assigned_target n _ s x h = tt

  -- ---- sites

  pub sites_apart : (h : Context) (xs ys : List Spot) → HaveSites p home f h (places_of (xs ++ ys)) → HaveSites p home f h (places_of xs) × HaveSites p home f h (places_of ys)
  sites_apart h [] ys s = (tt, s)
  sites_apart h (x ∷ xs) ys s =
      let more = sites_apart h xs ys s.1 in
      ((s.0, more.0), more.1)

  pub sites_apart₃ : (h : Context) (xs ys zs : List Spot) → HaveSites p home f h (places_of (xs ++ ys ++ zs)) → HaveSites p home f h (places_of xs) × HaveSites p home f h (places_of ys) × HaveSites p home f h (places_of zs)
  sites_apart₃ h xs ys zs s =
      let one = sites_apart h (xs ++ ys) zs s in
      let two = sites_apart h xs ys one.0 in
      (two.0, two.1, one.1)

  malloc_here : (h : Context) (b : Bool) (w : Target) (at : Position) → b ≡ true → HaveSites p home f h (places_of (where_malloc b w at)) → HasSite p (site_at h.source.sites at)
  malloc_here h true w at e s = s.0
  malloc_here h false w at e s = never e

  -- the site of a `malloc`
  pub malloc_site : (h : Context) (name : Text) (w : Target) (at : Position) → HaveSites p home f h (places_of (where_malloc (is_malloc h.known name) w at)) → seen h.known name ≡ None → library_named name ≡ Some library.Malloc → HasSite p (site_at h.source.sites at)
  malloc_site h name w at s e e' =
      malloc_here h (is_malloc h.known name) w at (ap (λ z. not (is_some z) && is_malloc_call (library_named name)) e ∙ ap is_malloc_call e') s

-- ---- what `&` is applied to

pub kept_apart : (h : Context) (xs ys : List ℕ) → AreKept h (xs ++ ys) → AreKept h xs × AreKept h ys
kept_apart h [] ys k = (tt, k)
kept_apart h (x ∷ xs) ys k =
    let more = kept_apart h xs ys k.1 in
    ((k.0, more.0), more.1)

pub kept_apart₃ : (h : Context) (xs ys zs : List ℕ) → AreKept h (xs ++ ys ++ zs) → AreKept h xs × AreKept h ys × AreKept h zs
kept_apart₃ h xs ys zs k =
    let one = kept_apart h (xs ++ ys) zs k in
    let two = kept_apart h xs ys one.0 in
    (two.0, two.1, one.1)
