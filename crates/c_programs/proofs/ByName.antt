-- Members by their names: as a map keeps them, and as they show.
use Rattle.std.proofs.Common.{◌≡◌, cond, List, [], ◌∷◌, ◌++◌, map, false, is_some, if◌then◌else◌, Option, Some, None, refl, ap}
use Rattle.std.specs.Borrow.{Bor}
use Rattle.std.specs.Map.{lookup}
use Rattle.std.specs.Str.{bytes_eq}
use Rattle.rr_base.specs.Texts.{Text, entry_of}
use Rattle.c_types.specs.declared.types.ObjectType.{ObjectType}
use Rattle.c_types.specs.Scopes.{with_name, members_of}
use Rattle.c_programs.specs.Members.{shown_members}

pub lookup-shown_members : (ms : List (Bor Text × Option ObjectType)) (name : Text) → lookup (λ k. bytes_eq name k.now) ms ≡ entry_of (shown_members ms) name
lookup-shown_members [] name = refl
lookup-shown_members (m ∷ ms) name = ap (cond (bytes_eq name m.0.now) (Some m.1)) (lookup-shown_members ms name)

pub shown_members-pushed : (ms : List (Bor Text × Option ObjectType)) (name : Bor Text) (t : Option ObjectType) → shown_members (ms ++ (name, t) ∷ []) ≡ shown_members ms ++ (name.now, t) ∷ []
shown_members-pushed [] name t = refl
shown_members-pushed (m ∷ ms) name t = ap (λ r. (m.0.now, m.1) ∷ r) (shown_members-pushed ms name t)

pub no_entry : {A : Type 0} (o : Option A) → is_some o ≡ false → o ≡ None
no_entry None h = refl
no_entry (Some x) h = cc

pub with_name-new : {A : Type 0} (es : List (Text × A)) (name : Text) (x : A) → is_some (entry_of es name) ≡ false → with_name es name x ≡ es ++ (name, x) ∷ []
with_name-new es name x h = ap (λ b. if b then es else es ++ (name, x) ∷ []) h

pub types-shown_members : (ms : List (Bor Text × Option ObjectType)) → map (λ m. m.1) ms ≡ members_of (Some (shown_members ms))
types-shown_members [] = refl
types-shown_members (m ∷ ms) = ap (λ r. m.1 ∷ r) (types-shown_members ms)
