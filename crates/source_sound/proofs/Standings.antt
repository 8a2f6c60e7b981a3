-- What stands for an expression without a fault, and the words that it gives.
use Rattle.std.proofs.Common.{◌≡◌, ℕ, true, false, if◌then◌else◌, List, [], ◌∷◌, Option, None, refl, sym, ◌∙◌}
use Rattle.c_types.specs.declared.types.BaseType.{BaseType}
use Rattle.c_types.specs.declared.types.BaseType.TheVariants as base
use Rattle.c_types.specs.declared.types.Layer.{Layer}
use Rattle.c_types.specs.declared.types.Layer.TheVariants as layer
use Rattle.c_types.specs.declared.types.ObjectType.{ObjectType}
use Rattle.c_types.specs.Operands.{Standing, no_type, zero_literal, null_literal, a_value, a_place, Operand, pointing, operand_of, layered_operand, type_operand, layered_is_void, is_typed, is_some_pointer}
use Rattle.c_types.specs.Types.{layered_is_array}
use Rattle.c_types.specs.Standing.{type_struct}
use Rattle.rr_base.specs.declared.position.Position.{Position}
use Rattle.core_tree.specs.Core as core
use Rattle.core_tree.specs.Core.{Function, Program}
use Rattle.core_tree.specs.Meaning.{is_pointer}
use Rattle.c_operators.specs.declared.denoted.WordKind.TheVariants as kind
use Rattle.c_operators.specs.Denoted.{Denoted, denoted_register, denoted_cells, denoted_zero, denoted_null, denoted_value, Part, operand_in, is_pointing, value_by, pointer_by, value_in, wanted_in}
use Rattle.c_operators.specs.Operators.{is_some_address}
use Rattle.core_tree.specs.Sound.{IsPointer, HasRegister, IsSoundExp}
use Rattle.source_sound.proofs.Environment.{IsFormedBase, IsFormedPointee, IsFormedLayered, IsFormed, IsFormedOrVoid, IsFormedGiven, IsFormedValue, DenotedFits}
use Rattle.source_sound.proofs.Apart.{never'}

-- ---- operands of types

pub typed_layers : (ls : List Layer) (b : BaseType) → is_typed (layered_operand ls b) ≡ true
typed_layers [] base.Int = refl
typed_layers [] (base.Function fn) = refl
typed_layers [] base.Void = refl
typed_layers [] (base.Struct k) = refl
typed_layers [] base.Mutex = refl
typed_layers [] base.Cond = refl
typed_layers [] base.Barrier = refl
typed_layers [] base.RwLock = refl
typed_layers (layer.Pointer ∷ ls) b = refl
typed_layers (layer.Array n ∷ ls) b = refl

-- what is some pointer by its type is one
pub pointer_layers : (ls : List Layer) (b : BaseType) → is_some_pointer (layered_operand ls b) ≡ is_some_address (layered_operand ls b)
pointer_layers [] base.Int = refl
pointer_layers [] (base.Function fn) = refl
pointer_layers [] base.Void = refl
pointer_layers [] (base.Struct k) = refl
pointer_layers [] base.Mutex = refl
pointer_layers [] base.Cond = refl
pointer_layers [] base.Barrier = refl
pointer_layers [] base.RwLock = refl
pointer_layers (layer.Pointer ∷ ls) b = refl
pointer_layers (layer.Array n ∷ ls) b = refl

pub address_layers : (ls : List Layer) (b : BaseType) → is_pointing (layered_operand ls b) ≡ is_some_address (layered_operand ls b)
address_layers [] base.Int = refl
address_layers [] (base.Function fn) = refl
address_layers [] base.Void = refl
address_layers [] (base.Struct k) = refl
address_layers [] base.Mutex = refl
address_layers [] base.Cond = refl
address_layers [] base.Barrier = refl
address_layers [] base.RwLock = refl
address_layers (layer.Pointer ∷ ls) b = refl
address_layers (layer.Array n ∷ ls) b = refl

-- ---- formed types

formed_base_pointee : (n : ℕ) (b : BaseType) → IsFormedBase n b → IsFormedPointee n b
formed_base_pointee n base.Int h = h
formed_base_pointee n (base.Function fn) h = h
formed_base_pointee n base.Void h = tt
formed_base_pointee n (base.Struct k) h = h
formed_base_pointee n base.Mutex h = h
formed_base_pointee n base.Cond h = h
formed_base_pointee n base.Barrier h = h
formed_base_pointee n base.RwLock h = h

pub formed_or_void : (n : ℕ) (ls : List Layer) (b : BaseType) → IsFormedLayered n ls b → IsFormedLayered n (layer.Pointer ∷ ls) b
formed_or_void n [] b h = formed_base_pointee n b h
formed_or_void n (layer.Pointer ∷ ls) b h = h
formed_or_void n (layer.Array m ∷ ls) b h = h

-- what is formed or Void, and isn't Void
pub formed_pointee : (n : ℕ) (ls : List Layer) (b : BaseType) → IsFormedLayered n (layer.Pointer ∷ ls) b → layered_is_void ls b ≡ false → IsFormedLayered n ls b
formed_pointee n [] base.Int h v = h
formed_pointee n [] (base.Function fn) h v = h
formed_pointee n [] base.Void h v = never' v
formed_pointee n [] (base.Struct k) h v = h
formed_pointee n [] base.Mutex h v = h
formed_pointee n [] base.Cond h v = h
formed_pointee n [] base.Barrier h v = h
formed_pointee n [] base.RwLock h v = h
formed_pointee n (layer.Pointer ∷ ls) b h v = h
formed_pointee n (layer.Array m ∷ ls) b h v = h

-- ---- an operand with its words

-- what an operand points to is formed or Void
abbrev pub IsFormedOperand : ℕ → Operand → Type 0
IsFormedOperand n (pointing t) = IsFormedOrVoid n t
IsFormedOperand n _ = Unit {0}

pub formed_place_operand : (n : ℕ) (ls : List Layer) (b : BaseType) → IsFormedLayered n ls b → IsFormedOperand n (layered_operand ls b)
formed_place_operand n [] base.Int h = tt
formed_place_operand n [] (base.Function fn) h = tt
formed_place_operand n [] base.Void h = tt
formed_place_operand n [] (base.Struct k) h = tt
formed_place_operand n [] base.Mutex h = tt
formed_place_operand n [] base.Cond h = tt
formed_place_operand n [] base.Barrier h = tt
formed_place_operand n [] base.RwLock h = tt
formed_place_operand n (layer.Pointer ∷ ls) b h = h
formed_place_operand n (layer.Array m ∷ ls) b h = formed_or_void n ls b h.1

pub formed_value_operand : (n : ℕ) (ls : List Layer) (b : BaseType) → IsFormedGiven n ls b → IsFormedOperand n (layered_operand ls b)
formed_value_operand n [] base.Int h = tt
formed_value_operand n [] (base.Function fn) h = tt
formed_value_operand n [] base.Void h = tt
formed_value_operand n [] (base.Struct k) h = tt
formed_value_operand n [] base.Mutex h = tt
formed_value_operand n [] base.Cond h = tt
formed_value_operand n [] base.Barrier h = tt
formed_value_operand n [] base.RwLock h = tt
formed_value_operand n (layer.Pointer ∷ ls) b h = h
formed_value_operand n (layer.Array m ∷ ls) b h = absurd h

module _ (p : Program) (home : ℕ → Option ℕ) (f : Function) (structs : ℕ) where
  -- an operand that has a type, the word that it gives, and the one where a pointer is wanted
  pub record Gives (a : Operand) (v q : core.Exp) : Type 0 where
    pub typed : is_typed a ≡ true
    pub formed : IsFormedOperand structs a
    pub kind : is_pointer v ≡ is_some_address a
    pub sound : IsSoundExp p home f v
    pub pointer : is_some_pointer a ≡ true → is_pointer q ≡ true
    pub pointer_sound : IsSoundExp p home f q

  -- it has a type, which is formed, and what is held of it is there and is of the kind that is known of it
  abbrev pub Stands : Standing → Denoted → Type 0
  Stands no_type x = ⊥
  Stands zero_literal (denoted_zero at) = Unit {0}
  Stands zero_literal _ = ⊥
  Stands null_literal (denoted_null at) = Unit {0}
  Stands null_literal _ = ⊥
  Stands (a_value t) (denoted_value e) = IsFormedValue structs t × (is_pointer e ≡ is_some_address (type_operand t)) × IsSoundExp p home f e
  Stands (a_value t) _ = ⊥
  Stands (a_place t) (denoted_register n at) = IsFormed structs t × (type_struct t ≡ None) × HasRegister p home f n (is_pointing (type_operand t))
  Stands (a_place t) (denoted_cells e at) = IsFormed structs t × IsPointer e × IsSoundExp p home f e
  Stands (a_place t) _ = ⊥

  pub stands_denoted : (s : Standing) (x : Denoted) → Stands s x → DenotedFits p home f s x
  stands_denoted no_type x h = absurd h
  stands_denoted zero_literal (denoted_zero at) h = refl
  stands_denoted zero_literal (denoted_null at) h = absurd h
  stands_denoted zero_literal (denoted_register n at) h = absurd h
  stands_denoted zero_literal (denoted_cells e at) h = absurd h
  stands_denoted zero_literal (denoted_value e) h = absurd h
  stands_denoted null_literal (denoted_null at) h = refl
  stands_denoted null_literal (denoted_value e) h = absurd h
  stands_denoted null_literal (denoted_zero at) h = absurd h
  stands_denoted null_literal (denoted_register n at) h = absurd h
  stands_denoted null_literal (denoted_cells e at) h = absurd h
  stands_denoted (a_value t) (denoted_value e) h = (h.1, h.2)
  stands_denoted (a_value t) (denoted_zero at) h = absurd h
  stands_denoted (a_value t) (denoted_null at) h = absurd h
  stands_denoted (a_value t) (denoted_register n at) h = absurd h
  stands_denoted (a_value t) (denoted_cells e at) h = absurd h
  stands_denoted (a_place t) (denoted_register n at) h = (tt, h.2)
  stands_denoted (a_place t) (denoted_cells e at) h = (tt, h.1, h.2)
  stands_denoted (a_place t) (denoted_zero at) h = absurd h
  stands_denoted (a_place t) (denoted_null at) h = absurd h
  stands_denoted (a_place t) (denoted_value e) h = absurd h

  -- ---- words

  register_gives : (t : ObjectType) (n : ℕ) (at : Position) → IsFormed structs t → HasRegister p home f n (is_pointing (type_operand t)) →
      Gives (type_operand t) (core.register n (is_pointing (type_operand t)) at) (core.register n (is_pointing (type_operand t)) at)
  register_gives t n at h r = record {
    typed = typed_layers t.layers t.base;
    formed = formed_place_operand structs t.layers t.base h;
    kind = address_layers t.layers t.base;
    sound = r;
    pointer = λ w. address_layers t.layers t.base ∙ sym (pointer_layers t.layers t.base) ∙ w;
    pointer_sound = r;
  }

  load_gives : (ls : List Layer) (b : BaseType) (e : core.Exp) (at : Position) → IsFormedLayered structs ls b → IsPointer e → IsSoundExp p home f e →
      Gives (layered_operand ls b) (core.load e (is_pointing (layered_operand ls b)) at) (core.load e (is_pointing (layered_operand ls b)) at)
  load_gives ls b e at h k s = record {
    typed = typed_layers ls b;
    formed = formed_place_operand structs ls b h;
    kind = address_layers ls b;
    sound = (k, s);
    pointer = λ w. address_layers ls b ∙ sym (pointer_layers ls b) ∙ w;
    pointer_sound = (k, s);
  }

  cells_give : (ls : List Layer) (b : BaseType) (e : core.Exp) (at : Position) → IsFormedLayered structs ls b → IsPointer e → IsSoundExp p home f e →
      Gives (layered_operand ls b) (if layered_is_array ls then e else core.load e (is_pointing (layered_operand ls b)) at) (if layered_is_array ls then e else core.load e (is_pointing (layered_operand ls b)) at)
  cells_give [] b e at h k s = load_gives [] b e at h k s
  cells_give (layer.Pointer ∷ ls) b e at h k s = load_gives (layer.Pointer ∷ ls) b e at h k s
  cells_give (layer.Array m ∷ ls) b e at h k s = record {
    typed = refl;
    formed = formed_or_void structs ls b h.1;
    kind = k;
    sound = s;
    pointer = λ w. k;
    pointer_sound = s;
  }

  -- a value gives its word
  pub value_gives : (t : ObjectType) (e : core.Exp) → IsFormedValue structs t → is_pointer e ≡ is_some_address (type_operand t) → IsSoundExp p home f e → Gives (type_operand t) e e
  value_gives t e h k s = record {
    typed = typed_layers t.layers t.base;
    formed = formed_value_operand structs t.layers t.base h;
    kind = k;
    sound = s;
    pointer = λ w. k ∙ sym (pointer_layers t.layers t.base) ∙ w;
    pointer_sound = s;
  }

  pub stands_gives : (s : Standing) (x : Denoted) → Stands s x → Gives (operand_of s) (value_by s x) (pointer_by s x)
  stands_gives no_type x h = absurd h
  stands_gives zero_literal (denoted_zero at) h = record { typed = refl; formed = tt; kind = refl; sound = tt; pointer = λ w. refl; pointer_sound = tt }
  stands_gives zero_literal (denoted_null at) h = absurd h
  stands_gives zero_literal (denoted_register n at) h = absurd h
  stands_gives zero_literal (denoted_cells e at) h = absurd h
  stands_gives zero_literal (denoted_value e) h = absurd h
  stands_gives null_literal (denoted_null at) h = record { typed = refl; formed = tt; kind = refl; sound = tt; pointer = λ w. refl; pointer_sound = tt }
  stands_gives null_literal (denoted_value e) h = absurd h
  stands_gives null_literal (denoted_zero at) h = absurd h
  stands_gives null_literal (denoted_register n at) h = absurd h
  stands_gives null_literal (denoted_cells e at) h = absurd h
  stands_gives (a_value t) (denoted_value e) h = value_gives t e h.0 h.1 h.2
  stands_gives (a_value t) (denoted_zero at) h = absurd h
  stands_gives (a_value t) (denoted_null at) h = absurd h
  stands_gives (a_value t) (denoted_register n at) h = absurd h
  stands_gives (a_value t) (denoted_cells e at) h = absurd h
  stands_gives (a_place t) (denoted_register n at) h = register_gives t n at h.0 h.2
  stands_gives (a_place t) (denoted_cells e at) h = cells_give t.layers t.base e at h.0 h.1 h.2
  stands_gives (a_place t) (denoted_zero at) h = absurd h
  stands_gives (a_place t) (denoted_null at) h = absurd h
  stands_gives (a_place t) (denoted_value e) h = absurd h

  -- the words of a part
  abbrev pub PartGives : Part → Type 0
  PartGives a = Gives (operand_in a) (value_in a) (wanted_in kind.Pointer a)
