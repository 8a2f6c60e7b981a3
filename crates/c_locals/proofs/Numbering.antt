-- How many numbers a part of a function uses, and that a block leaves the scopes outside of it alone.
use Rattle.std.proofs.Common.{◌≡◌, ℕ, ◌+◌, List, [], ◌∷◌, length, drop, Option, None, Some, refl, sym, ap, ◌∙◌, arith}
use Rattle.rr_base.specs.Texts.{Text}
use Rattle.c_tree.specs.declared.name.Name.{Name}
use Rattle.c_tree.specs.Tree.{Formal, Declared, Object, Declares, declares, Start, start_declares, start_computes, Parts, no_part, and_declares, and_does}
use Rattle.c_names.specs.Sources.{declared_name, param_name, declared_by}
use Rattle.c_numbers.specs.Numbered.{Numbered, following, inside, outside, numbered_in}
use Rattle.c_locals.specs.Addresses.{after_name, after_names, after_declaration, after_for_start, past_statement, past_parts, count_of_declares, count_of_start, count_of_locals, count_of_parts, after_formal, after_formals, numbered_from}

same : (x y : Numbered) → x.next ≡ y.next → x.scopes ≡ y.scopes → x ≡ y
same x y n s = ap (λ m. record x { next = m }) n ∙ ap (λ ss. record y { scopes = ss }) s

after_next : (known : Numbered) (n : ℕ) → (following known n).next ≡ known.next + n
unfolding following
after_next known n = refl

after_scopes : (known : Numbered) (n : ℕ) → (following known n).scopes ≡ known.scopes
unfolding following
after_scopes known n = refl

pub after_none : (known : Numbered) → following known 0 ≡ known
after_none known = same _ _ (omega (arith, after_next known 0)) (after_scopes known 0)

pub past_both : (known : Numbered) (m n : ℕ) → following (following known m) n ≡ following known (m + n)
past_both known m n =
    same _ _
    (omega (arith, after_next (following known m) n, after_next known m, after_next known (m + n)))
    (after_scopes (following known m) n ∙ after_scopes known m ∙ sym (after_scopes known (m + n)))

outer_scopes : (ss : List (List (Text × ℕ))) (name : Text) (n : ℕ) → drop 1 (numbered_in ss name n) ≡ drop 1 ss
outer_scopes [] name n = refl
outer_scopes (s ∷ ss) name n = refl

name_next : (known : Numbered) (d : Declared) → (after_name known d).next ≡ known.next + 1
name_next known d = after_next _ 1

name_scopes : (known : Numbered) (d : Declared) → drop 1 (after_name known d).scopes ≡ drop 1 known.scopes
name_scopes known d = ap (λ ss. drop 1 ss) (after_scopes _ 1) ∙ outer_scopes known.scopes (declared_name d).text known.next

names_next : (known : Numbered) (os : List Object) → (after_names known os).next ≡ known.next + length os
names_next known [] = omega arith
names_next known (o ∷ os) = omega (arith, names_next (after_name known (declared_by o)) os, name_next known (declared_by o))

names_scopes : (known : Numbered) (os : List Object) → drop 1 (after_names known os).scopes ≡ drop 1 known.scopes
names_scopes known [] = refl
names_scopes known (o ∷ os) = names_scopes (after_name known (declared_by o)) os ∙ name_scopes known (declared_by o)

declares_next : (known : Numbered) (d : Declares) → (after_declaration known d).next ≡ known.next + count_of_declares d
declares_next known (declares s os at) = names_next known os

declares_scopes : (known : Numbered) (d : Declares) → drop 1 (after_declaration known d).scopes ≡ drop 1 known.scopes
declares_scopes known (declares s os at) = names_scopes known os

start_next : (known : Numbered) (s : Start) → (after_for_start known s).next ≡ known.next + count_of_start s
start_next known (start_declares d) = declares_next known d
start_next known (start_computes e) = omega arith

start_scopes : (known : Numbered) (s : Start) → drop 1 (after_for_start known s).scopes ≡ drop 1 known.scopes
start_scopes known (start_declares d) = declares_scopes known d
start_scopes known (start_computes e) = refl

parts_next : (known : Numbered) (ps : Parts) → (past_parts known ps).next ≡ known.next + count_of_parts ps
parts_next known no_part = omega arith
parts_next known (and_declares d ps) = omega (arith, parts_next (after_declaration known d) ps, declares_next known d)
parts_next known (and_does s ps) = omega (arith, parts_next (past_statement known s) ps, after_next known (count_of_locals s))

parts_scopes : (known : Numbered) (ps : Parts) → drop 1 (past_parts known ps).scopes ≡ drop 1 known.scopes
parts_scopes known no_part = refl
parts_scopes known (and_declares d ps) = parts_scopes (after_declaration known d) ps ∙ declares_scopes known d
parts_scopes known (and_does s ps) = parts_scopes (past_statement known s) ps ∙ ap (λ ss. drop 1 ss) (after_scopes known (count_of_locals s))

outside_parts : (known : Numbered) (ps : Parts) → outside (past_parts (inside known) ps) ≡ following known (count_of_parts ps)
outside_parts known ps =
    same _ _
    (parts_next (inside known) ps ∙ sym (after_next known (count_of_parts ps)))
    (parts_scopes (inside known) ps ∙ sym (after_scopes known (count_of_parts ps)))

outside_for : (known : Numbered) (s : Start) (n : ℕ) → outside (following (after_for_start (inside known) s) n) ≡ following known (count_of_start s + n)
outside_for known s n =
    same _ _
    (omega (arith, after_next (after_for_start (inside known) s) n, start_next (inside known) s, after_next known (count_of_start s + n)))
    (ap (λ ss. drop 1 ss) (after_scopes (after_for_start (inside known) s) n) ∙ start_scopes (inside known) s ∙ sym (after_scopes known (count_of_start s + n)))

-- a block and a `for` use the numbers of what they declare
pub block_numbers : (before opened filled after : Numbered) (ps : Parts) → opened ≡ inside before → filled ≡ past_parts opened ps → after ≡ outside filled → after ≡ following before (count_of_parts ps)
block_numbers before opened filled after ps o f a =
    a ∙ ap outside (f ∙ ap (λ k. past_parts k ps) o) ∙ outside_parts before ps

pub for_numbers : (before opened begun filled after : Numbered) (s : Start) (n : ℕ) →
    opened ≡ inside before → begun ≡ after_for_start opened s → filled ≡ following begun n → after ≡ outside filled → after ≡ following before (count_of_start s + n)
for_numbers before opened begun filled after s n o b f a =
    a ∙ ap outside (f ∙ ap (λ k. following k n) (b ∙ ap (λ k. after_for_start k s) o)) ∙ outside_for before s n

formals_next : (known : Numbered) (ps : List Formal) → (after_formals known ps).next ≡ known.next + length ps
formals_next known [] = omega arith
formals_next known (p ∷ ps) = omega (arith, formals_next (after_formal known (param_name p)) ps, formal_next known (param_name p))
  where
    formal_next : (known : Numbered) (name : Option Name) → (after_formal known name).next ≡ known.next + 1
    formal_next known None = after_next known 1
    formal_next known (Some name) = after_next _ 1

definition_next : (n : ℕ) (ps : List Formal) (parts : Parts) → (past_parts (numbered_from n ps) parts).next ≡ n + (length ps + count_of_parts parts)
definition_next n ps parts = omega (arith, parts_next (numbered_from n ps) parts, formals_next (record { next = n; scopes = [] ∷ [] }) ps)

-- the formals and locals of a definition are numbered one after another
pub definition_numbers : (n last : ℕ) (begun named filled : Numbered) (ps : List Formal) (parts : Parts) →
    begun ≡ record { next = n; scopes = [] ∷ [] } → named ≡ after_formals begun ps → filled ≡ past_parts named parts → last ≡ filled.next →
    last ≡ n + (length ps + count_of_parts parts)
definition_numbers n last begun named filled ps parts b m f l =
    l ∙ ap (λ k. k.next) (f ∙ ap (λ k. past_parts k parts) (m ∙ ap (λ k. after_formals k ps) b)) ∙ definition_next n ps parts

pub ruleset numbering = (after_none, past_both)
