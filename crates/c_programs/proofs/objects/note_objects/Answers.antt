use Rattle.std.proofs.Common.{◌≡◌, ℕ, ◌+◌, ◌<◌, Bool, List, ◌∷◌, Option, length, get_or, drop, map, sym, ap, ◌∙◌, arith}
use Rattle.std.proofs.lemmas.List.{at_drop_more}
use Rattle.c_tree.specs.declared.ctype.Specifier.{Specifier}
use Rattle.c_tree.specs.declared.declaration.Item.{Item}
use Rattle.c_tree.specs.View.{object_of}
use Rattle.c_types.specs.declared.fault.Found.{Found}
use Rattle.c_types.specs.Found.{first_among}
use Rattle.c_types.specs.Scopes.{Known}
use Rattle.c_names.specs.Sources.{declared_by}
use Rattle.c_programs.specs.Statements.{after_declared, object_faults, objects_faults, after_objects}
use Rattle.c_types.proofs.First.{first_of_both}
use Rattle.c_programs.proofs.objects.note_objects.Goals as goal

known_after : (before after : Known) (g : Bool) (s : Specifier) (items : List Item) (i : ℕ) (x : Item) →
    i < length items → x ≡ get_or items i x →
    after ≡ after_declared before g s (declared_by (object_of x)) →
    after_objects after g s (map object_of (drop (i + 1) items)) ≡ after_objects before g s (map object_of (drop i items))
known_after before after g s items i x lt is e =
    ap (λ k. after_objects k g s (map object_of (drop (i + 1) items))) e
    ∙ ap (λ y. after_objects (after_declared before g s (declared_by (object_of y))) g s (map object_of (drop (i + 1) items))) is
    ∙ sym (at_drop_more (λ (ys : List Item). after_objects before g s (map object_of ys)) items i x lt)

first_after : (before after : Known) (first more : Option Found) (g : Bool) (s : Specifier) (items : List Item) (i : ℕ) (x : Item) →
    i < length items → x ≡ get_or items i x →
    after ≡ after_declared before g s (declared_by (object_of x)) →
    more ≡ first_among first (object_faults before g s (object_of x)) →
    first_among more (objects_faults after g s (map object_of (drop (i + 1) items))) ≡ first_among first (objects_faults before g s (map object_of (drop i items)))
first_after before after first more g s items i x lt is e f =
    ap (λ m. first_among m (objects_faults after g s (map object_of (drop (i + 1) items)))) f
    ∙ ap (λ k. first_among (first_among first (object_faults before g s (object_of x))) (objects_faults k g s (map object_of (drop (i + 1) items)))) e
    ∙ sym (first_of_both first (object_faults before g s (object_of x)) (objects_faults (after_declared before g s (declared_by (object_of x))) g s (map object_of (drop (i + 1) items))))
    ∙ ap (λ y. first_among first (objects_faults before g s (object_of y ∷ map object_of (drop (i + 1) items)))) is
    ∙ sym (at_drop_more (λ (ys : List Item). first_among first (objects_faults before g s (map object_of ys))) items i x lt)

pub loop-item-preserved : goal.loop-item-preserved
loop-item-preserved c =
    let lt : c.loop-item.item-index < length c.args.items.now = omega arith in
    record {
      known =
          known_after _ _ _ _ _ _ c.item-item.result lt c.item-item.is c.in_ok-note_object.ensures.known
          ∙ c.loop-item.invariant.known;
      first =
          first_after _ _ _ _ _ _ _ _ c.item-item.result lt c.item-item.is c.in_ok-note_object.ensures.known c.in_ok-note_object.ensures.first
          ∙ c.loop-item.invariant.first;
    }
