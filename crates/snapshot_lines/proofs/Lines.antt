-- The fields of each line.
use Rattle.std.proofs.Common.{◌≡◌, ℕ, ◌-◌, ◌<◌, ◌^◌, min, Bool, true, false, List, [], ◌∷◌, ◌++◌, map, drop, Option, Some, None, refl, sym, ap, subst, ◌∙◌, arith, append_assoc, ⊎_elim}
use Rattle.std.specs.Prelude.{codes}
use Rattle.std.specs.List.{AllByRecursion}
use Rattle.std.specs.Option.{option_map}
use Rattle.std.proofs.lemmas.Option.{none-some, same_Some}
use Rattle.std.proofs.lemmas.Bool.{cases_lt}
use Rattle.std.proofs.lemmas.List.{map-append}
use Rattle.profiles.specs.Profile.{Text}
use Rattle.sync_objects.specs.declared.object.ObjId.{ObjId}
use Rattle.sync_objects.specs.declared.object.ObjId.TheVariants as object
use Rattle.order_log.specs.Text.{number_text, object_text}
use Rattle.order_log.specs.Line.{cut, number_in, capped}
use Rattle.order_log.proofs.Entries.{map_some}
use Rattle.order_log.proofs.Numbers.{number_in-number_text, number_text-number_in}
use Rattle.order_log.proofs.Parts.{Free, Free-append, Free-number_text, cut_at, cut_is}
use Rattle.reads_text.specs.Text.{value_text}
use Rattle.thread_interpreter.specs.declared.part.FramePart.{FramePart}
use Rattle.thread_interpreter.specs.declared.part.StripePart.{StripePart}
use Rattle.thread_interpreter.specs.declared.part.RegionPart.{RegionPart}
use Rattle.snapshots.specs.Text.{spaced, cell_line, object_line, stripe_word, stripe_line, frame_line, pair_text, region_line}
use Rattle.snapshot_lines.specs.Fields.{fields_of, TakesValue}
use Rattle.snapshot_lines.specs.Lines.{ReadsAs, IsAny, half_most, byte_most, IsFrame, clipped_frame, clipped_pair, clipped_region, TakesPair, frame_front, StartsFrame, region_front, StartsRegion, IsFrameWith, IsRegionWith}
use Rattle.snapshot_lines.proofs.Blanks.{fields_of-spaced, text_by_fields}
use Rattle.snapshot_lines.proofs.Values.{value_low, value_high}

-- ---- no blank stands in a field

pub free_number : (n : ℕ) → Free 32 (number_text n)
free_number n = Free-number_text 32 n (omega arith)

free_as : (f g : Text) → f ≡ g → Free 32 g → Free 32 f
free_as f g e h = subst (Free 32) (sym e) h

pub free_value : (w : ℕ) → w < 2 ^ 64 → Free 32 (value_text w)
free_value w small =
    ⊎_elim
    (λ lt. free_as (value_text w) (number_text w) (value_low w lt) (free_number w))
    (λ ge. free_as (value_text w) (45 ∷ number_text (18446744073709551616 - w)) (value_high w ge small) (refl, free_number (18446744073709551616 - w)))
    (cases_lt w 9223372036854775808)

pub free_object : (x : ObjId) → Free 32 (object_text x)
free_object (object.Mutex cell) = (refl, free_number cell)
free_object (object.Cond cell) = (refl, free_number cell)
free_object (object.Barrier cell) = (refl, free_number cell)
free_object (object.Rw cell) = (refl, free_number cell)
free_object (object.Weak lock stripe) = (
  refl,
  Free-append 32 (number_text lock ++ codes ".") (number_text stripe) (Free-append 32 (number_text lock) (codes ".") (free_number lock) (refl, tt)) (free_number stripe),
)
free_object (object.Slot slot) = (refl, free_number slot)
free_object object.Threads = (refl, tt)
free_object object.Halt = (refl, tt)
free_object object.Input = (refl, tt)
free_object object.Output = (refl, tt)

free_stripe_word : (owed : Bool) → Free 32 (stripe_word owed)
free_stripe_word true = (refl, (refl, (refl, (refl, tt))))
free_stripe_word false = (refl, (refl, (refl, (refl, tt))))

free_pair : (p : ℕ × ℕ) → Free 32 (pair_text p)
free_pair p = Free-append 32 (number_text p.0 ++ codes ".") (number_text p.1) (Free-append 32 (number_text p.0) (codes ".") (free_number p.0) (refl, tt)) (free_number p.1)

free_values : (ws : List ℕ) → AllByRecursion (λ w. w < 2 ^ 64) ws → AllByRecursion (Free 32) (map value_text ws)
free_values [] h = tt
free_values (w ∷ ws) h = (free_value w h.0, free_values ws h.1)

free_pairs : (ps : List (ℕ × ℕ)) → AllByRecursion (Free 32) (map pair_text ps)
free_pairs [] = tt
free_pairs (p ∷ ps) = (free_pair p, free_pairs ps)

-- ---- steps

pub tails : (x y : Text) (xs ys : List Text) → x ∷ xs ≡ y ∷ ys → xs ≡ ys
tails x y xs ys e = ap (drop 1) e

pub heads : (x y : Text) (xs ys : List Text) → x ∷ xs ≡ y ∷ ys → x ≡ y
heads x y xs ys e = cc

pub read_none : {A : Type 0} (Is : A → Type 0) (line : A → Text) (clip : A → A) (text : Text) (o : Option A) → o ≡ None → ((x : A) → Is x → text ≡ line x → ⊥) → ReadsAs Is line clip text o
read_none {A} Is line clip text o e h = subst (λ (p : Option A). ReadsAs Is line clip text p) (sym e) h

pub frame_none : (before : List Text) (o : Option (ℕ × ℕ × ℕ × ℕ)) (after : List Text) → o ≡ None
    → ((function instr made kept : ℕ) (rest : List Text) → kept < 2 ^ 64 → before ≡ frame_front function instr made kept rest → ⊥) → StartsFrame before o after
frame_none before o after e h = subst (λ (p : Option (ℕ × ℕ × ℕ × ℕ)). StartsFrame before p after) (sym e) h

pub region_none : (before : List Text) (o : Option (ℕ × ℕ)) (after : List Text) → o ≡ None → ((frame instr : ℕ) (rest : List Text) → before ≡ region_front frame instr rest → ⊥) → StartsRegion before o after
region_none before o after e h = subst (λ (p : Option (ℕ × ℕ)). StartsRegion before p after) (sym e) h

-- ---- the fields of lines

pub cell_fields : (c : ℕ × ℕ) → c.1 < 2 ^ 64 → fields_of (cell_line c) ≡ number_text c.0 ∷ value_text c.1 ∷ []
cell_fields c small = fields_of-spaced (number_text c.0) (value_text c.1 ∷ []) (free_number c.0) (free_value c.1 small, tt)

pub object_fields : (o : ObjId × ℕ × ℕ) → fields_of (object_line o) ≡ object_text o.0 ∷ number_text o.1 ∷ number_text o.2 ∷ []
object_fields o = fields_of-spaced (object_text o.0) (number_text o.1 ∷ number_text o.2 ∷ []) (free_object o.0) (free_number o.1, (free_number o.2, tt))

pub stripe_fields : (x : StripePart) → fields_of (stripe_line x) ≡ stripe_word x.owed ∷ number_text x.lock ∷ number_text x.stripe ∷ number_text x.nesting ∷ []
stripe_fields x =
    fields_of-spaced (stripe_word x.owed) (number_text x.lock ∷ number_text x.stripe ∷ number_text x.nesting ∷ []) (free_stripe_word x.owed)
    (free_number x.lock, (free_number x.stripe, (free_number x.nesting, tt)))

pub frame_fields : (f : FramePart) → f.kept < 2 ^ 64 → AllByRecursion (λ w. w < 2 ^ 64) f.registers → fields_of (frame_line f) ≡ frame_front f.function f.instr f.made f.kept (map value_text f.registers)
frame_fields f small words =
    fields_of-spaced (codes "frame") (number_text f.function ∷ number_text f.instr ∷ number_text f.made ∷ value_text f.kept ∷ map value_text f.registers) (refl, (refl, (refl, (refl, (refl, tt)))))
    (free_number f.function, (free_number f.instr, (free_number f.made, (free_value f.kept small, free_values f.registers words))))

pub region_fields : (r : RegionPart) → fields_of (region_line r) ≡ region_front r.frame r.instr (map pair_text r.stripes)
region_fields r =
    fields_of-spaced (codes "region") (number_text r.frame ∷ number_text r.instr ∷ map pair_text r.stripes) (refl, (refl, (refl, (refl, (refl, (refl, tt))))))
    (free_number r.frame, (free_number r.instr, free_pairs r.stripes))

-- ---- words and pairs that are left of a line

values_left : (found ws : List ℕ) (left : List Text) → map value_text ws ≡ map value_text found ++ left → AllByRecursion (λ w. w < 2 ^ 64) ws
    → (vs : List ℕ) × AllByRecursion (λ w. w < 2 ^ 64) vs × (left ≡ map value_text vs)
values_left [] ws left e h = (ws, h, sym e)
values_left (x ∷ xs) [] left e h = cc
values_left (x ∷ xs) (w ∷ ws) left e h = values_left xs ws left (tails (value_text w) (value_text x) (map value_text ws) (map value_text xs ++ left) e) h.1

pub no_values : (fields before after : List Text) (found ws : List ℕ) → fields ≡ map value_text found ++ before → (before ≡ [] → ⊥) → TakesValue before None after
    → AllByRecursion (λ w. w < 2 ^ 64) ws → fields ≡ map value_text ws → ⊥
no_values fields before after found ws so_far some none h e = let x = values_left found ws before (sym e ∙ so_far) h in at x.0 x.1 x.2
  where
    at : (vs : List ℕ) → AllByRecursion (λ w. w < 2 ^ 64) vs → before ≡ map value_text vs → ⊥
    at [] k is = some is
    at (v ∷ vs) k is = none v (map value_text vs) k.0 is

pub more_values : (fields before after : List Text) (found : List ℕ) (w : ℕ) → fields ≡ map value_text found ++ before → before ≡ value_text w ∷ after → fields ≡ map value_text (found ++ w ∷ []) ++ after
more_values fields before after found w so_far first =
    so_far ∙ ap (λ (b : List Text). map value_text found ++ b) first ∙ sym (append_assoc (map value_text found) (value_text w ∷ []) after)
    ∙ ap (λ (b : List Text). b ++ after) (sym (map-append value_text found (w ∷ [])))

pairs_left : (found ps : List (ℕ × ℕ)) (left : List Text) → map pair_text ps ≡ map pair_text found ++ left → (qs : List (ℕ × ℕ)) × (left ≡ map pair_text qs)
pairs_left [] ps left e = (ps, sym e)
pairs_left (x ∷ xs) [] left e = cc
pairs_left (x ∷ xs) (p ∷ ps) left e = pairs_left xs ps left (tails (pair_text p) (pair_text x) (map pair_text ps) (map pair_text xs ++ left) e)

pub no_pairs : (fields before after : List Text) (found ps : List (ℕ × ℕ)) → fields ≡ map pair_text found ++ before → (before ≡ [] → ⊥) → TakesPair before None after → fields ≡ map pair_text ps → ⊥
no_pairs fields before after found ps so_far some none e = let x = pairs_left found ps before (sym e ∙ so_far) in at x.0 x.1
  where
    at : (qs : List (ℕ × ℕ)) → before ≡ map pair_text qs → ⊥
    at [] is = some is
    at (q ∷ qs) is = none q (map pair_text qs) is

pub more_pairs : (fields before after : List Text) (found : List (ℕ × ℕ)) (p : ℕ × ℕ) → fields ≡ map pair_text found ++ before → before ≡ pair_text p ∷ after → fields ≡ map pair_text (found ++ p ∷ []) ++ after
more_pairs fields before after found p so_far first =
    so_far ∙ ap (λ (b : List Text). map pair_text found ++ b) first ∙ sym (append_assoc (map pair_text found) (pair_text p ∷ []) after)
    ∙ ap (λ (b : List Text). b ++ after) (sym (map-append pair_text found (p ∷ [])))

-- ---- a lock and a stripe

pub pair_cut : (p : ℕ × ℕ) → cut 46 (pair_text p) ≡ Some (number_text p.0, number_text p.1)
pair_cut p = ap (cut 46) (append_assoc (number_text p.0) (codes ".") (number_text p.1)) ∙ cut_at 46 (number_text p.0) (number_text p.1) (Free-number_text 46 p.0 (omega arith))

pub not_cut : (field : Text) (p : ℕ × ℕ) → None ≡ cut 46 field → field ≡ pair_text p → ⊥
not_cut field p h e = none-some _ (h ∙ ap (cut 46) e ∙ pair_cut p)

pub pair_parts : (field l s : Text) (p : ℕ × ℕ) → Some (l, s) ≡ cut 46 field → field ≡ pair_text p → (l ≡ number_text p.0) × (s ≡ number_text p.1)
pair_parts field l s p h e =
    let same : (l, s) ≡ (number_text p.0, number_text p.1) = same_Some (l, s) (number_text p.0, number_text p.1) (h ∙ ap (cut 46) e ∙ pair_cut p) in
    (ap (λ (q : Text × Text). q.0) same, ap (λ (q : Text × Text). q.1) same)

pub no_number : (f : Text) (n : ℕ) → None ≡ option_map capped (number_in f) → f ≡ number_text n → ⊥
no_number f n h e = none-some _ (h ∙ ap (option_map capped) (ap number_in e ∙ number_in-number_text n))

pub pair_is : (field l s : Text) (m n u v : ℕ) → Some (l, s) ≡ cut 46 field → Some m ≡ option_map capped (number_in l) → Some n ≡ option_map capped (number_in s) → u ≡ min m half_most → v ≡ min n byte_most
    → (x : ℕ × ℕ) × Unit {0} × (field ≡ pair_text x) × ((u, v) ≡ clipped_pair x)
pair_is field l s m n u v h first second low_u low_v =
    let a = map_some capped (number_in l) m (sym first) in
    let b = map_some capped (number_in s) n (sym second) in
    let parts = cut_is 46 field (l, s) (sym h) in
    let eu : u ≡ min a.0 half_most = let k = a.2 in omega arith in
    let ev : v ≡ min b.0 byte_most = let k = b.2 in omega arith in (
      (a.0, b.0),
      tt,
      parts.text ∙ (λ i. number_text-number_in l a.0 a.1 i ++ 46 ∷ number_text-number_in s b.0 b.1 i) ∙ sym (append_assoc (number_text a.0) (codes ".") (number_text b.0)),
      λ i. (eu i, ev i),
    )

pub pair_taken : (before after : List Text) (f : Text) (r : Option (ℕ × ℕ)) → before ≡ f ∷ after → ReadsAs IsAny pair_text clipped_pair f r → TakesPair before r after
pair_taken before after f None first h = λ p rest e. h p tt (heads f (pair_text p) after rest (sym first ∙ e))
pair_taken before after f (Some q) first h = (h.0, h.3, first ∙ ap (λ (g : Text). g ∷ after) h.2)

-- ---- frames and regions by their fields

pub frame_reads : (line : Text) (before after : List Text) (start : ℕ × ℕ × ℕ × ℕ) (o : Option FramePart) → before ≡ fields_of line → StartsFrame before (Some start) after → IsFrameWith start after o → ReadsAs IsFrame frame_line clipped_frame line o
frame_reads line before after start None first s h = λ g is e.
    let same : frame_front s.0 s.1 s.2 start.3 after ≡ frame_front g.function g.instr g.made g.kept (map value_text g.registers) = sym s.7 ∙ first ∙ ap fields_of e ∙ frame_fields g is.0 is.1 in
    h g.registers is.1 (tails _ _ _ _ (tails _ _ _ _ (tails _ _ _ _ (tails _ _ _ _ (tails _ _ _ _ same)))))
frame_reads line before after start (Some f) first s h =
    let g : FramePart = record { function = s.0; instr = s.1; made = s.2; kept = start.3; registers = f.registers } in
    let fields = h.4 in (
      g,
      (s.6, fields.0),
      text_by_fields line (codes "frame") (number_text s.0 ∷ number_text s.1 ∷ number_text s.2 ∷ value_text start.3 ∷ map value_text f.registers) (sym first ∙ s.7 ∙ ap (λ (r : List Text). frame_front s.0 s.1 s.2 start.3 r) fields.1),
      λ i. record { function = (h.0 ∙ s.3) i; instr = (h.1 ∙ s.4) i; made = (h.2 ∙ s.5) i; kept = h.3 i; registers = f.registers },
    )

pub no_frame_line : (line : Text) (before after : List Text) → before ≡ fields_of line → StartsFrame before None after → (g : FramePart) → IsFrame g → line ≡ frame_line g → ⊥
no_frame_line line before after first s g is e = s g.function g.instr g.made g.kept (map value_text g.registers) is.0 (first ∙ ap fields_of e ∙ frame_fields g is.0 is.1)

pub region_reads : (line : Text) (before after : List Text) (start : ℕ × ℕ) (o : Option RegionPart) → before ≡ fields_of line → StartsRegion before (Some start) after → IsRegionWith start after o → ReadsAs IsAny region_line clipped_region line o
region_reads line before after start None first s h = λ g is e.
    let same : region_front s.0 s.1 after ≡ region_front g.frame g.instr (map pair_text g.stripes) = sym s.4 ∙ first ∙ ap fields_of e ∙ region_fields g in
    h g.stripes (tails _ _ _ _ (tails _ _ _ _ (tails _ _ _ _ same)))
region_reads line before after start (Some r) first s h =
    let pairs = h.2 in
    let g : RegionPart = record { frame = s.0; instr = s.1; stripes = pairs.0 } in (
      g,
      tt,
      text_by_fields line (codes "region") (number_text s.0 ∷ number_text s.1 ∷ map pair_text pairs.0) (sym first ∙ s.4 ∙ ap (λ (q : List Text). region_front s.0 s.1 q) pairs.1),
      λ i. record { frame = (h.0 ∙ s.2) i; instr = (h.1 ∙ s.3) i; stripes = pairs.2 i },
    )

pub no_region_line : (line : Text) (before after : List Text) → before ≡ fields_of line → StartsRegion before None after → (g : RegionPart) → IsAny g → line ≡ region_line g → ⊥
no_region_line line before after first s g is e = s g.frame g.instr (map pair_text g.stripes) (first ∙ ap fields_of e ∙ region_fields g)
