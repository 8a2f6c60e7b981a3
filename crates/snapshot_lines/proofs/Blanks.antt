-- The fields of a line, one after another.
use Rattle.std.proofs.Common.{◌≡◌, ℕ, ◌<◌, ◌^◌, Bool, true, false, cond, eqb, List, [], ◌∷◌, ◌++◌, Option, Some, None, refl, sym, ap, ◌∙◌}
use Rattle.std.specs.Prelude.{is_none, IsTrue}
use Rattle.std.specs.List.{AllByRecursion}
use Rattle.std.specs.Option.{option_map}
use Rattle.std.specs.Borrow.{Bor}
use Rattle.std.proofs.lemmas.Bool.{cond-false, eqb-true, true≢false}
use Rattle.std.proofs.lemmas.List.{append-nil}
use Rattle.std.proofs.lemmas.Option.{none-some}
use Rattle.profiles.specs.Profile.{Text}
use Rattle.order_log.specs.Text.{number_text}
use Rattle.order_log.specs.Line.{cut, number_in, capped}
use Rattle.order_log.specs.Reading.{onto_first}
use Rattle.order_log.proofs.Entries.{map_some}
use Rattle.order_log.proofs.Numbers.{number_in-number_text, number_text-number_in}
use Rattle.order_log.proofs.Parts.{Free, cut_is, cut_free}
use Rattle.reads_text.specs.Text.{value_text}
use Rattle.snapshots.specs.Text.{spaced}
use Rattle.snapshot_lines.specs.Fields.{fields_of, fields_left, TakesNumber, TakesValue, IsValue}
use Rattle.snapshot_lines.specs.Lines.{long_most}

-- ---- taking apart

pub fields_of_front : (f rest : Text) → Free 32 f → fields_of (f ++ 32 ∷ rest) ≡ f ∷ fields_of rest
fields_of_front [] rest h = refl
fields_of_front (b ∷ bs) rest h = cond-false (eqb b 32) _ _ h.0 ∙ ap (onto_first b) (fields_of_front bs rest h.1)

pub fields_of_one : (f : Text) → Free 32 f → fields_of f ≡ f ∷ []
fields_of_one [] h = refl
fields_of_one (b ∷ bs) h = cond-false (eqb b 32) _ _ h.0 ∙ ap (onto_first b) (fields_of_one bs h.1)

some_onto : (b : ℕ) (fs : List Text) → (fs ≡ [] → ⊥) → onto_first b fs ≡ [] → ⊥
some_onto b [] other e = other refl
some_onto b (f ∷ fs) other e = cc

-- each text has a field
pub fields_of_some : (t : Text) → fields_of t ≡ [] → ⊥
fields_of_some [] e = cc
fields_of_some (b ∷ bs) e = by (eqb b 32) refl (fields_of_some bs) e
  where
    by : (t : Bool) → eqb b 32 ≡ t → (fields_of bs ≡ [] → ⊥) → cond t ([] ∷ fields_of bs) (onto_first b (fields_of bs)) ≡ [] → ⊥
    by true is others h = cc
    by false is others h = some_onto b (fields_of bs) others h

pub takes_front : (text field rest : Text) → Some (field, rest) ≡ cut 32 text → fields_of text ≡ field ∷ fields_of rest
takes_front text field rest h =
    let parts = cut_is 32 text (field, rest) (sym h) in
    ap fields_of parts.text ∙ fields_of_front field rest parts.free

pub takes_last : (text : Text) → None ≡ cut 32 text → fields_of text ≡ text ∷ []
takes_last text h = fields_of_one text (cut_free 32 text (sym h))

-- ---- numbers and words

pub number_taken : (before after : List Text) (f : Text) (r : Option ℕ) → before ≡ f ∷ after → r ≡ option_map capped (number_in f) → TakesNumber long_most before r after
number_taken before after f None first h = λ n rest e.
    let field : f ≡ number_text n = cc in
    none-some _ (h ∙ ap (option_map capped) (ap number_in field ∙ number_in-number_text n))
number_taken before after f (Some m) first h =
    let n = map_some capped (number_in f) m (sym h) in
    (n.0, sym n.2, first ∙ ap (λ (g : Text). g ∷ after) (number_text-number_in f n.0 n.1))

pub value_taken : (before after : List Text) (f : Text) (r : Option ℕ) → before ≡ f ∷ after → IsValue f r → TakesValue before r after
value_taken before after f None first h = λ w rest small e. let field : f ≡ value_text w = cc in h w small field
value_taken before after f (Some w) first h = (h.0, first ∙ ap (λ (g : Text). g ∷ after) h.1)

-- ---- the end

pub over_tells : (o : Option (Bor Text)) (b : Bool) → b ≡ is_none o → (IsTrue b → fields_left o ≡ []) × (fields_left o ≡ [] → IsTrue b)
over_tells None b e = (λ h. refl, λ h. e)
over_tells (Some t) b e = (λ h. absurd (true≢false (sym h ∙ e)), λ h. absurd (fields_of_some t.now h))

-- ---- putting together

pub fields_of-spaced : (w : Text) (fs : List Text) → Free 32 w → AllByRecursion (Free 32) fs → fields_of (w ++ spaced fs) ≡ w ∷ fs
fields_of-spaced w [] h k = ap fields_of (append-nil w) ∙ fields_of_one w h
fields_of-spaced w (f ∷ fs) h k = fields_of_front w (f ++ spaced fs) h ∙ ap (λ (gs : List Text). w ∷ gs) (fields_of-spaced f fs k.0 k.1)

-- a text by its fields
joined : List Text → Text
joined [] = []
joined (f ∷ fs) = f ++ spaced fs

joined-onto : (b : ℕ) (fs : List Text) → (fs ≡ [] → ⊥) → joined (onto_first b fs) ≡ b ∷ joined fs
unfolding joined
joined-onto b [] other = absurd (other refl)
joined-onto b (f ∷ fs) other = refl

joined-blank : (fs : List Text) → (fs ≡ [] → ⊥) → joined ([] ∷ fs) ≡ 32 ∷ joined fs
unfolding joined
joined-blank [] other = absurd (other refl)
joined-blank (f ∷ fs) other = refl

joined-fields_of : (t : Text) → joined (fields_of t) ≡ t
unfolding joined
joined-fields_of [] = refl
joined-fields_of (b ∷ bs) = by (eqb b 32) refl (joined-fields_of bs)
  where
    by : (t : Bool) → eqb b 32 ≡ t → joined (fields_of bs) ≡ bs → joined (cond t ([] ∷ fields_of bs) (onto_first b (fields_of bs))) ≡ b ∷ bs
    by true is rest = joined-blank (fields_of bs) (fields_of_some bs) ∙ ap (λ (cs : Text). 32 ∷ cs) rest ∙ ap (λ (c : ℕ). c ∷ bs) (sym (eqb-true b 32 is))
    by false is rest = joined-onto b (fields_of bs) (fields_of_some bs) ∙ ap (λ (cs : Text). b ∷ cs) rest

pub text_by_fields : (t w : Text) (fs : List Text) → fields_of t ≡ w ∷ fs → t ≡ w ++ spaced fs
unfolding joined
text_by_fields t w fs e = sym (joined-fields_of t) ∙ ap joined e
