use Rattle.std.proofs.Common.{◌≡◌, [], ◌∷◌, refl, sym, subst, ◌∙◌}
use Rattle.std.specs.Str.{IsUtf8}
use Rattle.profiles.specs.Profile.{Text, Pair, ArePairs}
use Rattle.grain_choice.proofs.tests.some_pairs.Goals as goal

abbrev f : Text
f = 102 ∷ []

abbrev g : Text
g = 103 ∷ []

abbrev h : Text
h = 104 ∷ []

abbrev main : Text
main = 109 ∷ 97 ∷ 105 ∷ 110 ∷ []

text_f : IsUtf8 f
unfolding lib.Utf8.encode
text_f = (f, (refl, refl))

text_g : IsUtf8 g
unfolding lib.Utf8.encode
text_g = (g, (refl, refl))

text_h : IsUtf8 h
unfolding lib.Utf8.encode
text_h = (h, (refl, refl))

text_main : IsUtf8 main
unfolding lib.Utf8.encode
text_main = (main, (refl, refl))

five : ArePairs ((f, g) ∷ (f, h) ∷ (f, main) ∷ (g, main) ∷ (h, main) ∷ [])
five = record {
  ascending = (refl, (refl, (refl, (refl, (tt, tt)))));
  lesser_first = (refl, (refl, (refl, (refl, (refl, tt)))));
  texts = ((text_f, text_g), ((text_f, text_h), ((text_f, text_main), ((text_g, text_main), ((text_h, text_main), tt)))));
}

five_of : (v w x y z : Pair) → v ≡ (f, g) → w ≡ (f, h) → x ≡ (f, main) → y ≡ (g, main) → z ≡ (h, main) → ArePairs (v ∷ w ∷ x ∷ y ∷ z ∷ [])
five_of v w x y z a b c d e =
    subst (λ (p : Pair). ArePairs (p ∷ w ∷ x ∷ y ∷ z ∷ [])) (sym a)
    (subst (λ (p : Pair). ArePairs ((f, g) ∷ p ∷ x ∷ y ∷ z ∷ [])) (sym b)
    (subst (λ (p : Pair). ArePairs ((f, g) ∷ (f, h) ∷ p ∷ y ∷ z ∷ [])) (sym c)
    (subst (λ (p : Pair). ArePairs ((f, g) ∷ (f, h) ∷ (f, main) ∷ p ∷ z ∷ [])) (sym d)
    (subst (λ (p : Pair). ArePairs ((f, g) ∷ (f, h) ∷ (f, main) ∷ (g, main) ∷ p ∷ [])) (sym e) five))))

pub new-requires : goal.new-requires
new-requires c = subst ArePairs (sym (c.from_vec.ensures ∙ c.in_ok-pairs.ensures.items)) (five_of c.in_ok-f_g.f_g c.in_ok-f_h.f_h c.in_ok-f_main.f_main c.in_ok-g_main.g_main c.in_ok-h_main.h_main c.in_ok-f_g.ensures c.in_ok-f_h.ensures c.in_ok-f_main.ensures c.in_ok-g_main.ensures c.in_ok-h_main.ensures)
