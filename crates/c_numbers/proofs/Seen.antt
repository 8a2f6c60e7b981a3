-- In which scope a name is found.
use Rattle.std.proofs.Common.{◌≡◌, ℕ, ◌+◌, ◌-◌, ◌<◌, ◌≤◌, List, length, map, reverse, take, slice_get, Option, Some, sym, ap, ◌∙◌, arith}
use Rattle.rr_base.specs.Texts.{Text, entry_of}
use Rattle.c_types.specs.Scopes.{or_else}
use Rattle.c_numbers.specs.Numbered.{number_seen}
use Rattle.c_types.proofs.Keyed.{reverse-take}

-- a name is sought in the innermost scope of those that are left
pub seen-innermost : {S : Type 0} (f : S → List (Text × ℕ)) (xs : List S) (n : ℕ) (x : S) (name : Text) (o : Option ℕ) →
    0 < n → n ≤ length xs → slice_get xs (n - 1) ≡ Some x → o ≡ entry_of (f x) name →
    or_else o (number_seen (reverse (map f (take (n - 1) xs))) name) ≡ number_seen (reverse (map f (take n xs))) name
seen-innermost f xs n x name o some within e found =
    let below : n - 1 < length xs = omega arith in
    let whole : n - 1 + 1 ≡ n = omega arith in
    ap (λ p. or_else p (number_seen (reverse (map f (take (n - 1) xs))) name)) found
    ∙ sym (ap (λ ss. number_seen ss name) (reverse-take f xs (n - 1) x below e))
    ∙ ap (λ m. number_seen (reverse (map f (take m xs))) name) whole
