-- The files of a shelf in memory, once one is put at the end and an earlier one of its name is dropped.
use Rattle.std.proofs.Common.{◌≡◌, refl, sym, ◌∙◌, ap, ℕ, zero, suc, ◌<◌, ◌≤◌, ◌-◌, ◌+◌, take, get_or, List, [], ◌∷◌, ◌++◌, length, Option, Some, None, Bool, true, false, cond, arith}
use mathlib.Core.Path.{fun_ext}
use Rattle.std.specs.Prelude.{remove, if◌then◌else◌}
use Rattle.std.specs.List.{slice_get}
use Rattle.std.specs.Option.{option_or}
use Rattle.std.specs.Str.{bytes_eq}
use Rattle.std.proofs.lemmas.List.{take_more}
use Rattle.std.proofs.lemmas.Option.{same_Some, slice_get-get_or}
use Rattle.std.proofs.lemmas.Slice.Eq.{bytes_eq-Decides}
use Rattle.rr_base.specs.Files.{with_file}
use Rattle.rr_base.specs.Memory.{content_of, IsLastFile}

or_none : {T : Type 0} (o : Option T) → option_or o None ≡ o
or_none None = refl
or_none (Some x) = refl

or_cond : {T : Type 0} (b : Bool) (x : T) (o p : Option T) → option_or (cond b (Some x) o) p ≡ cond b (Some x) (option_or o p)
or_cond true x o p = refl
or_cond false x o p = refl

same_below : {T : Type 0} (b : Bool) (x : T) (o p : Option T) → (b ≡ false → o ≡ p) → cond b (Some x) o ≡ cond b (Some x) p
same_below true x o p h = refl
same_below false x o p h = h refl

-- the file at the end counts
pub content_of-push : (files : List (List ℕ × List ℕ)) (file : List ℕ × List ℕ) (q : List ℕ) → content_of (files ++ file ∷ []) q ≡ with_file file.0 file.1 (content_of files) q
content_of-push [] file q = refl
content_of-push (x ∷ xs) file q =
    ap (λ o. option_or o (if bytes_eq x.0 q then Some x.1 else None)) (content_of-push xs file q)
    ∙ or_cond (bytes_eq file.0 q) file.1 (content_of xs q) (if bytes_eq x.0 q then Some x.1 else None)

-- a file that is dropped leaves all other names
pub content_of-remove : (files : List (List ℕ × List ℕ)) (at : ℕ) (file : List ℕ × List ℕ) (q : List ℕ) → slice_get files at ≡ Some file → bytes_eq file.0 q ≡ false → content_of (remove files at) q ≡ content_of files q
content_of-remove [] at file q h ne = cc
content_of-remove (x ∷ xs) zero file q h ne =
    let e : bytes_eq x.0 q ≡ false = ap (λ (f : List ℕ × List ℕ). bytes_eq f.0 q) (same_Some x file h) ∙ ne in
    sym (ap (λ b. option_or (content_of xs q) (cond b (Some x.1) None)) e ∙ or_none (content_of xs q))
content_of-remove (x ∷ xs) (suc at) file q h ne =
    ap (λ o. option_or o (if bytes_eq x.0 q then Some x.1 else None)) (content_of-remove xs at file q h ne)

-- .. also where the new file of its name stands already at the end
pub content_of-put : (files : List (List ℕ × List ℕ)) (at : ℕ) (old file : List ℕ × List ℕ) (q : List ℕ) → slice_get files at ≡ Some old → old.0 ≡ file.0 → content_of (remove (files ++ file ∷ []) at) q ≡ with_file file.0 file.1 (content_of files) q
content_of-put [] at old file q h e = cc
content_of-put (x ∷ xs) zero old file q h e =
    let same : bytes_eq old.0 q ≡ bytes_eq file.0 q = ap (λ n. bytes_eq n q) e in
    content_of-push xs file q
    ∙ same_below (bytes_eq file.0 q) file.1 (content_of xs q) (content_of (x ∷ xs) q) (λ ne. content_of-remove (x ∷ xs) zero old q h (same ∙ ne))
content_of-put (x ∷ xs) (suc at) old file q h e =
    ap (λ o. option_or o (if bytes_eq x.0 q then Some x.1 else None)) (content_of-put xs at old file q h e)
    ∙ or_cond (bytes_eq file.0 q) file.1 (content_of xs q) (if bytes_eq x.0 q then Some x.1 else None)

-- the last file of a front part has another name
pub content_of-skip : (files : List (List ℕ × List ℕ)) (n : ℕ) (d : List ℕ × List ℕ) (q a b : List ℕ) → 0 < n → n ≤ length files → a ≡ (get_or files (n - 1) d).0 → b ≡ q → bytes_eq a b ≡ false → content_of (take n files) q ≡ content_of (take (n - 1) files) q
content_of-skip files n d q a b h l e f ne =
    let file : List ℕ × List ℕ = get_or files (n - 1) d in
    let m : n - 1 + 1 ≡ n = omega arith in
    let more : take n files ≡ take (n - 1) files ++ file ∷ [] = ap (λ k. take k files) (sym m) ∙ take_more files (n - 1) d (omega arith) in
    let other : bytes_eq file.0 q ≡ false = ap (λ z. bytes_eq z q) (sym e) ∙ ap (bytes_eq a) (sym f) ∙ ne in
    ap (λ fs. content_of fs q) more ∙ content_of-push (take (n - 1) files) file q ∙ ap (λ t. cond t (Some file.1) (content_of (take (n - 1) files) q)) other

-- it has the name that is asked for
pub content_of-hit : (files : List (List ℕ × List ℕ)) (n : ℕ) (d : List ℕ × List ℕ) (q a b : List ℕ) → 0 < n → n ≤ length files → a ≡ (get_or files (n - 1) d).0 → b ≡ q → bytes_eq a b ≡ true → content_of files q ≡ content_of (take n files) q → IsLastFile files q (n - 1)
content_of-hit files n d q a b h l e f same all =
    let file : List ℕ × List ℕ = get_or files (n - 1) d in
    let m : n - 1 + 1 ≡ n = omega arith in
    let more : take n files ≡ take (n - 1) files ++ file ∷ [] = ap (λ k. take k files) (sym m) ∙ take_more files (n - 1) d (omega arith) in
    let this : bytes_eq file.0 q ≡ true = ap (λ z. bytes_eq z q) (sym e) ∙ ap (bytes_eq a) (sym f) ∙ same in
    let named : file.0 ≡ q = (bytes_eq-Decides file.0 q).0 this in
    let there : slice_get files (n - 1) ≡ Some file = slice_get-get_or files (n - 1) d (omega arith) in (
      file.1,
      there ∙ ap (λ z. Some (z, file.1)) named,
      all ∙ ap (λ fs. content_of fs q) more ∙ content_of-push (take (n - 1) files) file q ∙ ap (λ t. cond t (Some file.1) (content_of (take (n - 1) files) q)) this,
    )

-- a file that is put at the end, where its name wasn't held
pub content_of-pushed : (files new : List (List ℕ × List ℕ)) (n b name bytes : List ℕ) → n ≡ name → b ≡ bytes → new ≡ files ++ (n, b) ∷ [] → content_of new ≡ with_file name bytes (content_of files)
content_of-pushed files new n b name bytes e f h =
    ap content_of h ∙ fun_ext (λ q. content_of-push files (n, b) q) ∙ ap (λ z. with_file z b (content_of files)) e ∙ ap (λ z. with_file name z (content_of files)) f

-- .. and where it was held and its earlier file is dropped
pub content_of-replaced : (files mid new : List (List ℕ × List ℕ)) (n b name bytes : List ℕ) (at : ℕ) → n ≡ name → b ≡ bytes → IsLastFile files name at → mid ≡ files ++ (n, b) ∷ [] → new ≡ remove mid at → content_of new ≡ with_file name bytes (content_of files)
content_of-replaced files mid new n b name bytes at e f last h r =
    ap content_of (r ∙ ap (λ fs. remove fs at) h)
    ∙ fun_ext (λ q. content_of-put files at (name, last.0) (n, b) q last.1 (sym e))
    ∙ ap (λ z. with_file z b (content_of files)) e ∙ ap (λ z. with_file name z (content_of files)) f
