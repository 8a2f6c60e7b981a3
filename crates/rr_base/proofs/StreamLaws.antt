-- What a source gave and a sink took, over nothing and over several calls.
use Rattle.std.proofs.Common.{refl, sym, ◌∙◌, ap, ℕ, List, [], ◌++◌, Option, Some, None}
use Rattle.std.specs.Option.{option_map}
use Rattle.std.proofs.lemmas.List.{append-nil, append_assoc}
use Rattle.rr_base.specs.Streams.{Took, Gave}

pub Took-nothing : (o : Option (List ℕ)) → Took [] o o
Took-nothing None = refl
Took-nothing (Some all) = ap Some (sym (append-nil all))

pub Took-more : (xs ys : List ℕ) (a b c : Option (List ℕ)) → Took xs a b → Took ys b c → Took (xs ++ ys) a c
Took-more xs ys None b c h k = k ∙ ap (option_map (λ all. all ++ ys)) h
Took-more xs ys (Some all) b c h k = k ∙ ap (option_map (λ all. all ++ ys)) h ∙ ap Some (append_assoc all xs ys)

pub Gave-nothing : (o : Option (List ℕ)) → Gave [] o o
Gave-nothing None = refl
Gave-nothing (Some rest) = refl

pub Gave-more : (xs ys : List ℕ) (a b c : Option (List ℕ)) → Gave xs a b → Gave ys b c → Gave (xs ++ ys) a c
Gave-more xs ys a b None h k = h ∙ ap (option_map (λ rest. xs ++ rest)) k
Gave-more xs ys a b (Some rest) h k = h ∙ ap (option_map (λ rest. xs ++ rest)) k ∙ ap Some (sym (append_assoc xs ys rest))
