-- Accesses in order, each once.
use Rattle.std.specs.Prelude.{◌≡◌, ℕ, nat_eq, ◌&&◌, Bool, true, List, [], ◌∷◌}
use Rattle.std.specs.List.{list_any}
use Rattle.std.specs.HashSet as bag
use Rattle.facts.specs.declared.pair.AccessAt.{AccessAt}
use Rattle.facts.specs.Pairs.{access_less, access_same}

-- the list has the access
abbrev pub is_listed : List AccessAt → AccessAt → Bool
is_listed bs a = list_any (λ b. access_same b a) bs

-- each comes before the next
abbrev pub ascend : List AccessAt → Bool
ascend [] = true
ascend (a ∷ []) = true
ascend (a ∷ b ∷ cs) = access_less a b && ascend (b ∷ cs)

-- the list has just the accesses that pass the test, in order
pub record Lists (test : AccessAt → Bool) (bs : List AccessAt) : Type 0 where
  pub ascending : ascend bs ≡ true
  pub has : (a : AccessAt) → is_listed bs a ≡ test a

module _ {S : Type 0} where
  -- the set has just the listed accesses
  abbrev pub Agree : bag.HashSet (ℕ × ℕ) S → List AccessAt → Type 0
  Agree known bs = (a : AccessAt) → bag.contains (λ x y. nat_eq x.0 y.0 && nat_eq x.1 y.1) known (a.function, a.instr) ≡ is_listed bs a
