-- The tables of a code with one function of eight registers.
use Rattle.std.proofs.Common.{◌≡◌, ℕ, ◌<◌, sym, subst, ◌∙◌}
use Rattle.std.proofs.lemmas.Option.{slice_get_within}
use Rattle.std.specs.Prelude.{[], length, Some, slice_get, slice_index_or}
use Rattle.flow_code.specs.declared.code.Code.{Code}
use Rattle.flow_code.specs.declared.code.Function.{Function}
use Rattle.facts.specs.PointsTo.{Tables, HasRegisters}

pub has_registers : (code : Code) (t : Tables) → length code.functions ≡ 1 → ((f : ℕ) (fn : Function) → slice_get code.functions f ≡ Some fn → fn.registers ≡ 8) → length t.registers ≡ 1 → ((f : ℕ) → f < 1 → length (slice_index_or t.registers f []) ≡ 8) → HasRegisters code t
has_registers code t one each long rows = record {
  functions = long ∙ sym one;
  registers = λ f fn is. rows f (subst (λ n. f < n) one (slice_get_within code.functions f fn is)) ∙ sym (each f fn is);
}
