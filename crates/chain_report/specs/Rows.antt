-- For private clauses: what the rows of entries tell of chains from a point.
use Rattle.std.specs.Prelude.{◌≡◌, ℕ, true, List, take, Option, Some, None, slice_get}
use Rattle.sync_objects.specs.declared.entry.Entry.{Entry}
use Rattle.chain_report.specs.Chains.{passes}
use Rattle.chain_report.specs.Finds.{IsEligible, IsLinkedTo}
use Rattle.chain_report.specs.Replayed.{released}
use Rattle.chain_report.specs.declared.point.Point.{Point}
use Rattle.chain_report.specs.declared.row.Row.{Row}

module _ (es : List Entry) (from : Point) where
  -- the entry at k is linked to this one, or nothing that may begin a pass passes to it
  abbrev pub LinkIs : ℕ → Option ℕ → Type 0
  LinkIs k (Some a) = IsLinkedTo es from k a
  LinkIs k None = (c : ℕ) → IsEligible es from c → passes es c k ≡ true → ⊥

  -- what the row of an entry tells
  pub record RowIs (k : ℕ) (r : Row) : Type 0 where
    pub is : slice_get es k ≡ Some r.entry
    pub eligible : r.eligible ≡ true → IsEligible es from k
    pub known : IsEligible es from k → r.eligible ≡ true
    pub lets_go : r.released ≡ released (take k es) r.entry
    pub link : LinkIs k r.link

  -- each row is that of the entry at its position
  abbrev pub AreRows : List Row → Type 0
  AreRows rs = (k : ℕ) (r : Row) → slice_get rs k ≡ Some r → RowIs k r
