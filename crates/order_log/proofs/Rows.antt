-- Worked rows: which entries share a line, and what the line is.
use Rattle.std.proofs.Common.{◌≡◌, ℕ, false, List, [], ◌∷◌, map, refl}
use Rattle.std.specs.Prelude.{codes}
use Rattle.profiles.specs.Profile.{Text}
use Rattle.sync_objects.specs.declared.entry.Entry.{Entry}
use Rattle.sync_objects.specs.declared.object.ObjId.TheVariants as object
use Rattle.sync_objects.specs.declared.operation.OpName.{OpName}
use Rattle.sync_objects.specs.declared.operation.OpName.TheVariants as op
use Rattle.order_log.specs.declared.version.Version.{Version}
use Rattle.order_log.specs.declared.version.Version.TheVariants as version
use Rattle.order_log.specs.Text.{groups_of, group_line, has_word}

abbrev of_stripe : OpName → ℕ → ℕ → ℕ → Entry
of_stripe name count lock stripe = record { thread = 1; count = count; op = name; obj = object.Weak lock stripe }

abbrev lines : Version → List Entry → List Text
lines w es = map group_line (groups_of w es)

-- stripes that ascend one by one share a line
together : lines version.Two (of_stripe op.Take 3 0 0 ∷ of_stripe op.Take 3 0 1 ∷ of_stripe op.Take 3 0 2 ∷ []) ≡ codes "1 3 take w0.0-2" ∷ []
together = refl

-- in version 1 they don't
each_alone : lines version.One (of_stripe op.Take 3 0 0 ∷ of_stripe op.Take 3 0 1 ∷ []) ≡ codes "1 3 take w0.0" ∷ codes "1 3 take w0.1" ∷ []
each_alone = refl

-- nor those of another count, lock or operation, or that are no neighbours
apart : lines version.Two (of_stripe op.Take 3 0 0 ∷ of_stripe op.Take 4 0 1 ∷ of_stripe op.Take 4 1 2 ∷ of_stripe op.Give 4 1 3 ∷ of_stripe op.Give 4 1 5 ∷ [])
    ≡ codes "1 3 take w0.0" ∷ codes "1 4 take w0.1" ∷ codes "1 4 take w1.2" ∷ codes "1 4 give w1.3" ∷ codes "1 4 give w1.5" ∷ []
apart = refl

-- nor what is revoked and taken again
others : lines version.Two (of_stripe op.Retake 4 1 3 ∷ of_stripe op.Retake 4 1 4 ∷ []) ≡ codes "1 4 retake w1.3" ∷ codes "1 4 retake w1.4" ∷ []
others = refl

-- a read-write lock has a word in version 2 alone
read_lock : group_line (record { first = record { thread = 1; count = 3; op = op.RdLock; obj = object.Rw 4 }; more = 0 }) ≡ codes "1 3 rdlock r4"
read_lock = refl

not_in_one : has_word version.One op.RdLock ≡ false
not_in_one = refl
