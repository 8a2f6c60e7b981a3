-- What the entries of a run print, by what each of its threads has printed.
use Rattle.std.specs.Prelude.{◌≡◌, ℕ, Bool, true, false, if◌then◌else◌, List, [], ◌∷◌, ◌++◌, map, drop, slice_get, slice_set}
use Rattle.std.specs.Borrow.{Bor}
use Rattle.std.specs.Option.{unwrap_or}
use Rattle.std.proofs.Common.{refl}
use Rattle.sync_objects.specs.declared.entry.Entry.{Entry}
use Rattle.sync_objects.specs.declared.object.ObjId.TheVariants.{Mutex, Output}
use Rattle.sync_objects.specs.declared.operation.OpName.{OpName}
use Rattle.sync_objects.specs.declared.operation.OpName.TheVariants as name
use Rattle.run_walk.specs.declared.remains.Remains.{Remains}

-- whether an operation of this name prints
abbrev pub is_print : OpName → Bool
is_print name.Print = true
is_print _ = false

-- the first of these pieces, if there is one
abbrev pub first_piece : List (List ℕ) → List ℕ
first_piece [] = []
first_piece (p ∷ ps) = p

-- the pieces of this thread
abbrev pub pieces_at : List (List (List ℕ)) → ℕ → List (List ℕ)
pieces_at pieces t = unwrap_or (slice_get pieces t) []

-- what the entries print, where these are the pieces of each thread that are still to come: each print prints the next one of its
-- thread
abbrev pub bytes_by : List Entry → List (List (List ℕ)) → List ℕ
bytes_by [] pieces = []
bytes_by (e ∷ es) pieces =
    if is_print e.op
    then first_piece (pieces_at pieces e.thread) ++ bytes_by es (slice_set pieces e.thread (drop 1 (pieces_at pieces e.thread)))
    else bytes_by es pieces

-- the pieces of all threads
abbrev pub pieces_in : List Remains → List (List (List ℕ))
pieces_in remains = map (λ (r : Remains). r.pieces) remains

-- those that slices show
abbrev pub pieces_of : List (Bor (List (List ℕ))) → List (List (List ℕ))
pieces_of slices = map (λ slice. slice.now) slices

-- of three prints and a lock, the bytes of two threads in turn
row_in_turn : bytes_by (record { thread = 1; count = 0; op = name.Print; obj = Output } ∷ record { thread = 0; count = 1; op = name.Lock; obj = Mutex 5 } ∷ record { thread = 0; count = 2; op = name.Print; obj = Output } ∷ record { thread = 1; count = 1; op = name.Print; obj = Output } ∷ []) (((65 ∷ []) ∷ []) ∷ ((66 ∷ 67 ∷ []) ∷ (68 ∷ []) ∷ []) ∷ [])
    ≡ 66 ∷ 67 ∷ 65 ∷ 68 ∷ []
row_in_turn = refl
