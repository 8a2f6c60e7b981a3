-- Which end is due, by one look or several.
use Rattle.std.proofs.Common.{◌≡◌, Bool, true, false, List, ◌++◌, Some, None, inl, inr}
use Rattle.flow_code.specs.Next.{has_begun}
use Rattle.sync_objects.specs.declared.object.ObjId.TheVariants as object
use Rattle.shared_cells.specs.Rule.{Board}
use Rattle.shared_cells.specs.Views.{Note}
use Rattle.shared_cells.specs.declared.seat.Seat.{Seat}
use Rattle.weak_turns.specs.Finding.{Sees, FindsEnd}
use Rattle.weak_turns.specs.Turns.{thread_of, number_of, Meets, runs, started, may_start}
use Rattle.weak_turns.specs.declared.ends.End.TheVariants as end
use Rattle.weak_turns.proofs.Noting.{running, live, idle, newer, older, state_on, meets_then, seen, meets_seen, is_seen}

module _ (cells : Board) (a b : Seat) where
  module _ (x : Bool) (s : Sees cells a b object.Halt running x) (begun : has_begun (thread_of a).phase ≡ true) where
    pub finds_stop : x ≡ false → FindsEnd cells a b (Some end.Stop)
    finds_stop e = record { fresh = seen cells a b object.Halt running x s; meets = meets_seen cells a b object.Halt running x s; is = record { begun = begun; halted = is_seen cells a b object.Halt running x s false e } }

    pub finds_running : x ≡ true → FindsEnd cells a b None
    finds_running e = record { fresh = seen cells a b object.Halt running x s; meets = meets_seen cells a b object.Halt running x s; is = runs begun (is_seen cells a b object.Halt running x s true e) }

  module _ (x : Bool) (s : Sees cells a b (object.Slot (number_of a)) idle x) (early : has_begun (thread_of a).phase ≡ false) where
    pub finds_started : x ≡ false → FindsEnd cells a b None
    finds_started e = record {
      fresh = seen cells a b (object.Slot (number_of a)) idle x s;
      meets = meets_seen cells a b (object.Slot (number_of a)) idle x s;
      is = started early (is_seen cells a b (object.Slot (number_of a)) idle x s false e);
    }

    module _ (is_idle : x ≡ true) (c : Seat) (y : Bool) (u : Sees cells b c object.Halt running y) where
      abbrev first : List Note
      first = seen cells a b (object.Slot (number_of a)) idle x s

      abbrev second : List Note
      second = seen cells b c object.Halt running y u

      pub finds_halted : y ≡ false → FindsEnd cells a c (Some end.Close)
      finds_halted e = record {
        fresh = second ++ first;
        meets = meets_then a b c first second (meets_seen cells a b (object.Slot (number_of a)) idle x s) (meets_seen cells b c object.Halt running y u);
        is = record {
          early = early;
          idle = state_on first (second ++ first) (older second first) cells (object.Slot (number_of a)) idle true (is_seen cells a b (object.Slot (number_of a)) idle x s true is_idle);
          alone = inl (state_on second (second ++ first) (newer second first) cells object.Halt running false (is_seen cells b c object.Halt running y u false e));
        };
      }

      module _ (is_running : y ≡ true) (d : Seat) (z : Bool) (w : Sees cells c d object.Threads live z) where
        abbrev third : List Note
        third = seen cells c d object.Threads live z w

        abbrev all : List Note
        all = third ++ (second ++ first)

        all_meets : Meets a d all
        all_meets =
            meets_then a c d (second ++ first) third
            (meets_then a b c first second (meets_seen cells a b (object.Slot (number_of a)) idle x s) (meets_seen cells b c object.Halt running y u))
            (meets_seen cells c d object.Threads live z w)

        pub finds_lonely : z ≡ false → FindsEnd cells a d (Some end.Close)
        finds_lonely e = record {
          fresh = all;
          meets = all_meets;
          is = record {
            early = early;
            idle = state_on first all (λ n h. older third (second ++ first) n (older second first n h)) cells (object.Slot (number_of a)) idle true (is_seen cells a b (object.Slot (number_of a)) idle x s true is_idle);
            alone = inr (state_on third all (newer third (second ++ first)) cells object.Threads live false (is_seen cells c d object.Threads live z w false e));
          };
        }

        pub finds_none : z ≡ true → FindsEnd cells a d None
        finds_none e = record {
          fresh = all;
          meets = all_meets;
          is = may_start early
              (state_on second all (λ n h. older third (second ++ first) n (newer second first n h)) cells object.Halt running true (is_seen cells b c object.Halt running y u true is_running))
              (state_on third all (newer third (second ++ first)) cells object.Threads live true (is_seen cells c d object.Threads live z w true e));
        }
