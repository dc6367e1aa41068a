-- What a split answers is the listing of its book: the text of both sides, or of the refusal, since the buffers are never short (`listed_price`, `listed_refused`). Assumes nothing.
use Rattle.std.specs.Prelude.{Result, Ok, Err}
use Prim.Native.Nat.{ℕ}
use mathlib.Core.Path.{◌≡◌, refl, ap}
use mathlib.Core.List.{List}
use native.Mathlib.Omega.{arith}
use lib.ListN.{length}
use Rattle.book.specs.declared.Refusal.{Refusal}
use Rattle.book.specs.Sound.{Sound}
use Rattle.book.proofs.Sound.{sound}
use Rattle.side.specs.Sides.{side_of}
use Rattle.split.specs.Splits.{Buffers, Split}
use Rattle.split.specs.Verdicts.{Told, for_near, for_far, for_flow, Refuses, reader, short}
use Rattle.split.proofs.Answers.{split_tells, split_refused}
use Rattle.view.specs.Text.{split_text, refused_text}
use Rattle.view.specs.Listing.{Lists}
use Rattle.view.specs.Puts.{Rows, Ample}

module _ (s : List ℕ) (old new : Buffers) (r : Result ℕ Refusal) (k : Split s old r new) where
  module _ (p : ℕ) (e : r ≡ Ok p) where
    told : Told s p old new
    told = split_tells s old new p (rw e at k)

    pub split_sound : Sound s
    split_sound = told.sound

    pub rows_split : Rows s new.near new.far
    rows_split =
        let t = told in
        let q = t.holds.solved in
        record {
          near_lent = record { sound = t.sound; enough = omega (arith, t.room.for_near, q.near_row.long) };
          far_lent = record { sound = t.sound; enough = omega (arith, t.room.for_far, q.far_row.long) };
          near_spare = q.near_row.spare;
          far_spare = q.far_row.spare;
        }

    pub listed_price : Lists s (split_text s p (side_of new.near) (side_of new.far))
    listed_price =
        let t = told in
        let q = t.holds.solved in
        rw t.reads.1 (record {
          near = side_of new.near;
          far = side_of new.far;
          near_is = q.near_side;
          far_is = q.far_side;
          text_is = ap (λ (n : ℕ). split_text s n (side_of new.near) (side_of new.far)) t.holds.price_is;
        })

  pub listed_refused : (why : Refusal) → r ≡ Err why → Ample old.near old.far (length old.flow) → Lists s (refused_text why)
  listed_refused why e a = go (split_refused s old new why (rw e at k))
    where
      go : {why : Refusal} → Refuses s old why → Lists s (refused_text why)
      go (reader e) = rw e refl
      go (short r (for_near l)) = absurd (omega (arith, l, a.near_long, (sound s r.0 r.1).few_modules))
      go (short r (for_far l)) = absurd (omega (arith, l, a.far_long, (sound s r.0 r.1).few_modules))
      go (short r (for_flow l)) = absurd (omega (arith, l, a.flow_long, (sound s r.0 r.1).few_pins))
