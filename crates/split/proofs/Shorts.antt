-- Check 8 of the split: the test passes exactly where no lent buffer is shorter than the call needs. Assumes nothing.
use Rattle.std.specs.Prelude.{◌≡◌, ℕ, ◌<◌, Bool, true, false, ◌||◌, ltb, List, length}
use mathlib.Core.Path.{refl}
use mathlib.Core.Bool.{or-true}
use borrow.Author.Tests.{ltb-true, lt-ltb, le-ltb}
use Rattle.book.specs.Format.{modules, pins}
use Rattle.side.specs.Sides.{bytes_for}
use Rattle.side.specs.Given.{is_short}
use Rattle.split.specs.Splits.{Buffers, too_short, Room}
use Rattle.split.specs.Verdicts.{Lacks, for_near, for_far, for_flow}

module _ (s : List ℕ) (b : Buffers) where
  pub short_lacks : too_short s b ≡ true → Lacks s b
  unfolding too_short is_short
  short_lacks = go _ _ _ (ltb-true (length b.near) (bytes_for (modules s))) (ltb-true (length b.far) (bytes_for (modules s))) (ltb-true (length b.flow) (pins s))
    where
      go : (x y z : Bool) → (x ≡ true → length b.near < bytes_for (modules s)) → (y ≡ true → length b.far < bytes_for (modules s)) → (z ≡ true → length b.flow < pins s) →
          (x || y || z) ≡ true → Lacks s b
      go true y z f g h e = for_near (f refl)
      go false true z f g h e = for_far (g refl)
      go false false z f g h e = for_flow (h e)

  pub lacks_short : Lacks s b → too_short s b ≡ true
  unfolding too_short is_short
  lacks_short (for_near l) = rw (lt-ltb (length b.near) (bytes_for (modules s)) l)
  lacks_short (for_far l) = rw (lt-ltb (length b.far) (bytes_for (modules s)) l, or-true (ltb (length b.near) (bytes_for (modules s))))
  lacks_short (for_flow l) = rw (lt-ltb (length b.flow) (pins s) l) (or-true (is_short s b.near || is_short s b.far))

  pub room_long : Room s b.near b.far b.flow → too_short s b ≡ false
  unfolding too_short is_short
  room_long r = rw (le-ltb (length b.near) (bytes_for (modules s)) r.for_near, le-ltb (length b.far) (bytes_for (modules s)) r.for_far, le-ltb (length b.flow) (pins s) r.for_flow)
