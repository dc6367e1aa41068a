-- `view::listing::put_split` meets its contract: the price, the near side, the far side. Assumes nothing.
use Rattle.view.specs.Text.{bytes, split_text}
use Rattle.view.proofs.Rooms.{price_room}
use Rattle.view.proofs.Puts.{put_then}
use native.Mathlib.Omega.{arith}
use Rattle.view.proofs.listing.put_split.Goals as goal

pub put_number-end-requires : goal.put_number-end-requires
unfolding bytes
put_number-end-requires c =
    omega (arith, c.requires.1, price_room c.args.price c.ranges.price.fits)

pub put_text-first-requires : goal.put_text-first-requires
unfolding bytes
put_text-first-requires c =
    let u = c.put_number-end in
    omega (arith, c.requires.1, price_room c.args.price c.ranges.price.fits, u.ensures.after, u.auto.out)

pub put_side-second-requires : goal.put_side-second-requires
unfolding bytes
put_side-second-requires c =
    let p = c.requires in
    let u = c.put_number-end in
    let v = c.put_text-first in
    let head = price_room c.args.price c.ranges.price.fits in
    (p.0.near_spare, omega arith, omega (arith, p.1, head, u.ensures.after, v.ensures.after, u.auto.out, v.auto.out))

pub put_side-requires : goal.put_side-requires
unfolding bytes
put_side-requires c =
    let p = c.requires in
    let u = c.put_number-end in
    let v = c.put_text-first in
    let w = c.put_side-second in
    let head = price_room c.args.price c.ranges.price.fits in
    (p.0.far_spare, omega arith, omega (arith, p.1, head, u.ensures.after, v.ensures.after, w.ensures.1, u.auto.out, v.auto.out, w.auto.out))

pub returns : goal.returns
unfolding bytes split_text
returns c =
    let p = c.requires.1 in
    let u = c.put_number-end.ensures in
    let v = c.put_text-first.ensures in
    let w = c.put_side-second.ensures in
    let head = price_room c.args.price c.ranges.price.fits in
    put_then (omega (arith, p, head, u.after, v.after, w.1)) (put_then (omega (arith, p, head, u.after, v.after)) (put_then (omega (arith, p, head, u.after)) u v) w.0) c.put_side.ensures.0
